-- Drafts of the code as the definitions see them.
use Rattle.std.specs.Prelude.{List, reverse, map}
use Rattle.std.specs.Borrow.{Bor}
use Rattle.pardo_text.specs.declared.draft.Draft.{Draft as Held}
use Rattle.pardo_text.specs.Drafts.{Draft}
use Rattle.pardo_text.specs.Inner.Names.{names_in}
use Rattle.text_lines.specs.Lines.{Word}

-- names that are kept the innermost last
abbrev pub loops_in : List (Bor Word) → List Word
loops_in loops = reverse (map (λ name. name.now) loops)

abbrev pub draft_of : Held → Draft
draft_of draft = record {
  stage = draft.stage;
  rule = draft.rule;
  procs = draft.procs;
  names = names_in draft.names;
  arrays = draft.arrays;
  privates = draft.privates.items;
  blocks = draft.blocks;
  loops = loops_in draft.loops.items;
  most_loops = draft.most_loops;
  most_choices = draft.most_choices;
  lines = draft.lines.items;
}
