-- What the lines of a text so far say.
use Rattle.std.specs.Prelude.{ℕ, ◌+◌, ◌*◌, nat_le, max, if◌then◌else◌}
use Rattle.std.specs.Prelude.{List, [], ◌∷◌, ◌++◌, length}
use Rattle.std.specs.Prelude.{slice_set, slice_get, Some, None, Result, Ok, Err}
use Rattle.pardo_text.specs.declared.fault.PardoKind.{PardoKind}
use Rattle.pardo_text.specs.declared.fault.PardoKind.TheVariants.{TooManyCells}
use Rattle.pardo_program.specs.declared.limits.TheConstants.{MAX_CELLS}
use Rattle.pardo_text.specs.declared.names.Named.{Named}
use Rattle.pardo_text.specs.declared.names.Named.TheVariants as thing
use Rattle.pardo_program.specs.declared.arrays.Shape.{Shape}
use Rattle.pardo_program.specs.declared.arrays.Shape.TheVariants as shape
use Rattle.pram_job.specs.declared.instr.Rule.{Rule}
use Rattle.pram_job.specs.declared.instr.Rule.TheVariants.{Common}
use Rattle.pardo_program.specs.declared.block.Block.{Block}
use Rattle.pardo_text.specs.declared.draft.Stage.{Stage}
use Rattle.pardo_text.specs.declared.draft.Stage.TheVariants as stage
use Rattle.pardo_program.specs.declared.statement.Line.{Line}
use Rattle.pardo_program.specs.declared.statement.Statement.{Statement}
use Rattle.text_lines.specs.Lines.{Word}
use Rattle.pardo_program.specs.Blocks.{choice_depth, loop_ending_at}
use Rattle.pardo_text.specs.Names.{Names, no_names, named, unnamed}
use Rattle.pardo_program.specs.Program.{ArrayData, PrivateData, shared_cells, array_after}

-- The program so far. There is no processor before the line `procs`. Blocks and loops are those
-- that are open, the innermost first.
pub record Draft : Type 0 where
  pub stage : Stage
  pub rule : Rule
  pub procs : ℕ
  pub names : Names
  pub arrays : List ArrayData
  pub privates : List PrivateData
  pub blocks : List Block
  pub loops : List Word
  -- how many loops, and how many `if`s, were open at once
  pub most_loops : ℕ
  pub most_choices : ℕ
  pub lines : List Line

abbrev pub empty : Draft
empty = record {
  stage = stage.Version;
  rule = Common;
  procs = 0;
  names = no_names;
  arrays = [];
  privates = [];
  blocks = [];
  loops = [];
  most_loops = 0;
  most_choices = 0;
  lines = [];
}

-- one name more
abbrev pub with_name : Word → Named → Draft → Draft
with_name word thing draft = record draft { names = named word thing draft.names }

-- ---- cells

-- Each processor has a cell for each private variable, and for each depth of loops and of `if`s.
abbrev pub cells_needed : Draft → ℕ
cells_needed draft = shared_cells draft.arrays
    + draft.procs * (length draft.privates + draft.most_loops + draft.most_choices)

abbrev pub fitting : Draft → Result Draft PardoKind
fitting draft = if nat_le (cells_needed draft) MAX_CELLS then Ok draft else Err TooManyCells

abbrev pub thing_of : Shape → ℕ → Named
thing_of shape.Scalar array = thing.Scalar array
thing_of (shape.Line places) array = thing.Array array
thing_of (shape.Table rows columns) array = thing.Table array rows columns

-- one array more
abbrev pub with_array : Word → Shape → List ℕ → Draft → Draft
with_array word form start draft = record draft {
  names = named word (thing_of form (length draft.arrays)) draft.names;
  arrays = draft.arrays ++ array_after draft.arrays word form start ∷ [];
}

-- one private variable more
abbrev pub with_private : Word → List ℕ → Draft → Draft
with_private word start draft = record draft {
  names = named word (thing.Private (length draft.privates)) draft.names;
  privates = draft.privates ++ record { name = word; start = start } ∷ [];
}

-- ---- lines of code

-- one line of code more
abbrev pub with_line : ℕ → Statement → Draft → Draft
with_line number said draft = record draft {
  lines = draft.lines
      ++ record { statement = said; depth = choice_depth draft.blocks; number = number } ∷ [];
}

-- one open block more
abbrev pub with_block : Block → Draft → Draft
with_block opened draft = record draft {
  blocks = opened ∷ draft.blocks;
  most_choices = max draft.most_choices (choice_depth (opened ∷ draft.blocks));
}

-- one open loop more
abbrev pub with_loop : Word → Draft → Draft
with_loop name draft = record draft {
  names = named name (thing.Loop (length draft.loops)) draft.names;
  loops = name ∷ draft.loops;
  most_loops = max draft.most_loops (length draft.loops + 1);
}

-- one open loop less, if one is open
abbrev pub without : List Word → Draft → Draft
without [] draft = draft
without (name ∷ loops) draft =
    record draft { names = unnamed name draft.names; loops = loops }

abbrev pub ended_at : ℕ → List Line → List Line
ended_at begin lines = elim (slice_get lines begin) [
  | None ↦ lines
  | Some line ↦
      slice_set lines begin
      (record line { statement = loop_ending_at (length lines) line.statement })
]

-- the loop whose first line stands here ends at the next line
abbrev pub with_end : ℕ → Draft → Draft
with_end begin draft = record draft { lines = ended_at begin draft.lines }
