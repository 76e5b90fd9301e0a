use Rattle.std.proofs.Common.{◌∙◌, ◌++◌, ℕ, List, sym, ap, append-nil, map}
use Rattle.text_lines.specs.Lines.{lines_of}
use Rattle.pardo_text.specs.Inner.Settings.{parted_lines}
use Rattle.pardo_text.specs.Settings.{line_as_set}
use Rattle.pardo_text.proofs.Joined.{parted_lines-joined}
use Rattle.pardo_text.proofs.settings.Settings.exchanged.Goals as goal

pub returns : goal.returns
returns c =
    let set = c.loop-line.set.items in
    sym (append-nil set)
    ∙ ap (λ (lines : List (List ℕ)). set
    ++ parted_lines c.loop-line.parting.now (map (line_as_set c.args.self.now) lines))
    (sym c.in_default.ensures.0)
    ∙ c.loop-line.invariant
    ∙ parted_lines-joined (map (line_as_set c.args.self.now) (lines_of c.args.text.now))
