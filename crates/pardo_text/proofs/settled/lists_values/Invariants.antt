use Rattle.std.proofs.Common.{◌≡◌, length}
use Rattle.std.specs.List.{list_any}
use Rattle.text_lines.specs.Lines.{lines_of}
use Rattle.text_lines.specs.TextLines.{left_of}
use Rattle.pardo_text.specs.Settings.{lists_values}
use Rattle.pardo_text.proofs.settled.lists_values.Given as goal

-- the lines so far do not
abbrev pub invariant-loop-line : goal.invariant-loop-line
invariant-loop-line l = list_any (lists_values l.name) (lines_of l.text)
    ≡ list_any (lists_values l.name) (left_of l.lines)

abbrev pub decreases-loop-line : goal.decreases-loop-line
decreases-loop-line l = length (left_of l.lines)
