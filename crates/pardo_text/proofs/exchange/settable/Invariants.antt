use Rattle.std.proofs.Common.{◌≡◌, length}
use Rattle.text_lines.specs.Lines.{lines_of}
use Rattle.text_lines.specs.TextLines.{left_of}
use Rattle.pardo_text.specs.Settings.{settable_in}
use Rattle.pardo_text.proofs.exchange.settable.Given as goal

-- the lines so far do not declare the name
abbrev pub invariant-loop-line : goal.invariant-loop-line
invariant-loop-line l =
    settable_in (lines_of l.text) l.name ≡ settable_in (left_of l.lines) l.name

abbrev pub decreases-loop-line : goal.decreases-loop-line
decreases-loop-line l = length (left_of l.lines)
