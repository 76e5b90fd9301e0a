use Rattle.std.proofs.Common.{◌≡◌, ◌++◌, [], length, map}
use Rattle.text_lines.specs.Lines.{lines_of}
use Rattle.text_lines.specs.TextLines.{left_of}
use Rattle.pardo_text.specs.Inner.Settings.{parted_lines}
use Rattle.pardo_text.specs.Settings.{line_as_set}
use Rattle.pardo_text.proofs.settings.Settings.exchanged.Given as goal

-- the lines so far and those to come are all lines
abbrev pub invariant-loop-line : goal.invariant-loop-line
invariant-loop-line l =
    l.set.items ++ parted_lines l.parting (map (line_as_set l.self) (left_of l.lines))
    ≡ parted_lines [] (map (line_as_set l.self) (lines_of l.text))

abbrev pub decreases-loop-line : goal.decreases-loop-line
decreases-loop-line l = length (left_of l.lines)
