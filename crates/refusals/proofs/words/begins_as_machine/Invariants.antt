use Rattle.std.proofs.Common.{length}
use Rattle.text_lines.specs.TextLines.{left_of}
use Rattle.refusals.proofs.words.begins_as_machine.Given as goal

abbrev pub decreases-loop-line : goal.decreases-loop-line
decreases-loop-line l = length (left_of l.lines)
