use Rattle.std.proofs.Common.{◌≡◌, ◌+◌, length}
use Rattle.pram_text.specs.Inner.Ahead.{line_ahead, numbered_from}
use Rattle.pram_text.specs.InstructionLines.{line_of}
use Rattle.text_lines.specs.TextLines.{left_of, taken_of}
use Rattle.pram_text.proofs.lines.instruction_line.Given as goal

abbrev pub invariant-loop-line : goal.invariant-loop-line
invariant-loop-line l =
    line_ahead l.index l.ahead (numbered_from (taken_of l.lines + 1) (left_of l.lines))
    ≡ line_of l.text l.index

abbrev pub decreases-loop-line : goal.decreases-loop-line
decreases-loop-line l = length (left_of l.lines)
