use Rattle.std.proofs.Common.{◌≡◌, length}
use Rattle.pardo_text.specs.Inner.Drafts.{draft_of}
use Rattle.pardo_text.specs.Reading.{program_after, program_of}
use Rattle.text_lines.specs.TextLines.{left_of, taken_of}
use Rattle.pardo_text.proofs.reader.read_or_stop.Given as goal

abbrev pub invariant-loop-line : goal.invariant-loop-line
invariant-loop-line l =
    program_of l.text ≡ program_after (draft_of l.draft) (taken_of l.lines) (left_of l.lines)

abbrev pub decreases-loop-line : goal.decreases-loop-line
decreases-loop-line l = length (left_of l.lines)
