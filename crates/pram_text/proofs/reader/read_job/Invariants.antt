use Rattle.std.proofs.Common.{◌≡◌, ◌≤◌, length, drop}
use Rattle.text_lines.specs.Lines.{lines_of}
use Rattle.text_lines.specs.TextLines.{left_of, taken_of}
use Rattle.pram_text.proofs.Judged.{HasRead}
use Rattle.pram_text.proofs.reader.read_job.Given as goal

abbrev pub invariant-loop-line : goal.invariant-loop-line
invariant-loop-line l = record {
  within : taken_of l.lines ≤ length (lines_of l.text);
  left : drop (taken_of l.lines) (lines_of l.text) ≡ left_of l.lines;
  read : HasRead (lines_of l.text) (taken_of l.lines) l.reader;
}

abbrev pub decreases-loop-line : goal.decreases-loop-line
decreases-loop-line l = length (left_of l.lines)
