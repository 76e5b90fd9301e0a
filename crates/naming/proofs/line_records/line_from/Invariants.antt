use Rattle.std.proofs.Common.{◌≤◌, ◌-◌}
use Rattle.text_lines.specs.TextLines.{taken_of}
use Rattle.naming.specs.Inner.Finding.{HasTaken}
use Rattle.naming.proofs.line_records.line_from.Given as goal

abbrev pub invariant-loop-line : goal.invariant-loop-line
invariant-loop-line l = record {
  few : taken_of l.lines ≤ l.number;
  is : HasTaken l.text l.lines l.line;
}

abbrev pub decreases-loop-line : goal.decreases-loop-line
decreases-loop-line l = l.number - taken_of l.lines
