use Rattle.std.proofs.Common.{◌≡◌, map, take}
use Rattle.page_core.specs.Programs.{line_row}
use Rattle.page_core.proofs.program.line_rows.Given as goal

abbrev pub invariant-loop-line : goal.invariant-loop-line
invariant-loop-line l = l.rows.items ≡ map line_row (take l.line-index l.lines)
