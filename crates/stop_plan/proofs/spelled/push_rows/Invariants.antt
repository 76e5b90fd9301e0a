use Rattle.std.proofs.Common.{◌≡◌, ◌++◌, drop, string_bytes}
use Rattle.stop_plan.specs.Texts.{plan_lines}
use Rattle.stop_plan.proofs.spelled.push_rows.Given as goal

-- the lines so far and those to come are all lines
abbrev pub invariant-loop-row : goal.invariant-loop-row
invariant-loop-row l = string_bytes l.text ++ plan_lines (drop l.row-index l.rows)
    ≡ string_bytes l.fn.text ++ plan_lines l.rows
