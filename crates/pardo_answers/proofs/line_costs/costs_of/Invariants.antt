use Rattle.std.specs.Prelude.{◌≡◌, map, take}
use Rattle.pardo_answers.specs.Inner.Lines.{line_by}
use Rattle.pardo_answers.proofs.line_costs.costs_of.Given as goal

abbrev pub invariant-loop-line : goal.invariant-loop-line
invariant-loop-line l =
    l.lines.items ≡ map (line_by l.profile.rows.items) (take l.line-index l.counted)
