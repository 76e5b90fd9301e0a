use Rattle.std.specs.Prelude.{◌≡◌, sum_by, take}
use Rattle.pardo_answers.specs.Inner.Lines.{steps_by}
use Rattle.pardo_answers.proofs.line_costs.rounds_of.Given as goal

abbrev pub invariant-loop-first : goal.invariant-loop-first
invariant-loop-first l =
    l.rounds ≡ sum_by (steps_by l.profile.rows.items) (take l.first-index l.ends)
