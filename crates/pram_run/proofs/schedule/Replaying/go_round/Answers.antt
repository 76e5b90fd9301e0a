use Rattle.std.proofs.Common.{refl, arith}
use Rattle.pram_run.proofs.Advancing.{round_left, round_made, rounds_over}
use Rattle.pram_run.proofs.Rounds.{rounds_small}
use Rattle.pram_run.proofs.schedule.Replaying.go_round.Goals as goal

pub returns-then-not-some_goes : goal.returns-then-not-some_goes
returns-then-not-some_goes c = λ front job plan come.
    rounds_over job plan _ _ come c.requires.row c.requires.rows
    (c.some_goes.ensures.none c.if-not-some_goes.true)

pub overflow_add-self : goal.overflow_add-self
overflow_add-self c =
    let (job, plan, rows, come) = c.requires.come in
    let some = c.some_goes.ensures.some c.if-not-some_goes.false in
    omega (
      arith,
      rounds_small job plan.workers come.limits come.some come.most,
      round_left job plan _ rows come c.requires.row c.requires.rows some.0 some.1 some.2,
    )

pub returns : goal.returns
returns c = λ front job plan come.
    let some = c.some_goes.ensures.some c.if-not-some_goes.false in
    round_made job plan _ _ come c.requires.row c.requires.rows _ _
    (round_left job plan _ _ come c.requires.row c.requires.rows some.0 some.1 some.2)
    refl refl refl refl
    (c.in_ok-make_round.ensures front job plan.workers come.made come.after)
