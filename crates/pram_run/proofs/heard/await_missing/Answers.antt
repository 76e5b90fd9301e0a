use Rattle.std.proofs.Common.{refl, inl, inr}
use Rattle.pram_run.proofs.Endings.{looked_same}
use Rattle.pram_run.proofs.Hearing.{told_end}
use Rattle.pram_run.proofs.heard.await_missing.Goals as goal

pub returns-then-is_whole-clause-looked : goal.returns-then-is_whole-clause-looked
returns-then-is_whole-clause-looked g c = looked_same c.args.seat c.args.seat refl

pub returns-then-is_whole-clause-answers : goal.returns-then-is_whole-clause-answers
returns-then-is_whole-clause-answers g c = λ answers. inl (c.is_whole.ensures.0 c.if-is_whole.true)

pub returns-clause-answers : goal.returns-clause-answers
returns-clause-answers g c = λ answers. inr (told_end _ _ _ (c.tells_end-ends.ensures.0 answers)
    c.await_end-seat.ensures.told)
