use Rattle.std.proofs.Common.{refl, sym, ◌∙◌, arith}
use Rattle.pram_run.proofs.After.{after_all}
use Rattle.pram_run.proofs.Advancing.{part_made, row_over}
use Rattle.pram_run.proofs.schedule.Replaying.obey_part.Goals as goal

pub returns-then-is_going : goal.returns-then-is_going
returns-then-is_going c = λ front job plan come.
    part_made job plan _ _ _ _ come c.requires refl refl refl refl c.min-part.result
    (omega (arith, c.requires, c.min-part.ensures)) (omega (arith, c.min-part.ensures)) refl
    (c.in_ok-go.ensures front job plan.workers come.made come.after)

pub returns-else-is_going : goal.returns-else-is_going
returns-else-is_going c = λ front job plan come.
    row_over job plan _ _ _ _ come c.requires refl refl refl refl refl
    (after_all job plan.workers come.made _ _ c.args.self.now.worker c.min-part.result
    c.args.self.now.ticks (omega (arith, c.min-part.ensures))
    (c.in_ok-go.ensures front job plan.workers come.made come.after)
    (sym c.is_going.ensures ∙ c.if-is_going.false))
