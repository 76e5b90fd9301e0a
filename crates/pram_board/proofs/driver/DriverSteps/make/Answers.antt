use Rattle.std.proofs.Common.{sym, subst, ◌∙◌}
use Rattle.pram_board.specs.Inner.Plays.{Drives, driving, post_task}
use Rattle.pram_board.specs.Seats.{Desk}
use Rattle.pram_board.proofs.Stepping.{driver_hears, driver_makes, driver_may}
use Rattle.pram_board.proofs.driver.DriverSteps.make.Goals as goal

pub step-requires-clause-desk : goal.step-requires-clause-desk
step-requires-clause-desk g c = c.requires.1.here.1.here.desk

pub step-requires-clause-allowed : goal.step-requires-clause-allowed
step-requires-clause-allowed g c =
    let n = c.requires.1 in
    driver_may (post_task c.requires.0) _ (driving c.args.self.now) c.args.op n.next n.here.1

pub returns : goal.returns
returns g c =
    let made = c.step.ensures in
    let q = c.step.new.self.seat.now in
    let n = c.step.new.self.made in
    record {
      on = λ at from next here. (
        made.same ∙ here.0,
        subst (λ (b : Desk). Drives (post_task at) (driving from.0, from.1)
            (record { desk = b; seat = q; made = n }) (next c.step.result)) (sym made.board)
            (driver_makes (post_task at) _ (driving c.args.self.now) c.args.op next c.step.result q
            here.1 made.grows made.sound n made.count),
      );
      admitted = λ at n. driver_hears (post_task at) _ (driving c.args.self.now) c.args.op n.next
          c.step.result q n.here.1 made.grows made.sound;
    }
