use Rattle.std.proofs.Common.{sym, subst, ◌∙◌}
use Rattle.walkx.specs.declared.operation.Op.TheVariants.{Swap}
use Rattle.pram_board.specs.Inner.Plays.{Drives, driving, post_task}
use Rattle.pram_board.specs.Seats.{Desk}
use Rattle.pram_board.proofs.Stepping.{driver_hears, driver_makes, driver_may}
use Rattle.pram_board.proofs.driver.DriverSteps.swap.Goals as goal

pub exchange-requires-clause-desk : goal.exchange-requires-clause-desk
exchange-requires-clause-desk g c = c.requires.1.here.1.here.desk

pub exchange-requires-clause-allowed : goal.exchange-requires-clause-allowed
exchange-requires-clause-allowed g c =
    let n = c.requires.1 in
    driver_may (post_task c.requires.0) _ (driving c.args.self.now) (Swap c.args.word c.args.old c.args.new) n.next n.here.1

pub returns : goal.returns
returns g c =
    let made = c.exchange.ensures in
    let q = c.exchange.new.self.seat.now in
    let n = c.exchange.new.self.made in
    record {
      on = λ at from next here. (
        made.same ∙ here.0,
        subst (λ (b : Desk). Drives (post_task at) (driving from.0, from.1)
            (record { desk = b; seat = q; made = n }) (next c.exchange.result)) (sym made.board)
            (driver_makes (post_task at) _ (driving c.args.self.now) (Swap c.args.word c.args.old c.args.new) next c.exchange.result q
            here.1 made.grows made.sound n made.count),
      );
      admitted = λ at n. driver_hears (post_task at) _ (driving c.args.self.now) (Swap c.args.word c.args.old c.args.new) n.next
          c.exchange.result q n.here.1 made.grows made.sound;
    }
