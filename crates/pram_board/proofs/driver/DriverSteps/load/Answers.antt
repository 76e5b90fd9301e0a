use Rattle.std.proofs.Common.{sym, subst, ◌∙◌}
use Rattle.walkx.specs.declared.operation.Op.TheVariants.{Load}
use Rattle.pram_board.specs.Inner.Plays.{Drives, driving, post_task}
use Rattle.pram_board.specs.Seats.{Desk}
use Rattle.pram_board.proofs.Stepping.{driver_hears, driver_makes, driver_may}
use Rattle.pram_board.proofs.driver.DriverSteps.load.Goals as goal

pub look-requires-clause-desk : goal.look-requires-clause-desk
look-requires-clause-desk g c = c.requires.1.here.1.here.desk

pub look-requires-clause-allowed : goal.look-requires-clause-allowed
look-requires-clause-allowed g c =
    let n = c.requires.1 in
    driver_may (post_task c.requires.0) _ (driving c.args.self.now) (Load c.args.word) n.next n.here.1

pub returns : goal.returns
returns g c =
    let made = c.look.ensures in
    let q = c.look.new.self.seat.now in
    let n = c.look.new.self.made in
    record {
      on = λ at from next here. (
        made.same ∙ here.0,
        subst (λ (b : Desk). Drives (post_task at) (driving from.0, from.1)
            (record { desk = b; seat = q; made = n }) (next c.look.result)) (sym made.board)
            (driver_makes (post_task at) _ (driving c.args.self.now) (Load c.args.word) next c.look.result q
            here.1 made.grows made.sound n made.count),
      );
      admitted = λ at n. driver_hears (post_task at) _ (driving c.args.self.now) (Load c.args.word) n.next
          c.look.result q n.here.1 made.grows made.sound;
    }
