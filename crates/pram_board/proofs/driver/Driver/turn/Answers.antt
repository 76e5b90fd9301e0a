use Rattle.std.proofs.Common.{refl}
use Rattle.walkx.specs.Rests.{turn_of}
use Rattle.pram_board.specs.Inner.Plays.{driving, post_task, turning_at}
use Rattle.pram_board.proofs.Stepping.{driver_starts}
use Rattle.pram_board.proofs.Telling.{led_turn}
use Rattle.pram_board.proofs.Working.{sound_at}
use Rattle.pram_board.proofs.driver.Driver.turn.Goals as goal

pub turn-requires-clause-here : goal.turn-requires-clause-here
turn-requires-clause-here g c =
    let at = c.args.post.now in
    record {
      from = (c.args.self.now, turn_of at);
      here = (
        refl,
        driver_starts (post_task at) (driving c.args.self.now)
            (turning_at at c.args.memory.now) c.requires.walks refl tt,
      );
    }

pub unreachable-requires : goal.unreachable-requires
unreachable-requires g c =
    let at = c.args.post.now in
    (c.in-Err.ensures.reaches.on (c.args.self.now, turn_of at) (
      refl,
      driver_starts (post_task at)
          (driving c.args.self.now) (turning_at at c.args.memory.now) c.requires.walks refl tt,
    )).1

pub returns-clause-same : goal.returns-clause-same
returns-clause-same g c =
    let at = c.args.post.now in
    (c.in-Ok.ensures.reaches.on (c.args.self.now, turn_of at) (
      refl,
      driver_starts (post_task at)
          (driving c.args.self.now) (turning_at at c.args.memory.now) c.requires.walks refl tt,
    )).0

pub returns-clause-led : goal.returns-clause-led
returns-clause-led g c =
    let at = c.args.post.now in
    let done = (c.in-Ok.ensures.reaches.on (c.args.self.now, turn_of at) (
      refl,
      driver_starts (post_task at) (driving c.args.self.now) (turning_at at c.args.memory.now)
          c.requires.walks refl tt,
    )).1 in
    led_turn at c.args.memory.now (driving c.args.self.now) (driving c.turn.new.steps)
    c.in-Ok.turned c.requires.walks (sound_at (post_task at) (driving c.turn.new.steps) done.here
    c.facts.ensures) done
