use Rattle.std.proofs.Common.{refl}
use Rattle.walkx.proofs.Comes.{came_back, starts_back}
use Rattle.walkx.specs.Rests.{script_in, then_of}
use Rattle.walkx.proofs.playback.play_back.Goals as goal

pub play-requires-clause-here : goal.play-requires-clause-here
play-requires-clause-here c =
    record {
      from = (_, _);
      here = starts_back c.args.post.now
          (script_in c.args.post.now c.args.activity c.args.memory.now) _ then_of refl
          c.requires.admitted;
    }

pub returns-in-Ok : goal.returns-in-Ok
returns-in-Ok c =
    rw c.in-Ok.is at (came_back c.args.post.now
    (script_in c.args.post.now c.args.activity c.args.memory.now) _ then_of refl
    c.requires.admitted _ c.play.result c.play.ensures.reaches)

pub returns-in-Err : goal.returns-in-Err
returns-in-Err c =
    rw c.in-Err.is at (came_back c.args.post.now
    (script_in c.args.post.now c.args.activity c.args.memory.now) _ then_of refl
    c.requires.admitted _ c.play.result c.play.ensures.reaches)
