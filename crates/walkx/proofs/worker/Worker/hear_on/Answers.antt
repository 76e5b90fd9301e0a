use Rattle.std.proofs.Common.{subst}
use Rattle.walkx.specs.Playing.{ScriptComesTo}
use Rattle.walkx.specs.Walk.{Walking, rest_of}
use Rattle.walkx.proofs.Workers.{comes_ok, goes_there, heard_asks, heard_ends, is_going}
use Rattle.walkx.proofs.Workers.{playable_more, room}
use Rattle.walkx.proofs.worker.Worker.hear_on.Goals as goal

pub hear-requires : goal.hear-requires
hear-requires c =
    room c.args.job.now c.args.layout.now _ c.requires.serves.fits (is_going _ c.requires.going)

pub left-requires-clause-playable : goal.left-requires-clause-playable
left-requires-clause-playable c = rw c.hear.ensures
    (playable_more c.args.job.now c.args.layout.now _ c.args.answer c.within_limits.ensures
    c.requires.serves.fits (is_going _ c.requires.going) c.requires.admitted)

pub go_on-requires-clause-goes : goal.go_on-requires-clause-goes
go_on-requires-clause-goes c =
    let job = c.args.job.now in
    let y = c.args.layout.now in
    rw c.hear.ensures (goes_there job y _ c.args.answer _ c.within_limits.ensures
    c.requires.serves.fits (is_going _ c.requires.going) c.requires.admitted
    (comes_ok _ _ _ c.in-Ok.is (subst (λ (w : Walking). ScriptComesTo (rest_of job y w)
    c.left.result)
    c.hear.ensures c.left.ensures)))

pub returns-in-Ok-clause-told : goal.returns-in-Ok-clause-told
returns-in-Ok-clause-told c =
    (heard_ends c.args.job.now c.args.layout.now _ c.args.answer _ _ _ c.within_limits.ensures
    c.requires.serves.fits c.requires.going c.requires.admitted c.hear.ensures c.left.ensures _
    c.in-Ok.is c.go_on.ensures.walking c.go_on.ensures.op).told

pub returns-in-Ok-clause-serves : goal.returns-in-Ok-clause-serves
returns-in-Ok-clause-serves c =
    (heard_ends c.args.job.now c.args.layout.now _ c.args.answer _ _ _ c.within_limits.ensures
    c.requires.serves.fits c.requires.going c.requires.admitted c.hear.ensures c.left.ensures _
    c.in-Ok.is c.go_on.ensures.walking c.go_on.ensures.op).serves

pub returns-in-Err-clause-told : goal.returns-in-Err-clause-told
returns-in-Err-clause-told c =
    (heard_asks c.args.job.now c.args.layout.now _ c.args.answer _ _ _ c.within_limits.ensures
    c.requires.serves.fits c.requires.going c.requires.admitted c.hear.ensures c.left.ensures _
    c.in-Err.is c.hold.ensures.walking c.hold.ensures.op).told

pub returns-in-Err-clause-serves : goal.returns-in-Err-clause-serves
returns-in-Err-clause-serves c =
    (heard_asks c.args.job.now c.args.layout.now _ c.args.answer _ _ _ c.within_limits.ensures
    c.requires.serves.fits c.requires.going c.requires.admitted c.hear.ensures c.left.ensures _
    c.in-Err.is c.hold.ensures.walking c.hold.ensures.op).serves
