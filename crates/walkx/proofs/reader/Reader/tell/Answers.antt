use Rattle.std.proofs.Common.{arith, ◌<◌, length}
use Rattle.walkx.proofs.Looks.{few, heard_by}
use Rattle.walkx.proofs.Heard.{newest-push}
use Rattle.walkx.proofs.reader.Reader.tell.Goals as goal

pub returns : goal.returns
returns c =
    let job = c.args.job.now in
    let y = c.args.layout.now in
    let h =
    heard_by job y _ _ c.args.answer c.after-self-inside.result c.self.view_is c.requires.follows
    c.requires.fits c.requires.admitted c.in_default.not-Over c.after-self-inside.ensures.rest
    c.after-self-inside.ensures.stage c.after-self-inside.ensures.later in
    let room : c.self.inside.count < length c.self.inside.heard =
    omega (arith, few c.self.inside.stage c.in_default.not-Over) in
    rw (newest-push c.self.inside.count c.args.answer c.self.inside.heard room)
    (record { told = h.told; follows = h.follows; fits = h.fits })
