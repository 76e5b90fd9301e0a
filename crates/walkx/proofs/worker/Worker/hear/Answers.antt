use Rattle.std.proofs.Common.{◌≡◌, arith, ap, length}
use Rattle.walkx.specs.Inner.Heard.{newest}
use Rattle.walkx.specs.Inner.Workers.{WorkerData}
use Rattle.walkx.specs.Playing.{hearing}
use Rattle.walkx.proofs.Heard.{length_newest, newest-push}
use Rattle.walkx.proofs.worker.Worker.hear.Goals as goal

pub returns : goal.returns
returns c =
    let few : length (newest c.self.inside.count c.self.inside.heard) ≡ c.self.inside.count =
    length_newest c.self.inside.count c.self.inside.heard in
    let same : length (newest c.self.inside.count c.self.inside.heard)
    ≡ length c.args.self.now.walking.heard =
    ap (λ (p : WorkerData). length p.walking.heard) c.self.view_is in
    rw (newest-push c.self.inside.count c.args.answer c.self.inside.heard
    (omega (arith, few, same, c.requires, c.self.told)))
    (ap (λ (p : WorkerData). hearing p.walking c.args.answer) c.self.view_is)
