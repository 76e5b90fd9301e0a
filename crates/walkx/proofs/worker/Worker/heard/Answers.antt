use Rattle.std.proofs.Common.{length, sym, ap, ◌∙◌}
use Rattle.walkx.specs.Inner.Workers.{WorkerData}
use Rattle.walkx.proofs.Heard.{length_newest}
use Rattle.walkx.proofs.worker.Worker.heard.Goals as goal

pub returns : goal.returns
returns c = sym (length_newest c.self.inside.count c.self.inside.heard)
    ∙ ap (λ (k : WorkerData). length k.walking.heard) c.self.view_is
