use Rattle.std.proofs.Common.{ap}
use Rattle.walkx.specs.Inner.Workers.{WorkerData}
use Rattle.walkx.proofs.Workers.{begins_anew, known_anew}
use Rattle.walkx.proofs.worker.Worker.begin_at.Goals as goal

pub returns-clause-serves : goal.returns-clause-serves
returns-clause-serves c = λ job y below low high fits.
    let number = ap (λ (w : WorkerData). w.walking.number) c.self.view_is in
    begins_anew job y c.self.inside.number c.args.start c.args.memory (rw number below) low high
    fits

pub returns-clause-known : goal.returns-clause-known
returns-clause-known c = λ job y past is_true.
    known_anew job y past c.self.inside.number c.args.start c.args.memory is_true
