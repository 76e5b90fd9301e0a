use Rattle.std.proofs.Common.{sym, ◌∙◌}
use Rattle.walkx.proofs.Workers.{told_ended}
use Rattle.walkx.proofs.worker.Worker.tell.Goals as goal

pub returns-in-Some-clause-told : goal.returns-in-Some-clause-told
returns-in-Some-clause-told c = sym (told_ended c.args.job.now c.args.layout.now _ c.args.answer _
    (sym c.ended.ensures ∙ c.in-Some.is))
