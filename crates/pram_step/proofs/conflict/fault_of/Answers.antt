use Rattle.std.proofs.Common.{length, Option, ap, subst, ◌∙◌}
use Rattle.pram_step.specs.declared.answer.Dispute.{Dispute}
use Rattle.pram_step.specs.Runs.{state_after}
use Rattle.pram_step.specs.Steps.{Agrees, IsVerdict}
use Rattle.pram_machine.proofs.Shapes.{length-requests_in}
use Rattle.pram_step.proofs.conflict.fault_of.Goals as goal

pub dispute-requires : goal.dispute-requires
dispute-requires c = ap length c.requires.are
    ∙ length-requests_in c.args.job.now (state_after c.args.job.now c.requires.before)

pub unreachable-requires : goal.unreachable-requires
unreachable-requires c =
    let agrees : Agrees c.args.job.now c.args.requests.now =
    subst (λ (o : Option Dispute). IsVerdict c.args.job.now c.args.requests.now o)
    c.in_default.is c.in_ok-found.ensures in
    c.requires.against (subst (Agrees c.args.job.now) c.requires.are agrees)
