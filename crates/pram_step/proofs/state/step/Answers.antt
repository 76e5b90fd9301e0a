use Rattle.std.proofs.Common.{◌∙◌, subst}
use Rattle.pram_machine.specs.Instructions.{requests_in}
use Rattle.pram_step.specs.Steps.{Agrees}
use Rattle.pram_step.proofs.state.step.Goals as goal

pub returns-clause-agrees : goal.returns-clause-agrees
returns-clause-agrees c =
    subst (λ s. Agrees c.args.job.now (requests_in c.args.job.now s))
    (c.deref_mut.ensures.value ∙ c.state.view_is) c.in_ok-attempt.ensures.made.agrees
