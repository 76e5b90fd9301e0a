use Rattle.std.proofs.Common.{ℕ, subst}
use Rattle.std.specs.Prelude.{Option}
use Rattle.pardo_job.specs.Inner.Endings.{IsThrough}
use Rattle.pardo_job.proofs.Ends.{stopped_rest}
use Rattle.pardo_job.proofs.run.run_through.Goals as goal

pub returns-in-Some-clause-run : goal.returns-in-Some-clause-run
returns-in-Some-clause-run c = stopped_rest c.args.job.now c.args.stopped _ c.in-Some.is c.requires

pub run_to_the_most-requires : goal.run_to_the_most-requires
run_to_the_most-requires c = subst (λ (o : Option ℕ).
    IsThrough c.args.job.now o c.args.state c.args.last.items) c.in-None.is c.requires
