use Rattle.std.proofs.Common.{ℕ, List, refl, subst}
use Rattle.std.specs.Prelude.{slice_index}
use Rattle.pardo_job.specs.Ends.{IsDisputedIn}
use Rattle.pardo_job.proofs.Ends.{finished_disputed}
use Rattle.pardo_job.proofs.compiler.disputed.Goals as goal

pub returns-clause-given : goal.returns-clause-given
returns-clause-given c =
    let number = c.disputed_line-disputed.result in
    finished_disputed c.args.job c.args.numbers.items c.args.fault
    (record { gone = c.new-gone.result; disputed = number }) _ c.requires.conflict
    c.with_steps-job.ensures refl refl
    (subst (λ (xs : List ℕ). IsDisputedIn c.args.job (slice_index xs) c.args.fault number)
    c.as_slice.ensures.value c.disputed_line-disputed.ensures)
