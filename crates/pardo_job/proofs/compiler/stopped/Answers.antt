use Rattle.std.proofs.Common.{ℕ, List, refl, subst}
use Rattle.std.specs.Prelude.{slice_index}
use Rattle.pardo_job.specs.Ends.{AreGone, gone_in}
use Rattle.pardo_job.proofs.Ends.{finished_rest}
use Rattle.pardo_job.proofs.compiler.stopped.Goals as goal

pub returns-clause-given : goal.returns-clause-given
returns-clause-given c =
    let gone = c.in_ok-gone.gone in
    finished_rest c.args.job c.args.numbers.items c.args.rest c.into_cells.result
    (record { gone = gone; disputed = 0 }) _ c.requires c.with_steps-job.ensures refl refl
    c.into_cells.ensures
    (subst (λ (xs : List ℕ). AreGone c.args.job (slice_index xs) c.args.rest.steps
    (gone_in gone.items)) c.as_slice.ensures.value c.in_ok-gone.ensures)
