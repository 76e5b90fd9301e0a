use Rattle.std.proofs.Common.{ℕ, List, subst, sym}
use Rattle.library_core.specs.Judging.{IsExerciseFault, TellsVerdict}
use Rattle.library_core.proofs.Calls.{shown_as}
use Rattle.library_core.proofs.judging.tell_verdict.Goals as goal

pub returns-in-Ok : goal.returns-in-Ok
returns-in-Ok c =
    let exercise = c.args.exercise.now in
    let submission = c.args.submission.now in
    let tells = subst (λ (bytes : List ℕ). TellsVerdict exercise submission bytes
    c.in-Ok.served.status) (sym c.as_slice.ensures.value) c.in-Ok.ensures.told in
    shown_as (TellsVerdict exercise submission) (IsExerciseFault exercise) c.as_slice.result.now _ _
    c.in-Ok.served.status _ _ _ tells c.show.ensures
