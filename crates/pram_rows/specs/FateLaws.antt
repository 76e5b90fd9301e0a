-- The laws of what becomes of processors.
use Rattle.std.specs.Prelude.{◌≡◌, ℕ, ◌+◌, ◌≤◌, Some, ⊤}
use Rattle.pram_job.specs.Job.{JobData, IsJob}
use Rattle.pram_machine.specs.Machine.{counter, out_of_range}
use Rattle.pram_machine.specs.Instructions.{request_in}
use Rattle.pram_step.specs.declared.answer.Fault.{Fault}
use Rattle.pram_step.specs.Runs.{IsFault, state_after}
use Rattle.pram_rows.specs.declared.causes.Cause.{Cause}
use Rattle.pram_rows.specs.declared.causes.Cause.TheVariants.{Outside, AboveBound, Divided}
use Rattle.pram_rows.specs.declared.fates.Fates.{Fates}
use Rattle.pram_rows.specs.declared.fates.Lost.{Lost}
use Rattle.pram_rows.specs.Causes.{cause_of, clash_values, state_before}
use Rattle.pram_rows.specs.Fates.{AreFates, IsLostIn, NamesNone}

-- what becomes of the processors in a number of steps is one thing
abbrev pub OneFates : Type 0
OneFates =
    (job : JobData) (n : ℕ) (fates other : Fates) → AreFates job n fates → AreFates job n other →
    fates ≡ other

-- one that named no cell has stopped for good, and its counter says why
abbrev pub LostStaysLost : Type 0
LostStaysLost =
    (job : JobData) (t more i : ℕ) → IsJob job → NamesNone job (state_after job t) i →
    counter job (state_after job (t + 1 + more)) i ≡ out_of_range job

-- what a cause says: an index is not below the array's length, nor a number below its bound
abbrev pub IsSo : Cause → Type 0
IsSo (Outside array index) = array.len ≤ index
IsSo (AboveBound value bound) = bound ≤ value
IsSo (Divided value) = ⊤

-- one who is lost is so by a cause, and what that says is so
abbrev pub LostHaveCauses : Type 0
LostHaveCauses = (job : JobData) (n : ℕ) (lost : Lost) → IsJob job → IsLostIn job n lost →
    (cause : Cause) × (cause_of job (Some lost) ≡ Some cause) × IsSo cause

-- what two are told to write against the rule they ask for in that step
abbrev pub ClashValuesAreWritten : Type 0
ClashValuesAreWritten = (job : JobData) (fault : Fault) → IsFault job fault →
    ((request_in job (state_before job fault.step) fault.first).put
    ≡ Some (fault.cell, (clash_values job fault).first))
    × ((request_in job (state_before job fault.step) fault.second).put
    ≡ Some (fault.cell, (clash_values job fault).second))
