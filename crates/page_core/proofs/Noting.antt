-- Rows of steps that are noted one after another.
use Rattle.std.proofs.Common.{arith, ◌≡◌, ℕ, ◌+◌, ◌-◌, ◌<◌, ◌≤◌, ◌++◌, List, length, take}
use Rattle.std.proofs.Common.{replicate, Result, Ok, Err, if◌then◌else◌, is_ok, OnOk, Some, inl}
use Rattle.std.proofs.Common.{inr, refl, ap, sym, ◌∙◌, slice_get}
use Rattle.std.proofs.lemmas.Bool.{cases_lt}
use Rattle.std.proofs.lemmas.List.{get_or_append_left, get_or-append_right, get_or-replicate}
use Rattle.std.proofs.lemmas.List.{length-replicate, take_all, length-append}
use Rattle.std.proofs.lemmas.Option.{slice_get-get_or, get_or_from_slice_get}
use Rattle.pram_job.specs.Job.{JobData}
use Rattle.pram_machine.specs.Machine.{State}
use Rattle.pram_step.specs.declared.walks.Walked.{Walked}
use Rattle.pram_step.specs.declared.walks.Walked.TheVariants.{Through, Disputed}
use Rattle.pram_step.specs.Running.{Repeats}
use Rattle.pram_step.specs.Runs.{state_after}
use Rattle.pram_step.specs.Walks.{IsWalked, begun}
use Rattle.page_core.specs.declared.steps.StepRow.{StepRow}
use Rattle.page_core.specs.Steps.{AreSteps, AreStepsTo, step_row}
use Rattle.page_core.proofs.Buffers.{told_rows}

-- no more steps are begun than a walk has
begun_within : (job : JobData) (t : ℕ) (walked : Walked) → IsWalked job t walked →
    begun t walked ≤ t
begun_within job t (Through state) is = omega arith
begun_within job t (Disputed fault) is = is.1

-- so there are no more rows
pub rows_few : (job : JobData) (from n : ℕ) (walked : Walked) (rows : List StepRow) →
    IsWalked job (from + n) walked → AreStepsTo job from (begun (from + n) walked) rows →
    length rows ≤ n
rows_few job from n walked rows is noted =
    let within = begun_within job (from + n) walked is in
    let to = noted.0 in
    omega arith

-- they are copied to the front of a buffer
pub steps_told : (job : JobData) (t count : ℕ) (noted front rest : List StepRow) →
    front ≡ noted → count ≡ length noted → AreSteps job t (length noted) noted →
    AreSteps job t count (front ++ rest)
steps_told job t count noted front rest copied all steps =
    told_rows (λ (k : ℕ). step_row job (state_after job (t + k))) count (length noted) noted
    front rest (omega arith) (copied ∙ sym (take_all (length noted) noted (omega arith)))
    (λ k low. steps k (omega arith))

-- as many rows more as steps begin in a state
module _ (job : JobData) (from t times : ℕ) (s : State) (old : List StepRow)
    (noted : AreStepsTo job from t old) (same : Repeats job t times s) where
  row_more : (k : ℕ) → k < length (old ++ replicate times (step_row job s)) →
      slice_get (old ++ replicate times (step_row job s)) k
      ≡ Some (step_row job (state_after job (from + k)))
  row_more k low =
      let row = step_row job s in
      let new = old ++ replicate times row in
      let all = length-append old (replicate times row) in
      let many = length-replicate times row in
      let to = noted.0 in
      slice_get-get_or new k row low ∙ ap Some (elim (cases_lt k (length old)) [
        | inl less ↦ get_or_append_left old (replicate times row) row k less
            ∙ get_or_from_slice_get old k _ row (noted.1 k less)
        | inr past ↦
            let e : t + (k - length old) ≡ from + k = omega arith in
            get_or-append_right old (replicate times row) (length old) k row refl past
            ∙ get_or-replicate times (k - length old) row row (omega arith)
            ∙ ap (λ (r : State). step_row job r) (sym (same (k - length old) (omega arith)))
            ∙ ap (λ (n : ℕ). step_row job (state_after job n)) e
      ])

  steps_more : (new : List StepRow) → new ≡ old ++ replicate times (step_row job s) →
      AreStepsTo job from (t + times) new
  steps_more new is =
      let row = step_row job s in
      let all = length-append old (replicate times row) in
      let many = length-replicate times row in
      let to = noted.0 in
      rw is (omega arith, row_more)

  -- as the rows are made longer by this row
  pub rows_more : {E : Type 0} (r : Result (Unit {0}) E) (row : StepRow) (n count : ℕ)
      (new : List StepRow) → row ≡ step_row job s → n ≡ length old + times → count ≡ length old →
      new ≡ (if is_ok r then take n old ++ replicate (n - count) row else old) →
      OnOk r (AreStepsTo job from (t + times) new)
  rows_more (Ok x) row n count new is all before made =
      let e : n - count ≡ times = omega arith in
      steps_more new (made ∙ ap (λ (xs : List StepRow). xs ++ replicate (n - count) row)
      (take_all n old (omega arith))
      ∙ ap (λ (m : ℕ). old ++ replicate m row) e
      ∙ ap (λ (x : StepRow). old ++ replicate times x) is)
  rows_more (Err x) row n count new is all before made = tt
