-- A program is compiled to one job at most.
use Rattle.std.proofs.Common.{◌≡◌, ◌∙◌, ℕ, ◌+◌, ◌<◌, ap, arith, inl, inr, refl, subst, sym}
use Rattle.std.proofs.lemmas.Bool.{cases_order}
use Rattle.pram_job.specs.Job.{JobData}
use Rattle.pram_machine.specs.Machine.{AllStopped, State}
use Rattle.pram_step.specs.declared.answer.Fault.{Fault}
use Rattle.pram_step.specs.Runs.{IsFirstConflict, IsStateAfter, state_after}
use Rattle.pram_step.proofs.LawAnswer.{conflict_ends, one_conflict}
use Rattle.pram_step.proofs.LawAnswers.{longer_conflict, steps_state_after}
use Rattle.pram_step.proofs.LawStopped.{stopped_later}
use Rattle.pardo_program.specs.Program.{ProgramData}
use Rattle.pardo_flat.specs.Flat.{flat}
use Rattle.pardo_job.specs.Compiled.{IsCompiled, IsWhole, Stops}
use Rattle.pardo_job.specs.Lines.{job_of}

-- ---- of two numbers of steps one alone makes a job whole

module _ (job : JobData) (m : ℕ) (less : job.steps < m) where
  abbrev longer : JobData
  longer = record job { steps = m }

  abbrev last : State
  last = state_after job job.steps

  there : Stops job → IsStateAfter longer job.steps last
  there stops =
      steps_state_after job m job.steps last (record { reached = stops.reached; state = refl })

  both_stop : Stops job → Stops longer → ⊥
  both_stop stops later = later.runs job.steps less
      (subst (AllStopped longer) (there stops).state stops.stopped)

  stops_first : Stops job → (fault : Fault) → IsFirstConflict longer fault → fault.step ≡ m → ⊥
  stops_first stops fault first at =
      let on = stopped_later longer job.steps m last (there stops) stops.stopped in
      conflict_ends longer fault (job.steps + m) first (omega (arith, at)) on.reached

  conflict_there : (fault : Fault) → IsFirstConflict job fault → fault.step ≡ job.steps →
      IsFirstConflict longer fault
  conflict_there fault first at =
      ((longer_conflict job m fault (omega arith) (omega (arith, at))).0
      (record { first = first; within = omega (arith, at) })).first

  clashes_first : (fault : Fault) → IsFirstConflict job fault → fault.step ≡ job.steps →
      IsWhole longer → ⊥
  clashes_first fault first at (inl stops) =
      conflict_ends longer fault m (conflict_there fault first at) (omega (arith, at)) stops.reached
  clashes_first fault first at (inr found) =
      let same = one_conflict longer fault found.0 (conflict_there fault first at) found.1 in
      let steps : fault.step ≡ found.0.step = ap (λ (f : Fault). f.step) same in
      absurd (omega (arith, at, found.2, steps))

  no_longer : IsWhole job → IsWhole longer → ⊥
  no_longer (inl stops) (inl later) = both_stop stops later
  no_longer (inl stops) (inr found) = stops_first stops found.0 found.1 found.2
  no_longer (inr found) whole = clashes_first found.0 found.1 found.2 whole

-- ---- the job of a program

module _ (program : ProgramData) (job other : JobData) (line_of other_line : ℕ → ℕ)
    (is : IsCompiled program job line_of) (is_too : IsCompiled program other other_line) where
  differ_in_steps : (n m : ℕ) → job_of (flat program) m ≡ record (job_of (flat program) n) { steps = m }
  unfolding job_of
  differ_in_steps n m = refl

  other_is : other ≡ record job { steps = other.steps }
  other_is = is_too.made ∙ differ_in_steps job.steps other.steps
      ∙ ap (λ (j : JobData). record j { steps = other.steps }) (sym is.made)

  job_is : job ≡ record other { steps = job.steps }
  job_is = is.made ∙ differ_in_steps other.steps job.steps
      ∙ ap (λ (j : JobData). record j { steps = job.steps }) (sym is_too.made)

  same_steps : job.steps ≡ other.steps
  same_steps = elim (cases_order job.steps other.steps) [
    | inl same ↦ same
    | inr apart ↦ elim apart [
      | inl less ↦ absurd (no_longer job other.steps less is.whole
          (subst IsWhole other_is is_too.whole))
      | inr more ↦ absurd (no_longer other job.steps more is_too.whole
          (subst IsWhole job_is is.whole))
    ]
  ]

  pub one_job : job ≡ other
  one_job = is.made ∙ ap (job_of (flat program)) same_steps ∙ sym is_too.made
