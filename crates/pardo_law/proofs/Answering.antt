-- A run ends in one way, and the answer of the job is the program's.
use Rattle.std.proofs.Common.{◌≡◌, ℕ, ◌+◌, ◌<◌, Option, Some, None, List}
use Rattle.std.proofs.Common.{refl, ap, ◌∙◌, subst, inl, inr, ⊎_elim, take, arith}
use Rattle.std.specs.Prelude.{slice_index}
use Rattle.std.proofs.lemmas.Bool.{cases_order}
use Rattle.std.proofs.lemmas.List.{get_or-take}
use Rattle.pram_job.specs.Job.{JobData}
use Rattle.pram_step.specs.declared.answer.Fault.{Fault}
use Rattle.pram_step.specs.declared.answer.RunAnswer.{RunAnswer}
use Rattle.pram_step.specs.declared.answer.RunAnswer.TheVariants.{Final, Conflict, Unfinished}
use Rattle.pram_machine.specs.Machine.{State}
use Rattle.pram_step.specs.Runs.{state_after, IsAnswer}
use Rattle.pram_step.proofs.LawAnswer.{one_answer}
use Rattle.pardo_program.specs.Program.{ProgramData}
use Rattle.pardo_flat.specs.Flat.{flat}
use Rattle.pardo_flat.specs.Layouts.{program_layout}
use Rattle.pardo_job.specs.Carries.{Carries, EndsAs}
use Rattle.pram_step.specs.declared.answer.Dispute.{Dispute}
use Rattle.pardo_job.specs.Meaning.{after}
use Rattle.pardo_job.specs.Runs.{IsLineReached, IsProgramEnd, IsProgramConflict}
use Rattle.pardo_law.specs.Theorem.{ProgramEndsIn, RunsEndOnce, IsAnswerOf, AnswersAreThePrograms}
use Rattle.pardo_law.proofs.Picturing.{shared_low}
use Rattle.pardo_law.proofs.Ruling.{one_dispute}
use Rattle.pardo_law.proofs.FlatCarrying.{jobs_carry_programs, of_flat}

-- ---- once

reached_to : (program : ProgramData) (n : ℕ) (end : Option Dispute) → ProgramEndsIn program n end →
    IsLineReached program n
reached_to program n None is = is.reached
reached_to program n (Some dispute) is = is.reached

-- no line comes after the end
none_after : (program : ProgramData) (n m : ℕ) (end : Option Dispute) →
    ProgramEndsIn program n end →
    IsLineReached program m → n < m → ⊥
none_after program n m None is reached lt = (reached n lt).0 is.over
none_after program n m (Some dispute) is reached lt =
    (reached n lt).1 dispute.cell dispute.first dispute.second is.disputed.clash

same_end : (program : ProgramData) (n : ℕ) (end other : Option Dispute) →
    ProgramEndsIn program n end →
    ProgramEndsIn program n other → end ≡ other
same_end program n None None is too = refl
same_end program n None (Some dispute) is too = absurd (too.goes_on is.over)
same_end program n (Some dispute) None is too = absurd (is.goes_on too.over)
same_end program n (Some dispute) (Some other) is too =
    ap Some (one_dispute program (after program n) dispute other is.disputed too.disputed)

pub runs_end_once : RunsEndOnce
runs_end_once program n m end other is too = elim (cases_order n m) [
  | inl same ↦ (
    same,
    same_end program m end other
        (subst (λ k. ProgramEndsIn program k end) same is) too,
  )
  | inr apart ↦ elim apart [
    | inl low ↦ absurd (none_after program n m end is (reached_to program m other too) low)
    | inr high ↦ absurd (none_after program m n other too (reached_to program n end is) high)
  ]
]

-- ---- the answer

module _ (program : ProgramData) (job : JobData) (line_of : ℕ → ℕ)
    (low : (cell : ℕ) → cell < (program_layout program).shared → cell < job.cells)
    (c : Carries program job line_of) where
  -- where the program is over
  at_end : (n : ℕ) → IsProgramEnd program n → (answer : RunAnswer) → IsAnswer job answer →
      IsAnswerOf program answer
  at_end n is (Final cells) x =
      let ends : EndsAs program job line_of (after program n) = (c.ends n is).0 in (
        n,
        is,
        λ cell lt. ap (λ (values : List ℕ). slice_index values cell) x.2
            ∙ get_or-take job.cells x.0 cell 0 (low cell lt)
            ∙ ap (λ (s : State). slice_index s cell) x.1.state
            ∙ ends.cells cell lt,
      )
  at_end n is (Conflict fault) x =
      let ends : EndsAs program job line_of (after program n) = (c.ends n is).0 in
      let final : IsAnswer job (Final (take job.cells (state_after job job.steps))) =
      (state_after job job.steps, record { reached = ends.reached; state = refl }, refl) in
      let same : Conflict fault ≡ Final (take job.cells (state_after job job.steps)) =
      one_answer job _ _ x final in
      absurd (cc)
  at_end n is (Unfinished step) x = absurd x

  abbrev fault_at : ℕ → Dispute → Fault
  fault_at before dispute =
      record {
        step = before + 1;
        cell = dispute.cell;
        first = dispute.first;
        second =
            dispute.second;
      }

  -- where a line is against the rule
  in_conflict : (n : ℕ) (dispute : Dispute) → IsProgramConflict program n dispute →
      (answer : RunAnswer) →
      IsAnswer job answer →
      IsAnswerOf program answer
  in_conflict n dispute is (Final cells) x =
      let found = c.disputes n dispute is in
      let same : Final cells ≡ Conflict (fault_at found.0 dispute) =
      one_answer job (Final cells) (Conflict (fault_at found.0 dispute)) x found.3 in absurd (cc)
  in_conflict n dispute is (Conflict fault) x =
      let found = c.disputes n dispute is in
      let same : Conflict fault ≡ Conflict (fault_at found.0 dispute) =
      one_answer job (Conflict fault) (Conflict (fault_at found.0 dispute)) x found.3 in
      let it : fault_at found.0 dispute ≡ fault = cc in (
        n,
        subst (λ (f : Fault). IsProgramConflict program n
            (record { cell = f.cell; first = f.first; second = f.second })) it is,
      )
  in_conflict n dispute is (Unfinished step) x = absurd x

  pub answer_is : (answer : RunAnswer) → IsAnswer job answer → IsAnswerOf program answer
  answer_is answer x = ⊎_elim
      (λ (is : IsProgramEnd program c.over.0). at_end c.over.0 is answer x)
      (λ (is : (dispute : Dispute) × IsProgramConflict program c.over.0 dispute). in_conflict
      c.over.0 is.0
      is.1 answer x)
      c.over.1

shared_same : (program : ProgramData) →
    (program_layout (flat program)).shared ≡ (program_layout program).shared
unfolding program_layout
shared_same program = refl

pub answers_are_the_programs : AnswersAreThePrograms
answers_are_the_programs program job line_of lawful nested compiled answer x =
    let same = shared_same program in
    answer_is program job line_of (λ cell lt. shared_low (flat program) job
    (of_flat program job line_of lawful nested compiled) cell (omega (arith, same, lt)))
    (jobs_carry_programs program job line_of lawful nested compiled) answer x
