-- The theorem: the job of a program carries its run.
use Rattle.std.proofs.Common.{◌≡◌, ℕ, suc, ◌+◌, Some, refl, sym, ap, ◌∙◌, arith}
use Rattle.std.specs.Prelude.{slice_get}
use Rattle.pram_job.specs.Job.{JobData}
use Rattle.pram_step.specs.Runs.{IsFault}
use Rattle.pardo_program.specs.declared.statement.Line.{Line}
use Rattle.pardo_program.specs.Lawful.{IsProgram}
use Rattle.pardo_program.specs.Nested.{IsNested}
use Rattle.pardo_program.specs.Program.{ProgramData}
use Rattle.pardo_program.proofs.LawFors.{turns_tied}
use Rattle.pardo_job.specs.Carries.{Carries, ComesFrom}
use Rattle.pardo_job.specs.Compiled.{AreLineNumbers, IsCompiled, IsWhole}
use Rattle.pardo_job.specs.Conflicts.{IsLineDispute}
use Rattle.pram_step.specs.declared.answer.Dispute.{Dispute}
use Rattle.pardo_job.specs.Meaning.{after}
use Rattle.pardo_job.specs.Runs.{IsProgramConflict, line_number}
use Rattle.pardo_law.proofs.Carried.{Carried}
use Rattle.pardo_law.proofs.Carrying.{carried_after, line_next, made_so_far, time_next, time_of}
use Rattle.pardo_law.proofs.Disputing.{InConflict, in_conflict, line_number_is}
use Rattle.pardo_law.proofs.Finishing.{finishes}
use Rattle.pardo_law.proofs.Picturing.{IsOf, TurnsAreTied}
use Rattle.pardo_law.proofs.Showing.{shows, conflict_is_last}
use Rattle.pardo_law.proofs.Ending.{ends_as, done}

pub tied : (program : ProgramData) → IsNested program.lines → TurnsAreTied program
tied program nested j begin e = turns_tied program.lines nested j begin e

-- the step of a line in conflict
pub record IsStep (program : ProgramData) (job : JobData) (line_of : ℕ → ℕ) (n : ℕ)
    (dispute : Dispute) : Type 0 where
  pub before : ℕ
  pub time_is : time_of program (n + 1) ≡ before + 1
  pub steps_are : job.steps ≡ before + 1
  pub fault : IsFault job (record {
    step = before + 1;
    cell = dispute.cell;
    first = dispute.first;
    second = dispute.second;
  })
  pub comes : ComesFrom job line_of before dispute.first (line_number program (after program n))
  pub comes_too : ComesFrom job line_of before dispute.second
      (line_number program (after program n))

module _ (program : ProgramData) (job : JobData) (line_of : ℕ → ℕ) (of : IsOf program job)
    (whole : IsWhole job) (numbers : AreLineNumbers program line_of) (n : ℕ)
    (c : Carried program job (after program n) (time_of program n)) (line : Line)
    (is : slice_get program.lines (after program n).at ≡ Some line) where
  pub step_in : (dispute : Dispute) → IsLineDispute program (after program n) dispute →
      IsStep program job line_of n dispute
  step_in dispute disputed =
      let t : ℕ = time_of program n in
      let found : InConflict program job (after program n) t line line_of dispute =
      in_conflict program job of (after program n) t c line is line_of numbers dispute disputed in
      let last : job.steps ≡ t + found.before + 1 =
      conflict_is_last job (t + found.before) whole found.reached found.against in
      let named = line_number_is program (after program n) line is in
      record {
        before = t + found.before;
        time_is = ap (time_of program) (let e : n + 1 ≡ suc n = omega arith in e)
            ∙ time_next program n line is ∙ (let e = found.costs in omega arith);
        steps_are = last;
        fault = record { first = found.first; within = let e = last in omega arith };
        comes = found.comes ∙ sym named;
        comes_too = found.comes_too ∙ sym named;
      }
