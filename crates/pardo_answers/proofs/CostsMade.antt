-- What the run of a program costs, by what was counted when it was compiled.
use Rattle.std.proofs.Common.{◌≡◌, ℕ, List, Option, Some, None, refl, sym, ap, subst, ◌∙◌, inl, inr}
use Rattle.pram_job.specs.Job.{JobData}
use Rattle.pram_step.specs.declared.answer.Fault.{Fault}
use Rattle.pram_step.specs.declared.answer.RunAnswer.{RunAnswer}
use Rattle.pram_step.specs.declared.answer.RunAnswer.TheVariants.{Final, Conflict}
use Rattle.pram_step.specs.Runs.{IsAnswer}
use Rattle.pram_step.proofs.LawAnswer.{conflict_ends, one_conflict}
use Rattle.pram_cost.specs.Costs.{IsCost, IsLength}
use Rattle.pram_cost.specs.Tallies.{HasCounted}
use Rattle.pram_cost.specs.declared.cost.Cost.{Cost}
use Rattle.pram_cost.specs.declared.cost.Tally.{Tally}
use Rattle.pardo_job.specs.Compiled.{CompiledData, IsWhole}
use Rattle.pardo_job.specs.Drafts.{IsComplete}
use Rattle.pardo_program.specs.Program.{ProgramData}

pub length_final : (job : JobData) (cells : List ℕ) → IsAnswer job (Final cells) →
    IsLength job job.steps None
length_final job cells answer = (refl, answer.1.reached)

pub length_conflict : (job : JobData) (fault : Fault) → IsAnswer job (Conflict fault) →
    IsWhole job → IsLength job job.steps (Some fault)
length_conflict job fault answer whole = elim whole [
  | inl stops ↦ absurd (conflict_ends job fault job.steps answer.first answer.within stops.reached)
  | inr found ↦
      let same = one_conflict job found.0 fault found.1 answer.first in
      (sym found.2 ∙ ap (λ (f : Fault). f.step) same, answer)
]

pub made_costs : (program : ProgramData) (compiled : CompiledData) (job : JobData)
    (answer : RunAnswer) (tally : Tally) (conflict : Option Fault) (cost : Cost) →
    IsComplete program compiled → job ≡ compiled.job → answer ≡ compiled.ended.answer →
    HasCounted (record compiled.job { steps = 0 }) compiled.job.steps tally →
    ((j : JobData) → IsAnswer j answer → IsWhole j → IsLength j j.steps conflict) →
    ((j : JobData) (n steps : ℕ) → HasCounted (record j { steps = n }) steps tally →
    IsLength j steps conflict → IsCost j cost) → IsCost job cost
made_costs program compiled job answer tally conflict cost made job_is answer_is counted long costs =
    let whole = compiled.job in
    let answers = subst (IsAnswer whole) (sym answer_is) made.ended.answers in
    subst (λ (j : JobData). IsCost j cost) (sym job_is)
    (costs whole 0 whole.steps counted (long whole answers made.job.whole))
