-- Commands that follow a plan.
use Rattle.std.specs.Prelude.{ℕ, List, Option, Some, ⊤}
use Rattle.pram_job.specs.Job.{JobData}
use Rattle.pram_step.specs.declared.answer.RunAnswer.{RunAnswer}
use Rattle.stop_plan.specs.Plan.{PlanData}
use Rattle.stop_plan.specs.Records.{FirstFault, SpellsPlan, records_of}
use Rattle.refusals.specs.declared.fault.CommandFault.{CommandFault}
use Rattle.pram_commands.specs.Did.{Command}

-- follows a plan for so many workers, and prints what it comes to, in pieces or at once; so a fault
-- says what the job of a text lacks
abbrev pub following : ℕ → (List ℕ → JobData → CommandFault → Type 0) → Type 0 →
    (List ℕ → JobData → PlanData → List ℕ → Option RunAnswer → Type 0) → Command
following workers Lacks InPieces Comes = record {
  workers = Some workers;
  IsPlan = λ text plan. SpellsPlan workers (records_of text) plan;
  HasPlanFault = λ text row kind. FirstFault workers (records_of text) row kind;
  Has = λ job. ⊤;
  Lacks = Lacks;
  InPieces = InPieces;
  Comes = Comes;
}

-- the job has all that the command asks for
abbrev pub LacksNone : List ℕ → JobData → CommandFault → Type 0
LacksNone job_text job fault = ⊥
