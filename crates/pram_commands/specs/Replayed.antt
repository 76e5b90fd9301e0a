-- What the command comes to that replays a plan.
use Rattle.std.specs.Prelude.{◌≡◌, ℕ, Bool, List, ⊤}
use Rattle.pram_job.specs.Job.{JobData}
use Rattle.pram_step.specs.declared.answer.RunAnswer.{RunAnswer}
use Rattle.stop_plan.specs.Plan.{PlanData}
use Rattle.pram_run.specs.Printed.{trace_text}
use Rattle.pram_run.specs.Replays.{IsReplay}
use Rattle.pram_run.specs.declared.trace.TraceRow.{TraceRow}
use Rattle.pram_commands.specs.Did.{Command, Showing}
use Rattle.pram_commands.specs.Following.{LacksNone, following}

-- a replay of the job under the plan came to the answer, and these bytes are its trace
abbrev pub TellsTrace : JobData → PlanData → RunAnswer → List ℕ → Type 0
TellsTrace job plan answer front = (trace : List TraceRow)
    × IsReplay job plan answer trace × (front ≡ trace_text trace)

-- it prints the trace of a replay of the job under the plan, and then the answer, unless the trace
-- is to stand alone
abbrev pub replaying : Bool → ℕ → Command
replaying alone workers = following workers LacksNone ⊤
    (λ job_text job plan. Showing alone (TellsTrace job plan) job_text job)
