-- What the command comes to that says in one record what a run costs, as a sweep does of each size.
use Rattle.std.specs.Prelude.{◌≡◌, ℕ, List, ◌++◌, Option, Some, None, codes, decimal, is_some}
use Rattle.std.specs.Prelude.{if◌then◌else◌, sum_by}
use Rattle.std.specs.List.{list_any, range_with_len}
use Rattle.pram_job.specs.Job.{JobData}
use Rattle.pram_step.specs.declared.answer.Fault.{Fault}
use Rattle.pram_step.specs.declared.answer.RunAnswer.{RunAnswer}
use Rattle.pram_cost.specs.Costs.{IsCost}
use Rattle.pram_cost.specs.Models.{IsWeakestModel}
use Rattle.pram_cost.specs.Printed.{name_of}
use Rattle.pram_cost.specs.declared.cost.Cost.{Cost}
use Rattle.pram_cost.specs.declared.pram.Pram.{Pram}
use Rattle.pardo_job.specs.Ends.{gone_in}
use Rattle.pram_commands.specs.Costs.{conflict_of}
use Rattle.naming.specs.Costs.{named_line_costs}
use Rattle.pram_commands.specs.Did.{Command, ends_with}
use Rattle.naming.specs.Names.{AreNames, NamingData}
use Rattle.pram_commands.specs.Plain.{on_job}
use Rattle.pardo_answers.specs.declared.line_costs.LineCost.{LineCost}
use Rattle.pram_commands.specs.declared.sweeps.RunRecord.{RunRecord}

-- how a run ends: in a conflict; else with one of these processors gone, or done
abbrev pub end_word : ℕ → (ℕ → Option ℕ) → Option Fault → List ℕ
end_word procs gone (Some fault) = codes "conflict"
end_word procs gone None =
    if list_any (λ i. is_some (gone i)) (range_with_len 0 procs) then codes "gone"
    else codes "done"

-- in which lines processors are gone; of a text of the machine none is told
abbrev pub told_gone : Option NamingData → ℕ → Option ℕ
told_gone None i = None
told_gone (Some naming) i = gone_in naming.ended.lines.gone.items i

-- the steps, time, operations and processors of a run, the model that it needs, and this word
abbrev pub fields_text : List LineCost → Cost → Pram → List ℕ → List ℕ
fields_text lines cost pram end =
    decimal cost.steps ++ codes "," ++ decimal (sum_by (λ line. line.time) lines) ++ codes ","
    ++ decimal (sum_by (λ line. line.operations) lines) ++ codes "," ++ decimal cost.procs
    ++ codes "," ++ name_of pram ++ codes "," ++ end ++ codes "\n"

-- The text is the record of the job's run. Of a text of the machine time and operations are 0.
pub record TellsRecord (job_text : List ℕ) (job : JobData) (text : List ℕ)
    (answer : Option RunAnswer) : Type 0 where
  pub cost : Cost
  pub pram : Pram
  pub names : Option NamingData
  pub costs : IsCost job cost
  pub needs : IsWeakestModel job cost.steps pram
  pub are_names : AreNames job_text job names
  pub prints : text ≡ fields_text (named_line_costs names job) cost pram
      (end_word job.procs (told_gone names) cost.conflict)
  pub gives : answer ≡ conflict_of cost

-- it prints that record
abbrev pub sweeping : Command
sweeping = on_job TellsRecord

-- This is the record of a text, and the status of its run.
pub record IsRunRecord (text : List ℕ) (told : RunRecord) : Type 0 where
  pub job : JobData
  pub answer : Option RunAnswer
  pub tells : TellsRecord text job told.bytes.items answer
  pub ends : told.status ≡ ends_with answer
