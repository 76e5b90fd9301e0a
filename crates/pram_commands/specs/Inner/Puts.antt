-- What printing to the output came to, for a job and a plan at hand.
use Rattle.std.specs.Prelude.{◌≡◌, ◌⊎◌, ◌↔◌, List, ℕ, Option, Result, Ok, Err, IfOk, IfErr}
use Rattle.std.specs.Prelude.{IsErrOf, IsTrue}
use Rattle.std.specs.Io.KnownBytes.{Appends}
use Rattle.pram_job.specs.Job.{JobData}
use Rattle.pram_step.specs.declared.answer.RunAnswer.{RunAnswer}
use Rattle.pram_streams.specs.Transfer.{AppendsBeginning}
use Rattle.pram_streams.specs.declared.print.PrintFault.{PrintFault}
use Rattle.pram_streams.specs.declared.print.PrintFault.TheVariants.{Device, Memory}
use Rattle.pram_run.specs.Heard.{Ended}
use Rattle.command_data.specs.declared.line.Style.{Style}
use Rattle.naming.specs.Writing.{Writing}
use Rattle.pram_commands.specs.Did.{status_of, tells}
use Rattle.pram_commands.specs.Faults.{fault_of_print}
use Rattle.pram_commands.specs.Why.{Explaining}
use Rattle.refusals.specs.declared.fault.CommandFault.{CommandFault}

-- The output took all that the relation tells, or a beginning of it.
pub record PutAll (Comes : List ℕ → Option RunAnswer → Type 0) (writes : Writing)
    (Is : Option RunAnswer → Type 0) : Type 0 where
  pub text : List ℕ
  pub answer : Option RunAnswer
  pub comes : Comes text answer
  pub takes : Appends writes.out writes.out' text
  pub is : Is answer

pub record PutBeginning (Comes : List ℕ → Option RunAnswer → Type 0) (writes : Writing)
    : Type 0 where
  pub text : List ℕ
  pub answer : Option RunAnswer
  pub comes : Comes text answer
  pub takes : AppendsBeginning writes.out writes.out' text

abbrev pub PutSome : (List ℕ → Option RunAnswer → Type 0) → Type 0 → Writing → PrintFault → Type 0
PutSome Comes InPieces writes Device = PutBeginning Comes writes
PutSome Comes InPieces writes Memory = writes.Unwritten ⊎ (InPieces × PutBeginning Comes writes)

pub record PutsAnswer {A : Type 0} (Comes : List ℕ → Option RunAnswer → Type 0) (InPieces : Type 0)
    (writes : Writing) (Tells : A → Option RunAnswer → Type 0) (result : Result A PrintFault)
    : Type 0 where
  pub done : IfOk result (λ told. PutAll Comes writes (Tells told))
  pub wrote : IfErr result (PutSome Comes InPieces writes)
  pub failed : IsTrue writes.failed ↔ IsErrOf result Device

-- The answer was printed with what follows it, or a beginning of both; nothing where memory ran
-- out.
abbrev pub HasAnswered : Style → List ℕ → JobData → Writing → RunAnswer →
    Result (Unit {0}) PrintFault
    → Type 0
HasAnswered style job_text job writes answer =
    PutsAnswer (Explaining style (λ ended. ended ≡ answer) job_text job) ⊥ writes
    (λ done. tells answer)

-- what a command answers that printed how a run ended
abbrev pub outcome : Result (Unit {0}) PrintFault → Ended → Result RunAnswer PrintFault
outcome (Err fault) ended = Err fault
outcome (Ok done) (Ok answer) = Ok answer
outcome (Ok done) (Err refused) = Err Memory

-- what a command answers where printing is its last act
abbrev pub printed_as : {A : Type 0} → Result A PrintFault → Result A CommandFault
printed_as (Ok told) = Ok told
printed_as (Err fault) = Err (fault_of_print fault)

-- what a line answers where a command gives an answer
abbrev pub status_result : Result RunAnswer CommandFault → Result ℕ CommandFault
status_result (Ok answer) = Ok (status_of answer)
status_result (Err fault) = Err fault

-- a status of what was printed
abbrev pub with_status : {A : Type 0} → (A → ℕ) → Result A PrintFault → Result ℕ PrintFault
with_status status (Ok told) = Ok (status told)
with_status status (Err fault) = Err fault
