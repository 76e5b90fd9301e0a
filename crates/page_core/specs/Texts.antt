-- What is told of a text.
use Rattle.std.specs.Prelude.{◌≡◌, ◌⊎◌, ℕ, ◌<◌, List, length}
use Rattle.pram_text.specs.declared.fault.TextKind.{TextKind}
use Rattle.pram_text.specs.declared.fault.TextKind.TheVariants.{NotAscii, BadHeader, BadNumber}
use Rattle.pram_text.specs.declared.fault.TextKind.TheVariants.{OutOfLimits, UnknownInstruction}
use Rattle.pram_text.specs.declared.fault.TextKind.TheVariants.{WrongOperands, BadRegister}
use Rattle.pram_text.specs.declared.fault.TextKind.TheVariants.{DuplicateLabel, UnknownLabel}
use Rattle.pram_text.specs.declared.fault.TextKind.TheVariants.{NoCode, TooLong}
use Rattle.pram_text.specs.declared.fault.TextKind.TheVariants as kind
use Rattle.pram_job.specs.declared.instr.Rule.{Rule}
use Rattle.pram_job.specs.declared.instr.Rule.TheVariants.{Common, Priority, Crew}
use Rattle.pram_job.specs.Job.{JobData}
use Rattle.pram_text.specs.Text.{Spells, Bears}
use Rattle.pram_machine.specs.Machine.{place_count}
use Rattle.page_core.specs.declared.codes.Status.{Status}
use Rattle.page_core.specs.declared.codes.TheConstants.{DONE, NO_JOB, MEMORY, TEXT_TOO_LONG}
use Rattle.page_core.specs.declared.codes.TheConstants.{TEXT_MOST}
use Rattle.page_core.specs.declared.text.Judgement.{Judgement}
use Rattle.page_core.specs.declared.text.Refusal.{Refusal}
use Rattle.page_core.specs.declared.text.Refusal.TheVariants.{NoJob, TextTooLong, Memory}

abbrev pub fault_code : TextKind → ℕ
fault_code NotAscii = 1
fault_code BadHeader = 2
fault_code BadNumber = 3
fault_code OutOfLimits = 4
fault_code UnknownInstruction = 5
fault_code WrongOperands = 6
fault_code BadRegister = 7
fault_code DuplicateLabel = 8
fault_code UnknownLabel = 9
fault_code NoCode = 10
fault_code TooLong = 11
fault_code kind.Memory = 12

abbrev pub rule_code : Rule → ℕ
rule_code Common = 0
rule_code Priority = 1
rule_code Crew = 2

-- the text spells a job of which this holds
abbrev pub OfJob : List ℕ → (JobData → Type 0) → Type 0
OfJob text holds = (job : JobData) × Spells text job × holds job

-- ---- why a text gives no job

abbrev pub IsRefused : List ℕ → Refusal → Type 0
IsRefused text (NoJob fault) = Bears text fault.line fault.kind
IsRefused text TextTooLong = TEXT_MOST < length text
IsRefused text Memory = Unit {0}

-- a code alone
abbrev pub coded : ℕ → Status
coded code = record { code = code; fault = 0; line = 0 }

abbrev pub refused_as : Refusal → Status
refused_as (NoJob fault) =
    record { code = NO_JOB; fault = fault_code fault.kind; line = fault.line }
refused_as TextTooLong = coded TEXT_TOO_LONG
refused_as Memory = coded MEMORY

-- ---- the judgement of a text

abbrev pub sizes_of : JobData → Judgement
sizes_of job = record {
  status = coded DONE;
  rule = rule_code job.rule;
  cells = job.cells;
  procs = job.procs;
  steps = job.steps;
  instructions = length job.code;
  places = place_count job;
}

abbrev pub judgement_of : Refusal → Judgement
judgement_of refusal = record {
  status = refused_as refusal;
  rule = 0;
  cells = 0;
  procs = 0;
  steps = 0;
  instructions = 0;
  places = 0;
}

-- the sizes of the job that the text spells, or why there is none
abbrev pub IsJudged : List ℕ → Judgement → Type 0
IsJudged text told =
    OfJob text (λ job. told ≡ sizes_of job)
    ⊎ ((refusal : Refusal) × IsRefused text refusal × (told ≡ judgement_of refusal))
