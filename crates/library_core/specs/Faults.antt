-- How a fault of a call is told.
use Rattle.std.specs.Prelude.{◌≡◌, ℕ, ⊤}
use Rattle.pardo_job.specs.declared.fault.Refusal.{Refusal}
use Rattle.pardo_job.specs.declared.fault.Refusal.TheVariants as program
use Rattle.refusals.specs.Faults.{fault_status}
use Rattle.refusals.specs.declared.fault.CommandFault.{CommandFault}
use Rattle.refusals.specs.declared.fault.CommandFault.TheVariants.{Text, Program, Plan}
use Rattle.refusals.specs.declared.fault.CommandFault.TheVariants.{OutsideStep, JobTooLarge}
use Rattle.refusals.specs.declared.fault.CommandFault.TheVariants.{PlanTooLarge}
use Rattle.refusals.specs.declared.refusal.TheConstants.{FAILED, REFUSED}
use Rattle.library_core.specs.declared.answer.TheConstants.{EXERCISE, OUT_OF_MEMORY, PLAN}
use Rattle.library_core.specs.declared.answer.TheConstants.{PROGRAM, REQUEST, SETTING, SIZE}
use Rattle.library_core.specs.declared.answer.TheConstants.{STEP, TEXT}
use Rattle.library_core.specs.declared.fault.CallFault.{CallFault}
use Rattle.library_core.specs.declared.fault.CallFault.TheVariants.{Request, Command, Setting}
use Rattle.library_core.specs.declared.fault.CallFault.TheVariants.{Exercise, Unfit}

abbrev pub status_of_call_fault : CallFault → ℕ
status_of_call_fault (Request fault) = FAILED
status_of_call_fault (Command fault) = fault_status fault
status_of_call_fault (Setting fault) = REFUSED
status_of_call_fault (Exercise fault) = REFUSED
status_of_call_fault (Unfit line) = REFUSED

-- what was refused
abbrev pub command_subject : CommandFault → ℕ
command_subject (Text line kind) = TEXT
command_subject (Program refusal) = PROGRAM
command_subject (Plan row kind) = PLAN
command_subject (OutsideStep step) = STEP
command_subject JobTooLarge = SIZE
command_subject PlanTooLarge = SIZE
command_subject _ = OUT_OF_MEMORY

abbrev pub subject_of : CallFault → ℕ
subject_of (Request fault) = REQUEST
subject_of (Command fault) = command_subject fault
subject_of (Setting fault) = SETTING
subject_of (Exercise fault) = EXERCISE
subject_of (Unfit line) = EXERCISE

-- the line of the text or of the exercise, the row of the plan, or the number of the setting
abbrev pub program_line : Refusal → ℕ
program_line (program.Text fault) = fault.line
program_line (program.Job fault) = fault.line

abbrev pub command_line : CommandFault → ℕ
command_line (Text line kind) = line
command_line (Program refusal) = program_line refusal
command_line (Plan row kind) = row
command_line _ = 0

abbrev pub line_told : CallFault → ℕ
line_told (Request fault) = 0
line_told (Command fault) = command_line fault
line_told (Setting fault) = fault.number
line_told (Exercise fault) = fault.line
line_told (Unfit line) = line

-- A column is known of texts alone; 0 stands for none.
abbrev pub IsColumn : CallFault → ℕ → Type 0
IsColumn (Command (Text line kind)) column = ⊤
IsColumn (Command (Program refusal)) column = ⊤
IsColumn _ column = column ≡ 0
