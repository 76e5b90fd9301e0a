-- Why a processor is lost, by the instruction and what its operands hold before the step; and what
-- two that clash write.
use Rattle.std.specs.Prelude.{◌≡◌, ℕ, ◌-◌, ◌==◌, ◌&&◌, nat_le, if◌then◌else◌, Option, Some, None}
use Rattle.std.specs.Prelude.{slice_get}
use Rattle.pram_job.specs.declared.instr.Array.{Array}
use Rattle.pram_job.specs.declared.instr.Instr.{Instr}
use Rattle.pram_job.specs.declared.instr.Instr.TheVariants.{Lt}
use Rattle.pram_job.specs.declared.instr.Operand.{Operand}
use Rattle.pram_job.specs.declared.instr.Operand.TheVariants.{Register, Number}
use Rattle.pram_job.specs.declared.instr.Operands.{Operands}
use Rattle.pram_job.specs.declared.instr.Operands.TheVariants.{TargetPlace, TargetTwo, PlaceValue}
use Rattle.pram_job.specs.declared.instr.Place.{Place}
use Rattle.pram_job.specs.declared.instr.Place.TheVariants.{Cell, Named}
use Rattle.pram_job.specs.Instructions.{row_of}
use Rattle.pram_job.specs.Job.{JobData}
use Rattle.pram_machine.specs.Instructions.{index_of, request_in, value_part}
use Rattle.pram_machine.specs.Machine.{State, register}
use Rattle.pram_step.specs.declared.answer.Fault.{Fault}
use Rattle.pram_step.specs.declared.answer.RunAnswer.{RunAnswer}
use Rattle.pram_step.specs.declared.answer.RunAnswer.TheVariants.{Final, Conflict, Unfinished}
use Rattle.pram_step.specs.Runs.{IsFault, state_after}
use Rattle.pram_rows.specs.declared.causes.Cause.{Cause}
use Rattle.pram_rows.specs.declared.causes.Cause.TheVariants.{Outside, AboveBound, Divided}
use Rattle.pram_rows.specs.declared.causes.Values.{Values}
use Rattle.pram_rows.specs.declared.causes.Why.{Why}
use Rattle.pram_rows.specs.declared.fates.Lost.{Lost}
use Rattle.pram_rows.specs.Fates.{AreFates, IsLostIn}

-- the state before a step, which counts from 1
abbrev pub state_before : JobData → ℕ → State
state_before job step = state_after job (step - 1)

-- ---- why a processor is lost

abbrev pub operand_value : JobData → State → ℕ → Operand → ℕ
operand_value job state i (Register which) = register job state i which
operand_value job state i (Number number) = number

-- the cells through which the index of a place counts
abbrev pub indexed_cells : JobData → Place → Array
indexed_cells job (Cell index) = record { base = 0; len = job.cells }
indexed_cells job (Named array index) = array

-- the number that an instruction compares this register with, into that one
abbrev pub bound_in : Instr → ℕ → ℕ → Option ℕ
bound_in (Lt test value (Number bound)) tested by =
    if (value == tested) && (test == by) then Some bound else None
bound_in _ tested by = None

abbrev pub bound_of : Option Instr → ℕ → Operand → Option ℕ
bound_of (Some instr) tested (Register by) = bound_in instr tested by
bound_of _ tested by = None

-- A number that is divided by whether it is below a bound is an index that is tested so.
abbrev pub division : Option ℕ → ℕ → Cause
division None value = Divided value
division (Some bound) value = if nat_le bound value then AboveBound value bound else Divided value

-- why processor i is lost by operands, where this instruction stands before them
abbrev pub cause_by : JobData → State → ℕ → Option Instr → Operands → Option Cause
cause_by job state i before (TargetPlace target place) =
    Some (Outside (indexed_cells job place) (operand_value job state i (index_of place)))
cause_by job state i before (PlaceValue place value) =
    Some (Outside (indexed_cells job place) (operand_value job state i (index_of place)))
cause_by job state i before (TargetTwo target first second) =
    Some (division (bound_of before first second) (register job state i first))
cause_by job state i before _ = None

-- and by the instruction of this index
abbrev pub cause_in : JobData → State → ℕ → ℕ → Option Cause
cause_in job state i index = elim (slice_get job.code index) [
  | None ↦ None
  | Some instr ↦ cause_by job state i (slice_get job.code (index - 1)) (row_of instr).1
]

abbrev pub cause_of : JobData → Option Lost → Option Cause
cause_of job None = None
cause_of job (Some lost) = cause_in job (state_before job lost.step) lost.processor lost.index

-- Why processor i is lost in n steps: it is in one of them, and this is the cause.
pub record IsWhyLost (job : JobData) (n i : ℕ) (cause : Cause) : Type 0 where
  pub lost : Lost
  pub who : lost.processor ≡ i
  pub is_lost : IsLostIn job n lost
  pub cause_is : cause_of job (Some lost) ≡ Some cause

-- ---- what two that clash write

-- the value that processor i writes in a step
abbrev pub value_put : JobData → ℕ → ℕ → ℕ
value_put job step i = value_part (request_in job (state_before job step) i)

abbrev pub clash_values : JobData → Fault → Values
clash_values job fault = record {
  first = value_put job fault.step fault.first;
  second = value_put job fault.step fault.second;
}

-- these are the values of the job's conflict, where the answer is that
abbrev pub AreValuesOf : JobData → RunAnswer → Option Values → Type 0
AreValuesOf job (Conflict fault) values = IsFault job fault → values ≡ Some (clash_values job fault)
AreValuesOf job (Final cells) values = values ≡ None
AreValuesOf job (Unfinished step) values = values ≡ None

-- ---- all of it

-- What became of the processors in n steps, why one is lost, and what two that clash write.
pub record AreReasons (job : JobData) (n : ℕ) (answer : RunAnswer) (why : Why) : Type 0 where
  pub fates : AreFates job n why.fates
  pub cause : why.cause ≡ cause_of job why.fates.lost
  pub values : AreValuesOf job answer why.values
