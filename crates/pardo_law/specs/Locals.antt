-- What one processor does by itself: where it stands, and what its registers hold.
use Rattle.std.specs.Prelude.{◌≡◌, ℕ, suc, ◌+◌, ◌<◌, ◌==◌, nat_lt, if◌then◌else◌}
use Rattle.std.specs.Prelude.{List, [], ◌∷◌, unwrap_or}
use Rattle.std.specs.Option.{option_and_then}
use Rattle.std.specs.Prelude.{length, slice_get, slice_index, Option, Some, None}
use Rattle.pram_job.specs.declared.instr.Instr.{Instr}
use Rattle.pram_job.specs.declared.instr.Operands.{Operands}
use Rattle.pram_job.specs.declared.instr.Operands.TheVariants.{Bare, Target, TargetNumber}
use Rattle.pram_job.specs.declared.instr.Operands.TheVariants.{TargetPlace, TargetTwo, PlaceValue}
use Rattle.pram_job.specs.declared.instr.Operands.TheVariants.{RegisterIndex, Index}
use Rattle.pram_job.specs.declared.instr.Place.TheVariants.{Cell, Named}
use Rattle.pram_job.specs.Instructions.{row_of}
use Rattle.pram_job.specs.Job.{JobData, IsJob}
use Rattle.pram_machine.specs.Instructions.{computed, request_in}
use Rattle.pram_machine.specs.Machine.{State, register, counter, out_of_range, halted, place_count}
use Rattle.pram_step.specs.Runs.{state_after, IsReached}
use Rattle.pram_step.specs.Disputes.{Forbids}
use Rattle.pram_step.specs.Steps.{next_state}
use Rattle.pardo_program.specs.Expression.{Tree}
use Rattle.pardo_flat.specs.Layouts.{ProgramLayoutData}
use Rattle.pardo_job.specs.Lines.{no_code}
use Rattle.pardo_job.specs.Meaning.{first_below, given_to}
use Rattle.pardo_job.specs.Straight.{Registers, operand_value, registers_then, after_all}
use Rattle.pardo_job.specs.Values.{value_code}

-- ---- what a state holds

-- Its place in the code and its registers; none for a processor that named a place that there is
-- not, or divided by 0, which stays so.
abbrev pub Local : Type 0
Local = Option (ℕ × Registers)

abbrev pub memory_of : JobData → State → ℕ → ℕ
memory_of job state cell = if nat_lt cell job.cells then slice_index state cell else 0

abbrev pub registers_of : JobData → State → ℕ → Registers
registers_of job state i which = if nat_lt which 4 then register job state i which else 0

abbrev pub IsLocal : JobData → State → ℕ → Local → Type 0
IsLocal job state i None = counter job state i ≡ out_of_range job
IsLocal job state i (Some local) =
    (counter job state i ≡ local.0) × (registers_of job state i ≡ local.1)

-- ---- what it does

abbrev pub standing_at : ℕ → Option Registers → Local
standing_at at None = None
standing_at at (Some held) = Some (at, held)

-- where processor i goes from `at` by an instruction that has these operands, and computes this of
-- two numbers
abbrev pub local_after : JobData → (ℕ → ℕ) → ℕ → ℕ → Registers → (ℕ → ℕ → Option ℕ) → Operands →
    Local
local_after job memory i at held computes (PlaceValue (Named array index) value) =
    if nat_lt (operand_value held index) array.len then Some (at + 1, held) else None
local_after job memory i at held computes (RegisterIndex register index) =
    Some (if held register == 0 then index else at + 1, held)
local_after job memory i at held computes (Index index) = Some (index, held)
local_after job memory i at held computes Bare = Some (halted job, held)
local_after job memory i at held computes operands =
    standing_at (at + 1) (registers_then memory i computes operands held)

abbrev pub after_instr : JobData → (ℕ → ℕ) → ℕ → ℕ → Registers → Instr → Local
after_instr job memory i at held instr =
    local_after job memory i at held (computed instr) (row_of instr).1

-- behind the code it stays
abbrev pub after_fetched : JobData → (ℕ → ℕ) → ℕ → ℕ → Registers → Option Instr → Local
after_fetched job memory i at held None = Some (at, held)
after_fetched job memory i at held (Some instr) = after_instr job memory i at held instr

abbrev pub next_local : JobData → (ℕ → ℕ) → ℕ → Local → Local
next_local job memory i None = None
next_local job memory i (Some local) =
    after_fetched job memory i local.0 local.1 (slice_get job.code local.0)

-- the cell that an instruction with these operands stores to, and the value
abbrev pub stored_in : Registers → Operands → Option (ℕ × ℕ)
stored_in held (PlaceValue (Named array index) value) =
    if nat_lt (operand_value held index) array.len
    then Some (array.base + operand_value held index, operand_value held value) else None
stored_in held operands = None

abbrev pub local_store_by : Registers → Instr → Option (ℕ × ℕ)
local_store_by held instr = stored_in held (row_of instr).1

abbrev pub store_by_instr : Registers → Option Instr → Option (ℕ × ℕ)
store_by_instr held None = None
store_by_instr held (Some instr) = local_store_by held instr

abbrev pub local_store : JobData → Local → Option (ℕ × ℕ)
local_store job None = None
local_store job (Some local) = store_by_instr local.1 (slice_get job.code local.0)

-- ---- in a step of all

-- cells are named by arrays alone
abbrev pub NamesArrays : Operands → Type 0
NamesArrays (TargetPlace target (Cell index)) = ⊥
NamesArrays (PlaceValue (Cell index) value) = ⊥
NamesArrays operands = Unit {0}

abbrev pub NamesByArray : Instr → Type 0
NamesByArray instr = NamesArrays (row_of instr).1

abbrev pub IsNamedAt : JobData → Local → Type 0
IsNamedAt job None = Unit {0}
IsNamedAt job (Some local) =
    (instr : Instr) → slice_get job.code local.0 ≡ Some instr → NamesByArray instr

-- after a step the processor is there where it went by itself, and it wrote what it stored alone
pub record FollowsByItself (job : JobData) (state : State) (i : ℕ) (local : Local)
    (store : Option (ℕ × ℕ))
    :
    Type 0 where
  pub local_is : IsLocal job (next_state job state) i local
  pub wrote : (cell value : ℕ) → cell < job.cells →
      (request_in job state i).put ≡ Some (cell, value) → store ≡ Some (cell, value)
  pub stored : (cell value : ℕ) → cell < job.cells →
      store ≡ Some (cell, value) → (request_in job state i).put ≡ Some (cell, value)

-- Each processor does in a step what it does by itself, with the memory before.
abbrev pub EachByItself : Type 0
EachByItself = (job : JobData) (state : State) (i : ℕ) (local : Local) → IsJob job →
    length state ≡ place_count job → i < job.procs → IsLocal job state i local →
    IsNamedAt job local →
    FollowsByItself job state i (next_local job (memory_of job state) i local)
    (local_store job local)

-- After t steps, none of which is in conflict, memory is this, and each processor is there.
pub record StandsAfter (job : JobData) (t : ℕ) (memory : ℕ → ℕ) (locals : ℕ → Local) : Type 0 where
  pub reached : IsReached job t
  pub memory_is : memory_of job (state_after job t) ≡ memory
  pub locals_are : (i : ℕ) → i < job.procs → IsLocal job (state_after job t) i (locals i)

-- ---- straight code

-- an instruction with these operands gives a register a value, and stores and jumps nowhere
abbrev pub GivesRegister : Operands → Type 0
GivesRegister Bare = ⊥
GivesRegister (Target target) = Unit {0}
GivesRegister (TargetNumber target number) = Unit {0}
GivesRegister (TargetPlace target (Cell index)) = ⊥
GivesRegister (TargetPlace target (Named array index)) = Unit {0}
GivesRegister (TargetTwo target a b) = Unit {0}
GivesRegister (PlaceValue place value) = ⊥
GivesRegister (RegisterIndex register index) = ⊥
GivesRegister (Index index) = ⊥

abbrev pub IsStraight : Instr → Type 0
IsStraight instr = GivesRegister (row_of instr).1

abbrev pub AreStraight : List Instr → Type 0
AreStraight [] = Unit {0}
AreStraight (one ∷ code) = IsStraight one × AreStraight code

-- the code of the job has this code at a place
abbrev pub HasCodeAt : JobData → ℕ → List Instr → Type 0
HasCodeAt job at [] = Unit {0}
HasCodeAt job at (one ∷ code) = (slice_get job.code at ≡ Some one) × HasCodeAt job (at + 1) code

-- Processors that stand before straight code stand after it so many steps later, with what it
-- leaves in their registers, or are out of range; and memory is what it was.
abbrev pub StraightCodeRuns : Type 0
StraightCodeRuns = (job : JobData) (t at : ℕ) (memory : ℕ → ℕ) (code : List Instr)
    (held : ℕ → Option Registers) → IsJob job → AreStraight code → HasCodeAt job at code →
    StandsAfter job t memory (λ i. standing_at at (held i)) →
    StandsAfter job (t + length code) memory
    (λ i. standing_at (at + length code) (option_and_then (after_all memory i code) (held i)))

-- the code of an expression stores and jumps nowhere
abbrev pub ExpressionsAreStraight : Type 0
ExpressionsAreStraight = (layout : ProgramLayoutData) (at : ℕ) (tree : Tree) →
    AreStraight (value_code layout at tree)

-- Steps that do nothing keep all that processors have.
abbrev pub IdlingStays : Type 0
IdlingStays = (job : JobData) (t at count : ℕ) (memory : ℕ → ℕ) (held : ℕ → Registers) →
    IsJob job → HasCodeAt job at (no_code at count) →
    StandsAfter job t memory (λ i. Some (at, held i)) →
    StandsAfter job (t + count) memory (λ i. Some (at + count, held i))

-- ---- stores

-- no two of them are against the rule
abbrev pub StoresAgree : JobData → (ℕ → Option (ℕ × ℕ)) → Type 0
StoresAgree job stores = (cell i j v w : ℕ) → i < job.procs → j < job.procs →
    stores i ≡ Some (cell, v) → stores j ≡ Some (cell, w) → Forbids job.rule i v j w → ⊥

-- what a cell holds after these stores: each takes the value of its least writer
abbrev pub after_stores : ℕ → (ℕ → Option (ℕ × ℕ)) → (ℕ → ℕ) → ℕ → ℕ
after_stores procs stores memory cell =
    unwrap_or (first_below procs (λ i. given_to cell (stores i))) (memory cell)

-- A step in which processors store as the rule allows.
abbrev pub StoresAreMade : Type 0
StoresAreMade = (job : JobData) (t : ℕ) (memory : ℕ → ℕ) (locals : ℕ → Local) → IsJob job →
    StandsAfter job t memory locals →
    ((i : ℕ) → i < job.procs → IsNamedAt job (locals i)) →
    StoresAgree job (λ i. local_store job (locals i)) →
    (now : ℕ → ℕ) × StandsAfter job (suc t) now (λ i. next_local job memory i (locals i))
    × ((cell : ℕ) → cell < job.cells →
    now cell ≡ after_stores job.procs (λ i. local_store job (locals i)) memory cell)
