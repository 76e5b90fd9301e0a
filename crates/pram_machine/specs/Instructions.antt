-- The table of instructions, and what a processor asks for in a state.
use Rattle.std.specs.Prelude.{◌≡◌, ℕ, zero, suc, ◌+◌, ◌-◌, ◌*◌, ◌/◌, ◌%◌, ◌^◌}
use Rattle.std.specs.Prelude.{◌<◌, ◌≤◌, ◌==◌, nat_lt, if◌then◌else◌, List, [], ◌∷◌, ◌++◌, map}
use Rattle.std.specs.Prelude.{slice_get, slice_index, Option, Some, None, bit_and, bit_or, bit_xor}
use Rattle.std.specs.List.{range_with_len}
use Rattle.pram_job.specs.declared.instr.Instr.{Instr}
use Rattle.pram_job.specs.declared.instr.Instr.TheVariants.{Set, Pid, Add, Sub, Mul, And, Or, Xor}
use Rattle.pram_job.specs.declared.instr.Instr.TheVariants.{Lt, Eq, Shl, Shr, Div, Rem, Ld}
use Rattle.pram_job.specs.declared.instr.Instr.TheVariants.{St, Jz, Jmp, Halt}
use Rattle.pram_job.specs.declared.instr.Operand.{Operand}
use Rattle.pram_job.specs.declared.instr.Operand.TheVariants.{Register, Number}
use Rattle.pram_job.specs.declared.instr.Place.{Place}
use Rattle.pram_job.specs.declared.instr.Place.TheVariants.{Cell, Named}
use Rattle.pram_job.specs.declared.instr.Operands.{Operands}
use Rattle.pram_job.specs.declared.instr.Operands.TheVariants.{Bare, Target, TargetNumber}
use Rattle.pram_job.specs.declared.instr.Operands.TheVariants.{TargetPlace, TargetTwo, PlaceValue}
use Rattle.pram_job.specs.declared.instr.Operands.TheVariants.{RegisterIndex, Index}
use Rattle.pram_job.specs.Instructions.{row_of}
use Rattle.pram_job.specs.Job.{JobData}
use Rattle.pram_machine.specs.declared.instructions.Sources.{Sources}
use Rattle.pram_machine.specs.declared.instructions.Sources.TheVariants as sources
use Rattle.pram_machine.specs.declared.requests.Request.{Request}
use Rattle.pram_machine.specs.Machine.{State, register_place, IsDataPlace, register}
use Rattle.pram_machine.specs.Machine.{counter, halted, out_of_range}

-- ---- operands

-- the register of an operand, if it has one
abbrev pub registers_in : Operand → List ℕ
registers_in (Register register) = register ∷ []
registers_in (Number number) = []

-- the value of an operand, where its register holds this
abbrev pub value_of : Operand → ℕ → ℕ
value_of (Register register) held = held
value_of (Number number) held = number

-- what the register of the operand after this one holds, of the first and the second that are read
abbrev pub held_after : Operand → ℕ → ℕ → ℕ
held_after (Register register) first second = second
held_after (Number number) first second = first

abbrev pub index_of : Place → Operand
index_of (Cell index) = index
index_of (Named array index) = index

-- the cell of a place with this index, if there is one
abbrev pub reached : JobData → Place → ℕ → Option ℕ
reached job (Cell _) index = if nat_lt index job.cells then Some index else None
reached job (Named array _) index =
    if nat_lt index array.len then Some (array.base + index) else None

-- the cell of a place, where the register of its index holds this
abbrev pub cell_of : JobData → Place → ℕ → Option ℕ
cell_of job place held = reached job place (value_of (index_of place) held)

-- ---- the table

-- the registers that are read, in the order in which they are written
abbrev pub read_by : Operands → List ℕ
read_by Bare = []
read_by (Target target) = []
read_by (TargetNumber target number) = []
read_by (TargetPlace target place) = registers_in (index_of place)
read_by (TargetTwo target first second) = first ∷ registers_in second
read_by (PlaceValue place value) = registers_in (index_of place) ++ registers_in value
read_by (RegisterIndex register index) = register ∷ []
read_by (Index index) = []

abbrev pub sources_of : Instr → List ℕ
sources_of instr = read_by (row_of instr).1

-- the cell that is read, where the first register that is read holds this
abbrev pub read_at : JobData → Operands → ℕ → Option ℕ
read_at job Bare first = None
read_at job (Target target) first = None
read_at job (TargetNumber target number) first = None
read_at job (TargetPlace target place) first = cell_of job place first
read_at job (TargetTwo target a b) first = None
read_at job (PlaceValue place value) first = None
read_at job (RegisterIndex register index) first = None
read_at job (Index index) first = None

abbrev pub cell_read : JobData → Instr → ℕ → Option ℕ
cell_read job instr first = read_at job (row_of instr).1 first

-- a register takes a value
abbrev pub gives : JobData → ℕ → ℕ → ℕ → ℕ → Request
gives job i counter register value =
    record { put = Some (register_place job i register, value); next = counter + 1 }

-- no data, and this next counter
abbrev pub goes_to : ℕ → Request
goes_to next = record { put = None; next = next }

-- what is asked for of a cell or a value, and where there is none the next counter
abbrev pub within : Option ℕ → ℕ → (ℕ → Request) → Request
within None otherwise asks = goes_to otherwise
within (Some found) otherwise asks = asks found

-- shifted by 32 bits or more, nothing is left of a number
abbrev pub shifted : ℕ → ℕ → ℕ
shifted by value = if nat_lt by 32 then value else 0

-- what comes of a division by this number, if it is not 0
abbrev pub divided : ℕ → ℕ → Option ℕ
divided by value = if by == 0 then None else Some value

-- What an instruction computes of two numbers: a division by 0 has no value. Only those with a
-- target and two operands compute.
abbrev pub computed : Instr → ℕ → ℕ → Option ℕ
computed (Add _ _ _) a b = Some ((a + b) % 2 ^ 32)
computed (Sub _ _ _) a b = Some ((a + (2 ^ 32 - b)) % 2 ^ 32)
computed (Mul _ _ _) a b = Some ((a * b) % 2 ^ 32)
computed (And _ _ _) a b = Some (bit_and a b)
computed (Or _ _ _) a b = Some (bit_or a b)
computed (Xor _ _ _) a b = Some (bit_xor a b)
computed (Lt _ _ _) a b = Some (if nat_lt a b then 1 else 0)
computed (Eq _ _ _) a b = Some (if a == b then 1 else 0)
computed (Shl _ _ _) a b = Some (shifted b ((a * 2 ^ b) % 2 ^ 32))
computed (Shr _ _ _) a b = Some (shifted b (a / 2 ^ b))
computed (Div _ _ _) a b = divided b (a / b)
computed (Rem _ _ _) a b = divided b (a % b)
computed (Set _ _) a b = None
computed (Pid _) a b = None
computed (Ld _ _) a b = None
computed (St _ _) a b = None
computed (Jz _ _) a b = None
computed (Jmp _) a b = None
computed Halt a b = None

-- What processor i asks for by an instruction at its counter that has these operands, and computes
-- this of two numbers. The first and the second register that it reads hold these, and the cell
-- that it reads holds this value.
abbrev pub request_with : JobData → ℕ → ℕ → (ℕ → ℕ → Option ℕ) → Operands → ℕ → ℕ → ℕ → Request
request_with job i counter computes Bare first second value = goes_to (halted job)
request_with job i counter computes (Target target) first second value =
    gives job i counter target i
request_with job i counter computes (TargetNumber target number) first second value =
    gives job i counter target number
request_with job i counter computes (TargetPlace target place) first second value =
    within (cell_of job place first) (out_of_range job) (λ cell. gives job i counter target value)
request_with job i counter computes (TargetTwo target _ b) first second value =
    within (computes first (value_of b second)) (out_of_range job) (gives job i counter target)
request_with job i counter computes (PlaceValue place b) first second value =
    within (cell_of job place first) (out_of_range job) (λ cell. record {
      put = Some (cell, value_of b (held_after (index_of place) first second));
      next = counter + 1;
    })
request_with job i counter computes (RegisterIndex _ index) first second value =
    goes_to (if first == 0 then index else counter + 1)
request_with job i counter computes (Index index) first second value = goes_to index

-- what processor i asks for by the instruction at its counter
unfoldable pub decided : JobData → ℕ → ℕ → Instr → ℕ → ℕ → ℕ → Request
decided job i counter instr first second value =
    request_with job i counter (computed instr) (row_of instr).1 first second value

-- ---- in code, and in words

-- the registers in order
abbrev pub listed : Sources → List ℕ
listed sources.None = []
listed (sources.One register) = register ∷ []
listed (sources.Two first second) = first ∷ second ∷ []

-- The parts of a request: the data place plus 1 or 0 for none, the data value, the next counter.
abbrev pub place_part : Request → ℕ
place_part request = elim request.put [ None ↦ 0 | Some write ↦ write.0 + 1 ]

abbrev pub value_part : Request → ℕ
value_part request = elim request.put [ None ↦ 0 | Some write ↦ write.1 ]

abbrev pub part_of : Request → ℕ → ℕ
part_of request zero = place_part request
part_of request (suc zero) = value_part request
part_of request (suc (suc j)) = request.next

-- data goes to a cell or a register of processor i, numbers fit, and the counter goes to an
-- instruction, or the processor stops
pub record HasShape (job : JobData) (i : ℕ) (request : Request) : Type 0 where
  pub data_place : (place value : ℕ) → request.put ≡ Some (place, value) → IsDataPlace job i place
  pub data_value : (place value : ℕ) → request.put ≡ Some (place, value) → value < 2 ^ 32
  pub next : request.next ≤ out_of_range job

-- ---- in a state

-- what a register that an instruction reads holds, these being those of its processor
abbrev pub operand_in : List ℕ → Instr → ℕ → ℕ
operand_in registers instr which =
    slice_index (map (slice_index registers) (sources_of instr)) which

-- what a register that an instruction reads holds, and the cell that it reads
abbrev pub operand_held : JobData → State → ℕ → Instr → ℕ → ℕ
operand_held job state i instr which =
    slice_index (map (register job state i) (sources_of instr)) which

abbrev pub cell_held : JobData → State → Instr → ℕ → ℕ
cell_held job state instr first =
    elim (cell_read job instr first) [ None ↦ 0 | Some cell ↦ slice_index state cell ]

abbrev pub decided_in : JobData → State → ℕ → Instr → Request
decided_in job state i instr =
    decided job i (counter job state i) instr (operand_held job state i instr 0)
    (operand_held job state i instr 1)
    (cell_held job state instr (operand_held job state i instr 0))

-- A processor whose counter is no instruction's index asks for no data and stays.
unfoldable pub request_in : JobData → State → ℕ → Request
request_in job state i =
    elim (slice_get job.code (counter job state i)) [
      | None ↦ goes_to (counter job state i)
      | Some instr ↦ decided_in job state i instr
    ]

-- the requests of all processors, each from the state before the step
unfoldable pub requests_in : JobData → State → List Request
requests_in job state = map (request_in job state) (range_with_len 0 job.procs)
