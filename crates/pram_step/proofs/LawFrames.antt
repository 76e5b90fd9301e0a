-- A request depends on its processor's own places and on one cell at most.
use Rattle.std.proofs.Common.{◌≡◌, ℕ, ◌<◌, List, [], ◌∷◌, ◌++◌, map}
use Rattle.std.proofs.Common.{length, Option, Some, None, refl, sym, ap, ap₂, subst, ◌∙◌, arith}
use Rattle.std.specs.Prelude.{slice_get, slice_index}
use Rattle.std.proofs.lemmas.List.{map-append}
use Rattle.std.proofs.lemmas.Option.{none-some}
use Rattle.pram_job.specs.declared.instr.Instr.{Instr}
use Rattle.pram_job.specs.declared.instr.Instr.TheVariants.{Set, Pid, Ld, St, Jz, Jmp, Halt}
use Rattle.pram_job.specs.declared.instr.Operand.{Operand}
use Rattle.pram_job.specs.declared.instr.Operand.TheVariants.{Register, Number}
use Rattle.pram_job.specs.declared.instr.Place.{Place}
use Rattle.pram_job.specs.declared.instr.Place.TheVariants.{Cell, Named}
use Rattle.pram_job.specs.Instructions.{IsOperand, IsPlace}
use Rattle.pram_job.specs.Job.{JobData, IsJob, IsInstr}
use Rattle.pram_machine.specs.declared.requests.Request.{Request}
use Rattle.pram_machine.specs.Machine.{State, register, counter}
use Rattle.pram_machine.specs.Instructions.{registers_in, index_of, sources_of, cell_read, goes_to}
use Rattle.pram_machine.specs.Instructions.{decided}
use Rattle.pram_machine.specs.Instructions.{operand_held, cell_held, decided_in, request_in}
use Rattle.pram_step.specs.Laws.{SameOwn}
use Rattle.pram_machine.proofs.Shapes.{instr_is, reached_below}

-- what processor i asks for in s it asks for in each state that holds the same in its own places
-- and in one cell
abbrev pub ReadsOneCell : JobData → State → ℕ → (State → Request) → Type 0
ReadsOneCell job s i request = (cell : ℕ) × (cell < job.cells) × ((t : State) → SameOwn job s t i →
    slice_index s cell ≡ slice_index t cell → request s ≡ request t)

-- the registers that are read are the same
abbrev SameRegisters : JobData → State → State → ℕ → List ℕ → Type 0
SameRegisters job s t i rs = map (register job s i) rs ≡ map (register job t i) rs

-- the cell that is read is one of the job's
cell_within : (job : JobData) (instr : Instr) (a cell : ℕ) →
    IsInstr job.cells (length job.code) instr → cell_read job instr a ≡ Some cell → cell < job.cells
cell_within job (Ld r place) a cell is e = reached_below job place _ cell is.1 e
cell_within job Halt a cell is e = absurd (none-some cell e)
cell_within job _ a cell is e = absurd (none-some cell e)

module _ (job : JobData) (s : State) (i : ℕ) (cell_zero : 0 < job.cells) where
  operand_same : (t : State) (operand : Operand) → IsOperand operand → SameOwn job s t i →
      SameRegisters job s t i (registers_in operand)
  operand_same t (Register r) is own = λ k. own.registers r is k ∷ []
  operand_same t (Number n) is own = refl

  index_is : (place : Place) → IsPlace job.cells place → IsOperand (index_of place)
  index_is (Cell index) is = is
  index_is (Named array index) is = is.1

  both_same : (t : State) (first second : List ℕ) → SameRegisters job s t i first →
      SameRegisters job s t i second → SameRegisters job s t i (first ++ second)
  both_same t first second a b = map-append (register job s i) first second
      ∙ ap₂ (λ xs ys. xs ++ ys) a b ∙ sym (map-append (register job t i) first second)

  operands_same : (t : State) (instr : Instr) → IsInstr job.cells (length job.code) instr →
      SameOwn job s t i → SameRegisters job s t i (sources_of instr)
  operands_same t (Set r k) is own = refl
  operands_same t (Pid r) is own = refl
  operands_same t (Ld r place) is own = operand_same t (index_of place) (index_is place is.1) own
  operands_same t (St place b) is own =
      both_same t (registers_in (index_of place)) (registers_in b)
      (operand_same t (index_of place) (index_is place is.0) own) (operand_same t b is.1 own)
  operands_same t (Jz r place) is own = λ k. own.registers r is.0 k ∷ []
  operands_same t (Jmp place) is own = refl
  operands_same t Halt is own = refl
  operands_same t _ is own = λ k. own.registers _ is.1 k ∷ operand_same t _ is.2 own k

  abbrev held_by : State → Option ℕ → ℕ
  held_by q cell = elim cell [ None ↦ 0 | Some c ↦ slice_index q c ]

  decided_reads : (instr : Instr) → IsInstr job.cells (length job.code) instr →
      ReadsOneCell job s i (λ q. decided_in job q i instr)
  decided_reads instr is = by_cell (cell_read job instr (operand_held job s i instr 0)) refl
    where
      same_but : (t : State) (cell : Option ℕ) →
          cell_read job instr (operand_held job s i instr 0) ≡ cell → SameOwn job s t i →
          held_by s cell ≡ held_by t cell → decided_in job s i instr ≡ decided_in job t i instr
      same_but t cell e own held =
          let registers = operands_same t instr is own in
          let cells : cell_held job s instr (operand_held job s i instr 0)
          ≡ cell_held job t instr (operand_held job t i instr 0) =
          subst (λ (o : Option ℕ). held_by s o ≡ held_by t o) (sym e) held
          ∙ ap (λ (values : List ℕ). cell_held job t instr (slice_index values 0)) registers in
          λ k. decided job i (own.counters k) instr (slice_index (registers k) 0)
          (slice_index (registers k) 1) (cells k)

      by_cell : (cell : Option ℕ) → cell_read job instr (operand_held job s i instr 0) ≡ cell →
          ReadsOneCell job s i (λ q. decided_in job q i instr)
      by_cell None e = (0, cell_zero, λ t own held. same_but t None e own refl)
      by_cell (Some cell) e =
          (cell, cell_within job instr _ cell is e, λ t own held. same_but t (Some cell) e own held)

  fetched_reads : (o : Option Instr) →
      ((instr : Instr) → o ≡ Some instr → IsInstr job.cells (length job.code) instr) → ReadsOneCell job s i
      (λ q. elim o [ None ↦ goes_to (counter job q i) | Some instr ↦ decided_in job q i instr ])
  fetched_reads None is = (0, cell_zero, λ t own held. ap goes_to own.counters)
  fetched_reads (Some instr) is = decided_reads instr (is instr refl)

pub reads_one_cell : (job : JobData) (s : State) (i : ℕ) → IsJob job →
    ReadsOneCell job s i (λ q. request_in job q i)
unfolding request_in
reads_one_cell job s i is_job =
    let cell_zero : 0 < job.cells = omega (arith, is_job.cells.0) in
    let fetched = fetched_reads job s i cell_zero (slice_get job.code (counter job s i))
    (λ instr. instr_is job (counter job s i) instr is_job) in (
      fetched.0,
      fetched.1,
      λ t own e. fetched.2 t own e
          ∙ ap (λ (c : ℕ). elim (slice_get job.code c) as (λ (o : Option Instr). Request) [
            | None ↦ goes_to (counter job t i)
            | Some instr ↦ decided_in job t i instr
          ]) own.counters,
    )
