-- What a processor asks for by its own counter and registers, and the cell that it reads.
use Rattle.std.proofs.Common.{◌≡◌, ℕ, zero, suc, ◌<◌, List, [], ◌∷◌, length, false}
use Rattle.std.proofs.Common.{map, slice_index, slice_get, Option, Some, None}
use Rattle.std.proofs.Common.{refl, sym, ap, ◌∙◌, arith}
use Rattle.std.specs.List.{AllByRecursion}
use Rattle.pram_job.specs.Job.{JobData, IsJob}
use Rattle.pram_job.specs.declared.instr.Instr.{Instr}
use Rattle.pram_job.specs.declared.instr.Operands.{Operands}
use Rattle.pram_job.specs.declared.instr.Operands.TheVariants.{Bare, Target, TargetNumber}
use Rattle.pram_job.specs.declared.instr.Operands.TheVariants.{TargetPlace, TargetTwo, PlaceValue}
use Rattle.pram_job.specs.declared.instr.Operands.TheVariants.{RegisterIndex, Index}
use Rattle.pram_job.specs.Instructions.{row_of}
use Rattle.pram_machine.specs.Instructions.{decided_in, goes_to}
use Rattle.pram_machine.specs.Instructions.{operand_held, operand_in, read_at, request_in}
use Rattle.pram_machine.specs.Instructions.{sources_of}
use Rattle.pram_machine.specs.Machine.{counter, register}
use Rattle.pram_machine.proofs.Shapes.{instr_is}
use Rattle.pram_step.specs.Runs.{state_after}
use Rattle.walkx.proofs.TaskAsking.{sources_fit}
use Rattle.walk_memory.specs.declared.memo.Own.{Own}
use Rattle.walk_memory.specs.Memory.{all_registers, asked, asked_by, cell_named, cell_next, is_load}
use Rattle.walk_memory.specs.Memory.{is_load_row, loads_next, own_at}

-- ---- the operands of an instruction

pub one_of : (f : ℕ → ℕ) (r : ℕ) → r < 4 → slice_index (map f all_registers) r ≡ f r
one_of f zero low = refl
one_of f (suc zero) low = refl
one_of f (suc (suc zero)) low = refl
one_of f (suc (suc (suc zero))) low = refl
one_of f (suc (suc (suc (suc r)))) low = absurd (omega (arith, low))

all_of : (f : ℕ → ℕ) (rs : List ℕ) → AllByRecursion (λ r. r < 4) rs →
    map (slice_index (map f all_registers)) rs ≡ map f rs
all_of f [] low = refl
all_of f (r ∷ rs) low = rw (one_of f r low.0, all_of f rs low.1) refl

pub operand_is : (job : JobData) (i x : ℕ) (instr : Instr) (which : ℕ) →
    AllByRecursion (λ r. r < 4) (sources_of instr) →
    operand_in (own_at job x i).registers instr which
    ≡ operand_held job (state_after job x) i instr which
operand_is job i x instr which low = ap (λ (values : List ℕ). slice_index values which)
    (all_of (register job (state_after job x) i) (sources_of instr) low)

-- ---- what it asks for

module _ (job : JobData) (i x : ℕ) (limits : IsJob job) where
  -- what the cell holds that it reads, or 0
  abbrev pub value_of : Option ℕ → ℕ
  value_of o = elim o [ None ↦ 0 | Some cell ↦ slice_index (state_after job x) cell ]

  -- the cell having held this, what it asks for in the machine
  pub asked_is : asked job i (own_at job x i) (value_of (cell_next job (own_at job x i)))
      ≡ request_in job (state_after job x) i
  unfolding request_in
  asked_is = by (slice_get job.code (counter job (state_after job x) i)) refl
    where
      own : Own
      own = own_at job x i

      by : (o : Option Instr) → slice_get job.code (counter job (state_after job x) i) ≡ o →
          asked_by job i own o (value_of (cell_named job own o)) ≡ elim o [
            | None ↦ goes_to (counter job (state_after job x) i)
            | Some instr ↦ decided_in job (state_after job x) i instr
          ]
      by None e = refl
      by (Some instr) e =
          let low = sources_fit job.cells (length job.code) instr
          (instr_is job (counter job (state_after job x) i) instr limits e) in
          rw (operand_is job i x instr 0 low, operand_is job i x instr 1 low) refl

  -- where it loads nothing, whatever it has heard
  no_cell : (instr : Instr) (a : ℕ) (row : Operands) → is_load_row row ≡ false →
      read_at job row a ≡ None
  no_cell instr a Bare none = refl
  no_cell instr a (Target r) none = refl
  no_cell instr a (TargetNumber r k) none = refl
  no_cell instr a (TargetPlace r place) none = absurd (cc)
  no_cell instr a (TargetTwo r s c) none = refl
  no_cell instr a (PlaceValue place c) none = refl
  no_cell instr a (RegisterIndex r index) none = refl
  no_cell instr a (Index index) none = refl

  pub none_next : (own : Own) → loads_next job own ≡ false → cell_next job own ≡ None
  none_next own none = by (slice_get job.code own.counter) none
    where
      by : (o : Option Instr) → is_load o ≡ false → cell_named job own o ≡ None
      by None e = refl
      by (Some instr) e = no_cell instr (operand_in own.registers instr 0) (row_of instr).1 e

  pub alone_is : loads_next job (own_at job x i) ≡ false →
      asked job i (own_at job x i) 0 ≡ request_in job (state_after job x) i
  alone_is none = ap (λ (o : Option ℕ). asked job i (own_at job x i) (value_of o))
      (sym (none_next (own_at job x i) none)) ∙ asked_is
