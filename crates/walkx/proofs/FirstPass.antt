-- What the first pass asks for, by whether a cell is read.
use Rattle.std.proofs.Common.{◌≡◌, ℕ, true, false, Option, Some, None, slice_get}
use Rattle.std.proofs.Common.{refl, sym, subst, ◌∙◌}
use Rattle.std.specs.Prelude.{is_some}
use Rattle.pram_job.specs.declared.instr.Instr.{Instr}
use Rattle.pram_job.specs.declared.instr.Operands.{Operands}
use Rattle.pram_job.specs.declared.instr.Operands.TheVariants.{Bare, Target, TargetNumber}
use Rattle.pram_job.specs.declared.instr.Operands.TheVariants.{TargetPlace, TargetTwo, PlaceValue}
use Rattle.pram_job.specs.declared.instr.Operands.TheVariants.{RegisterIndex, Index}
use Rattle.pram_job.specs.Instructions.{row_of}
use Rattle.pram_job.specs.Job.{JobData}
use Rattle.pram_machine.specs.declared.requests.Request.{Request}
use Rattle.pram_machine.specs.Instructions.{operand_in, read_at}
use Rattle.walk_memory.specs.declared.memo.Memo.{Memo}
use Rattle.walk_memory.specs.declared.memo.Own.{Own}
use Rattle.walkx.specs.Driving.{Standing}
use Rattle.walk_memory.specs.Inner.Posts.{PostData}
use Rattle.walk_memory.specs.Memory.{at_start, cell_named, cell_next, is_load, is_load_row}
use Rattle.walk_memory.specs.Memory.{settles_in}
use Rattle.walkx.specs.Parts.{reads}
use Rattle.walkx.specs.Scripts.{Script}
use Rattle.walkx.specs.Walk.{Then}
use Rattle.walkx.specs.WideParts.{asked_with, claimed_cell, does_own_by, learned, made_after}
use Rattle.walkx.specs.WideParts.{own_written, reads_next, store_claimed}
use Rattle.walkx.proofs.Claimed.{claims_none}
use Rattle.walk_memory.proofs.GoingAlone.{settles_by}

-- ---- a load, and other instructions

no_read : (job : JobData) (o : Operands) (held : ℕ) → is_load_row o ≡ false →
    read_at job o held ≡ None
no_read job Bare held e = refl
no_read job (Target r) held e = refl
no_read job (TargetNumber r k) held e = refl
no_read job (TargetPlace r place) held e = absurd (cc)
no_read job (TargetTwo r s c) held e = refl
no_read job (PlaceValue place c) held e = refl
no_read job (RegisterIndex r index) held e = refl
no_read job (Index index) held e = refl

pub reads_none : (job : JobData) (own : Own) (instr : Instr) → is_load (Some instr) ≡ false →
    cell_named job own (Some instr) ≡ None
reads_none job own instr e = no_read job (row_of instr).1 (operand_in own.registers instr 0) e

read_loads : (job : JobData) (o : Operands) (held cell : ℕ) → read_at job o held ≡ Some cell →
    is_load_row o ≡ true
read_loads job Bare held cell e = absurd (cc)
read_loads job (Target r) held cell e = absurd (cc)
read_loads job (TargetNumber r k) held cell e = absurd (cc)
read_loads job (TargetPlace r place) held cell e = refl
read_loads job (TargetTwo r s c) held cell e = absurd (cc)
read_loads job (PlaceValue place c) held cell e = absurd (cc)
read_loads job (RegisterIndex r index) held cell e = absurd (cc)
read_loads job (Index index) held cell e = absurd (cc)

pub loads_some : (job : JobData) (own : Own) (instr : Instr) (cell : ℕ) →
    cell_named job own (Some instr) ≡ Some cell → is_load (Some instr) ≡ true
loads_some job own instr cell e =
    read_loads job (row_of instr).1 (operand_in own.registers instr 0) cell e

-- ---- it stands at an instruction

module _ (job : JobData) (own : Own) (instr : Instr)
    (some : slice_get job.code own.counter ≡ Some instr)
  where
    pub next_is : cell_next job own ≡ cell_named job own (Some instr)
    next_is = rw some refl

    pub settles_reading : (t since cell : ℕ) → cell_named job own (Some instr) ≡ Some cell →
        settles_in job t since own ≡ true
    settles_reading t since cell reads =
        settles_by job own instr some t since ∙ rw (loads_some job own instr cell reads) refl

    pub reads_some : (cell : ℕ) → cell_named job own (Some instr) ≡ Some cell →
        true ≡ is_some (cell_next job own)
    reads_some cell reads = rw (some, reads) refl

-- ---- what is asked for is made

module _ {D : Type 0} (stands : Standing D) (at : PostData) (memo : Memo) (instr : Instr)
    (from : D × Script Then) (next : Memo → Script Then) where
  abbrev Asked : D → Script Then → Type 0
  Asked d script = stands from d (Some script)

  abbrev pub made : Request → Script Then
  made request = made_after at.job.rule at next memo request

  abbrev pub made_with : ℕ → Script Then
  made_with value = made (asked_with at memo (Some instr) value)

  -- once the store is claimed
  abbrev pub claimed : Request → Unit {0} → Script Then
  claimed request done =
      own_written at memo request (next memo) (λ done. next (learned at memo request))

  pub reads_first : (d : D) (cell : ℕ) → cell_named at.job memo.own (Some instr) ≡ Some cell →
      (after : Script Then) → Asked d (does_own_by at memo (Some instr) after next) →
      Asked d (reads at cell (next at_start) made_with)
  reads_first d cell some after here =
      subst (λ (o : Option ℕ). Asked d (reads_next at o (next at_start) made_with)) some here

  pub loads_then : (d : D) (value : ℕ) (request : Request) →
      request ≡ asked_with at memo (Some instr) value →
      claimed_cell at.job.rule at.job request ≡ None → Asked d (made_with value) →
      Asked d (claimed request tt)
  loads_then d value request is none here =
      subst (Asked d) (claims_none at request (next memo) (claimed request) at.job.rule none)
      (subst (λ (r : Request). Asked d (made r)) (sym is) here)

  pub decides_first : (d : D) (request : Request) → request ≡ asked_with at memo (Some instr) 0 →
      cell_named at.job memo.own (Some instr) ≡ None → (after : Script Then) →
      Asked d (does_own_by at memo (Some instr) after next) →
      Asked d (store_claimed at.job.rule at request (next memo) (claimed request))
  decides_first d request is none after here =
      subst (λ (r : Request). Asked d (made r)) (sym is)
      (subst (λ (o : Option ℕ). Asked d (reads_next at o (next at_start) made_with)) none here)
