-- What a processor does in a step, by the instruction at which it stands.
use Rattle.std.proofs.Common.{◌≡◌, ℕ, ◌/◌, ◌%◌, ◌<◌, ◌≤◌, Bool, true, cond, length, Option, Some, None}
use Rattle.std.proofs.Common.{refl, sym, ap, ◌∙◌, arith}
use Rattle.std.specs.Prelude.{slice_get}
use Rattle.std.specs.Option.{option_map}
use Rattle.std.proofs.lemmas.Bool.{lt-ltb, le-ltb}
use Rattle.std.proofs.lemmas.Option.{same_Some, slice_get_within}
use Rattle.pram_job.specs.declared.instr.Instr.{Instr}
use Rattle.pram_job.specs.declared.instr.Instr.TheVariants.{Div, Rem, Ld, St, Jz, Jmp, Halt}
use Rattle.pram_job.specs.declared.instr.Operand.{Operand}
use Rattle.pram_job.specs.declared.instr.Place.{Place}
use Rattle.pram_job.specs.Job.{JobData}
use Rattle.pram_machine.specs.declared.requests.Request.{Request}
use Rattle.pram_machine.specs.declared.turn.Put.{Put}
use Rattle.pram_machine.specs.declared.turn.Put.TheVariants.{Nothing, Register, Cell}
use Rattle.pram_machine.specs.Instructions.{cell_of, cell_read, decided, gives, within}
use Rattle.pram_machine.specs.Instructions.{divided, operand_held, value_of}
use Rattle.pram_machine.specs.Machine.{State, counter, halted, out_of_range, register_place}
use Rattle.pram_machine.specs.Turns.{put_of, IsSorted}
use Rattle.pram_machine.proofs.Shapes.{request_by}
use Rattle.pram_cost.specs.declared.access.Visit.TheVariants.{Stopped, Elsewhere, Reads, Writes}
use Rattle.pram_cost.specs.declared.meeting.Sharing.TheVariants.{SameRead, SameWrite}
use Rattle.pram_cost.specs.Accesses.{cell_by, put_to_cell, cell_read_by, write_by}
use Rattle.pram_step.specs.Running.{is_running}
use Rattle.pram_cost.specs.Inner.Found.{IsVisit}
use Rattle.pram_cost.specs.Meetings.{access_by}
use Rattle.pram_cost.proofs.Accessing.{idle_access}

-- ---- which instructions go to cells

pub reads_by_load : (job : JobData) (instr : Instr) (first : ℕ) →
    ((r : ℕ) (place : Place) → instr ≡ Ld r place → ⊥) → cell_read job instr first ≡ None
reads_by_load job (Ld r place) first other = absurd (other r place refl)
reads_by_load job _ first other = refl

module _ (job : JobData) (i next a b v : ℕ) where
  -- a register is no cell
  to_register : (r value : ℕ) → put_to_cell job (gives job i next r value).put ≡ None
  to_register r value =
      ap (λ (test : Bool). cond test (Some (register_place job i r, value)) None)
      (le-ltb (register_place job i r) job.cells (omega arith))

  of_load : (o : Option ℕ) (r : ℕ) →
      put_to_cell job (within o (out_of_range job) (λ cell. gives job i next r v)).put ≡ None
  of_load None r = refl
  of_load (Some cell) r = to_register r v

  of_division : (o : Option ℕ) (r : ℕ) →
      put_to_cell job (within o (out_of_range job) (gives job i next r)).put ≡ None
  of_division None r = refl
  of_division (Some value) r = to_register r value

  pub puts_by_store : (instr : Instr) →
      ((place : Place) (value : Operand) → instr ≡ St place value → ⊥) →
      put_to_cell job (decided job i next instr a b v).put ≡ None
  unfolding decided
  puts_by_store (St place value) other = absurd (other place value refl)
  puts_by_store (Ld r place) other = of_load (cell_of job place a) r
  puts_by_store (Div r _ c) other = of_division (divided (value_of c b) (a / value_of c b)) r
  puts_by_store (Rem r _ c) other = of_division (divided (value_of c b) (a % value_of c b)) r
  puts_by_store (Jz r index) other = refl
  puts_by_store (Jmp index) other = refl
  puts_by_store Halt other = refl
  puts_by_store _ other = to_register _ _

-- what is sorted as a cell goes to a cell
abbrev cell_in : Put → Option (ℕ × ℕ)
cell_in Nothing = None
cell_in (Register place value) = None
cell_in (Cell cell value) = Some (cell, value)

pub sorted_put : (job : JobData) (put : Put) → IsSorted job put →
    put_to_cell job (put_of put) ≡ cell_in put
sorted_put job Nothing sorted = refl
sorted_put job (Register place value) sorted =
    ap (λ (test : Bool). cond test (Some (place, value)) None) (le-ltb place job.cells sorted)
sorted_put job (Cell cell value) sorted =
    ap (λ (test : Bool). cond test (Some (cell, value)) None) (lt-ltb cell job.cells sorted)

-- a cell that is read, as an access
abbrev as_access : Option ℕ → Option (ℕ × ℕ)
as_access o = option_map (λ (cell : ℕ). (cell, 0)) o

-- ---- where a processor stands

pub visit_stopped : (job : JobData) (s : State) (i : ℕ) → length job.code ≤ counter job s i →
    IsVisit job s i Stopped
visit_stopped job s i past =
    let stopped = le-ltb (counter job s i) (halted job) past in record {
      runs = stopped;
      reads = idle_access SameRead job s i stopped;
      writes = idle_access SameWrite job s i stopped;
      inside = tt;
    }

module _ (job : JobData) (s : State) (i : ℕ) (instr : Instr)
    (at : slice_get job.code (counter job s i) ≡ Some instr) where
  runs_there : is_running job s i ≡ true
  runs_there =
      lt-ltb (counter job s i) (halted job) (slice_get_within job.code (counter job s i) instr at)

  no_read : ((r : ℕ) (place : Place) → instr ≡ Ld r place → ⊥) → cell_read_by job s i ≡ None
  no_read other = ap (cell_by job s i) at
      ∙ reads_by_load job instr (operand_held job s i instr 0) other

  no_write : ((place : Place) (value : Operand) → instr ≡ St place value → ⊥) →
      write_by job s i ≡ None
  no_write other = request_by (λ (r : Request). put_to_cell job r.put ≡ None) job s i refl
      (λ found is. puts_by_store job i _ _ _ _ found (λ place value store.
      other place value (same_Some instr found (sym at ∙ is) ∙ store)))

  -- what it reads, as an access
  read_access : (o : Option ℕ) → cell_read_by job s i ≡ o → access_by SameRead job s i ≡ as_access o
  read_access o is = ap as_access is

  pub visit_reads : (r : ℕ) (place : Place) → instr ≡ Ld r place → (cell : ℕ) →
      cell_read_by job s i ≡ Some cell → cell < job.cells → IsVisit job s i (Reads cell)
  visit_reads r place is cell reads low = record {
    runs = runs_there;
    reads = read_access (Some cell) reads;
    writes = no_write (λ place' value store. (cc));
    inside = low;
  }

  pub visit_no_read : (r : ℕ) (place : Place) → instr ≡ Ld r place → cell_read_by job s i ≡ None →
      IsVisit job s i Elsewhere
  visit_no_read r place is none = record {
    runs = runs_there;
    reads = read_access None none;
    writes = no_write (λ place' value store. (cc));
    inside = tt;
  }

  pub visit_writes : (place : Place) (b : Operand) → instr ≡ St place b → (cell value : ℕ) →
      write_by job s i ≡ Some (cell, value) → cell < job.cells →
      IsVisit job s i (Writes cell value)
  visit_writes place b is cell value writes low = record {
    runs = runs_there;
    reads = read_access None (no_read (λ r place' load. (cc)));
    writes = writes;
    inside = low;
  }

  pub visit_no_write : (place : Place) (b : Operand) → instr ≡ St place b →
      write_by job s i ≡ None → IsVisit job s i Elsewhere
  visit_no_write place b is none = record {
    runs = runs_there;
    reads = read_access None (no_read (λ r place' load. (cc)));
    writes = none;
    inside = tt;
  }

  pub visit_elsewhere : ((r : ℕ) (place : Place) → instr ≡ Ld r place → ⊥) →
      ((place : Place) (b : Operand) → instr ≡ St place b → ⊥) → IsVisit job s i Elsewhere
  visit_elsewhere no_load no_store = record {
    runs = runs_there;
    reads = read_access None (no_read no_load);
    writes = no_write no_store;
    inside = tt;
  }
