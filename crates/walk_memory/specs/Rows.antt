-- Processors of a block that stand at one instruction, their registers side by side by number.
use Rattle.std.specs.Prelude.{◌≡◌, ◌+◌, ◌-◌, ◌*◌, ◌<◌, ◌≤◌, ℕ, suc, Bool, true, false, ◌||◌}
use Rattle.std.specs.Prelude.{is_none, if◌then◌else◌, List, slice_index, slice_set, Option, Some}
use Rattle.std.specs.Prelude.{None}
use Rattle.pram_job.specs.declared.instr.Instr.{Instr}
use Rattle.pram_job.specs.declared.instr.Instr.TheVariants.{Div, Rem}
use Rattle.pram_job.specs.declared.instr.Operand.{Operand}
use Rattle.pram_job.specs.declared.instr.Operand.TheVariants.{Register, Number}
use Rattle.pram_job.specs.declared.instr.Place.{Place}
use Rattle.pram_job.specs.Job.{JobData}
use Rattle.pram_machine.specs.Instructions.{index_of, reached}
use Rattle.walk_memory.specs.declared.as_one.Together.{Together}
use Rattle.walk_memory.specs.declared.block.Block.{Block}
use Rattle.walk_memory.specs.declared.memo.Memo.{Memo}
use Rattle.walk_memory.specs.declared.memo.Own.{Own}
use Rattle.walk_memory.specs.declared.span.Span.{Span}
use Rattle.walk_memory.specs.Lanes.{entries, lane}
use Rattle.walk_memory.specs.Memory.{asked_by, goes_alone, gone_on, is_common, one_alone, own_after}
use Rattle.walk_memory.specs.OwnWrites.{cell_write}
use Rattle.walk_memory.specs.Together.{goes_as_far}
use Rattle.walk_memory.specs.Blocks.{reach_from_phase}

-- ---- lanes

-- in each lane from the first to the second of these it is so
abbrev pub AllIn : ℕ → ℕ → (ℕ → Type 0) → Type 0
AllIn start end P = (k : ℕ) → start ≤ k → k < end → P k

-- each of these lanes has its value now, and each other what it had
pub record Written (start end : ℕ) (value : ℕ → ℕ) (old new : List ℕ) : Type 0 where
  pub there : (k : ℕ) → start ≤ k → k < end → slice_index new k ≡ value k
  pub before : (k : ℕ) → k < start → slice_index new k ≡ slice_index old k
  pub after : (k : ℕ) → end ≤ k → slice_index new k ≡ slice_index old k

-- register r of each of these lanes has its value now, and all else is as it was
pub record Puts (start end r : ℕ) (value : ℕ → ℕ) (old new : List (List ℕ)) : Type 0 where
  pub there : (k : ℕ) → start ≤ k → k < end → entries new k ≡ slice_set (entries old k) r (value k)
  pub before : (k : ℕ) → k < start → entries new k ≡ entries old k
  pub after : (k : ℕ) → end ≤ k → entries new k ≡ entries old k

-- ---- instructions

-- what an operand is, these being the registers
abbrev pub held_in : Operand → List ℕ → ℕ
held_in (Register register) registers = slice_index registers register
held_in (Number number) registers = number

-- a division, which has no value where its second operand is 0
abbrev pub divides : Instr → Bool
divides (Div _ _ _) = true
divides (Rem _ _ _) = true
divides _ = false

-- ---- a step alone

-- but for registers and stores, all is as it was
pub record AreSame (old new : Block) : Type 0 where
  pub acted : new.acted ≡ old.acted
  pub step : new.step ≡ old.step
  pub counter : new.counter ≡ old.counter
  pub settled : new.settled ≡ old.settled
  pub told_counter : new.told_counter ≡ old.told_counter
  pub told : new.told ≡ old.told
  pub stored : new.stored ≡ old.stored

-- Under common, each of these lanes has a store of its operand to its cell of the place to carry
-- out; the other lanes, and all else, are as they were.
pub record Stores (job : JobData) (lanes : Span) (place : Place) (b : Operand) (old new : Block) :
    Type 0 where
  pub common : is_common job.rule ≡ true
  pub same : AreSame old new
  pub registers : new.registers ≡ old.registers
  pub there : (k : ℕ) → lanes.start ≤ k → k < lanes.end →
      reached job place (held_in (index_of place) (entries old.registers k))
      ≡ Some (slice_index new.cell k)
  pub below : (k : ℕ) → lanes.start ≤ k → k < lanes.end → slice_index new.cell k < job.cells
  pub cells : Written lanes.start lanes.end (slice_index new.cell) old.cell new.cell
  pub values : Written lanes.start lanes.end (λ k. held_in b (entries old.registers k)) old.value
      new.value

-- The instruction makes this of processor i, and leaves it this store to carry out, for which
-- nothing is claimed.
pub record GoesBy (job : JobData) (i : ℕ) (instr : Instr) (before after : Own)
    (store : Option (ℕ × ℕ)) : Type 0 where
  pub own : after ≡ own_after job i before (asked_by job i before (Some instr) 0)
  pub writes : store ≡ cell_write job (asked_by job i before (Some instr) 0).put
  pub unclaimed : (is_common job.rule || is_none store) ≡ true

-- what lane k has, where all have this counter
abbrev pub own_of : ℕ → Block → ℕ → Own
own_of counter block k = record { counter = counter; registers = entries block.registers k }

-- and its store, where all have one or none has
abbrev pub store_of : Bool → Block → ℕ → Option (ℕ × ℕ)
store_of stored block k =
    if stored then Some (slice_index block.cell k, slice_index block.value k) else None

-- what of lane k is written in a step alone is as it was
pub record SameLane (old new : Block) (k : ℕ) : Type 0 where
  pub registers : entries new.registers k ≡ entries old.registers k
  pub cell : slice_index new.cell k ≡ slice_index old.cell k
  pub value : slice_index new.value k ≡ slice_index old.value k

-- The processors of these lanes go on by this instruction from one place to the other; the other
-- lanes are as they were.
pub record AllGoBy (job : JobData) (lanes : Span) (instr : Instr) (at next : Together)
    (old new : Block) : Type 0 where
  pub step : next.step ≡ suc at.step
  pub settled : next.settled ≡ at.settled
  pub same : AreSame old new
  pub there : (k : ℕ) → lanes.start ≤ k → k < lanes.end → GoesBy job (lanes.first + k) instr
      (own_of at.counter old k) (own_of next.counter new k) (store_of next.stored new k)
  pub before : (k : ℕ) → k < lanes.start → SameLane old new k
  pub after : (k : ℕ) → lanes.end ≤ k → SameLane old new k

-- ---- by what is remembered

-- what is known of lane k, where all stand there, whatever the block says of where they stand
abbrev pub lane_as : Together → Block → ℕ → Memo
lane_as at block k = record {
  acted = slice_index block.acted k;
  step = at.step;
  own = own_of at.counter block k;
  settled = at.settled;
  told = (lane block k).told;
  store = store_of at.stored block k;
}

-- The processors of these lanes, which stand together, make one step alone, and then stand together
-- there; the other lanes are as they were.
pub record AllGo (job : JobData) (lanes : Span) (at next : Together) (old new : Block) : Type 0
  where
    pub step : next.step ≡ suc at.step
    pub one : (k : ℕ) → lanes.start ≤ k → k < lanes.end →
        lane_as next new k ≡ one_alone job (lanes.first + k) (lane_as at old k)
    pub alone : (k : ℕ) → lanes.start ≤ k → k < lanes.end →
        goes_alone job (lanes.first + k) (lane_as at old k) ≡ true
    pub before : (k : ℕ) → k < lanes.start → lane new k ≡ lane old k
    pub after : (k : ℕ) → lanes.end ≤ k → lane new k ≡ lane old k

-- Each of these lanes gets as far as it did before, standing there now; the other lanes are as they
-- were.
pub record FarIn (job : JobData) (lanes : Span) (start at : Together) (old new : Block) : Type 0
  where
    pub later : start.step ≤ at.step
    pub none : at.step ≡ start.step → (at ≡ start) × (new ≡ old)
    pub there : (k : ℕ) → lanes.start ≤ k → k < lanes.end →
        goes_as_far job (lanes.first + k) (lane_as start old k) (lane_as at new k)
    pub acted : (k : ℕ) → lanes.start ≤ k → k < lanes.end →
        slice_index new.acted k ≡ slice_index old.acted k
    pub before : (k : ℕ) → k < lanes.start → lane new k ≡ lane old k
    pub after : (k : ℕ) → lanes.end ≤ k → lane new k ≡ lane old k

-- up to which phase one has nothing to do that stands there
abbrev pub reach_at : Together → ℕ
reach_at at = if at.stored then 3 * at.step - 2 else 3 * at.step

-- none of these lanes goes on alone from there
pub record AllRest (job : JobData) (lanes : Span) (at : Together) (block : Block) : Type 0 where
  pub there : (k : ℕ) → lanes.start ≤ k → k < lanes.end →
      gone_on job (lanes.first + k) (lane_as at block k) ≡ lane_as at block k
  pub last : at.step ≤ job.steps

-- none of these lanes goes on alone, and up to this phase none has anything to do
pub record RestIn (job : JobData) (lanes : Span) (phase reach : ℕ) (block : Block) : Type 0 where
  pub some : lanes.start < lanes.end
  pub stay : (k : ℕ) → lanes.start ≤ k → k < lanes.end →
      gone_on job (lanes.first + k) (lane block k) ≡ lane block k
  pub reaches : (k : ℕ) → lanes.start ≤ k → k < lanes.end →
      reach_from_phase phase (lane block k) ≡ reach
  pub most : reach ≤ 3 * job.steps
