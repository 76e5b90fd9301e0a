-- Loads of which little is to be done.
use Rattle.std.specs.Prelude.{◌≡◌, ℕ, zero, suc, ◌+◌, ◌%◌, ◌<◌, ◌≤◌, List, length, slice_get}
use Rattle.std.specs.Prelude.{slice_index, slice_set, IsSome, Option, Some, None, false, true}
use Rattle.std.specs.Prelude.{is_some}
use Rattle.pram_job.specs.declared.instr.Instr.TheVariants.{Ld, St}
use Rattle.pram_job.specs.declared.instr.Operand.{Operand}
use Rattle.pram_job.specs.declared.instr.Place.{Place}
use Rattle.pram_machine.specs.Instructions.{index_of, reached}
use Rattle.pram_words.specs.Phases.{kind_at}
use Rattle.pram_words.specs.declared.phases.Kind.{Kind}
use Rattle.walk_memory.specs.declared.block.Block.{Block}
use Rattle.walk_memory.specs.declared.load_in.Claims.{Claims}
use Rattle.walk_memory.specs.declared.load_in.Loads.{Loads}
use Rattle.walk_memory.specs.declared.memo.Memo.{Memo}
use Rattle.walk_memory.specs.declared.span.Span.{Span}
use Rattle.walk_memory.specs.Inner.Posts.{PostData, at_rank, processor_of, step_of}
use Rattle.walk_memory.specs.Lanes.{lane}
use Rattle.walk_memory.specs.Memory.{at_start, cell_named, is_common, is_due, memo_of}
use Rattle.walk_memory.specs.Rows.{held_in}

-- lane i % 64 of this block is one of these, and what is known of processor i
pub record InLanes (memory : List Memo) (i : ℕ) (block : Block) (lanes : Span) : Type 0 where
  pub low : lanes.start ≤ i % 64
  pub high : i % 64 < lanes.end
  pub there : slice_get memory i ≡ Some (lane block (i % 64))

-- and so of each processor of the post's block of this length, from its rank on
abbrev pub AllHeld : PostData → ℕ → List Memo → Block → Span → Type 0
AllHeld at len memory block lanes = (rank : ℕ) → at.rank ≤ rank → rank < len →
    InLanes memory (processor_of (at_rank at rank)) block lanes

-- In the first pass, a processor of which this is known before the step stands at a load of this
-- cell into register r, and its words tell what it is after it, but for that register.
pub record LoadsPlainly (at : PostData) (memo : Memo) (r cell : ℕ) : Type 0 where
  pub first : kind_at at.phase ≡ Kind.Compute
  pub before : suc memo.step ≡ step_of at
  pub place : Place
  pub code : slice_get at.job.code memo.own.counter ≡ Some (Ld r place)
  pub reads : cell_named at.job memo.own (Some (Ld r place)) ≡ Some cell
  pub below : cell < at.job.cells
  pub four : length memo.own.registers ≡ 4
  pub counter : memo.told.counter ≡ memo.own.counter + 1
  pub told : (value : ℕ) →
      slice_set memo.told.registers r value ≡ slice_set memo.own.registers r value

-- what is known once the register took this value
abbrev pub loaded : PostData → Memo → ℕ → ℕ → Memo
loaded at memo r value = record {
  acted = at.phase;
  step = step_of at;
  own = record {
    counter = memo.told.counter;
    registers = slice_set memo.own.registers r value;
  };
  settled = step_of at;
  told = record {
    counter = memo.told.counter;
    registers = slice_set memo.told.registers r value;
  };
  store = None;
}

-- what is known of one that did this with a value, or was late
abbrev pub done_or_late : (ℕ → Memo) → Option ℕ → Memo
done_or_late does (Some value) = does value
done_or_late does None = at_start

-- the same of a load
abbrev pub loaded_or_late : PostData → Memo → ℕ → Option ℕ → Memo
loaded_or_late at memo r found = done_or_late (loaded at memo r) found

-- what is remembered once this is known of each of so many processors, from the post's on
unfoldable pub done_all : PostData → ℕ → (ℕ → Memo) → List Memo → List Memo
done_all at zero does memory = memory
done_all at (suc more) does memory =
    slice_set (done_all at more does memory) (processor_of (at_rank at (at.rank + more)))
    (does (processor_of (at_rank at (at.rank + more))))

-- and once the register of each took its lane's value
abbrev pub taken : PostData → ℕ → ℕ → List ℕ → List Memo → List Memo
taken at n r values memory =
    done_all at n (λ i. loaded at (memo_of memory i) r (slice_index values (i % 64))) memory

-- these are the loads of the post's processor, by what is remembered of it
abbrev pub LoadsBy : PostData → List Memo → Loads → Type 0
LoadsBy at memory loads = LoadsPlainly at (memo_of memory (processor_of at)) loads.register
    (slice_index loads.cells (processor_of at % 64))

-- and of each processor of its block of this length, from its rank on
abbrev pub AllLoadBy : PostData → ℕ → List Memo → Loads → Type 0
AllLoadBy at len memory loads =
    (rank : ℕ) → at.rank ≤ rank → rank < len → LoadsBy (at_rank at rank) memory loads

-- ---- claims

-- In the first pass, but under common, a processor of which this is known before the step stands at
-- a store of this operand to this cell, and does not settle in the step.
pub record ClaimsPlainly (at : PostData) (memo : Memo) (cell : ℕ) (operand : Operand) : Type 0
  where
    pub first : kind_at at.phase ≡ Kind.Compute
    pub before : suc memo.step ≡ step_of at
    pub place : Place
    pub code : slice_get at.job.code memo.own.counter ≡ Some (St place operand)
    pub reaches :
        reached at.job place (held_in (index_of place) memo.own.registers) ≡ Some cell
    pub below : cell < at.job.cells
    pub rule : is_common at.job.rule ≡ false
    pub lags : is_due memo.settled (step_of at) ≡ false

-- what is known once it is claimed
abbrev pub claimed : PostData → Memo → ℕ → Operand → Memo
claimed at memo cell operand = record {
  acted = at.phase;
  step = step_of at;
  own = record { counter = memo.own.counter + 1; registers = memo.own.registers };
  settled = memo.settled;
  told = memo.told;
  store = Some (cell, held_in operand memo.own.registers);
}

-- these are the claims of the post's processor, by what is remembered of it
pub record ClaimsBy (at : PostData) (memory : List Memo) (claims : Claims) : Type 0 where
  pub there : IsSome (slice_get memory (processor_of at))
  pub plain : ClaimsPlainly at (memo_of memory (processor_of at))
      (slice_index claims.cells (processor_of at % 64)) claims.operand

-- and of each processor of its block of this length, from its rank on
abbrev pub AllClaimBy : PostData → ℕ → List Memo → Claims → Type 0
AllClaimBy at len memory claims =
    (rank : ℕ) → at.rank ≤ rank → rank < len → ClaimsBy (at_rank at rank) memory claims

-- what is known of a processor once it made its claim of these
abbrev pub claimed_of : PostData → Claims → List Memo → ℕ → Memo
claimed_of at claims memory i = claimed at (memo_of memory i) (slice_index claims.cells (i % 64))
    claims.operand

-- what is remembered once so many processors, from the post's on, made theirs
abbrev pub claimed_all : PostData → ℕ → Claims → List Memo → List Memo
claimed_all at n claims memory = done_all at n (claimed_of at claims memory) memory

-- in the second pass, a processor of which this is known has its store of the step still to be
-- carried out
pub record HasStore (at : PostData) (memo : Memo) : Type 0 where
  pub second : kind_at at.phase ≡ Kind.Verify
  pub step : memo.step ≡ step_of at
  pub some : is_some memo.store ≡ true

-- each processor of the block, from the leaf's up to this rank
abbrev pub AllStore : PostData → ℕ → List Memo → Type 0
AllStore at len memory = (rank : ℕ) → at.rank ≤ rank → rank < len →
    HasStore (at_rank at rank) (memo_of memory (processor_of (at_rank at rank)))

-- the block has the store of the post's processor in its lane, still to be carried out
pub record HoldsStore (at : PostData) (memory : List Memo) (block : Block) : Type 0 where
  pub has : HasStore at (memo_of memory (processor_of at))
  pub write : (memo_of memory (processor_of at)).store
      ≡ Some (
        slice_index block.cell (processor_of at % 64),
        slice_index block.value (processor_of at % 64),
      )

-- and that of each processor of the post's block of this length, from its rank on
abbrev pub AllHoldStore : PostData → ℕ → List Memo → Block → Type 0
AllHoldStore at len memory block = (rank : ℕ) → at.rank ≤ rank → rank < len →
    HoldsStore (at_rank at rank) memory block

-- what is known once it is carried out
abbrev pub carried_in : PostData → Memo → Memo
carried_in at memo = record memo { acted = at.phase; store = None }

-- what is remembered once those of so many processors are, from the post's on
abbrev pub carried_all : PostData → ℕ → List Memo → List Memo
carried_all at n memory = done_all at n (λ i. carried_in at (memo_of memory i)) memory
