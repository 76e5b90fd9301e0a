-- What a worker remembers of 64 processors in a row, side by side by kind: the memo of each lane.
use Rattle.std.specs.Prelude.{ℕ, zero, suc, ◌*◌, ◌/◌, ◌%◌, if◌then◌else◌, false, List, [], ◌∷◌}
use Rattle.std.specs.Prelude.{length, map, slice_get, slice_index, slice_index_or, Option, Some}
use Rattle.std.specs.Prelude.{None}
use Rattle.walk_memory.specs.declared.block.Block.{Block}
use Rattle.walk_memory.specs.declared.memo.Memo.{Memo}
use Rattle.walk_memory.specs.Memory.{at_start}

-- entry k of each of these rows
abbrev pub entries : List (List ℕ) → ℕ → List ℕ
entries rows k = map (λ row. slice_index row k) rows

-- what is known of lane k
abbrev pub lane : Block → ℕ → Memo
lane block k = record {
  acted = slice_index block.acted k;
  step = slice_index block.step k;
  own = record {
    counter = slice_index block.counter k;
    registers = entries block.registers k;
  };
  settled = slice_index block.settled k;
  told = record {
    counter = slice_index block.told_counter k;
    registers = entries block.told k;
  };
  store = if slice_index_or block.stored k false
      then Some (slice_index block.cell k, slice_index block.value k)
      else None;
}

abbrev pub lane_in : Option Block → ℕ → Memo
lane_in None k = at_start
lane_in (Some block) k = lane block k

-- what is known of processor i: lane i % 64 of block i / 64
abbrev pub lane_at : List Block → ℕ → Memo
lane_at blocks i = lane_in (slice_get blocks (i / 64)) (i % 64)

-- of so many processors from i on
unfoldable pub memos_from : List Block → ℕ → ℕ → List Memo
memos_from blocks i zero = []
memos_from blocks i (suc more) = lane_at blocks i ∷ memos_from blocks (suc i) more

-- of all: the blocks' memos one after another
abbrev pub memos_of : List Block → List Memo
memos_of blocks = memos_from blocks 0 (64 * length blocks)
