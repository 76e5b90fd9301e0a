-- A store that is remembered.
use Rattle.std.proofs.Common.{◌≡◌, ◌≢◌, ℕ, suc, ◌+◌, ◌-◌, ◌<◌, ◌≤◌, ◌/◌, ◌%◌, Bool, true, false, List, Option}
use Rattle.std.proofs.Common.{Some, None, refl, sym, ap, subst, ◌∙◌, slice_get, length, arith}
use Rattle.std.specs.Prelude.{if◌then◌else◌, is_some, slice_index, slice_index_or, slice_set, unwrap_or}
use Rattle.pram_job.specs.Job.{JobData}
use Rattle.pram_words.specs.Phases.{kind_at}
use Rattle.pram_words.specs.declared.phases.Kind.TheVariants.{Verify}
use Rattle.walk_memory.specs.declared.block.Block.{Block}
use Rattle.walk_memory.specs.declared.memo.Memo.{Memo}
use Rattle.walk_memory.specs.Inner.Posts.{PostData, at_rank, processor_of, step_of}
use Rattle.walk_memory.specs.Lanes.{lane, lane_in, memos_of}
use Rattle.walk_memory.specs.Memory.{FitsMemo, at_start, memo_of}
use Rattle.walk_memory.specs.Plain.{AllStore, HasStore}
use Rattle.walk_memory.specs.Rows.{AllIn}
use Rattle.walk_memory.proofs.Lanes.{memo_of_all, set_all}
use Rattle.walk_memory.proofs.Memories.{memo_other, memo_past}

-- the store of a lane is its cell and its value
abbrev write_in : Block → ℕ → ℕ × ℕ
write_in block k = (slice_index block.cell k, slice_index block.value k)

pub lane_store : (block : Block) (k : ℕ) → is_some (lane block k).store ≡ true →
    (lane block k).store ≡ Some (slice_index block.cell k, slice_index block.value k)
lane_store block k is = by (slice_index_or block.stored k false) is
  where
    by : (b : Bool) → is_some (if b then Some (write_in block k) else None) ≡ true →
        (if b then Some (write_in block k) else None) ≡ Some (write_in block k)
    by true e = refl
    by false e = absurd (cc)

-- the cell of a store that is remembered
pub cell_fits : (job : JobData) (memo : Memo) (write : ℕ × ℕ) → FitsMemo job memo →
    memo.store ≡ Some write → write.0 < job.cells
cell_fits job memo write fits some = (rw some at fits.store).0

-- what is known of a processor is what its lane holds, and is to hold
module _ (memory : List Memo) (items : List Block) (i j : ℕ) (block : Block)
    (view : memos_of items ≡ memory) (same : i ≡ j) (there : slice_get items (i / 64) ≡ Some block)
  where
    pub lane_known : memo_of memory j ≡ lane block (i % 64)
    lane_known = rw (sym view, sym same) (memo_of_all items i
        ∙ ap (λ (o : Option Block). lane_in o (i % 64)) there)

    pub lane_set : (new : Block) → i / 64 < length items →
        ((k : ℕ) → k ≢ i % 64 → lane new k ≡ lane block k) →
        memos_of (slice_set items (i / 64) new) ≡ slice_set memory j (lane new (i % 64))
    lane_set new low others = rw (sym view, sym same) (set_all items i (i / 64) (i % 64) block new
        (lane new (i % 64)) refl refl low there refl others)

-- those of the next ones stay, where what is known of the leaf's is another thing
pub stores_left : (at : PostData) (len : ℕ) (memory : List Memo) (memo : Memo) →
    AllStore at len memory →
    AllStore (at_rank at (suc at.rank)) len (slice_set memory (processor_of at) memo)
stores_left at len memory memo all rank later within =
    subst (HasStore (at_rank at rank))
    (sym (memo_other memory (processor_of at) (processor_of (at_rank at rank)) memo
    (λ same. omega (arith, same, later))))
    (all rank (omega (arith, later)) within)

-- lanes of a block have stores, and so their processors
pub all_stores : (at : PostData) (len : ℕ) (memory : List Memo) (block : Block)
    (first start end : ℕ) → first + start ≡ processor_of at → first % 64 ≡ 0 →
    kind_at at.phase ≡ Verify → start + (len - at.rank) ≡ end → end ≤ 64 →
    ((k : ℕ) → k < 64 → slice_get memory (first + k) ≡ Some (lane block k)) →
    AllIn start end (λ k. ((lane block k).step ≡ step_of at)
    × (is_some (lane block k).store ≡ true)) → AllStore at len memory
all_stores at len memory block first start end begin row second length_is most held all
    rank later within =
    let k = start + (rank - at.rank) in
    let low : start ≤ k = omega arith in
    let high : k < end = omega (arith, length_is, later, within) in
    let here : first + k ≡ processor_of (at_rank at rank) = omega (arith, begin, later) in
    let there : slice_get memory (processor_of (at_rank at rank)) ≡ Some (lane block k) =
    ap (slice_get memory) (sym here) ∙ held k (omega (arith, high, most)) in
    let has = all k low high in
    subst (λ (o : Option Memo). HasStore (at_rank at rank) (unwrap_or o at_start)) (sym there)
    (record { second = second; step = has.0; some = has.1 })

-- where nothing is remembered, no store is
pub no_store : (at : PostData) (memory : List Memo) → length memory ≤ processor_of at →
    HasStore at (memo_of memory (processor_of at)) → ⊥
no_store at memory past has =
    let none = rw (memo_past memory (processor_of at) past) at has.some in absurd (cc)
