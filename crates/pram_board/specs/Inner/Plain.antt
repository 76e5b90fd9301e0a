-- Tasks of the first pass that all processors of a block do alike.
use Rattle.std.specs.Prelude.{◌≡◌, ◌≤◌, ◌<◌, ℕ, ◌%◌, List, slice_index}
use Rattle.std.proofs.Common.{refl}
use Rattle.walk_memory.specs.declared.load_in.Claims.{Claims}
use Rattle.walk_memory.specs.declared.load_in.Loads.{Loads}
use Rattle.walk_memory.specs.declared.memo.Memo.{Memo}
use Rattle.walk_memory.specs.Inner.Posts.{PostData, at_rank}
use Rattle.walk_memory.specs.Lagging.{LagsBy, load_landed}
use Rattle.walk_memory.specs.Memory.{memo_of}
use Rattle.walk_memory.specs.Plain.{claimed, loaded}
use Rattle.pram_board.specs.declared.plain.Lagging.{Lagging}

-- these are the tasks of each processor of the post's block of this length, from its rank on
abbrev pub AllBy : {P : Type 0} → (PostData → List Memo → P → Type 0) → PostData → ℕ → List Memo →
    P → Type 0
AllBy by at len memory plain =
    (rank : ℕ) → at.rank ≤ rank → rank < len → by (at_rank at rank) memory plain

-- what is known of a processor that did this with the value of its lane
abbrev pub by_lanes : (ℕ → Memo → ℕ → Memo) → List ℕ → List Memo → ℕ → Memo
by_lanes does values memory i = does i (memo_of memory i) (slice_index values (i % 64))

-- ---- plain loads

abbrev pub loads_does : Loads → PostData → ℕ → Memo → ℕ → Memo
loads_does loads at i memo value = loaded at memo loads.register value

pub loads_ranks : (loads : Loads) (at : PostData) (rank i value : ℕ) (memo : Memo) →
    loads_does loads (at_rank at rank) i memo value ≡ loads_does loads at i memo value
loads_ranks loads at rank i value memo = refl

-- ---- loads of processors whose words do not tell what they are

abbrev pub lagging_by : PostData → List Memo → Lagging → Type 0
lagging_by at memory lagging = LagsBy at memory lagging.loads

abbrev pub lagging_does : Lagging → PostData → ℕ → Memo → ℕ → Memo
lagging_does lagging at i memo value = load_landed at memo lagging.loads.register value

pub lagging_ranks : (lagging : Lagging) (at : PostData) (rank i value : ℕ) (memo : Memo) →
    lagging_does lagging (at_rank at rank) i memo value ≡ lagging_does lagging at i memo value
lagging_ranks lagging at rank i value memo = refl

-- ---- claims: they give no value

abbrev pub claims_does : Claims → PostData → ℕ → Memo → ℕ → Memo
claims_does claims at i memo value = claimed at memo (slice_index claims.cells (i % 64))
    claims.operand

pub claims_ranks : (claims : Claims) (at : PostData) (rank i value : ℕ) (memo : Memo) →
    claims_does claims (at_rank at rank) i memo value ≡ claims_does claims at i memo value
claims_ranks claims at rank i value memo = refl
