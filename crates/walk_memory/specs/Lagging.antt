-- Loads of processors whose words do not tell what they are.
use Rattle.std.specs.Prelude.{ℕ, ◌+◌, ◌%◌, ◌<◌, ◌≤◌, List, slice_get, slice_index, slice_set}
use Rattle.std.specs.Prelude.{IsSome}
use Rattle.walk_memory.specs.declared.load_in.Loads.{Loads}
use Rattle.walk_memory.specs.declared.memo.Memo.{Memo}
use Rattle.walk_memory.specs.Inner.Posts.{PostData, at_rank, processor_of}
use Rattle.walk_memory.specs.Memory.{memo_of}
use Rattle.walk_memory.specs.Plain.{done_all}
use Rattle.walk_memory.specs.Stands.{LoadsKnown}
use Rattle.walk_memory.specs.Turned.{landed}

-- these are the loads of the post's processor, by what is remembered of it
pub record LagsBy (at : PostData) (memory : List Memo) (loads : Loads) : Type 0 where
  pub there : IsSome (slice_get memory (processor_of at))
  pub known : LoadsKnown at (memo_of memory (processor_of at)) loads.register
      (slice_index loads.cells (processor_of at % 64))

-- and of each processor of its block of this length, from its rank on
abbrev pub AllLagBy : PostData → ℕ → List Memo → Loads → Type 0
AllLagBy at len memory loads =
    (rank : ℕ) → at.rank ≤ rank → rank < len → LagsBy (at_rank at rank) memory loads

-- what is known once the register took this value, but for what its words tell
abbrev pub load_taken : Memo → ℕ → ℕ → Memo
load_taken memo r value = record memo {
  own = record {
    counter = memo.own.counter + 1;
    registers = slice_set memo.own.registers r value;
  };
}

-- and once they tell all
abbrev pub load_landed : PostData → Memo → ℕ → ℕ → Memo
load_landed at memo r value = landed at (load_taken memo r value)

-- what is remembered once the register of each of so many processors, from the post's on, took its
-- lane's value, and their words tell all
abbrev pub landed_all : PostData → ℕ → ℕ → List ℕ → List Memo → List Memo
landed_all at n r values memory =
    done_all at n (λ i. load_landed at (memo_of memory i) r (slice_index values (i % 64))) memory
