-- Loads of processors whose words do not tell what they are.
use Rattle.std.proofs.Common.{◌≡◌, ℕ, ◌+◌, ◌-◌, ◌<◌, ◌≤◌, List, length, slice_get, Some, subst}
use Rattle.std.proofs.Common.{arith}
use Rattle.std.proofs.lemmas.Option.{slice_get_within}
use Rattle.pram_job.specs.declared.instr.Instr.TheVariants.{Ld}
use Rattle.walk_memory.specs.declared.load_in.Loads.{Loads}
use Rattle.walk_memory.specs.declared.memo.Memo.{Memo}
use Rattle.walk_memory.specs.Inner.Posts.{PostData, at_rank}
use Rattle.walk_memory.specs.Lagging.{AllLagBy}
use Rattle.walk_memory.specs.Memory.{memo_of}
use Rattle.walk_memory.specs.Stands.{LoadsKnown}
use Rattle.walk_memory.proofs.Done.{after}

-- the same at another rank
pub known_at : (at : PostData) (rank : ℕ) (memo : Memo) (r cell : ℕ) →
    LoadsKnown at memo r cell → LoadsKnown (at_rank at rank) memo r cell
known_at at rank memo r cell is = record {
  place = is.place;
  stands = record {
    first = is.stands.first;
    before = is.stands.before;
    code = is.stands.code;
  };
  reads = is.reads;
  below = is.below;
}

-- such a lane stands in the code
pub lag_counter : (at : PostData) (end : ℕ) (memory : List Memo) (loads : Loads) →
    AllLagBy at end memory loads → (start last k : ℕ) → last + at.rank ≡ start + end →
    start ≤ k → k < last → (memo : Memo) → memo_of memory (after at (k - start)) ≡ memo →
    memo.own.counter < length at.job.code
lag_counter at end memory loads all start last k ends from to memo is =
    let load = all (at.rank + (k - start)) (omega arith) (omega (arith, ends, from, to)) in
    slice_get_within at.job.code memo.own.counter (Ld loads.register load.known.place)
    (subst (λ (m : Memo). slice_get at.job.code m.own.counter
    ≡ Some (Ld loads.register load.known.place)) is load.known.stands.code)
