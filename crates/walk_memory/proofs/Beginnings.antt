-- What a worker without memory knows is true: all is as at the start.
use Rattle.std.proofs.Common.{◌≡◌, ℕ, zero, suc, ◌*◌, ◌<◌, ◌≤◌, List, [], ◌∷◌, ◌++◌, length}
use Rattle.std.proofs.Common.{slice_index, refl, arith}
use Rattle.std.specs.Prelude.{replicate}
use Rattle.std.proofs.lemmas.Option.{none-some}
use Rattle.pram_job.specs.Job.{JobData, IsJob}
use Rattle.pram_machine.specs.Machine.{counter_place, register_place, start}
use Rattle.walk_memory.specs.Memory.{IsTrueMemory, own_at, own_at_start, settled_at}
use Rattle.pram_step.specs.Runs as runs

zeros_are : (k p : ℕ) → slice_index (replicate k 0) p ≡ 0
zeros_are zero p = refl
zeros_are (suc k) zero = refl
zeros_are (suc k) (suc p) = zeros_are k p

past_zero : (xs : List ℕ) (k p : ℕ) → length xs ≤ p →
    slice_index (xs ++ replicate k 0) p ≡ 0
past_zero [] k p past = zeros_are k p
past_zero (x ∷ xs) k zero past = absurd (omega (arith, past))
past_zero (x ∷ xs) k (suc p) past = past_zero xs k p (omega (arith, past))

-- the places of a processor hold 0
own_start : (job : JobData) (i : ℕ) → IsJob job → i < job.procs → own_at_start ≡ own_at job 0 i
unfolding runs.state_after
own_start job i limits below = rw (
  place_zero (counter_place job i) (omega arith),
  place_zero (register_place job i 0) (omega arith),
  place_zero (register_place job i 1) (omega arith),
  place_zero (register_place job i 2) (omega arith),
  place_zero (register_place job i 3) (omega arith),
) refl
  where
    place_zero : (p : ℕ) → job.cells ≤ p → slice_index (start job) p ≡ 0
    place_zero p past =
        past_zero job.init (5 * job.procs) p (omega (arith, limits.init_len, past))

pub start_true : (job : JobData) → IsTrueMemory job []
unfolding settled_at
start_true job limits i below = record {
  step = omega arith;
  own = own_start job i limits below;
  settled = refl;
  told = own_start job i limits below;
  store = λ write some. absurd (none-some write some);
  idle = λ t kind after upto. absurd (omega (arith, after, upto));
}
