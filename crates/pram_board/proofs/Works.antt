-- What ticks come to, one after the other.
use Rattle.std.proofs.Common.{◌≡◌, ℕ, ◌+◌, ◌*◌, ◌%◌, ◌^◌, ◌<◌, ◌≤◌, [], ◌∷◌, refl, ap, ap₂}
use Rattle.std.proofs.Common.{◌∙◌, arith, mul-le-mul}
use Rattle.pram_words.specs.Tree.{leaves_of}
use Rattle.pram_words.proofs.Halvings.{leaves_most}
use Rattle.walkx.specs.Bound.{own_step_bound}
use Rattle.walkx.specs.Walk.{Walking, ask_of, told}
use Rattle.walk_memory.specs.Blocks.{IsBoard}
use Rattle.pram_board.specs.declared.task.Task.{Task}
use Rattle.pram_board.specs.Seats.{SeatData, hears}
use Rattle.pram_board.specs.Inner.Plays.{Ran}
use Rattle.pram_board.specs.Worked.{Ticked}

abbrev pub ran_none : (t : Task) (p : SeatData) (w : Walking) → Ran t p w 0 p w
ran_none t p w = record { answers = []; count = refl; seat = refl; worker = refl }

abbrev pub ran_on : (t : Task) (p : SeatData) (w : Walking)
    (n : ℕ) (q : SeatData) (now : Walking) (q' : SeatData)
    (later : Walking) → Ticked t q now q' later → Ran t p w n q now → Ran t p w (n + 1) q' later
ran_on t p w n q now q' later made ran = record {
  answers = made.found ∷ ran.answers;
  count = (let e = ran.count in omega arith);
  seat =
      made.seat ∙ ap₂ (λ (z : SeatData) (v : Walking). hears z (ask_of t.job t.layout v) made.found)
      ran.seat ran.worker;
  worker = made.worker ∙ ap (λ (v : Walking). told t.job t.layout v made.found) ran.worker;
}

pub exactly : (m n k : ℕ) → n % 2 ^ 64 ≡ (m + k) % 2 ^ 64 → n < 2 ^ 64 → m + k < 2 ^ 64 → n ≡ m + k
exactly m n k count small few = omega arith

-- the bound fits 64 bits
pub bound_small : (t : Task) → IsBoard t.job t.layout → own_step_bound t.job < 2 ^ 58
bound_small t board =
    let l = leaves_most t.job.procs board.limits.procs.0 board.limits.procs.1 in
    let leaves : 300 * leaves_of t.job.procs ≤ 19660800 = (let h = l.1 in omega arith) in
    let steps : t.job.steps ≤ 4294967295 = (let h = (board.limits).steps in omega arith) in
    let m : 300 * leaves_of t.job.procs * t.job.steps ≤ 19660800 * 4294967295 =
    mul-le-mul leaves steps in
    omega arith
