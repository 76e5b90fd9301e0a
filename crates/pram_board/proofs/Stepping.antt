-- One atomic step of a driver.
use Rattle.std.proofs.Common.{◌≡◌, ℕ, ◌+◌, ◌%◌, ◌^◌, [], refl, sym, ap, subst, ◌∙◌}
use Rattle.walkx.specs.declared.operation.Op.{Op}
use Rattle.walkx.specs.Records.{after}
use Rattle.walkx.specs.Scripts.{Script, asks}
use Rattle.walkx.specs.Walk.{Then, Walking, HearsAdmitted, IsGoing, script_of}
use Rattle.lawful_walk.specs.Moments.{Sound}
use Rattle.pram_board.specs.declared.task.Task.{Task}
use Rattle.pram_board.specs.Rules.{May}
use Rattle.pram_board.specs.Seats.{SeatData, hears}
use Rattle.pram_board.specs.Inner.Plays.{Drives, Driving, IsWalking}
use Rattle.pram_board.proofs.Due.{due_asks, due_may}
use Rattle.pram_board.proofs.Playing.{joined, one_step, still}
use Rattle.pram_board.proofs.Steps.{admits}

pub driver_may : (t : Task) (from : Driving × Script Then) (d : Driving) (op : Op)
    (next : ℕ → Script Then) → Drives t from d (asks op next) → May d.desk.task d.seat.record_of op
driver_may t from d op next h =
    subst (λ (u : Task). May u d.seat.record_of op) (sym h.here.task)
    (due_may t from d op next h)

module _ (t : Task) (from : Driving × Script Then) (d : Driving) (op : Op)
    (next : ℕ → Script Then) (found : ℕ) (q : SeatData) (h : Drives t from d (asks op next))
    (grows : q ≡ hears d.seat op found)
    (sound : Sound d.desk.task.job d.desk.task.layout q.record_of) where
  pub driver_hears : HearsAdmitted t.job t.layout op found
  driver_hears =
      let here : Sound t.job t.layout q.record_of =
      subst (λ (u : Task). Sound u.job u.layout q.record_of) h.here.task sound in
      let now : Sound t.job t.layout (after d.seat.record_of op found) =
      subst (λ (x : SeatData). Sound t.job t.layout x.record_of) grows here in
      admits t d.seat.record_of op found now (due_asks t from d op next h)

  pub driver_makes : (n : ℕ) → n ≡ (d.made + 1) % 2 ^ 64 →
      Drives t from (record { desk = d.desk; seat = q; made = n }) (next found)
  driver_makes n count =
      let e : Driving = record { desk = d.desk; seat = q; made = n } in
      record {
        here = record {
          desk = ap (λ (x : SeatData). x.desk) grows ∙ h.here.desk;
          task = h.here.task;
          board = h.here.board;
        };
        by = h.by;
        fresh = h.fresh;
        going = h.going;
        fits = h.fits;
        knows = h.knows;
        begun = h.begun;
        plays = joined t from.1 (asks op next) (next found) from.0 d e h.plays
            (one_step t op next found d e driver_hears refl grows count);
      }

-- nothing was made yet of a script that a worker is at the start of
pub driver_starts : (t : Task) (d : Driving) (w : Walking) → IsWalking t d w → w.heard ≡ [] →
    IsGoing w.now → Drives t (d, script_of t.job t.layout w) d (script_of t.job t.layout w)
driver_starts t d w walks fresh going = record {
  here = walks.here;
  by = w;
  fresh = fresh;
  going = going;
  fits = walks.fits;
  knows = walks.knows;
  begun = refl;
  plays = still t (script_of t.job t.layout w) d;
}
