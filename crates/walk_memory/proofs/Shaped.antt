-- Where the register of a turn lies.
use Rattle.std.proofs.Common.{◌≡◌, ℕ, ◌<◌, ◌≤◌, Some, refl, inl, inr, arith}
use Rattle.pram_job.specs.Job.{JobData}
use Rattle.pram_machine.specs.declared.turn.Put.TheVariants.{Register}
use Rattle.pram_machine.specs.declared.turn.Turn.{Turn}
use Rattle.pram_machine.specs.Machine.{IsDataPlace, register_place}
use Rattle.pram_machine.specs.Turns.{put_of}
use Rattle.walk_memory.specs.Turned.{IsShaped}

pub register_of : (job : JobData) (i : ℕ) (turn : Turn) (place value : ℕ) → IsShaped job i turn →
    turn.put ≡ Register place value →
    (register_place job i 0 ≤ place) × (place < register_place job i 4)
register_of job i turn place value shape is = elim (own place value (rw is refl)) [
  | inl cell ↦ absurd (let past : job.cells ≤ place = rw is at shape.sorted in omega arith)
  | inr there ↦ there
]
  where
    own : (p v : ℕ) → put_of turn.put ≡ Some (p, v) → IsDataPlace job i p
    own = shape.place
