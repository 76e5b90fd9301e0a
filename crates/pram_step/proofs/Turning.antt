-- What a turn's data are, by where they go.
use Rattle.std.proofs.Common.{◌≡◌, ℕ, ◌<◌, ◌≤◌, Some, arith, refl}
use Rattle.std.proofs.lemmas.Option.{none-some, some_pair_parts}
use Rattle.pram_job.specs.Job.{JobData}
use Rattle.pram_machine.specs.declared.turn.Put.{Put}
use Rattle.pram_machine.specs.declared.turn.Put.TheVariants.{Nothing, Register, Cell}
use Rattle.pram_machine.specs.Turns.{put_of, IsSorted}

-- data that are not for a cell are for no cell
pub no_cell : (job : JobData) (put : Put) → IsSorted job put →
    ((cell v : ℕ) → put ≡ Cell cell v → ⊥) →
    (cell v : ℕ) → cell < job.cells → put_of put ≡ Some (cell, v) → ⊥
no_cell job Nothing sorted none cell v low e = none-some (cell, v) e
no_cell job (Register place value) sorted none cell v low e =
    let same = (some_pair_parts place cell value v e).0 in omega arith
no_cell job (Cell place value) sorted none cell v low e = none place value refl

-- data that are not for a register are for no other place than a cell
pub no_register : (job : JobData) (put : Put) → IsSorted job put →
    ((place v : ℕ) → put ≡ Register place v → ⊥) →
    (place v : ℕ) → job.cells ≤ place → put_of put ≡ Some (place, v) → ⊥
no_register job Nothing sorted none place v past e = none-some (place, v) e
no_register job (Register place' value) sorted none place v past e = none place' value refl
no_register job (Cell cell value) sorted none place v past e =
    let same = (some_pair_parts cell place value v e).0 in omega arith
