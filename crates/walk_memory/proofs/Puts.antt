-- What a request writes to a cell.
use Rattle.std.proofs.Common.{◌≡◌, ℕ, ◌<◌, Option, Some, None, refl, sym, ◌∙◌, inl, inr, arith}
use Rattle.std.proofs.lemmas.Bool.{cases_lt, lt-ltb, le-ltb}
use Rattle.std.proofs.lemmas.Option.{none-some, some_pair_parts}
use Rattle.pram_job.specs.Job.{JobData}
use Rattle.walk_memory.specs.OwnWrites.{cell_write}

pub pair_same : (a b c d : ℕ) → ◌≡◌ {A = Option (ℕ × ℕ)} (Some (a, b)) (Some (c, d)) →
    (a ≡ c) × (b ≡ d)
pair_same a b c d e = some_pair_parts a c b d e

pub cell_put_is : (job : JobData) (o : Option (ℕ × ℕ)) (c v : ℕ) →
    cell_write job o ≡ Some (c, v) → (o ≡ Some (c, v)) × (c < job.cells)
cell_put_is job None c v e = absurd (none-some (c, v) e)
cell_put_is job (Some (q, u)) c v e = elim (cases_lt q job.cells) [
  | inl cell ↦ (
      let f : cell_write job (Some (q, u)) ≡ Some (q, u) = rw (lt-ltb q job.cells cell) refl in
      let g : ◌≡◌ {A = Option (ℕ × ℕ)} (Some (q, u)) (Some (c, v)) = sym f ∙ e in
      let same = (pair_same q u c v g).0 in (g, omega (arith, same, cell)))
  | inr own ↦ absurd (none-some (c, v)
      (let f : cell_write job (Some (q, u)) ≡ None = rw (le-ltb q job.cells own) refl in
      sym f ∙ e))
]
