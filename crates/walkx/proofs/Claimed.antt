-- What a turn of the first pass claims.
use Rattle.std.proofs.Common.{◌≡◌, ℕ, ◌<◌, Option, Some, None, refl}
use Rattle.std.specs.Prelude.{option_map}
use Rattle.std.proofs.lemmas.Bool.{lt-ltb}
use Rattle.pram_job.specs.declared.instr.Rule.{Rule}
use Rattle.pram_job.specs.declared.instr.Rule.TheVariants.{Common, Priority, Crew}
use Rattle.pram_machine.specs.declared.requests.Request.{Request}
use Rattle.walk_memory.specs.Inner.Posts.{PostData, step_of, processor_of}
use Rattle.walk_memory.specs.OwnWrites.{cell_write}
use Rattle.walkx.specs.Parts.{claim_raised}
use Rattle.walkx.specs.Passes.{claims_store}
use Rattle.walkx.specs.Scripts.{Script, asks}
use Rattle.walkx.specs.Walk.{Then}
use Rattle.walkx.specs.WideParts.{claimed_cell, store_claimed}

module _ (at : PostData) (request : Request) (late : Script Then)
    (next : Unit {0} → Script Then) where
  abbrev claimed : Script Then
  claimed = claims_store at.job at.layout (step_of at) (processor_of at) request (next tt)

  none_by : (o : Option (ℕ × ℕ)) → cell_write at.job request.put ≡ o →
      option_map (λ (w : ℕ × ℕ). w.0) o ≡ None → claimed ≡ next tt
  none_by None e is = rw e refl
  none_by (Some w) e is = absurd (cc)

  pub claims_none : (r : Rule) → claimed_cell r at.job request ≡ None →
      store_claimed r at request late next ≡ next tt
  claims_none Common is = refl
  claims_none Priority is = none_by (cell_write at.job request.put) refl is
  claims_none Crew is = none_by (cell_write at.job request.put) refl is

  some_by : (cell : ℕ) (o : Option (ℕ × ℕ)) → cell < at.job.cells →
      cell_write at.job request.put ≡ o → option_map (λ (w : ℕ × ℕ). w.0) o ≡ Some cell →
      claimed ≡ asks (claim_raised at cell) (λ found. next tt)
  some_by cell None below e is = absurd (cc)
  some_by cell (Some w) below e is =
      let same : w.0 ≡ cell = cc in
      rw e (rw same (rw (lt-ltb cell at.job.cells below) refl))

  pub claims_some : (r : Rule) (cell : ℕ) → cell < at.job.cells →
      claimed_cell r at.job request ≡ Some cell →
      store_claimed r at request late next ≡ asks (claim_raised at cell) (λ found. next tt)
  claims_some Common cell below is = absurd (cc)
  claims_some Priority cell below is = some_by cell (cell_write at.job request.put) below refl is
  claims_some Crew cell below is = some_by cell (cell_write at.job request.put) below refl is
