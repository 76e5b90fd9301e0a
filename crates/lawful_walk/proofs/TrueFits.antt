-- What is known of a processor and true fits.
use Rattle.std.proofs.Common.{◌≡◌, ℕ, zero, suc, ◌^◌, ◌<◌, List, [], ◌∷◌, map}
use Rattle.std.proofs.Common.{Option, Some, None, refl, sym, subst}
use Rattle.std.specs.Prelude.{IfSome}
use Rattle.std.specs.List.{AllByRecursion}
use Rattle.pram_job.specs.Job.{JobData, IsJob}
use Rattle.pram_machine.specs.Machine.{register, register_place}
use Rattle.pram_machine.proofs.Shapes.{place_fits}
use Rattle.pram_step.specs.Runs.{state_after}
use Rattle.pram_step.proofs.LawCounters.{counter_within}
use Rattle.pram_step.proofs.LawFits.{state_fits}
use Rattle.pram_step.proofs.Past.{asks_fit}
use Rattle.walk_memory.specs.declared.memo.Memo.{Memo}
use Rattle.walk_memory.specs.Memory.{FitsMemo, FitsOwn, IsTrueMemo, all_registers, own_at, store_in}
use Rattle.lawful_walk.proofs.OwnPlaces.{cell_asks}

module _ (job : JobData) (i : ℕ) (limits : IsJob job) (proc : i < job.procs) where
  registers_fit : (t : ℕ) (rs : List ℕ) → AllByRecursion (λ v. v < 2 ^ 32)
      (map (register job (state_after job t) i) rs)
  registers_fit t [] = tt
  registers_fit t (r ∷ rs) = (
    place_fits (state_after job t) (register_place job i r) (state_fits job t limits),
    registers_fit t rs,
  )

  own_fits : (t : ℕ) → FitsOwn job (own_at job t i)
  own_fits t = record {
    counter = counter_within job t i limits proc;
    registers = registers_fit t all_registers;
    four = refl;
  }

  Store : Option (ℕ × ℕ) → Type 0
  Store o = IfSome o (λ write. (write.0 < job.cells) × (write.1 < 2 ^ 32))

  store_fits : (t : ℕ) (write : ℕ × ℕ) → store_in job i t ≡ Some write → Store (Some write)
  unfolding Store
  store_fits zero write e = absurd (cc)
  store_fits (suc t) write e =
      let made = cell_asks job t i write.0 write.1 proc e in
      (made.1, (asks_fit job t write.0 i write.1 limits made.0).1)

  pub true_fits : (memo : Memo) → IsTrueMemo job i memo → FitsMemo job memo
  unfolding Store
  true_fits memo is_true = record {
    step = is_true.step;
    own = subst (FitsOwn job) (sym is_true.own) (own_fits memo.step);
    told = subst (FitsOwn job) (sym is_true.told) (own_fits _);
    store = by memo.store refl;
  }
    where
      by : (o : Option (ℕ × ℕ)) → memo.store ≡ o → Store o
      by None e = tt
      by (Some write) e = store_fits memo.step write (is_true.store write e)
