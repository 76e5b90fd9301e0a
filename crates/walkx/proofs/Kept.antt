-- The store of the second pass, remembered or worked out.
use Rattle.std.proofs.Common.{◌≡◌, ℕ, ◌-◌, ◌*◌, ◌^◌, ◌<◌, ◌==◌, ◌&&◌, Bool, true, false, slice_get}
use Rattle.std.proofs.Common.{Option, Some, None, Err, refl, subst, inl, inr, arith}
use Rattle.std.specs.Prelude.{IfSome, if◌then◌else◌, is_some}
use Rattle.std.proofs.lemmas.Bool.{cases_Bool, cases_lt, eqb-true, le-ltb, lt-leb}
use Rattle.pram_job.specs.declared.instr.Instr.{Instr}
use Rattle.pram_job.specs.Job.{JobData}
use Rattle.pram_words.specs.declared.phases.Kind.TheVariants.{Verify}
use Rattle.pram_words.specs.Phases.{kind_at, phase_of}
use Rattle.walkx.specs.declared.left.Left.TheVariants.{Late}
use Rattle.walk_memory.specs.declared.memo.Memo.{Memo}
use Rattle.walkx.specs.Driving.{comes}
use Rattle.walk_memory.specs.Inner.Posts.{PostData, processor_of, step_of}
use Rattle.walk_memory.specs.Memory.{FitsMemo, asked, asked_by, has_store, is_load, is_past}
use Rattle.walk_memory.specs.Memory.{loads_next}
use Rattle.walk_memory.specs.OwnWrites.{cell_write}
use Rattle.walkx.specs.Passes.{if_write}
use Rattle.walkx.specs.Scripts.{Script}
use Rattle.walkx.specs.Walk.{Then}
use Rattle.walkx.specs.WideParts.{kept_as, store_by, store_loaded, stores_of}
use Rattle.walk_memory.proofs.Puts.{cell_put_is}
use Rattle.walk_memory.proofs.Timing.{verify_is}

pub cell_below : (job : JobData) (o : Option (ℕ × ℕ)) →
    IfSome (cell_write job o) (λ write. write.0 < job.cells)
cell_below job o = by (cell_write job o) refl
  where
    by : (w : Option (ℕ × ℕ)) → cell_write job o ≡ w → IfSome w (λ write. write.0 < job.cells)
    by None e = tt
    by (Some w) e = (cell_put_is job o w.0 w.1 e).1

-- a store that is to be carried out in this phase is not past
pub still_to_do : (at : PostData) (memo : Memo) → kind_at at.phase ≡ Verify →
    has_store (step_of at) memo ≡ true → is_past at.phase memo ≡ false
still_to_do at memo second has = elim (cases_Bool (memo.step == step_of at)) [
  | inl e ↦ (let some : is_some memo.store ≡ true = rw e at has in
      let step : memo.step ≡ step_of at = eqb-true memo.step (step_of at) e in
      let same : at.phase ≡ phase_of (step_of at) Verify = verify_is at.phase second in
      elim (cases_lt memo.acted at.phase) [
        | inl later ↦ rw (
          some,
          lt-leb at.phase (3 * memo.step - 2) (omega (arith, same, step, later)),
        )
            (none_left _)
        | inr not_later ↦ rw (le-ltb memo.acted at.phase (omega (arith, not_later))) refl
      ])
  | inr e ↦ absurd (let no : false ≡ true = rw e at has in cc)
]
  where
    none_left : (b : Bool) → (b && false) ≡ false
    none_left true = refl
    none_left false = refl

pub store_below : (job : JobData) (memo : Memo) → FitsMemo job memo →
    IfSome memo.store (λ write. write.0 < job.cells)
store_below job memo fits = by memo.store fits.store
  where
    by : (w : Option (ℕ × ℕ)) → IfSome w (λ write. (write.0 < job.cells) × (write.1 < 2 ^ 32)) →
        IfSome w (λ write. write.0 < job.cells)
    by None is = tt
    by (Some w) is = is.0

-- what follows what is known: worked out
module _ (at : PostData) (late : Script Then) (next : ℕ × ℕ → Script Then) where
  abbrev pub known_then : Memo → Script Then
  known_then known = if loads_next at.job known.own then late
      else if_write (cell_write at.job (asked at.job (processor_of at) known.own 0).put) late
      (λ cell value. next (cell, value))

  pub kept_comes : (o : Option (ℕ × ℕ)) →
      Some (if_write o late (λ cell value. next (cell, value))) ≡ comes late next (kept_as o)
  kept_comes None = refl
  kept_comes (Some w) = refl

  pub none_comes : (known : Memo) → slice_get at.job.code known.own.counter ≡ None →
      known_then known ≡ late
  none_comes known none = rw none refl

  abbrev written : Memo → Instr → Option (ℕ × ℕ)
  written known instr =
      cell_write at.job (asked_by at.job (processor_of at) known.own (Some instr) 0).put

  pub instr_comes : (known : Memo) (instr : Instr) →
      slice_get at.job.code known.own.counter ≡ Some instr →
      Some (known_then known) ≡ comes late next (store_by at known.own (Some instr))
  instr_comes known instr some = rw some (by (is_load (Some instr)))
    where
      by : (b : Bool) → Some (if b then late
          else if_write (written known instr) late (λ cell value. next (cell, value)))
          ≡ comes late next (if b then Err Late else kept_as (written known instr))
      by true = refl
      by false = kept_comes (written known instr)

-- remembered, or loaded
module _ (at : PostData) (memo : Memo) (second : kind_at at.phase ≡ Verify) (late : Script Then)
    (next : ℕ × ℕ → Script Then) where
  same : at.phase ≡ phase_of (step_of at) Verify
  same = verify_is at.phase second

  pub past_stores : is_past at.phase memo ≡ true → stores_of at memo late next ≡ late
  past_stores past = rw (subst (λ (q : ℕ). is_past q memo ≡ true) same past) refl

  module _ (past : is_past at.phase memo ≡ false) where
    past_too : is_past (phase_of (step_of at) Verify) memo ≡ false
    past_too = subst (λ (q : ℕ). is_past q memo ≡ false) same past

    pub keeps : has_store (step_of at) memo ≡ true →
        stores_of at memo late next ≡ if_write memo.store late (λ cell value. next (cell, value))
    keeps is = rw (past_too, is) refl

    pub loads : has_store (step_of at) memo ≡ false →
        stores_of at memo late next ≡ store_loaded at late next
    loads is = rw (past_too, is) refl
