-- A processor that has gone on by some steps gets as far as before.
use Rattle.std.proofs.Common.{◌≡◌, ℕ, zero, suc, ◌+◌, ◌<◌, ◌&&◌, Bool, true, false, not}
use Rattle.std.proofs.Common.{List, [], ◌∷◌, length, slice_get, Option, Some, None, refl, sym, ap, ◌∙◌}
use Rattle.std.proofs.Common.{inl, inr, arith}
use Rattle.std.specs.Prelude.{◌||◌, is_none, is_some, slice_set}
use Rattle.std.proofs.lemmas.Bool.{cases_Bool, cases_lt, leb-false}
use Rattle.pram_job.specs.declared.instr.Instr.{Instr}
use Rattle.pram_job.specs.Job.{JobData}
use Rattle.walk_memory.specs.declared.memo.Memo.{Memo}
use Rattle.walk_memory.specs.Memory.{goes_alone, goes_on_alone, gone_on, has_stopped, is_load}
use Rattle.walk_memory.specs.Memory.{memo_of, asked_by, is_common, is_due, one_alone, steps_left}
use Rattle.walk_memory.specs.OwnWrites.{cell_write}
use Rattle.walk_memory.specs.Together.{goes_as_far}
use Rattle.walk_memory.proofs.GoingAlone.{goes_by, goes_one, last_stays, stays_at, stays_here}
use Rattle.walk_memory.proofs.GoingAlone.{stays_load, stored_stays}

-- ---- one processor

module _ (job : JobData) (i : ℕ) where
  -- in a step that is made alone its words are not due
  pub not_due : (memo : Memo) → has_stopped job memo.own ≡ false → goes_alone job i memo ≡ true →
      suc memo.step < memo.settled + 64
  not_due memo goes alone = elim (cases_Bool (is_due memo.settled (suc memo.step))) [
    | inl due ↦
        let not_alone : goes_alone job i memo ≡ false = rw (due, goes) (none_left _ _) in
        absurd (let same = sym alone ∙ not_alone in cc)
    | inr other ↦ leb-false (memo.settled + 64) (suc memo.step) other
  ]
    where
      none_left : (a b : Bool) → (not (a || true) && b) ≡ false
      none_left true b = refl
      none_left false b = refl

  pub one_on : (memo : Memo) (instr : Instr) → slice_get job.code memo.own.counter ≡ Some instr →
      has_stopped job memo.own ≡ false → is_some memo.store ≡ false → memo.step < job.steps →
      goes_alone job i memo ≡ true → goes_as_far job i memo (one_alone job i memo)
  one_on memo instr some goes none before alone =
      let left : suc (steps_left (one_alone job i memo)) ≡ steps_left memo =
      omega (arith, not_due memo goes alone) in
      ap (λ (n : ℕ). goes_on_alone n job i (one_alone job i memo)) left
      ∙ sym (goes_one job i memo (suc (steps_left memo)) (steps_left memo) refl none before instr some
      alone)

  -- at a load it stays
  pub at_load : (memo : Memo) → is_load (slice_get job.code memo.own.counter) ≡ true →
      gone_on job i memo ≡ memo
  at_load memo load = elim (cases_Bool (is_some memo.store)) [
    | inl e ↦ stored_stays job i memo (suc (steps_left memo)) e
    | inr e ↦ elim (cases_lt memo.step job.steps) [
      | inl before ↦ there (slice_get job.code memo.own.counter) refl load e before
      | inr last ↦ last_stays job i memo (suc (steps_left memo)) (omega (arith, last))
    ]
  ]
    where
      there : (o : Option Instr) → slice_get job.code memo.own.counter ≡ o → is_load o ≡ true →
          is_some memo.store ≡ false → memo.step < job.steps → gone_on job i memo ≡ memo
      there None at load e before = absurd (cc)
      there (Some instr) at load e before =
          stays_here job i memo (suc (steps_left memo)) (steps_left memo) refl e before instr at
          (sym (stays_load job i memo instr at load))

  -- so it does before a step in which its words are due
  pub at_due : (memo : Memo) (instr : Instr) → slice_get job.code memo.own.counter ≡ Some instr →
      is_due memo.settled (memo.step + 1) ≡ true → gone_on job i memo ≡ memo
  at_due memo instr some next = elim (cases_Bool (is_some memo.store)) [
    | inl e ↦ stored_stays job i memo (suc (steps_left memo)) e
    | inr e ↦ elim (cases_lt memo.step job.steps) [
      | inl before ↦ stays_here job i memo (suc (steps_left memo)) (steps_left memo) refl e before instr
          some
          (sym (stays_at job i memo instr some next))
      | inr last ↦ last_stays job i memo (suc (steps_left memo)) (omega (arith, last))
    ]
  ]

  -- and, but under common, at a store
  pub at_store : (memo : Memo) (instr : Instr) → slice_get job.code memo.own.counter ≡ Some instr →
      is_common job.rule ≡ false →
      is_some (cell_write job (asked_by job i memo.own (Some instr) 0).put) ≡ true →
      gone_on job i memo ≡ memo
  at_store memo instr some rule stores = elim (cases_Bool (is_some memo.store)) [
    | inl e ↦ stored_stays job i memo (suc (steps_left memo)) e
    | inr e ↦ elim (cases_lt memo.step job.steps) [
      | inl before ↦ stays_here job i memo (suc (steps_left memo)) (steps_left memo) refl e before instr
          some
          (goes_by job i memo instr some
          ∙ rw rule (by (cell_write job (asked_by job i memo.own (Some instr) 0).put) _ stores))
      | inr last ↦ last_stays job i memo (suc (steps_left memo)) (omega (arith, last))
    ]
  ]
    where
      by : (w : Option (ℕ × ℕ)) (a : Bool) → is_some w ≡ true → (a && (false || is_none w)) ≡ false
      by None a e = absurd (cc)
      by (Some w) true e = refl
      by (Some w) false e = refl

-- ---- a memory in which one is set

pub set_there : (memory : List Memo) (i : ℕ) (m : Memo) → i < length memory →
    memo_of (slice_set memory i m) i ≡ m
set_there [] i m low = absurd (omega (arith, low))
set_there (memo ∷ memory) zero m low = refl
set_there (memo ∷ memory) (suc i) m low = set_there memory i m (omega (arith, low))
