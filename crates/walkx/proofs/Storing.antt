-- A store that is remembered, and carried out.
use Rattle.std.proofs.Common.{◌≡◌, ℕ, Bool, true, false, Option}
use Rattle.std.proofs.Common.{Some, None, Ok, refl, sym, ap, subst, ◌∙◌}
use Rattle.std.specs.Prelude.{if◌then◌else◌}
use Rattle.std.proofs.lemmas.Bool.{eq-eqb}
use Rattle.pram_job.specs.declared.instr.Rule.{Rule}
use Rattle.pram_job.specs.declared.instr.Rule.TheVariants.{Common, Priority, Crew}
use Rattle.walk_memory.specs.declared.memo.Memo.{Memo}
use Rattle.walkx.specs.Driving.{Plays, Standing}
use Rattle.walk_memory.specs.Inner.Posts.{PostData, step_of}
use Rattle.walk_memory.specs.Memory.{has_store, is_past}
use Rattle.walkx.specs.Parts.{does_wide}
use Rattle.walkx.specs.Passes.{if_write}
use Rattle.walkx.specs.Passing.{idle}
use Rattle.walkx.specs.Scripts.{Script}
use Rattle.walk_memory.specs.Plain.{HasStore, carried_in}
use Rattle.walkx.specs.Walk.{Then}
use Rattle.walkx.specs.WideParts.{carried_until, store_carried, store_left}
use Rattle.walk_memory.specs.Turned.{stored}
use Rattle.walkx.proofs.Kept.{keeps, still_to_do}
use Rattle.walkx.proofs.Silent.{second_idle}
use Rattle.walk_memory.proofs.Timing.{verify_is}
use Rattle.walkx.proofs.Turning.{moved}
use Rattle.walkx.proofs.WidePasses.{carry_is, same_wide_kind}

-- what is left of a store, if a report is due
abbrev pub left_if : Rule → PostData → ℕ × ℕ → Script Then → Bool → Script Then
left_if rule at write last other = if other then store_left rule at write last else last

-- a store is carried out up to the report, and then this is left of it
pub until_is : (rule : Rule) (at : PostData) (write : ℕ × ℕ) (after : Script Then)
    (next : Unit {0} → Script Then) → store_carried rule at write after next
    ≡ carried_until rule at write after (left_if rule at write (next tt))
until_is Common at write after next = refl
until_is Priority at write after next = refl
until_is Crew at write after next = refl

-- it was played up to the report, which is due or not
pub until_on : {D : Type 0} (stands : Standing D) (rule : Rule) (at : PostData) (write : ℕ × ℕ)
    (old new : D) (other is : Bool) → rule ≡ at.job.rule →
    Plays stands old (carried_until rule at write) new (Ok other) → other ≡ is →
    (from : D × Script Then) (after : Script Then) (next : Unit {0} → Script Then) →
    stands from old (Some (store_carried at.job.rule at write after next)) →
    stands from new (Some (left_if at.job.rule at write (next tt) is))
until_on {D} stands rule at write old new other is same plays found from after next here =
    let by = subst (λ (r : Rule). Plays stands old (carried_until r at write) new (Ok other)) same
    plays in
    subst (λ (o : Bool). stands from new (Some (left_if at.job.rule at write (next tt) o))) found
    (by.on from after (left_if at.job.rule at write (next tt))
    (moved stands from old _ _ (until_is at.job.rule at write after next) here))

module _ (at : PostData) (memo : Memo) (is : HasStore at memo) where
  has : has_store (step_of at) memo ≡ true
  has = rw (eq-eqb memo.step (step_of at) is.step) is.some

  pub not_past : is_past at.phase memo ≡ false
  not_past = still_to_do at memo is.second has

  -- its task asks something
  pub store_asks : idle at memo ≡ None
  store_asks = rw is.second (second_idle at memo false is.second (sym not_past))

  stored_is : stored at memo ≡ carried_in at memo
  stored_is = rw (has, sym (verify_is at.phase is.second)) refl

  -- the store is carried out by the rule
  module _ (cell value : ℕ) (some : memo.store ≡ Some (cell, value)) (late : Script Then)
      (next : Memo → Script Then) where
    pub carries : does_wide at memo late next
        ≡ store_carried at.job.rule at (cell, value) (next memo) (λ done. next (carried_in at memo))
    carries = same_wide_kind at memo late next _ _ is.second
        ∙ carry_is at memo late next
        ∙ keeps at memo is.second (next memo)
        (λ write. store_carried at.job.rule at write (next memo) (λ done. next (stored at memo)))
        not_past has
        ∙ ap (λ (o : Option (ℕ × ℕ)). if_write o (next memo) (λ c v.
        store_carried at.job.rule at (c, v) (next memo) (λ done. next (stored at memo)))) some
        ∙ ap (λ (m : Memo). store_carried at.job.rule at (cell, value) (next memo)
        (λ done. next m)) stored_is

    -- up to the report
    pub carries_until : does_wide at memo late next
        ≡ carried_until at.job.rule at (cell, value) (next memo)
        (left_if at.job.rule at (cell, value) (next (carried_in at memo)))
    carries_until = carries
        ∙ until_is at.job.rule at (cell, value) (next memo) (λ done. next (carried_in at memo))
