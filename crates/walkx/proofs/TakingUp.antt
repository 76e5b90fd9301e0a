-- A task that is done with what is remembered of its processor.
use Rattle.std.proofs.Common.{◌≡◌, ℕ, suc, true, false, List, Option, Some, None, Ok, Result}
use Rattle.std.proofs.Common.{Bool, refl, sym, ap, subst, ◌∙◌, slice_get}
use Rattle.std.specs.Prelude.{slice_set}
use Rattle.std.proofs.lemmas.Bool.{eq-eqb}
use Rattle.pram_job.specs.declared.instr.Instr.{Instr}
use Rattle.pram_job.specs.declared.instr.Rule.{Rule}
use Rattle.pram_job.specs.declared.instr.Rule.TheVariants.{Common, Priority, Crew}
use Rattle.pram_words.specs.Phases.{kind_at, phase_of}
use Rattle.pram_words.specs.declared.phases.Kind.{Kind}
use Rattle.pram_words.specs.declared.phases.Kind.TheVariants.{Compute, Verify}
use Rattle.walkx.specs.declared.left.Left.{Left}
use Rattle.walk_memory.specs.declared.memo.Memo.{Memo}
use Rattle.walkx.specs.declared.left.Stopped.{Stopped}
use Rattle.walkx.specs.Driving.{IsNextPart, Plays, Standing, goes, learns, learns_all, learns_value}
use Rattle.walkx.specs.Driving.{settled_or_late}
use Rattle.walk_memory.specs.Inner.Posts.{PostData, processor_of, step_of}
use Rattle.walk_memory.specs.Memory.{is_past, memo_of}
use Rattle.walkx.specs.Parts.{does_wide, does_wide_in}
use Rattle.walkx.specs.Passes.{carry_task, crew_carry_task, priority_carry_task, wide_task_of}
use Rattle.walkx.specs.Passing.{Passes, PlaysUp, TakesUp, TakesUpIf, idle, idle_in}
use Rattle.walkx.specs.Scripts.{Script}
use Rattle.walkx.specs.Walk.{Then}
use Rattle.walkx.specs.WideParts.{does_own_by}
use Rattle.walk_memory.proofs.Memories.{memo_again}
use Rattle.walkx.proofs.OwnKnown.{known_does, stands_does}
use Rattle.walkx.proofs.Passes.{next_as, plays_as}
use Rattle.walkx.proofs.Resting.{not_past}
use Rattle.walkx.proofs.Settling.{learned_goes}
use Rattle.walkx.proofs.Silent.{where_over}
use Rattle.walkx.proofs.Turning.{comes_to}
use Rattle.walk_memory.proofs.Timing.{compute_is, verify_is}
use Rattle.walkx.proofs.WidePasses.{own_is, same_wide_kind}

-- the first pass by the instruction that the processor is known to stand at
module _ (at : PostData) (memo : Memo) (instr : Instr) (first : kind_at at.phase ≡ Compute)
    (before : suc memo.step ≡ step_of at)
    (code : slice_get at.job.code memo.own.counter ≡ Some instr)
  where
    stands_is : (late : Script Then) (next : Memo → Script Then) →
        does_wide at memo late next ≡ does_own_by at memo (Some instr) late next
    stands_is late next =
        same_wide_kind at memo late next _ _ first
        ∙ own_is at memo late next first
        ∙ known_does at memo late next (subst (λ (q : ℕ). is_past q memo ≡ false)
        (sym (compute_is at.phase first)) (not_past memo (step_of at) before))
        ∙ rw (eq-eqb (suc memo.step) (step_of at) before) (stands_does at memo next instr code)

    pub own_next : {D : Type 0} (stands : Standing D) (old : D) →
        IsNextPart stands old (does_wide at memo) →
        IsNextPart stands old (does_own_by at memo (Some instr))
    own_next stands old is = next_as stands old _ _ stands_is is

    pub own_plays : {D : Type 0} (stands : Standing D) (old new : D) (result : Result Memo Left) →
        Plays stands old (does_own_by at memo (Some instr)) new result →
        Plays stands old (does_wide at memo) new result
    own_plays stands old new result plays = plays_as stands old _ _ stands_is new result plays

    pub own_idle : {D : Type 0} (old new : D) (known : Memo) →
        Passes (idle_in Compute at memo) old new known → Passes (idle at memo) old new known
    own_idle old new known passes = rw first passes

pub takes_up : {D : Type 0} (stands : Standing D) (at : PostData) (old new : D)
    (memory now : List Memo) (memo learned : Memo) (done : Result (Unit {0}) Left) →
    memo ≡ memo_of memory (processor_of at) → now ≡ slice_set memory (processor_of at) learned →
    Passes (idle at memo) old new learned →
    Plays stands old (does_wide at memo) new (learns done learned) →
    TakesUp stands at old memory new now (settled_or_late done)
takes_up stands at old new memory now memo learned done is kept passes plays = record {
  learned = learned;
  kept = kept;
  idle = subst (λ (m : Memo). Passes (idle at m) old new learned) is passes;
  on = λ from late next here. subst (stands from new) (learned_goes done learned late next)
      (plays.on from late next
      (subst (λ (m : Memo). stands from old (Some (does_wide at m late next))) (sym is) here));
}

-- the same, where another remembers it: what it came to
pub plays_up : {D : Type 0} (stands : Standing D) (at : PostData) (memo : Memo) (does : ℕ → Memo)
    (old new : D) (then : Memo) (done : Result (Unit {0}) Left) → idle at memo ≡ None →
    Plays stands old (does_wide at memo) new (learns done then) →
    (result : Result (Option ℕ) Stopped) →
    learns_all (settled_or_late done) then ≡ learns_value does result →
    PlaysUp stands at old memo does new result
plays_up stands at memo does old new then done asks plays result same = record {
  asks = asks;
  on = λ from late next here. comes_to stands from new _ _
      (learned_goes done then late next
      ∙ ap (λ (s : Result Memo Stopped). goes next s) same)
      (plays.on from late next here);
}

-- the second pass
module _ (at : PostData) (memory : List Memo) (memo : Memo)
    (is : memo ≡ memo_of memory (processor_of at))
    (second : kind_at at.phase ≡ Verify) where
  pub carry_takes : {D : Type 0} (stands : Standing D) (old new : D) (now : List Memo)
      (learned : Memo)
      (done : Result (Unit {0}) Left) → now ≡ slice_set memory (processor_of at) learned →
      (is_past at.phase memo ≡ true → (learned ≡ memo) × (new ≡ old)) →
      Plays stands old (does_wide_in Verify at memo) new (learns done learned) →
      TakesUp stands at old memory new now (settled_or_late done)
  carry_takes stands old new now learned done kept past plays =
      takes_up stands at old new memory now memo learned done is kept
      (subst (λ (k : Kind). Passes (idle_in k at memo) old new learned) (sym second)
      (where_over at memo old new learned second past))
      (plays_as stands _ _ _ (λ late next. same_wide_kind at memo late next _ _ second) _ _ plays)

  past_carries : is_past at.phase memo ≡ true → (late : Script Then) (next : Memo → Script Then) →
      does_wide_in Verify at memo late next ≡ next memo
  unfolding wide_task_of carry_task crew_carry_task priority_carry_task
  past_carries past late next = by at.job.rule refl
    where
      over : is_past (phase_of (step_of at) Verify) memo ≡ true
      over = subst (λ (q : ℕ). is_past q memo ≡ true) (verify_is at.phase second) past

      by : (rule : Rule) → at.job.rule ≡ rule → does_wide_in Verify at memo late next ≡ next memo
      by Common e = rw (e, over) refl
      by Priority e = rw (e, over) refl
      by Crew e = rw (e, over) refl

  pub past_takes : {D : Type 0} (stands : Standing D) (old : D) (now : List Memo) →
      now ≡ slice_set memory (processor_of at) memo → is_past at.phase memo ≡ true →
      TakesUp stands at old memory old now (Ok tt)
  past_takes stands old now kept past =
      carry_takes stands old old now memo (Ok tt) kept (λ e. (refl, refl)) (record {
        on = λ from late next here. subst (λ (s : Script Then). stands from old (Some s))
            (past_carries past late next) here;
      })

  -- what is past asks nothing; else nothing is done
  pub past_if : {D : Type 0} (stands : Standing D) (old : D) (past : Bool) →
      is_past at.phase memo ≡ past → TakesUpIf stands at old memory old memory (Ok past)
  past_if stands old true past = past_takes stands old memory
      (sym (memo_again memory (processor_of at))
      ∙ ap (slice_set memory (processor_of at)) (sym is)) past
  past_if stands old false past = (refl, refl)
