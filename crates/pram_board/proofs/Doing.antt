-- Plain tasks of a block, which are remembered once they are done.
use Rattle.std.proofs.Common.{◌≡◌, ◌≢◌, ℕ, suc, ◌+◌, ◌-◌, ◌%◌, ◌<◌, ◌≤◌, List, Option, None, Some}
use Rattle.std.proofs.Common.{slice_index, nat_lt, sym, ap, subst, ◌∙◌, arith}
use Rattle.std.specs.Prelude.{slice_set}
use Rattle.std.proofs.lemmas.Bool.{lt-ltb}
use Rattle.pram_words.specs.Words.{grain}
use Rattle.walk_memory.specs.declared.memo.Memo.{Memo}
use Rattle.walk_memory.specs.Blocks.{has_rank}
use Rattle.walk_memory.specs.Inner.Posts.{PostData, at_rank, processor_of}
use Rattle.walk_memory.specs.Memory.{at_start, memo_of}
use Rattle.walk_memory.specs.Plain.{done_all, done_or_late}
use Rattle.walk_memory.proofs.Done.{after, done_other, values_more}
use Rattle.walk_memory.proofs.Ranks.{rank_parts}
use Rattle.walk_memory.proofs.Ways.{within_row}
use Rattle.walkx.specs.Parts.{does_wide}
use Rattle.walkx.specs.Passing.{Passes, idle}
use Rattle.walkx.specs.Scripts.{Script}
use Rattle.walkx.specs.Walk.{Then, script_of}
use Rattle.lawful_walk.specs.Moments.{Sound}
use Rattle.pram_board.specs.Inner.Doing.{AtAlike, DoneAlike}
use Rattle.pram_board.specs.Inner.Plain.{AllBy, by_lanes}
use Rattle.pram_board.specs.Inner.Plays.{AtPart, AtTask, DonePart, DoneTo, Drives, Driving, Moved}
use Rattle.pram_board.specs.Inner.Plays.{in_block, post_task}
use Rattle.pram_board.proofs.Blocks.{after_task, task_done, task_starts}
use Rattle.pram_board.proofs.Tasks.{at_next, done_from, is_within}

-- ---- one of them

module _ (at : PostData) (held memory : List Memo)
    (same : memo_of held (processor_of at) ≡ memo_of memory (processor_of at)) (p : Driving)
    (part : AtPart at p held) where
  -- what follows the task, and its script
  abbrev pub follows : Memo → Script Then
  follows = after_task at part.leaf part.walks.fits.block.2 held
      (idle at (memo_of held (processor_of at)))

  abbrev pub script_there : Script Then
  script_there = script_of at.job at.layout (in_block at at.rank held)

  pub alike_starts : (late : Script Then) → Drives (post_task at) (p, script_there) p
      (does_wide at (memo_of memory (processor_of at)) late follows)
  alike_starts late =
      subst (λ (m : Memo). Drives (post_task at) (p, script_there) p (does_wide at m late follows))
      same (task_starts at part.leaf part.walks.fits.block.2 held p part.walks late)

  pub alike_done : (z : Driving) (then : Memo) →
      idle at (memo_of memory (processor_of at)) ≡ None →
      Sound at.job at.layout z.seat.record_of →
      Drives (post_task at) (p, script_there) z (follows then) →
      DonePart at p held z (slice_set held (processor_of at) then)
  alike_done z then asks sound drives =
      let none : idle at (memo_of held (processor_of at)) ≡ None =
      ap (idle at) same ∙ asks in
      task_done at part.leaf part.walks.fits.block.2 held p z part.walks sound then part.fits
      (subst (λ (o : Option Memo). Passes o p z then) (sym none) tt) drives

-- ---- the loop

-- a rank of a block is below its grain
pub below_grain : (at : PostData) (len rank : ℕ) →
    ((rank : ℕ) → has_rank at.layout at.node rank ≡ nat_lt rank len) → rank < len →
    rank < grain at.layout
below_grain at len rank ranks within =
    (rank_parts at.layout at.node rank (ranks rank ∙ lt-ltb rank len within)).0

-- before the first one
pub done_none : (at : PostData) (does : ℕ → Memo) (memory : List Memo) →
    memory ≡ done_all at (at.rank - at.rank) does memory
unfolding done_all
done_none at does memory =
    let none : 0 ≡ at.rank - at.rank = omega arith in
    ap (λ (n : ℕ). done_all at n does memory) none

-- at a leaf, those before it having done theirs
module _ (does : PostData → ℕ → Memo → ℕ → Memo)
    (ranks : (at : PostData) (rank i value : ℕ) (memo : Memo) →
    does (at_rank at rank) i memo value ≡ does at i memo value)
    (from at : PostData) (same : at ≡ at_rank from at.rank) (later : from.rank ≤ at.rank) (len : ℕ)
    (values : List ℕ) (memory : List Memo) where
  abbrev pub done_before : List Memo
  done_before = done_all from (at.rank - from.rank) (by_lanes (does from) values memory) memory

  i_is : processor_of at ≡ processor_of (at_rank from at.rank)
  i_is = ap processor_of same

  -- what it does
  abbrev own : ℕ → Memo
  own = does at (processor_of at) (memo_of memory (processor_of at))

  pub knows_same : memo_of done_before (processor_of at) ≡ memo_of memory (processor_of at)
  knows_same = done_other from memory (by_lanes (does from) values memory) (at.rank - from.rank)
      (processor_of at) (λ m low e. absurd (omega (arith, low, e, i_is, later)))

  module _ (q : Driving) (is : AtTask at len q done_before) where
    pub at_alike : AtAlike at q memory
    at_alike = record {
      held = done_before;
      same = knows_same;
      part = record { leaf = is.leaf; fits = is.fits; walks = is.walks };
    }

    pub by_there : {P : Type 0} (by : PostData → List Memo → P → Type 0) (plain : P) →
        AllBy by from len memory plain → by at memory plain
    by_there by plain all = subst (λ (a : PostData). by a memory plain) (sym same)
        (all at.rank later (is_within at len q done_before is))

    -- it does its own
    then_done : (other : List ℕ) (value : ℕ) → slice_index other (processor_of at % 64) ≡ value →
        ((k : ℕ) → k ≢ processor_of at % 64 → slice_index other k ≡ slice_index values k) →
        slice_set done_before (processor_of at) (own value)
        ≡ done_all from (suc at.rank - from.rank) (by_lanes (does from) other memory) memory
    then_done other value here others =
        ap (slice_set done_before (processor_of at)) (own_is value)
        ∙ ap (λ (i : ℕ). slice_set done_before i (one i value)) (sym there)
        ∙ values_more from memory one values other n value row
        (ap (λ (i : ℕ). slice_index other (i % 64)) there ∙ here)
        (λ k apart. others k (λ e. apart (e ∙ ap (λ (i : ℕ). i % 64) (sym there))))
        ∙ ap (λ (m : ℕ). done_all from m (by_lanes (does from) other memory) memory) next_is
      where
        n : ℕ
        n = at.rank - from.rank

        one : ℕ → ℕ → Memo
        one i = does from i (memo_of memory i)

        next_is : suc (at.rank - from.rank) ≡ suc at.rank - from.rank
        next_is = omega (arith, later)

        there : after from (at.rank - from.rank) ≡ processor_of at
        there = omega (arith, later, i_is)

        here_is : AtTask (at_rank from at.rank) len q done_before
        here_is = subst (λ (a : PostData). AtTask a len q done_before) same is

        row : after from 0 % 64 + (at.rank - from.rank) < 64
        row = omega (
          arith,
          later,
          below_grain from len at.rank here_is.ranks (is_within _ len q done_before here_is),
          within_row from.layout from.node here_is.leaf.board.layout.block,
        )

        own_is : (v : ℕ) → own v ≡ does from (processor_of at) (memo_of memory (processor_of at)) v
        own_is v =
            ap (λ (a : PostData). does a (processor_of at) (memo_of memory (processor_of at)) v)
            same ∙ ranks from at.rank (processor_of at) v (memo_of memory (processor_of at))

    -- from the first one
    module _ (p : Driving) (first : Moved (post_task from) p (in_block from from.rank memory) q
        (in_block from at.rank done_before)) (z : Driving) (found : Option ℕ)
        (done : DoneAlike at q memory own found z) where
      abbrev then : List Memo
      then = slice_set done_before (processor_of at) (done_or_late own found)

      this_done : DonePart at q done_before z then
      this_done = done done_before knows_same
          (record { leaf = is.leaf; fits = is.fits; walks = is.walks })

      all_done : DoneTo from len p memory at.rank z then
      all_done = done_from from.rank from at same later len p memory q done_before is first z then
          this_done.moved this_done.fits

      -- the worker was late
      pub late_done : found ≡ None → DoneTo from len p memory at.rank z
          (slice_set done_before (processor_of (at_rank from at.rank)) at_start)
      late_done none = subst (λ (j : ℕ). DoneTo from len p memory at.rank z
          (slice_set done_before j at_start)) i_is
          (subst (λ (o : Option ℕ). DoneTo from len p memory at.rank z
          (slice_set done_before (processor_of at) (done_or_late own o))) none all_done)

      -- or not
      module _ (value : ℕ) (some : found ≡ Some value) (other : List ℕ)
          (here : slice_index other (processor_of at % 64) ≡ value)
          (others : (k : ℕ) → k ≢ processor_of at % 64 →
          slice_index other k ≡ slice_index values k) where
        abbrev then_all : List Memo
        then_all =
            done_all from (suc at.rank - from.rank) (by_lanes (does from) other memory) memory

        then_is : then ≡ then_all
        then_is = ap (λ (o : Option ℕ). slice_set done_before (processor_of at)
            (done_or_late own o)) some ∙ then_done other value here others

        pub more_done : DoneTo from len p memory at.rank z then_all
        more_done = subst (λ (m : List Memo). DoneTo from len p memory at.rank z m) then_is all_done

        pub more_next : suc at.rank < len → AtTask (at_rank at (suc at.rank)) len z then_all
        more_next more = subst (λ (m : List Memo). AtTask (at_rank at (suc at.rank)) len z m)
            then_is (at_next from.rank from at same later len p memory q done_before is first z then
            this_done.moved this_done.fits more)
