-- The tasks of a block, one after the other.
use Rattle.std.proofs.Common.{◌≡◌, ℕ, ◌<◌, ◌≤◌, ◌-◌, suc, Bool, false, List, [], refl, sym, ap}
use Rattle.std.proofs.Common.{subst, ◌∙◌, arith}
use Rattle.std.specs.Prelude.{nat_lt}
use Rattle.std.proofs.lemmas.Bool.{lt-ltb, ltb-true}
use Rattle.walk_memory.specs.declared.memo.Memo.{Memo}
use Rattle.walk_memory.specs.Inner.Posts.{IsLeafPost, PostData, at_rank}
use Rattle.walk_memory.specs.Memory.{FitsMemory}
use Rattle.walkx.specs.Walk.{Walking}
use Rattle.walk_memory.specs.Blocks.{has_rank}
use Rattle.walk_memory.proofs.Ranks.{rank_parts, rank_there}
use Rattle.pram_board.specs.declared.task.Task.{Task}
use Rattle.pram_board.specs.Inner.Plays.{AtTask, DoneFrom, DoneMore, DoneTo, Driving, IsWalking}
use Rattle.pram_board.specs.Inner.Plays.{Moved, PastTask, Tried, in_block, post_task}
use Rattle.pram_board.proofs.Telling.{went_more}

-- no tick
pub not_moved : (t : Task) (p : Driving) (w : Walking) → IsWalking t p w → Moved t p w p w
not_moved t p w walks = record {
  walks = walks;
  went = record {
    ticks = 0;
    ran = record { answers = []; count = refl; seat = refl; worker = refl };
    desk = refl;
    count = omega arith;
    small = λ h. h;
  };
}

pub moved_more : (t : Task) (p : Driving) (w : Walking) (q : Driving) (mid : Walking)
    (z : Driving) (now : Walking) → Moved t p w q mid → Moved t q mid z now → Moved t p w z now
moved_more t p w q mid z now first second = record {
  walks = second.walks;
  went = went_more t p w q mid z now first.went second.went;
}

-- the leaf is that of a processor of the block
pub is_within : (at : PostData) (len : ℕ) (p : Driving) (memory : List Memo) →
    AtTask at len p memory → at.rank < len
is_within at len p memory is = ltb-true at.rank len (sym (is.ranks at.rank)
    ∙ rank_there at.layout at.node at.rank is.leaf.rank is.leaf.last)

-- a rank of the block is one of its processors
pub leaf_at : (at : PostData) (len rank : ℕ) → IsLeafPost at →
    ((rank : ℕ) → has_rank at.layout at.node rank ≡ nat_lt rank len) → rank < len →
    IsLeafPost (at_rank at rank)
leaf_at at len rank leaf ranks within =
    let parts = rank_parts at.layout at.node rank (ranks rank ∙ lt-ltb rank len within) in record {
      board = leaf.board;
      first = leaf.first;
      rank = parts.0;
      last = parts.1;
      phase = leaf.phase;
    }

-- from one leaf to another of its block
module _ (start : ℕ) (from at : PostData) (same : at ≡ at_rank from at.rank)
    (later : from.rank ≤ at.rank) (len : ℕ) (p : Driving) (memory : List Memo) (q : Driving)
    (mid : List Memo) (is : AtTask at len q mid)
    (first : Moved (post_task from) p (in_block from start memory) q (in_block from at.rank mid))
    (z : Driving) (now : List Memo)
    (second : Moved (post_task at) q (in_block at at.rank mid) z (in_block at (suc at.rank) now))
    (fits : FitsMemory at.job now) where
  pub done_from : DoneFrom start from len p memory at.rank z now
  done_from = record {
    onward = later;
    within = is_within at len q mid is;
    fits = subst (λ (a : PostData). FitsMemory a.job now) same fits;
    moved = moved_more _ _ _ q (in_block from at.rank mid) z _ first
        (subst (λ (a : PostData). Moved (post_task a) q (in_block a at.rank mid) z
        (in_block a (suc at.rank) now)) same second);
  }

  -- and to the next one
  pub at_next : suc at.rank < len → AtTask (at_rank at (suc at.rank)) len z now
  at_next more = record {
    leaf = leaf_at at len (suc at.rank) is.leaf is.ranks more;
    ranks = is.ranks;
    fits = fits;
    walks = second.walks;
  }

  pub same_next : at_rank at (suc at.rank) ≡ at_rank from (suc at.rank)
  same_next = ap (λ (a : PostData). at_rank a (suc at.rank)) same

-- up to the rank before a leaf's
done_before : (start : ℕ) (from at : PostData) → at ≡ at_rank from at.rank → from.rank < at.rank →
    (len : ℕ) (p : Driving) (memory : List Memo) (q : Driving) (mid : List Memo) →
    AtTask at len q mid →
    Moved (post_task from) p (in_block from start memory) q (in_block from at.rank mid) →
    DoneFrom start from len p memory (at.rank - 1) q mid
done_before start from at same later len p memory q mid is first =
    let within = is_within at len q mid is in
    let rank : at.rank ≡ suc (at.rank - 1) = omega (arith, later) in record {
      onward = omega (arith, later);
      within = omega (arith, later, within);
      fits = subst (λ (a : PostData). FitsMemory a.job mid) same is.fits;
      moved = subst (λ (r : ℕ). Moved (post_task from) p (in_block from start memory) q
          (in_block from r mid)) rank first;
    }

-- or a try of the leaf's that did nothing
pub done_untried : (start : ℕ) (from at : PostData) → at ≡ at_rank from at.rank →
    from.rank < at.rank → (len : ℕ) (p : Driving) (memory : List Memo) (q : Driving)
    (mid : List Memo) → AtTask at len q mid →
    Moved (post_task from) p (in_block from start memory) q (in_block from at.rank mid) →
    (z : Driving) (now : List Memo) (tried : Bool) → tried ≡ false →
    Tried at q mid z now tried → DoneFrom start from len p memory (at.rank - 1) z now
done_untried start from at same later len p memory q mid is first z now tried none tries =
    let still : (z ≡ q) × (now ≡ mid) = subst (Tried at q mid z now) none tries in
    rw (still.0, still.1) (done_before start from at same later len p memory q mid is first)

-- the task of a leaf, and more after it
pub done_first : (at : PostData) (len : ℕ) (p : Driving) (memory : List Memo) (z : Driving)
    (now : List Memo) → Moved (post_task at) p (in_block at at.rank memory) z
    (in_block at (suc at.rank) now) → (last : ℕ) (y : Driving) (then : List Memo) →
    DoneMore at len z now last y then → DoneTo at len p memory last y then
done_first at len p memory z now first last y then more = record {
  onward = more.onward;
  within = more.within;
  fits = more.fits;
  moved = moved_more _ _ _ z (in_block at (suc at.rank) now) y _ first more.moved;
}

-- from one leaf to a later rank of its block
module _ (from at : PostData) (same : at ≡ at_rank from at.rank) (len : ℕ) (p : Driving)
    (memory : List Memo) (q : Driving) (mid : List Memo) (is : AtTask at len q mid)
    (first : Moved (post_task from) p (in_block from from.rank memory) q
    (in_block from at.rank mid)) (z : Driving) (now : List Memo) (last : ℕ)
    (done : DoneTo at len q mid last z now) where
  pub went_on : Moved (post_task from) p (in_block from from.rank memory) z
      (in_block from (suc last) now)
  went_on = moved_more _ _ _ q (in_block from at.rank mid) z _ first
      (subst (λ (a : PostData). Moved (post_task a) q (in_block a at.rank mid) z
      (in_block a (suc last) now)) same done.moved)

  pub leaf_after : suc last < len → IsLeafPost (at_rank at (suc last))
  leaf_after more = leaf_at at len (suc last) is.leaf is.ranks more

  pub task_after : suc last < len → AtTask (at_rank at (suc last)) len z now
  task_after more = record {
    leaf = leaf_at at len (suc last) is.leaf is.ranks more;
    ranks = is.ranks;
    fits = done.fits;
    walks = done.moved.walks;
  }

  pub same_after : at_rank at (suc last) ≡ at_rank from (suc last)
  same_after = ap (λ (a : PostData). at_rank a (suc last)) same

-- past a leaf's task
module _ (at : PostData) (len : ℕ) (p : Driving) (memory : List Memo)
    (is : PastTask at len p memory) where
  pub is_past : at.rank < len
  is_past = ltb-true at.rank len (sym (is.ranks at.rank)
      ∙ rank_there at.layout at.node at.rank is.leaf.rank is.leaf.last)

  pub done_none : DoneMore at len p memory at.rank p memory
  done_none = record {
    onward = omega arith;
    within = is_past;
    fits = is.fits;
    moved = not_moved _ _ _ is.walks;
  }

  pub task_next : suc at.rank < len → AtTask (at_rank at (suc at.rank)) len p memory
  task_next more = record {
    leaf = leaf_at at len (suc at.rank) is.leaf is.ranks more;
    ranks = is.ranks;
    fits = is.fits;
    walks = is.walks;
  }
