-- Stores of a block that are remembered, one after the other.
use Rattle.std.proofs.Common.{◌≡◌, ℕ, suc, ◌+◌, ◌-◌, ◌%◌, ◌<◌, ◌≤◌, Bool, false, List, Option, Some}
use Rattle.std.proofs.Common.{None, Result, Ok, Err, true, refl, sym, ap, subst, ◌∙◌, slice_index, arith}
use Rattle.std.specs.Prelude.{slice_set, IfSome}
use Rattle.std.specs.Option.{is_some}
use Rattle.pram_job.specs.declared.instr.Rule.{Rule}
use Rattle.walk_memory.specs.declared.memo.Memo.{Memo}
use Rattle.walk_memory.specs.declared.block.Block.{Block}
use Rattle.walk_memory.specs.Inner.Posts.{IsCellOf, PostData, at_rank, processor_of}
use Rattle.walk_memory.specs.Memory.{FitsMemo, memo_of}
use Rattle.walkx.specs.Parts.{does_wide}
use Rattle.walkx.specs.Passing.{idle}
use Rattle.walkx.specs.Rests.{has_worked}
use Rattle.walkx.specs.Scripts.{Script, ends}
use Rattle.walk_memory.specs.Plain.{AllHoldStore, AllStore, HasStore, HoldsStore, carried_all}
use Rattle.walk_memory.specs.Plain.{carried_in, done_all}
use Rattle.walkx.specs.Driving.{IsNextPart, Plays, Standing, comes}
use Rattle.walkx.specs.declared.left.Left.{Left}
use Rattle.walkx.specs.declared.left.Left.TheVariants.{Held, Late}
use Rattle.walkx.specs.Storing.{left_of_task}
use Rattle.walkx.specs.Walk.{Then, script_of}
use Rattle.walkx.specs.WideParts.{carried_until}
use Rattle.walk_memory.proofs.Done.{done_other}
use Rattle.walk_memory.proofs.ClaimWords.{cell_of}
use Rattle.walk_memory.proofs.Memories.{memo_again}
use Rattle.walk_memory.proofs.Storing.{cell_fits, stores_left}
use Rattle.walkx.proofs.Storing.{carries_until, left_if, store_asks}
use Rattle.lawful_walk.specs.Moments.{Sound}
use Rattle.pram_board.specs.declared.driver.Driver.{Driver}
use Rattle.pram_board.specs.Inner.Plays.{AtPart, AtTask, DonePart, DoneTo, Drives, Driving}
use Rattle.pram_board.specs.Inner.Plays.{Moved, StoredIn, StoredTo, WasSwapped, drives, driving}
use Rattle.pram_board.specs.Inner.Plays.{in_block, post_task}
use Rattle.pram_board.proofs.Blocks.{after_task, task_done, task_starts}
use Rattle.pram_board.proofs.Tasks.{done_from, is_within}
use Rattle.pram_board.proofs.Working.{sound_at}

module _ (at : PostData) (p : Driving) (memory : List Memo) (is : AtPart at p memory) where
  abbrev script : Script Then
  script = script_of at.job at.layout (in_block at at.rank memory)

  -- the task asks something, and is the next part
  pub swap_starts : idle at (memo_of memory (processor_of at)) ≡ None → (late : Script Then) →
      Drives (post_task at) (p, script) p
      (does_wide at (memo_of memory (processor_of at)) late (λ m. ends (has_worked at m)))
  swap_starts none late =
      let wide = is.walks.fits.block.2 in
      subst (λ (o : Option Memo). Drives (post_task at) (p, script) p
      (does_wide at (memo_of memory (processor_of at)) late (after_task at is.leaf wide memory o)))
      none (task_starts at is.leaf wide memory p is.walks late)

  -- where no report is due, it was done
  pub swap_done : (z : Driving) (now : List Memo) → WasSwapped at p memory None z now →
      DonePart at p memory z now
  swap_done z now swapped =
      let wide = is.walks.fits.block.2 in
      let none = swapped.asks in
      subst (DonePart at p memory z) (sym swapped.kept)
      (task_done at is.leaf wide memory p z is.walks swapped.sound swapped.learned is.fits
      (rw none tt)
      (subst (λ (o : Option Memo). Drives (post_task at) (p, script) z
      (after_task at is.leaf wide memory o swapped.learned)) (sym none) swapped.drives))

-- a driver that is this one, but for what contracts see of it
abbrev pub driver_of : {G : Type 0} → Driver G → Driving → Driver G
driver_of d before = record d {
  board = record d.board { now = before.desk };
  seat = record d.seat { now = before.seat };
  made = before.made;
}

-- the report is made
pub reported : (at : PostData) (p : Driving) (memory now : List Memo) (write : ℕ × ℕ)
    (d z : Driving) (swapped : WasSwapped at p memory (Some write) d now) →
    Drives (post_task at) (p, script_of at.job at.layout (in_block at at.rank memory)) z
    (ends (has_worked at swapped.learned)) → Sound z.seat.desk.task.job
    z.seat.desk.task.layout z.seat.record_of → WasSwapped at p memory None z now
reported at p memory now write d z swapped drives sound = record {
  learned = swapped.learned;
  kept = swapped.kept;
  asks = swapped.asks;
  cell = tt;
  sound = sound_at (post_task at) z drives.here sound;
  drives = drives;
}

-- the last one was done, and the stores of the others are there
module _ (at : PostData) (len : ℕ) (p : Driving) (memory : List Memo) (last : PostData) (z : Driving)
    (now : List Memo) (is : StoredTo at len p memory (last, None) z now) where
  abbrev there : AtPart last is.mid is.between
  there = record { leaf = is.there.leaf; fits = is.there.fits; walks = is.there.walks }

  pub stored_done : DoneTo at len p memory last.rank z now
  stored_done =
      let done = swap_done last is.mid is.between there z now is.swapped in
      done_from at.rank at last is.same is.onward len p memory is.mid is.between is.there is.moved z now
      done.moved done.fits

pub is_none : {A : Type 0} (o : Option A) → is_some o ≡ false → o ≡ None
is_none (Some a) e = absurd (cc)
is_none None e = refl

pub still_stores : (at : PostData) (len : ℕ) (p : Driving) (memory : List Memo)
    (due : Option (ℕ × ℕ)) (z : Driving) (now : List Memo) → AllStore at len memory →
    WasSwapped at p memory due z now → AllStore (at_rank at (suc at.rank)) len now
still_stores at len p memory due z now all swapped =
    subst (AllStore (at_rank at (suc at.rank)) len) (sym swapped.kept)
    (stores_left at len memory swapped.learned all)

-- as its answer says
pub stored_as : (at : PostData) (len : ℕ) (p : Driving) (memory : List Memo)
    (last : PostData × Option (ℕ × ℕ)) (due : Option (ℕ × ℕ)) (d : Driving) (now : List Memo) →
    last.1 ≡ due → StoredTo at len p memory last d now →
    StoredTo at len p memory (last.0, due) d now
stored_as at len p memory last due d now is stored =
    subst (λ (o : Option (ℕ × ℕ)). StoredTo at len p memory (last.0, o) d now) is stored

-- the report of the last one is made
pub stored_reported : (at : PostData) (len : ℕ) (p : Driving) (memory : List Memo) (last : PostData)
    (due : Option (ℕ × ℕ)) (d : Driving) (z : Driving) (now : List Memo) →
    (is : StoredTo at len p memory (last, due) d now) →
    WasSwapped last is.mid is.between None z now → StoredTo at len p memory (last, None) z now
stored_reported at len p memory last due d z now is swapped = record {
  same = is.same;
  onward = is.onward;
  mid = is.mid;
  between = is.between;
  moved = is.moved;
  there = is.there;
  stores = is.stores;
  swapped = swapped;
}

-- where a driver stands
abbrev pub stands_of : {G : Type 0} → PostData → Standing (Driver G)
stands_of at from d script = (d.seat.ghost_name ≡ from.0.seat.ghost_name)
    × drives (post_task at) (driving from.0, from.1) (driving d) script

-- the stores of those from a leaf up to another of its block were carried out, and are yet to be
-- remembered so
module _ {G : Type 0} (from at : PostData) (same : at ≡ at_rank from at.rank)
    (later : from.rank ≤ at.rank) (len : ℕ) (memory : List Memo) (block : Block)
    (all : AllHoldStore from len memory block) (d : Driver G)
    (is : AtTask at len (driving d) (carried_all from (at.rank - from.rank) memory)) where
  abbrev q : Driving
  q = driving d

  abbrev n : ℕ
  n = at.rank - from.rank

  abbrev between : List Memo
  between = carried_all from n memory

  abbrev i : ℕ
  i = processor_of at

  abbrev memo : Memo
  memo = memo_of memory i

  abbrev write : ℕ × ℕ
  write = (slice_index block.cell (i % 64), slice_index block.value (i % 64))

  within : at.rank < len
  within = is_within at len q between is

  holds : HoldsStore at memory block
  holds = subst (λ (a : PostData). HoldsStore a memory block) (sym same) (all at.rank later within)

  -- what is known of the later ones is as it was
  still : (rank : ℕ) → at.rank ≤ rank → memo_of between (processor_of (at_rank from rank))
      ≡ memo_of memory (processor_of (at_rank from rank))
  still rank least = done_other from memory (λ j. carried_in from (memo_of memory j)) n
      (processor_of (at_rank from rank))
      (λ k few e. absurd (omega (arith, later, least, few, e)))

  known : memo_of between i ≡ memo
  known = subst (λ (a : PostData). memo_of between (processor_of a) ≡ memo_of memory (processor_of a))
      (sym same) (still at.rank (omega arith))

  stores_there : AllStore at len between
  stores_there rank least to =
      subst (λ (a : PostData). HasStore (at_rank a rank) (memo_of between
      (processor_of (at_rank a rank)))) (sym same)
      (subst (HasStore (at_rank from rank)) (sym (still rank least))
      (all rank (omega (arith, later, least)) to).has)

  cell : IsCellOf at write.0
  cell = cell_of at write.0 is.leaf.board (cell_fits at.job memo write
      (subst (FitsMemo at.job) known (is.fits i)) holds.write)

  part : AtPart at q between
  part = record { leaf = is.leaf; fits = is.fits; walks = is.walks }

  store_idle : idle at (memo_of between i) ≡ None
  store_idle = subst (λ (m : Memo). idle at m ≡ None) (sym known) (store_asks at memo holds.has)

  abbrev begun : Script Then
  begun = script_of at.job at.layout (in_block at at.rank between)

  abbrev late : Script Then
  late = ends (has_worked at memo)

  abbrev after : Bool → Script Then
  after other = left_if at.job.rule at write (ends (has_worked at (carried_in at memo))) other

  starts : Drives (post_task at) (q, begun) q (carried_until at.job.rule at write late after)
  starts = subst (λ (s : Script Then). Drives (post_task at) (q, begun) q s)
      (carries_until at memo holds.has write.0 write.1 holds.write late
      (λ m. ends (has_worked at m)))
      (subst (λ (m : Memo). Drives (post_task at) (q, begun) q
      (does_wide at m late (λ m. ends (has_worked at m)))) known
      (swap_starts at q between part store_idle late))

  -- it is the last one of which the store was carried out
  next_carried : carried_all from (suc at.rank - from.rank) memory
      ≡ slice_set between i (carried_in at memo)
  unfolding done_all
  next_carried =
      let more : suc at.rank - from.rank ≡ suc n = omega (arith, later) in
      let rank : from.rank + n ≡ at.rank = omega (arith, later) in
      ap (λ (k : ℕ). carried_all from k memory) more
      ∙ ap (λ (a : PostData). slice_set between (processor_of a)
      (carried_in a (memo_of memory (processor_of a)))) (ap (at_rank from) rank ∙ sym same)

  -- or it was not
  late_carried : between ≡ slice_set between i memo
  late_carried = sym (memo_again between i) ∙ ap (slice_set between i) known

  module _ (rule : Rule) (by : rule ≡ at.job.rule) (w : ℕ × ℕ) (reads : w ≡ write) where
    pub store_cell : IsCellOf at w.0
    store_cell = rw reads cell

    begins_by : Drives (post_task at) (q, begun) q (carried_until rule at w late after)
    begins_by = rw (reads, by) starts

    pub store_next : IsNextPart (stands_of at) d (carried_until rule at w)
    store_next = record {
      from = (d, begun);
      after = late;
      next = after;
      here = (refl, begins_by);
    }

    -- the store was carried out up to the report, or the worker was late
    module _ (e : Driver G) (done : Result Bool Left)
        (plays : Plays (stands_of at) d (carried_until rule at w) e done)
        (sound : Sound e.seat.now.desk.task.job e.seat.now.desk.task.layout e.seat.now.record_of)
      where
        comes_there : stands_of at (d, begun) e (comes late after done)
        comes_there = plays.on (d, begun) late after (refl, begins_by)

        pub store_same : e.seat.ghost_name ≡ d.seat.ghost_name
        store_same = comes_there.0

        comes_by : (what : Result Bool Left) → done ≡ what →
            drives (post_task at) (q, begun) (driving e) (comes late after what)
        comes_by what e_is = subst (λ (r : Result Bool Left).
            drives (post_task at) (q, begun) (driving e) (comes late after r)) e_is comes_there.1

        pub store_held : done ≡ Err Held → ⊥
        store_held e_is = comes_by (Err Held) e_is

        swaps : (due : Option (ℕ × ℕ)) → IfSome due (λ v. IsCellOf at v.0) → (learned : Memo)
            (now : List Memo) → now ≡ slice_set between i learned →
            Drives (post_task at) (q, begun) (driving e) (left_of_task at due (ends (has_worked at learned))) →
            WasSwapped at q between due (driving e) now
        swaps due fits learned now kept plays_it = record {
          learned = learned;
          kept = kept;
          asks = store_idle;
          cell = fits;
          sound = sound_at (post_task at) (driving e) plays_it.here sound;
          drives = plays_it;
        }

        pub store_done : done ≡ Ok false → DonePart at q between (driving e)
            (carried_all from (suc at.rank - from.rank) memory)
        store_done e_is = swap_done at q between part (driving e) _ (swaps None tt
            (carried_in at memo) _ next_carried (comes_by (Ok false) e_is))

        module _ (p : Driving) (moved : Moved (post_task from) p (in_block from from.rank memory) q
            (in_block from at.rank between)) where
          ends_at : (due : Option (ℕ × ℕ)) (now : List Memo) →
              WasSwapped at q between due (driving e) now →
              StoredTo from len p memory (at, due) (driving e) now
          ends_at due now swapped = record {
            same = same;
            onward = later;
            mid = q;
            between = between;
            moved = moved;
            there = is;
            stores = stores_there;
            swapped = swapped;
          }

          pub store_due : done ≡ Ok true → (v : ℕ × ℕ) → v ≡ write → (rank : ℕ) → rank ≡ at.rank →
              StoredIn from len p memory (at, Some v, rank + 1) (driving e)
          store_due e_is v v_is rank rank_is =
              let up : rank + 1 - from.rank ≡ suc at.rank - from.rank = omega (arith, rank_is) in
              record {
                from = omega (arith, later, rank_is);
                most = omega (arith, within, rank_is);
                stored = rw (v_is, up) (ends_at (Some write) _ (swaps (Some write) cell
                    (carried_in at memo) _ next_carried (comes_by (Ok true) e_is)));
              }

          pub store_last : done ≡ Ok false → suc at.rank ≡ len →
              StoredIn from len p memory (at, None, len) (driving e)
          store_last e_is last_is = record {
            from = omega (arith, later, last_is);
            most = omega arith;
            stored = subst (λ (end : ℕ). StoredTo from len p memory (at, None) (driving e)
                (carried_all from (end - from.rank) memory)) last_is
                (ends_at None _ (swaps None tt (carried_in at memo) _ next_carried
                (comes_by (Ok false) e_is)));
          }

          pub store_late : done ≡ Err Late → (rank : ℕ) → rank ≡ at.rank →
              StoredIn from len p memory (at, None, rank) (driving e)
          store_late e_is rank rank_is = record {
            from = omega (arith, later, rank_is);
            most = omega (arith, within, rank_is);
            stored = rw rank_is (ends_at None _ (swaps None tt memo _ late_carried
                (comes_by (Err Late) e_is)));
          }
