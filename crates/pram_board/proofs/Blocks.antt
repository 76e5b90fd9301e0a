-- The tasks of a leaf's block, with what is remembered of its processors.
use Rattle.std.proofs.Common.{◌≡◌, ℕ, zero, suc, ◌+◌, ◌≤◌, true, false, List, [], ◌++◌}
use Rattle.std.proofs.Common.{Option, Some, None, refl, sym, ap, subst, ◌∙◌, inl, inr, arith}
use Rattle.std.specs.Prelude.{slice_set}
use Rattle.std.proofs.lemmas.Bool.{cases_Bool}
use Rattle.pram_job.specs.Job.{JobData}
use Rattle.pram_words.proofs.Numbering.{grain_some}
use Rattle.pram_words.specs.Phases.{kind_at}
use Rattle.pram_words.specs.Words.{LayoutData, grain}
use Rattle.walk_memory.specs.declared.memo.Memo.{Memo}
use Rattle.walkx.specs.declared.operation.Op.{Op}
use Rattle.walkx.specs.declared.turns.Turned.{Turned}
use Rattle.walk_memory.specs.Inner.Posts.{IsLeafPost, PostData, processor_of, step_of}
use Rattle.walkx.specs.Inner.Posts.{then_raises}
use Rattle.walk_memory.specs.Memory.{FitsMemo, FitsMemory, memo_of}
use Rattle.walkx.specs.Parts.{does_wide}
use Rattle.walkx.specs.Passes.{wide_task_of}
use Rattle.walkx.specs.Passing.{Passes, idle}
use Rattle.walkx.specs.Rests.{has_worked, leads}
use Rattle.walkx.specs.Scripts.{Script, asks, ends, first_op, heard_in, rest}
use Rattle.walk_memory.specs.Blocks.{IsWide, block_reach, has_rank, block_gone_on, processor_at}
use Rattle.walkx.specs.Walk.{Then, Walking, block_mark, ends_block, if_ended, passes_over}
use Rattle.walkx.specs.Walk.{script_of, stands_in, turns}
use Rattle.walkx.proofs.Alikes.{Alike, asks_first, comes_at_once, task_alike}
use Rattle.walkx.proofs.Asking.{FitsThen, asks_after, script_asks}
use Rattle.walk_memory.proofs.Boards.{step_most}
use Rattle.walkx.proofs.Ends.{AllEnds, ends_after, raise_ends}
use Rattle.walkx.proofs.Firsts.{raise_first}
use Rattle.walk_memory.proofs.Ranks.{rank_parts, rank_there}
use Rattle.walk_memory.proofs.Memories.{memory_set}
use Rattle.walkx.proofs.PassingOver.{alone}
use Rattle.walkx.proofs.Stepping.{goes_past, none_left, stops_here}
use Rattle.walkx.proofs.TaskAsking.{AllAsk}
use Rattle.walkx.proofs.Turning.{wide_does}
use Rattle.walkx.proofs.WideAsking.{wide_asks}
use Rattle.lawful_walk.specs.Moments.{Sound}
use Rattle.pram_board.specs.Inner.Plays.{DonePart, Drives, Driving, IsWalking, Led, Moved}
use Rattle.pram_board.specs.Inner.Plays.{PlaysScript, in_block, post_task, turning_at}
use Rattle.pram_board.proofs.Stepping.{driver_starts}
use Rattle.pram_board.proofs.Telling.{led}

-- ---- processors that are passed over

module _ (job : JobData) (y : LayoutData) (n q : ℕ) where
  -- what comes of the task of a rank: it is not there, it asks something, or it is passed over
  abbrev next_over : ℕ → ℕ → List Memo → Memo → ℕ × List Memo
  next_over more rank memory m =
      passes_over more job y n q (suc rank) (slice_set memory (processor_at y n rank) m)

  -- fuel for all ranks that are left is enough
  fuel : (more rank : ℕ) (memory : List Memo) → grain y ≤ rank + more →
      passes_over (suc more) job y n q rank memory ≡ passes_over more job y n q rank memory
  fuel zero rank memory enough = elim (cases_Bool (has_rank y n rank)) [
    | inr none ↦ rw none refl
    | inl there ↦
        absurd (let below = (rank_parts y n rank there).0 in omega (arith, enough, below))
  ]
  fuel (suc more) rank memory enough = elim (cases_Bool (has_rank y n rank)) [
    | inr none ↦ rw none refl
    | inl there ↦ rw there (by (alone job y n q rank (memo_of memory (processor_at y n rank)))
        (λ m. fuel more (suc rank) (slice_set memory (processor_at y n rank) m)
        (omega (arith, enough))))
  ]
    where
      by : (s : Script Memo) →
          ((m : Memo) → next_over (suc more) rank memory m ≡ next_over more rank memory m) →
          if_ended s (rank, memory) (next_over (suc more) rank memory)
          ≡ if_ended s (rank, memory) (next_over more rank memory)
      by (asks op next) each = refl
      by (ends m) each = each m

not_asks : (s : Script Memo) (op : Op) (m : Memo) → first_op s ≡ Some op →
    if_ended s None (λ x. Some x) ≡ Some m → ⊥
not_asks (asks o next) op m first some = absurd (cc)
not_asks (ends x) op m first some = absurd (cc)

-- ---- the task of a processor

module _ (at : PostData) (leaf : IsLeafPost at) (wide : IsWide at.layout.form)
    (memory : List Memo) where
  abbrev pub memo : Memo
  memo = memo_of memory (processor_of at)

  -- the worker in its block, at this processor or past it, and its script
  abbrev here : Walking
  here = in_block at at.rank memory

  abbrev script : Script Then
  script = script_of at.job at.layout (in_block at at.rank memory)

  there : has_rank at.layout at.node at.rank ≡ true
  there = rank_there at.layout at.node at.rank leaf.rank leaf.last

  -- where the task asks something, the worker stands at it
  stops : idle at memo ≡ None →
      here ≡ stands_in at.worker at.node at.phase (at.rank, memory)
  stops none = ap (λ (p : ℕ × List Memo). stands_in at.worker at.node at.phase
      (ends_block at.job at.layout at.node p))
      (stops_here at.job at.layout at.node at.phase at.rank memory wide (grain at.layout) there none)
      ∙ ap (stands_in at.worker at.node at.phase) (rw there refl)

  -- where it does not, the worker is past it
  past : (m : Memo) → idle at memo ≡ Some m →
      here ≡ in_block at (suc at.rank) (slice_set memory (processor_of at) m)
  past m some = by (grain at.layout) refl (grain_some at.layout leaf.board.layout)
    where
      kept : List Memo
      kept = slice_set memory (processor_of at) m

      by : (g : ℕ) → grain at.layout ≡ g → 1 ≤ g → here ≡ in_block at (suc at.rank) kept
      by zero is low = absurd (omega (arith, low))
      by (suc g) is low = ap (λ (p : ℕ × List Memo). stands_in at.worker at.node at.phase
          (ends_block at.job at.layout at.node p))
          (goes_past at.job at.layout at.node at.phase at.rank memory wide (grain at.layout) g
          (suc at.rank) m is refl there some
          ∙ sym (fuel at.job at.layout at.node at.phase g (suc at.rank) kept (omega (arith, is)))
          ∙ ap (λ (f : ℕ). passes_over f at.job at.layout at.node at.phase (suc at.rank) kept)
          (sym is))

  -- it is there without an atomic step
  module _ (p : Driving) (walks : IsWalking (post_task at) p here) where
    on : (m : Memo) → idle at memo ≡ Some m → (now : List Memo) →
        slice_set memory (processor_of at) m ≡ now →
        Moved (post_task at) p here p (in_block at (suc at.rank) now)
    on m some now kept =
        let is : here ≡ in_block at (suc at.rank) now = past m some
        ∙ ap (in_block at (suc at.rank)) kept in record {
          walks = subst (λ (v : Walking). IsWalking (post_task at) p v) is walks;
          went = record {
            ticks = 0;
            ran = record { answers = []; count = refl; seat = refl; worker = sym is };
            desk = refl;
            count = omega arith;
            small = λ h. h;
          };
        }

  -- what follows the task
  abbrev pub after_task : Option Memo → Memo → Script Then
  after_task None = λ m. ends (has_worked at m)
  after_task (Some known) = λ m. script

  abbrev alone_task : Script Memo
  alone_task = wide_task_of at.job.rule (kind_at at.phase) at.job at.layout (step_of at)
      (processor_of at) memo (λ learned. ends learned)

  silent : (m : Memo) → idle at memo ≡ Some m → (late s : Script Then) →
      does_wide at memo late (λ learned. s) ≡ s
  silent m some late s = by (task_alike at.job at.layout (step_of at) (processor_of at)
      (λ learned. s) at.job.rule (kind_at at.phase) memo)
    where
      by : Alike (λ learned. s) alone_task (does_wide at memo late (λ learned. s)) →
          does_wide at memo late (λ learned. s) ≡ s
      by (asks_first op first also) = absurd (not_asks alone_task op m first some)
      by (comes_at_once learned is also) = also

  pub task_is : (o : Option Memo) → idle at memo ≡ o → (late : Script Then) →
      script ≡ does_wide at memo late (after_task o)
  task_is None none late = ap (script_of at.job at.layout) (stops none)
      ∙ rw there refl ∙ wide_does at memo late wide
  task_is (Some m) some late = sym (silent m some late script)

  -- so it is the next part
  pub task_starts : (p : Driving) → IsWalking (post_task at) p here → (late : Script Then) →
      Drives (post_task at) (p, script) p (does_wide at memo late (after_task (idle at memo)))
  task_starts p walks late =
      subst (λ (s : Script Then). Drives (post_task at) (p, script) p s) (task_is (idle at memo) refl late)
      (driver_starts (post_task at) p here walks refl tt)

  -- and the worker is at the next processor
  module _ (p z : Driving) (walks : IsWalking (post_task at) p here)
      (sound : Sound at.job at.layout z.seat.record_of) (learned : Memo) where
    abbrev Moves : Type 0
    Moves = Moved (post_task at) p here z
        (in_block at (suc at.rank) (slice_set memory (processor_of at) learned))

    asks_some : (w : Walking) (end : Then) → here ≡ w → script_of at.job at.layout w ≡ ends end → ⊥
    asks_some w end is e =
        let first = walks.fits.matches in
        let none : first_op (ends end) ≡ Some first.0 =
        sym (ap first_op (ap (script_of at.job at.layout) is ∙ e)) ∙ first.1 in cc

    asked : idle at memo ≡ None → Drives (post_task at) (p, script) z (ends (has_worked at learned)) →
        Moves
    asked none drives =
        let w = stands_in at.worker at.node at.phase (at.rank, memory) in
        let is : here ≡ w = stops none in
        let now = in_block at (suc at.rank) (slice_set memory (processor_of at) learned) in
        let walks_there = subst (λ (v : Walking). IsWalking (post_task at) p v) is walks in
        let plays = subst (λ (s : Script Then). PlaysScript (post_task at) s p
        (ends (has_worked at learned)) z) (ap (script_of at.job at.layout) is) drives.plays in
        let by = led (post_task at) w p z (has_worked at learned) now refl tt drives.here
        walks_there.fits walks_there.knows sound (asks_some w (has_worked at learned) is)
        (λ found earlier. refl) plays in
        subst (λ (v : Walking). Moved (post_task at) p v z now) (sym is)
        (record { walks = by.walks; went = by.went })

    passed : (m : Memo) → idle at memo ≡ Some m → learned ≡ m → z ≡ p → Moves
    passed m some known same =
        let now = slice_set memory (processor_of at) learned in
        subst (λ (d : Driving). Moved (post_task at) p here d (in_block at (suc at.rank) now))
        (sym same) (on p walks m some now (ap (slice_set memory (processor_of at)) (sym known)))

    task_moves : Passes (idle at memo) p z learned →
        Drives (post_task at) (p, script) z (after_task (idle at memo) learned) → Moves
    task_moves passes drives = by (idle at memo) refl passes drives
      where
        by : (o : Option Memo) → idle at memo ≡ o → Passes o p z learned →
            Drives (post_task at) (p, script) z (after_task o learned) → Moves
        by None none passes drives = asked none drives
        by (Some m) some passes drives = passed m some passes.0 passes.1

    -- what is then known of the processor fits
    learned_fits : FitsMemory at.job memory → Passes (idle at memo) p z learned →
        Drives (post_task at) (p, script) z (after_task (idle at memo) learned) →
        FitsMemo at.job learned
    unfolding AllAsk
    learned_fits fits passes drives = by (idle at memo) refl passes drives
      where
        ends_fit : (s : Script Memo) (m : Memo) → if_ended s None (λ x. Some x) ≡ Some m →
            AllAsk at.job at.layout (FitsMemo at.job) s → FitsMemo at.job m
        ends_fit (asks op next) m some all = absurd (cc)
        ends_fit (ends x) m some all = let is : x ≡ m = cc in subst (FitsMemo at.job) is all

        by : (o : Option Memo) → idle at memo ≡ o → Passes o p z learned →
            Drives (post_task at) (p, script) z (after_task o learned) → FitsMemo at.job learned
        by None none passes drives =
            subst (AllAsk at.job at.layout (FitsThen at.job)) drives.plays.comes
            (asks_after (FitsThen at.job) at.job at.layout script drives.plays.answers
            drives.plays.admitted (script_asks at.job at.layout here leaf.board walks.fits))
        by (Some m) some passes drives = subst (FitsMemo at.job) (sym passes.0)
            (ends_fit alone_task m some (wide_asks at.job at.layout leaf.board (FitsMemo at.job)
            at.job.rule (kind_at at.phase) (step_of at) (processor_of at) memo (λ known. ends known)
            refl (step_most at.job.steps at.phase leaf.phase) leaf.last (fits (processor_of at))
            (λ known fit. fit)))

    -- the task was done
    pub task_done : FitsMemory at.job memory → Passes (idle at memo) p z learned →
        Drives (post_task at) (p, script) z (after_task (idle at memo) learned) →
        DonePart at p memory z (slice_set memory (processor_of at) learned)
    task_done fits passes drives = record {
      fits = memory_set at.job memory (processor_of at) learned fits
          (learned_fits fits passes drives);
      moved = task_moves passes drives;
    }

-- ---- the mark

-- all in the block have gone on alone
abbrev pub gone : PostData → List Memo → List Memo
gone at memory = block_gone_on (grain at.layout) at.job at.layout at.node 0 memory

-- its mark, the swap before it having been made or not
abbrev pub marks_block : PostData → List Memo → Script Then
marks_block at memory = then_raises at (block_reach at.job at.layout at.node at.phase memory)

module _ (at : PostData) (memory : List Memo) where
  abbrev reach : ℕ
  reach = block_reach at.job at.layout at.node at.phase memory

  abbrev mark : ℕ
  mark = block_mark at.job at.layout at.node at.phase memory

  -- it comes to one end
  one_end : (e : Then) (answers : List ℕ) → rest (marks_block at memory) answers ≡ ends e →
      e ≡ turns at.node at.phase
  one_end e answers is =
      subst (λ (s : Script Then). AllEnds (λ r h. r ≡ turns at.node at.phase) s
      (heard_in (marks_block at memory) answers ++ [])) is
      (ends_after (λ r h. r ≡ turns at.node at.phase) (marks_block at memory) [] answers
      (raise_ends (λ r. r ≡ turns at.node at.phase) at.layout at.node mark reach at.phase [] refl))

  -- and asks something
  mark_asks : (e : Then) → marks_block at memory ≡ ends e → ⊥
  mark_asks e is =
      let first = raise_first at.layout at.node mark reach at.phase in
      let none : None ≡ Some first.0 = sym (ap first_op is) ∙ first.1 in absurd (cc)

module _ (at : PostData) (rank : ℕ) (memory : List Memo) (wide : IsWide at.layout.form)
    (last : has_rank at.layout at.node rank ≡ false) where
  at_end : in_block at rank memory ≡ stands_in at.worker at.node at.phase (rank, gone at memory)
  at_end = ap (λ (p : ℕ × List Memo). stands_in at.worker at.node at.phase
      (ends_block at.job at.layout at.node p))
      (none_left at.job at.layout at.node at.phase rank memory wide (grain at.layout) last)
      ∙ ap (stands_in at.worker at.node at.phase) (rw last refl)

  mark_script : script_of at.job at.layout (in_block at rank memory)
      ≡ marks_block at (gone at memory)
  mark_script = ap (script_of at.job at.layout) at_end ∙ rw last refl

  pub mark_starts : (p : Driving) → IsWalking (post_task at) p (in_block at rank memory) →
      Drives (post_task at) (p, marks_block at (gone at memory)) p (marks_block at (gone at memory))
  mark_starts p walks =
      subst (λ (s : Script Then). Drives (post_task at) (p, s) p s) mark_script
      (driver_starts (post_task at) p (in_block at rank memory) walks refl tt)

  pub mark_leads : (p z : Driving) (turned : Turned) →
      IsWalking (post_task at) p (in_block at rank memory) →
      Sound at.job at.layout z.seat.record_of →
      Drives (post_task at) (p, marks_block at (gone at memory)) z (ends (leads at turned)) →
      Led (post_task at) p (in_block at rank memory) z (turning_at at (gone at memory))
  mark_leads p z turned walks sound drives =
      let w = stands_in at.worker at.node at.phase (rank, gone at memory) in
      let end = turns at.node at.phase in
      let script : script_of at.job at.layout w ≡ marks_block at (gone at memory) = rw last refl in
      let walks_there = subst (λ (v : Walking). IsWalking (post_task at) p v) at_end walks in
      let is = one_end at (gone at memory) (leads at turned) drives.plays.answers
      drives.plays.comes in
      let plays = subst (λ (s : Script Then). PlaysScript (post_task at) s p (ends end) z)
      (sym script)
      (subst (λ (e : Then). PlaysScript (post_task at) (marks_block at (gone at memory)) p (ends e) z)
      is drives.plays) in
      subst (λ (v : Walking). Led (post_task at) p v z (turning_at at (gone at memory))) (sym at_end)
      (led (post_task at) w p z end (turning_at at (gone at memory)) refl tt drives.here
      walks_there.fits walks_there.knows sound
      (λ e. mark_asks at (gone at memory) end (sym script ∙ e))
      (λ found earlier. refl) plays)

-- what a task that asks nothing leaves as it was, seen from outside
pub passes_driving : {D : Type 0} (o : Option Memo) (learned : Memo) (seen : D → Driving)
    (old new : D) → Passes o old new learned → Passes o (seen old) (seen new) learned
passes_driving None learned seen old new passes = tt
passes_driving (Some m) learned seen old new passes = (passes.0, ap seen passes.1)
