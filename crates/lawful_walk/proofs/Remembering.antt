-- What a worker remembers stays true, whatever it hears.
use Rattle.std.proofs.Common.{◌≡◌, ℕ, zero, suc, ◌*◌, ◌<◌, ◌≤◌, true, List, [], ◌∷◌, ◌++◌}
use Rattle.std.proofs.Common.{IsTrue, refl, sym, ap, subst, ◌∙◌, inl, inr, arith}
use Rattle.std.specs.Prelude.{slice_set}
use Rattle.std.proofs.lemmas.Bool.{cases_Bool, cond_both}
use Rattle.pram_job.specs.Job.{JobData}
use Rattle.pram_words.specs.Phases.{has_phase}
use Rattle.pram_words.specs.Words.{LayoutData, grain}
use Rattle.walk_memory.specs.declared.memo.Memo.{Memo}
use Rattle.walkx.specs.declared.operation.Op.{Op}
use Rattle.walkx.specs.Doing.{Doing}
use Rattle.walkx.specs.Doing as doing
use Rattle.walk_memory.specs.Memory.{IsTrueMemo, IsTrueMemory, gone_on, memo_of}
use Rattle.walkx.specs.Playing.{hearing}
use Rattle.walkx.specs.Records.{Has, Knows, Record, after}
use Rattle.walkx.specs.Scripts.{Script, asks, ends, heard_in, rest, rest_after}
use Rattle.walkx.specs.Walk.{Fits, IsGoing, IsPhase, Then, Walking, ask_of, begins, begun_phase}
use Rattle.walkx.specs.Walk.{block_script, ends_block, enters, goes_on, heard_of, if_ended, node_of}
use Rattle.walkx.specs.Walk.{part_script, passes_over, phase_begun, rest_of, script_by, script_of}
use Rattle.walkx.specs.Walk.{stops, told, turns, worked, IsInBlock}
use Rattle.walk_memory.specs.Blocks.{IsBoard, IsWide, block_gone_on, has_rank, processor_at}
use Rattle.walk_memory.proofs.Boards.{same_procs}
use Rattle.walkx.proofs.Ends.{AllEnds, Brings, worker_ends}
use Rattle.walk_memory.proofs.Ranks.{rank_parts}
use Rattle.walkx.proofs.Fitting.{heard_more}
use Rattle.walkx.proofs.Going.{going_or_over, told_going, told_over}
use Rattle.walkx.proofs.Alikes.{Alike, asks_first, comes_at_once}
use Rattle.walkx.proofs.Knowing.{has_after, same_worked}
use Rattle.walk_memory.proofs.Memories.{memo_set}
use Rattle.walkx.proofs.Nodes.{node_range}
use Rattle.walkx.proofs.PassingOver.{alone, going_first, part_alike}
use Rattle.lawful_walk.proofs.Moving.{RankSafe, shown_of}
use Rattle.lawful_walk.proofs.Sees.{Chain, chain_of_has}
use Rattle.lawful_walk.proofs.TrueMemos.{gone_on_true}
use Rattle.lawful_walk.specs.Board.{Stands}
use Rattle.lawful_walk.specs.Moments.{Backed}

true_set : (job : JobData) (memory : List Memo) (i : ℕ) (memo : Memo) → IsTrueMemory job memory →
    (i < job.procs → IsTrueMemo job i memo) → IsTrueMemory job (slice_set memory i memo)
true_set job memory i memo is_true one limits =
    memo_set (λ k m. k < job.procs → IsTrueMemo job k m) memory i memo (is_true limits) one

-- ---- the processors of a block that are passed over

module _ (job : JobData) (y : LayoutData) (board : IsBoard job y) (wide : IsWide y.form)
    (w n q : ℕ) (words : List ℕ) (safe : RankSafe) (some : 1 ≤ y.leaves) (low : y.leaves ≤ n)
    (high : n < 2 * y.leaves) (first : 1 ≤ q) (last : q ≤ 3 * job.steps)
    (formed : IsTrue (has_phase y.form q)) (stands : Stands job y words)
    (begun : Chain job y (λ words. Unit {0}) (begun_phase y q) words) where
  passed_true : (more rank : ℕ) (memory : List Memo) → IsTrueMemory job memory →
      IsTrueMemory job (passes_over more job y n q rank memory).1
  passed_true zero rank memory is_true = is_true
  passed_true (suc more) rank memory is_true = elim (cases_Bool (has_rank y n rank)) [
    | inr none ↦ rw none is_true
    | inl there ↦ rw there (by there (part_alike job y n q rank memo wide) (λ learned one.
        passed_true more (suc rank) (slice_set memory i learned)
        (true_set job memory i learned is_true (λ below. one))))
  ]
    where
      i : ℕ
      i = processor_at y n rank

      memo : Memo
      memo = memo_of memory i

      goes : Memo → ℕ × List Memo
      goes m = passes_over more job y n q (suc rank) (slice_set memory i m)

      by : has_rank y n rank ≡ true →
          Alike (λ m. ends (worked n q rank m)) (alone job y n q rank memo)
          (part_script job y n q rank memo) →
          ((learned : Memo) → IsTrueMemo job i learned → IsTrueMemory job (goes learned).1) →
          IsTrueMemory job (if_ended (alone job y n q rank memo) (rank, memory) goes).1
      by there (asks_first op e f) next =
          rw (going_first (alone job y n q rank memo) op (rank, memory) goes e) is_true
      by there (comes_at_once learned e f) next =
          let proc = (rank_parts y n rank there).1 in
          let same = same_procs job y board in
          let known = is_true board.limits i (omega (arith, proc, same)) in
          rw e (next learned (shown_of job y board wide w n q words safe some low high first last
          formed stands rank there memo learned [] known f begun).1)

  -- ---- and go on alone after the last one's task

  gone_true : (more rank : ℕ) (memory : List Memo) → IsTrueMemory job memory →
      IsTrueMemory job (block_gone_on more job y n rank memory)
  gone_true zero rank memory is_true = is_true
  gone_true (suc more) rank memory is_true =
      let i = processor_at y n rank in
      let gone = gone_on job i (memo_of memory i) in
      cond_both (has_rank y n rank)
      (block_gone_on more job y n (suc rank) (slice_set memory i gone)) memory
      (IsTrueMemory job)
      (λ there. let proc = (rank_parts y n rank there).1 in
      let same = same_procs job y board in
      let below : i < job.procs = omega (arith, proc, same) in
      gone_true more (suc rank) (slice_set memory i gone)
      (true_set job memory i gone is_true (λ low. gone_on_true job i board.limits low
      (memo_of memory i) (is_true board.limits i low))))
      (λ none. is_true)

  ended_true : (passed : ℕ × List Memo) → IsTrueMemory job passed.1 →
      IsTrueMemory job (ends_block job y n passed).1
  ended_true passed is_true = cond_both (has_rank y n passed.0) passed _
      (λ (p : ℕ × List Memo). IsTrueMemory job p.1) (λ there. is_true)
      (λ none. gone_true (grain y) 0 passed.1 is_true)

  -- in a block, from this rank on
  goes_true : (rank : ℕ) (memory : List Memo) → IsTrueMemory job memory →
      IsTrueMemory job (ends_block job y n (passes_over (grain y) job y n q rank memory)).1
  goes_true rank memory is_true = ended_true (passes_over (grain y) job y n q rank memory)
      (passed_true (grain y) rank memory is_true)

-- ---- what comes of an answer

module _ (job : JobData) (y : LayoutData) (board : IsBoard job y) (safe : RankSafe) (r : Record)
    (w : Walking) (found : ℕ) (words : List ℕ) (stands : Stands job y words)
    (backed : Backed job y r words) (fits : Fits job y w) (is_true : IsTrueMemory job w.memory)
    (going : IsGoing w.now) (has : Has r (heard_of job y (hearing w found))) where
  -- the block of a leaf is entered in a turn
  entered_true : (m q : ℕ) (d : Doing) → w.now ≡ d →
      Brings job y w.number (node_of y w) d (enters m q) (heard_of job y (hearing w found)) →
      IsTrueMemory job (goes_on job y w found (ends (enters m q))).memory
  entered_true m q doing.Back e b = absurd b
  entered_true m q doing.Begin e b = absurd b
  entered_true m q (doing.Part p rank) e b = absurd b
  entered_true m q (doing.Over o) e b = absurd (subst IsGoing e going)
  entered_true m q (doing.Turn p) e b =
      let n = node_of y w in
      let at = node_range job y w board.layout.leaves.0 fits in
      let phase : IsPhase job y (doing.Turn p) = subst (IsPhase job y) e fits.phase in
      let begun : Has r (begun_phase y p) = has_after r
      (heard_in (script_of job y w) (found ∷ w.heard)) (begun_phase y p)
      (subst (λ (d : Doing). Has r (heard_in (script_of job y w) (found ∷ w.heard)
      ++ phase_begun y d)) e has) in
      rw (b.1, b.2) (goes_true job y board b.3 w.number n p words safe board.layout.leaves.0 b.0
      at.1 phase.0 phase.1 phase.2 stands
      (chain_of_has job y r (begun_phase y p) words backed begun) 0 w.memory is_true)

  -- a task of a block is done
  worked_true : (m q rank : ℕ) (memo : Memo) (d : Doing) → w.now ≡ d →
      rest_after (rest_of job y w) found ≡ ends (worked m q rank memo) →
      Brings job y w.number (node_of y w) d (worked m q rank memo)
      (heard_of job y (hearing w found)) →
      IsTrueMemory job (goes_on job y w found (ends (worked m q rank memo))).memory
  worked_true m q rank memo doing.Back e is b = absurd b
  worked_true m q rank memo doing.Begin e is b = absurd b
  worked_true m q rank memo (doing.Turn p) e is b = absurd b
  worked_true m q rank memo (doing.Over o) e is b = absurd (subst IsGoing e going)
  worked_true m q rank memo (doing.Part p due) e is b =
      let n = node_of y w in
      let xs = found ∷ w.heard in
      let i = processor_at y n due in
      let known = memo_of w.memory i in
      let at = node_range job y w board.layout.leaves.0 fits in
      let phase : IsPhase job y (doing.Part p due) = subst (IsPhase job y) e fits.phase in
      let block : IsInBlock y n (doing.Part p due) = subst (IsInBlock y n) e fits.block in
      let proc = (rank_parts y n due b.there).1 in
      let same = same_procs job y board in
      let there : block_script job y n p due w.memory ≡ part_script job y n p due known =
      rw b.there refl in
      let script : script_of job y w ≡ part_script job y n p due known =
      ap (λ (d : Doing). script_by job y w.number n w.memory d) e ∙ there in
      let heard : Has r (heard_in (part_script job y n p due known) xs ++ begun_phase y p) =
      subst (λ (s : Script Then). Has r (heard_in s xs ++ begun_phase y p)) script
      (subst (λ (d : Doing). Has r (heard_in (script_of job y w) xs ++ phase_begun y d)) e has) in
      let whole : rest (part_script job y n p due known) xs ≡ ends (worked n p due memo) =
      subst (λ (s : Script Then). rest s xs ≡ ends (worked n p due memo)) script
      (is ∙ same_worked memo b.node b.phase b.rank) in
      let learned = (shown_of job y board b.wide w.number n p words safe board.layout.leaves.0
      block.0 at.1 phase.0 phase.1 phase.2 stands due b.there known memo xs
      (is_true board.limits i (omega (arith, proc, same))) whole (chain_of_has job y r
      (heard_in (part_script job y n p due known) xs ++ begun_phase y p) words backed heard)).1 in
      let begun = has_after r (heard_in (part_script job y n p due known) xs) (begun_phase y p)
      heard in
      rw (b.node, b.phase, b.rank) (goes_true job y board b.wide w.number n p words safe
      board.layout.leaves.0 block.0 at.1 phase.0 phase.1 phase.2 stands
      (chain_of_has job y r (begun_phase y p) words backed begun) (suc due)
      (slice_set w.memory i memo) (true_set job w.memory i memo is_true (λ below. learned)))

  on_true : (t : Script Then) → rest_after (rest_of job y w) found ≡ t →
      AllEnds (Brings job y w.number (node_of y w) w.now) t (heard_of job y (hearing w found)) →
      IsTrueMemory job (goes_on job y w found t).memory
  on_true (asks op next) is each = is_true
  on_true (ends (begins m)) is each = is_true
  on_true (ends (turns m q)) is each = is_true
  on_true (ends (enters m q)) is each = entered_true m q w.now refl each
  on_true (ends (worked m q rank memo)) is each = worked_true m q rank memo w.now refl is each
  on_true (ends (stops e)) is each = is_true

-- a worker that hears what standing words answer, the record with this step being borne out
pub told_true : (job : JobData) (y : LayoutData) (r : Record) (w : Walking) (found : ℕ)
    (words : List ℕ) → RankSafe → IsBoard job y → Stands job y words → Fits job y w →
    Knows job y r w → Backed job y (after r (ask_of job y w) found) words →
    IsTrueMemory job (told job y w found).memory
told_true job y r w found words safe board stands fits knows backed =
    elim (going_or_over w.now) [
      | inl going ↦ (let longer = after r (ask_of job y w) found in
          let has : Has longer (heard_of job y (hearing w found)) = subst (λ (es : List (Op × ℕ)).
          Has longer es) (sym (heard_more job y w found going fits.matches))
          (inl (refl, knows.script)) in
          subst (λ (v : Walking). IsTrueMemory job v.memory)
          (sym (told_going job y w.now w found (rest_after (rest_of job y w) found) going))
          (on_true job y board safe longer w found words stands backed fits knows.memory going has
          (rest_after (rest_of job y w) found) refl
          (worker_ends job y (hearing w found) fits.block)))
      | inr over ↦ subst (λ (v : Walking). IsTrueMemory job v.memory)
          (sym (told_over job y w found (rest_after (rest_of job y w) found) w.now over.0 over.1))
          knows.memory
    ]
