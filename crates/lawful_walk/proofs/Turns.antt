-- The task of a phase, the leaf, the turn, and the scripts of a worker: they are safe.
use Rattle.std.proofs.Common.{◌≡◌, ℕ, suc, ◌+◌, ◌-◌, ◌*◌, ◌/◌, ◌%◌, ◌<◌, ◌≤◌, ◌==◌, ◌&&◌}
use Rattle.std.proofs.Common.{nat_le, if◌then◌else◌, true, false, true≢false, List, [], ◌∷◌, IsTrue}
use Rattle.std.proofs.Common.{refl, sym, ap, subst, ◌∙◌, inl, inr, arith}
use Rattle.std.proofs.Math.Nat.{div-add-mod}
use Rattle.std.proofs.lemmas.Bool.{cond_both, cases_Bool, cases_lt, eqb-false}
use Rattle.std.proofs.lemmas.Bool.{leb-true, leb-false}
use Rattle.std.specs.Prelude.{min}
use Rattle.std.proofs.lemmas.Nat.{mod_below}
use Rattle.pram_job.specs.Job.{JobData}
use Rattle.pram_job.specs.declared.instr.Rule.{Rule}
use Rattle.pram_job.specs.declared.instr.Rule.TheVariants.{Common, Priority, Crew}
use Rattle.pram_words.specs.Phases.{has_phase, kind_at, phase_of, step_at}
use Rattle.pram_words.proofs.Numbering.{grain_some}
use Rattle.pram_words.specs.Words.{LayoutData, IsLayout, grain, has_claims, number_of}
use Rattle.pram_words.specs.declared.layout.Form.{Form}
use Rattle.pram_words.specs.declared.layout.Form.TheVariants.{Compact, Wide}
use Rattle.pram_words.specs.declared.phases.Kind.{Kind}
use Rattle.pram_words.specs.declared.phases.Kind.TheVariants.{Compute, Apply, Verify}
use Rattle.pram_words.specs.declared.words.Word.TheVariants.{Node}
use Rattle.walkx.specs.Doing as doing
use Rattle.walkx.specs.Passes.{task_in}
use Rattle.walk_memory.specs.declared.memo.Memo.{Memo}
use Rattle.walk_memory.specs.Memory.{FitsMemory, IsTrueMemo, IsTrueMemory, at_start, memo_of, reach}
use Rattle.walk_memory.proofs.Beginnings.{start_true}
use Rattle.walk_memory.proofs.Boards.{in_range, same_procs}
use Rattle.walkx.proofs.Nodes.{node_range}
use Rattle.pram_words.specs.Forms.{by_form}
use Rattle.walkx.specs.Walk.{IsPhase, script_by, begun_phase, part_script, phase_begun, turn_script}
use Rattle.walkx.specs.Walk.{leaf_script, Then, begins, enters, worked, IsInBlock, node_of}
use Rattle.walkx.specs.Walk.{after_part, task_at, marks_node, stands_at, way_down, block_mark}
use Rattle.walkx.specs.Walk.{bounded_mark, empty_mark, inner_mark, jumps, marks_block, marks_inner}
use Rattle.walk_memory.specs.Blocks.{IsWide, has_rank, processor_at, IsBoard, block_reach}
use Rattle.walk_memory.specs.Blocks.{last_phase}
use Rattle.walkx.proofs.Forms.{form_both}
use Rattle.walkx.proofs.Marks.{block_marks, block_reaches, both_parts, empty_marks}
use Rattle.walkx.proofs.Marks.{inner_marks, inner_reaches, jumps_where, reach_at}
use Rattle.walkx.proofs.Marks as marks
use Rattle.walkx.proofs.Ends.{way_inside}
use Rattle.walk_memory.proofs.Ranks.{rank_parts, rank_there}
use Rattle.walkx.specs.Doing.{Doing}
use Rattle.walkx.specs.Scripts.{Script, asks, ends}
use Rattle.walkx.specs.Tasks.{task_of}
use Rattle.walkx.specs.declared.operation.Op.{Op}
use Rattle.walkx.specs.declared.operation.Op.TheVariants.{Load, Swap}
use Rattle.lawful_walk.specs.Lands.{phase_written, compact_phase_written}
use Rattle.lawful_walk.proofs.Effects.{phase_at}
use Rattle.lawful_walk.specs.Board.{leaf_of, phase_in, root, Done, LeafDone, CompactDone, DoneIn}
use Rattle.lawful_walk.specs.Board.{Rests, held}
use Rattle.lawful_walk.proofs.OwnPlaces.{idle_rests}
use Rattle.lawful_walk.proofs.Applying.{apply_safe, crew_apply_safe, claim_safe}
use Rattle.lawful_walk.proofs.Begins.{Children, back_safe, begin_safe, children_last}
use Rattle.lawful_walk.proofs.Begins.{heard_children, inner_safe, stands_safe}
use Rattle.lawful_walk.proofs.Blocks.{jumps_safe, marks_safe}
use Rattle.lawful_walk.proofs.Computing.{compute_safe}
use Rattle.lawful_walk.proofs.Floors.{floor_seen}
use Rattle.lawful_walk.proofs.Known.{floor_lasts, EndSafe, LearnedSafe}
use Rattle.lawful_walk.proofs.Moving.{RankSafe, WorkerSafe, aim_at, aim_of, moves}
use Rattle.lawful_walk.proofs.Scripts.{Aim, Safe, load_safe}
use Rattle.lawful_walk.proofs.Sees.{Lasts, Sees, so, heard, later}
use Rattle.lawful_walk.proofs.Verifying.{verify_safe, crew_verify_safe}
use Rattle.lawful_walk.proofs.WideTasks.{wide_task_safe}
use Rattle.lawful_walk.proofs.Winning.{priority_apply_safe}
use Rattle.lawful_walk.specs.Moments.{Moment}
use Rattle.lawful_walk.specs.WalkLaws.{WorkersKeepWordsLawful}
use Rattle.lawful_walk.specs.Walks.{phase_now}
use Rattle.lawful_walk.specs.Writes.{Floor, IsLeafMark, IsMark, MayJump}

claims_are : (job : JobData) (y : LayoutData) (rule : Rule) → IsBoard job y → job.rule ≡ rule →
    IsTrue (has_claims rule) → IsTrue y.claims
claims_are job y rule board is has = subst IsTrue (sym (ap (λ (z : LayoutData). z.claims) board.is))
    (subst (λ (r : Rule). IsTrue (has_claims r)) (sym is) has)

-- the phase of the writes of the compact form
written_in : (job : JobData) (y : LayoutData) (x q : ℕ) (rule : Rule) → y.form ≡ Compact →
    job.rule ≡ rule → compact_phase_written rule x ≡ q → (p : ℕ) → q ≡ phase_written y.form job p x
written_in job y x q rule compact is e p =
    subst (λ (f : Form). q ≡ phase_written f job p x) (sym compact)
    (sym e ∙ ap (λ (r : Rule). compact_phase_written r x) (sym is))

-- a wide form has a grain
by_wide : {A : Type 0} (form form_of : Form) → form_of ≡ form → IsWide form →
    ((g : ℕ) → form_of ≡ Wide g → A) → A
by_wide Compact f is wide each = absurd wide
by_wide (Wide g) f is wide each = each g is

-- a phase is that of the step that is counted from 1
phase_same : (t : ℕ) (kind : Kind) → phase_in t kind ≡ phase_of (suc t) kind
phase_same t Compute = omega arith
phase_same t Apply = omega arith
phase_same t Verify = omega arith

-- a bounded mark is at most the mark, and that of the root the step's last phase
bounded_upto : (n q m : ℕ) → bounded_mark n q m ≤ m
bounded_upto n q m = cond_both (n == 1) (min m (last_phase q)) m (λ (k : ℕ). k ≤ m)
    (λ e. omega arith) (λ e. omega arith)

bounded_top : (n q m : ℕ) → n ≡ 1 → bounded_mark n q m ≤ last_phase q
bounded_top n q m one = cond_both (n == 1) (min m (last_phase q)) m
    (λ (k : ℕ). k ≤ last_phase q) (λ e. omega arith) (λ e. absurd (eqb-false n 1 e one))

inner_upto : (y : LayoutData) (n q l r : ℕ) → (nat_le q l && nat_le q r) ≡ true →
    inner_mark y n q l r ≤ min l r
inner_upto y n q l r e =
    let both = both_parts (nat_le q l) (nat_le q r) e in
    let a = leb-true q l both.0 in
    let b = leb-true q r both.1 in
    form_both y.form q (bounded_mark n q (min l r)) (λ (m : ℕ). m ≤ min l r) (omega (arith, a, b))
    (bounded_upto n q (min l r))

inner_last : (y : LayoutData) (n q l r : ℕ) → n ≡ 1 → inner_mark y n q l r ≤ last_phase q
inner_last y n q l r one =
    form_both y.form q (bounded_mark n q (min l r)) (λ (m : ℕ). m ≤ last_phase q) (omega arith)
    (bounded_top n q (min l r) one)

module _ (job : JobData) (y : LayoutData) (w q : ℕ) (aim : Aim) (x : ℕ)
    (some : 1 ≤ q) (most : q ≤ 3 * job.steps)
    (step : step_at q ≡ suc x) (board : IsBoard job y) where
  -- ---- the task of each rule and kind

  compact_safe : y.form ≡ Compact → (i : ℕ) → i < y.procs →
      (rule : Rule) (kind : Kind) → job.rule ≡ rule → phase_in x kind ≡ q → (after : Script Then) →
      EndSafe job y w q aim x (λ words. CompactDone rule kind job y x words i) after →
      (history : List (Op × ℕ)) → Sees job y history (Floor job y q x) →
      Safe job y w q aim (task_of rule kind job y (suc x) i after) history
  unfolding task_of
  compact_safe compact i proc Common Compute is phase after done history sees =
      compute_safe job y w q aim x i some most step board proc compact phase after done history sees
  compact_safe compact i proc Common Apply is phase after done history sees = apply_safe job y
      w q aim x i some most step board proc compact
      (λ e. absurd (let g : Common ≡ Priority = sym is ∙ e in cc))
      (written_in job y x q Common compact is phase) (omega arith) after done history sees
  compact_safe compact i proc Common Verify is phase after done history sees =
      verify_safe job y w q aim x i some most step board proc compact phase is after
      done history sees
  compact_safe compact i proc Priority Compute is phase after done history sees =
      compute_safe job y w q aim x i some most step board proc compact phase after done history sees
  compact_safe compact i proc Priority Apply is phase after done history sees =
      claim_safe job y w q aim x i some
      most step board proc compact (claims_are job y Priority board is refl) phase after
      done history sees
  compact_safe compact i proc Priority Verify is phase after done history sees =
      priority_apply_safe job
      y w q aim x i some most step board proc compact is
      (claims_are job y Priority board is refl) phase
      (written_in job y x q Priority compact is phase) after done history sees
  compact_safe compact i proc Crew Compute is phase after done history sees =
      compute_safe job y w q aim x i some most step board proc compact phase after done history sees
  compact_safe compact i proc Crew Apply is phase after done history sees =
      crew_apply_safe job y w q aim x i some most step board proc compact
      (λ e. absurd (let g : Crew ≡ Priority = sym is ∙ e in cc))
      (claims_are job y Crew board is refl)
      (written_in job y x q Crew compact is phase) phase after done history sees
  compact_safe compact i proc Crew Verify is phase after done history sees =
      crew_verify_safe job y w q aim x i some most step board proc compact phase is
      (claims_are job y Crew board is refl) after done history sees

  -- by the form
  in_form : (form : Form) → y.form ≡ form → (i : ℕ) → i < y.procs → (kind : Kind) →
      phase_in x kind ≡ q → (memo : Memo) → IsTrueMemo job i memo → (after : Memo → Script Then) →
      LearnedSafe job y w q aim x i (λ words. Done job.rule kind job y x words i) after →
      (history : List (Op × ℕ)) → Sees job y history (Floor job y q x) →
      Safe job y w q aim (task_in form job.rule kind job y (suc x) i memo after) history
  unfolding task_in
  in_form Compact is i proc kind phase memo is_true after done history sees =
      compact_safe is i proc job.rule kind refl phase (after memo)
      (subst (λ (f : Form).
      EndSafe job y w q aim x (λ words. DoneIn f job.rule kind job y x words i) (after memo)) is
      (done memo is_true)) history sees
  in_form (Wide g) is i proc kind phase memo is_true after done history sees =
      wide_task_safe job y w q aim g x i some most step board proc is job.rule kind refl phase memo
      is_true after done history sees

  pub task_safe : (i : ℕ) → i < y.procs → (kind : Kind) → phase_in x kind ≡ q →
      (memo : Memo) → IsTrueMemo job i memo → (after : Memo → Script Then) →
      LearnedSafe job y w q aim x i (λ words. Done job.rule kind job y x words i) after →
      (history : List (Op × ℕ)) → Sees job y history (Floor job y q x) →
      Safe job y w q aim (task_in y.form job.rule kind job y (suc x) i memo after) history
  task_safe i proc kind phase memo is_true after done history sees =
      in_form y.form refl i proc kind phase memo is_true after done history sees

  -- ---- the turn

  abbrev Held : ℕ → ℕ → List ℕ → Type 0
  Held n m = Children job y w q aim x some most step (Floor job y q x) (floor_lasts job y q x)
      (λ words f. f) n m

  held_last : (n m : ℕ) → 1 ≤ n → n < y.leaves → Lasts job y (Held n m)
  held_last n m low high = children_last job y w q aim x some most step (Floor job y q x)
      (floor_lasts job y q x) (λ words f. f) n m low high

  -- a node whose children were heard is marked, the root after a jump, if it makes one
  inner_marked : (n l r : ℕ) → IsTrue (has_phase y.form q) → 1 ≤ n → n < y.leaves →
      (nat_le q l && nat_le q r) ≡ true →
      (l ≤ 3 * job.steps) × IsTrue (has_phase y.form l) →
      (r ≤ 3 * job.steps) × IsTrue (has_phase y.form r) → (history : List (Op × ℕ)) →
      Sees job y history (Held n (min l r)) → Safe job y w q aim (marks_inner y n q l r) history
  inner_marked n l r formed low high e left right history sees =
      cond_both (jumps y n q (min l r))
      (asks (Swap (number_of y (Node n)) (q - 1) (min l r)) (λ found. marked)) marked
      (λ (s : Script Then). Safe job y w q aim s history) (λ jump.
      let is = jumps_where y n q (min l r) jump in
      by_wide y.form y.form refl is.wide (λ g wide.
      subst (λ (k : ℕ). Safe job y w q aim
      (asks (Swap (number_of y (Node k)) (q - 1) (min l r)) (λ found. marked)) history)
      (sym is.root)
      (jumps_safe job y w q aim x some most step (Held n (min l r)) (held_last n (min l r) low high)
      (λ words h. h.0) g (min l r) wide (let p = is.first in omega (arith, p, step))
      (reach_mark g wide) reach.most marked history
      (so job y history (Held n (min l r))
      (λ words. Held n (min l r) words × (aim.given words → MayJump job y words q x (min l r)))
      (λ words stands h. (h, λ given. may_jump is.root words h)) sees)
      (λ longer more. mark_on longer more))))
      (λ stays. mark_on history sees)
    where
      marked : Script Then
      marked = marks_node y n (inner_mark y n q l r) q

      reach : marks.IsMark job.steps y q (min l r)
      reach = inner_reaches job.steps y q l r left right e

      reach_mark : (g : ℕ) → y.form ≡ Wide g → IsMark y q (min l r)
      reach_mark g wide = record {
        low = reach.least;
        is_phase = reach.formed;
        compact = λ c. absurd (let same : Compact ≡ Wide g = sym c ∙ wide in cc);
      }

      may_jump : n ≡ 1 → (words : List ℕ) → Held n (min l r) words →
          MayJump job y words q x (min l r)
      may_jump one words h = record {
        children = λ inner. subst (λ (k : ℕ). (min l r ≤ held y words (Node (2 * k)))
            × (min l r ≤ held y words (Node (2 * k + 1)))) one (h.1, h.2);
        leaf = λ lone. absurd (omega (arith, lone, low, high));
        done = λ lone. absurd (omega (arith, lone, low, high));
      }

      mark_on : (longer : List (Op × ℕ)) → Sees job y longer (Held n (min l r)) →
          Safe job y w q aim marked longer
      mark_on longer more =
          let mark = inner_marks job.steps y n q l r most formed left right e in
          inner_safe job y w q aim x some most step (Floor job y q x) (floor_lasts job y q x)
          (λ words f. f) n (inner_mark y n q l r) (min l r) longer low high (record {
            low = mark.least;
            is_phase = mark.formed;
            compact = λ c. ap (λ (f : Form). by_form f q (bounded_mark n q (min l r))) c;
          }) (λ one. let h = inner_last y n q l r one in omega (arith, h, step))
          (inner_upto y n q l r e) more

  pub down_safe : (n : ℕ) → IsTrue (has_phase y.form q) → w < y.workers → 1 ≤ n → n < y.leaves →
      (history : List (Op × ℕ)) → Sees job y history (Floor job y q x) →
      Safe job y w q aim (asks (Load (number_of y (Node (2 * n))))
      (λ l. asks (Load (number_of y (Node (2 * n + 1)))) (λ r. if nat_le q l && nat_le q r
      then marks_inner y n q l r else stands_at y w (way_down y w n q l r) q))) history
  down_safe n formed worker low high history sees =
      load_safe job y w q aim (number_of y (Node (2 * n)))
      (λ l. asks (Load (number_of y (Node (2 * n + 1)))) (λ r. if nat_le q l && nat_le q r
      then marks_inner y n q l r else stands_at y w (way_down y w n q l r) q))
      history (λ l left. load_safe job y w q aim (number_of y (Node (2 * n + 1))) (λ r.
      if nat_le q l && nat_le q r then marks_inner y n q l r
      else stands_at y w (way_down y w n q l r) q)
      ((Load (number_of y (Node (2 * n))), l) ∷ history) (λ r right.
      let longer : List (Op × ℕ) = (Load (number_of y (Node (2 * n + 1))), r)
      ∷ (Load (number_of y (Node (2 * n))), l) ∷ history in
      cond_both (nat_le q l && nat_le q r) (marks_inner y n q l r)
      (stands_at y w (way_down y w n q l r) q)
      (λ (s : Script Then). Safe job y w q aim s longer) (λ e.
      let at_left = in_range job y (Node (2 * n)) l board (omega arith, omega arith) left in
      let at_right = in_range job y (Node (2 * n + 1)) r board (omega arith, omega arith) right in
      inner_marked n l r formed low high e at_left at_right longer
      (heard_children job y w q aim x some most step (Floor job y q x) (floor_lasts job y q x)
      (λ words f. f) n (min l r) l r longer low high (omega arith) (omega arith)
      (heard job y ((Load (number_of y (Node (2 * n))), l) ∷ history) (Moment job y (Load
      (number_of y (Node (2 * n)))) l (Floor job y q x)) (Load (number_of y (Node (2 * n + 1)))) r
      (heard job y history (Floor job y q x) (Load (number_of y (Node (2 * n)))) l sees))))
      (λ e. let way = way_inside y w n q l r low high in
      stands_safe job y w q aim (way_down y w n q l r) longer worker way.0 way.1)))

-- ---- the leaf

-- the rank of a processor in the block of its leaf
block_at : (y : LayoutData) (i n : ℕ) → IsLayout y → i < y.procs → leaf_of y i ≡ n →
    (i % grain y < grain y) × (i ≡ processor_at y n (i % grain y))
    × IsTrue (has_rank y n (i % grain y))
block_at y i n limits proc leaf =
    let some = grain_some y limits in
    let below = mod_below i (grain y) some in
    let block : n - y.leaves ≡ i / grain y = omega arith in
    let is : i ≡ processor_at y n (i % grain y) =
    rw block (omega (arith, div-add-mod i (grain y))) in
    (below, is, rank_there y n (i % grain y) below (omega (arith, is, proc)))

-- the processors of a leaf's block: before a rank that it has not
block_rank : (y : LayoutData) (i n rank : ℕ) → IsLayout y → i < y.procs → leaf_of y i ≡ n →
    has_rank y n rank ≡ false →
    (i % grain y < rank) × (i ≡ processor_at y n (i % grain y))
    × IsTrue (has_rank y n (i % grain y))
block_rank y i n rank limits proc leaf last =
    let at = block_at y i n limits proc leaf in
    let below = at.0 in
    let is = at.1 in
    let there = at.2 in
    elim (cases_lt (i % grain y) rank) [
      | inl c ↦ (c, is, there)
      | inr c ↦ absurd (let last_too = rank_there y n rank (omega (arith, c, below))
          (omega (arith, is, c, proc)) in true≢false (sym last_too ∙ last))
    ]

-- by the form, what follows a task is the mark, or the next task
compact_end : (y : LayoutData) (n q rank : ℕ) (memo : Memo) → y.form ≡ Compact →
    after_part y n q rank memo ≡ marks_node y n q q
compact_end y n q rank memo compact = rw compact refl

wide_end : (y : LayoutData) (n q rank g : ℕ) (memo : Memo) → y.form ≡ Wide g →
    after_part y n q rank memo ≡ ends (worked n q rank memo)
wide_end y n q rank g memo wide = rw wide refl

module _ (job : JobData) (y : LayoutData) (w q x : ℕ) (some : 1 ≤ q) (most : q ≤ 3 * job.steps)
    (step : step_at q ≡ suc x) (board : IsBoard job y) (formed : IsTrue (has_phase y.form q)) where
  -- the phase itself is a mark of each leaf
  own_mark : (n : ℕ) → IsLeafMark job y q n q
  own_mark n = record {
    formed = record { low = omega arith; is_phase = formed; compact = λ e. refl };
    most = most;
    rests = λ i t kind proc leaf over upto. absurd (omega (arith, over, upto));
  }

  module _ (n : ℕ) (memory : List Memo) (is_true : IsTrueMemory job memory)
      (fits : FitsMemory job memory) (wide : IsWide y.form) where
    -- in the phases above this one, up to where the block reaches, its processors rest
    reach_rests : (i t : ℕ) (kind : Kind) → i < y.procs → leaf_of y i ≡ n → q < phase_in t kind →
        phase_in t kind ≤ block_reach job y n q memory → Rests y.form job.rule kind job t i
    reach_rests i t kind proc leaf over upto =
        let at = block_at y i n board.layout proc leaf in
        let m = block_reach job y n q memory in
        let reaches = reach_at job y n q (i % grain y) memory at.2 (omega (arith, over, upto)) in
        let here = subst (λ (k : ℕ). ((memo_of memory k).acted ≤ q)
        × (m ≤ reach (memo_of memory k))) (sym at.1) reaches in
        let same = same_procs job y board in
        let known = is_true board.limits i (omega (arith, proc, same)) in
        let phase = phase_same t kind in
        by_wide y.form y.form refl wide (λ g is.
        subst (λ (f : Form). Rests f job.rule kind job t i) (sym is)
        (idle_rests g job.rule kind job t i (known.idle t kind
        (omega (arith, here.0, over, phase)) (omega (arith, here.1, upto, phase)))))

    reach_mark : IsLeafMark job y q n (block_reach job y n q memory)
    reach_mark =
        let reach = block_reaches job y n q memory most formed fits in
        record {
          formed = record {
            low = reach.least;
            is_phase = reach.formed;
            compact = λ e. absurd (subst IsWide e wide);
          };
          most = reach.most;
          rests = reach_rests;
        }

    block_leaf_mark : IsLeafMark job y q n (block_mark job y n q memory)
    block_leaf_mark =
        let mark = block_marks job y n q memory most formed fits in
        let upto = bounded_upto n q (block_reach job y n q memory) in
        record {
          formed = record {
            low = mark.least;
            is_phase = mark.formed;
            compact = λ e. absurd (subst IsWide e wide);
          };
          most = mark.most;
          rests = λ i t kind proc leaf over most. reach_rests i t kind proc leaf over
              (omega (arith, most, upto));
        }

  end_done : (n rank : ℕ) (words : List ℕ) → has_rank y n rank ≡ false →
      (aim_at job y q n rank).given words → root y words < q → LeafDone job y x (kind_at q) n words
  end_done n rank words none given live i proc leaf =
      let at = block_rank y i n rank board.layout proc leaf none in
      let step_of : step_at q - 1 ≡ x = omega arith in
      subst (λ (k : ℕ). Done job.rule (kind_at q) job y x words k) (sym at.1)
      (subst (λ (t : ℕ). Done job.rule (kind_at q) job y t words (processor_at y n (i % grain y)))
      step_of (given (i % grain y) at.0 at.2 live))

  -- the leaf is marked where those before this rank are done, and it has no others
  mark_safe : (n rank m : ℕ) → y.leaves ≤ n → n < 2 * y.leaves → has_rank y n rank ≡ false →
      IsLeafMark job y q n m → (n ≡ 1 → m ≤ 3 * x + 3) → (history : List (Op × ℕ)) →
      Sees job y history (Floor job y q x) →
      Safe job y w q (aim_at job y q n rank) (marks_node y n m q) history
  mark_safe n rank m low high none mark top history sees =
      let aim = aim_at job y q n rank in
      marks_safe job y w q aim x some most step (Floor job y q x)
      (floor_lasts job y q x) (λ words f. f) n m low high mark top history
      (so job y history (Floor job y q x) (λ words. Floor job y q x words
      × (aim.given words → root y words < q → LeafDone job y x (kind_at q) n words))
      (λ words stands f. (f, end_done n rank words none)) sees)

  -- a block's, which is the root's after a jump, if it makes one
  block_safe : (n rank : ℕ) (memory : List Memo) → IsWide y.form → IsTrueMemory job memory →
      FitsMemory job memory → y.leaves ≤ n → n < 2 * y.leaves → has_rank y n rank ≡ false →
      (history : List (Op × ℕ)) →
      Sees job y history (Floor job y q x) →
      Safe job y w q (aim_at job y q n rank) (marks_block job y n q memory) history
  block_safe n rank memory wide is_true fits low high none history sees =
      cond_both (jumps y n q reach)
      (asks (Swap (number_of y (Node n)) (q - 1) reach) (λ found. marked))
      marked (λ (s : Script Then). Safe job y w q aim s history) (λ jump.
      let is = jumps_where y n q reach jump in
      let leaf_mark = reach_mark n memory is_true fits wide in
      by_wide y.form y.form refl wide (λ g form_is.
      subst (λ (k : ℕ). Safe job y w q aim
      (asks (Swap (number_of y (Node k)) (q - 1) reach) (λ found. marked)) history) (sym is.root)
      (jumps_safe job y w q aim x some most step (Floor job y q x) (floor_lasts job y q x)
      (λ words f. f) g reach form_is (let p = is.first in omega (arith, p, step))
      leaf_mark.formed leaf_mark.most marked history
      (so job y history (Floor job y q x) (λ words. Floor job y q x words
      × (aim.given words → MayJump job y words q x reach))
      (λ words stands f. (f, λ given. may_jump is.root words leaf_mark given)) sees)
      (λ longer more. mark_on longer more))))
      (λ stays. mark_on history sees)
    where
      aim : Aim
      aim = aim_at job y q n rank

      reach : ℕ
      reach = block_reach job y n q memory

      marked : Script Then
      marked = marks_node y n (block_mark job y n q memory) q

      mark_on : (longer : List (Op × ℕ)) → Sees job y longer (Floor job y q x) →
          Safe job y w q aim marked longer
      mark_on longer more = mark_safe n rank (block_mark job y n q memory) low high none
          (block_leaf_mark n memory is_true fits wide)
          (λ one. let h = bounded_top n q reach one in omega (arith, h, step)) longer more

      may_jump : n ≡ 1 → (words : List ℕ) → IsLeafMark job y q n reach → aim.given words →
          MayJump job y words q x reach
      may_jump one words leaf_mark given = record {
        children = λ inner. absurd (omega (arith, one, low, inner));
        leaf = λ lone. subst (λ (k : ℕ). IsLeafMark job y q k reach) one leaf_mark;
        done = λ lone live. subst (λ (k : ℕ). LeafDone job y x (kind_at q) k words) one
            (end_done n rank words none given live);
      }

  -- the task of a processor, of which something true is known
  ranked_safe : (aim : Aim) (n rank : ℕ) → IsTrue (has_rank y n rank) → (memo : Memo) →
      IsTrueMemo job (processor_at y n rank) memo → (after : Memo → Script Then) →
      LearnedSafe job y w q aim x (processor_at y n rank)
      (λ words. Done job.rule (kind_at q) job y x words (processor_at y n rank)) after →
      (history : List (Op × ℕ)) → Sees job y history (Floor job y q x) →
      Safe job y w q aim (task_at job y n q rank memo after) history
  ranked_safe aim n rank there memo is_true after done history sees =
      let i = processor_at y n rank in
      let proc : i < y.procs = (rank_parts y n rank there).1 in
      subst (λ (t : ℕ). Safe job y w q aim
      (task_in y.form job.rule (kind_at q) job y t i memo after) history) (sym step)
      (task_safe job y w q aim x some most step board i proc (kind_at q)
      (phase_at x q (kind_at q) some step refl) memo is_true after done history sees)

  -- in a block
  pub part_safe : (n rank : ℕ) → IsWide y.form → y.leaves ≤ n → n < 2 * y.leaves →
      IsTrue (has_rank y n rank) → (memo : Memo) → IsTrueMemo job (processor_at y n rank) memo →
      (history : List (Op × ℕ)) → Sees job y history (Floor job y q x) →
      Safe job y w q (aim_at job y q n rank) (part_script job y n q rank memo) history
  unfolding part_script
  part_safe n rank wide low high there memo is_true history sees =
      let aim = aim_at job y q n rank in
      let i = processor_at y n rank in
      let step_of : x ≡ step_at q - 1 = omega arith in
      ranked_safe aim n rank there memo is_true (after_part y n q rank)
      (λ learned learned_true longer more.
      by_wide y.form y.form refl wide (λ g is.
      subst (λ (s : Script Then). Safe job y w q aim s longer)
      (sym (wide_end y n q rank g learned is))
      (so job y longer (λ words. Floor job y q x words × (root y words < q →
      Done job.rule (kind_at q) job y x words i)) (aim.done learned)
      (λ words stands h. (
        λ live. subst (λ (t : ℕ). Done job.rule (kind_at q) job y t words i) step_of (h.1 live),
        learned_true,
      )) more))) history sees

  -- in the compact form, where a leaf has one processor
  lone_safe : (n : ℕ) → y.form ≡ Compact → y.leaves ≤ n → n < 2 * y.leaves →
      IsTrue (has_rank y n 0) → (history : List (Op × ℕ)) → Sees job y history (Floor job y q x) →
      Safe job y w q (aim_at job y q n 0) (part_script job y n q 0 at_start) history
  unfolding part_script
  lone_safe n compact low high there history sees =
      let aim = aim_at job y q n 0 in
      let i = processor_at y n 0 in
      let step_of : x ≡ step_at q - 1 = omega arith in
      let proc = (rank_parts y n 0 there).1 in
      let start = start_true job board.limits i
      (let same = same_procs job y board in omega (arith, proc, same)) in
      let last : has_rank y n 1 ≡ false = lone_rank n compact in
      ranked_safe aim n 0 there at_start start (after_part y n q 0)
      (λ learned learned_true longer more.
      subst (λ (s : Script Then). Safe job y w q aim s longer)
      (sym (compact_end y n q 0 learned compact))
      (marks_safe job y w q aim x some most step (Floor job y q x) (floor_lasts job y q x)
      (λ words f. f) n q low high (own_mark n) (λ one. omega (arith, step)) longer
      (so job y longer (λ words. Floor job y q x words × (root y words < q →
      Done job.rule (kind_at q) job y x words i)) (λ words. Floor job y q x words
      × (aim.given words → root y words < q → LeafDone job y x (kind_at q) n words))
      (λ words stands h. (
        h.0,
        λ given live. end_done n 1 words last (λ earlier less has at.
            let first : 0 ≡ earlier = omega (arith, less) in
            subst (λ (k : ℕ). Done job.rule (kind_at q) job y (step_at q - 1) words
            (processor_at y n k)) first
            (subst (λ (t : ℕ). Done job.rule (kind_at q) job y t words i) step_of (h.1 at))) live,
      )) more))) history sees
    where
      lone_rank : (n : ℕ) → y.form ≡ Compact → has_rank y n 1 ≡ false
      lone_rank n compact = elim (cases_Bool (has_rank y n 1)) [
        | inr none ↦ none
        | inl there ↦ absurd (let below = (rank_parts y n 1 there).0 in
            let one : grain y ≡ 1 = rw compact refl in omega (arith, below, one))
      ]

  leaf_safe : (n : ℕ) → y.leaves ≤ n →
      n < 2 * y.leaves → (history : List (Op × ℕ)) → Sees job y history (Floor job y q x) →
      Safe job y w q (aim_at job y q n 0) (leaf_script job y n q) history
  leaf_safe n low high history sees =
      cond_both (has_rank y n 0)
      (by_form y.form (part_script job y n q 0 at_start) (ends (enters n q)))
      (marks_node y n (empty_mark job y n q) q)
      (λ (s : Script Then). Safe job y w q (aim_at job y q n 0) s history)
      (λ e. by y.form refl e)
      (λ e. mark_safe n 0 (empty_mark job y n q) low high e (mark e) top history sees)
    where
      -- no processor stands there
      nobody : has_rank y n 0 ≡ false → (i : ℕ) → i < y.procs → leaf_of y i ≡ n → ⊥
      nobody e i proc leaf =
          let at = block_at y i n board.layout proc leaf in
          let below = (rank_parts y n (i % grain y) at.2).1 in
          let some_grain = grain_some y board.layout in
          true≢false (sym (rank_there y n 0 (omega (arith, some_grain)) (omega (arith, below))) ∙ e)

      mark : has_rank y n 0 ≡ false → IsLeafMark job y q n (empty_mark job y n q)
      mark e =
          let is = empty_marks job y n q most formed in
          record {
            formed = record {
              low = is.least;
              is_phase = is.formed;
              compact = λ c. ap (λ (f : Form). by_form f q (bounded_mark n q (3 * job.steps))) c;
            };
            most = is.most;
            rests = λ i t kind proc leaf over upto. absurd (nobody e i proc leaf);
          }

      top : n ≡ 1 → empty_mark job y n q ≤ 3 * x + 3
      top one = form_both y.form q (bounded_mark n q (3 * job.steps)) (λ (m : ℕ). m ≤ 3 * x + 3)
          (omega (arith, step))
          (let h = bounded_top n q (3 * job.steps) one in omega (arith, h, step))

      by : (f : Form) → y.form ≡ f → IsTrue (has_rank y n 0) →
          Safe job y w q (aim_at job y q n 0)
          (by_form f (part_script job y n q 0 at_start) (ends (enters n q))) history
      by Compact is there = lone_safe n is low high there history sees
      by (Wide g) is there = tt

  -- ---- the turn

  pub turn_safe_on : (n : ℕ) → w < y.workers →
      1 ≤ n → n < 2 * y.leaves → (history : List (Op × ℕ)) → Sees job y history (Floor job y q x) →
      Safe job y w q (aim_at job y q n 0) (turn_script job y w n q) history
  unfolding turn_script
  turn_safe_on n worker low high history sees =
      let down = asks (Load (number_of y (Node (2 * n))))
      (λ l. asks (Load (number_of y (Node (2 * n + 1)))) (λ r. if nat_le q l && nat_le q r
      then marks_inner y n q l r else stands_at y w (way_down y w n q l r) q)) in
      load_safe job y w q (aim_at job y q n 0) (number_of y (Node n))
      (λ found. if nat_le q found then (if n == 1 then ends (begins 1) else stands_at y w (n / 2) q)
      else (if nat_le y.leaves n then leaf_script job y n q else down)) history (λ found ok.
      let longer : List (Op × ℕ) = (Load (number_of y (Node n)), found) ∷ history in
      let more : Sees job y longer (Floor job y q x) = later job y history
      (Floor job y q x) (Load (number_of y (Node n))) found (floor_lasts job y q x) sees in
      cond_both (nat_le q found) (if n == 1 then ends (begins 1) else stands_at y w (n / 2) q)
      (if nat_le y.leaves n then leaf_script job y n q else down)
      (λ (s : Script Then). Safe job y w q (aim_at job y q n 0) s longer)
      (λ e. cond_both (n == 1) (ends (begins 1)) (stands_at y w (n / 2) q)
      (λ (s : Script Then). Safe job y w q (aim_at job y q n 0) s longer) (λ e. tt) (λ e.
      let other = eqb-false n 1 e in
      stands_safe job y w q (aim_at job y q n 0) (n / 2) longer worker (omega arith) (omega arith)))
      (λ e. cond_both (nat_le y.leaves n) (leaf_script job y n q) down (λ (s : Script Then).
      Safe job y w q (aim_at job y q n 0) s longer)
      (λ l. leaf_safe n (leb-true y.leaves n l) high longer more)
      (λ l. down_safe job y w q (aim_at job y q n 0) x some most step board n formed worker
      low (let less = leb-false y.leaves n l in omega arith) longer more)))

-- ---- a worker

doing_safe : (job : JobData) (y : LayoutData) (board : IsBoard job y) (now : Doing) (w n : ℕ)
    (memory : List Memo) → w < y.workers → 1 ≤ n → n < 2 * y.leaves → IsPhase job y now →
    IsInBlock y n now → IsTrueMemory job memory → FitsMemory job memory →
    Safe job y w (phase_now now) (aim_of job y n now) (script_by job y w n memory now)
    (phase_begun y now)
doing_safe job y board doing.Back w n memory worker low high phase block is_true fits =
    back_safe job y w w 0 (aim_of job y n doing.Back) []
doing_safe job y board doing.Begin w n memory worker low high phase block is_true fits =
    begin_safe job y n w 0 (aim_of job y n doing.Begin) []
doing_safe job y board (doing.Turn q) w n memory worker low high phase block is_true fits =
    let some = phase.0 in
    let step : step_at q ≡ suc (step_at q - 1) = omega arith in
    turn_safe_on job y w q (step_at q - 1) some phase.1 step board phase.2 n worker low high
    (begun_phase y q) (floor_seen job y q (step_at q - 1) some step phase.2)
doing_safe job y board (doing.Part q rank) w n memory worker low high phase block is_true fits =
    let some = phase.0 in
    let x = step_at q - 1 in
    let step : step_at q ≡ suc x = omega arith in
    let sees = floor_seen job y q x some step phase.2 in
    let i = processor_at y n rank in
    let same = same_procs job y board in
    cond_both (has_rank y n rank) (part_script job y n q rank (memo_of memory i))
    (marks_block job y n q memory)
    (λ (s : Script Then). Safe job y w q (aim_at job y q n rank) s (begun_phase y q))
    (λ there. let proc = (rank_parts y n rank there).1 in
    part_safe job y w q x some phase.1 step board phase.2 n rank block.2 block.0 high there
    (memo_of memory i) (is_true board.limits i (omega (arith, proc, same))) (begun_phase y q) sees)
    (λ none. block_safe job y w q x some phase.1 step board phase.2 n rank memory block.2 is_true
    fits block.0 high none (begun_phase y q) sees)
doing_safe job y board (doing.Over e) w n memory worker low high phase block is_true fits =
    begin_safe job y n w 0 (aim_of job y n (doing.Over e)) []

pub worker_safe : WorkerSafe
worker_safe job y w board fits is_true =
    let is = node_range job y w board.layout.leaves.0 fits in
    doing_safe job y board w.now w.number (node_of y w) w.memory fits.number is.0 is.1 fits.phase
    fits.block is_true fits.memory

-- what the task of an earlier processor of a block shows
pub rank_safe : RankSafe
rank_safe job y board wide w n q rank memo is_true low high some most formed there =
    let step : step_at q ≡ suc (step_at q - 1) = omega arith in
    part_safe job y w q (step_at q - 1) some most step board formed n rank wide low high
    there memo is_true (begun_phase y q) (floor_seen job y q (step_at q - 1) some step formed)

-- the worker's lemma
pub workers_keep : WorkersKeepWordsLawful
workers_keep = moves worker_safe rank_safe
