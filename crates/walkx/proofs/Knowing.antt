-- Records, and a worker that a record knows.
use Rattle.std.proofs.Common.{◌≡◌, ℕ, zero, suc, ◌<◌, ◌≤◌, List, [], ◌∷◌, ◌++◌, refl, sym, ◌∙◌}
use Rattle.std.proofs.Common.{ap, subst, inl, inr, arith, IsTrue, true}
use Rattle.std.specs.Prelude.{slice_set}
use Rattle.std.proofs.lemmas.Bool.{cases_Bool, cases_lt, cond_both}
use Rattle.pram_job.specs.Job.{JobData}
use Rattle.pram_words.specs.Words.{LayoutData, grain}
use Rattle.walk_memory.specs.declared.memo.Memo.{Memo}
use Rattle.walkx.specs.declared.operation.Op.{Op}
use Rattle.walkx.specs.Doing.{Doing}
use Rattle.walkx.specs.Doing as doing
use Rattle.walkx.specs.Laws.{KnownStayKnown}
use Rattle.walk_memory.specs.Memory.{IsTrueMemo, IsTrueMemory, memo_of}
use Rattle.walkx.specs.Records.{Record, empty, after, both, Has, HasPart, HasBlock, Knows}
use Rattle.walkx.specs.Scripts.{Script, asks, ends, rest_after, rest, heard_in}
use Rattle.walkx.specs.Walk.{Then, begins, turns, enters, worked, stops, Walking, IsGoing}
use Rattle.walkx.specs.Walk.{IsInBlock, Fits, HearsAdmitted, begun_phase, block_script, ends_block}
use Rattle.walkx.specs.Walk.{if_ended, part_script, passes_over, script_by, script_of, told}
use Rattle.walkx.specs.Walk.{rest_of, node_of, ask_of, goes_on, phase_begun, heard_of}
use Rattle.walk_memory.specs.Blocks.{IsBoard, IsWide, has_rank, processor_at}
use Rattle.walkx.specs.Playing.{hearing}
use Rattle.walk_memory.proofs.Boards.{root_formed, same_procs}
use Rattle.walkx.proofs.Ends.{AllEnds, Brings, NewestPhase, worker_ends}
use Rattle.walk_memory.proofs.Ranks.{rank_parts}
use Rattle.walkx.proofs.Fitting.{heard_more, stops_begin}
use Rattle.walkx.proofs.Going.{going_or_over, told_going, told_over}
use Rattle.walkx.proofs.Alikes.{Alike, asks_first, comes_at_once}
use Rattle.walk_memory.proofs.Memories.{memo_other}
use Rattle.walkx.proofs.PassingOver.{alone, going_first, part_alike}

-- ---- what a record has

pub has_more : (r : Record) (op : Op) (found : ℕ) (es : List (Op × ℕ)) →
    Has r es → Has (after r op found) es
has_more r op found [] h = tt
has_more r op found (e ∷ es) h = inr h

pub has_left : (r s : Record) (es : List (Op × ℕ)) → Has r es → Has (both r s) es
has_left r s [] h = tt
has_left r s (e ∷ es) h = inl h

pub has_right : (r s : Record) (es : List (Op × ℕ)) → Has s es → Has (both r s) es
has_right r s [] h = tt
has_right r s (e ∷ es) h = inr h

pub has_earlier : (r : Record) (e : Op × ℕ) (es : List (Op × ℕ)) → Has r (e ∷ es) → Has r es
has_earlier empty e es h = absurd h
has_earlier (after r op found) e es h = elim h [
  | inl t ↦ has_more r op found es t.1
  | inr t ↦ has_more r op found es (has_earlier r e es t)
]
has_earlier (both r s) e es h = elim h [
  | inl t ↦ has_left r s es (has_earlier r e es t)
  | inr t ↦ has_right r s es (has_earlier s e es t)
]

pub has_after : (r : Record) (xs ys : List (Op × ℕ)) → Has r (xs ++ ys) → Has r ys
has_after r [] ys h = h
has_after r (x ∷ xs) ys h = has_after r xs ys (has_earlier r x (xs ++ ys) h)

-- the newest of some steps
pub has_newest : (r : Record) (e : Op × ℕ) (es : List (Op × ℕ)) → Has r (e ∷ es) → Has r (e ∷ [])
has_newest empty e es h = absurd h
has_newest (after r op found) e es h =
    elim h [ inl t ↦ inl (t.0, tt) | inr t ↦ inr (has_newest r e es t) ]
has_newest (both r s) e es h =
    elim h [ inl t ↦ inl (has_newest r e es t) | inr t ↦ inr (has_newest s e es t) ]

-- ---- a worker that it knows

has_begun : (job : JobData) (y : LayoutData) (number n m q : ℕ) (d : Doing) (r : Record)
    (xs : List (Op × ℕ)) → IsGoing d → Brings job y number n d (turns m q) (xs ++ phase_begun y d) →
    NewestPhase y (xs ++ phase_begun y d) → Has r (xs ++ phase_begun y d) →
    Has r (phase_begun y (doing.Turn q))
has_begun job y number n m q doing.Back r xs going b newest has = absurd b
has_begun job y number n m q doing.Begin r xs going b newest has =
    subst (λ (es : List (Op × ℕ)). Has r es) (b.is (b.formed newest)) has
has_begun job y number n m q (doing.Turn p) r xs going b newest has =
    subst (λ (t : ℕ). Has r (phase_begun y (doing.Turn t))) (sym b.0)
    (has_after r xs (phase_begun y (doing.Turn p)) has)
has_begun job y number n m q (doing.Part p rank) r xs going b newest has =
    rw b.0 (has_after r xs (begun_phase y p) has)
has_begun job y number n m q (doing.Over e) r xs going b newest has = absurd going

-- ---- the processors of a block that were done

part_more : (job : JobData) (y : LayoutData) (r : Record) (n q rank : ℕ) (op : Op) (found : ℕ) →
    HasPart job y r n q rank → HasPart job y (after r op found) n q rank
part_more job y r n q rank op found h = record {
  memo = h.memo;
  is_true = h.is_true;
  answers = h.answers;
  learned = h.learned;
  whole = h.whole;
  has = has_more r op found _ h.has;
}

pub block_more : (job : JobData) (y : LayoutData) (r : Record) (n : ℕ) (d : Doing) (op : Op)
    (found : ℕ) → HasBlock job y r n d → HasBlock job y (after r op found) n d
block_more job y r n doing.Back op found h = tt
block_more job y r n doing.Begin op found h = tt
block_more job y r n (doing.Turn q) op found h = tt
block_more job y r n (doing.Part q rank) op found h =
    λ earlier less. part_more job y r n q earlier op found (h earlier less)
block_more job y r n (doing.Over e) op found h = tt

-- a longer record still knows a worker
pub knows_more : (job : JobData) (y : LayoutData) (r : Record) (w : Walking) (op : Op) (found : ℕ) →
    Knows job y r w → Knows job y (after r op found) w
knows_more job y r w op found knows = record {
  script = has_more r op found (heard_of job y w) knows.script;
  block = block_more job y r (node_of y w) w.now op found knows.block;
  memory = knows.memory;
}

-- ---- those that are passed over

-- a block that goes on alone stays at its end
ended_rank : (job : JobData) (y : LayoutData) (n : ℕ) (passed : ℕ × List Memo) →
    (ends_block job y n passed).0 ≡ passed.0
ended_rank job y n passed = cond_both (has_rank y n passed.0) passed _ (λ p. p.0 ≡ passed.0)
    (λ there. refl) (λ none. refl)

one_more : (job : JobData) (y : LayoutData) (r : Record) (n q rank : ℕ) →
    ((earlier : ℕ) → earlier < rank → HasPart job y r n q earlier) → HasPart job y r n q rank →
    (earlier : ℕ) → earlier < suc rank → HasPart job y r n q earlier
one_more job y r n q rank before last earlier less = elim (cases_lt earlier rank) [
  | inl c ↦ before earlier c
  | inr c ↦ (let e : rank ≡ earlier = omega arith in
      subst (λ (k : ℕ). HasPart job y r n q k) e last)
]

-- one that is passed over has asked nothing
passed_part : (job : JobData) (y : LayoutData) (r : Record) (n q rank : ℕ) (memo learned : Memo) →
    IsTrueMemo job (processor_at y n rank) memo →
    part_script job y n q rank memo ≡ ends (worked n q rank learned) → Has r (begun_phase y q) →
    HasPart job y r n q rank
passed_part job y r n q rank memo learned is_true is has = record {
  memo = memo;
  is_true = is_true;
  answers = [];
  learned = learned;
  whole = is;
  has = has;
}

-- what is remembered of the processors of a block from this rank on is is_true
abbrev pub TrueFrom : JobData → LayoutData → ℕ → ℕ → List Memo → Type 0
TrueFrom job y n rank memory = (k : ℕ) → processor_at y n rank ≤ k → k < job.procs →
    IsTrueMemo job k (memo_of memory k)

true_next : (job : JobData) (y : LayoutData) (n rank : ℕ) (memory : List Memo) (memo : Memo) →
    TrueFrom job y n rank memory →
    TrueFrom job y n (suc rank) (slice_set memory (processor_at y n rank) memo)
true_next job y n rank memory memo is_true k from below =
    let other : (processor_at y n rank ≡ k) → ⊥ = λ e. absurd (omega arith) in
    rw (memo_other memory (processor_at y n rank) k memo other) (is_true k (omega arith) below)

module _ (job : JobData) (y : LayoutData) (r : Record) (n q : ℕ) (board : IsBoard job y)
    (wide : IsWide y.form) (has : Has r (begun_phase y q)) where
  pub passed_parts : (more rank : ℕ) (memory : List Memo) → TrueFrom job y n rank memory →
      ((earlier : ℕ) → earlier < rank → HasPart job y r n q earlier) →
      (earlier : ℕ) → earlier < (passes_over more job y n q rank memory).0 →
      HasPart job y r n q earlier
  passed_parts zero rank memory is_true before = before
  passed_parts (suc more) rank memory is_true before = elim (cases_Bool (has_rank y n rank)) [
    | inr none ↦ rw none before
    | inl there ↦ rw there (by there (part_alike job y n q rank memo wide) (λ learned one.
        passed_parts more (suc rank) (slice_set memory i learned)
        (true_next job y n rank memory learned is_true) (one_more job y r n q rank before one)))
  ]
    where
      i : ℕ
      i = processor_at y n rank

      memo : Memo
      memo = memo_of memory i

      goes : Memo → ℕ × List Memo
      goes m = passes_over more job y n q (suc rank) (slice_set memory i m)

      by : has_rank y n rank ≡ true →
          Alike (λ m. ends (worked n q rank m)) (alone job y n q rank memo)
          (part_script job y n q rank memo) →
          ((learned : Memo) → HasPart job y r n q rank → (earlier : ℕ) →
          earlier < (goes learned).0 → HasPart job y r n q earlier) →
          (earlier : ℕ) →
          earlier < (if_ended (alone job y n q rank memo) (rank, memory) goes).0 →
          HasPart job y r n q earlier
      by there (asks_first op e f) next =
          rw (going_first (alone job y n q rank memo) op (rank, memory) goes e) before
      by there (comes_at_once learned e f) next =
          let proc = (rank_parts y n rank there).1 in
          let same = same_procs job y board in
          rw e (next learned (passed_part job y r n q rank memo learned
          (is_true i (omega arith) (omega (arith, proc, same))) f has))

  -- in a block, from this rank on
  pub goes_parts : (rank : ℕ) (memory : List Memo) → TrueFrom job y n rank memory →
      ((earlier : ℕ) → earlier < rank → HasPart job y r n q earlier) →
      (earlier : ℕ) →
      earlier < (ends_block job y n (passes_over (grain y) job y n q rank memory)).0 →
      HasPart job y r n q earlier
  goes_parts rank memory is_true before =
      let passed = passes_over (grain y) job y n q rank memory in
      subst (λ (end : ℕ). (earlier : ℕ) → earlier < end → HasPart job y r n q earlier)
      (sym (ended_rank job y n passed)) (passed_parts (grain y) rank memory is_true before)

-- ---- what comes of an answer

-- the task that is done
done_part : (job : JobData) (y : LayoutData) (r : Record) (n q rank : ℕ) (memory : List Memo)
    (answers : List ℕ) (learned : Memo) → IsTrue (has_rank y n rank) → IsBoard job y →
    IsTrueMemory job memory →
    rest (block_script job y n q rank memory) answers ≡ ends (worked n q rank learned) →
    Has r (heard_in (block_script job y n q rank memory) answers ++ begun_phase y q) →
    HasPart job y r n q rank
done_part job y r n q rank memory answers learned there board is_true whole has =
    let i = processor_at y n rank in
    let proc = (rank_parts y n rank there).1 in
    let same = same_procs job y board in
    let is : block_script job y n q rank memory ≡ part_script job y n q rank (memo_of memory i) =
    rw there refl in
    record {
      memo = memo_of memory i;
      is_true = is_true board.limits i (omega (arith, proc, same));
      answers = answers;
      learned = learned;
      whole = subst (λ (s : Script Then). rest s answers ≡ ends (worked n q rank learned)) is whole;
      has = subst (λ (s : Script Then). Has r (heard_in s answers ++ begun_phase y q)) is has;
    }

pub same_worked : {m n q p rank next : ℕ} (memo : Memo) → m ≡ n → q ≡ p → rank ≡ next →
    ends (worked m q rank memo) ≡ ends (worked n p next memo)
same_worked memo a b c = rw (a, b, c) refl

known_on : (job : JobData) (y : LayoutData) (r : Record) (w : Walking)
    (found : ℕ) (t : Script Then) → IsBoard job y → IsGoing w.now →
    IsInBlock y (node_of y w) w.now → rest_after (rest_of job y w) found ≡ t →
    AllEnds (Brings job y w.number (node_of y w) w.now) t (heard_of job y (hearing w found)) →
    NewestPhase y (heard_of job y (hearing w found)) →
    Has r (heard_of job y (hearing w found)) →
    HasBlock job y r (node_of y w) w.now → IsTrueMemory job w.memory →
    IsTrueMemory job (goes_on job y w found t).memory → Knows job y r (goes_on job y w found t)
known_on job y r w found (asks op next) board going block is each newest has before is_true new =
    record { script = has; block = before; memory = is_true }
known_on job y r w found (ends (begins m)) board going block is each newest has before is_true new =
    record { script = tt; block = tt; memory = is_true }
known_on job y r w found (ends (turns m q)) board going block is each newest has
    before is_true new =
    record {
      script = has_begun job y w.number (node_of y w) m q w.now r
          (heard_in (script_of job y w) (found ∷ w.heard)) going each newest has;
      block = tt;
      memory = is_true;
    }
known_on job y r w found (ends (enters m q)) board going block is each newest has
    before is_true new =
    entered_known w.now refl each
  where
    entered_known : (d : Doing) → w.now ≡ d →
        Brings job y w.number (node_of y w) d (enters m q) (heard_of job y (hearing w found)) →
        Knows job y r (goes_on job y w found (ends (enters m q)))
    entered_known doing.Back e b = absurd b
    entered_known doing.Begin e b = absurd b
    entered_known (doing.Part p rank) e b = absurd b
    entered_known (doing.Over o) e b = absurd (subst IsGoing e going)
    entered_known (doing.Turn p) e b =
        let begun : Has r (begun_phase y q) = rw b.2 (has_after r
        (heard_in (script_of job y w) (found ∷ w.heard)) (begun_phase y p)
        (subst (λ (d : Doing). Has r (heard_in (script_of job y w) (found ∷ w.heard)
        ++ phase_begun y d)) e has)) in
        record {
          script = begun;
          block = goes_parts job y r m q board b.3 begun 0 w.memory
              (λ k from below. is_true board.limits k below)
              (λ earlier less. absurd (omega arith));
          memory = new;
        }
known_on job y r w found (ends (worked m q rank memo)) board going block is each newest has before
    is_true new = worked_known w.now refl each
  where
    worked_known : (d : Doing) → w.now ≡ d →
        Brings job y w.number (node_of y w) d (worked m q rank memo)
        (heard_of job y (hearing w found)) →
        Knows job y r (goes_on job y w found (ends (worked m q rank memo)))
    worked_known doing.Back e b = absurd b
    worked_known doing.Begin e b = absurd b
    worked_known (doing.Turn p) e b = absurd b
    worked_known (doing.Over o) e b = absurd (subst IsGoing e going)
    worked_known (doing.Part p at) e b =
        let n = node_of y w in
        let xs = found ∷ w.heard in
        let script : script_of job y w ≡ block_script job y n p at w.memory =
        ap (λ (d : Doing). script_by job y w.number n w.memory d) e in
        let heard : Has r (heard_in (block_script job y n p at w.memory) xs ++ begun_phase y p) =
        subst (λ (s : Script Then). Has r (heard_in s xs ++ begun_phase y p)) script
        (subst (λ (d : Doing). Has r (heard_in (script_of job y w) xs ++ phase_begun y d)) e has) in
        let whole : rest (block_script job y n p at w.memory) xs ≡ ends (worked n p at memo) =
        subst (λ (s : Script Then). rest s xs ≡ ends (worked n p at memo)) script
        (is ∙ same_worked memo b.node b.phase b.rank) in
        let part = done_part job y r n p at w.memory xs memo b.there board is_true whole heard in
        let begun = has_after r (heard_in (block_script job y n p at w.memory) xs)
        (begun_phase y p) heard in
        let earlier : HasBlock job y r n (doing.Part p at) =
        subst (λ (d : Doing). HasBlock job y r n d) e before in
        rw (b.node, b.phase, b.rank) (record {
          script = begun;
          block = goes_parts job y r n p board b.wide begun (suc at) _
              (true_next job y n at w.memory memo (λ k from below. is_true board.limits k below))
              (one_more job y r n p at earlier part);
          memory = rw (b.node, b.phase, b.rank) at new;
        })
known_on job y r w found (ends (stops e)) board going block is each newest has before is_true new =
    record {
      script = subst (λ (d : Doing). Has r (heard_in (script_by job y w.number (node_of y w)
          w.memory d) (found ∷ w.heard) ++ phase_begun y d)) (stops_begin job y w.number
          (node_of y w) w.now e (heard_of job y (hearing w found)) going each) has;
      block = tt;
      memory = is_true;
    }

pub stay_known : KnownStayKnown
stay_known job y r w found board fits knows phase new = elim (going_or_over w.now) [
  | inl going ↦ (let longer = after r (ask_of job y w) found in
      let has : Has longer (heard_of job y (hearing w found)) = subst (λ (es : List (Op × ℕ)).
      Has longer es) (sym (heard_more job y w found going fits.matches))
      (inl (refl, knows.script)) in
      let newest : NewestPhase y (heard_of job y (hearing w found)) = subst (NewestPhase y)
      (sym (heard_more job y w found going fits.matches)) phase in
      let told_is = told_going job y w.now w found (rest_after (rest_of job y w) found) going in
      subst (λ (v : Walking). Knows job y longer v) (sym told_is)
      (known_on job y longer w found (rest_after (rest_of job y w) found) board going fits.block
      refl (worker_ends job y (hearing w found) fits.block) newest has
      (block_more job y r (node_of y w) w.now (ask_of job y w) found knows.block) knows.memory
      (subst (λ (v : Walking). IsTrueMemory job v.memory) told_is new)))
  | inr over ↦ subst (λ (v : Walking). Knows job y (after r (ask_of job y w) found) v)
      (sym (told_over job y w found (rest_after (rest_of job y w) found) w.now over.0 over.1))
      (knows_more job y r w (ask_of job y w) found knows)
]

-- a root that a board admits is one
pub knows_next : (job : JobData) (y : LayoutData) (r : Record) (w : Walking) (found : ℕ) →
    IsBoard job y → Fits job y w → Knows job y r w → HearsAdmitted job y (ask_of job y w) found →
    IsTrueMemory job (told job y w found).memory →
    Knows job y (after r (ask_of job y w) found) (told job y w found)
knows_next job y r w found board fits knows admitted new =
    stay_known job y r w found board fits knows
    (λ root. root_formed job y found board
    (subst (λ (op : Op). HearsAdmitted job y op found) root admitted)) new
