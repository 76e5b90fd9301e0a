-- A word that is no node changes: a position, word 0, a claim word, a word of a place, a request
-- word.
use Rattle.std.proofs.Common.{◌≡◌, ◌≢◌, ℕ, zero, suc, ◌+◌, ◌-◌, ◌*◌, ◌<◌, ◌≤◌, ◌^◌, List}
use Rattle.std.proofs.Common.{Option, slice_index, Some, None, refl, sym, ap, subst, ◌∙◌, inl, inr}
use Rattle.std.proofs.Common.{lit<, arith}
use Rattle.std.proofs.lemmas.Bool.{cases_eq, cases_lt, cases_Bool, eq-eqb, leb-true, leb-false}
use Rattle.std.proofs.lemmas.Bool.{lt-ltb, le-ltb}
use Rattle.pram_job.specs.Job.{JobData, IsJob}
use Rattle.pram_job.specs.Places.{counters_at}
use Rattle.pram_machine.specs.declared.requests.Request.{Request}
use Rattle.pram_machine.specs.Machine.{counter, counter_place}
use Rattle.pram_machine.specs.Instructions.{request_in, place_part, value_part, HasShape}
use Rattle.pram_machine.proofs.Shapes.{request_shape}
use Rattle.pram_step.specs.Steps.{written}
use Rattle.pram_step.specs.Runs.{IsReached, AgreesAfter, state_after}
use Rattle.pram_step.proofs.LawFits.{state_fits}
use Rattle.pram_step.proofs.LawCounters.{counter_within}
use Rattle.pram_step.proofs.LawPlaces.{writes_place, writer_is}
use Rattle.pram_step.specs.History.{Asks, Wins, part_after}
use Rattle.pram_step.proofs.Past.{conflict_above, asks_fit}
use Rattle.pram_words.specs.declared.phases.Kind.{Kind}
use Rattle.pram_words.specs.declared.phases.Kind.TheVariants.{Compute, Apply, Verify}
use Rattle.pram_words.specs.declared.words.Word.{Word}
use Rattle.pram_words.specs.declared.words.Word.TheVariants.{Conflict, Node, Asked, Position}
use Rattle.pram_words.specs.declared.words.Word.TheVariants.{Stored, Claim}
use Rattle.pram_words.specs.Stamps.{stamp_of, payload_of, stamped_word, first_is_older, older}
use Rattle.pram_words.specs.Stamps.{older_word}
use Rattle.pram_words.specs.Phases.{kind_at, step_at, next_phase}
use Rattle.pram_words.specs.Words.{LayoutData, IsWord, IsStamped, number_of, places_of, counters_of}
use Rattle.pram_words.specs.Words.{most_asked, most_stored}
use Rattle.pram_words.specs.declared.layout.Form.{Form}
use Rattle.pram_words.specs.declared.layout.Form.TheVariants.{Compact, Wide}
use Rattle.walk_memory.specs.Blocks.{IsBoard}
use Rattle.walkx.specs.Tasks.{claim_of}
use Rattle.walkx.specs.declared.operation.Op.TheVariants.{Max, Store, Swap}
use Rattle.walk_memory.proofs.Boards.{same_cells, same_procs}
use Rattle.lawful_walk.specs.Board.{leaf_of, held, root, conflict, leaf, stamp_at, finished, Grows}
use Rattle.lawful_walk.specs.Board.{IsAsked, phase_in, IsTree, IsNew, IsPair, newer_first}
use Rattle.lawful_walk.specs.Board.{newer_second, new_first, new_second, IsClaimed, claimed_now}
use Rattle.lawful_walk.specs.Board.{Done, DoneIn, IsAhead, IsNamed, Lawful, Stands, Up}
use Rattle.lawful_walk.proofs.Leaves.{leaf_word}
use Rattle.lawful_walk.proofs.Frames.{Only, only_grows, same_or_other, does_max, does_swap}
use Rattle.lawful_walk.proofs.Frames.{keeps_store}
use Rattle.lawful_walk.specs.Lands.{IsShared, Lands, landing_before, last_landing}
use Rattle.lawful_walk.specs.Lands.{phase_claimed}
use Rattle.lawful_walk.specs.Lands.{phase_written, settled, settled_before, word_of_step}
use Rattle.lawful_walk.proofs.Landings.{before_most, last_least, last_most, shared_cases}
use Rattle.lawful_walk.proofs.Landings.{stamp_step}
use Rattle.lawful_walk.specs.Writes.{PlaceAsHeard, Floor, Does}
use Rattle.lawful_walk.specs.Moments.{Keeps}
use Rattle.lawful_walk.proofs.Values.{before_less, claim_most, phase_high}
use Rattle.lawful_walk.proofs.Facts.{facts, board, late_of, claim_fits, done_of_rests}
use Rattle.lawful_walk.proofs.Facts.{WordsShow}
use Rattle.lawful_walk.proofs.Keeping.{done_later, settle}
use Rattle.lawful_walk.proofs.Raising.{finished_before, alive, next}
use Rattle.lawful_walk.proofs.Winners.{lands_below, lands_fits, lands_shared, lands_value}

settled_stamp : (form : Form) (job : JobData) (t p : ℕ) → IsJob job →
    stamp_of (settled form job t p) ≡ last_landing form job t p
settled_stamp form job t p limits = stamp_step form job limits (last_landing form job t p) p

before_stamp : (form : Form) (job : JobData) (t p : ℕ) → IsJob job →
    stamp_of (settled_before form job t p)
    ≡ landing_before form job (last_landing form job t p) p
before_stamp form job t p limits =
    stamp_step form job limits (landing_before form job (last_landing form job t p) p) p

pair_most : (form : Form) (job : JobData) (f r p a b : ℕ) → IsJob job →
    IsPair form job f r p a b → (stamp_of a ≤ suc f) × (stamp_of b ≤ suc f)
pair_most form job f r p a b limits (newer_first e g) =
    let s = ap stamp_of e ∙ settled_stamp form job f p limits in
    let o = ap stamp_of g ∙ before_stamp form job f p limits in
    let m = last_most form job limits f p in
    let k = before_most form job limits (last_landing form job f p) p in (omega arith, omega arith)
pair_most form job f r p a b limits (newer_second e g some) =
    let s = ap stamp_of e ∙ settled_stamp form job f p limits in
    let o = ap stamp_of g ∙ before_stamp form job f p limits in
    let m = last_most form job limits f p in
    let k = before_most form job limits (last_landing form job f p) p in (omega arith, omega arith)
pair_most form job f r p a b limits (new_first n e) =
    let s = ap stamp_of e ∙ settled_stamp form job f p limits in
    let m = last_most form job limits f p in
    let k = n.stamp in (omega arith, omega arith)
pair_most form job f r p a b limits (new_second n e some) =
    let s = ap stamp_of e ∙ settled_stamp form job f p limits in
    let m = last_most form job limits f p in
    let k = n.stamp in (omega arith, omega arith)

-- ---- one word that is no node

module _ (job : JobData) (y : LayoutData) (words later : List ℕ) (a : Word)
    (v : ℕ) (stands : Stands job y words) (up : Grows y words later) (only : Only y a v words later)
    (no_node : (n : ℕ) → Node n ≢ a) where
  nodes_same : (n : ℕ) → IsWord y (Node n) → held y later (Node n) ≡ held y words (Node n)
  nodes_same n is = only.rest (Node n) is (no_node n)

  root_same : root y later ≡ root y words
  root_same = nodes_same 1 (lit< tt, let l = stands.sizes.leaves in omega arith)

  leaf_same : (i : ℕ) → i < y.procs → leaf y later i ≡ leaf y words i
  leaf_same i proc = nodes_same (leaf_of y i) (leaf_word y i stands.sizes proc)

  tree_same : IsTree job y later
  tree_same = record {
    left = λ n low high. let a = nodes_same n (low, omega arith) in
        let b = nodes_same (2 * n) (omega arith, omega arith) in
        let h = stands.lawful.tree.left n low high in omega arith;
    right = λ n low high. let a = nodes_same n (low, omega arith) in
        let b = nodes_same (2 * n + 1) (omega arith, omega arith) in
        let h = stands.lawful.tree.right n low high in omega arith;
    near = λ compact n is. let a = nodes_same n is in
        let b = root_same in
        let h = stands.lawful.tree.near compact n is in omega (arith, a, b, h);
    most = λ n is. let a = nodes_same n is in
        let h = stands.lawful.tree.most n is in omega arith;
  }

  pub asked_if :
      (y.form ≡ Compact → (i j : ℕ) → i < y.procs → j < 3 →
      held y later (Asked i j) ≡ held y words (Asked i j)) →
      y.form ≡ Compact → (i j : ℕ) → i < y.procs → j < 3 →
      IsAsked job (finished y words) i j (held y later (Asked i j))
  asked_if same compact i j proc part = subst (IsAsked job (finished y words) i j)
      (sym (same compact i j proc part)) (stands.lawful.asked compact i j proc part)

  pub stored_if :
      ((p k : ℕ) → IsWord y (Stored p k) → held y later (Stored p k) ≡ held y words (Stored p k)) →
      (p : ℕ) → p < places_of y →
      IsPair y.form job (finished y words) (root y words) p
      (held y later (Stored p 0)) (held y later (Stored p 1))
  stored_if same p place =
      subst
      (λ (w : ℕ). IsPair y.form job (finished y words) (root y words) p w
      (held y later (Stored p 1))) (sym (same p 0 (place, lit< tt)))
      (subst (λ (w : ℕ). IsPair y.form job (finished y words) (root y words) p
      (held y words (Stored p 0))
      w) (sym (same p 1 (place, lit< tt))) (stands.lawful.stored p place))

  pub claimed_if :
      ((c : ℕ) → IsWord y (Claim c) → held y later (Claim c) ≡ held y words (Claim c)) →
      (c : ℕ) → IsWord y (Claim c) →
      IsClaimed y.form job (finished y words) (root y words) c (held y later (Claim c))
  claimed_if same c is = subst (IsClaimed y.form job (finished y words) (root y words) c)
      (sym (same c is)) (stands.lawful.claimed c is)

  pub named_if : conflict y later ≡ conflict y words →
      IsNamed y.form job (conflict y later) (root y words)
  named_if same = subst (λ (u : ℕ). IsNamed y.form job u (root y words)) (sym same)
      stands.lawful.named

  pub full_if : conflict y later ≡ conflict y words →
      root y words ≡ 3 * finished y words + 3 → conflict y later ≡ 0 → ⊥
  full_if same e none = let u = (facts job y words stands).full_root e in omega arith

  -- a leaf that is raised to the last phase of the step: what it stands for is done still
  abbrev pub Verified : Type 0
  Verified = (i : ℕ) → i < y.procs → 3 * finished y words + 3 ≤ leaf y words i →
      Done job.rule Verify job y (finished y words) later i

  pub set_lawful_by : (y.form ≡ Compact → (i j : ℕ) → i < y.procs →
      j < 3 → IsAsked job (finished y words) i j (held y later (Asked i j))) →
      ((p : ℕ) → p < places_of y → IsPair y.form job (finished y words) (root y words) p
      (held y later (Stored p 0)) (held y later (Stored p 1))) →
      ((c : ℕ) → IsWord y (Claim c) →
      IsClaimed y.form job (finished y words) (root y words) c (held y later (Claim c))) →
      Verified → IsNamed y.form job (conflict y later) (root y words) →
      (root y words ≡ 3 * finished y words + 3 → conflict y later ≡ 0 → ⊥) → Lawful job y later
  set_lawful_by asked stored claimed verified named full =
      let r = root_same in
      let low = (facts job y words stands).root_low in
      let high = (facts job y words stands).root_high in
      settle job y later (finished y words) stands.limits stands.sizes stands.layout (record {
        reached = stands.lawful.reached;
        tree = tree_same;
        asked = asked;
        stored = λ p place. subst (λ (r : ℕ). IsPair y.form job (finished y words) r p
            (held y later (Stored p 0)) (held y later (Stored p 1))) (sym r) (stored p place);
        claimed =
            λ c is. subst (λ (r : ℕ). IsClaimed y.form job (finished y words) r c
            (held y later (Claim c))) (sym r) (claimed c is);
        done = done_by;
        ahead = λ i t kind proc next h. let l = leaf_same i proc in
            let e = ap (next_phase y.form) r in
            stands.lawful.ahead i t kind proc (omega (arith, e, next)) (omega (arith, l, h));
        named = subst (IsNamed y.form job (conflict y later)) (sym r) named;
      }) (omega arith) (omega arith) (λ e none i kind proc. absurd (full (omega arith) none))
    where
      kept : (i : ℕ) (kind : Kind) → i < y.procs → (kind ≡ Verify → ⊥) →
          phase_in (finished y words) kind ≤ leaf y later i →
          Done job.rule kind job y (finished y words) later i
      kept i kind proc other h = done_later job y words later
          (finished y words) stands.limits stands.sizes stands.layout up
          (λ p place. pair_most y.form job
          (finished y words) (root y words) p _ _ stands.limits (stored p place)) kind
          (λ e. absurd (other e))
          i proc (stands.lawful.done i kind proc (let l = leaf_same i proc in omega arith))

      done_by : (i : ℕ) (kind : Kind) → i < y.procs →
          phase_in (finished y words) kind ≤ leaf y later i →
          Done job.rule kind job y (finished y words) later i
      done_by i Compute proc h = kept i Compute proc (λ e. absurd (cc)) h
      done_by i Apply proc h = kept i Apply proc (λ e. absurd (cc)) h
      done_by i Verify proc h = verified i proc (let l = leaf_same i proc in omega arith)

  -- the same where no claim changes
  pub set_lawful : (y.form ≡ Compact → (i j : ℕ) → i < y.procs →
      j < 3 → IsAsked job (finished y words) i j (held y later (Asked i j))) →
      ((p : ℕ) → p < places_of y → IsPair y.form job (finished y words) (root y words) p
      (held y later (Stored p 0)) (held y later (Stored p 1))) →
      ((c : ℕ) → IsWord y (Claim c) →
      IsClaimed y.form job (finished y words) (root y words) c (held y later (Claim c))) →
      ((c : ℕ) → IsWord y (Claim c) → held y later (Claim c) ≡ held y words (Claim c)) →
      IsNamed y.form job (conflict y later) (root y words) →
      (root y words ≡ 3 * finished y words + 3 → conflict y later ≡ 0 → ⊥) → Lawful job y later
  set_lawful asked stored claimed still named full =
      set_lawful_by asked stored claimed (λ i proc h. done_later job y words later
      (finished y words) stands.limits stands.sizes stands.layout up
      (λ p place. pair_most y.form job (finished y words) (root y words) p _ _ stands.limits
      (stored p place)) Verify (λ e. still) i proc (stands.lawful.done i Verify proc h)) named full

-- ---- a position

pub store_keeps : (job : JobData) (y : LayoutData) (w n : ℕ) (words : List ℕ) → Stands job y words →
    w < y.workers → 1 ≤ n → n < 2 * y.leaves →
    Keeps job y (Store (number_of y (Position w)) n) words
store_keeps job y w n words stands worker low high =
    keeps_store job y w n words stands worker (low, high) (λ later only.
    let up = only_grows y (Position w) n words later stands.sizes worker tt only in
    set_lawful job y words later (Position w) n stands up only (λ m e. absurd (cc))
    (asked_if job y words later (Position w) n stands up only
    (λ m e. absurd (cc)) (λ compact i j proc part.
    only.rest (Asked i j) (compact, proc, part) (λ e. absurd (cc))))
    (stored_if job y words later (Position w) n stands up only (λ m e. absurd (cc))
    (λ p k is. only.rest (Stored p k) is (λ e. absurd (cc))))
    (claimed_if job y words later (Position w) n stands up only
    (λ m e. absurd (cc)) (λ c is. only.rest (Claim c) is (λ e. absurd (cc))))
    (λ c is. only.rest (Claim c) is (λ e. absurd (cc)))
    (named_if job y words later (Position w) n stands up only
    (λ m e. absurd (cc)) (only.rest Conflict tt (λ e. absurd (cc))))
    (full_if job y words later (Position w) n stands up only (λ m e. absurd (cc))
    (only.rest Conflict tt (λ e. absurd (cc)))))

module _ (job : JobData) (y : LayoutData) (words : List ℕ) (q x : ℕ) (stands : Stands job y words)
    (some : 1 ≤ q) (most : q ≤ 3 * job.steps) (step : step_at q ≡ suc x)
    (floor : Floor job y q x words) where
  shown : WordsShow job y words
  shown = facts job y words stands

  ahead : x ≤ finished y words
  ahead = finished_before job y words q x stands some most step floor

  -- a phase that is not over is the next one
  coming : root y words < q → next_phase y.form (root y words) ≡ q
  coming live = next job y words q x stands some most step floor live

  -- ---- word 0

  pub conflict_does : kind_at q ≡ Verify → (AgreesAfter job x → ⊥) → 3 * x + 3 ≡ q →
      Does job y q (Swap (number_of y Conflict) 0 (suc x)) words
  conflict_does kind not phase =
      let above = conflict_above job x (finished y words) not stands.lawful.reached in
      let l = ahead in
      let same : finished y words ≡ x = omega arith in
      does_swap job y q Conflict 0 (suc x) words stands tt (omega arith)
      (λ h none. let high = shown.root_high in
      let u = shown.full_root (omega arith) in omega arith)
      (λ none. (
        λ other. absurd (other none),
        λ later only.
            let up = only_grows y Conflict
            (suc x) words later stands.sizes tt (λ other. absurd (other none)) only in
            let r = floor.root in
            let high = shown.root_high in
            set_lawful job y words later Conflict (suc x) stands up only (λ m e. absurd (cc))
            (asked_if job y words later Conflict (suc x) stands up only (λ m e. absurd (cc))
            (λ compact i j proc part.
            only.rest (Asked i j) (compact, proc, part) (λ e. absurd (cc))))
            (stored_if job y words later Conflict (suc x) stands up only
            (λ m e. absurd (cc)) (λ p k is. only.rest (Stored p k) is (λ e. absurd (cc))))
            (claimed_if job y words later Conflict (suc x) stands up only
            (λ m e. absurd (cc)) (λ c is. only.rest (Claim c) is (λ e. absurd (cc))))
            (λ c is. only.rest (Claim c) is (λ e. absurd (cc)))
            (record {
              first = λ s e. let at = only.at in
                  let g : x ≡ s = omega arith in subst
                  (λ (s : ℕ). IsReached job s × (AgreesAfter job s → ⊥)) g (floor.reached, not);
              near = λ s e. let at = only.at in elim (cases_lt (root y words) q) [
                | inl live ↦ inl (let c = coming live in omega arith)
                | inr past ↦ inr (omega arith)
              ];
            })
            (λ e zero_now. let at = only.at in omega arith),
      ))

  -- ---- a claim word

  pub claim_does : (c i v : ℕ) → IsWord y (Claim c) → q ≡ phase_claimed y.form x →
      Asks job x c i v →
      Does job y q (Max (number_of y (Claim c)) (stamped_word (suc x) (claim_of job i))) words
  claim_does c i v is phase asks =
      let l = ahead in
      let fits = claim_fits job y words (finished y words)
      stands.limits stands.sizes stands.layout stands.lawful shown.root_low shown.root_high i in
      let procs = same_procs job y (board job y words (finished y words)
      stands.limits stands.sizes stands.layout stands.lawful shown.root_low shown.root_high) in
      let range : IsStamped job.steps y.procs (stamped_word (suc x) (claim_of job i)) =
      (omega arith, omega arith) in
      let stale : q ≤ root y words → stamped_word (suc x) (claim_of job i)
      ≤ held y words (Claim c) = λ h. shown.claims_high x c i v is (omega arith) asks in
      let early = claim_most y.form x in
      does_max job y q (Claim c) (stamped_word (suc x) (claim_of job i)) words stands is range stale
      (λ less. (
        omega arith,
        λ later only.
            let up = only_grows y (Claim c) (stamped_word (suc x) (claim_of job i))
            words later stands.sizes is (omega arith) only in
            let live : root y words < q =
            (elim (cases_lt (root y words) q) [
              | inl k ↦ k
              | inr k ↦ absurd (let s = stale k in omega arith)
            ]) in
            let gone = alive job y words q x stands some most step floor live in
            set_lawful_by job y words later (Claim c)
            (stamped_word (suc x) (claim_of job i)) stands up only (λ m e. absurd (cc))
            (asked_if job y words later (Claim c)
            (stamped_word (suc x) (claim_of job i)) stands up only (λ m e. absurd (cc))
            (λ compact i j proc part.
            only.rest (Asked i j) (compact, proc, part) (λ e. absurd (cc))))
            (stored_if job y words later (Claim c) (stamped_word (suc x) (claim_of job i)) stands
            up only (λ m e. absurd (cc)) (λ p k is. only.rest (Stored p k) is (λ e. absurd (cc))))
            (λ d is_d. elim (same_or_other y (Claim c) (Claim d) stands.sizes is is_d) [
              | inl e ↦ (let same : c ≡ d = claims_same c d e in
                  let new : IsClaimed y.form job (finished y words) (root y words) c
                  (stamped_word (suc x) (claim_of job i)) = claimed_now (omega arith) (record {
                    writer = i;
                    value = v;
                    asks = subst (λ (s : ℕ). Asks job s c i v) (sym gone) asks;
                    is = omega arith;
                  }) (subst (λ (s : ℕ). phase_claimed y.form s ≤ next_phase y.form (root y words))
                  (sym gone) (let fl = floor.root in omega arith)) in subst (λ (d : ℕ).
                  IsClaimed y.form job (finished y words) (root y words) d (held y later (Claim d)))
                  same
                  (subst (IsClaimed y.form job (finished y words) (root y words) c)
                  (sym only.at) new))
              | inr n ↦ subst (IsClaimed y.form job (finished y words) (root y words) d)
                  (sym (only.rest (Claim d) is_d n)) (stands.lawful.claimed d is_d)
            ])
            (λ i proc h. ahead_done y.form refl later live i proc h)
            (named_if job y words later (Claim c) (stamped_word (suc x) (claim_of job i)) stands
            up only (λ m e. absurd (cc)) (only.rest Conflict tt (λ e. absurd (cc))))
            (full_if job y words later (Claim c) (stamped_word (suc x) (claim_of job i))
            stands up only (λ m e. absurd (cc)) (only.rest Conflict tt (λ e. absurd (cc)))),
      ))
    where
      claims_same : (c d : ℕ) → Claim d ≡ Claim c → c ≡ d
      claims_same c d e = cc

      -- a leaf of which the last phase is done, before claims are made, has no store to be made
      ahead_done : (form : Form) → y.form ≡ form → (later : List ℕ) → root y words < q → (i : ℕ) →
          i < y.procs → 3 * finished y words + 3 ≤ leaf y words i →
          Done job.rule Verify job y (finished y words) later i
      ahead_done Compact e later live i proc h = absurd (
          let near = stands.lawful.tree.near e (leaf_of y i) (leaf_word y i stands.sizes proc) in
          let come = subst (λ (f : Form). next_phase f (root y words) ≡ q) e (coming live) in
          let claimed = subst (λ (f : Form). q ≡ phase_claimed f x) e phase in
          let l = ahead in omega (arith, near, come, claimed, l, h))
      ahead_done (Wide g) e later live i proc h =
          let claimed = subst (λ (f : Form). q ≡ phase_claimed f x) e phase in
          let l = ahead in
          let c = coming live in
          subst (λ (f : Form). DoneIn f job.rule Verify job y (finished y words) later i) (sym e)
          (done_of_rests g job.rule Verify job y (finished y words) later i
          (stands.lawful.ahead i (finished y words) Verify proc (omega (arith, claimed, c, l)) h))

-- ---- ranges of what is written

two_words : (k j : ℕ) → k ≡ j → k ≢ j → ⊥
two_words k j e n = n e

same_some : (a b : ℕ) → Some a ≡ Some b → a ≡ b
same_some a b e = cc

counter_value : (job : JobData) (i p v : ℕ) (r : Request) → p ≡ counter_place job i →
    written job p i r ≡ Some v → r.next ≡ v
counter_value job i p v r e h = same_some r.next v (rw (eq-eqb p (counter_place job i) e) at h)

-- a request that the machine makes has its shape
shape_of : (job : JobData) (y : LayoutData) (s i : ℕ) → IsBoard job y → i < y.procs →
    HasShape job i (request_in job (state_after job s) i)
shape_of job y s i is proc =
    let procs = same_procs job y is in
    let below : i < job.procs = omega arith in
    request_shape job (state_after job s) i is.limits (state_fits job s is.limits) below
    (counter_within job s i is.limits below)

written_most : (job : JobData) (y : LayoutData) (s p i v : ℕ) → IsBoard job y →
    Asks job s p i v → v ≤ most_stored y job p
written_most job y s p i v is asks =
    let w = writes_place job (state_after job s) p i v is.limits asks in
    let l = w.0 in
    let cells = same_cells job y is in
    let procs = same_procs job y is in
    let fits = (asks_fit job s p i v is.limits asks).1 in
    elim w.1 [
      | inl e ↦ rw (le-ltb p (counters_of y) (omega arith))
          (let n = (shape_of job y s i is (omega arith)).next in
          let k = counter_value job i p v (request_in job (state_after job s) i) e
          (writer_is job (state_after job s) p i v asks).1 in omega arith)
      | inr d ↦ rw (lt-ltb p (counters_of y) (elim d [
        | inl c ↦ omega arith
        | inr c ↦ (let m = c.1 in omega arith)
      ])) (omega arith)
    ]

landed_most : (job : JobData) (y : LayoutData) (s p i v : ℕ) → IsBoard job y → i < y.procs →
    Lands y.form job s p i v → v ≤ most_stored y job p
landed_most job y s p i v is proc lands = elim (shared_cases y.form job p) [
  | inl shared ↦ written_most job y s p i v is (lands_shared y.form job s p i v shared lands)
  | inr apart ↦ above apart
]
  where
    cells : y.cells ≡ job.cells
    cells = same_cells job y is

    procs : y.procs ≡ job.procs
    procs = same_procs job y is

    above : (IsShared y.form job p → ⊥) → v ≤ most_stored y job p
    above apart = elim (cases_lt p (counters_of y)) [
      | inl low ↦ rw (lt-ltb p (counters_of y) low)
          (let fits = lands_fits y.form job s p i v is.limits lands in omega (arith, fits))
      | inr past ↦ rw (le-ltb p (counters_of y) past) (
          let c = cells in
          let d = procs in
          let below = lands_below y.form job s p i v is.limits (omega (arith, proc, d)) lands in
          let j = p - counters_at job.cells job.procs in
          let at : counter_place job j ≡ p = omega (arith, past, c, d) in
          let within = counter_within job (suc s) j is.limits (omega (arith, at, below)) in
          let value : v ≡ counter job (state_after job (suc s)) j =
          lands_value y.form job s p i v apart lands
          ∙ ap (λ (n : ℕ). slice_index (state_after job (suc s)) n) (sym at) in
          omega (arith, within, value))
    ]

place_most : (most : ℕ) (o : Option (ℕ × ℕ)) → ((p v : ℕ) → o ≡ Some (p, v) → p < most) →
    elim o [ None ↦ 0 | Some w ↦ w.0 + 1 ] ≤ most
place_most most None h = omega arith
place_most most (Some (p, v)) h = let l = h p v refl in omega arith

value_most : (most : ℕ) (o : Option (ℕ × ℕ)) → 0 < most → ((p v : ℕ) → o ≡ Some (p, v) → v < most) →
    elim o [ None ↦ 0 | Some w ↦ w.1 ] < most
value_most most None some h = some
value_most most (Some (p, v)) some h = h p v refl

part_most : (job : JobData) (y : LayoutData) (s i j : ℕ) → IsBoard job y → i < y.procs → j < 3 →
    (part_after job s i j ≤ most_asked y job j) × (part_after job s i j < 2 ^ 32)
part_most job y s i zero is proc part =
    let cells = same_cells job y is in
    let procs = same_procs job y is in
    let c = is.limits.cells.1 in
    let n = is.limits.procs.1 in
    let shape = shape_of job y s i is proc in
    let h : place_part (request_in job (state_after job s) i) ≤ counters_of y =
    place_most (counters_of y) (request_in job (state_after job s) i).put
    (λ p v e. elim (shape.data_place p v e) [
      | inl l ↦ omega arith
      | inr l ↦ (let m = l.1 in omega arith)
    ]) in
    (h, omega arith)
part_most job y s i (suc zero) is proc part =
    let shape = shape_of job y s i is proc in
    let h : value_part (request_in job (state_after job s) i) < 2 ^ 32 = value_most (2 ^ 32)
    (request_in job (state_after job s) i).put (lit< tt) (λ p v e. shape.data_value p v e) in
    (omega arith, h)
part_most job y s i (suc (suc zero)) is proc part =
    let h = (shape_of job y s i is proc).next in
    let c = is.limits.code_len.1 in (h, omega arith)
part_most job y s i (suc (suc (suc j))) is proc part = absurd (omega arith)

-- ---- the older of the two words of a place takes a new value

swapped_first : (form : Form) (job : JobData) (f r p a b word : ℕ) →
    IsJob job → IsPair form job f r p a b → stamp_of a ≤ f → stamp_of b ≤ f →
    IsNew form job f r p word → stamp_of a ≤ stamp_of b → IsPair form job f r p word b
swapped_first form job f r p a b word limits (newer_first e g) la lb n less =
    let s = ap stamp_of e ∙ settled_stamp form job f p limits in
    let o = ap stamp_of g ∙ before_stamp form job f p limits in
    let k = before_most form job limits (last_landing form job f p) p in
    let none : last_landing form job f p ≡ 0 = (elim (cases_lt (last_landing form job f p) 1) [
      | inl c ↦ omega arith
      | inr c ↦ absurd (let m = before_less form job limits (last_landing form job f p) p
          c in omega arith)
    ]) in
    new_first n (g ∙ ap (λ (n : ℕ). word_of_step job n p) (omega arith))
swapped_first form job f r p a b word limits (newer_second e g some) la lb n less = new_first n e
swapped_first form job f r p a b word limits (new_first m e) la lb n less =
    absurd (let s = m.stamp in omega arith)
swapped_first form job f r p a b word limits (new_second m e some) la lb n less =
    absurd (let s = m.stamp in omega arith)

swapped_second : (form : Form) (job : JobData) (f r p a b word : ℕ) →
    IsJob job → IsPair form job f r p a b → stamp_of a ≤ f → stamp_of b ≤ f →
    IsNew form job f r p word → stamp_of b < stamp_of a → IsPair form job f r p a word
swapped_second form job f r p a b word limits (newer_first e g) la lb n less =
    new_second n e (omega arith)
swapped_second form job f r p a b word limits (newer_second e g some) la lb n less =
    absurd (let s = ap stamp_of e ∙ settled_stamp form job f p limits in
    let o = ap stamp_of g ∙ before_stamp form job f p limits in
    let k = before_most form job limits (last_landing form job f p) p in omega arith)
swapped_second form job f r p a b word limits (new_first m e) la lb n less =
    absurd (let s = m.stamp in omega arith)
swapped_second form job f r p a b word limits (new_second m e some) la lb n less =
    absurd (let s = m.stamp in omega arith)

module _ (job : JobData) (y : LayoutData) (words : List ℕ) (q x : ℕ) (stands : Stands job y words)
    (some : 1 ≤ q) (most : q ≤ 3 * job.steps) (step : step_at q ≡ suc x)
    (floor : Floor job y q x words) where
  facts_of : WordsShow job y words
  facts_of = facts job y words stands

  upward : x ≤ finished y words
  upward = finished_before job y words q x stands some most step floor

  a_board : IsBoard job y
  a_board = record { limits = stands.limits; layout = stands.sizes; is = stands.layout }

  -- ---- a word of a place

  module _ (p i v : ℕ) (proc : i < y.procs) (phase : q ≡ phase_written y.form job p x)
      (lands : Lands y.form job x p i v) (wins : Wins job x p i) where
    place : p < places_of y
    place =
        let c = same_cells job y a_board in
        let d = same_procs job y a_board in
        let a = lands_below y.form job x p i v stands.limits (omega (arith, proc, d)) lands in
        omega (arith, a, c, d)

    fits : v < 2 ^ 32
    fits = lands_fits y.form job x p i v stands.limits lands

    value : ℕ
    value = stamped_word (suc x) v

    value_stamp : stamp_of value ≡ suc x
    unfolding value
    value_stamp = let low = fits in omega (arith, low)

    value_payload : payload_of value ≡ v
    unfolding value
    value_payload = let low = fits in omega (arith, low)

    range : IsStamped job.steps (most_stored y job p) value
    range =
        let s = value_stamp in
        let l = value_payload in
        let m = landed_most job y x p i v a_board proc lands in
        (omega (arith, s, most, step), omega (arith, l, m))

    Early : Type 0
    Early = (stamp_at y words p 0 ≤ x) × (stamp_at y words p 1 ≤ x)

    -- a place with no stamp of the step or later one: the step is the one after the finished ones
    early_now : Early → finished y words ≡ x
    unfolding Early
    early_now early =
        let up = upward in
        let e0 = early.0 in
        let e1 = early.1 in
        elim (cases_lt x (finished y words)) [
          | inr c ↦ omega arith
          | inl c ↦ absurd (elim (late_of job y words (finished y words) stands.limits stands.sizes
              stands.layout stands.lawful facts_of.root_low facts_of.root_high x p place
              (last_least y.form job stands.limits (finished y words) p x c (record {
                writer = i;
                value = v;
                lands = lands;
              }))) [ inl h ↦ omega arith | inr h ↦ omega arith ])
        ]

    not_early : q ≤ root y words → Early → ⊥
    unfolding Early
    not_early h early =
        let e0 = early.0 in
        let e1 = early.1 in
        elim (facts_of.written_late x p place (omega arith) (record {
          writer = i;
          value = v;
          lands = lands;
        })) [ inl l ↦ omega arith | inr l ↦ omega arith ]

    live_of : Early → root y words < q
    live_of early = elim (cases_lt (root y words) q) [
      | inl live ↦ live
      | inr past ↦ absurd (not_early past early)
    ]

    new : finished y words ≡ x → IsNew y.form job (finished y words) (root y words) p value
    new same =
        let s = value_stamp in
        let fl = floor.root in
        subst (λ (f : ℕ). IsNew y.form job f (root y words) p value) (sym same) (record {
          stamp = s;
          writer = i;
          lands = subst (λ (n : ℕ). Lands y.form job x p i n) (sym value_payload) lands;
          wins = wins;
          stands = omega arith;
        })

    -- the older word takes it while the phase is not over
    ahead_of : (k : ℕ) → root y words < q →
        (stamp_at y words p (1 - k) < stamp_at y words p k → ⊥) → 1 ≤ y.leaves →
        IsAhead y words p k (stamp_of value)
    ahead_of k live older some =
        let s = value_stamp in
        let h = phase_high y.form job p x in
        (omega (arith, live, phase, s, h), λ newer. absurd (older newer))

    module _ (k : ℕ) (two : k < 2) (early : Early)
        (ahead : 1 ≤ y.leaves → IsAhead y words p k (stamp_of value))
        (later : List ℕ) (only : Only y (Stored p k) value words later)
        (pair : IsPair y.form job (finished y words) (root y words) p (held y later (Stored p 0))
        (held y later (Stored p 1))) where
      up_stored : Up y words (Stored p k) (held y words (Stored p k)) value
      unfolding Early
      up_stored =
          let s = value_stamp in
          let e0 = early.0 in
          let e1 = early.1 in inr (omega (arith, s, e0), omega (arith, s, e1), ahead)

      grows_stored : Grows y words later
      grows_stored = only_grows y (Stored p k) value words later stands.sizes
          (place, two) up_stored only

      each_pair : (r : ℕ) → r < places_of y → IsPair y.form job (finished y words) (root y words) r
          (held y later (Stored r 0)) (held y later (Stored r 1))
      each_pair r place_r = elim (cases_eq r p) [
        | inl e ↦ subst (λ (r : ℕ). IsPair y.form job (finished y words) (root y words) r
            (held y later (Stored r 0)) (held y later (Stored r 1))) (sym e) pair
        | inr n ↦
            (let a = only.rest (Stored r 0) (place_r, lit< tt) (λ e. n (stored_same r 0 p k e)) in
            let b = only.rest (Stored r 1) (place_r, lit< tt) (λ e. n (stored_same r 1 p k e)) in
            subst (λ (w : ℕ).
            IsPair y.form job (finished y words) (root y words) r w (held y later (Stored r 1)))
            (sym a) (subst (λ (w : ℕ). IsPair y.form job (finished y words) (root y words) r
            (held y words (Stored r 0)) w) (sym b) (stands.lawful.stored r place_r)))
      ]
        where
          stored_same : (r j p k : ℕ) → Stored r j ≡ Stored p k → r ≡ p
          stored_same r j p k e = cc

      stored_lawful : Lawful job y later
      stored_lawful =
          set_lawful job y words later
          (Stored p k) value stands grows_stored only (λ m e. absurd (cc))
          (asked_if job y words later (Stored p k) value stands grows_stored only (λ m e.
          absurd (cc)) (λ compact i j proc part.
          only.rest (Asked i j) (compact, proc, part) (λ e. absurd (cc))))
          each_pair
          (claimed_if job y words later (Stored p k) value stands grows_stored only
          (λ m e. absurd (cc)) (λ c is. only.rest (Claim c) is (λ e. absurd (cc))))
          (λ c is. only.rest (Claim c) is (λ e. absurd (cc)))
          (named_if job y words later (Stored p k) value stands grows_stored only
          (λ m e. absurd (cc)) (only.rest Conflict tt (λ e. absurd (cc))))
          (full_if job y words later (Stored p k) value stands grows_stored only
          (λ m e. absurd (cc)) (only.rest Conflict tt (λ e. absurd (cc))))

    -- the first word is the older one
    first_does : (old : ℕ) →
        (held y words (Stored p 0) ≡ old → Early × (stamp_at y words p 0 ≤ stamp_at y words p 1)) →
        Does job y q (Swap (number_of y (Stored p 0)) old value) words
    unfolding Early
    first_does old stays = does_swap job y q (Stored p 0) old value words stands
        (place, lit< tt) range (λ h e. not_early h (stays e).0) (λ e.
        let s = stays e in
        let early : Early = s.0 in
        let e0 = early.0 in
        let e1 = early.1 in
        let st = value_stamp in
        let same = early_now early in
        let ahead = ahead_of 0 (live_of early) (λ newer. absurd
        (let h = s.1 in omega (arith, h, newer))) in (
          inr (omega (arith, st, e0), omega (arith, st, e1), ahead),
          λ later only. stored_lawful 0 (lit< tt) early ahead later only
              (subst (λ (w : ℕ). IsPair y.form job (finished y words) (root y words) p w
              (held y later (Stored p 1))) (sym only.at)
              (subst (λ (w : ℕ). IsPair y.form job (finished y words) (root y words) p value w)
              (sym (only.rest (Stored p 1) (place, lit< tt) (λ e. absurd (other_word p e))))
              (swapped_first y.form job (finished y words) (root y words) p _ _ value stands.limits
              (stands.lawful.stored p place) (omega arith) (omega arith) (new same) s.1))),
        ))
      where
        other_word : (p : ℕ) → Stored p 1 ≡ Stored p 0 → ⊥
        other_word p e = two_words 1 0 (word_same p 1 p 0 e) (omega arith)
          where
            word_same : (p k r j : ℕ) → Stored p k ≡ Stored r j → k ≡ j
            word_same p k r j e = cc

    second_does : (old : ℕ) →
        (held y words (Stored p 1) ≡ old → Early × (stamp_at y words p 1 < stamp_at y words p 0)) →
        Does job y q (Swap (number_of y (Stored p 1)) old value) words
    unfolding Early
    second_does old stays = does_swap job y q (Stored p 1) old value words stands
        (place, lit< tt) range (λ h e. not_early h (stays e).0) (λ e.
        let s = stays e in
        let early : Early = s.0 in
        let e0 = early.0 in
        let e1 = early.1 in
        let st = value_stamp in
        let same = early_now early in
        let ahead = ahead_of 1 (live_of early) (λ newer. absurd
        (let h = s.1 in omega (arith, h, newer))) in (
          inr (omega (arith, st, e0), omega (arith, st, e1), ahead),
          λ later only. stored_lawful 1 (lit< tt) early ahead later only
              (subst (λ (w : ℕ). IsPair y.form job (finished y words)
              (root y words) p (held y later (Stored p 0)) w) (sym only.at)
              (subst (λ (w : ℕ). IsPair y.form job (finished y words) (root y words) p w value)
              (sym (only.rest (Stored p 0) (place, lit< tt) (λ e. absurd (other_word p e))))
              (swapped_second y.form job (finished y words) (root y words) p _ _ value stands.limits
              (stands.lawful.stored p place) (omega arith) (omega arith) (new same) s.1))),
        ))
      where
        other_word : (p : ℕ) → Stored p 0 ≡ Stored p 1 → ⊥
        other_word p e = two_words 0 1 (word_same p 0 p 1 e) (omega arith)
          where
            word_same : (p k r j : ℕ) → Stored p k ≡ Stored r j → k ≡ j
            word_same p k r j e = cc

    pub stored_does : (a b : ℕ) → PlaceAsHeard job y x p a b words → Does job y q
        (Swap (number_of y (Stored p (older a b))) (older_word a b) (stamped_word (suc x) v)) words
    unfolding value Early
    stored_does a b as_heard = elim (cases_Bool (first_is_older a b)) [
      | inl e ↦ (let stays = as_heard.stands in
          rw e (first_does a (λ h. let s = (rw e at stays) h in ((s.0, s.1), leb-true _ _ s.2))))
      | inr e ↦ (let stays = as_heard.stands in
          rw e (second_does b (λ h. let s = (rw e at stays) h in ((s.0, s.1), leb-false _ _ s.2))))
    ]

  -- ---- a request word

  module _ (compact : y.form ≡ Compact) (i j : ℕ) (proc : i < y.procs) (part : j < 3)
      (phase : 3 * x + 1 ≡ q) where
    asked_value : ℕ
    asked_value = stamped_word (suc x) (part_after job x i j)

    asked_stamp : stamp_of asked_value ≡ suc x
    unfolding asked_value
    asked_stamp = let m = (part_most job y x i j a_board proc part).1 in omega arith

    asked_payload : payload_of asked_value ≡ part_after job x i j
    unfolding asked_value
    asked_payload = let m = (part_most job y x i j a_board proc part).1 in omega arith

    asked_range : IsStamped job.steps (most_asked y job j) asked_value
    asked_range =
        let s = asked_stamp in
        let l = asked_payload in
        let m = (part_most job y x i j a_board proc part).0 in (omega arith, omega arith)

    -- a request word of the step holds its part already
    asked_low : x < stamp_of (held y words (Asked i j)) → asked_value ≤ held y words (Asked i j)
    asked_low more =
        let s = asked_stamp in
        let l = asked_payload in elim (cases_eq (stamp_of (held y words (Asked i j))) (suc x)) [
          | inl e ↦ (let h = ((stands.lawful.asked compact i j proc part).part x e).1 in
              omega arith)
          | inr n ↦ omega arith
        ]

    asked_now : held y words (Asked i j) < asked_value → finished y words ≡ x
    asked_now less =
        let up = upward in
        let low = (stands.lawful.asked compact i j proc part).low in
        elim (cases_lt x (stamp_of (held y words (Asked i j)))) [
          | inl c ↦ absurd (let h = asked_low c in omega arith)
          | inr c ↦ omega arith
        ]

    new_asked : finished y words ≡ x → IsAsked job (finished y words) i j asked_value
    new_asked same =
        let s = asked_stamp in
        record {
          low = omega arith;
          high = omega arith;
          part = λ t e. let g : x ≡ t = omega arith in
              subst (λ (t : ℕ). IsReached job t × (payload_of asked_value ≡ part_after job t i j))
              g (floor.reached, asked_payload);
        }

    asked_lawful : held y words (Asked i j) < asked_value → (later : List ℕ) →
        Only y (Asked i j) asked_value words later → Lawful job y later
    asked_lawful less later only =
        let same = asked_now less in
        let up = only_grows y (Asked i j) asked_value words later stands.sizes
        (compact, proc, part) (omega arith) only in
        set_lawful job y words later (Asked i j) asked_value stands up only (λ m e. absurd (cc))
        (λ same_form k l proc_k part_l.
        elim (same_or_other y (Asked i j) (Asked k l) stands.sizes (compact, proc, part)
        (compact, proc_k, part_l)) [
          | inl e ↦ subst (λ (w : Word).
              IsAsked job (finished y words) (asked_proc w) (asked_part w) (held y later w))
              (sym e) (subst (IsAsked job (finished y words) i j) (sym only.at) (new_asked same))
          | inr n ↦ subst (IsAsked job (finished y words) k l)
              (sym (only.rest (Asked k l) (compact, proc_k, part_l) n))
              (stands.lawful.asked compact k l proc_k part_l)
        ])
        (stored_if job y words later (Asked i j) asked_value stands up only
        (λ m e. absurd (cc)) (λ p k is. only.rest (Stored p k) is (λ e. absurd (cc))))
        (claimed_if job y words later (Asked i j) asked_value stands up only
        (λ m e. absurd (cc)) (λ c is. only.rest (Claim c) is (λ e. absurd (cc))))
        (λ c is. only.rest (Claim c) is (λ e. absurd (cc)))
        (named_if job y words later (Asked i j) asked_value stands up only (λ m e. absurd (cc))
        (only.rest Conflict tt (λ e. absurd (cc))))
        (full_if job y words later (Asked i j) asked_value stands up only (λ m e. absurd (cc))
        (only.rest Conflict tt (λ e. absurd (cc))))
      where
        asked_proc : Word → ℕ
        asked_proc (Asked k l) = k
        asked_proc _ = 0

        asked_part : Word → ℕ
        asked_part (Asked k l) = l
        asked_part _ = 0

    pub asked_does : Does job y q
        (Max (number_of y (Asked i j)) (stamped_word (suc x) (part_after job x i j))) words
    unfolding asked_value
    asked_does = does_max job y q (Asked i j) asked_value words stands (compact, proc, part)
        asked_range
        (λ h. asked_low (facts_of.requests_raised compact x i j proc part (omega arith)))
        (λ less. (omega arith, asked_lawful less))
