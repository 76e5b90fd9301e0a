-- A node is raised to a phase.
use Rattle.std.proofs.Common.{◌≡◌, ◌≢◌, ◌⊎◌, ℕ, suc, ◌+◌, ◌*◌, ◌/◌, ◌%◌, ◌<◌, ◌≤◌, IsTrue, List}
use Rattle.std.proofs.Common.{max}
use Rattle.std.proofs.Common.{zero, refl}
use Rattle.std.proofs.Common.{sym}
use Rattle.std.specs.Prelude.{slice_set}
use Rattle.std.proofs.Common.{ap, subst, ◌∙◌, inl, inr, lit<, arith}
use Rattle.std.proofs.lemmas.Bool.{cases_eq, cases_lt, eq-eqb, ne_eqb}
use Rattle.pram_job.specs.Job.{JobData}
use Rattle.pram_job.specs.declared.instr.Rule.{Rule}
use Rattle.pram_job.specs.declared.instr.Rule.TheVariants.{Common, Priority, Crew}
use Rattle.pram_words.specs.declared.layout.Form.{Form}
use Rattle.pram_words.specs.declared.layout.Form.TheVariants.{Compact, Wide}
use Rattle.pram_words.specs.declared.phases.Kind.{Kind}
use Rattle.pram_words.specs.declared.phases.Kind.TheVariants.{Compute, Apply, Verify}
use Rattle.pram_words.specs.declared.words.Word.{Word}
use Rattle.pram_words.specs.declared.words.Word.TheVariants.{Conflict, Node, Asked, Position}
use Rattle.pram_words.specs.declared.words.Word.TheVariants.{Stored, Claim, Spare}
use Rattle.pram_words.specs.Stamps.{stamp_of}
use Rattle.pram_words.specs.Phases.{kind_at, step_at, has_phase, next_phase}
use Rattle.pram_words.specs.Words.{LayoutData, IsWord, number_of, places_of}
use Rattle.pram_words.proofs.NextPhases.{has_next, next_above, next_is, next_least, next_rises}
use Rattle.pram_words.proofs.NextPhases.{next_step, next_within}
use Rattle.walkx.specs.Operations.{words_after}
use Rattle.walkx.specs.declared.operation.Op.TheVariants.{Max, Swap}
use Rattle.walk_memory.specs.Blocks.{IsBoard}
use Rattle.walk_memory.proofs.Boards.{same_procs}
use Rattle.pram_step.specs.Runs.{AgreesAfter, state_after}
use Rattle.pram_step.proofs.LawPlaces.{writer_is}
use Rattle.lawful_walk.specs.Board.{held, root, conflict, leaf, leaf_of, stamp_at, finished, Grows}
use Rattle.lawful_walk.specs.Board.{IsAsked, phase_in, Done, DoneIn, IsTree, IsNamed, IsPair}
use Rattle.lawful_walk.specs.Board.{IsClaimed, LawfulFor, Lawful, LeafDone, Rests, Stands}
use Rattle.lawful_walk.specs.Board.{StoresNone}
use Rattle.lawful_walk.proofs.Frames.{Only, does_max, does_swap, max_less, max_more, only_grows}
use Rattle.lawful_walk.proofs.Frames.{only_set}
use Rattle.lawful_walk.proofs.Leaves.{leaf_word}
use Rattle.lawful_walk.specs.Lands.{last_landing}
use Rattle.lawful_walk.proofs.Landings.{before_most, last_most}
use Rattle.lawful_walk.specs.Moments.{IsFixed}
use Rattle.lawful_walk.specs.Writes.{Does, Floor, IsLeafMark, IsMark, MayJump, Marks}
use Rattle.lawful_walk.proofs.Values.{WordIs, is_settled, is_before, is_new}
use Rattle.lawful_walk.proofs.Facts.{done_of_rests, facts, stores_of_rests, word_is}
use Rattle.lawful_walk.proofs.Facts.{stamp_settled, stamp_before}
use Rattle.lawful_walk.proofs.Facts.{WordsShow}
use Rattle.lawful_walk.proofs.Keeping.{done_later, pair_up, claimed_up, settle}

pub kind_of : (x q : ℕ) (kind : Kind) → phase_in x kind ≡ q → kind_at q ≡ kind
kind_of x q Compute e =
    rw (ne_eqb (q % 3) 0 (λ n. omega arith), eq-eqb (q % 3) 1 (omega arith)) refl
kind_of x q Apply e =
    rw (ne_eqb (q % 3) 0 (λ n. omega arith), ne_eqb (q % 3) 1 (λ n. omega arith)) refl
kind_of x q Verify e = rw (eq-eqb (q % 3) 0 (omega arith)) refl

-- the wide form has nothing to do in the second phase of a step
no_apply : (g : ℕ) (job : JobData) (y : LayoutData) (s : ℕ) (words : List ℕ) (i : ℕ) (rule : Rule) →
    DoneIn (Wide g) rule Apply job y s words i
no_apply g job y s words i Common = tt
no_apply g job y s words i Priority = tt
no_apply g job y s words i Crew = tt

-- no stamp of a place is above the step after the finished ones
pub stamps_most : (job : JobData) (y : LayoutData) (words : List ℕ) → Stands job y words →
    (p k : ℕ) → IsWord y (Stored p k) → stamp_at y words p k ≤ suc (finished y words)
stamps_most job y words stands p k is = most_of (held y words (Stored p k)) refl
    (word_is job y words (finished y words) stands.limits stands.sizes stands.layout stands.lawful
    (facts job y words stands).root_low (facts job y words stands).root_high p k is)
  where
    most_of : (word : ℕ) → word ≡ held y words (Stored p k) →
        WordIs y.form job (finished y words) (root y words) p word →
        stamp_of word ≤ suc (finished y words)
    most_of word here (is_settled e) =
        let s = ap stamp_of e ∙ stamp_settled job y words (finished y words)
        stands.limits stands.sizes stands.layout stands.lawful (facts job y words stands).root_low
        (facts job y words stands).root_high (finished y words) p in
        let m = last_most y.form job stands.limits (finished y words) p in omega arith
    most_of word here (is_before e) =
        let s = ap stamp_of e ∙ stamp_before job y words (finished y words)
        stands.limits stands.sizes stands.layout stands.lawful (facts job y words stands).root_low
        (facts job y words stands).root_high (finished y words) p in
        let m = last_most y.form job stands.limits (finished y words) p in
        let k = before_most y.form job stands.limits
        (last_landing y.form job (finished y words) p) p in
        omega arith
    most_of word here (is_new n) = let s = n.stamp in omega arith

module _ (job : JobData) (y : LayoutData) (words : List ℕ) (q x : ℕ) (stands : Stands job y words)
    (some : 1 ≤ q) (most : q ≤ 3 * job.steps) (step : step_at q ≡ suc x)
    (floor : Floor job y q x words) where
  shown : WordsShow job y words
  shown = facts job y words stands

  pub finished_before : x ≤ finished y words
  finished_before =
      let l = floor.root in
      let begun = next_step y.form (root y words) x (omega arith) in
      shown.reached_finished x begun floor.reached

  pub alive : root y words < q → finished y words ≡ x
  alive e = let l = finished_before in let m = shown.root_low in omega arith

  -- then the phase is the next one
  pub next : root y words < q → next_phase y.form (root y words) ≡ q
  next e = next_is y.form (root y words) q floor.is_phase floor.root e

-- the first phase of a step
pub phase_first : (t : ℕ) (kind : Kind) → 3 * t + 1 ≤ phase_in t kind
phase_first t Compute = omega arith
phase_first t Apply = omega arith
phase_first t Verify = omega arith

-- the phases of a step are phases of the form, but for the second one in the wide form
has_first : (form : Form) (t : ℕ) → IsTrue (has_phase form (phase_in t Compute))
has_first Compact t = refl
has_first (Wide g) t =
    let n : (3 * t + 1) % 3 ≡ 2 → ⊥ = λ e. absurd (omega (arith, e)) in
    rw (ne_eqb ((3 * t + 1) % 3) 2 n) refl

has_last : (form : Form) (t : ℕ) → IsTrue (has_phase form (phase_in t Verify))
has_last Compact t = refl
has_last (Wide g) t =
    let n : (3 * t + 3) % 3 ≡ 2 → ⊥ = λ e. absurd (omega (arith, e)) in
    rw (ne_eqb ((3 * t + 3) % 3) 2 n) refl

-- so what is above the root and at most a phase that may come is that, or has nothing to do
coming_done : (job : JobData) (y : LayoutData) (words : List ℕ) (q : ℕ) (t : ℕ) (kind : Kind)
    (i : ℕ) → q ≤ next_phase y.form (root y words) → root y words < phase_in t kind →
    phase_in t kind ≤ q → (phase_in t kind ≡ q → Done job.rule kind job y t words i) →
    Done job.rule kind job y t words i
coming_done job y words q t Compute i floor above upto finish = finish
    (let a = next_least y.form (root y words) (phase_in t Compute) (has_first y.form t) above in
    omega (arith, a, floor, upto))
coming_done job y words q t Verify i floor above upto finish = finish
    (let a = next_least y.form (root y words) (phase_in t Verify) (has_last y.form t) above in
    omega (arith, a, floor, upto))
coming_done job y words q t Apply i floor above upto finish = by y.form refl
  where
    by : (form : Form) → y.form ≡ form → Done job.rule Apply job y t words i
    by Compact e = finish
        (let a = subst (λ (f : Form). q ≤ next_phase f (root y words)) e floor in
        omega (arith, a, above, upto))
    by (Wide g) e = subst (λ (f : Form). DoneIn f job.rule Apply job y t words i) (sym e)
        (no_apply g job y t words i job.rule)

-- ---- a node is raised: the root to the next phase, another node as high as it may be

module _ (job : JobData) (y : LayoutData) (words : List ℕ) (stands : Stands job y words) where
  seen : WordsShow job y words
  seen = facts job y words stands

  root_is : IsWord y (Node 1)
  root_is = (lit< tt, let l = stands.sizes.leaves in omega arith)

  module _ (n m : ℕ) (is : IsWord y (Node n)) (less : held y words (Node n) < m)
      (range : m ≤ 3 * job.steps) (live : n ≡ 1 → root y words < 3 * finished y words + 3)
      (high : y.form ≡ Compact → m ≤ root y words + 1)
      (children : n < y.leaves →
      (m ≤ held y words (Node (2 * n))) × (m ≤ held y words (Node (2 * n + 1))))
      (ready : (i : ℕ) (kind : Kind) → i < y.procs → n ≡ leaf_of y i →
      root y words < phase_in (finished y words) kind → phase_in (finished y words) kind ≤ m →
      Done job.rule kind job y (finished y words) words i)
      (rests : (i t : ℕ) (kind : Kind) → i < y.procs → n ≡ leaf_of y i →
      next_phase y.form (root y words) < phase_in t kind → phase_in t kind ≤ m →
      Rests y.form job.rule kind job t i)
      (one : n ≡ 1 → next_phase y.form (root y words) ≡ m)
      (later : List ℕ) (only : Only y (Node n) m words later) where
    up : Grows y words later
    up = only_grows y (Node n) m words later stands.sizes is (omega arith) only

    node_cases : (k : ℕ) → IsWord y (Node k) →
        (held y later (Node k) ≡ held y words (Node k)) ⊎ ((k ≡ n) × (held y later (Node k) ≡ m))
    node_cases k is_k = elim (cases_eq k n) [
      | inl e ↦ inr (e, subst (λ (k : ℕ). held y later (Node k) ≡ m) (sym e) only.at)
      | inr other ↦ inl (only.rest (Node k) is_k (λ e. other (node_same k n e)))
    ]
      where
        node_same : (k l : ℕ) → Node k ≡ Node l → k ≡ l
        node_same k l e = cc

    root_up : root y words ≤ root y later
    root_up = up (Node 1) root_is

    asked_same : y.form ≡ Compact → (i j : ℕ) → i < y.procs → j < 3 →
        held y later (Asked i j) ≡ held y words (Asked i j)
    asked_same compact i j proc part =
        only.rest (Asked i j) (compact, proc, part) (λ e. absurd (cc))

    stored_same : (p k : ℕ) → IsWord y (Stored p k) →
        held y later (Stored p k) ≡ held y words (Stored p k)
    stored_same p k is_p = only.rest (Stored p k) is_p (λ e. absurd (cc))

    claim_same : (c : ℕ) → IsWord y (Claim c) → held y later (Claim c) ≡ held y words (Claim c)
    claim_same c is_c = only.rest (Claim c) is_c (λ e. absurd (cc))

    conflict_same : conflict y later ≡ conflict y words
    conflict_same = only.rest Conflict tt (λ e. absurd (cc))

    tree : IsTree job y later
    tree = record {
      left = λ k low most. elim (node_cases k (low, omega arith)) [
        | inl e ↦ (let a = stands.lawful.tree.left k low most in
            let u = up (Node (2 * k)) (omega arith, omega arith) in omega arith)
        | inr e ↦ (let a = (children (let s = e.0 in omega arith)).0 in
            let u = up (Node (2 * n)) (let s = e.0 in (omega arith, omega arith)) in
            let h = e.1 in subst (λ (l : ℕ). held y later (Node k) ≤ held y later (Node (2 * l)))
            (sym e.0) (omega arith))
      ];
      right = λ k low most. elim (node_cases k (low, omega arith)) [
        | inl e ↦ (let a = stands.lawful.tree.right k low most in
            let u = up (Node (2 * k + 1)) (omega arith, omega arith) in omega arith)
        | inr e ↦ (let a = (children (let s = e.0 in omega arith)).1 in
            let u = up (Node (2 * n + 1)) (let s = e.0 in (omega arith, omega arith)) in
            let h = e.1 in
            subst (λ (l : ℕ). held y later (Node k) ≤ held y later (Node (2 * l + 1)))
            (sym e.0) (omega arith))
      ];
      near = λ compact k is_k. let r = root_up in elim (node_cases k is_k) [
        | inl e ↦ (let a = stands.lawful.tree.near compact k is_k in omega (arith, a, e, r))
        | inr e ↦ (let h = e.1 in let most = high compact in omega (arith, h, most, r))
      ];
      most = λ k is_k. elim (node_cases k is_k) [
        | inl e ↦ (let a = stands.lawful.tree.most k is_k in omega arith)
        | inr e ↦ (let h = e.1 in omega arith)
      ];
    }

    stamps : (p : ℕ) → p < places_of y → (stamp_at y later p 0 ≤ suc (finished y words))
        × (stamp_at y later p 1 ≤ suc (finished y words))
    stamps p place =
        let e = ap stamp_of (stored_same p 0 (place, lit< tt)) in
        let g = ap stamp_of (stored_same p 1 (place, lit< tt)) in
        let h = stamps_most job y words stands p 0 (place, lit< tt) in
        let k = stamps_most job y words stands p 1 (place, lit< tt) in
        (omega arith, omega arith)

    done_on : (i : ℕ) (kind : Kind) →
        i < y.procs → Done job.rule kind job y (finished y words) words i →
        Done job.rule kind job y (finished y words) later i
    done_on i kind proc d = done_later job y words later (finished y words) stands.limits
        stands.sizes stands.layout up stamps kind (λ e c is_c. claim_same c is_c) i proc d

    leaf_is : (i : ℕ) → i < y.procs → IsWord y (Node (leaf_of y i))
    leaf_is i proc = leaf_word y i stands.sizes proc

    -- the leaf that is raised: what it stands for is done, or was before
    done : (i : ℕ) (kind : Kind) →
        i < y.procs → phase_in (finished y words) kind ≤ leaf y later i →
        Done job.rule kind job y (finished y words) later i
    done i kind proc h = elim (node_cases (leaf_of y i) (leaf_is i proc)) [
      | inl e ↦ done_on i kind proc (stands.lawful.done i kind proc (omega arith))
      | inr e ↦ elim (cases_lt (root y words) (phase_in (finished y words) kind)) [
        | inr c ↦ done_on i kind proc
            (stands.lawful.done i kind proc
            (let l = seen.root_below (leaf_of y i) (leaf_is i proc) in omega arith))
        | inl c ↦ (let g = e.1 in
            done_on i kind proc (ready i kind proc (sym e.0) c (omega (arith, g, h))))
      ]
    ]

    ahead : (i t : ℕ) (kind : Kind) → i < y.procs →
        next_phase y.form (root y later) < phase_in t kind → phase_in t kind ≤ leaf y later i →
        Rests y.form job.rule kind job t i
    ahead i t kind proc next h =
        let r = next_rises y.form (root y words) (root y later) root_up in
        elim (node_cases (leaf_of y i) (leaf_is i proc)) [
          | inl e ↦ stands.lawful.ahead i t kind proc (omega (arith, r, next)) (omega (arith, e, h))
          | inr e ↦ rests i t kind proc (sym e.0) (omega (arith, r, next))
              (let g = e.1 in omega (arith, g, h))
        ]

    named : IsNamed y.form job (conflict y later) (root y later)
    named = record {
      first = λ s e. stands.lawful.named.first s (sym conflict_same ∙ e);
      near = λ s e. let c : conflict y words ≡ suc s = sym conflict_same ∙ e in
          elim (node_cases 1 root_is) [
            | inl r ↦ (elim (stands.lawful.named.near s c) [
              | inl h ↦ inl (ap (next_phase y.form) r ∙ h)
              | inr h ↦ inr (r ∙ h)
            ])
            | inr r ↦ (let g = r.1 in let next = one (sym r.0) in
                elim (stands.lawful.named.near s c) [
                  | inl h ↦ inr (g ∙ sym next ∙ h)
                  | inr h ↦ absurd (elim seen.conflict_next [
                    | inl none ↦ omega (arith, none, c)
                    | inr there ↦ (let open_step = live (sym r.0) in
                        omega (arith, there, c, h, open_step))
                  ])
                ])
          ];
    }

    lawful_for : LawfulFor job y (finished y words) later
    lawful_for = record {
      reached = stands.lawful.reached;
      tree = tree;
      asked = λ compact i j proc part. subst (IsAsked job (finished y words) i j)
          (sym (asked_same compact i j proc part)) (stands.lawful.asked compact i j proc part);
      stored =
          λ p place. pair_up y.form job (finished y words) (root y words)
          (root y later) p _ _ root_up (subst (λ (w : ℕ). IsPair y.form job (finished y words)
          (root y words) p w (held y later (Stored p 1))) (sym (stored_same p 0 (place, lit< tt)))
          (subst (λ (w : ℕ).
          IsPair y.form job (finished y words) (root y words) p (held y words (Stored p 0)) w)
          (sym (stored_same p 1 (place, lit< tt))) (stands.lawful.stored p place)));
      claimed =
          λ c is_c. claimed_up y.form job (finished y words) (root y words)
          (root y later) c _ root_up
          (subst (IsClaimed y.form job (finished y words) (root y words) c)
          (sym (claim_same c is_c)) (stands.lawful.claimed c is_c));
      done = done;
      ahead = ahead;
      named = named;
    }

    -- where the root comes to the end of the step, what leaves stand for in the next one
    next_done : root y later ≡ 3 * finished y words + 3 → conflict y later ≡ 0 → (i : ℕ)
        (kind : Kind) → i < y.procs → phase_in (suc (finished y words)) kind ≤ leaf y later i →
        Done job.rule kind job y (suc (finished y words)) later i
    next_done full none i kind proc h = elim (node_cases 1 root_is) [
      | inl e ↦ absurd (let c = seen.full_root (omega (arith, e, full)) in
          let u = conflict_same in omega (arith, c, u, none))
      | inr first ↦ over (sym first.0) first.1
    ]
      where
        over : n ≡ 1 → root y later ≡ m → Done job.rule kind job y (suc (finished y words)) later i
        over root_raised at = elim (node_cases (leaf_of y i) (leaf_is i proc)) [
          | inl e ↦ by y.form refl (omega (arith, e, h))
          | inr e ↦ absurd (let g = e.1 in let f = phase_first (suc (finished y words)) kind in
              omega (arith, g, f, h, at, full))
        ]
          where
            by : (form : Form) → y.form ≡ form →
                phase_in (suc (finished y words)) kind ≤ leaf y words i →
                Done job.rule kind job y (suc (finished y words)) later i
            by Compact compact l = absurd (
                let a = stands.lawful.tree.near compact (leaf_of y i) (leaf_is i proc) in
                let before = live root_raised in
                let f = phase_first (suc (finished y words)) kind in omega (arith, a, before, f, l))
            by (Wide g) wide l =
                let next = one root_raised in
                let f = phase_first (suc (finished y words)) kind in
                subst (λ (w : Form).
                DoneIn w job.rule kind job y (suc (finished y words)) later i) (sym wide)
                (done_of_rests g job.rule kind job y (suc (finished y words)) later i
                (stands.lawful.ahead i (suc (finished y words)) kind proc
                (omega (arith, next, at, full, f)) l))

    node_lawful : Lawful job y later
    node_lawful =
        let r = root_up in
        let low = seen.root_low in
        settle job y later (finished y words) stands.limits
        stands.sizes stands.layout lawful_for (omega (arith, r, low))
        (elim (node_cases 1 root_is) [
          | inl e ↦ (let h = seen.root_high in omega (arith, e, h))
          | inr e ↦ (let h = e.1 in
              let n = one (sym e.0) in
              let before = live (sym e.0) in
              let near = next_within y.form (root y words) (suc (finished y words))
              (omega (arith, before)) in omega (arith, h, n, near))
        ])
        next_done

-- ---- the root is raised over several phases at once, in the wide form: over one after the other

-- what has to be known of words of which the root is raised so high
record MayClimb (job : JobData) (y : LayoutData) (m : ℕ) (words : List ℕ) : Type 0 where
  stands : Stands job y words
  below : root y words < m
  live : root y words < 3 * finished y words + 3
  children : 1 < y.leaves → (m ≤ held y words (Node 2)) × (m ≤ held y words (Node 3))
  ready : (i : ℕ) (kind : Kind) → i < y.procs → 1 ≡ leaf_of y i →
      root y words < phase_in (finished y words) kind → phase_in (finished y words) kind ≤ m →
      Done job.rule kind job y (finished y words) words i
  rests : (i t : ℕ) (kind : Kind) → i < y.procs → 1 ≡ leaf_of y i →
      next_phase y.form (root y words) < phase_in t kind → phase_in t kind ≤ m →
      Rests y.form job.rule kind job t i
  silent : (i t : ℕ) → i < y.procs → finished y words ≤ t → 3 * t + 3 < m → StoresNone job t i

-- a step in which nobody stores agrees with the rule
silent_agrees : (job : JobData) (y : LayoutData) (t : ℕ) → IsBoard job y →
    ((i : ℕ) → i < y.procs → StoresNone job t i) → AgreesAfter job t
silent_agrees job y t board none = λ c i j clash.
    let below = (writer_is job (state_after job t) c i clash.value clash.writes.1).0 in
    let same = same_procs job y board in
    none i (omega (arith, below, same)) c clash.value clash.writes.1 clash.writes.0

module _ (job : JobData) (y : LayoutData) (g m : ℕ) (wide : y.form ≡ Wide g)
    (range : m ≤ 3 * job.steps) (formed : IsTrue (has_phase y.form m)) where
  -- one phase
  module _ (words : List ℕ) (may : MayClimb job y m words) where
    next_upto : (r : ℕ) → r < m → next_phase y.form r ≤ m
    next_upto r less = next_least y.form r m formed less

    to_formed : IsTrue (has_phase y.form (next_phase y.form (root y words)))
    to_formed = has_next y.form (root y words)

    step_lawful : (later : List ℕ) →
        Only y (Node 1) (next_phase y.form (root y words)) words later →
        Lawful job y later
    step_lawful later only =
        let above = (next_above y.form (root y words)).0 in
        let upto = next_upto (root y words) may.below in
        let near = next_within y.form (root y words) (suc (finished y words))
        (let l = may.live in omega (arith, l)) in
        node_lawful job y words may.stands 1 (next_phase y.form (root y words))
        (root_is job y words may.stands) above (omega (arith, upto, range))
        (λ first. may.live) (λ compact. absurd
        (let e : Compact ≡ Wide g = sym compact ∙ wide in cc))
        (λ inner. let h = may.children inner in let a = h.0 in let b = h.1 in
        (omega (arith, upto, a), omega (arith, upto, b)))
        (λ i kind proc leaf more most. may.ready i kind proc leaf more (omega (arith, most, upto)))
        (λ i t kind proc leaf over more. absurd (omega (arith, over, more)))
        (λ e. refl) later only

    climbed : List ℕ
    climbed = slice_set words (number_of y (Node 1)) (next_phase y.form (root y words))

    climbed_only : Only y (Node 1) (next_phase y.form (root y words)) words climbed
    unfolding climbed
    climbed_only = only_set y (Node 1) (next_phase y.form (root y words)) words may.stands.sizes
        may.stands.admitted.len (root_is job y words may.stands)

    climbed_stands : Stands job y climbed
    unfolding climbed
    climbed_stands =
        let above = (next_above y.form (root y words)).0 in
        let upto = next_upto (root y words) may.below in
        subst (Stands job y) (max_more words (number_of y (Node 1))
        (next_phase y.form (root y words)) above)
        (does_max job y (suc (root y words)) (Node 1) (next_phase y.form (root y words)) words
        may.stands (root_is job y words may.stands) (omega (arith, upto, range), to_formed)
        (λ h. absurd (omega (arith, h)))
        (λ less. (omega (arith, above), λ later only. step_lawful later only))).keeps.stands

    climbed_grows : Grows y words climbed
    climbed_grows =
        let above = (next_above y.form (root y words)).0 in
        only_grows y (Node 1) (next_phase y.form (root y words)) words climbed may.stands.sizes
        (root_is job y words may.stands) (omega (arith, above)) climbed_only

    -- the step that is then finished
    climbed_gone : (finished y climbed ≡ finished y words)
        ⊎ (finished y climbed ≡ suc (finished y words))
    climbed_gone =
        let at = climbed_only.at in
        let was = facts job y words may.stands in
        let now = facts job y climbed climbed_stands in
        let a = was.root_low in
        let b = now.root_low in
        let c = now.root_high in
        let above = (next_above y.form (root y words)).0 in
        let near = next_within y.form (root y words) (suc (finished y words))
        (let l = may.live in omega (arith, l)) in
        elim (cases_eq (finished y climbed) (finished y words)) [
          | inl e ↦ inl e
          | inr other ↦ inr (omega (arith, other, at, a, b, c, above, near))
        ]

    climbed_live : root y climbed < m → root y climbed < 3 * finished y climbed + 3
    climbed_live more =
        let at = climbed_only.at in
        let near = next_within y.form (root y words) (suc (finished y words))
        (let l = may.live in omega (arith, l)) in
        elim climbed_gone [
          | inr e ↦ omega (arith, at, near, e)
          | inl e ↦ elim (cases_eq (root y climbed) (3 * finished y words + 3)) [
            | inr other ↦ omega (arith, at, near, e, other)
            | inl full ↦ absurd (
                let c = (facts job y climbed climbed_stands).full_root (omega (arith, full, e)) in
                let u = climbed_stands.lawful.named.first (finished y climbed) c in
                u.1 (silent_agrees job y (finished y climbed) (is_board climbed_stands) (λ i proc.
                may.silent i (finished y climbed) proc (omega (arith, e))
                (omega (arith, full, e, more)))))
          ]
        ]
      where
        is_board : Stands job y climbed → IsBoard job y
        is_board st = record { limits = st.limits; layout = st.sizes; is = st.layout }

    climbed_climbs : root y climbed < m → MayClimb job y m climbed
    climbed_climbs more = record {
      stands = climbed_stands;
      below = more;
      live = climbed_live more;
      children = λ inner. let h = may.children inner in
          let a = h.0 in
          let b = h.1 in
          let c = climbed_grows (Node 2) (lit< tt, omega (arith, inner)) in
          let d = climbed_grows (Node 3) (lit< tt, omega (arith, inner)) in
          (omega (arith, a, c), omega (arith, b, d));
      ready = λ i kind proc leaf above most. subst
          (λ (f : Form). DoneIn f job.rule kind job y (finished y climbed) climbed i) (sym wide)
          (done_of_rests g job.rule kind job y (finished y climbed) climbed i
          (may.rests i (finished y climbed) kind proc leaf
          (let at = climbed_only.at in omega (arith, at, above)) most));
      rests = λ i t kind proc leaf over most.
          let at = climbed_only.at in
          let above = (next_above y.form (root y climbed)).0 in
          may.rests i t kind proc leaf (omega (arith, at, above, over)) most;
      silent = λ i t proc late most. may.silent i t proc (not_before t late) most;
    }
      where
        not_before : (t : ℕ) → finished y climbed ≤ t → finished y words ≤ t
        not_before t late = elim climbed_gone
            [ inl e ↦ omega (arith, e, late) | inr e ↦ omega (arith, e, late) ]

  climb : (fuel : ℕ) (words : List ℕ) → MayClimb job y m words → m ≤ root y words + fuel →
      (later : List ℕ) → Only y (Node 1) m words later → Lawful job y later
  climb zero words may few later only = absurd (let b = may.below in omega (arith, b, few))
  climb (suc fuel) words may few later only =
      elim (cases_eq (next_phase y.form (root y words)) m) [
        | inl e ↦ step_lawful words may later
            (subst (λ (k : ℕ). Only y (Node 1) k words later) (sym e) only)
        | inr other ↦ (
            let made = climbed_only words may in
            let at = made.at in
            let above = (next_above y.form (root y words)).0 in
            let upto = next_upto words may (root y words) may.below in
            let less : root y (climbed words may) < m = omega (arith, at, upto, other) in
            climb fuel (climbed words may) (climbed_climbs words may less)
            (omega (arith, at, above, few)) later (record {
              len = only.len ∙ sym made.len;
              at = only.at;
              rest = λ b is_b apart. only.rest b is_b apart ∙ sym (made.rest b is_b apart);
            }))
      ]

-- ---- a node is marked in a turn of a phase

-- a mark of the wide form is the only word that may change
fixed_other : (g : ℕ) (a : Word) (n : ℕ) → IsFixed (Wide g) a → a ≢ Node n
fixed_other g Conflict n fixed = λ e. absurd (cc)
fixed_other g (Node k) n fixed = absurd fixed
fixed_other g (Asked i j) n fixed = λ e. absurd (cc)
fixed_other g (Position w) n fixed = λ e. absurd (cc)
fixed_other g (Stored p k) n fixed = λ e. absurd (cc)
fixed_other g (Claim c) n fixed = λ e. absurd (cc)
fixed_other g (Spare k) n fixed = λ e. absurd (cc)

module _ (job : JobData) (y : LayoutData) (words : List ℕ) (q x : ℕ) (stands : Stands job y words)
    (some : 1 ≤ q) (most : q ≤ 3 * job.steps) (step : step_at q ≡ suc x)
    (floor : Floor job y q x words) (n m : ℕ) (is : IsWord y (Node n)) (mark : IsMark y q m)
    (range : m ≤ 3 * job.steps) where
  begun : x ≤ finished y words
  begun = finished_before job y words q x stands some most step floor

  -- before the mark of a step
  early : held y words (Node n) < m → m ≤ 3 * x + 3 → finished y words ≡ x
  early less last =
      let b = begun in
      let l = (facts job y words stands).root_low in
      let r = (facts job y words stands).root_below n is in
      omega (arith, b, l, r, less, last)

  -- in the compact form the mark is the next phase
  compact_next : y.form ≡ Compact → held y words (Node n) < m → next_phase y.form (root y words) ≡ m
  compact_next compact less =
      let same = mark.compact compact in
      let r = (facts job y words stands).root_below n is in
      next job y words q x stands some most step floor (omega (arith, same, r, less)) ∙ sym same

  still : (form : Form) → y.form ≡ form → q ≤ root y words → (a : Word) → IsWord y a →
      IsFixed form a →
      held y (words_after words (Max (number_of y (Node n)) m)) a ≡ held y words a
  still Compact e past a is_a fixed =
      let same = mark.compact e in
      let r = (facts job y words stands).root_below n is in
      ap (λ (l : List ℕ). held y l a)
      (max_less words (number_of y (Node n)) m (omega (arith, same, r, past)))
  still (Wide g) e past a is_a fixed =
      (only_set y (Node n) (max (held y words (Node n)) m) words stands.sizes stands.admitted.len
      is).rest a is_a (fixed_other g a n fixed)

  module _ (top : n ≡ 1 → m ≤ 3 * x + 3)
      (high : held y words (Node n) < m → y.form ≡ Compact → m ≤ root y words + 1)
      (children : n < y.leaves →
      (m ≤ held y words (Node (2 * n))) × (m ≤ held y words (Node (2 * n + 1))))
      (ready : held y words (Node n) < m → (i : ℕ) (kind : Kind) → i < y.procs → n ≡ leaf_of y i →
      root y words < phase_in (finished y words) kind → phase_in (finished y words) kind ≤ m →
      Done job.rule kind job y (finished y words) words i)
      (rests : (i t : ℕ) (kind : Kind) → i < y.procs → n ≡ leaf_of y i →
      next_phase y.form (root y words) < phase_in t kind → phase_in t kind ≤ m →
      Rests y.form job.rule kind job t i) where
    root_lawful : n ≡ 1 → held y words (Node n) < m → (later : List ℕ) →
        Only y (Node n) m words later → Lawful job y later
    root_lawful first less later only = by y.form refl
      where
        here : root y words < m
        here = let r = (facts job y words stands).root_below n is in omega (arith, r, less)

        same : finished y words ≡ x
        same = early less (top first)

        by : (form : Form) → y.form ≡ form → Lawful job y later
        by Compact e =
            let next = compact_next e less in
            node_lawful job y words stands n m is less range
            (λ one. let t = top first in omega (arith, here, same, t))
            (high less) children (ready less) rests (λ one. next) later only
        by (Wide g) e = climb job y g m e range mark.is_phase m words (record {
          stands = stands;
          below = here;
          live = (let t = top first in omega (arith, here, same, t));
          children = λ inner. subst (λ (k : ℕ). (m ≤ held y words (Node (2 * k)))
              × (m ≤ held y words (Node (2 * k + 1)))) first
              (children (omega (arith, first, inner)));
          ready = λ i kind proc leaf above most. ready less i kind proc (first ∙ leaf) above most;
          rests = λ i t kind proc leaf over upto. rests i t kind proc (first ∙ leaf) over upto;
          silent = λ i t proc late most. absurd (let t = top first in
              omega (arith, t, same, late, most));
        }) (omega arith) later (subst (λ (k : ℕ). Only y (Node k) m words later) first only)

    -- a node that is not the root may be as high as it will
    other_lawful : (n ≡ 1 → ⊥) → held y words (Node n) < m → (later : List ℕ) →
        Only y (Node n) m words later → Lawful job y later
    other_lawful other less later only =
        node_lawful job y words stands n m is less range (λ one. absurd (other one)) (high less)
        children (ready less) rests (λ one. absurd (other one)) later only

    marks_lawful : held y words (Node n) < m → (later : List ℕ) → Only y (Node n) m words later →
        Lawful job y later
    marks_lawful less later only = elim (cases_eq n 1) [
      | inl first ↦ root_lawful first less later only
      | inr other ↦ other_lawful other less later only
    ]

    pub node_marks : Marks job y q n m words
    node_marks = record {
      keeps = (does_max job y (suc (root y words)) (Node n) m words stands is (range, mark.is_phase)
          (λ h. absurd (omega arith))
          (λ less. (omega (arith, less), λ later only. marks_lawful less later only))).keeps;
      still = still y.form refl;
    }

module _ (job : JobData) (y : LayoutData) (words : List ℕ) (q x : ℕ) (stands : Stands job y words)
    (some : 1 ≤ q) (most : q ≤ 3 * job.steps) (step : step_at q ≡ suc x)
    (floor : Floor job y q x words) where
  -- an inner node
  pub inner_marks : (n m : ℕ) → 1 ≤ n → n < y.leaves → IsMark y q m → (n ≡ 1 → m ≤ 3 * x + 3) →
      m ≤ held y words (Node (2 * n)) → m ≤ held y words (Node (2 * n + 1)) →
      Marks job y q n m words
  inner_marks n m low high mark top left right =
      let child = stands.lawful.tree in
      let range = child.most (2 * n) (omega arith, omega arith) in
      node_marks job y words q x stands some most step floor n m (low, omega arith) mark
      (omega (arith, left, range)) top
      (λ less compact. let near = child.near compact (2 * n) (omega arith, omega arith) in
      omega (arith, left, near)) (λ inner. (left, right))
      (λ less i kind proc e. absurd (omega (arith, e, high)))
      (λ i t kind proc e. absurd (omega (arith, e, high)))

  -- a leaf whose processors' work is done
  module _ (n m : ℕ) (low : y.leaves ≤ n) (below : n < 2 * y.leaves)
      (leaf_mark : IsLeafMark job y q n m)
      (finish : root y words < q → LeafDone job y x (kind_at q) n words) where
    mark : IsMark y q m
    mark = leaf_mark.formed

    range : m ≤ 3 * job.steps
    range = leaf_mark.most

    is_leaf : IsWord y (Node n)
    is_leaf = let l = stands.sizes.leaves in (omega arith, below)

    reaches : held y words (Node n) < m → y.form ≡ Compact → m ≤ root y words + 1
    reaches less e =
        let c = compact_next job y words q x stands some most step floor n m is_leaf mark range e
        less in
        let d = subst (λ (f : Form). next_phase f (root y words) ≡ m) e c in omega (arith, d)

    rests_by : (i t : ℕ) (kind : Kind) → i < y.procs → n ≡ leaf_of y i →
        next_phase y.form (root y words) < phase_in t kind → phase_in t kind ≤ m →
        Rests y.form job.rule kind job t i
    rests_by i t kind proc leaf over upto = leaf_mark.rests i t kind proc (sym leaf)
        (let r = floor.root in omega (arith, r, over)) upto

    -- above the phase they rest, and up to it they have done their work
    ready_by : (i : ℕ) (kind : Kind) → i < y.procs → n ≡ leaf_of y i →
        root y words < phase_in (finished y words) kind → phase_in (finished y words) kind ≤ m →
        Done job.rule kind job y (finished y words) words i
    ready_by i kind proc leaf above upto = elim (cases_lt q (phase_in (finished y words) kind)) [
      | inl over ↦ resting y.form refl over
      | inr under ↦ coming_done job y words q (finished y words) kind i floor.root above under
          working
    ]
      where
        resting : (form : Form) → y.form ≡ form → q < phase_in (finished y words) kind →
            Done job.rule kind job y (finished y words) words i
        resting Compact e over = absurd (let same = mark.compact e in
            omega (arith, same, over, upto))
        resting (Wide g) e over =
            subst (λ (f : Form). DoneIn f job.rule kind job y (finished y words) words i) (sym e)
            (done_of_rests g job.rule kind job y (finished y words) words i
            (leaf_mark.rests i (finished y words) kind proc (sym leaf) over upto))

        working : phase_in (finished y words) kind ≡ q →
            Done job.rule kind job y (finished y words) words i
        working at =
            let live : root y words < q = omega (arith, at, above) in
            subst (λ (k : Kind). Done job.rule k job y (finished y words) words i)
            (kind_of (finished y words) q kind at)
            (subst (λ (s : ℕ). Done job.rule (kind_at q) job y s words i)
            (sym (alive job y words q x stands some most step floor live))
            (finish live i proc (sym leaf)))

    leaf_marks_upto : (n ≡ 1 → m ≤ 3 * x + 3) → Marks job y q n m words
    leaf_marks_upto top =
        node_marks job y words q x stands some most step floor n m is_leaf mark range top reaches
        (λ inner. absurd (omega (arith, inner, low))) (λ less. ready_by) rests_by

  -- ---- the root is raised over the step's end

  -- no node but the root is below a mark that both its children hold
  children_below : (fuel n m : ℕ) → n ≤ fuel → 2 ≤ n → n < 2 * y.leaves →
      m ≤ held y words (Node 2) → m ≤ held y words (Node 3) → m ≤ held y words (Node n)
  children_below zero n m few two high left right = absurd (omega (arith, few, two))
  children_below (suc fuel) n m few two high left right = elim (cases_eq n 2) [
    | inl e ↦ subst (λ (k : ℕ). m ≤ held y words (Node k)) (sym e) left
    | inr other ↦ elim (cases_eq n 3) [
      | inl e ↦ subst (λ (k : ℕ). m ≤ held y words (Node k)) (sym e) right
      | inr more ↦ (
          let up = children_below fuel (n / 2) m (omega (arith, few, two))
          (omega (arith, two, other, more))
          (omega (arith, high)) left right in
          elim (cases_eq n (2 * (n / 2))) [
            | inl e ↦ subst (λ (k : ℕ). m ≤ held y words (Node k)) (sym e)
                (let h = stands.lawful.tree.left (n / 2) (omega (arith, two))
                (omega (arith, high)) in
                omega (arith, up, h))
            | inr odd ↦ subst (λ (k : ℕ). m ≤ held y words (Node k))
                (let e : 2 * (n / 2) + 1 ≡ n = omega (arith, odd) in e)
                (let h = stands.lawful.tree.right (n / 2) (omega (arith, two))
                (omega (arith, high)) in
                omega (arith, up, h))
          ])
    ]
  ]

  pub leaf_marks : (n m : ℕ) → y.leaves ≤ n → n < 2 * y.leaves → IsLeafMark job y q n m →
      (n ≡ 1 → m ≤ 3 * x + 3) → (root y words < q → LeafDone job y x (kind_at q) n words) →
      Marks job y q n m words
  leaf_marks n m low below leaf_mark top finish =
      leaf_marks_upto n m low below leaf_mark finish top

  -- From where it stood as the first pass began. Both its children hold the mark, or it is a leaf
  -- of which the work is done.
  pub jump_does : (g m : ℕ) → y.form ≡ Wide g → q ≡ 3 * x + 1 → IsMark y q m →
      m ≤ 3 * job.steps → MayJump job y words q x m →
      Does job y q (Swap (number_of y (Node 1)) (3 * x) m) words
  jump_does g m wide phase mark range may =
      does_swap job y q (Node 1) (3 * x) m words stands root_at (range, mark.is_phase)
      (λ past e. absurd (omega (arith, past, e, phase)))
      (λ at. (
        (let l = mark.low in omega (arith, at, l, phase)),
        λ later only. climb job y g m wide range mark.is_phase m words (climbs at)
            (omega arith) later
            only,
      ))
    where
      root_at : IsWord y (Node 1)
      root_at = (lit< tt, let l = stands.sizes.leaves in omega arith)

      single : (i : ℕ) → 1 ≡ leaf_of y i → y.leaves ≤ 1
      single i one = omega (arith, one)

      same : held y words (Node 1) ≡ 3 * x → finished y words ≡ x
      same at =
          let f = finished_before job y words q x stands some most step floor in
          let low = (facts job y words stands).root_low in omega (arith, f, low, at)

      above : held y words (Node 1) ≡ 3 * x → held y words (Node 1) < m
      above at = let l = mark.low in omega (arith, at, l, phase)

      -- a leaf that is not the root holds the mark
      high_leaf : (i : ℕ) → i < y.procs → 1 < y.leaves → m ≤ leaf y words i
      high_leaf i proc inner =
          let there = leaf_word y i stands.sizes proc in
          let h = may.children inner in
          children_below (leaf_of y i) (leaf_of y i) m (omega arith) (omega (arith, inner)) there.1
          h.0 h.1

      silent_by : held y words (Node 1) ≡ 3 * x → (i t : ℕ) → i < y.procs →
          finished y words ≤ t → 3 * t + 3 < m → StoresNone job t i
      silent_by at i t proc late more =
          let f = same at in
          stores_of_rests y.form job.rule job t i (elim (cases_lt 1 y.leaves) [
            | inl inner ↦ (let h = high_leaf i proc inner in
                let near = (next_above y.form (root y words)).1 in
                stands.lawful.ahead i t Verify proc (omega (arith, near, at, f, late))
                (omega (arith, h, more)))
            | inr lone ↦ (let there = leaf_word y i stands.sizes proc in
                let l = stands.sizes.leaves in
                let one : leaf_of y i ≡ 1 = omega (arith, there.0, there.1, lone, l) in
                (may.leaf lone).rests i t Verify proc one (omega (arith, phase, f, late))
                (omega (arith, more)))
          ])

      climbs : held y words (Node 1) ≡ 3 * x → MayClimb job y m words
      climbs at = record {
        stands = stands;
        below = above at;
        live = (let f = same at in omega (arith, at, f));
        children = may.children;
        ready = λ i kind proc one over upto. let lone = single i one in
            ready_by 1 m lone (let l = stands.sizes.leaves in omega (arith, l)) (may.leaf lone)
            (may.done lone) i kind proc one over upto;
        rests = λ i t kind proc one over upto. let r = floor.root in
            (may.leaf (single i one)).rests i t kind proc (sym one) (omega (arith, r, over)) upto;
        silent = silent_by at;
      }
