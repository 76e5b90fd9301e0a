-- A turn has few operations and leaves less of the phase, or goes on to the next one.
use Rattle.std.proofs.Common.{◌≡◌, ℕ, suc, IsTrue, ◌+◌, ◌-◌, ◌*◌, ◌/◌, ◌<◌, ◌≤◌, ◌⊎◌, true≢false}
use Rattle.std.proofs.Common.{le_trans, true, false, ◌==◌, ◌&&◌, nat_le, if◌then◌else◌}
use Rattle.std.proofs.Common.{List, ◌∷◌, refl, sym, ◌∙◌, inl, inr, arith}
use Rattle.std.specs.Prelude.{min}
use Rattle.std.proofs.lemmas.Bool.{cases_lt, cond_both, le-leb, lt-leb}
use Rattle.std.proofs.lemmas.Bool.{eqb-true, eqb-false, leb-true, leb-false}
use Rattle.pram_job.specs.Job.{JobData}
use Rattle.pram_words.specs.Phases.{step_at, kind_at, has_phase}
use Rattle.pram_words.specs.Ways.{turns_right_in}
use Rattle.pram_words.specs.Words.{LayoutData, grain, number_of}
use Rattle.pram_words.specs.declared.words.Word.TheVariants.{Node, Position}
use Rattle.walkx.specs.declared.operation.Op.{Op}
use Rattle.walkx.specs.declared.operation.Op.TheVariants.{Load, Store, Max, Swap}
use Rattle.walkx.specs.Doing as doing
use Rattle.walkx.specs.Scripts.{asks, ends}
use Rattle.walkx.specs.Walk.{begins, turns, enters, worked, after_part, block_script, leaf_script}
use Rattle.walkx.specs.Walk.{marks_node, part_script, stands_at, Then, block_mark, empty_mark}
use Rattle.walkx.specs.Walk.{inner_mark, jumps, jumps_first, marks_inner, turn_script, way_down}
use Rattle.walk_memory.specs.Blocks.{has_rank, IsWide, processor_at, block_reach}
use Rattle.walk_memory.specs.declared.memo.Memo.{Memo}
use Rattle.walk_memory.specs.Memory.{at_start, memo_of}
use Rattle.pram_words.specs.declared.layout.Form.TheVariants.{Compact}
use Rattle.walkx.proofs.BoundWeight.{count, low_of, later_weight, parts_left, phases_weight}
use Rattle.walkx.proofs.BoundWeight.{turn_ops, turns_left}
use Rattle.walkx.proofs.Forms.{form_both, form_cases, form_compact, form_wide_of}
use Rattle.walk_memory.proofs.Ranks.{rank_parts}
use Rattle.walkx.proofs.Marks.{block_least, empty_marks, inner_least}
use Rattle.walkx.proofs.BoundTurns.{Grown, marked_less, up_less, down_less, enters_less, next_less}
use Rattle.walkx.proofs.BoundTurns.{last_less}
use Rattle.walkx.proofs.BoundPasses.{compact_within, form_within}
use Rattle.walkx.proofs.BoundScripts.{Leads, LeadsOn, leads_more, leads_on_within, grown_more}
use Rattle.walkx.proofs.BoundScripts.{InBlock, grown_self, low_loaded, low_raised, phases_fewer, To}

-- the phase is one of the form
abbrev pub Formed : LayoutData → ℕ → Type 0
Formed y q = IsTrue (has_phase y.form q)

-- ---- what a turn leads to

-- the weight that a turn may leave
turn_weight : JobData → LayoutData → List (Op × ℕ) → ℕ → ℕ → ℕ
turn_weight job y before n q = later_weight job y before n (doing.Turn q)

-- the next turn, at node m
turn_to : (job : JobData) (y : LayoutData) (before history : List (Op × ℕ)) (n m q : ℕ) →
    1 ≤ m → m < 2 * y.leaves → 1 ≤ q → q ≤ 3 * job.steps → Formed y q →
    turns_left y history q m + turn_ops y ≤ turns_left y before q n →
    To job y (turn_weight job y before n q) (turns m q) history
unfolding turn_weight later_weight
turn_to job y before history n m q some inside first last formed less =
    (some, inside, first, last, omega arith, formed)

-- the next phase, which begins at the root
next_to : (job : JobData) (y : LayoutData) (before history : List (Op × ℕ)) (n q : ℕ) →
    1 ≤ y.leaves → q ≤ low_of y history 1 →
    To job y (turn_weight job y before n q) (begins 1) history
unfolding turn_weight later_weight
next_to job y before history n q leaves done =
    let fewer =
    phases_fewer y (3 * job.steps - low_of y history 1) (3 * job.steps - q) (omega arith) in
    (omega arith, omega arith, omega arith)

-- ---- a node is marked

marks_leads : (job : JobData) (y : LayoutData) (w : ℕ) (before : List (Op × ℕ)) (n m q : ℕ) →
    1 ≤ n → n < 2 * y.leaves → 1 ≤ q → q ≤ 3 * job.steps → Formed y q → q ≤ m →
    low_of y before n < q →
    LeadsOn job y w (To job y (turn_weight job y before n q)) before 1 (marks_node y n m q)
marks_leads job y w before n m q some inside first last formed least unmarked = λ history grown. (
  omega arith,
  λ found may.
      let longer = grown_more before history (Max (number_of y (Node n)) m) found grown in
      let less = marked_less y before ((Max (number_of y (Node n)) m, found) ∷ history) q
      n longer some inside unmarked
      (le_trans least (low_raised history (number_of y (Node n)) m found)) in
      turn_to job y before ((Max (number_of y (Node n)) m, found) ∷ history)
      n n q some inside first last formed less,
)

-- with the swap before it, which shows nothing
raises_leads : (job : JobData) (y : LayoutData) (w : ℕ) (before history : List (Op × ℕ))
    (to : Then → List (Op × ℕ) → Type 0) (n m reach q k : ℕ) → 2 ≤ k → Grown before history →
    LeadsOn job y w to before 1 (marks_node y n m q) →
    Leads job y w to (jumps_first y n q reach (marks_node y n m q)) k history
raises_leads job y w before history to n m reach q k h grown marked =
    cond_both (jumps y n q reach) _ _ (λ script. Leads job y w to script k history)
    (λ e. (
      omega arith,
      λ found may.
          let op = Swap (number_of y (Node n)) (q - 1) reach in
          leads_more job y w to (marks_node y n m q) (k - 1) 1 ((op, found) ∷ history) (omega arith)
          (marked ((op, found) ∷ history) (grown_more before history op found grown)),
    ))
    (λ e. leads_more job y w to (marks_node y n m q) k 1 history (omega arith)
    (marked history grown))

-- ---- a leaf

-- the task at one in the compact form, and its mark
whole_leads : (job : JobData) (y : LayoutData) (w : ℕ) (before : List (Op × ℕ))
    (n q most : ℕ) → y.form ≡ Compact →
    LeadsOn job y w (To job y most) before 1 (marks_node y n q q) →
    LeadsOn job y w (To job y most) before 12 (part_script job y n q 0 at_start)
unfolding part_script
whole_leads job y w before n q most compact marked =
    let is = leads_on_within job y w (To job y most) before in
    compact_within (LeadsOn job y w (To job y most) before) is y 1 y.form job.rule (kind_at q) job
    (step_at q) (processor_at y n 0) at_start (after_part y n q 0) compact
    (rw (form_compact y.form (marks_node y n q q) (ends (worked n q 0 at_start)) compact) marked)

leaf_leads : (job : JobData) (y : LayoutData) (w : ℕ) (before : List (Op × ℕ)) (n q : ℕ) →
    1 ≤ n → y.leaves ≤ n → n < 2 * y.leaves → 1 ≤ q → q ≤ 3 * job.steps → Formed y q →
    low_of y before n < q →
    LeadsOn job y w (To job y (turn_weight job y before n q)) before (turn_ops y - 1)
    (leaf_script job y n q)
unfolding turn_weight later_weight
leaf_leads job y w before n q some leaf inside first last formed unmarked =
    let to = To job y (turn_weight job y before n q) in
    let is = leads_on_within job y w to before in
    let empty = empty_marks job y n q last formed in
    cond_both (has_rank y n 0) _ _ (λ script. LeadsOn job y w to before (turn_ops y - 1) script)
    (λ e. form_cases y.form (part_script job y n q 0 at_start) (ends (enters n q))
    (λ script. LeadsOn job y w to before (turn_ops y - 1) script)
    (λ compact. let ops : turn_ops y ≡ 16 = form_compact y.form 16 5 compact in
    is.more (turn_ops y - 1) 12 _ (omega arith)
    (whole_leads job y w before n q (turn_weight job y before n q) compact
    (marks_leads job y w before n q q some inside first last formed (omega arith) unmarked)))
    (λ wide history grown. entered job y before history n q grown some leaf inside first last
    formed unmarked wide))
    (λ e. is.more (turn_ops y - 1) 1 (marks_node y n (empty_mark job y n q) q)
    (form_both y.form 16 5 (λ u. 1 ≤ u - 1) (omega arith) (omega arith))
    (marks_leads job y w before n (empty_mark job y n q) q some inside first last formed empty.least
    unmarked))
  where
    entered : (job : JobData) (y : LayoutData) (before history : List (Op × ℕ)) (n q : ℕ) →
        Grown before history → 1 ≤ n → y.leaves ≤ n → n < 2 * y.leaves → 1 ≤ q →
        q ≤ 3 * job.steps → Formed y q → low_of y before n < q → IsWide y.form →
        To job y (turn_weight job y before n q) (enters n q) history
    entered job y before history n q grown some leaf inside first last formed unmarked wide =
        let less = enters_less y before history q n grown some leaf inside unmarked wide in (
          record {
            some = some;
            leaf = leaf;
            inside = inside;
            first = first;
            last = last;
            wide = wide;
            formed = formed;
          },
          omega arith,
        )

-- ---- in a block

-- the task of a processor, and the mark
pub block_leads : (job : JobData) (y : LayoutData) (w n q rank : ℕ) (memory : List Memo)
    (before : List (Op × ℕ)) → InBlock job y n q →
    Leads job y w (To job y (later_weight job y before n (doing.Part q rank)))
    (block_script job y n q rank memory) 28 before
unfolding part_script later_weight
block_leads job y w n q rank memory before at =
    let most = later_weight job y before n (doing.Part q rank) in
    let to = To job y most in
    let is = leads_on_within job y w to before in
    cond_both (has_rank y n rank) _ _ (λ script. Leads job y w to script 28 before)
    (λ there. form_within (LeadsOn job y w to before) is y 0 y.form job.rule (kind_at q) job
    (step_at q) (processor_at y n rank) (memo_of memory (processor_at y n rank))
    (after_part y n q rank)
    (λ m. rw (form_wide_of y.form (marks_node y n q q) (ends (worked n q rank m)) at.wide)
    (λ history grown. done job y before history n q rank grown at there)) before
    (grown_self before))
    (λ none. let m = block_mark job y n q memory in
    raises_leads job y w before before to n m (block_reach job y n q memory) q 28 (omega arith)
    (grown_self before) (λ history grown. (
      omega arith,
      λ found may. marked job y before
          ((Max (number_of y (Node n)) m, found) ∷ history) n q rank
          (grown_more before history (Max (number_of y (Node n)) m) found grown) at
          (le_trans (block_least job y n q memory)
          (low_raised history (number_of y (Node n)) m found)),
    )))
  where
    done : (job : JobData) (y : LayoutData) (before history : List (Op × ℕ)) (n q rank : ℕ) →
        Grown before history → InBlock job y n q → IsTrue (has_rank y n rank) →
        InBlock job y n q × (rank < grain y)
        × (2 + phases_weight y (3 * job.steps - q) + parts_left y history q n (suc rank) + 28
        ≤ 2 + phases_weight y (3 * job.steps - q) + parts_left y before q n rank)
    done job y before history n q rank grown at there =
        let h = rank_parts y n rank there in
        let few : rank < count y = omega (arith, h.0, h.1) in
        let less = next_less y before history q n rank grown at.some at.inside few in
        (at, h.0, omega arith)

    marked : (job : JobData) (y : LayoutData) (before history : List (Op × ℕ)) (n q rank : ℕ) →
        Grown before history → InBlock job y n q → q ≤ low_of y history n →
        To job y (2 + phases_weight y (3 * job.steps - q) + parts_left y before q n rank)
        (turns n q) history
    marked job y before history n q rank grown at done =
        let less = last_less y before history q n rank grown at.some at.inside done in
        (at.some, at.inside, at.first, at.last, omega arith, at.formed)

-- ---- another node is stood at

stands_leads : (job : JobData) (y : LayoutData) (w : ℕ)
    (before history : List (Op × ℕ)) (n m q k : ℕ) → 1 ≤ k →
    ((op : Op) (found : ℕ) →
    To job y (turn_weight job y before n q) (turns m q) ((op, found) ∷ history)) →
    Leads job y w (To job y (turn_weight job y before n q)) (stands_at y w m q) k history
stands_leads job y w before history n m q k h to =
    (h, λ found may. to (Store (number_of y (Position w)) m) found)

up_leads : (job : JobData) (y : LayoutData) (w : ℕ) (before history : List (Op × ℕ)) (n q k : ℕ) →
    Grown before history → 1 < n →
    n < 2 * y.leaves → 1 ≤ q → q ≤ 3 * job.steps → Formed y q → q ≤ low_of y history n → 1 ≤ k →
    Leads job y w (To job y (turn_weight job y before n q)) (stands_at y w (n / 2) q) k history
up_leads job y w before history n q k grown some inside first last formed done h =
    stands_leads job y w before history n (n / 2) q k h (λ op found.
    turn_to job y before ((op, found) ∷ history) n (n / 2) q (omega arith) (omega arith) first last
    formed (up_less y before ((op, found) ∷ history) q n
    (grown_more before history op found grown) some inside (omega arith)))

-- the child that is entered is an unfinished one
IsWayDown : ℕ → ℕ → ℕ → ℕ → ℕ → Type 0
IsWayDown n q l r child = ((child ≡ 2 * n) × (l < q)) ⊎ ((child ≡ 2 * n + 1) × (r < q))

way_down_is : (y : LayoutData) (w n q l r : ℕ) → (nat_le q l && nat_le q r) ≡ false →
    IsWayDown n q l r (way_down y w n q l r)
unfolding IsWayDown
way_down_is y w n q l r some = elim (cases_lt l q) [
  | inl a ↦ elim (cases_lt r q) [
    | inl b ↦ rw (lt-leb q l a, lt-leb q r b) (cond_both (turns_right_in y w n)
        (2 * n + 1) (2 * n) (λ c. ((c ≡ 2 * n) × (l < q)) ⊎ ((c ≡ 2 * n + 1) × (r < q)))
        (λ e. inr (refl, b)) (λ e. inl (refl, a)))
    | inr b ↦ rw (lt-leb q l a, le-leb q r b) (inl (refl, a))
  ]
  | inr a ↦ elim (cases_lt r q) [
    | inl b ↦ rw (le-leb q l a) (inr (refl, b))
    | inr b ↦ absurd (let both : (nat_le q l && nat_le q r) ≡ true =
        rw (le-leb q l a, le-leb q r b) refl in true≢false (sym both ∙ some))
  ]
]

down_leads : (job : JobData) (y : LayoutData)
    (w : ℕ) (before history : List (Op × ℕ)) (n q l r child k : ℕ) →
    Grown before history → 1 ≤ n → n < y.leaves → 1 ≤ q → q ≤ 3 * job.steps → Formed y q →
    low_of y before (2 * n) ≤ l → low_of y before (2 * n + 1) ≤ r →
    IsWayDown n q l r child → 1 ≤ k →
    Leads job y w (To job y (turn_weight job y before n q)) (stands_at y w child q) k history
unfolding IsWayDown
down_leads job y w before history n q l r child k grown some inner first last formed left right way
    h =
    stands_leads job y w before history n child q k h (λ op found. elim way [
      | inl c ↦ to op found child (omega arith) (omega arith) (rw c.0 (omega arith))
      | inr c ↦ to op found child (omega arith) (omega arith) (rw c.0 (omega arith))
    ])
  where
    to : (op : Op) (found m : ℕ) → m / 2 ≡ n → m < 2 * y.leaves → low_of y before m < q →
        To job y (turn_weight job y before n q) (turns m q) ((op, found) ∷ history)
    to op found m parent inside unmarked =
        turn_to job y before ((op, found) ∷ history) n m q (omega arith) inside first last formed
        (down_less y before ((op, found) ∷ history) q n m
        (grown_more before history op found grown) some parent inside unmarked)

-- ---- the turn

-- a turn has five operations at least
ops_some : (y : LayoutData) → 2 ≤ turn_ops y - 3
ops_some y = form_both y.form 16 5 (λ u. 2 ≤ u - 3) (omega arith) (omega arith)

-- what an inner node's children lead to, having been heard
inner_leads : (job : JobData) (y : LayoutData) (w : ℕ)
    (before history : List (Op × ℕ)) (n q l r : ℕ) → Grown before history →
    1 ≤ n → n < y.leaves → 1 ≤ q → q ≤ 3 * job.steps → Formed y q → low_of y before n < q →
    low_of y before (2 * n) ≤ l → low_of y before (2 * n + 1) ≤ r →
    Leads job y w (To job y (turn_weight job y before n q))
    (if nat_le q l && nat_le q r then marks_inner y n q l r
    else stands_at y w (way_down y w n q l r) q) (turn_ops y - 3) history
inner_leads job y w before history n q l r grown some inner first last formed unmarked left right =
    let to = To job y (turn_weight job y before n q) in
    cond_both (nat_le q l && nat_le q r) _ _
    (λ script. Leads job y w to script (turn_ops y - 3) history)
    (λ e. let m = inner_mark y n q l r in
    raises_leads job y w before history to n m (min l r) q (turn_ops y - 3) (ops_some y) grown
    (marks_leads job y w before n m q some (omega arith) first last formed
    (inner_least y n q l r e) unmarked))
    (λ e. down_leads job y w before history n q l r (way_down y w n q l r) (turn_ops y - 3) grown
    some inner first last formed left right (way_down_is y w n q l r e)
    (omega (arith, ops_some y)))

-- what an unfinished node leads to
unfinished_leads : (job : JobData) (y : LayoutData)
    (w : ℕ) (before history : List (Op × ℕ)) (n q : ℕ) → Grown before history →
    1 ≤ n → n < 2 * y.leaves → 1 ≤ q → q ≤ 3 * job.steps → Formed y q → low_of y before n < q →
    Leads job y w (To job y (turn_weight job y before n q))
    (if nat_le y.leaves n then leaf_script job y n q
    else asks (Load (number_of y (Node (2 * n))))
    (λ l. asks (Load (number_of y (Node (2 * n + 1)))) (λ r.
    if nat_le q l && nat_le q r then marks_inner y n q l r
    else stands_at y w (way_down y w n q l r) q))) (turn_ops y - 1) history
unfinished_leads job y w before history n q grown some inside first last formed unmarked =
    let to = To job y (turn_weight job y before n q) in
    let ops = ops_some y in
    cond_both (nat_le y.leaves n) _ _ (λ script. Leads job y w to script (turn_ops y - 1) history)
    (λ e. leaf_leads job y w before n q some (leb-true y.leaves n e) inside first last
    formed unmarked history grown)
    (λ e. let inner = leb-false y.leaves n e in (
      omega arith,
      λ l may.
          let left = may.rises (2 * n) (omega arith) (omega arith) refl in
          let more = grown_more before history (Load (number_of y (Node (2 * n)))) l grown in (
            omega (arith, ops),
            λ r told.
                let right = told.rises (2 * n + 1) (omega arith) (omega arith) refl in
                let one = grown (number_of y (Node (2 * n))) in
                let other = more (number_of y (Node (2 * n + 1))) in
                let longer : List (Op × ℕ) = (Load (number_of y (Node (2 * n + 1))), r)
                ∷ (Load (number_of y (Node (2 * n))), l) ∷ history in
                leads_more job y w to _ (turn_ops y - 1 - 1 - 1) (turn_ops y - 3) longer
                (omega arith)
                (inner_leads job y w before longer n q l r
                (grown_more before ((Load (number_of y (Node (2 * n))), l) ∷ history)
                (Load (number_of y (Node (2 * n + 1)))) r more)
                some inner first last formed unmarked (omega arith) (omega arith)),
          ),
    ))

-- what a finished node leads to
finished_leads : (job : JobData) (y : LayoutData)
    (w : ℕ) (before history : List (Op × ℕ)) (n q : ℕ) → Grown before history →
    1 ≤ n → n < 2 * y.leaves → 1 ≤ q → q ≤ 3 * job.steps → Formed y q → q ≤ low_of y history n →
    Leads job y w (To job y (turn_weight job y before n q))
    (if n == 1 then ends (begins 1) else stands_at y w (n / 2) q) (turn_ops y - 1) history
finished_leads job y w before history n q grown some inside first last formed done =
    let to = To job y (turn_weight job y before n q) in
    let ops = ops_some y in
    cond_both (n == 1) _ _ (λ script. Leads job y w to script (turn_ops y - 1) history)
    (λ e. let root : 1 ≡ n = sym (eqb-true n 1 e) in
    next_to job y before history n q (omega arith) (rw root done))
    (λ e. let other = eqb-false n 1 e in
    up_leads job y w before history n q (turn_ops y - 1) grown (omega arith) inside first last
    formed done (omega arith))

pub turn_leads : (job : JobData) (y : LayoutData) (w n q : ℕ) (before : List (Op × ℕ)) →
    1 ≤ n → n < 2 * y.leaves → 1 ≤ q → q ≤ 3 * job.steps → Formed y q →
    Leads job y w (To job y (later_weight job y before n (doing.Turn q)))
    (turn_script job y w n q) (turn_ops y) before
unfolding turn_script turn_weight
turn_leads job y w n q before some inside first last formed = (
  omega (arith, ops_some y),
  λ found may.
      let to = To job y (turn_weight job y before n q) in
      let history : List (Op × ℕ) = (Load (number_of y (Node n)), found) ∷ before in
      let grown : Grown before history =
      grown_more before before (Load (number_of y (Node n))) found (grown_self before) in
      let rises = may.rises n some inside refl in
      let shows = low_loaded before (number_of y (Node n)) found in
      cond_both (nat_le q found) _ _ (λ script. Leads job y w to script (turn_ops y - 1) history)
      (λ e. let done = leb-true q found e in
      finished_leads job y w before history n q grown some inside first last formed
      (le_trans done shows))
      (λ e. let short = leb-false q found e in
      unfinished_leads job y w before history n q grown some inside first last formed
      (omega arith)),
)
