-- The turns of a phase that are left, and what each kind of turn does to them.
use Rattle.std.proofs.Common.{◌≡◌, ℕ, zero, suc, ◌+◌, ◌*◌, ◌-◌, ◌/◌, ◌<◌, ◌≤◌}
use Rattle.std.proofs.Common.{Bool, true, false, if◌then◌else◌, nat_le, List}
use Rattle.std.proofs.Common.{refl, sym, ap, ◌∙◌, subst, inl, inr, arith}
use Rattle.std.proofs.lemmas.Bool.{cases_eq, cases_lt, eq-eqb, ne_eqb, le-leb, lt-leb}
use Rattle.std.proofs.lemmas.List.Sums.{sum_by-cons}
use Rattle.std.specs.List.{range_with_len, sum_by}
use Rattle.pram_words.specs.Words.{LayoutData, number_of}
use Rattle.pram_words.specs.declared.words.Word.TheVariants.{Node}
use Rattle.walkx.specs.declared.operation.Op.{Op}
use Rattle.walkx.specs.Bound.{low}
use Rattle.walkx.proofs.BoundWeight.{count, low_of, lies_on_way, tasks, tasks_at, turn_ops}
use Rattle.walkx.proofs.BoundWeight.{turns_at, turns_left, part_at, parts_left}
use Rattle.walkx.proofs.Forms.{form_wide_of}
use Rattle.walk_memory.specs.Blocks.{IsWide}
use Rattle.walkx.proofs.BoundWay.{own_way, not_below, way_up}

-- a sum of terms that are no greater is no greater
sum_at_most : (f g : ℕ → ℕ) (a n : ℕ) → ((m : ℕ) → a ≤ m → m < a + n → f m ≤ g m) →
    sum_by f (range_with_len a n) ≤ sum_by g (range_with_len a n)
sum_at_most f g a zero each = omega arith
sum_at_most f g a (suc n) each =
    let here = each a (omega arith) (omega arith) in
    let others = sum_at_most f g (a + 1) n (λ m from high. each m (omega arith) (omega arith)) in
    omega (
      arith,
      sum_by-cons f a (range_with_len (a + 1) n),
      sum_by-cons g a (range_with_len (a + 1) n),
    )

-- and less by so much, if one of them is
sum_gap : (f g : ℕ → ℕ) (a n j gap : ℕ) → ((m : ℕ) → a ≤ m → m < a + n → f m ≤ g m) → a ≤ j →
    j < a + n → f j + gap ≤ g j →
    sum_by f (range_with_len a n) + gap ≤ sum_by g (range_with_len a n)
sum_gap f g a zero j gap each from high less = absurd (omega arith)
sum_gap f g a (suc n) j gap each from high less = elim (cases_eq j a) [
  | inl e ↦ (let here : f a + gap ≤ g a = subst (λ (k : ℕ). f k + gap ≤ g k) e less in
      let others = sum_at_most f g (a + 1) n (λ m from high. each m (omega arith) (omega arith)) in
      omega (
        arith,
        sum_by-cons f a (range_with_len (a + 1) n),
        sum_by-cons g a (range_with_len (a + 1) n),
      ))
  | inr e ↦ (let here = each a (omega arith) (omega arith) in
      let others = sum_gap f g (a + 1) n j gap
      (λ m from high. each m (omega arith) (omega arith)) (omega arith) (omega arith) less in
      omega (
        arith,
        sum_by-cons f a (range_with_len (a + 1) n),
        sum_by-cons g a (range_with_len (a + 1) n),
      ))
]

-- ---- a node's turns

-- each of so many operations, and with tasks of so many
cost : ℕ → ℕ → ℕ → ℕ → Bool → ℕ
cost u more q shown on =
    if nat_le q shown then (if on then u else 0) else more + (if on then 2 * u else 3 * u)

cost_done : (u more q shown : ℕ) (on : Bool) → q ≤ shown →
    cost u more q shown on ≡ (if on then u else 0)
unfolding cost
cost_done u more q shown on h = rw (le-leb q shown h) refl

cost_unmarked : (u more q shown : ℕ) (on : Bool) → shown < q →
    cost u more q shown on ≡ more + (if on then 2 * u else 3 * u)
unfolding cost
cost_unmarked u more q shown on h = rw (lt-leb q shown h) refl

cost_falls : (u extra q less more : ℕ) (on : Bool) → less ≤ more →
    cost u extra q more on ≤ cost u extra q less on
cost_falls u extra q less more on h = elim (cases_lt more q) [
  | inl c ↦ rw (cost_unmarked u extra q more on c, cost_unmarked u extra q less on (omega arith))
      (omega arith)
  | inr c ↦ elim (cases_lt less q) [
    | inl d ↦ rw (cost_done u extra q more on c, cost_unmarked u extra q less on d) (flags on)
    | inr d ↦ rw (cost_done u extra q more on c, cost_done u extra q less on d) (omega arith)
  ]
]
  where
    flags : (b : Bool) → (if b then u else 0) ≤ extra + (if b then 2 * u else 3 * u)
    flags true = omega arith
    flags false = omega arith

turns_at-cost : (y : LayoutData) (history : List (Op × ℕ)) (q n m : ℕ) →
    turns_at y history q n m
    ≡ cost (turn_ops y) (tasks_at y m) q (low_of y history m) (lies_on_way n m n)
unfolding turns_at cost
turns_at-cost y history q n m = refl

-- at least as much is shown of each word
abbrev pub Grown : List (Op × ℕ) → List (Op × ℕ) → Type 0
Grown before history = (k : ℕ) → low before k ≤ low history k

-- where the way is the same, more being shown leaves no more turns
same_way : (y : LayoutData) (before history : List (Op × ℕ)) (q n p m : ℕ) → Grown before history →
    lies_on_way p m p ≡ lies_on_way n m n → turns_at y history q p m ≤ turns_at y before q n m
same_way y before history q n p m grown e =
    rw (turns_at-cost y history q p m, turns_at-cost y before q n m, e)
    (cost_falls (turn_ops y) (tasks_at y m) q (low_of y before m) (low_of y history m)
    (lies_on_way n m n) (grown (number_of y (Node m))))

-- ---- the turns left in the phase

-- A marked node leaves less.
pub marked_less : (y : LayoutData) (before history : List (Op × ℕ)) (q n : ℕ) →
    Grown before history → 1 ≤ n →
    n < 2 * y.leaves → low_of y before n < q → q ≤ low_of y history n →
    turns_left y history q n + turn_ops y ≤ turns_left y before q n
unfolding turns_left
marked_less y before history q n grown some inside unmarked done =
    sum_gap (turns_at y history q n) (turns_at y before q n) 1 (2 * y.leaves - 1) n (turn_ops y)
    (λ m from high. same_way y before history q n n m grown refl) some (omega arith)
    (rw (
      turns_at-cost y history q n n,
      turns_at-cost y before q n n,
      own_way n some,
      cost_done (turn_ops y) (tasks_at y n) q (low_of y history n) true done,
      cost_unmarked (turn_ops y) (tasks_at y n) q (low_of y before n) true unmarked,
    ) (omega arith))

-- A finished node that is left upward leaves less.
pub up_less : (y : LayoutData) (before history : List (Op × ℕ)) (q n : ℕ) →
    Grown before history → 1 < n → n < 2 * y.leaves → q ≤ low_of y history n →
    turns_left y history q (n / 2) + turn_ops y ≤ turns_left y before q n
unfolding turns_left
up_less y before history q n grown some inside done =
    sum_gap (turns_at y history q (n / 2))
    (turns_at y before q n) 1 (2 * y.leaves - 1) n u others (omega arith) (omega arith)
    (rw (
      turns_at-cost y history q (n / 2) n,
      turns_at-cost y before q n n,
      own_way n (omega arith),
      not_below (n / 2) n (n / 2) (omega arith),
      cost_done u (tasks_at y n) q (low_of y history n) false done,
    ) (on (tasks_at y n) q (low_of y before n)))
  where
    u : ℕ
    u = turn_ops y

    on : (more q shown : ℕ) → 0 + u ≤ cost u more q shown true
    on more q shown = elim (cases_lt shown q) [
      | inl c ↦ rw (cost_unmarked u more q shown true c) (omega arith)
      | inr c ↦ rw (cost_done u more q shown true c) (omega arith)
    ]

    others : (m : ℕ) → 1 ≤ m → m < 1 + (2 * y.leaves - 1) →
        turns_at y history q (n / 2) m ≤ turns_at y before q n m
    others m from high = elim (cases_eq m n) [
      | inl e ↦ rw (
        e,
        turns_at-cost y history q (n / 2) n,
        not_below (n / 2) n (n / 2) (omega arith),
        cost_done u (tasks_at y n) q (low_of y history n) false done,
      ) (omega arith)
      | inr e ↦
          same_way y before history q n (n / 2) m grown (sym (way_up n m (omega arith) from e))
    ]

-- An unfinished child that is entered leaves less.
pub down_less : (y : LayoutData) (before history : List (Op × ℕ)) (q n child : ℕ) →
    Grown before history → 1 ≤ n → child / 2 ≡ n →
    child < 2 * y.leaves → low_of y before child < q →
    turns_left y history q child + turn_ops y ≤ turns_left y before q n
unfolding turns_left
down_less y before history q n child grown some parent inside unmarked =
    sum_gap (turns_at y history q child) (turns_at y before q n) 1 (2 * y.leaves - 1) child u others
    (omega arith) (omega arith) (here (omega arith))
  where
    u : ℕ
    u = turn_ops y

    on : (more q shown : ℕ) → cost u more q shown true + u ≤ more + 3 * u
    on more q shown = elim (cases_lt shown q) [
      | inl c ↦ rw (cost_unmarked u more q shown true c) (omega arith)
      | inr c ↦ rw (cost_done u more q shown true c) (omega arith)
    ]

    here : n < child → turns_at y history q child child + u ≤ turns_at y before q n child
    here less = rw (
      turns_at-cost y history q child child,
      turns_at-cost y before q n child,
      own_way child (omega arith),
      not_below n child n less,
      cost_unmarked u (tasks_at y child) q (low_of y before child) false unmarked,
    ) (on (tasks_at y child) q (low_of y history child))

    others : (m : ℕ) → 1 ≤ m → m < 1 + (2 * y.leaves - 1) →
        turns_at y history q child m ≤ turns_at y before q n m
    others m from high = elim (cases_eq m child) [
      | inl e ↦ (let less : turns_at y history q child child + u ≤ turns_at y before q n child =
          here (omega arith) in rw e (omega arith))
      | inr e ↦ same_way y before history q n child m grown
          (way_up child m (omega arith) from e ∙ ap (λ k. lies_on_way k m k) parent)
    ]

-- ---- the scripts left in the midst of a block

part_at-other : (y : LayoutData) (history : List (Op × ℕ)) (q n rank m : ℕ) → (m ≡ n → ⊥) →
    part_at y history q n rank m ≡ turns_at y history q n m
unfolding part_at
part_at-other y history q n rank m ne = rw (ne_eqb m n ne) refl

part_at-here : (y : LayoutData) (history : List (Op × ℕ)) (q n rank : ℕ) →
    part_at y history q n rank n ≡ 2 * turn_ops y + 28 * (count y - rank)
unfolding part_at
part_at-here y history q n rank = rw (eq-eqb n n refl) refl

-- the tasks of a leaf in the wide form
wide_tasks : (y : LayoutData) (n : ℕ) → y.leaves ≤ n → IsWide y.form →
    tasks_at y n ≡ 28 * (count y + 1)
unfolding tasks_at
wide_tasks y n leaf wide =
    rw (le-leb y.leaves n leaf) (form_wide_of y.form 0 (28 * (count y + 1)) wide)

-- A block that is entered leaves less than the turn there.
pub enters_less : (y : LayoutData) (before history : List (Op × ℕ)) (q n : ℕ) →
    Grown before history → 1 ≤ n → y.leaves ≤ n → n < 2 * y.leaves → low_of y before n < q →
    IsWide y.form → parts_left y history q n 0 + 28 ≤ turns_left y before q n
unfolding turns_left parts_left
enters_less y before history q n grown some leaf inside unmarked wide =
    sum_gap (part_at y history q n 0) (turns_at y before q n) 1 (2 * y.leaves - 1) n 28
    others_fall some (omega arith) here
  where
    here : part_at y history q n 0 n + 28 ≤ turns_at y before q n n
    here = rw (
      part_at-here y history q n 0,
      turns_at-cost y before q n n,
      own_way n some,
      cost_unmarked (turn_ops y) (tasks_at y n) q (low_of y before n) true unmarked,
      wide_tasks y n leaf wide,
    ) (omega arith)

    others_fall : (m : ℕ) → 1 ≤ m → m < 1 + (2 * y.leaves - 1) →
        part_at y history q n 0 m ≤ turns_at y before q n m
    others_fall m from high = elim (cases_eq m n) [
      | inl e ↦ rw e (let h = here in omega arith)
      | inr e ↦
          rw (part_at-other y history q n 0 m e) (same_way y before history q n n m grown refl)
    ]

-- So does the task of each processor.
pub next_less : (y : LayoutData) (before history : List (Op × ℕ)) (q n rank : ℕ) →
    Grown before history → 1 ≤ n → n < 2 * y.leaves → rank < count y →
    parts_left y history q n (suc rank) + 28 ≤ parts_left y before q n rank
unfolding parts_left
next_less y before history q n rank grown some inside more =
    sum_gap (part_at y history q n (suc rank)) (part_at y before q n rank) 1 (2 * y.leaves - 1) n 28
    others_fall some (omega arith) here
  where
    here : part_at y history q n (suc rank) n + 28 ≤ part_at y before q n rank n
    here = rw (part_at-here y history q n (suc rank), part_at-here y before q n rank) (omega arith)

    others_fall : (m : ℕ) → 1 ≤ m → m < 1 + (2 * y.leaves - 1) →
        part_at y history q n (suc rank) m ≤ part_at y before q n rank m
    others_fall m from high = elim (cases_eq m n) [
      | inl e ↦ rw e (let h = here in omega arith)
      | inr e ↦ rw (part_at-other y history q n (suc rank) m e, part_at-other y before q n rank m e)
          (same_way y before history q n n m grown refl)
    ]

-- A later rank leaves no more.
pub rank_falls : (y : LayoutData) (history : List (Op × ℕ)) (q n rank later : ℕ) → rank ≤ later →
    parts_left y history q n later ≤ parts_left y history q n rank
unfolding parts_left
rank_falls y history q n rank later most =
    sum_at_most (part_at y history q n later) (part_at y history q n rank) 1 (2 * y.leaves - 1)
    (λ m from high. elim (cases_eq m n) [
      | inl e ↦ rw (e, part_at-here y history q n later, part_at-here y history q n rank)
          (omega arith)
      | inr e ↦ rw (part_at-other y history q n later m e, part_at-other y history q n rank m e)
          (omega arith)
    ])

-- And the mark after the last one.
pub last_less : (y : LayoutData) (before history : List (Op × ℕ)) (q n rank : ℕ) →
    Grown before history → 1 ≤ n → n < 2 * y.leaves → q ≤ low_of y history n →
    turns_left y history q n + turn_ops y ≤ parts_left y before q n rank
unfolding turns_left parts_left
last_less y before history q n rank grown some inside done =
    sum_gap (turns_at y history q n) (part_at y before q n rank) 1 (2 * y.leaves - 1) n (turn_ops y)
    others_fall some (omega arith) here
  where
    here : turns_at y history q n n + turn_ops y ≤ part_at y before q n rank n
    here = rw (
      part_at-here y before q n rank,
      turns_at-cost y history q n n,
      own_way n some,
      cost_done (turn_ops y) (tasks_at y n) q (low_of y history n) true done,
    ) (omega arith)

    others_fall : (m : ℕ) → 1 ≤ m → m < 1 + (2 * y.leaves - 1) →
        turns_at y history q n m ≤ part_at y before q n rank m
    others_fall m from high = elim (cases_eq m n) [
      | inl e ↦ rw e (let h = here in omega arith)
      | inr e ↦ rw (part_at-other y before q n rank m e)
          (same_way y before history q n n m grown refl)
    ]

-- ---- at most three turns for each node, and a leaf's tasks

sum_split : (f : ℕ → ℕ) (a n k : ℕ) → sum_by f (range_with_len a (n + k))
    ≡ sum_by f (range_with_len a n) + sum_by f (range_with_len (a + n) k)
sum_split f a zero k =
    let none : a + 0 ≡ a = omega arith in let all : 0 + k ≡ k = omega arith in
    rw (none, all) (omega arith)
sum_split f a (suc n) k =
    let next : suc n + k ≡ suc (n + k) = omega arith in
    let from : a + suc n ≡ a + 1 + n = omega arith in
    rw (next, from) (omega (
      arith,
      sum_by-cons f a (range_with_len (a + 1) (n + k)),
      sum_by-cons f a (range_with_len (a + 1) n),
      sum_split f (a + 1) n k,
    ))

sum_within : (f : ℕ → ℕ) (a n most : ℕ) → ((m : ℕ) → a ≤ m → m < a + n → f m ≤ most) →
    sum_by f (range_with_len a n) ≤ n * most
sum_within f a zero most each = omega arith
sum_within f a (suc n) most each =
    let here = each a (omega arith) (omega arith) in
    let others = sum_within f (a + 1) n most (λ m from high. each m (omega arith) (omega arith)) in
    omega (arith, sum_by-cons f a (range_with_len (a + 1) n))

cost_most : (u more q shown : ℕ) (on : Bool) → cost u more q shown on ≤ 3 * u + more
cost_most u more q shown on = elim (cases_lt shown q) [
  | inl c ↦ rw (cost_unmarked u more q shown on c) (flags on).1
  | inr c ↦ rw (cost_done u more q shown on c) (flags on).0
]
  where
    flags : (b : Bool) → ((if b then u else 0) ≤ 3 * u + more)
        × (more + (if b then 2 * u else 3 * u) ≤ 3 * u + more)
    flags true = (omega arith, omega arith)
    flags false = (omega arith, omega arith)

-- as many operations at most
abbrev pub most_ops : LayoutData → ℕ
most_ops y = (y.leaves - 1) * (3 * turn_ops y) + y.leaves * (3 * turn_ops y + tasks y)

-- the sum over the inner nodes, and over the leaves
nodes_most : (y : LayoutData) (f : ℕ → ℕ) → 1 ≤ y.leaves →
    ((m : ℕ) → f m ≤ 3 * turn_ops y + tasks_at y m) →
    sum_by f (range_with_len 1 (2 * y.leaves - 1)) ≤ most_ops y
nodes_most y f some each =
    let u = turn_ops y in
    let split : 2 * y.leaves - 1 ≡ (y.leaves - 1) + y.leaves = omega arith in
    let first : 1 + (y.leaves - 1) ≡ y.leaves = omega arith in
    let inner = sum_within f 1 (y.leaves - 1) (3 * u) (λ m from high.
    let e = inner_none m (omega arith) in let h = each m in omega arith) in
    let leaves = sum_within f y.leaves y.leaves (3 * u + tasks y) (λ m from high.
    let e = leaf_tasks m from in let h = each m in omega arith) in
    rw (split, sum_split f 1 (y.leaves - 1) y.leaves, first) (omega arith)
  where
    inner_none : (m : ℕ) → m < y.leaves → tasks_at y m ≡ 0
    inner_none m less = unfold tasks_at in rw (lt-leb y.leaves m less) refl

    leaf_tasks : (m : ℕ) → y.leaves ≤ m → tasks_at y m ≡ tasks y
    leaf_tasks m leaf = unfold tasks_at in rw (le-leb y.leaves m leaf) refl

pub turns_most : (y : LayoutData) (history : List (Op × ℕ)) (q n : ℕ) → 1 ≤ y.leaves →
    turns_left y history q n ≤ most_ops y
unfolding turns_left
turns_most y history q n some = nodes_most y (turns_at y history q n) some (λ m.
    rw (turns_at-cost y history q n m)
    (cost_most (turn_ops y) (tasks_at y m) q (low_of y history m) (lies_on_way n m n)))

pub parts_most : (y : LayoutData) (history : List (Op × ℕ)) (q n rank : ℕ) → 1 ≤ y.leaves →
    y.leaves ≤ n → IsWide y.form → parts_left y history q n rank ≤ most_ops y
unfolding parts_left
parts_most y history q n rank some leaf wide =
    nodes_most y (part_at y history q n rank) some (λ m.
    elim (cases_eq m n) [
      | inl e ↦ rw (e, part_at-here y history q n rank, wide_tasks y n leaf wide) (omega arith)
      | inr e ↦ rw (part_at-other y history q n rank m e, turns_at-cost y history q n m)
          (cost_most (turn_ops y) (tasks_at y m) q (low_of y history m) (lies_on_way n m n))
    ])
