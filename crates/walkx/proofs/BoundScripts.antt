-- What each script of a worker leads to, and that its operations are few.
use Rattle.std.proofs.Common.{suc, ◌≡◌, ℕ, ◌+◌, ◌-◌, ◌*◌, ◌%◌, ◌<◌, ◌≤◌, ◌==◌, IsTrue, List, ◌∷◌}
use Rattle.std.proofs.Common.{refl, inl, inr, add-mul, mul-le-mul_right, arith}
use Rattle.std.proofs.Math.Nat.{mul-add}
use Rattle.std.proofs.lemmas.Bool.{cases_lt, cond_both, eq-eqb, eqb-false}
use Rattle.pram_job.specs.Job.{JobData}
use Rattle.pram_words.specs.Tree.{leaves_of}
use Rattle.pram_words.specs.Words.{LayoutData, IsLayout, grain, number_of}
use Rattle.pram_words.proofs.Blocks.{tasks_fit}
use Rattle.pram_words.proofs.NextPhases.{has_next, next_above, next_within}
use Rattle.pram_words.proofs.Numbering.{cases_form}
use Rattle.pram_words.specs.Phases.{has_phase, next_phase}
use Rattle.pram_words.specs.declared.words.Word.TheVariants.{Conflict, Node, Position}
use Rattle.walkx.specs.declared.operation.Op.{Op}
use Rattle.walkx.specs.declared.operation.Op.TheVariants.{Load, Max}
use Rattle.walkx.specs.Doing as doing
use Rattle.walkx.specs.Scripts.{Script, asks, ends}
use Rattle.walkx.specs.Walk.{Then, begins, turns, enters, worked, stops, back_script, begin_script}
use Rattle.walk_memory.specs.Blocks.{IsWide}
use Rattle.walkx.proofs.Forms.{form_both, form_wide_of}
use Rattle.walkx.specs.Bound.{low, MayHear}
use Rattle.walkx.proofs.BoundWeight.{count, low_of, phases_weight, later_weight, tasks, turn_ops}
use Rattle.walkx.proofs.BoundTurns.{Grown, most_ops, parts_most, turns_most}
use Rattle.walkx.proofs.BoundTasks.{IsWithin}

-- A script with at most so many operations leads, after each history that may be heard, to what is
-- said of its end.
abbrev pub Leads : JobData → LayoutData → ℕ → (Then → List (Op × ℕ) → Type 0) →
    Script Then → ℕ → List (Op × ℕ) → Type 0
Leads job y w to (asks op next) k history = (1 ≤ k) × ((found : ℕ) → MayHear job y w history op
    found → Leads job y w to (next found) (k - 1) ((op, found) ∷ history))
Leads job y w to (ends r) k history = to r history

pub leads_more : (job : JobData) (y : LayoutData) (w : ℕ) (to : Then → List (Op × ℕ) → Type 0)
    (script : Script Then) (j k : ℕ) (history : List (Op × ℕ)) → k ≤ j →
    Leads job y w to script k history → Leads job y w to script j history
leads_more job y w to (asks op next) j k history h leads = (
  omega (arith, leads.0),
  λ found may. leads_more job y w to
      (next found) (j - 1) (k - 1) ((op, found) ∷ history) (omega arith) (leads.1 found may),
)
leads_more job y w to (ends r) j k history h leads = leads

-- ---- a script that leads so after each longer history

abbrev pub LeadsOn : JobData → LayoutData → ℕ → (Then → List (Op × ℕ) → Type 0) →
    List (Op × ℕ) → ℕ → Script Then → Type 0
LeadsOn job y w to before k script =
    (history : List (Op × ℕ)) → Grown before history → Leads job y w to script k history

pub grown_more : (before history : List (Op × ℕ)) (op : Op) (found : ℕ) → Grown before history →
    Grown before ((op, found) ∷ history)
grown_more before history op found grown = λ k. let h = grown k in omega arith

pub leads_on_within : (job : JobData) (y : LayoutData) (w : ℕ) (to : Then → List (Op × ℕ) → Type 0)
    (before : List (Op × ℕ)) → IsWithin (LeadsOn job y w to before)
leads_on_within job y w to before = record {
  step = λ j k op next h each history grown. (
    omega arith,
    λ found may.
        leads_more job y w to (next found) (j - 1) k ((op, found) ∷ history) (omega arith)
        (each found ((op, found) ∷ history) (grown_more before history op found grown)),
  );
  more = λ j k script h leads history grown.
      leads_more job y w to script j k history h (leads history grown);
}

-- a worker in the block of a leaf, in the wide form
pub record InBlock (job : JobData) (y : LayoutData) (n q : ℕ) : Type 0 where
  pub some : 1 ≤ n
  pub leaf : y.leaves ≤ n
  pub inside : n < 2 * y.leaves
  pub first : 1 ≤ q
  pub last : q ≤ 3 * job.steps
  pub wide : IsWide y.form
  pub formed : IsTrue (has_phase y.form q)

-- ---- what a script leads to: a worker on a node of the tree in a phase of the job, with no more
-- weight than this

abbrev pub To : JobData → LayoutData → ℕ → Then → List (Op × ℕ) → Type 0
To job y most (begins n) history =
    (1 ≤ n) × (n < 2 * y.leaves) × (later_weight job y history n doing.Begin + 2 ≤ most)
To job y most (turns n q) history = (1 ≤ n) × (n < 2 * y.leaves) × (1 ≤ q) × (q ≤ 3 * job.steps)
    × (later_weight job y history n (doing.Turn q) + turn_ops y ≤ most)
    × IsTrue (has_phase y.form q)
To job y most (enters n q) history = InBlock job y n q
    × (later_weight job y history n (doing.Part q 0) + 28 ≤ most)
To job y most (worked n q rank memo) history = InBlock job y n q × (rank < grain y)
    × (later_weight job y history n (doing.Part q (suc rank)) + 28 ≤ most)
To job y most (stops e) history = Unit {0}

-- ---- weights of phases

-- the operations of a phase
ops_few : (y : LayoutData) → IsLayout y → most_ops y + 25 ≤ 96 * leaves_of y.procs
ops_few y limits =
    let few = tasks_fit y limits in
    let some = limits.leaves.0 in
    let spread : y.leaves * (28 * (count y + 1)) ≡ 28 * (y.leaves * count y) + 28 * y.leaves =
    grind (arith, mul-add y.leaves (28 * count y) 28) in
    let split : y.leaves * (12 + 28 * (count y + 1))
    ≡ y.leaves * 12 + y.leaves * (28 * (count y + 1)) =
    mul-add y.leaves 12 (28 * (count y + 1)) in
    elim (cases_form y.form) [
      | inl e ↦ rw e (omega (arith, few.0, some))
      | inr e ↦
          let wide : IsWide y.form = rw e.1 tt in
          let ops : turn_ops y ≡ 5 = form_wide_of y.form 16 5 wide in
          let each : tasks y ≡ 28 * (count y + 1) =
          form_wide_of y.form 0 (28 * (count y + 1)) wide in
          rw (ops, each) (omega (arith, few.0, few.1, some, spread, split))
    ]

pub phases_fewer : (y : LayoutData) (a b : ℕ) → a ≤ b → phases_weight y a ≤ phases_weight y b
phases_fewer y a b h = mul-le-mul_right (96 * leaves_of y.procs) h

-- A phase that begins weighs less than the phases from it on.
pub phase_enters : (job : JobData) (y : LayoutData) (history : List (Op × ℕ)) (n q a : ℕ) →
    IsLayout y → 3 * job.steps - q + 1 ≤ a →
    later_weight job y history n (doing.Turn q) + turn_ops y + 1 ≤ phases_weight y a
unfolding later_weight
phase_enters job y history n q a limits h =
    let turns = turns_most y history q n limits.leaves.0 in
    let few = ops_few y limits in
    let ops : turn_ops y ≤ 16 = form_both y.form 16 5 (λ u. u ≤ 16) (omega arith) (omega arith) in
    let more = phases_fewer y (3 * job.steps - q + 1) a h in
    omega (arith, add-mul (3 * job.steps - q) 1 (96 * leaves_of y.procs))

pub part_enters : (job : JobData) (y : LayoutData) (history : List (Op × ℕ)) (n q rank a : ℕ) →
    IsLayout y → y.leaves ≤ n → IsWide y.form → 3 * job.steps - q + 1 ≤ a →
    later_weight job y history n (doing.Part q rank) + 28 ≤ phases_weight y a + 5
unfolding later_weight
part_enters job y history n q rank a limits leaf wide h =
    let turns = parts_most y history q n rank limits.leaves.0 leaf wide in
    let few = ops_few y limits in
    let more = phases_fewer y (3 * job.steps - q + 1) a h in
    omega (arith, add-mul (3 * job.steps - q) 1 (96 * leaves_of y.procs))

-- ---- what was just heard

pub low_loaded : (before : List (Op × ℕ)) (n found : ℕ) → found ≤ low ((Load n, found) ∷ before) n
low_loaded before n found = rw (eq-eqb n n refl) (omega arith)

pub low_raised : (before : List (Op × ℕ)) (n value found : ℕ) →
    value ≤ low ((Max n value, found) ∷ before) n
low_raised before n value found = rw (eq-eqb n n refl) (omega arith)

pub grown_self : (before : List (Op × ℕ)) → Grown before before
grown_self before = λ k. omega arith

-- ---- back and begin

less_than : (a b : ℕ) → a ≤ b → (a ≡ b → ⊥) → a < b
less_than a b h ne = elim (cases_lt a b) [ inl c ↦ c | inr c ↦ absurd (ne (omega arith)) ]

thirds : (a b : ℕ) → a ≡ 3 * b → a % 3 ≡ 0
thirds a b e = omega arith

pub back_leads : (job : JobData) (y : LayoutData) (w n : ℕ) (before : List (Op × ℕ)) →
    Leads job y w (To job y (later_weight job y before n doing.Back)) (back_script y w) 1 before
unfolding later_weight
back_leads job y w n before = (
  omega arith,
  λ found may.
      let fewer = phases_fewer y (3 * job.steps - low_of y
      ((Load (number_of y (Position w)), found) ∷ before) 1) (3 * job.steps) (omega arith) in
      let at = may.position refl in
      (omega arith, omega arith, omega arith),
)

pub begin_leads : (job : JobData) (y : LayoutData) (w n : ℕ) (before : List (Op × ℕ)) →
    IsLayout y → 1 ≤ n → n < 2 * y.leaves →
    Leads job y w (To job y (later_weight job y before n doing.Begin))
    (begin_script job y n) 2 before
unfolding begin_script
begin_leads job y w n before leaves some inside = (
  omega arith,
  λ root may.
      let rises : low_of y before 1 ≤ root = may.rises 1 (omega arith) (omega arith) refl in
      let most : root ≤ 3 * job.steps = may.root refl in
      let to = To job y (later_weight job y before n doing.Begin) in
      let turn =
      λ (history : List (Op × ℕ)) (h : root < 3 * job.steps). enters history root rises h in
      cond_both (root % 3 == 0) _ _
      (λ script. Leads job y w to script 1 ((Load (number_of y (Node 1)), root) ∷ before))
      (λ e. (
        omega arith,
        λ u told. cond_both (u == 0) _ _ (λ script. Leads job y w to script 0
            ((Load (number_of y Conflict), u) ∷ (Load (number_of y (Node 1)), root) ∷ before))
            (λ none. cond_both (root == 3 * job.steps) _ _ (λ script. Leads job y w to script 0
            ((Load (number_of y Conflict), u) ∷ (Load (number_of y (Node 1)), root) ∷ before))
            (λ last. tt)
            (λ more. let ne = eqb-false root (3 * job.steps) more in
            turn ((Load (number_of y Conflict), u) ∷ (Load (number_of y (Node 1)), root) ∷ before)
            (less_than root (3 * job.steps) most ne)))
            (λ some. tt),
      ))
      (λ e. let ne = eqb-false (root % 3) 0 e in turn ((Load (number_of y (Node 1)), root) ∷ before)
      (less_than root (3 * job.steps) most (λ same. ne (thirds root job.steps same)))),
)
  where
    enters : (history : List (Op × ℕ)) (root : ℕ) →
        low_of y before 1 ≤ root → root < 3 * job.steps →
        To job y (later_weight job y before n doing.Begin)
        (turns n (next_phase y.form root)) history
    enters history root rises h =
        let above = (next_above y.form root).0 in
        let within = next_within y.form root job.steps h in
        let phase = phase_enters job y history n
        (next_phase y.form root) (3 * job.steps - low_of y before 1) leaves (omega arith) in (
          some,
          inside,
          omega arith,
          within,
          unfold later_weight in omega arith,
          has_next y.form root,
        )
