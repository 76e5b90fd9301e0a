-- The scripts begin and back, and the turn at an inner node or a padded leaf.
use Rattle.std.proofs.Common.{◌≡◌, ℕ, suc, ◌+◌, ◌*◌, ◌%◌, ◌<◌, ◌≤◌, ◌==◌, if◌then◌else◌, List, ◌∷◌}
use Rattle.std.proofs.Common.{arith}
use Rattle.std.proofs.lemmas.Bool.{cond_both}
use Rattle.pram_job.specs.Job.{JobData}
use Rattle.pram_words.specs.Phases.{next_phase, step_at}
use Rattle.pram_words.specs.Words.{LayoutData, number_of}
use Rattle.pram_words.specs.declared.words.Word.TheVariants.{Conflict, Node, Position}
use Rattle.walkx.specs.declared.operation.Ended.TheVariants as ended
use Rattle.walkx.specs.Walk.{begin_script, Then, turns, begins, stops, back_script, marks_node}
use Rattle.walkx.specs.Walk.{stands_at}
use Rattle.walkx.specs.Scripts.{Script, asks, ends}
use Rattle.walkx.specs.declared.operation.Op.{Op}
use Rattle.walkx.specs.declared.operation.Op.TheVariants.{Load, Store, Max}
use Rattle.lawful_walk.proofs.Frames.{only_set}
use Rattle.lawful_walk.specs.Board.{held, Stands}
use Rattle.lawful_walk.proofs.Effects.{writes_keep}
use Rattle.lawful_walk.proofs.Scripts.{Aim, Safe, goes_mark, load_safe}
use Rattle.lawful_walk.proofs.Sees.{Sees, Lasts, so, always}
use Rattle.lawful_walk.proofs.Setting.{store_keeps}
use Rattle.lawful_walk.specs.Moments.{Moment}
use Rattle.lawful_walk.specs.Walks.{Goes}
use Rattle.lawful_walk.specs.Writes.{Floor, IsMark}

pub back_safe : (job : JobData) (y : LayoutData) (v w q : ℕ) (aim : Aim) (history : List (Op × ℕ)) →
    Safe job y w q aim (back_script y v) history
back_safe job y v w q aim history = load_safe job y w q aim (number_of y (Position v))
    (λ n. ends (begins n)) history (λ found ok. tt)

pub begin_safe : (job : JobData) (y : LayoutData)
    (n w q : ℕ) (aim : Aim) (history : List (Op × ℕ)) →
    Safe job y w q aim (begin_script job y n) history
unfolding begin_script
begin_safe job y n w q aim history =
    load_safe job y w q aim (number_of y (Node 1)) _ history (λ r ok.
    let longer : List (Op × ℕ) = (Load (number_of y (Node 1)), r) ∷ history in
    cond_both (r % 3 == 0) (heard_none r)
    (ends (turns n (next_phase y.form r))) (λ (s : Script Then). Safe job y w q aim s longer)
    (λ e. load_safe job y w q aim (number_of y Conflict) (after_none r) longer
    (λ u ok. heard_safe r u ((Load (number_of y Conflict), u) ∷ longer))) (λ e. tt))
  where
    after_none : ℕ → ℕ → Script Then
    after_none r u = if u == 0
        then (if r == 3 * job.steps then ends (stops ended.Done) else ends
        (turns n (next_phase y.form r))) else ends (stops (ended.Conflict u))

    heard_none : ℕ → Script Then
    heard_none r = asks (Load (number_of y Conflict)) (after_none r)

    heard_safe : (r u : ℕ) (longest : List (Op × ℕ)) →
        Safe job y w q aim (after_none r u) longest
    heard_safe r u longest = cond_both (u == 0)
        (if r == 3 * job.steps then ends (stops ended.Done) else ends
        (turns n (next_phase y.form r)))
        (ends (stops (ended.Conflict u))) (λ (s : Script Then). Safe job y w q aim s longest)
        (λ e. cond_both (r == 3 * job.steps) (ends (stops ended.Done))
        (ends (turns n (next_phase y.form r)))
        (λ (s : Script Then). Safe job y w q aim s longest) (λ e. tt) (λ e. tt)) (λ e. tt)

-- a worker's position is stored
pub store_goes : (job : JobData) (y : LayoutData) (w q n : ℕ) (words : List ℕ) →
    Stands job y words → w < y.workers → 1 ≤ n → n < 2 * y.leaves →
    Goes job y w q (Store (number_of y (Position w)) n) words
store_goes job y w q n words stands worker low high = record {
  keeps = store_keeps job y w n words stands worker low high;
  stale = λ h a is other fixed.
      (only_set y (Position w) n words stands.sizes stands.admitted.len worker).rest a is other;
}

pub stands_safe : (job : JobData) (y : LayoutData)
    (w q : ℕ) (aim : Aim) (n : ℕ) (history : List (Op × ℕ)) →
    w < y.workers → 1 ≤ n → n < 2 * y.leaves → Safe job y w q aim (stands_at y w n q) history
stands_safe job y w q aim n history worker low high = (
  always job y history (λ words. aim.given words → Goes job y w q
      (Store (number_of y (Position w)) n) words)
      (λ words stands given. store_goes job y w q n words stands worker low high),
  λ found ok. tt,
)

module _ (job : JobData) (y : LayoutData) (w q : ℕ) (aim : Aim) (x : ℕ)
    (some : 1 ≤ q) (most : q ≤ 3 * job.steps)
    (step : step_at q ≡ suc x) (P : List ℕ → Type 0) (lasts : Lasts job y P)
    (floor : (words : List ℕ) → P words → Floor job y q x words) where
  -- both children of an inner node hold a mark, or more
  abbrev pub Children : ℕ → ℕ → List ℕ → Type 0
  Children n m words =
      P words × (m ≤ held y words (Node (2 * n))) × (m ≤ held y words (Node (2 * n + 1)))

  pub children_last : (n m : ℕ) → 1 ≤ n → n < y.leaves → Lasts job y (Children n m)
  children_last n m low high = λ words later a b up h. (
    lasts words later a b up h.0,
    (let l = h.1 in
        let u = up (Node (2 * n)) (omega arith, omega arith) in omega (arith, l, u)),
    (let r = h.2 in
        let u = up (Node (2 * n + 1)) (omega arith, omega arith) in omega (arith, r, u)),
  )

  -- they were heard so
  pub heard_children : (n m l r : ℕ) (history : List (Op × ℕ)) → 1 ≤ n → n < y.leaves → m ≤ l →
      m ≤ r → Sees job y history (Moment job y (Load (number_of y (Node (2 * n + 1)))) r
      (Moment job y (Load (number_of y (Node (2 * n)))) l P)) → Sees job y history (Children n m)
  heard_children n m l r history low high left right sees =
      so job y history (Moment job y (Load (number_of y (Node (2 * n + 1)))) r
      (Moment job y (Load (number_of y (Node (2 * n)))) l P)) (Children n m)
      (λ words stands moment.
      let first = moment.earlier in
      let a : l ≡ held y first.words (Node (2 * n)) = first.heard in
      let b : r ≡ held y moment.words (Node (2 * n + 1)) = moment.heard in
      let u : held y first.words (Node (2 * n)) ≤ held y moment.words (Node (2 * n)) =
      first.since (Node (2 * n)) (omega arith, omega arith) in
      let v : held y moment.words (Node (2 * n)) ≤ held y words (Node (2 * n)) =
      moment.since (Node (2 * n)) (omega arith, omega arith) in
      let z : held y moment.words (Node (2 * n + 1)) ≤ held y words (Node (2 * n + 1)) =
      moment.since (Node (2 * n + 1)) (omega arith, omega arith) in (
        lasts moment.words words moment.stands stands moment.since
            (lasts first.words moment.words first.stands moment.stands first.since first.earlier),
        omega (arith, left, a, u, v),
        omega (arith, right, b, z),
      )) sees

  -- the node is marked no higher
  pub inner_safe : (n m reach : ℕ) (history : List (Op × ℕ)) → 1 ≤ n → n < y.leaves →
      IsMark y q m → (n ≡ 1 → m ≤ 3 * x + 3) → m ≤ reach → Sees job y history (Children n reach) →
      Safe job y w q aim (marks_node y n m q) history
  inner_safe n m reach history low high mark top most_so sees = (
    so job y history (Children n reach)
        (λ words. aim.given words → Goes job y w q (Max (number_of y (Node n)) m) words)
        (λ words stands h given. goes_mark job y w q n m words
        ((writes_keep job y words q x stands some most step (floor words h.0)).inner n m low high
        mark top (let l = h.1 in omega (arith, most_so, l))
        (let r = h.2 in omega (arith, most_so, r)))) sees,
    λ found ok. tt,
  )
