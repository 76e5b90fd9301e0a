-- Numbers, and what a word of a place is.
use Rattle.std.proofs.Common.{◌≡◌, ◌⊎◌, ℕ, zero, suc, ◌+◌, ◌*◌, ◌/◌, ◌<◌, ◌≤◌, List, refl, sym}
use Rattle.std.proofs.Common.{subst, inl, inr, arith, ◌%◌}
use Rattle.std.proofs.lemmas.Bool.{cases_eq, cases_lt, le-leb, lt-leb, lt-ltb, le-ltb, eq-eqb}
use Rattle.std.proofs.lemmas.Bool.{ne_eqb}
use Rattle.pram_job.specs.Job.{JobData, IsJob}
use Rattle.pram_job.specs.declared.instr.Rule.{Rule}
use Rattle.pram_job.specs.declared.instr.Rule.TheVariants.{Common, Priority, Crew}
use Rattle.pram_step.specs.Runs.{IsReached}
use Rattle.pram_words.specs.declared.layout.Form.{Form}
use Rattle.pram_words.specs.declared.layout.Form.TheVariants.{Compact, Wide}
use Rattle.pram_words.specs.declared.words.Word.TheVariants.{Node}
use Rattle.pram_words.specs.Stamps.{stamp_of, newer_word}
use Rattle.pram_words.specs.Words.{LayoutData, IsWord}
use Rattle.pram_words.specs.Phases.{next_phase}
use Rattle.pram_words.proofs.NextPhases.{next_above, next_step, next_inside}
use Rattle.walkx.specs.Reads.{step_seen}
use Rattle.lawful_walk.specs.Board.{held, root, IsTree, IsNew, IsPair, newer_first, newer_second}
use Rattle.lawful_walk.specs.Board.{new_first, new_second, IsNamed}
use Rattle.lawful_walk.specs.Lands.{IsLanded, last_landing, landing_before, settled, settled_before}
use Rattle.lawful_walk.specs.Lands.{compact_phase_written, phase_written, phase_claimed}
use Rattle.lawful_walk.proofs.Landings.{last_most, last_is, last_rises, last_between}

-- ---- *Fin* of a root and a word 0

pub record IsFin (root u f : ℕ) : Type 0 where
  pub low : 3 * f ≤ root
  pub high : root ≤ 3 * f + 3
  pub full : root ≡ 3 * f + 3 → u ≡ suc f
  pub part : (k : ℕ) → root ≡ 3 * k + 3 → u ≡ suc k → f ≡ k

pub fin : (root u : ℕ) → IsFin root u (step_seen root u)
fin root u = elim (cases_eq (root % 3) 0) [
  | inr n ↦ rw (ne_eqb (root % 3) 0 n) (record {
    low = omega arith;
    high = omega arith;
    full = λ e. absurd (omega arith);
    part = λ k e h. absurd (n (omega arith));
  })
  | inl e ↦ elim (cases_lt (root / 3) 1) [
    | inl c ↦ rw (eq-eqb (root % 3) 0 e, lt-leb 1 (root / 3) c) (record {
      low = omega arith;
      high = omega arith;
      full = λ g. absurd (omega arith);
      part = λ k g h. absurd (omega arith);
    })
    | inr c ↦ elim (cases_eq u (root / 3)) [
      | inl s ↦ rw (eq-eqb (root % 3) 0 e, le-leb 1 (root / 3) c, eq-eqb u (root / 3) s) (record {
        low = omega arith;
        high = omega arith;
        full = λ g. omega arith;
        part = λ k g h. omega arith;
      })
      | inr n ↦ rw (eq-eqb (root % 3) 0 e, le-leb 1 (root / 3) c, ne_eqb u (root / 3) n) (record {
        low = omega arith;
        high = omega arith;
        full = λ g. absurd (omega arith);
        part = λ k g h. absurd (n (omega arith));
      })
    ]
  ]
]

-- word 0 is 0, or the step after the finished ones
pub conflict_is : (form : Form) (job : JobData) (u root f : ℕ) → IsNamed form job u root →
    IsFin root u f → (u ≡ 0) ⊎ (u ≡ suc f)
conflict_is form job zero root f named is = inl refl
conflict_is form job (suc s) root f named is = elim (named.near s refl) [
  | inl e ↦ inr (let a = is.low in
      let b = is.high in
      let c = next_above form root in omega (arith, a, b, c.0, c.1, e))
  | inr e ↦ inr (let a = is.part s e refl in omega (arith, a))
]

pub fin_reached : (form : Form) (job : JobData) (u root f t : ℕ) → IsNamed form job u root →
    IsFin root u f → 3 * t ≤ root → IsReached job t → t ≤ f
fin_reached form job u root f t named is h reached = elim (cases_lt f t) [
  | inr c ↦ c
  | inl c ↦ absurd (let a = is.high in
      (named.first f (is.full (omega (arith, a, h, c)))).1 (reached f c))
]

-- ---- when a step's writes are carried out

compact_low : (rule : Rule) (s : ℕ) → 3 * s + 2 ≤ compact_phase_written rule s
compact_low Common s = omega arith
compact_low Priority s = omega arith
compact_low Crew s = omega arith

compact_high : (rule : Rule) (s : ℕ) → compact_phase_written rule s ≤ 3 * s + 3
compact_high Common s = omega arith
compact_high Priority s = omega arith
compact_high Crew s = omega arith

pub phase_low : (form : Form) (job : JobData) (p s : ℕ) → 3 * s + 1 ≤ phase_written form job p s
phase_low Compact job p s = let h = compact_low job.rule s in omega (arith, h)
phase_low (Wide g) job p s = elim (cases_lt p job.cells) [
  | inl c ↦ rw (lt-ltb p job.cells c) (omega arith)
  | inr c ↦ rw (le-ltb p job.cells c) (omega arith)
]

pub phase_high : (form : Form) (job : JobData) (p s : ℕ) → phase_written form job p s ≤ 3 * s + 3
phase_high Compact job p s = compact_high job.rule s
phase_high (Wide g) job p s = elim (cases_lt p job.cells) [
  | inl c ↦ rw (lt-ltb p job.cells c) (omega arith)
  | inr c ↦ rw (le-ltb p job.cells c) (omega arith)
]

-- a cell's after the step's first phase
pub cell_low : (form : Form) (job : JobData) (p s : ℕ) → p < job.cells →
    3 * s + 2 ≤ phase_written form job p s
cell_low Compact job p s cell = compact_low job.rule s
cell_low (Wide g) job p s cell = rw (lt-ltb p job.cells cell) (omega arith)

pub claim_low : (form : Form) (s : ℕ) → 3 * s + 1 ≤ phase_claimed form s
claim_low Compact s = omega arith
claim_low (Wide g) s = omega arith

pub claim_most : (form : Form) (s : ℕ) → phase_claimed form s ≤ 3 * s + 2
claim_most Compact s = omega arith
claim_most (Wide g) s = omega arith

-- what may come now is of a step that is under way
pub under_way : (form : Form) (job : JobData) (p s r : ℕ) →
    phase_written form job p s ≤ next_phase form r → 3 * s ≤ r
under_way form job p s r h =
    let low = phase_low form job p s in next_step form r s (omega (arith, low, h))

pub cell_under_way : (form : Form) (job : JobData) (p s r : ℕ) → p < job.cells →
    phase_written form job p s ≤ next_phase form r → 3 * s + 1 ≤ r
cell_under_way form job p s r cell h =
    let low = cell_low form job p s cell in next_inside form r s (omega (arith, low, h))

pub compact_under_way : (form : Form) (job : JobData) (p s r : ℕ) → form ≡ Compact →
    phase_written form job p s ≤ next_phase form r → 3 * s + 1 ≤ r
compact_under_way Compact job p s r is h =
    let low = compact_low job.rule s in next_inside Compact r s (omega (arith, low, h))
compact_under_way (Wide g) job p s r is h = absurd (cc)

-- ---- the tree: no node is below the root

halves : (n : ℕ) → (n ≡ 2 * (n / 2)) ⊎ (n ≡ 2 * (n / 2) + 1)
halves n = elim (cases_lt (2 * (n / 2)) n) [
  | inr e ↦ inl (omega arith)
  | inl e ↦ inr (omega arith)
]

below_by : (job : JobData) (y : LayoutData) (words : List ℕ) (fuel n : ℕ) → IsTree job y words →
    n ≤ fuel → 1 ≤ n → n < 2 * y.leaves → root y words ≤ held y words (Node n)
below_by job y words zero n tree less some most = absurd (omega arith)
below_by job y words (suc fuel) n tree less some most = elim (cases_eq n 1) [
  | inl e ↦ subst (λ (m : ℕ). root y words ≤ held y words (Node m)) (sym e) (omega arith)
  | inr other ↦ (let up : root y words ≤ held y words (Node (n / 2)) =
      below_by job y words fuel (n / 2) tree (omega arith) (omega arith) (omega arith) in
      elim (halves n) [
        | inl e ↦ subst (λ (m : ℕ). root y words ≤ held y words (Node m)) (sym e)
            (let h = tree.left (n / 2) (omega arith) (omega arith) in omega arith)
        | inr e ↦ subst (λ (m : ℕ). root y words ≤ held y words (Node m)) (sym e)
            (let h = tree.right (n / 2) (omega arith) (omega arith) in omega arith)
      ])
]

pub tree_below : (job : JobData) (y : LayoutData) (words : List ℕ) (n : ℕ) → IsTree job y words →
    IsWord y (Node n) → root y words ≤ held y words (Node n)
tree_below job y words n tree is = below_by job y words n n tree (omega arith) is.0 is.1

-- ---- landings

module _ (form : Form) (job : JobData) (is_job : IsJob job) where
  pub before_is : (t p x : ℕ) → landing_before form job t p ≡ suc x →
      IsLanded form job x p × (suc x < t)
  before_is zero p x e = absurd (omega arith)
  before_is (suc s) p x e = (
    last_is form job is_job s p x e,
    let h = last_most form job is_job s p in omega (arith, h, e),
  )

  pub before_less : (t p : ℕ) → 1 ≤ t → landing_before form job t p < t
  before_less zero p some = absurd (omega arith)
  before_less (suc s) p some = let h = last_most form job is_job s p in omega (arith, h)

  -- the landing before a step after x is at least the last one up to x
  pub before_rises : (x u p : ℕ) → x < u → last_landing form job x p ≤ landing_before form job u p
  before_rises x zero p h = absurd (omega arith)
  before_rises x (suc s) p h = last_rises form job is_job x s p (omega arith)

  -- up to t, the last landing before a later last landing is the last one
  pub before_between : (u t p : ℕ) → t < u → landing_before form job u p ≤ t →
      landing_before form job u p ≡ last_landing form job t p
  before_between zero t p less low = absurd (omega arith)
  before_between (suc s) t p less low = last_between form job is_job t s p (omega arith) low

-- a word of a place is one of these
pub data WordIs (form : Form) (job : JobData) (f root p word : ℕ) : Type 0 where
  is_settled : word ≡ settled form job f p → WordIs form job f root p word
  is_before : word ≡ settled_before form job f p → WordIs form job f root p word
  is_new : IsNew form job f root p word → WordIs form job f root p word

pub first_is : (form : Form) (job : JobData) (f root p a b : ℕ) →
    IsPair form job f root p a b → WordIs form job f root p a
first_is form job f root p a b (newer_first e g) = is_settled e
first_is form job f root p a b (newer_second e g some) = is_before g
first_is form job f root p a b (new_first n e) = is_new n
first_is form job f root p a b (new_second n e some) = is_settled e

pub second_is : (form : Form) (job : JobData) (f root p a b : ℕ) →
    IsPair form job f root p a b → WordIs form job f root p b
second_is form job f root p a b (newer_first e g) = is_before g
second_is form job f root p a b (newer_second e g some) = is_settled e
second_is form job f root p a b (new_first n e) = is_settled e
second_is form job f root p a b (new_second n e some) = is_new n

pub has_settled : (form : Form) (job : JobData) (f root p a b : ℕ) →
    IsPair form job f root p a b → (a ≡ settled form job f p) ⊎ (b ≡ settled form job f p)
has_settled form job f root p a b (newer_first e g) = inl e
has_settled form job f root p a b (newer_second e g some) = inr e
has_settled form job f root p a b (new_first n e) = inr e
has_settled form job f root p a b (new_second n e some) = inl e

-- ---- the newer one of two words

pub newer_is_first : (a b : ℕ) → stamp_of b < stamp_of a → newer_word a b ≡ a
newer_is_first a b h = rw (lt-leb (stamp_of a) (stamp_of b) h) refl

pub newer_is_second : (a b : ℕ) → stamp_of a ≤ stamp_of b → newer_word a b ≡ b
newer_is_second a b h = rw (le-leb (stamp_of a) (stamp_of b) h) refl
