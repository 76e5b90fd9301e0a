-- Growth, and records that the words bear out. Nothing here knows the walk.
use Rattle.std.proofs.Common.{◌≡◌, ℕ, zero, suc, ◌+◌, ◌*◌, ◌<◌, ◌≤◌, List, ◌∷◌, refl, sym, ap}
use Rattle.std.proofs.Common.{subst, ◌∙◌, inl, inr, le_refl, le_trans, lit<, arith}
use Rattle.std.proofs.lemmas.Bool.{cases_lt}
use Rattle.pram_job.specs.Job.{JobData}
use Rattle.pram_words.specs.declared.words.Word.TheVariants.{Conflict, Node, Asked}
use Rattle.pram_words.specs.declared.words.Word.TheVariants.{Position, Stored, Claim, Spare}
use Rattle.pram_words.specs.Stamps.{stamp_of}
use Rattle.pram_words.specs.Words.{LayoutData, IsWord}
use Rattle.walkx.specs.declared.operation.Op.{Op}
use Rattle.walkx.specs.declared.operation.Op.TheVariants.{Load}
use Rattle.walkx.specs.Operations.{words_after, answer}
use Rattle.walkx.specs.Records.{Record, empty, after, both, Has}
use Rattle.lawful_walk.specs.Board.{Stands, Up, Grows, IsAhead, held, root, stamp_at}
use Rattle.lawful_walk.specs.Moments.{Moment, Backed, Keeps}

-- ---- words that grow

pub same : (y : LayoutData) (words : List ℕ) → Grows y words words
same y words Conflict is = λ some. refl
same y words (Node n) is = le_refl _
same y words (Asked i j) is = le_refl _
same y words (Position w) is = tt
same y words (Stored p k) is = inl refl
same y words (Claim c) is = le_refl _
same y words (Spare k) is = refl

-- no stamp of a place is lower
pub stamps_rise : (y : LayoutData) (words later : List ℕ) (p k : ℕ) → IsWord y (Stored p k) →
    Grows y words later → stamp_at y words p k ≤ stamp_at y later p k
stamps_rise y words later p zero is up = elim (up (Stored p zero) is) [
  | inl e ↦ subst (λ (a : ℕ). stamp_at y words p 0 ≤ stamp_of a) e (le_refl _)
  | inr more ↦ (let m = more.0 in omega arith)
]
stamps_rise y words later p (suc zero) is up = elim (up (Stored p (suc zero)) is) [
  | inl e ↦ subst (λ (a : ℕ). stamp_at y words p 1 ≤ stamp_of a) e (le_refl _)
  | inr more ↦ (let m = more.1 in omega arith)
]
stamps_rise y words later p (suc (suc k)) is up = absurd (let h = is.1 in omega arith)

-- what was ahead of later words was ahead of those before
ahead_onward : (y : LayoutData) (a b : List ℕ) (p k o l : ℕ) → IsWord y (Stored p k) →
    IsWord y (Stored p o) → Grows y a b → 1 ≤ y.leaves → stamp_at y b p o < l →
    (root y b < 3 * l)
    × (stamp_at y b p o < stamp_at y b p k → root y b + 3 < 3 * l) →
    (root y a < 3 * l)
    × (stamp_at y a p o < stamp_at y a p k → root y a + 3 < 3 * l)
ahead_onward y a b p k o l is other up some low ahead =
    let r : root y a ≤ root y b = up (Node 1) (lit< tt, omega (arith, some)) in
    let h = ahead.0 in (
      omega (arith, r, h),
      λ newer. elim (cases_lt (stamp_at y b p o) (stamp_at y b p k)) [
        | inl c ↦ (let m = ahead.1 c in omega (arith, r, m))
        | inr c ↦ elim (up (Stored p o) other) [
          | inl e ↦ absurd (let rise = stamps_rise y a b p k is up in
              let same : stamp_at y a p o ≡ stamp_at y b p o = ap stamp_of e in
              omega (arith, rise, same, newer, c))
          | inr more ↦ (let m = (more.2 some).0 in omega (arith, m, low))
        ]
      ],
    )

stored_onward : (y : LayoutData) (a b c : List ℕ) (p k : ℕ) →
    IsWord y (Stored p k) → Grows y a b → Grows y b c →
    Up y a (Stored p k) (held y a (Stored p k)) (held y c (Stored p k))
stored_onward y a b c p k is up on = elim (on (Stored p k) is) [
  | inl e ↦ subst (λ (w : ℕ). Up y a (Stored p k) (held y a (Stored p k)) w) e (up (Stored p k) is)
  | inr more ↦ (let first = stamps_rise y a b p 0 (is.0, lit< tt) up in
      let second = stamps_rise y a b p 1 (is.0, lit< tt) up in
      let m = more.0 in
      let n = more.1 in
      inr (omega (arith, first, m), omega (arith, second, n), ahead_by k is m n more.2))
]
  where
    ahead_by : (k : ℕ) → IsWord y (Stored p k) →
        stamp_at y b p 0 < stamp_at y c p k → stamp_at y b p 1 < stamp_at y c p k →
        (1 ≤ y.leaves → IsAhead y b p k (stamp_at y c p k)) →
        1 ≤ y.leaves → IsAhead y a p k (stamp_at y c p k)
    ahead_by zero is m n ahead some =
        ahead_onward y a b p 0 1 (stamp_at y c p 0) is (is.0, lit< tt) up some n (ahead some)
    ahead_by (suc zero) is m n ahead some =
        ahead_onward y a b p 1 0 (stamp_at y c p 1) is (is.0, lit< tt) up some m (ahead some)
    ahead_by (suc (suc k)) is m n ahead some = absurd (let h = is.1 in omega (arith, h))

pub onward : (y : LayoutData) (a b c : List ℕ) → Grows y a b → Grows y b c → Grows y a c
onward y a b c up on Conflict is =
    λ some. let e = up Conflict is some in e ∙ on Conflict is (λ none. some (e ∙ none))
onward y a b c up on (Node n) is = le_trans (up (Node n) is) (on (Node n) is)
onward y a b c up on (Asked i j) is = le_trans (up (Asked i j) is) (on (Asked i j) is)
onward y a b c up on (Position w) is = tt
onward y a b c up on (Stored p k) is = stored_onward y a b c p k is up on
onward y a b c up on (Claim i) is = le_trans (up (Claim i) is) (on (Claim i) is)
onward y a b c up on (Spare k) is = up (Spare k) is ∙ on (Spare k) is

-- ---- records

pub moment_later : (job : JobData) (y : LayoutData) (op : Op) (found : ℕ) (P : List ℕ → Type 0)
    (words later : List ℕ) → Moment job y op found P words →
    Grows y words later → Moment job y op found P later
moment_later job y op found P words later m up =
    record {
      words = m.words;
      stands = m.stands;
      heard = m.heard;
      grew = m.grew;
      since = onward y (words_after m.words op) words later m.since up;
      earlier = m.earlier;
    }

pub backed_later : (job : JobData) (y : LayoutData) (r : Record) (words later : List ℕ) →
    Backed job y r words → Grows y words later → Backed job y r later
backed_later job y empty words later b up = tt
backed_later job y (after r op found) words later b up =
    moment_later job y op found (Backed job y r) words later b up
backed_later job y (both r s) words later b up =
    (backed_later job y r words later b.0 up, backed_later job y s words later b.1 up)

pub backs : (job : JobData) (y : LayoutData) (r : Record) (op : Op) (words : List ℕ) →
    Stands job y words → Backed job y r words → Keeps job y op words →
    Backed job y (after r op (answer words op)) (words_after words op)
backs job y r op words stands b keeps = record {
  words = words;
  stands = stands;
  heard = refl;
  grew = keeps.grows;
  since = same y (words_after words op);
  earlier = b;
}

pub load_keeps : (job : JobData) (y : LayoutData) (k : ℕ) (words : List ℕ) →
    Stands job y words → Keeps job y (Load k) words
load_keeps job y k words stands = record { stands = stands; grows = same y words }

-- the moment of a step that stands in a record, and the record before it
pub record Found (job : JobData) (y : LayoutData) (now : List ℕ) (op : Op) (found : ℕ)
    (es : List (Op × ℕ)) : Type 0 where
  pub rest : Record
  pub moment : Moment job y op found (Backed job y rest) now
  pub has : Has rest es

pub find : (job : JobData) (y : LayoutData)
    (now : List ℕ) (r : Record) (op : Op) (found : ℕ) (es : List (Op × ℕ)) → Backed job y r now →
    Has r ((op, found) ∷ es) → Found job y now op found es
find job y now empty op found es b h = absurd h
find job y now (after r o f) op found es b h = elim h [
  | inl t ↦ subst (λ (x : Op × ℕ). Found job y now x.0 x.1 es)
      (sym t.0) (record { rest = r; moment = b; has = t.1 })
  | inr t ↦ find job y now r op found es
      (backed_later job y r b.words now b.earlier
      (onward y b.words (words_after b.words o) now b.grew b.since)) t
]
find job y now (both r q) op found es b h = elim h [
  | inl t ↦ find job y now r op found es b.0 t
  | inr t ↦ find job y now q op found es b.1 t
]
