-- What a record that the words bear out has heard, shows and knows: it was so, and is so now.
use Rattle.std.proofs.Common.{◌≡◌, ◌≢◌, ℕ, suc, ◌+◌, ◌*◌, ◌≤◌, List, [], ◌∷◌, slice_index, sym, ap}
use Rattle.std.proofs.Common.{◌∙◌, inl, inr, arith}
use Rattle.std.proofs.lemmas.Bool.{cases_lt}
use Rattle.pram_job.specs.Job.{JobData}
use Rattle.pram_step.proofs.LawFixed.{reached_down}
use Rattle.pram_step.specs.Runs.{IsReached, AgreesAfter}
use Rattle.pram_words.specs.Stamps.{stamp_of}
use Rattle.pram_words.specs.Words.{LayoutData, IsWord, number_of}
use Rattle.pram_words.specs.declared.words.Word.{Word}
use Rattle.pram_words.specs.declared.words.Word.TheVariants.{Conflict, Node, Stored}
use Rattle.walkx.proofs.Knowing.{has_more}
use Rattle.walkx.specs.Operations.{words_after, answer}
use Rattle.walkx.specs.Records.{Record, after, Has}
use Rattle.walkx.specs.declared.operation.Op.{Op}
use Rattle.walkx.specs.declared.operation.Op.TheVariants.{Load, Store, Max, Swap, Over}
use Rattle.lawful_walk.proofs.Moments.{onward, find}
use Rattle.lawful_walk.specs.Board.{held, root, conflict, stamp_at, finished, Grows, Stands}
use Rattle.lawful_walk.specs.Seen.{Hears, Heard, HeardThen, Shows, KnowsStep}
use Rattle.lawful_walk.proofs.Facts.{facts}
use Rattle.lawful_walk.proofs.Growths.{root_up, growth_shows}
use Rattle.lawful_walk.proofs.Values.{under_way}
use Rattle.lawful_walk.specs.Moments.{Backed}

-- ---- what was heard of a word is what it held

pub hears_is : (op : Op) (k : ℕ) (words : List ℕ) → Hears op k →
    answer words op ≡ slice_index words k
hears_is (Load j) k words e = ap (slice_index words) e
hears_is (Store j value) k words e = absurd e
hears_is (Max j value) k words e = ap (slice_index words) e
hears_is (Swap j old new) k words e = ap (slice_index words) e
hears_is (Over ended) k words e = absurd e

-- at words that have grown to those of now, and that bear out what was recorded before
pub record HeldThen (job : JobData) (y : LayoutData) (es : List (Op × ℕ)) (word : Word)
    (a : ℕ) (now : List ℕ) : Type 0 where
  pub words : List ℕ
  pub stands : Stands job y words
  pub is : a ≡ held y words word
  pub since : Grows y words now
  pub rest : Record
  pub has : Has rest es
  pub backed : Backed job y rest words

pub held_then : (job : JobData) (y : LayoutData) (r : Record) (op : Op)
    (word : Word) (a : ℕ) (es : List (Op × ℕ)) (now : List ℕ) → Backed job y r now →
    Hears op (number_of y word) → Has r ((op, a) ∷ es) → HeldThen job y es word a now
held_then job y r op word a es now backed hears has =
    let f = find job y now r op a es backed has in
    let m = f.moment in
    record {
      words = m.words;
      stands = m.stands;
      is = m.heard ∙ hears_is op (number_of y word) m.words hears;
      since = onward y m.words (words_after m.words op) now m.grew m.since;
      rest = f.rest;
      has = f.has;
      backed = m.earlier;
    }

pub heard_then : (job : JobData) (y : LayoutData) (r : Record) (word : Word) (a : ℕ)
    (now : List ℕ) → Backed job y r now → Heard y r word a → HeldThen job y [] word a now
heard_then job y r word a now backed heard =
    held_then job y r heard.op word a [] now backed heard.hears heard.has

-- ---- more is heard

pub heard_too : (y : LayoutData) (r : Record) (op : Op) (found : ℕ) (word : Word) (a : ℕ) →
    Heard y r word a → Heard y (after r op found) word a
heard_too y r op found word a h =
    record { op = h.op; hears = h.hears; has = has_more r op found ((h.op, a) ∷ []) h.has }

then_too : (y : LayoutData) (r : Record) (op : Op)
    (found : ℕ) (word : Word) (a : ℕ) (other : Word) (b : ℕ) → HeardThen y r word a other b →
    HeardThen y (after r op found) word a other b
then_too y r op found word a other b h = record {
  op = h.op;
  next = h.next;
  hears = h.hears;
  hears_next = h.hears_next;
  has = has_more r op found ((h.next, b) ∷ (h.op, a) ∷ []) h.has;
}

pub shows_too : (y : LayoutData) (r : Record) (op : Op) (found t : ℕ) →
    Shows y r t → Shows y (after r op found) t
shows_too y r op found t (inl s) = inl (s.0, s.1, heard_too y r op found (Node 1) s.0 s.2)
shows_too y r op found t (inr (inl s)) =
    inr (inl (s.0, s.1, then_too y r op found (Node 1) (3 * t) Conflict s.0 s.2))
shows_too y r op found t (inr (inr s)) = inr (inr (s.0, heard_too y r op found (Node 1) 0 s.1))

pub knows_too : (y : LayoutData) (r : Record) (op : Op) (found t : ℕ) → KnowsStep y r t →
    KnowsStep y (after r op found) t
knows_too y r op found t (inl s) = inl (shows_too y r op found t s)
knows_too y r op found t (inr s) =
    inr (s.0, s.1, s.2, s.3, s.4, heard_too y r op found (Stored s.0 s.1) s.2 s.5)

-- ---- the root and word 0

pub root_now : (job : JobData) (y : LayoutData) (r : Record) (a : ℕ) (now : List ℕ) →
    Backed job y r now → Heard y r (Node 1) a → a ≤ root y now
root_now job y r a now backed heard =
    let m = heard_then job y r (Node 1) a now backed heard in
    let up = root_up job y m.words now m.stands m.since in
    let is : a ≡ root y m.words = m.is in
    omega arith

pub conflict_now : (job : JobData) (y : LayoutData) (r : Record) (u : ℕ) (now : List ℕ) →
    Backed job y r now → Heard y r Conflict u → u ≢ 0 → conflict y now ≡ u
conflict_now job y r u now backed heard some =
    let m = heard_then job y r Conflict u now backed heard in
    let is : u ≡ conflict y m.words = m.is in
    let same : conflict y m.words ≡ conflict y now =
    m.since Conflict tt (λ none. some (is ∙ none)) in
    sym (is ∙ same)

-- word 0 that was heard as not 0 names the step after the finished ones, from then on
pub conflict_fin : (job : JobData) (y : LayoutData) (r : Record) (u : ℕ) (now : List ℕ) →
    Stands job y now → Backed job y r now → Heard y r Conflict u →
    u ≢ 0 → u ≡ suc (finished y now)
conflict_fin job y r u now stands backed heard some =
    let e = conflict_now job y r u now backed heard some in
    elim (facts job y now stands).conflict_next [
      | inl none ↦ absurd (some (sym e ∙ none))
      | inr is ↦ sym e ∙ is
    ]

-- it is the first conflict
pub conflict_first : (job : JobData) (y : LayoutData) (r : Record) (s : ℕ) (now : List ℕ) →
    Stands job y now → Backed job y r now →
    Heard y r Conflict (suc s) → IsReached job s × (AgreesAfter job s → ⊥)
conflict_first job y r s now stands backed heard = stands.lawful.named.first s
    (conflict_now job y r (suc s) now backed heard (λ e. absurd (omega arith)))

-- ---- a step that is shown or known

pub fin_then : (job : JobData) (y : LayoutData) (words now : List ℕ) (t : ℕ) → Stands job y words →
    Stands job y now → Grows y words now → t ≤ finished y words → t ≤ finished y now
fin_then job y words now t stands stands_now up h =
    let c = (growth_shows job y words now stands stands_now up).finished_rises in omega arith

pub shown_now : (job : JobData) (y : LayoutData) (r : Record) (t : ℕ) (now : List ℕ) →
    Stands job y now → Backed job y r now → Shows y r t → t ≤ finished y now
shown_now job y r t now stands backed (inl s) =
    let a = root_now job y r s.0 now backed s.2 in
    let low : 3 * t + 1 ≤ s.0 = s.1 in
    (facts job y now stands).root_finished t (omega arith)
shown_now job y r t now stands backed (inr (inl s)) =
    let h = s.2 in
    let m =
    held_then job y r h.next Conflict s.0 ((h.op, 3 * t) ∷ []) now backed h.hears_next h.has in
    let n = held_then job y m.rest h.op (Node 1) (3 * t) [] m.words m.backed h.hears m.has in
    let up = root_up job y n.words m.words n.stands n.since in
    let is : 3 * t ≡ root y n.words = n.is in
    let u : s.0 ≡ conflict y m.words = m.is in
    let f = facts job y m.words m.stands in
    let high = f.root_high in
    fin_then job y m.words now t m.stands stands m.since (elim (cases_lt (finished y m.words) t) [
      | inr c ↦ c
      | inl c ↦ absurd (let full = f.full_root (omega arith) in s.1 (u ∙ full ∙ (omega arith)))
    ])
shown_now job y r t now stands backed (inr (inr s)) = let e : t ≡ 0 = s.0 in omega arith

pub stamp_known : (job : JobData) (y : LayoutData) (p k t : ℕ) (now : List ℕ) → Stands job y now →
    IsWord y (Stored p k) → stamp_at y now p k ≡ suc t → t ≤ finished y now
stamp_known job y p k t now stands is e =
    let from = (facts job y now stands).stored_from t p k is e in
    let begun = under_way y.form job p t (root y now) from.2 in
    (facts job y now stands).reached_finished t begun from.0

-- Known steps are reached, and finished: now, and so whenever the words bear the record out.
pub known_now : (job : JobData) (y : LayoutData) (r : Record) (t : ℕ) (now : List ℕ) →
    Stands job y now → Backed job y r now → KnowsStep y r t →
    IsReached job t × (t ≤ finished y now)
known_now job y r t now stands backed knows =
    let f : t ≤ finished y now = by knows in
    (reached_down job t (finished y now) f stands.lawful.reached, f)
  where
    by : KnowsStep y r t → t ≤ finished y now
    by (inl s) = shown_now job y r t now stands backed s
    by (inr s) =
        let m = heard_then job y r (Stored s.0 s.1) s.2 now backed s.5 in
        let e : stamp_at y m.words s.0 s.1 ≡ suc t = sym (ap stamp_of m.is) ∙ s.4 in
        fin_then job y m.words now t m.stands stands m.since
        (stamp_known job y s.0 s.1 t m.words m.stands s.3 e)
