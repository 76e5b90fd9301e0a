-- Readers: each answer of the reader's script is a lawful read.
use Rattle.std.proofs.Common.{◌≡◌, ◌≢◌, ℕ, zero, suc, ◌+◌, ◌*◌, ◌%◌, ◌<◌, ◌≤◌, ◌==◌, nat_le, false}
use Rattle.std.proofs.Common.{List, [], ◌∷◌, ◌++◌, length, slice_index, refl, sym, ap, subst, ◌∙◌}
use Rattle.std.proofs.Common.{inl, inr, lit<, arith}
use Rattle.std.proofs.lemmas.Bool.{cond_both, cases_lt, eqb-true, eqb-false, leb-true, leb-false}
use Rattle.pram_job.specs.Job.{JobData}
use Rattle.pram_step.proofs.LawFixed.{reached_down}
use Rattle.pram_step.specs.Runs.{IsReached, state_after}
use Rattle.pram_words.proofs.Numbering.{numbering}
use Rattle.pram_words.specs.Stamps.{stamp_of, payload_of, newer_payload}
use Rattle.pram_words.specs.Words.{LayoutData, IsWord, number_of, places_of, IsLayout}
use Rattle.pram_words.specs.declared.words.Word.{Word}
use Rattle.pram_words.specs.declared.words.Word.TheVariants.{Conflict, Node, Stored}
use Rattle.walk_memory.proofs.Boards.{same_cells}
use Rattle.walkx.specs.Reads.{step_seen, lesser, told_at, read_script, reader_script}
use Rattle.walkx.specs.Records.{Record, after}
use Rattle.walkx.specs.Scripts.{Script, asks, ends, rest_after, rest, op_with, heard_in}
use Rattle.walkx.specs.Tasks.{is_late}
use Rattle.walkx.specs.declared.operation.Op.{Op}
use Rattle.walkx.specs.declared.operation.Op.TheVariants.{Load, Store, Max, Swap, Over}
use Rattle.walkx.specs.declared.operation.Reading.{Reading}
use Rattle.walkx.specs.declared.operation.Reading.TheVariants.{At}
use Rattle.lawful_walk.proofs.Moments.{same, onward, stamps_rise, backed_later}
use Rattle.lawful_walk.proofs.Values.{fin}
use Rattle.lawful_walk.specs.Board.{held, root, conflict, stamp_at, finished, Stands}
use Rattle.lawful_walk.specs.Seen.{Hears, Heard, Shows, KnowsStep}
use Rattle.lawful_walk.specs.Walks.{IsLawfulRead}
use Rattle.lawful_walk.proofs.Facts.{facts}
use Rattle.lawful_walk.proofs.Growths.{growth_shows, changed, place_as_heard}
use Rattle.lawful_walk.proofs.Knowing.{root_now, conflict_fin, shown_now, known_now, heard_too}
use Rattle.lawful_walk.proofs.Knowing.{shows_too, fin_then}
use Rattle.lawful_walk.proofs.Known.{board_of}
use Rattle.lawful_walk.proofs.Places.{word_value, first_value, second_value, cell_value, is_early}
use Rattle.lawful_walk.proofs.Places.{apart_on, apart_back}
use Rattle.lawful_walk.specs.Moments.{Moment, Backed, afters}

-- ---- the loads of the root and of word 0

abbrev Same : Op × ℕ → Op × ℕ → Type 0
Same d e = d ≡ e

-- what a load of word k hears is of that word
load_hears : (op : Op) (k n : ℕ) → op ≡ Load k → Hears op n → k ≡ n
load_hears (Load j) k n e h = let f : j ≡ k = cc in sym f ∙ h
load_hears (Store j v) k n e h = absurd h
load_hears (Max j v) k n e h = absurd (cc)
load_hears (Swap j old new) k n e h = absurd (cc)
load_hears (Over x) k n e h = absurd h

is_load : (op : Op) (a k found n : ℕ) → Same (op, a) (Load k, found) → Hears op n → k ≡ n
is_load op a k found n e h = load_hears op k n (ap (λ (x : Op × ℕ). x.0) e) h

same_found : (op : Op) (a k found : ℕ) → Same (op, a) (Load k, found) → a ≡ found
same_found op a k found e = ap (λ (x : Op × ℕ). x.1) e

-- no record is told of the root or of word 0 by a load of another word
pub shows_less : (y : LayoutData) (r : Record) (k found t : ℕ) → k ≢ number_of y (Node 1) →
    k ≢ number_of y Conflict → Shows y (after r (Load k) found) t → Shows y r t
shows_less y r k found t other none shows = by shows
  where
    by : Shows y (after r (Load k) found) t → Shows y r t
    by (inl s) = elim (s.2).has [
      | inl h ↦ absurd (other (is_load (s.2).op s.0 k found (number_of y (Node 1)) h.0 (s.2).hears))
      | inr h ↦ inl (s.0, s.1, record { op = (s.2).op; hears = (s.2).hears; has = h })
    ]
    by (inr (inl s)) = elim (s.2).has [
      | inl h ↦
          absurd (none (is_load (s.2).next s.0 k found (number_of y Conflict) h.0 (s.2).hears_next))
      | inr h ↦ inr (inl (
        s.0,
        s.1,
        record {
          op = (s.2).op;
          next = (s.2).next;
          hears = (s.2).hears;
          hears_next = (s.2).hears_next;
          has = h;
        },
      ))
    ]
    by (inr (inr s)) = elim (s.1).has [
      | inl h ↦ absurd (other (is_load (s.1).op 0 k found (number_of y (Node 1)) h.0 (s.1).hears))
      | inr h ↦ inr (inr (s.0, record { op = (s.1).op; hears = (s.1).hears; has = h }))
    ]

-- what the loads of the root and of word 0 after a record say of the step s that they show
pub record Glanced (job : JobData) (y : LayoutData) (before r : Record) (s : ℕ) : Type 0 where
  pub low : (t : ℕ) → KnowsStep y before t → t ≤ s
  pub shown : (t : ℕ) → Shows y r t → t ≤ s
  pub shows : Shows y r s
  pub named : (u : ℕ) → u ≢ 0 → Heard y before Conflict u → suc s ≡ u
  pub too : (u : ℕ) → Heard y before Conflict u → Heard y r Conflict u

abbrev pub load_root : LayoutData → Record → ℕ → Record
load_root y before root = after before (Load (number_of y (Node 1))) root

abbrev pub load_conflict : LayoutData → Record → ℕ → Record
load_conflict y r u = after r (Load (number_of y Conflict)) u

-- a load bears itself out at its moment
at_load : (job : JobData) (y : LayoutData) (k found : ℕ) (P : List ℕ → Type 0) (now : List ℕ)
    (m : Moment job y (Load k) found P now) → Moment job y (Load k) found P m.words
at_load job y k found P now m = record {
  words = m.words;
  stands = m.stands;
  heard = m.heard;
  grew = m.grew;
  since = same y m.words;
  earlier = m.earlier;
}

heard_newest : (y : LayoutData) (r : Record) (word : Word) (a : ℕ) →
    Heard y (after r (Load (number_of y word)) a) word a
heard_newest y r word a =
    record { op = Load (number_of y word); hears = refl; has = inl (refl, tt) }

pub glanced_root : (job : JobData) (y : LayoutData) (before : Record) (r : ℕ) (words : List ℕ) →
    r % 3 ≢ 0 → Backed job y (load_root y before r) words →
    Glanced job y before (load_root y before r) (step_seen r 0)
glanced_root job y before r words part m =
    let s = step_seen r 0 in
    let f = finished y m.words in
    let is : r ≡ root y m.words = m.heard in
    let fs = fin r 0 in
    let low = fs.low in
    let high = fs.high in
    let low_then = (facts job y m.words m.stands).root_low in
    let high_then = (facts job y m.words m.stands).root_high in
    let e : finished y m.words ≡ step_seen r 0 =
    elim (cases_lt (finished y m.words) (step_seen r 0)) [
      | inl c ↦ absurd (part (omega arith))
      | inr c ↦ elim (cases_lt (step_seen r 0) (finished y m.words)) [
        | inl d ↦ absurd (part (omega arith))
        | inr d ↦ omega arith
      ]
    ] in
    record {
      low = λ t knows.
          let h = (known_now job y before t m.words m.stands m.earlier knows).1 in omega arith;
      shown = λ t shows. let h = shown_now job y (load_root y before r) t m.words m.stands
          (at_load job y (number_of y (Node 1)) r (Backed job y before) words m) shows in
          omega arith;
      shows = inl (r, more s low, heard_newest y before (Node 1) r);
      named = λ u some heard.
          let h = conflict_fin job y before u m.words m.stands m.earlier heard some in omega arith;
      too = λ u heard. heard_too y before (Load (number_of y (Node 1))) r Conflict u heard;
    }
  where
    more : (s : ℕ) → 3 * s ≤ r → 3 * s + 1 ≤ r
    more s h =
        elim (cases_lt (3 * s) r) [ inl c ↦ omega arith | inr c ↦ absurd (part (omega arith)) ]

-- words that are not the same have other numbers
words_apart : (y : LayoutData) (a b : Word) → IsLayout y → IsWord y a → IsWord y b →
    a ≢ b → number_of y a ≢ number_of y b
words_apart y a b limits is is_b other = λ e. other ((numbering y limits).apart a b is is_b e)

root_is : (y : LayoutData) → IsLayout y → IsWord y (Node 1)
root_is y limits = let l = limits.leaves in (lit< tt, omega arith)

module _ (job : JobData) (y : LayoutData)
    (before : Record) (r u : ℕ) (words : List ℕ) (stands : Stands job y words)
    (m : Backed job y (load_conflict y (load_root y before r) u) words) where
  first : Moment job y (Load (number_of y (Node 1))) r (Backed job y before) m.words
  first = m.earlier

  is_root : r ≡ root y first.words
  is_root = first.heard

  is_conflict : u ≡ conflict y m.words
  is_conflict = m.heard

  fin_on : finished y first.words ≤ finished y m.words
  fin_on = (growth_shows job y first.words m.words first.stands m.stands first.since).finished_rises

  root_record : Backed job y (load_root y before r) first.words
  root_record = at_load job y (number_of y (Node 1)) r (Backed job y before) m.words first

  fin_low : finished y first.words ≤ step_seen r u
  fin_low =
      let fs = fin r u in
      let high = fs.high in
      let low_then = (facts job y first.words first.stands).root_low in
      let e = is_root in
      let on = fin_on in
      let c = is_conflict in
      elim (cases_lt (step_seen r u) (finished y first.words)) [
        | inr k ↦ k
        | inl k ↦ absurd (let full : u ≡ suc (step_seen r u) = fs.full (omega arith) in
            elim (facts job y m.words m.stands).conflict_next [
              | inl none ↦ (omega arith)
              | inr is ↦ (omega arith)
            ])
      ]

  shows_seen : Shows y (load_conflict y (load_root y before r) u) (step_seen r u)
  shows_seen = elim (cases_lt (3 * step_seen r u) r) [
    | inl c ↦ inl (
      r,
      omega arith,
      heard_too y (load_root y before r)
          (Load (number_of y Conflict)) u (Node 1) r (heard_newest y before (Node 1) r),
    )
    | inr c ↦ (let low = (fin r u).low in by_step (step_seen r u) refl (omega arith))
  ]
    where
      by_step : (s : ℕ) → step_seen r u ≡ s → 3 * s ≡ r →
          Shows y (load_conflict y (load_root y before r) u) s
      by_step zero e g = inr (inr (
        refl,
        subst (λ (n : ℕ). Heard y (load_conflict y (load_root y before r) u) (Node 1) n) (sym g)
            (heard_too y (load_root y before r)
            (Load (number_of y Conflict)) u (Node 1) r (heard_newest y before (Node 1) r)),
      ))
      by_step (suc k) e g = inr (inl (
        u,
        (λ h. let p = (fin r u).part k (omega arith) h in omega arith),
        record {
          op = Load (number_of y (Node 1));
          next = Load (number_of y Conflict);
          hears = refl;
          hears_next = refl;
          has = inl (refl, inl (ap (λ (n : ℕ). (Load (number_of y (Node 1)), n)) g, tt));
        },
      ))

  fin_high : step_seen r u ≤ finished y m.words
  fin_high =
      shown_now job y (load_conflict y (load_root y before r) u) (step_seen r u) m.words m.stands
      (at_load job y (number_of y Conflict) u (Backed job y (load_root y before r)) words m)
      shows_seen

  not_root : number_of y Conflict ≢ number_of y (Node 1)
  not_root = words_apart y Conflict (Node 1) m.stands.sizes tt
      (root_is y m.stands.sizes) (λ e. absurd (cc))

  shown_low : (t : ℕ) → Shows y (load_conflict y (load_root y before r) u) t → t ≤ step_seen r u
  shown_low t (inl s) = elim (s.2).has [
    | inl h ↦ absurd (not_root
        (is_load (s.2).op s.0 (number_of y Conflict) u (number_of y (Node 1)) h.0 (s.2).hears))
    | inr h ↦ (let a = root_now job y (load_root y before r) s.0 first.words root_record
        (record { op = (s.2).op; hears = (s.2).hears; has = h }) in
        let e = is_root in
        let high = (fin r u).high in
        let l : 3 * t + 1 ≤ s.0 = s.1 in omega arith)
  ]
  shown_low t (inr (inl s)) = elim (s.2).has [
    | inl h ↦ (let v : s.0 ≡ u = same_found (s.2).next s.0 (number_of y Conflict) u h.0 in
        let a = root_now job y (load_root y before r) (3 * t) first.words root_record
        (record { op = (s.2).op; hears = (s.2).hears; has = h.1 }) in
        let e = is_root in
        let high = (fin r u).high in
        elim (cases_lt (step_seen r u) t) [
          | inr k ↦ k
          | inl k ↦ absurd (let full = (fin r u).full (omega arith) in s.1 (omega arith))
        ])
    | inr h ↦ (let f =
        shown_now job y (load_root y before r) t first.words first.stands root_record (inr (inl (
          s.0,
          s.1,
          record {
            op = (s.2).op;
            next = (s.2).next;
            hears = (s.2).hears;
            hears_next = (s.2).hears_next;
            has = h;
          },
        ))) in
        let low = fin_low in omega arith)
  ]
  shown_low t (inr (inr s)) = let e : t ≡ 0 = s.0 in omega arith

  pub glanced_both : Glanced job y before (load_conflict y (load_root y before r) u) (step_seen r u)
  glanced_both = record {
    low = λ t knows.
        let h = (known_now job y before t first.words first.stands first.earlier knows).1 in
        let low = fin_low in omega arith;
    shown = shown_low;
    shows = shows_seen;
    named = λ v some heard.
        let a = conflict_fin job y before v first.words first.stands first.earlier heard some in
        let b = conflict_fin job y before v m.words m.stands
        (backed_later job y before first.words m.words first.earlier first.since) heard some in
        let low = fin_low in
        let high = fin_high in omega arith;
    too = λ v heard. heard_too y (load_root y before r) (Load (number_of y Conflict)) u Conflict v
        (heard_too y before (Load (number_of y (Node 1))) r Conflict v heard);
  }

-- ---- the words of the cell

-- after whatever the script hears: its end is a lawful read
abbrev pub Reads : JobData → LayoutData → Record → ℕ → Script Reading → Record → Type 0
Reads job y before c (asks op next) r =
    (found : ℕ) → Reads job y before c (next found) (after r op found)
Reads job y before c (ends (At step value)) r = (words : List ℕ) → Stands job y words →
    Backed job y r words → IsLawfulRead job y before r c step value

-- a record with more loads of places
record Extends (y : LayoutData) (r longer : Record) : Type 0 where
  fewer : (t : ℕ) → Shows y longer t → Shows y r t
  more : (t : ℕ) → Shows y r t → Shows y longer t
  heard : (u : ℕ) → Heard y r Conflict u → Heard y longer Conflict u

extends_same : (y : LayoutData) (r : Record) → Extends y r r
extends_same y r = record { fewer = λ t s. s; more = λ t s. s; heard = λ u h. h }

extends_on : (y : LayoutData) (r longer : Record) (c k found : ℕ) →
    IsLayout y → IsWord y (Stored c k) → Extends y r longer →
    Extends y r (after longer (Load (number_of y (Stored c k))) found)
extends_on y r longer c k found limits is x = record {
  fewer = λ t s. x.fewer t
      (shows_less y longer (number_of y (Stored c k)) found t
      (words_apart y (Stored c k) (Node 1) limits is (root_is y limits) (λ e. absurd (cc)))
      (words_apart y (Stored c k) Conflict limits is tt (λ e. absurd (cc))) s);
  more = λ t s. shows_too y longer (Load (number_of y (Stored c k))) found t (x.more t s);
  heard =
      λ u h. heard_too y longer (Load (number_of y (Stored c k))) found Conflict u (x.heard u h);
}

-- the answer is of the step that this read's loads show
seen_read : (job : JobData) (y : LayoutData) (before r longer : Record) (c s value : ℕ) →
    Glanced job y before r s → Extends y r longer → IsReached job s →
    value ≡ slice_index (state_after job s) c → IsLawfulRead job y before longer c s value
seen_read job y before r longer c s value g x reached is = record {
  reached = reached;
  holds = is;
  lasts = g.low;
  seen = λ t shows. g.shown t (x.fewer t shows);
  known = (s, inl (x.more s g.shows), omega arith);
  named = g.named;
}

-- It is of the step of a word that was heard, a later one, another word being later still.
told_read : (job : JobData) (y : LayoutData) (before r longer : Record)
    (c s kl kg l g : ℕ) (then_words words : List ℕ) → Glanced job y before r s →
    Extends y r longer → Stands job y words → Backed job y longer words →
    Stands job y then_words → IsWord y (Stored c kl) → l ≡ held y then_words (Stored c kl) →
    s < stamp_of l → IsWord y (Stored c kg) → Heard y longer (Stored c kg) g →
    stamp_of l < stamp_of g → IsLawfulRead job y before longer c (stamp_of l) (payload_of l)
told_read job y before r longer c s kl kg l g then_words words glanced x stands backed stands_then
    is_l e late is_g heard_g less = by (stamp_of g) refl less
  where
    by : (t : ℕ) → stamp_of g ≡ t → stamp_of l < t →
        IsLawfulRead job y before longer c (stamp_of l) (payload_of l)
    by zero f h = absurd (omega arith)
    by (suc t) f h =
        let knows : KnowsStep y longer t = inr (c, kg, g, is_g, f, heard_g) in
        let k = known_now job y longer t words stands backed knows in
        let reached : IsReached job (stamp_of l) =
        reached_down job (stamp_of l) t (omega arith) k.0 in
        record {
          reached = reached;
          holds = ap payload_of e ∙ word_value job y then_words
              (stamp_of l) c kl stands_then is_l (sym (ap stamp_of e)) reached;
          lasts = λ v known. let low = glanced.low v known in omega arith;
          seen = λ v shows. let low = glanced.shown v (x.fewer v shows) in omega arith;
          known = (t, knows, omega arith);
          named = λ u some heard.
              let a = glanced.named u some heard in
              let b = conflict_fin job y longer u words stands backed
              (x.heard u (glanced.too u heard)) some in
              let up = k.1 in absurd (omega arith);
        }

-- of two later words the lesser one is told
lesser_read : (job : JobData) (y : LayoutData) (before longer : Record) (c a b : ℕ) →
    (stamp_of a < stamp_of b → IsLawfulRead job y before longer c (stamp_of a) (payload_of a)) →
    (stamp_of b < stamp_of a → IsLawfulRead job y before longer c (stamp_of b) (payload_of b)) →
    stamp_of a ≢ stamp_of b →
    IsLawfulRead job y before longer c (stamp_of (lesser a b)) (payload_of (lesser a b))
lesser_read job y before longer c a b first second other =
    cond_both (nat_le (stamp_of a) (stamp_of b)) a b
    (λ (l : ℕ). IsLawfulRead job y before longer c (stamp_of l) (payload_of l))
    (λ e. first (less (stamp_of a) (stamp_of b) (leb-true (stamp_of a) (stamp_of b) e) other))
    (λ e. second (let h = leb-false (stamp_of a) (stamp_of b) e in omega arith))
  where
    less : (m n : ℕ) → m ≤ n → m ≢ n → m < n
    less m n h other = elim (cases_lt m n) [ inl k ↦ k | inr k ↦ absurd (other (omega arith)) ]

module _ (job : JobData) (y : LayoutData) (before r : Record) (c s : ℕ) (cell : c < y.cells)
    (glance : (words : List ℕ) → Stands job y words → Backed job y r words →
    Glanced job y before r s) where
  in_job : (words : List ℕ) → Stands job y words → c < job.cells
  in_job words stands =
      let b = same_cells job y (board_of job y words stands) in omega arith

  abbrev One : ℕ → Record
  One a = after r (Load (number_of y (Stored c 0))) a

  abbrev Two : ℕ → ℕ → Record
  Two a b = after (One a) (Load (number_of y (Stored c 1))) b

  abbrev Three : ℕ → ℕ → ℕ → Record
  Three a b again = after (Two a b) (Load (number_of y (Stored c 0))) again

  place : c < places_of y
  place = omega arith

  heard_first : (a b : ℕ) → Heard y (Two a b) (Stored c 0) a
  heard_first a b = heard_too y (One a) (Load (number_of y (Stored c 1))) b (Stored c 0) a
      (heard_newest y r (Stored c 0) a)

  heard_second : (a b : ℕ) → Heard y (Two a b) (Stored c 1) b
  heard_second a b = heard_newest y (One a) (Stored c 1) b

  extends_two : (a b : ℕ) → IsLayout y → Extends y r (Two a b)
  extends_two a b limits = extends_on y r (One a) c 1 b limits (place, lit< tt)
      (extends_on y r r c 0 a limits (place, lit< tt) (extends_same y r))

  -- the step seen at the moment of the first load, and reached
  fin_of : (words : List ℕ) → Stands job y words → Backed job y r words →
      IsReached job s × (s ≤ finished y words)
  fin_of words stands backed =
      known_now job y r s words stands backed (inl (glance words stands backed).shows)

  both_old : (a b : ℕ) → stamp_of a ≤ s → stamp_of b ≤ s →
      Reads job y before c (ends (At s (newer_payload a b))) (Two a b)
  both_old a b low_a low_b words stands m =
      let first = m.earlier in
      let f = fin_of first.words first.stands first.earlier in
      let low = (facts job y first.words first.stands).root_low in
      let leaves = stands.sizes.leaves in
      let early : is_late (suc s) a b ≡ false = is_early s a b (omega arith) (omega arith) in
      seen_read job y before r (Two a b) c s (newer_payload a b)
      (glance first.words first.stands first.earlier) (extends_two a b stands.sizes) f.0
      ((place_as_heard job y s c a b first.words m.words words first.stands m.stands stands
      first.since m.since place f.0 (let g = f.1 in omega arith) first.heard m.heard early).value
      ∙ cell_value y.form job s c (in_job words stands))

  second_old : (a b : ℕ) → s < stamp_of a → stamp_of b ≤ s →
      Reads job y before c (ends (At s (payload_of b))) (Two a b)
  second_old a b high_a low_b words stands m =
      let first = m.earlier in
      let f = fin_of first.words first.stands first.earlier in
      let leaves = stands.sizes.leaves in
      let ea : stamp_of a ≡ stamp_at y first.words c 0 = ap stamp_of first.heard in
      let eb : stamp_of b ≡ stamp_at y m.words c 1 = ap stamp_of m.heard in
      let up = stamps_rise y first.words m.words c 0 (place, lit< tt) first.since in
      let fin_m = fin_then job y first.words m.words s first.stands m.stands first.since f.1 in
      seen_read job y before r (Two a b) c s (payload_of b)
      (glance first.words first.stands first.earlier) (extends_two a b stands.sizes) f.0
      (ap payload_of m.heard
      ∙ second_value job y m.words s c m.stands place fin_m (omega arith) (omega arith)
      ∙ cell_value y.form job s c (in_job words stands))

  both_new : (a b : ℕ) → s < stamp_of a → s < stamp_of b →
      Reads job y before c (told_at (lesser a b)) (Two a b)
  both_new a b high_a high_b words stands m =
      let first = m.earlier in
      let g = glance first.words first.stands first.earlier in
      let leaves = stands.sizes.leaves in
      let x = extends_two a b stands.sizes in
      let ea : stamp_of a ≡ stamp_at y first.words c 0 = ap stamp_of first.heard in
      let eb : stamp_of b ≡ stamp_at y m.words c 1 = ap stamp_of m.heard in
      lesser_read job y before (Two a b) c a b
      (λ less. told_read job y before r (Two a b) c s 0 1 a b first.words words g x stands
      m first.stands (place, lit< tt) first.heard high_a (place, lit< tt) (heard_second a b) less)
      (λ less. told_read job y before r (Two a b) c s 1 0 b a m.words words g x stands m m.stands
      (place, lit< tt) m.heard high_b (place, lit< tt) (heard_first a b) less)
      (λ e.
      let z = apart_on job y first.words m.words c first.stands place first.since (omega arith) in
      absurd (omega arith))

  same_again : (a b again : ℕ) → stamp_of a ≤ s → s < stamp_of b → again ≡ a →
      Reads job y before c (ends (At s (payload_of a))) (Three a b again)
  same_again a b again low_a high_b e words stands last =
      let m = last.earlier in
      let first = m.earlier in
      let f = fin_of first.words first.stands first.earlier in
      let leaves = stands.sizes.leaves in
      let ea : a ≡ held y first.words (Stored c 0) = first.heard in
      let eb : stamp_of b ≡ stamp_at y m.words c 1 = ap stamp_of m.heard in
      let el : again ≡ held y last.words (Stored c 0) = last.heard in
      let sa : stamp_of a ≡ stamp_at y first.words c 0 = ap stamp_of ea in
      let sl : stamp_of a ≡ stamp_at y last.words c 0 = ap stamp_of (sym e ∙ el) in
      let fin_m = fin_then job y first.words m.words s first.stands m.stands first.since f.1 in
      let up = stamps_rise y m.words last.words c 0 (place, lit< tt) m.since in
      let still : held y first.words (Stored c 0) ≡ held y m.words (Stored c 0) =
      elim (first.since (Stored c 0) (place, lit< tt)) [
        | inl g ↦ g
        | inr more ↦ absurd (let h = more.0 in omega arith)
      ] in
      let sm : stamp_of a ≡ stamp_at y m.words c 0 = ap stamp_of (ea ∙ still) in
      seen_read job y before r (Three a b again) c s
      (payload_of a) (glance first.words first.stands first.earlier)
      (extends_on y r (Two a b) c 0 again stands.sizes
      (place, lit< tt) (extends_two a b stands.sizes)) f.0
      (ap payload_of (ea ∙ still)
      ∙ first_value job y m.words s c m.stands place fin_m (omega arith) (omega arith)
      ∙ cell_value y.form job s c (in_job words stands))

  other_again : (a b again : ℕ) → s < stamp_of b → again ≢ a →
      Reads job y before c (told_at (lesser again b)) (Three a b again)
  other_again a b again high_b other words stands last =
      let m = last.earlier in
      let first = m.earlier in
      let f = fin_of first.words first.stands first.earlier in
      let g = glance first.words first.stands first.earlier in
      let leaves = stands.sizes.leaves in
      let x = extends_on y r (Two a b) c 0 again stands.sizes
      (place, lit< tt) (extends_two a b stands.sizes) in
      let ea : a ≡ held y first.words (Stored c 0) = first.heard in
      let el : again ≡ held y last.words (Stored c 0) = last.heard in
      let eb : stamp_of b ≡ stamp_at y m.words c 1 = ap stamp_of m.heard in
      let sl : stamp_of again ≡ stamp_at y last.words c 0 = ap stamp_of el in
      let high = changed job y first.words last.words s c 0 first.stands last.stands
      (onward y first.words m.words last.words first.since m.since)
      (place, lit< tt) f.1 (λ e. other (el ∙ e ∙ sym ea)) in
      lesser_read job y before (Three a b again) c again b
      (λ less. told_read job y before r (Three a b again) c s 0 1 again b last.words words
      g x stands last last.stands (place, lit< tt) el (omega arith) (place, lit< tt) (heard_too y
      (Two a b) (Load (number_of y (Stored c 0))) again (Stored c 1) b (heard_second a b)) less)
      (λ less. told_read job y before r (Three a b again)
      c s 1 0 b again m.words words g x stands last m.stands (place, lit< tt) m.heard high_b
      (place, lit< tt) (heard_newest y (Two a b) (Stored c 0) again) less)
      (λ e. let z = apart_back job y m.words last.words c m.stands place m.since (omega arith) in
      absurd (omega arith))

  pub cell_reads : Reads job y before c (read_script y c s) r
  unfolding read_script
  cell_reads = λ a b. cond_both (nat_le (stamp_of a) s) _ _
      (λ (t : Script Reading). Reads job y before c t (Two a b))
      (λ la. cond_both (nat_le (stamp_of b) s) _ _
      (λ (t : Script Reading). Reads job y before c t (Two a b))
      (λ lb. both_old a b (leb-true (stamp_of a) s la) (leb-true (stamp_of b) s lb))
      (λ lb again.
      cond_both (again == a) _ _ (λ (t : Script Reading). Reads job y before c t (Three a b again))
      (λ e. same_again a b again (leb-true (stamp_of a) s la)
      (let h = leb-false (stamp_of b) s lb in omega arith) (eqb-true again a e))
      (λ e. other_again a b again (let h = leb-false (stamp_of b) s lb in
      omega arith) (eqb-false again a e))))
      (λ la. cond_both (nat_le (stamp_of b) s) _ _
      (λ (t : Script Reading). Reads job y before c t (Two a b))
      (λ lb. second_old a b (let h = leb-false (stamp_of a) s la in
      omega arith) (leb-true (stamp_of b) s lb))
      (λ lb. both_new a b (let h = leb-false (stamp_of a) s la in
      omega arith) (let h = leb-false (stamp_of b) s lb in omega arith)))

-- ---- the whole script

pub reader_reads : (job : JobData) (y : LayoutData) (before : Record) (c : ℕ) → c < y.cells →
    Reads job y before c (reader_script y c) before
unfolding reader_script
reader_reads job y before c cell = λ root. cond_both (root % 3 == 0) _ _
    (λ (t : Script Reading). Reads job y before c t (load_root y before root))
    (λ e u. cell_reads job y before (load_conflict y (load_root y before root) u) c (step_seen root
    u) cell (λ words stands backed. glanced_both job y before root u words stands backed))
    (λ e. cell_reads job y before (load_root y before root) c (step_seen root 0) cell
    (λ words stands backed. glanced_root job y before root words (eqb-false (root % 3) 0 e) backed))

reads_next : (job : JobData) (y : LayoutData)
    (before r : Record) (c : ℕ) (script : Script Reading) (found : ℕ) (heard : List (Op × ℕ)) →
    Reads job y before c script (afters r heard) →
    Reads job y before c (rest_after script found) (afters r (op_with script found ++ heard))
reads_next job y before r c (asks op next) found heard reads = reads found
reads_next job y before r c (ends x) found heard reads = reads

reads_after : (job : JobData) (y : LayoutData) (before r : Record) (c : ℕ)
    (script : Script Reading) (answers : List ℕ) → Reads job y before c script r →
    Reads job y before c (rest script answers) (afters r (heard_in script answers))
reads_after job y before r c script [] reads = reads
reads_after job y before r c script (found ∷ earlier) reads =
    reads_next job y before r c (rest script earlier) found (heard_in script earlier)
    (reads_after job y before r c script earlier reads)

-- A reader's answer is a lawful read, whatever it heard, if the words bear out the record that its
-- loads lengthened.
pub read_is_lawful : (job : JobData) (y : LayoutData) (before : Record)
    (c step value : ℕ) (answers words : List ℕ) → c < y.cells →
    rest (reader_script y c) answers ≡ ends (At step value) →
    Stands job y words → Backed job y (afters before (heard_in (reader_script y c) answers)) words →
    IsLawfulRead job y before (afters before (heard_in (reader_script y c) answers)) c step value
read_is_lawful job y before c step value answers words cell is stands backed =
    subst (λ (t : Script Reading).
    Reads job y before c t (afters before (heard_in (reader_script y c) answers))) is
    (reads_after job y before before c (reader_script y c) answers
    (reader_reads job y before c cell)) words stands backed

-- ---- at most five loads

abbrev pub AtMost : {R : Type 0} → ℕ → Script R → Type 0
AtMost n (ends r) = Unit {0}
AtMost zero (asks op next) = ⊥
AtMost (suc n) (asks op next) = (found : ℕ) → AtMost n (next found)

read_few : (y : LayoutData) (c s n : ℕ) → AtMost (suc (suc (suc n))) (read_script y c s)
unfolding read_script
read_few y c s n =
    λ a b. cond_both (nat_le (stamp_of a) s) _ _ (λ (t : Script Reading). AtMost (suc n) t)
    (λ e. cond_both (nat_le (stamp_of b) s) _ _
    (λ (t : Script Reading). AtMost (suc n) t) (λ f. tt) (λ f again.
    cond_both (again == a) _ _ (λ (t : Script Reading). AtMost n t) (λ g. tt) (λ g. tt)))
    (λ e. cond_both (nat_le (stamp_of b) s) _ _
    (λ (t : Script Reading). AtMost (suc n) t) (λ f. tt) (λ f. tt))

reader_few : (y : LayoutData) (c : ℕ) → AtMost 5 (reader_script y c)
unfolding reader_script
reader_few y c = λ root. cond_both (root % 3 == 0) _ _ (λ (t : Script Reading). AtMost 4 t)
    (λ e u. read_few y c (step_seen root u) 0) (λ e. read_few y c (step_seen root 0) 1)

-- what is left of a script, and how many steps were made
record Left {R : Type 0} (n : ℕ) (script : Script R) (made : List (Op × ℕ)) : Type 0 where
  more : ℕ
  few : AtMost more script
  all : length made + more ≤ n

left_next : {R : Type 0} (n more : ℕ) (script : Script R) (found : ℕ) (made : List (Op × ℕ)) →
    AtMost more script → length made + more ≤ n →
    Left n (rest_after script found) (op_with script found ++ made)
left_next n zero (asks op next) found made few all = absurd few
left_next n (suc more) (asks op next) found made few all =
    record { more = more; few = few found; all = omega arith }
left_next n more (ends r) found made few all = record { more = more; few = tt; all = all }

left_after : {R : Type 0} (n : ℕ) (script : Script R) (answers : List ℕ) → AtMost n script →
    Left n (rest script answers) (heard_in script answers)
left_after n script [] few = record { more = n; few = few; all = omega arith }
left_after n script (found ∷ earlier) few =
    let l = left_after n script earlier few in
    left_next n l.more (rest script earlier) found (heard_in script earlier) l.few l.all

pub loads_few : (y : LayoutData) (c : ℕ) (answers : List ℕ) →
    length (heard_in (reader_script y c) answers) ≤ 5
loads_few y c answers =
    let l = left_after 5 (reader_script y c) answers (reader_few y c) in
    let h = l.all in omega arith
