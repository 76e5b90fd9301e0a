-- Records that the words bear out are faithful.
use Rattle.std.proofs.Common.{◌≡◌, ℕ, suc, ◌==◌, ◌<◌, ◌≤◌, max, List, [], length, slice_index, sym}
use Rattle.std.proofs.Common.{ap, subst, ◌∙◌, inl, inr, get_or-set_same, arith}
use Rattle.std.proofs.lemmas.Bool.{cases_lt}
use prog.Atomic.{either}
use Rattle.pram_job.specs.Job.{JobData}
use Rattle.pram_step.proofs.LawFixed.{reached_down}
use Rattle.pram_words.proofs.Numbering.{numbering}
use Rattle.pram_words.specs.Stamps.{stamp_of, payload_of}
use Rattle.pram_words.specs.Words.{LayoutData, IsWord, number_of}
use Rattle.pram_words.specs.declared.words.Word.{Word}
use Rattle.pram_words.specs.declared.words.Word.TheVariants.{Conflict, Node, Asked, Position}
use Rattle.pram_words.specs.declared.words.Word.TheVariants.{Stored, Claim, Spare}
use Rattle.walkx.specs.Operations.{words_after, answer}
use Rattle.walkx.specs.Records.{Record, empty, after, both}
use Rattle.walkx.specs.declared.operation.Op.{Op}
use Rattle.walkx.specs.declared.operation.Op.TheVariants.{Load, Store, Max, Swap, Over}
use Rattle.lawful_walk.proofs.Landings.{last_most, before_most, stamp_step}
use Rattle.lawful_walk.proofs.Winners.{landed_value, winner}
use Rattle.lawful_walk.specs.Lands.{Lands, last_landing, landing_before}
use Rattle.lawful_walk.proofs.Moments.{stamps_rise, find}
use Rattle.lawful_walk.specs.Board.{held, root, stamp_at, finished, Grows, Stands}
use Rattle.lawful_walk.specs.Seen.{Hears}
use Rattle.lawful_walk.proofs.Facts.{facts, place_below, word_is}
use Rattle.lawful_walk.proofs.Knowing.{held_then, hears_is}
use Rattle.lawful_walk.proofs.Places.{word_value}
use Rattle.lawful_walk.proofs.Values.{WordIs, is_settled, is_before, is_new}
use Rattle.lawful_walk.specs.Faithful.{Remains, left_by, IsAfter, IsPart, IsGiven, IsValue}
use Rattle.lawful_walk.specs.Faithful.{IsFaithful, FaithfulAnswers}
use Rattle.lawful_walk.specs.Moments.{Backed}
use Rattle.lawful_walk.specs.WordLaws.{BackedIsFaithful, SoundIsFaithful}

-- ---- what remains while the words grow

remains : (y : LayoutData) (words later : List ℕ) (word : Word) →
    IsWord y word → Grows y words later → Remains word (held y words word) (held y later word)
remains y words later Conflict is up = up Conflict is
remains y words later (Node n) is up = up (Node n) is
remains y words later (Asked i j) is up = up (Asked i j) is
remains y words later (Position w) is up = tt
remains y words later (Stored p k) is up = stamps_rise y words later p k is up
remains y words later (Claim c) is up = up (Claim c) is
remains y words later (Spare k) is up = tt

-- the word after a step
left_is : (op : Op) (k : ℕ) (words : List ℕ) → Hears op k → k < length words →
    slice_index (words_after words op) k ≡ left_by op (answer words op)
left_is (Load j) k words e below = ap (slice_index words) (sym e)
left_is (Store j value) k words e below = absurd e
left_is (Max j value) k words e below =
    let v = max (slice_index words j) value in
    subst (λ (n : ℕ). slice_index (words_after words (Max j value)) n ≡ v) e
    (get_or-set_same words j v 0 (omega arith))
left_is (Swap j old new) k words e below =
    let v = either (slice_index words j == old) new (slice_index words j) in
    subst (λ (n : ℕ). slice_index (words_after words (Swap j old new)) n ≡ v) e
    (get_or-set_same words j v 0 (omega arith))
left_is (Over ended) k words e below = absurd e

after_now : (job : JobData) (y : LayoutData) (r : Record) (now : List ℕ) (word : Word) →
    Backed job y r now → IsWord y word → IsAfter y r word (held y now word)
after_now job y r now word backed is = record {
  heard = λ op found hears has.
      let m = held_then job y r op word found [] now backed hears has in
      subst (λ (a : ℕ). Remains word a (held y now word)) (sym m.is)
      (remains y m.words now word is m.since);
  left = λ op found hears has.
      let m = (find job y now r op found [] backed has).moment in
      let below : number_of y word < length m.words =
      (let n = (numbering y m.stands.sizes).below word is in
      let l = m.stands.admitted.len in omega arith) in
      let e : held y (words_after m.words op) word ≡ left_by op found =
      left_is op (number_of y word) m.words hears below ∙ ap (left_by op) (sym m.heard) in
      subst (λ (a : ℕ). Remains word a (held y now word)) e
      (remains y (words_after m.words op) now word is m.since);
}

-- ---- what a word of a place holds

module _ (job : JobData) (y : LayoutData) (words : List ℕ) (p k s : ℕ)
    (stands : Stands job y words) (is : IsWord y (Stored p k)) where
  -- its step is finished
  given_before : stamp_at y words p k ≡ suc s → s < finished y words →
      IsGiven y.form job s p (payload_of (held y words (Stored p k)))
  given_before e low =
      let f = facts job y words stands in
      let from = f.stored_from s p k is e in
      let win = winner y.form job s p stands.limits from.1 in
      let below = place_below job y words (finished y words) stands.limits
      stands.sizes stands.layout stands.lawful f.root_low f.root_high p is.0 in
      let value = word_value job y words (suc s) p k stands is e
      (reached_down job (suc s) (finished y words) low stands.lawful.reached) in
      let writes = landed_value y.form job s p win.writer win.value stands.limits below
      (stands.lawful.reached s low) win.lands win.wins in
      record {
        reached = from.0;
        writer = win.writer;
        lands = subst (Lands y.form job s p win.writer) (sym (value ∙ writes)) win.lands;
        wins = win.wins;
      }

  -- it is not: the word is new
  given_now : (word : ℕ) → stamp_of word ≡ suc s → finished y words ≤ s →
      WordIs y.form job (finished y words) (root y words) p word →
      IsGiven y.form job s p (payload_of word)
  given_now word e high (is_settled w) =
      let f = finished y words in
      let z : stamp_of word ≡ last_landing y.form job (finished y words) p =
      ap stamp_of w ∙ stamp_step y.form job stands.limits (last_landing y.form job f p) p in
      let m = last_most y.form job stands.limits f p in
      absurd (omega arith)
  given_now word e high (is_before w) =
      let f = finished y words in
      let z : stamp_of word ≡ landing_before y.form job
      (last_landing y.form job (finished y words) p) p =
      ap stamp_of w ∙ stamp_step y.form job stands.limits
      (landing_before y.form job (last_landing y.form job f p) p) p in
      let m = last_most y.form job stands.limits f p in
      let b = before_most y.form job stands.limits (last_landing y.form job f p) p in
      absurd (omega arith)
  given_now word e high (is_new n) =
      let z = n.stamp in
      let same : finished y words ≡ s = omega arith in
      subst (λ (x : ℕ). IsGiven y.form job x p (payload_of word)) same
      (record {
        reached = stands.lawful.reached;
        writer = n.writer;
        lands = n.lands;
        wins = n.wins;
      })

  given : stamp_at y words p k ≡ suc s →
      IsGiven y.form job s p (payload_of (held y words (Stored p k)))
  given e = elim (cases_lt s (finished y words)) [
    | inl c ↦ given_before e c
    | inr c ↦ (let f = facts job y words stands in
        given_now (held y words (Stored p k)) e c (word_is job y words (finished y words)
        stands.limits stands.sizes stands.layout stands.lawful f.root_low f.root_high p k is))
  ]

value_is : (job : JobData) (y : LayoutData) (words : List ℕ) (p k : ℕ) → Stands job y words →
    IsWord y (Stored p k) → IsValue y.form job p (held y words (Stored p k))
value_is job y words p k stands is = record {
  start = λ e. word_value job y words 0 p k stands is e (λ s low. absurd (omega arith));
  given = λ s e. given job y words p k s stands is e;
}

-- ---- records

answer_faithful : (job : JobData) (y : LayoutData) (r : Record) (op : Op) (found : ℕ)
    (words : List ℕ) → Stands job y words → Backed job y r words →
    found ≡ answer words op → IsFaithful job y r op found
answer_faithful job y r op found words stands backed heard = record {
  later = λ word is hears.
      subst (IsAfter y r word) (sym (heard ∙ hears_is op (number_of y word) words hears))
      (after_now job y r words word backed is);
  asked = λ compact i j proc part hears.
      subst (IsPart job i j) (sym (heard ∙ hears_is op (number_of y (Asked i j)) words hears))
      ((stands.lawful.asked compact i j proc part).part);
  stored = λ p k is hears.
      subst (IsValue y.form job p)
      (sym (heard ∙ hears_is op (number_of y (Stored p k)) words hears))
      (value_is job y words p k stands is);
}

answers_faithful : (job : JobData) (y : LayoutData) (r : Record) (now : List ℕ) →
    Backed job y r now → FaithfulAnswers job y r
answers_faithful job y empty now backed = tt
answers_faithful job y (after r op found) now m = (
  answers_faithful job y r m.words m.earlier,
  answer_faithful job y r op found m.words m.stands m.earlier m.heard,
)
answers_faithful job y (both r s) now backed =
    (answers_faithful job y r now backed.0, answers_faithful job y s now backed.1)

pub backed_faithful : BackedIsFaithful
backed_faithful job y r words backed = record {
  answers = answers_faithful job y r words backed;
  words = λ word is. after_now job y r words word backed is;
}

pub sound_faithful : SoundIsFaithful
sound_faithful job y empty sound = tt
sound_faithful job y (after r op found) was =
    answers_faithful job y (after r op found) was.words was.backed
sound_faithful job y (both r s) sound =
    (sound_faithful job y r sound.0, sound_faithful job y s sound.1)
