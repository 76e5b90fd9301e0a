-- Words that can stand in a line as they are.
use Rattle.std.proofs.Common.{◌≡◌, ℕ, ◌≤◌, Bool, true, false, not, ◌&&◌, ◌||◌, ◌==◌, nat_le}
use Rattle.std.proofs.Common.{List, [], ◌∷◌, ◌++◌, All, refl, ap, ◌∙◌, arith}
use Rattle.std.specs.List.{AllByRecursion, list_all, join_with_byte, slice_split, before_first}
use Rattle.std.specs.List.{filter}
use Rattle.std.proofs.lemmas.Bool.{and_parts, and_from, or_from, or_right, leb-true, le-leb}
use Rattle.std.proofs.lemmas.Bool.{ne_eqb, not-true, cond-true}
use Rattle.std.proofs.lemmas.List.Elements.{All-nil, All-cons, All-append, All-head, All-tail}
use Rattle.std.proofs.lemmas.List.Folds.{list_all-append}
use Rattle.std.proofs.lemmas.List.Splits.{slice_split_at, slice_split_none}
use Rattle.text_lines.specs.Lines.{Word, Line, is_allowed, is_blank, is_filled, words_of}
use Rattle.pram_text.proofs.Lists.{before_first_skip}

-- allowed, and neither a blank nor a `;`
abbrev pub is_plain : ℕ → Bool
is_plain byte = nat_le 33 byte && (nat_le byte 126 && not (byte == 59))

record PlainByte (byte : ℕ) : Type 0 where
  low : 33 ≤ byte
  high : byte ≤ 126
  other : (byte == 59) ≡ false

plain_byte : (byte : ℕ) → is_plain byte ≡ true → PlainByte byte
plain_byte byte h =
    let parts = and_parts (nat_le 33 byte) (nat_le byte 126 && not (byte == 59)) h in
    let rest = and_parts (nat_le byte 126) (not (byte == 59)) parts.1 in
    record {
      low = leb-true 33 byte parts.0;
      high = leb-true byte 126 rest.0;
      other = not-true (byte == 59) rest.1;
    }

no_comment : (byte : ℕ) → is_plain byte ≡ true → (byte == 59) ≡ false
no_comment byte h = (plain_byte byte h).other

no_blank : (byte : ℕ) → is_plain byte ≡ true → is_blank byte ≡ false
no_blank byte h =
    let p = plain_byte byte h in
    or_from ((byte == 32) || (byte == 9)) (byte == 13)
    (or_from (byte == 32) (byte == 9) (ne_eqb byte 32 (λ e. omega (arith, p.low)))
    (ne_eqb byte 9 (λ e. omega (arith, p.low)))) (ne_eqb byte 13 (λ e. omega (arith, p.low)))

no_feed : (byte : ℕ) → is_plain byte ≡ true → (byte == 10) ≡ false
no_feed byte h =
    let p = plain_byte byte h in ne_eqb byte 10 (λ e. omega (arith, p.low))

plain_is_allowed : (byte : ℕ) → is_plain byte ≡ true → is_allowed byte ≡ true
unfolding is_allowed
plain_is_allowed byte h =
    let p = plain_byte byte h in
    or_right ((byte == 9) || (byte == 13)) (nat_le 32 byte && nat_le byte 126)
    (and_from (nat_le 32 byte) (nat_le byte 126) (le-leb 32 byte (omega (arith, p.low)))
    (le-leb byte 126 p.high))

-- a word of such bytes, at least one
pub record PlainWord (word : Word) : Type 0 where
  pub filled : is_filled word ≡ true
  pub plain : list_all is_plain word ≡ true

abbrev pub PlainWords : Line → Type 0
PlainWords words = AllByRecursion (λ word. PlainWord word) words

-- a line of such words, at least one
pub record PlainLine (words : Line) : Type 0 where
  pub filled : is_filled words ≡ true
  pub plain : PlainWords words

-- ---- what holds of each plain byte and of a space holds of the words joined

module _ (q : ℕ → Bool) (v : Bool) (plain : (byte : ℕ) → is_plain byte ≡ true → q byte ≡ v) where
  each_of : (word : Word) → list_all is_plain word ≡ true → All (λ byte. q byte ≡ v) word
  each_of [] h = All-nil (λ byte. q byte ≡ v)
  each_of (b ∷ bs) h =
      let parts = and_parts (is_plain b) (list_all is_plain bs) h in
      All-cons (λ byte. q byte ≡ v) b bs (plain b parts.0) (each_of bs parts.1)

  each_joined : q 32 ≡ v → (words : Line) → PlainWords words →
      All (λ byte. q byte ≡ v) (join_with_byte 32 words)
  each_joined space [] h = All-nil (λ byte. q byte ≡ v)
  each_joined space (w ∷ []) h = each_of w h.0.plain
  each_joined space (w ∷ x ∷ words) h =
      All-append (λ byte. q byte ≡ v) w (32 ∷ join_with_byte 32 (x ∷ words))
      (each_of w h.0.plain) (All-cons (λ byte. q byte ≡ v) 32 (join_with_byte 32 (x ∷ words)) space
      (each_joined space (x ∷ words) h.1))

pub joined_without_feed : (words : Line) → PlainWords words →
    All (λ byte. (byte == 10) ≡ false) (join_with_byte 32 words)
joined_without_feed words h = each_joined (λ byte. byte == 10) false no_feed refl words h

-- ---- the words of the words joined

before_none : (p : ℕ → Bool) (xs : List ℕ) → All (λ x. p x ≡ false) xs → before_first p xs ≡ xs
before_none p [] h = refl
before_none p (x ∷ xs) h =
    before_first_skip p x xs (All-head (λ y. p y ≡ false) x xs h)
    ∙ ap (λ ys. x ∷ ys) (before_none p xs (All-tail (λ y. p y ≡ false) x xs h))

kept : (word : Word) (words : Line) → is_filled word ≡ true →
    filter is_filled (word ∷ words) ≡ word ∷ filter is_filled words
kept word words h =
    cond-true (is_filled word) (word ∷ filter is_filled words) (filter is_filled words) h

split_words : (words : Line) → PlainWords words →
    filter is_filled (slice_split is_blank (join_with_byte 32 words)) ≡ words
split_words [] h = refl
split_words (w ∷ []) h =
    ap (filter is_filled) (slice_split_none is_blank w
    (each_of is_blank false no_blank w h.0.plain))
    ∙ kept w [] h.0.filled
split_words (w ∷ x ∷ words) h =
    ap (filter is_filled) (slice_split_at is_blank w 32 (join_with_byte 32 (x ∷ words))
    (each_of is_blank false no_blank w h.0.plain) refl)
    ∙ kept w (slice_split is_blank (join_with_byte 32 (x ∷ words))) h.0.filled
    ∙ ap (λ ws. w ∷ ws) (split_words (x ∷ words) h.1)

pub words_joined : (words : Line) → PlainWords words → words_of (join_with_byte 32 words) ≡ words
unfolding words_of
words_joined words h =
    ap (λ line. filter is_filled (slice_split is_blank line))
    (before_none (λ byte. byte == 59) (join_with_byte 32 words)
    (each_joined (λ byte. byte == 59) false no_comment refl words h))
    ∙ split_words words h

-- ---- the bytes are allowed

allowed_word : (word : Word) → list_all is_plain word ≡ true → list_all is_allowed word ≡ true
allowed_word [] h = refl
allowed_word (b ∷ bs) h =
    let parts = and_parts (is_plain b) (list_all is_plain bs) h in
    and_from (is_allowed b) (list_all is_allowed bs) (plain_is_allowed b parts.0)
    (allowed_word bs parts.1)

space_allowed : is_allowed 32 ≡ true
unfolding is_allowed
space_allowed = refl

pub joined_allowed : (words : Line) → PlainWords words →
    list_all is_allowed (join_with_byte 32 words) ≡ true
joined_allowed [] h = refl
joined_allowed (w ∷ []) h = allowed_word w h.0.plain
joined_allowed (w ∷ x ∷ words) h =
    list_all-append is_allowed w (32 ∷ join_with_byte 32 (x ∷ words))
    ∙ and_from (list_all is_allowed w) (list_all is_allowed (32 ∷ join_with_byte 32 (x ∷ words)))
    (allowed_word w h.0.plain)
    (and_from (is_allowed 32) (list_all is_allowed (join_with_byte 32 (x ∷ words))) space_allowed
    (joined_allowed (x ∷ words) h.1))

-- ---- plain words

pub word_after : (front word : Word) → list_all is_plain front ≡ true → PlainWord word →
    PlainWord (front ++ word)
word_after [] word f h = h
word_after (b ∷ front) word f h =
    record {
      filled = refl;
      plain = list_all-append is_plain (b ∷ front) word
          ∙ and_from (list_all is_plain (b ∷ front)) (list_all is_plain word) f h.plain;
    }

pub PlainWords-append : (words more : Line) → PlainWords words → PlainWords more →
    PlainWords (words ++ more)
PlainWords-append [] more h k = k
PlainWords-append (w ∷ words) more h k = (h.0, PlainWords-append words more h.1 k)

pub word_before : (word back : Word) → PlainWord word → list_all is_plain back ≡ true →
    PlainWord (word ++ back)
word_before [] back h k = let none = h.filled in cc
word_before (b ∷ word) back h k = record {
  filled = refl;
  plain = list_all-append is_plain (b ∷ word) back
      ∙ and_from (list_all is_plain (b ∷ word)) (list_all is_plain back) h.plain k;
}
