-- The words of a line, byte by byte and word by word.
use Rattle.std.proofs.Common.{◌≡◌, ℕ, zero, suc, ◌≤◌, ◌+◌, ◌<◌, Bool, true, false, not, ◌==◌}
use Rattle.std.proofs.Common.{List, [], ◌∷◌, take, drop, length, unwrap_or, Option, Some, None}
use Rattle.std.proofs.Common.{◌≢◌, drop_of_length-le, refl, sym, ap, ◌∙◌, arith, one-add}
use Rattle.std.specs.List.{position, position_or_len, before_first, slice_split, onto_first, filter}
use Rattle.std.proofs.lemmas.Grind.{common_steps}
use Rattle.std.proofs.lemmas.List.Sums.{prefix_len-le-length}
use Rattle.std.proofs.lemmas.List.Splits.{slice_split-cons_yes, slice_split-cons_no}
use Rattle.text_lines.specs.Lines.{Line, is_blank, is_filled, words_of}
use Rattle.text_lines.specs.Words.{ends_word}

-- the parts between the blanks before the first semicolon, empty ones too
abbrev pub parts_of : List ℕ → Line
parts_of line = slice_split is_blank (before_first (λ b. b == 59) line)

before-semicolon : (b : ℕ) (bs : List ℕ) → (b == 59) ≡ true →
    before_first (λ c. c == 59) (b ∷ bs) ≡ []
before-semicolon b bs e = rw e refl

before-other : (b : ℕ) (bs : List ℕ) → (b == 59) ≡ false →
    before_first (λ c. c == 59) (b ∷ bs) ≡ b ∷ before_first (λ c. c == 59) bs
before-other b bs e = rw e (rw one-add refl)

pub parts_of-semicolon : (b : ℕ) (bs : List ℕ) → (b == 59) ≡ true → parts_of (b ∷ bs) ≡ [] ∷ []
parts_of-semicolon b bs e = ap (slice_split is_blank) (before-semicolon b bs e)

blank_is_no_semicolon : (b : ℕ) → is_blank b ≡ true → (b == 59) ≡ false
blank_is_no_semicolon b e = grind arith

pub parts_of-blank : (b : ℕ) (bs : List ℕ) → is_blank b ≡ true →
    parts_of (b ∷ bs) ≡ [] ∷ parts_of bs
parts_of-blank b bs e = ap (slice_split is_blank) (before-other b bs (blank_is_no_semicolon b e))
    ∙ slice_split-cons_yes is_blank b (before_first (λ c. c == 59) bs) e

pub parts_of-letter : (b : ℕ) (bs : List ℕ) → is_blank b ≡ false → (b == 59) ≡ false →
    parts_of (b ∷ bs) ≡ onto_first b (parts_of bs)
parts_of-letter b bs e f = ap (slice_split is_blank) (before-other b bs f)
    ∙ slice_split-cons_no is_blank b (before_first (λ c. c == 59) bs) e

pub words_of-nil : words_of [] ≡ []
unfolding words_of
words_of-nil = refl

pub words_of-semicolon : (b : ℕ) (bs : List ℕ) → (b == 59) ≡ true → words_of (b ∷ bs) ≡ []
unfolding words_of
words_of-semicolon b bs e = ap (filter is_filled) (parts_of-semicolon b bs e)

pub words_of-blank : (b : ℕ) (bs : List ℕ) → is_blank b ≡ true → words_of (b ∷ bs) ≡ words_of bs
unfolding words_of
words_of-blank b bs e = ap (filter is_filled) (parts_of-blank b bs e)

-- how many blanks stand in front
abbrev pub blanks_in_front_of : List ℕ → ℕ
blanks_in_front_of line = position_or_len (λ b. not (is_blank b)) line

-- the blanks in front count for nothing
words_of-blanks : (line : List ℕ) → words_of (drop (blanks_in_front_of line) line) ≡ words_of line
words_of-blanks [] = refl
words_of-blanks (b ∷ bs) =
    let step : (v : Bool) → is_blank b ≡ v →
    words_of (drop (blanks_in_front_of (b ∷ bs)) (b ∷ bs)) ≡ words_of (b ∷ bs) =
    λ v. elim v as (λ v'.
    is_blank b ≡ v' → words_of (drop (blanks_in_front_of (b ∷ bs)) (b ∷ bs)) ≡ words_of (b ∷ bs)) [
      | true ↦ λ e. rw e (rw one-add (words_of-blanks bs ∙ sym (words_of-blank b bs e)))
      | false ↦ λ e. rw e refl
    ] in
    step (is_blank b) refl

-- the parts of a text that begins with a word: what the word's end leaves gives the words that
-- follow
pub record HasPart (s : List ℕ) (n : ℕ) : Type 0 where
  pub rest : Line
  pub parts : parts_of s ≡ take n s ∷ rest
  pub words : filter is_filled rest ≡ words_of (drop n s)

HasPart-cons : (b : ℕ) (bs : List ℕ) (n : ℕ) → is_blank b ≡ false → (b == 59) ≡ false →
    HasPart bs n → HasPart (b ∷ bs) (1 + n)
HasPart-cons b bs n e f h = record {
  rest = h.rest;
  parts = parts_of-letter b bs e f ∙ (rw h.parts (rw one-add refl));
  words = rw one-add h.words;
}

pub has_part : (s : List ℕ) → HasPart s (position_or_len ends_word s)
unfolding words_of
has_part [] = record { rest = []; parts = refl; words = refl }
has_part (b ∷ bs) =
    let at_blank : is_blank b ≡ true → HasPart (b ∷ bs) (position_or_len ends_word (b ∷ bs)) =
    λ e. rw e (record {
      rest = parts_of bs;
      parts = parts_of-blank b bs e;
      words = sym (words_of-blank b bs e);
    }) in
    let at_semicolon : is_blank b ≡ false →
    (b == 59) ≡ true → HasPart (b ∷ bs) (position_or_len ends_word (b ∷ bs)) =
    λ e f. rw (e, f) (record {
      rest = [];
      parts = parts_of-semicolon b bs f;
      words = sym (words_of-semicolon b bs f);
    }) in
    let at_letter : is_blank b ≡ false →
    (b == 59) ≡ false → HasPart (b ∷ bs) (position_or_len ends_word (b ∷ bs)) =
    λ e f. rw (e, f) (HasPart-cons b bs (position_or_len ends_word bs) e f (has_part bs)) in
    let inner : is_blank b ≡ false →
    (v : Bool) → (b == 59) ≡ v → HasPart (b ∷ bs) (position_or_len ends_word (b ∷ bs)) =
    λ e v. elim v as (λ v'. (b == 59) ≡ v' → HasPart (b ∷ bs)
    (position_or_len ends_word (b ∷ bs))) [ true ↦ at_semicolon e | false ↦ at_letter e ] in
    let outer : (v : Bool) → is_blank b ≡ v →
    HasPart (b ∷ bs) (position_or_len ends_word (b ∷ bs)) =
    λ v. elim v as (λ v'. is_blank b ≡ v' → HasPart (b ∷ bs) (position_or_len ends_word (b ∷ bs))) [
      | true ↦ at_blank
      | false ↦ λ e. inner e (b == 59) refl
    ] in
    outer (is_blank b) refl

-- a line's first word, where a word stands at its front
words_of-word : (s : List ℕ) (n : ℕ) → HasPart s n → 0 < n → n ≤ length s →
    words_of s ≡ take n s ∷ words_of (drop n s)
unfolding words_of
words_of-word [] n h some room = absurd (omega arith)
words_of-word (b ∷ bs) zero h some room = absurd (omega arith)
words_of-word (b ∷ bs) (suc n) h some room = rw h.parts (rw (← h.words) refl)

-- no word stands in a line whose first byte, no blank, ends a word
words_of-none : (s : List ℕ) → blanks_in_front_of s ≡ 0 →
    position_or_len ends_word s ≡ 0 → words_of s ≡ []
words_of-none [] e f = words_of-nil
words_of-none (b ∷ bs) e f =
    let blank : (v : Bool) → is_blank b ≡ v → is_blank b ≡ false =
    λ v. elim v as (λ v'. is_blank b ≡ v' → is_blank b ≡ false) [
      | true ↦
          λ g. absurd (let one : 1 + blanks_in_front_of bs ≡ 0 = rw g at e in omega (arith, one))
      | false ↦ λ g. g
    ] in
    let no_blank : is_blank b ≡ false = blank (is_blank b) refl in
    let semicolon : (v : Bool) → (b == 59) ≡ v → (b == 59) ≡ true =
    λ v. elim v as (λ v'. (b == 59) ≡ v' → (b == 59) ≡ true) [
      | true ↦ λ g. g
      | false ↦ λ g. absurd (let one : 1 + position_or_len ends_word bs ≡ 0 =
          rw (no_blank, g) at f in omega (arith, one))
    ] in
    words_of-semicolon b bs (semicolon (b == 59) refl)

-- what follows the blanks in front begins with no blank
blanks_in_front_of-drop : (line : List ℕ) →
    blanks_in_front_of (drop (blanks_in_front_of line) line) ≡ 0
blanks_in_front_of-drop [] = refl
blanks_in_front_of-drop (b ∷ bs) =
    let step : (v : Bool) → is_blank b ≡ v →
    blanks_in_front_of (drop (blanks_in_front_of (b ∷ bs)) (b ∷ bs)) ≡ 0 = λ v. elim v as (λ v'.
    is_blank b ≡ v' → blanks_in_front_of (drop (blanks_in_front_of (b ∷ bs)) (b ∷ bs)) ≡ 0) [
      | true ↦ λ e. rw e (rw one-add (blanks_in_front_of-drop bs))
      | false ↦ λ e. rw (e, e) refl
    ] in
    step (is_blank b) refl

-- `position`, as the number of elements in front
position_or_len-None : (p : ℕ → Bool) (xs : List ℕ) → position p xs ≡ None →
    position_or_len p xs ≡ length xs
position_or_len-None p xs e =
    let room : position_or_len p xs ≤ length xs = prefix_len-le-length (λ x. not (p x)) xs in
    grind (arith, common_steps)

position_or_len-Some : (p : ℕ → Bool) (xs : List ℕ) (i : ℕ) →
    position p xs ≡ Some i → position_or_len p xs ≡ i
position_or_len-Some p xs i e = grind (arith, common_steps)

position_or_len-from : (p : ℕ → Bool) (xs : List ℕ) →
    unwrap_or (position p xs) (length xs) ≡ position_or_len p xs
position_or_len-from p xs =
    let room : position_or_len p xs ≤ length xs = prefix_len-le-length (λ x. not (p x)) xs in
    grind (arith, common_steps)

-- A line of blanks has no word.
pub words_of-all_blank : (line : List ℕ) →
    position (λ b. not (is_blank b)) line ≡ None → words_of line ≡ []
words_of-all_blank line e =
    let all : blanks_in_front_of line ≡ length line =
    position_or_len-None (λ b. not (is_blank b)) line e in
    let rest : words_of (drop (blanks_in_front_of line) line) ≡ [] =
    rw all (let none : drop (length line) line ≡ [] = drop_of_length-le line (omega arith) in
    rw none words_of-nil) in
    sym (words_of-blanks line) ∙ rest

-- Where the first word of a line starts, blanks aside, and how long it is.
pub record StartsWord (line s : List ℕ) (n : ℕ) : Type 0 where
  pub start : ℕ
  pub end : Option ℕ
  pub first : Some start ≡ position (λ b. not (is_blank b)) line
  pub rest : s ≡ drop start line
  pub ends : end ≡ position ends_word s
  pub len : n ≡ unwrap_or end (length s)

StartsWord-rest : (line s : List ℕ) (n : ℕ) → StartsWord line s n →
    s ≡ drop (blanks_in_front_of line) line
StartsWord-rest line s n h =
    let begin : blanks_in_front_of line ≡ h.start =
    position_or_len-Some (λ b. not (is_blank b)) line h.start (sym h.first) in
    rw begin h.rest

StartsWord-len : (line s : List ℕ) (n : ℕ) → StartsWord line s n → n ≡ position_or_len ends_word s
StartsWord-len line s n h = h.len ∙ (rw h.ends (position_or_len-from ends_word s))

-- A line whose first byte, blanks aside, is a semicolon has no word.
pub words_of-no_first : (line s : List ℕ) (n : ℕ) → StartsWord line s n → n ≡ 0 → words_of line ≡ []
words_of-no_first line s n h none =
    let here : s ≡ drop (blanks_in_front_of line) line = StartsWord-rest line s n h in
    let first : blanks_in_front_of s ≡ 0 = rw here (blanks_in_front_of-drop line) in
    let ends : position_or_len ends_word s ≡ 0 = sym (StartsWord-len line s n h) ∙ none in
    sym (words_of-blanks line) ∙ (rw (← here) (words_of-none s first ends))

-- The first word stands after the blanks in front, and ends at the next blank or semicolon.
pub words_of-first : (line s : List ℕ) (n : ℕ) → StartsWord line s n → n ≢ 0 →
    words_of line ≡ take n s ∷ words_of (drop n s)
words_of-first line s n h some =
    let here : s ≡ drop (blanks_in_front_of line) line = StartsWord-rest line s n h in
    let len : n ≡ position_or_len ends_word s = StartsWord-len line s n h in
    let room : n ≤ length s = rw len (prefix_len-le-length (λ x. not (ends_word x)) s) in
    let part : HasPart s n = rw len (has_part s) in
    sym (words_of-blanks line) ∙ (rw (← here) (words_of-word s n part (omega arith) room))
