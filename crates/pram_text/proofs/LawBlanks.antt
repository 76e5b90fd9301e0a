-- Comments and blanks at the ends of a line are no words.
use Rattle.std.proofs.Common.{◌≡◌, ℕ, true, false, ◌||◌, ◌&&◌, ◌==◌, List, [], ◌∷◌, ◌++◌, filter}
use Rattle.std.proofs.Common.{refl, sym, ap, subst, ◌∙◌, inl, inr, ⊎_elim, append-nil, eqb-true}
use Rattle.std.specs.List.{AllByRecursion, list_all, onto_first}
use Rattle.std.proofs.lemmas.Bool.{and_parts, or_cases, cases_Bool}
use Rattle.std.proofs.lemmas.List.Elements.{filter-append}
use Rattle.text_lines.specs.Lines.{words_of, is_allowed, is_blank, is_filled}
use Rattle.pram_text.proofs.LawAlike.{allowed}
use Rattle.text_lines.proofs.WordsOf.{parts_of, parts_of-semicolon, parts_of-blank}
use Rattle.text_lines.proofs.WordsOf.{parts_of-letter, has_part, words_of-blank}

abbrev Blanks : List ℕ → Type 0
Blanks bytes = AllByRecursion (λ b. is_blank b ≡ true) bytes

-- a byte starts a comment, or is a blank, or stands in a word
by_byte : (P : Type 0) (x : ℕ) → ((x == 59) ≡ true → P) → (is_blank x ≡ true → P) →
    (is_blank x ≡ false → (x == 59) ≡ false → P) → P
by_byte P x comment blank letter = ⊎_elim comment
    (λ no. ⊎_elim blank (λ other. letter other no) (cases_Bool (is_blank x))) (cases_Bool (x == 59))

-- ---- comments

parts_of-comment : (line comment : List ℕ) → parts_of (line ++ 59 ∷ comment) ≡ parts_of line
parts_of-comment [] comment = refl
parts_of-comment (x ∷ line) comment =
    let more = parts_of-comment line comment in by_byte _ x
    (λ e. parts_of-semicolon x (line ++ 59 ∷ comment) e ∙ sym (parts_of-semicolon x line e))
    (λ e. parts_of-blank x (line ++ 59 ∷ comment) e
    ∙ ap (λ parts. [] ∷ parts) more ∙ sym (parts_of-blank x line e))
    (λ e f. parts_of-letter x (line ++ 59 ∷ comment) e f ∙ ap (onto_first x) more
    ∙ sym (parts_of-letter x line e f))

pub comment_has_no_words : (line comment : List ℕ) → words_of line ≡ words_of (line ++ 59 ∷ comment)
unfolding words_of
comment_has_no_words line comment = ap (filter is_filled) (sym (parts_of-comment line comment))

-- ---- blanks after the words

-- the parts of a list with blanks after it are its own, and empty ones
record MoreEmpty (parts more : List (List ℕ)) : Type 0 where
  empty : List (List ℕ)
  is : more ≡ parts ++ empty
  none : filter is_filled empty ≡ []

parts_of-blanks : (blanks : List ℕ) → Blanks blanks → MoreEmpty ([] ∷ []) (parts_of blanks)
parts_of-blanks [] h = record { empty = []; is = refl; none = refl }
parts_of-blanks (b ∷ blanks) h =
    let m = parts_of-blanks blanks h.1 in
    record {
      empty = [] ∷ m.empty;
      is = parts_of-blank b blanks h.0 ∙ ap (λ parts. [] ∷ parts) m.is;
      none = m.none;
    }

parts_of-more : (line blanks : List ℕ) → Blanks blanks →
    MoreEmpty (parts_of line) (parts_of (line ++ blanks))
parts_of-more [] blanks h = parts_of-blanks blanks h
parts_of-more (x ∷ line) blanks h =
    let m = parts_of-more line blanks h in
    let onto : onto_first x (parts_of line ++ m.empty) ≡ onto_first x (parts_of line) ++ m.empty =
    subst (λ parts. onto_first x (parts ++ m.empty) ≡ onto_first x parts ++ m.empty)
    (sym (has_part line).parts) refl in
    by_byte _ x (λ e. record {
      empty = [];
      is = parts_of-semicolon x (line ++ blanks) e
          ∙ ap (λ parts. parts ++ []) (sym (parts_of-semicolon x line e));
      none = refl;
    })
    (λ e. record {
      empty = m.empty;
      is = parts_of-blank x (line ++ blanks) e ∙ ap (λ parts. [] ∷ parts) m.is
          ∙ ap (λ parts. parts ++ m.empty) (sym (parts_of-blank x line e));
      none = m.none;
    })
    (λ e f. record {
      empty = m.empty;
      is = parts_of-letter x (line ++ blanks) e f ∙ ap (onto_first x) m.is
          ∙ onto ∙ ap (λ parts. parts ++ m.empty) (sym (parts_of-letter x line e f));
      none = m.none;
    })

words_before_blanks : (line blanks : List ℕ) → Blanks blanks →
    words_of (line ++ blanks) ≡ words_of line
unfolding words_of
words_before_blanks line blanks h =
    let m = parts_of-more line blanks h in
    ap (filter is_filled) m.is ∙ filter-append is_filled (parts_of line) m.empty
    ∙ ap (λ none. filter is_filled (parts_of line) ++ none) m.none ∙ append-nil _

words_after_blanks : (blanks line : List ℕ) → Blanks blanks →
    words_of (blanks ++ line) ≡ words_of line
words_after_blanks [] line h = refl
words_after_blanks (b ∷ blanks) line h =
    words_of-blank b (blanks ++ line) h.0 ∙ words_after_blanks blanks line h.1

blanks_from : (blanks : List ℕ) → list_all is_blank blanks ≡ true → Blanks blanks
blanks_from [] e = tt
blanks_from (b ∷ blanks) e =
    let parts = and_parts (is_blank b) (list_all is_blank blanks) e in
    (parts.0, blanks_from blanks parts.1)

pub blanks_are_no_words : (left line right : List ℕ) → list_all is_blank left ≡ true →
    list_all is_blank right ≡ true → words_of line ≡ words_of (left ++ line ++ right)
blanks_are_no_words left line right l r =
    sym (words_before_blanks (left ++ line) right (blanks_from right r)
    ∙ words_after_blanks left line (blanks_from left l))

-- ---- whether the bytes are allowed

allowed_more : (line more : List ℕ) → allowed more ≡ true → allowed (line ++ more) ≡ allowed line
allowed_more [] more e = e
allowed_more (x ∷ line) more e = ap (λ b. is_allowed x && b) (allowed_more line more e)

allowed_front : (front line : List ℕ) → allowed front ≡ true →
    allowed (front ++ line) ≡ allowed line
allowed_front [] line e = refl
allowed_front (x ∷ front) line e =
    let parts = and_parts (is_allowed x) (allowed front) e in
    ap (λ b. b && allowed (front ++ line)) parts.0 ∙ allowed_front front line parts.1

pub comment_is_allowed : (line comment : List ℕ) → allowed comment ≡ true →
    allowed line ≡ allowed (line ++ 59 ∷ comment)
unfolding is_allowed
comment_is_allowed line comment e = sym (allowed_more line (59 ∷ comment) e)

blank_is_allowed : (b : ℕ) → is_blank b ≡ true → is_allowed b ≡ true
unfolding is_allowed
blank_is_allowed b e = elim (or_cases ((b == 32) || (b == 9)) (b == 13) e) [
  | inl two ↦ elim (or_cases (b == 32) (b == 9) two) [
    | inl one ↦ ap is_allowed (eqb-true b 32 one)
    | inr one ↦ ap is_allowed (eqb-true b 9 one)
  ]
  | inr one ↦ ap is_allowed (eqb-true b 13 one)
]

blanks_allowed : (blanks : List ℕ) → Blanks blanks → allowed blanks ≡ true
blanks_allowed [] h = refl
blanks_allowed (b ∷ blanks) h =
    ap (λ c. c && allowed blanks) (blank_is_allowed b h.0) ∙ blanks_allowed blanks h.1

pub blanks_are_allowed : (left line right : List ℕ) → list_all is_blank left ≡ true →
    list_all is_blank right ≡ true → allowed line ≡ allowed (left ++ line ++ right)
blanks_are_allowed left line right l r =
    sym (allowed_more (left ++ line) right (blanks_allowed right (blanks_from right r))
    ∙ allowed_front left line (blanks_allowed left (blanks_from left l)))
