-- Arrays, their names, and each of them once.
use Rattle.std.proofs.Common.{◌≡◌, ℕ, ◌<◌, ◌≤◌, ◌^◌, ◌-◌, Bool, true, false, not}
use Rattle.std.proofs.Common.{◌||◌, ◌==◌, List, [], ◌∷◌, ◌++◌, map, Ok, Option, Some}
use Rattle.std.proofs.Common.{refl, sym, ap, subst, ◌∙◌, arith, codes, decimal, bytes_eq}
use Rattle.std.proofs.Common.{append_assoc, ⊎_elim, ◌&&◌, is_err}
use Rattle.std.specs.Char.{is_ascii_digit, is_ascii_alphanumeric, is_ascii_alphabetic}
use Rattle.std.specs.List.{AllByRecursion, list_all, list_any, filter}
use Rattle.std.specs.Option.{option_or}
use Rattle.std.proofs.lemmas.Bool.{and_parts, and_from, cases_Bool, eqb-true, eq-eqb, not-true}
use Rattle.std.proofs.lemmas.Bool.{false_from_ne_true, cond-true, cond-false, cond_both}
use Rattle.std.proofs.lemmas.Bool.{not_from_false, not_from_true, both_ways}
use Rattle.std.proofs.lemmas.Fmt.{decimal_injective}
use Rattle.std.proofs.lemmas.List.Folds.{list_all-append}
use Rattle.std.proofs.lemmas.Slice.Eq.{bytes_eq-Decides}
use Rattle.pram_job.specs.declared.instr.Array.{Array}
use Rattle.pram_job.specs.Instructions.{IsArray}
use Rattle.pram_text.specs.Judgement.{Entry, names, entry_of, array_of, is_array_name, is_name}
use Rattle.pram_text.specs.Judgement.{number_in, register_of, says_array}
use Rattle.text_lines.specs.Lines.{Word}
use Rattle.pram_text.specs.Text.{array_in, array_by}
use Rattle.pram_text.proofs.Lists.{NonePasses, cut_once}
use Rattle.job_text.specs.Printed.{ArrayWords, AreArrayWords, array_word, array_line}
use Rattle.job_text.specs.Printed.{is_same, once}
use Rattle.job_text.proofs.Header.{bytes_same}
use Rattle.job_text.proofs.Lines.{PlainLines}
use Rattle.job_text.proofs.Numbers.{decimal_digits, decimal_plain, decimal_in}
use Rattle.job_text.proofs.Plain.{PlainWord, word_after, is_plain}

-- ---- the name of an array

pub record SmallArray (array : Array) : Type 0 where
  pub base : array.base < 2 ^ 64
  pub len : array.len < 2 ^ 64

abbrev name_byte : ℕ → Bool
name_byte byte = is_ascii_alphanumeric byte || (byte == 95)

digit_in_name : (c : ℕ) → is_ascii_digit c ≡ true → name_byte c ≡ true
digit_in_name c h = rw h refl

digits_in_name : (word : Word) → list_all is_ascii_digit word ≡ true →
    list_all name_byte word ≡ true
digits_in_name [] h = refl
digits_in_name (c ∷ cs) h =
    let parts = and_parts (is_ascii_digit c) (list_all is_ascii_digit cs) h in
    and_from (name_byte c) (list_all name_byte cs) (digit_in_name c parts.0)
    (digits_in_name cs parts.1)

-- a letter, and digits after it
pub letter_name : (n : ℕ) → n < 2 ^ 64 → is_name (76 ∷ decimal n) ≡ true
unfolding is_name
letter_name n h = digits_in_name (decimal n) (decimal_digits n h)

array_name : (array : Array) → SmallArray array → is_array_name (array_word array) ≡ true
unfolding is_array_name is_name
array_name array h =
    list_all-append name_byte (decimal array.base ++ codes "_") (decimal array.len)
    ∙ and_from (list_all name_byte (decimal array.base ++ codes "_"))
    (list_all name_byte (decimal array.len))
    (list_all-append name_byte (decimal array.base) (codes "_")
    ∙ and_from (list_all name_byte (decimal array.base)) (list_all name_byte (codes "_"))
    (digits_in_name (decimal array.base) (decimal_digits array.base h.base)) refl)
    (digits_in_name (decimal array.len) (decimal_digits array.len h.len))

digit_is_no_bar : (c : ℕ) → is_ascii_digit c ≡ true → (c == 95) ≡ false
digit_is_no_bar c h = grind arith

no_bars : (word : Word) → list_all is_ascii_digit word ≡ true → NonePasses (λ b. b == 95) word
no_bars [] h = tt
no_bars (c ∷ cs) h =
    let parts = and_parts (is_ascii_digit c) (list_all is_ascii_digit cs) h in
    (digit_is_no_bar c parts.0, no_bars cs parts.1)

same_array : (a b : Array) → a.base ≡ b.base → a.len ≡ b.len → a ≡ b
same_array a b base len = λ i. record { base = base i; len = len i }

-- arrays of one name are one
pub word_once : (a b : Array) → SmallArray a → SmallArray b → array_word a ≡ array_word b → a ≡ b
word_once a b h k e =
    let tails : (decimal a.base ++ codes "_") ++ decimal a.len
    ≡ (decimal b.base ++ codes "_") ++ decimal b.len = cc in
    let cut = cut_once (λ c. c == 95) (decimal a.base) 95 (decimal a.len) (decimal b.base) 95
    (decimal b.len) (no_bars (decimal a.base) (decimal_digits a.base h.base)) refl
    (no_bars (decimal b.base) (decimal_digits b.base k.base)) refl
    (sym (append_assoc (decimal a.base) (codes "_") (decimal a.len)) ∙ tails
    ∙ append_assoc (decimal b.base) (codes "_") (decimal b.len)) in
    same_array a b (decimal_injective a.base b.base h.base k.base cut.0)
    (decimal_injective a.len b.len h.len k.len cut.1)

pub is_same-true : (a b : Array) → is_same a b ≡ true → a ≡ b
is_same-true a b h =
    let parts = and_parts (a.base == b.base) (a.len == b.len) h in
    same_array a b (eqb-true a.base b.base parts.0) (eqb-true a.len b.len parts.1)

pub is_same-itself : (a : Array) → is_same a a ≡ true
is_same-itself a = and_from (a.base == a.base) (a.len == a.len) (eq-eqb a.base a.base refl)
    (eq-eqb a.len a.len refl)

pub small_array : (cells : ℕ) → cells ≤ 1048576 → (array : Array) → IsArray cells array →
    SmallArray array
small_array cells few array h = record {
  base = omega (arith, few, h.0, h.1);
  len = omega (arith, few, h.0, h.1);
}

pub array_words_lawful : (cells : ℕ) → cells ≤ 1048576 → AreArrayWords cells array_word
array_words_lawful cells few = record {
  names = λ a h. array_name a (small_array cells few a h);
  differ = λ a b h k e. word_once a b (small_array cells few a h) (small_array cells few b k) e;
}

-- ---- names are plain words

name_byte_plain : (c : ℕ) → name_byte c ≡ true → is_plain c ≡ true
name_byte_plain c h = grind arith

first_plain : (c : ℕ) → (is_ascii_alphabetic c || (c == 95)) ≡ true → is_plain c ≡ true
first_plain c h = grind arith

name_bytes_plain : (word : Word) → list_all name_byte word ≡ true → list_all is_plain word ≡ true
name_bytes_plain [] h = refl
name_bytes_plain (c ∷ cs) h =
    let parts = and_parts (name_byte c) (list_all name_byte cs) h in
    and_from (is_plain c) (list_all is_plain cs) (name_byte_plain c parts.0)
    (name_bytes_plain cs parts.1)

name_plain : (word : Word) → is_name word ≡ true → PlainWord word
unfolding is_name
name_plain [] h = absurd (both_ways false refl h)
name_plain (c ∷ cs) h =
    let parts = and_parts (is_ascii_alphabetic c || (c == 95)) (list_all name_byte cs) h in
    record {
      filled = refl;
      plain = and_from (is_plain c) (list_all is_plain cs) (first_plain c parts.0)
          (name_bytes_plain cs parts.1);
    }

array_name_plain : (word : Word) → is_array_name word ≡ true → PlainWord word
unfolding is_array_name
array_name_plain [] h = absurd (both_ways false refl h)
array_name_plain (c ∷ cs) h = ⊎_elim
    (λ dot. let rest : is_name cs ≡ true = rw dot at h in
    let at : c ≡ 46 = eqb-true c 46 dot in
    subst (λ b. PlainWord (b ∷ cs)) (sym at)
    (word_after (46 ∷ []) cs refl (name_plain cs rest)))
    (λ other. let both : (is_name (c ∷ cs) && is_err (register_of (c ∷ cs))) ≡ true =
    rw other at h in
    name_plain (c ∷ cs) (and_parts (is_name (c ∷ cs)) (is_err (register_of (c ∷ cs))) both).0)
    (cases_Bool (c == 46))

-- ---- each of them once

abbrev pub other_than : Array → Array → Bool
other_than a b = not (is_same a b)

filtered : (test : Array → Bool) (P : Array → Type 0) (arrays : List Array) →
    AllByRecursion P arrays → AllByRecursion P (filter test arrays)
filtered test P [] h = tt
filtered test P (a ∷ arrays) h =
    let more = filtered test P arrays h.1 in
    cond_both (test a) (a ∷ filter test arrays) (filter test arrays)
    (λ kept. AllByRecursion P kept) (λ e. (h.0, more)) (λ e. more)

pub once_keeps : (P : Array → Type 0) (arrays : List Array) → AllByRecursion P arrays →
    AllByRecursion P (once arrays)
once_keeps P [] h = tt
once_keeps P (a ∷ arrays) h =
    (h.0, filtered (other_than a) P (once arrays) (once_keeps P arrays h.1))

-- ---- by words

abbrev pub named : ArrayWords → Array → Entry
named words array = names (words array) array

-- no two have one name
abbrev pub AreApart : ArrayWords → List Array → Type 0
AreApart words [] = Unit {0}
AreApart words (a ∷ arrays) =
    AllByRecursion (λ b. bytes_eq (words a) (words b) ≡ false) arrays × AreApart words arrays

filtered_apart : (words : ArrayWords) (test : Array → Bool) (arrays : List Array) →
    AreApart words arrays → AreApart words (filter test arrays)
filtered_apart words test [] h = tt
filtered_apart words test (a ∷ arrays) h =
    let more = filtered_apart words test arrays h.1 in
    cond_both (test a) (a ∷ filter test arrays) (filter test arrays) (AreApart words)
    (λ e. (filtered test (λ b. bytes_eq (words a) (words b) ≡ false) arrays h.0, more))
    (λ e. more)

-- ---- by words that are lawful

module _ (cells : ℕ) (few : cells ≤ 1048576) (words : ArrayWords) (are : AreArrayWords cells words)
  where
    apart : (a b : Array) → IsArray cells a → IsArray cells b → is_same a b ≡ false →
        bytes_eq (words a) (words b) ≡ false
    apart a b h k other = false_from_ne_true (bytes_eq (words a) (words b)) (λ one.
        let same : a ≡ b =
        are.differ a b h k ((bytes_eq-Decides (words a) (words b)).0 one) in
        both_ways (is_same a b) other (subst (λ c. is_same a c ≡ true) same (is_same-itself a)))

    -- ---- the line of an array

    pub array_read : (array : Array) → IsArray cells array →
        entry_of true cells (array_line words array) ≡ Ok (names (words array) array)
    unfolding entry_of array_of says_array
    array_read array h =
        let small = small_array cells few array h in
        let base : number_in 0 (cells - 1) (decimal array.base) ≡ Ok array.base =
        decimal_in 0 (cells - 1) array.base small.base (omega arith) (omega (arith, h.0, h.1)) in
        let len : number_in 1 (cells - array.base) (decimal array.len) ≡ Ok array.len =
        decimal_in 1 (cells - array.base) array.len small.len h.0 (omega (arith, h.0, h.1)) in
        rw (are.names array h) (rw base (rw len refl))

    pub array_plain : (array : Array) → IsArray cells array → PlainWord (words array)
    array_plain array h = array_name_plain (words array) (are.names array h)

    pub arrays_plain : (arrays : List Array) → AllByRecursion (IsArray cells) arrays →
        PlainLines (map (array_line words) arrays)
    arrays_plain [] h = tt
    arrays_plain (array ∷ arrays) h = (
      record {
        filled = refl;
        plain = (
          record { filled = refl; plain = refl },
          (
            array_plain array h.0,
            (
              decimal_plain array.base (small_array cells few array h.0).base,
              (decimal_plain array.len (small_array cells few array h.0).len, tt),
            ),
          ),
        );
      },
      arrays_plain arrays h.1,
    )

    others_apart : (a : Array) (arrays : List Array) → IsArray cells a →
        AllByRecursion (IsArray cells) arrays →
        AllByRecursion (λ b. bytes_eq (words a) (words b) ≡ false)
        (filter (other_than a) arrays)
    others_apart a [] h k = tt
    others_apart a (b ∷ arrays) h k =
        let more = others_apart a arrays h k.1 in
        cond_both (other_than a b) (b ∷ filter (other_than a) arrays) (filter (other_than a) arrays)
        (λ kept. AllByRecursion (λ b. bytes_eq (words a) (words b) ≡ false) kept)
        (λ e. (apart a b h k.0 (not-true (is_same a b) e), more)) (λ e. more)

    pub once_apart : (arrays : List Array) → AllByRecursion (IsArray cells) arrays →
        AreApart words (once arrays)
    once_apart [] h = tt
    once_apart (a ∷ arrays) h = (
      others_apart a (once arrays) h.0 (once_keeps (IsArray cells) arrays h.1),
      filtered_apart words (other_than a) (once arrays) (once_apart arrays h.1),
    )

    -- ---- what a name stands for

    module _ (rest : List Entry) (a : Array) (fits : IsArray cells a) where
      -- what the name stands for among these and the rest
      abbrev stands : List Array → Option Array
      stands arrays = array_in (map (named words) arrays ++ rest) (words a)

      stands_past : (b : Array) (arrays : List Array) → IsArray cells b → is_same b a ≡ false →
          stands (b ∷ arrays) ≡ stands arrays
      stands_past b arrays h other = rw (apart b a h fits other) refl

      stands_here : (b : Array) (arrays : List Array) → is_same b a ≡ true →
          stands (b ∷ arrays) ≡ Some a
      stands_here b arrays one =
          let same : b ≡ a = is_same-true b a one in
          subst (λ c. stands (c ∷ arrays) ≡ Some a) (sym same) (rw (bytes_same (words a)) refl)

      without_others : (b : Array) (arrays : List Array) → IsArray cells b → is_same b a ≡ false →
          AllByRecursion (IsArray cells) arrays → stands (filter (other_than b) arrays) ≡ stands arrays
      without_others b [] h other k = refl
      without_others b (c ∷ arrays) h other k =
          let more = without_others b arrays h other k.1 in
          let kept = filter (other_than b) arrays in
          ⊎_elim
          (λ e. ap stands (cond-false (other_than b c) (c ∷ kept) kept
          (not_from_true (is_same b c) e))
          ∙ more ∙ sym (stands_past c arrays k.0
          (subst (λ d. is_same d a ≡ false) (is_same-true b c e) other)))
          (λ e. ap stands (cond-true (other_than b c) (c ∷ kept) kept
          (not_from_false (is_same b c) e))
          ∙ ap (option_or (array_by (named words c) (words a))) more)
          (cases_Bool (is_same b c))

      pub once_stands : (arrays : List Array) → AllByRecursion (IsArray cells) arrays →
          list_any (λ b. is_same b a) arrays ≡ true → stands (once arrays) ≡ Some a
      once_stands [] h among = absurd (both_ways false refl among)
      once_stands (b ∷ arrays) h among =
          let more = once_stands arrays h.1 in
          ⊎_elim (λ e. stands_here b (filter (other_than b) (once arrays)) e)
          (λ e. stands_past b (filter (other_than b) (once arrays)) h.0 e
          ∙ without_others b (once arrays) h.0 e (once_keeps (IsArray cells) arrays h.1)
          ∙ more (rw e at among)) (cases_Bool (is_same b a))
