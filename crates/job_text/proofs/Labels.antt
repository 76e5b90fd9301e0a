-- The lines of instructions and their labels.
use Rattle.std.proofs.Common.{◌≡◌, ◌≢◌, ℕ, zero, suc, ◌<◌, ◌≤◌, ◌^◌, ◌+◌, ◌-◌, Bool, true, false}
use Rattle.std.proofs.Common.{◌==◌, List, [], ◌∷◌, ◌++◌, length, Option, Some, None}
use Rattle.std.proofs.Common.{refl, sym, ap, ap₂, subst, ◌∙◌, arith, decimal, bytes_eq}
use Rattle.std.proofs.Common.{if◌then◌else◌, cond, get_or, slice_index, take}
use Rattle.std.proofs.Common.{IfSome, IsTrue, nat_lt, ⊎_elim}
use Rattle.std.specs.List.{position_or_len}
use Rattle.std.proofs.lemmas.Bool.{cases_eq, lt-ltb, false_from_ne_true}
use Rattle.std.proofs.lemmas.Fmt.{decimal_injective}
use Rattle.std.proofs.lemmas.List.{get_or_push, take_at, length_push}
use Rattle.std.proofs.lemmas.Slice.Eq.{bytes_eq-Decides}
use Rattle.pram_job.specs.declared.instr.Instr.{Instr}
use Rattle.pram_job.specs.declared.instr.Instr.TheVariants.{Halt}
use Rattle.pram_job.specs.Instructions.{row_of}
use Rattle.pram_text.specs.Judgement.{is_label, is_name, label_of, unlabelled}
use Rattle.text_lines.specs.Lines.{Word, Line}
use Rattle.pram_text.specs.Text.{defines, label_index, is_named, IsLabelled}
use Rattle.job_text.specs.Printed.{ArrayWords, label, instruction_line, printed_instructions, operand_words}
use Rattle.job_text.proofs.Naming.{letter_name}
use Rattle.job_text.proofs.Header.{bytes_same}
use Rattle.job_text.proofs.Instructions.{words_for}

-- ---- one line

-- the last byte of a word, and what stands before it
colon_last : (word : Word) →
    slice_index (word ++ 58 ∷ []) (length (word ++ 58 ∷ []) - 1) ≡ 58
colon_last word = get_or_push word 58 0 (length (word ++ 58 ∷ []) - 1)
    (omega (arith, length_push word 58))

colon_off : (word : Word) → take (length (word ++ 58 ∷ []) - 1) (word ++ 58 ∷ []) ≡ word
colon_off word = take_at word (58 ∷ []) (length (word ++ 58 ∷ []) - 1)
    (omega (arith, length_push word 58))

is_label-colon : (word : Word) → is_label (word ++ 58 ∷ []) ≡ true
is_label-colon word = ap (λ byte. byte == 58) (colon_last word)

name_is_no_label : (instr : Instr) → is_label (row_of instr).0 ≡ false
name_is_no_label Halt = refl
name_is_no_label _ = refl

pub unlabelled_read : (words : ArrayWords) (b : Bool) (index : ℕ) (instr : Instr) →
    unlabelled (instruction_line words b index instr) ≡ words_for words instr
unfolding unlabelled
unlabelled_read words true index instr =
    ap (λ is. if is then words_for words instr else (label index ++ 58 ∷ []) ∷ words_for words instr)
    (is_label-colon (label index))
unlabelled_read words false index instr =
    ap (λ is. if is then operand_words words (row_of instr).1 else words_for words instr)
    (name_is_no_label instr)

abbrev label_if : Bool → ℕ → Option Word
label_if b index = if b then Some (label index) else None

pub label_read : (words : ArrayWords) (b : Bool) (index : ℕ) (instr : Instr) →
    label_of (instruction_line words b index instr) ≡ label_if b index
unfolding label_of
label_read words true index instr =
    ap₂ (λ is word. if is then Some word else None) (is_label-colon (label index))
    (colon_off (label index))
label_read words false index instr =
    ap (λ is. if is then Some (take (length (row_of instr).0 - 1) (row_of instr).0) else None)
    (name_is_no_label instr)

-- ---- labels

label_once : (i j : ℕ) → i < 2 ^ 64 → j < 2 ^ 64 → label i ≡ label j → i ≡ j
label_once i j h k e =
    let same : decimal i ≡ decimal j = cc in decimal_injective i j h k same

other_label : (i j : ℕ) → i < 2 ^ 64 → j < 2 ^ 64 → (i ≡ j → ⊥) →
    bytes_eq (label i) (label j) ≡ false
other_label i j h k other = false_from_ne_true (bytes_eq (label i) (label j))
    (λ e. other (label_once i j h k ((bytes_eq-Decides (label i) (label j)).0 e)))

module _ (words : ArrayWords) (aim : ℕ → Bool) where
  pub length-lines : (n : ℕ) (code : List Instr) →
      length (printed_instructions words aim n code) ≡ length code
  length-lines n [] = refl
  length-lines n (instr ∷ code) = ap suc (length-lines (n + 1) code)

  label_at : (n k : ℕ) (d : Line) (code : List Instr) → k < length code →
      label_of (get_or (printed_instructions words aim n code) k d) ≡ label_if (aim (n + k)) (n + k)
  label_at n k d [] h = absurd (omega (arith, h))
  label_at n zero d (instr ∷ code) h =
      let at : n ≡ n + 0 = omega arith in
      label_read words (aim n) n instr ∙ ap (λ m. label_if (aim m) m) at
  label_at n (suc k) d (instr ∷ code) h =
      let at : n + 1 + k ≡ n + suc k = omega arith in
      label_at (n + 1) k d code (omega (arith, h)) ∙ ap (λ m. label_if (aim m) m) at

  -- the place of a label that is aimed at
  label_place : (i n : ℕ) (code : List Instr) → aim i ≡ true → n ≤ i → i < n + length code →
      n + length code < 2 ^ 64 →
      n + position_or_len (defines (label i)) (printed_instructions words aim n code) ≡ i
  label_place i n [] aimed low high few = absurd (omega (arith, low, high))
  label_place i n (instr ∷ code) aimed low high few =
      ⊎_elim
      (λ e. rw (here e) (omega (arith, e)))
      (λ other. rw (there other) (omega (
        arith,
        label_place i (n + 1) code aimed
            (omega (arith, low, other)) (omega (arith, high)) (omega (arith, few)),
      )))
      (cases_eq n i)
    where
      defined : defines (label i) (instruction_line words (aim n) n instr)
          ≡ is_named (label_if (aim n) n) (label i)
      defined = ap (λ o. is_named o (label i)) (label_read words (aim n) n instr)

      here : n ≡ i → defines (label i) (instruction_line words (aim n) n instr) ≡ true
      here e = defined ∙ ap (λ m. is_named (label_if (aim m) m) (label i)) e
          ∙ ap (λ b. is_named (label_if b i) (label i)) aimed ∙ bytes_same (label i)

      there : (n ≡ i → ⊥) → defines (label i) (instruction_line words (aim n) n instr) ≡ false
      there other = defined ∙ by_test (aim n)
        where
          by_test : (b : Bool) → is_named (label_if b n) (label i) ≡ false
          by_test true =
              other_label n i (omega (arith, few)) (omega (arith, high, few)) other
          by_test false = refl

  pub label_found : (i : ℕ) (code : List Instr) → aim i ≡ true → i < length code →
      length code ≤ 4096 → label_index (printed_instructions words aim 0 code) (label i) ≡ Some i
  label_found i code aimed low few =
      let place = label_place i 0 code aimed (omega arith) (omega (arith, low))
      (omega (arith, few)) in
      let at : position_or_len (defines (label i)) (printed_instructions words aim 0 code) ≡ i =
      omega (arith, place) in
      let len = length-lines 0 code in
      ap (λ p. cond (nat_lt p (length (printed_instructions words aim 0 code))) (Some p) None) at
      ∙ ap (λ b. cond b (Some i) None)
      (lt-ltb i (length (printed_instructions words aim 0 code)) (omega (arith, len, low)))

  name_if : (b : Bool) (i : ℕ) → i < 2 ^ 64 →
      IfSome (label_if b i) (λ word. IsTrue (is_name word))
  name_if true i h = letter_name i h
  name_if false i h = tt

  apart_if : (b c : Bool) (i j : ℕ) → i < 2 ^ 64 → j < 2 ^ 64 → i < j → (word : Word) →
      label_if b i ≡ Some word → label_if c j ≢ Some word
  apart_if true true i j h k less word e f =
      let one : label i ≡ label j = cc in absurd (omega (arith, less, label_once i j h k one))
  apart_if true false i j h k less word e f = cc
  apart_if false c i j h k less word e f = cc

  pub labelled : (code : List Instr) → length code ≤ 4096 →
      IsLabelled (printed_instructions words aim 0 code)
  labelled code few =
      let len = length-lines 0 code in
      record {
        few = omega (arith, few, len);
        names = λ k d low.
            let within : k < length code = omega (arith, low, len) in
            subst (λ o. IfSome o (λ word. IsTrue (is_name word)))
            (sym (label_at 0 k d code within))
            (name_if (aim (0 + k)) (0 + k) (omega (arith, within, few)));
        once = λ i j d less low word e f.
            let within : j < length code = omega (arith, low, len) in
            apart_if (aim (0 + i)) (aim (0 + j)) (0 + i) (0 + j) (omega (arith, within, few, less))
            (omega (arith, within, few)) (omega (arith, less)) word
            (sym (label_at 0 i d code (omega (arith, within, less))) ∙ e)
            (sym (label_at 0 j d code within) ∙ f);
      }
