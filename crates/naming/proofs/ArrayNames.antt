-- The variables of a program, by their cells.
use Rattle.std.proofs.Common.{◌≡◌, ◌≢◌, ◌∙◌, ◌+◌, ◌-◌, ◌*◌, ◌/◌, ◌%◌, ◌<◌, ◌≤◌, ℕ, zero, suc, Bool}
use Rattle.std.proofs.Common.{true, false, ◌==◌, ◌||◌, ◌&&◌, List, [], ◌∷◌, length, take, drop, get_or}
use Rattle.std.proofs.Common.{refl, sym, ap, arith, Option, Some, None, inl, inr, ◌⊎◌, ⊎_elim}
use Rattle.std.proofs.Math.Nat.{mul_comm}
use Rattle.std.specs.Char.{is_ascii_alphabetic, is_ascii_alphanumeric}
use Rattle.std.specs.List.{list_all}
use Rattle.std.specs.Option.{option_map, option_or}
use Rattle.std.specs.Prelude.{slice_get}
use Rattle.std.specs.Str.{IsAscii, IsUtf8}
use Rattle.std.proofs.lemmas.Bool.{and_parts, and_from, eq-eqb, ne_eqb, both_ways}
use Rattle.std.proofs.lemmas.Bool.Decides.{nat_tests}
use Rattle.std.proofs.lemmas.List.Sums.{sum_by-append}
use Rattle.std.proofs.lemmas.Str.{IsUtf8-from_ascii}
use Rattle.std.proofs.lemmas.Str.Ascii.{IsAscii-cons, IsAscii-nil}
use Rattle.text_lines.specs.Lines.{Word}
use Rattle.pram_job.specs.declared.instr.Array.{Array}
use Rattle.pram_text.specs.Judgement.{is_name}
use Rattle.job_text.specs.Printed.{is_same}
use Rattle.pardo_program.specs.Lawful.{AreArrays}
use Rattle.pardo_program.specs.Program.{ArrayData, PrivateData, ProgramData, shared_cells}
use Rattle.pardo_flat.specs.Layouts.{cells_of_array, private_cells, program_layout}
use Rattle.naming.specs.ArrayNames.{name_if, name_of_private, private_name, array_row}
use Rattle.naming.specs.ArrayNames.{shared_name}
use Rattle.naming.proofs.Rows.{begins_after}

-- ---- names are text

byte_small : (c : ℕ) → (is_ascii_alphanumeric c || (c == 95)) ≡ true → c < 128
byte_small c h = grind (arith, nat_tests)

first_small : (c : ℕ) → (is_ascii_alphabetic c || (c == 95)) ≡ true → c < 128
first_small c h = grind (arith, nat_tests)

bytes_small : (word : Word) →
    list_all (λ byte. is_ascii_alphanumeric byte || (byte == 95)) word ≡ true → IsAscii word
bytes_small [] h = IsAscii-nil
bytes_small (c ∷ cs) h =
    let parts = and_parts (is_ascii_alphanumeric c || (c == 95))
    (list_all (λ byte. is_ascii_alphanumeric byte || (byte == 95)) cs) h in
    IsAscii-cons c cs (byte_small c parts.0) (bytes_small cs parts.1)

pub name_is_text : (word : Word) → is_name word ≡ true → IsUtf8 word
unfolding is_name
name_is_text [] h = absurd (both_ways false refl h)
name_is_text (c ∷ cs) h =
    let parts = and_parts (is_ascii_alphabetic c || (c == 95))
    (list_all (λ byte. is_ascii_alphanumeric byte || (byte == 95)) cs) h in
    IsUtf8-from_ascii (c ∷ cs)
    (IsAscii-cons c cs (first_small c parts.0) (bytes_small cs parts.1))

-- ---- shared arrays

other_base : (cells array : Array) → cells.base ≢ array.base → is_same cells array ≡ false
other_base cells array other = rw (ne_eqb cells.base array.base other) refl

-- one that begins elsewhere has another name
passed_over : (held : ArrayData) (arrays : List ArrayData) (array : Array) →
    held.base ≢ array.base → shared_name (held ∷ arrays) array ≡ shared_name arrays array
passed_over held arrays array other = rw (other_base (cells_of_array held) array other) refl

none_named : (arrays : List ArrayData) (base : ℕ) (array : Array) → AreArrays arrays base →
    array.base < base → shared_name arrays array ≡ None
none_named [] base array are before = refl
none_named (held ∷ arrays) base array are before =
    passed_over held arrays array (λ e. omega (arith, e, are.0, before))
    ∙ none_named arrays (base + length held.start) array are.3 (omega (arith, before))

pub later_named : (arrays : List ArrayData) (base k : ℕ) (held : ArrayData) (array : Array) →
    AreArrays arrays base → k < length arrays → held ≡ get_or arrays k held →
    held.base ≤ array.base → shared_name (drop k arrays) array ≡ shared_name arrays array
later_named [] base k held array are lt is from = absurd (omega arith)
later_named (first ∷ arrays) base zero held array are lt is from = refl
later_named (first ∷ arrays) base (suc k) held array are lt is from =
    let begins = begins_after arrays (base + length first.start) k held are.3 (omega arith) is in
    later_named arrays (base + length first.start) k held array are.3 (omega arith) is from
    ∙ sym (passed_over first arrays array (λ e. omega (arith, are.0, are.1, begins, e, from)))

pub earlier_named : (arrays : List ArrayData) (base k : ℕ) (held : ArrayData) (array : Array) →
    AreArrays arrays base → k < length arrays → held ≡ get_or arrays k held →
    array.base < held.base → shared_name (take k arrays) array ≡ shared_name arrays array
earlier_named [] base k held array are lt is before = absurd (omega arith)
earlier_named (first ∷ arrays) base zero held array are lt is before =
    sym (none_named (first ∷ arrays) base array are
    (omega (arith, are.0, before, ap (λ (a : ArrayData). a.base) is)))
earlier_named (first ∷ arrays) base (suc k) held array are lt is before =
    ap (option_or (name_if first.name (cells_of_array first) array))
    (earlier_named arrays (base + length first.start) k held array are.3 (omega arith) is before)

-- the last one ends where they all do
pub ends_last : (arrays : List ArrayData) (base k : ℕ) (held : ArrayData) →
    AreArrays arrays base → k + 1 ≡ length arrays → held ≡ get_or arrays k held →
    held.base + length held.start ≡ base + shared_cells arrays
ends_last [] base k held are last is = absurd (omega (arith, last))
ends_last (first ∷ arrays) base zero held are last is =
    let none : length arrays ≡ 0 = omega (arith, last) in
    let nothing : arrays ≡ [] = empty arrays none in
    let same : held ≡ first = is in
    omega (
      arith,
      are.0,
      ap (λ (a : ArrayData). a.base) same,
      ap (λ (a : ArrayData). length a.start) same,
      ap shared_cells nothing,
      sum_by-append (λ (a : ArrayData). length a.start) (first ∷ []) arrays,
    )
  where
    empty : (xs : List ArrayData) → length xs ≡ 0 → xs ≡ []
    empty [] e = refl
    empty (x ∷ xs) e = absurd (omega (arith, e))
ends_last (first ∷ arrays) base (suc k) held are last is =
    omega (
      arith,
      sum_by-append (λ (a : ArrayData). length a.start) (first ∷ []) arrays,
      ends_last arrays (base + length first.start) k held are.3 (omega (arith, last)) is,
    )

other_len : (cells array : Array) → cells.len ≢ array.len → is_same cells array ≡ false
other_len cells array other = and_false (cells.base == array.base) (cells.len == array.len)
    (ne_eqb cells.len array.len other)
  where
    and_false : (b c : Bool) → c ≡ false → (b && c) ≡ false
    and_false true c e = e
    and_false false c e = refl

-- ---- rows

module _ (shared procs after : ℕ) (array : Array) (at : shared + after ≡ array.base) where
  abbrev which : ℕ
  which = (array.base - shared) / procs

  is_which : which ≡ after / procs
  is_which = ap (λ n. n / procs) (let same : array.base - shared ≡ after = omega (arith, at) in same)

  pub row_is : 0 < procs → after % procs ≡ 0 → array.len ≡ procs →
      is_same (record { base = shared + which * procs; len = procs }) array ≡ true
  row_is some whole len =
      and_from (shared + which * procs == array.base) (procs == array.len)
      (eq-eqb (shared + which * procs) array.base
      (omega (arith, at, whole, ap (λ n. n * procs) is_which, mul_comm procs (after / procs))))
      (eq-eqb procs array.len (sym len))

  pub row_is_not : 0 < procs → after % procs ≢ 0 →
      is_same (record { base = shared + which * procs; len = procs }) array ≡ false
  row_is_not some other = other_base _ array (λ e. other
      (omega (arith, at, e, ap (λ n. n * procs) is_which, mul_comm procs (after / procs))))

-- ---- private variables

not_same : (found : Option PrivateData) (cells array : Array) → is_same cells array ≡ false →
    name_of_private found cells array ≡ None
not_same None cells array other = refl
not_same (Some variable) cells array other = rw other refl

the_same : (found : Option PrivateData) (cells array : Array) → is_same cells array ≡ true →
    name_of_private found cells array ≡ option_map (λ (v : PrivateData). v.name) found
the_same None cells array same = refl
the_same (Some variable) cells array same = rw same refl

by_len : (program : ProgramData) (array : Array) (o : Option Word) →
    name_of_private (slice_get program.privates (array_row program array))
    (private_cells (program_layout program) (array_row program array)) array ≡ o →
    (array.len == 0) ≡ false → private_name program array ≡ o
by_len program array o is some = rw some is

pub no_place : (program : ProgramData) (array : Array) → array.len ≡ 0 →
    private_name program array ≡ None
no_place program array none = rw (eq-eqb array.len 0 none) refl

module _ (program : ProgramData) (array : Array) (some : array.len ≢ 0) where
  abbrev row_cells : Array
  row_cells = private_cells (program_layout program) (array_row program array)

  abbrev found : Option PrivateData
  found = slice_get program.privates (array_row program array)

  unnamed : is_same row_cells array ≡ false → private_name program array ≡ None
  unnamed other = by_len program array None (not_same found row_cells array other)
      (ne_eqb array.len 0 some)

  pub other_row : array.len ≢ program.procs → private_name program array ≡ None
  unfolding program_layout
  other_row other = unnamed (other_len row_cells array (λ e. other (sym e)))

  pub before_rows : array.base < shared_cells program.arrays → private_name program array ≡ None
  unfolding program_layout
  before_rows before = unnamed (other_base row_cells array
      (λ e. omega (arith, e, before)))

  module _ (after : ℕ) (at : shared_cells program.arrays + after ≡ array.base)
      (len : array.len ≡ program.procs) where
    some_procs : 0 < program.procs
    some_procs = ⊎_elim (λ e. absurd (some (len ∙ e))) (λ h. h) (zero_or program.procs)
      where
        zero_or : (n : ℕ) → (n ≡ 0) ⊎ (0 < n)
        zero_or zero = inl refl
        zero_or (suc n) = inr (omega arith)

    pub between_rows : after % array.len ≢ 0 → private_name program array ≡ None
    unfolding program_layout
    between_rows other = unnamed (row_is_not (shared_cells program.arrays) program.procs after
        array at some_procs (λ e. other (ap (λ n. after % n) len ∙ e)))

    pub in_row : after % array.len ≡ 0 → private_name program array
        ≡ option_map (λ (v : PrivateData). v.name) (slice_get program.privates (after / array.len))
    unfolding program_layout
    in_row whole = by_len program array _ (the_same found row_cells array
        (row_is (shared_cells program.arrays) program.procs after array at some_procs
        (sym (ap (λ n. after % n) len) ∙ whole) len)) (ne_eqb array.len 0 some)
        ∙ ap (λ x. option_map (λ (v : PrivateData). v.name) (slice_get program.privates x))
        (is_which (shared_cells program.arrays) program.procs after array at
        ∙ sym (ap (λ n. after / n) len))
