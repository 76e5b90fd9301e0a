-- Arrays whose cells follow one another, and the one that has a cell.
use Rattle.std.proofs.Common.{◌≡◌, ◌∙◌, ◌+◌, ◌-◌, ◌<◌, ◌≤◌, ℕ, zero, suc, Bool, true, false}
use Rattle.std.proofs.Common.{List, [], ◌∷◌, length, take, drop, get_or, refl, sym, ap, subst, arith}
use Rattle.std.proofs.Common.{drop-cons}
use Rattle.std.specs.Prelude.{if◌then◌else◌}
use Rattle.std.proofs.Common.{length-drop, take_all}
use Rattle.std.proofs.lemmas.Bool.Decides.{nat_tests}
use Rattle.std.specs.Prelude.{Result, Ok, IfOk}
use Rattle.pardo_program.specs.Lawful.{AreArrays, IsProgram}
use Rattle.pardo_program.specs.Program.{ArrayData, ProgramData}
use Rattle.pardo_text.specs.Reading.{program_of}
use Rattle.pardo_text.specs.declared.fault.PardoFault.{PardoFault}
use Rattle.pardo_text.proofs.LawLawful.{programs_are_lawful}
use Rattle.pardo_job.specs.Printed.{cell_text, has_cell, place_text}

not_past : (array : ArrayData) (cell : ℕ) → array.base + length array.start ≤ cell →
    has_cell array cell ≡ false
not_past array cell past = grind (arith, nat_tests)

not_yet : (array : ArrayData) (cell : ℕ) → cell < array.base → has_cell array cell ≡ false
not_yet array cell before = grind (arith, nat_tests)

pub within : (array : ArrayData) (cell : ℕ) → has_cell array cell ≡ true →
    (array.base ≤ cell) × (cell < array.base + length array.start)
within array cell has = grind (arith, nat_tests)

skipped : (array : ArrayData) (arrays : List ArrayData) (cell : ℕ) → has_cell array cell ≡ false →
    cell_text (array ∷ arrays) cell ≡ cell_text arrays cell
skipped array arrays cell none = rw none

held_first : (array : ArrayData) (arrays : List ArrayData) (cell : ℕ) → has_cell array cell ≡ true →
    cell_text (array ∷ arrays) cell ≡ place_text array cell
held_first array arrays cell has = rw has

-- before the first of them there is no cell
none_before : (arrays : List ArrayData) (base cell : ℕ) → AreArrays arrays base → cell < base →
    cell_text arrays cell ≡ []
none_before [] base cell are before = refl
none_before (array ∷ arrays) base cell are before =
    skipped array arrays cell (not_yet array cell (omega (arith, are.0)))
    ∙ none_before arrays (base + length array.start) cell are.3 (omega arith)

pub begins_after : (arrays : List ArrayData) (base k : ℕ) (held : ArrayData) → AreArrays arrays base →
    k < length arrays → held ≡ get_or arrays k held → base ≤ held.base
begins_after [] base k held are lt is = absurd (omega arith)
begins_after (array ∷ arrays) base zero held are lt is =
    omega (arith, are.0, ap (λ (a : ArrayData). a.base) is)
begins_after (array ∷ arrays) base (suc k) held are lt is =
    omega (arith, begins_after arrays (base + length array.start) k held are.3 (omega arith) is)

-- ---- halves

-- a cell that is not before the array at k is in it or after it
pub later_half : (arrays : List ArrayData) (base k cell : ℕ) (held : ArrayData) →
    AreArrays arrays base → k < length arrays → held ≡ get_or arrays k held → held.base ≤ cell →
    cell_text (drop k arrays) cell ≡ cell_text arrays cell
later_half [] base k cell held are lt is from = absurd (omega arith)
later_half (array ∷ arrays) base zero cell held are lt is from = refl
later_half (array ∷ arrays) base (suc k) cell held are lt is from =
    let begins = begins_after arrays (base + length array.start) k held are.3 (omega arith) is in
    later_half arrays (base + length array.start) k cell held are.3 (omega arith) is from
    ∙ sym (skipped array arrays cell (not_past array cell (omega (arith, are.0, begins))))

-- one that is before it is in those before it
pub earlier_half : (arrays : List ArrayData) (base k cell : ℕ) (held : ArrayData) →
    AreArrays arrays base → k < length arrays → held ≡ get_or arrays k held → cell < held.base →
    cell_text (take k arrays) cell ≡ cell_text arrays cell
earlier_half [] base k cell held are lt is before = absurd (omega arith)
earlier_half (array ∷ arrays) base zero cell held are lt is before =
    sym (none_before (array ∷ arrays) base cell are
    (omega (arith, are.0, ap (λ (a : ArrayData). a.base) is)))
earlier_half (array ∷ arrays) base (suc k) cell held are lt is before =
    ap (λ (rest : List ℕ). if has_cell array cell then place_text array cell else rest)
    (earlier_half arrays (base + length array.start) k cell held are.3 (omega arith) is before)

pub later_are : (arrays : List ArrayData) (base k : ℕ) → AreArrays arrays base →
    (next : ℕ) × AreArrays (drop k arrays) next
later_are arrays base zero are = (base, are)
later_are [] base (suc k) are = (base, tt)
later_are (array ∷ arrays) base (suc k) are =
    later_are arrays (base + length array.start) k are.3

pub earlier_are : (arrays : List ArrayData) (base k : ℕ) → AreArrays arrays base →
    AreArrays (take k arrays) base
earlier_are arrays base zero are = tt
earlier_are [] base (suc k) are = tt
earlier_are (array ∷ arrays) base (suc k) are =
    (are.0, are.1, are.2, earlier_are arrays (base + length array.start) k are.3)

-- a range that goes to the end
pub rest_whole : (arrays : List ArrayData) (k : ℕ) →
    take (length arrays - k) (drop k arrays) ≡ drop k arrays
rest_whole arrays k = take_all (length arrays - k) (drop k arrays)
    (omega (arith, length-drop {A = ArrayData}))

-- ---- one array after the other

-- where the array at k does not tell a cell so, those after it do
next_by : (array : ArrayData) (arrays : List ArrayData) (cell : ℕ) (place : List ℕ) (has : Bool) →
    has_cell array cell ≡ has → cell_text (array ∷ arrays) cell ≡ place →
    (has_cell array cell ≡ true → place_text array cell ≡ place → ⊥) →
    cell_text arrays cell ≡ place
next_by array arrays cell place true is told none =
    absurd (none is (sym (held_first array arrays cell is) ∙ told))
next_by array arrays cell place false is told none = sym (skipped array arrays cell is) ∙ told

pub next_array : (arrays : List ArrayData) (k cell : ℕ) (held : ArrayData) (place : List ℕ) →
    k < length arrays → held ≡ get_or arrays k held → cell_text (drop k arrays) cell ≡ place →
    (has_cell held cell ≡ true → place_text held cell ≡ place → ⊥) →
    cell_text (drop (k + 1) arrays) cell ≡ place
next_array arrays k cell held place lt is told none =
    let one : suc k ≡ k + 1 = omega arith in
    let there : drop k arrays ≡ held ∷ drop (k + 1) arrays = drop-cons arrays k held lt
    ∙ ap (λ (x : ArrayData). x ∷ drop (suc k) arrays) (sym is)
    ∙ ap (λ (n : ℕ). held ∷ drop n arrays) one in
    next_by held (drop (k + 1) arrays) cell place (has_cell held cell) refl
    (sym (ap (λ (l : List ArrayData). cell_text l cell) there) ∙ told) none

-- ---- the arrays of a text's program

pub lawful_arrays : (text : List ℕ) (program : ProgramData) → program_of text ≡ Ok program →
    AreArrays program.arrays 0
lawful_arrays text program is =
    let lawful = subst (λ (r : Result ProgramData PardoFault). IfOk r IsProgram) is
    (programs_are_lawful text) in
    lawful.arrays
