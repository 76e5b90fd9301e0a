-- The number in the last brackets of a place.
use Rattle.std.proofs.Common.{◌≡◌, ◌∙◌, ◌+◌, ◌*◌, ◌-◌, ◌/◌, ◌%◌, ◌^◌, ◌<◌, ◌≤◌, ℕ, Bool, true, false}
use Rattle.std.proofs.Common.{List, [], ◌∷◌, ◌++◌, append-nil, append_assoc, sym, ap, refl, arith}
use Rattle.std.specs.Prelude.{codes, decimal, fold}
use Rattle.std.proofs.lemmas.Bool.Decides.{nat_tests}
use Rattle.std.proofs.lemmas.Fmt.{decimal_by_steps}
use Rattle.std.proofs.lemmas.List.Sums.{fold-append, fold_push}
use Rattle.pardo_program.specs.Program.{ArrayData}
use Rattle.pardo_job.specs.Printed.{index_text, place_text}
use Rattle.naming.specs.Inner.Places.{read_on}

digit_read : (number digit : ℕ) → number < 2 ^ 32 → digit < 10 →
    read_on number (48 + digit) ≡ 10 * number + digit
digit_read number digit low is = grind (arith, nat_tests)

abbrev IsReadAs : ℕ → List ℕ → Type 0
IsReadAs number digits = number < 2 ^ 32 → fold read_on 0 digits ≡ number

one_read : (number : ℕ) → number < 10 → IsReadAs number ((48 + number) ∷ [])
one_read number few small =
    let none : 0 < 2 ^ 32 = omega arith in
    let alone : 10 * 0 + number ≡ number = omega arith in
    digit_read 0 number none few ∙ alone

more_read : (number : ℕ) (digits : List ℕ) → 10 ≤ number → IsReadAs (number / 10) digits →
    IsReadAs number (digits ++ ((48 + number % 10) ∷ []))
more_read number digits many so_far small =
    let before : number / 10 < 2 ^ 32 = omega arith in
    let last : number % 10 < 10 = omega arith in
    let whole : 10 * (number / 10) + number % 10 ≡ number = omega arith in
    fold_push read_on 0 digits (48 + number % 10)
    ∙ ap (λ (n : ℕ). read_on n (48 + number % 10)) (so_far before)
    ∙ digit_read (number / 10) (number % 10) before last ∙ whole

decimal_read : (number : ℕ) → number < 2 ^ 32 → fold read_on 0 (decimal number) ≡ number
decimal_read number small = decimal_by_steps IsReadAs one_read more_read number (omega arith) small

-- whatever stands before the brackets
pub brackets_read : (front place : List ℕ) (number : ℕ) → number < 2 ^ 32 →
    place ≡ front ++ codes "[" ++ decimal number ++ codes "]" → fold read_on 0 place ≡ number
brackets_read front place number small is =
    let before = front ++ codes "[" in
    ap (λ (l : List ℕ). fold read_on 0 l) is
    ∙ fold_push read_on 0 (before ++ decimal number) 93
    ∙ fold-append read_on 0 before (decimal number)
    ∙ ap (λ (n : ℕ). fold read_on n (decimal number)) (fold_push read_on 0 front 91)
    ∙ decimal_read number small

-- ---- how the place of a cell begins

scalar_told : (array : ArrayData) (cell : ℕ) → array.is_scalar ≡ true →
    place_text array cell ≡ array.name
scalar_told array cell is = rw is

pub indexed_told : (array : ArrayData) (cell : ℕ) → array.is_scalar ≡ false →
    place_text array cell
    ≡ array.name ++ codes "[" ++ index_text array.width (cell - array.base) ++ codes "]"
indexed_told array cell is = rw is

named_by : (array : ArrayData) (cell : ℕ) (place : List ℕ) (scalar : Bool) →
    array.is_scalar ≡ scalar → place_text array cell ≡ place →
    (rest : List ℕ) × (place ≡ array.name ++ rest)
named_by array cell place true is told =
    ([], sym told ∙ scalar_told array cell is ∙ sym (append-nil array.name))
named_by array cell place false is told =
    let digits = index_text array.width (cell - array.base) in
    let parts : ((array.name ++ codes "[") ++ digits) ++ codes "]"
    ≡ array.name ++ (codes "[" ++ (digits ++ codes "]")) = simp append_assoc in
    (codes "[" ++ (digits ++ codes "]"), sym told ∙ indexed_told array cell is ∙ parts)

pub named : (array : ArrayData) (cell : ℕ) (place : List ℕ) → place_text array cell ≡ place →
    (rest : List ℕ) × (place ≡ array.name ++ rest)
named array cell place told = named_by array cell place array.is_scalar refl told
