-- The arrays of a program begin at small cells.
use Rattle.std.proofs.Common.{◌≡◌, ℕ, ◌+◌, ◌^◌, ◌<◌, ◌≤◌, List, [], ◌∷◌, All}
use Rattle.std.proofs.Common.{Bool, true, false, suc, Option, Some, None, Result, Ok, arith, cond}
use Rattle.std.proofs.Common.{ap, length, subst}
use Rattle.std.specs.Prelude.{IfOk, find}
use Rattle.std.proofs.lemmas.List.Elements.{All-cons, All-nil}
use Rattle.std.proofs.lemmas.List.Sums.{sum_by-cons}
use Rattle.pardo_program.specs.Lawful.{AreArrays, IsProgram}
use Rattle.pardo_program.specs.Program.{ArrayData, ProgramData, shared_cells}
use Rattle.pardo_text.specs.Reading.{program_of}
use Rattle.pardo_text.specs.declared.fault.PardoFault.{PardoFault}
use Rattle.pardo_text.proofs.LawLawful.{programs_are_lawful}
use Rattle.pardo_job.specs.Printed.{cell_text}
use Rattle.exercise_text.specs.Values.{declared_array}
use Rattle.exercise_judge.specs.Wrongs.{place_named}

bases_small : (arrays : List ArrayData) (base : ℕ) → AreArrays arrays base →
    base + shared_cells arrays ≤ 1048576 → All (λ (a : ArrayData). a.base < 2 ^ 63) arrays
bases_small [] base are few = All-nil (λ (a : ArrayData). a.base < 2 ^ 63)
bases_small (array ∷ arrays) base are few =
    let whole : shared_cells (array ∷ arrays) ≡ length array.start + shared_cells arrays =
    sum_by-cons (λ (a : ArrayData). length a.start) array arrays in
    let here = are.0 in
    All-cons (λ (a : ArrayData). a.base < 2 ^ 63) array arrays (omega (arith, here, few))
    (bases_small arrays (base + length array.start) are.3 (omega (arith, whole, few)))

pub arrays_small : (text : List ℕ) (program : ProgramData) → program_of text ≡ Ok program →
    All (λ (a : ArrayData). a.base < 2 ^ 63) program.arrays
arrays_small text program reads =
    let lawful : IsProgram program = subst (λ (r : Result ProgramData PardoFault).
    IfOk r IsProgram) reads (programs_are_lawful text) in
    let few = lawful.cells in
    bases_small program.arrays 0 lawful.arrays (omega (arith, few))

-- what holds of all holds of the one that is found
first_or : {X : Type 0} (P : X → Type 0) (y x : X) (later : Option X) (b : Bool) → P y →
    (later ≡ Some x → P x) → cond b (Some y) later ≡ Some x → P x
first_or P y x later true here rest same = let one : y ≡ x = cc in subst P one here
first_or P y x later false here rest same = rest same

pub found_by : {X : Type 0} (P : X → Type 0) (test : X → Bool) (xs : List X) (x : X) →
    find test xs ≡ Some x → All P xs → P x
found_by {X} P test [] x found all = let no : None ≡ Some x = found in absurd (cc)
found_by {X} P test (y ∷ ys) x found all =
    first_or P y x (find test ys) (test y) (all 0 y (omega arith))
    (λ same. found_by P test ys x same (λ k d lt. all (suc k) d (omega (arith, lt)))) found

-- the place of a name that an array has
pub place_found : (arrays : List ArrayData) (name : List ℕ) (index : ℕ) (array : ArrayData) →
    declared_array arrays name ≡ Some array →
    place_named arrays name index ≡ cell_text arrays (array.base + index)
place_found arrays name index array found = ap (λ (o : Option ArrayData). elim o [
  | None ↦ name
  | Some a ↦ cell_text arrays (a.base + index)
]) found
