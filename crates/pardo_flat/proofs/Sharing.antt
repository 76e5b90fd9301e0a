-- The cells of the arrays of a lawful program.
use Rattle.std.proofs.Common.{◌≡◌, ℕ, zero, suc, ◌+◌, ◌<◌, ◌≤◌, List, [], ◌∷◌, ◌++◌, length, map}
use Rattle.std.proofs.Common.{take}
use Rattle.std.proofs.Common.{get_or, arith, refl, ap, ◌∙◌, subst}
use Rattle.std.proofs.lemmas.List.Sums.{sum_by-append}
use Rattle.pram_job.specs.declared.instr.Array.{Array}
use Rattle.pardo_program.specs.Lawful.{AreArrays}
use Rattle.pardo_program.specs.Program.{ArrayData, shared_cells}
use Rattle.pardo_flat.specs.Layouts.{ProgramLayoutData, cells_of_array}

pub shared_more : (array : ArrayData) (arrays : List ArrayData) →
    shared_cells (array ∷ arrays) ≡ length array.start + shared_cells arrays
shared_more array arrays =
    omega (arith, sum_by-append (λ (a : ArrayData). length a.start) (array ∷ []) arrays)

abbrev pub cells_at : ℕ → ℕ → Array
cells_at base len = record { base = base; len = len }

pub cells_same : (base len : ℕ) (array : ArrayData) → base ≡ array.base →
    len ≡ length array.start → cells_at base len ≡ cells_of_array array
cells_same base len array e f = ap (λ b. cells_at b len) e ∙ ap (λ n. cells_at array.base n) f

-- what one array more makes of a front of the arrays
pub record IsPart (arrays : List ArrayData) (base k n : ℕ) (array : ArrayData) : Type 0 where
  pub begins : array.base ≡ base + shared_cells (take k arrays)
  pub more : shared_cells (take n arrays) ≡ shared_cells (take k arrays) + length array.start
  pub few : shared_cells (take n arrays) ≤ shared_cells arrays
  pub cells : map cells_of_array (take n arrays) ≡ map cells_of_array (take k arrays)
      ++ cells_of_array array ∷ []

part_suc : (arrays : List ArrayData) (k base : ℕ) (default : ArrayData) → k < length arrays →
    AreArrays arrays base → IsPart arrays base k (suc k) (get_or arrays k default)
part_suc [] k base default lt are = absurd (omega arith)
part_suc (array ∷ arrays) zero base default lt are = record {
  begins = omega (arith, are.0);
  more = omega (arith, shared_more array []);
  few = omega (arith, shared_more array [], shared_more array arrays);
  cells = refl;
}
part_suc (array ∷ arrays) (suc k) base default lt are =
    let rest = part_suc arrays k (base + length array.start) default (omega arith) are.3 in record {
      begins = omega (arith, rest.begins, shared_more array (take k arrays));
      more = omega (
        arith,
        rest.more,
        shared_more array (take k arrays),
        shared_more array (take (suc k) arrays),
      );
      few = omega (
        arith,
        rest.few,
        shared_more array arrays,
        shared_more array (take (suc k) arrays),
      );
      cells = ap (λ (cells : List Array). cells_of_array array ∷ cells) rest.cells;
    }

-- the array at k begins after the cells of those before it
pub part_of : (arrays : List ArrayData) (k base : ℕ) (default : ArrayData) → k < length arrays →
    AreArrays arrays base → IsPart arrays base k (k + 1) (get_or arrays k default)
part_of arrays k base default lt are =
    let one : suc k ≡ k + 1 = omega arith in
    subst (λ n. IsPart arrays base k n (get_or arrays k default)) one
    (part_suc arrays k base default lt are)

abbrev pub layout_at : List Array → ℕ → ℕ → ℕ → ℕ → ℕ → ProgramLayoutData
layout_at arrays shared procs privates loops choices = record {
  arrays = arrays;
  shared = shared;
  procs = procs;
  privates = privates;
  loops = loops;
  choices = choices;
}

pub layout_same : (a b : List Array) (s t p q v w l m c d : ℕ) → a ≡ b → s ≡ t → p ≡ q → v ≡ w →
    l ≡ m → c ≡ d → layout_at a s p v l c ≡ layout_at b t q w m d
layout_same a b s t p q v w l m c d e1 e2 e3 e4 e5 e6 = cc
