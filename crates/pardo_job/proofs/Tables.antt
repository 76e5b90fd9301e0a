-- The value of two indices.
use Rattle.std.proofs.Common.{◌≡◌, ℕ, ◌+◌, ◌*◌, ◌^◌, ◌<◌, ◌≤◌, Bool, true, false, not, ◌&&◌, nat_lt}
use Rattle.std.proofs.Common.{if◌then◌else◌, Option, Some, None, refl, sym, ap, ◌∙◌, arith, suc}
use Rattle.std.specs.Option.{option_and_then}
use Rattle.std.proofs.Math.Nat.{mod-eq_of_lt, mul-le-mul_right, suc-mul}
use Rattle.std.proofs.lemmas.Bool.{ltb-true}
use Rattle.pardo_program.specs.declared.limits.TheConstants.{MAX_CELLS}
use Rattle.pardo_program.specs.declared.operation.Op.TheVariants.{Add, Mul, Within}
use Rattle.pardo_program.specs.Expression.{Tree, number, own, loop, private, place, apply}
use Rattle.pardo_program.specs.Folding.{applied, constant_of, tested}
use Rattle.pardo_program.specs.Operations.{is_division, lacks, operation_value, worked_out}
use Rattle.pardo_program.specs.Program.{ProgramData}
use Rattle.pardo_text.proofs.LawBounds.{applied_keeps}
use Rattle.pardo_job.specs.Laws.{IndicesAreTested, row_by_row}
use Rattle.pardo_job.specs.Meaning.{Source, value}

pub worked_within : (k n : ℕ) → worked_out Within k n ≡ (if nat_lt k n then Some k else None)
unfolding lacks operation_value
worked_within k n = by_test (nat_lt k n)
  where
    by_test : (t : Bool) → (if not t then None else Some k) ≡ (if t then Some k else None)
    by_test true = refl
    by_test false = refl

worked_sum : (a b : ℕ) → a + b < 2 ^ 32 → worked_out Add a b ≡ Some (a + b)
unfolding lacks operation_value is_division
worked_sum a b small = ap Some (mod-eq_of_lt small)

worked_product : (a b : ℕ) → a * b < 2 ^ 32 → worked_out Mul a b ≡ Some (a * b)
unfolding lacks operation_value is_division
worked_product a b small = ap Some (mod-eq_of_lt small)

module _ (program : ProgramData) (source : Source) (i : ℕ) where
  abbrev of : Tree → Option ℕ
  of tree = value program source i tree

  index_tested : (n k : ℕ) (tree : Tree) → of tree ≡ Some k →
      of (apply Within tree (number n)) ≡ (if nat_lt k n then Some k else None)
  index_tested n k tree e =
      ap (option_and_then (λ a. worked_out Within a n)) e ∙ worked_within k n

  tested_value : (n k : ℕ) (tree : Tree) → of tree ≡ Some k →
      of (tested n tree (constant_of tree)) ≡ (if nat_lt k n then Some k else None)
  tested_value n k (number m) e = by_test (nat_lt m n) refl
    where
      same : m ≡ k
      same = let some : Some m ≡ Some k = e in cc

      by_test : (t : Bool) → nat_lt m n ≡ t →
          of (if t then number m else apply Within (number m) (number n))
          ≡ (if nat_lt k n then Some k else None)
      by_test true below =
          e ∙ sym (ap (λ t. if t then Some k else None) (ap (λ j. nat_lt j n) (sym same) ∙ below))
      by_test false above = index_tested n k (number m) e
  tested_value n k own e = index_tested n k own e
  tested_value n k (loop nest) e = index_tested n k (loop nest) e
  tested_value n k (private x) e = index_tested n k (private x) e
  tested_value n k (place array index) e = index_tested n k (place array index) e
  tested_value n k (apply op first second) e = index_tested n k (apply op first second) e

  sum_value : (first second : Tree) → of (applied Add first second) ≡ of (apply Add first second)
  unfolding lacks is_division
  sum_value first second =
      applied_keeps (λ tree. of tree ≡ of (apply Add first second)) Add first second
      (λ a b e f. sym (ap (λ x. option_and_then (λ v. option_and_then (worked_out Add v) (of second))
      (of x)) e
      ∙ ap (λ y. option_and_then (worked_out Add a) (of y)) f)) refl

  product_value : (first second : Tree) →
      of (applied Mul first second) ≡ of (apply Mul first second)
  unfolding lacks is_division
  product_value first second =
      applied_keeps (λ tree. of tree ≡ of (apply Mul first second)) Mul first second
      (λ a b e f. sym (ap (λ x. option_and_then (λ v. option_and_then (worked_out Mul v) (of second))
      (of x)) e
      ∙ ap (λ y. option_and_then (worked_out Mul a) (of y)) f)) refl

  -- the row's first place
  row_value : (h w r : ℕ) (row : Tree) → h * w ≤ MAX_CELLS → of row ≡ Some r →
      of (applied Mul (tested h row (constant_of row)) (number w))
      ≡ (if nat_lt r h then Some (r * w) else None)
  row_value h w r row few e =
      product_value (tested h row (constant_of row)) (number w)
      ∙ ap (option_and_then (λ a. worked_out Mul a w)) (tested_value h r row e)
      ∙ by_test (nat_lt r h) refl
    where
      by_test : (t : Bool) → nat_lt r h ≡ t →
          option_and_then (λ a. worked_out Mul a w) (if t then Some r else None)
          ≡ (if t then Some (r * w) else None)
      by_test true below =
          let lt : r < h = ltb-true r h below in
          let up : r * w ≤ h * w = mul-le-mul_right w (let le : r ≤ h = omega (arith, lt) in le) in
          worked_product r w (omega (arith, up, few))
      by_test false above = refl

  place_value : (h w r c : ℕ) (row column : Tree) → h * w ≤ MAX_CELLS → of row ≡ Some r →
      of column ≡ Some c →
      of (row_by_row h w row column)
      ≡ (if nat_lt r h && nat_lt c w then Some (r * w + c) else None)
  place_value h w r c row column few e f =
      let first = applied Mul (tested h row (constant_of row)) (number w) in
      let second = tested w column (constant_of column) in
      sum_value first second
      ∙ ap (option_and_then (λ a. option_and_then (worked_out Add a) (of second)))
      (row_value h w r row few e)
      ∙ ap (λ o. option_and_then (λ a. option_and_then (worked_out Add a) o)
      (if nat_lt r h then Some (r * w) else None)) (tested_value w c column f)
      ∙ by_tests (nat_lt r h) (nat_lt c w) refl refl
    where
      by_tests : (s t : Bool) → nat_lt r h ≡ s → nat_lt c w ≡ t →
          option_and_then (λ a. option_and_then (worked_out Add a) (if t then Some c else None))
          (if s then Some (r * w) else None)
          ≡ (if s && t then Some (r * w + c) else None)
      by_tests true true below left =
          let lt : r < h = ltb-true r h below in
          let less : c < w = ltb-true c w left in
          let up : suc r * w ≤ h * w =
          mul-le-mul_right w (let le : suc r ≤ h = omega (arith, lt) in le) in
          worked_sum (r * w) c (omega (arith, up, less, few, suc-mul r w))
      by_tests true false below left = refl
      by_tests false t below left = refl

pub indices_are_tested : IndicesAreTested
indices_are_tested program source i h w r c row column few e f =
    place_value program source i h w r c row column few e f
