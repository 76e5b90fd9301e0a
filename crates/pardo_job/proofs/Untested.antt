-- An expression keeps its value without the tests that cannot fail.
use Rattle.std.proofs.Common.{◌≡◌, ◌≢◌, ◌∙◌, ℕ, ◌<◌, ◌≤◌, ◌==◌, Bool, true, false}
use Rattle.std.proofs.Common.{if◌then◌else◌, ◌%◌, Option, Some, None, refl, sym, ap, subst, arith}
use Rattle.std.proofs.Common.{slice_get}
use Rattle.std.specs.Option.{option_and_then, option_map}
use Rattle.std.proofs.Math.Nat.{mod-lt}
use Rattle.std.proofs.lemmas.Bool.{eqb-false, ltb-true, leb-true, lt-ltb}
use Rattle.pardo_program.specs.declared.operation.Op.{Op}
use Rattle.pardo_program.specs.declared.operation.Op.TheVariants as op
use Rattle.pardo_program.specs.Expression.{Tree, number, own, loop, private, place, apply}
use Rattle.pardo_program.specs.Folding.{constant_of}
use Rattle.pardo_program.specs.Operations.{is_division, lacks, operation_value, worked_out}
use Rattle.pardo_program.specs.Program.{ProgramData}
use Rattle.pardo_program.specs.Tests.{Known, is_below, is_most_below, is_rest_below, untested}
use Rattle.pardo_program.specs.Tests.{without_tests}
use Rattle.pardo_job.specs.Laws.{KnownIsTrue, LeftOutTestsPass}
use Rattle.pardo_job.specs.Meaning.{Source, array_cell, value}
use Rattle.pardo_job.proofs.Tables.{worked_within}

number_is : (tree : Tree) (n : ℕ) → constant_of tree ≡ Some n → tree ≡ number n
number_is (number k) n e = ap number (let same : Some k ≡ Some n = e in cc)
number_is own n e = absurd (let no : None ≡ Some n = e in cc)
number_is (loop nest) n e = absurd (let no : None ≡ Some n = e in cc)
number_is (private x) n e = absurd (let no : None ≡ Some n = e in cc)
number_is (place array index) n e = absurd (let no : None ≡ Some n = e in cc)
number_is (apply o first second) n e = absurd (let no : None ≡ Some n = e in cc)

most_below : (n : ℕ) (found : Option ℕ) (v : ℕ) → is_most_below n found ≡ true →
    ((most : ℕ) → found ≡ Some most → v ≤ most) → v < n
most_below n None v e known = absurd (let no : false ≡ true = e in cc)
most_below n (Some most) v e known =
    let le : v ≤ most = known most refl in
    let lt : most < n = ltb-true most n e in omega (arith, le, lt)

-- a remainder, where there is one, is below its divisor
rest_below : (a k v : ℕ) → worked_out op.Rem a k ≡ Some v → v < k
unfolding lacks operation_value is_division
rest_below a k v e = by_test (k == 0) refl e
  where
    by_test : (t : Bool) → (k == 0) ≡ t → (if t then None else Some (a % k)) ≡ Some v → v < k
    by_test true none f = absurd (let no : None ≡ Some v = f in cc)
    by_test false more f =
        let same : Some (a % k) ≡ Some v = f in
        let is : a % k ≡ v = cc in
        let apart : k ≢ 0 = eqb-false k 0 more in
        subst (λ r. r < k) is (mod-lt a (omega (arith, apart)))

within_passes : (k n : ℕ) → k < n → worked_out op.Within k n ≡ Some k
within_passes k n lt =
    worked_within k n ∙ ap (λ t. if t then Some k else None) (lt-ltb k n lt)

module _ (program : ProgramData) (known : Known) (source : Source) (i : ℕ)
    (is : KnownIsTrue known source i) where
  abbrev of : Tree → Option ℕ
  of tree = value program source i tree

  rest_is_below : (n v : ℕ) (o : Op) (first second : Tree) →
      is_rest_below n o (constant_of second) ≡ true → of (apply o first second) ≡ Some v → v < n
  rest_is_below n v op.Rem first (number k) e f = by_first (of first) f
    where
      by_first : (a : Option ℕ) → option_and_then (λ a. worked_out op.Rem a k) a ≡ Some v → v < n
      by_first None g = absurd (let no : None ≡ Some v = g in cc)
      by_first (Some a) g =
          let lt : v < k = rest_below a k v g in
          let le : k ≤ n = leb-true k n e in omega (arith, lt, le)
  rest_is_below n v o first second e f = absurd (let no : false ≡ true = e in cc)

  below : (n v : ℕ) (tree : Tree) → is_below known n tree ≡ true → of tree ≡ Some v → v < n
  unfolding is_below
  below n v (number k) e f = absurd (let no : false ≡ true = e in cc)
  below n v own e f =
      let same : Some i ≡ Some v = f in
      let here : i ≡ v = cc in
      let lt : i < known.procs = is.own in
      let le : known.procs ≤ n = leb-true known.procs n e in omega (arith, here, lt, le)
  below n v (loop nest) e f =
      let same : Some (source.loops nest) ≡ Some v = f in
      let here : source.loops nest ≡ v = cc in
      subst (λ w. w < n) here
      (most_below n (slice_get known.loops nest) (source.loops nest) e (is.loops nest))
  below n v (private x) e f =
      let same : Some (source.privates x i) ≡ Some v = f in
      let here : source.privates x i ≡ v = cc in
      subst (λ w. w < n) here
      (most_below n (slice_get known.privates x) (source.privates x i) e (is.privates x))
  below n v (place array index) e f = absurd (let no : false ≡ true = e in cc)
  below n v (apply o first second) e f = rest_is_below n v o first second e f

  -- an index that is below its bound passes the test
  passes : (n : ℕ) (index bound : Tree) → bound ≡ number n → is_below known n index ≡ true →
      of index ≡ of (apply op.Within index bound)
  passes n index bound e low = by_value (of index) refl
      ∙ ap (λ b. of (apply op.Within index b)) (sym e)
    where
      by_value : (found : Option ℕ) → of index ≡ found →
          of index ≡ of (apply op.Within index (number n))
      by_value None f = f ∙ sym (ap (option_and_then (λ a. worked_out op.Within a n)) f)
      by_value (Some v) f =
          f ∙ sym (within_passes v n (below n v index low f))
          ∙ sym (ap (option_and_then (λ a. worked_out op.Within a n)) f)

  untested_value : (o : Op) (index bound : Tree) →
      of (untested known o index bound (constant_of bound)) ≡ of (apply o index bound)
  untested_value o index bound = by_bound o (constant_of bound) refl
    where
      by_bound : (o : Op) (found : Option ℕ) → constant_of bound ≡ found →
          of (untested known o index bound found) ≡ of (apply o index bound)
      by_bound op.Within (Some n) e = by_test (is_below known n index) refl
        where
          by_test : (t : Bool) → is_below known n index ≡ t →
              of (if t then index else apply op.Within index bound)
              ≡ of (apply op.Within index bound)
          by_test true low = passes n index bound (number_is bound n e) low
          by_test false high = refl
      by_bound o found e = refl

  kept : (tree : Tree) → of (without_tests known tree) ≡ of tree
  kept (number k) = refl
  kept own = refl
  kept (loop nest) = refl
  kept (private x) = refl
  kept (place array index) =
      ap (option_and_then (λ k. option_map source.cells (array_cell program array k))) (kept index)
  kept (apply o first second) =
      untested_value o (without_tests known first) (without_tests known second)
      ∙ ap (λ a. option_and_then (λ v. option_and_then (worked_out o v)
      (of (without_tests known second))) a) (kept first)
      ∙ ap (λ b. option_and_then (λ v. option_and_then (worked_out o v) b) (of first)) (kept second)

pub left_out_tests_pass : LeftOutTestsPass
left_out_tests_pass program known source i tree is = kept program known source i is tree
