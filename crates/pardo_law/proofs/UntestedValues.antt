-- Values of a program have 32 bits, and private variables are at most what is known of them.
use Rattle.std.proofs.Common.{◌≡◌, ℕ, zero, suc, ◌+◌, ◌^◌, ◌<◌, ◌≤◌, ◌==◌, Bool, true, false}
use Rattle.std.proofs.Common.{◌&&◌, List, [], ◌∷◌, Option, Some, None, refl, sym, ap, ◌∙◌, subst}
use Rattle.std.proofs.Common.{⊎_elim, arith, if◌then◌else◌, length, unwrap_or, map}
use Rattle.std.specs.Prelude.{max, slice_get, slice_index, slice_set}
use Rattle.std.specs.List.{All, flat_map, fold}
use Rattle.std.specs.Option.{option_map, option_and_then, option_or}
use Rattle.std.proofs.lemmas.Bool.{cases_lt, eqb-true}
use Rattle.std.proofs.lemmas.List.{get_or_past}
use Rattle.std.proofs.lemmas.List.Elements.{All-append, All-nil}
use Rattle.std.proofs.lemmas.Option.{none-some, same_Some, slice_get-map}
use Rattle.pardo_program.specs.declared.operation.Op.{Op}
use Rattle.pardo_program.specs.declared.operation.Op.TheVariants.{Add, Sub}
use Rattle.pardo_program.specs.declared.statement.Line.{Line}
use Rattle.pardo_program.specs.declared.statement.Statement.{Statement}
use Rattle.pardo_program.specs.declared.statement.Statement.TheVariants.{Assign, If, Else, EndIf}
use Rattle.pardo_program.specs.declared.statement.Statement.TheVariants.{While, EndWhile, For}
use Rattle.pardo_program.specs.declared.statement.Statement.TheVariants.{EndFor}
use Rattle.pardo_program.specs.declared.statement.Target.TheVariants.{Private, Array as Shared}
use Rattle.pardo_program.specs.Expression.{Tree, number, own, loop, private, place, apply}
use Rattle.pardo_program.specs.Lawful.{AreArrays, IsExpression, IsPrivate, IsProgram, IsStatement}
use Rattle.pardo_program.specs.Lawful.{bounds_of}
use Rattle.pardo_program.specs.Operations.{lacks, operation_value, worked_out}
use Rattle.pardo_program.specs.Program.{ArrayData, PrivateData, ProgramData}
use Rattle.pardo_program.specs.Tests.{greatest_start, known_of, widened, widened_by}
use Rattle.pardo_program.specs.Operations.{greatest_value}
use Rattle.pardo_flat.specs.Statements.{statement_at}
use Rattle.pardo_flat.proofs.FlatLines.{all_at}
use Rattle.pardo_job.specs.Meaning.{Source, after_statement, array_cell, asked_in}
use Rattle.pardo_job.specs.Meaning.{by_common, common_value, first_below, given_to, has_none}
use Rattle.pardo_job.specs.Meaning.{is_active, loop_ended, next_turn, on_to, private_at_start}
use Rattle.pardo_job.specs.Meaning.{program_start, loop_turned, value, write_of}
use Rattle.pardo_job.proofs.Fits.{value_fits}

-- ---- values that may be there

abbrev pub IsSmall : Option ℕ → Type 0
IsSmall None = Unit {0}
IsSmall (Some v) = v < 2 ^ 32

small_or : (o : Option ℕ) (d : ℕ) → IsSmall o → d < 2 ^ 32 → unwrap_or o d < 2 ^ 32
small_or None d few less = less
small_or (Some v) d few less = few

small_if : (t : Bool) (o : Option ℕ) (d : ℕ) → IsSmall o → d < 2 ^ 32 →
    (if t then unwrap_or o d else d) < 2 ^ 32
small_if true o d few less = small_or o d few less
small_if false o d few less = less

small_first : (n : ℕ) (f : ℕ → Option ℕ) → ((i : ℕ) → i < n → IsSmall (f i)) →
    IsSmall (first_below n f)
small_first zero f each = tt
small_first (suc n) f each = either (first_below n f) (f n)
    (small_first n f (λ i lt. each i (omega arith))) (each n (omega arith))
  where
    either : (o p : Option ℕ) → IsSmall o → IsSmall p → IsSmall (option_or o p)
    either None p few less = less
    either (Some v) p few less = few

small_operation : (op : Op) (o p : Option ℕ) → IsSmall o → IsSmall p →
    IsSmall (option_and_then (λ a. option_and_then (worked_out op a) p) o)
small_operation op None p few less = tt
small_operation op (Some a) None few less = tt
small_operation op (Some a) (Some b) few less = by_test (lacks op a b)
  where
    by_test : (t : Bool) → IsSmall (if t then None else Some (operation_value op a b))
    by_test true = tt
    by_test false = value_fits op a b few less

abbrev IsSmallWrite : Option (ℕ × ℕ) → Type 0
IsSmallWrite None = Unit {0}
IsSmallWrite (Some write) = write.1 < 2 ^ 32

small_given : (cell : ℕ) (o : Option (ℕ × ℕ)) → IsSmallWrite o → IsSmall (given_to cell o)
small_given cell None few = tt
small_given cell (Some write) few = by_test (write.0 == cell)
  where
    by_test : (t : Bool) → IsSmall (if t then Some write.1 else None)
    by_test true = few
    by_test false = tt

small_write : (o p : Option ℕ) → IsSmall o →
    IsSmallWrite (option_and_then (λ v. option_map (λ cell. (cell, v)) p) o)
small_write None p few = tt
small_write (Some v) None few = tt
small_write (Some v) (Some cell) few = few

-- ---- what is known of private variables

set_least : (v : ℕ) (mosts : List ℕ) (y x most : ℕ) → v ≤ greatest_value →
    ((m : ℕ) → slice_get mosts x ≡ Some m → v ≤ m) →
    slice_get (slice_set mosts y greatest_value) x ≡ Some most → v ≤ most
set_least v [] y x most few least is = absurd (none-some most is)
set_least v (m ∷ mosts) zero zero most few least is =
    subst (λ n. v ≤ n) (same_Some greatest_value most is) few
set_least v (m ∷ mosts) zero (suc x) most few least is = least most is
set_least v (m ∷ mosts) (suc y) zero most few least is = least most is
set_least v (m ∷ mosts) (suc y) (suc x) most few least is =
    set_least v mosts y x most few least is

widened_least : (v : ℕ) (mosts : List ℕ) (statement : Statement) (x most : ℕ) →
    v ≤ greatest_value → ((m : ℕ) → slice_get mosts x ≡ Some m → v ≤ m) →
    slice_get (widened mosts statement) x ≡ Some most → v ≤ most
widened_least v mosts (Assign (Private y) tree) x most few least is =
    set_least v mosts y x most few least is
widened_least v mosts (Assign (Shared array index) tree) x most few least is = least most is
widened_least v mosts (If tree) x most few least is = least most is
widened_least v mosts Else x most few least is = least most is
widened_least v mosts EndIf x most few least is = least most is
widened_least v mosts (While tree end) x most few least is = least most is
widened_least v mosts (EndWhile begin) x most few least is = least most is
widened_least v mosts (For nest first last up end) x most few least is = least most is
widened_least v mosts (EndFor begin) x most few least is = least most is

-- what is at most what is known before all lines is at most what is known then
by_least : (v : ℕ) (mosts : List ℕ) (lines : List Line) (x most : ℕ) → v ≤ greatest_value →
    ((m : ℕ) → slice_get mosts x ≡ Some m → v ≤ m) →
    slice_get (widened_by mosts lines) x ≡ Some most → v ≤ most
by_least v mosts [] x most few least is = least most is
by_least v mosts (line ∷ lines) x most few least is =
    by_least v (widened mosts line.statement) lines x most few
    (λ m e. widened_least v mosts line.statement x m few least e) is

set_widens : (mosts : List ℕ) (x most : ℕ) →
    slice_get (slice_set mosts x greatest_value) x ≡ Some most → greatest_value ≤ most
set_widens [] x most is = absurd (none-some most is)
set_widens (m ∷ mosts) zero most is =
    let same = same_Some greatest_value most is in omega (arith, same)
set_widens (m ∷ mosts) (suc x) most is = set_widens mosts x most is

-- of an assigned one it is the greatest value
line_widens : (mosts : List ℕ) (lines : List Line) (j : ℕ) (line : Line) (x most : ℕ)
    (tree : Tree) → slice_get lines j ≡ Some line → line.statement ≡ Assign (Private x) tree →
    slice_get (widened_by mosts lines) x ≡ Some most → greatest_value ≤ most
line_widens mosts [] j line x most tree is e f = absurd (none-some line is)
line_widens mosts (first ∷ lines) zero line x most tree is e f =
    by_least greatest_value (widened mosts first.statement) lines x most (omega arith)
    (λ m g. set_widens mosts x m
    (subst (λ (s : Statement). slice_get (widened mosts s) x ≡ Some m)
    (ap (λ (l : Line). l.statement) (same_Some first line is) ∙ e) g)) f
line_widens mosts (first ∷ lines) (suc j) line x most tree is e f =
    line_widens (widened mosts first.statement) lines j line x most tree is e f

fold_least : (a : ℕ) (xs : List ℕ) → a ≤ fold max a xs
fold_least a [] = omega arith
fold_least a (x ∷ xs) = let le = fold_least (max a x) xs in omega (arith, le)

each_least : (a : ℕ) (xs : List ℕ) (i : ℕ) → slice_index xs i ≤ fold max a xs
each_least a [] i = omega arith
each_least a (x ∷ xs) zero = let le = fold_least (max a x) xs in omega (arith, le)
each_least a (x ∷ xs) (suc i) = each_least (max a x) xs i

-- ---- start values

arrays_small : (arrays : List ArrayData) (base : ℕ) → AreArrays arrays base →
    All (λ v. v < 2 ^ 32) (flat_map (λ (x : ArrayData). x.start) arrays)
arrays_small [] base are = All-nil (λ v. v < 2 ^ 32)
arrays_small (array ∷ arrays) base are =
    All-append (λ v. v < 2 ^ 32) array.start (flat_map (λ (x : ArrayData). x.start) arrays) are.2
    (arrays_small arrays (base + length array.start) are.3)

index_small : (xs : List ℕ) (k : ℕ) → All (λ v. v < 2 ^ 32) xs → slice_index xs k < 2 ^ 32
index_small xs k are = ⊎_elim
    (λ (low : k < length xs). are k 0 low)
    (λ (high : length xs ≤ k). subst (λ v. v < 2 ^ 32) (sym (get_or_past xs k 0 high))
    (omega arith))
    (cases_lt k (length xs))

-- ---- states

module _ (program : ProgramData) (lawful : IsProgram program) where
  pub record AreFit (cells loops : ℕ → ℕ) (privates : ℕ → ℕ → ℕ) : Type 0 where
    pub each_cell : (cell : ℕ) → cells cell < 2 ^ 32
    pub each_loop : (nest : ℕ) → loops nest < 2 ^ 32
    pub each_private : (x i : ℕ) → i < program.procs → privates x i < 2 ^ 32
    pub at_most : (x i most : ℕ) → i < program.procs →
        slice_get (known_of program).privates x ≡ Some most → privates x i ≤ most

  abbrev pub IsFit : Source → Type 0
  IsFit source = AreFit source.cells source.loops source.privates

  pub value_small : (source : Source) → IsFit source → (i : ℕ) → i < program.procs →
      (tree : Tree) → IsExpression (bounds_of program) tree →
      IsSmall (value program source i tree)
  value_small source fit i lt (number k) is = is
  value_small source fit i lt own is = let few = lawful.procs.1 in omega (arith, few, lt)
  value_small source fit i lt (loop nest) is = fit.each_loop nest
  value_small source fit i lt (private x) is = fit.each_private x i lt
  value_small source fit i lt (place array index) is = by_index (value program source i index)
    where
      by_cell : (o : Option ℕ) → IsSmall (option_map source.cells o)
      by_cell None = tt
      by_cell (Some cell) = fit.each_cell cell

      by_index : (o : Option ℕ) → IsSmall
          (option_and_then (λ k. option_map source.cells (array_cell program array k)) o)
      by_index None = tt
      by_index (Some k) = by_cell (array_cell program array k)
  value_small source fit i lt (apply op first second) is =
      small_operation op (value program source i first) (value program source i second)
      (value_small source fit i lt first is.0) (value_small source fit i lt second is.1)

  pub common_small : (source : Source) → IsFit source → (tree : Tree) →
      IsExpression (bounds_of program) tree → IsSmall (common_value program source tree)
  common_small source fit tree is = value_small source fit 0 lawful.procs.0 tree is

  start_most : (x i most : ℕ) (o : Option PrivateData) → slice_get program.privates x ≡ o →
      (m : ℕ) → slice_get (map greatest_start program.privates) x ≡ Some m →
      private_at_start program x i ≤ m
  start_most x i most None is m e = absurd (none-some m
      (sym (slice_get-map greatest_start program.privates x
      ∙ ap (option_map greatest_start) is) ∙ e))
  start_most x i most (Some variable) is m e =
      let start : private_at_start program x i ≡ slice_index variable.start i =
      ap (λ (o : Option PrivateData). elim o as (λ (p : Option PrivateData). ℕ) [
        | None ↦ 0
        | Some v ↦ slice_index v.start i
      ]) is in
      let same : greatest_start variable ≡ m = same_Some (greatest_start variable) m
      (sym (slice_get-map greatest_start program.privates x
      ∙ ap (option_map greatest_start) is) ∙ e) in
      subst (λ n. n ≤ m) (sym start)
      (subst (λ n. slice_index variable.start i ≤ n) same (each_least 0 variable.start i))

  start_small : (x i : ℕ) (o : Option PrivateData) → slice_get program.privates x ≡ o →
      private_at_start program x i < 2 ^ 32
  start_small x i o is = subst (λ n. n < 2 ^ 32)
      (sym (ap (λ (o : Option PrivateData). elim o as (λ (p : Option PrivateData). ℕ) [
        | None ↦ 0
        | Some v ↦ slice_index v.start i
      ]) is)) (by_found o is)
    where
      by_found : (o : Option PrivateData) → slice_get program.privates x ≡ o →
          (elim o as (λ (p : Option PrivateData). ℕ) [
            | None ↦ 0
            | Some v ↦ slice_index v.start i
          ]) < 2 ^ 32
      by_found None e = omega arith
      by_found (Some variable) e = index_small variable.start i
          (all_at (IsPrivate program.procs) program.privates x variable lawful.privates e).1

  pub fit_start : IsFit (program_start program)
  fit_start = record {
    each_cell = λ cell. index_small (flat_map (λ (x : ArrayData). x.start) program.arrays) cell
        (arrays_small program.arrays 0 lawful.arrays);
    each_loop = λ nest. omega arith;
    each_private = λ x i lt. start_small x i (slice_get program.privates x) refl;
    at_most = λ x i most lt is. by_least (private_at_start program x i)
        (map greatest_start program.privates) program.lines x most
        (let few = start_small x i (slice_get program.privates x) refl in omega (arith, few))
        (start_most x i most (slice_get program.privates x) refl) is;
  }

  -- ---- lines

  -- what a line assigns may have each value
  abbrev pub IsWide : Statement → Type 0
  IsWide (Assign (Private x) tree) = (most : ℕ) →
      slice_get (known_of program).privates x ≡ Some most → greatest_value ≤ most
  IsWide (Assign (Shared array index) tree) = Unit {0}
  IsWide statement = Unit {0}

  pub wide_at : (j : ℕ) (line : Line) → slice_get program.lines j ≡ Some line →
      (statement : Statement) → line.statement ≡ statement → IsWide statement
  wide_at j line is (Assign (Private x) tree) e = λ most f.
      line_widens (map greatest_start program.privates) program.lines j line x most tree is e f
  wide_at j line is (Assign (Shared array index) tree) e = tt
  wide_at j line is (If tree) e = tt
  wide_at j line is Else e = tt
  wide_at j line is EndIf e = tt
  wide_at j line is (While tree end) e = tt
  wide_at j line is (EndWhile begin) e = tt
  wide_at j line is (For nest first last up end) e = tt
  wide_at j line is (EndFor begin) e = tt

  fit_if : (t : Bool) (one other : Source) → IsFit one → IsFit other →
      IsFit (if t then one else other)
  fit_if true one other fit fits = fit
  fit_if false one other fit fits = fits

  fit_turned : (source : Source) (nest v : ℕ) → IsFit source → v < 2 ^ 32 →
      IsFit (loop_turned nest v source)
  fit_turned source nest v fit few = record {
    each_cell = fit.each_cell;
    each_loop = λ n. by_test (n == nest) n;
    each_private = fit.each_private;
    at_most = fit.at_most;
  }
    where
      by_test : (t : Bool) (n : ℕ) → (if t then v else source.loops n) < 2 ^ 32
      by_test true n = few
      by_test false n = fit.each_loop n

  fit_common : (text_line : ℕ) (source : Source) (o : Option ℕ) (goes : ℕ → Source) →
      IsFit source → IsSmall o → ((v : ℕ) → v < 2 ^ 32 → IsFit (goes v)) →
      IsFit (by_common program text_line source o goes)
  fit_common text_line source None goes fit few each = record {
    each_cell = fit.each_cell;
    each_loop = fit.each_loop;
    each_private = fit.each_private;
    at_most = fit.at_most;
  }
  fit_common text_line source (Some v) goes fit few each = each v few

  turn_small : (up : Bool) (v : ℕ) → v < 2 ^ 32 → next_turn up v < 2 ^ 32
  turn_small true v few = value_fits Add v 1 few (omega arith)
  turn_small false v few = value_fits Sub v 1 few (omega arith)

  fit_ended : (text_line begin : ℕ) (opener : Statement) (source : Source) →
      IsStatement (bounds_of program) opener → IsFit source →
      IsFit (loop_ended program text_line begin opener source)
  fit_ended text_line begin (For nest first last up end) source is fit =
      fit_common text_line source (common_value program source last) _ fit
      (common_small source fit last is.2.0) (λ b few.
      fit_if (source.loops nest == b) (on_to (end + 1) source)
      (on_to (begin + 1) (loop_turned nest (next_turn up (source.loops nest)) source)) fit
      (fit_turned source nest (next_turn up (source.loops nest)) fit
      (turn_small up (source.loops nest) (fit.each_loop nest))))
  fit_ended text_line begin (Assign target tree) source is fit = fit
  fit_ended text_line begin (If tree) source is fit = fit
  fit_ended text_line begin Else source is fit = fit
  fit_ended text_line begin EndIf source is fit = fit
  fit_ended text_line begin (While tree end) source is fit = fit
  fit_ended text_line begin (EndWhile line) source is fit = fit
  fit_ended text_line begin (EndFor line) source is fit = fit

  -- a private variable, by whether it is the one that is assigned
  private_most : (t active : Bool) (o : Option ℕ) (d most : ℕ) →
      (t ≡ true → greatest_value ≤ most) → IsSmall o → d < 2 ^ 32 → d ≤ most →
      (if t && active then unwrap_or o d else d) ≤ most
  private_most true true o d most wide few less le =
      let w = wide refl in let s = small_or o d few less in omega (arith, w, s)
  private_most true false o d most wide few less le = le
  private_most false active o d most wide few less le = le

  fit_private : (text_line depth x : ℕ) (tree : Tree) (source : Source) →
      IsExpression (bounds_of program) tree → IsWide (Assign (Private x) tree) → IsFit source →
      IsFit (after_statement program text_line depth (Assign (Private x) tree) source)
  fit_private text_line depth x tree source is wide fit = record {
    each_cell = fit.each_cell;
    each_loop = fit.each_loop;
    each_private = λ y i lt. small_if ((y == x) && is_active source depth i)
        (value program source i tree) (source.privates y i)
        (value_small source fit i lt tree is) (fit.each_private y i lt);
    at_most = λ y i most lt e. private_most (y == x) (is_active source depth i)
        (value program source i tree) (source.privates y i) most
        (λ same. wide most (subst
        (λ k. slice_get (known_of program).privates k ≡ Some most) (eqb-true y x same) e))
        (value_small source fit i lt tree is) (fit.each_private y i lt)
        (fit.at_most y i most lt e);
  }

  fit_shared : (text_line depth array : ℕ) (index tree : Tree) (source : Source) →
      IsExpression (bounds_of program) tree → IsFit source →
      IsFit (after_statement program text_line depth (Assign (Shared array index) tree) source)
  fit_shared text_line depth array index tree source is fit = record {
    each_cell = λ cell. small_or _ (source.cells cell)
        (small_first program.procs _ (λ i lt. small_given cell
        (asked_in program source depth (Assign (Shared array index) tree) i)
        (by_active (is_active source depth i) i lt))) (fit.each_cell cell);
    each_loop = fit.each_loop;
    each_private = fit.each_private;
    at_most = fit.at_most;
  }
    where
      by_active : (t : Bool) (i : ℕ) → i < program.procs →
          IsSmallWrite (if t then write_of program source array i index tree else None)
      by_active true i lt = small_write (value program source i tree)
          (option_and_then (array_cell program array) (value program source i index))
          (value_small source fit i lt tree is)
      by_active false i lt = tt

  pub fit_after : (text_line depth : ℕ) (statement : Statement) (source : Source) →
      IsStatement (bounds_of program) statement → IsWide statement →
      ((begin : ℕ) → statement ≡ EndFor begin →
      IsStatement (bounds_of program) (statement_at program begin)) → IsFit source →
      IsFit (after_statement program text_line depth statement source)
  fit_after text_line depth (Assign (Private x) tree) source is wide opener fit =
      fit_private text_line depth x tree source is.1 wide fit
  fit_after text_line depth (Assign (Shared array index) tree) source is wide opener fit =
      fit_shared text_line depth array index tree source is.1 fit
  fit_after text_line depth (If tree) source is wide opener fit = record {
    each_cell = fit.each_cell;
    each_loop = fit.each_loop;
    each_private = fit.each_private;
    at_most = fit.at_most;
  }
  fit_after text_line depth Else source is wide opener fit = record {
    each_cell = fit.each_cell;
    each_loop = fit.each_loop;
    each_private = fit.each_private;
    at_most = fit.at_most;
  }
  fit_after text_line depth EndIf source is wide opener fit = fit
  fit_after text_line depth (While tree end) source is wide opener fit =
      fit_common text_line source (common_value program source tree) _ fit
      (common_small source fit tree is.0.0) (λ v few.
      fit_if (v == 0) (on_to (end + 1) source) (on_to (source.at + 1) source) fit fit)
  fit_after text_line depth (EndWhile begin) source is wide opener fit = fit
  fit_after text_line depth (For nest first last up end) source is wide opener fit =
      fit_common text_line source (common_value program source first) _ fit
      (common_small source fit first is.1.0) (λ a less.
      fit_common text_line source (common_value program source last) _ fit
      (common_small source fit last is.2.0) (λ b few.
      fit_if (has_none up a b) (on_to (end + 1) source)
      (on_to (source.at + 1) (loop_turned nest a source)) fit (fit_turned source nest a fit less)))
  fit_after text_line depth (EndFor begin) source is wide opener fit =
      fit_ended text_line begin (statement_at program begin) source (opener begin refl) fit
