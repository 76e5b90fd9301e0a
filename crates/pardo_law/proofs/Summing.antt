-- What the counted lines add up to.
use Rattle.std.proofs.Common.{◌≡◌, ◌≢◌, ℕ, zero, suc, ◌+◌, ◌<◌, ◌==◌, Bool, true, false, List, []}
use Rattle.std.proofs.Common.{◌∷◌, Option, Some, None, if◌then◌else◌, nat_lt}
use Rattle.std.proofs.Common.{refl, sym, ap, ◌∙◌, arith}
use Rattle.std.specs.Prelude.{count_by, slice_get, sum_by}
use Rattle.std.specs.List.{range_with_len}
use Rattle.std.proofs.lemmas.Bool.{eq-eqb, ne_eqb}
use Rattle.std.proofs.lemmas.List.Sums.{sum_by-append, sum_by-cons}
use Rattle.pardo_program.specs.declared.statement.Line.{Line}
use Rattle.pardo_program.specs.Operations.{bit}
use Rattle.pardo_program.specs.Program.{ProgramData}
use Rattle.pardo_flat.specs.Flat.{first_flat_of, flat}
use Rattle.pardo_job.specs.declared.times.CountedLine.{CountedLine}
use Rattle.pardo_job.specs.Lines.{place_of}
use Rattle.pardo_job.specs.Meaning.{Source, after, is_active}
use Rattle.pardo_job.specs.Times.{counted_from, counted_place, is_counted}
use Rattle.pardo_job.specs.Times.{line_operations, line_time, operations_to, taking_part}
use Rattle.pardo_job.specs.Times.{taking_part_in, time_to}
use Rattle.pardo_law.specs.Counted.{LinesAddUp}

-- ---- sums

sum_both : {X : Type 0} (f g : X → ℕ) (xs : List X) →
    sum_by (λ x. f x + g x) xs ≡ sum_by f xs + sum_by g xs
sum_both f g [] = refl
sum_both f g (x ∷ xs) =
    let e = sum_by-cons (λ y. f y + g y) x xs in
    let a = sum_by-cons f x xs in
    let b = sum_by-cons g x xs in
    omega (arith, sum_both f g xs)

sum_nothing : {X : Type 0} (xs : List X) → sum_by (λ (x : X). 0) xs ≡ 0
sum_nothing [] = refl
sum_nothing {X} (x ∷ xs) =
    sum_by-cons (λ (y : X). 0) x xs ∙ ap (λ m. 0 + m) (sum_nothing xs)

-- ---- one line of a run

module _ (program : ProgramData) (at amount : ℕ) where
  -- what the line with this place has
  abbrev share : CountedLine → ℕ
  share counted = if at == counted.at then amount else 0

  abbrev line_in : ℕ → Line → CountedLine
  line_in j line = record {
    at = j;
    number = line.number;
    first = place_of (flat program) (first_flat_of program j);
    own = counted_place (flat program) (first_flat_of program j) line.depth;
  }

  abbrev one_line : ℕ → Line → Bool → List CountedLine
  one_line j line b = if b then line_in j line ∷ [] else []

  abbrev if_counted : Line → ℕ
  if_counted line = if is_counted line.statement then amount else 0

  here_by : (j : ℕ) (line : Line) → at ≡ j → (b : Bool) →
      sum_by share (one_line j line b) ≡ (if b then amount else 0)
  here_by j line same true = sum_by-cons share (line_in j line) []
      ∙ ap (λ (t : Bool). (if t then amount else 0) + 0) (eq-eqb at j same)
      ∙ (let e : amount + 0 ≡ amount = omega arith in e)
  here_by j line same false = refl

  away_by : (j : ℕ) (line : Line) → at ≢ j → (b : Bool) → sum_by share (one_line j line b) ≡ 0
  away_by j line apart true = sum_by-cons share (line_in j line) []
      ∙ ap (λ (t : Bool). (if t then amount else 0) + 0) (ne_eqb at j apart)
  away_by j line apart false = refl

  split : (j : ℕ) (line : Line) (lines : List Line) →
      sum_by share (counted_from program j (line ∷ lines))
      ≡ sum_by share (one_line j line (is_counted line.statement))
      + sum_by share (counted_from program (j + 1) lines)
  split j line lines = sum_by-append share (one_line j line (is_counted line.statement))
      (counted_from program (j + 1) lines)

  -- the lines after it have nothing
  later_none : (j : ℕ) (lines : List Line) → at < j →
      sum_by share (counted_from program j lines) ≡ 0
  later_none j [] lt = refl
  later_none j (line ∷ lines) lt =
      let first = away_by j line (λ e. omega arith) (is_counted line.statement) in
      let rest = later_none (j + 1) lines (omega arith) in
      split j line lines ∙ (omega (arith, first, rest))

  abbrev counted_at : Option Line → ℕ
  counted_at None = 0
  counted_at (Some line) = if_counted line

  all_of_it : (j d : ℕ) (lines : List Line) → at ≡ j + d →
      sum_by share (counted_from program j lines) ≡ counted_at (slice_get lines d)
  all_of_it j d [] e = refl
  all_of_it j zero (line ∷ lines) e =
      let first = here_by j line (omega arith) (is_counted line.statement) in
      let rest = later_none (j + 1) lines (omega arith) in
      split j line lines ∙ (omega (arith, first, rest))
  all_of_it j (suc d) (line ∷ lines) e =
      let first = away_by j line (λ same. omega arith) (is_counted line.statement) in
      let rest = all_of_it (j + 1) d lines (omega arith) in
      split j line lines ∙ (omega (arith, first, rest))

-- ---- all lines

module _ (program : ProgramData) where
  abbrev counted : List CountedLine
  counted = counted_from program 0 program.lines

  -- what takes part in the line that is next takes part in the counted line of its place
  module _ (part : ℕ → ℕ) (empty : part 0 ≡ 0) (source : Source) where
    abbrev whole : ℕ
    whole = part (taking_part program source)

    part_in : (c : CountedLine) → part (taking_part_in program c.at source)
        ≡ share program source.at whole c
    part_in c = by_test (source.at == c.at)
      where
        by_test : (b : Bool) → part (if b then taking_part program source else 0)
            ≡ (if b then whole else 0)
        by_test true = refl
        by_test false = empty

    no_more : (o : Option Line) → slice_get program.lines source.at ≡ o →
        counted_at program source.at whole o ≡ whole
    unfolding taking_part
    no_more None e = sym (ap part (ap (λ (x : Option Line). elim x as (λ (y : Option Line). ℕ) [
      | None ↦ 0
      | Some l ↦ if is_counted l.statement
          then count_by (is_active source l.depth) (range_with_len 0 program.procs)
          else 0
    ]) e) ∙ empty)
    no_more (Some line) e = by_counted (is_counted line.statement) refl
      where
        by_counted : (b : Bool) → is_counted line.statement ≡ b →
            (if is_counted line.statement then whole else 0) ≡ whole
        by_counted true f = ap (λ (b : Bool). if b then whole else 0) f
        by_counted false f =
            let none : taking_part program source ≡ 0 =
            ap (λ (x : Option Line). elim x as (λ (y : Option Line). ℕ) [
              | None ↦ 0
              | Some l ↦ if is_counted l.statement
                  then count_by (is_active source l.depth) (range_with_len 0 program.procs)
                  else 0
            ]) e
            ∙ ap (λ (b : Bool). if b
            then count_by (is_active source line.depth) (range_with_len 0 program.procs)
            else 0) f in
            ap (λ (b : Bool). if b then whole else 0) f ∙ sym (ap part none ∙ empty)

    parts_add_up : sum_by (λ c. part (taking_part_in program c.at source)) counted ≡ whole
    parts_add_up =
        ap (λ (f : CountedLine → ℕ). sum_by f counted) (λ k c. part_in c k)
        ∙ all_of_it program source.at whole 0 source.at program.lines
        (let e : source.at ≡ 0 + source.at = omega arith in e)
        ∙ no_more (slice_get program.lines source.at) refl

  operations_add_up : (n : ℕ) →
      sum_by (λ c. line_operations program c.at n) counted ≡ operations_to program n
  unfolding line_operations operations_to
  operations_add_up zero = sum_nothing counted
  operations_add_up (suc n) =
      sum_both (λ c. line_operations program c.at n)
      (λ c. taking_part_in program c.at (after program n)) counted
      ∙ ap (λ m. m + sum_by (λ c. taking_part_in program c.at (after program n)) counted)
      (operations_add_up n)
      ∙ ap (λ m. operations_to program n + m)
      (parts_add_up (λ v. v) refl (after program n))

  abbrev time_part : ℕ → ℕ
  time_part v = bit (nat_lt 0 v)

  time_adds_up : (n : ℕ) →
      sum_by (λ c. line_time program c.at n) counted ≡ time_to program n
  unfolding line_time time_to
  time_adds_up zero = sum_nothing counted
  time_adds_up (suc n) =
      sum_both (λ c. line_time program c.at n)
      (λ c. time_part (taking_part_in program c.at (after program n))) counted
      ∙ ap (λ m. m
      + sum_by (λ c. time_part (taking_part_in program c.at (after program n))) counted)
      (time_adds_up n)
      ∙ ap (λ m. time_to program n + m)
      (parts_add_up time_part refl (after program n))

pub lines_add_up : LinesAddUp
lines_add_up program n = (operations_add_up program n, time_adds_up program n)
