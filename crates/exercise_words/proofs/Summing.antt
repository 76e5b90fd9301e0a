-- What the run of a job tells of its program's lines adds up to the program's time and operations.
use Rattle.std.proofs.Common.{◌≡◌, ◌∙◌, ◌+◌, ℕ, suc, Bool, true, false, List, [], ◌∷◌, Some, map}
use Rattle.std.proofs.Common.{ap, sym, subst, refl, arith, if◌then◌else◌}
use Rattle.std.specs.Prelude.{All, slice_get, sum_by}
use Rattle.std.proofs.lemmas.List.Elements.{All-append, All-cons, All-nil}
use Rattle.std.proofs.lemmas.List.Sums.{sum_by-cons}
use Rattle.pram_job.specs.Job.{JobData}
use Rattle.pram_cost.specs.Profiles.{executed_at, instruction_steps}
use Rattle.pardo_program.specs.declared.statement.Line.{Line}
use Rattle.pardo_program.specs.Lawful.{IsProgram}
use Rattle.pardo_program.specs.Nested.{IsNested}
use Rattle.pardo_program.specs.Program.{ProgramData}
use Rattle.pardo_flat.specs.Flat.{first_flat_of, flat}
use Rattle.pardo_job.specs.Compiled.{IsCompiled}
use Rattle.pardo_job.specs.Lines.{place_of}
use Rattle.pardo_job.specs.Times.{AreAllLines, counted_from, counted_line, counted_place}
use Rattle.pardo_job.specs.Times.{is_counted, line_operations, line_time, operations_to, time_to}
use Rattle.pardo_job.specs.declared.times.CountedLine.{CountedLine}
use Rattle.pardo_law.specs.Counted.{TellsLine}
use Rattle.pardo_law.proofs.Summing.{lines_add_up}
use Rattle.pardo_law.proofs.FlatTelling.{jobs_tell_lines}
use Rattle.pardo_answers.specs.declared.line_costs.LineCost.{LineCost}
use Rattle.pardo_answers.specs.Costs.{line_cost, line_costs, operations_in, time_in}

module _ (program : ProgramData) (job : JobData) (line_of : ℕ → ℕ) (lawful : IsProgram program)
    (nested : IsNested program.lines) (compiled : IsCompiled program job line_of) (n : ℕ)
    (all : AreAllLines program n) where
  -- a counted line of the program
  record IsLineOf (counted : CountedLine) : Type 0 where
    line : Line
    found : slice_get program.lines counted.at ≡ Some line
    counts : is_counted line.statement ≡ true
    own : counted.own ≡ counted_place (flat program) (first_flat_of program counted.at) line.depth

  tells : (counted : CountedLine) (is : IsLineOf counted) →
      TellsLine program job n counted.at is.line.depth
  tells counted is = jobs_tell_lines program job line_of n counted.at is.line lawful nested compiled
      all is.found is.counts

  time_of : (counted : CountedLine) → IsLineOf counted →
      (line_cost job counted).time ≡ line_time program counted.at n
  time_of counted is = ap (λ (p : ℕ). instruction_steps job p job.steps) is.own ∙ (tells counted is).time

  operations_of : (counted : CountedLine) → IsLineOf counted →
      (line_cost job counted).operations ≡ line_operations program counted.at n
  operations_of counted is =
      ap (λ (p : ℕ). executed_at job p job.steps) is.own ∙ (tells counted is).operations

  abbrev listed : ℕ → Line → Bool → List CountedLine
  listed j line b = if b
      then record {
        at = j;
        number = line.number;
        first = place_of (flat program) (first_flat_of program j);
        own = counted_place (flat program) (first_flat_of program j) line.depth;
      } ∷ []
      else []

  one_of_it : (j : ℕ) (line : Line) → slice_get program.lines j ≡ Some line →
      All IsLineOf (counted_line (place_of (flat program) (first_flat_of program j)) j line)
  one_of_it j line found = by_counted (is_counted line.statement) refl
    where
      by_counted : (b : Bool) → is_counted line.statement ≡ b →
          All IsLineOf (listed j line (is_counted line.statement))
      by_counted false e = subst (λ b. All IsLineOf (listed j line b)) (sym e) (All-nil IsLineOf)
      by_counted true e =
          let it : IsLineOf (record {
            at = j;
            number = line.number;
            first = place_of (flat program) (first_flat_of program j);
            own = counted_place (flat program) (first_flat_of program j) line.depth;
          }) = record { line = line; found = found; counts = e; own = refl } in
          subst (λ b. All IsLineOf (listed j line b)) (sym e)
          (All-cons IsLineOf _ [] it (All-nil IsLineOf))

  all_of_it : (j : ℕ) (lines : List Line) → ((k : ℕ) (line : Line) →
      slice_get lines k ≡ Some line → slice_get program.lines (j + k) ≡ Some line) →
      All IsLineOf (counted_from program j lines)
  all_of_it j [] there = All-nil IsLineOf
  all_of_it j (line ∷ lines) there =
      let here : j + 0 ≡ j = omega arith in
      All-append IsLineOf (counted_line (place_of (flat program) (first_flat_of program j)) j line)
      (counted_from program (j + 1) lines)
      (one_of_it j line (subst (λ k. slice_get program.lines k ≡ Some line) here
      (there 0 line refl)))
      (all_of_it (j + 1) lines (λ k other found.
      let next : j + suc k ≡ j + 1 + k = omega arith in
      subst (λ m. slice_get program.lines m ≡ Some other) next (there (suc k) other found)))

  -- a sum of what is told of lines, by what each is
  sum_is : (f : LineCost → ℕ) (g : CountedLine → ℕ) →
      ((counted : CountedLine) → IsLineOf counted → f (line_cost job counted) ≡ g counted) →
      (counted : List CountedLine) → All IsLineOf counted →
      sum_by f (map (line_cost job) counted) ≡ sum_by g counted
  sum_is f g same [] are = refl
  sum_is f g same (one ∷ counted) are =
      sum_by-cons f (line_cost job one) (map (line_cost job) counted)
      ∙ ap (λ m. m + sum_by f (map (line_cost job) counted)) (same one (are 0 one (omega arith)))
      ∙ ap (λ m. g one + m) (sum_is f g same counted (λ k d lt. are (suc k) d (omega arith)))
      ∙ sym (sum_by-cons g one counted)

  abbrev every : List CountedLine
  every = counted_from program 0 program.lines

  all_are : All IsLineOf every
  all_are = all_of_it 0 program.lines (λ k line found.
      let e : k ≡ 0 + k = omega arith in
      subst (λ m. slice_get program.lines m ≡ Some line) e found)

  pub time_is : time_in (line_costs program job) ≡ time_to program n
  time_is = sum_is (λ cost. cost.time) (λ counted. line_time program counted.at n) time_of every
      all_are ∙ (lines_add_up program n).1

  pub operations_are : operations_in (line_costs program job) ≡ operations_to program n
  operations_are = sum_is (λ cost. cost.operations)
      (λ counted. line_operations program counted.at n) operations_of every all_are
      ∙ (lines_add_up program n).0
