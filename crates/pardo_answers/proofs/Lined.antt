-- What was counted of the lines of a program is what the run of its job tells of them.
use Rattle.std.proofs.Common.{◌≡◌, ℕ, suc, ◌+◌, ◌^◌, ◌<◌, ◌≤◌, Bool, true, false}
use Rattle.std.proofs.Common.{List, [], ◌∷◌, Some, length, map, if◌then◌else◌}
use Rattle.std.proofs.Common.{refl, sym, ap, ◌∙◌, subst, arith}
use Rattle.std.proofs.Math.Nat.{mul-le-mul_left}
use Rattle.std.specs.Prelude.{All, slice_get}
use Rattle.std.proofs.lemmas.List.{length-map}
use Rattle.std.proofs.lemmas.List.Elements.{All-append, All-cons, All-map, All-nil}
use Rattle.std.specs.Prelude.{sum_by}
use Rattle.std.proofs.lemmas.List.Sums.{sum_by-append, sum_by-cons, sum_by-le}
use Rattle.pram_job.specs.Job.{IsJob, JobData}
use Rattle.pram_cost.specs.declared.profile.Tallied.{Tallied}
use Rattle.pram_cost.specs.Profiled.{HasProfiled, IsExecuted, tally_at}
use Rattle.pram_cost.specs.Profiles.{executed_at, instruction_steps}
use Rattle.pram_cost.proofs.Tallying.{executed_few, executed_is_same, steps_few}
use Rattle.pardo_program.specs.declared.statement.Line.{Line}
use Rattle.pardo_program.specs.Program.{ProgramData}
use Rattle.pardo_flat.specs.Flat.{first_flat_of, flat}
use Rattle.pardo_job.specs.declared.times.CountedLine.{CountedLine}
use Rattle.pardo_job.specs.Compiled.{CompiledData}
use Rattle.pardo_job.specs.Drafts.{IsComplete}
use Rattle.pardo_job.specs.Lines.{code_of, job_of, place_of}
use Rattle.pardo_job.specs.Times.{counted_from, counted_line, counted_place, ends_loop}
use Rattle.pardo_job.specs.Times.{place_of_line, is_counted, loop_end_at, loop_ends, loop_ends_from}
use Rattle.pardo_job.proofs.Counted.{counted_within}
use Rattle.pardo_job.proofs.JobFits.{code_length}
use Rattle.pardo_job.proofs.Placed.{place_below}
use Rattle.pardo_answers.specs.declared.line_costs.LineCost.{LineCost}
use Rattle.pardo_answers.specs.Costs.{AreSmall, line_cost, rounds_in}
use Rattle.pardo_answers.specs.Inner.Lines.{line_by, steps_by}

-- its instructions are there
record IsInCode (job : JobData) (counted : CountedLine) : Type 0 where
  first : counted.first < length job.code
  own : counted.own < length job.code

module _ (program : ProgramData) (job : JobData) (made : job ≡ job_of (flat program) job.steps) where
  code_is : job.code ≡ code_of (flat program)
  unfolding job_of
  code_is = ap (λ (j : JobData). j.code) made

  first_in_code : (j : ℕ) → place_of_line program j < length job.code
  first_in_code j =
      let low = place_below (flat program) (first_flat_of program j) in
      let long = code_length (flat program) in
      let same = ap (λ (code : List _). length code) code_is in omega arith

  abbrev listed : ℕ → Line → Bool → List CountedLine
  listed j line b = if b
      then record {
        at = j;
        number = line.number;
        first = place_of (flat program) (first_flat_of program j);
        own = counted_place (flat program) (first_flat_of program j) line.depth;
      } ∷ []
      else []

  one_in_code : (j : ℕ) (line : Line) → slice_get program.lines j ≡ Some line →
      All (IsInCode job) (counted_line (place_of (flat program) (first_flat_of program j)) j line)
  one_in_code j line is = by_counted (is_counted line.statement) refl
    where
      by_counted : (b : Bool) → is_counted line.statement ≡ b →
          All (IsInCode job) (listed j line (is_counted line.statement))
      by_counted false e = subst (λ b. All (IsInCode job) (listed j line b)) (sym e)
          (All-nil (IsInCode job))
      by_counted true e =
          let low = counted_within program j line is e in
          let same = ap (λ (code : List _). length code) code_is in
          let own : counted_place (flat program) (first_flat_of program j) line.depth < length job.code = omega arith in
          let first : place_of (flat program) (first_flat_of program j) < length job.code = omega arith in
          let in_code : IsInCode job (record {
            at = j;
            number = line.number;
            first = place_of (flat program) (first_flat_of program j);
            own = counted_place (flat program) (first_flat_of program j) line.depth;
          }) = record { first = first; own = own } in
          subst (λ b. All (IsInCode job) (listed j line b)) (sym e)
          (All-cons (IsInCode job) _ [] in_code (All-nil (IsInCode job)))

  all_in_code : (j : ℕ) (lines : List Line) → ((k : ℕ) (line : Line) →
      slice_get lines k ≡ Some line → slice_get program.lines (j + k) ≡ Some line) →
      All (IsInCode job) (counted_from program j lines)
  all_in_code j [] there = All-nil (IsInCode job)
  all_in_code j (line ∷ lines) there =
      let here : j + 0 ≡ j = omega arith in
      All-append (IsInCode job) (counted_line (place_of (flat program) (first_flat_of program j)) j line)
      (counted_from program (j + 1) lines)
      (one_in_code j line (subst (λ k. slice_get program.lines k ≡ Some line) here
      (there 0 line refl)))
      (all_in_code (j + 1) lines (λ k other is.
      let next : j + suc k ≡ j + 1 + k = omega arith in
      subst (λ m. slice_get program.lines m ≡ Some other) next (there (suc k) other is)))

module _ (job : JobData) (is_job : IsJob job) where
  operations_few : (index : ℕ) → executed_at job index job.steps ≤ 2 ^ 48
  operations_few index =
      let few = executed_few job index job.steps in
      let procs : job.procs ≤ 65536 = is_job.procs.1 in
      let most = mul-le-mul_left job.steps procs in
      let steps = is_job.steps in omega arith

  time_few : (index : ℕ) → instruction_steps job index job.steps ≤ 2 ^ 32
  time_few index =
      let few = steps_few job index job.steps in
      let steps = is_job.steps in omega arith

  pub lines_small : (counted : List CountedLine) → length counted < 2 ^ 12 →
      AreSmall (map (line_cost job) counted)
  lines_small counted few =
      let e = length-map counted (line_cost job) in
      let time = sum_by-le (λ (cost : LineCost). cost.time) (2 ^ 32) (map (line_cost job) counted)
      (All-map (λ (cost : LineCost). cost.time ≤ 2 ^ 32) (line_cost job) counted
      (λ k d lt. time_few _)) in
      let operations = sum_by-le (λ (cost : LineCost). cost.operations) (2 ^ 48)
      (map (line_cost job) counted)
      (All-map (λ (cost : LineCost). cost.operations ≤ 2 ^ 48) (line_cost job) counted
      (λ k d lt. operations_few _)) in record {
        time = omega arith;
        operations = omega arith;
      }

module _ (job : JobData) (rows : List Tallied)
    (profiled : HasProfiled (record job { steps = 0 }) job.steps rows) where
  found : (index : ℕ) → index < length job.code →
      IsExecuted job index job.steps (tally_at rows index).executed
  found index low = executed_is_same job 0 index job.steps rows _ profiled low refl

  one_told : (counted : CountedLine) → IsInCode job counted →
      line_by rows counted ≡ line_cost job counted
  one_told counted is =
      let first = found counted.first is.first in
      let own = found counted.own is.own in
      λ k. record {
        line = counted.number;
        times = first.steps_are k;
        time = own.steps_are k;
        operations = own.times_are k;
        most = own.most_is k;
      }

  all_told : (counted : List CountedLine) → All (IsInCode job) counted →
      map (line_by rows) counted ≡ map (line_cost job) counted
  all_told [] are = refl
  all_told (one ∷ counted) are =
      ap (λ (cost : LineCost). cost ∷ map (line_by rows) counted)
      (one_told one (are 0 one (omega arith)))
      ∙ ap (λ (costs : List LineCost). line_cost job one ∷ costs)
      (all_told counted (λ k d lt. are (suc k) d (omega arith)))

pub lines_told : (program : ProgramData) (job : JobData) (rows : List Tallied) →
    job ≡ job_of (flat program) job.steps →
    HasProfiled (record job { steps = 0 }) job.steps rows →
    map (line_by rows) (counted_from program 0 program.lines)
    ≡ map (line_cost job) (counted_from program 0 program.lines)
lines_told program job rows made profiled =
    all_told job rows profiled (counted_from program 0 program.lines)
    (all_in_code program job made 0 program.lines (λ k line is.
    let e : k ≡ 0 + k = omega arith in
    subst (λ m. slice_get program.lines m ≡ Some line) e is))

-- ---- the ends of loops

module _ (program : ProgramData) (job : JobData) (rows : List Tallied)
    (made : job ≡ job_of (flat program) job.steps)
    (profiled : HasProfiled (record job { steps = 0 }) job.steps rows) where
  abbrev steps : ℕ → ℕ
  steps first = instruction_steps job first job.steps

  ends_told : (j : ℕ) (lines : List Line) →
      sum_by (steps_by rows) (loop_ends_from program j lines)
      ≡ sum_by steps (loop_ends_from program j lines)
  ends_told j [] = refl
  ends_told j (line ∷ lines) =
      let one = loop_end_at (place_of_line program j) line.statement in
      let front = by_test (ends_loop line.statement) in
      let rest = ends_told (j + 1) lines in
      let both = sum_by-append (steps_by rows) one (loop_ends_from program (j + 1) lines) in
      let both_too = sum_by-append steps one (loop_ends_from program (j + 1) lines) in
      omega (arith, front, rest, both, both_too)
    where
      by_test : (b : Bool) → sum_by (steps_by rows) (if b then place_of_line program j ∷ [] else [])
          ≡ sum_by steps (if b then place_of_line program j ∷ [] else [])
      by_test true =
          sum_by-cons (steps_by rows) (place_of_line program j) []
          ∙ ap (λ (m : ℕ). m + 0) (found job rows profiled (place_of_line program j)
          (first_in_code program job made j)).steps_are
          ∙ sym (sum_by-cons steps (place_of_line program j) [])
      by_test false = refl

-- ---- of a program that was compiled

module _ (program : ProgramData) (compiled : CompiledData) (job : JobData) (rows : List Tallied)
    (counted : List CountedLine) (lines : List LineCost) (made : IsComplete program compiled)
    (job_is : job ≡ compiled.job)
    (profiled : HasProfiled (record compiled.job { steps = 0 }) compiled.job.steps rows)
    (counted_is : counted ≡ counted_from program 0 program.lines)
    (lines_are : lines ≡ map (line_by rows) counted) where
  told : lines ≡ map (line_cost compiled.job) counted
  told = lines_are ∙ ap (map (line_by rows)) counted_is
      ∙ lines_told program compiled.job rows made.job.made profiled
      ∙ ap (map (line_cost compiled.job)) (sym counted_is)

  pub made_lines : (given : ProgramData) → given ≡ program →
      lines ≡ map (line_cost job) (counted_from given 0 given.lines)
  made_lines given given_is = told
      ∙ ap (λ (j : JobData). map (line_cost j) counted) (sym job_is)
      ∙ ap (map (line_cost job)) (counted_is
      ∙ ap (λ (p : ProgramData). counted_from p 0 p.lines) (sym given_is))

  pub made_small : length counted < 2 ^ 12 → AreSmall lines
  made_small few = subst AreSmall (sym told)
      (lines_small compiled.job made.job.job_is counted few)

  pub made_rounds : (ends : List ℕ) (rounds : ℕ) → ends ≡ loop_ends program →
      rounds ≡ sum_by (steps_by rows) ends → rounds ≡ rounds_in program job
  made_rounds ends rounds ends_are rounds_are =
      rounds_are ∙ ap (sum_by (steps_by rows)) ends_are
      ∙ ends_told program compiled.job rows made.job.made profiled 0 program.lines
      ∙ ap (rounds_in program) (sym job_is)
