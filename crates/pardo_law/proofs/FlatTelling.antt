-- What the run of the job of a flat program tells of the lines of the program.
use Rattle.std.proofs.Common.{◌≡◌, ◌≢◌, ℕ, zero, suc, ◌+◌, ◌<◌, ◌≤◌, ◌==◌, Bool, true}
use Rattle.std.proofs.Common.{false, List, [], ◌∷◌, Some, length, if◌then◌else◌}
use Rattle.std.proofs.Common.{◌++◌, ◌&&◌, length-append}
use Rattle.std.proofs.Common.{refl, sym, ap, ◌∙◌, subst, inl, inr, ⊎_elim, arith}
use Rattle.std.specs.Option.{is_none}
use Rattle.std.proofs.lemmas.Option.{slice_get_within}
use Rattle.std.specs.Prelude.{IsTrue, count_by, max, slice_get}
use Rattle.std.specs.List.{range_with_len}
use Rattle.std.proofs.lemmas.Bool.{cases_eq, cases_lt, eq-eqb, ne_eqb}
use Rattle.pram_job.specs.Job.{JobData}
use Rattle.pram_step.specs.declared.answer.Dispute.{Dispute}
use Rattle.pram_step.specs.Runs.{state_after}
use Rattle.pram_cost.specs.Profiles.{executed_at, most_at, standing_at_index, instruction_steps}
use Rattle.pardo_program.specs.declared.operation.Op.{Op}
use Rattle.pardo_program.specs.declared.statement.Line.{Line}
use Rattle.pardo_program.specs.declared.statement.Statement.{Statement}
use Rattle.pardo_program.specs.declared.statement.Statement.TheVariants.{Assign, If, Else, EndIf}
use Rattle.pardo_program.specs.declared.statement.Statement.TheVariants.{While, EndWhile, For}
use Rattle.pardo_program.specs.declared.statement.Statement.TheVariants.{EndFor}
use Rattle.pardo_program.specs.declared.statement.Target.TheVariants.{Private, Array as Shared}
use Rattle.pardo_program.specs.Expression.{Tree, number, own as own_number, loop, private, place}
use Rattle.pardo_program.specs.Expression.{apply}
use Rattle.pardo_program.specs.Lawful.{IsProgram}
use Rattle.pardo_program.specs.Operations.{bit}
use Rattle.pardo_program.specs.Program.{ProgramData}
use Rattle.pardo_flat.specs.Flat.{first_flat_of, flat, is_for_all, pieces_of}
use Rattle.pardo_flat.proofs.FlatLines.{first_next, flat_at, hidden_is, hidden_stands, last_stands}
use Rattle.pardo_job.specs.Compiled.{AreLineNumbers, IsWhole}
use Rattle.pardo_job.specs.Lines.{place_of}
use Rattle.pardo_job.specs.Meaning.{after}
use Rattle.pardo_job.specs.Runs.{IsLineReached, IsProgramConflict, IsProgramOver}
use Rattle.pardo_job.specs.Times.{AreAllLines, behind_mask, is_counted, line_most}
use Rattle.pardo_job.specs.Times.{line_operations, line_time, line_times, reads_shared}
use Rattle.pardo_job.specs.Times.{taking_part}
use Rattle.pardo_law.specs.Counted.{JobsTellLines, TellsLine}
use Rattle.pardo_law.specs.Flattening.{IsLeft, flat_count}
use Rattle.pardo_law.proofs.Carrying.{carried_made, time_of, time_same}
use Rattle.pardo_law.proofs.Counting.{taking_by}
use Rattle.pardo_law.proofs.FlatCarrying.{all_back, count_next, ends_flat, in_line, keeps_line}
use Rattle.pardo_law.proofs.FlatCarrying.{left_none, line_next_in}
use Rattle.pardo_law.proofs.FlatCarrying.{made_flat, made_on, of_flat, over_to, stands}
use Rattle.pardo_job.proofs.FlatFirsts.{first_line, first_only}
use Rattle.pardo_law.proofs.Picturing.{IsOf}
use Rattle.pardo_law.proofs.Telling.{CarriedAt, IsOnceAt, add_zero, all_told, at_end, at_start}
use Rattle.pardo_law.proofs.Telling.{begun, first, first_inside, first_once, in_it, in_other}
use Rattle.pardo_law.proofs.Telling.{max_zero, own, own_from, own_inside, own_once, own_share, share}
use Rattle.pardo_law.proofs.Telling.{share_none, share_some, some_bit}

-- ---- the run

module _ (program : ProgramData) (lawful : IsProgram program) (job : JobData) (line_of : ℕ → ℕ)
    (the : IsOf (flat program) job) (whole : IsWhole job)
    (numbers : AreLineNumbers (flat program) line_of) (j : ℕ) (line : Line)
    (is : slice_get program.lines j ≡ Some line) (its_line : Line)
    (its_is : slice_get (flat program).lines (first_flat_of program j) ≡ Some its_line)
  where
    abbrev other : ProgramData
    other = flat program

    abbrev count : ℕ → ℕ
    count n = flat_count program n

    abbrev time : ℕ → ℕ
    time n = time_of other (count n)

    abbrev place_in : ℕ
    place_in = first_flat_of program j

    carried : (n : ℕ) → IsLineReached program n →
        CarriedAt other job the place_in its_line its_is (count n)
    carried n reached = carried_made other job the (count n) (made_flat program lawful n reached)

    at_first : (n : ℕ) → (after program n).at ≡ j → (after other (count n)).at ≡ place_in
    at_first n here = (stands program lawful n).at ∙ ap (first_flat_of program) here

    not_over : (n : ℕ) → (IsProgramOver program (after program n) → ⊥) →
        (after program n).at ≡ j → IsProgramOver other (after other (count n)) → ⊥
    not_over n goes_on here (inl ends) =
        let lt = slice_get_within other.lines place_in its_line its_is in
        let e = at_first n here in omega (arith, ends, lt, e)
    not_over n goes_on here (inr all) = goes_on (inr (all_back program lawful n all))

    last_step : (n : ℕ) (dispute : Dispute) → IsProgramConflict program n dispute →
        job.steps ≡ time (suc n)
    last_step n dispute at =
        let found = line_next_in program lawful job line_of the whole numbers n at.goes_on in
        let m : ℕ = count n + length (pieces_of program found.0) in
        let last = in_line program lawful job line_of the whole numbers n dispute at found.0 found.1 m
        refl in
        last.steps_are ∙ sym last.time_is
        ∙ ap (time_of other) (sym (count_next program lawful n found.0 found.1))

    -- of the instruction p
    module _ (p : ℕ) (from : place_of other place_in ≤ p) (to : p < place_of other (place_in + 1))
        (combine : ℕ → ℕ → ℕ) (part : ℕ → ℕ) (empty : (a : ℕ) → combine a (part 0) ≡ a)
        (gathered : ℕ → ℕ) (grows : (n : ℕ) → gathered (suc n)
        ≡ combine (gathered n) (part (standing_at_index job p (state_after job n)))) where
      -- the lines after the first for a line
      hidden_none : (n : ℕ) (found : Line) → IsLineReached program n →
          slice_get program.lines (after program n).at ≡ Some found → (k : ℕ) →
          k ≤ length (pieces_of program found) →
          gathered (time_of other (count n + 1 + k)) ≡ gathered (time_of other (count n + 1))
      hidden_none n found reached at zero le =
          let e : count n + 1 + 0 ≡ count n + 1 = omega arith in
          ap (λ m. gathered (time_of other m)) e
      hidden_none n found reached at (suc k) le =
          let e : count n + 1 + suc k ≡ suc (count n + suc k) = omega arith in
          let f : count n + suc k ≡ count n + 1 + k = omega arith in
          ap (λ m. gathered (time_of other m)) e
          ∙ ⊎_elim
          (λ (here : (after other (count n + suc k)).at
          ≡ first_flat_of program (after program n).at + suc k).
          let line_there = flat_at program (after program n).at found at (suc k) le in
          in_other other job the place_in its_line its_is p from to combine part
          empty gathered grows (count n + suc k)
          (carried_made other job the (count n + suc k)
          (made_on program lawful n (suc k) found at le (made_flat program lawful n reached)))
          line_there.0 (ap (slice_get other.lines) here ∙ line_there.1)
          (λ same. let only = first_only program (after program n).at j (suc k) found line at is le
          (sym here ∙ same) in let none = only.1 in absurd (omega (arith, none))))
          (λ (left : IsTrue (is_for_all found.statement)
          × IsLeft other (after other (count n + suc k))).
          ap gathered (time_same other (count n + suc k)
          (left_none program lawful (after other (count n + suc k)) left.1)))
          ((keeps_line program lawful n found at).at (suc k) le)
          ∙ ap (λ m. gathered (time_of other m)) f
          ∙ hidden_none n found reached at k (omega (arith, le))

      after_first : (n : ℕ) (found : Line) → IsLineReached program n →
          slice_get program.lines (after program n).at ≡ Some found →
          gathered (time (suc n)) ≡ gathered (time_of other (suc (count n)))
      after_first n found reached at =
          let next = count_next program lawful n found at in
          let e : count (suc n) ≡ count n + 1 + length (pieces_of program found) =
          omega (arith, next) in
          let f : count n + 1 ≡ suc (count n) = omega arith in
          ap (λ m. gathered (time_of other m)) e
          ∙ hidden_none n found reached at (length (pieces_of program found)) (omega arith)
          ∙ ap (λ m. gathered (time_of other m)) f

      elsewhere : (n : ℕ) (found : Line) → IsLineReached program n →
          slice_get program.lines (after program n).at ≡ Some found → (after program n).at ≢ j →
          gathered (time (suc n)) ≡ gathered (time n)
      elsewhere n found reached at apart =
          let s = stands program lawful n in
          let line_there = flat_at program (after program n).at found at 0 (omega arith) in
          let e : (after other (count n)).at ≡ first_flat_of program (after program n).at + 0 =
          s.at ∙ (let f : first_flat_of program (after program n).at
          ≡ first_flat_of program (after program n).at + 0 = omega arith in f) in
          after_first n found reached at
          ∙ in_other other job the place_in its_line its_is p from to combine part
          empty gathered grows (count n) (carried n reached) line_there.0
          (ap (slice_get other.lines) e ∙ line_there.1)
          (λ same. apart (first_only program (after program n).at j 0 found line at is (omega arith)
          (sym e ∙ same)).0)

      module _ (added told : ℕ → ℕ) (starts : told 0 ≡ gathered 0)
          (rises : (n : ℕ) → told (suc n) ≡ combine (told n) (added n))
          (nothing : (n a : ℕ) → (after program n).at ≢ j → combine a (added n) ≡ a)
          (something : (n : ℕ) → IsLineReached program n →
          (IsProgramOver program (after program n) → ⊥) → (after program n).at ≡ j →
          gathered (time_of other (suc (count n))) ≡ combine (gathered (time n)) (added n)) where
        each : (n : ℕ) → IsLineReached program n → (IsProgramOver program (after program n) → ⊥) →
            gathered (time (suc n)) ≡ combine (gathered (time n)) (added n)
        each n reached goes_on =
            let found = line_next_in program lawful job line_of the whole numbers n goes_on in
            ⊎_elim
            (λ (here : (after program n).at ≡ j).
            after_first n found.0 reached found.1 ∙ something n reached goes_on here)
            (λ (apart : (after program n).at ≢ j).
            elsewhere n found.0 reached found.1 apart ∙ sym (nothing n (gathered (time n)) apart))
            (cases_eq (after program n).at j)

        told_by : (n : ℕ) → AreAllLines program n → gathered job.steps ≡ told n
        told_by = all_told program j combine gathered time added told
            (starts ∙ sym (at_start other job the place_in its_line its_is p from to
            combine part empty gathered grows)) rises each job.steps
            (λ n end. let ending = (ends_flat program lawful job line_of the whole numbers n end).0 in
            at_end other job the place_in its_line its_is p from to combine part empty
            gathered grows (count n) (carried n end.reached)
            (over_to program lawful n end.over) ending.stopped ending.reached)
            last_step

    -- ---- the first instruction of the line

    abbrev first_p : ℕ
    first_p = first other job the place_in its_line its_is

    -- it is executed as often as the line, where it is once in each
    pub times_told : first_p < place_of other (place_in + 1) →
        ((m : ℕ) → CarriedAt other job the place_in its_line its_is m →
        (after other m).at ≡ place_in → IsOnceAt other job the place_in its_line its_is first_p m 0) →
        (n : ℕ) → AreAllLines program n →
        instruction_steps job first_p job.steps ≡ line_times program j n
    unfolding instruction_steps line_times
    times_told high once = told_by first_p (omega arith) high (λ a b. a + b) some_bit add_zero
        (instruction_steps job first_p) (λ n. refl) (λ n. bit ((after program n).at == j))
        (line_times program j) refl (λ n. refl)
        (λ n a apart. ap (λ b. a + bit b) (ne_eqb (after program n).at j apart) ∙ add_zero a)
        (λ n reached goes_on here.
        let c = carried n reached in
        let there = at_first n here in
        in_it other job the place_in its_line its_is first_p (omega arith)
        high (λ a b. a + b) some_bit add_zero (instruction_steps job first_p) (λ m. refl) (count n)
        0 _ there (once (count n) c there) refl
        ∙ ap (λ v. instruction_steps job first_p (time n) + v)
        (begun other job the place_in its_line its_is (count n) c
        (not_over n goes_on here) there
        ∙ sym (ap bit (eq-eqb (after program n).at j here))))

    -- ---- the instructions of a counted line

    module _ (counted : is_counted line.statement ≡ true) (depth : its_line.depth ≡ line.depth)
        (counts : is_counted its_line.statement ≡ true) where
      -- who takes part in the first line for it takes part in the line
      flat_taking : (n : ℕ) → (after program n).at ≡ j →
          taking_part other (after other (count n)) ≡ taking_part program (after program n)
      flat_taking n here =
          let s = stands program lawful n in
          taking_by other (after other (count n)) its_line
          (ap (slice_get other.lines) (s.at ∙ ap (first_flat_of program) here) ∙ its_is) counts
          ∙ (λ k. count_by (λ i. s.shares.masks k (depth k) i && is_none (s.gone k i))
          (range_with_len 0 program.procs))
          ∙ sym (taking_by program (after program n) line (ap (slice_get program.lines) here ∙ is)
          counted)

      abbrev own_p : ℕ
      own_p = own other job the place_in its_line its_is counts

      low_p : first_p ≤ own_p
      low_p = own_from other job the place_in its_line its_is counts

      high_p : own_p < place_of other (place_in + 1)
      high_p = own_inside other job the place_in its_line its_is counts

      high_first : first_p < place_of other (place_in + 1)
      high_first = first_inside other job the place_in its_line its_is counts

      taken : (combine : ℕ → ℕ → ℕ) (part : ℕ → ℕ) (empty : (a : ℕ) → combine a (part 0) ≡ a)
          (gathered : ℕ → ℕ) (grows : (n : ℕ) → gathered (suc n)
          ≡ combine (gathered n) (part (standing_at_index job own_p (state_after job n))))
          (n : ℕ) → IsLineReached program n → (after program n).at ≡ j →
          gathered (time_of other (suc (count n)))
          ≡ combine (gathered (time n)) (part (share program j n))
      taken combine part empty gathered grows n reached here =
          let c = carried n reached in
          let there = at_first n here in
          in_it other job the place_in its_line its_is own_p low_p high_p combine part
          empty gathered grows (count n) (behind_mask its_line.depth) (share program j n) there
          (own_once other job the place_in its_line its_is counts (count n) c there)
          (own_share other job the place_in its_line its_is counts (count n) c there
          ∙ flat_taking n here ∙ share_some program j n here)

      operations_told : (n : ℕ) → AreAllLines program n →
          executed_at job own_p job.steps ≡ line_operations program j n
      unfolding executed_at line_operations
      operations_told = told_by own_p low_p high_p (λ a b. a + b) (λ v. v) add_zero
          (executed_at job own_p) (λ n. refl) (share program j) (line_operations program j) refl
          (λ n. refl)
          (λ n a apart. ap (λ v. a + v) (share_none program j n apart) ∙ add_zero a)
          (λ n reached goes_on here. taken (λ a b. a + b) (λ v. v) add_zero (executed_at job own_p)
          (λ m. refl) n reached here)

      time_told : (n : ℕ) → AreAllLines program n →
          instruction_steps job own_p job.steps ≡ line_time program j n
      unfolding instruction_steps line_time
      time_told = told_by own_p low_p high_p (λ a b. a + b) some_bit add_zero
          (instruction_steps job own_p) (λ n. refl) (λ n. some_bit (share program j n)) (line_time program j)
          refl (λ n. refl)
          (λ n a apart. ap (λ v. a + some_bit v) (share_none program j n apart) ∙ add_zero a)
          (λ n reached goes_on here. taken (λ a b. a + b) some_bit add_zero (instruction_steps job own_p)
          (λ m. refl) n reached here)

      most_told : (n : ℕ) → AreAllLines program n →
          most_at job own_p job.steps ≡ line_most program j n
      unfolding most_at line_most
      most_told = told_by own_p low_p high_p max (λ v. v) max_zero
          (most_at job own_p) (λ n. refl) (share program j) (line_most program j) refl (λ n. refl)
          (λ n a apart. ap (max a) (share_none program j n apart) ∙ max_zero a)
          (λ n reached goes_on here. taken max (λ v. v) max_zero (most_at job own_p)
          (λ m. refl) n reached here)

      pub tells_flat : (n : ℕ) → AreAllLines program n → TellsLine program job n j its_line.depth
      tells_flat n lines = record {
        times = times_told high_first
            (first_once other job the place_in its_line its_is counts) n lines;
        time = time_told n lines;
        operations = operations_told n lines;
        most = most_told n lines;
      }

pub jobs_tell_lines : JobsTellLines
jobs_tell_lines program job line_of n j line lawful nested compiled lines is counted =
    let its = first_line program j line is counted in
    subst (TellsLine program job n j) its.depth
    (tells_flat program lawful job line_of (of_flat program job line_of lawful nested compiled)
    compiled.whole compiled.numbers j line is its.line_is its.found counted its.depth its.counts n
    lines)
