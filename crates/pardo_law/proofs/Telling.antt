-- What the run of a job tells of a line of its program, by an instruction that is executed once
-- where the line is; a counted line has two.
use Rattle.std.proofs.Common.{◌≡◌, ◌≢◌, ℕ, zero, suc, ◌+◌, ◌<◌, ◌≤◌, ◌⊎◌, ◌==◌, Bool, true}
use Rattle.std.proofs.Common.{false, List, [], ◌∷◌, Option, Some, None, length, if◌then◌else◌}
use Rattle.std.proofs.Common.{refl, sym, ap, ◌∙◌, subst, inl, inr, ⊎_elim, arith}
use Rattle.std.specs.Prelude.{is_some, max, nat_lt, slice_get, sum_by, take}
use Rattle.std.proofs.lemmas.Option.{slice_get_within}
use Rattle.std.proofs.lemmas.Bool.{cases_eq, cases_lt, eq-eqb, lt-ltb, ne_eqb}
use Rattle.std.proofs.lemmas.List.Sums.{sum_by-cons}
use Rattle.pram_job.specs.Job.{JobData}
use Rattle.pram_machine.specs.Machine.{AllStopped, counter, halted}
use Rattle.pram_step.specs.declared.answer.Dispute.{Dispute}
use Rattle.pram_step.specs.Runs.{IsReached, state_after}
use Rattle.pram_cost.specs.Profiles.{executed_at, most_at, standing_at_index, instruction_steps}
use Rattle.pardo_program.specs.declared.statement.Line.{Line}
use Rattle.pardo_program.specs.Lawful.{IsProgram}
use Rattle.pardo_program.specs.Nested.{IsNested}
use Rattle.pardo_program.specs.Operations.{bit}
use Rattle.pardo_program.specs.Program.{ProgramData}
use Rattle.pardo_job.specs.Compiled.{IsCompiled}
use Rattle.pardo_job.specs.Lines.{length_of_line, place_of}
use Rattle.pardo_job.specs.Meaning.{after}
use Rattle.pardo_job.specs.Runs.{IsLineReached, IsProgramConflict, IsProgramEnd, IsProgramOver}
use Rattle.pardo_job.specs.Times.{AreAllLines, is_counted, line_most, line_operations, line_time}
use Rattle.pardo_job.specs.Times.{line_times, taking_part, taking_part_in}
use Rattle.pardo_job.proofs.FlatFirsts.{place_some, places_rise, sum_rises}
use Rattle.pardo_law.proofs.Carried.{Carried, cost, place_low}
use Rattle.pardo_law.proofs.Carrying.{carried_after, line_next, time_next, time_of}
use Rattle.pardo_job.specs.Times.{behind_mask}
use Rattle.pardo_job.proofs.Counted.{counted_long}
use Rattle.pardo_law.proofs.Counting.{IsTurn, first_executed}
use Rattle.pardo_law.proofs.Counting.{first_turn, no_other_turn, nobody_elsewhere, own_executed}
use Rattle.pardo_law.proofs.Counting.{own_turn}
use Rattle.pardo_law.proofs.Finishing.{decide_over}
use Rattle.pardo_law.proofs.Gathering.{added_once, count_none, nothing_added, nothing_later}
use Rattle.pardo_law.proofs.Lengths.{length_is, place_next}
use Rattle.pardo_law.proofs.Picturing.{IsOf, procs_are}
use Rattle.pardo_law.proofs.Showing.{all_stopped, here_shows, out_shows, reached_last, stopped_at}
use Rattle.pardo_law.proofs.Starting.{first_standing}

-- ---- places rise with the lines

-- ---- one instruction of a line

module _ (program : ProgramData) (job : JobData) (the : IsOf program job) (j : ℕ) (line : Line)
    (is : slice_get program.lines j ≡ Some line) where
  -- after n lines the job shows their state
  abbrev pub CarriedAt : ℕ → Type 0
  CarriedAt n = Carried program job (after program n) (time_of program n)

  pub here_is : (n : ℕ) → (after program n).at ≡ j →
      slice_get program.lines (after program n).at ≡ Some line
  here_is n e = ap (slice_get program.lines) e ∙ is

  -- how many steps it takes after n lines
  abbrev pub cost_at : ℕ → ℕ
  cost_at n = cost program (after program n) line.depth line.statement

  -- in the line nobody is at an instruction but after so many steps
  abbrev pub IsOnceAt : ℕ → ℕ → ℕ → Type 0
  IsOnceAt p n at = (at < cost_at n) × ((k : ℕ) → k < cost_at n → k ≢ at →
      standing_at_index job p (state_after job (time_of program n + k)) ≡ 0)

  module _ (p : ℕ) (from : place_of program j ≤ p) (to : p < place_of program (j + 1)) where
    abbrev step : ℕ → ℕ
    step u = standing_at_index job p (state_after job u)

    p_low : p < length job.code
    p_low = let e = place_low program job the (j + 1) in omega arith

    nobody_first : step 0 ≡ 0
    nobody_first = count_none (λ i. counter job (state_after job 0) i == p) job.procs
        (λ i lt. ne_eqb _ p (λ e.
        let here : counter job (state_after job 0) i ≡ 0 =
        ((first_standing program job the).locals_are i lt).0 in
        let some = place_some program j in omega arith))

    apart : (at : ℕ) → at ≢ j → (p < place_of program at) ⊎ (place_of program (at + 1) ≤ p)
    apart at other = ⊎_elim
        (λ (before : at < j).
        inr (let e = places_rise program (at + 1) j (omega arith) in omega arith))
        (λ (after_it : j ≤ at).
        inl (let e = places_rise program (j + 1) at (omega arith) in omega arith))
        (cases_lt at j)

    nobody_stopped : (t : ℕ) → AllStopped job (state_after job t) → IsReached job t →
        (u : ℕ) → t ≤ u → step u ≡ 0
    nobody_stopped t stopped reached u late =
        count_none (λ i. counter job (state_after job u) i == p) job.procs (λ i lt.
        ne_eqb _ p (λ e.
        let s : halted job ≤ counter job (state_after job u) i =
        stopped_at job t u late reached stopped i lt in
        let f = p_low in omega arith))

    -- at the end those that are there stand behind all lines
    behind : (n i : ℕ) (c : CarriedAt n) → IsProgramOver program (after program n) →
        i < job.procs → (g : Option ℕ) → (after program n).gone i ≡ g →
        (counter job (state_after job (time_of program n)) i == p) ≡ false
    behind n i c over lt (Some number) e =
        let low : i < program.procs = (let f = procs_are program job the in omega arith) in
        let out = out_shows job (state_after job (time_of program n)) i ((after program n).gone i)
        (place_of program (after program n).at) number (c.locals i) e (c.pictured.here i low)
        (c.standing.locals_are i lt) in
        let f = p_low in ne_eqb _ p (λ same. omega arith)
    behind n i c (inr all) lt None e =
        let low : i < program.procs = (let f = procs_are program job the in omega arith) in
        absurd (let no : false ≡ true = sym (ap is_some e) ∙ all i low in cc)
    behind n i c (inl at_end) lt None e =
        let low : i < program.procs = (let f = procs_are program job the in omega arith) in
        let stands = (here_shows job (state_after job (time_of program n)) i
        ((after program n).gone i) (place_of program (after program n).at) (c.locals i) e
        (c.pictured.here i low) (c.standing.locals_are i lt)).0 in
        let last : place_of program (after program n).at ≡ place_of program (length program.lines) =
        ap (place_of program) (sym at_end) in
        let inside = slice_get_within program.lines j line is in
        let f = places_rise program (j + 1) (length program.lines) (omega arith) in
        ne_eqb _ p (λ same. omega arith)

    nobody_over : (n : ℕ) (c : CarriedAt n) → IsProgramOver program (after program n) →
        (u : ℕ) → time_of program n ≤ u → step u ≡ 0
    nobody_over n c over u late = ⊎_elim
        (λ (later : time_of program n < u).
        nobody_stopped (time_of program n + 1)
        (all_stopped program job the (after program n) (time_of program n) c over)
        (reached_last program job the (after program n) (time_of program n) c over) u (omega arith))
        (λ (same : u ≤ time_of program n).
        let e : time_of program n ≡ u = omega arith in
        subst (λ (t : ℕ). step t ≡ 0) e
        (count_none (λ i. counter job (state_after job (time_of program n)) i == p) job.procs
        (λ i lt. behind n i c over lt ((after program n).gone i) refl)))
        (cases_lt (time_of program n) u)

    -- ---- what is gathered of its steps

    module _ (combine : ℕ → ℕ → ℕ) (part : ℕ → ℕ) (empty : (a : ℕ) → combine a (part 0) ≡ a)
        (gathered : ℕ → ℕ)
        (grows : (n : ℕ) → gathered (suc n) ≡ combine (gathered n) (part (step n))) where
      pub at_start : gathered 1 ≡ gathered 0
      at_start = grows 0 ∙ ap (λ v. combine (gathered 0) (part v)) nobody_first ∙ empty (gathered 0)

      pub at_end : (n : ℕ) (c : CarriedAt n) → IsProgramOver program (after program n) →
          AllStopped job (state_after job job.steps) → IsReached job job.steps →
          gathered job.steps ≡ gathered (time_of program n)
      at_end n c over stopped reached = ⊎_elim
          (λ (early : job.steps < time_of program n).
          sym (nothing_later combine part empty step gathered grows job.steps (time_of program n)
          (nobody_stopped job.steps stopped reached) (omega arith)))
          (λ (late : time_of program n ≤ job.steps).
          nothing_later combine part empty step gathered grows (time_of program n) job.steps
          (nobody_over n c over) late)
          (cases_lt job.steps (time_of program n))

      -- in another line it is not executed
      pub in_other : (n : ℕ) (c : CarriedAt n) (found : Line) →
          slice_get program.lines (after program n).at ≡ Some found → (after program n).at ≢ j →
          gathered (time_of program (suc n)) ≡ gathered (time_of program n)
      in_other n c found at other =
          ap gathered (time_next program n found at)
          ∙ nothing_added combine part empty step gathered grows (time_of program n) _
          (λ k lt. nobody_elsewhere program job the (after program n) (time_of program n)
          c found at p k lt p_low (apart (after program n).at other))

      -- in the line it is executed in one step, by so many
      pub in_it : (n at v : ℕ) → (after program n).at ≡ j → IsOnceAt p n at →
          step (time_of program n + at) ≡ v →
          gathered (time_of program (suc n)) ≡ combine (gathered (time_of program n)) (part v)
      in_it n at v here once so_many =
          ap gathered (time_next program n line (here_is n here))
          ∙ added_once combine part empty step gathered grows (time_of program n) _ at v
          once.0 so_many once.1

  -- ---- the first instruction of the line

  abbrev pub first : ℕ
  first = place_of program j

  -- somebody begins each line
  pub begun : (n : ℕ) (c : CarriedAt n) → (IsProgramOver program (after program n) → ⊥) →
      (here : (after program n).at ≡ j) →
      bit (nat_lt 0 (standing_at_index job first (state_after job (time_of program n + 0)))) ≡ 1
  begun n c goes_on here = ⊎_elim (λ over. absurd (goes_on over))
      (λ on. ap bit (lt-ltb 0 _ (subst
      (λ (k : ℕ). 0 < standing_at_index job (place_of program k)
      (state_after job (time_of program n + 0))) here
      (first_executed program job the (after program n) (time_of program n) c
      line (here_is n here) on.1.0 on.1.1 on.1.2))))
      (decide_over program (after program n))

  -- ---- the instructions of a counted line

  module _ (counted : is_counted line.statement ≡ true) where
    abbrev pub own : ℕ
    own = place_of program j + behind_mask line.depth

    pub own_inside : own < place_of program (j + 1)
    own_inside =
        let e = length_is program (place_of program) (place_of program j) line in
        let f = place_next program j line is in
        let g = counted_long program (place_of program) (place_of program j) line.depth
        line.statement counted in omega arith

    pub first_inside : first < place_of program (j + 1)
    first_inside = let e = own_inside in omega arith

    pub own_from : first ≤ own
    own_from = omega arith

    pub own_share : (n : ℕ) (c : CarriedAt n) (here : (after program n).at ≡ j) →
        standing_at_index job own
        (state_after job (time_of program n + behind_mask line.depth))
        ≡ taking_part program (after program n)
    own_share n c here =
        ap (λ (k : ℕ). standing_at_index job (place_of program k + behind_mask line.depth)
        (state_after job (time_of program n + behind_mask line.depth))) (sym here)
        ∙ own_executed program job the (after program n) (time_of program n) c line
        (here_is n here) counted

    turn_once : (n p at : ℕ) (c : CarriedAt n) (here : (after program n).at ≡ j) →
        IsTurn program job the (after program n) (time_of program n) c line (here_is n here)
        counted p at → IsOnceAt p n at
    turn_once n p at c here turn = (
      turn.within,
      no_other_turn program job the (after program n) (time_of program n) c line
          (here_is n here) counted p at turn,
    )

    pub own_once : (n : ℕ) (c : CarriedAt n) (here : (after program n).at ≡ j) →
        IsOnceAt own n (behind_mask line.depth)
    own_once n c here =
        subst (λ (k : ℕ). IsOnceAt (place_of program k + behind_mask line.depth) n
        (behind_mask line.depth)) here
        (turn_once n _ (behind_mask line.depth) c here
        (own_turn program job the (after program n) (time_of program n) c line
        (here_is n here) counted))

    pub first_once : (n : ℕ) (c : CarriedAt n) (here : (after program n).at ≡ j) →
        IsOnceAt first n 0
    first_once n c here =
        subst (λ (k : ℕ). IsOnceAt (place_of program k) n 0) here
        (turn_once n _ 0 c here
        (first_turn program job the (after program n) (time_of program n) c line
        (here_is n here) counted))

-- ---- the run of a program

pub add_zero : (a : ℕ) → a + 0 ≡ a
add_zero a = omega arith

pub max_zero : (a : ℕ) → max a 0 ≡ a
max_zero a = omega arith

abbrev pub some_bit : ℕ → ℕ
some_bit v = bit (nat_lt 0 v)

-- who takes part in the line j, after so many lines
abbrev pub share : ProgramData → ℕ → ℕ → ℕ
share program j n = taking_part_in program j (after program n)

pub share_none : (program : ProgramData) (j n : ℕ) → (after program n).at ≢ j →
    share program j n ≡ 0
share_none program j n other =
    ap (λ (b : Bool). if b then taking_part program (after program n) else 0)
    (ne_eqb (after program n).at j other)

pub share_some : (program : ProgramData) (j n : ℕ) → (after program n).at ≡ j →
    taking_part program (after program n) ≡ share program j n
share_some program j n here =
    sym (ap (λ (b : Bool). if b then taking_part program (after program n) else 0)
    (eq-eqb (after program n).at j here))

-- As much is gathered of the job as is told line by line, where that is so of each line.
module _ (program : ProgramData) (j : ℕ) (combine : ℕ → ℕ → ℕ) (gathered time added told : ℕ → ℕ)
    (starts : told 0 ≡ gathered (time 0))
    (rises : (n : ℕ) → told (suc n) ≡ combine (told n) (added n))
    (each : (n : ℕ) → IsLineReached program n → (IsProgramOver program (after program n) → ⊥) →
    gathered (time (suc n)) ≡ combine (gathered (time n)) (added n)) where
  one_more : (n : ℕ) → IsLineReached program n → (IsProgramOver program (after program n) → ⊥) →
      gathered (time n) ≡ told n → gathered (time (suc n)) ≡ told (suc n)
  one_more n reached goes_on so_far =
      each n reached goes_on ∙ ap (λ a. combine a (added n)) so_far ∙ sym (rises n)

  up_to : (n : ℕ) → IsLineReached program n → gathered (time n) ≡ told n
  up_to zero reached = sym starts
  up_to (suc n) reached =
      let before : IsLineReached program n = λ earlier lt. reached earlier (omega arith) in
      one_more n before (reached n (omega arith)).0 (up_to n before)

  pub all_told : (last : ℕ) →
      ((n : ℕ) → IsProgramEnd program n → gathered last ≡ gathered (time n)) →
      ((n : ℕ) (dispute : Dispute) → IsProgramConflict program n dispute → last ≡ time (suc n)) →
      (n : ℕ) → AreAllLines program n → gathered last ≡ told n
  all_told last ends disputes n (inl end) = ends n end ∙ up_to n end.reached
  all_told last ends disputes n (inr conflict) =
      let before : ℕ = conflict.0 in
      let at : IsProgramConflict program before conflict.1 = conflict.2 in
      let e : before + 1 ≡ suc before = omega arith in
      ap gathered (disputes before conflict.1 at)
      ∙ one_more before at.reached at.goes_on (up_to before at.reached)
      ∙ ap told (sym e ∙ sym conflict.3)
