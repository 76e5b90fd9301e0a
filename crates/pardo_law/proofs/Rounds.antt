-- How often the `end` of a loop is made, told by the run of the job.
use Rattle.std.proofs.Common.{◌≡◌, ◌≢◌, ℕ, zero, suc, ◌+◌, ◌-◌, ◌^◌, ◌<◌, ◌≤◌, ◌==◌, Bool, true, false}
use Rattle.std.proofs.Common.{List, [], ◌∷◌, ◌++◌, Option, Some, None, length, if◌then◌else◌}
use Rattle.std.proofs.Common.{refl, sym, ap, ◌∙◌, subst, inl, inr, ⊎_elim, arith, length-append}
use Rattle.std.specs.Prelude.{nat_lt, slice_get, sum_by}
use Rattle.std.proofs.lemmas.Bool.{cases_eq, cases_lt, eq-eqb, le-ltb, ne_eqb}
use Rattle.std.proofs.lemmas.List.Sums.{sum_by-append, sum_by-cons}
use Rattle.std.proofs.lemmas.Option.{slice_get_within}
use Rattle.pram_job.specs.declared.instr.Instr.{Instr}
use Rattle.pram_job.specs.declared.instr.Instr.TheVariants.{Jz, Jmp}
use Rattle.pram_job.specs.Job.{JobData}
use Rattle.pram_step.specs.Runs.{state_after}
use Rattle.pram_machine.specs.Machine.{counter, out_of_range}
use Rattle.pram_cost.specs.Profiles.{instruction_steps, standing_at_index}
use Rattle.pardo_program.specs.declared.statement.Line.{Line}
use Rattle.pardo_program.specs.declared.statement.Statement.{Statement}
use Rattle.pardo_program.specs.declared.statement.Statement.TheVariants.{Assign, If, Else, EndIf}
use Rattle.pardo_program.specs.declared.statement.Statement.TheVariants.{While, EndWhile, For}
use Rattle.pardo_program.specs.declared.statement.Statement.TheVariants.{EndFor}
use Rattle.pardo_program.specs.Expression.{Tree, number}
use Rattle.pardo_program.specs.Lawful.{IsProgram, IsStatement, bounds_of}
use Rattle.pardo_program.specs.Nested.{IsNested}
use Rattle.pardo_program.specs.Operations.{bit}
use Rattle.pardo_program.specs.Program.{ProgramData}
use Rattle.pardo_flat.specs.Flat.{base_of, first_flat_of, flat, giving, is_for_all, last_line}
use Rattle.pardo_flat.specs.Flat.{last_of, moved_statement, pieces_of, statement_parts}
use Rattle.pardo_flat.specs.Layouts.{loop_cells, program_layout}
use Rattle.pardo_flat.specs.Statements.{statement_at}
use Rattle.pardo_flat.proofs.FlatLines.{hidden_is, hidden_stands, last_stands}
use Rattle.pardo_job.specs.Compiled.{IsCompiled}
use Rattle.pardo_job.specs.Lines.{first_code, line_code, loop_end, next_value, none_code, own_store}
use Rattle.pardo_job.specs.Lines.{place_of, turn_code}
use Rattle.pardo_job.specs.Meaning.{Source, after, common_value, has_none}
use Rattle.pardo_job.specs.Operations.{is_shallow}
use Rattle.pardo_job.specs.Times.{AreAllLines, ends_loop, place_of_line, line_times, loop_end_at}
use Rattle.pardo_job.specs.Times.{loop_ends_from, rounds_to}
use Rattle.pardo_job.specs.Values.{value_code, value_operand}
use Rattle.pardo_job.proofs.Shallow.{shallow_front}
use Rattle.pardo_law.specs.Counted.{JobsTellRounds}
use Rattle.pardo_law.specs.Locals.{HasCodeAt}
use Rattle.pardo_law.proofs.Carried.{Carried, cost, cost_by, loop_cost, place_low}
use Rattle.pardo_law.proofs.Carrying.{lawful_at, line_is, stands_here, time_of}
use Rattle.pardo_law.proofs.Counting.{away, back, there}
use Rattle.pardo_law.proofs.FlatCarrying.{of_flat}
use Rattle.pardo_law.proofs.FlatTelling.{times_told}
use Rattle.pardo_law.proofs.Gathering.{count_none}
use Rattle.pardo_law.proofs.Lengths.{length_is, place_next}
use Rattle.pardo_law.proofs.Loops.{more_goes, turns_goes}
use Rattle.pardo_law.proofs.Making.{Goes, Went, all_go}
use Rattle.pardo_law.proofs.Picturing.{IsFor, IsHere, IsOf, loop_count, memory_fits}
use Rattle.pardo_law.proofs.Placing.{stands_back, stands_front}
use Rattle.pardo_law.proofs.Showing.{here_shows, out_shows}
use Rattle.pardo_law.proofs.Straightness.{none_straight, turn_straight, value_straight}
use Rattle.pardo_law.proofs.Telling.{CarriedAt, IsOnceAt, here_is}
use Rattle.pardo_law.proofs.Walking.{AreWalking, IsAt, Walks, all_walk, walk, walk_append}

-- The first of the lines for the `end` of a loop: it, or one that gives a piece of its bound to a
-- variable.
abbrev IsOfEnd : Statement → Type 0
IsOfEnd (EndWhile begin) = Unit {0}
IsOfEnd (EndFor begin) = Unit {0}
IsOfEnd (For nest first last up end) =
    For nest first last up end ≡ For nest first (number 0) false end
IsOfEnd _ = ⊥

next_walks : (up : Bool) → Walks (next_value up)
next_walks true = tt
next_walks false = tt

-- ---- such a line begins once

module _ (program : ProgramData) (job : JobData) (of : IsOf program job) (source : Source) (t : ℕ)
    (carried : Carried program job source t) (line : Line)
    (is : slice_get program.lines source.at ≡ Some line) where
  abbrev lo : ℕ
  lo = place_of program source.at

  low : source.at < length program.lines
  low = slice_get_within program.lines source.at line is

  fits : (cell : ℕ) → carried.memory cell < 2 ^ 32
  fits = memory_fits job t carried.memory carried.locals of.job_is carried.standing

  few : (i : ℕ) → i < job.procs → i < program.procs
  few i lt = back program job of source t carried line is i lt

  at_first : (i : ℕ) → i < job.procs → IsAt job i t lo
  at_first i lt = by_gone (source.gone i) refl
    where
      by_gone : (g : Option ℕ) → source.gone i ≡ g → IsAt job i t lo
      by_gone None e = inr (there program job of source t carried line is i (few i lt) e)
      by_gone (Some text_line) e =
          inl (away program job of source t carried line is i text_line (few i lt) e)

  -- all go to a place
  came : (n place : ℕ) → ((i : ℕ) → i < job.procs →
      Goes job carried.memory i n (carried.locals i) (IsHere (source.gone i) place i)) →
      (i : ℕ) → i < job.procs → IsAt job i (t + n) place
  came n place goes i lt = by_gone (source.gone i) refl
    where
      went : Went job (t + n) carried.memory (λ k. IsHere (source.gone k) place k)
      went = all_go job of.job_is t n carried.memory carried.locals carried.standing
          (λ k. IsHere (source.gone k) place k) goes

      by_gone : (g : Option ℕ) → source.gone i ≡ g → IsAt job i (t + n) place
      by_gone None e = inr (here_shows job (state_after job (t + n)) i (source.gone i) place
          (went.places i) e (went.each i lt) (went.standing.locals_are i lt)).0
      by_gone (Some text_line) e = inl (out_shows job (state_after job (t + n)) i (source.gone i) place
          text_line (went.places i) e (went.each i lt) (went.standing.locals_are i lt))

  -- nobody is at its first instruction
  abbrev IsLeft : ℕ → Type 0
  IsLeft k = standing_at_index job lo (state_after job (t + k)) ≡ 0

  left_by : (k : ℕ) → ((i : ℕ) → i < job.procs → (p : ℕ) × (lo < p) × IsAt job i (t + k) p) →
      IsLeft k
  left_by k behind =
      count_none (λ i. counter job (state_after job (t + k)) i == lo) job.procs (λ i lt.
      let p : ℕ = (behind i lt).0 in
      let more : lo < p = (behind i lt).1 in
      let short = place_low program job of source.at in
      ne_eqb (counter job (state_after job (t + k)) i) lo (λ e. ⊎_elim
      (λ (out : counter job (state_after job (t + k)) i ≡ out_of_range job). omega arith)
      (λ (on : counter job (state_after job (t + k)) i ≡ p). omega arith)
      (behind i lt).2))

  -- after the first of so many steps
  abbrev IsOnce : ℕ → Type 0
  IsOnce c = (0 < c) × ((k : ℕ) → k < c → k ≢ 0 →
      standing_at_index job lo (state_after job (t + k)) ≡ 0)

  module _ (front : List Instr) (stands : HasCodeAt job lo front) (walks : AreWalking front) where
    in_front : (k : ℕ) → k ≤ length front → k ≢ 0 →
        standing_at_index job lo (state_after job (t + k)) ≡ 0
    in_front k le some = left_by k (λ i lt. (
      lo + k,
      omega arith,
      walk job of.job_is i lt front t lo k stands walks le (at_first i lt),
    ))

    once_in : (c : ℕ) → 0 < c → c ≤ length front + 1 → IsOnce c
    once_in c some le = (some, λ k lt other. in_front k (omega arith) other)

    -- and then on from a place behind it
    once_on : (place c : ℕ) (code : List Instr) → HasCodeAt job place code → AreWalking code →
        lo < place → ((i : ℕ) → i < job.procs → IsAt job i (t + (length front + 1)) place) → 0 < c →
        c ≤ length front + 1 + length code + 1 → IsOnce c
    once_on place c code stands_too walks_too behind on some le = (
      some,
      λ k lt other. ⊎_elim
          (λ (early : k < length front + 1). in_front k (omega arith) other)
          (λ (late : length front + 1 ≤ k).
          let d : ℕ = k - (length front + 1) in
          let e : t + (length front + 1) + d ≡ t + k = omega arith in
          left_by k (λ i less. (
            place + d,
            omega arith,
            subst (λ (u : ℕ). IsAt job i u (place + d)) e
                (walk job of.job_is i less code (t + (length front + 1)) place d stands_too walks_too
                (omega arith) (on i less)),
          )))
          (cases_lt k (length front + 1)),
    )

  -- ---- the `end` of a `for`

  module _ (nest : ℕ) (first last : Tree) (up : Bool) (begin end : ℕ)
      (lawful : IsStatement (bounds_of program) (For nest first last up end))
      (shallow : is_shallow (loop_end (program_layout program) (λ j. 0) begin
      (For nest first last up end)) ≡ true)
      (stands : HasCodeAt job lo (loop_end (program_layout program) (place_of program) begin
      (For nest first last up end))) where
    abbrev turn : List Instr
    turn = turn_code (program_layout program) nest last

    abbrev rest : List Instr
    rest = next_value up ∷ (own_store (loop_cells (program_layout program) nest)
        ∷ (Jmp (place_of program (begin + 1)) ∷ []))

    turn_stands : HasCodeAt job lo turn
    turn_stands = stands_front job lo turn (Jz 1 (place_of program (end + 1)) ∷ rest) stands

    turn_walks : AreWalking turn
    turn_walks = all_walk turn (turn_straight (program_layout program) nest last)

    by_turn : (b : ℕ) → common_value program source last ≡ Some b → (over : Bool) →
        (source.loops nest == b) ≡ over →
        IsOnce (if over then length turn + 1 else suc ((length turn + 1) + 1) + 1)
    by_turn b has true e =
        once_in turn turn_stands turn_walks (length turn + 1) (omega arith) (omega arith)
    by_turn b has false e =
        let back = stands_back job lo turn (Jz 1 (place_of program (end + 1)) ∷ rest) stands in
        let nest_low : nest < (program_layout program).loops =
        (let f = loop_count program job of in let g = lawful.0 in omega arith) in
        once_on turn turn_stands turn_walks (lo + length turn + 1)
        (suc ((length turn + 1) + 1) + 1)
        (next_value up ∷ own_store (loop_cells (program_layout program) nest) ∷ [])
        (back.1.0, (back.1.1.0, tt)) (next_walks up, (tt, tt)) (omega arith)
        (came (length turn + 1) (lo + length turn + 1) (λ i lt.
        more_goes program job of.program_is source carried.memory carried.locals carried.pictured
        fits i (few i lt) nest last up b (place_of program (end + 1)) (place_of program (begin + 1))
        nest_low lawful.2 has (shallow_front turn _ shallow) stands e))
        (omega arith) (omega arith)

    by_last : (o : Option ℕ) → common_value program source last ≡ o →
        IsOnce (cost_by (length turn + 1) o (λ b. if source.loops nest == b then length turn + 1
        else suc ((length turn + 1) + 1) + 1))
    by_last None e =
        once_in turn turn_stands turn_walks (length turn + 1) (omega arith) (omega arith)
    by_last (Some b) e = by_turn b e (source.loops nest == b) refl

    for_end_once : IsOnce (loop_cost program source (For nest first last up end))
    for_end_once = by_last (common_value program source last) refl

  opened : (begin : ℕ) (opener : Statement) → IsFor opener →
      IsStatement (bounds_of program) opener →
      is_shallow (loop_end (program_layout program) (λ j. 0) begin opener) ≡ true →
      HasCodeAt job lo (loop_end (program_layout program) (place_of program) begin opener) →
      IsOnce (loop_cost program source opener)
  opened begin (For nest first last up end) tied lawful shallow stands =
      for_end_once nest first last up begin end lawful shallow stands
  opened begin (Assign target tree) tied lawful shallow stands = absurd tied
  opened begin (If tree) tied lawful shallow stands = absurd tied
  opened begin Else tied lawful shallow stands = absurd tied
  opened begin EndIf tied lawful shallow stands = absurd tied
  opened begin (While tree end) tied lawful shallow stands = absurd tied
  opened begin (EndWhile other) tied lawful shallow stands = absurd tied
  opened begin (EndFor other) tied lawful shallow stands = absurd tied

  -- ---- a hidden line

  module _ (nest : ℕ) (first : Tree) (end : ℕ)
      (lawful : IsStatement (bounds_of program) (For nest first (number 0) false end))
      (shallow : is_shallow (none_code (program_layout program) false first (number 0)) ≡ true)
      (stands : HasCodeAt job lo (none_code (program_layout program) false first (number 0)
      ++ (Jz 0 (lo + length (none_code (program_layout program) false first (number 0)) + 2)
      ∷ (Jmp (place_of program (end + 1)) ∷ first_code (program_layout program) nest first)))) where
    abbrev test : List Instr
    test = none_code (program_layout program) false first (number 0)

    abbrev begins : List Instr
    begins = first_code (program_layout program) nest first

    abbrev given : ℕ
    given = length (value_code (program_layout program) 0 first)

    abbrev jump : List Instr
    jump = Jz 0 (lo + length test + 2) ∷ (Jmp (place_of program (end + 1)) ∷ begins)

    test_stands : HasCodeAt job lo test
    test_stands = stands_front job lo test jump stands

    test_walks : AreWalking test
    test_walks = all_walk test (none_straight (program_layout program) false first (number 0))

    begins_stands : HasCodeAt job (lo + length test + 2) begins
    begins_stands =
        let e : lo + length test + 1 + 1 ≡ lo + length test + 2 = omega arith in
        subst (λ (n : ℕ). HasCodeAt job n begins) e (stands_back job lo test jump stands).1.1

    begins_walks : AreWalking begins
    unfolding first_code
    begins_walks = walk_append (value_code (program_layout program) 0 first) _
        (all_walk _ (value_straight (program_layout program) 0 first)) (tt, tt)

    begins_long : length begins ≡ given + 1
    unfolding first_code
    begins_long = length-append (value_code (program_layout program) 0 first) _

    value_shallow : is_shallow (value_code (program_layout program) 0 first) ≡ true
    unfolding none_code
    value_shallow = shallow_front (value_code (program_layout program) 0 first) _ shallow

    on_from : (a : ℕ) → common_value program source first ≡ Some a →
        IsOnce (suc ((length test + 1) + given))
    on_from a has =
        let nest_low : nest < (program_layout program).loops =
        (let f = loop_count program job of in let g = lawful.0 in omega arith) in
        let long = begins_long in
        once_on test test_stands test_walks (lo + length test + 2)
        (suc ((length test + 1) + given)) begins begins_stands begins_walks (omega arith)
        (came (length test + 1) (lo + length test + 2) (λ i lt.
        turns_goes program job of.program_is source carried.memory carried.locals carried.pictured
        fits i (few i lt) nest first (number 0) false a 0 (place_of program (end + 1)) nest_low
        lawful.1 lawful.2 has refl shallow value_shallow stands (le-ltb a 0 (omega arith))))
        (omega arith) (omega arith)

    by_first : (o : Option ℕ) → common_value program source first ≡ o →
        IsOnce (cost_by (length test + 1) o (λ a. if nat_lt a 0 then length test + 1 + 1
        else suc ((length test + 1) + given)))
    by_first None e =
        once_in test test_stands test_walks (length test + 1) (omega arith) (omega arith)
    by_first (Some a) e = subst (λ (b : Bool). IsOnce (if b then length test + 1 + 1
        else suc ((length test + 1) + given))) (sym (le-ltb a 0 (omega arith))) (on_from a e)

  abbrev IsOnceBy : Statement → Type 0
  IsOnceBy statement = line.statement ≡ statement → IsStatement (bounds_of program) statement →
      is_shallow (line_code program (λ j. 0) 0 line.depth statement) ≡ true →
      HasCodeAt job lo (line_code program (place_of program) lo line.depth statement) →
      IsOnce (cost program source line.depth statement)

  hidden_once : (nest : ℕ) (first : Tree) (end : ℕ) →
      IsOnceBy (For nest first (number 0) false end)
  unfolding line_code
  hidden_once nest first end same lawful shallow stands =
      by_first nest first end lawful
      (shallow_front (none_code (program_layout program) false first (number 0)) _ shallow) stands
      (common_value program source first) refl

  once_by : (statement : Statement) → IsOfEnd statement → IsOnceBy statement
  unfolding line_code
  once_by (EndWhile begin) part same lawful shallow stands =
      once_in [] tt tt 1 (omega arith) (omega arith)
  once_by (EndFor begin) part same lawful shallow stands =
      opened begin (statement_at program begin)
      (of.tied source.at begin (ap (λ (o : Option Line). elim o as (λ (x : Option Line). Statement)
      [ None ↦ EndIf | Some l ↦ l.statement ]) is ∙ same))
      (lawful_at program job of source t carried 0 0 low begin) shallow stands
  once_by (For nest first last up end) part same lawful shallow stands =
      subst IsOnceBy (sym part) (hidden_once nest first end) same lawful shallow stands
  once_by (Assign target tree) part same lawful shallow stands = absurd part
  once_by (If tree) part same lawful shallow stands = absurd part
  once_by Else part same lawful shallow stands = absurd part
  once_by EndIf part same lawful shallow stands = absurd part
  once_by (While tree end) part same lawful shallow stands = absurd part

-- ---- the first line for the `end` of a loop

-- such a line has code
end_long : (program : ProgramData) (place_of : ℕ → ℕ) (at depth : ℕ) (statement : Statement) →
    IsOfEnd statement → ((begin : ℕ) → statement ≡ EndFor begin →
    IsFor (statement_at program begin)) →
    0 < length (line_code program place_of at depth statement)
unfolding line_code
end_long program place_of at depth (EndWhile begin) part tied = omega arith
end_long program place_of at depth (EndFor begin) part tied =
    by_opener (statement_at program begin) (tied begin refl)
  where
    by_opener : (opener : Statement) → IsFor opener →
        0 < length (loop_end (program_layout program) place_of begin opener)
    by_opener (For nest first last up end) is =
        let e = length-append (turn_code (program_layout program) nest last)
        (Jz 1 (place_of (end + 1)) ∷ (next_value up ∷
        (own_store (loop_cells (program_layout program) nest)
        ∷ (Jmp (place_of (begin + 1)) ∷ [])))) in omega arith
    by_opener (Assign target tree) is = absurd is
    by_opener (If tree) is = absurd is
    by_opener Else is = absurd is
    by_opener EndIf is = absurd is
    by_opener (While tree end) is = absurd is
    by_opener (EndWhile other) is = absurd is
    by_opener (EndFor other) is = absurd is
end_long program place_of at depth (For nest first last up end) part tied =
    let test = none_code (program_layout program) up first last in
    let e = length-append test (Jz 0 (at + length test + 2) ∷ (Jmp (place_of (end + 1))
    ∷ first_code (program_layout program) nest first)) in omega arith
end_long program place_of at depth (Assign target tree) part tied = absurd part
end_long program place_of at depth (If tree) part tied = absurd part
end_long program place_of at depth Else part tied = absurd part
end_long program place_of at depth EndIf part tied = absurd part
end_long program place_of at depth (While tree end) part tied = absurd part

abbrev statement_in : Option Line → Statement
statement_in o = elim o as (λ (x : Option Line). Statement)
    [ None ↦ EndIf | Some l ↦ l.statement ]

module _ (program : ProgramData) (j : ℕ) (line : Line)
    (is : slice_get program.lines j ≡ Some line) (ends : ends_loop line.statement ≡ true) where
  record FirstOfEnd : Type 0 where
    line_is : Line
    found : slice_get (flat program).lines (first_flat_of program j) ≡ Some line_is
    part : IsOfEnd line_is.statement

  last_is_end : (statement : Statement) → ends_loop statement ≡ true →
      IsOfEnd (moved_statement program (statement_parts program statement).1)
  last_is_end (EndWhile begin) e = tt
  last_is_end (EndFor begin) e = tt
  last_is_end (Assign target tree) e = absurd (let no : false ≡ true = e in cc)
  last_is_end (If tree) e = absurd (let no : false ≡ true = e in cc)
  last_is_end Else e = absurd (let no : false ≡ true = e in cc)
  last_is_end EndIf e = absurd (let no : false ≡ true = e in cc)
  last_is_end (While tree end) e = absurd (let no : false ≡ true = e in cc)
  last_is_end (For nest first last up end) e = absurd (let no : false ≡ true = e in cc)

  -- only the bound of a `for` has pieces
  common_end : (statement : Statement) → ends_loop statement ≡ true →
      0 < length (statement_parts program statement).0 → is_for_all statement ≡ true
  common_end (EndWhile begin) e some = absurd (omega (arith, some))
  common_end (EndFor begin) e some = refl
  common_end (Assign target tree) e some = absurd (let no : false ≡ true = e in cc)
  common_end (If tree) e some = absurd (let no : false ≡ true = e in cc)
  common_end Else e some = absurd (let no : false ≡ true = e in cc)
  common_end EndIf e some = absurd (let no : false ≡ true = e in cc)
  common_end (While tree end) e some = absurd (let no : false ≡ true = e in cc)
  common_end (For nest first last up end) e some = absurd (let no : false ≡ true = e in cc)

  first_of_end : FirstOfEnd
  first_of_end = ⊎_elim
      (λ (some : 0 < length (pieces_of program line)).
      let end = last_of program 0 in
      let hidden = hidden_is end line (base_of program line.statement) (pieces_of program line) 0
      some in
      let e : first_flat_of program j + 0 ≡ first_flat_of program j = omega arith in record {
        line_is =
            record line { statement = giving (is_for_all line.statement) end hidden.0 hidden.1 };
        found = ap (slice_get (flat program).lines) (sym e)
            ∙ hidden_stands program j line is 0 some ∙ hidden.2;
        part = subst (λ common. IsOfEnd (giving common end hidden.0 hidden.1))
            (sym (common_end line.statement ends some)) refl;
      })
      (λ (none : length (pieces_of program line) ≤ 0).
      let e : first_flat_of program j ≡ first_flat_of program j + length (pieces_of program line) =
      omega (arith, none) in record {
        line_is = last_line program line;
        found = ap (slice_get (flat program).lines) e ∙ last_stands program j line is;
        part = last_is_end line.statement ends;
      })
      (cases_lt 0 (length (pieces_of program line)))

-- ---- how often it is executed

module _ (program : ProgramData) (job : JobData) (the : IsOf program job) (j : ℕ) (line : Line)
    (is : slice_get program.lines j ≡ Some line) (part : IsOfEnd line.statement) where
  inside : place_of program j < place_of program (j + 1)
  inside =
      let e = length_is program (place_of program) (place_of program j) line in
      let f = place_next program j line is in
      let g = end_long program (place_of program) (place_of program j) line.depth line.statement
      part (λ begin same. the.tied j begin (ap statement_in is ∙ same)) in omega arith

  once : (m : ℕ) → CarriedAt program job the j line is m → (after program m).at ≡ j →
      IsOnceAt program job the j line is (place_of program j) m 0
  once m c here =
      let found = here_is program job the j line is m here in
      subst (λ (k : ℕ). IsOnceAt program job the j line is (place_of program k) m 0) here
      (once_by program job the (after program m) (time_of program m) c line found line.statement part
      refl (line_is program job the (after program m) (time_of program m) c line found).0
      (the.level (after program m).at line found)
      (stands_here program job the (after program m) (time_of program m) c line found))

-- ---- sums

module _ (program : ProgramData) where
  -- of the `end`s of loops among these lines, the first of which is the line j
  ends_sum : (ℕ → ℕ) → ℕ → List Line → ℕ
  ends_sum f j [] = 0
  ends_sum f j (line ∷ lines) =
      (if ends_loop line.statement then f j else 0) + ends_sum f (j + 1) lines

  ends_both : (f g : ℕ → ℕ) (j : ℕ) (lines : List Line) →
      ends_sum (λ k. f k + g k) j lines ≡ ends_sum f j lines + ends_sum g j lines
  unfolding ends_sum
  ends_both f g j [] = refl
  ends_both f g j (line ∷ lines) =
      let rest = ends_both f g (j + 1) lines in
      let one = by_test (ends_loop line.statement) in omega (arith, rest, one)
    where
      by_test : (b : Bool) →
          (if b then f j + g j else 0) ≡ (if b then f j else 0) + (if b then g j else 0)
      by_test true = refl
      by_test false = refl

  ends_none : (j : ℕ) (lines : List Line) → ends_sum (λ k. 0) j lines ≡ 0
  unfolding ends_sum
  ends_none j [] = refl
  ends_none j (line ∷ lines) =
      let rest = ends_none (j + 1) lines in
      let one = by_test (ends_loop line.statement) in omega (arith, rest, one)
    where
      by_test : (b : Bool) → ◌≡◌ {A = ℕ} (if b then 0 else 0) 0
      by_test true = refl
      by_test false = refl

  module _ (at : ℕ) where
    abbrev here : ℕ → ℕ
    here k = bit (at == k)

    away_one : (j : ℕ) (line : Line) → at ≢ j →
        (if ends_loop line.statement then here j else 0) ≡ 0
    away_one j line apart = ap (λ b. if ends_loop line.statement then bit b else 0)
        (ne_eqb at j apart) ∙ by_test (ends_loop line.statement)
      where
        by_test : (b : Bool) → ◌≡◌ {A = ℕ} (if b then 0 else 0) 0
        by_test true = refl
        by_test false = refl

    here_one : (j : ℕ) (line : Line) → at ≡ j →
        (if ends_loop line.statement then here j else 0) ≡ bit (ends_loop line.statement)
    here_one j line same = ap (λ b. if ends_loop line.statement then bit b else 0)
        (eq-eqb at j same) ∙ by_test (ends_loop line.statement)
      where
        by_test : (b : Bool) → (if b then 1 else 0) ≡ bit b
        by_test true = refl
        by_test false = refl

    ends_later : (j : ℕ) (lines : List Line) → at < j → ends_sum here j lines ≡ 0
    unfolding ends_sum
    ends_later j [] lt = refl
    ends_later j (line ∷ lines) lt =
        let one = away_one j line (λ e. omega arith) in
        let rest = ends_later (j + 1) lines (omega arith) in omega (arith, one, rest)

    ends_here : (j d : ℕ) (lines : List Line) → at ≡ j + d →
        ends_sum here j lines ≡ bit (ends_loop (statement_in (slice_get lines d)))
    unfolding ends_sum
    ends_here j d [] e = refl
    ends_here j zero (line ∷ lines) e =
        let one = here_one j line (omega arith) in
        let rest = ends_later (j + 1) lines (omega arith) in omega (arith, one, rest)
    ends_here j (suc d) (line ∷ lines) e =
        let one = away_one j line (λ same. omega arith) in
        let rest = ends_here (j + 1) d lines (omega arith) in omega (arith, one, rest)

  rounds_add_up : (n : ℕ) →
      ends_sum (λ j. line_times program j n) 0 program.lines ≡ rounds_to program n
  unfolding line_times rounds_to
  rounds_add_up zero = ends_none 0 program.lines
  rounds_add_up (suc n) =
      ends_both (λ j. line_times program j n) (here (after program n).at) 0 program.lines
      ∙ ap (λ m. m + ends_sum (here (after program n).at) 0 program.lines) (rounds_add_up n)
      ∙ ap (λ m. rounds_to program n + m)
      (ends_here (after program n).at 0 (after program n).at program.lines
      (let e : (after program n).at ≡ 0 + (after program n).at = omega arith in e))

  -- where each of them is told, their sum is
  ends_told : (f told : ℕ → ℕ) (j : ℕ) (lines : List Line) → ((k : ℕ) (line : Line) →
      slice_get lines k ≡ Some line → ends_loop line.statement ≡ true →
      f (place_of_line program (j + k)) ≡ told (j + k)) →
      sum_by f (loop_ends_from program j lines) ≡ ends_sum told j lines
  unfolding ends_sum
  ends_told f told j [] each = refl
  ends_told f told j (line ∷ lines) each =
      let both = sum_by-append f (loop_end_at (place_of_line program j) line.statement)
      (loop_ends_from program (j + 1) lines) in
      let one = by_test (ends_loop line.statement) refl in
      let rest = ends_told f told (j + 1) lines (λ k other is ends.
      let next : j + suc k ≡ j + 1 + k = omega arith in
      subst (λ m. f (place_of_line program m) ≡ told m) next (each (suc k) other is ends)) in
      omega (arith, both, one, rest)
    where
      by_test : (b : Bool) → ends_loop line.statement ≡ b →
          sum_by f (if ends_loop line.statement then place_of_line program j ∷ [] else [])
          ≡ (if ends_loop line.statement then told j else 0)
      by_test true e =
          let same : j + 0 ≡ j = omega arith in
          ap (λ b. sum_by f (if b then place_of_line program j ∷ [] else [])) e
          ∙ sum_by-cons f (place_of_line program j) []
          ∙ (let z : f (place_of_line program j) + 0 ≡ f (place_of_line program j) = omega arith in z)
          ∙ subst (λ m. f (place_of_line program m) ≡ told m) same (each 0 line refl e)
          ∙ sym (ap (λ b. if b then told j else 0) e)
      by_test false e =
          ap (λ b. sum_by f (if b then place_of_line program j ∷ [] else [])) e
          ∙ sym (ap (λ b. if b then told j else 0) e)

pub jobs_tell_rounds : JobsTellRounds
jobs_tell_rounds program job line_of n lawful nested compiled lines =
    ends_told program (λ first. instruction_steps job first job.steps)
    (λ j. line_times program j n) 0 program.lines (λ k line is ends.
    let the = of_flat program job line_of lawful nested compiled in
    let its = first_of_end program k line is ends in
    let same : k ≡ 0 + k = omega arith in
    subst (λ (m : ℕ). instruction_steps job (place_of_line program m) job.steps
    ≡ line_times program m n) same
    (times_told program lawful job line_of the compiled.whole compiled.numbers k line is its.line_is
    its.found (inside (flat program) job the (first_flat_of program k) its.line_is its.found its.part)
    (once (flat program) job the (first_flat_of program k) its.line_is its.found its.part) n lines))
    ∙ rounds_add_up program n
