-- The job of the flat program carries the run of the program.
use Rattle.std.proofs.Common.{◌≡◌, ℕ, zero, suc, ◌+◌, ◌-◌, ◌*◌, ◌<◌, ◌≤◌, ◌==◌, ◌⊎◌, Bool, true, false}
use Rattle.std.proofs.Common.{Option, Some, None, refl, sym, ap, ◌∙◌, subst, inl, inr, ⊎_elim}
use Rattle.std.proofs.Common.{arith, if◌then◌else◌, length, max}
use Rattle.std.specs.Prelude.{IsTrue, is_some, slice_get}
use Rattle.std.proofs.Math.Nat.{mul_comm}
use Rattle.std.proofs.lemmas.Bool.{cases_lt}
use Rattle.std.proofs.lemmas.Option.{none-some, slice_get_within}
use mathlib.Core.Path.{fun_ext}
use Rattle.pram_job.specs.declared.instr.Rule.{Rule}
use Rattle.pram_job.specs.Job.{JobData}
use Rattle.pram_step.specs.declared.answer.Dispute.{Dispute}
use Rattle.pram_step.specs.Disputes.{Clash, IsLeastClash}
use Rattle.pardo_program.specs.declared.statement.Line.{Line}
use Rattle.pardo_program.specs.declared.statement.Statement.{Statement}
use Rattle.pardo_program.specs.declared.statement.Statement.TheVariants.{Assign, If, Else, EndIf}
use Rattle.pardo_program.specs.declared.statement.Statement.TheVariants.{While, EndWhile, For}
use Rattle.pardo_program.specs.declared.statement.Statement.TheVariants.{EndFor}
use Rattle.pardo_program.specs.declared.statement.Target.TheVariants.{Private, Array as Shared}
use Rattle.pardo_program.specs.Lawful.{IsLine, IsProgram, IsStatement, bounds_of}
use Rattle.pardo_program.specs.Nested.{IsNested}
use Rattle.pardo_program.specs.Program.{ProgramData, shared_cells}
use Rattle.pardo_flat.specs.Layouts.{cell_count, program_layout}
use Rattle.pardo_flat.specs.Statements.{statement_at}
use Rattle.pardo_flat.specs.Flat.{first_flat_of, flat, is_for_all, last_line, pieces_of}
use Rattle.pardo_flat.proofs.FlatLines.{flat_at, flat_end, last_stands}
use Rattle.pardo_job.specs.Carries.{EndsAs}
use Rattle.pardo_job.specs.Compiled.{AreLineNumbers, IsCompiled, IsWhole}
use Rattle.pardo_job.specs.Conflicts.{LineAgrees, IsLineDispute, asked_for}
use Rattle.pardo_job.specs.Leaving.{GoneIn}
use Rattle.pardo_job.specs.Lines.{job_of}
use Rattle.pardo_job.specs.Meaning.{Source, after, after_statement, common_value, has_none}
use Rattle.pardo_job.specs.Meaning.{by_common, loop_ended, next, next_turn, on_to}
use Rattle.pardo_job.specs.Meaning.{loop_turned}
use Rattle.pardo_job.specs.Runs.{AllGone, IsLineReached, IsProgramConflict, IsProgramEnd}
use Rattle.pardo_job.specs.Runs.{IsProgramOver, line_number}
use Rattle.pardo_job.proofs.Meanings.{next_at, outside_is_unchanged}
use Rattle.pardo_job.specs.Carries.{Carries}
use Rattle.pardo_law.specs.Theorem.{JobsCarryPrograms}
use Rattle.pardo_law.specs.Flattening.{IsLeft, KeepsLine, KeepsRun}
use Rattle.pardo_job.specs.Carries.{StandsFor}
use Rattle.pardo_law.specs.Flattening.{flat_count, size_next}
use Rattle.pardo_law.proofs.Between.{rises_to}
use Rattle.pardo_law.proofs.Carried.{Carried}
use Rattle.pardo_law.proofs.Carrying.{AreMade, IsMade, all_at, carried_made, line_next}
use Rattle.pardo_law.proofs.Carrying.{time_of}
use Rattle.pardo_law.proofs.Disputing.{line_number_is}
use Rattle.pardo_law.proofs.Ending.{done, ends_as}
use Rattle.pardo_law.proofs.Finishing.{finishes, reached_next}
use Rattle.pardo_job.proofs.FlatCompiled.{compiled_lawful}
use Rattle.pardo_law.proofs.FlatLawful.{flat_tied}
use Rattle.pardo_law.proofs.FlatStates.{some_at}
use Rattle.pardo_law.proofs.Flattening.{after_next, flattening_keeps_runs, gone_later, no_more}
use Rattle.pardo_law.proofs.Flattening.{none_asked, size}
use Rattle.pardo_law.proofs.Picturing.{IsOf}
use Rattle.pardo_law.proofs.Showing.{shows}
use Rattle.pardo_law.proofs.Splitting.{inactive_gone}
use Rattle.pardo_law.proofs.Theorem.{IsStep, step_in, tied}

-- ---- the place of the line that is next

if_at : (b : Bool) (x y : Source) (n : ℕ) → x.at ≤ n → y.at ≤ n → (if b then x else y).at ≤ n
if_at true x y n low high = low
if_at false x y n low high = high

common_at : (program : ProgramData) (text_line : ℕ) (source : Source) (o : Option ℕ)
    (goes : ℕ → Source) → ((v : ℕ) → (goes v).at ≤ length program.lines) →
    (by_common program text_line source o goes).at ≤ length program.lines
common_at program text_line source None goes within = omega arith
common_at program text_line source (Some v) goes within = within v

loop_within : (program : ProgramData) (text_line begin : ℕ) (opener : Statement)
    (source : Source) → begin < length program.lines →
    IsStatement (bounds_of program) opener → source.at < length program.lines →
    (loop_ended program text_line begin opener source).at ≤ length program.lines
loop_within program text_line begin (For nest first last up end) source low is lt =
    common_at program text_line source (common_value program source last) _ (λ b.
    if_at (source.loops nest == b) (on_to (end + 1) source)
    (on_to (begin + 1) (loop_turned nest (next_turn up (source.loops nest)) source))
    (length program.lines) (let e = is.3 in omega (arith, e)) (omega (arith, low)))
loop_within program text_line begin (Assign target tree) source low is lt = omega (arith, lt)
loop_within program text_line begin (If tree) source low is lt = omega (arith, lt)
loop_within program text_line begin Else source low is lt = omega (arith, lt)
loop_within program text_line begin EndIf source low is lt = omega (arith, lt)
loop_within program text_line begin (While tree end) source low is lt = omega (arith, lt)
loop_within program text_line begin (EndWhile line) source low is lt = omega (arith, lt)
loop_within program text_line begin (EndFor line) source low is lt = omega (arith, lt)

lawful_in : (program : ProgramData) → IsProgram program → (begin : ℕ) (o : Option Line) →
    slice_get program.lines begin ≡ o → IsStatement (bounds_of program)
    (elim o as (λ (x : Option Line). Statement) [ None ↦ EndIf | Some line ↦ line.statement ])
lawful_in program lawful begin None e = tt
lawful_in program lawful begin (Some line) e =
    (all_at (IsLine (bounds_of program)) program.lines begin line lawful.lines e).0

statement_within : (program : ProgramData) → IsProgram program → (text_line depth : ℕ)
    (statement : Statement) (source : Source) → IsStatement (bounds_of program) statement →
    source.at < length program.lines →
    (after_statement program text_line depth statement source).at ≤ length program.lines
statement_within program lawful text_line depth (Assign (Private x) tree) source is lt =
    omega (arith, lt)
statement_within program lawful text_line depth (Assign (Shared array index) tree) source is lt =
    omega (arith, lt)
statement_within program lawful text_line depth (If tree) source is lt = omega (arith, lt)
statement_within program lawful text_line depth Else source is lt = omega (arith, lt)
statement_within program lawful text_line depth EndIf source is lt = omega (arith, lt)
statement_within program lawful text_line depth (While tree end) source is lt =
    common_at program text_line source (common_value program source tree) _ (λ v.
    if_at (v == 0) (on_to (end + 1) source) (on_to (source.at + 1) source)
    (length program.lines) (let e = is.1 in omega (arith, e)) (omega (arith, lt)))
statement_within program lawful text_line depth (EndWhile begin) source is lt =
    omega (arith, is)
statement_within program lawful text_line depth (For nest first last up end) source is lt =
    common_at program text_line source (common_value program source first) _ (λ a.
    common_at program text_line source (common_value program source last) _ (λ b.
    if_at (has_none up a b) (on_to (end + 1) source) (on_to (source.at + 1) (loop_turned nest a source))
    (length program.lines) (let e = is.3 in omega (arith, e)) (omega (arith, lt))))
statement_within program lawful text_line depth (EndFor begin) source is lt =
    loop_within program text_line begin (statement_at program begin) source is
    (lawful_in program lawful begin (slice_get program.lines begin) refl) lt

pub no_line_after : (program : ProgramData) (n : ℕ) →
    slice_get program.lines (after program n).at ≡ None →
    after program (suc n) ≡ after program n
unfolding next
no_line_after program n none = after_next program n
    ∙ ap (λ (o : Option Line). elim o as (λ (x : Option Line). Source) [
      | None ↦ after program n
      | Some line ↦
          after_statement program line.number line.depth line.statement (after program n)
    ]) none

pub at_within : (program : ProgramData) → IsProgram program → (n : ℕ) →
    (after program n).at ≤ length program.lines
unfolding after
at_within program lawful zero = omega arith
at_within program lawful (suc n) =
    by_line (at_within program lawful n) (slice_get program.lines (after program n).at) refl
  where
    by_line : (after program n).at ≤ length program.lines →
        (o : Option Line) → slice_get program.lines (after program n).at ≡ o →
        (after program (suc n)).at ≤ length program.lines
    by_line low None e = subst (λ (s : Source). s.at ≤ length program.lines)
        (sym (no_line_after program n e)) low
    by_line low (Some line) e = subst (λ (s : Source). s.at ≤ length program.lines)
        (sym (after_next program n ∙ next_at program (after program n) line e))
        (statement_within program lawful line.number line.depth line.statement (after program n)
        (all_at (IsLine (bounds_of program)) program.lines (after program n).at line lawful.lines
        e).0
        (slice_get_within program.lines (after program n).at line e))

-- ---- lines that ask for the same

-- who asks for what, as a function of the processor
abbrev Requests : Type 0
Requests = ℕ → Option (ℕ × ℕ)

abbrev AssignsBy : ℕ → Requests → ℕ → ℕ → ℕ → Type 0
AssignsBy procs requests cell i value = (i < procs) × (requests i ≡ Some (cell, value))

abbrev AgreeBy : Rule → ℕ → Requests → Type 0
AgreeBy rule procs requests =
    (cell i j : ℕ) → Clash rule (AssignsBy procs requests) cell i j → ⊥

-- a request that nobody makes
none_clash : (rule : Rule) (procs : ℕ) (requests : Requests) →
    ((i : ℕ) → i < procs → requests i ≡ None) → AgreeBy rule procs requests
none_clash rule procs requests none cell i j clash =
    none-some (cell, clash.value) (sym (none i clash.writes.0) ∙ clash.writes.1)

module _ (program : ProgramData) (source flat_source : Source)
    (same : (i : ℕ) → asked_for (flat program) flat_source i ≡ asked_for program source i) where
  pub agrees_to : LineAgrees program source → LineAgrees (flat program) flat_source
  agrees_to agrees =
      subst (AgreeBy program.rule program.procs) (sym (fun_ext same)) agrees

  pub agrees_from : LineAgrees (flat program) flat_source → LineAgrees program source
  agrees_from agrees = subst (AgreeBy program.rule program.procs) (fun_ext same) agrees

  pub dispute_to : (dispute : Dispute) → IsLineDispute program source dispute →
      IsLineDispute (flat program) flat_source dispute
  dispute_to dispute is = subst (λ (requests : Requests).
      IsLeastClash program.rule (AssignsBy program.procs requests) dispute)
      (sym (fun_ext same)) is

  pub dispute_from : (dispute : Dispute) → IsLineDispute (flat program) flat_source dispute →
      IsLineDispute program source dispute
  dispute_from dispute is = subst (λ (requests : Requests).
      IsLeastClash program.rule (AssignsBy program.procs requests) dispute) (fun_ext same) is

-- ---- the run and the flat run

pub is_gone : (g : Option ℕ) → IsTrue (is_some g) → (number : ℕ) × (g ≡ Some number)
is_gone None e = let no : false ≡ true = e in absurd (cc)
is_gone (Some number) e = (number, refl)

module _ (program : ProgramData) (lawful : IsProgram program) where
  abbrev pub other : ProgramData
  other = flat program

  abbrev pub count : ℕ → ℕ
  count n = flat_count program n

  pub keeps : (n : ℕ) → KeepsRun program n
  keeps n = flattening_keeps_runs program n lawful

  pub stands : (n : ℕ) → StandsFor program (after program n) (after other (count n))
  stands n = (keeps n).stands

  pub keeps_line : (n : ℕ) (line : Line) →
      slice_get program.lines (after program n).at ≡ Some line → KeepsLine program n line
  keeps_line n line is = (keeps n).line line is

  pub count_next : (n : ℕ) (line : Line) →
      slice_get program.lines (after program n).at ≡ Some line →
      count (suc n) ≡ count n + length (pieces_of program line) + 1
  count_next n line is = size program lawful n (stands n) line is

  count_none : (n : ℕ) → slice_get program.lines (after program n).at ≡ None →
      count (suc n) ≡ count n
  count_none n none = ap (λ o. count n + size_next program o) none
      ∙ (let e : count n + 0 ≡ count n = omega arith in e)

  -- the last line of the text is the last flat line
  first_end : first_flat_of program (length program.lines) ≡ length other.lines
  first_end = sym (flat_end program)

  -- a flat line is next in the midst of a line, or all are gone
  here_line : (n k : ℕ) (line : Line) →
      slice_get program.lines (after program n).at ≡ Some line →
      k ≤ length (pieces_of program line) →
      (after other (count n + k)).at ≡ first_flat_of program (after program n).at + k →
      (after other (count n + k)).at < length other.lines
  here_line n k line is le here =
      let last = slice_get_within other.lines
      (first_flat_of program (after program n).at + length (pieces_of program line))
      (last_line program line) (last_stands program (after program n).at line is) in
      omega (arith, here, last, le)

  pub at_line : (n k : ℕ) (line : Line) →
      slice_get program.lines (after program n).at ≡ Some line →
      k ≤ length (pieces_of program line) →
      ((after other (count n + k)).at < length other.lines)
      ⊎ AllGone other (after other (count n + k))
  at_line n k line is le = ⊎_elim
      (λ here. inl (here_line n k line is le here))
      (λ (left : IsTrue (is_for_all line.statement) × IsLeft other (after other (count n + k))).
      inr (λ i lt. left.1.all i))
      ((keeps_line n line is).at k le)

  -- where it is left, no line is next
  pub left_none : (source : Source) → IsLeft other source →
      slice_get other.lines source.at ≡ None
  left_none source left =
      sym (ap (slice_get other.lines) left.at) ∙ no_more other.lines

  -- where no line is next, none is in the flat run
  pub at_end : (n : ℕ) → slice_get program.lines (after program n).at ≡ None →
      length program.lines ≡ (after program n).at
  at_end n none = ⊎_elim
      (λ (low : (after program n).at < length program.lines).
      let line = some_at program.lines (after program n).at low in
      absurd (none-some line.0 (sym none ∙ line.1)))
      (λ (high : length program.lines ≤ (after program n).at).
      let e = at_within program lawful n in omega (arith, e, high))
      (cases_lt (after program n).at (length program.lines))

  pub over_to : (n : ℕ) → IsProgramOver program (after program n) →
      IsProgramOver other (after other (count n))
  over_to n (inl ends) = inl (sym first_end ∙ ap (first_flat_of program) ends ∙ sym (stands n).at)
  over_to n (inr all) = inr (λ i lt. subst (λ (g : ℕ → Option ℕ). IsTrue (is_some (g i)))
      (sym (stands n).gone) (all i lt))

  -- ---- in the midst of a line all are gone

  abbrev AllGoneIn : ℕ → Type 0
  AllGoneIn m = AllGone other (after other m)

  all_later : (m k : ℕ) → AllGoneIn m → AllGoneIn (m + k)
  all_later m k all i lt =
      let line = is_gone ((after other m).gone i) (all i lt) in
      subst (λ g. IsTrue (is_some g)) (sym (gone_later other i line.0 m k line.1)) refl

  pub all_back : (n : ℕ) → AllGoneIn (count n) → AllGone program (after program n)
  all_back n all i lt = subst (λ (g : ℕ → Option ℕ). IsTrue (is_some (g i)))
      (stands n).gone (all i lt)

  -- then the line agrees
  agrees_gone : (n k : ℕ) (line : Line) →
      slice_get program.lines (after program n).at ≡ Some line →
      k ≤ length (pieces_of program line) → AllGoneIn (count n + k) →
      LineAgrees program (after program n)
  agrees_gone n k line is le all =
      let p : ℕ = length (pieces_of program line) in
      let keep = keeps_line n line is in
      let same : count n + k + (p - k) ≡ count n + p = omega (arith, le) in
      let late : AllGoneIn (count n + p) = subst AllGoneIn same
      (all_later (count n + k) (p - k) all) in
      let now = after other (count n + p) in
      agrees_from program (after program n) now keep.asks
      (none_clash program.rule program.procs (asked_for other now)
      (λ i lt. ⊎_elim
      (λ (at : now.at ≡ first_flat_of program (after program n).at + p).
      let gone = is_gone (now.gone i) (late i lt) in
      let here : slice_get other.lines now.at ≡ Some (last_line program line) =
      ap (slice_get other.lines) at ∙ last_stands program (after program n).at line is in
      (outside_is_unchanged other now (last_line program line) i here
      (inactive_gone now line.depth i gone.0 gone.1)).asks)
      (λ (left : IsTrue (is_for_all line.statement) × IsLeft other now).
      none_asked other now i (left_none now left.1))
      (keep.at p (omega arith))))

  -- ---- lines that are made

  pub hidden_agrees : (n k : ℕ) (line : Line) →
      slice_get program.lines (after program n).at ≡ Some line →
      k < length (pieces_of program line) → LineAgrees other (after other (count n + k))
  hidden_agrees n k line is lt =
      none_clash program.rule program.procs (asked_for other (after other (count n + k)))
      (λ i low. (keeps_line n line is).hidden k i lt)

  made_at : (n k : ℕ) (line : Line) → slice_get program.lines (after program n).at ≡ Some line →
      k ≤ length (pieces_of program line) → LineAgrees other (after other (count n + k)) →
      IsMade other (count n + k)
  made_at n k line is le agrees = ⊎_elim
      (λ here. inl (here_line n k line is le here, agrees))
      (λ (left : IsTrue (is_for_all line.statement) × IsLeft other (after other (count n + k))).
      inr (left_none (after other (count n + k)) left.1))
      ((keeps_line n line is).at k le)

  -- hidden lines on from others
  pub made_on : (n k : ℕ) (line : Line) →
      slice_get program.lines (after program n).at ≡ Some line →
      k ≤ length (pieces_of program line) → AreMade other (count n) → AreMade other (count n + k)
  made_on n k line is le so_far earlier lt = ⊎_elim
      (λ (low : earlier < count n). so_far earlier low)
      (λ (high : count n ≤ earlier).
      let same : count n + (earlier - count n) ≡ earlier = omega (arith, high) in
      subst (IsMade other) same
      (made_at n (earlier - count n) line is (omega (arith, lt, le, high))
      (hidden_agrees n (earlier - count n) line is (omega (arith, lt, le, high)))))
      (cases_lt earlier (count n))

  -- and the last line for this line
  made_line : (n : ℕ) (line : Line) → slice_get program.lines (after program n).at ≡ Some line →
      LineAgrees program (after program n) → AreMade other (count n) → AreMade other (count (suc n))
  made_line n line is agrees so_far earlier lt =
      let p : ℕ = length (pieces_of program line) in
      let more = count_next n line is in
      ⊎_elim
      (λ (low : earlier < count n + p).
      made_on n p line is (omega arith) so_far earlier low)
      (λ (high : count n + p ≤ earlier).
      let same : count n + p ≡ earlier = omega (arith, high, lt, more) in
      subst (IsMade other) same (made_at n p line is (omega arith)
      (agrees_to program (after program n) (after other (count n + p)) (keeps_line n line is).asks
      agrees)))
      (cases_lt earlier (count n + p))

  pub made_flat : (n : ℕ) → IsLineReached program n → AreMade other (count n)
  made_flat zero reached = λ earlier lt. absurd (omega (arith, lt))
  made_flat (suc n) reached =
      by_line (made_flat n (λ earlier lt. reached earlier (omega (arith, lt))))
      (slice_get program.lines (after program n).at) refl
    where
      by_line : AreMade other (count n) → (o : Option Line) →
          slice_get program.lines (after program n).at ≡ o → AreMade other (count (suc n))
      by_line so_far None e = subst (AreMade other) (sym (count_none n e)) so_far
      by_line so_far (Some line) e = made_line n line e (reached n (omega arith)).1 so_far

  -- it has the number of the line
  pub same_number_at : (n k : ℕ) (line : Line) →
      slice_get program.lines (after program n).at ≡ Some line →
      k ≤ length (pieces_of program line) →
      (after other (count n + k)).at ≡ first_flat_of program (after program n).at + k →
      line_number other (after other (count n + k)) ≡ line_number program (after program n)
  same_number_at n k line is le at =
      let found = flat_at program (after program n).at line is k le in
      let here : slice_get other.lines (after other (count n + k)).at ≡ Some found.0 =
      ap (slice_get other.lines) at ∙ found.1 in
      line_number_is other (after other (count n + k)) found.0 here ∙ found.2
      ∙ sym (line_number_is program (after program n) line is)

  pub same_number : (n k : ℕ) (line : Line) →
      slice_get program.lines (after program n).at ≡ Some line →
      k ≤ length (pieces_of program line) →
      (line_number other (after other (count n + k)) ≡ line_number program (after program n))
      ⊎ AllGone other (after other (count n + k))
  same_number n k line is le = ⊎_elim
      (λ at. inl (same_number_at n k line is le at))
      (λ (left : IsTrue (is_for_all line.statement) × IsLeft other (after other (count n + k))).
      inr (λ i lt. left.1.all i))
      ((keeps_line n line is).at k le)

  -- the last line for a line that is in conflict is there
  pub conflict_at : (n : ℕ) (dispute : Dispute) → IsProgramConflict program n dispute →
      (line : Line) → slice_get program.lines (after program n).at ≡ Some line →
      (after other (count n + length (pieces_of program line))).at
      ≡ first_flat_of program (after program n).at + length (pieces_of program line)
  conflict_at n dispute is line here =
      let p : ℕ = length (pieces_of program line) in
      let now = after other (count n + p) in
      let keep = keeps_line n line here in ⊎_elim
      (λ at. at)
      (λ (left : IsTrue (is_for_all line.statement) × IsLeft other now).
      absurd (none_clash program.rule program.procs (asked_for program (after program n))
      (λ i lt. sym (keep.asks i) ∙ none_asked other now i (left_none now left.1))
      dispute.cell dispute.first dispute.second is.disputed.clash))
      (keep.at p (omega arith))

-- ---- the job

module _ (program : ProgramData) (lawful : IsProgram program) (job : JobData) (line_of : ℕ → ℕ)
    (of : IsOf (flat program) job) (whole : IsWhole job)
    (numbers : AreLineNumbers (flat program) line_of) where
  abbrev pub time_flat : ℕ → ℕ
  time_flat m = time_of (flat program) m

  abbrev pub time : ℕ → ℕ
  time n = time_flat (flat_count program n)

  pub time_rises : (m k : ℕ) → m ≤ k → time_flat m ≤ time_flat k
  time_rises m k le =
      let same : m + (k - m) ≡ k = omega (arith, le) in
      subst (λ j. time_flat m ≤ time_flat j) same
      (rises_to time_flat (λ j. let e : j + 1 ≡ suc j = omega arith in
      let f : time_flat (j + 1) ≡ time_flat (suc j) = ap time_flat e in omega (arith, f)) m (k - m))

  pub carried : (n : ℕ) → IsLineReached program n →
      Carried (flat program) job (after (flat program) (flat_count program n)) (time n)
  carried n reached = carried_made (flat program) job of (flat_count program n)
      (made_flat program lawful n reached)

  shared_same : (program_layout (flat program)).shared ≡ (program_layout program).shared
  unfolding program_layout
  shared_same = refl

  pub ends_flat : (n : ℕ) → IsProgramEnd program n →
      EndsAs program job line_of (after program n) × (job.steps ≤ time n + 1)
  ends_flat n is =
      let made = made_flat program lawful n is.reached in
      let over = over_to program lawful n is.over in
      let stands_here = stands program lawful n in
      let e = ends_as (flat program) job of whole line_of numbers (flat_count program n) made over
      in (
        record {
          reached = e.reached;
          stopped = e.stopped;
          cells = λ cell lt. e.cells cell (let s = shared_same in omega (arith, s, lt))
              ∙ ap (λ (f : ℕ → ℕ). f cell) stands_here.shares.cells;
          gone = λ i lt. subst (λ (g : ℕ → Option ℕ). GoneIn job line_of job.steps i (g i))
              stands_here.gone (e.gone i lt);
        },
        (done (flat program) job of whole line_of numbers (flat_count program n) made over).within,
      )

  -- the line of a conflict
  pub in_line : (n : ℕ) (dispute : Dispute) → IsProgramConflict program n dispute → (line : Line) →
      slice_get program.lines (after program n).at ≡ Some line → (m : ℕ) →
      m ≡ flat_count program n + length (pieces_of program line) →
      IsStep (flat program) job line_of m dispute
  in_line n dispute is line here m same =
      let p : ℕ = length (pieces_of program line) in
      let keep = keeps_line program lawful n line here in
      subst (λ j. IsStep (flat program) job line_of j dispute) (sym same)
      (step_in (flat program) job line_of of whole numbers (flat_count program n + p)
      (carried_made (flat program) job of (flat_count program n + p)
      (made_on program lawful n p line here (omega arith)
      (made_flat program lawful n is.reached)))
      (last_line program line)
      (ap (slice_get (flat program).lines) (conflict_at program lawful n dispute is line here)
      ∙ last_stands program (after program n).at line here) dispute
      (dispute_to program (after program n) (after (flat program) (flat_count program n + p))
      keep.asks dispute is.disputed))

  pub line_next_in : (n : ℕ) → (IsProgramOver program (after program n) → ⊥) →
      (line : Line) × (slice_get program.lines (after program n).at ≡ Some line)
  line_next_in n goes_on =
      line_next program (after program n) (at_within program lawful n) goes_on

  -- ---- where the run ends

  abbrev pub pieces_next : Option Line → ℕ
  pieces_next None = 0
  pieces_next (Some line) = length (pieces_of program line)

  -- the line that a flat line is one of
  pub record Within (m : ℕ) : Type 0 where
    pub n : ℕ
    pub k : ℕ
    pub reached : IsLineReached program n
    pub is_at : m ≡ flat_count program n + k
    pub few : k ≤ pieces_next (slice_get program.lines (after program n).at)

  pub few_in : (m : ℕ) (w : Within m) (o : Option Line) →
      slice_get program.lines (after program w.n).at ≡ o → w.k ≤ pieces_next o
  few_in m w o e = subst (λ p. w.k ≤ pieces_next p) e w.few

  -- no line is next
  pub none_next : (m : ℕ) (w : Within m) → slice_get program.lines (after program w.n).at ≡ None →
      (IsProgramOver program (after program w.n)) × (flat_count program w.n ≡ m)
  none_next m w none =
      let few = few_in m w None none in
      let is = w.is_at in
      (inl (at_end program lawful w.n none), omega (arith, few, is))

  -- the program goes on where the flat one did
  goes_on : (m n k : ℕ) (line : Line) →
      slice_get program.lines (after program n).at ≡ Some line → m ≡ flat_count program n + k →
      (AllGone (flat program) (after (flat program) m) → ⊥) →
      IsProgramOver program (after program n) → ⊥
  goes_on m n k line is same not_gone (inl ends) =
      let lt = slice_get_within program.lines (after program n).at line is in
      omega (arith, ends, lt)
  goes_on m n k line is same not_gone (inr all) =
      not_gone (subst (λ j. AllGone (flat program) (after (flat program) j)) (sym same)
      (all_later program lawful (flat_count program n) k
      (λ i lt. subst (λ (g : ℕ → Option ℕ). IsTrue (is_some (g i)))
      (sym (stands program lawful n).gone) (all i lt))))

  flat_agrees : (m n k : ℕ) (line : Line) →
      slice_get program.lines (after program n).at ≡ Some line → m ≡ flat_count program n + k →
      k ≡ length (pieces_of program line) → LineAgrees (flat program) (after (flat program) m) →
      LineAgrees program (after program n)
  flat_agrees m n k line is same all agrees =
      let e : m ≡ flat_count program n + length (pieces_of program line) =
      omega (arith, same, all) in
      agrees_from program (after program n)
      (after (flat program) (flat_count program n + length (pieces_of program line)))
      (keeps_line program lawful n line is).asks
      (subst (λ j. LineAgrees (flat program) (after (flat program) j)) e agrees)

  pub find : (m : ℕ) → IsLineReached (flat program) m → Within m
  find zero reached = record {
    n = 0;
    k = 0;
    reached = λ earlier lt. absurd (omega (arith, lt));
    is_at = refl;
    few = omega arith;
  }
  find (suc m) reached =
      let w : Within m = find m (λ earlier lt. reached earlier (omega (arith, lt))) in
      by_line w (slice_get program.lines (after program w.n).at) refl
    where
      by_line : (w : Within m) → (o : Option Line) →
          slice_get program.lines (after program w.n).at ≡ o → Within (suc m)
      by_line w None e =
          let end = none_next m w e in
          absurd ((reached m (omega arith)).0
          (subst (λ j. IsProgramOver (flat program) (after (flat program) j)) end.1
          (over_to program lawful w.n end.0)))
      by_line w (Some line) e = ⊎_elim
          (λ (low : w.k < length (pieces_of program line)).
          let is = w.is_at in record {
            n = w.n;
            k = w.k + 1;
            reached = w.reached;
            is_at = omega (arith, is);
            few = subst (λ o. w.k + 1 ≤ pieces_next o) (sym e) (omega (arith, low));
          })
          (λ (high : length (pieces_of program line) ≤ w.k).
          let few = few_in m w (Some line) e in
          let all : w.k ≡ length (pieces_of program line) = omega (arith, few, high) in
          let is = w.is_at in
          let more = count_next program lawful w.n line e in
          let here = reached m (omega arith) in record {
            n = suc w.n;
            k = 0;
            reached = reached_next program w.n w.reached
                (goes_on m w.n w.k line e w.is_at (λ gone. here.0 (inr gone)))
                (flat_agrees m w.n w.k line e w.is_at all here.1);
            is_at = omega (arith, is, more, all);
            few = omega arith;
          })
          (cases_lt w.k (length (pieces_of program line)))

  abbrev pub IsOverAt : Type 0
  IsOverAt = (n : ℕ)
      × (IsProgramEnd program n ⊎ ((dispute : Dispute) × IsProgramConflict program n dispute))

  -- all are gone in the midst of a line: they are after it
  pub gone_all : (m n k : ℕ) (line : Line) →
      slice_get program.lines (after program n).at ≡ Some line → m ≡ flat_count program n + k →
      k ≤ length (pieces_of program line) → AllGone (flat program) (after (flat program) m) →
      AllGone program (after program (suc n))
  gone_all m n k line is same le all i lt =
      let gone = subst (λ j. AllGone (flat program) (after (flat program) j)) same all in
      let out = is_gone ((after (flat program) (flat_count program n + k)).gone i) (gone i lt) in
      let later = (keeps_line program lawful n line is).gone k i out.0 le out.1 in
      let e : n + 1 ≡ suc n = omega arith in
      subst (λ g. IsTrue (is_some g))
      (sym (sym (ap (λ j. (after program j).gone i) e) ∙ later)) refl

  -- and the program is over
  pub gone_in : (m n k : ℕ) (line : Line) → IsLineReached program n →
      IsLineReached (flat program) m →
      slice_get program.lines (after program n).at ≡ Some line → m ≡ flat_count program n + k →
      0 < k → k ≤ length (pieces_of program line) →
      AllGone (flat program) (after (flat program) m) → IsProgramEnd program (suc n)
  gone_in m n k line reached so_far is same some le all =
      let gone : AllGone (flat program) (after (flat program) (flat_count program n + k)) =
      subst (λ j. AllGone (flat program) (after (flat program) j)) same all in record {
        reached = reached_next program n reached
            (goes_on (flat_count program n) n 0 line is (omega arith)
            (λ early. (so_far (flat_count program n) (omega (arith, same, some))).0 (inr early)))
            (agrees_gone program lawful n k line is le gone);
        over = inr (gone_all m n k line is same le all);
      }

  ends_by : (m : ℕ) → IsProgramEnd (flat program) m → (w : Within m) → (o : Option Line) →
      slice_get program.lines (after program w.n).at ≡ o → IsOverAt
  ends_by m end w None e =
      (w.n, inl (record { reached = w.reached; over = (none_next m w e).0 }))
  ends_by m end w (Some line) e = by_all (⊎_elim
      (λ (ends : length (flat program).lines ≡ (after (flat program) m).at). ⊎_elim
      (λ (lt : (after (flat program) (flat_count program w.n + w.k)).at
      < length (flat program).lines).
      let same = ap (λ j. (after (flat program) j).at) w.is_at in
      absurd (omega (arith, lt, same, ends)))
      (λ (all : AllGone (flat program) (after (flat program) (flat_count program w.n + w.k))).
      subst (λ j. AllGone (flat program) (after (flat program) j)) (sym w.is_at) all)
      (at_line program lawful w.n w.k line e (few_in m w (Some line) e)))
      (λ (all : AllGone (flat program) (after (flat program) m)). all)
      end.over)
    where
      by_all : AllGone (flat program) (after (flat program) m) → IsOverAt
      by_all all = ⊎_elim
          (λ (some : 0 < w.k). (
            suc w.n,
            inl (gone_in m w.n w.k line w.reached end.reached e
                w.is_at some (few_in m w (Some line) e) all),
          ))
          (λ (none : w.k ≤ 0).
          let is = w.is_at in
          let same : m ≡ flat_count program w.n = omega (arith, is, none) in (
            w.n,
            inl (record {
              reached = w.reached;
              over = inr (all_back program lawful w.n
                  (subst (λ j. AllGone (flat program) (after (flat program) j)) same all));
            }),
          ))
          (cases_lt 0 w.k)

  disputed_by : (m : ℕ) (dispute : Dispute) → IsProgramConflict (flat program) m dispute →
      (w : Within m) → (o : Option Line) → slice_get program.lines (after program w.n).at ≡ o →
      IsOverAt
  disputed_by m dispute is w None e =
      let end = none_next m w e in
      absurd (is.goes_on (subst (λ j. IsProgramOver (flat program) (after (flat program) j)) end.1
      (over_to program lawful w.n end.0)))
  disputed_by m dispute is w (Some line) e = ⊎_elim
      (λ (low : w.k < length (pieces_of program line)).
      absurd (hidden_agrees program lawful w.n w.k line e low dispute.cell dispute.first
      dispute.second
      (subst (λ j. IsLineDispute (flat program) (after (flat program) j) dispute) w.is_at
      is.disputed).clash))
      (λ (high : length (pieces_of program line) ≤ w.k).
      let few = few_in m w (Some line) e in
      let at = w.is_at in
      let same : m ≡ flat_count program w.n + length (pieces_of program line) =
      omega (arith, few, high, at) in (
        w.n,
        inr (
          dispute,
          record {
            reached = w.reached;
            goes_on = goes_on m w.n w.k line e w.is_at (λ gone. is.goes_on (inr gone));
            disputed = dispute_from program (after program w.n)
                (after (flat program) (flat_count program w.n + length (pieces_of program line)))
                (keeps_line program lawful w.n line e).asks dispute
                (subst (λ j. IsLineDispute (flat program) (after (flat program) j) dispute) same
                is.disputed);
          },
        ),
      ))
      (cases_lt w.k (length (pieces_of program line)))

  pub over_flat : IsOverAt
  over_flat = let found = finishes (flat program) job of whole in ⊎_elim
      (λ (end : IsProgramEnd (flat program) found.0).
      let w : Within found.0 = find found.0 end.reached in
      ends_by found.0 end w (slice_get program.lines (after program w.n).at) refl)
      (λ (is : (dispute : Dispute) × IsProgramConflict (flat program) found.0 dispute).
      let w : Within found.0 = find found.0 is.1.reached in
      disputed_by found.0 is.0 is.1 w (slice_get program.lines (after program w.n).at) refl)
      found.1

  -- ---- the theorem

  unfoldable pub carries_flat : Carries program job line_of
  carries_flat = record {
    job_is = of.job_is;
    time = time;
    starts = refl;
    rises = λ n. let e : n + 1 ≡ suc n = omega arith in
        subst (λ j. time n ≤ time j) (sym e)
        (time_rises (flat_count program n) (flat_count program (suc n)) (omega arith));
    shows = λ n reached. let c = carried n reached in (
      after (flat program) (flat_count program n),
      stands program lawful n,
      (
        c.standing.reached,
        shows (flat program) job of (after (flat program) (flat_count program n)) (time n) c,
      ),
    );
    ends = ends_flat;
    disputes = λ n dispute is.
        let line = line_next_in n is.goes_on in
        let p : ℕ = length (pieces_of program line.0) in
        let m : ℕ = flat_count program n + p in
        let s = in_line n dispute is line.0 line.1 m refl in
        let same = same_number_at program lawful n p line.0 line.1 (omega arith)
        (conflict_at program lawful n dispute is line.0 line.1) in
        let e : n + 1 ≡ suc n = omega arith in (
          s.before,
          ap time e ∙ ap time_flat (count_next program lawful n line.0 line.1) ∙ s.time_is,
          s.steps_are,
          s.fault,
          s.comes ∙ same,
          s.comes_too ∙ same,
        );
    over = over_flat;
  }

-- ---- of a lawful program

module _ (program : ProgramData) (job : JobData) (line_of : ℕ → ℕ) (lawful : IsProgram program)
    (nested : IsNested program.lines) (compiled : IsCompiled program job line_of) where
  pub of_flat : IsOf (flat program) job
  of_flat = record {
    program_is = compiled_lawful program job line_of lawful compiled;
    job_is = compiled.job_is;
    made = compiled.made;
    level = compiled.level;
    tied = flat_tied program (tied program nested);
  }

pub jobs_carry_programs : JobsCarryPrograms
jobs_carry_programs program job line_of lawful nested compiled =
    carries_flat program lawful job line_of
    (of_flat program job line_of lawful nested compiled) compiled.whole compiled.numbers
