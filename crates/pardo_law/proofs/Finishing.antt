-- A run ends: each line takes steps or leads on, and the job has so many.
use Rattle.std.proofs.Common.{◌≡◌, ◌≢◌, ℕ, zero, suc, ◌+◌, ◌*◌, ◌<◌, ◌≤◌, ◌==◌, ◌⊎◌, Bool, true}
use Rattle.std.proofs.Common.{false, Option, Some, None}
use Rattle.std.proofs.Common.{refl, sym, ap, ◌∙◌, subst, inl, inr, ⊎_elim, arith, if◌then◌else◌}
use Rattle.std.proofs.Common.{length}
use Rattle.std.specs.Prelude.{IsTrue, slice_get, is_some}
use Rattle.std.proofs.Math.Nat.{mul-le-mul_left}
use Rattle.std.proofs.lemmas.Bool.{cases_lt, cases_eq}
use Rattle.pram_job.specs.Job.{JobData}
use Rattle.pram_machine.specs.Machine.{counter, halted}
use Rattle.pram_step.specs.Runs.{state_after}
use Rattle.pardo_program.specs.declared.statement.Line.{Line}
use Rattle.pardo_program.specs.declared.statement.Statement.{Statement}
use Rattle.pardo_program.specs.declared.statement.Statement.TheVariants.{Assign, If, Else, EndIf}
use Rattle.pardo_program.specs.declared.statement.Statement.TheVariants.{While, EndWhile, For}
use Rattle.pardo_program.specs.declared.statement.Statement.TheVariants.{EndFor}
use Rattle.pardo_program.specs.declared.statement.Target.TheVariants.{Private, Array as Shared}
use Rattle.pardo_program.specs.Program.{ProgramData}
use Rattle.pardo_flat.specs.Statements.{statement_at}
use Rattle.pardo_job.specs.Compiled.{IsWhole}
use Rattle.pram_step.specs.declared.answer.Dispute.{Dispute}
use Rattle.pardo_job.specs.Conflicts.{LineAgrees, IsLineDispute}
use Rattle.pardo_job.specs.Lines.{others, place_of}
use Rattle.pardo_job.specs.Meaning.{Source, after, after_statement, common_value}
use Rattle.pardo_job.specs.Meaning.{has_none}
use Rattle.pardo_job.specs.Runs.{IsProgramOver, AllGone, IsLineReached, IsProgramEnd}
use Rattle.pardo_job.specs.Runs.{IsProgramConflict}
use Rattle.pardo_job.proofs.Meanings.{next_at}
use Rattle.pardo_law.proofs.Carried.{Carried, cost, cost_by, loop_cost, place_low}
use Rattle.pardo_law.proofs.Carrying.{carried_after, line_next, time_of, time_next}
use Rattle.pardo_law.proofs.Disputing.{decides}
use Rattle.pardo_law.proofs.Picturing.{IsOf, IsFor, procs_are}
use Rattle.pardo_law.proofs.Showing.{more_steps, here_shows}

-- ---- a line takes steps, or leads to the one after it

if_least : (b : Bool) (x y : ℕ) → 1 ≤ x → 1 ≤ y → 1 ≤ (if b then x else y)
if_least true x y p q = p
if_least false x y p q = q

by_least : (otherwise : ℕ) (o : Option ℕ) (steps : ℕ → ℕ) → 1 ≤ otherwise →
    ((v : ℕ) → 1 ≤ steps v) → 1 ≤ cost_by otherwise o steps
by_least otherwise None steps p q = p
by_least otherwise (Some v) steps p q = q v

loop_rises : (program : ProgramData) (source : Source) (opener : Statement) → IsFor opener →
    1 ≤ loop_cost program source opener
loop_rises program source (For nest first last up end) is =
    by_least _ (common_value program source last) _ (omega arith) (λ b.
    if_least (source.loops nest == b) _ _ (omega arith) (omega arith))
loop_rises program source (Assign target tree) is = absurd is
loop_rises program source (If tree) is = absurd is
loop_rises program source Else is = absurd is
loop_rises program source EndIf is = absurd is
loop_rises program source (While tree end) is = absurd is
loop_rises program source (EndWhile line) is = absurd is
loop_rises program source (EndFor line) is = absurd is

abbrev Rises : ProgramData → Source → ℕ → ℕ → Statement → Type 0
Rises program source text_line depth statement = (1 ≤ cost program source depth statement)
    ⊎ ((cost program source depth statement ≡ 0) ×
    ((after_statement program text_line depth statement source).at ≡ source.at + 1))

rises : (program : ProgramData) (source : Source) (text_line depth : ℕ) (statement : Statement) →
    ((begin : ℕ) → statement ≡ EndFor begin → IsFor (statement_at program begin)) →
    Rises program source text_line depth statement
unfolding others
rises program source text_line depth (Assign (Private x) tree) tied = inl (omega arith)
rises program source text_line depth (Assign (Shared array index) tree) tied = inl (omega arith)
rises program source text_line depth (If tree) tied = inl (omega arith)
rises program source text_line depth Else tied = inl (omega arith)
rises program source text_line depth EndIf tied = inr (refl, refl)
rises program source text_line depth (While tree end) tied = inl (omega arith)
rises program source text_line depth (EndWhile begin) tied = inl (omega arith)
rises program source text_line depth (For nest first last up end) tied =
    inl (by_least _ (common_value program source first) _ (omega arith) (λ a.
    by_least _ (common_value program source last) _ (omega arith) (λ b.
    if_least (has_none up a b) _ _ (omega arith) (omega arith))))
rises program source text_line depth (EndFor begin) tied =
    inl (loop_rises program source (statement_at program begin) (tied begin refl))

statement_is : (program : ProgramData) (source : Source) (line : Line) →
    slice_get program.lines source.at ≡ Some line →
    statement_at program source.at ≡ line.statement
statement_is program source line is =
    ap (λ (o : Option Line). elim o as (λ (x : Option Line). Statement)
    [ None ↦ EndIf | Some l ↦ l.statement ]) is

-- ---- whether all are gone

decide_gone : (source : Source) (n : ℕ) →
    ((i : ℕ) → i < n → IsTrue (is_some (source.gone i))) ⊎
    ((i : ℕ) × (i < n) × (source.gone i ≡ None))
decide_gone source zero = inl (λ i lt. absurd (omega arith))
decide_gone source (suc n) = ⊎_elim
    (λ all. by_last (source.gone n) refl all)
    (λ (found : (i : ℕ) × (i < n) × (source.gone i ≡ None)). inr
    (found.0, (let lt = found.1 in omega arith), found.2))
    (decide_gone source n)
  where
    by_last : (g : Option ℕ) → source.gone n ≡ g →
        ((i : ℕ) → i < n → IsTrue (is_some (source.gone i))) →
        ((i : ℕ) → i < suc n → IsTrue (is_some (source.gone i))) ⊎
        ((i : ℕ) × (i < suc n) × (source.gone i ≡ None))
    by_last None e all = inr (n, (omega arith), e)
    by_last (Some line) e all = inl (λ i lt. ⊎_elim (λ (low : i < n). all i low)
        (λ (high : n ≤ i). let same : i ≡ n = omega arith in
        subst (λ j. IsTrue (is_some (source.gone j))) (sym same) (ap is_some e)) (cases_lt i n))

-- a processor that is still there
abbrev Still : ProgramData → Source → Type 0
Still program source = (i : ℕ) × (i < program.procs) × (source.gone i ≡ None)

pub decide_over : (program : ProgramData) (source : Source) → IsProgramOver program source
    ⊎ ((IsProgramOver program source → ⊥) × Still program source)
decide_over program source = ⊎_elim
    (λ (at_end : length program.lines ≡ source.at). inl (inl at_end))
    (λ (before_end : length program.lines ≢ source.at). ⊎_elim
    (λ all. inl (inr all))
    (λ (found : Still program source). inr (
      (λ over. ⊎_elim before_end
          (λ (all : AllGone program source). not_gone found.0 found.2 (all found.0 found.1)) over),
      found,
    ))
    (decide_gone source program.procs))
    (cases_eq (length program.lines) source.at)
  where
    not_gone : (i : ℕ) → source.gone i ≡ None → IsTrue (is_some (source.gone i)) → ⊥
    not_gone i e is = let no : false ≡ true = sym (ap is_some e) ∙ is in absurd (cc)

pub reached_next : (program : ProgramData) (n : ℕ) → IsLineReached program n →
    (IsProgramOver program (after program n) → ⊥) →
    LineAgrees program (after program n) → IsLineReached program (suc n)
reached_next program n reached goes_on agrees earlier lt = ⊎_elim
    (λ (low : earlier < n). reached earlier low)
    (λ (high : n ≤ earlier). let same : n ≡ earlier = omega arith in
    subst (λ k. (IsProgramOver program (after program k) → ⊥)
    × LineAgrees program (after program k)) same
    (goes_on, agrees))
    (cases_lt earlier n)

-- the end of the run, or its conflict
abbrev pub IsOverAt : ProgramData → Type 0
IsOverAt program = (n : ℕ) × (IsProgramEnd program n ⊎
    ((dispute : Dispute) × IsProgramConflict program n dispute))

module _ (program : ProgramData) (job : JobData) (of : IsOf program job) (whole : IsWhole job) where
  abbrev size : ℕ
  size = length program.lines + 1

  abbrev measure : ℕ → ℕ
  measure n = size * time_of program n + (after program n).at

  carried : (n : ℕ) → IsLineReached program n →
      Carried program job (after program n) (time_of program n)
  carried n reached = carried_after program job of n reached

  -- a processor that is there has not stopped
  below_steps : (n : ℕ) → IsLineReached program n → Still program (after program n) →
      time_of program n < job.steps
  below_steps n reached found =
      let c : Carried program job (after program n) (time_of program n) =
      carried_after program job of n reached in
      let lt : found.0 < job.procs = (let e = procs_are program job of in let f = found.1 in
      omega arith) in
      let there : counter job (state_after job (time_of program n)) found.0 ≡
      place_of program (after program n).at =
      (here_shows job (state_after job (time_of program n)) found.0 ((after program n).gone found.0)
      (place_of program (after program n).at)
      (c.locals found.0) found.2 (c.pictured.here found.0 found.1)
      (c.standing.locals_are found.0 lt)).0 in
      more_steps job (time_of program n) found.0 whole c.standing.reached lt
      (λ stopped. let low = place_low program job of (after program n).at in
      let s : halted job ≤ counter job (state_after job (time_of program n)) found.0 = stopped in
      omega arith)

  rises_by : (n : ℕ) (line : Line) → slice_get program.lines (after program n).at ≡ Some line →
      Rises program (after program n) line.number line.depth line.statement →
      (time_of program n + 1 ≤ time_of program (suc n))
      ⊎ ((time_of program (suc n) ≡ time_of program n) ×
      ((after program (suc n)).at ≡ (after program n).at + 1))
  unfolding after
  rises_by n line is (inl more) = inl (let e = time_next program n line is in omega arith)
  rises_by n line is (inr level) = inr (
    (let e = time_next program n line is in let f = level.0 in omega arith),
    ap (λ (s : Source). s.at) (next_at program (after program n) line is) ∙ level.1,
  )

  measure_rises : (n : ℕ) (line : Line) → IsLineReached program n →
      slice_get program.lines (after program n).at ≡ Some line →
      measure n + 1 ≤ measure (suc n)
  measure_rises n line reached is = elim (rises_by n line is
      (rises program (after program n) line.number line.depth line.statement
      (λ begin e. of.tied (after program n).at begin
      (statement_is program (after program n) line is ∙ e)))) [
        | inl more ↦ (let a = mul-le-mul_left size more in let b =
            (carried n reached).pictured.within in omega arith)
        | inr level ↦ (let a = ap (λ t. size * t) level.0 in let b = level.1 in omega arith)
      ]

  abbrev Ends : ℕ → Type 0
  Ends fuel = (n : ℕ) → IsLineReached program n → size * job.steps ≤ fuel + measure n →
      IsOverAt program

  none_left : (n : ℕ) → IsLineReached program n → size * job.steps ≤ 0 + measure n →
      Still program (after program n) → ⊥
  none_left n reached bound found =
      let more : time_of program n + 1 ≤ job.steps =
      (let b = below_steps n reached found in omega arith) in
      let a = mul-le-mul_left size more in
      let b = (carried n reached).pictured.within in omega arith

  goes_by : (fuel n : ℕ) → Ends fuel → IsLineReached program n → size * job.steps ≤ suc fuel +
      measure n →
      (IsProgramOver program (after program n) → ⊥) → IsOverAt program
  goes_by fuel n again reached bound goes_on =
      let c : Carried program job (after program n) (time_of program n) = carried n reached in
      let line = line_next program (after program n) c.pictured.within goes_on in ⊎_elim
      (λ (agrees : LineAgrees program (after program n)). again (suc n)
      (reached_next program n reached goes_on agrees)
      (let r = measure_rises n line.0 reached line.1 in omega arith))
      (λ (d : (dispute : Dispute) × IsLineDispute program (after program n) dispute).
      (n, inr (d.0, record { reached = reached; goes_on = goes_on; disputed = d.1 })))
      (decides program job of (after program n) (time_of program n) c line.0 line.1)

  ends_by : (fuel : ℕ) → Ends fuel
  ends_by zero n reached bound = ⊎_elim
      (λ over. (n, inl (record { reached = reached; over = over })))
      (λ (on : (IsProgramOver program (after program n) → ⊥) × Still program (after program n)).
      absurd
      (none_left n reached bound on.1))
      (decide_over program (after program n))
  ends_by (suc fuel) n reached bound = ⊎_elim
      (λ over. (n, inl (record { reached = reached; over = over })))
      (λ (on : (IsProgramOver program (after program n) → ⊥) × Still program (after program n)).
      goes_by
      fuel n (ends_by fuel) reached bound on.0)
      (decide_over program (after program n))

  pub finishes : IsOverAt program
  finishes = ends_by (size * job.steps) 0 (λ earlier lt. absurd (omega arith)) (omega arith)
