-- Laws of the meaning: what the rule changes, and what is written.
use Rattle.std.proofs.Common.{◌≡◌, ◌≢◌, ℕ, zero, suc, ◌<◌, ◌≤◌, ◌==◌, ◌⊎◌, Bool, true, false}
use Rattle.std.proofs.Common.{Option, Some, None}
use Rattle.std.proofs.Common.{refl, sym, ap, ◌∙◌, subst, inl, inr, ⊎_elim, arith, if◌then◌else◌}
use Rattle.std.proofs.Common.{unwrap_or}
use Rattle.std.specs.Prelude.{slice_get}
use Rattle.std.specs.Option.{option_or}
use Rattle.std.proofs.lemmas.Bool.{cases_lt, cases_eq}
use Rattle.std.proofs.lemmas.Option.{none-some, some_pair_parts}
use Rattle.pram_job.specs.declared.instr.Rule.{Rule}
use Rattle.pram_job.specs.declared.instr.Rule.TheVariants.{Common, Priority, Crew}
use Rattle.pardo_program.specs.declared.statement.Line.{Line}
use Rattle.pardo_program.specs.declared.statement.Statement.{Statement}
use Rattle.pardo_program.specs.declared.statement.Statement.TheVariants.{Assign, If, Else, EndIf}
use Rattle.pardo_program.specs.declared.statement.Statement.TheVariants.{While, EndWhile, For}
use Rattle.pardo_program.specs.declared.statement.Statement.TheVariants.{EndFor}
use Rattle.pardo_program.specs.declared.statement.Target.TheVariants.{Private, Array as Shared}
use Rattle.pardo_program.specs.Program.{ProgramData}
use Rattle.pram_step.proofs.Disputing.{one_least_clash}
use Rattle.pram_step.specs.Disputes.{Forbids}
use Rattle.pardo_flat.specs.Statements.{statement_at}
use Rattle.pardo_job.specs.Conflicts.{LineAgrees, Assigns, asked_for}
use Rattle.pardo_job.specs.Laws.{by_rule, RuleChangesNoState, CrewIsAccepted, AnyWriterCounts}
use Rattle.pardo_job.specs.Laws.{UnwrittenIsKept, OneLineDispute}
use Rattle.pardo_job.specs.Meaning.{Source, after, next, after_statement, asked_in, first_below}
use Rattle.pardo_job.specs.Meaning.{given_to, loop_ended}
use Rattle.pardo_job.specs.Meaning.{by_common, common_value, has_none}
use Rattle.pardo_job.specs.Runs.{IsProgramOver}
use Rattle.pardo_job.proofs.Meanings.{next_at, asked_at}
use Rattle.pardo_law.specs.Theorem.{RuleChangesNoRun}
use Rattle.pardo_law.proofs.Running.{first_none, given_is, given_of, given_none}

-- ---- rules

pub rule_changes_no_state : RuleChangesNoState
unfolding next
rule_changes_no_state program rule source = refl

pub same_after : RuleChangesNoRun
unfolding after
same_after program rule zero = refl
same_after program rule (suc n) = ap (next (by_rule rule program)) (same_after program rule n)
    ∙ rule_changes_no_state program rule (after program n)

same_asked : (program : ProgramData) (rule : Rule) (source : Source) (i : ℕ) →
    asked_for (by_rule rule program) source i ≡ asked_for program source i
unfolding asked_for
same_asked program rule source i = refl

writes_same : (program : ProgramData) (rule other : Rule) (source : Source) (cell i v : ℕ) →
    Assigns (by_rule rule program) source cell i v → Assigns (by_rule other program) source cell i v
writes_same program rule other source cell i v w =
    (w.0, same_asked program other source i ∙ sym (same_asked program rule source i) ∙ w.1)

-- two writes that another rule forbids are of two processors
apart : (rule : Rule) (program : ProgramData) (source : Source) (cell i j v w : ℕ) →
    Assigns (by_rule rule program) source cell i v → Assigns (by_rule rule program) source cell j w →
    Forbids rule i v j w → i ≢ j
apart Common program source cell i j v w a b forbidden same =
    forbidden (some_pair_parts cell cell v w
    (sym a.1 ∙ ap (asked_for (by_rule Common program) source) same ∙ b.1)).1
apart Priority program source cell i j v w a b forbidden same = forbidden
apart Crew program source cell i j v w a b forbidden same = forbidden same

crew_agrees : (program : ProgramData) (rule : Rule) (source : Source) →
    LineAgrees (by_rule Crew program) source →
    LineAgrees (by_rule rule program) source
crew_agrees program rule source agrees cell i j c = agrees cell i j (record {
  value = c.value;
  other = c.other;
  writes = writes_same program rule Crew source cell i c.value c.writes;
  writes_too = writes_same program rule Crew source cell j c.other c.writes_too;
  forbidden = apart rule program source cell i j c.value c.other c.writes c.writes_too c.forbidden;
})

pub crew_is_accepted : CrewIsAccepted
crew_is_accepted program rule n reached earlier lt =
    let here = reached earlier lt in
    let same : after (by_rule Crew program) earlier ≡ after (by_rule rule program) earlier =
    same_after program Crew earlier ∙ sym (same_after program rule earlier) in (
      λ over. here.0 (subst (IsProgramOver program) (sym same) over),
      crew_agrees program rule (after (by_rule rule program) earlier)
          (subst (LineAgrees (by_rule Crew program)) same here.1),
    )

-- ---- writers

-- what the first one gives
record HasFirst (n : ℕ) (f : ℕ → Option ℕ) : Type 0 where
  writer : ℕ
  value : ℕ
  low : writer < n
  gives : f writer ≡ Some value
  first : first_below n f ≡ Some value

first_more : (n : ℕ) (f : ℕ → Option ℕ) → HasFirst n f → HasFirst (suc n) f
first_more n f is = record {
  writer = is.writer;
  value = is.value;
  low = let lt = is.low in omega arith;
  gives = is.gives;
  first = ap (λ o. option_or o (f n)) is.first;
}

-- there is one, or nobody gives anything
first_or_none : (n : ℕ) (f : ℕ → Option ℕ) → HasFirst n f ⊎ ((i : ℕ) → i < n → f i ≡ None)
first_or_none zero f = inr (λ i lt. absurd (omega arith))
first_or_none (suc n) f = ⊎_elim
    (λ is. inl (first_more n f is))
    (λ none. by_last (f n) refl none)
    (first_or_none n f)
  where
    by_last : (o : Option ℕ) → f n ≡ o → ((i : ℕ) → i < n → f i ≡ None) → HasFirst (suc n) f ⊎
        ((i : ℕ) → i < suc n → f i ≡ None)
    by_last (Some v) e none = inl (record {
      writer = n;
      value = v;
      low = omega arith;
      gives = e;
      first = ap (λ o. option_or o (f n)) (first_none n f none) ∙ e;
    })
    by_last None e none = inr (λ i lt. ⊎_elim (λ (low : i < n). none i low)
        (λ (high : n ≤ i). let same : i ≡ n = omega arith in ap f same ∙ e) (cases_lt i n))

-- a cell after a line
abbrev written_in : ProgramData → Source → ℕ → Statement → ℕ → ℕ
written_in program source depth statement cell =
    unwrap_or (first_below program.procs
    (λ i. given_to cell (asked_in program source depth statement i))) (source.cells cell)

if_cells : (b : Bool) (x y : Source) (cell v : ℕ) → x.cells cell ≡ v → y.cells cell ≡ v →
    (if b then x else y).cells cell ≡ v
if_cells true x y cell v p q = p
if_cells false x y cell v p q = q

common_cells : (program : ProgramData) (text_line cell : ℕ) (source : Source) (o : Option ℕ)
    (goes : ℕ → Source) → ((v : ℕ) → (goes v).cells cell ≡ source.cells cell) →
    (by_common program text_line source o goes).cells cell ≡ source.cells cell
common_cells program text_line cell source None goes same = refl
common_cells program text_line cell source (Some v) goes same = same v

loop_cells_same : (program : ProgramData) (text_line begin cell : ℕ) (opener : Statement)
    (source : Source) →
    (loop_ended program text_line begin opener source).cells cell ≡ source.cells cell
loop_cells_same program text_line begin cell (For nest first last up end) source =
    common_cells program text_line cell source (common_value program source last) _ (λ b.
    if_cells (source.loops nest == b) _ _ cell (source.cells cell) refl refl)
loop_cells_same program text_line begin cell (Assign target tree) source = refl
loop_cells_same program text_line begin cell (If tree) source = refl
loop_cells_same program text_line begin cell Else source = refl
loop_cells_same program text_line begin cell EndIf source = refl
loop_cells_same program text_line begin cell (While tree end) source = refl
loop_cells_same program text_line begin cell (EndWhile line) source = refl
loop_cells_same program text_line begin cell (EndFor line) source = refl

none_given : (program : ProgramData) (source : Source) (cell : ℕ) →
    source.cells cell ≡ unwrap_or (first_below program.procs (λ i. given_to cell None))
    (source.cells cell)
none_given program source cell =
    sym (ap (λ o. unwrap_or o (source.cells cell))
    (first_none program.procs (λ i. given_to cell None) (λ i lt. refl)))

cells_after : (program : ProgramData) (text_line depth cell : ℕ) (statement : Statement)
    (source : Source) →
    (after_statement program text_line depth statement source).cells cell ≡
    written_in program source depth statement cell
cells_after program text_line depth cell (Assign (Private x) tree) source =
    none_given program source cell
cells_after program text_line depth cell (Assign (Shared array index) tree) source = refl
cells_after program text_line depth cell (If tree) source = none_given program source cell
cells_after program text_line depth cell Else source = none_given program source cell
cells_after program text_line depth cell EndIf source = none_given program source cell
cells_after program text_line depth cell (While tree end) source =
    common_cells program text_line cell source (common_value program source tree) _ (λ v.
    if_cells (v == 0) _ _ cell (source.cells cell) refl refl) ∙
    none_given program source cell
cells_after program text_line depth cell (EndWhile begin) source = none_given program source cell
cells_after program text_line depth cell (For nest first last up end) source =
    common_cells program text_line cell source (common_value program source first) _ (λ a.
    common_cells program text_line cell source (common_value program source last) _ (λ b.
    if_cells (has_none up a b) _ _ cell (source.cells cell) refl refl))
    ∙ none_given program source cell
cells_after program text_line depth cell (EndFor begin) source =
    loop_cells_same program text_line begin cell (statement_at program begin) source ∙
    none_given program source cell

module _ (program : ProgramData) (source : Source) (line : Line)
    (is : slice_get program.lines source.at ≡ Some line) where
  abbrev given : ℕ → ℕ → Option ℕ
  given cell i = given_to cell (asked_in program source line.depth line.statement i)

  cells_next : (cell : ℕ) → (next program source).cells cell ≡
      unwrap_or (first_below program.procs (given cell)) (source.cells cell)
  cells_next cell = ap (λ (s : Source). s.cells cell) (next_at program source line is)
      ∙ cells_after program line.number line.depth cell line.statement source

  writes_of : (cell i v : ℕ) → i < program.procs → given cell i ≡ Some v →
      Assigns program source cell i v
  writes_of cell i v lt e = (
    lt,
    asked_at program source line i is ∙
        given_is cell v (asked_in program source line.depth line.statement i) e,
  )

  of_writes : (cell i v : ℕ) → Assigns program source cell i v → given cell i ≡ Some v
  of_writes cell i v w = given_of cell v (asked_in program source line.depth line.statement i)
      (sym (asked_at program source line i is) ∙ w.1)

  -- nobody writes to it
  pub kept_by : (cell : ℕ) → ((i v : ℕ) → Assigns program source cell i v → ⊥) →
      (next program source).cells cell ≡ source.cells cell
  kept_by cell none = cells_next cell ∙ ap (λ o. unwrap_or o (source.cells cell))
      (first_none program.procs (given cell)
      (λ i lt. given_none cell (asked_in program source line.depth line.statement i)
      (λ v e. none i v (lt, asked_at program source line i is ∙ e))))

  -- any writer's value, where the writers agree
  pub any_by : (cell i v : ℕ) → Assigns program source cell i v →
      ((j w : ℕ) → Assigns program source cell j w → w ≡ v) → (next program source).cells cell ≡ v
  any_by cell i v w same = ⊎_elim
      (λ (first : HasFirst program.procs (given cell)). cells_next cell
      ∙ ap (λ o. unwrap_or o (source.cells cell)) first.first
      ∙ same first.writer first.value
      (writes_of cell first.writer first.value first.low first.gives))
      (λ none. absurd (none-some v (sym (none i w.0) ∙ of_writes cell i v w)))
      (first_or_none program.procs (given cell))

no_line_asks : (program : ProgramData) (source : Source) (i cell v : ℕ) →
    slice_get program.lines source.at ≡ None →
    asked_for program source i ≡ Some (cell, v) → ⊥
unfolding asked_for
no_line_asks program source i cell v e is = none-some (cell, v)
    (sym (ap (λ (o : Option Line). elim o as (λ (x : Option Line). Option (ℕ × ℕ)) [
      | None ↦ None
      | Some line ↦ asked_in program source line.depth line.statement i
    ]) e) ∙ is)

no_line_next : (program : ProgramData) (source : Source) → slice_get program.lines source.at ≡
    None → next program source ≡ source
unfolding next
no_line_next program source e = ap (λ (o : Option Line). elim o as (λ (x : Option Line). Source) [
  | None ↦ source
  | Some line ↦ after_statement program line.number line.depth line.statement source
]) e

pub unwritten_is_kept : UnwrittenIsKept
unwritten_is_kept program source cell none = by_line (slice_get program.lines source.at) refl
  where
    by_line : (o : Option Line) → slice_get program.lines source.at ≡ o →
        (next program source).cells cell ≡ source.cells cell
    by_line None e = ap (λ (s : Source). s.cells cell) (no_line_next program source e)
    by_line (Some line) e = kept_by program source line e cell none

-- two writers that agree write the same
same_value : (rule : Rule) (program : ProgramData) (source : Source) (cell i j v w : ℕ) →
    rule ≢ Priority →
    (Forbids rule j w i v → ⊥) → Assigns program source cell i v → Assigns program source cell j w → w
    ≡ v
same_value Common program source cell i j v w not_priority agree a b = ⊎_elim (λ same. same)
    (λ ne. absurd (agree ne)) (cases_eq w v)
same_value Priority program source cell i j v w not_priority agree a b = absurd (not_priority refl)
same_value Crew program source cell i j v w not_priority agree a b = ⊎_elim
    (λ (same : j ≡ i). (some_pair_parts cell cell w v
    (sym b.1 ∙ ap (asked_for program source) same ∙ a.1)).1)
    (λ ne. absurd (agree ne)) (cases_eq j i)

pub any_writer_counts : AnyWriterCounts
any_writer_counts program source cell i v agrees not_priority w =
    by_line (slice_get program.lines source.at) refl
  where
    by_line : (o : Option Line) → slice_get program.lines source.at ≡ o →
        (next program source).cells cell ≡ v
    by_line None e = absurd (no_line_asks program source i cell v e w.1)
    by_line (Some line) e = any_by program source line e cell i v w
        (λ j x b. same_value program.rule program source cell i j v x not_priority
        (λ forbidden. agrees cell j i (record
        { value = x; other = v; writes = b; writes_too = w; forbidden = forbidden })) w b)

-- ---- disputes

pub one_dispute : OneLineDispute
one_dispute program source dispute other d o =
    one_least_clash program.rule (Assigns program source) dispute other d o
