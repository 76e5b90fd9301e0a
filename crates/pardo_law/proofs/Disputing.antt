-- A line that is against the rule, and the step of the job that is in conflict.
use Rattle.std.proofs.Common.{◌≡◌, ℕ, suc, ◌+◌, ◌-◌, ◌<◌, ◌≤◌, ◌⊎◌, true, Option, Some, None}
use Rattle.std.proofs.Common.{refl, sym, ap, ◌∙◌, subst, inl, inr, ⊎_elim, arith, length}
use Rattle.std.specs.Prelude.{slice_get, is_some}
use Rattle.std.proofs.lemmas.Option.{none-some, slice_get_within}
use Rattle.pram_job.specs.Job.{JobData}
use Rattle.pram_step.specs.declared.answer.Dispute.{Dispute}
use Rattle.pram_machine.specs.Instructions.{requests_in}
use Rattle.pram_machine.specs.Machine.{counter, out_of_range}
use Rattle.pram_step.specs.Runs.{state_after, IsReached, AgreesAfter, IsFirstConflict}
use Rattle.pram_step.specs.Steps as machine
use Rattle.pram_step.proofs.LawDisputes.{agrees_or_dispute}
use Rattle.pardo_program.specs.declared.statement.Line.{Line}
use Rattle.pardo_program.specs.declared.statement.Statement.{Statement}
use Rattle.pardo_program.specs.declared.statement.Statement.TheVariants.{Assign, If, Else, EndIf}
use Rattle.pardo_program.specs.declared.statement.Statement.TheVariants.{While, EndWhile, For}
use Rattle.pardo_program.specs.declared.statement.Statement.TheVariants.{EndFor}
use Rattle.pardo_program.specs.declared.statement.Target.TheVariants.{Private, Array as Shared}
use Rattle.pardo_program.specs.Expression.{Tree}
use Rattle.pardo_program.specs.Lawful.{IsStatement, bounds_of}
use Rattle.pardo_program.specs.Program.{ProgramData}
use Rattle.pardo_flat.specs.Layouts.{program_layout}
use Rattle.pardo_job.specs.Compiled.{AreLineNumbers}
use Rattle.pardo_job.specs.Conflicts.{LineAgrees, LineClashes, Assigns, IsLineDispute, asked_for}
use Rattle.pardo_job.specs.Lines.{line_code, place_of}
use Rattle.pardo_job.specs.Meaning.{Source, asked_in, losing, write_of}
use Rattle.pardo_job.specs.Operations.{is_shallow}
use Rattle.pardo_job.specs.Runs.{line_number}
use Rattle.pardo_job.proofs.Assigning.{both_code}
use Rattle.pardo_job.proofs.Meanings.{asked_at}
use Rattle.pardo_job.proofs.Placed.{number_in}
use Rattle.pardo_law.specs.Locals.{Local, IsLocal, IsNamedAt, StandsAfter, local_store, HasCodeAt}
use Rattle.pardo_law.specs.Locals.{next_local}
use Rattle.pardo_law.proofs.Carried.{Carried, cost, place_low}
use Rattle.pardo_law.proofs.Advancing.{asked_shared}
use Rattle.pardo_law.proofs.Carrying.{stores_make, line_is, stands_site_here, ends_here, forbids_to}
use Rattle.pardo_law.proofs.Carrying.{forbids_from}
use Rattle.pardo_law.proofs.Cutting.{site, is_inside, Within, Below, MakesIn, makes_in, inside_back}
use Rattle.pardo_law.proofs.Cutting.{PutOnly, StaysIn, Unchanged, made_puts, made_stays}
use Rattle.pardo_law.proofs.Cutting.{made_unchanged}
use Rattle.pardo_law.proofs.Lengths.{place_next}
use Rattle.pardo_law.proofs.Making.{Makes, before, mid_is, mids_named, mids_store, mids}
use Rattle.pardo_law.proofs.Masks.{quiet}
use Rattle.pardo_law.proofs.Picturing.{IsOf, IsHere, procs_are, shared_low}
use Rattle.pardo_law.proofs.Running.{writer_stores, store_writes}

-- a number of a line's code is that of the line
pub number_at : (program : ProgramData) (line_of : ℕ → ℕ) → AreLineNumbers program line_of →
    (j p : ℕ) (line : Line) →
    slice_get program.lines j ≡ Some line →
    is_inside (place_of program j) (place_of program (j + 1)) p ≡ true →
    line_of p ≡ line.number
number_at program line_of numbers j p line is inside =
    let bounds = inside_back (place_of program j) (place_of program (j + 1)) p inside in
    let lo : place_of program j ≤ p = bounds.0 in
    let hi : p < place_of program (j + 1) = bounds.1 in
    let e = place_next program j line is in
    let same : place_of program j + (p - place_of program j) ≡ p = omega arith in
    ap line_of (sym same)
    ∙ number_in program line_of numbers j (p - place_of program j) line is (omega arith)

pub line_number_is : (program : ProgramData) (source : Source) (line : Line) →
    slice_get program.lines source.at ≡ Some line →
    line_number program source ≡ line.number
line_number_is program source line is =
    ap (λ (o : Option Line). elim o as (λ (x : Option Line). ℕ)
    [ None ↦ 0 | Some found ↦ found.number ]) is

here_within : (job : JobData) (lo hi place i : ℕ) (g : Option ℕ) (l : Local) →
    place < length job.code → IsHere g place i l →
    Below lo hi job l
here_within job lo hi place i (Some line) l lt here = subst (Below lo hi job) (sym here) tt
here_within job lo hi place i None l lt here = subst (Below lo hi job) (sym here.is) lt

-- ---- an assignment to an array

module _ (program : ProgramData) (job : JobData) (of : IsOf program job) (source : Source) (t : ℕ)
    (carried : Carried program job source t) (line : Line)
    (is : slice_get program.lines source.at ≡ Some line)
    (array : ℕ) (index tree : Tree)
    (statement_is : line.statement ≡ Assign (Shared array index) tree) where
  abbrev lo : ℕ
  lo = place_of program source.at

  abbrev hi : ℕ
  hi = place_of program (source.at + 1)

  abbrev steps : ℕ
  steps = quiet line.depth (length (both_code (program_layout program) tree index))

  abbrev stores : ℕ → Option (ℕ × ℕ)
  stores i = asked_in program source line.depth (Assign (Shared array index) tree) i

  abbrev Comes : ℕ → Local → Type 0
  Comes i = IsHere (losing line.number line.depth
      (λ j. is_some (write_of program source array j index tree)) source i) hi i

  few : line.depth ≤ program.choices
  few = let e = (line_is program job of source t carried line is).1 in omega arith

  bound : (i : ℕ) (l : Local) → Comes i l → Below lo hi job l
  bound i l = here_within job lo hi hi i
      (losing line.number line.depth (λ j. is_some (write_of program source array j index tree))
      source i) l
      (place_low program job of (source.at + 1))

  site_makes : (i : ℕ) → i < job.procs →
      Makes (site lo hi job) carried.memory i steps (carried.locals i) (stores i) (Comes i)
  site_makes i lt = stores_make program job of source t carried line.number line.depth
      (slice_get_within program.lines source.at line is) array index tree
      (subst (IsStatement (bounds_of program)) statement_is
      (line_is program job of source t carried line is).0) few
      (subst (λ s. is_shallow (line_code program (λ j. 0) 0 line.depth s) ≡ true) statement_is
      (of.level source.at line is))
      (subst (λ s. HasCodeAt (site lo hi job) lo
      (line_code program (place_of program) lo line.depth s)) statement_is
      (stands_site_here program job of source t carried line is))
      (subst (λ s. lo + length (line_code program (place_of program) lo line.depth s) ≡ hi)
      statement_is
      (ends_here program job of source t carried line is)) i lt

  pub makes : (i : ℕ) → i < job.procs →
      MakesIn lo hi job carried.memory i steps (carried.locals i) (stores i) (Comes i)
  makes i lt = makes_in lo hi job carried.memory i steps (carried.locals i) (stores i) (Comes i)
      (bound i) (site_makes i lt)

  -- up to the stores all stay in the line, and memory is unchanged
  pub stays_here : StaysIn job lo hi t (suc steps)
  stays_here = made_stays job of.job_is lo hi t steps carried.memory carried.locals
      carried.standing stores Comes bound site_makes

  pub unchanged_here : Unchanged job t (suc steps)
  unchanged_here = made_unchanged job of.job_is lo hi t steps carried.memory carried.locals
      carried.standing stores Comes bound site_makes

  pub made : (i : ℕ) → i < job.procs →
      Makes job carried.memory i steps (carried.locals i) (stores i) (Comes i)
  made i lt = (makes i lt).makes

  abbrev mid : ℕ → Local
  mid = mids job of.job_is t steps carried.memory carried.locals carried.standing stores Comes made

  pub then_standing : StandsAfter job (t + steps) carried.memory mid
  then_standing = before job of.job_is t steps carried.memory carried.locals carried.standing stores
      Comes made

  named : (i : ℕ) → i < job.procs → IsNamedAt job (mid i)
  named = mids_named job of.job_is t steps carried.memory carried.locals carried.standing stores
      Comes made

  store_is : (i : ℕ) → i < job.procs → local_store job (mid i) ≡ stores i
  store_is = mids_store job of.job_is t steps carried.memory carried.locals carried.standing stores
      Comes made

  asks : (i : ℕ) → asked_for program source i ≡ stores i
  asks i = asked_at program source line i is ∙
      ap (λ s. asked_in program source line.depth s i) statement_is

  pub writes_to : (cell i v : ℕ) → cell < job.cells →
      machine.Writes job (requests_in job (state_after job (t + steps))) cell i v →
      Assigns program source cell i v
  writes_to cell i v low w =
      let by = writer_stores job of.job_is (t + steps) carried.memory mid then_standing named cell i
      v low w in (
        let e = procs_are program job of in let f = by.0 in omega arith,
        asks i ∙
            sym (store_is i by.0) ∙ by.1,
      )

  pub is_cell : (cell i v : ℕ) → Assigns program source cell i v → cell < job.cells
  is_cell cell i v w = shared_low program job of cell
      (asked_shared program job of source t carried.memory carried.locals carried.standing
      carried.pictured line.number line.depth
      (slice_get_within program.lines source.at line is) hi
      (let f = place_low program job of (source.at + 1) in omega arith)
      array cell v i index tree (sym (asks i) ∙ w.1))

  pub writes_from : (cell i v : ℕ) → Assigns program source cell i v →
      machine.Writes job (requests_in job (state_after job (t + steps))) cell i v
  writes_from cell i v w =
      let lt : i < job.procs = (let e = procs_are program job of in let f = w.0 in omega arith) in
      store_writes job of.job_is (t + steps) carried.memory mid then_standing named cell i v
      (is_cell cell i v w) lt
      (store_is i lt ∙ sym (asks i) ∙ w.1)

  pub clash_to : (cell i j : ℕ) →
      machine.Clashes job (requests_in job (state_after job (t + steps))) cell i j →
      LineClashes program source cell i j
  clash_to cell i j c = record {
    value = c.value;
    other = c.other;
    writes = writes_to cell i c.value c.writes.0 c.writes.1;
    writes_too = writes_to cell j c.other c.writes_too.0 c.writes_too.1;
    forbidden = forbids_to program job of i c.value j c.other c.forbidden;
  }

  pub clash_from : (cell i j : ℕ) → LineClashes program source cell i j →
      machine.Clashes job (requests_in job (state_after job (t + steps))) cell i j
  clash_from cell i j c = record {
    value = c.value;
    other = c.other;
    writes = (is_cell cell i c.value c.writes, writes_from cell i c.value c.writes);
    writes_too = (is_cell cell j c.other c.writes_too, writes_from cell j c.other c.writes_too);
    forbidden = forbids_from program job of i c.value j c.other c.forbidden;
  }

  -- the dispute of the line is that of the step
  pub dispute_from : (dispute : Dispute) → IsLineDispute program source dispute →
      machine.IsDispute job (requests_in job (state_after job (t + steps)))
      (record { cell = dispute.cell; first = dispute.first; second = dispute.second })
  dispute_from dispute d = record {
    clash = clash_from dispute.cell dispute.first dispute.second d.clash;
    least_cell = λ cell i j c. d.least_cell cell i j (clash_to cell i j c);
    least_first = λ i v w. d.least_first i v (writes_to dispute.cell i v w.0 w.1);
    least_second = λ j c. d.least_second j (clash_to dispute.cell dispute.first j c);
  }

  pub dispute_to : (dispute : Dispute) →
      machine.IsDispute job (requests_in job (state_after job (t + steps))) dispute →
      IsLineDispute program source (record
      { cell = dispute.cell; first = dispute.first; second = dispute.second })
  dispute_to dispute d = record {
    clash = clash_to dispute.cell dispute.first dispute.second d.clash;
    least_cell = λ cell i j c. d.least_cell cell i j (clash_from cell i j c);
    least_first = λ i v w.
        d.least_first i v (is_cell dispute.cell i v w, writes_from dispute.cell i v w);
    least_second = λ j c. d.least_second j (clash_from dispute.cell dispute.first j c);
  }

  -- it is one or the other
  pub shared_decides : LineAgrees program source ⊎
      ((dispute : Dispute) × IsLineDispute program source dispute)
  shared_decides = ⊎_elim
      (λ agrees. inl (λ cell i j c. agrees cell i j (clash_from cell i j c)))
      (λ d. inr (
        record { cell = d.0.cell; first = d.0.first; second = d.0.second },
        dispute_to d.0 d.1,
      ))
      (agrees_or_dispute job (requests_in job (state_after job (t + steps))))

  pub puts_here : PutOnly job job.cells t (suc steps) stores
  puts_here = made_puts job of.job_is lo hi t steps carried.memory carried.locals
      carried.standing stores Comes bound site_makes

  -- who is out of range before the stores is gone after the line
  none_there : (i : ℕ) (l : Local) → Within lo hi job l →
      IsLocal job (state_after job (t + steps)) i l →
      counter job (state_after job (t + steps)) i ≡ out_of_range job → l ≡ None
  none_there i None inside local out = refl
  none_there i (Some at_it) inside local out =
      let bounds = inside_back lo hi at_it.0 inside in
      let low = place_low program job of (source.at + 1) in
      let e : counter job (state_after job (t + steps)) i ≡ at_it.0 = local.0 in
      absurd (omega arith)

  gone_none : (i : ℕ) (g : Option ℕ) → IsHere g hi i None → (number : ℕ) × (g ≡ Some number)
  gone_none i None here = absurd (none-some (hi, here.held) here.is)
  gone_none i (Some number) here = (number, refl)

  pub lost_here : (i : ℕ) → i < job.procs →
      counter job (state_after job (t + steps)) i ≡ out_of_range job →
      (number : ℕ) × (losing line.number line.depth
      (λ j. is_some (write_of program source array j index tree)) source i ≡ Some number)
  lost_here i lt out =
      let none : mid i ≡ None = none_there i (mid i) ((makes i lt).inside steps (omega arith))
      (then_standing.locals_are i lt) out in
      let it : (made i lt).mid ≡ None = sym (mid_is job of.job_is t steps carried.memory
      carried.locals carried.standing stores Comes made i lt) ∙ none in
      gone_none i _ (subst (λ (l : Local). Comes i (next_local job carried.memory i l)) it
      (made i lt).goes)

  -- where a writer stands
  stands_by : (i v cell : ℕ) (l : Local) → local_store job l ≡ Some (cell, v) → Within lo hi job l →
      IsLocal job (state_after job (t + steps)) i l →
      is_inside lo hi (counter job (state_after job (t + steps)) i) ≡ true
  stands_by i v cell None e inside local = absurd (none-some (cell, v) e)
  stands_by i v cell (Some at_it) e inside local = ap (is_inside lo hi) local.0 ∙ inside

  pub writer_stands : (cell i v : ℕ) → Assigns program source cell i v →
      is_inside lo hi (counter job (state_after job (t + steps)) i) ≡ true
  writer_stands cell i v w =
      let lt : i < job.procs = (let e = procs_are program job of in let f = w.0 in omega arith) in
      stands_by i v cell (mid i) (store_is i lt ∙ sym (asks i) ∙ w.1)
      ((makes i lt).inside steps (omega arith))
      (then_standing.locals_are i lt)

-- ---- any line

-- only an assignment to an array may be against the rule
pub asks_nothing : (program : ProgramData) (source : Source) (depth i : ℕ) (statement : Statement)
    (cell v : ℕ) →
    asked_in program source depth statement i ≡ Some (cell, v) →
    (array : ℕ) × (index : Tree) × (tree : Tree) × (statement ≡ Assign (Shared array index) tree)
asks_nothing program source depth i (Assign (Private x) tree) cell v e =
    absurd (none-some (cell, v) e)
asks_nothing program source depth i (Assign (Shared array index) tree) cell v e =
    (array, index, tree, refl)
asks_nothing program source depth i (If tree) cell v e = absurd (none-some (cell, v) e)
asks_nothing program source depth i Else cell v e = absurd (none-some (cell, v) e)
asks_nothing program source depth i EndIf cell v e = absurd (none-some (cell, v) e)
asks_nothing program source depth i (While tree end) cell v e = absurd (none-some (cell, v) e)
asks_nothing program source depth i (EndWhile begin) cell v e = absurd (none-some (cell, v) e)
asks_nothing program source depth i (For nest first last up end) cell v e =
    absurd (none-some (cell, v) e)
asks_nothing program source depth i (EndFor begin) cell v e = absurd (none-some (cell, v) e)

-- the step in conflict, which is the last of the line
pub record InConflict (program : ProgramData) (job : JobData) (source : Source) (t : ℕ)
    (line : Line) (line_of : ℕ → ℕ)
    (dispute : Dispute) : Type 0 where
  pub before : ℕ
  pub costs : cost program source line.depth line.statement ≡ suc before
  pub reached : IsReached job (t + before)
  pub against : AgreesAfter job (t + before) → ⊥
  pub first : IsFirstConflict job
      (record {
        step = t + before + 1;
        cell = dispute.cell;
        first = dispute.first;
        second =
            dispute.second;
      })
  pub comes : line_of (counter job (state_after job (t + before)) dispute.first) ≡ line.number
  pub comes_too : line_of (counter job (state_after job (t + before)) dispute.second) ≡ line.number

module _ (program : ProgramData) (job : JobData) (of : IsOf program job) (source : Source) (t : ℕ)
    (carried : Carried program job source t) (line : Line)
    (is : slice_get program.lines source.at ≡ Some line) where
  silent : ((i cell v : ℕ) → asked_in program source line.depth line.statement i ≡ Some (cell, v) →
      ⊥) → LineAgrees program source
  silent none cell i j c = none i cell c.value
      (sym (asked_at program source line i is) ∙ c.writes.1)

  decides_by : (statement : Statement) → line.statement ≡ statement →
      LineAgrees program source ⊎ ((dispute : Dispute) × IsLineDispute program source dispute)
  decides_by (Assign (Shared array index) tree) e =
      shared_decides program job of source t carried line is array index tree e
  decides_by (Assign (Private x) tree) e =
      inl (silent (λ i cell v f. none-some (cell, v)
      (sym (ap (λ s. asked_in program source line.depth s i) e) ∙ f)))
  decides_by (If tree) e = inl (silent
      (λ i cell v f. none-some (cell, v)
      (sym (ap (λ s. asked_in program source line.depth s i) e) ∙ f)))
  decides_by Else e = inl (silent
      (λ i cell v f. none-some (cell, v)
      (sym (ap (λ s. asked_in program source line.depth s i) e) ∙ f)))
  decides_by EndIf e = inl (silent
      (λ i cell v f. none-some (cell, v)
      (sym (ap (λ s. asked_in program source line.depth s i) e) ∙ f)))
  decides_by (While tree end) e =
      inl (silent (λ i cell v f. none-some (cell, v)
      (sym (ap (λ s. asked_in program source line.depth s i) e) ∙ f)))
  decides_by (EndWhile begin) e =
      inl (silent (λ i cell v f. none-some (cell, v)
      (sym (ap (λ s. asked_in program source line.depth s i) e) ∙ f)))
  decides_by (For nest first last up end) e =
      inl (silent (λ i cell v f. none-some (cell, v)
      (sym (ap (λ s. asked_in program source line.depth s i) e) ∙ f)))
  decides_by (EndFor begin) e = inl
      (silent (λ i cell v f. none-some (cell, v)
      (sym (ap (λ s. asked_in program source line.depth s i) e) ∙ f)))

  pub decides : LineAgrees program source ⊎ ((dispute : Dispute) × IsLineDispute program source dispute)
  decides = decides_by line.statement refl

  pub in_conflict : (line_of : ℕ → ℕ) → AreLineNumbers program line_of → (dispute : Dispute) →
      IsLineDispute program source dispute →
      InConflict program job source t line line_of dispute
  in_conflict line_of numbers dispute d =
      let it = asks_nothing program source line.depth dispute.first line.statement dispute.cell
      d.clash.value
      (sym (asked_at program source line dispute.first is) ∙ d.clash.writes.1) in
      let before : ℕ = quiet line.depth (length (both_code (program_layout program) it.2 it.1)) in
      let found = dispute_from program job of source t carried line is it.0 it.1 it.2 it.3 dispute
      d in record {
        before = before;
        costs = ap (cost program source line.depth) it.3;
        reached = (then_standing program job of source t carried line is it.0 it.1 it.2
            it.3).reached;
        against = λ agrees. agrees dispute.cell dispute.first dispute.second found.clash;
        first = record {
          before = t + before;
          step = refl;
          reached = (then_standing program job of source t carried line is it.0 it.1 it.2
              it.3).reached;
          dispute = found;
        };
        comes = number_at program line_of numbers source.at
            (counter job (state_after job (t + before)) dispute.first) line is
            (writer_stands program job of source t carried line is it.0 it.1 it.2 it.3 dispute.cell
            dispute.first d.clash.value d.clash.writes);
        comes_too = number_at program line_of numbers source.at
            (counter job (state_after job (t + before)) dispute.second) line is
            (writer_stands program job of source t carried line is it.0 it.1 it.2 it.3 dispute.cell
            dispute.second d.clash.other d.clash.writes_too);
      }
