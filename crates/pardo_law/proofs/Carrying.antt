-- All lines of a run, one after the other.
use Rattle.std.proofs.Common.{◌≡◌, ℕ, zero, suc, ◌+◌, ◌<◌, ◌≤◌, Bool, true, List, [], ◌∷◌, ◌++◌}
use Rattle.std.proofs.Common.{Option, Some, None}
use Rattle.std.proofs.Common.{◌⊎◌, refl, sym, ap, ◌∙◌, subst, inl, inr, arith, length, length-append}
use Rattle.std.proofs.Common.{append_assoc}
use Rattle.std.specs.Prelude.{slice_get, is_some}
use Rattle.std.proofs.lemmas.Option.{slice_get_within}
use Rattle.pram_job.specs.declared.instr.Instr.{Instr}
use Rattle.pram_job.specs.declared.instr.Instr.TheVariants.{St, Jz, Jmp}
use Rattle.pram_job.specs.declared.instr.Rule.{Rule}
use Rattle.pram_job.specs.declared.instr.Place.TheVariants.{Named}
use Rattle.pram_job.specs.Job.{JobData}
use Rattle.pardo_program.specs.declared.statement.Line.{Line}
use Rattle.pardo_program.specs.declared.statement.Statement.{Statement}
use Rattle.pardo_program.specs.declared.statement.Statement.TheVariants.{Assign, If, Else, EndIf}
use Rattle.pardo_program.specs.declared.statement.Statement.TheVariants.{While, EndWhile, For}
use Rattle.pardo_program.specs.declared.statement.Statement.TheVariants.{EndFor}
use Rattle.pardo_program.specs.declared.statement.Target.TheVariants.{Private, Array as Shared}
use Rattle.pardo_program.specs.Expression.{Tree}
use Rattle.pardo_program.specs.Lawful.{IsLine, IsStatement, masks_of, bounds_of}
use Rattle.pardo_program.specs.Program.{ProgramData}
use Rattle.pram_step.specs.Disputes.{Forbids}
use Rattle.pardo_flat.specs.Layouts.{ProgramLayoutData, program_layout, array_cells, loop_cells}
use Rattle.pardo_flat.specs.Statements.{statement_at}
pub use Rattle.pardo_flat.proofs.FlatLines.{all_at}
use Rattle.pardo_job.specs.Conflicts.{LineAgrees}
use Rattle.pardo_job.specs.Lines.{line_code, loop_end, place_of, assignment_code}
use Rattle.pardo_job.specs.Lines.{masked, none_code, turn_code, while_code}
use Rattle.pardo_job.specs.Lines.{next_value, own_store}
use Rattle.pardo_job.specs.Meaning.{Source, after, next, after_statement, asked_in, loop_ended}
use Rattle.pardo_job.specs.Meaning.{on_to, losing, write_of}
use Rattle.pardo_job.specs.Operations.{is_shallow, register_or_spare}
use Rattle.pardo_job.specs.Runs.{IsProgramOver, IsLineReached}
use Rattle.pardo_job.specs.Values.{value_code, value_operand, takes}
use Rattle.pardo_job.proofs.Assigning.{both_code}
use Rattle.pardo_job.proofs.Meanings.{next_at, asked_at}
use Rattle.pardo_job.proofs.Shallow.{shallow_front}
use Rattle.pardo_law.specs.Locals.{HasCodeAt}
use Rattle.pardo_law.proofs.Carried.{Carried, Advance, AgreesIn, cost, loop_cost, shallow_masked}
use Rattle.pardo_law.proofs.Carried.{shallow_choosing}
use Rattle.pardo_law.proofs.Carried.{stays_none, still_none, puts_none, place_low}
use Rattle.pardo_law.proofs.Cutting.{site, stands_site}
use Rattle.pardo_law.proofs.Making.{Makes}
use Rattle.pardo_law.proofs.Masks.{quiet}
use Rattle.pardo_law.proofs.Advancing.{private_advances, shared_advances, choice_advances}
use Rattle.pardo_law.proofs.Advancing.{else_advances}
use Rattle.pardo_law.proofs.Advancing.{shared_makes}
use Rattle.pardo_law.proofs.AdvancingLoops.{while_advances, back_advances, for_advances}
use Rattle.pardo_law.proofs.AdvancingLoops.{turn_advances}
use Rattle.pardo_law.proofs.Effects.{moved_pictured}
use Rattle.pardo_law.proofs.Lengths.{line_stands, length_is, place_next}
use Rattle.pardo_law.proofs.Picturing.{IsOf, IsHere, code_is, rule_is, procs_are, private_count}
use Rattle.pardo_law.proofs.Picturing.{loop_count, choice_count}
use Rattle.pardo_law.proofs.Rows.{held_below}
use Rattle.pardo_law.proofs.Starting.{starts_carried}

shallow_none : (layout : ProgramLayoutData) (up : Bool) (first last : Tree) →
    is_shallow (none_code layout up first last) ≡ true →
    is_shallow (value_code layout 0 first) ≡ true
unfolding none_code
shallow_none layout up first last shallow = shallow_front (value_code layout 0 first) _ shallow

-- ---- one line

module _ (program : ProgramData) (job : JobData) (of : IsOf program job) (source : Source) (t : ℕ)
    (carried : Carried program job source t) (text_line depth : ℕ)
    (low : source.at < length program.lines) where
  abbrev at : ℕ
  at = place_of program source.at

  same_time : (n m : ℕ) (s : Source) → n ≡ m → Carried program job s n → Carried program job s m
  same_time n m s e c = subst (Carried program job s) e c

  abbrev hi : ℕ
  hi = place_of program (source.at + 1)

  hi_low : hi ≤ length job.code
  hi_low = let e = place_low program job of (source.at + 1) in omega arith

  stays_here : Advance program job (λ i. None) source t 0 at hi
  stays_here = record {
    carried = same_time t (t + 0) source (omega arith) carried;
    stays =
        stays_none job at hi t;
    still = still_none job (held_below (program_layout program)) t;
    puts = puts_none job (program_layout program).shared t (λ i. None);
  }

  opened : (begin : ℕ) (opener : Statement) → begin < length program.lines →
      IsStatement (bounds_of program) opener →
      is_shallow (loop_end (program_layout program) (λ j. 0) begin opener) ≡ true →
      HasCodeAt (site at hi job) at
      (loop_end (program_layout program) (place_of program) begin opener) →
      at + length (loop_end (program_layout program) (place_of program) begin opener) ≡ hi →
      Advance program job (λ i. None) (loop_ended program text_line begin opener source) t
      (loop_cost program source opener) at hi
  opened begin (For nest first last up end) begin_low is shallow stands ends =
      let tail : List Instr = Jz 1 (place_of program (end + 1)) ∷
      (next_value up ∷ (own_store (loop_cells (program_layout program) nest)
      ∷ (Jmp (place_of program (begin + 1)) ∷ []))) in
      let long = length-append (turn_code (program_layout program) nest last) tail in
      turn_advances program job of source t carried.memory carried.locals carried.standing
      carried.pictured text_line depth low hi hi_low
      nest last up begin end (let e = loop_count program job of in let f = is.0 in omega arith) is.2
      is.3 begin_low
      (shallow_front (turn_code (program_layout program) nest last) _ shallow) stands (omega arith)
  opened begin (Assign target tree) begin_low is shallow stands ends = stays_here
  opened begin (If tree) begin_low is shallow stands ends = stays_here
  opened begin Else begin_low is shallow stands ends = stays_here
  opened begin EndIf begin_low is shallow stands ends = stays_here
  opened begin (While tree end) begin_low is shallow stands ends = stays_here
  opened begin (EndWhile line) begin_low is shallow stands ends = stays_here
  opened begin (EndFor line) begin_low is shallow stands ends = stays_here

  lawful_found : (begin : ℕ) (o : Option Line) → slice_get program.lines begin ≡ o →
      IsStatement (bounds_of program)
      (elim o as (λ (x : Option Line). Statement) [ None ↦ EndIf | Some line ↦ line.statement ])
  lawful_found begin None e = tt
  lawful_found begin (Some line) e =
      (all_at (IsLine (bounds_of program)) program.lines begin line of.program_is.lines e).0

  pub lawful_at : (begin : ℕ) → IsStatement (bounds_of program) (statement_at program begin)
  lawful_at begin = lawful_found begin (slice_get program.lines begin) refl

  nothing_done : at ≡ place_of program (source.at + 1) →
      Carried program job (on_to (source.at + 1) source) t
  nothing_done same = record {
    memory = carried.memory;
    locals = carried.locals;
    standing = carried.standing;
    pictured = moved_pictured program job of source carried.memory carried.locals carried.pictured
        (source.at + 1) carried.locals (omega arith)
        (λ i lt. subst (λ n. IsHere (source.gone i) n i (carried.locals i)) same
        (carried.pictured.here i lt));
  }

  abbrev pub shared_store : ℕ → Tree → Tree → Instr
  shared_store array index tree =
      St (Named (array_cells (program_layout program) array) (value_operand (takes tree) index))
      (value_operand 0 tree)

  pub shared_body : (array : ℕ) (index tree : Tree) →
      value_code (program_layout program) 0 tree ++
      (value_code (program_layout program) (takes tree) index ++ shared_store array index tree ∷ [])
      ≡ both_code (program_layout program) tree index ++ shared_store array index tree ∷ []
  shared_body array index tree = sym (append_assoc (value_code (program_layout program) 0 tree)
      (value_code (program_layout program) (takes tree) index) (shared_store array index tree ∷ []))

  by_statement : (statement : Statement) → IsStatement (bounds_of program) statement → depth +
      masks_of statement ≤ program.choices →
      is_shallow (line_code program (λ j. 0) 0 depth statement) ≡ true →
      HasCodeAt (site at hi job) at (line_code program (place_of program) at depth statement) →
      at + length (line_code program (place_of program) at depth statement) ≡
      place_of program (source.at + 1) →
      AgreesIn program job source depth statement →
      Advance program job (asked_in program source depth statement)
      (after_statement program text_line depth statement source) t
      (cost program source depth statement) at hi
  unfolding line_code assignment_code
  by_statement (Assign (Private x) tree) is few shallow stands ends agree =
      private_advances program job of source t carried.memory carried.locals carried.standing
      carried.pictured text_line depth low hi hi_low
      x tree (let e = private_count program job of in let f = is.0 in omega arith) is.1
      (let e = choice_count program job of in omega arith)
      (shallow_front (value_code (program_layout program) 0 tree) _
      (shallow_masked (program_layout program) 0 depth _ shallow)) stands ends
  by_statement (Assign (Shared array index) tree) is few shallow stands ends agree =
      let body : List Instr = both_code (program_layout program) tree index ++
      shared_store array index tree ∷ [] in
      let e = shared_body array index tree in
      shared_advances program job of source t carried.memory carried.locals carried.standing
      carried.pictured text_line depth low hi hi_low
      array index tree is.1 is.0.1 (let f = choice_count program job of in omega arith)
      (shallow_front (both_code (program_layout program) tree index)
      (shared_store array index tree ∷ [])
      (subst (λ b. is_shallow b ≡ true) e
      (shallow_masked (program_layout program) 0 depth _ shallow)))
      (subst (λ b. HasCodeAt (site at hi job) at (masked (program_layout program) at depth b)) e
      stands)
      (subst (λ b. at + length (masked (program_layout program) at depth b) ≡
      place_of program (source.at + 1)) e ends) agree
  by_statement (If tree) is few shallow stands ends agree =
      choice_advances program job of source t carried.memory carried.locals carried.standing
      carried.pictured text_line depth low hi hi_low
      tree is (let e = choice_count program job of in omega arith)
      (shallow_choosing (program_layout program) 0 depth _ shallow) stands ends
  by_statement Else is few shallow stands ends agree =
      else_advances program job of source t carried.memory carried.locals carried.standing
      carried.pictured text_line depth low hi hi_low
      (let e = choice_count program job of in omega arith) stands ends
  by_statement EndIf is few shallow stands ends agree =
      record {
        carried = same_time t (t + 0) (on_to (source.at + 1) source) (omega arith)
            (nothing_done (let e : at ≡ at + 0 = omega arith in e ∙ ends));
        stays = stays_none job at hi t;
        still = still_none job (held_below (program_layout program)) t;
        puts = puts_none job (program_layout program).shared t (λ i. None);
      }
  by_statement (While tree end) is few shallow stands ends agree =
      let jump : List Instr = Jz (register_or_spare 0 (value_operand 0 tree))
      (place_of program (end + 1)) ∷
      [] in
      let long = length-append (while_code (program_layout program) tree) jump in
      while_advances program job of source t carried.memory carried.locals carried.standing
      carried.pictured text_line depth low hi hi_low
      tree end is.0 is.1 (shallow_front (while_code (program_layout program) tree) _ shallow) stands
      (let e : at + length (while_code (program_layout program) tree) + 1 ≡ at +
      length (while_code (program_layout program) tree ++ jump) = omega arith in e ∙ ends)
  by_statement (EndWhile begin) is few shallow stands ends agree =
      back_advances program job of source t carried.memory carried.locals carried.standing
      carried.pictured text_line depth low hi hi_low
      begin is stands
  by_statement (For nest first last up end) is few shallow stands ends agree =
      let none_shallow : is_shallow (none_code (program_layout program) up first last) ≡ true =
      shallow_front (none_code (program_layout program) up first last) _ shallow in
      for_advances program job of source t carried.memory carried.locals carried.standing
      carried.pictured text_line depth low hi hi_low
      nest first last up end (let e = loop_count program job of in let f = is.0 in omega arith) is.1
      is.2 is.3 none_shallow
      (shallow_none (program_layout program) up first last none_shallow) stands ends
  by_statement (EndFor begin) is few shallow stands ends agree =
      opened begin (statement_at program begin) is (lawful_at begin) shallow stands ends

-- an assignment to an array, up to its stores
module _ (program : ProgramData) (job : JobData) (of : IsOf program job) (source : Source) (t : ℕ)
    (carried : Carried program job source t) (text_line depth : ℕ)
    (low : source.at < length program.lines)
    (array : ℕ) (index tree : Tree) where
  abbrev line_end : ℕ
  line_end = place_of program (source.at + 1)

  pub stores_make : IsStatement (bounds_of program) (Assign (Shared array index) tree) →
      depth ≤ program.choices →
      is_shallow (line_code program (λ j. 0) 0 depth (Assign (Shared array index) tree)) ≡ true →
      HasCodeAt (site (place_of program source.at) line_end job) (place_of program source.at)
      (line_code program (place_of program) (place_of program source.at) depth
      (Assign (Shared array index) tree)) →
      place_of program source.at + length
      (line_code program (place_of program) (place_of program source.at) depth
      (Assign (Shared array index) tree))
      ≡ line_end → (i : ℕ) → i < job.procs →
      Makes (site (place_of program source.at) line_end job) carried.memory i
      (quiet depth (length (both_code (program_layout program) tree index)))
      (carried.locals i) (asked_in program source depth (Assign (Shared array index) tree) i)
      (IsHere (losing text_line depth (λ j. is_some (write_of program source array j index tree))
      source i) line_end i)
  unfolding line_code assignment_code
  stores_make is few shallow stands ends =
      let body : List Instr = both_code (program_layout program) tree index
      ++ shared_store program job of source t carried text_line depth low array index tree ∷ [] in
      let e = shared_body program job of source t carried text_line depth low array index tree in
      shared_makes program job of source t carried.memory carried.locals carried.standing
      carried.pictured text_line depth low
      line_end (let f = place_low program job of (source.at + 1) in omega arith)
      array index tree is.1 is.0.1 (let f = choice_count program job of in omega arith)
      (shallow_front (both_code (program_layout program) tree index)
      (shared_store program job of source t carried text_line depth low array index tree ∷ [])
      (subst (λ b. is_shallow b ≡ true) e
      (shallow_masked (program_layout program) 0 depth _ shallow)))
      (subst (λ b. HasCodeAt (site (place_of program source.at) line_end job)
      (place_of program source.at)
      (masked (program_layout program) (place_of program source.at) depth b)) e stands)
      (subst (λ b. place_of program source.at +
      length (masked (program_layout program) (place_of program source.at) depth b) ≡ line_end) e
      ends)

-- the writes of the line that is next, by the machine's rule
pub forbids_to : (program : ProgramData) (job : JobData) → IsOf program job → (i v j w : ℕ) →
    Forbids job.rule i v j w → Forbids program.rule i v j w
forbids_to program job of i v j w f =
    subst (λ (r : Rule). Forbids r i v j w) (rule_is program job of) f

pub forbids_from : (program : ProgramData) (job : JobData) → IsOf program job → (i v j w : ℕ) →
    Forbids program.rule i v j w → Forbids job.rule i v j w
forbids_from program job of i v j w f =
    subst (λ (r : Rule). Forbids r i v j w) (sym (rule_is program job of)) f

module _ (program : ProgramData) (job : JobData) (of : IsOf program job) (source : Source) (t : ℕ)
    (carried : Carried program job source t) (line : Line)
    (is : slice_get program.lines source.at ≡ Some line) where
  abbrev place : ℕ
  place = place_of program source.at

  pub line_is : IsLine (bounds_of program) line
  line_is = all_at (IsLine (bounds_of program)) program.lines source.at line of.program_is.lines is

  pub stands_here : HasCodeAt job place
      (line_code program (place_of program) place line.depth line.statement)
  stands_here = line_stands program job (code_is program job of) source.at line is

  pub ends_here : place + length (line_code program (place_of program) place line.depth
      line.statement) ≡ place_of program (source.at + 1)
  ends_here =
      let e = length_is program (place_of program) place line in
      let f = place_next program source.at line is in omega arith

  pub agree_here : LineAgrees program source → AgreesIn program job source line.depth line.statement
  agree_here agree cell i j v w lt less writes too forbidden =
      agree cell i j (record {
        value = v;
        other = w;
        writes = (
          let e = procs_are program job of in omega arith,
          asked_at program source line i is
              ∙ writes,
        );
        writes_too = (
          let e = procs_are program job of in omega arith,
          asked_at program source line j is ∙ too,
        );
        forbidden = forbids_to program job of i v j w forbidden;
      })

  pub stands_site_here : HasCodeAt (site place (place_of program (source.at + 1)) job) place
      (line_code program (place_of program) place line.depth line.statement)
  stands_site_here = stands_site place (place_of program (source.at + 1)) job place
      (line_code program (place_of program) place line.depth line.statement) stands_here
      (omega arith)
      (let e = ends_here in omega arith)

  pub line_carried : LineAgrees program source →
      Advance program job (asked_in program source line.depth line.statement)
      (next program source) t (cost program source line.depth line.statement)
      place (place_of program (source.at + 1))
  line_carried agree =
      subst (λ s. Advance program job (asked_in program source line.depth line.statement) s t
      (cost program source line.depth line.statement) place
      (place_of program (source.at + 1)))
      (sym (next_at program source line is))
      (by_statement program job of source t carried line.number line.depth
      (slice_get_within program.lines source.at line is)
      line.statement line_is.0 line_is.1 (of.level source.at line is) stands_site_here ends_here
      (agree_here agree))

-- ---- all lines so far

pub step_cost : ProgramData → Source → Option Line → ℕ
step_cost program source None = 0
step_cost program source (Some line) = cost program source line.depth line.statement

-- after how many steps the job shows the state after n lines
abbrev pub time_of : ProgramData → ℕ → ℕ
time_of program zero = 1
time_of program (suc n) =
    time_of program n + step_cost program (after program n)
    (slice_get program.lines (after program n).at)

pub some_line : (program : ProgramData) (k : ℕ) → k < length program.lines → (line : Line) ×
    (slice_get program.lines k ≡ Some line)
some_line program k lt = found program.lines k lt
  where
    found : (lines : List Line) (j : ℕ) → j < length lines → (line : Line) ×
        (slice_get lines j ≡ Some line)
    found [] j lt = absurd (omega arith)
    found (line ∷ lines) zero lt = (line, refl)
    found (line ∷ lines) (suc j) lt = found lines j (omega arith)

-- a program that is not over has a line that is next
pub line_next : (program : ProgramData) (source : Source) → source.at ≤ length program.lines →
    (IsProgramOver program source → ⊥) →
    (line : Line) × (slice_get program.lines source.at ≡ Some line)
line_next program source within goes_on =
    some_line program source.at (let apart : (length program.lines ≡ source.at → ⊥) =
    λ e. goes_on (inl e) in omega arith)

pub time_next : (program : ProgramData) (n : ℕ) (line : Line) →
    slice_get program.lines (after program n).at ≡ Some line →
    time_of program (suc n) ≡ time_of program n +
    cost program (after program n) line.depth line.statement
unfolding step_cost
time_next program n line is = ap (λ o. time_of program n + step_cost program (after program n) o) is

-- where no line is next, nothing is done, and no time passes
pub next_none : (program : ProgramData) (source : Source) →
    slice_get program.lines source.at ≡ None → next program source ≡ source
unfolding next
next_none program source none =
    ap (λ (o : Option Line). elim o as (λ (x : Option Line). Source) [
      | None ↦ source
      | Some line ↦ after_statement program line.number line.depth line.statement source
    ]) none

pub time_same : (program : ProgramData) (n : ℕ) →
    slice_get program.lines (after program n).at ≡ None →
    time_of program (suc n) ≡ time_of program n
unfolding step_cost
time_same program n none =
    ap (λ o. time_of program n + step_cost program (after program n) o) none ∙ omega arith

-- the lines so far agree with the rule, as far as there are some
abbrev pub IsMade : ProgramData → ℕ → Type 0
IsMade program n =
    (((after program n).at < length program.lines) × LineAgrees program (after program n))
    ⊎ (slice_get program.lines (after program n).at ≡ None)

abbrev pub AreMade : ProgramData → ℕ → Type 0
AreMade program n = (earlier : ℕ) → earlier < n → IsMade program earlier

made_next : (program : ProgramData) (job : JobData) → IsOf program job → (n : ℕ) →
    Carried program job (after program n) (time_of program n) → IsMade program n →
    Carried program job (next program (after program n)) (time_of program (suc n))
made_next program job of n before (inl here) =
    let line = some_line program (after program n).at here.0 in
    subst (λ u. Carried program job (next program (after program n)) u)
    (sym (time_next program n line.0 line.1))
    (line_carried program job of (after program n) (time_of program n) before line.0 line.1
    here.1).carried
made_next program job of n before (inr none) =
    subst (λ u. Carried program job (next program (after program n)) u)
    (sym (time_same program n none))
    (subst (λ (s : Source). Carried program job s (time_of program n))
    (sym (next_none program (after program n) none)) before)

pub carried_made : (program : ProgramData) (job : JobData) → IsOf program job → (n : ℕ) →
    AreMade program n →
    Carried program job (after program n) (time_of program n)
unfolding after
carried_made program job of zero made = starts_carried program job of
carried_made program job of (suc n) made =
    made_next program job of n
    (carried_made program job of n (λ earlier lt. made earlier (omega arith)))
    (made n (omega arith))

pub carried_after : (program : ProgramData) (job : JobData) → IsOf program job → (n : ℕ) →
    IsLineReached program n →
    Carried program job (after program n) (time_of program n)
unfolding after
carried_after program job of zero reached = starts_carried program job of
carried_after program job of (suc n) reached =
    let before : Carried program job (after program n) (time_of program n) =
    carried_after program job of n (λ earlier lt. reached earlier (omega arith)) in
    let here = reached n (omega arith) in
    let line = line_next program (after program n) before.pictured.within here.0 in
    subst (λ u. Carried program job (next program (after program n)) u)
    (sym (time_next program n line.0 line.1))
    (line_carried program job of (after program n) (time_of program n) before line.0 line.1
    here.1).carried

-- those of a run are made
pub made_so_far : (program : ProgramData) (job : JobData) → IsOf program job → (n : ℕ) →
    IsLineReached program n → AreMade program n
made_so_far program job of n reached earlier lt =
    let c = carried_after program job of earlier (λ before less. reached before (omega arith)) in
    let line = line_next program (after program earlier) c.pictured.within (reached earlier lt).0 in
    inl (
      slice_get_within program.lines (after program earlier).at line.0 line.1,
      (reached earlier lt).1,
    )
