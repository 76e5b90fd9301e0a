-- In which line a processor leaves.
use Rattle.std.proofs.Common.{◌≡◌, ◌≢◌, ℕ, zero, suc, ◌+◌, ◌<◌, ◌≤◌, ◌==◌, ◌&&◌, Bool, true, false}
use Rattle.std.proofs.Common.{not, Option, Some, None}
use Rattle.std.proofs.Common.{refl, sym, ap, ◌∙◌, subst, inl, inr, ⊎_elim, arith, if◌then◌else◌}
use Rattle.std.specs.Prelude.{slice_get, is_some}
use Rattle.std.specs.Option.{option_or}
use Rattle.std.proofs.lemmas.Bool.{cases_eq, cases_Bool}
use Rattle.std.proofs.lemmas.Option.{none-some, same_Some}
use Rattle.pram_job.specs.Job.{JobData}
use Rattle.pram_machine.specs.Machine.{counter, out_of_range}
use Rattle.pram_step.specs.Runs.{state_after}
use Rattle.pardo_program.specs.declared.statement.Line.{Line}
use Rattle.pardo_program.specs.declared.statement.Statement.{Statement}
use Rattle.pardo_program.specs.declared.statement.Statement.TheVariants.{Assign, If, Else, EndIf}
use Rattle.pardo_program.specs.declared.statement.Statement.TheVariants.{While, EndWhile, For}
use Rattle.pardo_program.specs.declared.statement.Statement.TheVariants.{EndFor}
use Rattle.pardo_program.specs.declared.statement.Target.TheVariants.{Private, Array as Shared}
use Rattle.pardo_program.specs.Program.{ProgramData}
use Rattle.pardo_flat.specs.Statements.{statement_at}
use Rattle.pardo_job.specs.Compiled.{AreLineNumbers}
use Rattle.pardo_job.specs.Leaving.{Leaves}
use Rattle.pardo_job.specs.Lines.{place_of}
use Rattle.pardo_job.specs.Meaning.{Source, after, next, after_statement, losing, loop_ended}
use Rattle.pardo_job.specs.Meaning.{asked_in, by_common, common_value, has_none, is_active}
use Rattle.pardo_job.specs.Meaning.{value, write_of}
use Rattle.pardo_job.proofs.Meanings.{next_at, gone_for_good}
use Rattle.pardo_law.proofs.Carried.{Carried, Advance, cost, place_low}
use Rattle.pardo_law.proofs.Carrying.{AreMade, IsMade, carried_made, line_carried, next_none, some_line}
use Rattle.pardo_law.proofs.Carrying.{time_next, time_same}
use Rattle.pardo_law.proofs.Carrying.{time_of}
use Rattle.pardo_law.proofs.Cutting.{is_inside}
use Rattle.pardo_law.proofs.Disputing.{number_at}
use Rattle.pardo_law.proofs.Picturing.{IsOf, procs_are}
use Rattle.pardo_law.proofs.Showing.{here_shows, out_shows}

-- ---- by the meaning

losing_line : (text_line depth i number : ℕ) (has : ℕ → Bool) (source : Source) → source.gone i ≡
    None →
    losing text_line depth has source i ≡ Some number → text_line ≡ number
losing_line text_line depth i number has source there e =
    elim (cases_Bool (is_active source depth i && not (has i))) [
      | inl on ↦ same_Some text_line number
          (sym (ap (λ b. if b then Some text_line else source.gone i) on) ∙ e)
      | inr off ↦ absurd (none-some number
          (sym there ∙ sym (ap (λ b. if b then Some text_line else source.gone i) off) ∙ e))
    ]

stays_there : (number : ℕ) (g : Option ℕ) → g ≡ None → g ≡ Some number → {A : Type 0} → A
stays_there number g there e = absurd (none-some number (sym there ∙ e))

if_gone : (b : Bool) (x y : Source) (i : ℕ) (g : Option ℕ) → x.gone i ≡ g → y.gone i ≡ g →
    (if b then x else y).gone i ≡ g
if_gone true x y i g p q = p
if_gone false x y i g p q = q

-- without a value all are gone in the line, and with one nobody is
common_gone : (program : ProgramData) (text_line i number : ℕ) (source : Source) (o : Option ℕ)
    (goes : ℕ → Source) → source.gone i ≡ None →
    ((v : ℕ) → (goes v).gone i ≡ Some number → text_line ≡ number) →
    (by_common program text_line source o goes).gone i ≡ Some number → text_line ≡ number
common_gone program text_line i number source None goes there stays e =
    same_Some text_line number (sym (ap (λ g. option_or g (Some text_line)) there) ∙ e)
common_gone program text_line i number source (Some v) goes there stays e = stays v e

loop_gone : (program : ProgramData) (text_line begin i number : ℕ) (opener : Statement)
    (source : Source) → source.gone i ≡ None →
    (loop_ended program text_line begin opener source).gone i ≡ Some number → text_line ≡ number
loop_gone program text_line begin i number (For nest first last up end) source there e =
    common_gone program text_line i number source (common_value program source last) _ there
    (λ b gone. stays_there number (source.gone i) there
    (sym (if_gone (source.loops nest == b) _ _ i (source.gone i) refl refl) ∙ gone)) e
loop_gone program text_line begin i number (Assign target tree) source there e =
    stays_there number (source.gone i) there e
loop_gone program text_line begin i number (If tree) source there e =
    stays_there number (source.gone i) there e
loop_gone program text_line begin i number Else source there e =
    stays_there number (source.gone i) there e
loop_gone program text_line begin i number EndIf source there e =
    stays_there number (source.gone i) there e
loop_gone program text_line begin i number (While tree end) source there e =
    stays_there number (source.gone i) there e
loop_gone program text_line begin i number (EndWhile line) source there e =
    stays_there number (source.gone i) there e
loop_gone program text_line begin i number (EndFor line) source there e =
    stays_there number (source.gone i) there e

-- who is gone after a line, and was there before it, is gone in that line
pub lost_in : (program : ProgramData) (text_line depth i number : ℕ) (statement : Statement)
    (source : Source) → source.gone i ≡ None →
    (after_statement program text_line depth statement source).gone i ≡ Some number → text_line ≡
    number
lost_in program text_line depth i number (Assign (Private x) tree) source there e =
    losing_line text_line depth i number (λ j. is_some (value program source j tree)) source there e
lost_in program text_line depth i number (Assign (Shared array index) tree) source there e =
    losing_line text_line depth i number (λ j. is_some (write_of program source array j index tree))
    source there e
lost_in program text_line depth i number (If tree) source there e =
    losing_line text_line depth i number (λ j. is_some (value program source j tree)) source there e
lost_in program text_line depth i number Else source there e =
    stays_there number (source.gone i) there e
lost_in program text_line depth i number EndIf source there e =
    stays_there number (source.gone i) there e
lost_in program text_line depth i number (While tree end) source there e =
    common_gone program text_line i number source (common_value program source tree) _ there
    (λ v gone. stays_there number (source.gone i) there
    (sym (if_gone (v == 0) _ _ i (source.gone i) refl refl) ∙ gone)) e
lost_in program text_line depth i number (EndWhile begin) source there e =
    stays_there number (source.gone i) there e
lost_in program text_line depth i number (For nest first last up end) source there e =
    common_gone program text_line i number source (common_value program source first) _ there
    (λ a. common_gone program text_line i number source (common_value program source last) _ there
    (λ b gone. stays_there number (source.gone i) there
    (sym (if_gone (has_none up a b) _ _ i (source.gone i) refl refl) ∙ gone))) e
lost_in program text_line depth i number (EndFor begin) source there e =
    loop_gone program text_line begin i number (statement_at program begin) source there e

-- ---- in the steps of the line

-- the step in which it leaves
record Crossing (job : JobData) (t c i : ℕ) : Type 0 where
  step : ℕ
  within : step < c
  was_there : counter job (state_after job (t + step)) i ≢ out_of_range job
  is_gone : counter job (state_after job (t + step + 1)) i ≡ out_of_range job

crossing : (job : JobData) (t i c : ℕ) → counter job (state_after job t) i ≢ out_of_range job →
    counter job (state_after job (t + c)) i ≡ out_of_range job → Crossing job t c i
crossing job t i zero there out =
    absurd (there (ap (λ n. counter job (state_after job n) i)
    (let e : t ≡ t + 0 = omega arith in e) ∙ out))
crossing job t i (suc c) there out = ⊎_elim
    (λ (same : counter job (state_after job (t + c)) i ≡ out_of_range job).
    let rest : Crossing job t c i = crossing job t i c there same in record {
      step = rest.step;
      within = let lt = rest.within in omega arith;
      was_there = rest.was_there;
      is_gone = rest.is_gone;
    })
    (λ ne. record {
      step = c;
      within = omega arith;
      was_there = ne;
      is_gone = ap (λ n. counter job (state_after job n) i)
          (let e : t + c + 1 ≡ t + suc c = omega arith in e) ∙ out;
    })
    (cases_eq (counter job (state_after job (t + c)) i) (out_of_range job))

leaves_more : (job : JobData) (line_of : ℕ → ℕ) (t u i number : ℕ) → t ≤ u →
    Leaves job line_of t i number → Leaves job line_of u i number
leaves_more job line_of t u i number le is = record {
  before = is.before;
  within = let lt = is.within in omega arith;
  was_there = is.was_there;
  is_gone = is.is_gone;
  comes = is.comes;
}

module _ (program : ProgramData) (job : JobData) (of : IsOf program job) (line_of : ℕ → ℕ)
    (numbers : AreLineNumbers program line_of) where
  newly : (source : Source) (t i : ℕ) (line : Line) → Carried program job source t →
      slice_get program.lines source.at ≡ Some line →
      Advance program job (asked_in program source line.depth line.statement)
      (next program source) t (cost program source line.depth line.statement)
      (place_of program source.at) (place_of program (source.at + 1)) → i < program.procs →
      source.gone i ≡ None → (number : ℕ) → (next program source).gone i ≡ Some number →
      Leaves job line_of (t + cost program source line.depth line.statement) i number
  newly source t i line carried is advance lt there number gone =
      let c : ℕ = cost program source line.depth line.statement in
      let low : i < job.procs = (let e = procs_are program job of in omega arith) in
      let begins : counter job (state_after job t) i ≡ place_of program source.at =
      (here_shows job (state_after job t) i (source.gone i) (place_of program source.at)
      (carried.locals i) there
      (carried.pictured.here i lt) (carried.standing.locals_are i low)).0 in
      let ends : counter job (state_after job (t + c)) i ≡ out_of_range job =
      out_shows job (state_after job (t + c)) i ((next program source).gone i)
      (place_of program (next program source).at) number
      (advance.carried.locals i) gone (advance.carried.pictured.here i lt)
      (advance.carried.standing.locals_are i low) in
      let was : counter job (state_after job t) i ≢ out_of_range job =
      λ out. let p = place_low program job of source.at in omega arith in
      let found : Crossing job t c i = crossing job t i c was ends in
      let inside : is_inside (place_of program source.at) (place_of program (source.at + 1))
      (counter job (state_after job (t + found.step)) i) ≡ true =
      ⊎_elim (λ out. absurd (found.was_there out)) (λ inside. inside)
      (advance.stays found.step i found.within low) in
      let named : line.number ≡ number =
      lost_in program line.number line.depth i number line.statement source there
      (sym (ap (λ (s : Source). s.gone i) (next_at program source line is)) ∙ gone) in record {
        before = t + found.step;
        within = let w = found.within in omega arith;
        was_there = found.was_there;
        is_gone = found.is_gone;
        comes = number_at program line_of numbers source.at
            (counter job (state_after job (t + found.step)) i) line is inside ∙ named;
      }

  pub left_after : (n : ℕ) → AreMade program n → (i : ℕ) → i < program.procs → (number : ℕ) →
      (after program n).gone i ≡ Some number → Leaves job line_of (time_of program n) i number
  unfolding after
  left_after zero reached i lt number gone = absurd (none-some number gone)
  left_after (suc n) reached i lt number gone =
      let so_far : AreMade program n = λ earlier low. reached earlier (omega arith) in
      by_made n so_far i lt number gone (λ m e. left_after n so_far i lt m e)
      (reached n (omega arith))
    where
      by_gone : (n i number : ℕ) → (next program (after program n)).gone i ≡ Some number →
          (g : Option ℕ) → (after program n).gone i ≡ g → {u : ℕ} → u ≡ time_of program (suc n) →
          ((m : ℕ) → (after program n).gone i ≡ Some m →
          Leaves job line_of (time_of program n) i m) →
          ((after program n).gone i ≡ None → Leaves job line_of u i number) →
          Leaves job line_of (time_of program (suc n)) i number
      by_gone n i number gone None e later earlier fresh =
          subst (λ u. Leaves job line_of u i number) later (fresh e)
      by_gone n i number gone (Some line) e later earlier fresh =
          let same : line ≡ number = same_Some line number
          (sym (gone_for_good program (after program n) i line e) ∙ gone) in
          leaves_more job line_of (time_of program n) (time_of program (suc n)) i number
          (omega arith)
          (earlier number (e ∙ ap Some same))

      by_made : (n : ℕ) → AreMade program n → (i : ℕ) → i < program.procs → (number : ℕ) →
          (next program (after program n)).gone i ≡ Some number →
          ((m : ℕ) → (after program n).gone i ≡ Some m →
          Leaves job line_of (time_of program n) i m) → IsMade program n →
          Leaves job line_of (time_of program (suc n)) i number
      by_made n so_far i lt number gone before (inl here) =
          let c : Carried program job (after program n) (time_of program n) =
          carried_made program job of n so_far in
          let line = some_line program (after program n).at here.0 in
          let t : ℕ = time_of program n in
          let later : t + cost program (after program n) line.0.depth line.0.statement ≡
          time_of program (suc n) =
          sym (time_next program n line.0 line.1) in
          by_gone n i number gone ((after program n).gone i) refl later before
          (λ there. newly (after program n) t i line.0 c line.1
          (line_carried program job of (after program n) t c line.0 line.1 here.1) lt there number
          gone)
      by_made n so_far i lt number gone before (inr none) =
          subst (λ u. Leaves job line_of u i number) (sym (time_same program n none))
          (before number (sym (ap (λ (s : Source). s.gone i)
          (next_none program (after program n) none)) ∙ gone))
