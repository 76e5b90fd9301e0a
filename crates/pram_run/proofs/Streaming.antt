-- What of a trace a sink took while its steps were made.
use Rattle.std.proofs.Common.{◌≡◌, ℕ, ◌+◌, List, [], ◌++◌, Option, length, refl, sym, ap, subst, ◌∙◌}
use Rattle.std.proofs.Common.{append_assoc, arith, Bool, true, false, ◌≤◌, Result, Ok, Err}
use Rattle.std.proofs.lemmas.List.{append-nil, length-append}
use Rattle.std.proofs.KnownBytes.{Appends-nil, Appends-trans}
use Rattle.std.specs.Io.KnownBytes.{Appends}
use Rattle.std.specs.Prelude.{◌↔◌, IsErrOf, IsTrue, OnErr, codes}
use Rattle.pram_job.specs.Job.{JobData, IsJob}
use Rattle.pram_step.specs.declared.answer.RunAnswer.{RunAnswer}
use Rattle.pram_world.specs.Outcomes.{IsWorldOutcome}
use Rattle.pram_streams.specs.Transfer.{AppendsBeginning}
use Rattle.pram_streams.specs.declared.print.PrintFault.TheVariants.{Device}
use Rattle.pram_streams.proofs.Beginnings.{beginning-after, beginning-longer}
use Rattle.stop_plan.specs.Plan.{PlanData}
use Rattle.pram_run.specs.declared.schedule.Replaying.{Replaying}
use Rattle.pram_run.specs.declared.trace.TraceRow.{TraceRow}
use Rattle.pram_run.specs.Inner.Printing.{PassedOn}
use Rattle.pram_run.specs.Inner.Underway.{Advances, HasCome, HasPrintedRows}
use Rattle.pram_run.specs.Printed.{row_lines, trace_text}
use Rattle.pram_run.specs.Replays.{BeginsReplay, TakesReplay}
use Rattle.pram_run.proofs.Lines.{lines-append}
use Rattle.pram_run.proofs.Whole.{EndsWith, comes_to, ended, whole_replay}

-- the text of some rows, and the lines of those after them
pub text_more : (rows more : List TraceRow) (count : ℕ) → count ≡ length rows →
    trace_text (rows ++ more) ≡ trace_text rows ++ row_lines count more
text_more rows more count is =
    let place : 0 + length rows ≡ count = omega (arith, is) in
    ap (λ l. codes "tick,worker,op,word,before,after\n" ++ l)
    (lines-append 0 rows more ∙ ap (λ n. row_lines 0 rows ++ row_lines n more) place)
    ∙ sym (append_assoc (codes "tick,worker,op,word,before,after\n") (row_lines 0 rows)
    (row_lines count more))

-- a beginning of the text of the first rows is one of the whole trace
pub begins : (job : JobData) (plan : PlanData) (a b : Option (List ℕ)) (rows : List TraceRow) →
    EndsWith job plan rows → AppendsBeginning a b (trace_text rows) → BeginsReplay job plan a b
begins job plan a b rows ends some = record {
  answer = ends.answer;
  trace = rows ++ ends.more;
  is = ends.is;
  prints = subst (λ text. AppendsBeginning a b text)
      (sym (text_more rows ends.more (length rows) refl))
      (beginning-longer a b (trace_text rows) (row_lines (length rows) ends.more) some);
}

-- some replay begins with no step
pub starts_with : (job : JobData) (plan : PlanData) → IsJob job → 1 ≤ plan.workers →
    plan.workers ≤ 64 → EndsWith job plan []
starts_with job plan limits some most =
    let all = whole_replay job plan limits some most in
    record { answer = all.0; more = _; is = all.1 }

-- nothing is a beginning
pub begins_none : (a : Option (List ℕ)) (text : List ℕ) → AppendsBeginning a a text
begins_none a text = ([], refl, Appends-nil a)

pub all_begins : (a b : Option (List ℕ)) (text : List ℕ) → Appends a b text →
    AppendsBeginning a b text
all_begins a b text put =
    subst (λ bytes. AppendsBeginning a b bytes) (append-nil text)
    (beginning-after a b b text [] put (begins_none b []))

-- what holds anyway holds at an error
pub on_err : {X E A : Type 0} → (r : Result X E) → A → OnErr r A
on_err (Ok x) a = tt
on_err (Err e) a = a

-- a sink that has not failed
pub unfailed : {T : Type 0} (failed : Bool) (result : T) →
    (IsTrue failed ↔ IsErrOf {T = T} (Ok result) Device) → failed ≡ false
unfailed true result is = let no = is.0 refl in absurd (cc no)
unfailed false result is = refl

-- what goes on keeps what is printed
pub further_printed : (job : JobData) (plan : PlanData) (before now : Replaying)
    (rows later : List TraceRow) (more : Bool) (count : ℕ) (a b : Option (List ℕ)) →
    Advances before rows now later more → HasPrintedRows job plan before rows count a b →
    HasPrintedRows job plan now later count a b
further_printed job plan before now rows later more count a b goes printed = record {
  gone = printed.gone;
  come = (goes printed.gone job plan printed.come).come;
  counted = printed.counted;
  prints = printed.prints;
}

-- all of the rows that were kept go
pub passed_all : (a b : Option (List ℕ)) (before : ℕ) (rows now kept : List TraceRow) (after : ℕ) →
    now ≡ rows → kept ≡ [] → after ≡ before + length now → Appends a b (row_lines before now) →
    PassedOn a b before rows kept after
passed_all a b before rows now kept after is none count put = record {
  gone = now;
  parts = sym is ∙ sym (append-nil now) ∙ ap (λ xs. now ++ xs) (sym none);
  count = count;
  prints = put;
}

module _ (job : JobData) (plan : PlanData) (now : Replaying) (kept : List TraceRow) (count : ℕ)
    (a b : Option (List ℕ)) (printed : HasPrintedRows job plan now kept count a b) where
  pub begins_printed : BeginsReplay job plan a b
  begins_printed =
      begins job plan a b (printed.gone ++ kept)
      (comes_to job plan now (printed.gone ++ kept) printed.come)
      (subst (λ text. AppendsBeginning a b text) (sym (text_more printed.gone kept count
      printed.counted)) (beginning-longer a b (trace_text printed.gone) (row_lines count kept)
      (all_begins a b (trace_text printed.gone) printed.prints)))

  -- and then a beginning of the lines that are kept
  pub begins_kept : (c : Option (List ℕ)) → AppendsBeginning b c (row_lines count kept) →
      BeginsReplay job plan a c
  begins_kept c some =
      begins job plan a c (printed.gone ++ kept)
      (comes_to job plan now (printed.gone ++ kept) printed.come)
      (subst (λ text. AppendsBeginning a c text) (sym (text_more printed.gone kept count
      printed.counted)) (beginning-after a b c (trace_text printed.gone) (row_lines count kept)
      printed.prints some))

  pub begins_all : (c : Option (List ℕ)) → Appends b c (row_lines count kept) →
      BeginsReplay job plan a c
  begins_all c all = begins_kept c (all_begins b c (row_lines count kept) all)

  -- or all of them
  pub takes_kept : (c : Option (List ℕ)) → Appends b c (row_lines count kept) →
      Appends a c (trace_text (printed.gone ++ kept))
  takes_kept c all =
      subst (λ text. Appends a c text) (sym (text_more printed.gone kept count printed.counted))
      (Appends-trans a b c (trace_text printed.gone) (row_lines count kept) printed.prints all)

  -- the first of them go, and the others are kept
  pub passed_on : (left : List TraceRow) (after : ℕ) (c : Option (List ℕ)) →
      PassedOn b c count kept left after → HasPrintedRows job plan now left after a c
  passed_on left after c passed =
      let split : printed.gone ++ kept ≡ (printed.gone ++ passed.gone) ++ left =
      ap (λ rows. printed.gone ++ rows) passed.parts
      ∙ sym (append_assoc printed.gone passed.gone left) in
      record {
        gone = printed.gone ++ passed.gone;
        come = subst (λ (rows : List TraceRow). HasCome job plan now rows) split printed.come;
        counted = omega (
          arith,
          printed.counted,
          passed.count,
          length-append printed.gone passed.gone,
        );
        prints = subst (λ text. Appends a c text)
            (sym (text_more printed.gone passed.gone count printed.counted))
            (Appends-trans a b c (trace_text printed.gone) (row_lines count passed.gone)
            printed.prints passed.prints);
      }

-- all of it is printed, and the answer is told
pub takes_all : (job : JobData) (plan : PlanData) (before now : Replaying)
    (rows later : List TraceRow) (more : Bool) (count : ℕ) (a b c : Option (List ℕ))
    (answer : RunAnswer) → Advances before rows now later more → more ≡ false →
    HasPrintedRows job plan before rows count a b → Appends b c (row_lines count later) →
    IsWorldOutcome now.world answer → TakesReplay job plan a c answer
takes_all job plan before now rows later more count a b c answer goes over printed put outcome =
    let far = goes printed.gone job plan printed.come in
    let all : HasPrintedRows job plan now later count a b =
    record {
      gone = printed.gone;
      come = far.come;
      counted = printed.counted;
      prints = printed.prints;
    } in
    record {
      trace = printed.gone ++ later;
      is = ended job plan now (printed.gone ++ later) answer far.come (far.over over) outcome;
      prints = takes_kept job plan now later count a b all c put;
    }
