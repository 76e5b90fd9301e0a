-- What printing the reads of a watch came to, and then its answer.
use Rattle.std.proofs.Common.{◌≡◌, ℕ, List, Option, Result, Ok, Err, IsTrue, false}
use Rattle.std.proofs.Common.{refl, sym, ap, subst, inl, inr, ◌∙◌}
use Rattle.std.specs.Io.KnownBytes.{Appends}
use Rattle.std.specs.Prelude.{◌↔◌, IfOk, IsErrOf, OnOk, ⊤}
use Rattle.pram_step.specs.declared.answer.RunAnswer.{RunAnswer}
use Rattle.pram_streams.specs.Transfer.{AppendsBeginning}
use Rattle.pram_streams.specs.declared.device.Sink as a_sink
use Rattle.pram_streams.specs.declared.print.PrintFault.{PrintFault}
use Rattle.pram_streams.specs.declared.print.PrintFault.TheVariants.{Device, Memory}
use Rattle.stop_plan.specs.Plan.{PlanData}
use Rattle.pram_board.specs.declared.task.Task.{Task}
use Rattle.pram_board.specs.Seats.{SeatData}
use Rattle.pram_run.specs.Heard.{Ended, HasRunWith}
use Rattle.pram_run.specs.Printed.{sights_text}
use Rattle.pram_run.specs.PutReads.{Printing, PutWatch}
use Rattle.pram_run.specs.Watching.{HasWatchedWith, ReadsAndHears}
use Rattle.pram_commands.specs.Did.{Answering, tells}
use Rattle.naming.specs.Writing.{writing}
use Rattle.pram_commands.specs.Inner.Hearing.{HasPrinted}
use Rattle.pram_commands.specs.Inner.Puts.{PutsAnswer, outcome}
use Rattle.pram_commands.specs.Inner.Watching.{HasPrintedAfter, Hearing}
use Rattle.pram_commands.specs.Inner.Watching.{IsWatchedBy, CellReading}
use Rattle.naming.specs.Names.{AreNames, NamingData}
use Rattle.pram_commands.specs.Threads.{TellsSights}
use Rattle.naming.specs.CellNames.{cell_words}
use Rattle.pram_commands.specs.declared.sources.Inputs.{Inputs}
use Rattle.pram_commands.proofs.Doing.{begins_after, begins_front, ok_not_err, put_both, put_failed}
use Rattle.pram_commands.proofs.Doing.{well}
use Rattle.pram_commands.proofs.Ends.{has_sights, job_of}

-- a run with something else beside its workers
ran_with : {Was Is : ℕ → SeatData → Type 0} (task : Task) (plan : PlanData)
    (given later : SeatData) (answer : RunAnswer) (h : HasRunWith Was task plan given later answer) →
    Is h.started h.looker → HasRunWith Is task plan given later answer
ran_with task plan given later answer h beside = record {
  started = h.started;
  most = h.most;
  all = h.all;
  seat = h.seat;
  obeyed = h.obeyed;
  looker = h.looker;
  beside = beside;
  answered = h.answered;
}

-- a watch by one reader is one by another who does more
pub watched_as : {P Q H : Type 0} (task : Task) (plan : PlanData) (given later : SeatData)
    (ended : Ended) (heard : H) (Reads : SeatData → SeatData → P → Type 0) (Hears : Hearing P H)
    (Reads' : SeatData → SeatData → Q → Type 0) (Hears' : Hearing Q H) (of : P → Q) →
    ((before after : SeatData) (p : P) → Reads before after p → Reads' before after (of p)) →
    ((p : P) → Hears p ended heard → Hears' (of p) ended heard) →
    HasWatchedWith task plan given later (ReadsAndHears Reads Hears ended heard) ended →
    HasWatchedWith task plan given later (ReadsAndHears Reads' Hears' ended heard) ended
watched_as task plan given later ended heard Reads Hears Reads' Hears' of reads hears h =
    let by = h.ran.beside in
    record {
      ran = ran_with task plan given later h.answer h.ran (record {
        before = by.before;
        waited = by.waited;
        at_once = by.at_once;
        reader = by.reader;
        reads = record {
          after = of by.reads.after;
          reads = reads by.before by.reader by.reads.after by.reads.reads;
          hears = hears by.reads.after by.reads.hears;
        };
        looks = by.looks;
      });
      answer = h.answer;
      given_if = h.given_if;
    }

-- what a watch tells whose reads were put
pub told_by : {P H : Type 0} (Reads : CellReading P) (Hears : Hearing P H) (inputs : Inputs)
    (cells : List ℕ) (rounds : ℕ) (ended : Ended × H) (a b : Option (List ℕ))
    (printed : Printing) (names : Option NamingData) (by : IsWatchedBy Reads Hears inputs.spelled.job inputs.plan cells rounds ended) →
    (put : PutWatch (cell_words names) by.made.0.task cells rounds by.on.watched.ran.beside.before
    by.on.watched.ran.beside.reader a b printed) →
    TellsSights names inputs.spelled.job inputs.plan cells rounds by.on.watched.answer
    (sights_text (cell_words names) put.sights)
told_by Reads Hears inputs cells rounds ended a b printed names by put =
    let all = by.on.watched in
    let beside = all.ran.beside in
    record {
      sights = put.sights;
      saw = has_sights by.made.0.task inputs.spelled.job cells rounds beside.before put.sights beside.reader
          (job_of inputs.spelled.job inputs.plan by.made by.opened) put.watch;
      ends = record {
        later = by.on.later;
        at_it = record {
          made = by.made;
          opened = by.opened;
          ran = ran_with by.made.0.task inputs.plan by.made.1 by.on.later all.answer all.ran
              (record {
                before = beside.before;
                waited = beside.waited;
                at_once = beside.at_once;
                reader = beside.reader;
                reads = put.watch;
                looks = beside.looks;
              });
        };
      };
      text = refl;
    }

no_device : IsErrOf {T = Unit {0}} (Err Memory) Device → ⊥
no_device is = cc is

no_answer : IsErrOf {T = RunAnswer} (Err Memory) Device → ⊥
no_answer is = cc is

module _ {O : Type 0} (of_out : a_sink.Ghosts O) (inputs : Inputs) (cells : List ℕ) (rounds : ℕ)
    (before mid last : O) (seen names : Option NamingData)
    (are_names : AreNames inputs.spelled.text.items inputs.spelled.job names) where
  abbrev Tells : RunAnswer → List ℕ → Type 0
  Tells = TellsSights seen inputs.spelled.job inputs.plan cells rounds

  abbrev Watches : Result RunAnswer PrintFault → Type 0
  Watches = PutsAnswer (Answering Tells inputs.spelled.text.items inputs.spelled.job) ⊤
      (writing of_out before last) tells

  -- nothing was read
  pub puts_alone : (steps : ℕ) (ended : Ended) (put : Printing)
      (result : Result RunAnswer PrintFault) → OnOk ended ⊥ →
      HasPrinted (writing of_out before last) names steps ended put → of_out.has_failed before ≡ false →
      result ≡ outcome put ended → Watches result
  puts_alone steps (Ok answer) put result never h well_before is = absurd never
  puts_alone steps (Err refused) put result never h well_before is =
      subst Watches (sym (is ∙ ap (λ (x : Printing). outcome x (Err refused)) h.0)) (record {
        done = tt;
        wrote = inl h.1;
        failed = (
          (λ f. absurd (well _ (ap of_out.has_failed h.1 ∙ well_before) f)),
          (λ e. absurd (no_answer e)),
        );
      })

  -- where nothing was written after the reads, a beginning was
  stopped : (answer : RunAnswer) (front : List ℕ) (fault : PrintFault)
      (result : Result RunAnswer PrintFault) → Tells answer front →
      AppendsBeginning (of_out.taken before) (of_out.taken mid) front → last ≡ mid →
      (IsTrue (of_out.has_failed last) ↔ IsErrOf {T = Unit {0}} (Err fault) Device) →
      result ≡ Err fault → Watches result
  stopped answer front fault result told begins unwritten failed is =
      put_failed (Answering Tells inputs.spelled.text.items inputs.spelled.job) ⊤ (writing of_out before last) tells
      result fault is
      (begins_front false Tells inputs.spelled.text.items inputs.spelled.job (writing of_out before last) answer
      front told names are_names
      (subst (λ (o : O). AppendsBeginning (of_out.taken before) (of_out.taken o) front)
      (sym unwritten) begins)) (λ e. inr tt) failed

  -- what was read was put, or a beginning of it; and then the answer
  pub puts_read : (answer : RunAnswer) (front : List ℕ) (steps : ℕ) (printed : Printing)
      (ended : Ended) (put : Printing) (result : Result RunAnswer PrintFault) →
      Tells answer front → IfOk ended (λ found. found ≡ answer) →
      OnOk printed (Appends (of_out.taken before) (of_out.taken mid) front) →
      AppendsBeginning (of_out.taken before) (of_out.taken mid) front →
      (IsTrue (of_out.has_failed mid) ↔ IsErrOf printed Device) → steps ≡ inputs.spelled.job.steps →
      HasPrintedAfter printed (writing of_out mid last) names steps ended put →
      result ≡ outcome put ended → Watches result
  puts_read answer front steps (Err fault) ended put result told same all begins failed count h is =
      stopped answer front fault result told begins h.1
      (subst (λ (o : O). IsTrue (of_out.has_failed o) ↔ IsErrOf {T = Unit {0}} (Err fault) Device)
      (sym h.1) failed) (is ∙ ap (λ (x : Printing). outcome x ended) h.0)
  puts_read answer front steps (Ok done) (Err refused) put result
      told same all begins failed count h is =
      stopped answer front Memory result told begins h.1 (
        (λ f. absurd (ok_not_err done Device
            (failed.0 (subst (λ (o : O). IsTrue (of_out.has_failed o)) h.1 f)))),
        (λ e. absurd (no_device e)),
      ) (is ∙ ap (λ (x : Printing). outcome x (Err refused)) h.0)
  puts_read answer front steps (Ok done) (Ok found) (Ok ended) result
      told same all begins failed count h is =
      subst Watches (sym is)
      (put_both false Tells inputs.spelled.text.items inputs.spelled.job (writing of_out before last) found front
      (subst (λ (a : RunAnswer). Tells a front) (sym same) told) names are_names ⊤ steps
      (of_out.taken mid) count all h.ok h.failed)
  puts_read answer front steps (Ok done) (Ok found) (Err fault) result
      told same all begins failed count h is =
      put_failed (Answering Tells inputs.spelled.text.items inputs.spelled.job) ⊤ (writing of_out before last) tells
      result fault is
      (begins_after false Tells inputs.spelled.text.items inputs.spelled.job (writing of_out before last) found
      front (subst (λ (a : RunAnswer). Tells a front) (sym same) told) names are_names steps
      (of_out.taken mid) count all h.beginning) (λ e. inr tt) h.failed
