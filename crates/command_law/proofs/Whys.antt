-- What follows the answer of a program, where that is asked for.
use Rattle.std.proofs.Common.{◌≡◌, ◌∙◌, ◌⊎◌, ◌++◌, ℕ, ◌-◌, ◌<◌, List, Option, Some, None, true}
use Rattle.std.proofs.Common.{ap, arith, sym}
use Rattle.std.proofs.Common.{subst, inl, inr}
use Rattle.pram_job.specs.Job.{JobData}
use Rattle.pram_step.specs.declared.answer.RunAnswer.{RunAnswer}
use Rattle.pram_step.specs.declared.answer.RunAnswer.TheVariants.{Final, Conflict, Unfinished}
use Rattle.pram_step.specs.Runs.{IsAnswer, IsReached, state_after}
use Rattle.pram_step.proofs.LawPlaces.{writer_is}
use Rattle.pram_rows.specs.declared.causes.Values.{Values}
use Rattle.pram_rows.specs.Causes.{AreValuesOf, clash_values}
use Rattle.pram_rows.proofs.LawCauses.{clash_written}
use Rattle.pardo_law.specs.Between.{PutsTo}
use Rattle.stop_plan.specs.Plan.{PlanData}
use Rattle.pram_board.specs.Seats.{SeatData}
use Rattle.pardo_answers.specs.Language.{is_program}
use Rattle.naming.specs.Names.{AreNames, NamingData, printed_answer}
use Rattle.pram_commands.specs.Threads.{EndsAt}
use Rattle.pram_commands.specs.Why.{Follows}
use Rattle.command_law.specs.Laws.{IsCutOff, IsProgramsAnswer}
use Rattle.command_law.specs.Programs.{AreClashingValues, IsProgramsJob, IsProgramsWhy}
use Rattle.command_law.specs.Programs.{PlainTellsWhy, RunsTellWhy}
use Rattle.command_law.proofs.Answers.{answer_so, ended_so, told_answer}
use Rattle.command_law.proofs.Fates.{IsKnown, fates_are}
use Rattle.command_law.proofs.Jobs.{no_machines, procs_are, programs_job}

known_answer : (job : JobData) (ended : RunAnswer) → IsAnswer job ended → IsKnown job ended
known_answer job (Final cells) is = is
known_answer job (Conflict fault) is = is
known_answer job (Unfinished step) is = absurd is

-- what a run's end says of its job
known_end : (text : List ℕ) (job : JobData) (plan : PlanData) (later : SeatData)
    (ended : RunAnswer) → EndsAt text job plan later ended → IsKnown job ended
known_end text job plan later (Final cells) at =
    answer_so text job at.most (Final cells) at.enough
    (subst (λ (j : JobData). IsAnswer j (Final cells)) at.opened.1.0 at.ran.answered.told.tells.0)
known_end text job plan later (Conflict fault) at =
    answer_so text job at.most (Conflict fault) at.enough
    (subst (λ (j : JobData). IsAnswer j (Conflict fault)) at.opened.1.0
    at.ran.answered.told.tells.0)
known_end text job plan later (Unfinished step) at =
    let left = at.ran.answered.told.tells in
    let long : IsReached (record job { steps = at.most }) step × (step < at.most) =
    subst (λ (j : JobData). IsReached j step × (step < j.steps)) at.opened.1.0
    (left.reached, left.below) in
    elim at.enough [
      | inl same ↦ subst (λ (n : ℕ). IsReached (record job { steps = n }) step × (step < n)) same
          long
      | inr may ↦ absurd (may.ended tt)
    ]

-- what two that clash ask for they assign in that line
values_are : (text : List ℕ) (job : JobData) (naming : NamingData)
    (is : IsProgramsJob text job naming) (ended : RunAnswer) (told : Option Values) →
    IsKnown job ended → AreValuesOf job ended told →
    AreClashingValues naming is.goes.carries.time ended told
values_are text job naming is (Conflict fault) told known are = (
  clash_values job fault,
  are known,
  λ before n step made low.
      let put = clash_written job fault known in
      let first = known.first in
      let found = first.step in
      let e : fault.step - 1 ≡ before = omega (arith, step) in
      let same : first.before ≡ before = omega (arith, step, found) in
      let reached : IsReached job before = subst (IsReached job) same first.reached in
      let procs = procs_are naming.program job is.made in
      let clash = first.dispute.clash in
      let one = writer_is job (state_after job first.before) fault.cell fault.first clash.value
      clash.writes.1 in
      let two = writer_is job (state_after job first.before) fault.cell fault.second clash.other
      clash.writes_too.1 in (
        is.goes.writes before n fault.cell fault.first (clash_values job fault).first reached made
            (let f = one.0 in omega (arith, f, procs)) low
            (subst (λ (t : ℕ). PutsTo job t fault.cell fault.first (clash_values job fault).first)
            e put.0),
        is.goes.writes before n fault.cell fault.second (clash_values job fault).second reached
            made (let f = two.0 in omega (arith, f, procs)) low
            (subst (λ (t : ℕ). PutsTo job t fault.cell fault.second
            (clash_values job fault).second) e put.1),
      ),
)
values_are text job naming is (Final cells) told known are = are
values_are text job naming is (Unfinished step) told known are = are

module _ (text : List ℕ) (job : JobData) (bytes : List ℕ) (answer : Option RunAnswer)
    (one : is_program text ≡ true) (ended : RunAnswer) (back : List ℕ)
    (gives : answer ≡ Some ended) (Ends : List ℕ → Type 0) (known : IsKnown job ended) where
  by_names : (names : Option NamingData) → AreNames text job names →
      Follows true text names job ended back →
      (front : List ℕ) → Ends front → bytes ≡ front ++ back →
      IsProgramsWhy text job bytes answer Ends
  by_names None is follows front ends prints = no_machines text job one is
  by_names (Some naming) is follows front ends prints =
      let its = programs_job text job naming is in
      let why = follows.0 in
      let found = fates_are text job naming is its ended why.fates known follows.1.fates in record {
        naming = naming;
        is = its;
        ended = ended;
        gives = gives;
        front = front;
        ends = ends;
        why = why;
        end = found.0;
        lost = found.1;
        values = values_are text job naming its ended why.values known follows.1.values;
        rounds = follows.2.0;
        are_rounds = follows.2.1;
        prints = prints ∙ ap (λ (b : List ℕ). front ++ b) follows.2.2;
      }

pub plain_tells_why : PlainTellsWhy
plain_tells_why text job bytes answer one comes =
    by_names text job bytes answer one comes.ended comes.back comes.gives
    (IsProgramsAnswer text job) (known_answer job comes.ended comes.ends) comes.names
    comes.are_names comes.follows (printed_answer comes.names comes.ended job.steps)
    (told_answer text job comes.names comes.ended one comes.are_names comes.ends) comes.prints

pub runs_tell_why : RunsTellWhy
runs_tell_why text job plan workers bytes answer one comes =
    let ends : IsProgramsAnswer text job (printed_answer comes.names comes.ended job.steps)
    ⊎ IsCutOff plan answer = elim (ended_so text job plan comes.ends.0 comes.ended comes.ends.1) [
      | inl answers ↦ inl (told_answer text job comes.names comes.ended one comes.are_names answers)
      | inr cut ↦ inr (subst (λ (a : Option RunAnswer). IsCutOff plan a) (sym comes.gives) cut)
    ] in
    by_names text job bytes answer one comes.ended comes.back comes.gives
    (λ front. IsProgramsAnswer text job front ⊎ IsCutOff plan answer)
    (known_end text job plan comes.ends.0 comes.ended comes.ends.1) comes.names comes.are_names
    comes.follows (printed_answer comes.names comes.ended job.steps) ends comes.prints
