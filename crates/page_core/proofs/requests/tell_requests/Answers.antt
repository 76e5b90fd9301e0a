use Rattle.std.proofs.Common.{arith, ◌≡◌, ◌++◌, List, length, refl, sym, subst, ◌∙◌}
use Rattle.std.proofs.lemmas.List.{take_all}
use Rattle.pram_job.specs.Job.{JobData}
use Rattle.pram_machine.specs.Machine.{State}
use Rattle.pram_step.specs.Arrivals.{IsStepMade}
use Rattle.page_core.specs.declared.requests.RequestRow.{RequestRow}
use Rattle.page_core.specs.Requests.{AreRequestRows, row_in}
use Rattle.page_core.proofs.Buffers.{told_rows}
use Rattle.page_core.proofs.requests.tell_requests.Goals as goal

-- they are copied to the front of a buffer
requests_told : (job : JobData) (before state : State) (asked front rest : List RequestRow) →
    before ≡ state → front ≡ asked → length asked ≡ job.procs → AreRequestRows job before asked →
    AreRequestRows job state (front ++ rest)
requests_told job before state asked front rest is copied each rows =
    subst (λ (s : State). AreRequestRows job s (front ++ rest)) is
    (told_rows (row_in job before) job.procs (length asked) asked front rest (omega arith)
    (copied ∙ sym (take_all (length asked) asked (omega arith))) rows)

pub returns-in-None-clause-requests : goal.returns-in-None-clause-requests
returns-in-None-clause-requests c =
    let job = c.args.reached.job in
    let step = c.args.reached.step in
    let after = c.args.reached.after in
    let asked = c.in_ok-asked.asked in
    let each = c.in_ok-asked.ensures.each in
    let made = subst (IsStepMade job step c.make_step.new.state) c.in-None.is
    c.in_ok-conflict.ensures in (
      refl,
      omega arith,
      c.len-count.ensures ∙ asked.ok.0 ∙ each,
      after.reached,
      made.reached step (omega arith),
      requests_told job c.args.reached.state _ asked.items c.copy_from_slice.new.self _ after.state
          (c.copy_from_slice.ensures.after ∙ c.as_slice.ensures.value) each
          c.in_ok-asked.ensures.rows,
    )

pub returns-clause-requests : goal.returns-clause-requests
returns-clause-requests c =
    let job = c.args.reached.job in
    let step = c.args.reached.step in
    let asked = c.in_ok-asked.asked in
    let each = c.in_ok-asked.ensures.each in
    let made = subst (IsStepMade job step c.make_step.new.state) c.in-Some.is
    c.in_ok-conflict.ensures in (
      made.0,
      made.1,
      c.len-count.ensures ∙ asked.ok.0 ∙ each,
      requests_told job c.args.reached.state _ asked.items c.copy_from_slice.new.self _
          c.args.reached.after.state
          (c.copy_from_slice.ensures.after ∙ c.as_slice.ensures.value) each
          c.in_ok-asked.ensures.rows,
    )
