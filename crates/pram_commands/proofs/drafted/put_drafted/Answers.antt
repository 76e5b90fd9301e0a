use Rattle.std.proofs.Common.{◌≡◌, ◌∙◌, ap, rules, subst, sym}
use Rattle.std.specs.Prelude.{IfOk}
use Rattle.pram_job.specs.Job.{JobData}
use Rattle.stop_plan.specs.Plan.{PlanData}
use Rattle.pram_board.specs.Seats.{Desk}
use Rattle.naming.specs.Writing.{writing}
use Rattle.pram_commands.proofs.Hearing.{RunOf, ran_unread_on}
use Rattle.pram_commands.proofs.Uncounted.{ran_drafted}
use Rattle.pram_commands.proofs.drafted.put_drafted.Goals as goal

-- the output's last value is what was handed back
pub returns : goal.returns
returns g c =
    let shared = c.new-shared.result in
    let drafted = c.args.drafted in
    let ended = c.run_at_pace-ended.result in
    let w = writing g.O.Sink c.args.out.now ended.1.0.now in
    let ran = ran_unread_on _ _ shared.job.now shared.plan.now _ _ _ c.run_at_pace-ended.ensures in
    let opened : c.in-Ok-open.board.task.job ≡ c.in-Ok.longer = search rules in
    let job_is : shared.job.now ≡ c.in-Ok.longer =
    sym shared.opened ∙ ap (λ (d : Desk). d.task.job) c.new-shared.ensures.board ∙ opened in
    rw (c.out-1.given.1 (sym ran.1.0) ∙ c.take_back.ensures)
    (ran_drafted c.args.ask.style drafted c.in-Ok.longer w ended.0 ended.1.1 c.in_ok-spelled.spelled
    c.in_ok-spelled.put c.outcome.result
    (subst (λ (p : JobData × PlanData). IfOk ended.0 (RunOf p.0 p.1))
    (λ i. (job_is i, c.new-shared.ensures.plan i)) ran.0) ran.1.1 c.in_ok-spelled.was
    c.outcome.ensures)
