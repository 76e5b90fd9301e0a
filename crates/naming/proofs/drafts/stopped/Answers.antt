use Rattle.std.proofs.Common.{ℕ, List, subst, sym}
use Rattle.pram_step.specs.Runs.{IsAnswer}
use Rattle.pram_step.specs.declared.answer.RunAnswer.TheVariants.{Final}
use Rattle.naming.proofs.Stopping.{stopped_names}
use Rattle.naming.proofs.drafts.stopped.Goals as goal

pub returns-clause-counted : goal.returns-clause-counted
returns-clause-counted c =
    let longer = c.args.stop.longer.now in
    let answer = subst (λ (cells : List ℕ). IsAnswer longer (Final cells)) (sym c.new.ensures)
    c.requires.answer in
    stopped_names c.args.text.now c.args.draft c.requires.drafted longer c.args.stop.step
    c.new.result (record { gone = c.new-gone.result; disputed = 0 }) c.with_steps-job.result
    c.requires.longer c.requires.stops answer c.limits_hold.ensures c.with_steps-job.ensures
    c.new-gone.ensures.items
