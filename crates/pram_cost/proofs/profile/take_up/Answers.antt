use Rattle.std.proofs.Common.{set, sym, subst, arith}
use Rattle.pram_machine.specs.Machine.{halted}
use Rattle.std.proofs.Common.{◌≤◌}
use Rattle.pram_cost.specs.declared.profile.Tallied.{Tallied}
use Rattle.pram_cost.specs.Inner.Tallied.{AreTallied}
use Rattle.pram_step.specs.Inner.Passes.{bound}
use Rattle.pram_cost.proofs.Grouping.{group_few}
use Rattle.pram_cost.proofs.Tallying.{now_fits, steps_fit, tallied_group, tallied_stopped, times_fit}
use Rattle.pram_cost.proofs.profile.take_up.Goals as goal

pub overflow_cast-more : goal.overflow_cast-more
overflow_cast-more c =
    let few = group_few c.args.sight.now c.requires.sight c.args.group.from c.args.group
    c.requires.group in
    let procs = c.limits_hold.ensures.procs in omega arith

pub counted-requires-clause-steps : goal.counted-requires-clause-steps
counted-requires-clause-steps c =
    steps_fit c.args.sight.now c.requires.sight c.args.group c.requires.group c.args.rows.now
    c.requires.before (omega arith) (omega arith)

pub counted-requires-clause-executed : goal.counted-requires-clause-executed
counted-requires-clause-executed c =
    times_fit c.args.sight.now c.requires.sight c.args.group c.requires.group c.args.rows.now
    c.requires.before (omega arith) (omega arith)

pub counted-requires-clause-now : goal.counted-requires-clause-now
counted-requires-clause-now c =
    now_fits c.args.sight.now c.requires.sight c.args.group c.requires.group c.args.rows.now
    c.requires.before (omega arith) (omega arith)

pub returns-then-index-rows : goal.returns-then-index-rows
returns-then-index-rows c =
    let sight = c.args.sight.now in
    subst (λ (row : Tallied). AreTallied sight
    (bound sight.job.now sight.running.now c.args.group.end)
    (set c.args.rows.now c.args.group.index row)) (sym c.counted.ensures)
    (tallied_group sight c.requires.sight c.args.group c.requires.group c.args.rows.now
    c.requires.before (omega arith))

pub returns-else-index-rows : goal.returns-else-index-rows
returns-else-index-rows c =
    let sight = c.args.sight.now in
    let count = c.requires.before.count in
    let test = c.if-index-rows.false in
    let past : halted sight.job.now ≤ c.args.group.index = omega arith in
    tallied_stopped sight c.requires.sight c.args.group c.requires.group c.args.rows.now
    c.requires.before past
