use Rattle.std.proofs.Common.{arith, subst}
use Rattle.pram_cost.specs.Inner.Tallied.{AreTallied}
use Rattle.pram_step.proofs.Passing.{bound_past, run_first}
use Rattle.pram_cost.proofs.Tallying.{tallied_all, tallied_none, tallied_past}
use Rattle.pram_cost.proofs.profile.count.Goals as goal

pub loop-taken-init : goal.loop-taken-init
loop-taken-init c =
    let sight = c.args.sight.now in
    record {
      inside = omega arith;
      tallied = run_first sight.job.now sight.state.now sight.running.now c.requires.sight.running
          (λ n. AreTallied sight n c.args.rows.now)
          (λ i low past before. tallied_past sight c.requires.sight i _ before past)
          (tallied_none sight c.requires.sight c.args.rows.now c.requires.before);
    }

pub loop-taken-preserved : goal.loop-taken-preserved
loop-taken-preserved c = record {
  inside = c.group_from-group.ensures.inside;
  tallied = c.take_up.ensures;
}

pub returns : goal.returns
returns c =
    let sight = c.args.sight.now in
    tallied_all sight c.requires.sight c.loop-taken.rows
    (subst (λ n. AreTallied sight n c.loop-taken.rows)
    (bound_past sight.job.now sight.state.now sight.running.now c.requires.sight.running
    c.loop-taken.taken (omega arith)) c.loop-taken.invariant.tallied)
