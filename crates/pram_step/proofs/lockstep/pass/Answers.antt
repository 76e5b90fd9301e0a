use Rattle.std.proofs.Common.{subst, arith}
use Rattle.pram_step.specs.Inner.Passes.{IsPassed}
use Rattle.pram_step.proofs.Applying.{passed_first}
use Rattle.pram_step.proofs.Passing.{bound_past}
use Rattle.pram_step.proofs.lockstep.pass.Goals as goal

pub loop-turns-init : goal.loop-turns-init
loop-turns-init c = record {
  begun = record {
    within = c.requires.running.within;
    rises = c.requires.running.rises;
    places = c.requires.places;
    room = c.requires.asked;
    inside = omega arith;
    few = omega arith;
  };
  passed = passed_first c.args.job.now c.limits_hold.ensures c.args.places.now c.requires.places
      c.args.running.now c.requires.running c.args.asked.now;
}

pub loop-turns-preserved : goal.loop-turns-preserved
loop-turns-preserved c = record {
  begun = c.take_next-turns.ensures.begun;
  passed = c.take_next-turns.ensures.passed c.args.places.now c.requires.places
      c.requires.running c.loop-turns.invariant.passed;
}

pub returns-clause-passed : goal.returns-clause-passed
returns-clause-passed c =
    let job = c.args.job.now in
    let start = c.args.places.now in
    let running = c.args.running.now in
    let e = bound_past job start running c.requires.running c.loop-turns.turns.taken
    (omega arith) in
    subst (λ n. IsPassed job start n c.loop-turns.places c.loop-turns.asked
    c.loop-turns.turns.stores) e c.loop-turns.invariant.passed

pub returns-clause-few : goal.returns-clause-few
returns-clause-few c =
    let e = bound_past c.args.job.now c.args.places.now c.args.running.now c.requires.running
    c.loop-turns.turns.taken (omega arith) in
    let few = c.loop-turns.invariant.begun.few in omega arith
