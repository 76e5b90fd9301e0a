use Rattle.std.proofs.Common.{subst, arith}
use Rattle.pram_cost.specs.Inner.Found.{AreFound}
use Rattle.pram_step.proofs.Passing.{bound_inside, run_next}
use Rattle.pram_cost.proofs.Finding.{found_past}
use Rattle.pram_cost.proofs.found.Accesses.take_each.Goals as goal

pub take_up-requires-clause-before : goal.take_up-requires-clause-before
take_up-requires-clause-before c =
    let sight = c.args.sight.now in
    let inside = c.requires.group.inside in
    subst (λ n. AreFound sight.job.now sight.state.now n c.loop-taken.self)
    (bound_inside sight.job.now sight.state.now sight.running.now c.requires.sight.running
    c.loop-taken.taken (omega arith)) c.loop-taken.invariant

pub loop-taken-preserved : goal.loop-taken-preserved
loop-taken-preserved c =
    let sight = c.args.sight.now in
    let inside = c.requires.group.inside in
    run_next sight.job.now sight.state.now sight.running.now c.requires.sight.running
    (λ n. AreFound sight.job.now sight.state.now n c.take_up.new.self)
    (λ i low past before. found_past sight.job.now sight.state.now i c.take_up.new.self before past)
    c.loop-taken.taken (omega arith) c.in_ok-take_up.ensures
