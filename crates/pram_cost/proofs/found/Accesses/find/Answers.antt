use Rattle.std.proofs.Common.{refl, subst, arith}
use Rattle.pram_cost.specs.declared.found.Accesses.{Accesses}
use Rattle.pram_cost.specs.Inner.Found.{AreFound}
use Rattle.pram_step.proofs.Passing.{bound_past, run_first}
use Rattle.pram_cost.proofs.Finding.{found_none, found_past}
use Rattle.pram_cost.proofs.found.Accesses.find.Goals as goal

pub loop-taken-init : goal.loop-taken-init
loop-taken-init c =
    let job = c.args.sight.now.job.now in
    let state = c.args.sight.now.state.now in
    let found : Accesses =
    record { running = 0; reads = c.clear.new.self; writes = c.clear-2.new.self } in
    record {
      inside = omega arith;
      found = run_first job state c.args.sight.now.running.now c.requires.running
          (λ n. AreFound job state n found)
          (λ i low past before. found_past job state i found before past)
          (found_none job state found refl c.clear.ensures.items c.clear-2.ensures.items);
    }

pub loop-taken-preserved : goal.loop-taken-preserved
loop-taken-preserved c = record {
  inside = c.group_from-group.ensures.inside;
  found = c.in_ok-take_group.ensures;
}

pub returns : goal.returns
returns c =
    let job = c.args.sight.now.job.now in
    let state = c.args.sight.now.state.now in
    let e = bound_past job state c.args.sight.now.running.now c.requires.running
    c.loop-taken.taken (omega arith) in
    subst (λ n. AreFound job state n c.loop-taken.self) e c.loop-taken.invariant.found
