use Rattle.std.proofs.Common.{◌+◌, ◌≤◌, length, take, get_or, sym, subst, arith}
use Rattle.pram_machine.specs.Machine.{IsStopped}
use Rattle.pram_step.specs.Running.{AreRunningBelow}
use Rattle.pram_step.proofs.Passing.{AreRunningBelow_none, AreRunningBelow_more}
use Rattle.pram_step.proofs.Passing.{AreRunningBelow_stopped}
use Rattle.pram_step.proofs.running.list_running.Goals as goal
use Rattle.pram_step.proofs.running.list_running.Goals.{then-places-counter_place}
use Rattle.pram_step.proofs.running.list_running.Goals.{else-places-counter_place}

pub loop-processor-init : goal.loop-processor-init
loop-processor-init c = record {
  few = omega arith;
  found = AreRunningBelow_none c.args.job.now c.args.places.now c.args.list.now;
}

pub loop-processor-preserved : goal.loop-processor-preserved
loop-processor-preserved c =
    let job = c.args.job.now in
    let places = c.args.places.now in
    let n = c.loop-processor.processor in
    let list = c.loop-processor.list in
    let count = c.loop-processor.count in
    let was = c.loop-processor.invariant.few in
    elim c.if-places-counter_place.branch [
      | then-places-counter_place w ↦
          let e = w.count-is in record {
            few = omega arith;
            found = subst (λ k. AreRunningBelow job places (n + 1)
                (take k c.if-places-counter_place.list)) (sym w.count-is)
                (subst (λ l. AreRunningBelow job places (n + 1) (take (count + 1) l))
                (sym w.list-is)
                (AreRunningBelow_more job places list n count c.loop-processor.invariant.found
                (omega arith)));
          }
      | else-places-counter_place w ↦
          let e = w.count-is in
          let stopped : IsStopped job places n =
          subst (λ k. length job.code ≤ get_or places k 0) c.counter_place.ensures.value
          (subst (λ code. length code ≤ get_or places c.counter_place.result 0)
          c.code.ensures.value w.if-places-counter_place.false) in record {
            few = omega arith;
            found = subst (λ k. AreRunningBelow job places (n + 1)
                (take k c.if-places-counter_place.list)) (sym w.count-is)
                (subst (λ l. AreRunningBelow job places (n + 1) (take count l)) (sym w.list-is)
                (AreRunningBelow_stopped job places list n count c.loop-processor.invariant.found
                stopped));
          }
    ]
