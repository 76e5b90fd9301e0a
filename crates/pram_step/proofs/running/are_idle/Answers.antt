use Rattle.std.proofs.Common.{◌≡◌, true, ◌+◌, get_or, sym, ap, ◌∙◌, arith}
use Rattle.std.specs.Prelude.{slice_index}
use Rattle.std.proofs.lemmas.Bool.{OnTrue_from}
use Rattle.pram_machine.specs.declared.requests.Request.{Request}
use Rattle.pram_machine.specs.Machine.{counter_place}
use Rattle.pram_step.specs.Inner.Passes.{AllIdle}
use Rattle.pram_step.proofs.Applying.{idle_first, idle_next}
use Rattle.pram_step.proofs.Passing.{bound_past, listed_below}
use Rattle.pram_step.proofs.Passing.{request_idle}
use Rattle.pram_step.proofs.running.are_idle.Goals as goal

pub loop-processor-init : goal.loop-processor-init
loop-processor-init c = record {
  idle = idle_first c.args.job.now c.limits_hold.ensures c.args.places.now c.requires.places
      c.args.running.now c.requires.running;
}

pub request_in-requires-clause-processor : goal.request_in-requires-clause-processor
request_in-requires-clause-processor c =
    listed_below c.args.job.now c.args.places.now c.args.running.now c.requires.running
    c.loop-processor.processor-index (omega arith)

pub loop-processor-preserved : goal.loop-processor-preserved
loop-processor-preserved c =
    let job = c.args.job.now in
    let places = c.args.places.now in
    let running = c.args.running.now in
    let k = c.loop-processor.processor-index in
    let p = get_or running k 0 in
    let at : c.counters_at-counters.result + p ≡ counter_place job p = omega arith in
    record {
      idle = idle_next job c.limits_hold.ensures places c.requires.places running
          c.requires.running k (omega arith) c.loop-processor.invariant.idle
          (request_idle job places p (ap (λ (r : Request). r.next) (sym c.request_in.ensures)
          ∙ c.if-request_in-places.false ∙ ap (slice_index places) at));
    }

pub returns : goal.returns
returns c = OnTrue_from true (AllIdle c.args.job.now c.args.places.now) (λ yes i low.
    let e = bound_past c.args.job.now c.args.places.now c.args.running.now c.requires.running
    c.loop-processor.processor-index (omega arith) in
    c.loop-processor.invariant.idle i (omega arith))
