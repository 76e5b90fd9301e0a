use Rattle.std.proofs.Common.{◌≡◌, ◌∙◌, ◌+◌, ◌-◌, Bool, cond, ap, arith, refl}
use Rattle.std.specs.Int.{from_bool}
use Rattle.std.specs.List.{range_with_len}
use Rattle.std.specs.Prelude.{count_by}
use Rattle.pardo_answers.specs.Traces.{takes_part}
use Rattle.pardo_answers.proofs.Counting.{as_one, count_more, one_at_most}
use Rattle.pardo_answers.proofs.tracer.count_active.Goals as goal

pub loop-processor-preserved : goal.loop-processor-preserved
loop-processor-preserved c =
    let job = c.args.moment.now.job.now in
    let p = takes_part c.args.program.now job c.args.moment.now.state.now c.args.depth in
    let i = c.loop-processor.processor in
    let one : c.from-count.result ≡ cond (p i) 1 0 = c.from-count.ensures
    ∙ ap (λ (b : Bool). from_bool b) c.takes_part.ensures ∙ as_one (p i) in
    let small = one_at_most (p i) in
    let fewer : job.procs - i ≡ job.procs - (i + 1) + 1 = omega arith in
    record {
      so_far = count_more p c.loop-processor.count c.from-count.result
          (c.loop-processor.count + c.from-count.result)
          (count_by p (range_with_len 0 job.procs)) i (job.procs - i) (i + 1)
          (job.procs - (i + 1)) refl fewer one refl c.loop-processor.invariant.so_far;
      few = omega (arith, one, small, c.loop-processor.invariant.few);
    }
