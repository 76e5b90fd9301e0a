use Rattle.std.proofs.Common.{◌≡◌, ◌++◌, arith, length, subst}
use Rattle.pardo_job.specs.Lines.{no_code}
use Rattle.pardo_job.proofs.LineParts.{idle_count, idle_shallow, idle_step}
use Rattle.pardo_job.proofs.lines.put_idle.Goals as goal

pub overflow_cast-next : goal.overflow_cast-next
overflow_cast-next c = omega (
  arith,
  idle_count _ _ _ c.loop-pad.invariant,
  c.loop-pad.code.ok,
  c.args.code.now.ok,
)

pub overflow_add-next : goal.overflow_add-next
overflow_add-next c = omega (
  arith,
  idle_count _ _ _ c.loop-pad.invariant,
  c.loop-pad.code.ok,
  c.args.code.now.ok,
)

pub loop-pad-preserved : goal.loop-pad-preserved
loop-pad-preserved c = idle_step _ _ _ _ _ c.loop-pad.invariant c.in_ok-put.ensures.all
    (omega (arith, c.loop-pad.code.ok))

pub returns : goal.returns
returns c =
    let e : c.loop-pad._pad ≡ c.args.count = omega arith in
    record {
      all = subst (λ n. c.loop-pad.code.items ≡ c.args.code.now.items ++
          no_code (length c.args.code.now.items) n) e c.loop-pad.invariant;
      shallow = idle_shallow (length c.args.code.now.items) c.args.count;
      fault = tt;
    }
