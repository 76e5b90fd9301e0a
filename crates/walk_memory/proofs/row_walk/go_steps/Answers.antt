use Rattle.std.proofs.Common.{arith}
use Rattle.walk_memory.proofs.InLanes.{far_start, far_step, stored_rest}
use Rattle.walk_memory.proofs.row_walk.go_steps.Goals as goal

pub loop-init : goal.loop-init
loop-init c = far_start c.args.job.now c.args.lanes c.args.start c.args.block.now

pub returns-then-at-clause-rest : goal.returns-then-at-clause-rest
returns-then-at-clause-rest c = (
  c.reach_at.ensures,
  stored_rest c.args.job.now c.args.lanes c.loop.at c.loop.block
      (omega (arith, c.if-steps-at.false, c.steps.ensures.value)) c.if-at.true,
)

pub loop-preserved : goal.loop-preserved
loop-preserved c =
    far_step c.args.job.now c.args.lanes c.in-Some.instr.now c.args.start c.loop.at
    c.in-Some-go_by_form.next c.args.block.now c.loop.block c.go_by_form.new.block (
      c.in-Some.ensures,
      omega (
        arith,
        c.if-steps-at.false,
        c.steps.ensures.value,
        c.steps-in-loop.ensures.value,
        c.if-at-steps.false,
      ),
      c.if-at.false,
    ) c.loop.invariant c.in-Some-go_by_form.ensures.all
