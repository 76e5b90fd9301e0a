use Rattle.std.proofs.Common.{◌+◌, ◌≤◌, refl, arith}
use Rattle.walk_memory.proofs.Apart.{gone_next, gone_on_way, gone_rests, gone_start}
use Rattle.walk_memory.proofs.together.go_apart.Goals as goal
use Rattle.walk_memory.proofs.together.go_apart.Goals.{then-not-rests, else-not-rests}

pub loop-k-init : goal.loop-k-init
loop-k-init c = (gone_start c.args.job.now c.args.lanes c.args.block.now, tt)

pub loop-k-preserved : goal.loop-k-preserved
loop-k-preserved c =
    let job = c.args.job.now in
    let lanes = c.args.lanes in
    let k = c.loop-k.k in
    let old = c.args.block.now in
    let block = c.loop-k.block in
    let low : lanes.start ≤ k = omega arith in
    elim c.if-not-rests.branch [
      | then-not-rests w ↦ (
        rw w.block-is (gone_next job lanes k (k + 1) (omega arith) low c.loop-k-test.true old
            w.go_together-load.new.block w.go_on.new.block
            (gone_on_way job lanes k old block w.go_together-load.new.block _ refl refl refl low
            c.loop-k.invariant.0 w.go_together-load.ensures.far)
            w.go_on.ensures.same w.go_on.ensures.others),
        rw w.load-is w.go_together-load.ensures.load,
      )
      | else-not-rests w ↦ (
        rw w.block-is (gone_rests job lanes k (k + 1) (omega arith) low c.loop-k-test.true old block
            c.loop-k.invariant.0 (c.rests.ensures w.if-not-rests.false (lanes.first + k))),
        rw w.load-is c.loop-k.invariant.1,
      )
    ]
