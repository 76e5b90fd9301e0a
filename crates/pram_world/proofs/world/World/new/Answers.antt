use Rattle.std.proofs.Common.{◌≡◌, subst, ap, arith}
use Rattle.pram_job.specs.Job.{IsJob}
use Rattle.pram_words.specs.Words.{LayoutData}
use Rattle.pram_world.proofs.Bodies.{start_is_world}
use Rattle.pram_world.proofs.world.World.new.Goals as goal

pub invariant_of-result : goal.invariant_of-result
invariant_of-result c =
    let same : c.new-layout.result.workers ≡ c.args.workers =
    ap (λ (y : LayoutData). y.workers) c.new-layout.ensures.value in
    start_is_world _ _ c.args.workers _ _
    (subst IsJob c.job.view_is c.job.invariant) c.requires.some
    c.requires.most c.new-layout.ensures.value c.in_ok-words.ensures c.in_ok-bodies.ensures.bodies
    (c.in_ok-bodies.ensures.serve c.in_ok-job.job c.new-layout.result (omega arith))
