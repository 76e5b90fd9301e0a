use Rattle.std.proofs.Common.{◌≡◌, ◌+◌, ◌-◌, ◌*◌, ℕ, ap, refl, ◌∙◌, arith}
use Rattle.walk_memory.specs.Inner.Posts.{PostData}
use Rattle.walk_memory.proofs.Apart.{few_ranks}
use Rattle.walk_memory.proofs.Blocks.{block_is}
use Rattle.walk_memory.proofs.Posts.{phase_is}
use Rattle.walk_memory.proofs.memo.Memory.reach.Goals as goal

pub returns : goal.returns
returns c =
    let at = c.args.post.now in
    let memory = c.args.self.now in
    let lanes = c.span_of-lanes.result in
    let first = lanes.first + lanes.start in
    let len = lanes.end - lanes.start in
    let steps : 3 * c.steps.result ≡ 3 * at.job.steps =
    ap (λ (n : ℕ). 3 * n) (c.steps.ensures.value ∙ ap (λ (p : PostData). p.job.steps) c.post.view_is) in
    let all : first + len - first ≡ len = omega arith in
    c.max.ensures
    ∙ rw (c.least_in.ensures, c.from-most.ensures, phase_is c.post.view_is, steps)
    (rw all at (block_is at.job at.layout at.node at.phase len memory c.span_of-lanes.ensures.ranks
    first (first + len) memory (few_ranks at.layout at.node len c.span_of-lanes.ensures.ranks)
    c.span_of-lanes.ensures.start refl refl))
