use Rattle.std.proofs.Common.{◌+◌, ◌*◌, ◌<◌, subst, sym, arith}
use Rattle.walk_memory.specs.Inner.Posts.{IsPairAt, PostData}
use Rattle.walk_memory.proofs.Boards.{cell_small, own_cell}
use Rattle.walk_memory.proofs.post.Leaf.cell_word.Goals as goal

pub overflow_add-result : goal.overflow_add-result
overflow_add-result c =
    let small = cell_small _ _ _ _ _ _ c.self.invariant.0 c.args.cell
    (subst (λ (p : PostData). c.args.cell < p.job.cells) (sym c.self.view_is) c.requires) in
    omega (arith, small)

pub returns : goal.returns
returns c = subst (λ (p : PostData). IsPairAt p.layout c.args.cell
    (c.self.inside.first_cell + 2 * c.args.cell)) c.self.view_is
    (own_cell _ _ _ _ _ _ c.self.invariant.0 c.args.cell
    (subst (λ (p : PostData). c.args.cell < p.job.cells) (sym c.self.view_is) c.requires))
