use Rattle.std.proofs.Common.{subst, sym, suc, lit<, arith}
use Rattle.walk_memory.specs.Inner.Posts.{IsLeafPost, PostData, at_rank}
use Rattle.walk_memory.specs.Blocks.{IsWide}
use Rattle.walk_memory.proofs.Boards.{next_leaf, own_counter, own_register}
use Rattle.walk_memory.proofs.post.Leaf.next.Goals as goal

pub overflow_add-result-3 : goal.overflow_add-result-3
overflow_add-result-3 c =
    let further = next_leaf _ _ _ _ _ _
    (subst (λ (p : PostData). IsWide p.layout.form) (sym c.self.view_is) c.requires.wide)
    c.self.invariant.0
    (subst (λ (p : PostData). IsLeafPost (at_rank p (suc p.rank))) (sym c.self.view_is)
    c.requires.leaf) in
    let small = (own_counter _ _ _ _ _ _ further).below in
    omega (arith, small)

pub overflow_add-result-4 : goal.overflow_add-result-4
overflow_add-result-4 c =
    let further = next_leaf _ _ _ _ _ _
    (subst (λ (p : PostData). IsWide p.layout.form) (sym c.self.view_is) c.requires.wide)
    c.self.invariant.0
    (subst (λ (p : PostData). IsLeafPost (at_rank p (suc p.rank))) (sym c.self.view_is)
    c.requires.leaf) in
    let small = (own_register _ _ _ _ _ _ further 0 (lit< tt)).below in
    omega (arith, small)

pub invariant_of-result : goal.invariant_of-result
invariant_of-result c = (
  next_leaf _ _ _ _ _ _
      (subst (λ (p : PostData). IsWide p.layout.form) (sym c.self.view_is) c.requires.wide)
      c.self.invariant.0
      (subst (λ (p : PostData). IsLeafPost (at_rank p (suc p.rank))) (sym c.self.view_is)
      c.requires.leaf),
  c.self.invariant.1,
)
