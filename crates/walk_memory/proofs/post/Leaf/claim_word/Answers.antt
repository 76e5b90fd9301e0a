use Rattle.std.proofs.Common.{◌≡◌, ◌+◌, subst, sym, arith}
use Rattle.pram_words.specs.Words.{number_of}
use Rattle.pram_words.specs.declared.words.Word.TheVariants.{Claim}
use Rattle.walk_memory.specs.Inner.Posts.{IsCell, PostData}
use Rattle.walk_memory.proofs.ClaimWords.{claim_small}
use Rattle.walk_memory.proofs.post.Leaf.claim_word.Goals as goal

pub overflow_add-result : goal.overflow_add-result
overflow_add-result c =
    let small = claim_small _ _ c.self.invariant.0.leaf.board _ c.self.invariant.1 c.args.cell
    (subst (λ (p : PostData). IsCell p.layout c.args.cell) (sym c.self.view_is) c.requires) in
    omega (arith, small)

pub returns : goal.returns
returns c = subst (λ (p : PostData). c.self.inside.first_claim + c.args.cell
    ≡ number_of p.layout (Claim c.args.cell)) c.self.view_is (sym (c.self.invariant.1 c.args.cell
    (subst (λ (p : PostData). IsCell p.layout c.args.cell) (sym c.self.view_is) c.requires)))
