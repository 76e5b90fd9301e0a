use Rattle.std.proofs.Common.{subst}
use Rattle.walk_memory.specs.Inner.Posts.{ClaimsFrom, PostData}
use Rattle.walk_memory.proofs.ClaimWords.{claims_first}
use Rattle.walk_memory.proofs.post.Post.first_claim.Goals as goal

pub returns-in-Priority : goal.returns-in-Priority
returns-in-Priority c = subst (λ (p : PostData). ClaimsFrom p.layout c.claim_word.result)
    c.self.view_is (claims_first _ _ c.self.invariant.board _ c.claim_word.ensures.value)

pub returns-in-Crew : goal.returns-in-Crew
returns-in-Crew c = subst (λ (p : PostData). ClaimsFrom p.layout c.claim_word-in-Crew.result)
    c.self.view_is (claims_first _ _ c.self.invariant.board _ c.claim_word-in-Crew.ensures.value)
