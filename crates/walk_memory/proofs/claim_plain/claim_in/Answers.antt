use Rattle.std.proofs.Common.{◌∙◌}
use Rattle.walk_memory.proofs.claim_plain.claim_in.Goals as goal

pub returns-then-is_of-clause-there : goal.returns-then-is_of-clause-there
returns-then-is_of-clause-there c = λ k from to.
    c.remember.ensures k ∙ c.claim_rows.ensures.there k from to

pub returns-then-is_of-clause-before : goal.returns-then-is_of-clause-before
returns-then-is_of-clause-before c = λ k low.
    c.remember.ensures k ∙ c.claim_rows.ensures.before k low

pub returns-then-is_of-clause-after : goal.returns-then-is_of-clause-after
returns-then-is_of-clause-after c = λ k high.
    c.remember.ensures k ∙ c.claim_rows.ensures.after k high
