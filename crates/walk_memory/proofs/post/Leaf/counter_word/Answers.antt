use Rattle.std.proofs.Common.{subst}
use Rattle.pram_machine.specs.Machine.{counter_place}
use Rattle.walk_memory.specs.Inner.Posts.{IsPairAt, PostData, processor_of}
use Rattle.walk_memory.proofs.Boards.{own_counter}
use Rattle.walk_memory.proofs.post.Leaf.counter_word.Goals as goal

pub returns : goal.returns
returns c = subst (λ (p : PostData). IsPairAt p.layout (counter_place p.job (processor_of p))
    c.self.inside.own.counter) c.self.view_is (own_counter _ _ _ _ _ _ c.self.invariant.0)
