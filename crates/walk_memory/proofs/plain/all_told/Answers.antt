use Rattle.std.proofs.Common.{rules}
use Rattle.walk_memory.proofs.Plainly.{four_entries, told_but}
use Rattle.walk_memory.proofs.plain.all_told.Goals as goal

pub returns : goal.returns
returns c = λ t k from to.
    told_but _ _ c.args.r (four_entries c.args.told.now k (search rules))
    (four_entries c.args.own.now k (search rules))
    (λ other. c.is_told.ensures c.if-not-is_told.false other k from to)
    (λ other. c.is_told-2.ensures c.if-not-is_told-2.false other k from to)
    (λ other. c.is_told-3.ensures c.if-not-is_told-3.false other k from to)
    (λ other. c.is_told-4.ensures t other k from to)
