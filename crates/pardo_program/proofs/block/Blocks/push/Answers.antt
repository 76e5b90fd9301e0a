use Rattle.std.proofs.Common.{◌+◌, ◌<◌, ◌^◌, reverse, arith, rules}
use Rattle.std.proofs.lemmas.List.{length-reverse}
use Rattle.pardo_program.proofs.Depths.{depth_few}
use Rattle.pardo_program.proofs.block.Blocks.push.Goals as goal

pub overflow_add-self : goal.overflow_add-self
overflow_add-self c =
    let blocks = c.self.inside.blocks in
    let few = depth_few (reverse blocks.items) in
    let same = length-reverse blocks.items in
    let below : c.self.inside.depth + 1 < 2 ^ 64 =
    omega (arith, few, same, c.self.invariant, blocks.ok.0, c.in_ok-push.ensures.len) in
    search rules
