use Rattle.std.proofs.Common.{◌*◌, ◌≤◌, arith}
use Rattle.std.proofs.lemmas.Grind.{div_ceil_times}
use Rattle.std.specs.Int.{div_ceil}
use Rattle.walk_memory.proofs.Lanes.{blank_all, length_all}
use Rattle.walk_memory.proofs.memo.Memory.of.Goals as goal

pub returns-clause-blank : goal.returns-clause-blank
returns-clause-blank c =
    blank_all _ c.at_start-start.result c.in_ok-blocks.blocks.items c.at_start-start.ensures
    (c.in_ok-blocks.ensures.items_if_clones_equal (λ y e. e))

pub returns-clause-most : goal.returns-clause-most
returns-clause-most c =
    let long = length_all c.in_ok-blocks.blocks.items in
    let enough : c.args.procs ≤ div_ceil c.args.procs 64 * 64 =
    (div_ceil_times c.args.procs 64 (omega arith)).0 in
    omega (arith, long, enough, c.in_ok-blocks.ensures.len, c.in_ok-blocks.blocks.ok, c.div_ceil.ensures)
