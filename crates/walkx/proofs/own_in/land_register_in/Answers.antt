use Rattle.std.proofs.Common.{ℕ, List, length, rules, sym, ap, ◌∙◌}
use Rattle.std.proofs.Math.ListN.{length-set}
use Rattle.walk_memory.specs.Lanes.{entries}
use Rattle.walk_memory.proofs.InLanes.{entry_is}
use Rattle.walk_memory.proofs.Plainly.{four_entries}
use Rattle.walkx.proofs.own_in.land_register_in.Goals as goal

pub write_if-requires-clause-next : goal.write_if-requires-clause-next
write_if-requires-clause-next g c = rw (
  c.register_due_in-due.ensures,
  c.register_place.ensures.value,
  sym (entry_is c.args.block.now.registers c.args.r c.args.landing.lane),
) c.requires.next

pub returns-clause-four : goal.returns-clause-four
returns-clause-four g c =
    let rows = c.args.block.now.told in
    let k = c.args.landing.lane in
    ap (λ (row : List ℕ). length row) c.set_entry.ensures.same
    ∙ length-set (entries rows k) c.args.r _
    ∙ four_entries rows k (search rules)
