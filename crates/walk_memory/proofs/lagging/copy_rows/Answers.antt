use Rattle.std.proofs.Common.{sym, ◌∙◌}
use Rattle.walk_memory.specs.Lanes.{entries}
use Rattle.walk_memory.proofs.InLanes.{entry_is}
use Rattle.walk_memory.proofs.Lanes.{four_set}
use Rattle.walk_memory.proofs.Plainly.{four_entries}
use Rattle.walk_memory.proofs.lagging.copy_rows.Goals as goal

pub returns-clause-there : goal.returns-clause-there
returns-clause-there c = λ k from to.
    rw (
      c.put_values-4.ensures.there k from to,
      c.put_values-3.ensures.there k from to,
      c.put_values-2.ensures.there k from to,
      c.put_values.ensures.there k from to,
      sym (entry_is c.args.rows.now 0 k),
      sym (entry_is c.args.rows.now 1 k),
      sym (entry_is c.args.rows.now 2 k),
      sym (entry_is c.args.rows.now 3 k),
    ) (four_set (entries c.args.to.now k) (entries c.args.rows.now k)
    (four_entries c.args.to.now k c.told-to) (four_entries c.args.rows.now k c.told-rows))

pub returns-clause-before : goal.returns-clause-before
returns-clause-before c = λ k low. c.put_values-4.ensures.before k low
    ∙ c.put_values-3.ensures.before k low ∙ c.put_values-2.ensures.before k low
    ∙ c.put_values.ensures.before k low

pub returns-clause-after : goal.returns-clause-after
returns-clause-after c = λ k high. c.put_values-4.ensures.after k high
    ∙ c.put_values-3.ensures.after k high ∙ c.put_values-2.ensures.after k high
    ∙ c.put_values.ensures.after k high
