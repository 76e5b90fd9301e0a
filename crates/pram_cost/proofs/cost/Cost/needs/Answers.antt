use Rattle.std.proofs.Common.{sym, ◌∙◌}
use Rattle.pram_cost.proofs.Needed.{needs_priority, needs_common, needs_crew, needs_erew}
use Rattle.pram_cost.proofs.cost.Cost.needs.Goals as goal

pub returns-then-is_some : goal.returns-then-is_some
returns-then-is_some c = λ job is.
    needs_priority job c.args.self.now.steps c.args.self.now.meetings is.cost_is.first_are
    (sym c.is_some.ensures ∙ c.if-is_some.true)

pub returns-then-is_some-2 : goal.returns-then-is_some-2
returns-then-is_some-2 c = λ job is.
    needs_common job c.args.self.now.steps c.args.self.now.meetings is.cost_is.first_are
    (sym c.is_some.ensures ∙ c.if-is_some.false)
    (sym c.is_some-else-is_some.ensures ∙ c.if-is_some-2.true)

pub returns-then-is_some-3 : goal.returns-then-is_some-3
returns-then-is_some-3 c = λ job is.
    needs_crew job c.args.self.now.steps c.args.self.now.meetings is.cost_is.first_are
    (sym c.is_some.ensures ∙ c.if-is_some.false)
    (sym c.is_some-else-is_some.ensures ∙ c.if-is_some-2.false)
    (sym c.is_some-else-is_some-2.ensures ∙ c.if-is_some-3.true)

pub returns-else-is_some-3 : goal.returns-else-is_some-3
returns-else-is_some-3 c = λ job is.
    needs_erew job c.args.self.now.steps c.args.self.now.meetings is.cost_is.first_are
    (sym c.is_some.ensures ∙ c.if-is_some.false)
    (sym c.is_some-else-is_some.ensures ∙ c.if-is_some-2.false)
    (sym c.is_some-else-is_some-2.ensures ∙ c.if-is_some-3.false)
