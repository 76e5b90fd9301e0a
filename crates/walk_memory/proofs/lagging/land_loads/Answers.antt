use Rattle.std.proofs.Common.{refl, sym, ◌∙◌, arith}
use Rattle.walk_memory.proofs.lagging.land_loads.Goals as goal

pub returns-clause-there : goal.returns-clause-there
returns-clause-there c = λ k from to.
    c.remember_done.ensures k ∙ c.land_rows.ensures.there k from to

pub returns-clause-before : goal.returns-clause-before
returns-clause-before c = λ k low. c.remember_done.ensures k ∙ c.land_rows.ensures.before k low

pub returns-clause-after : goal.returns-clause-after
returns-clause-after c = λ k high. c.remember_done.ensures k ∙ c.land_rows.ensures.after k high

pub remember_done-requires : goal.remember_done-requires
remember_done-requires c = λ k from to. rw (c.land_rows.ensures.there k from to) (record {
  step = sym c.step.ensures.value;
  settled = sym c.step.ensures.value;
  stored = refl;
  acted = omega (arith, c.phase.ensures.value);
})
