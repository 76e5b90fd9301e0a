use Rattle.std.proofs.Common.{refl}
use Rattle.walk_memory.proofs.row_walk.stand_at.Goals as goal

pub returns-clause-there : goal.returns-clause-there
returns-clause-there c = λ k from to. rw (
  c.set_in.ensures.there k from to,
  c.set_in-2.ensures.there k from to,
  c.set_in-3.ensures.there k from to,
  c.so_in.ensures.there k from to,
) refl

pub returns-clause-before : goal.returns-clause-before
returns-clause-before c = λ k low. rw (
  c.set_in.ensures.before k low,
  c.set_in-2.ensures.before k low,
  c.set_in-3.ensures.before k low,
  c.so_in.ensures.before k low,
) refl

pub returns-clause-after : goal.returns-clause-after
returns-clause-after c = λ k high. rw (
  c.set_in.ensures.after k high,
  c.set_in-2.ensures.after k high,
  c.set_in-3.ensures.after k high,
  c.so_in.ensures.after k high,
) refl
