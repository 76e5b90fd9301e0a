use Rattle.std.proofs.Common.{refl}
use Rattle.walk_memory.proofs.claim_plain.claim_rows.Goals as goal

pub returns-clause-there : goal.returns-clause-there
returns-clause-there c = λ k from to. rw (
  c.phase_in.ensures.there k from to,
  c.phase.ensures.value,
  c.set_in.ensures.there k from to,
  c.step.ensures.value,
  c.count_in.ensures.there k from to,
  c.so_in.ensures.there k from to,
  c.copy_in.ensures.there k from to,
  c.copy_held.ensures.there k from to,
) refl

pub returns-clause-before : goal.returns-clause-before
returns-clause-before c = λ k low. rw (
  c.phase_in.ensures.before k low,
  c.set_in.ensures.before k low,
  c.count_in.ensures.before k low,
  c.so_in.ensures.before k low,
  c.copy_in.ensures.before k low,
  c.copy_held.ensures.before k low,
) refl

pub returns-clause-after : goal.returns-clause-after
returns-clause-after c = λ k high. rw (
  c.phase_in.ensures.after k high,
  c.set_in.ensures.after k high,
  c.count_in.ensures.after k high,
  c.so_in.ensures.after k high,
  c.copy_in.ensures.after k high,
  c.copy_held.ensures.after k high,
) refl
