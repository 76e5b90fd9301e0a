use Rattle.std.proofs.Common.{List, arith, subst, sym}
use Rattle.pram_machine.specs.declared.requests.Request.{Request}
use Rattle.pram_step.specs.Runs.{AreConflicting}
use Rattle.pram_world.proofs.Answering.{conflicting, conflict_most, is_conflict}
use Rattle.pram_world.proofs.outcome.conflict.Goals as goal

pub overflow_cast-named : goal.overflow_cast-named
overflow_cast-named c =
    let most = conflict_most c.args.job.now c.args.layout.now c.args.words.now c.requires.stands in
    let steps = c.requires.stands.limits.steps in
    omega arith

pub fault_of-requires : goal.fault_of-requires
fault_of-requires c =
    subst (λ (rs : List Request). AreConflicting c.args.job.now c.glance-named.result.0 rs)
    (sym c.as_slice.ensures.value)
    (conflicting c.args.job.now c.args.layout.now c.args.words.now
    c.in_ok-requests-in-Compact.requests.items _
    c.requires.stands c.requires.some c.in_ok-requests-in-Compact.ensures.are
    c.glance-named.ensures.conflict)

pub replayed-requires : goal.replayed-requires
replayed-requires c = is_conflict c.args.job.now c.args.layout.now c.args.words.now _
    c.requires.stands c.requires.some c.glance-named.ensures.conflict
