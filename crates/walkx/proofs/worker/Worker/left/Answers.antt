use Rattle.std.proofs.Common.{arith, refl}
use Rattle.walkx.proofs.Workers.{admitted_here, comes_here, memory_here, within_here}
use Rattle.walkx.proofs.worker.Worker.left.Goals as goal

pub play_back-requires-clause-within : goal.play_back-requires-clause-within
play_back-requires-clause-within c =
    within_here c.args.job.now c.args.layout.now c.self.inside.number c.self.inside.node
    c.self.inside.activity c.self.inside.held_op c.self.inside.count c.self.inside.heard
    c.self.inside.memory _ c.args.self.now _ (omega (arith, c.self.invariant)) refl
    c.self.view_is c.post-post.ensures c.requires.playable

pub play_back-requires-clause-memory : goal.play_back-requires-clause-memory
play_back-requires-clause-memory c =
    memory_here c.args.job.now c.args.layout.now c.self.inside.number c.self.inside.node
    c.self.inside.activity c.self.inside.held_op c.self.inside.count c.self.inside.heard
    c.self.inside.memory _ c.args.self.now _ (omega (arith, c.self.invariant)) refl
    c.self.view_is c.post-post.ensures c.requires.playable

pub play_back-requires-clause-admitted : goal.play_back-requires-clause-admitted
play_back-requires-clause-admitted c =
    admitted_here c.args.job.now c.args.layout.now c.self.inside.number c.self.inside.node
    c.self.inside.activity c.self.inside.held_op c.self.inside.count c.self.inside.heard
    c.self.inside.memory _ c.args.self.now _ (omega (arith, c.self.invariant)) refl
    c.self.view_is c.post-post.ensures c.requires.playable

pub returns : goal.returns
returns c =
    comes_here c.args.job.now c.args.layout.now c.self.inside.number c.self.inside.node
    c.self.inside.activity c.self.inside.held_op c.self.inside.count c.self.inside.heard
    c.self.inside.memory _ c.args.self.now _ (omega (arith, c.self.invariant)) refl
    c.self.view_is c.post-post.ensures _ c.play_back.ensures
