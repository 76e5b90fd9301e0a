use Rattle.std.proofs.Common.{sym, ◌∙◌}
use Rattle.walkx.proofs.Workers.{asks_first, asks_held, asks_some, comes_err, comes_ok, playable}
use Rattle.walkx.proofs.worker.Worker.next_operation.Goals as goal

pub returns-in-Some : goal.returns-in-Some
returns-in-Some c = asks_held c.args.job.now c.args.layout.now c.args.self.now _ c.requires.serves
    (sym c.held_op.ensures ∙ c.in-Some.is)

pub left-requires-clause-playable : goal.left-requires-clause-playable
left-requires-clause-playable c =
    playable c.args.job.now c.args.layout.now _ c.within_limits.ensures c.requires.serves.fits

pub returns-in-Err : goal.returns-in-Err
returns-in-Err c =
    asks_first c.args.job.now c.args.layout.now c.args.self.now _ c.requires.serves
    (sym c.held_op.ensures ∙ c.in-None.is) (comes_err _ _ _ c.in-Err.is c.left.ensures)

pub unreachable-unreachable : goal.unreachable-unreachable
unreachable-unreachable c =
    asks_some c.args.job.now c.args.layout.now c.args.self.now _ c.requires.serves
    (sym c.held_op.ensures ∙ c.in-None.is) (comes_ok _ _ _ c.in-Ok.is c.left.ensures)
