use Rattle.std.proofs.Common.{◌≡◌, None, Some, rules}
use Rattle.pram_commands.proofs.Doing.{ended_did}
use Rattle.pram_commands.proofs.commands.do_alone.Goals as goal

pub returns-in-Plain-default-None : goal.returns-in-Plain-default-None
returns-in-Plain-default-None g c =
    let e : c.in-Plain-default-None.model ≡ None = search rules in
    rw (c.in-Plain-default-None.is, e) (ended_did _ _ _ _ c.plain.ensures _ c.ended.ensures)

pub returns-in-Plain-default-Some : goal.returns-in-Plain-default-Some
returns-in-Plain-default-Some g c =
    let e : c.in-Plain-default-Some.model ≡ Some c.in-Plain-default-Some.pram = search rules in
    rw (c.in-Plain-default-Some.is, e) c.under_model-in-Plain-default-Some.ensures

pub returns-in-Steps : goal.returns-in-Steps
returns-in-Steps g c =
    rw c.in-Steps.is (ended_did _ _ _ _ c.steps.ensures _ c.ended-in-Steps.ensures)

pub returns-in-Trace : goal.returns-in-Trace
returns-in-Trace g c =
    rw c.in-Trace.is (ended_did _ _ _ _ c.trace.ensures _ c.ended-in-Trace.ensures)

pub returns-in-Replay : goal.returns-in-Replay
returns-in-Replay g c =
    rw c.in-Replay.is (ended_did _ _ _ _ c.replay.ensures _ c.ended-in-Replay.ensures)
