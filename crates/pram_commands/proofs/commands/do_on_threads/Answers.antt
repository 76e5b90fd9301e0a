use Rattle.pram_commands.proofs.Doing.{ended_did}
use Rattle.pram_commands.proofs.commands.do_on_threads.Goals as goal

pub returns-in-Run : goal.returns-in-Run
returns-in-Run g c = rw (c.in-Run.is) (ended_did _ _ _ _ c.run.ensures _ c.ended.ensures)

pub returns-in-Watch : goal.returns-in-Watch
returns-in-Watch g c =
    rw (c.in-Watch.is) (ended_did _ _ _ _ c.watch.ensures _ c.ended-in-Watch.ensures)
