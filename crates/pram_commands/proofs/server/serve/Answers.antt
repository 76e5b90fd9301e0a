use Rattle.command_data.specs.declared.line.Ask.TheVariants.{OnThreads}
use Rattle.pram_commands.proofs.Statuses.{served_as}
use Rattle.pram_commands.proofs.server.serve.Goals as goal

pub returns-in-OnThreads : goal.returns-in-OnThreads
returns-in-OnThreads g c = rw c.status_after.ensures.out (served_as _ _ _ (OnThreads c.in-OnThreads.ask)
    c.in-OnThreads.is _ _
    c.do_on_threads-done.ensures c.status_after.ensures.done c.status_after.ensures.told)
