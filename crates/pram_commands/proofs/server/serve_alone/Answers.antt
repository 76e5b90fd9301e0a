use Rattle.command_data.specs.declared.line.Ask.TheVariants.{Alone}
use Rattle.pram_commands.proofs.Statuses.{served_as}
use Rattle.pram_commands.proofs.server.serve_alone.Goals as goal

pub returns : goal.returns
returns g c = rw c.status_after.ensures.out (served_as _ _ _ (Alone c.args.ask) c.requires.alone _ _
    c.do_alone-done.ensures c.status_after.ensures.done c.status_after.ensures.told)
