use Rattle.std.proofs.Common.{refl}
use Rattle.pram_commands.proofs.Doing.{text_put}
use Rattle.pram_commands.proofs.commands.alone.put_job.Goals as goal

pub returns : goal.returns
returns g c = text_put _ _ _ _ c.print_text.result
    (record {
      names = c.args.spelled.now.names;
      are_names = c.requires.names;
      prints = refl;
      gives = refl;
    })
    c.print_text.ensures.ok c.print_text.ensures.beginning c.print_text.ensures.memory
    c.print_text.ensures.failed
