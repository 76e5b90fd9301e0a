use Rattle.std.proofs.Common.{ap, sym}
use Rattle.pram_commands.specs.Did.{ends_with}
use Rattle.pram_commands.proofs.Judged.{answer_put, puts_status, told_beyond}
use Rattle.pram_commands.proofs.commands.under.put_beyond.Goals as goal

pub returns : goal.returns
returns g c =
    puts_status _ _ _ _ (λ told given is. sym (ap ends_with is)) _
    (answer_put _ _ _ _ _
    (told_beyond c.args.read.now.0 c.args.read.now.1 c.args.pram c.args.beyond _ c.requires.costs
    c.requires.beyond c.as_slice.ensures.value)
    c.print_beyond-put.ensures.ok c.print_beyond-put.ensures.beginning
    c.print_beyond-put.ensures.memory c.print_beyond-put.ensures.failed)
    _ c.with_status.ensures
