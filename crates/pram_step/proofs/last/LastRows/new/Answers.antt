use Rattle.std.proofs.Common.{sym, subst}
use Rattle.pram_step.specs.Last.{AreLast}
use Rattle.pram_step.proofs.Lasts.{none_ran}
use Rattle.pram_step.proofs.last.LastRows.new.Goals as goal

pub returns : goal.returns
returns c = subst (AreLast c.args.job.now 0)
    (sym (c.in_ok-rows.ensures.items_if_clones_equal (λ y is. is)))
    (none_ran c.args.job.now c.procs.result c.procs.ensures.value)
