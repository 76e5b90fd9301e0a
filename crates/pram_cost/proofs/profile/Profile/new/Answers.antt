use Rattle.std.proofs.Common.{sym, subst, ap}
use Rattle.pram_cost.specs.Profiled.{HasProfiled}
use Rattle.pram_job.specs.declared.instr.Instr.{Instr}
use Rattle.std.proofs.Common.{List, length}
use Rattle.pram_cost.proofs.Tallying.{none_profiled}
use Rattle.pram_cost.proofs.profile.Profile.new.Goals as goal

pub returns : goal.returns
returns c = subst (HasProfiled c.args.job.now 0)
    (sym (c.in_ok-rows.ensures.items_if_clones_equal (λ y is. is)))
    (none_profiled c.args.job.now _
    (ap (λ (xs : List Instr). length xs) c.code.ensures.value))
