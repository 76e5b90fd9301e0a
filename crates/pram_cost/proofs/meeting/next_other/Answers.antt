use Rattle.std.proofs.Common.{◌+◌, subst}
use Rattle.pram_cost.specs.declared.meeting.Sharing.TheVariants.{SameWrite}
use Rattle.pram_cost.specs.Meetings.{IsFirstOrNone}
use Rattle.pram_cost.proofs.Repeated.{none_differ}
use Rattle.pram_cost.proofs.meeting.next_other.Goals as goal

pub returns-in-None : goal.returns-in-None
returns-in-None c =
    let moment = c.args.moment.now in
    none_differ moment.sight.job.now (moment.sight.made + 1)
    (subst (IsFirstOrNone SameWrite moment.sight.job.now (moment.sight.made + 1)) c.in-None.is
    c.requires.write)
