use Rattle.std.proofs.Common.{◌+◌, subst}
use Rattle.pram_cost.specs.Inner.Seen.{IsOfStep}
use Rattle.pram_cost.specs.Meetings.{IsFirstOrNone}
use Rattle.pram_cost.proofs.Repeated.{first_more, first_found_stays, of_found}
use Rattle.pram_cost.proofs.meeting.next.Goals as goal

pub returns-in-Some : goal.returns-in-Some
returns-in-Some c =
    let moment = c.args.moment.now in
    first_found_stays moment.sight.job.now moment.sight.made c.args.sharing c.args.found _ c.in-Some.is
    c.requires.found

pub returns-in-None : goal.returns-in-None
returns-in-None c =
    let moment = c.args.moment.now in
    first_more moment.sight.job.now moment.sight.made moment.sight.state.now c.args.sharing c.least.result
    moment.after.state
    (subst (IsFirstOrNone c.args.sharing moment.sight.job.now moment.sight.made) c.in-None.is
    c.requires.found)
    c.least.ensures.least
    (of_found c.least.result (IsOfStep moment.sight.job.now moment.sight.state.now (moment.sight.made + 1))
    c.least.ensures.step)
