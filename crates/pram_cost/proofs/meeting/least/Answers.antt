use Rattle.std.proofs.Common.{◌+◌, List, length, ap, arith}
use Rattle.pram_cost.specs.declared.found.Access.{Access}
use Rattle.pram_cost.specs.Inner.Found.{of_kind}
use Rattle.pram_cost.proofs.Finding.{all_of_kind}
use Rattle.pram_cost.proofs.Searching.{searched_all, searched_none}
use Rattle.pram_cost.proofs.meeting.least.Goals as goal

pub loop-k-init : goal.loop-k-init
loop-k-init c =
    let moment = c.args.moment.now in
    let job = moment.sight.job.now in
    let state = moment.sight.state.now in
    let sharing = c.args.sharing in
    searched_none sharing job state (moment.sight.made + 1) (of_kind sharing moment.accesses.now)
    (all_of_kind job state sharing moment.accesses.now moment.found) c.args.marks.now

pub returns-clause-least : goal.returns-clause-least
returns-clause-least c =
    let moment = c.args.moment.now in
    let job = moment.sight.job.now in
    let state = moment.sight.state.now in
    let sharing = c.args.sharing in
    searched_all sharing job state (moment.sight.made + 1) (of_kind sharing moment.accesses.now)
    (all_of_kind job state sharing moment.accesses.now moment.found) c.loop-k.k c.loop-k.marks
    c.loop-k.found
    (omega (arith, ap (λ (xs : List Access). length xs) c.of_kind.ensures)) c.loop-k.invariant
