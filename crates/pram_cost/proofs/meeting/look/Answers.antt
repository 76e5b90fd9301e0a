use Rattle.std.proofs.Common.{◌+◌, ◌<◌, List, length, set}
use Rattle.std.proofs.Common.{Option, Some, MatchOption, sym, subst}
use Rattle.pram_cost.specs.declared.found.Access.{Access}
use Rattle.pram_cost.specs.declared.meeting.Meeting.{Meeting}
use Rattle.pram_cost.specs.Inner.Found.{access_at, AreAccesses, of_kind}
use Rattle.pram_cost.specs.Inner.Seen.{HasSearched}
use Rattle.pram_cost.specs.Meetings.{access_by}
use Rattle.pram_cost.proofs.Finding.{all_of_kind}
use Rattle.pram_cost.proofs.Searching.{searched_first, searched_alike, searched_later, searched_new}
use Rattle.pram_cost.proofs.meeting.look.Goals as goal
use Rattle.pram_cost.proofs.meeting.look.Goals.{
  in_default-found-via-in-Some-found+else-meeting-cell,
}
use Rattle.pram_cost.proofs.meeting.look.Goals.{in_default-found-via-in_default-found}

-- it is the first that goes to its cell
pub returns-in_default : goal.returns-in_default
returns-in_default c =
    let moment = c.args.moment.now in
    let sharing = c.args.sharing in
    let job = moment.sight.job.now in
    let state = moment.sight.state.now in
    let step = moment.sight.made + 1 in
    let k = c.args.k in
    let same = c.of_kind-accesses.ensures in
    let list = c.of_kind-accesses.result.now in
    let are = subst (AreAccesses job.cells (access_by sharing job state) job.procs) (sym same)
    (all_of_kind job state sharing moment.accesses.now moment.found) in
    let inside = subst (λ (xs : List Access). k < length xs) (sym same) c.requires.access in
    let looked = subst (λ (xs : List Access). HasSearched sharing job state step xs k
    c.args.marks.now c.args.found) (sym same) c.requires.looked in
    subst (λ (xs : List Access). HasSearched sharing job state step xs (k + 1)
    (set c.args.marks.now (access_at list k).cell k) c.args.found) same
    (searched_first sharing job state step list are k c.args.marks.now c.args.found inside
    c.requires.marks looked c.in_default.ensures)

-- it does not meet the first one there
pub returns-then-not-differ : goal.returns-then-not-differ
returns-then-not-differ c =
    let moment = c.args.moment.now in
    let sharing = c.args.sharing in
    let job = moment.sight.job.now in
    let state = moment.sight.state.now in
    let step = moment.sight.made + 1 in
    let k = c.args.k in
    let same = c.of_kind-accesses.ensures in
    let list = c.of_kind-accesses.result.now in
    let are = subst (AreAccesses job.cells (access_by sharing job state) job.procs) (sym same)
    (all_of_kind job state sharing moment.accesses.now moment.found) in
    let inside = subst (λ (xs : List Access). k < length xs) (sym same) c.requires.access in
    let looked = subst (λ (xs : List Access). HasSearched sharing job state step xs k
    c.args.marks.now c.args.found) (sym same) c.requires.looked in
    subst (λ (xs : List Access). HasSearched sharing job state step xs (k + 1) c.args.marks.now
    c.args.found) same
    (searched_alike sharing job state step list are k c.args.marks.now c.args.found inside
    c.requires.marks looked c.in-Some.first c.in-Some.ensures c.if-not-differ.ensures)

-- it does, and two were found to meet at this cell or a lesser one
pub returns-in-Some-found : goal.returns-in-Some-found
returns-in-Some-found c =
    let moment = c.args.moment.now in
    let sharing = c.args.sharing in
    let job = moment.sight.job.now in
    let state = moment.sight.state.now in
    let step = moment.sight.made + 1 in
    let k = c.args.k in
    let same = c.of_kind-accesses.ensures in
    let list = c.of_kind-accesses.result.now in
    let are = subst (AreAccesses job.cells (access_by sharing job state) job.procs) (sym same)
    (all_of_kind job state sharing moment.accesses.now moment.found) in
    let inside = subst (λ (xs : List Access). k < length xs) (sym same) c.requires.access in
    let looked = subst (λ (xs : List Access). HasSearched sharing job state step xs k
    c.args.marks.now c.args.found) (sym same) c.requires.looked in
    subst (λ (found : Option Meeting). HasSearched sharing job state step
    (of_kind sharing moment.accesses.now) (k + 1) c.args.marks.now found) c.in-Some-found.is
    (subst (λ (xs : List Access). HasSearched sharing job state step xs (k + 1) c.args.marks.now
    c.args.found) same
    (searched_later sharing job state step list are k c.args.marks.now c.args.found inside
    c.requires.marks looked c.in-Some.first c.in-Some.ensures c.in-Some-found.meeting
    c.in-Some-found.is c.if-meeting-cell.true))

-- none was found there, or at a lesser cell
pub returns-in_default-found : goal.returns-in_default-found
returns-in_default-found c =
    let moment = c.args.moment.now in
    let sharing = c.args.sharing in
    let job = moment.sight.job.now in
    let state = moment.sight.state.now in
    let step = moment.sight.made + 1 in
    let k = c.args.k in
    let same = c.of_kind-accesses.ensures in
    let list = c.of_kind-accesses.result.now in
    let are = subst (AreAccesses job.cells (access_by sharing job state) job.procs) (sym same)
    (all_of_kind job state sharing moment.accesses.now moment.found) in
    let inside = subst (λ (xs : List Access). k < length xs) (sym same) c.requires.access in
    let looked = subst (λ (xs : List Access). HasSearched sharing job state step xs k
    c.args.marks.now c.args.found) (sym same) c.requires.looked in
    let cell = (access_at list k).cell in
    let new : Meeting = record {
      step = step;
      cell = cell;
      first = c.in-Some.first.processor;
      second = (access_at list k).processor;
      counter = c.counter.result;
    } in
    subst (λ (xs : List Access). HasSearched sharing job state step xs (k + 1) c.args.marks.now
    (Some new)) same
    (searched_new sharing job state step list are k c.args.marks.now c.args.found inside
    c.requires.marks looked c.in-Some.first c.in-Some.ensures c.counter.result
    c.if-not-differ.ensures
    (elim c.in_default-found.branch [
      | in_default-found-via-in-Some-found+else-meeting-cell w ↦
          subst (λ found. MatchOption found (Unit {0}) (λ (d : Meeting). cell < d.cell))
          (sym w.in-Some-found.is) w.if-meeting-cell.false
      | in_default-found-via-in_default-found w ↦
          subst (λ found. MatchOption found (Unit {0}) (λ (d : Meeting). cell < d.cell))
          (sym w.in_default-found.is) tt
    ])
    c.counter.ensures)
