use Rattle.std.proofs.Common.{subst, sym}
use Rattle.pram_step.specs.Runs.{IsFault}
use Rattle.lawful_walk.proofs.Ending.{conflict_met}
use Rattle.lawful_walk.specs.Moments.{Sound}
use Rattle.lawful_walk.specs.Walks.{IsConflict}
use Rattle.pram_board.specs.Seats.{Desk}
use Rattle.pram_board.proofs.Faults.{named_conflict, fault_met}
use Rattle.pram_board.proofs.Remembering.{later_loads}
use Rattle.pram_board.proofs.board.Board.replayed_fault.Goals as goal

pub unreachable-requires : goal.unreachable-requires
unreachable-requires c =
    let t = c.args.self.now.task in
    let sound : Sound t.job t.layout c.args.seat.now.record_of =
    subst (λ (d : Desk). Sound d.task.job d.task.layout c.args.seat.now.record_of)
    c.requires.desk c.facts.ensures in
    let first : IsConflict t.job c.named-named.result =
    named_conflict t c.args.seat.now.record_of c.named-named.result sound c.requires.knows
    c.named-named.ensures.is in
    let here : IsConflict c.self.inside.task.job c.named-named.result =
    subst (λ (d : Desk). IsConflict d.task.job c.named-named.result) (sym c.self.view_is) first in
    conflict_met c.self.inside.task.job c.named-named.result c.steps.result here
    c.steps.ensures.value c.in_ok-fault.field-0 c.in_ok-fault.ensures c.in-Reached.is

pub returns-clause-fault : goal.returns-clause-fault
returns-clause-fault c =
    let t = c.args.self.now.task in
    let sound : Sound t.job t.layout c.args.seat.now.record_of =
    subst (λ (d : Desk). Sound d.task.job d.task.layout c.args.seat.now.record_of)
    c.requires.desk c.facts.ensures in
    let first : IsConflict t.job c.named-named.result =
    named_conflict t c.args.seat.now.record_of c.named-named.result sound c.requires.knows
    c.named-named.ensures.is in
    let here : IsConflict c.self.inside.task.job c.named-named.result =
    subst (λ (d : Desk). IsConflict d.task.job c.named-named.result) (sym c.self.view_is) first in
    subst (λ (d : Desk). IsFault d.task.job c.in-Disputed.fault) c.self.view_is
    (fault_met c.self.inside.task.job c.named-named.result c.steps.result here
    c.in_ok-fault.field-0 c.in_ok-fault.ensures c.in-Disputed.fault c.in-Disputed.is)

pub returns-clause-later : goal.returns-clause-later
returns-clause-later c =
    later_loads _ _ _ _ c.requires.desk c.named-named.ensures.loads

pub returns-in_err-fault-clause-later : goal.returns-in_err-fault-clause-later
returns-in_err-fault-clause-later c =
    later_loads _ _ _ _ c.requires.desk c.named-named.ensures.loads
