use Rattle.std.proofs.Common.{◌≡◌, ◌*◌, ◌+◌, suc, ap, sym, subst, arith}
use Rattle.pram_step.specs.Runs.{AreConflicting}
use Rattle.lawful_walk.specs.Moments.{Sound}
use Rattle.pram_board.specs.Seats.{Desk, HasLoaded}
use Rattle.pram_board.proofs.Memory.{more_loads}
use Rattle.pram_board.proofs.Faults.{still_heard, requests_more, conflicting}
use Rattle.pram_board.proofs.Remembering.{later_loads}
use Rattle.pram_board.proofs.board.Board.asked_fault.Goals as goal

pub loop-processor-preserved : goal.loop-processor-preserved
loop-processor-preserved c =
    let t = c.args.self.now.task in
    let i = c.loop-processor.invariant in
    let n : c.self.inside.task.job.procs ≡ t.job.procs =
    ap (λ (d : Desk). d.task.job.procs) c.self.view_is in
    let thrice : 1 + 3 * c.loop-processor.processor + 3 ≡ 1 + 3 * (c.loop-processor.processor + 1) =
    omega arith in
    record {
      loads = subst (λ n. HasLoaded n c.args.seat.now c.request.new.seat) thrice
          (more_loads (1 + 3 * c.loop-processor.processor) 3
          c.args.seat.now c.loop-processor.seat c.request.new.seat i.loads c.request.ensures.loads);
      requests = λ s heard. requests_more t.job s c.loop-processor.processor
          c.loop-processor.requests.items _ c.request.result (i.requests s heard)
          (c.request.ensures.is s
          (still_heard t (1 + 3 * c.loop-processor.processor) c.args.seat.now c.loop-processor.seat
          (suc s) i.loads heard)) c.push_reserved.ensures.items;
      room = omega arith;
      len = omega arith;
    }

pub fault_of-requires : goal.fault_of-requires
fault_of-requires c =
    let t = c.args.self.now.task in
    let i = c.loop-processor.invariant in
    let n : c.self.inside.task.job.procs ≡ t.job.procs =
    ap (λ (d : Desk). d.task.job.procs) c.self.view_is in
    let sound : Sound t.job t.layout c.args.seat.now.record_of =
    subst (λ (d : Desk). Sound d.task.job d.task.layout c.args.seat.now.record_of)
    c.requires.desk c.facts.ensures in
    let all : AreConflicting t.job c.named-named.result c.loop-processor.requests.items =
    conflicting t c.args.seat.now.record_of c.named-named.result c.loop-processor.processor
    c.loop-processor.requests.items sound c.requires.knows c.named-named.ensures.is
    (omega arith) i.requests in
    let here : AreConflicting c.self.inside.task.job c.named-named.result
    c.loop-processor.requests.items = subst (λ (d : Desk). AreConflicting d.task.job
    c.named-named.result c.loop-processor.requests.items) (sym c.self.view_is) all in
    subst (AreConflicting c.self.inside.task.job c.named-named.result)
    (sym c.as_slice.ensures.value) here

pub returns-clause-later : goal.returns-clause-later
returns-clause-later c =
    let i = c.loop-processor.invariant in
    later_loads _ _ _ _ c.requires.desk i.loads
