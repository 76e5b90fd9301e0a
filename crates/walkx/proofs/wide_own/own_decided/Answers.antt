use Rattle.std.proofs.Common.{Err, sym, ◌∙◌}
use Rattle.std.proofs.lemmas.Option.{slice_get_within}
use Rattle.pram_machine.proofs.Shapes.{instr_is}
use Rattle.pram_machine.specs.Turns.{request_of}
use Rattle.walk_memory.specs.Inner.Posts.{step_of}
use Rattle.walkx.specs.WideParts.{learned}
use Rattle.walkx.proofs.FirstPass.{claimed, decides_first, next_is}
use Rattle.walk_memory.proofs.GoingAlone.{settles_by}
use Rattle.walkx.proofs.Passing.{passed}
use Rattle.walkx.proofs.Settling.{learned_comes}
use Rattle.walkx.proofs.Silent.{where_decides}
use Rattle.walkx.proofs.Turning.{comes_to}
use Rattle.walkx.proofs.wide_own.own_decided.Goals as goal

pub turn_by-turn-requires-clause-counter : goal.turn_by-turn-requires-clause-counter
turn_by-turn-requires-clause-counter g c =
    slice_get_within c.args.leaf.now.job.code c.args.memo.now.own.counter c.args.instr.now
    c.requires.stand.1

pub turn_by-turn-requires-clause-instr : goal.turn_by-turn-requires-clause-instr
turn_by-turn-requires-clause-instr g c =
    instr_is c.args.leaf.now.job c.args.memo.now.own.counter c.args.instr.now
    c.job.ensures.limits.board.limits c.requires.stand.1

pub claim_store-requires-clause-next : goal.claim_store-requires-clause-next
claim_store-requires-clause-next g c =
    let at = c.args.leaf.now in
    let memo = c.args.memo.now in
    let instr = c.args.instr.now in
    let stands = g.S.Steps.stands at in
    let request = request_of c.turn_by-turn.result in
    let r = c.requires.next in
    record {
      from = r.from;
      after = r.next memo;
      next = claimed stands at memo instr r.from r.next request;
      here = decides_first stands at memo instr r.from r.next c.args.steps.now request
          c.turn_by-turn.ensures.value c.requires.none r.after r.here;
    }

pub settle_own-requires-clause-reads : goal.settle_own-requires-clause-reads
settle_own-requires-clause-reads g c =
    next_is c.args.leaf.now.job c.args.memo.now.own c.args.instr.now c.requires.stand.1
    ∙ c.requires.none

pub settle_own-requires-clause-settles : goal.settle_own-requires-clause-settles
settle_own-requires-clause-settles g c =
    let at = c.args.leaf.now in
    c.settles_by-settles.ensures ∙ sym (settles_by at.job c.args.memo.now.own c.args.instr.now
    c.requires.stand.1 (step_of at) c.args.memo.now.settled)

pub settle_own-requires-clause-next : goal.settle_own-requires-clause-next
settle_own-requires-clause-next g c =
    let at = c.args.leaf.now in
    let memo = c.args.memo.now in
    let instr = c.args.instr.now in
    let stands = g.S.Steps.stands at in
    let request = request_of c.turn_by-turn.result in
    let r = c.requires.next in
    record {
      from = r.from;
      after = r.next memo;
      next = λ done. r.next (learned at memo request);
      here = c.in_ok-claim_store.ensures.plays.on r.from (r.next memo)
          (claimed stands at memo instr r.from r.next request)
          (decides_first stands at memo instr r.from r.next c.args.steps.now request
          c.turn_by-turn.ensures.value c.requires.none r.after r.here);
    }

pub take_up-requires-clause-settles : goal.take_up-requires-clause-settles
take_up-requires-clause-settles g c =
    let at = c.args.leaf.now in
    c.settles_by-settles.ensures ∙ sym (settles_by at.job c.args.memo.now.own c.args.instr.now
    c.requires.stand.1 (step_of at) c.args.memo.now.settled)

pub returns-in_err-claim_store-clause-plays : goal.returns-in_err-claim_store-clause-plays
returns-in_err-claim_store-clause-plays g c =
    let at = c.args.leaf.now in
    let memo = c.args.memo.now in
    let instr = c.args.instr.now in
    let stands = g.S.Steps.stands at in
    let request = request_of c.turn_by-turn.result in
    rw (passed c.from_residual.result _ c.from_residual.ensures.1) (record {
      on = λ from late next here. comes_to stands from _ _ _ (learned_comes (Err _) memo late next)
          (c.in_err-claim_store.ensures.plays.on from (next memo)
          (claimed stands at memo instr from next request)
          (decides_first stands at memo instr from next c.args.steps.now request
          c.turn_by-turn.ensures.value c.requires.none late here));
    })

pub returns-in_err-claim_store-clause-idle : goal.returns-in_err-claim_store-clause-idle
returns-in_err-claim_store-clause-idle g c = λ before.
    where_decides c.args.leaf.now c.args.memo.now _ _ _ c.args.instr.now before c.requires.stand.1
    c.requires.none (request_of c.turn_by-turn.result) c.turn_by-turn.ensures.value
    (λ lags none. absurd (let ok = (c.in_err-claim_store.ensures.none none).0 in cc))

pub returns-in_err-settle_own-clause-plays : goal.returns-in_err-settle_own-clause-plays
returns-in_err-settle_own-clause-plays g c =
    let at = c.args.leaf.now in
    let memo = c.args.memo.now in
    let instr = c.args.instr.now in
    let stands = g.S.Steps.stands at in
    let request = request_of c.turn_by-turn.result in
    rw (passed c.from_residual-in_err-settle_own.result _
    c.from_residual-in_err-settle_own.ensures.1) (record {
      on = λ from late next here. comes_to stands from _ _ _ (learned_comes (Err _) memo late next)
          (c.in_err-settle_own.ensures.plays.on from (next memo)
          (λ done. next (learned at memo request))
          (c.in_ok-claim_store.ensures.plays.on from (next memo)
          (claimed stands at memo instr from next request)
          (decides_first stands at memo instr from next c.args.steps.now request
          c.turn_by-turn.ensures.value c.requires.none late here)));
    })

pub returns-in_err-settle_own-clause-idle : goal.returns-in_err-settle_own-clause-idle
returns-in_err-settle_own-clause-idle g c = λ before.
    let at = c.args.leaf.now in
    where_decides at c.args.memo.now _ _ _ c.args.instr.now before c.requires.stand.1
    c.requires.none (request_of c.turn_by-turn.result) c.turn_by-turn.ensures.value
    (λ lags none. absurd (let ok = (c.in_err-settle_own.ensures.none (c.settles_by-settles.ensures
    ∙ sym (settles_by at.job c.args.memo.now.own c.args.instr.now c.requires.stand.1 (step_of at) c.args.memo.now.settled)
    ∙ lags)).0 in cc))

pub returns-clause-plays : goal.returns-clause-plays
returns-clause-plays g c =
    let at = c.args.leaf.now in
    let memo = c.args.memo.now in
    let instr = c.args.instr.now in
    let stands = g.S.Steps.stands at in
    let request = request_of c.turn_by-turn.result in
    rw c.take_up.ensures (record {
      on = λ from late next here.
          c.in_ok-settle_own.ensures.plays.on from (next memo)
          (λ done. next (learned at memo request))
          (c.in_ok-claim_store.ensures.plays.on from (next memo)
          (claimed stands at memo instr from next request)
          (decides_first stands at memo instr from next c.args.steps.now request
          c.turn_by-turn.ensures.value c.requires.none late here));
    })

pub returns-clause-idle : goal.returns-clause-idle
returns-clause-idle g c = λ before.
    let at = c.args.leaf.now in
    where_decides at c.args.memo.now _ _ _ c.args.instr.now before c.requires.stand.1
    c.requires.none (request_of c.turn_by-turn.result) c.turn_by-turn.ensures.value
    (λ lags none. (
      c.take_up.ensures,
      (c.in_ok-settle_own.ensures.none (c.settles_by-settles.ensures
          ∙ sym (settles_by at.job c.args.memo.now.own c.args.instr.now
          c.requires.stand.1 (step_of at) c.args.memo.now.settled)
          ∙ lags)).1 ∙ (c.in_ok-claim_store.ensures.none none).1,
    ))
