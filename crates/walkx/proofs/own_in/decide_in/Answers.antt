use Rattle.std.proofs.Common.{◌≡◌, Err, Some, None, true, false, refl, sym, ap, ◌∙◌}
use Rattle.pram_machine.specs.declared.requests.Request.{Request}
use Rattle.pram_machine.specs.Turns.{request_of}
use Rattle.walk_memory.specs.declared.memo.Memo.{Memo}
use Rattle.walk_memory.specs.declared.memo.Own.{Own}
use Rattle.walk_memory.specs.Inner.Posts.{processor_of, step_of}
use Rattle.walk_memory.specs.Lanes.{lane}
use Rattle.walk_memory.specs.Memory.{asked_by, settles_in}
use Rattle.walkx.specs.Places.{tells_all}
use Rattle.walkx.specs.WideParts.{asked_with, learned}
use Rattle.walkx.proofs.FirstPass.{claimed, decides_first, next_is}
use Rattle.walk_memory.proofs.GoingAlone.{settles_by}
use Rattle.walkx.proofs.Landing.{quiet_taken, settled_landed}
use Rattle.walkx.proofs.Passing.{passed}
use Rattle.walkx.proofs.Placed.{lags_written, ok_learns, turned_quiet, turned_settled}
use Rattle.walkx.proofs.Settling.{learned_comes}
use Rattle.walkx.proofs.Silent.{where_decides}
use Rattle.walkx.proofs.TakingUp.{own_idle, own_next, own_plays}
use Rattle.walkx.proofs.Turning.{comes_to, moved}
use Rattle.walkx.proofs.own_in.decide_in.Goals as goal

pub claim_store-requires-clause-next : goal.claim_store-requires-clause-next
claim_store-requires-clause-next g c =
    let at = c.args.leaf.now in
    let memo = lane c.args.block.now c.args.k in
    let instr = c.args.instr.now in
    let s = c.requires.stands in
    let stands = g.S.Steps.stands at in
    let request : Request = request_of c.turn_by-turn.result in
    let asks : request ≡ asked_with at memo (Some instr) 0 = c.turn_by-turn.ensures.value
    ∙ ap (λ (o : Own). asked_by at.job (processor_of at) o (Some instr) 0) c.own.ensures in
    let r = own_next at memo instr s.first s.before s.code stands c.args.steps.now
    c.requires.next in
    record {
      from = r.from;
      after = r.next memo;
      next = claimed stands at memo instr r.from r.next request;
      here = decides_first stands at memo instr r.from r.next c.args.steps.now request asks
          c.requires.none r.after r.here;
    }

pub returns-in_err-claim_store-clause-idle : goal.returns-in_err-claim_store-clause-idle
returns-in_err-claim_store-clause-idle g c =
    let at = c.args.leaf.now in
    let memo = lane c.args.block.now c.args.k in
    let instr = c.args.instr.now in
    let s = c.requires.stands in
    let stands = g.S.Steps.stands at in
    let request : Request = request_of c.turn_by-turn.result in
    let asks : request ≡ asked_with at memo (Some instr) 0 = c.turn_by-turn.ensures.value
    ∙ ap (λ (o : Own). asked_by at.job (processor_of at) o (Some instr) 0) c.own.ensures in
    own_idle at memo instr s.first s.before s.code _ _ _
    (where_decides at memo _ _ _ instr s.before s.code c.requires.none request asks
    (λ lags none. absurd (let ok = (c.in_err-claim_store.ensures.none none).0 in cc)))

pub returns-in_err-claim_store-clause-done : goal.returns-in_err-claim_store-clause-done
returns-in_err-claim_store-clause-done g c =
    let at = c.args.leaf.now in
    let memo = lane c.args.block.now c.args.k in
    let instr = c.args.instr.now in
    let s = c.requires.stands in
    let stands = g.S.Steps.stands at in
    let request : Request = request_of c.turn_by-turn.result in
    let asks : request ≡ asked_with at memo (Some instr) 0 = c.turn_by-turn.ensures.value
    ∙ ap (λ (o : Own). asked_by at.job (processor_of at) o (Some instr) 0) c.own.ensures in
    rw (passed c.from_residual.result _ c.from_residual.ensures.1) (record {
      others = λ j other. refl;
      plays = own_plays at memo instr s.first s.before s.code stands _ _ _ (record {
        on = λ from late next here. comes_to stands from _ _ _
            (learned_comes (Err _) memo late next)
            (c.in_err-claim_store.ensures.plays.on from (next memo)
            (claimed stands at memo instr from next request)
            (decides_first stands at memo instr from next c.args.steps.now request asks
            c.requires.none late here));
      });
    })

pub land_in-requires : goal.land_in-requires
land_in-requires g c =
    let at = c.args.leaf.now in
    let memo = lane c.args.block.now c.args.k in
    let instr = c.args.instr.now in
    let s = c.requires.stands in
    let stands = g.S.Steps.stands at in
    let request : Request = request_of c.turn_by-turn.result in
    let asks : request ≡ asked_with at memo (Some instr) 0 = c.turn_by-turn.ensures.value
    ∙ ap (λ (o : Own). asked_by at.job (processor_of at) o (Some instr) 0) c.own.ensures in
    let r = own_next at memo instr s.first s.before s.code stands c.args.steps.now
    c.requires.next in
    let taken = lane c.take_turn.new.block c.args.k in
    let settles : settles_in at.job (step_of at) memo.settled memo.own ≡ true =
    settles_by at.job memo.own instr s.code (step_of at) memo.settled
    ∙ sym c.settles_by-settles.ensures ∙ c.if-settles.true in
    let quiet = quiet_taken at memo request taken
    (ap (λ (m : Memo). m.own) c.take_turn.ensures.same)
    (ap (λ (m : Memo). m.told) c.take_turn.ensures.same)
    (next_is at.job memo.own instr s.code ∙ c.requires.none) in
    let then = r.next (learned at memo request) in
    record {
      next = record {
        from = r.from;
        after = r.after;
        next = λ done. then;
        here = moved stands r.from _ _ _
            (settled_landed at memo request taken None quiet r.after (r.next memo)
            (λ done. then) settles) (c.in_ok-claim_store.ensures.plays.on r.from (r.next memo)
            (claimed stands at memo instr r.from r.next request)
            (decides_first stands at memo instr r.from r.next c.args.steps.now request asks
            c.requires.none r.after r.here));
      };
    }

pub returns-then-settles-clause-idle : goal.returns-then-settles-clause-idle
returns-then-settles-clause-idle g c =
    let at = c.args.leaf.now in
    let memo = lane c.args.block.now c.args.k in
    let instr = c.args.instr.now in
    let s = c.requires.stands in
    let stands = g.S.Steps.stands at in
    let request : Request = request_of c.turn_by-turn.result in
    let asks : request ≡ asked_with at memo (Some instr) 0 = c.turn_by-turn.ensures.value
    ∙ ap (λ (o : Own). asked_by at.job (processor_of at) o (Some instr) 0) c.own.ensures in
    let settles : settles_in at.job (step_of at) memo.settled memo.own ≡ true =
    settles_by at.job memo.own instr s.code (step_of at) memo.settled
    ∙ sym c.settles_by-settles.ensures ∙ c.if-settles.true in
    own_idle at memo instr s.first s.before s.code _ _ _
    (where_decides at memo _ _ _ instr s.before s.code c.requires.none request asks
    (λ lags none. absurd (let e = sym settles ∙ lags in cc)))

pub returns-then-settles-clause-done : goal.returns-then-settles-clause-done
returns-then-settles-clause-done g c =
    let at = c.args.leaf.now in
    let memo = lane c.args.block.now c.args.k in
    let instr = c.args.instr.now in
    let s = c.requires.stands in
    let stands = g.S.Steps.stands at in
    let request : Request = request_of c.turn_by-turn.result in
    let asks : request ≡ asked_with at memo (Some instr) 0 = c.turn_by-turn.ensures.value
    ∙ ap (λ (o : Own). asked_by at.job (processor_of at) o (Some instr) 0) c.own.ensures in
    let taken = lane c.take_turn.new.block c.args.k in
    let settles : settles_in at.job (step_of at) memo.settled memo.own ≡ true =
    settles_by at.job memo.own instr s.code (step_of at) memo.settled
    ∙ sym c.settles_by-settles.ensures ∙ c.if-settles.true in
    let quiet = quiet_taken at memo request taken
    (ap (λ (m : Memo). m.own) c.take_turn.ensures.same)
    (ap (λ (m : Memo). m.told) c.take_turn.ensures.same)
    (next_is at.job memo.own instr s.code ∙ c.requires.none) in
    let now = lane c.land_in.new.block c.args.k in
    let known = learned at memo request in
    let told : tells_all taken ≡ known =
    ap tells_all c.take_turn.ensures.same ∙ turned_settled at memo request s.first settles in
    record {
      others = λ j other. c.land_in.ensures.others j other ∙ c.take_turn.ensures.others j other;
      plays = own_plays at memo instr s.first s.before s.code stands _ _ _ (record {
        on = λ from late next here. comes_to stands from _ _ _
            (ok_learns c.land_in.result now (tells_all taken) known c.land_in.ensures.told
            told late next) (c.land_in.ensures.plays.on from (next now) (λ done. next known)
            (moved stands from _ _ _ (settled_landed at memo request taken None quiet (next now)
            (next memo) (λ done. next known) settles)
            (c.in_ok-claim_store.ensures.plays.on from (next memo)
            (claimed stands at memo instr from next request)
            (decides_first stands at memo instr from next c.args.steps.now request asks
            c.requires.none late here))));
      });
    }

pub returns-else-settles-clause-idle : goal.returns-else-settles-clause-idle
returns-else-settles-clause-idle g c =
    let at = c.args.leaf.now in
    let memo = lane c.args.block.now c.args.k in
    let instr = c.args.instr.now in
    let s = c.requires.stands in
    let stands = g.S.Steps.stands at in
    let request : Request = request_of c.turn_by-turn.result in
    let asks : request ≡ asked_with at memo (Some instr) 0 = c.turn_by-turn.ensures.value
    ∙ ap (λ (o : Own). asked_by at.job (processor_of at) o (Some instr) 0) c.own.ensures in
    own_idle at memo instr s.first s.before s.code _ _ _
    (where_decides at memo _ _ _ instr s.before s.code c.requires.none request asks
    (λ lags none. (
      c.take_turn.ensures.same ∙ turned_quiet at memo request s.first lags,
      (c.in_ok-claim_store.ensures.none none).1,
    )))

pub returns-else-settles-clause-done : goal.returns-else-settles-clause-done
returns-else-settles-clause-done g c =
    let at = c.args.leaf.now in
    let memo = lane c.args.block.now c.args.k in
    let instr = c.args.instr.now in
    let s = c.requires.stands in
    let stands = g.S.Steps.stands at in
    let request : Request = request_of c.turn_by-turn.result in
    let asks : request ≡ asked_with at memo (Some instr) 0 = c.turn_by-turn.ensures.value
    ∙ ap (λ (o : Own). asked_by at.job (processor_of at) o (Some instr) 0) c.own.ensures in
    let taken = lane c.take_turn.new.block c.args.k in
    let lags : settles_in at.job (step_of at) memo.settled memo.own ≡ false =
    settles_by at.job memo.own instr s.code (step_of at) memo.settled
    ∙ sym c.settles_by-settles.ensures ∙ c.if-settles.false in
    let known = learned at memo request in
    let is : taken ≡ known = c.take_turn.ensures.same ∙ turned_quiet at memo request s.first lags in
    record {
      others = c.take_turn.ensures.others;
      plays = own_plays at memo instr s.first s.before s.code stands _ _ _ (record {
        on = λ from late next here. moved stands from _ _ _
            (lags_written at memo request (next memo) (λ done. next known) lags
            ∙ ap next (sym is))
            (c.in_ok-claim_store.ensures.plays.on from (next memo)
            (claimed stands at memo instr from next request)
            (decides_first stands at memo instr from next c.args.steps.now request asks
            c.requires.none late here));
      });
    }
