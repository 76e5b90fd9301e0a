use Rattle.std.proofs.Common.{◌≡◌, suc, true, false, Err, ap, sym, ◌∙◌}
use Rattle.std.proofs.Common.{refl}
use Rattle.pram_machine.specs.Instructions.{goes_to}
use Rattle.walk_memory.specs.declared.memo.Memo.{Memo}
use Rattle.walk_memory.specs.Memory.{is_past}
use Rattle.walkx.specs.WideParts.{learned, own_known}
use Rattle.walkx.proofs.OwnKnown.{known_does, past_does, stands_does, stopped_does}
use Rattle.walkx.proofs.Passing.{passed}
use Rattle.walkx.proofs.Settling.{left_known}
use Rattle.walkx.proofs.Silent.{where_known, where_past, where_stopped}
use Rattle.walkx.proofs.Turning.{comes_to, moved}
use Rattle.walkx.proofs.wide_own.own.Goals as goal

pub returns-then-is_past-clause-idle : goal.returns-then-is_past-clause-idle
returns-then-is_past-clause-idle g c =
    let at = c.args.leaf.now in
    let memo = c.args.memo.now in
    let past : is_past at.phase memo ≡ true =
    rw c.phase.ensures.value at (sym c.is_past.ensures ∙ c.if-is_past.true) in
    where_past at memo _ _ _ c.requires.first past refl refl

pub returns-then-is_past-clause-plays : goal.returns-then-is_past-clause-plays
returns-then-is_past-clause-plays g c =
    let at = c.args.leaf.now in
    let memo = c.args.memo.now in
    let past : is_past at.phase memo ≡ true =
    rw c.phase.ensures.value at (sym c.is_past.ensures ∙ c.if-is_past.true) in
    record {
      on = λ from late next here. moved (g.S.Steps.stands at) from _ _ _
          (past_does at memo late next past) here;
    }

pub know-requires : goal.know-requires
know-requires g c =
    let at = c.args.leaf.now in
    let memo = c.args.memo.now in
    let stands = g.S.Steps.stands at in
    let past : is_past at.phase memo ≡ false =
    rw c.phase.ensures.value at (sym c.is_past.ensures ∙ c.if-is_past.false) in
    let r = c.requires.next in
    record {
      next = record {
        from = r.from;
        after = r.next memo;
        next = own_known at r.next;
        here = moved stands r.from c.args.steps.now _ _ (known_does at memo r.after r.next past)
            r.here;
      };
    }

pub returns-in_err-know-clause-plays : goal.returns-in_err-know-clause-plays
returns-in_err-know-clause-plays g c =
    let at = c.args.leaf.now in
    let memo = c.args.memo.now in
    let stands = g.S.Steps.stands at in
    let past : is_past at.phase memo ≡ false =
    rw c.phase.ensures.value at (sym c.is_past.ensures ∙ c.if-is_past.false) in
    rw (passed c.from_residual.result _ c.from_residual.ensures.1) (record {
      on = λ from late next here. comes_to stands from _ _ _
          (left_known _ memo c.know.new.memo late next (own_known at next)
          (λ e. c.in_err-know.ensures.late (ap Err e)))
          (c.in_err-know.ensures.plays.on from (next memo) (own_known at next)
          (moved stands from c.args.steps.now _ _ (known_does at memo late next past) here));
    })

pub own_by-requires-clause-next : goal.own_by-requires-clause-next
own_by-requires-clause-next g c =
    let at = c.args.leaf.now in
    let memo = c.args.memo.now in
    let stands = g.S.Steps.stands at in
    let past : is_past at.phase memo ≡ false =
    rw c.phase.ensures.value at (sym c.is_past.ensures ∙ c.if-is_past.false) in
    let r = c.requires.next in
    record {
      from = r.from;
      after = r.next c.know.new.memo;
      next = r.next;
      here = moved stands r.from _ _ _
          (stands_does at c.know.new.memo r.next c.in-Some.instr.now c.in-Some.ensures.value)
          (c.in_ok-know.ensures.plays.on r.from (r.next memo) (own_known at r.next)
          (moved stands r.from c.args.steps.now _ _ (known_does at memo r.after r.next past)
          r.here));
    }

pub returns-in-None-clause-plays : goal.returns-in-None-clause-plays
returns-in-None-clause-plays g c =
    let at = c.args.leaf.now in
    let memo = c.args.memo.now in
    let stands = g.S.Steps.stands at in
    let past : is_past at.phase memo ≡ false =
    rw c.phase.ensures.value at (sym c.is_past.ensures ∙ c.if-is_past.false) in
    rw c.stay.ensures (record {
      on = λ from late next here. moved stands from _ _ _
          (stopped_does at c.know.new.memo next c.in-None.ensures.value)
          (c.in_ok-know.ensures.plays.on from (next memo) (own_known at next)
          (moved stands from c.args.steps.now _ _ (known_does at memo late next past) here));
    })

pub returns-in-Some-clause-plays : goal.returns-in-Some-clause-plays
returns-in-Some-clause-plays g c =
    let at = c.args.leaf.now in
    let memo = c.args.memo.now in
    let stands = g.S.Steps.stands at in
    let past : is_past at.phase memo ≡ false =
    rw c.phase.ensures.value at (sym c.is_past.ensures ∙ c.if-is_past.false) in
    record {
      on = λ from late next here. c.own_by.ensures.plays.on from late next
          (moved stands from _ _ _
          (stands_does at c.know.new.memo next c.in-Some.instr.now c.in-Some.ensures.value)
          (c.in_ok-know.ensures.plays.on from (next memo) (own_known at next)
          (moved stands from c.args.steps.now _ _ (known_does at memo late next past) here)));
    }

pub returns-in_err-know-clause-idle : goal.returns-in_err-know-clause-idle
returns-in_err-know-clause-idle g c =
    let at = c.args.leaf.now in
    let memo = c.args.memo.now in
    let past : is_past at.phase memo ≡ false =
    rw c.phase.ensures.value at (sym c.is_past.ensures ∙ c.if-is_past.false) in
    where_known at memo _ _ _ c.requires.first past (λ before.
    absurd (let known = (c.in_err-know.ensures.known before).0 in cc))

pub returns-in-None-clause-idle : goal.returns-in-None-clause-idle
returns-in-None-clause-idle g c =
    let at = c.args.leaf.now in
    let memo = c.args.memo.now in
    let past : is_past at.phase memo ≡ false =
    rw c.phase.ensures.value at (sym c.is_past.ensures ∙ c.if-is_past.false) in
    where_known at memo _ _ _ c.requires.first past (λ before.
    let same = c.in_ok-know.ensures.known before in
    where_stopped at memo _ _ _ before (rw same.1 at c.in-None.ensures.value)
    (c.stay.ensures ∙ ap (λ (m : Memo). learned at m (goes_to m.own.counter)) same.1) same.2)

pub returns-in-Some-clause-idle : goal.returns-in-Some-clause-idle
returns-in-Some-clause-idle g c =
    let at = c.args.leaf.now in
    let memo = c.args.memo.now in
    let past : is_past at.phase memo ≡ false =
    rw c.phase.ensures.value at (sym c.is_past.ensures ∙ c.if-is_past.false) in
    where_known at memo _ _ _ c.requires.first past (λ before.
    let same = c.in_ok-know.ensures.known before in
    rw same.2 at (rw same.1 at (c.own_by.ensures.idle
    (ap (λ (m : Memo). suc m.step) same.1 ∙ before))))
