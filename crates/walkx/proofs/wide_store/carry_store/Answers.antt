use Rattle.std.proofs.Common.{Err, true, false, subst}
use Rattle.pram_job.specs.declared.instr.Rule.{Rule}
use Rattle.walkx.specs.Driving.{Plays}
use Rattle.walkx.specs.WideParts.{carried_until}
use Rattle.walkx.proofs.Passing.{passed}
use Rattle.walkx.proofs.Storing.{left_if, until_is, until_on}
use Rattle.walkx.proofs.Turning.{moved}
use Rattle.walkx.proofs.wide_store.carry_store.Goals as goal

pub carry_until-requires-clause-next : goal.carry_until-requires-clause-next
carry_until-requires-clause-next g c =
    let at = c.args.leaf.now in
    let write = c.args.write in
    let r = c.requires.next in
    rw c.rule.ensures.value (record {
      from = r.from;
      after = r.after;
      next = left_if at.job.rule at write (r.next tt);
      here = moved (g.S.Steps.stands at) r.from _ _ _
          (until_is at.job.rule at write r.after r.next) r.here;
    })

pub returns-in_err-other : goal.returns-in_err-other
returns-in_err-other g c =
    let at = c.args.leaf.now in
    let write = c.args.write in
    let stands = g.S.Steps.stands at in
    let plays = subst (λ (rule : Rule). Plays stands c.args.steps.now (carried_until rule at write)
    c.carry_until.new.steps (Err c.in_err-other.field-0.0)) c.rule.ensures.value
    c.in_err-other.ensures.plays in
    rw (passed c.from_residual.result _ c.from_residual.ensures.1) (record {
      plays = record {
        on = λ from after next here. plays.on from after (left_if at.job.rule at write (next tt))
            (moved stands from _ _ _ (until_is at.job.rule at write after next) here);
      };
    })

pub report_store-requires-clause-due : goal.report_store-requires-clause-due
report_store-requires-clause-due g c =
    let at = c.args.leaf.now in
    let r = c.requires.next in
    record {
      from = r.from;
      after = r.next tt;
      here = until_on (g.S.Steps.stands at) c.rule.result at c.args.write c.args.steps.now
          c.carry_until.new.steps c.in_ok-other.other true c.rule.ensures.value
          c.in_ok-other.ensures.plays c.if-other.true r.from r.after r.next r.here;
    }

pub returns-in_err-report_store : goal.returns-in_err-report_store
returns-in_err-report_store g c =
    let at = c.args.leaf.now in
    rw (passed c.from_residual-in_err-report_store.result _
    c.from_residual-in_err-report_store.ensures.1) (record {
      plays = record {
        on = λ from after next here. (c.in_err-report_store.ensures (next tt)).on from
            (until_on (g.S.Steps.stands at) c.rule.result at c.args.write c.args.steps.now
            c.carry_until.new.steps c.in_ok-other.other true c.rule.ensures.value
            c.in_ok-other.ensures.plays c.if-other.true from after next here);
      };
    })

pub returns-then-other : goal.returns-then-other
returns-then-other g c =
    let at = c.args.leaf.now in
    record {
      plays = record {
        on = λ from after next here. (c.in_ok-report_store.ensures (next tt)).on from
            (until_on (g.S.Steps.stands at) c.rule.result at c.args.write c.args.steps.now
            c.carry_until.new.steps c.in_ok-other.other true c.rule.ensures.value
            c.in_ok-other.ensures.plays c.if-other.true from after next here);
      };
    }

pub returns : goal.returns
returns g c =
    let at = c.args.leaf.now in
    record {
      plays = record {
        on = λ from after next here. until_on (g.S.Steps.stands at) c.rule.result at c.args.write
            c.args.steps.now c.carry_until.new.steps c.in_ok-other.other false
            c.rule.ensures.value c.in_ok-other.ensures.plays c.if-other.false from after next here;
      };
    }
