use Rattle.std.proofs.Common.{Some, sym, subst}
use Rattle.pram_job.specs.declared.instr.Rule.{Rule}
use Rattle.walkx.specs.WideParts.{write_left}
use Rattle.walkx.proofs.wide_store.write_last.Goals as goal

pub write_place-requires-clause-next : goal.write_place-requires-clause-next
write_place-requires-clause-next g c =
    let at = c.args.leaf.now in
    let r = c.requires.due in
    record {
      from = r.from;
      after = r.after;
      next = λ done. r.after;
      here = subst (λ (rule : Rule). g.S.Steps.stands at r.from c.args.steps.now
          (Some (write_left rule at c.args.write r.after))) (sym c.in-Crew.ensures.value) r.here;
    }

pub returns-in-Common : goal.returns-in-Common
returns-in-Common g c =
    let at = c.args.leaf.now in
    record {
      ends = record {
        on = λ from after here. subst (λ (rule : Rule). g.S.Steps.stands at from c.args.steps.now
            (Some (write_left rule at c.args.write after))) (sym c.in-Common.ensures.value) here;
      };
    }

pub returns-in-Priority : goal.returns-in-Priority
returns-in-Priority g c =
    let at = c.args.leaf.now in
    record {
      ends = record {
        on = λ from after here. subst (λ (rule : Rule). g.S.Steps.stands at from c.args.steps.now
            (Some (write_left rule at c.args.write after))) (sym c.in-Priority.ensures.value) here;
      };
    }

pub returns-in-Crew : goal.returns-in-Crew
returns-in-Crew g c =
    let at = c.args.leaf.now in
    record {
      ends = record {
        on = λ from after here. c.write_place.ensures.plays.on from after (λ done. after)
            (subst (λ (rule : Rule). g.S.Steps.stands at from c.args.steps.now
            (Some (write_left rule at c.args.write after))) (sym c.in-Crew.ensures.value) here);
      };
    }
