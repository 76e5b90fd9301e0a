use Rattle.std.proofs.Common.{sym, ◌∙◌}
use Rattle.walkx.proofs.CellParts.{readies_by}
use Rattle.walkx.proofs.Turning.{moved}
use Rattle.walkx.proofs.Passing.{passed}
use Rattle.pram_job.specs.declared.instr.Rule.TheVariants.{Priority, Crew}
use Rattle.walkx.proofs.claim.ready.Goals as goal

pub owned-requires-clause-next : goal.owned-requires-clause-next
owned-requires-clause-next g c =
    let at = c.args.leaf.now in
    let r = c.requires.next in
    record {
      from = r.from;
      after = r.after;
      next = r.next;
      here = moved (g.S.Steps.stands at) r.from _ _ _
          (readies_by at c.args.place r.after r.next at.job.rule Priority
          (sym c.rule.ensures.value ∙ c.in-Priority.is)) r.here;
    }

pub claim_data-requires-clause-next : goal.claim_data-requires-clause-next
claim_data-requires-clause-next g c =
    let at = c.args.leaf.now in
    let r = c.requires.next in
    record {
      from = r.from;
      after = r.after;
      next = λ done. r.next c.args.place;
      here = moved (g.S.Steps.stands at) r.from _ _ _
          (readies_by at c.args.place r.after r.next at.job.rule Crew
          (sym c.rule.ensures.value ∙ c.in-Crew.is)) r.here;
    }

pub returns-in_err-claim_data-in-Crew-clause-plays :
    goal.returns-in_err-claim_data-in-Crew-clause-plays
returns-in_err-claim_data-in-Crew-clause-plays g c =
    let at = c.args.leaf.now in
    rw (passed c.from_residual.result _ c.from_residual.ensures.1) (record {
      on = λ from after next here.
          c.in_err-claim_data-in-Crew.ensures.plays.on from after (λ done. next c.args.place)
          (moved (g.S.Steps.stands at) from _ _ _ (readies_by at c.args.place after next at.job.rule
          Crew (sym c.rule.ensures.value ∙ c.in-Crew.is)) here);
    })

pub returns-in_ok-claim_data-in-Crew-clause-plays :
    goal.returns-in_ok-claim_data-in-Crew-clause-plays
returns-in_ok-claim_data-in-Crew-clause-plays g c =
    let at = c.args.leaf.now in
    record {
      on = λ from after next here.
          c.in_ok-claim_data-in-Crew.ensures.plays.on from after (λ done. next c.args.place)
          (moved (g.S.Steps.stands at) from _ _ _ (readies_by at c.args.place after next at.job.rule
          Crew (sym c.rule.ensures.value ∙ c.in-Crew.is)) here);
    }
