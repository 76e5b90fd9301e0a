use Rattle.std.proofs.Common.{sym, ◌∙◌}
use Rattle.walkx.proofs.Passes.{computes_it, due_as, ends_as, same_kind}
use Rattle.walkx.proofs.Passes.{second_common, second_crew, second_priority}
use Rattle.walkx.proofs.Passes.{third_common, third_crew, third_priority}
use Rattle.walkx.proofs.tasks.compact_task.Goals as goal

pub compute-requires : goal.compute-requires
compute-requires g c = let at = c.args.leaf.now in record {
  due = due_as (g.S.Steps.stands at) _ _ _
      (λ after. computes_it at after _ (sym c.kind.ensures.value ∙ c.in-Compute-default.is-0))
      c.requires.due;
}

pub returns-in-Compute-default : goal.returns-in-Compute-default
returns-in-Compute-default g c = let at = c.args.leaf.now in record {
  ends = ends_as (g.S.Steps.stands at) _ _ _
      (λ after. computes_it at after _ (sym c.kind.ensures.value ∙ c.in-Compute-default.is-0))
      _ _ c.compute.ensures.ends;
}

pub apply-requires-clause-due : goal.apply-requires-clause-due
apply-requires-clause-due g c =
    let at = c.args.leaf.now in due_as (g.S.Steps.stands at) _ _ _
    (λ after. same_kind at after _ _ (sym c.kind.ensures.value ∙ c.in-Apply-Common.is-0)
    ∙ second_common at after _ (sym c.rule.ensures.value ∙ c.in-Apply-Common.is-1))
    c.requires.due

pub returns-in-Apply-Common : goal.returns-in-Apply-Common
returns-in-Apply-Common g c = let at = c.args.leaf.now in record {
  ends = ends_as (g.S.Steps.stands at) _ _ _
      (λ after. same_kind at after _ _ (sym c.kind.ensures.value ∙ c.in-Apply-Common.is-0)
      ∙ second_common at after _ (sym c.rule.ensures.value ∙ c.in-Apply-Common.is-1))
      _ _ c.apply.ensures.ends;
}

pub claim_cell-requires-clause-due : goal.claim_cell-requires-clause-due
claim_cell-requires-clause-due g c = let at = c.args.leaf.now in due_as (g.S.Steps.stands at) _ _ _
    (λ after. same_kind at after _ _ (sym c.kind.ensures.value ∙ c.in-Apply-Priority.is-0)
    ∙ second_priority at after _ (sym c.rule.ensures.value ∙ c.in-Apply-Priority.is-1))
    c.requires.due

pub returns-in-Apply-Priority : goal.returns-in-Apply-Priority
returns-in-Apply-Priority g c = let at = c.args.leaf.now in record {
  ends = ends_as (g.S.Steps.stands at) _ _ _
      (λ after. same_kind at after _ _ (sym c.kind.ensures.value ∙ c.in-Apply-Priority.is-0)
      ∙ second_priority at after _ (sym c.rule.ensures.value ∙ c.in-Apply-Priority.is-1))
      _ _ c.claim_cell.ensures.ends;
}

pub apply-requires-in-Apply-Crew-clause-due : goal.apply-requires-in-Apply-Crew-clause-due
apply-requires-in-Apply-Crew-clause-due g c =
    let at = c.args.leaf.now in due_as (g.S.Steps.stands at) _ _ _
    (λ after. same_kind at after _ _ (sym c.kind.ensures.value ∙ c.in-Apply-Crew.is-0)
    ∙ second_crew at after _ (sym c.rule.ensures.value ∙ c.in-Apply-Crew.is-1))
    c.requires.due

pub returns-in-Apply-Crew : goal.returns-in-Apply-Crew
returns-in-Apply-Crew g c = let at = c.args.leaf.now in record {
  ends = ends_as (g.S.Steps.stands at) _ _ _
      (λ after. same_kind at after _ _ (sym c.kind.ensures.value ∙ c.in-Apply-Crew.is-0)
      ∙ second_crew at after _ (sym c.rule.ensures.value ∙ c.in-Apply-Crew.is-1))
      _ _ c.apply-in-Apply-Crew.ensures.ends;
}

pub compare-requires-clause-due : goal.compare-requires-clause-due
compare-requires-clause-due g c =
    let at = c.args.leaf.now in due_as (g.S.Steps.stands at) _ _ _
    (λ after. same_kind at after _ _ (sym c.kind.ensures.value ∙ c.in-Verify-Common.is-0)
    ∙ third_common at after _ (sym c.rule.ensures.value ∙ c.in-Verify-Common.is-1))
    c.requires.due

pub returns-in-Verify-Common : goal.returns-in-Verify-Common
returns-in-Verify-Common g c = let at = c.args.leaf.now in record {
  ends = ends_as (g.S.Steps.stands at) _ _ _
      (λ after. same_kind at after _ _ (sym c.kind.ensures.value ∙ c.in-Verify-Common.is-0)
      ∙ third_common at after _ (sym c.rule.ensures.value ∙ c.in-Verify-Common.is-1))
      _ _ c.compare.ensures.ends;
}

pub apply-requires-in-Verify-Priority-clause-due : goal.apply-requires-in-Verify-Priority-clause-due
apply-requires-in-Verify-Priority-clause-due g c =
    let at = c.args.leaf.now in due_as (g.S.Steps.stands at) _ _ _
    (λ after. same_kind at after _ _ (sym c.kind.ensures.value ∙ c.in-Verify-Priority.is-0)
    ∙ third_priority at after _ (sym c.rule.ensures.value ∙ c.in-Verify-Priority.is-1))
    c.requires.due

pub returns-in-Verify-Priority : goal.returns-in-Verify-Priority
returns-in-Verify-Priority g c = let at = c.args.leaf.now in record {
  ends = ends_as (g.S.Steps.stands at) _ _ _
      (λ after. same_kind at after _ _ (sym c.kind.ensures.value ∙ c.in-Verify-Priority.is-0)
      ∙ third_priority at after _ (sym c.rule.ensures.value ∙ c.in-Verify-Priority.is-1))
      _ _ c.apply-in-Verify-Priority.ensures.ends;
}

pub compare_claims-requires-clause-due : goal.compare_claims-requires-clause-due
compare_claims-requires-clause-due g c =
    let at = c.args.leaf.now in due_as (g.S.Steps.stands at) _ _ _
    (λ after. same_kind at after _ _ (sym c.kind.ensures.value ∙ c.in-Verify-Crew.is-0)
    ∙ third_crew at after _ (sym c.rule.ensures.value ∙ c.in-Verify-Crew.is-1))
    c.requires.due

pub returns-in-Verify-Crew : goal.returns-in-Verify-Crew
returns-in-Verify-Crew g c = let at = c.args.leaf.now in record {
  ends = ends_as (g.S.Steps.stands at) _ _ _
      (λ after. same_kind at after _ _ (sym c.kind.ensures.value ∙ c.in-Verify-Crew.is-0)
      ∙ third_crew at after _ (sym c.rule.ensures.value ∙ c.in-Verify-Crew.is-1))
      _ _ c.compare_claims.ensures.ends;
}
