use Rattle.std.proofs.Common.{◌≡◌, refl, subst, sym, ◌∙◌}
use Rattle.pram_words.specs.Phases.{kind_at}
use Rattle.pram_words.specs.declared.phases.Kind.{Kind}
use Rattle.pram_words.specs.declared.phases.Kind.TheVariants.{Compute, Verify}
use Rattle.walkx.specs.Passing.{Passes, idle_in}
use Rattle.walkx.proofs.Passes.{next_as, plays_as}
use Rattle.walkx.proofs.Resting.{apply_rests}
use Rattle.walkx.proofs.Silent.{where_over}
use Rattle.walkx.proofs.Turning.{moved}
use Rattle.walkx.proofs.WidePasses.{own_is, same_wide_kind, second_none}
use Rattle.walkx.proofs.tasks.wide_task.Goals as goal

pub own-requires-clause-first : goal.own-requires-clause-first
own-requires-clause-first g c = sym c.kind.ensures.value ∙ c.in-Compute.is

pub own-requires-clause-next : goal.own-requires-clause-next
own-requires-clause-next g c =
    let at = c.args.leaf.now in
    let first : kind_at at.phase ≡ Compute = sym c.kind.ensures.value ∙ c.in-Compute.is in
    next_as (g.S.Steps.stands at) _ _ _
    (λ late next. same_wide_kind at c.args.memo.now late next _ _ first
    ∙ own_is at c.args.memo.now late next first) c.requires.next

pub returns-in-Compute-clause-plays : goal.returns-in-Compute-clause-plays
returns-in-Compute-clause-plays g c =
    let at = c.args.leaf.now in
    let first : kind_at at.phase ≡ Compute = sym c.kind.ensures.value ∙ c.in-Compute.is in
    plays_as (g.S.Steps.stands at) _ _ _
    (λ late next. same_wide_kind at c.args.memo.now late next _ _ first
    ∙ own_is at c.args.memo.now late next first) _ _ c.own.ensures.plays

pub returns-in-Compute-clause-idle : goal.returns-in-Compute-clause-idle
returns-in-Compute-clause-idle g c =
    let at = c.args.leaf.now in
    subst (λ (k : Kind). Passes (idle_in k at c.args.memo.now) c.args.steps.now c.own.new.steps
    c.own.new.memo) (sym (sym c.kind.ensures.value ∙ c.in-Compute.is)) c.own.ensures.idle

pub returns-in-Apply-clause-plays : goal.returns-in-Apply-clause-plays
returns-in-Apply-clause-plays g c =
    let at = c.args.leaf.now in
    record {
      on = λ from after next here. moved (g.S.Steps.stands at) from _ _ _
          (same_wide_kind at c.args.memo.now after next _ _
          (sym c.kind.ensures.value ∙ c.in-Apply.is)
          ∙ second_none at c.args.memo.now after next at.job.rule) here;
    }

pub returns-in-Apply-clause-idle : goal.returns-in-Apply-clause-idle
returns-in-Apply-clause-idle g c =
    let at = c.args.leaf.now in
    let memo = c.args.memo.now in
    let steps = c.args.steps.now in
    subst (λ (k : Kind). Passes (idle_in k at memo) steps steps memo)
    (sym (sym c.kind.ensures.value ∙ c.in-Apply.is)) (rw (apply_rests at memo) (refl, refl))

pub second_pass-requires-clause-second : goal.second_pass-requires-clause-second
second_pass-requires-clause-second g c = sym c.kind.ensures.value ∙ c.in-Verify.is

pub second_pass-requires-clause-next : goal.second_pass-requires-clause-next
second_pass-requires-clause-next g c =
    let at = c.args.leaf.now in
    next_as (g.S.Steps.stands at) _ _ _
    (λ late next. same_wide_kind at c.args.memo.now late next _ _
    (sym c.kind.ensures.value ∙ c.in-Verify.is)) c.requires.next

pub returns-in-Verify-clause-plays : goal.returns-in-Verify-clause-plays
returns-in-Verify-clause-plays g c =
    let at = c.args.leaf.now in
    plays_as (g.S.Steps.stands at) _ _ _
    (λ late next. same_wide_kind at c.args.memo.now late next _ _
    (sym c.kind.ensures.value ∙ c.in-Verify.is)) _ _ c.second_pass.ensures.plays

pub returns-in-Verify-clause-idle : goal.returns-in-Verify-clause-idle
returns-in-Verify-clause-idle g c =
    let at = c.args.leaf.now in
    let memo = c.args.memo.now in
    let second : kind_at at.phase ≡ Verify = sym c.kind.ensures.value ∙ c.in-Verify.is in
    subst (λ (k : Kind). Passes (idle_in k at memo) c.args.steps.now c.second_pass.new.steps
    c.second_pass.new.memo) (sym second)
    (where_over at memo c.args.steps.now c.second_pass.new.steps c.second_pass.new.memo second
    c.second_pass.ensures.past)
