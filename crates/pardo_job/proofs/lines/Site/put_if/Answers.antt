use Rattle.std.proofs.Common.{◌≡◌, ◌∷◌, [], Err, length, rules, subst}
use Rattle.pram_job.specs.declared.instr.Instr.{Instr}
use Rattle.pardo_job.specs.Inner.Emitting.{PutsCode}
use Rattle.pardo_job.proofs.LineParts.{choosing_fails, choosing_put, choosing_too_long}
use Rattle.pardo_job.proofs.lines.Site.put_if.Goals as goal

pub returns-then-body-gt-MAX_CODE : goal.returns-then-body-gt-MAX_CODE
returns-then-body-gt-MAX_CODE c =
    choosing_too_long _ _ c.args.self.now.layout.now (length c.args.code.now.items) c.args.self.now.depth
    c.args.body.now
    c.requires.shallow c.if-body-gt-MAX_CODE.true

pub returns-in_err-put_choice : goal.returns-in_err-put_choice
returns-in_err-put_choice c =
    let e : c.from_residual.result ≡ Err c.in_err-put_choice.field-0.0 = search rules in
    choosing_fails _ _ _ _ c.args.self.now.layout.now (length c.args.code.now.items) c.args.self.now.depth
    c.args.body.now e c.in_err-put_choice.ensures

pub returns : goal.returns
returns c =
    choosing_put _ _ _ _ _ c.args.self.now.layout.now (length c.args.code.now.items) c.args.self.now.depth
    c.args.body.now
    c.inner_mask.result c.inner_mask.ensures c.in_ok-put_choice.ensures
    (subst (λ (store : Instr). PutsCode c.put_choice.new.code.items c.put.new.code.items
    c.put.result (store ∷ [])) c.own_store.ensures c.put.ensures)
