use Rattle.std.proofs.Common.{◌≡◌, IfOk, subst}
use Rattle.pardo_text.specs.Drafts.{Draft, with_block}
use Rattle.pardo_text.specs.Inner.Drafts.{draft_of}
use Rattle.pardo_text.proofs.draft.Draft.begin.Goals as goal

pub returns : goal.returns
returns c =
    subst (λ (draft : Draft). IfOk c.open.result
    (λ _. draft_of c.open.new.self ≡ with_block c.args.block draft))
    c.in_ok-add_line.ensures c.open.ensures
