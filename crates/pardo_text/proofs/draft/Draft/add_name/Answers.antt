use Rattle.std.proofs.Common.{ap}
use Rattle.pardo_text.specs.Inner.Drafts.{draft_of}
use Rattle.pardo_text.specs.Names.{Names}
use Rattle.pardo_text.proofs.Known.{names_in-insert}
use Rattle.pardo_text.proofs.draft.Draft.add_name.Goals as goal

pub returns : goal.returns
returns c =
    ap (λ (names : Names). record (draft_of c.args.self.now) { names = names })
    (names_in-insert c.args.self.now.names c.insert.new.self c.args.name.now c.args.thing
    c.in_ok-insert.ensures.updates)
