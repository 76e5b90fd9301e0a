use Rattle.std.proofs.Common.{◌≡◌, ◌∷◌, ◌∙◌, sym, ap}
use Rattle.pardo_text.specs.Drafts.{without}
use Rattle.pardo_text.specs.Inner.Drafts.{draft_of, loops_in}
use Rattle.pardo_text.specs.Names.{Names}
use Rattle.pardo_text.proofs.Known.{names_in-remove, loops_in-push}
use Rattle.pardo_text.proofs.draft.Draft.close_loop.Goals as goal

pub returns-in-Some : goal.returns-in-Some
returns-in-Some c =
    let first : loops_in c.args.self.now.loops.items ≡ c.in-Some.name.now ∷
    loops_in c.pop.new.self.items =
    ap loops_in c.in-Some.ensures.items ∙ loops_in-push c.pop.new.self.items c.in-Some.name in
    let draft = draft_of c.args.self.now in
    ap (λ (names : Names). record draft { names = names; loops = loops_in c.pop.new.self.items })
    (names_in-remove c.args.self.now.names c.remove.new.self c.in-Some.name.now
    c.remove.ensures.updates)
    ∙ ap (λ loops. without loops draft) (sym first)
