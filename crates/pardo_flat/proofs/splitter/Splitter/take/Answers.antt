use Rattle.std.proofs.Common.{sym, subst, ◌∙◌}
use Rattle.std.proofs.lemmas.Result.{on_ok_weaker}
use Rattle.pardo_program.specs.declared.expression.Node.{Node}
use Rattle.pardo_flat.specs.Inner.Splits.{JoinsTo, TakesNode}
use Rattle.pardo_flat.proofs.Splitters.{apply_takes, joins_back}
use Rattle.pardo_flat.proofs.splitter.Splitter.take.Goals as goal

pub returns-in-Apply-clause-taken : goal.returns-in-Apply-clause-taken
returns-in-Apply-clause-taken c =
    let old = c.args.self.now in
    let new = c.join.new.self in
    let between = c.pop-second.new.self in
    let rest = c.pop-first.new.self in
    on_ok_weaker c.join.result
    (λ (j : JoinsTo rest.common rest.base c.in-Apply.op c.pop-first.result c.pop-second.result
    rest.pieces.items rest.parts.items new.pieces.items new.parts.items).
    subst (λ (n : Node). TakesNode old.common old.base n old.pieces.items old.parts.items new.pieces.items
    new.parts.items) (sym c.in-Apply.is)
    (apply_takes old.common old.base c.in-Apply.op old.pieces.items new.pieces.items old.parts.items
    rest.parts.items new.parts.items c.pop-first.result c.pop-second.result
    (record {
      between = between.parts.items;
      last = c.pop-second.ensures.parts;
      last_but_one = c.pop-first.ensures.parts;
    })
    (joins_back rest.common old.common rest.base old.base c.in-Apply.op c.pop-first.result c.pop-second.result
    rest.pieces.items old.pieces.items rest.parts.items new.pieces.items new.parts.items
    (c.pop-first.ensures.common ∙ c.pop-second.ensures.common)
    (c.pop-first.ensures.base ∙ c.pop-second.ensures.base)
    (c.pop-first.ensures.pieces ∙ c.pop-second.ensures.pieces) j)))
    c.join.ensures.joined
