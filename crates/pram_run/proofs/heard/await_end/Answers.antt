use Rattle.std.proofs.Common.{refl, ◌∙◌}
use Rattle.pram_run.proofs.Endings.{looked_goes, looked_more, looked_same, ok_tells}
use Rattle.pram_run.proofs.heard.await_end.Goals as goal

pub loop-init : goal.loop-init
loop-init g c = looked_same c.args.seat c.args.seat refl

pub answer-told-requires-clause-seat : goal.answer-told-requires-clause-seat
answer-told-requires-clause-seat g c = (looked_goes _ _ c.loop.invariant).desk ∙ c.requires

pub returns-then-all_left-clause-told : goal.returns-then-all_left-clause-told
returns-then-all_left-clause-told g c =
    ok_tells _ _ _ c.answer-told.result c.answer-told.ensures.told

pub returns-then-all_left-clause-looked : goal.returns-then-all_left-clause-looked
returns-then-all_left-clause-looked g c =
    looked_more _ _ _ c.loop.invariant c.answer-told.ensures.looked

pub loop-preserved : goal.loop-preserved
loop-preserved g c = looked_more _ _ _ c.loop.invariant c.answer-told.ensures.looked

pub loop-preserved-else-not-may_end_yet : goal.loop-preserved-else-not-may_end_yet
loop-preserved-else-not-may_end_yet g c =
    looked_more _ _ _ c.loop.invariant c.answer-told.ensures.looked

pub loop-preserved-else-not-may_end_yet-2 : goal.loop-preserved-else-not-may_end_yet-2
loop-preserved-else-not-may_end_yet-2 g c =
    looked_more _ _ _ c.loop.invariant c.answer-told.ensures.looked
