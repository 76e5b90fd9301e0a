use Rattle.std.proofs.Common.{◌≡◌, List, Ok, Err, rules, refl, sym, ap, subst, ◌∙◌}
use Rattle.std.specs.Prelude.{slice_set}
use Rattle.walk_memory.specs.declared.memo.Memo.{Memo}
use Rattle.walk_memory.specs.Inner.Posts.{processor_of}
use Rattle.walk_memory.specs.Lanes.{lane}
use Rattle.walk_memory.specs.Memory.{is_past}
use Rattle.walkx.specs.Passing.{TakesUp, TakesUpIf}
use Rattle.walk_memory.specs.Plain.{HasStore}
use Rattle.walk_memory.proofs.Memories.{memo_again}
use Rattle.walkx.proofs.Storing.{store_asks}
use Rattle.walkx.proofs.TakingUp.{past_if, takes_up}
use Rattle.walkx.proofs.stores.carry_known.Goals as goal

pub returns-in_err-settle-clause-takes : goal.returns-in_err-settle-clause-takes
returns-in_err-settle-clause-takes g c = λ memory is.
    let at = c.args.leaf.now in
    let memo = lane c.args.block.now c.args.k in
    let learned = lane c.carry_lane.new.block c.args.k in
    let now = slice_set memory (processor_of at) learned in
    let has : HasStore at memo = record {
      second = c.requires.second;
      step = c.if-block-k-2.true ∙ c.step.ensures.value;
      some = rw c.if-block-k.true refl;
    } in
    let takes = takes_up (g.S.Steps.stands at) at c.args.steps.now c.carry_lane.new.steps
    memory now memo
    learned c.carry_lane.result (sym is) refl (rw (store_asks at memo has) tt)
    c.carry_lane.ensures.plays in
    let why = c.in_err-settle.field-0.0 in
    let e : c.from_residual.result ≡ Err why = search rules in
    rw e (subst (TakesUp (g.S.Steps.stands at) at c.args.steps.now memory
    c.carry_lane.new.steps now) (sym c.settle.ensures ∙ c.in_err-settle.was) takes)

pub returns-then-block-k-2-clause-takes : goal.returns-then-block-k-2-clause-takes
returns-then-block-k-2-clause-takes g c = λ memory is.
    let at = c.args.leaf.now in
    let memo = lane c.args.block.now c.args.k in
    let learned = lane c.carry_lane.new.block c.args.k in
    let now = slice_set memory (processor_of at) learned in
    let has : HasStore at memo = record {
      second = c.requires.second;
      step = c.if-block-k-2.true ∙ c.step.ensures.value;
      some = rw c.if-block-k.true refl;
    } in
    let takes = takes_up (g.S.Steps.stands at) at c.args.steps.now c.carry_lane.new.steps
    memory now memo
    learned c.carry_lane.result (sym is) refl (rw (store_asks at memo has) tt)
    c.carry_lane.ensures.plays in
    subst (TakesUp (g.S.Steps.stands at) at c.args.steps.now memory c.carry_lane.new.steps now)
    (sym c.settle.ensures ∙ c.in_ok-settle.was) takes

pub returns-clause-takes : goal.returns-clause-takes
returns-clause-takes g c = λ memory is.
    let at = c.args.leaf.now in
    let steps = c.args.steps.now in
    let memo = lane c.args.block.now c.args.k in
    let past : is_past at.phase memo ≡ c.is_past.result =
    rw (c.phase.ensures.value, c.memo.ensures) at (sym c.is_past.ensures) in
    let same : memory ≡ slice_set memory (processor_of at) memo =
    sym (memo_again memory (processor_of at)) ∙ ap (slice_set memory (processor_of at)) is in
    subst (λ (now : List Memo). TakesUpIf (g.S.Steps.stands at) at steps memory steps now
    (Ok c.is_past.result)) same
    (past_if at memory memo (sym is) c.requires.second (g.S.Steps.stands at) steps c.is_past.result
    past)
