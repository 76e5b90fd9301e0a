use Rattle.std.proofs.Common.{sym, ◌∙◌}
use Rattle.walkx.specs.Scripts.{ends}
use Rattle.walkx.specs.Walk.{turn_script, turns}
use Rattle.walkx.specs.Rests.{after_node}
use Rattle.walkx.proofs.Passing.{passed}
use Rattle.walk_memory.specs.Memory.{at_start}
use Rattle.walkx.specs.Walk.{enters, part_script}
use Rattle.walkx.proofs.Forms.{form_compact, form_wide_of}
use Rattle.walkx.proofs.Turning.{moved, part_first, wide_is}
use Rattle.walk_memory.proofs.Posts.{node_is, form_is}
use Rattle.walkx.proofs.turns.enter.Goals as goal

pub make-requires : goal.make-requires
unfolding turn_script
make-requires g c =
    let at = c.args.post.now in
    let r = c.requires.here in
    rw (c.looking.ensures, node_is c.post.view_is) (
      at,
      record {
        from = r.from;
        after = ends (turns 0 at.phase);
        next = after_node at;
        here = r.here;
      },
    )

pub returns-in_err-found-clause-leads : goal.returns-in_err-found-clause-leads
unfolding turn_script
returns-in_err-found-clause-leads g c =
    let at = c.args.post.now in
    rw (passed c.from_residual.result _ c.from_residual.ensures.1) (record {
      on = λ from here.
          rw (c.looking.ensures, node_is c.post.view_is) at
          (c.in_err-found.ensures.on at from (after_node at)) here;
    })

pub leave-requires : goal.leave-requires
unfolding turn_script
leave-requires g c =
    let at = c.args.post.now in
    let r = c.requires.here in
    let node = rw (c.looking.ensures, node_is c.post.view_is) at
    (c.in_ok-found.ensures.on at r.from (after_node at)) r.here in
    record {
      here = record {
        from = r.from;
        here = rw (sym c.is_finished.ensures ∙ c.if-is_finished.true) at node;
      };
    }

pub returns-in_err-leave-clause-leads : goal.returns-in_err-leave-clause-leads
unfolding turn_script
returns-in_err-leave-clause-leads g c =
    let at = c.args.post.now in
    rw (passed c.from_residual-in_err-leave.result _ c.from_residual-in_err-leave.ensures.1)
    (record {
      on = λ from here.
          let node = rw (c.looking.ensures, node_is c.post.view_is) at
          (c.in_ok-found.ensures.on at from (after_node at)) here in
          c.in_err-leave.ensures.reaches.on from
          (rw (sym c.is_finished.ensures ∙ c.if-is_finished.true) at node);
    })

pub returns-in_ok-leave-clause-leads : goal.returns-in_ok-leave-clause-leads
unfolding turn_script
returns-in_ok-leave-clause-leads g c =
    let at = c.args.post.now in
    (record {
      on = λ from here.
          let node = rw (c.looking.ensures, node_is c.post.view_is) at
          (c.in_ok-found.ensures.on at from (after_node at)) here in
          c.in_ok-leave.ensures.reaches.on from
          (rw (sym c.is_finished.ensures ∙ c.if-is_finished.true) at node);
    })

pub inner-requires-clause-here : goal.inner-requires-clause-here
unfolding turn_script
inner-requires-clause-here g c =
    let at = c.args.post.now in
    let r = c.requires.here in
    let node = rw (c.looking.ensures, node_is c.post.view_is) at
    (c.in_ok-found.ensures.on at r.from (after_node at)) r.here in
    record {
      from = r.from;
      here = rw (
        sym c.is_finished.ensures ∙ c.if-is_finished.false,
        sym c.is_leaf.ensures ∙ c.if-not-is_leaf.true,
      ) at node;
    }

pub returns-in_err-inner-clause-leads : goal.returns-in_err-inner-clause-leads
unfolding turn_script
returns-in_err-inner-clause-leads g c =
    let at = c.args.post.now in
    rw (passed c.from_residual-in_err-inner.result _ c.from_residual-in_err-inner.ensures.1)
    (record {
      on = λ from here.
          let node = rw (c.looking.ensures, node_is c.post.view_is) at
          (c.in_ok-found.ensures.on at from (after_node at)) here in
          c.in_err-inner.ensures.reaches.on from (rw (
            sym c.is_finished.ensures ∙ c.if-is_finished.false,
            sym c.is_leaf.ensures ∙ c.if-not-is_leaf.true,
          ) at node);
    })

pub returns-in_ok-inner-clause-leads : goal.returns-in_ok-inner-clause-leads
unfolding turn_script
returns-in_ok-inner-clause-leads g c =
    let at = c.args.post.now in
    (record {
      on = λ from here.
          let node = rw (c.looking.ensures, node_is c.post.view_is) at
          (c.in_ok-found.ensures.on at from (after_node at)) here in
          c.in_ok-inner.ensures.reaches.on from (rw (
            sym c.is_finished.ensures ∙ c.if-is_finished.false,
            sym c.is_leaf.ensures ∙ c.if-not-is_leaf.true,
          ) at node);
    })

pub raise-requires : goal.raise-requires
unfolding turn_script
raise-requires g c =
    let at = c.args.post.now in
    let r = c.requires.here in
    let node = rw (c.looking.ensures, node_is c.post.view_is) at
    (c.in_ok-found.ensures.on at r.from (after_node at)) r.here in
    rw c.empty_mark.ensures (record {
      here = record {
        from = r.from;
        here = rw (
          sym c.is_finished.ensures ∙ c.if-is_finished.false,
          sym c.is_leaf.ensures ∙ c.if-not-is_leaf.false,
          sym c.has_rank.ensures.value ∙ c.if-has_rank.false,
        ) at node;
      };
    })

pub returns-in_err-raise-clause-leads : goal.returns-in_err-raise-clause-leads
unfolding turn_script
returns-in_err-raise-clause-leads g c =
    let at = c.args.post.now in
    rw (passed c.from_residual-in_err-raise.result _ c.from_residual-in_err-raise.ensures.1)
    (record {
      on = λ from here.
          let node = rw (c.looking.ensures, node_is c.post.view_is) at
          (c.in_ok-found.ensures.on at from (after_node at)) here in
          rw c.empty_mark.ensures at (c.in_err-raise.ensures.reaches.on from) (rw (
            sym c.is_finished.ensures ∙ c.if-is_finished.false,
            sym c.is_leaf.ensures ∙ c.if-not-is_leaf.false,
            sym c.has_rank.ensures.value ∙ c.if-has_rank.false,
          ) at node);
    })

pub returns-in_ok-raise-clause-leads : goal.returns-in_ok-raise-clause-leads
unfolding turn_script
returns-in_ok-raise-clause-leads g c =
    let at = c.args.post.now in
    (record {
      on = λ from here.
          let node = rw (c.looking.ensures, node_is c.post.view_is) at
          (c.in_ok-found.ensures.on at from (after_node at)) here in
          rw c.empty_mark.ensures at (c.in_ok-raise.ensures.reaches.on from) (rw (
            sym c.is_finished.ensures ∙ c.if-is_finished.false,
            sym c.is_leaf.ensures ∙ c.if-not-is_leaf.false,
            sym c.has_rank.ensures.value ∙ c.if-has_rank.false,
          ) at node);
    })

pub returns-in-Compact-clause-leads : goal.returns-in-Compact-clause-leads
unfolding turn_script
returns-in-Compact-clause-leads g c =
    let at = c.args.post.now in
    record {
      on = λ from here.
          let node = rw (c.looking.ensures, node_is c.post.view_is) at
          (c.in_ok-found.ensures.on at from (after_node at)) here in
          moved (g.S.Steps.stands at) from _ _ _ (part_first at c.requires.first)
          (moved (g.S.Steps.stands at) from _ _ _
          (form_compact at.layout.form (part_script at.job at.layout at.node at.phase 0 at_start)
          (ends (enters at.node at.phase))
          (form_is c.post.view_is ∙ sym c.form.ensures.value ∙ c.in-Compact.is))
          (rw (
            sym c.is_finished.ensures ∙ c.if-is_finished.false,
            sym c.is_leaf.ensures ∙ c.if-not-is_leaf.false,
            sym c.has_rank.ensures.value ∙ c.if-has_rank.true,
          ) at node));
    }

pub returns-in-Wide-clause-leads : goal.returns-in-Wide-clause-leads
unfolding turn_script
returns-in-Wide-clause-leads g c =
    let at = c.args.post.now in
    record {
      on = λ from here.
          let node = rw (c.looking.ensures, node_is c.post.view_is) at
          (c.in_ok-found.ensures.on at from (after_node at)) here in
          moved (g.S.Steps.stands at) from _ _ _
          (form_wide_of at.layout.form (part_script at.job at.layout at.node at.phase 0 at_start)
          (ends (enters at.node at.phase))
          (wide_is _ _ (form_is c.post.view_is ∙ sym c.form.ensures.value ∙ c.in-Wide.is)))
          (rw (
            sym c.is_finished.ensures ∙ c.if-is_finished.false,
            sym c.is_leaf.ensures ∙ c.if-not-is_leaf.false,
            sym c.has_rank.ensures.value ∙ c.if-has_rank.true,
          ) at node);
    }
