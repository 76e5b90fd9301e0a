use Rattle.std.proofs.Common.{sym, ap, ◌∙◌}
use Rattle.walk_memory.proofs.Boards.{root_most}
use Rattle.walkx.proofs.Passing.{passed}
use Rattle.walkx.proofs.Turning.{moved}
use Rattle.walkx.specs.Scripts.{ends}
use Rattle.walkx.specs.Walk.{Then, begins, begin_script}
use Rattle.walkx.specs.Rests.{after_root}
use Rattle.walkx.proofs.begins.begin.Goals as goal

pub make-requires : goal.make-requires
unfolding begin_script
make-requires g c =
    let at = c.args.post.now in
    let r = c.requires.here in
    rw c.root_look.ensures.value
    (at, record { from = r.from; after = ends (begins 0); next = after_root at; here = r.here })

pub look_for_conflict-requires-clause-root : goal.look_for_conflict-requires-clause-root
unfolding begin_script
look_for_conflict-requires-clause-root g c =
    let at = c.args.post.now in
    let r = c.requires.here in
    root_most at.job at.layout _ c.root_look.ensures.limits.board
    (rw c.root_look.ensures.value at (c.in_ok-root.ensures.admitted at)
    (record { from = r.from; after = ends (begins 0); next = after_root at; here = r.here }))

pub look_for_conflict-requires-clause-here : goal.look_for_conflict-requires-clause-here
unfolding begin_script
look_for_conflict-requires-clause-here g c =
    let at = c.args.post.now in
    let r = c.requires.here in
    record {
      from = r.from;
      here = rw (sym c.is_whole.ensures ∙ c.if-is_whole.true) at
          (rw c.root_look.ensures.value at
          (c.in_ok-root.ensures.on at r.from (after_root at)) r.here);
    }

pub returns-then-is_whole : goal.returns-then-is_whole
unfolding begin_script
returns-then-is_whole g c = let at = c.args.post.now in record {
  reaches = record {
    on = λ from here.
        c.look_for_conflict.ensures.reaches.on from
        (rw (sym c.is_whole.ensures ∙ c.if-is_whole.true) at
        (rw c.root_look.ensures.value at (c.in_ok-root.ensures.on at from (after_root at)) here));
  };
}

pub next_turn-requires : goal.next_turn-requires
unfolding begin_script
next_turn-requires g c =
    let at = c.args.post.now in
    let r = c.requires.here in
    root_most at.job at.layout _ c.root_look.ensures.limits.board
    (rw c.root_look.ensures.value at (c.in_ok-root.ensures.admitted at)
    (record { from = r.from; after = ends (begins 0); next = after_root at; here = r.here }))

pub returns-else-is_whole : goal.returns-else-is_whole
unfolding begin_script
returns-else-is_whole g c = let at = c.args.post.now in record {
  reaches = record {
    on = λ from here.
        moved (g.S.Steps.stands at) from _ _ _ (ap (λ (t : Then). ends t) (sym c.next_turn.ensures))
        (rw (sym c.is_whole.ensures ∙ c.if-is_whole.false) at
        (rw c.root_look.ensures.value at (c.in_ok-root.ensures.on at from (after_root at)) here));
  };
}

pub returns-in_err-root : goal.returns-in_err-root
unfolding begin_script
returns-in_err-root g c =
    let at = c.args.post.now in
    rw (passed c.from_residual.result _ c.from_residual.ensures.1) (record {
      reaches = record {
        on = λ from here.
            rw c.root_look.ensures.value at (c.in_err-root.ensures.on at from (after_root at)) here;
      };
    })
