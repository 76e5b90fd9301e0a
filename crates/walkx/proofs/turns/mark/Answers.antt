use Rattle.std.proofs.Common.{◌∙◌}
use Rattle.walkx.specs.Inner.Posts.{then_marks}
use Rattle.walkx.specs.Scripts.{ends}
use Rattle.walkx.specs.Walk.{bounded_mark, turns}
use Rattle.walkx.proofs.Turning.{jumps_is, moved, raises_first, raises_none}
use Rattle.walkx.proofs.turns.mark.Goals.{then-jumps+in_ok-make, else-jumps}
use Rattle.walkx.proofs.turns.mark.Goals as goal

pub make-requires : goal.make-requires
make-requires g c =
    let at = c.args.post.now in
    let r = c.requires.here in
    let is = jumps_is at c.args.reach c.jumps.result c.requires.wide c.jumps.ensures
    ∙ c.if-jumps.true in
    rw c.jumping.ensures (
      at,
      record {
        from = r.from;
        after = ends (turns at.node at.phase);
        next = λ found. then_marks at (bounded_mark at.node at.phase c.args.reach);
        here = moved (g.S.Steps.stands at) r.from _ _ _ (raises_first at c.args.reach is) r.here;
      },
    )

pub raise-requires : goal.raise-requires
raise-requires g c =
    let at = c.args.post.now in
    let r = c.requires.here in
    let is = jumps_is at c.args.reach c.jumps.result c.requires.wide c.jumps.ensures in
    rw c.bounded.ensures (record {
      here = record {
        from = r.from;
        here = elim c.if-jumps.branch [
          | then-jumps+in_ok-make w ↦ rw w.steps-is (rw w.jumping.ensures at
              (w.in_ok-make.ensures.on at r.from
              (λ found. then_marks at (bounded_mark at.node at.phase c.args.reach)))
              (moved (g.S.Steps.stands at) r.from _ _ _
              (raises_first at c.args.reach (is ∙ w.if-jumps.true)) r.here))
          | else-jumps w ↦ rw w.steps-is (moved (g.S.Steps.stands at) r.from _ _ _
              (raises_none at c.args.reach (is ∙ w.if-jumps.false)) r.here)
        ];
      };
    })
