use Rattle.walkx.specs.Scripts.{ends}
use Rattle.walkx.specs.Walk.{turns}
use Rattle.walk_memory.proofs.Posts.{node_is}
use Rattle.walkx.proofs.turns.raise.Goals as goal

pub make-requires : goal.make-requires
make-requires g c =
    let r = c.requires.here in
    let at = c.args.post.now in
    rw c.marking.ensures (
      at,
      record {
        from = r.from;
        after = ends (turns at.node at.phase);
        next = λ found. ends (turns at.node at.phase);
        here = r.here;
      },
    )

pub returns : goal.returns
returns g c =
    let at = c.args.post.now in
    rw (node_is c.post.view_is) (record {
      reaches = record {
        on = λ from here. rw c.marking.ensures at
            (c.in_ok-make.ensures.on at from (λ found. ends (turns at.node at.phase))) here;
      };
    })
