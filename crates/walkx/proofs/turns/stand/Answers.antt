use Rattle.walkx.specs.Scripts.{ends}
use Rattle.walkx.specs.Walk.{turns}
use Rattle.walkx.proofs.turns.stand.Goals as goal

pub make-requires : goal.make-requires
make-requires g c =
    let r = c.requires.here in
    let at = c.args.post.now in
    rw c.standing.ensures (
      at,
      record {
        from = r.from;
        after = ends (turns c.args.to at.phase);
        next = λ found. ends (turns c.args.to at.phase);
        here = r.here;
      },
    )

pub returns : goal.returns
returns g c =
    let at = c.args.post.now in
    record {
      reaches = record {
        on = λ from here. rw c.standing.ensures at
            (c.in_ok-make.ensures.on at from (λ found. ends (turns c.args.to at.phase))) here;
      };
    }
