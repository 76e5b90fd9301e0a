use Rattle.std.proofs.Common.{sym, ap}
use Rattle.walkx.proofs.Turning.{moved}
use Rattle.walkx.specs.Scripts.{ends}
use Rattle.walkx.specs.Walk.{Then, begins}
use Rattle.walkx.proofs.begins.back.Goals as goal

pub make-requires : goal.make-requires
make-requires g c =
    let at = c.args.post.now in
    let r = c.requires.here in
    rw c.position_look.ensures.value (
      at,
      record { from = r.from; after = ends (begins 0); next = λ n. ends (begins n); here = r.here },
    )

pub at_node-requires : goal.at_node-requires
at_node-requires g c =
    let at = c.args.post.now in
    let r = c.requires.here in
    rw c.position_look.ensures.value at (c.in_ok-found.ensures.admitted at)
    (record { from = r.from; after = ends (begins 0); next = λ n. ends (begins n); here = r.here })

pub returns : goal.returns
returns g c =
    let at = c.args.post.now in
    record {
      on = λ from here.
          moved (g.S.Steps.stands at) from _ _ _
          (ap (λ (t : Then). ends t) (sym c.at_node.ensures))
          (rw c.position_look.ensures.value at
          (c.in_ok-found.ensures.on at from (λ n. ends (begins n))) here);
    }
