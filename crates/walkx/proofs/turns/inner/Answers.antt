use Rattle.std.proofs.Common.{◌+◌, ◌*◌, sym, ◌∙◌}
use Rattle.pram_words.specs.Words.{number_of}
use Rattle.pram_words.specs.declared.words.Word.TheVariants.{Node}
use Rattle.walkx.specs.declared.operation.Op.TheVariants.{Load}
use Rattle.walkx.specs.Scripts.{asks, ends}
use Rattle.walkx.proofs.Passing.{passed}
use Rattle.walkx.specs.Rests.{after_children}
use Rattle.walkx.specs.Walk.{turns}
use Rattle.walk_memory.proofs.Posts.{node_is}
use Rattle.walkx.proofs.turns.inner.Goals as goal

pub make-requires : goal.make-requires
make-requires g c =
    let at = c.args.post.now in
    let r = c.requires.here in
    rw (c.looking.ensures, c.left.ensures, node_is c.post.view_is) (
      at,
      record {
        from = r.from;
        after = ends (turns 0 at.phase);
        next = λ l.
            asks (Load (number_of at.layout (Node (2 * at.node + 1)))) (λ r. after_children at l r);
        here = r.here;
      },
    )

pub make-requires-2 : goal.make-requires-2
make-requires-2 g c =
    let at = c.args.post.now in
    let r = c.requires.here in
    let first = rw (c.looking.ensures, c.left.ensures, node_is c.post.view_is) at
    (c.in_ok-first.ensures.on at r.from
    (λ l. asks (Load (number_of at.layout (Node (2 * at.node + 1)))) (λ r. after_children at l r)))
    r.here in
    rw (c.looking-2.ensures, c.right.ensures, node_is c.post.view_is) (
      at,
      record {
        from = r.from;
        after = ends (turns 0 at.phase);
        next = after_children at c.in_ok-first.first;
        here = first;
      },
    )

pub returns-in_err-second : goal.returns-in_err-second
returns-in_err-second g c =
    let at = c.args.post.now in
    rw (passed c.from_residual-in_err-second.result _ c.from_residual-in_err-second.ensures.1)
    (record {
      reaches = record {
        on = λ from here.
            let first = rw (c.looking.ensures, c.left.ensures, node_is c.post.view_is) at
            (c.in_ok-first.ensures.on at from (λ l. asks (Load
            (number_of at.layout (Node (2 * at.node + 1)))) (λ r. after_children at l r))) here in
            rw (c.looking-2.ensures, c.right.ensures, node_is c.post.view_is) at
            (c.in_err-second.ensures.on at from (after_children at c.in_ok-first.first)) first;
      };
    })

pub mark_inner-requires-clause-here : goal.mark_inner-requires-clause-here
mark_inner-requires-clause-here g c =
    let at = c.args.post.now in
    let r = c.requires.here in
    let first = rw (c.looking.ensures, c.left.ensures, node_is c.post.view_is) at
    (c.in_ok-first.ensures.on at r.from
    (λ l. asks (Load (number_of at.layout (Node (2 * at.node + 1)))) (λ r. after_children at l r)))
    r.here in
    let second = rw (c.looking-2.ensures, c.right.ensures, node_is c.post.view_is) at
    (c.in_ok-second.ensures.on at r.from (after_children at c.in_ok-first.first)) first in
    record {
      from = r.from;
      here = rw (sym c.both_finished.ensures ∙ c.if-both_finished.true) at second;
    }

pub stand-requires : goal.stand-requires
stand-requires g c =
    let at = c.args.post.now in
    let r = c.requires.here in
    let first = rw (c.looking.ensures, c.left.ensures, node_is c.post.view_is) at
    (c.in_ok-first.ensures.on at r.from
    (λ l. asks (Load (number_of at.layout (Node (2 * at.node + 1)))) (λ r. after_children at l r)))
    r.here in
    let second = rw (c.looking-2.ensures, c.right.ensures, node_is c.post.view_is) at
    (c.in_ok-second.ensures.on at r.from (after_children at c.in_ok-first.first)) first in
    rw c.down.ensures (record {
      here = record {
        from = r.from;
        here = rw (sym c.both_finished.ensures ∙ c.if-both_finished.false) at second;
      };
    })

pub returns-then-both_finished : goal.returns-then-both_finished
returns-then-both_finished g c =
    let at = c.args.post.now in
    record {
      reaches = record {
        on = λ from here.
            let first = rw (c.looking.ensures, c.left.ensures, node_is c.post.view_is) at
            (c.in_ok-first.ensures.on at from (λ l. asks (Load
            (number_of at.layout (Node (2 * at.node + 1)))) (λ r. after_children at l r))) here in
            let second = rw (c.looking-2.ensures, c.right.ensures, node_is c.post.view_is) at
            (c.in_ok-second.ensures.on at from (after_children at c.in_ok-first.first)) first in
            c.mark_inner.ensures.reaches.on from
            (rw (sym c.both_finished.ensures ∙ c.if-both_finished.true) at second);
      };
    }

pub returns-else-both_finished : goal.returns-else-both_finished
returns-else-both_finished g c =
    let at = c.args.post.now in
    record {
      reaches = record {
        on = λ from here.
            let first = rw (c.looking.ensures, c.left.ensures, node_is c.post.view_is) at
            (c.in_ok-first.ensures.on at from (λ l. asks (Load
            (number_of at.layout (Node (2 * at.node + 1)))) (λ r. after_children at l r))) here in
            let second = rw (c.looking-2.ensures, c.right.ensures, node_is c.post.view_is) at
            (c.in_ok-second.ensures.on at from (after_children at c.in_ok-first.first)) first in
            rw c.down.ensures at (c.stand.ensures.reaches.on from)
            (rw (sym c.both_finished.ensures ∙ c.if-both_finished.false) at second);
      };
    }
