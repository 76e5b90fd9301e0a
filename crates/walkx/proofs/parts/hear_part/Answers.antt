use Rattle.std.proofs.Common.{arith, sym, ◌∙◌, ◌==◌, if◌then◌else◌}
use Rattle.pram_words.specs.Stamps.{stamp_of, payload_of}
use Rattle.walk_memory.proofs.Boards.{asked_part}
use Rattle.walk_memory.specs.Inner.Posts.{step_of, processor_of}
use Rattle.walkx.proofs.parts.hear_part.Goals as goal

pub make-requires : goal.make-requires
make-requires g c =
    let at = c.args.leaf.now in
    let r = c.requires.next in
    rw c.request_word.ensures (
      at,
      record {
        from = r.from;
        after = r.after;
        next = λ found. if stamp_of found == step_of at then r.next (payload_of found) else r.after;
        here = r.here;
      },
    )

pub returns-then-is_of-clause-most : goal.returns-then-is_of-clause-most
returns-then-is_of-clause-most g c =
    let at = c.args.leaf.now in
    let limits = c.is_of.ensures.limits in
    let r = c.requires.next in
    let admitted = rw c.request_word.ensures at (c.in_ok-found.ensures.admitted at) (record {
      from = r.from;
      after = r.after;
      next = λ found. if stamp_of found == step_of at then r.next (payload_of found) else r.after;
      here = r.here;
    }) in
    rw c.payload.ensures (asked_part at.job at.layout (processor_of at) c.args.j _ limits.board
    c.requires.compact (omega (arith, limits.first, limits.last)) c.requires.part admitted)

pub returns-then-is_of-clause-plays : goal.returns-then-is_of-clause-plays
returns-then-is_of-clause-plays g c =
    let at = c.args.leaf.now in
    rw c.payload.ensures (record {
      on = λ from after next here.
          rw (sym c.is_of.ensures.value ∙ c.if-is_of.true) at
          (rw c.request_word.ensures at (c.in_ok-found.ensures.on at from
          (λ found. if stamp_of found == step_of at then next (payload_of found) else after)) here);
    })

pub returns-else-is_of-clause-plays : goal.returns-else-is_of-clause-plays
returns-else-is_of-clause-plays g c =
    let at = c.args.leaf.now in
    record {
      on = λ from after next here.
          rw (sym c.is_of.ensures.value ∙ c.if-is_of.false) at
          (rw c.request_word.ensures at (c.in_ok-found.ensures.on at from
          (λ found. if stamp_of found == step_of at then next (payload_of found) else after)) here);
    }
