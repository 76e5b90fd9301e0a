use Rattle.walkx.proofs.wide_own.write_if.Goals as goal

pub write_place-requires-clause-next : goal.write_place-requires-clause-next
write_place-requires-clause-next g c =
    let r = c.requires.next in
    record {
      from = r.from;
      after = r.after;
      next = r.next;
      here = rw c.if-so.true at r.here;
    }
