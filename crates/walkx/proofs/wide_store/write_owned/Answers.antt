use Rattle.std.proofs.Common.{sym, ◌∙◌}
use Rattle.walkx.proofs.wide_store.write_owned.Goals as goal

pub write_place-requires-clause-next : goal.write_place-requires-clause-next
write_place-requires-clause-next g c =
    let r = c.requires.next in
    record {
      from = r.from;
      after = r.after;
      next = r.next;
      here = rw (sym c.is_own.ensures ∙ c.if-is_own.true) at r.here;
    }
