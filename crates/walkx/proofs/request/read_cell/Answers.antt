use Rattle.std.proofs.Common.{sym, ◌∙◌}
use Rattle.walkx.proofs.request.read_cell.Goals as goal

pub read_place-requires-clause-next : goal.read_place-requires-clause-next
read_place-requires-clause-next g c =
    let r = c.requires.next in
    record {
      from = r.from;
      after = r.after;
      next = r.next;
      here = rw (sym c.cell_of.ensures.value ∙ c.in-Some.is) at r.here;
    }
