use Rattle.walkx.proofs.compare.report_if.Goals as goal

pub make-requires : goal.make-requires
make-requires g c =
    let at = c.args.leaf.now in
    let r = c.requires.next in
    rw c.reporting.ensures (
      at,
      record {
        from = r.from;
        after = r.after;
        next = λ found. r.next tt;
        here = rw c.if-conflict.true at r.here;
      },
    )
