use Rattle.walkx.proofs.request.raise_part.Goals as goal

pub make-requires : goal.make-requires
make-requires g c =
    let r = c.requires.next in
    rw c.raise.ensures (
      c.args.leaf.now,
      record { from = r.from; after = r.after; next = λ found. r.next tt; here = r.here },
    )

pub returns : goal.returns
returns g c = record {
  plays = record {
    on = λ from after next here. rw c.raise.ensures at
        (c.in_ok-make.ensures.on c.args.leaf.now from (λ found. next tt)) here;
  };
}
