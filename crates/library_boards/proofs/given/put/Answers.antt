use Rattle.std.proofs.Common.{List, ℕ, ap, length, sym, arith}
use Rattle.library_boards.proofs.Giving.{within}
use Rattle.library_boards.proofs.given.put.Goals as goal

pub put_at-requires : goal.put_at-requires
put_at-requires c =
    let inside = within c.args.arrays.now 0 c.args.one.now.name.now c.in-Some.array.now
    c.requires.arrays (sym c.in-Some.ensures) in
    omega (
      arith,
      inside,
      c.requires.within,
      c.base-first.ensures,
      c.if-values-start.false,
      ap (λ (l : List ℕ). length l) c.start.ensures,
    )
