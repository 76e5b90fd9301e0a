use Rattle.std.proofs.Common.{◌≡◌, drop}
use Rattle.library_boards.specs.Givens.{put_all}
use Rattle.library_boards.proofs.given.put_all.Given as goal

abbrev pub invariant-loop-at : goal.invariant-loop-at
invariant-loop-at l = put_all l.arrays l.at (drop l.at l.given) l.cells ≡ put_all l.arrays 0 l.given l.fn.cells
