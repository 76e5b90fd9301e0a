use Rattle.std.proofs.Common.{List, ap, arith, subst, sym}
use Rattle.pardo_program.specs.Lawful.{AreArrays}
use Rattle.pardo_program.specs.Program.{ArrayData, shared_cells}
use Rattle.library_boards.proofs.Giving.{within}
use Rattle.library_boards.proofs.place.place_in.Goals as goal

pub place_told-requires : goal.place_told-requires
place_told-requires c =
    let inside = within c.arrays.result.now 0 c.args.name.now c.in-Some.array.now
    (subst (λ (l : List ArrayData). AreArrays l 0) (sym c.arrays.ensures) c.requires.arrays)
    (sym c.in-Some.ensures) in
    omega (arith, inside, ap shared_cells c.arrays.ensures, c.requires.cells)
