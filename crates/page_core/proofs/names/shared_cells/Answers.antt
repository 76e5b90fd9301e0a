use Rattle.std.proofs.Common.{◌≡◌, ◌+◌, ◌-◌, ◌<◌, length, slice_get, Some, ap, sym, arith}
use Rattle.std.proofs.lemmas.Option.{slice_get_within}
use Rattle.pardo_program.specs.Program.{shared_cells}
use Rattle.page_core.proofs.Telling.{shared_end}
use Rattle.page_core.proofs.names.shared_cells.Goals as goal

pub overflow_add-result : goal.overflow_add-result
overflow_add-result c =
    let arrays = c.args.arrays.now in
    let last = c.in-Some.array.now in
    let at : slice_get arrays (length arrays - 1) ≡ Some last = sym c.in-Some.ensures.value in
    let some : length arrays - 1 < length arrays =
    slice_get_within arrays (length arrays - 1) last at in
    let end : 0 + shared_cells arrays ≡ last.base + length last.start =
    shared_end arrays 0 (length arrays - 1) last c.requires.lawful (omega (arith, some)) at in
    omega (arith, end, c.base.ensures, ap length c.start.ensures, c.requires.few)

pub returns-in-Some : goal.returns-in-Some
returns-in-Some c =
    let arrays = c.args.arrays.now in
    let last = c.in-Some.array.now in
    let at : slice_get arrays (length arrays - 1) ≡ Some last = sym c.in-Some.ensures.value in
    let some : length arrays - 1 < length arrays =
    slice_get_within arrays (length arrays - 1) last at in
    let end : 0 + shared_cells arrays ≡ last.base + length last.start =
    shared_end arrays 0 (length arrays - 1) last c.requires.lawful (omega (arith, some)) at in
    omega (arith, end, c.base.ensures, ap length c.start.ensures)
