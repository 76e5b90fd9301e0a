use Rattle.std.proofs.Common.{◌≡◌, ℕ, ◌+◌, ◌<◌, List, [], ◌∷◌, ◌++◌, length, map, take, get_or}
use Rattle.std.proofs.Common.{subst, ap, sym, ◌∙◌, arith}
use Rattle.pram_job.specs.declared.instr.Array.{Array}
use Rattle.pardo_program.specs.Program.{ArrayData, PrivateData, shared_cells}
use Rattle.pardo_flat.specs.Layouts.{cells_of_array, program_layout}
use Rattle.pardo_flat.proofs.Sharing.{IsPart, part_of, cells_at, cells_same, layout_same}
use Rattle.std.proofs.lemmas.List.{take_all}
use Rattle.pardo_flat.proofs.layout.Layout.of.Goals as goal

pub overflow_cast-len : goal.overflow_cast-len
overflow_cast-len c =
    let arrays = c.args.program.now.arrays in
    let k = c.loop-array.array-index in
    let lt : k < length arrays = subst (λ (xs : List ArrayData). k < length xs)
    c.arrays-array-items.ensures c.loop-array-test.true in
    let item : c.array-item.result ≡ get_or arrays k c.array-item.result =
    subst (λ (xs : List ArrayData). c.array-item.result ≡ get_or xs k c.array-item.result)
    c.arrays-array-items.ensures c.array-item.is in
    let part : IsPart arrays 0 k (k + 1) (get_or arrays k c.array-item.result) =
    part_of arrays k 0 c.array-item.result lt c.requires.arrays in
    let len : length c.start.result.now ≡ length (get_or arrays k c.array-item.result).start =
    ap (λ (xs : List ℕ). length xs) c.start.ensures ∙
    ap (λ (a : ArrayData). length a.start) item in
    omega (arith, len, part.more, part.few, c.requires.cells)

pub overflow_add-shared : goal.overflow_add-shared
overflow_add-shared c =
    let arrays = c.args.program.now.arrays in
    let k = c.loop-array.array-index in
    let lt : k < length arrays = subst (λ (xs : List ArrayData). k < length xs)
    c.arrays-array-items.ensures c.loop-array-test.true in
    let item : c.array-item.result ≡ get_or arrays k c.array-item.result =
    subst (λ (xs : List ArrayData). c.array-item.result ≡ get_or xs k c.array-item.result)
    c.arrays-array-items.ensures c.array-item.is in
    let part : IsPart arrays 0 k (k + 1) (get_or arrays k c.array-item.result) =
    part_of arrays k 0 c.array-item.result lt c.requires.arrays in
    let len : length c.start.result.now ≡ length (get_or arrays k c.array-item.result).start =
    ap (λ (xs : List ℕ). length xs) c.start.ensures ∙
    ap (λ (a : ArrayData). length a.start) item in
    omega (arith, len, part.more, part.few, c.requires.cells, c.loop-array.invariant.shared)

pub loop-array-preserved : goal.loop-array-preserved
loop-array-preserved c =
    let arrays = c.args.program.now.arrays in
    let k = c.loop-array.array-index in
    let lt : k < length arrays = subst (λ (xs : List ArrayData). k < length xs)
    c.arrays-array-items.ensures c.loop-array-test.true in
    let item : c.array-item.result ≡ get_or arrays k c.array-item.result =
    subst (λ (xs : List ArrayData). c.array-item.result ≡ get_or xs k c.array-item.result)
    c.arrays-array-items.ensures c.array-item.is in
    let part : IsPart arrays 0 k (k + 1) (get_or arrays k c.array-item.result) =
    part_of arrays k 0 c.array-item.result lt c.requires.arrays in
    let len : length c.start.result.now ≡ length (get_or arrays k c.array-item.result).start =
    ap (λ (xs : List ℕ). length xs) c.start.ensures ∙
    ap (λ (a : ArrayData). length a.start) item in
    let base : c.loop-array.shared ≡ (get_or arrays k c.array-item.result).base =
    omega (arith, part.begins, c.loop-array.invariant.shared) in
    record {
      shared = omega (arith, len, part.more, c.loop-array.invariant.shared);
      arrays = c.in_ok-push.ensures.items
          ∙ ap (λ (xs : List Array). xs ++
          cells_at c.loop-array.shared (length c.start.result.now) ∷ [])
          c.loop-array.invariant.arrays
          ∙ ap (λ (x : Array). map cells_of_array (take k arrays) ++ x ∷ [])
          (cells_same _ _ (get_or arrays k c.array-item.result) base len)
          ∙ sym part.cells;
    }

pub returns : goal.returns
unfolding program_layout
returns c =
    let arrays = c.args.program.now.arrays in
    let k = c.loop-array.array-index in
    let same : length c.arrays-array-items.result.now ≡ length arrays =
    ap (λ (xs : List ArrayData). length xs) c.arrays-array-items.ensures in
    let all : take k arrays ≡ arrays = take_all k arrays (omega (arith, same)) in
    layout_same c.loop-array.arrays.items (map cells_of_array arrays) _ _ _ _ _ _ _ _ _ _
    (c.loop-array.invariant.arrays ∙ ap (λ (xs : List ArrayData). map cells_of_array xs) all)
    (c.loop-array.invariant.shared ∙ ap (λ (xs : List ArrayData). shared_cells xs) all)
    c.procs.ensures
    (ap (λ (xs : List PrivateData). length xs) c.privates.ensures)
    c.loops.ensures
    c.choices.ensures
