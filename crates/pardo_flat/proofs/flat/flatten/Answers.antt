use Rattle.std.proofs.Common.{◌∙◌, ◌+◌, ap, arith, List, map, refl, ℕ}
use Rattle.std.specs.Prelude.{slice_index}
use Rattle.pardo_flat.specs.Inner.Flats.{moved_line}
use Rattle.pardo_flat.proofs.Flats.{few_loops, flat_whole, too_wide}
use Rattle.pardo_flat.proofs.flat.flatten.Goals as goal

pub returns-then-not-has_rows : goal.returns-then-not-has_rows
returns-then-not-has_rows c =
    too_wide c.args.program.now c.requires c.in_ok-lines.field-0 c.in_ok-of.field-0
    c.has_rows-2.result c.in_ok-lines.ensures c.in_ok-of.ensures c.has_rows-2.ensures
    c.if-not-has_rows.true

pub overflow_add-loops : goal.overflow_add-loops
overflow_add-loops c =
    let few = few_loops c.args.program.now c.requires c.in_ok-lines.field-0 c.in_ok-of.field-0
    c.has_rows-2.result c.in_ok-lines.ensures c.in_ok-of.ensures c.has_rows-2.ensures
    c.if-not-has_rows.false in omega (arith, few, c.loops.ensures)

pub returns : goal.returns
returns c =
    flat_whole c.args.program.now c.requires c.in_ok-lines.field-0 c.in_ok-of.field-0
    c.has_rows-2.result c.in_ok-lines.ensures c.in_ok-of.ensures c.has_rows-2.ensures _ _ _
    c.if-not-has_rows.false
    (ap (λ n. n + c.in_ok-lines.field-0.loops) c.loops.ensures)
    (c.moved_lines-lines.ensures
    ∙ ap (λ (l : List ℕ). map (moved_line (slice_index l)) c.in_ok-lines.field-0.lines.items)
    c.deref.ensures.value)
    c.in_ok-program.ensures refl

pub returns-then-enough : goal.returns-then-enough
returns-then-enough c = c.in_ok-enough.ensures c.if-enough.true
