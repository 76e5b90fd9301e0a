use Rattle.std.proofs.Common.{◌≡◌, ◌++◌, drop, map, take}
use Rattle.std.specs.Prelude.{slice_index}
use Rattle.pardo_flat.specs.Inner.Flats.{moved_line}
use Rattle.pardo_flat.proofs.flat.move_lines.Given as goal

abbrev pub invariant-loop-line : goal.invariant-loop-line
invariant-loop-line l = l.lines
    ≡ map (moved_line (slice_index l.firsts)) (take l.line-index l.initial.lines)
    ++ drop l.line-index l.initial.lines
