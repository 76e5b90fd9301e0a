use Rattle.std.proofs.Common.{◌≡◌, ◌++◌, take}
use Rattle.pram_run.specs.Printed.{sight_lines}
use Rattle.pram_run.proofs.print.sights_between.Given as goal

-- the lines so far are written
abbrev pub invariant-loop-index : goal.invariant-loop-index
invariant-loop-index g l =
    sight_lines (g.C.CellNames.words l.names) (take l.start l.sights) ++ l.lines.items
    ≡ sight_lines (g.C.CellNames.words l.names) (take l.index l.sights)
