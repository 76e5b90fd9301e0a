use Rattle.std.proofs.Common.{◌≡◌, ◌++◌, drop, take}
use Rattle.pardo_program.specs.Tests.{lines_untested}
use Rattle.pardo_program.proofs.untested.leave_out_of_lines.Given as goal

-- the lines so far are without tests
abbrev pub invariant-loop-line : goal.invariant-loop-line
invariant-loop-line l =
    take l.line-index l.lines ++ lines_untested l.so_far (drop l.line-index l.lines)
    ≡ lines_untested l.fn.known l.initial.lines
