use Rattle.std.proofs.Common.{◌≡◌, ◌++◌, [], replicate}
use Rattle.pardo_program.specs.Program.{PrivateData}
use Rattle.pardo_program.proofs.program.push_nameless.Given as goal

abbrev pub invariant-loop-count : goal.invariant-loop-count
invariant-loop-count l = l.privates.items ≡ l.initial.privates.items
    ++ replicate {A = PrivateData} l._count (record { name = []; start = replicate l.procs 0 })
