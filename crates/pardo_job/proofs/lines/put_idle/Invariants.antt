use Rattle.std.proofs.Common.{◌≡◌, ◌++◌, length}
use Rattle.pardo_job.specs.Lines.{no_code}
use Rattle.pardo_job.proofs.lines.put_idle.Given as goal

abbrev pub invariant-loop-pad : goal.invariant-loop-pad
invariant-loop-pad l = l.code.items ≡ l.initial.code.items ++
    no_code (length l.initial.code.items) l._pad
