use Rattle.std.proofs.Common.{◌≡◌, ◌+◌, ◌++◌, length, string_bytes, IfSome}
use Rattle.job_text.specs.Inner.Printing.{runs_after}
use Rattle.job_text.specs.Printed.{init_lines, lines_text, run_lines}
use Rattle.job_text.proofs.runs.push_runs.Given as goal

-- the lines so far and those to come are all lines
abbrev pub invariant-loop-rest : goal.invariant-loop-rest
invariant-loop-rest l = record {
  counted : IfSome l.rest (λ rest. l.cell + length rest.now ≡ length l.init);
  printed : string_bytes l.text ++ lines_text (run_lines l.cell (runs_after l.rest))
      ≡ string_bytes l.fn.text ++ lines_text (init_lines l.init);
}

abbrev pub decreases-loop-rest : goal.decreases-loop-rest
decreases-loop-rest l = length (runs_after l.rest)
