use Rattle.std.proofs.Common.{◌≡◌, ◌++◌, decimal, drop, map, string_bytes}
use Rattle.job_text.specs.Inner.Printing.{spaced}
use Rattle.job_text.proofs.runs.push_run.Given as goal

-- the values so far and those to come are all values
abbrev pub invariant-loop-value : goal.invariant-loop-value
invariant-loop-value l =
    string_bytes l.text ++ spaced (map (λ value. decimal value) (drop l.value-index l.run))
    ≡ string_bytes l.initial.text ++ spaced (map (λ value. decimal value) l.run)
