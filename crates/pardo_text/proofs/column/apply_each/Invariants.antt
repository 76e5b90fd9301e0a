use Rattle.std.proofs.Common.{◌≡◌, ◌++◌, drop, take, Ok}
use Rattle.pardo_text.specs.Inner.Columns.{quotients}
use Rattle.text_lines.specs.Reads.{◌>>=◌}
use Rattle.pardo_text.proofs.column.apply_each.Given as goal

abbrev pub invariant-loop-k : goal.invariant-loop-k
invariant-loop-k l = quotients l.op l.initial.values l.others
    ≡ (quotients l.op (drop l.k l.values) (drop l.k l.others) >>= λ rest.
    Ok (take l.k l.values ++ rest))
