use Rattle.std.proofs.Common.{arith, codes}
use Rattle.clap.specs.Words.{found_of, one_text}
use Rattle.clap.proofs.WalkLemmas.{one_text-rows}
use Rattle.command_line.proofs.Matches.{number_of}
use Rattle.command_line.proofs.options.workers_of.Goals as goal

pub returns : goal.returns
returns c =
    let found = found_of c.args.inner.now in
    rw (← one_text-rows found (codes "workers"))
    (number_of (one_text found (codes "workers")) _ c.in_ok-count.ensures.none
    (λ text is. (c.in_ok-count.ensures.value text is).0.1))

pub invariant_of-result : goal.invariant_of-result
invariant_of-result c = record { some = omega arith; most = omega arith }
