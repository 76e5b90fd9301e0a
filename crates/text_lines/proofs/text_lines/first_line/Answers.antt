use Rattle.std.proofs.Common.{arith}
use Rattle.text_lines.proofs.Splitting.{lines_none, lines_some, after_feed}
use Rattle.text_lines.proofs.text_lines.first_line.Goals as goal

pub returns-in-None-clause-lines : goal.returns-in-None-clause-lines
returns-in-None-clause-lines c = lines_none _ (λ k low. c.in-None.ensures k (omega arith) low)

pub returns-in-Some-clause-lines : goal.returns-in-Some-clause-lines
returns-in-Some-clause-lines c =
    let first = c.in-Some.ensures in
    rw (
      c.split_at.ensures.front,
      c.split_at.ensures.back,
      after_feed c.args.text.now c.in-Some.end first.0.high,
    )
    (lines_some c.args.text.now c.in-Some.end first.0.high first.1
    (λ j less. first.0.before j (omega arith) less))
