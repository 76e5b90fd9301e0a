use Rattle.std.proofs.Common.{◌≡◌, ◌+◌, ◌-◌, arith, rules, subst}
use Rattle.pram_step.specs.Runs.{IsStateAfter}
use Rattle.pram_rows.specs.Inner.Printing.{TakesBut}
use Rattle.pram_rows.proofs.Lines.{but-begins, no-rows, row-begins, row-taken}
use Rattle.pram_rows.proofs.Reaching.{disputed}
use Rattle.pram_rows.proofs.Spans.{has-all, has-disputed, has-next, on_err, rows-all, rows-begin}
use Rattle.pram_rows.proofs.print.show_span.Goals as goal

pub loop-made-init : goal.loop-made-init
loop-made-init g c =
    let span = c.args.span.now in
    record {
      unfailed = c.requires.sink;
      after = c.requires.after;
      put = no-rows (g.R.Rows.rows c.args.rows.now) span.job.now _ span.first (span.first - span.first)
          _ c.new-left.ensures.items (omega arith);
    }

pub returns-in_err-left-clause-beginning : goal.returns-in_err-left-clause-beginning
returns-in_err-left-clause-beginning g c =
    let span = c.args.span.now in
    let made = c.loop-made.made in
    on_err _ (rows-begin (g.R.Rows.rows c.args.rows.now) span _ _ (made + 1)
    (has-next (g.R.Rows.rows c.args.rows.now) span made c.loop-made.invariant.after.reached (omega arith))
    (row-begins (g.R.Rows.rows c.args.rows.now) span.job.now _ _ span.first (made - span.first)
    (made + 1 - span.first) made _ c.loop-made.invariant.put (omega arith) (omega arith) _
    c.in_err-left.ensures.beginning))

pub returns-in_err-fault-clause-beginning : goal.returns-in_err-fault-clause-beginning
returns-in_err-fault-clause-beginning g c =
    let span = c.args.span.now in
    let made = c.loop-made.made in
    on_err _ (rows-begin (g.R.Rows.rows c.args.rows.now) span _ _ (made + 1)
    (has-next (g.R.Rows.rows c.args.rows.now) span made c.loop-made.invariant.after.reached (omega arith))
    (but-begins _ _ _ _ (row-taken (g.R.Rows.rows c.args.rows.now) span.job.now _ _ span.first
    (made - span.first) (made + 1 - span.first) made _ c.loop-made.invariant.put (omega arith)
    (omega arith) _ _ c.in_ok-left.ensures.ok)))

pub returns-in-Some-clause-arrival : goal.returns-in-Some-clause-arrival
returns-in-Some-clause-arrival g c =
    let made = disputed _ _ _ _ c.in-Some.fault c.in-Some.is c.in_ok-fault.ensures in
    let step = made.1 in
    (made.0, omega (arith, step))

pub returns-in-Some-clause-rows : goal.returns-in-Some-clause-rows
returns-in-Some-clause-rows g c =
    let span = c.args.span.now in
    let made = c.loop-made.made in
    let stopped = disputed _ _ _ _ c.in-Some.fault c.in-Some.is c.in_ok-fault.ensures in
    let step = stopped.1 in
    rows-all (g.R.Rows.rows c.args.rows.now) span (TakesBut _ _ _) c.in-Some.fault.step
    (has-disputed (g.R.Rows.rows c.args.rows.now) span c.in-Some.fault stopped.0 (omega (arith, step)))
    (row-taken (g.R.Rows.rows c.args.rows.now) span.job.now _ _ span.first (made - span.first)
    (c.in-Some.fault.step - span.first) made _ c.loop-made.invariant.put (omega (arith, step))
    (omega arith) _ _ c.in_ok-left.ensures.ok)

pub loop-made-preserved : goal.loop-made-preserved
loop-made-preserved g c =
    let span = c.args.span.now in
    let made = c.loop-made.made in
    record {
      unfailed = search rules;
      after = search rules;
      put = row-taken (g.R.Rows.rows c.args.rows.now) span.job.now _ _ span.first (made - span.first)
          (made + 1 - span.first) made _ c.loop-made.invariant.put (omega arith) (omega arith) _ _
          c.in_ok-left.ensures.ok;
    }

pub returns-clause-arrival : goal.returns-clause-arrival
returns-clause-arrival g c =
    let span = c.args.span.now in
    let all : c.loop-made.made ≡ span.end = omega arith in
    subst (λ n. IsStateAfter span.job.now n c.loop-made.state) all c.loop-made.invariant.after

pub returns-clause-rows : goal.returns-clause-rows
returns-clause-rows g c =
    let span = c.args.span.now in
    rows-all (g.R.Rows.rows c.args.rows.now) span (TakesBut _ _ _) c.loop-made.made
    (has-all (g.R.Rows.rows c.args.rows.now) span c.loop-made.made c.loop-made.invariant.after.reached (omega arith))
    c.loop-made.invariant.put
