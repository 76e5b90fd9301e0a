use Rattle.std.proofs.Common.{◌≡◌, ◌-◌, arith, subst, sym}
use Rattle.std.proofs.KnownBytes.{Appends-nil}
use Rattle.std.specs.Io.KnownBytes.{Appends}
use Rattle.pram_step.specs.Arrivals.{IsArrival}
use Rattle.pram_rows.specs.StepRows.{rows_after}
use Rattle.pram_rows.proofs.Spans.{has-disputed, none-begins, on_err, rows-all}
use Rattle.pram_rows.proofs.print.print_span.Goals as goal

pub returns-in_err-state-clause-beginning : goal.returns-in_err-state-clause-beginning
returns-in_err-state-clause-beginning g c =
    on_err _ (none-begins (g.R.Rows.rows c.args.rows.now) c.args.span.now (g.W.Sink.taken c.args.sink.now))

pub returns-in-Disputed-clause-arrival : goal.returns-in-Disputed-clause-arrival
returns-in-Disputed-clause-arrival g c =
    let span = c.args.span.now in
    let stopped = subst (IsArrival span.job.now span.first span.first) c.in-Disputed.is
    c.in_ok-state.ensures in
    let within = stopped.1 in
    let ordered = span.ordered in
    (stopped.0, omega (arith, within, ordered))

pub returns-in-Disputed-clause-rows : goal.returns-in-Disputed-clause-rows
returns-in-Disputed-clause-rows g c =
    let span = c.args.span.now in
    let stopped = subst (IsArrival span.job.now span.first span.first) c.in-Disputed.is
    c.in_ok-state.ensures in
    let within = stopped.1 in
    let ordered = span.ordered in
    let fault = c.in-Disputed.fault in
    let none : fault.step - span.first ≡ 0 = omega (arith, within) in
    rows-all (g.R.Rows.rows c.args.rows.now) span (λ l. Appends (g.W.Sink.taken c.args.sink.now) (g.W.Sink.taken c.args.sink.now) l)
    fault.step
    (has-disputed (g.R.Rows.rows c.args.rows.now) span fault stopped.0 (omega (arith, within, ordered)))
    (subst (λ m. Appends (g.W.Sink.taken c.args.sink.now) (g.W.Sink.taken c.args.sink.now)
    (rows_after (g.R.Rows.rows c.args.rows.now) span.job.now span.first m)) (sym none)
    (Appends-nil (g.W.Sink.taken c.args.sink.now)))

pub unreachable-requires : goal.unreachable-requires
unreachable-requires g c =
    let span = c.args.span.now in
    let far = subst (IsArrival span.job.now span.first span.first) c.in-TooFar.is
    c.in_ok-state.ensures in
    let more = far.0 in
    omega (arith, more)
