use Rattle.std.proofs.Common.{arith}
use Rattle.pram_step.specs.Last.{AreLast}
use Rattle.pardo_job.proofs.Ends.{both_seen, disputed_run, run_seen, through_run}
use Rattle.pardo_job.proofs.run.run_of.Goals as goal

pub walk-requires : goal.walk-requires
walk-requires g c =
    ((λ u low. absurd (omega arith)), (c.in_ok-last.ensures, c.requires))

pub returns-in-Disputed : goal.returns-in-Disputed
returns-in-Disputed g c =
    let job = c.args.job.now in
    let ended = rw c.most_steps.ensures at c.in_ok-walked.ensures in
    let both = c.walk.new.observer.observer in
    let found = disputed_run job c.in_ok-walked.walked c.walk.new.observer.stopped
    (λ n. AreLast job n both.last.rows.items × g.O.Observer.has_seen job n both.other)
    ended.walked ended.seen c.in-Disputed.fault c.in-Disputed.is in
    record { run = (found.0, found.1.0); seen = found.1.1 }

pub run_through-requires : goal.run_through-requires
run_through-requires g c =
    let job = c.args.job.now in
    let ended = rw c.most_steps.ensures at c.in_ok-walked.ensures in
    let both = c.walk.new.observer.observer in
    let found = through_run job c.in_ok-walked.walked c.walk.new.observer.stopped
    (λ n. AreLast job n both.last.rows.items × g.O.Observer.has_seen job n both.other)
    ended.walked ended.seen c.in-Through.state c.in-Through.is in (
      found.0,
      (both_seen job c.walk.new.observer.stopped
          (λ n. AreLast job n both.last.rows.items)
          (λ n. g.O.Observer.has_seen job n both.other) found.1).0,
    )

pub returns-in-Through-clause-seen : goal.returns-in-Through-clause-seen
returns-in-Through-clause-seen g c =
    let job = c.args.job.now in
    let ended = rw c.most_steps.ensures at c.in_ok-walked.ensures in
    let both = c.walk.new.observer.observer in
    let found = through_run job c.in_ok-walked.walked c.walk.new.observer.stopped
    (λ n. AreLast job n both.last.rows.items × g.O.Observer.has_seen job n both.other)
    ended.walked ended.seen c.in-Through.state c.in-Through.is in
    run_seen job c.walk.new.observer.stopped c.run_through.result
    (λ n. g.O.Observer.has_seen job n both.other) c.run_through.ensures.long
    (both_seen job c.walk.new.observer.stopped
    (λ n. AreLast job n both.last.rows.items)
    (λ n. g.O.Observer.has_seen job n both.other) found.1).1
