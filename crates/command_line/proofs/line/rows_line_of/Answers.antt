use Rattle.std.proofs.Common.{codes, refl}
use Rattle.clap.specs.Words.{found_of}
use Rattle.command_line.proofs.Matches.{flag_of, has_flag, met_file, met_plan, pair_of}
use Rattle.command_line.proofs.line.rows_line_of.Goals as goal

pub returns-in_ok-from-in-steps-clause-met : goal.returns-in_ok-from-in-steps-clause-met
returns-in_ok-from-in-steps-clause-met c = rw (← c.in-steps.is) (
  record {
    of_file =
        met_file _ _ _ _ c.in_ok-name.ensures.name c.in_ok-name.ensures.rows c.in_ok-file.ensures;
    has_from = c.in_ok-from-in-steps.ensures.from;
    has_to = c.in_ok-from-in-steps.ensures.to;
    some = c.in_ok-from-in-steps.ensures.some;
    has_csv = flag_of (found_of c.in_ok-name.inner.now) (codes "csv") _
        c.get_flag-alone.ensures.none c.get_flag-alone.ensures.value
        c.get_flag-alone.ensures.other;
  },
  refl,
)

pub returns-in-trace-clause-met : goal.returns-in-trace-clause-met
returns-in-trace-clause-met c = rw (← c.in-trace.is) (
  met_file _ _ _ _ c.in_ok-name.ensures.name c.in_ok-name.ensures.rows c.in_ok-file.ensures,
  has_flag _ _ (found_of c.in_ok-name.inner.now) (codes "csv") _
      (pair_of _ _ _ _ _ c.in_ok-name.ensures.name c.in_ok-name.ensures.rows)
      (flag_of (found_of c.in_ok-name.inner.now) (codes "csv") _
      c.get_flag-alone.ensures.none c.get_flag-alone.ensures.value
      c.get_flag-alone.ensures.other),
  refl,
)

pub returns-in_ok-workers-in-replay-clause-met : goal.returns-in_ok-workers-in-replay-clause-met
returns-in_ok-workers-in-replay-clause-met c = rw (← c.in-replay.is) (record {
  of_file =
      met_file _ _ _ _ c.in_ok-name.ensures.name c.in_ok-name.ensures.rows c.in_ok-file.ensures;
  has_workers = c.in_ok-workers-in-replay.ensures;
  some = c.in_ok-workers-in-replay.workers.some;
  few = c.in_ok-workers-in-replay.workers.most;
  has_plan = met_plan c.in_ok-name.inner.now _ c.get_str-plan.ensures;
  has_csv = flag_of (found_of c.in_ok-name.inner.now) (codes "csv") _
      c.get_flag-alone.ensures.none c.get_flag-alone.ensures.value
      c.get_flag-alone.ensures.other;
})
