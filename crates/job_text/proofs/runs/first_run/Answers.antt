use Rattle.std.proofs.Common.{sym, ◌∙◌}
use Rattle.job_text.proofs.Cutting.{runs_none, runs_some}
use Rattle.job_text.proofs.runs.first_run.Goals as goal

pub returns-in-None-clause-runs : goal.returns-in-None-clause-runs
returns-in-None-clause-runs c =
    runs_none c.args.cells.now (sym c.first_zero.ensures ∙ c.in-None.is)

pub returns-in-Some-clause-runs : goal.returns-in-Some-clause-runs
returns-in-Some-clause-runs c =
    runs_some c.args.cells.now c.split_at.result.0.now c.split_at.result.1.now c.in-Some.end
    (sym c.first_zero.ensures ∙ c.in-Some.is) c.split_at.ensures.front c.split_at.ensures.back
