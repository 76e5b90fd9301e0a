use Rattle.page_core.proofs.verdict.verdict.Goals as goal
use Rattle.page_core.proofs.Failing.{failed}

pub returns-clause-failed : goal.returns-clause-failed
returns-clause-failed c code = failed c.args.exercise.now c.args.submission.now
    c.found-finding.result _ _ c.put_finding.result c.found-finding.ensures c.put_finding.ensures.told
    code
