use Rattle.std.proofs.Common.{◌≡◌, ◌⊎◌, inr, rules}
use Rattle.std.proofs.lemmas.Result.{IfErr-weaker}
use Rattle.pardo_answers.specs.Costs.{operations_in, time_in}
use Rattle.exercise_judge.specs.Wrongs.{AllowsLess}
use Rattle.exercise_judge.specs.declared.verdict.Bar.TheVariants.{Operations, Time}
use Rattle.exercise_judge.specs.declared.verdict.Wrong.{Wrong}
use Rattle.exercise_judge.proofs.Wronging.{less_same}
use Rattle.exercise_judge.proofs.judging.check_costs.Goals as goal

pub returns-clause-wrong : goal.returns-clause-wrong
returns-clause-wrong c =
    let most = c.args.trial.now.operations in
    let takes = operations_in c.args.costs.now.lines.items in
    let allows : c.wide-2.result ≡ most = search rules in
    let took : c.total_operations.result ≡ takes = search rules in
    IfErr-weaker c.check_bar-2.result
    (AllowsLess Operations c.wide-2.result c.total_operations.result)
    (λ (found : Wrong). AllowsLess Time c.args.trial.now.time
    (time_in c.args.costs.now.lines.items) found ⊎ AllowsLess Operations most takes found)
    (λ found less. inr (less_same Operations c.wide-2.result most c.total_operations.result takes
    allows took found less)) c.check_bar-2.ensures.wrong
