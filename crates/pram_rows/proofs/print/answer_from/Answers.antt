use Rattle.std.proofs.Common.{◌≡◌, arith, subst}
use Rattle.pram_step.specs.Runs.{IsStateAfter}
use Rattle.pram_rows.proofs.print.answer_from.Goals as goal

pub returns-then-made-steps : goal.returns-then-made-steps
returns-then-made-steps c =
    let all : c.args.made ≡ c.args.job.now.steps = omega arith in (
      c.args.state,
      subst (λ n. IsStateAfter c.args.job.now n c.args.state) all c.requires,
      c.into_cells.ensures,
    )
