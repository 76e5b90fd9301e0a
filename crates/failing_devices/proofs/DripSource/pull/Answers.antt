use Rattle.std.proofs.Common.{◌<◌, ◌∙◌, ◌++◌, length, ap, sym, refl, rules, arith}
use Rattle.std.proofs.lemmas.Grind.{take-set_at}
use Rattle.failing_devices.proofs.DripSource.pull.Goals as goal

pub returns-clause-bytes : goal.returns-clause-bytes
returns-clause-bytes c =
    let room : 0 < length c.args.into.now = search rules in (
      c.in-Some.ensures.cases.0 ∙ ap (λ front. front ++ c.in-Some.rest.now)
          (sym (take-set_at c.args.into.now 0 1 c.in-Some.first.now refl room)),
      λ zero. absurd (omega (arith, zero)),
    )
