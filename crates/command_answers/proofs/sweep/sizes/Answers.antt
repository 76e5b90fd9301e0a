use Rattle.std.proofs.Common.{◌≡◌, ◌∙◌, List, Err, ap, rules}
use Rattle.pardo_text.specs.Settings.{SettingData, with_first}
use Rattle.command_answers.specs.Sweeping.{RefusesSizes}
use Rattle.command_answers.proofs.Sweeps.{by_so, set_again, size_refused, sizes_all, sizes_more}
use Rattle.command_answers.proofs.sweep.sizes.Goals as goal

pub loop-value-preserved : goal.loop-value-preserved
loop-value-preserved c =
    let made = c.in_ok-ends.ensures.record in
    let so_far = c.loop-value.invariant in (
      rw (made.2, c.greater-status.ensures) (sizes_more c.args.settings.now c.args.text.now
          c.args.values.now 0 c.loop-value.value-index c.loop-value.settings
          c.loop-value.bytes.items made.0 c.loop-value.status _ c.loop-value-test.true so_far.0
          (so_far.1 _) made.1),
      (λ value. ap (λ (s : List SettingData). with_first s value) c.in_ok-ends.ensures.settings
          ∙ set_again c.loop-value.settings _ value ∙ so_far.1 value),
    )

pub returns-clause-sizes : goal.returns-clause-sizes
returns-clause-sizes c =
    sizes_all c.args.settings.now c.args.text.now c.args.values.now 0 c.loop-value.value-index
    c.loop-value.bytes.items c.loop-value.status c.loop-value-test.false c.loop-value.invariant.0

pub returns-in_err-ends-clause-refused : goal.returns-in_err-ends-clause-refused
returns-in_err-ends-clause-refused c =
    let failed = c.in_err-ends.field-0.0 in
    let so_far = c.loop-value.invariant in
    let e : c.from_residual.result ≡ Err failed = search rules in
    rw e (by_so {Q = RefusesSizes c.args.settings.now c.args.text.now c.args.values.now}
    (λ refuses. size_refused c.args.settings.now c.args.text.now c.args.values.now 0
    c.loop-value.value-index c.loop-value.settings c.loop-value.bytes.items c.loop-value.status
    c.loop-value-test.true so_far.0 (so_far.1 _) refuses) failed c.in_err-ends.ensures.refused)
