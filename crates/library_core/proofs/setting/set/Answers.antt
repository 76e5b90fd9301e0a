use Rattle.std.proofs.Common.{◌≢◌, List, Result, ap, rules}
use Rattle.pardo_text.specs.Settings.{SettingData}
use Rattle.pardo_text.specs.declared.settings.SetKind.{SetKind}
use Rattle.pardo_text.specs.declared.settings.SetKind.TheVariants.{Memory}
use Rattle.library_core.specs.Settings.{numbered_setting}
use Rattle.library_core.proofs.setting.set.Goals as goal

pub returns-in-Ok-clause-next : goal.returns-in-Ok-clause-next
returns-in-Ok-clause-next c = ap (λ (read : Result (List SettingData) SetKind).
    numbered_setting c.args.number read) c.in-Ok.ensures

pub returns-in-Err-clause-wrong : goal.returns-in-Err-clause-wrong
returns-in-Err-clause-wrong c =
    let other : c.in-Err.kind ≢ Memory = search rules in
    ap (λ (read : Result (List SettingData) SetKind). numbered_setting c.args.number read)
    (c.in-Err.ensures other)
