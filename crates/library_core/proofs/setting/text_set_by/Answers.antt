use Rattle.std.proofs.Common.{◌≡◌, ◌∙◌, List, ℕ, Option, Some, Result, Ok, ap, subst, sym}
use Rattle.text_lines.specs.Reads.{◌>>=◌}
use Rattle.pardo_text.specs.Settings.{SettingData, text_as_set}
use Rattle.pardo_text.specs.declared.settings.SetFault.{SetFault}
use Rattle.library_core.specs.declared.fault.Misset.{Misset}
use Rattle.library_core.specs.Settings.{TellsWhy, set_fitting, if_fit, settings_in, text_set_by}
use Rattle.library_core.specs.Settings.{unfit_in}
use Rattle.library_core.proofs.setting.text_set_by.Goals as goal

-- a setting that does not fit is what is wrong
unfit : (text others set : List ℕ) (settings : List SettingData) (found : Option SetFault)
    (fault : SetFault) → settings_in others ≡ Ok settings → set ≡ text_as_set settings text →
    found ≡ unfit_in settings text set → found ≡ Some fault →
    text_set_by text others ≡ if_fit (Some fault) set
unfolding text_set_by
unfit text others set settings found fault reads is finds some =
    ap (λ (read : Result (List SettingData) Misset).
    read >>= (λ given. set_fitting given text (text_as_set given text))) reads
    ∙ ap (λ (given : List ℕ). set_fitting settings text given) (sym is)
    ∙ ap (λ (it : Option SetFault). if_fit it set) (sym finds ∙ some)

pub returns-in-Ok-Some-clause-refused : goal.returns-in-Ok-Some-clause-refused
returns-in-Ok-Some-clause-refused c =
    let is = c.as_slice.ensures.value ∙ c.in-Ok.ensures in
    let same = unfit c.args.text.now c.args.settings.now c.as_slice.result.now _ _ _
    c.in_ok-settings.ensures.settings is c.in-Ok-Some.ensures c.in-Ok-Some.field-0-is in
    subst (λ (read : Result (List ℕ) Misset). TellsWhy read c.unfit_told.result) (sym same)
    (c.unfit_told.ensures c.as_slice.result.now)
