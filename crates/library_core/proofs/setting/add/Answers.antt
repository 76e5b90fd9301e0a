use Rattle.std.proofs.Common.{◌≡◌, ℕ, List, Option, Result, Ok, IfErr, OnOk, ap, subst, sym}
use Rattle.pardo_text.specs.Settings.{SettingData}
use Rattle.library_core.specs.declared.fault.Misset.{Misset}
use Rattle.library_core.specs.Settings.{TellsWhy, numbered_setting, with_parts}
use Rattle.library_core.proofs.setting.add.Goals as goal

pub returns-in-Some : goal.returns-in-Some
returns-in-Some c =
    let same = ap (λ (parts : Option (List ℕ × List ℕ)).
    numbered_setting c.args.number (with_parts c.args.settings.now parts)) c.in-Some.ensures in
    record {
      next = subst (λ (read : Result (List SettingData) Misset).
          OnOk c.set.result (read ≡ Ok c.set.new.settings)) same c.set.ensures.next;
      wrong = subst (λ (read : Result (List SettingData) Misset).
          IfErr c.set.result (TellsWhy read)) same c.set.ensures.wrong;
    }

pub returns-in-None-clause-wrong : goal.returns-in-None-clause-wrong
returns-in-None-clause-wrong c = ap (λ (parts : Option (List ℕ × List ℕ)).
    numbered_setting c.args.number (with_parts c.args.settings.now parts)) (sym c.in-None.ensures)
