-- Programs of texts with settings, and their refusals.
use Rattle.std.proofs.Common.{◌≡◌, ◌≢◌, ℕ, List, Option, Some, None, Result, Ok, Err, IfOk, IfErr}
use Rattle.std.proofs.Common.{sym, ap, ◌∙◌}
use Rattle.pardo_text.specs.declared.fault.PardoFault.{PardoFault}
use Rattle.pardo_text.specs.declared.fault.PardoKind.TheVariants.{Memory}
use Rattle.pardo_text.specs.declared.settings.SetFault.{SetFault}
use Rattle.pardo_text.specs.declared.settings.SetRefusal.{SetRefusal}
use Rattle.pardo_text.specs.declared.settings.SetRefusal.TheVariants.{Text, Setting}
use Rattle.pardo_program.specs.Program.{ProgramData}
use Rattle.pardo_text.specs.Reading.{program_of}
use Rattle.pardo_text.specs.Settings.{IsSetRefusal, SettingData, blamed, laid, met, program_set}
use Rattle.pardo_text.specs.Settings.{text_as_set, unmet}

-- the program that was read, if all settings are met
pub program_set-read : (settings : List SettingData) (text set : List ℕ) (program : ProgramData) →
    set ≡ text_as_set settings text → program_of set ≡ Ok program →
    program_set settings text ≡ met (unmet settings text) program
unfolding program_set
program_set-read settings text set program is reads =
    ap (λ (read : Result ProgramData PardoFault). elim read [
      | Ok given ↦ met (unmet settings text) given
      | Err fault ↦ Err (laid (blamed settings text fault) fault)
    ]) (ap program_of (sym is) ∙ reads)

-- or its fault, laid where it lies
pub program_set-fault : (settings : List SettingData) (text set : List ℕ) (fault : PardoFault) →
    set ≡ text_as_set settings text → program_of set ≡ Err fault →
    program_set settings text ≡ Err (laid (blamed settings text fault) fault)
unfolding program_set
program_set-fault settings text set fault is reads =
    ap (λ (read : Result ProgramData PardoFault). elim read [
      | Ok given ↦ met (unmet settings text) given
      | Err other ↦ Err (laid (blamed settings text other) other)
    ]) (ap program_of (sym is) ∙ reads)

-- what is met is the program, and what is not is a refusal
pub met_ok : (settings : List SettingData) (text : List ℕ) (read result : Result ProgramData SetRefusal)
    → result ≡ read → program_set settings text ≡ read →
    IfOk result (λ program. program_set settings text ≡ Ok program)
met_ok settings text read (Ok program) is set = set ∙ sym is
met_ok settings text read (Err refusal) is set = tt

pub met_err : (settings : List SettingData) (text : List ℕ) (found : Option SetFault)
    (program : ProgramData) (result : Result ProgramData SetRefusal) → result ≡ met found program →
    program_set settings text ≡ met found program → IfErr result (IsSetRefusal settings text)
met_err settings text found program (Ok given) is set = tt
met_err settings text found program (Err (Setting fault)) is set = set ∙ sym is
met_err settings text None program (Err (Text fault)) is set =
    absurd (let other : ◌≡◌ {A = Result ProgramData SetRefusal} (Err (Text fault)) (Ok program) = is
    in cc)
met_err settings text (Some found) program (Err (Text fault)) is set =
    absurd (let other : ◌≡◌ {A = Result ProgramData SetRefusal} (Err (Text fault))
    (Err (Setting found)) = is in cc)

pub laid_err : (settings : List SettingData) (text : List ℕ) (found : Option SetFault)
    (fault : PardoFault) (result : SetRefusal) → fault.kind ≢ Memory → result ≡ laid found fault →
    program_set settings text ≡ Err (laid found fault) → IsSetRefusal settings text result
laid_err settings text found fault (Setting given) other is set = set ∙ ap Err (sym is)
laid_err settings text None fault (Text given) other is set = (
  λ _. set ∙ ap Err (sym is),
  λ memory. absurd (other (let same : fault ≡ given = cc in ap (λ f. f.kind) same ∙ memory)),
)
laid_err settings text (Some found) fault (Text given) other is set =
    absurd (let wrong : Text given ≡ Setting found = is in cc)
