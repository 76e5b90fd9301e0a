-- A text with names set by another: a line for each, `NAME=V,V,..`.
use Rattle.std.specs.Prelude.{◌≡◌, ◌==◌, ℕ, ◌+◌, List, [], ◌∷◌, length, take, drop, Option}
use Rattle.std.specs.Prelude.{None, Some, Result, Ok, Err, if◌then◌else◌}
use Rattle.std.specs.List.{position}
use Rattle.std.specs.Option.{option_map}
use Rattle.text_lines.specs.Lines.{lines_of}
use Rattle.text_lines.specs.Reads.{◌>>=◌}
use Rattle.pardo_program.specs.Program.{ProgramData}
use Rattle.pardo_text.specs.Reading.{program_of}
use Rattle.pardo_text.specs.Settings.{SettingData, blamed, text_as_set, unmet, with_setting}
use Rattle.pardo_text.specs.declared.fault.PardoFault.{PardoFault}
use Rattle.pardo_text.specs.declared.settings.SetFault.{SetFault}
use Rattle.pardo_text.specs.declared.settings.SetKind.{SetKind}
use Rattle.pardo_text.specs.declared.settings.SetKind.TheVariants.{BadSetting}
use Rattle.pardo_answers.specs.Language.{is_program}
use Rattle.refusals.specs.declared.fault.CommandFault.TheVariants.{Memory}
use Rattle.refusals.specs.declared.refusal.TheConstants.{DONE}
use Rattle.library_core.specs.declared.fault.CallFault.{CallFault}
use Rattle.library_core.specs.declared.fault.CallFault.TheVariants as call
use Rattle.library_core.specs.declared.fault.Misset.{Misset}

-- what stands before the first `=` of a line, and what stands after it
abbrev pub halves_of : List ℕ → Option (List ℕ × List ℕ)
halves_of line = option_map (λ at. (take at line, drop (at + 1) line))
    (position (λ byte. byte == 61) line)

-- the settings, and one more: a name, and a text of its values
abbrev pub with_parts : List SettingData → Option (List ℕ × List ℕ) →
    Result (List SettingData) SetKind
with_parts settings None = Err BadSetting
with_parts settings (Some parts) = with_setting settings parts.0 parts.1

abbrev pub setting_with : List SettingData → List ℕ → Result (List SettingData) SetKind
setting_with settings line = with_parts settings (halves_of line)

-- what is wrong with the setting of this number
abbrev pub numbered_setting : {A : Type 0} → ℕ → Result A SetKind → Result A Misset
numbered_setting number (Ok value) = Ok value
numbered_setting number (Err kind) = Err (record { number = number; kind = kind })

-- so many settings, and those of lines after them; an empty line has none
abbrev pub with_lines : ℕ → List SettingData → List (List ℕ) → Result (List SettingData) Misset
with_lines count settings [] = Ok settings
with_lines count settings (line ∷ lines) =
    if length line == 0 then with_lines count settings lines
    else (do
      next ← numbered_setting (count + 1) (setting_with settings line)
      with_lines (count + 1) next lines)

-- what a text sets, or the first of its settings that is wrong by itself
abbrev pub settings_in : List ℕ → Result (List SettingData) Misset
settings_in text = with_lines 0 [] (lines_of text)

-- the setting that does not fit: of a program one whose name it does not have, of a text that is
-- none the one whose values are too few or too many
abbrev pub unfit_program : List SettingData → List ℕ → Result ProgramData PardoFault →
    Option SetFault
unfit_program settings text (Ok program) = unmet settings text
unfit_program settings text (Err fault) = blamed settings text fault

-- of any text as it is set; one of the machine has no names
abbrev pub unfit_in : List SettingData → (text set : List ℕ) → Option SetFault
unfit_in settings text set =
    if is_program set then unfit_program settings text (program_of set) else unmet settings text

-- the text as it is set, unless a setting does not fit; settings count from 1
abbrev pub if_fit : Option SetFault → List ℕ → Result (List ℕ) Misset
if_fit None set = Ok set
if_fit (Some fault) set = Err (record { number = fault.at + 1; kind = fault.kind })

abbrev pub set_fitting : List SettingData → (text set : List ℕ) → Result (List ℕ) Misset
set_fitting settings text set = if_fit (unfit_in settings text set) set

-- The text as the other one sets it, or the first setting that is wrong, or does not fit.
unfoldable pub text_set_by : (text others : List ℕ) → Result (List ℕ) Misset
text_set_by text others = do
  settings ← settings_in others
  set_fitting settings text (text_as_set settings text)

-- this is told of what is wrong, or that memory ran out
abbrev pub TellsWhy : {A : Type 0} → Result A Misset → CallFault → Type 0
TellsWhy read (call.Setting fault) = read ≡ Err fault
TellsWhy read (call.Command fault) = fault ≡ Memory
TellsWhy read _ = ⊥

-- ---- the call

abbrev pub IsTextSet : (text others set : List ℕ) → ℕ → Type 0
IsTextSet text others set status = (text_set_by text others ≡ Ok set) × (status ≡ DONE)

abbrev pub IsNotSet : (text others : List ℕ) → CallFault → Type 0
IsNotSet text others fault = TellsWhy (text_set_by text others) fault
