-- The text of a file as words set names.
use Rattle.std.specs.Prelude.{◌≡◌, ◌⊎◌, ◌==◌, ℕ, Bool, List, [], ◌∷◌, Option, None, Some, Ok, Err}
use Rattle.std.specs.Prelude.{length, ⊤}
use Rattle.std.specs.List.{after_first, before_first, position_or_len}
use Rattle.clap.specs.Lexer.{strip_byte}
use Rattle.clap.specs.Words.{Text}
use Rattle.pardo_program.specs.Program.{ProgramData}
use Rattle.pardo_text.specs.Reading.{program_of}
use Rattle.pardo_text.specs.Settings.{SettingData, blamed, text_as_set, unmet, with_setting}
use Rattle.pardo_text.specs.declared.fault.PardoFault.{PardoFault}
use Rattle.pardo_text.specs.declared.settings.SetFault.{SetFault}
use Rattle.pardo_text.specs.declared.settings.SetKind.{SetKind}
use Rattle.pardo_text.specs.declared.settings.SetKind.TheVariants.{BadSetting}
use Rattle.pram_streams.specs.Transfer.{Gives}
use Rattle.refusals.specs.declared.refusal.Refusal.{Refusal}
use Rattle.refusals.specs.declared.refusal.Refusal.TheVariants as refusal

-- The file of this name gave this text. Holds says which bytes the file of a name may give.
abbrev pub FileGives : (List ℕ → Option (List ℕ) → Type 0) → List ℕ → List ℕ → Type 0
FileGives Holds name text = (bytes bytes' : Option (List ℕ)) × Holds name bytes
    × Gives bytes bytes' text

-- This file gave the text, or with none it is what was written.
abbrev pub SpellsBy : (List ℕ → Option (List ℕ) → Type 0) → Option (List ℕ) → List ℕ → List ℕ →
    Type 0
SpellsBy Holds None written text = text ≡ written
SpellsBy Holds (Some name) written text = FileGives Holds name text

-- What stands after the `=` names a file after `@`, or is the text itself.
abbrev pub SpellsValues : (List ℕ → Option (List ℕ) → Type 0) → List ℕ → List ℕ → Type 0
SpellsValues Holds values text = SpellsBy Holds (strip_byte 64 values) values text

abbrev pub is_equals : ℕ → Bool
is_equals byte = byte == 61

-- the word sets one name more: `NAME=V,V,..`, `NAME=@FILE`
abbrev pub SetsName : (List ℕ → Option (List ℕ) → Type 0) → List SettingData → Text →
    List SettingData → Type 0
SetsName Holds settings word next = (text : List ℕ)
    × SpellsValues Holds (after_first is_equals word) text
    × (with_setting settings (before_first is_equals word) text ≡ Ok next)

-- the words set these names, after those
abbrev pub SetNames : (List ℕ → Option (List ℕ) → Type 0) → List SettingData → List Text →
    List SettingData → Type 0
SetNames Holds settings [] all = all ≡ settings
SetNames Holds settings (word ∷ words) all = (next : List SettingData)
    × SetsName Holds settings word next × SetNames Holds next words all

-- Where the text as it is set is a program, it has all names that are set.
abbrev pub AllMet : List SettingData → List ℕ → List ℕ → Type 0
AllMet settings text set = (program : ProgramData) → program_of set ≡ Ok program →
    unmet settings text ≡ None

-- The file gave a text, and this is that text as the words set it.
pub record IsSetText (Holds : List ℕ → Option (List ℕ) → Type 0) (file : List ℕ)
    (words : List Text) (set : List ℕ) : Type 0 where
  pub text : List ℕ
  pub gives : FileGives Holds file text
  pub settings : List SettingData
  pub names : SetNames Holds [] words settings
  pub is : set ≡ text_as_set settings text
  pub met : AllMet settings text set

-- ---- what is refused

-- a word has no `=`; or after these settings its name cannot be set so
abbrev pub RefusesName : (List ℕ → Option (List ℕ) → Type 0) → List SettingData → Text →
    SetKind → Type 0
RefusesName Holds settings word kind =
    ((position_or_len is_equals word ≡ length word) × (kind ≡ BadSetting))
    ⊎ ((text : List ℕ) × SpellsValues Holds (after_first is_equals word) text
    × (with_setting settings (before_first is_equals word) text ≡ Err kind))

-- one of the words does, after those before it
abbrev pub RefuseNames : (List ℕ → Option (List ℕ) → Type 0) → List SettingData → List Text →
    SetKind → Type 0
RefuseNames Holds settings [] kind = ⊥
RefuseNames Holds settings (word ∷ words) kind = RefusesName Holds settings word kind
    ⊎ ((next : List SettingData) × SetsName Holds settings word next
    × RefuseNames Holds next words kind)

-- A name may not be set in the text; or the text as it is set has a fault that lies in a setting.
abbrev pub IsUnfitSetting : List SettingData → List ℕ → List ℕ → SetFault → Type 0
IsUnfitSetting settings text set fault = (unmet settings text ≡ Some fault)
    ⊎ ((found : PardoFault) × (program_of set ≡ Err found)
    × (blamed settings text found ≡ Some fault))

-- What is set does not fit the text, and the first fault is of this kind.
abbrev pub IsUnfitBy : List SettingData → List ℕ → SetKind → Type 0
IsUnfitBy settings text kind = (fault : SetFault)
    × IsUnfitSetting settings text (text_as_set settings text) fault × (kind ≡ fault.kind)

-- The file gave a text that what the words set does not fit.
pub record IsMisfit (Holds : List ℕ → Option (List ℕ) → Type 0) (file : List ℕ)
    (words : List Text) (kind : SetKind) : Type 0 where
  pub text : List ℕ
  pub gives : FileGives Holds file text
  pub settings : List SettingData
  pub names : SetNames Holds [] words settings
  pub unfit : IsUnfitBy settings text kind

-- where a setting is refused, this holds of its kind; else a file failed, or memory ran out
abbrev pub BySetting : (SetKind → Type 0) → Refusal → Type 0
BySetting Says (refusal.Setting name kind) = Says kind
BySetting Says (refusal.File name) = ⊤
BySetting Says (refusal.Size name) = ⊤
BySetting Says refusal.Memory = ⊤
BySetting Says _ = ⊥

-- a word, or what the words set, is refused so
abbrev pub IsRefusedSet : (List ℕ → Option (List ℕ) → Type 0) → List ℕ → List Text → SetKind →
    Type 0
IsRefusedSet Holds file words kind =
    RefuseNames Holds [] words kind ⊎ IsMisfit Holds file words kind
