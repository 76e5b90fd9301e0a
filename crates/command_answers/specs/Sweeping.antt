-- The records of a sweep.
use Rattle.std.specs.Prelude.{◌≡◌, ◌≤◌, ◌⊎◌, ◌++◌, ℕ, max, List, [], ◌∷◌, Option, Some, codes}
use Rattle.std.specs.Prelude.{decimal, slice_get, take}
use Rattle.std.specs.Io.KnownBytes.{Appends}
use Rattle.clap.specs.Words.{Text}
use Rattle.command_data.specs.declared.line.Line.{Line}
use Rattle.pardo_text.specs.Settings.{SettingData, text_as_set, with_first}
use Rattle.pardo_text.specs.declared.settings.SetKind.{SetKind}
use Rattle.naming.specs.Writing.{Writing}
use Rattle.naming.specs.BadTexts.{IsBad}
use Rattle.pram_commands.specs.Sweeps.{IsRunRecord}
use Rattle.pram_commands.specs.declared.sweeps.RunRecord.{RunRecord}
use Rattle.pram_streams.specs.Transfer.{AppendsBeginning}
use Rattle.refusals.specs.Faults.{fault_status}
use Rattle.refusals.specs.declared.fault.CommandFault.{CommandFault}
use Rattle.refusals.specs.declared.refusal.TheConstants.{DONE, FAILED, MEMORY, REFUSED}
use Rattle.command_answers.specs.Setting.{AllMet, BySetting, FileGives, IsUnfitBy, RefuseNames}
use Rattle.command_answers.specs.Setting.{SetNames}
use Rattle.command_answers.specs.declared.sweep.Unswept.{Unswept}
use Rattle.command_answers.specs.declared.sweep.Unswept.TheVariants.{Unset, Fault}

-- The record of a size: the value that the first name is set to, and what the run of the text as it
-- is set costs; and the status of that run.
pub record IsSizeOf (settings : List SettingData) (text : List ℕ) (value : ℕ) (bytes : List ℕ)
    (status : ℕ) : Type 0 where
  pub set : List ℕ
  pub size : RunRecord
  pub is_set : set ≡ text_as_set (with_first settings value) text
  pub met : AllMet (with_first settings value) text set
  pub is : IsRunRecord set size
  pub prints : bytes ≡ decimal value ++ codes "," ++ size.bytes.items
  pub ends : status ≡ size.status

-- the records of these values, in order, and the greatest of their statuses
abbrev pub AreSizes : List SettingData → List ℕ → List ℕ → List ℕ → ℕ → Type 0
AreSizes settings text [] bytes status = (bytes ≡ []) × (status ≡ DONE)
AreSizes settings text (value ∷ values) bytes status =
    (size : List ℕ) × (ends : ℕ) × (rest : List ℕ) × (later : ℕ)
    × IsSizeOf settings text value size ends × AreSizes settings text values rest later
    × (bytes ≡ size ++ rest) × (status ≡ max ends later)

abbrev pub sweep_text : List ℕ → List ℕ → List ℕ
sweep_text name records = name ++ codes ",steps,time,operations,processors,needs,end\n" ++ records

-- The file gave a text, the words set names of it, the first one to one of its values after the
-- other, and these bytes are the records, with this status.
pub record IsSweep (Holds : List ℕ → Option (List ℕ) → Type 0) (file : List ℕ) (words : List Text)
    (bytes : List ℕ) (status : ℕ) : Type 0 where
  pub text : List ℕ
  pub gives : FileGives Holds file text
  pub swept : SettingData
  pub others : List SettingData
  pub names : SetNames Holds [] words (swept ∷ others)
  pub records : List ℕ
  pub sizes : AreSizes (swept ∷ others) text swept.values records status
  pub prints : bytes ≡ sweep_text swept.name records

-- The output took the records, or failed after a beginning of them.
pub record ServesSweep (Holds : List ℕ → Option (List ℕ) → Type 0) (line : Line)
    (words : List Text) (writes : Writing) (status : ℕ) : Type 0 where
  pub bytes : List ℕ
  pub ends : ℕ
  pub sweep : IsSweep Holds line.file.now words bytes ends
  pub wrote : ((status ≡ ends) × Appends writes.out writes.out' bytes)
      ⊎ ((FAILED ≤ status) × (status ≤ MEMORY) × AppendsBeginning writes.out writes.out' bytes)

-- ---- what is refused

-- As the first name is set to this value, a setting does not fit the text, or that is refused.
abbrev pub RefusesSize : List SettingData → List ℕ → ℕ → Type 0
RefusesSize settings text value = let set = with_first settings value in
    ((kind : SetKind) × IsUnfitBy set text kind)
    ⊎ ((fault : CommandFault) × IsBad (text_as_set set text) fault)

-- one of these values is, the first one: those before it have records
pub record RefusesSizes (settings : List SettingData) (text values : List ℕ) : Type 0 where
  pub at : ℕ
  pub value : ℕ
  pub is : slice_get values at ≡ Some value
  pub records : List ℕ
  pub ends : ℕ
  pub before : AreSizes settings text (take at values) records ends
  pub refuses : RefusesSize settings text value

-- The file gave a text, and of the values of the first name that the words set one is refused; or
-- there is none, since they are thrown.
pub record HasBadSize (Holds : List ℕ → Option (List ℕ) → Type 0) (file : List ℕ)
    (words : List Text) : Type 0 where
  pub text : List ℕ
  pub gives : FileGives Holds file text
  pub swept : SettingData
  pub others : List SettingData
  pub names : SetNames Holds [] words (swept ∷ others)
  pub refuses : (swept.values ≡ []) ⊎ RefusesSizes (swept ∷ others) text swept.values

-- a word is refused, or a size is
abbrev pub IsRefusedSweep : (List ℕ → Option (List ℕ) → Type 0) → List ℕ → List Text → Type 0
IsRefusedSweep Holds file words =
    ((kind : SetKind) × RefuseNames Holds [] words kind) ⊎ HasBadSize Holds file words

-- where a setting or a text is refused, this holds; else a file failed, or memory ran out
abbrev pub ByRefusal : Type 0 → Unswept → Type 0
ByRefusal Reason (Unset unset) = BySetting (λ kind. Reason) unset.refusal
ByRefusal Reason (Fault fault text) = fault_status fault ≡ REFUSED → Reason
