-- What is said of a judged submission, and of an exercise that cannot be judged by.
use Rattle.std.specs.Prelude.{◌≡◌, ◌≤◌, ◌==◌, ◌||◌, ◌&&◌, ℕ, List, [], ◌∷◌, ◌++◌, All, codes}
use Rattle.std.specs.Prelude.{Bool, MatchBool, decimal, map}
use Rattle.std.specs.Prelude.{nat_le, take, if◌then◌else◌}
use Rattle.std.specs.Str.{IsTrimAscii}
use Rattle.pram_cost.specs.declared.meeting.Sharing.{Sharing}
use Rattle.pram_cost.specs.declared.meeting.Sharing.TheVariants.{SameRead, SameWrite, OtherValue}
use Rattle.pram_cost.specs.declared.pram.Pram.{Pram}
use Rattle.pram_cost.specs.Printed.{name_of}
use Rattle.pardo_job.specs.declared.fault.Refusal.{Refusal}
use Rattle.pardo_job.specs.declared.fault.Refusal.TheVariants.{Text, Job}
use Rattle.exercise_text.specs.declared.fault.ExerciseKind.{ExerciseKind}
use Rattle.exercise_text.specs.declared.fault.ExerciseKind.TheVariants as fault
use Rattle.exercise_text.specs.Entries.{first_place}
use Rattle.exercise_judge.specs.declared.verdict.Bar.{Bar}
use Rattle.exercise_judge.specs.declared.verdict.Bar.TheVariants as bar
use Rattle.exercise_judge.specs.declared.verdict.UnfitKind.{UnfitKind}
use Rattle.exercise_judge.specs.declared.verdict.UnfitKind.TheVariants as unfit
use Rattle.exercise_judge.specs.declared.verdict.Wrong.{Wrong}
use Rattle.exercise_judge.specs.declared.verdict.Wrong.TheVariants as wrong

-- ---- words as they are shown

-- a byte of printable ASCII; a `?` stands for any other
abbrev pub shown_byte : ℕ → ℕ
shown_byte byte = if nat_le 32 byte && nat_le byte 126 then byte else 63

abbrev pub shown_value : List ℕ → List ℕ
shown_value words = map shown_byte words

-- such words were added
pub record AddsWords (old new : List ℕ) (AreSaid : List ℕ → Type 0) : Type 0 where
  pub words : List ℕ
  pub added : new ≡ old ++ shown_value words
  pub are : AreSaid words

abbrev pub IsPrintable : ℕ → Type 0
IsPrintable byte = (32 ≤ byte) × (byte ≤ 126)

-- what was added has neither line breaks nor other control characters
abbrev pub AddsPrintable : List ℕ → List ℕ → Type 0
AddsPrintable old new = (added : List ℕ) × (new ≡ old ++ added) × All IsPrintable added

-- ---- parts

-- the line that something is said of
abbrev pub at_line : ℕ → List ℕ
at_line line = codes "line " ++ decimal line ++ codes ": "

abbrev pub IsAtLine : ℕ → List ℕ → Type 0
IsAtLine line words = (sentence : List ℕ) × (words ≡ at_line line ++ sentence)

-- what stands before the first `=` or `;`
abbrev pub sentence_front : List ℕ → List ℕ
sentence_front line = take (first_place (λ byte. (byte == 61) || (byte == 59)) line) line

-- a place as it is named
abbrev pub named_place : List ℕ → List ℕ
named_place [] = codes "a cell"
named_place (byte ∷ rest) = byte ∷ rest

abbrev pub at_place : List ℕ → ℕ → List ℕ
at_place place line = named_place place ++ codes " in line " ++ decimal line

-- two processors
unfoldable pub pair : ℕ → ℕ → List ℕ
pair first second = codes "processors " ++ decimal first ++ codes " and " ++ decimal second

-- how two processors meet at a place
abbrev pub meeting : List ℕ → List ℕ → ℕ → ℕ → ℕ → List ℕ
meeting deed place line first second = pair first second ++ deed ++ at_place place line

-- ---- what is wrong with a submission

-- the name that the line declares, or what else it begins with
abbrev pub IsMissingSaid : List ℕ → List ℕ → Type 0
IsMissingSaid line words = (part : List ℕ) × IsTrimAscii (sentence_front line) part
    × (words ≡ codes "the line \"" ++ part ++ codes "\" is missing")

abbrev pub refused_line : Refusal → ℕ
refused_line (Text fault) = fault.line
refused_line (Job fault) = fault.line

abbrev pub conflict_words : List ℕ → ℕ → ℕ → ℕ → List ℕ
conflict_words place line first second =
    meeting (codes " write ") place line first second ++ codes ", against the rule"

abbrev pub value_words : List ℕ → ℕ → ℕ → List ℕ
value_words place held wanted =
    named_place place ++ codes " holds " ++ decimal held ++ codes ", wanted " ++ decimal wanted

-- what stands before the number that a submission takes, and behind it
abbrev pub around_number : Bar → List ℕ × List ℕ
around_number bar.Time = (codes "it takes time ", codes "")
around_number bar.Operations = (codes "it takes ", codes " operations")
around_number bar.Steps = (codes "it takes ", codes " steps of the machine")
around_number bar.Lines = (codes "it has ", codes " lines of code")

abbrev pub gone_words : ℕ → ℕ → List ℕ
gone_words processor line =
    codes "processor " ++ decimal processor ++ codes " is gone in line " ++ decimal line

abbrev pub places_words : List ℕ → ℕ → ℕ → List ℕ
places_words name has wanted =
    name ++ codes " has length " ++ decimal has ++ codes ", wanted " ++ decimal wanted

abbrev pub allowed_words : ℕ → List ℕ
allowed_words most = if most == 1 then codes " is allowed" else codes " are allowed"

abbrev pub bar_words : Bar → ℕ → ℕ → List ℕ
bar_words bar took most =
    (around_number bar).0 ++ decimal took ++ (around_number bar).1 ++ codes ", "
    ++ decimal most ++ allowed_words most

abbrev pub deed_of : Sharing → List ℕ
deed_of SameRead = codes " read "
deed_of SameWrite = codes " write "
deed_of OtherValue = codes " write different values to "

abbrev pub model_words : Pram → Pram → List ℕ
model_words needs allowed = codes "it needs " ++ name_of needs ++ codes ", " ++ name_of allowed
    ++ codes " is allowed: "

-- where the input is shown
abbrev pub IsShownSaid : Wrong → List ℕ → Type 0
IsShownSaid (wrong.Missing line) words = IsMissingSaid line.items words
IsShownSaid (wrong.Program refusal) words = IsAtLine (refused_line refusal) words
IsShownSaid (wrong.Conflict line place first second) words =
    words ≡ conflict_words place.items line first second
IsShownSaid (wrong.Value place held wanted) words = words ≡ value_words place.items held wanted
IsShownSaid (wrong.Bar bar took most) words = words ≡ bar_words bar took most
IsShownSaid (wrong.Model needs allowed sharing line place first second) words =
    words ≡ model_words needs allowed ++ meeting (deed_of sharing) place.items line first second
IsShownSaid (wrong.Gone processor line) words = words ≡ gone_words processor line
IsShownSaid (wrong.Places name has wanted) words = words ≡ places_words name.items has wanted
IsShownSaid wrong.Memory words = words ≡ codes "out of memory"

-- ---- where it is hidden

abbrev pub excess_words : Bar → List ℕ
excess_words bar.Time = codes "it takes too much time"
excess_words bar.Operations = codes "it takes too many operations"
excess_words bar.Steps = codes "it takes too many steps of the machine"
excess_words bar.Lines = codes "it has too many lines of code"

abbrev pub pair_in : List ℕ → ℕ → List ℕ
pair_in deed line =
    codes "two processors" ++ deed ++ codes "one place in line " ++ decimal line

-- Of a hidden input only the kind of what is wrong is told, and its line: no value, place,
-- processor or number hangs on it.
abbrev pub IsVeiledSaid : Wrong → List ℕ → Type 0
IsVeiledSaid (wrong.Missing line) words = IsMissingSaid line.items words
IsVeiledSaid (wrong.Program refusal) words = IsAtLine (refused_line refusal) words
IsVeiledSaid (wrong.Conflict line place first second) words =
    words ≡ pair_in (codes " write ") line ++ codes ", against the rule"
IsVeiledSaid (wrong.Value place held wanted) words =
    words ≡ codes "a value is not the one that is wanted"
IsVeiledSaid (wrong.Bar bar took most) words = words ≡ excess_words bar
IsVeiledSaid (wrong.Model needs allowed sharing line place first second) words =
    words ≡ model_words needs allowed ++ pair_in (deed_of sharing) line
IsVeiledSaid (wrong.Gone processor line) words =
    words ≡ codes "a processor is gone in line " ++ decimal line
IsVeiledSaid (wrong.Places name has wanted) words =
    words ≡ codes "a length is not the one that is wanted"
IsVeiledSaid wrong.Memory words = words ≡ codes "out of memory"

abbrev pub IsWrongSaid : Bool → Wrong → List ℕ → Type 0
IsWrongSaid hidden found words =
    MatchBool hidden (IsVeiledSaid found words) (IsShownSaid found words)

-- ---- what is wrong with an exercise

-- Out of memory no line is told.
abbrev pub IsUnfitSaid : ℕ → UnfitKind → List ℕ → Type 0
IsUnfitSaid line unfit.Conflict words =
    words ≡ at_line line ++ codes "the reference ends in a conflict"
IsUnfitSaid line unfit.Contradiction words =
    words ≡ at_line line ++ codes "the reference ends with other values than are wanted here"
IsUnfitSaid line (unfit.Unknown word) words =
    words ≡ at_line line ++ codes "nothing is named " ++ sentence_front word.items
IsUnfitSaid line unfit.Memory words = words ≡ codes "out of memory"
IsUnfitSaid line _ words = IsAtLine line words

abbrev pub IsFaultSaid : ℕ → ExerciseKind → List ℕ → Type 0
IsFaultSaid line fault.Memory words = words ≡ codes "out of memory"
IsFaultSaid line _ words = IsAtLine line words
