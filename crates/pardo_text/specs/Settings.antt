-- Settings: values that constants and arrays are given from outside.
use Rattle.std.specs.Prelude.{◌≡◌, ◌≢◌, ℕ, ◌+◌, ◌-◌, ◌%◌, ◌^◌, ◌==◌, Bool, true, false, not, nat_lt}
use Rattle.std.specs.Prelude.{if◌then◌else◌, List, [], ◌∷◌, ◌++◌, length, take, drop, map, codes}
use Rattle.std.specs.Prelude.{decimal, is_some, slice_get, Option, Some, None, Result, Ok, Err}
use Rattle.std.specs.Prelude.{◌&&◌, ◌||◌, find, replicate, slice_index, unwrap_or}
use Rattle.std.specs.List.{flat_map, join_with_byte, list_any, position, range_with_len}
use Rattle.std.specs.List.{slice_split}
use Rattle.std.specs.Option.{option_and_then, option_map}
use Rattle.std.specs.Str.{bytes_eq}
use Rattle.pardo_text.specs.declared.fault.PardoFault.{PardoFault}
use Rattle.pardo_text.specs.declared.fault.PardoKind.{PardoKind}
use Rattle.pardo_text.specs.declared.fault.PardoKind.TheVariants as pardo
use Rattle.pardo_text.specs.declared.settings.Rest.{Rest}
use Rattle.pardo_text.specs.declared.settings.Rest.TheVariants.{Last, Nothing, Throws}
use Rattle.pardo_text.specs.declared.settings.SetFault.{SetFault}
use Rattle.pardo_text.specs.declared.settings.SetKind.{SetKind}
use Rattle.pardo_text.specs.declared.settings.SetKind.TheVariants.{BadNumber, BadSetting}
use Rattle.pardo_text.specs.declared.settings.SetKind.TheVariants.{DuplicateName, OutOfLimits}
use Rattle.pardo_text.specs.declared.settings.SetKind.TheVariants.{UnknownName, WrongKind}
use Rattle.pardo_text.specs.declared.settings.SetKind.TheVariants.{WrongLength}
use Rattle.pardo_text.specs.declared.settings.SetRefusal.{SetRefusal}
use Rattle.pardo_text.specs.declared.settings.SetRefusal.TheVariants as refusal
use Rattle.pardo_text.specs.declared.symbol.Symbol.{Symbol}
use Rattle.pardo_text.specs.declared.symbol.Symbol.TheVariants as the
use Rattle.pardo_text.specs.Inner.Tokens.{after_blanks}
use Rattle.pardo_program.specs.Program.{ArrayData, ProgramData}
use Rattle.pardo_text.specs.Reading.{program_of}
use Rattle.pardo_text.specs.Tokens.{Token, name, number, symbol, token_at}
use Rattle.pardo_text.specs.Thrown.{thrown_in, thrown_values}
use Rattle.pardo_text.specs.declared.thrown.Thrown.{Thrown}
use Rattle.text_lines.specs.Lines.{Word, lines_of, said_in}
use Rattle.text_lines.specs.Reads.{◌>>=◌}

-- a name, the values that it is set to, and what follows them
pub record SettingData : Type 0 where
  pub name : Word
  pub values : List ℕ
  pub rest : Rest

-- numbers alone
abbrev pub as_numbers : Word → List ℕ → SettingData
as_numbers word values = record { name = word; values = values; rest = Nothing }

-- the number of the first setting of this name, counted from 0
abbrev pub setting_of : List SettingData → Word → Option ℕ
setting_of settings word = position (λ setting. bytes_eq setting.name word) settings

-- what a name is set to
abbrev pub set_to : List SettingData → Word → Option (List ℕ)
set_to settings word =
    option_and_then (λ at. option_map (λ setting. setting.values) (slice_get settings at))
    (setting_of settings word)

-- the first name and its values
abbrev pub first_in : List SettingData → Option (Word × List ℕ)
first_in [] = None
first_in (first ∷ others) = Some (first.name, first.values)

-- the settings, the first name being set to this value alone
abbrev pub with_first : List SettingData → ℕ → List SettingData
with_first [] value = []
with_first (first ∷ others) value = as_numbers first.name (value ∷ []) ∷ others

-- ---- the lines that are set

-- the token that comes next in a line, and what stands after it
abbrev pub next_at : List ℕ → Option (Token × List ℕ)
next_at line = token_at (after_blanks line)

abbrev pub named_by : Symbol → Token → List ℕ → Option (Symbol × Word × List ℕ)
named_by keyword (name word) rest = Some (keyword, word, rest)
named_by keyword _ rest = None

abbrev pub declared_by : Token → Option (Token × List ℕ) → Option (Symbol × Word × List ℕ)
declared_by (symbol keyword) (Some second) = named_by keyword second.0 second.1
declared_by _ _ = None

-- the keyword and the name with which a line begins, and what stands after them
abbrev pub declared_at : List ℕ → Option (Symbol × Word × List ℕ)
declared_at line =
    option_and_then (λ first. declared_by first.0 (next_at first.1)) (next_at line)

-- An index begins with `[`, and ends with the first `]`; a scalar has none.
abbrev pub has_index : List ℕ → Bool
has_index [] = false
has_index (byte ∷ rest) = byte == 91

abbrev pub after_index : List ℕ → Option (List ℕ)
after_index rest =
    if has_index (after_blanks rest)
    then option_map (λ end. drop (end + 1) rest) (position (λ byte. byte == 93) rest)
    else Some rest

-- what stands where the value does that may be set: after the name of a constant, and after the
-- index of an array
abbrev pub settable_value : Symbol → List ℕ → Option (List ℕ)
settable_value the.Const rest = Some rest
settable_value the.Shared rest = after_index rest
settable_value _ rest = None

-- What a line is set to: what its name is; but the array of a line whose values do not count has
-- none.
abbrev pub put_by : Bool → List SettingData → Symbol → Word → Option (List ℕ)
put_by true settings the.Shared word = Some []
put_by bare settings keyword word = set_to settings word

-- the beginning of a line that stays, and the values that follow it, where it is set
abbrev pub set_in : Bool → List SettingData → List ℕ → Option (List ℕ × List ℕ)
set_in bare settings line = option_and_then (λ declared.
    option_and_then (λ rest.
    option_map (λ values. (take (length line - length rest) line, values))
    (put_by bare settings declared.0 declared.1))
    (settable_value declared.0 declared.2))
    (declared_at line)

-- numbers, each after what parts it from the one before
abbrev pub parted : List ℕ → List ℕ → List ℕ
parted before [] = []
parted before (value ∷ values) = before ++ decimal value ++ parted (codes ", ") values

-- A line as it is set: `const NAME = V`, `shared NAME[..] = V, V, ..`. What is exchanged is not
-- read. All other lines stay.
abbrev pub settled_line : Bool → List SettingData → List ℕ → List ℕ
settled_line bare settings line = elim (set_in bare settings (said_in line)) [
  | None ↦ line
  | Some found ↦ found.0 ++ parted (codes " = ") found.1
]

abbrev pub line_as_set : List SettingData → List ℕ → List ℕ
line_as_set = settled_line false

-- ---- how many places an array has

abbrev pub is_code : Token → Bool
is_code (symbol the.Code) = true
is_code _ = false

abbrev pub begins_code : List ℕ → Bool
begins_code line = elim (next_at (said_in line)) [
  | None ↦ false
  | Some found ↦ is_code found.0
]

abbrev pub before_code : List (List ℕ) → List (List ℕ)
before_code [] = []
before_code (line ∷ lines) = if begins_code line then [] else line ∷ before_code lines

-- the header with constants set, and with or without the values of arrays, as a program
abbrev pub settled_header : Bool → List SettingData → List ℕ → List ℕ
settled_header bare settings text =
    flat_map (λ line. settled_line bare settings line ++ 10 ∷ []) (before_code (lines_of text))
    ++ codes "code\nif 0\nend"

abbrev pub arrays_of : Result ProgramData PardoFault → List ArrayData
arrays_of (Ok program) = program.arrays
arrays_of (Err fault) = []

-- the arrays of the text as it stands, and those that it has with constants set
abbrev pub own_arrays : List ℕ → List ArrayData
own_arrays text = arrays_of (program_of (settled_header false [] text))

abbrev pub sized_arrays : List SettingData → List ℕ → List ArrayData
sized_arrays settings text = arrays_of (program_of (settled_header true settings text))

abbrev pub places_of : ArrayData → ℕ
places_of array = length array.start

-- how many places the array of this name has, if there is one
abbrev pub places_named : List ArrayData → Word → Option ℕ
places_named arrays word =
    option_map places_of (find (λ array. bytes_eq array.name word) arrays)

-- ---- settings as numbers alone

-- so many values; the last one fills the rest, or all are thrown
abbrev pub values_with : Rest → List ℕ → ℕ → List ℕ
values_with Nothing values places = values
values_with Last values places =
    values ++ replicate (places - length values) (slice_index values (length values - 1))
values_with (Throws thrown) values places = thrown_values thrown places

-- what is no array, or of none that is known, has one place
abbrev pub numbers_set : List ArrayData → SettingData → SettingData
numbers_set sized setting = as_numbers setting.name
    (values_with setting.rest setting.values (unwrap_or (places_named sized setting.name) 1))

-- these values over and over, for so many places
abbrev pub repeated : List ℕ → ℕ → List ℕ
repeated values places =
    map (λ place. slice_index values (place % length values)) (range_with_len 0 places)

abbrev pub is_shared : Symbol → Bool
is_shared the.Shared = true
is_shared _ = false

-- The line declares this array, and lists a value for each of its places.
abbrev pub lists_by : Option (Symbol × Word × List ℕ) → Word → Bool
lists_by None word = false
lists_by (Some declared) word = is_shared declared.0 && bytes_eq declared.1 word
    && list_any (λ byte. byte == 61) declared.2 && not (list_any (λ byte. byte == 46) declared.2)

abbrev pub lists_values : Word → List ℕ → Bool
lists_values word line = lists_by (declared_at (said_in line)) word

-- An array that is not set, whose line lists its values, and which has not as many places as in the
-- text as it stands, gets these values over and over.
abbrev pub fits_as_is : List SettingData → List ℕ → Word → Bool
fits_as_is settings text word = is_some (setting_of settings word)
    || not (list_any (lists_values word) (lines_of text))

abbrev pub refilled : Option ℕ → Bool → ArrayData → List SettingData
refilled None fits array = []
refilled (Some places) fits array =
    if (places == places_of array) || (places_of array == 0) || fits then []
    else as_numbers array.name (repeated array.start places) ∷ []

abbrev pub refilled_by : List ArrayData → List SettingData → List ℕ → ArrayData → List SettingData
refilled_by sized settings text array =
    refilled (places_named sized array.name) (fits_as_is settings text array.name) array

-- All that is set of a text, as numbers alone: the settings, and then the arrays whose lengths
-- follow from them.
abbrev pub settled_with : List ArrayData → List ArrayData → List SettingData → List ℕ →
    List SettingData
settled_with sized own settings text =
    map (numbers_set sized) settings ++ flat_map (refilled_by sized settings text) own

unfoldable pub settled : List SettingData → List ℕ → List SettingData
settled settings text = if length settings == 0 then []
    else settled_with (sized_arrays settings text) (own_arrays text) settings text

-- the text with names set to numbers, line for line
abbrev pub exchanged : List SettingData → List ℕ → List ℕ
exchanged settings text = join_with_byte 10 (map (line_as_set settings) (lines_of text))

-- the text as it is set, line for line
unfoldable pub text_as_set : List SettingData → List ℕ → List ℕ
text_as_set settings text = exchanged (settled settings text) text

-- ---- values that a text spells

abbrev pub alone : Token → List ℕ → Result ℕ SetKind
alone (number value) [] = if nat_lt value (2 ^ 32) then Ok value else Err OutOfLimits
alone _ _ = Err BadNumber

-- a field is one number, with blanks around it
unfoldable pub field_value : List ℕ → Result ℕ SetKind
field_value field = elim (next_at field) [
  | None ↦ Err BadNumber
  | Some found ↦ alone found.0 (after_blanks found.1)
]

-- these values, and those of fields after them
abbrev pub with_fields : List ℕ → List (List ℕ) → Result (List ℕ) SetKind
with_fields values [] = Ok values
with_fields values (field ∷ fields) = do
  value ← field_value field
  with_fields (values ++ value ∷ []) fields

-- the fields of a line stand between its commas; an empty line has none
abbrev pub fields_in : List ℕ → List ℕ → List (List ℕ)
fields_in line [] = []
fields_in line (byte ∷ rest) = slice_split (λ b. b == 44) line

-- these values, and those of lines of fields after them
abbrev pub with_rows : List ℕ → List (List ℕ) → Result (List ℕ) SetKind
with_rows values [] = Ok values
with_rows values (line ∷ lines) = do
  next ← with_fields values (fields_in line (after_blanks line))
  with_rows next lines

-- there is one at least
abbrev pub some_of : List ℕ → Result (List ℕ) SetKind
some_of [] = Err WrongLength
some_of (value ∷ values) = Ok (value ∷ values)

-- the values that a text lists: all its fields
unfoldable pub values_listed : List ℕ → Result (List ℕ) SetKind
values_listed text = do
  values ← with_rows [] (lines_of text)
  some_of values

-- what stands before an end
abbrev pub before_end : List ℕ → List ℕ → Option (List ℕ)
before_end end text =
    if bytes_eq (drop (length text - length end) text) end
    then Some (take (length text - length end) text) else None

-- values, and what follows them
abbrev pub followed_by : Rest → Result (List ℕ) SetKind → Result (List ℕ × Rest) SetKind
followed_by rest (Ok values) = Ok (values, rest)
followed_by rest (Err kind) = Err kind

abbrev pub listed_values : List ℕ → Option (List ℕ) → Result (List ℕ × Rest) SetKind
listed_values text None = followed_by Nothing (values_listed text)
listed_values text (Some before) = followed_by Last (values_listed before)

-- A text throws values, or lists them, and `,...` after them lets the last one fill the rest.
abbrev pub numbers_by : Option Thrown → List ℕ → Result (List ℕ × Rest) SetKind
numbers_by (Some thrown) text = Ok ([], Throws thrown)
numbers_by None text = listed_values text (before_end (codes ",...") text)

unfoldable pub values_spelled : List ℕ → Result (List ℕ × Rest) SetKind
values_spelled text = numbers_by (thrown_in text) text

-- a name alone
abbrev pub is_lone_name : Token → List ℕ → Bool
is_lone_name (name word) [] = true
is_lone_name _ _ = false

abbrev pub names_one : Word → Bool
names_one word = elim (next_at word) [
  | None ↦ false
  | Some found ↦ is_lone_name found.0 found.1
]

-- the settings, and one more after them
unfoldable pub with_setting : List SettingData → Word → List ℕ → Result (List SettingData) SetKind
with_setting settings word text =
    if not (names_one word) then Err BadSetting
    else (if is_some (setting_of settings word) then Err DuplicateName
    else (do
      found ← values_spelled text
      Ok (settings ++ record { name = word; values = found.0; rest = found.1 } ∷ [])))

-- ---- settings that do not fit

-- what a keyword declares, if it declares something, and whether that may be set
abbrev pub may_set : Symbol → Option Bool
may_set the.Const = Some true
may_set the.Shared = Some true
may_set the.Procs = Some false
may_set the.Private = Some false
may_set _ = None

abbrev pub settable_by : Option (Symbol × Word × List ℕ) → Word → Option Bool
settable_by None word = None
settable_by (Some declared) word =
    if bytes_eq declared.1 word then may_set declared.0 else None

-- whether what the first of these lines declares that declares the name may be set
abbrev pub settable_in : List (List ℕ) → Word → Option Bool
settable_in [] word = None
settable_in (line ∷ lines) word = elim (settable_by (declared_at (said_in line)) word) [
  | None ↦ settable_in lines word
  | Some found ↦ Some found
]

-- what is wrong with a name
abbrev pub misfit : Option Bool → Option SetKind
misfit None = Some UnknownName
misfit (Some false) = Some WrongKind
misfit (Some true) = None

-- the first setting, of those from this number on, whose name may not be set in the text
abbrev pub unmet_from : ℕ → List SettingData → List ℕ → Option SetFault
unmet_from at [] text = None
unmet_from at (setting ∷ settings) text = elim (misfit (settable_in (lines_of text) setting.name)) [
  | None ↦ unmet_from (at + 1) settings text
  | Some kind ↦ Some (record { at = at; kind = kind })
]

abbrev pub unmet : List SettingData → List ℕ → Option SetFault
unmet settings text = unmet_from 0 settings text

-- ---- programs as they are set

-- the line of this number, of lines that stand after so many others
abbrev pub line_numbered : ℕ → List (List ℕ) → ℕ → Option (List ℕ)
line_numbered before [] wanted = None
line_numbered before (line ∷ lines) wanted =
    if before + 1 == wanted then Some line else line_numbered (before + 1) lines wanted

-- whether this is the fault of a line that is set to so many values: of an array other than its
-- places, of a constant other than one
abbrev pub is_of_length : Symbol → ℕ → PardoKind → Bool
is_of_length the.Const count pardo.BadLine = not (count == 1)
is_of_length the.Shared count pardo.WrongLength = true
is_of_length _ count _ = false

abbrev pub blamed_by : List SettingData → PardoKind → Symbol → Word → Option SetFault
blamed_by settings kind keyword word =
    option_and_then (λ at. option_and_then (λ values.
    if is_of_length keyword (length values) kind
    then Some (record { at = at; kind = WrongLength }) else None)
    (set_to settings word))
    (setting_of settings word)

-- the setting in which a fault of the text as it is set lies, if it lies in one
abbrev pub blamed : List SettingData → List ℕ → PardoFault → Option SetFault
blamed settings text fault = option_and_then (λ line.
    option_and_then (λ declared. blamed_by settings fault.kind declared.0 declared.1)
    (declared_at (said_in line)))
    (line_numbered 0 (lines_of text) fault.line)

-- a fault of the text as it is set, or of the setting in which it lies
abbrev pub laid : Option SetFault → PardoFault → SetRefusal
laid None fault = refusal.Text fault
laid (Some found) fault = refusal.Setting found

-- a program, unless a setting is not met
abbrev pub met : Option SetFault → ProgramData → Result ProgramData SetRefusal
met None program = Ok program
met (Some fault) program = Err (refusal.Setting fault)

-- the program of the text as it is set, or the first fault: of the text, and then of the settings
-- that are not met
unfoldable pub program_set : List SettingData → List ℕ → Result ProgramData SetRefusal
program_set settings text = elim (program_of (text_as_set settings text)) [
  | Ok program ↦ met (unmet settings text) program
  | Err fault ↦ Err (laid (blamed settings text fault) fault)
]

-- A refusal names the fault of the text as it is set; or memory ran out, in line 0.
abbrev pub IsSetRefusal : List SettingData → List ℕ → SetRefusal → Type 0
IsSetRefusal settings text (refusal.Setting fault) =
    program_set settings text ≡ Err (refusal.Setting fault)
IsSetRefusal settings text (refusal.Text fault) =
    (fault.kind ≢ pardo.Memory → program_set settings text ≡ Err (refusal.Text fault))
    × (fault.kind ≡ pardo.Memory → fault.line ≡ 0)
