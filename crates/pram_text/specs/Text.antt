-- A text spells a job; a line of a text bears a fault.
use Rattle.std.specs.Prelude.{◌≡◌, ◌≢◌, ℕ, ◌+◌, ◌-◌, ◌<◌, ◌≤◌, Bool, true}
use Rattle.std.specs.Prelude.{false, not, ◌&&◌, ◌||◌, ◌==◌, nat_le, if◌then◌else◌, List}
use Rattle.std.specs.Prelude.{[], ◌∷◌, ◌++◌, length, take, map, codes}
use Rattle.std.specs.Prelude.{All, AllPairs, Option, Some, None, unwrap_or, Result}
use Rattle.std.specs.Prelude.{Ok, Err, IfSome, IsTrue, ◌⊎◌, zero, suc}
use Rattle.std.specs.Prelude.{drop, is_some, slice_get, slice_index, slice_index_or, position}
use Rattle.std.specs.List.{list_all, list_any, before_first, after_first, filter_map}
use Rattle.std.specs.List.{range_with_len}
use Rattle.std.specs.Option.{option_or}
use Rattle.std.specs.Result.{result_ok, result_err, result_unwrap_or}
use Rattle.std.specs.Str.{bytes_eq}
use Rattle.pram_text.specs.declared.fault.TextKind.{TextKind}
use Rattle.pram_text.specs.declared.fault.TextKind.TheVariants.{NotAscii, BadHeader}
use Rattle.pram_text.specs.declared.fault.TextKind.TheVariants.{UnknownInstruction, DuplicateLabel}
use Rattle.pram_text.specs.declared.fault.TextKind.TheVariants.{NoCode, TooLong}
use Rattle.pram_text.specs.declared.fault.TextKind.TheVariants.{Memory}
use Rattle.pram_job.specs.declared.instr.Array.{Array}
use Rattle.pram_job.specs.declared.instr.Instr.{Instr}
use Rattle.pram_job.specs.declared.instr.Rule.TheVariants.{Common}
use Rattle.pram_job.specs.declared.instr.Rule.{Rule}
use Rattle.pram_job.specs.declared.limits.TheConstants.{MAX_CODE}
use Rattle.pram_job.specs.Job.{JobData}
use Rattle.text_lines.specs.Lines.{Word, Line, lines_of, words_of}
use Rattle.text_lines.specs.Lines.{worded, numbered, is_allowed, is_filled}
use Rattle.pram_text.specs.Judgement.{version_of, is_later, cells_of, procs_of, steps_of, rule_of}
use Rattle.pram_text.specs.Judgement.{Entry, names, gives, entry_of, is_code, label_of, unlabelled}
use Rattle.pram_text.specs.Judgement.{is_name, Scope, instr_of}

-- ---- labels

-- whether this label, if there is one, has the name
abbrev pub is_named : Option Word → Word → Bool
is_named None name = false
is_named (Some label) name = bytes_eq label name

-- whether a line defines the label
abbrev pub defines : Word → Line → Bool
defines name line = is_named (label_of line) name

-- a label's index is the number of the first instruction that it stands before, counted from 0
abbrev pub label_index : List Line → Word → Option ℕ
label_index body name = position (defines name) body

-- ---- a text spells a job

-- the array of a name
abbrev pub array_by : Entry → Word → Option Array
array_by (names name array) word = if bytes_eq name word then Some array else None
array_by (gives first values) word = None

abbrev pub array_in : List Entry → Word → Option Array
array_in [] word = None
array_in (entry ∷ entries) word = option_or (array_by entry word) (array_in entries word)

-- the value of a cell, if it is given one
abbrev pub value_by : Entry → ℕ → Option ℕ
value_by (names name array) cell = None
value_by (gives first values) cell =
    if nat_le first cell then slice_get values (cell - first) else None

abbrev pub value_in : List Entry → ℕ → Option ℕ
value_in [] cell = None
value_in (entry ∷ entries) cell = option_or (value_by entry cell) (value_in entries cell)

abbrev pub gives_values : Entry → Bool
gives_values (names name array) = false
gives_values (gives first values) = true

-- A name is that of one array, and a cell is given one value. Arrays come before values.
unfoldable pub is_taken : List Entry → Entry → Bool
is_taken before (names name array) =
    list_any gives_values before || is_some (array_in before name)
is_taken before (gives first values) =
    list_any (λ cell. is_some (value_in before cell)) (range_with_len first (length values))

-- Each line says its entry, and takes nothing that those before it have taken.
pub record SaysEntries (later : Bool) (cells : ℕ) (lines : List Line) (entries : List Entry) :
    Type 0 where
  pub said : map (entry_of later cells) lines ≡ map (λ entry. Ok entry) entries
  pub fresh : (before : List Entry) (entry : Entry) (after : List Entry) →
      entries ≡ before ++ entry ∷ after → is_taken before entry ≡ false

-- A cell holds the value that it is given, or else 0.
pub record SpellsInit (cells : ℕ) (entries : List Entry) (init : List ℕ) : Type 0 where
  pub len : length init ≡ cells
  pub values : (cell : ℕ) → cell < cells →
      slice_index init cell ≡ unwrap_or (value_in entries cell) 0

-- what the words of instruction lines may be, where these lines stand before `code`
abbrev pub scope_of : Bool → List Entry → Scope
scope_of later entries = record { later = later; arrays = array_in entries }

-- The lines are not too many, their labels are names, and no two define one label.
pub record IsLabelled (body : List Line) : Type 0 where
  pub few : length body ≤ MAX_CODE
  pub names : All (λ line. IfSome (label_of line) (λ label. IsTrue (is_name label))) body
  pub once : AllPairs (λ line other. (label : Word) → label_of line ≡ Some label →
      label_of other ≢ Some label) body

-- Each line says its instruction, a label standing for its index.
pub record SpellsCode (scope : Scope) (body : List Line) (code : List Instr) : Type 0 where
  pub some : 1 ≤ length body
  pub labelled : IsLabelled body
  pub said : map (λ line. instr_of scope (label_index body) (unlabelled line)) body
      ≡ map (λ instr. Ok instr) code

-- Version 1 has the rule common, and no line for it; the others have one line, which names the
-- rule.
abbrev pub SpellsRule : ℕ → Rule → List Line → Type 0
SpellsRule (suc zero) rule lines = (lines ≡ []) × (rule ≡ Common)
SpellsRule version rule lines = (line : Line) × (lines ≡ line ∷ []) × (rule_of line ≡ Ok rule)

-- The header: four lines, and those of the rule.
pub record SpellsHeader (version cells procs steps : ℕ) (rule : Rule) (lines : List Line) :
    Type 0 where
  pub version_line : Line
  pub cells_line : Line
  pub procs_line : Line
  pub steps_line : Line
  pub rule_lines : List Line
  pub parts : lines ≡ version_line ∷ cells_line ∷ procs_line ∷ steps_line ∷ rule_lines
  pub version_said : version_of version_line ≡ Ok version
  pub cells_said : cells_of version cells_line ≡ Ok cells
  pub procs_said : procs_of version procs_line ≡ Ok procs
  pub steps_said : steps_of steps_line ≡ Ok steps
  pub rule_said : SpellsRule version rule rule_lines

abbrev pub code_heading : Line
code_heading = codes "code" ∷ []

-- The lines with words: the header, arrays and start values, the line `code`, and the instructions.
pub record SpellsLines (job : JobData) (lines : List Line) : Type 0 where
  pub version : ℕ
  pub header : List Line
  pub inits : List Line
  pub body : List Line
  pub entries : List Entry
  pub parts : lines ≡ header ++ (inits ++ code_heading ∷ body)
  pub sizes : SpellsHeader version job.cells job.procs job.steps job.rule header
  pub said : SaysEntries (is_later version) job.cells inits entries
  pub init : SpellsInit job.cells entries job.init
  pub code : SpellsCode (scope_of (is_later version) entries) body job.code

pub record Spells (text : List ℕ) (job : JobData) : Type 0 where
  pub allowed : All (λ line. IsTrue (list_all is_allowed line)) (lines_of text)
  pub lines : SpellsLines job (worded (lines_of text))

-- ---- the fault of a line by itself, where these lines with words stand before it

-- the version that the first line names, and the cells that the second asks for
abbrev pub version_in : Line → ℕ
version_in line = result_unwrap_or (version_of line) 0

abbrev pub cells_in : Line → Line → ℕ
cells_in version line = result_unwrap_or (cells_of (version_in version) line) 0

-- whether the first line asks for a line `rule`
abbrev pub names_rule : Line → Bool
names_rule version = nat_le 2 (version_in version)

-- what lines before have said
abbrev pub entries_in : Bool → ℕ → List Line → List Entry
entries_in later cells lines = filter_map (λ line. result_ok (entry_of later cells line)) lines

-- After the header stand arrays and start values, which take nothing that is taken.
abbrev pub new_entry_fault : List Entry → Result Entry TextKind → Option TextKind
new_entry_fault entries (Ok entry) = if is_taken entries entry then Some BadHeader else None
new_entry_fault entries (Err kind) = Some kind

unfoldable pub entry_fault : Bool → ℕ → List Line → Line → Option TextKind
entry_fault later cells before line =
    new_entry_fault (entries_in later cells before) (entry_of later cells line)

-- A label is a name that is not known yet.
abbrev pub new_label_fault : (Word → Bool) → Option Word → Option TextKind
new_label_fault is_known None = None
new_label_fault is_known (Some label) =
    if not (is_name label) then Some UnknownInstruction
    else (if is_known label then Some DuplicateLabel else None)

unfoldable pub label_fault : List Line → Line → Option TextKind
label_fault body line = new_label_fault (λ label. list_any (defines label) body) (label_of line)

-- The label first, then the instruction; a jump's label counts as known.
unfoldable pub instr_fault : Scope → List Line → Line → Option TextKind
instr_fault scope body line =
    if nat_le MAX_CODE (length body) then Some TooLong
    else option_or (label_fault body line)
    (result_err (instr_of scope (λ label. Some 0) (unlabelled line)))

-- whether the line `code` stands among lines without a fault, after the first four
abbrev pub has_code : List Line → Bool
has_code lines = list_any is_code (drop 4 lines)

-- the lines after it
abbrev pub body_of : List Line → List Line
body_of lines = after_first is_code (drop 4 lines)

-- what the words of instruction lines may be, after these lines
abbrev pub scope_after : Bool → ℕ → List Line → Scope
scope_after later cells lines =
    scope_of later (entries_in later cells (before_first is_code lines))

-- what the words of instruction lines may be, by the lines from the first
abbrev pub scope_in : List Line → Scope
scope_in lines =
    scope_after (is_later (version_in (slice_index_or lines 0 [])))
    (cells_in (slice_index_or lines 0 []) (slice_index_or lines 1 [])) (drop 4 lines)

-- a line after the header, where these lines stand between
abbrev pub rest_fault : Bool → ℕ → List Line → Line → Option TextKind
rest_fault later cells before line =
    if list_any is_code before
    then instr_fault (scope_after later cells before) (after_first is_code before) line
    else (if is_code line then None else entry_fault later cells before line)

unfoldable pub words_fault : List Line → Line → Option TextKind
words_fault [] line = result_err (version_of line)
words_fault (version ∷ []) line = result_err (cells_of (version_in version) line)
words_fault (version ∷ cells ∷ []) line = result_err (procs_of (version_in version) line)
words_fault (version ∷ cells ∷ procs ∷ []) line = result_err (steps_of line)
words_fault (version ∷ cells ∷ procs ∷ steps ∷ before) line =
    if names_rule version && not (is_filled before) then result_err (rule_of line)
    else rest_fault (is_later (version_in version)) (cells_in version cells) before line

unfoldable pub line_fault : List Line → List ℕ → Option TextKind
line_fault before line =
    if not (list_all is_allowed line) then Some NotAscii
    else (if is_filled (words_of line) then words_fault before (words_of line) else None)

-- ---- what a text lacks at its end

unfoldable pub end_fault : List Line → Option TextKind
end_fault lines =
    if not (has_code lines) then Some BadHeader
    else (if is_filled (body_of lines) then None else Some NoCode)

-- ---- a line of a text bears a fault

-- The line's own fault; after it, on the last line, what the text lacks.
unfoldable pub fault_at : List (List ℕ) → ℕ → Option TextKind
fault_at lines index =
    option_or (line_fault (worded (take index lines)) (slice_index_or lines index []))
    (if (index + 1) == length lines then end_fault (worded lines) else None)

-- the instruction lines of a text, each with its number
abbrev pub numbered_body : List (List ℕ) → List (ℕ × Line)
numbered_body lines = after_first (λ entry. is_code entry.1) (drop 4 (numbered lines))

-- the fault of one of these instruction lines, whose own are none: its jump's label is not defined
abbrev pub label_fault_at : Scope → List Line → ℕ → Option TextKind
label_fault_at scope body index =
    result_err (instr_of scope (label_index body) (unlabelled (slice_index_or body index [])))

-- The first of so many with a fault has this one.
pub record IsFirst (fault : ℕ → Option TextKind) (len index : ℕ) (kind : TextKind) : Type 0 where
  pub within : index < len
  pub here : fault index ≡ Some kind
  pub earlier : (earlier : ℕ) → earlier < index → fault earlier ≡ None

-- Lines count from 1. An unknown label is looked for where no line has another fault.
unfoldable pub Bears : List ℕ → ℕ → TextKind → Type 0
Bears text line kind =
    let lines = lines_of text in
    let body = numbered_body lines in
    ((index : ℕ) × (line ≡ index + 1) × IsFirst (fault_at lines) (length lines) index kind)
    ⊎ (((other : ℕ) → other < length lines → fault_at lines other ≡ None)
    × (index : ℕ) × (line ≡ slice_index (map (λ entry. entry.0) body) index)
    × IsFirst (label_fault_at (scope_in (worded lines)) (map (λ entry. entry.1) body))
    (length body) index kind)

-- A refusal names a fault of the text. Out of memory it says nothing of it, and names line
-- 0.
abbrev pub IsRefusal : List ℕ → ℕ → TextKind → Type 0
IsRefusal text line Memory = line ≡ 0
IsRefusal text line kind = Bears text line kind
