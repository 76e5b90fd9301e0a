-- What a reader holds of the lines with words that it has read.
use Rattle.std.specs.BTreeMap.{BTreeMap, get_by}
use Rattle.std.specs.Cmp.Lexicographic.{slice_cmp}
use Rattle.std.specs.Prelude.{◌≡◌, ◌≢◌, ℕ, ◌-◌, ◌≤◌, Bool, true, false, ◌&&◌, if◌then◌else◌}
use Rattle.std.specs.Prelude.{List, [], ◌∷◌, ◌++◌, length, map, Option, Some, None}
use Rattle.std.specs.Prelude.{Result, Ok, Err, ◌⊎◌, slice_index, slice_index_or, is_some, Vec}
use Rattle.std.specs.Global.{Global}
use Rattle.std.specs.Borrow.{Bor}
use Rattle.std.specs.Ordering.{nat_cmp}
use Rattle.std.specs.List.{list_any}
use Rattle.std.specs.Result.{result_err}
use Rattle.pram_text.specs.declared.fault.TextFault.{TextFault}
use Rattle.pram_text.specs.declared.fault.TextKind.{TextKind}
use Rattle.pram_text.specs.declared.fault.TextKind.TheVariants.{Memory}
use Rattle.pram_text.specs.declared.head.Head.{Head}
use Rattle.pram_text.specs.declared.head.Next.{Next}
use Rattle.pram_text.specs.declared.head.Next.TheVariants.{Version, Cells, Procs, Steps}
use Rattle.pram_text.specs.declared.head.Next.TheVariants.{Rules, Start, Code}
use Rattle.pram_text.specs.declared.start.Setup.{Setup}
use Rattle.pram_job.specs.declared.instr.Rule.TheVariants.{Common}
use Rattle.pram_job.specs.declared.instr.Array.{Array}
use Rattle.pram_job.specs.declared.instr.Instr.{Instr}
use Rattle.pram_job.specs.declared.instr.Instr.TheVariants.{Halt}
use Rattle.pram_text.specs.declared.program.Program.{Program}
use Rattle.pram_text.specs.declared.program.Written.{Written}
use Rattle.pram_text.specs.declared.reader.Reader.{Reader}
use Rattle.pram_job.specs.Job.{JobData, job_data}
use Rattle.text_lines.specs.Lines.{Word, Line, words_of, worded, is_filled}
use Rattle.pram_text.specs.Judgement.{version_of, cells_of, procs_of}
use Rattle.pram_text.specs.Judgement.{steps_of, is_later, Entry, names, gives, array_of}
use Rattle.text_lines.specs.Reads.{◌>>=◌}
use Rattle.pram_text.specs.Judgement.{values_of, init_of, unlabelled, Scope, instr_of}
use Rattle.pram_text.specs.Inner.Statement.{resolved, array_of_name}
use Rattle.pram_text.specs.Text.{label_index, is_named, new_label_fault, SaysEntries, IsLabelled}
use Rattle.pram_text.specs.Text.{array_in, value_in, gives_values, scope_of, scope_in}
use Rattle.pram_text.specs.Text.{SpellsHeader, code_heading, SpellsLines, words_fault, line_fault}
use Rattle.pram_text.specs.Text.{entry_fault, instr_fault, end_fault, has_code, body_of}
use Rattle.pram_text.specs.Text.{label_fault_at, IsFirst}

-- ---- the header

-- a header to its end
abbrev pub IsHeader : List Line → Head → Type 0
IsHeader lines head = SpellsHeader head.version head.cells head.procs head.steps head.rule lines

-- what comes next stands in the header
abbrev pub IsFront : Next → Type 0
IsFront Start = ⊥
IsFront Code = ⊥
IsFront _ = Unit {0}

-- the header so far, by what comes next
abbrev pub HoldsHead : Next → List Line → Head → Type 0
HoldsHead Version lines head = (lines ≡ []) × (head.rule ≡ Common)
HoldsHead Cells lines head =
    (version : Line) × (lines ≡ version ∷ [])
    × (version_of version ≡ Ok head.version) × (head.rule ≡ Common)
HoldsHead Procs lines head =
    (version : Line) × (cells : Line) × (lines ≡ version ∷ cells ∷ [])
    × (version_of version ≡ Ok head.version) × (cells_of head.version cells ≡ Ok head.cells)
    × (head.rule ≡ Common)
HoldsHead Steps lines head =
    (version : Line) × (cells : Line) × (procs : Line) × (lines ≡ version ∷ cells ∷ procs ∷ [])
    × (version_of version ≡ Ok head.version) × (cells_of head.version cells ≡ Ok head.cells)
    × (procs_of head.version procs ≡ Ok head.procs) × (head.rule ≡ Common)
HoldsHead Rules lines head =
    (version : Line) × (cells : Line) × (procs : Line) × (steps : Line)
    × (lines ≡ version ∷ cells ∷ procs ∷ steps ∷ [])
    × (version_of version ≡ Ok head.version) × (cells_of head.version cells ≡ Ok head.cells)
    × (procs_of head.version procs ≡ Ok head.procs) × (steps_of steps ≡ Ok head.steps)
    × (2 ≤ head.version)
HoldsHead _ lines head = IsHeader lines head

-- one line more
abbrev pub TakesHead : List Line → Line → Result Head TextKind → Type 0
TakesHead before line (Ok head) = (words_fault before line ≡ None)
    × HoldsHead head.next (before ++ line ∷ []) head × (head.next ≢ Code)
TakesHead before line (Err kind) = words_fault before line ≡ Some kind

-- ---- arrays and start values

-- the value given to a cell so far
abbrev pub value_given : List (Option ℕ) → ℕ → Option ℕ
value_given start cell = slice_index_or start cell None

-- nothing is said so far
abbrev pub HoldsNothing : Setup → Type 0
HoldsNothing start = (start.values.items ≡ []) × ((name : Word) →
    array_of_name start.arrays name ≡ None)

pub record HoldsStart (later : Bool) (cells : ℕ) (inits : List Line) (start : Setup) : Type 0 where
  pub entries : List Entry
  pub said : SaysEntries later cells inits entries
  pub arrays : (name : Word) → array_of_name start.arrays name ≡ array_in entries name
  pub values : (cell : ℕ) → value_given start.values.items cell ≡ value_in entries cell
  pub filled : is_filled start.values.items ≡ list_any gives_values entries

abbrev pub TakesStart : Bool → ℕ → List Line → Line → Result (Unit {0}) TextKind → Setup → Type 0
TakesStart later cells inits line (Ok _) start = (entry_fault later cells inits line ≡ None)
    × HoldsStart later cells (inits ++ line ∷ []) start
TakesStart later cells inits line (Err kind) start = kind ≢ Memory →
    entry_fault later cells inits line ≡ Some kind

-- What was read of a line is what the definitions say of it.
abbrev pub ReadsArray : ℕ → Line → Result (Bor (List ℕ) × Array) TextKind → Type 0
ReadsArray cells line result =
    array_of cells line ≡ (result >>= λ read. Ok (names read.0.now read.1))

abbrev pub ReadsInit : Bool → ℕ → Line → Result (ℕ × Bor (List ℕ)) TextKind → Type 0
ReadsInit later cells line result =
    init_of later cells line ≡ (result >>= λ read. values_of (cells - read.0) (words_of read.1.now)
    >>= λ values. Ok (gives read.0 values))

-- numbers read, unless memory ran out
abbrev pub ReadsValues : ℕ → Line → Result (Vec ℕ Global) TextKind → Type 0
ReadsValues room words (Ok values) = values_of room words ≡ Ok values.items
ReadsValues room words (Err kind) = kind ≢ Memory → values_of room words ≡ Err kind

-- ---- instructions

-- the index of a label, if it has one
abbrev pub label_at : BTreeMap (Bor (List ℕ)) ℕ → Word → Option ℕ
label_at indices name = get_by (λ key. slice_cmp nat_cmp name key.now) indices

-- what is wrong with one label more
abbrev pub define_fault : BTreeMap (Bor (List ℕ)) ℕ → Option Word → Option TextKind
define_fault indices label = new_label_fault (λ name. is_some (label_at indices name)) label

-- one label more
abbrev pub Defines : BTreeMap (Bor (List ℕ)) ℕ → Option Word → ℕ → Result (Unit {0}) TextKind →
    BTreeMap (Bor (List ℕ)) ℕ → Type 0
Defines old label index (Ok _) new =
    (define_fault old label ≡ None)
    × ((name : Word) →
    label_at new name ≡ (if is_named label name then Some index else label_at old name))
Defines old label index (Err kind) new = kind ≢ Memory → define_fault old label ≡ Some kind

-- each label's index
abbrev pub HoldsIndices : List Line → BTreeMap (Bor (List ℕ)) ℕ → Type 0
HoldsIndices body indices = (name : Word) → label_at indices name ≡ label_index body name

pub record HoldsCode (scope : Scope) (body : List Line) (program : Program) : Type 0 where
  pub labelled : IsLabelled body
  pub indices : HoldsIndices body program.indices
  pub said : (find : Word → Option ℕ) →
      map (λ line. instr_of scope find (unlabelled line)) body
      ≡ map (λ entry. resolved find entry.statement) program.written.items

-- the numbers of the lines with instructions
abbrev pub numbers_of : Program → List ℕ
numbers_of program = map (λ entry. entry.line) program.written.items

abbrev pub TakesCode : Scope → List Line → Line → Result (Unit {0}) TextKind → Program → Type 0
TakesCode scope body line (Ok _) program = (instr_fault scope body line ≡ None)
    × HoldsCode scope (body ++ line ∷ []) program
TakesCode scope body line (Err kind) program = kind ≢ Memory →
    instr_fault scope body line ≡ Some kind

-- the fault of the outcome of this index
abbrev pub fault_of_index : List (Result Instr TextKind) → ℕ → Option TextKind
fault_of_index outcomes index = result_err (slice_index_or outcomes index (Ok Halt))

-- the statements' instructions, where `find` finds the indices of labels, or the number of the
-- first line where it does not
abbrev pub IsCoded : (Word → Option ℕ) → List Written → Result (Vec Instr Global) TextFault → Type 0
IsCoded find written (Ok code) =
    map (λ entry. resolved find entry.statement) written ≡ map (λ instr. Ok instr) code.items
IsCoded find written (Err fault) =
    fault.kind ≢ Memory → (index : ℕ)
    × (fault.line ≡ slice_index (map (λ entry. entry.line) written) index)
    × IsFirst (fault_of_index (map (λ entry. resolved find entry.statement) written))
    (length written) index fault.kind

-- ---- the whole

-- no instruction so far
abbrev pub HoldsNoCode : Program → Type 0
HoldsNoCode program = (scope : Scope) → HoldsCode scope [] program

-- arrays and start values so far, in a text with this header
abbrev pub Starts : List Line → Reader → Type 0
Starts inits reader =
    HoldsStart (is_later reader.head.version) reader.head.cells inits reader.setup

-- what the words of instruction lines may be, by these entries
abbrev pub scope_by : Reader → List Entry → Scope
scope_by reader entries = scope_of (is_later reader.head.version) entries

-- the lines so far, by what comes next
abbrev pub HoldsAt : Next → List Line → Reader → Type 0
HoldsAt Start before reader =
    (front : List Line) × (inits : List Line) × (before ≡ front ++ inits)
    × IsHeader front reader.head × Starts inits reader × HoldsNoCode reader.program
HoldsAt Code before reader =
    (front : List Line) × (inits : List Line) × (body : List Line)
    × (before ≡ front ++ (inits ++ code_heading ∷ body))
    × IsHeader front reader.head × (starts : Starts inits reader)
    × HoldsCode (scope_by reader starts.entries) body reader.program
HoldsAt next before reader = HoldsHead next before reader.head × HoldsNothing reader.setup
    × HoldsNoCode reader.program

abbrev pub HoldsLines : List Line → Reader → Type 0
HoldsLines before reader = HoldsAt reader.head.next before reader

-- the number of one line more, if it has an instruction
abbrev pub number_if : Bool → ℕ → List ℕ
number_if true number = number ∷ []
number_if false number = []

-- one line with words more
abbrev pub TakesWords : List Line → Line → Reader → ℕ → Result (Unit {0}) TextKind → Reader → Type 0
TakesWords before line old number (Ok _) reader =
    (words_fault before line ≡ None) × HoldsLines (before ++ line ∷ []) reader
    × (numbers_of reader.program ≡ numbers_of old.program ++ number_if (has_code before) number)
TakesWords before line old number (Err kind) reader = kind ≢ Memory →
    words_fault before line ≡ Some kind

-- one line more
abbrev pub TakesInLine : List Line → List ℕ → Reader → ℕ → Result (Unit {0}) TextKind → Reader →
    Type 0
TakesInLine before line old number (Ok _) reader =
    (line_fault before line ≡ None) × HoldsLines (before ++ worded (line ∷ [])) reader
    × (numbers_of reader.program ≡ numbers_of old.program
    ++ number_if (has_code before && is_filled (words_of line)) number)
TakesInLine before line old number (Err kind) reader = kind ≢ Memory →
    line_fault before line ≡ Some kind

-- ---- the end

-- the first jump to an unknown label, and the number of its line
abbrev pub IsUnknownLabel : List Line → List ℕ → TextFault → Type 0
IsUnknownLabel before numbers fault =
    (index : ℕ) × (fault.line ≡ slice_index numbers index)
    × IsFirst (label_fault_at (scope_in before) (body_of before)) (length (body_of before)) index
    fault.kind

-- what lines that were all read make: where they lack something, a fault of their last one
abbrev pub FinishesJob : List Line → List ℕ → ℕ → Result JobData TextFault → Type 0
FinishesJob before numbers last (Ok job) = SpellsLines job before
FinishesJob before numbers last (Err fault) =
    fault.kind ≢ Memory
    → ((end_fault before ≡ Some fault.kind) × (fault.line ≡ last))
    ⊎ ((end_fault before ≡ None) × IsUnknownLabel before numbers fault)

-- the job of a header, of start values and of instructions
abbrev pub job_of_head : Head → List ℕ → List Instr → JobData
job_of_head head init code = job_data head.rule head.cells head.procs head.steps init code
