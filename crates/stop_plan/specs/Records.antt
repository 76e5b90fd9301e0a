-- The records of a text of a plan: what is wrong with a record, and the plan that they spell.
use Rattle.std.specs.Prelude.{◌≡◌, ◌<◌, ◌+◌, ◌^◌, ℕ, Bool, false, ◌&&◌}
use Rattle.std.specs.Prelude.{List, [], ◌∷◌, Option, Some, None, Result, Ok}
use Rattle.std.specs.Prelude.{Err, if◌then◌else◌, nat_lt, take, codes, option_and_then}
use Rattle.std.specs.List.{slice_get, filter_map}
use Rattle.std.specs.Result.{result_ok}
use Rattle.std.specs.Str.{all_ascii_digits, bytes_eq}
use Rattle.std.specs.Str.Parse.{digits_value}
use Rattle.std.specs.Cmp.Lexicographic.{pointwise}
use Rattle.csv.specs.Reading.{default_config, records, strip_bom}
use Rattle.stop_plan.specs.declared.plan.Act.{Act}
use Rattle.stop_plan.specs.declared.plan.Act.TheVariants.{Go, Sleep, Back, Stop}
use Rattle.stop_plan.specs.declared.plan.PlanKind.{PlanKind}
use Rattle.stop_plan.specs.declared.plan.PlanKind.TheVariants.{BadRow, BadWorker, BadAct}
use Rattle.stop_plan.specs.declared.plan.PlanKind.TheVariants.{BadNumber, AfterStop, Memory}
use Rattle.stop_plan.specs.declared.plan.PlanFault.{PlanFault}
use Rattle.stop_plan.specs.declared.plan.Row.{Row}
use Rattle.stop_plan.specs.Plan.{PlanData, stops}

abbrev pub Field : Type 0
Field = List ℕ

-- a record as its fields
abbrev pub PlanRecord : Type 0
PlanRecord = List Field

-- the records of a text, as `csv` defines them, without a byte order mark
abbrev pub records_of : List ℕ → List PlanRecord
records_of text = records default_config (strip_bom text)

-- one or more digits
abbrev pub is_number_field : Field → Bool
is_number_field [] = false
is_number_field (byte ∷ bytes) = all_ascii_digits (byte ∷ bytes)

-- the number that a field spells, if it is below a bound
unfoldable pub number_below : ℕ → Field → Option ℕ
number_below bound field =
    if is_number_field field && nat_lt (digits_value 10 field) bound then
    Some (digits_value 10 field)
    else None

unfoldable pub act_of : Field → Option Act
act_of field =
    if bytes_eq field (codes "go") then Some Go
    else if bytes_eq field (codes "sleep") then Some Sleep
    else if bytes_eq field (codes "back") then Some Back
    else if bytes_eq field (codes "stop") then Some Stop
    else None

-- the ticks of an act are below this
abbrev pub ticks_end : Act → ℕ
ticks_end Go = 2 ^ 32
ticks_end Sleep = 2 ^ 32
ticks_end Back = 1
ticks_end Stop = 1

abbrev pub row_with_ticks : ℕ → Act → Option ℕ → Result Row PlanKind
row_with_ticks worker act None = Err BadNumber
row_with_ticks worker act (Some ticks) = Ok (record { worker = worker; act = act; ticks = ticks })

abbrev pub row_with_act : ℕ → Option Act → Field → Result Row PlanKind
row_with_act worker None ticks = Err BadAct
row_with_act worker (Some act) ticks =
    row_with_ticks worker act (number_below (ticks_end act) ticks)

abbrev pub row_with_worker : Option ℕ → Field → Field → Result Row PlanKind
row_with_worker None act ticks = Err BadWorker
row_with_worker (Some worker) act ticks = row_with_act worker (act_of act) ticks

-- the row that a record below the header spells, or what is wrong with the record by itself
unfoldable pub row_of_record : ℕ → PlanRecord → Result Row PlanKind
row_of_record workers (worker ∷ act ∷ ticks ∷ []) =
    row_with_worker (number_below workers worker) act ticks
row_of_record workers (worker ∷ act ∷ ticks ∷ more ∷ rest) = Err BadRow
row_of_record workers (worker ∷ act ∷ []) = Err BadRow
row_of_record workers (worker ∷ []) = Err BadRow
row_of_record workers [] = Err BadRow

unfoldable pub is_header : PlanRecord → Bool
is_header fields = pointwise bytes_eq fields (codes "worker" ∷ codes "act" ∷ codes "ticks" ∷ [])

-- the rows that the records below a header spell
unfoldable pub rows_of : ℕ → List PlanRecord → List Row
rows_of workers [] = []
rows_of workers (header ∷ below) =
    filter_map (λ fields. result_ok (row_of_record workers fields)) below

abbrev pub fault_below : Result Row PlanKind → List Row → Option PlanKind
fault_below (Err kind) rows = Some kind
fault_below (Ok row) rows = if stops rows row.worker then Some AfterStop else None

-- what is wrong with a record, given the records before it
unfoldable pub fault_of : ℕ → List PlanRecord → PlanRecord → Option PlanKind
fault_of workers [] fields = if is_header fields then None else Some BadRow
fault_of workers (header ∷ below) fields =
    fault_below (row_of_record workers fields) (rows_of workers (header ∷ below))

-- what is wrong with the record of this index, counted from 0
unfoldable pub record_fault_at : ℕ → List PlanRecord → ℕ → Option PlanKind
record_fault_at workers all index =
    option_and_then (fault_of workers (take index all)) (slice_get all index)

-- the records spell the plan: none is bad, and its rows are theirs
pub record SpellsPlan (workers : ℕ) (all : List PlanRecord) (plan : PlanData) : Type 0 where
  pub faultless : (index : ℕ) → record_fault_at workers all index ≡ None
  pub rows : plan ≡ record { workers = workers; rows = rows_of workers all }

-- the first bad record is that of this number, counted from 1, and this is wrong with it
pub record FirstFault (workers : ℕ) (all : List PlanRecord) (row : ℕ) (kind : PlanKind)
    : Type 0 where
  pub index : ℕ
  pub number : row ≡ index + 1
  pub fault : record_fault_at workers all index ≡ Some kind
  pub first : (earlier : ℕ) → earlier < index → record_fault_at workers all earlier ≡ None

-- what is answered out of memory
abbrev pub no_memory : PlanFault
no_memory = record { row = 0; kind = Memory }
