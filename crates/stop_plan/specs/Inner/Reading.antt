-- How far a reader of a plan's text has come.
use Rattle.std.specs.Prelude.{◌≡◌, ◌+◌, ◌<◌, ◌≤◌, ℕ, Bool, true, false}
use Rattle.std.specs.Prelude.{List, [], ◌∷◌, ◌++◌, Option, None, Some, length}
use Rattle.csv.specs.Machine.{ends_at_end}
use Rattle.csv.specs.Reading.{Ready, default_config, is_flexible, reader_config}
use Rattle.csv.specs.Reading.{reader_state, reader_trim, records_from, source_of}
use Rattle.csv.specs.declared.reader.Reader.{Reader}
use Rattle.csv.specs.declared.reader.Trim.TheVariants as trim
use Rattle.stop_plan.specs.declared.plan.PlanFault.{PlanFault}
use Rattle.stop_plan.specs.declared.plan.Row.{Row}
use Rattle.stop_plan.specs.Records.{PlanRecord, fault_of, records_of, rows_of}

-- the reader is set up as plans are read, and its next read is of a record
pub record IsPlanReader {R : Type 0} (reader : Reader R) : Type 0 where
  pub config : reader_config reader ≡ default_config
  pub trim : reader_trim reader ≡ trim.None
  pub flexible : is_flexible reader ≡ true
  pub ready : Ready reader

-- how many bytes a reader has yet to read
abbrev pub bytes_left : {R : Type 0} → (R → Option (List ℕ)) → Reader R → ℕ
bytes_left remaining reader = length (bytes_or_none (source_of remaining reader))
  where
    bytes_or_none : Option (List ℕ) → List ℕ
    bytes_or_none None = []
    bytes_or_none (Some bytes) = bytes

-- the reader gave the first records of a text, and has the rest before it
pub record HasReadRecords {R : Type 0} (remaining : R →
    Option (List ℕ)) (text : List ℕ) (given : List PlanRecord) (reader : Reader R) : Type 0 where
  pub bytes : List ℕ
  pub unread : source_of remaining reader ≡ Some bytes
  pub settled : ends_at_end (reader_state reader) ≡ false
  pub rest : records_of text ≡ given
      ++ records_from default_config (length bytes + 1) (reader_state reader) bytes
  pub shorter : length given + length bytes ≤ length text

-- what a read makes of it: one more record, or the end of the text
abbrev pub AfterRead : {R : Type 0} → (R → Option (List ℕ)) → List ℕ → List PlanRecord → Reader R →
    Bool → PlanRecord → Type 0
AfterRead remaining text given reader true fields =
    HasReadRecords remaining text (given ++ fields ∷ []) reader
AfterRead remaining text given reader false fields = records_of text ≡ given

-- a read leads a reader on, whatever it read before
abbrev pub ReadsOn : {R : Type 0} → (R → Option (List ℕ)) → Reader R → Reader R → Bool →
    PlanRecord →
    Type 0
ReadsOn remaining old new found fields =
    (text : List ℕ) (given : List PlanRecord) → HasReadRecords remaining text given old →
    AfterRead remaining text given new found fields

-- and leaves fewer bytes
abbrev pub LeavesFewer : {R : Type 0} → (R → Option (List ℕ)) → Reader R → Reader R → Type 0
LeavesFewer remaining old new =
    (text : List ℕ) (given : List PlanRecord) → HasReadRecords remaining text given old →
    bytes_left remaining new < bytes_left remaining old

-- the record of this number has no fault, and brings the rows to these
abbrev pub TakesRecord : ℕ → ℕ → List Row → PlanRecord → List Row → Type 0
TakesRecord workers row rows fields next =
    (given : List PlanRecord) → length given + 1 ≡ row → rows ≡ rows_of workers given
    → (fault_of workers given fields ≡ None) × (next ≡ rows_of workers (given ++ fields ∷ []))

-- this is the fault of the record of this number
abbrev pub RefusesRecord : ℕ → ℕ → List Row → PlanRecord → PlanFault → Type 0
RefusesRecord workers row rows fields fault =
    (fault.row ≡ row)
    × ((given : List PlanRecord) → length given + 1 ≡ row → rows ≡ rows_of workers given →
    fault_of workers given fields ≡ Some fault.kind)
