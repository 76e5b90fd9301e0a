-- What a record is to the records before it.
use Rattle.std.proofs.Common.{◌≡◌, ◌≢◌, ◌∙◌, ℕ, ◌+◌, ◌<◌, ◌≤◌, true, false}
use Rattle.std.proofs.Common.{List, [], ◌∷◌, ◌++◌, Some, None, Ok, length}
use Rattle.std.proofs.Common.{refl, arith, append_assoc, below_more, inl, inr}
use Rattle.std.proofs.lemmas.List.{length_push, take_at}
use Rattle.std.proofs.lemmas.Option.{slice_get_past}
use Rattle.std.proofs.lemmas.Bool.{cases_lt}
use Rattle.std.specs.List.{slice_get}
use Rattle.std.specs.Result.{result_ok}
use Rattle.std.proofs.lemmas.List.Elements.{filter_map-append}
use Rattle.stop_plan.specs.Plan.{stops}
use Rattle.stop_plan.specs.Records.{FirstFault, PlanRecord, SpellsPlan, record_fault_at}
use Rattle.stop_plan.specs.Records.{fault_below, fault_of, is_header, row_of_record, rows_of}
use Rattle.stop_plan.specs.declared.plan.PlanKind.{PlanKind}
use Rattle.stop_plan.specs.declared.plan.PlanKind.TheVariants.{BadRow}
use Rattle.stop_plan.specs.declared.plan.Row.{Row}

pub header_taken : (workers row : ℕ) (given : List PlanRecord) (fields : PlanRecord)
    (draft : List Row) →
    row ≡ 1 → length given + 1 ≡ row → is_header fields ≡ true → draft ≡ rows_of workers given →
    (fault_of workers given fields ≡ None) × (draft ≡ rows_of workers (given ++ fields ∷ []))
unfolding fault_of rows_of
header_taken workers row [] fields draft one first header rows = (rw header refl, rows)
header_taken workers row (g ∷ gs) fields draft one first header rows = absurd (omega arith)

pub header_refused : (workers row : ℕ) (given : List PlanRecord) (fields : PlanRecord) → row ≡ 1 →
    length given + 1 ≡ row → is_header fields ≡ false → fault_of workers given fields ≡ Some BadRow
unfolding fault_of
header_refused workers row [] fields one first other = rw other refl
header_refused workers row (g ∷ gs) fields one first other = absurd (omega arith)

pub fault_later : (workers row : ℕ) (given : List PlanRecord) (fields : PlanRecord)
    (draft : List Row) →
    row ≢ 1 → length given + 1 ≡ row → draft ≡ rows_of workers given →
    fault_of workers given fields ≡ fault_below (row_of_record workers fields) draft
unfolding fault_of
fault_later workers row [] fields draft more index rows = absurd (more (omega arith))
fault_later workers row (g ∷ gs) fields draft more index rows = rw rows refl

pub row_taken : (workers row : ℕ) (given : List PlanRecord) (fields : PlanRecord) (draft : List Row)
    (next : Row) → row ≢ 1 → length given + 1 ≡ row → draft ≡ rows_of workers given →
    row_of_record workers fields ≡ Ok next → stops draft next.worker ≡ false →
    (fault_of workers given fields ≡ None)
    × (draft ++ next ∷ [] ≡ rows_of workers (given ++ fields ∷ []))
unfolding rows_of
row_taken workers row [] fields draft next more index rows is free = absurd (more (omega arith))
row_taken workers row (g ∷ gs) fields draft next more index rows is free = (
  fault_later workers row (g ∷ gs) fields draft more index rows ∙ rw (is, free) refl,
  rw (rows, filter_map-append (λ r. result_ok (row_of_record workers r)) gs (fields ∷ []), is) refl,
)

slice_get_at : (given rest : List PlanRecord) (fields : PlanRecord) →
    slice_get (given ++ fields ∷ rest) (length given) ≡ Some fields
slice_get_at [] rest fields = refl
slice_get_at (g ∷ gs) rest fields = slice_get_at gs rest fields

-- the next record, and what it is to those before it
fault_here : (workers : ℕ) (all given rest : List PlanRecord) (fields : PlanRecord) →
    all ≡ (given ++ fields ∷ []) ++ rest →
    record_fault_at workers all (length given) ≡ fault_of workers given fields
unfolding record_fault_at
fault_here workers all given rest fields e =
    let split : all ≡ given ++ (fields ∷ rest) = e ∙ append_assoc given (fields ∷ []) rest in
    rw (split, slice_get_at given rest fields, take_at given (fields ∷ rest) (length given) refl)
    refl

pub fresh_rows : (workers : ℕ) → rows_of workers [] ≡ []
unfolding rows_of
fresh_rows workers = refl

-- the records so far have no fault, and their rows are the draft's
pub record Judged (workers row : ℕ) (all given : List PlanRecord) (draft : List Row) : Type 0 where
  pub count : length given ≡ row
  pub rows : draft ≡ rows_of workers given
  pub fine : (index : ℕ) → index < length given → record_fault_at workers all index ≡ None

pub judged_more : (workers row : ℕ) (all given rest : List PlanRecord)
    (fields : PlanRecord) (draft next : List Row) →
    all ≡ (given ++ fields ∷ []) ++ rest → Judged workers row all given draft →
    (fault_of workers given fields ≡ None) × (next ≡ rows_of workers (given ++ fields ∷ [])) →
    Judged workers (row + 1) all (given ++ fields ∷ []) next
judged_more workers row all given rest fields draft next e h taken =
    let here : record_fault_at workers all (length given) ≡ None =
    fault_here workers all given rest fields e ∙ taken.0 in
    record {
      count = length_push given fields ∙ omega (arith, h.count);
      rows = taken.1;
      fine = rw (length_push given fields) (below_more _ _ h.fine here);
    }

pub first_fault : (workers row : ℕ) (all given rest : List PlanRecord)
    (fields : PlanRecord) (draft : List Row) (kind : PlanKind) →
    all ≡ (given ++ fields ∷ []) ++ rest →
    Judged workers row all given draft → fault_of workers given fields ≡ Some kind →
    FirstFault workers all (row + 1) kind
first_fault workers row all given rest fields draft kind e h bad = record {
  index = length given;
  number = omega (arith, h.count);
  fault = fault_here workers all given rest fields e ∙ bad;
  first = h.fine;
}

pub fault_past : (workers : ℕ) (all : List PlanRecord) (index : ℕ) → length all ≤ index →
    record_fault_at workers all index ≡ None
unfolding record_fault_at
fault_past workers all index past = rw (slice_get_past all index past) refl

pub spells : (workers row : ℕ) (all given : List PlanRecord) (draft : List Row) →
    all ≡ given → Judged workers row all given draft →
    SpellsPlan workers all (record { workers = workers; rows = draft })
spells workers row all given draft e h = record {
  faultless = λ index. elim (cases_lt index (length all)) [
    | inl within ↦ h.fine index (rw (← e) within)
    | inr past ↦ fault_past workers all index past
  ];
  rows = rw (e, h.rows) refl;
}
