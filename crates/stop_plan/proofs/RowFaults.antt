-- What a row is to the rows before it.
use Rattle.std.proofs.Common.{true, Option, option_and_then, Ok, zero, suc, add-one, ◌≡◌}
use Rattle.std.proofs.Common.{◌∙◌, ℕ, ◌+◌, ◌<◌, ◌≤◌, List, [], ◌∷◌, ◌++◌, Some, None, length}
use Rattle.std.proofs.Common.{get_or, take, refl, sym, ap, arith, below_more, inl, inr}
use Rattle.std.specs.Prelude.{map, nat_lt}
use Rattle.std.specs.List.{slice_get}
use Rattle.std.specs.Option.{option_map}
use Rattle.std.specs.Result.{result_ok}
use Rattle.std.proofs.lemmas.Bool.{cases_Bool, cases_lt}
use Rattle.std.proofs.lemmas.List.Elements.{filter_map-append}
use Rattle.std.proofs.lemmas.List.{length-map, take_all, take_more}
use Rattle.std.proofs.lemmas.Option.{slice_get-get_or, slice_get-map, slice_get_past}
use Rattle.stop_plan.proofs.Faults.{fault_past}
use Rattle.stop_plan.specs.Laws.{RowsAsTexts}
use Rattle.stop_plan.specs.Plan.{PlanData}
use Rattle.stop_plan.specs.Records.{PlanRecord, SpellsPlan, record_fault_at, fault_of}
use Rattle.stop_plan.specs.Records.{is_header, row_of_record, rows_of, ticks_end}
use Rattle.stop_plan.specs.Rows.{FirstBadRow, IsPlanOf, fault_after, judged_row, row_fault_at}
use Rattle.stop_plan.specs.declared.plan.Act.TheVariants.{Go}
use Rattle.stop_plan.specs.declared.plan.PlanKind.{PlanKind}
use Rattle.stop_plan.specs.declared.plan.Row.{Row}

row_here : (workers : ℕ) (rows draft : List Row) (index : ℕ) (d : Row) →
    index < length rows → draft ≡ take index rows →
    row_fault_at workers rows index ≡ fault_after workers draft (get_or rows index d)
unfolding row_fault_at
row_here workers rows draft index d within before =
    rw (slice_get-get_or rows index d within, before) refl

-- the rows before this index have no fault, and are the draft's
pub record RowsJudged (workers number index : ℕ) (rows draft : List Row) : Type 0 where
  pub count : number ≡ index + 1
  pub taken : draft ≡ take index rows
  pub fine : (earlier : ℕ) → earlier < index → row_fault_at workers rows earlier ≡ None

pub one_more : (workers number index : ℕ) (rows draft next : List Row) (d : Row) →
    index < length rows → RowsJudged workers number index rows draft →
    (fault_after workers draft (get_or rows index d) ≡ None)
    × (next ≡ draft ++ get_or rows index d ∷ []) →
    RowsJudged workers (number + 1) (index + 1) rows next
one_more workers number index rows draft next d within h good = record {
  count = omega (arith, h.count);
  taken = good.1 ∙ ap (λ t. t ++ get_or rows index d ∷ []) h.taken
      ∙ sym (take_more rows index d within);
  fine = below_more _ _ h.fine (row_here workers rows draft index d within h.taken ∙ good.0);
}

pub first_bad : (workers number index : ℕ) (rows draft : List Row) (d : Row) (kind : PlanKind) →
    index < length rows → RowsJudged workers number index rows draft →
    fault_after workers draft (get_or rows index d) ≡ Some kind →
    FirstBadRow workers rows (number + 1) kind
first_bad workers number index rows draft d kind within h bad = record {
  index = index;
  number = omega (arith, h.count);
  fault = row_here workers rows draft index d within h.taken ∙ bad;
  first = h.fine;
}

pub row_fault_past : (workers : ℕ) (rows : List Row) (index : ℕ) → length rows ≤ index →
    row_fault_at workers rows index ≡ None
unfolding row_fault_at
row_fault_past workers rows index past = rw (slice_get_past rows index past) refl

pub all_judged : (workers number index : ℕ) (rows draft : List Row) →
    length rows ≤ index → RowsJudged workers number index rows draft →
    IsPlanOf workers rows (record { workers = workers; rows = draft })
all_judged workers number index rows draft past h = record {
  faultless = λ at. elim (cases_lt at (length rows)) [
    | inl within ↦ h.fine at (omega (arith, within, past))
    | inr beyond ↦ row_fault_past workers rows at beyond
  ];
  rows_kept = rw (h.taken, take_all index rows past) refl;
}

-- a row without a fault is good by itself
judged_good : (workers : ℕ) (before : List Row) (row : Row) →
    fault_after workers before row ≡ None → judged_row workers row ≡ Ok row
judged_good workers before row fine = elim (cases_Bool (nat_lt row.worker workers)) [
  | inl named ↦ elim (cases_Bool (nat_lt row.ticks (ticks_end row.act))) [
    | inl short ↦ rw (named, short) refl
    | inr long ↦ cc (rw (named, long) at fine)
  ]
  | inr other ↦ cc (rw other at fine)
]

-- records below a header that say rows
record SayRows (workers : ℕ) (header : PlanRecord) (below : List PlanRecord)
    (rows : List Row) : Type 0 where
  header_read : is_header header ≡ true
  said : map (row_of_record workers) below ≡ map (judged_row workers) rows

same_option : (workers : ℕ) (given : List PlanRecord) (header : PlanRecord) (before : List Row)
    (fields : Option PlanRecord) (row : Option Row) → rows_of workers (header ∷ given) ≡ before →
    option_map (row_of_record workers) fields ≡ option_map (judged_row workers) row →
    option_and_then (fault_of workers (header ∷ given)) fields
    ≡ option_and_then (fault_after workers before) row
unfolding fault_of
same_option workers given header before None None rows same = refl
same_option workers given header before None (Some r) rows same = cc same
same_option workers given header before (Some f) None rows same = cc same
same_option workers given header before (Some f) (Some r) rows same =
    let one : row_of_record workers f ≡ judged_row workers r = cc same in
    rw (one, rows) refl

same_said : (workers : ℕ) (header : PlanRecord) (below : List PlanRecord) (rows : List Row)
    (index : ℕ) →
    SayRows workers header below rows → option_map (row_of_record workers) (slice_get below index)
    ≡ option_map (judged_row workers) (slice_get rows index)
same_said workers header below rows index h =
    sym (slice_get-map (row_of_record workers) below index) ∙ ap (λ l. slice_get l index) h.said
    ∙ slice_get-map (judged_row workers) rows index

same_fault : (workers : ℕ) (header : PlanRecord) (below : List PlanRecord) (rows : List Row)
    (index : ℕ) →
    SayRows workers header below rows →
    rows_of workers (header ∷ take index below) ≡ take index rows →
    record_fault_at workers (header ∷ below) (suc index) ≡ row_fault_at workers rows index
unfolding record_fault_at row_fault_at
same_fault workers header below rows index h before =
    same_option workers (take index below) header (take index rows) (slice_get below index)
    (slice_get rows index) before (same_said workers header below rows index h)

-- the records and the rows before an index, where none of the records is bad
record Alike (workers : ℕ) (header : PlanRecord) (below : List PlanRecord)
    (rows : List Row) (index : ℕ) : Type 0 where
  before : rows_of workers (header ∷ take index below) ≡ take index rows
  fine : (earlier : ℕ) → earlier < index → row_fault_at workers rows earlier ≡ None

row_said : (workers : ℕ) (header : PlanRecord) (below : List PlanRecord) (rows : List Row)
    (index : ℕ)
    (d : Row) → SayRows workers header below rows → index < length rows → index < length below →
    row_of_record workers (get_or below index []) ≡ judged_row workers (get_or rows index d)
row_said workers header below rows index d h within inside =
    let same = rw (
      slice_get-get_or below index [] inside,
      slice_get-get_or rows index d within,
    ) at (same_said workers header below rows index h) in cc same

rows_more : (workers : ℕ) (header : PlanRecord) (below : List PlanRecord)
    (rows : List Row) (index : ℕ) (d : Row) → index < length rows → index < length below →
    row_of_record workers (get_or below index []) ≡ Ok (get_or rows index d) →
    rows_of workers (header ∷ take index below) ≡ take index rows →
    rows_of workers (header ∷ take (index + 1) below) ≡ take (index + 1) rows
unfolding rows_of
rows_more workers header below rows index d within inside is before =
    rw (
      take_more below index [] inside,
      take_more rows index d within,
      filter_map-append (λ r. result_ok (row_of_record workers r))
          (take index below) (get_or below index [] ∷ []),
      before,
      is,
    ) refl

same_length : (workers : ℕ) (header : PlanRecord) (below : List PlanRecord) (rows : List Row) →
    SayRows workers header below rows → length below ≡ length rows
same_length workers header below rows h =
    sym (length-map below (row_of_record workers)) ∙ ap length h.said
    ∙ length-map rows (judged_row workers)

alike_to : (workers : ℕ) (header : PlanRecord) (below : List PlanRecord) (rows : List Row)
    (index : ℕ) (d : Row) → SayRows workers header below rows → index ≤ length rows →
    ((earlier : ℕ) → earlier < index →
    record_fault_at workers (header ∷ below) (suc earlier) ≡ None) →
    Alike workers header below rows index
unfolding rows_of
alike_to workers header below rows zero d h within none =
    record { before = refl; fine = λ earlier below. absurd (omega arith) }
alike_to workers header below rows (suc index) d h within none =
    let sofar = alike_to workers header below rows index d h
    (omega arith) (λ earlier under. none earlier (omega arith)) in
    let here : row_fault_at workers rows index ≡ None =
    sym (same_fault workers header below rows index h sofar.before) ∙ none index (omega arith) in
    let inside : index < length below = omega (arith, same_length workers header below rows h) in
    let fine_here =
    sym (row_here workers rows (take index rows) index d (omega arith) refl) ∙ here in
    let is = row_said workers header below rows index d h (omega arith) inside
    ∙ judged_good workers (take index rows) (get_or rows index d) fine_here in
    record {
      before = rw (← add-one)
          (rows_more workers header below rows index d (omega arith) inside is sofar.before);
      fine = rw (← add-one) (below_more _ _ sofar.fine here);
    }

any_row : Row
any_row = record { worker = 0; act = Go; ticks = 0 }

plan_same : (workers : ℕ) (header : PlanRecord) (below : List PlanRecord)
    (rows : List Row) (plan : PlanData) → SayRows workers header below rows →
    SpellsPlan workers (header ∷ below) plan → IsPlanOf workers rows plan
plan_same workers header below rows plan said h =
    let alike = alike_to workers header below rows
    (length rows) any_row said (omega arith) (λ earlier under. h.faultless (suc earlier)) in
    let lengths = same_length workers header below rows said in
    let kept = rw (
      take_all (length rows) below (omega (arith, lengths)),
      take_all (length rows) rows (omega arith),
    ) at alike.before in
    record {
      faultless = λ index. elim (cases_lt index (length rows)) [
        | inl within ↦ alike.fine index within
        | inr past ↦ row_fault_past workers rows index past
      ];
      rows_kept = h.rows ∙ rw kept refl;
    }

header_good : (workers : ℕ) (header : PlanRecord) (below : List PlanRecord) →
    is_header header ≡ true →
    record_fault_at workers (header ∷ below) 0 ≡ None
unfolding record_fault_at fault_of
header_good workers header below e = rw e refl

fault_same : (workers : ℕ) (header : PlanRecord) (below : List PlanRecord)
    (rows : List Row) (row index : ℕ) (kind : PlanKind) → SayRows workers header below rows →
    row ≡ index + 1 → record_fault_at workers (header ∷ below) index ≡ Some kind →
    ((earlier : ℕ) → earlier < index → record_fault_at workers (header ∷ below) earlier ≡ None) →
    FirstBadRow workers rows row kind
fault_same workers header below rows row zero kind said number fault first =
    cc (fault, header_good workers header below said.header_read)
fault_same workers header below rows row (suc index) kind said number fault first =
    elim (cases_lt index (length rows)) [
      | inl within ↦
          let alike = alike_to workers header below rows index any_row said
          (omega arith) (λ earlier under. first (suc earlier) (omega arith)) in
          record {
            index = index;
            number = omega (arith, number);
            fault = sym (same_fault workers header below rows index said alike.before) ∙ fault;
            first = alike.fine;
          }
      | inr past ↦
          let lengths = same_length workers header below rows said in
          cc (fault, fault_past workers (header ∷ below) (suc index) (omega (arith, lengths, past)))
    ]

pub rows_as_texts : RowsAsTexts
rows_as_texts workers header below rows is_header said =
    let all : SayRows workers header below rows =
    record { header_read = is_header; said = said } in (
      λ plan h. plan_same workers header below rows plan all h,
      λ row kind k.
          fault_same workers header below rows row k.index kind all k.number k.fault k.first,
    )
