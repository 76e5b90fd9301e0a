-- Why the laws of plans and schedules hold.
use Rattle.std.proofs.Common.{◌≡◌, ◌∙◌, ◌⊎◌, ℕ, ◌+◌, ◌-◌, ◌<◌, ◌≤◌, Bool, true, false}
use Rattle.std.proofs.Common.{List, [], ◌∷◌, Option, Some, None, Result, Ok, Err, length}
use Rattle.std.proofs.Common.{refl, sym, ap, arith, zero, suc, inl, inr, cond, take}
use Rattle.std.proofs.Common.{below_more, option_and_then, add-one, zero-add, suc-add}
use Rattle.std.specs.Prelude.{All, nat_lt, ◌&&◌}
use Rattle.std.specs.List.{cons_option, filter_map, slice_get}
use Rattle.std.specs.Result.{result_ok}
use Rattle.std.specs.Str.Parse.{digits_value}
use Rattle.std.proofs.lemmas.Bool.{cases_Bool, cases_lt}
use Rattle.std.proofs.lemmas.Bool.Decides.{nat_tests}
use Rattle.std.proofs.lemmas.List.Elements.{All-cons, All-nil}
use Rattle.stop_plan.specs.Laws.{NeverBoth, OnePlanFault, OnePlan, OneSchedule}
use Rattle.stop_plan.specs.Laws.{PlanOrFault, RowsNameWorkers}
use Rattle.stop_plan.specs.Plan.{PlanData, stops}
use Rattle.stop_plan.specs.Records.{Field, FirstFault, PlanRecord, act_of, record_fault_at}
use Rattle.stop_plan.specs.Records.{fault_below, fault_of, is_header, is_number_field}
use Rattle.stop_plan.specs.Records.{number_below, row_of_record, row_with_act, row_with_ticks}
use Rattle.stop_plan.specs.Records.{row_with_worker, rows_of, ticks_end}
use Rattle.stop_plan.specs.Schedule.{Events, IsSchedule, NoneRuns, Running}
use Rattle.stop_plan.specs.Schedule.{after_rounds, after_turns, events_of_rows}
use Rattle.stop_plan.specs.declared.plan.Act.{Act}
use Rattle.stop_plan.specs.declared.plan.PlanKind.{PlanKind}
use Rattle.stop_plan.specs.declared.plan.PlanKind.TheVariants.{AfterStop, BadRow, Memory}
use Rattle.stop_plan.specs.declared.plan.Row.{Row}
use Rattle.stop_plan.proofs.Faults.{fault_past}

pub one_plan : OnePlan
one_plan workers all plan other h k = h.rows ∙ sym k.rows

pub never_both : NeverBoth
never_both workers all plan row kind h k = cc (h.faultless k.index, k.fault)

-- the first fault of two
earlier : (workers : ℕ) (all : List PlanRecord) (row other : ℕ) (kind another : PlanKind) →
    (h : FirstFault workers all row kind) →
    (k : FirstFault workers all other another) → h.index < k.index → ⊥
earlier workers all row other kind another h k before = cc (k.first h.index before, h.fault)

-- no record is bad for want of memory
ticks_kind : (worker : ℕ) (act : Act) (ticks : Option ℕ) →
    row_with_ticks worker act ticks ≡ Err Memory → ⊥
ticks_kind worker act None e = cc e
ticks_kind worker act (Some ticks) e = cc e

act_kind : (worker : ℕ) (act : Option Act) (ticks : Field) →
    row_with_act worker act ticks ≡ Err Memory → ⊥
act_kind worker None ticks e = cc e
act_kind worker (Some act) ticks e = ticks_kind worker act (number_below (ticks_end act) ticks) e

worker_kind : (worker : Option ℕ) (act ticks : Field) →
    row_with_worker worker act ticks ≡ Err Memory → ⊥
worker_kind None act ticks e = cc e
worker_kind (Some worker) act ticks e = act_kind worker (act_of act) ticks e

row_kind : (workers : ℕ) (fields : PlanRecord) → row_of_record workers fields ≡ Err Memory → ⊥
unfolding row_of_record
row_kind workers [] e = cc e
row_kind workers (w ∷ []) e = cc e
row_kind workers (w ∷ a ∷ []) e = cc e
row_kind workers (w ∷ a ∷ t ∷ []) e = worker_kind (number_below workers w) a t e
row_kind workers (w ∷ a ∷ t ∷ x ∷ xs) e = cc e

header_kind : (b : Bool) → cond b None (Some BadRow) ≡ Some Memory → ⊥
header_kind true e = cc e
header_kind false e = cc e

stop_kind : (b : Bool) → cond b (Some AfterStop) None ≡ Some Memory → ⊥
stop_kind true e = cc e
stop_kind false e = cc e

below_kind : (read : Result Row PlanKind) (rows : List Row) → (read ≡ Err Memory → ⊥) →
    fault_below read rows ≡ Some Memory → ⊥
below_kind (Err kind) rows not e = not (cc e)
below_kind (Ok row) rows not e = stop_kind (stops rows row.worker) e

fault_kind : (workers : ℕ) (before : List PlanRecord) (fields : PlanRecord) →
    fault_of workers before fields ≡ Some Memory → ⊥
unfolding fault_of
fault_kind workers [] fields e = header_kind (is_header fields) e
fault_kind workers (header ∷ below) fields e = below_kind (row_of_record workers fields)
    (rows_of workers (header ∷ below)) (row_kind workers fields) e

index_kind : (workers : ℕ) (before : List PlanRecord) (fields : Option PlanRecord) →
    option_and_then (fault_of workers before) fields ≡ Some Memory → ⊥
index_kind workers before None e = cc e
index_kind workers before (Some fields) e = fault_kind workers before fields e

at_kind : (workers : ℕ) (all : List PlanRecord) (index : ℕ) →
    record_fault_at workers all index ≡ Some Memory → ⊥
unfolding record_fault_at
at_kind workers all index e = index_kind workers (take index all) (slice_get all index) e

same_index : (workers : ℕ) (all : List PlanRecord) (row other : ℕ) (kind another : PlanKind) →
    (h : FirstFault workers all row kind) →
    (k : FirstFault workers all other another) → h.index ≡ k.index
same_index workers all row other kind another h k = elim (cases_lt h.index k.index) [
  | inl before ↦ absurd (earlier workers all row other kind another h k before)
  | inr after ↦ elim (cases_lt k.index h.index) [
    | inl before ↦ absurd (earlier workers all other row another kind k h before)
    | inr same ↦ omega arith
  ]
]

pub one_fault : OnePlanFault
one_fault workers all row other kind another h k =
    let same = same_index workers all row other kind another h k in
    let both : Some kind ≡ Some another =
    sym h.fault ∙ ap (record_fault_at workers all) same ∙ k.fault in (
      h.number ∙ ap (λ n. n + 1) same ∙ sym k.number,
      cc both,
      λ memory. at_kind workers all h.index (h.fault ∙ ap Some memory),
    )

-- the first fault up to an index, if there is one
abbrev FaultBelow : ℕ → List PlanRecord → ℕ → Type 0
FaultBelow workers all end = (row : ℕ) × (kind : PlanKind) × FirstFault workers all row kind

abbrev FineBelow : ℕ → List PlanRecord → ℕ → Type 0
FineBelow workers all end = (index : ℕ) → index < end → record_fault_at workers all index ≡ None

next_place : (workers : ℕ) (all : List PlanRecord) (end : ℕ) (fault : Option PlanKind) →
    record_fault_at workers all end ≡ fault → FineBelow workers all end →
    FineBelow workers all (end + 1) ⊎ FaultBelow workers all (end + 1)
next_place workers all end None is fine = inl (below_more _ _ fine is)
next_place workers all end (Some kind) is fine =
    inr (end + 1, kind, record { index = end; number = refl; fault = is; first = fine })

search_below : (workers : ℕ) (all : List PlanRecord) (end : ℕ) →
    FineBelow workers all end ⊎ FaultBelow workers all end
search_below workers all zero = inl (λ index below. absurd (omega arith))
search_below workers all (suc end) = elim (search_below workers all end) [
  | inl fine ↦ rw (← add-one)
      (next_place workers all end (record_fault_at workers all end) refl fine)
  | inr found ↦ inr found
]

pub plan_or_fault : PlanOrFault
plan_or_fault workers all = elim (search_below workers all (length all)) [
  | inl fine ↦ inl (
    record { workers = workers; rows = rows_of workers all },
    record {
      faultless = λ index. elim (cases_lt index (length all)) [
        | inl within ↦ fine index within
        | inr past ↦ fault_past workers all index past
      ];
      rows = refl;
    },
  )
  | inr found ↦ inr found
]

-- a number below a bound is below it
some_below : (bound : ℕ) (b : Bool) (value n : ℕ) →
    cond (b && nat_lt value bound) (Some value) None ≡ Some n → n < bound
some_below bound true value n e = elim (cases_Bool (nat_lt value bound)) [
  | inl below ↦
      let same : Some value ≡ Some n = rw below at e in
      let is : value ≡ n = cc same in
      grind (arith, nat_tests)
  | inr above ↦ cc (rw above at e)
]
some_below bound false value n e = cc e

number_lt : (bound : ℕ) (field : Field) (n : ℕ) → number_below bound field ≡ Some n → n < bound
unfolding number_below
number_lt bound field n e = some_below bound (is_number_field field) (digits_value 10 field) n e

abbrev NamesWorker : ℕ → Row → Type 0
NamesWorker workers row = row.worker < workers

ticks_lt : (workers worker : ℕ) (act : Act) (ticks : Option ℕ) (row : Row) → worker < workers →
    row_with_ticks worker act ticks ≡ Ok row → NamesWorker workers row
ticks_lt workers worker act None row small e = cc e
ticks_lt workers worker act (Some ticks) row small e =
    let same : record { worker = worker; act = act; ticks = ticks } ≡ row = cc e in
    rw (← same) small

act_lt : (workers worker : ℕ) (act : Option Act) (ticks : Field) (row : Row) → worker < workers →
    row_with_act worker act ticks ≡ Ok row → NamesWorker workers row
act_lt workers worker None ticks row small e = cc e
act_lt workers worker (Some act) ticks row small e =
    ticks_lt workers worker act (number_below (ticks_end act) ticks) row small e

worker_lt : (workers : ℕ) (worker : Option ℕ) (act ticks : Field) (row : Row) →
    ((n : ℕ) → worker ≡ Some n → n < workers) →
    row_with_worker worker act ticks ≡ Ok row → NamesWorker workers row
worker_lt workers None act ticks row small e = cc e
worker_lt workers (Some worker) act ticks row small e =
    act_lt workers worker (act_of act) ticks row (small worker refl) e

row_lt : (workers : ℕ) (fields : PlanRecord) (row : Row) →
    row_of_record workers fields ≡ Ok row → NamesWorker workers row
unfolding row_of_record
row_lt workers [] row e = cc e
row_lt workers (w ∷ []) row e = cc e
row_lt workers (w ∷ a ∷ []) row e = cc e
row_lt workers (w ∷ a ∷ t ∷ []) row e =
    worker_lt workers (number_below workers w) a t row (number_lt workers w) e
row_lt workers (w ∷ a ∷ t ∷ x ∷ xs) row e = cc e

all_more : (workers : ℕ) (read : Result Row PlanKind) (rest : List Row) →
    ((row : Row) → read ≡ Ok row → NamesWorker workers row) → All (NamesWorker workers) rest →
    All (NamesWorker workers) (cons_option (result_ok read) rest)
all_more workers (Ok row) rest one others =
    All-cons (NamesWorker workers) row rest (one row refl) others
all_more workers (Err kind) rest one others = others

all_lt : (workers : ℕ) (below : List PlanRecord) →
    All (NamesWorker workers) (filter_map (λ r. result_ok (row_of_record workers r)) below)
all_lt workers [] = All-nil (NamesWorker workers)
all_lt workers (fields ∷ below) =
    all_more workers (row_of_record workers fields) _ (row_lt workers fields) (all_lt workers below)

rows_lt : (workers : ℕ) (all : List PlanRecord) → All (NamesWorker workers) (rows_of workers all)
unfolding rows_of
rows_lt workers [] = All-nil (NamesWorker workers)
rows_lt workers (header ∷ below) = all_lt workers below

pub rows_name_workers : RowsNameWorkers
rows_name_workers workers all plan h = rw h.rows (refl, rows_lt workers all)

-- a round in which no worker runs changes nothing
idle_turns : {Event : Type 0} (events : Events Event) (runs : Running Event) (worker more : ℕ)
    (sofar : List Event) → ((other : ℕ) → other < worker + more → runs sofar other ≡ false) →
    after_turns events runs worker more sofar ≡ sofar
unfolding after_turns
idle_turns events runs worker zero sofar idle = refl
idle_turns events runs worker (suc more) sofar idle =
    rw (idle worker (omega arith))
    (idle_turns events runs (worker + 1) more sofar (λ other below. idle other (omega arith)))

idle_rounds : {Event : Type 0} (events : Events Event)
    (runs : Running Event) (workers more : ℕ) (sofar : List Event) → NoneRuns runs workers sofar →
    after_rounds events runs workers more sofar ≡ sofar
unfolding after_rounds
idle_rounds events runs workers zero sofar idle = refl
idle_rounds events runs workers (suc more) sofar idle =
    rw (idle_turns events runs 0 workers sofar (λ other below. idle other (omega arith)))
    (idle_rounds events runs workers more sofar idle)

more_rounds : {Event : Type 0} (events : Events Event)
    (runs : Running Event) (workers count more : ℕ) (sofar : List Event) →
    after_rounds events runs workers (count + more) sofar
    ≡ after_rounds events runs workers more (after_rounds events runs workers count sofar)
unfolding after_rounds
more_rounds events runs workers zero more sofar = rw (zero-add more) refl
more_rounds events runs workers (suc count) more sofar =
    rw (suc-add count more) (more_rounds events runs workers count more _)

-- of two schedules the longer one only has idle rounds more
same_schedule : {Event : Type 0} (events : Events Event) (runs : Running Event) (plan : PlanData)
    (schedule other : List Event) → (h : IsSchedule events runs plan schedule) →
    (k : IsSchedule events runs plan other) → h.count ≤ k.count → other ≡ schedule
same_schedule events runs plan schedule other h k upto =
    let sum : k.count ≡ h.count + (k.count - h.count) = omega arith in
    k.rounds
    ∙ ap (λ n. after_rounds events runs plan.workers n (events_of_rows events plan.rows)) sum
    ∙ more_rounds events runs plan.workers h.count
    (k.count - h.count) (events_of_rows events plan.rows)
    ∙ ap (λ (l : List _). after_rounds events runs plan.workers (k.count - h.count) l)
    (sym h.rounds) ∙ idle_rounds events runs plan.workers (k.count - h.count) schedule h.over

pub one_schedule : {Event : Type 0} → OneSchedule Event
one_schedule {Event} events runs plan schedule other h k = elim (cases_lt h.count k.count) [
  | inl fewer ↦ sym (same_schedule events runs plan schedule other h k (omega arith))
  | inr more ↦ same_schedule events runs plan other schedule k h more
]
