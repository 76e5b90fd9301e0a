-- The rows of a seed bear no fault, and one worker is never stopped.
use Rattle.std.proofs.Common.{◌≡◌, ◌∙◌, ◌++◌, ◌∷◌, [], ℕ, ◌+◌, ◌*◌, ◌/◌, ◌<◌, ◌≤◌, ◌^◌, List}
use Rattle.std.proofs.Common.{Bool, true, false, None, Some, Ok, length, refl, arith, subst, sym}
use Rattle.std.proofs.Common.{zero, suc, inl, inr}
use Rattle.std.specs.Prelude.{◌&&◌, ◌==◌, nat_lt}
use Rattle.std.specs.List.{slice_get}
use Rattle.std.proofs.Math.Nat.{mod-lt}
use Rattle.std.proofs.lemmas.Bool.{cases_Bool, cases_lt}
use Rattle.std.proofs.lemmas.Bool.Decides.{nat_tests}
use Rattle.std.proofs.lemmas.List.{length_push, take-append-le, take_at}
use Rattle.std.proofs.lemmas.List.Folds.{list_any-append}
use Rattle.stop_plan.proofs.RowFaults.{row_fault_past}
use Rattle.stop_plan.specs.Plan.{is_stop, stops}
use Rattle.stop_plan.specs.Rows.{fault_after, judged_row, row_fault_at}
use Rattle.stop_plan.specs.declared.plan.Act.{Act}
use Rattle.stop_plan.specs.declared.plan.Act.TheVariants.{Go, Sleep, Back, Stop}
use Rattle.stop_plan.specs.declared.plan.Row.{Row}
use Rattle.stop_plan.specs.RandomLaws.{RandomIsPlan, RandomSparesOne}
use Rattle.stop_plan.specs.Random.{picked_act, next_number, pick, row_after, plan_row}
use Rattle.stop_plan.specs.Random.{picked_rows, spared, survivor_of, with_living}

abbrev Faultless : ℕ → List Row → Type 0
Faultless workers rows = (index : ℕ) → row_fault_at workers rows index ≡ None

get_earlier : (before : List Row) (row : Row) (index : ℕ) → index < length before →
    slice_get (before ++ row ∷ []) index ≡ slice_get before index
get_earlier [] row index within = absurd (omega arith)
get_earlier (b ∷ bs) row zero within = refl
get_earlier (b ∷ bs) row (suc index) within = get_earlier bs row index (omega arith)

get_last : (before : List Row) (row : Row) →
    slice_get (before ++ row ∷ []) (length before) ≡ Some row
get_last [] row = refl
get_last (b ∷ bs) row = get_last bs row

earlier_fault : (workers : ℕ) (before : List Row) (row : Row) (index : ℕ) → index < length before →
    row_fault_at workers (before ++ row ∷ []) index ≡ row_fault_at workers before index
unfolding row_fault_at
earlier_fault workers before row index within = rw (
  get_earlier before row index within,
  take-append-le index before (row ∷ []) (omega arith),
) refl

last_fault : (workers : ℕ) (before : List Row) (row : Row) →
    row_fault_at workers (before ++ row ∷ []) (length before) ≡ fault_after workers before row
unfolding row_fault_at
last_fault workers before row =
    rw (get_last before row, take_at before (row ∷ []) (length before) refl) refl

faultless_more : (workers : ℕ) (before : List Row) (row : Row) → Faultless workers before →
    fault_after workers before row ≡ None → Faultless workers (before ++ row ∷ [])
faultless_more workers before row fine good index = elim (cases_lt index (length before)) [
  | inl within ↦ earlier_fault workers before row index within ∙ fine index
  | inr past ↦ elim (cases_lt (length before) index) [
    | inl beyond ↦ row_fault_past workers (before ++ row ∷ []) index
        (omega (arith, length_push before row, beyond))
    | inr same ↦
        let is : index ≡ length before = omega (arith, past, same) in
        rw is (last_fault workers before row ∙ good)
  ]
]

-- a worker's row is good by itself
good_with : (workers worker : ℕ) (act : Act) (ticks : ℕ) → worker < workers → ticks ≤ 1000 →
    judged_row workers (plan_row worker act ticks) ≡ Ok (plan_row worker act ticks)
good_with workers worker Go ticks within few =
    let named : nat_lt worker workers ≡ true = grind (arith, nat_tests) in
    let short : nat_lt ticks (2 ^ 32) ≡ true = grind (arith, nat_tests) in rw (named, short) refl
good_with workers worker Sleep ticks within few =
    let named : nat_lt worker workers ≡ true = grind (arith, nat_tests) in
    let short : nat_lt ticks (2 ^ 32) ≡ true = grind (arith, nat_tests) in rw (named, short) refl
good_with workers worker Back ticks within few =
    let named : nat_lt worker workers ≡ true = grind (arith, nat_tests) in rw named refl
good_with workers worker Stop ticks within few =
    let named : nat_lt worker workers ≡ true = grind (arith, nat_tests) in rw named refl

good : (workers survivor number : ℕ) → 1 ≤ workers →
    judged_row workers (row_after workers survivor number)
    ≡ Ok (row_after workers survivor number)
good workers survivor number some =
    let worker = pick workers (next_number number) in
    let few : pick 1000 (next_number (next_number (next_number number))) < 1000 =
    mod-lt (next_number (next_number (next_number number)) / 2 ^ 16) (omega arith) in
    good_with workers worker (spared (worker == survivor) (picked_act (pick 8 (next_number (next_number number)))))
    (1 + pick 1000 (next_number (next_number (next_number number)))) (mod-lt (next_number number / 2 ^ 16) (omega arith))
    (omega (arith, few))

-- a row of a worker that is stopped by then is left out, and another one is not
living_lost : (before : List Row) (row : Row) (rows : List Row) →
    stops before row.worker ≡ true → with_living before (row ∷ rows) ≡ with_living before rows
unfolding with_living
living_lost before row rows lost = rw lost refl

living_kept : (before : List Row) (row : Row) (rows : List Row) →
    stops before row.worker ≡ false →
    with_living before (row ∷ rows) ≡ with_living (before ++ row ∷ []) rows
unfolding with_living
living_kept before row rows living = rw living refl

faultless_after : (workers survivor many number : ℕ) (before : List Row) → 1 ≤ workers →
    Faultless workers before →
    Faultless workers (with_living before (picked_rows workers survivor many number))
unfolding with_living picked_rows
faultless_after workers survivor zero number before some fine = fine
faultless_after workers survivor (suc many) number before some fine =
    let row = row_after workers survivor number in
    let later = next_number (next_number (next_number number)) in
    let rows = picked_rows workers survivor many later in
    elim (cases_Bool (stops before row.worker)) [
      | inl lost ↦ subst (λ all. Faultless workers all) (sym (living_lost before row rows lost))
          (faultless_after workers survivor many later before some fine)
      | inr living ↦
          let fault : fault_after workers before row ≡ None =
          rw (good workers survivor number some, living) refl in
          subst (λ all. Faultless workers all) (sym (living_kept before row rows living))
          (faultless_after workers survivor many later (before ++ row ∷ []) some
          (faultless_more workers before row fine fault))
    ]

none_of_none : (workers : ℕ) → Faultless workers []
unfolding row_fault_at
none_of_none workers index = refl

pub random_is_plan : RandomIsPlan
random_is_plan workers seed some = record {
  faultless = faultless_after workers (survivor_of workers seed) (8 * workers) seed [] some
      (none_of_none workers);
  rows_kept = refl;
}

-- an act does not stop the survivor
spares_act : (survives : Bool) (act : Act) → (is_stop (spared survives act) && survives) ≡ false
spares_act true Go = refl
spares_act true Sleep = refl
spares_act true Back = refl
spares_act true Stop = refl
spares_act false Go = refl
spares_act false Sleep = refl
spares_act false Back = refl
spares_act false Stop = refl

spares_more : (before : List Row) (row : Row) (survivor : ℕ) → stops before survivor ≡ false →
    (is_stop row.act && (row.worker == survivor)) ≡ false →
    stops (before ++ row ∷ []) survivor ≡ false
spares_more before row survivor none spared = rw (
  list_any-append (λ row. is_stop row.act && (row.worker == survivor)) before (row ∷ []),
  none,
  spared,
) refl

spares_after : (workers survivor many number : ℕ) (before : List Row) →
    stops before survivor ≡ false →
    stops (with_living before (picked_rows workers survivor many number)) survivor ≡ false
unfolding with_living picked_rows
spares_after workers survivor zero number before none = none
spares_after workers survivor (suc many) number before none =
    let row = row_after workers survivor number in
    let later = next_number (next_number (next_number number)) in
    let rows = picked_rows workers survivor many later in
    elim (cases_Bool (stops before row.worker)) [
      | inl lost ↦ subst (λ all. stops all survivor ≡ false)
          (sym (living_lost before row rows lost))
          (spares_after workers survivor many later before none)
      | inr living ↦
          let spared = spares_act (pick workers (next_number number) == survivor)
          (picked_act (pick 8 (next_number (next_number number)))) in
          subst (λ all. stops all survivor ≡ false) (sym (living_kept before row rows living))
          (spares_after workers survivor many later (before ++ row ∷ [])
          (spares_more before row survivor none spared))
    ]

pub random_spares_one : RandomSparesOne
random_spares_one workers seed some all =
    let survivor = survivor_of workers seed in
    let left = spares_after workers survivor (8 * workers) seed [] refl in
    cc (left, all survivor (mod-lt seed (omega arith)))
