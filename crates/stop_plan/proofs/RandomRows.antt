-- The rows that are thrown so far, and those to come.
use Rattle.std.proofs.Common.{◌≡◌, ◌∙◌, ◌++◌, ◌∷◌, [], ℕ, ◌-◌, ◌<◌, List, refl, ap, suc, arith}
use Rattle.std.specs.Prelude.{if◌then◌else◌}
use Rattle.stop_plan.specs.Plan.{stops}
use Rattle.stop_plan.specs.declared.plan.Row.{Row}
use Rattle.stop_plan.specs.Random.{next_number, row_after, picked_rows, with_living}

next_one : (workers survivor left number : ℕ) (before : List Row) →
    with_living before (picked_rows workers survivor (suc left) number)
    ≡ with_living (if stops before (row_after workers survivor number).worker then before
    else before ++ row_after workers survivor number ∷ [])
    (picked_rows workers survivor left (next_number (next_number (next_number number))))
unfolding with_living picked_rows
next_one workers survivor left number before = refl

-- one row more of those to come
pub one_more : (workers survivor left number : ℕ) (before : List Row) → 0 < left →
    with_living before (picked_rows workers survivor left number)
    ≡ with_living (if stops before (row_after workers survivor number).worker then before
    else before ++ row_after workers survivor number ∷ [])
    (picked_rows workers survivor (left - 1) (next_number (next_number (next_number number))))
one_more workers survivor left number before some =
    let is : left ≡ suc (left - 1) = omega (arith, some) in
    ap (λ n. with_living before (picked_rows workers survivor n number)) is
    ∙ next_one workers survivor (left - 1) number before

pub all_there : (workers survivor number : ℕ) (before : List Row) →
    with_living before (picked_rows workers survivor 0 number) ≡ before
unfolding with_living picked_rows
all_there workers survivor number before = refl
