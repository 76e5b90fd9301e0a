-- The fields of a record of three.
use Rattle.std.proofs.Common.{◌≡◌, ◌≢◌, ℕ, ◌<◌, [], ◌∷◌, Some, None, length, refl, arith, zero, suc}
use Rattle.csv.specs.Records.{field_at}
use Rattle.stop_plan.specs.Records.{Field, PlanRecord, row_of_record}
use Rattle.stop_plan.specs.declared.plan.PlanKind.TheVariants.{BadRow}
use Rattle.std.specs.Prelude.{Err}

pub within : (fields : PlanRecord) (i : ℕ) → i < length fields → field_at fields i ≡ None → ⊥
unfolding field_at
within [] i short none = absurd (omega arith)
within (f ∷ fs) zero short none = cc none
within (f ∷ fs) (suc i) short none = within fs i (omega arith) none

pub three_are : (fields : PlanRecord) (a b c : Field) → length fields ≡ 3 →
    field_at fields 0 ≡ Some a →
    field_at fields 1 ≡ Some b → field_at fields 2 ≡ Some c → fields ≡ a ∷ b ∷ c ∷ []
unfolding field_at
three_are (x ∷ y ∷ z ∷ []) a b c three first second third = cc
three_are [] a b c three first second third = absurd (omega arith)
three_are (x ∷ []) a b c three first second third = absurd (omega arith)
three_are (x ∷ y ∷ []) a b c three first second third = absurd (omega arith)
three_are (x ∷ y ∷ z ∷ w ∷ rest) a b c three first second third = absurd (omega arith)

pub other_row : (workers : ℕ) (fields : PlanRecord) → length fields ≢ 3 →
    row_of_record workers fields ≡ Err BadRow
unfolding row_of_record
other_row workers [] other = refl
other_row workers (x ∷ []) other = refl
other_row workers (x ∷ y ∷ []) other = refl
other_row workers (x ∷ y ∷ z ∷ []) other = absurd (other refl)
other_row workers (x ∷ y ∷ z ∷ w ∷ rest) other = refl
