-- A code for records, by which they are told apart: what lets a record stand in the view of a seat.
use Rattle.std.specs.Prelude.{◌≡◌, ℕ, zero, suc, refl}
use Rattle.std.proofs.Common.{sym, ap, ap₂, ◌∙◌}
use base.Stored.{Gv, gnil, gnum, gcons, Coded}
use Rattle.walkx.specs.declared.operation.Ended.TheVariants.{Done, Conflict}
use Rattle.walkx.specs.declared.operation.Op.{Op}
use Rattle.walkx.specs.declared.operation.Op.TheVariants.{Load, Store, Max, Swap, Over}
use Rattle.walkx.specs.Records.{Record, empty, after, both}

-- ---- operations: a number for the kind, and the operands

op_code : Op → Gv
op_code (Load word) = gcons (gnum 0) (gnum word)
op_code (Store word value) = gcons (gnum 1) (gcons (gnum word) (gnum value))
op_code (Max word value) = gcons (gnum 2) (gcons (gnum word) (gnum value))
op_code (Swap word old new) =
    gcons (gnum 3) (gcons (gnum word) (gcons (gnum old) (gnum new)))
op_code (Over Done) = gcons (gnum 4) gnil
op_code (Over (Conflict step)) = gcons (gnum 5) (gnum step)

-- the number that a code is, and the two parts of a pair
numbered : Gv → ℕ
numbered gnil = 0
numbered (gnum number) = number
numbered (gcons left right) = 0

left_of : Gv → Gv
left_of gnil = gnil
left_of (gnum number) = gnil
left_of (gcons left right) = left

right_of : Gv → Gv
right_of gnil = gnil
right_of (gnum number) = gnil
right_of (gcons left right) = right

op_from_kind : ℕ → Gv → Op
op_from_kind zero operands = Load (numbered operands)
op_from_kind (suc zero) operands =
    Store (numbered (left_of operands)) (numbered (right_of operands))
op_from_kind (suc (suc zero)) operands =
    Max (numbered (left_of operands)) (numbered (right_of operands))
op_from_kind (suc (suc (suc zero))) operands =
    Swap (numbered (left_of operands)) (numbered (left_of (right_of operands)))
    (numbered (right_of (right_of operands)))
op_from_kind (suc (suc (suc (suc zero)))) operands = Over Done
op_from_kind (suc (suc (suc (suc (suc more))))) operands = Over (Conflict (numbered operands))

op_from : Gv → Op
op_from code = op_from_kind (numbered (left_of code)) (right_of code)

op_again : (op : Op) → op_from (op_code op) ≡ op
unfolding op_code op_from op_from_kind numbered left_of right_of
op_again (Load word) = refl
op_again (Store word value) = refl
op_again (Max word value) = refl
op_again (Swap word old new) = refl
op_again (Over Done) = refl
op_again (Over (Conflict step)) = refl

-- ---- records

pub record_code : Record → Gv
record_code empty = gnil
record_code (after past op found) = gcons (gnum found) (gcons (op_code op) (record_code past))
record_code (both past other) = gcons gnil (gcons (record_code past) (record_code other))

record_from : Gv → Record
record_from gnil = empty
record_from (gnum number) = empty
record_from (gcons head gnil) = empty
record_from (gcons head (gnum number)) = empty
record_from (gcons (gnum found) (gcons op past)) = after (record_from past) (op_from op) found
record_from (gcons gnil (gcons past other)) = both (record_from past) (record_from other)
record_from (gcons (gcons left right) (gcons past other)) = empty

record_again : (past : Record) → record_from (record_code past) ≡ past
unfolding record_code record_from
record_again empty = refl
record_again (after past op found) =
    ap₂ (λ before step. after before step found) (record_again past) (op_again op)
record_again (both past other) =
    ap₂ (λ before beside. both before beside) (record_again past) (record_again other)

pub code_of-injective : (past other : Record) → record_code past ≡ record_code other → past ≡ other
code_of-injective past other same =
    sym (record_again past) ∙ ap record_from same ∙ record_again other

abbrev pub coded_record : Coded Record
coded_record = record { code = record_code; inj = code_of-injective }
