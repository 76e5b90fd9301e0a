-- All code is straight but for the stores and jumps of lines.
use Rattle.std.proofs.Common.{ℕ, ◌+◌, Bool, true, false, ◌&&◌, nat_lt, List, [], ◌∷◌, ◌++◌}
use Rattle.std.proofs.Common.{if◌then◌else◌}
use Rattle.pram_job.specs.declared.instr.Instr.{Instr}
use Rattle.pram_job.specs.declared.instr.Instr.TheVariants as instr
use Rattle.pram_job.specs.declared.instr.Operand.{Operand}
use Rattle.pram_job.specs.declared.instr.Operand.TheVariants.{Register, Number}
use Rattle.pardo_program.specs.declared.operation.Op.{Op}
use Rattle.pardo_program.specs.declared.operation.Op.TheVariants.{Add, Sub, Mul, Div, Rem, Shl, Shr}
use Rattle.pardo_program.specs.declared.operation.Op.TheVariants.{BitAnd, BitOr, BitXor, Eq, Ne}
use Rattle.pardo_program.specs.declared.operation.Op.TheVariants.{Lt, Le, Gt, Ge, And, Or, Min, Max}
use Rattle.pardo_program.specs.declared.operation.Op.TheVariants.{Within}
use Rattle.pardo_program.specs.Expression.{Tree, number, own, loop, private, place, apply}
use Rattle.pardo_flat.specs.Layouts.{ProgramLayoutData}
use Rattle.pardo_job.specs.Lines.{condition_code, while_code, none_code, turn_code}
use Rattle.pardo_job.specs.Operations.{native, choice, conjunction, operation_code, negation}
use Rattle.pardo_job.specs.Operations.{register_code, register_or_spare}
use Rattle.pardo_job.specs.Operations.{instruction_of, in_order, is_turned, zero_test, tested_in}
use Rattle.pardo_job.specs.Operations.{copy_code, chosen_of, is_max}
use Rattle.pardo_job.specs.Operations.{first_chosen, second_chosen, taken_by, within_code}
use Rattle.pardo_job.specs.Values.{value_code, takes, value_operand, is_truth}
use Rattle.pardo_law.specs.Locals.{IsStraight, AreStraight}
use Rattle.pardo_law.specs.Locals.{ExpressionsAreStraight}
use Rattle.pardo_law.proofs.Placing.{straight_append}

straight_if : (t : Bool) (a b : List Instr) → AreStraight a → AreStraight b →
    AreStraight (if t then a else b)
straight_if true a b p q = p
straight_if false a b p q = q

instruction_straight : (op : Op) (at first : ℕ) (second : Operand) →
    IsStraight (instruction_of op at first second)
instruction_straight Add at first second = tt
instruction_straight Sub at first second = tt
instruction_straight Mul at first second = tt
instruction_straight Div at first second = tt
instruction_straight Rem at first second = tt
instruction_straight Shl at first second = tt
instruction_straight Shr at first second = tt
instruction_straight BitAnd at first second = tt
instruction_straight BitOr at first second = tt
instruction_straight BitXor at first second = tt
instruction_straight Eq at first second = tt
instruction_straight Ne at first second = tt
instruction_straight Lt at first second = tt
instruction_straight Le at first second = tt
instruction_straight Gt at first second = tt
instruction_straight Ge at first second = tt
instruction_straight And at first second = tt
instruction_straight Or at first second = tt
instruction_straight Min at first second = tt
instruction_straight Max at first second = tt
instruction_straight Within at first second = tt

register_straight : (spare : ℕ) (operand : Operand) → AreStraight (register_code spare operand)
register_straight spare (Register r) = tt
register_straight spare (Number n) = (tt, tt)

order_straight : (at : ℕ) (op : Op) (first second : Operand) →
    AreStraight (in_order at op first second)
order_straight at op first second =
    straight_append (register_code (at + taken_by second) first)
    (instruction_of op at (register_or_spare (at + taken_by second) first) second ∷ [])
    (register_straight (at + taken_by second) first)
    (instruction_straight op at (register_or_spare (at + taken_by second) first) second, tt)

pub native_straight : (at : ℕ) (op : Op) (first second : Operand) →
    AreStraight (native at op first second)
unfolding native
native_straight at op first second = straight_if (is_turned op first)
    (in_order at op second first) (in_order at op first second)
    (order_straight at op second first) (order_straight at op first second)

negation_straight : (at : ℕ) → AreStraight (negation at)
negation_straight at = (tt, tt)

zero_straight : (spare : ℕ) (operand : Operand) → AreStraight (zero_test spare operand)
zero_straight spare operand = straight_append (register_code spare operand)
    (instr.Eq (tested_in spare (register_or_spare spare operand)) (register_or_spare spare operand)
    (Number 0) ∷
    [])
    (register_straight spare operand) (tt, tt)

conjunction_straight : (at : ℕ) (first second : Operand) → AreStraight (conjunction at first second)
unfolding conjunction
conjunction_straight at first second =
    straight_append (zero_test (at + taken_by second) first) _
    (zero_straight (at + taken_by second) first)
    (straight_append (zero_test (at + 1) second) _ (zero_straight (at + 1) second) (tt, (tt, tt)))

copy_straight : (at : ℕ) (operand : Operand) → AreStraight (copy_code at operand)
copy_straight at (Register r) = straight_if (nat_lt r 3) [] (instr.Pid at ∷ []) tt (tt, tt)
copy_straight at (Number n) = (tt, tt)

chosen_straight : (at : ℕ) (op : Op) (second : Operand) → AreStraight (chosen_of at op second)
chosen_straight at op second = (
  tt,
  straight_append (if is_max op then negation (at + 1 + taken_by second) else []) _
      (straight_if (is_max op) (negation (at + 1 + taken_by second)) [] (tt, tt) tt)
      (tt, (tt, (tt, tt))),
)

choice_straight : (at : ℕ) (op : Op) (first second : Operand) →
    AreStraight (choice at op first second)
unfolding choice
choice_straight at op first second =
    straight_append (copy_code at (first_chosen first second))
    (chosen_of at op (second_chosen first second))
    (copy_straight at (first_chosen first second))
    (chosen_straight at op (second_chosen first second))

negated_straight : (at : ℕ) (op : Op) (a b : Operand) →
    AreStraight (native at op a b ++ negation at)
negated_straight at op a b = straight_append (native at op a b) (negation at)
    (native_straight at op a b) (tt, tt)

within_straight : (at : ℕ) (a b : Operand) → AreStraight (within_code at a b)
unfolding within_code
within_straight at a b = straight_append (register_code (at + taken_by b) a) _
    (register_straight (at + taken_by b) a) (tt, (tt, tt))

pub operation_straight : (at : ℕ) (op : Op) (t : Bool) (a b : Operand) →
    AreStraight (operation_code at op t a b)
unfolding operation_code
operation_straight at Ne t a b = negated_straight at Eq a b
operation_straight at Le t a b = negated_straight at Gt a b
operation_straight at Ge t a b = negated_straight at Lt a b
operation_straight at And t a b = straight_if t (native at BitAnd a b) (conjunction at a b)
    (native_straight at BitAnd a b) (conjunction_straight at a b)
operation_straight at Or t a b =
    straight_append (native at BitOr a b) (if t then [] else negation at ++ negation at)
    (native_straight at BitOr a b) (straight_if t [] (negation at ++ negation at) tt (tt, (tt, tt)))
operation_straight at Min t a b = choice_straight at Min a b
operation_straight at Max t a b = choice_straight at Max a b
operation_straight at Within t a b = within_straight at a b
operation_straight at op t a b = native_straight at op a b

pub value_straight : (layout : ProgramLayoutData) (at : ℕ) (tree : Tree) →
    AreStraight (value_code layout at tree)
value_straight layout at (number k) = tt
value_straight layout at own = tt
value_straight layout at (loop nest) = (tt, tt)
value_straight layout at (private x) = (tt, tt)
value_straight layout at (place array index) =
    straight_append (value_code layout at index) _ (value_straight layout at index) (tt, tt)
value_straight layout at (apply op first second) =
    straight_append (value_code layout at first) _ (value_straight layout at first)
    (straight_append (value_code layout (at + takes first) second) _
    (value_straight layout (at + takes first) second)
    (operation_straight at op (is_truth first && is_truth second) (value_operand at first)
    (value_operand (at + takes first) second)))

pub condition_straight : (layout : ProgramLayoutData) (tree : Tree) →
    AreStraight (condition_code layout tree)
unfolding condition_code
condition_straight layout tree =
    straight_append (value_code layout 0 tree) _ (value_straight layout 0 tree)
    (straight_if (is_truth tree) [] _ tt
    (straight_append (native 0 Eq (value_operand 0 tree) (Number 0)) _
    (native_straight 0 Eq (value_operand 0 tree) (Number 0))
    (native_straight 0 Eq (Register 0) (Number 0))))

pub while_straight : (layout : ProgramLayoutData) (tree : Tree) →
    AreStraight (while_code layout tree)
unfolding while_code
while_straight layout tree = straight_append (value_code layout 0 tree) _
    (value_straight layout 0 tree)
    (register_straight 0 (value_operand 0 tree))

pub none_straight : (layout : ProgramLayoutData) (up : Bool) (first last : Tree) →
    AreStraight (none_code layout up first last)
unfolding none_code
none_straight layout up first last =
    straight_append (value_code layout 0 first) _ (value_straight layout 0 first)
    (straight_append (value_code layout (takes first) last) _
    (value_straight layout (takes first) last)
    (native_straight 0 (if up then Gt else Lt) (value_operand 0 first)
    (value_operand (takes first) last)))

pub turn_straight : (layout : ProgramLayoutData) (nest : ℕ) (last : Tree) →
    AreStraight (turn_code layout nest last)
unfolding turn_code
turn_straight layout nest last = (
  tt,
  straight_append (value_code layout 1 last) _ (value_straight layout 1 last) (tt, tt),
)

pub expressions_are_straight : ExpressionsAreStraight
expressions_are_straight layout at tree = value_straight layout at tree
