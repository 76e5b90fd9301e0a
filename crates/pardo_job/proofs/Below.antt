-- Code that is shallow leaves its value in a register for values.
use Rattle.std.proofs.Common.{◌≡◌, ℕ, ◌+◌, ◌<◌, Bool, true, false, List, [], ◌∷◌, ◌++◌, subst}
use Rattle.std.proofs.Common.{arith, if◌then◌else◌, ◌&&◌}
use Rattle.pram_job.specs.declared.instr.Instr.{Instr}
use Rattle.pram_job.specs.declared.instr.Instr.TheVariants as instr
use Rattle.pram_job.specs.declared.instr.Operand.{Operand}
use Rattle.pram_job.specs.declared.instr.Operand.TheVariants.{Register}
use Rattle.pram_job.specs.declared.instr.Place.TheVariants.{Named}
use Rattle.pardo_program.specs.declared.operation.Op.{Op}
use Rattle.pardo_program.specs.declared.operation.Op.TheVariants.{Add, Sub, Mul, Div, Rem, Shl, Shr}
use Rattle.pardo_program.specs.declared.operation.Op.TheVariants.{BitAnd, BitOr, BitXor, Eq, Ne}
use Rattle.pardo_program.specs.declared.operation.Op.TheVariants.{Lt, Le, Gt, Ge, And, Or, Min, Max}
use Rattle.pardo_program.specs.declared.operation.Op.TheVariants.{Within}
use Rattle.pardo_program.specs.Expression.{Tree, number, own, loop, private, place, apply}
use Rattle.pardo_flat.specs.Layouts.{ProgramLayoutData, private_cells, loop_cells, array_cells}
use Rattle.pardo_job.specs.Operations.{native, in_order, is_turned, choice, conjunction}
use Rattle.pardo_job.specs.Operations.{operation_code, within_code, index_code, test_register}
use Rattle.pardo_job.specs.Operations.{taken_by, is_shallow, negation, register_code}
use Rattle.pardo_job.specs.Operations.{register_or_spare, instruction_of, zero_test, tested_in}
use Rattle.pardo_job.specs.Operations.{copy_code}
use Rattle.pardo_job.specs.Operations.{first_chosen, second_chosen}
use Rattle.pardo_job.specs.Values.{value_code, takes, value_operand, is_truth, own_load}
use Rattle.pardo_job.proofs.Shallow.{shallow_front, shallow_back, shallow_rest, shallow_target}
use Rattle.pardo_job.proofs.Shallow.{instruction_target}
use Rattle.pardo_job.proofs.Choices.{test_shallow}

in_order_below : (at : ℕ) (op : Op) (first second : Operand) →
    is_shallow (in_order at op first second) ≡ true → at < 3
in_order_below at op first second shallow =
    let spare : ℕ = at + taken_by second in
    let one : Instr = instruction_of op at (register_or_spare spare first) second in
    subst (λ t. t < 3) (instruction_target op at (register_or_spare spare first) second)
    (shallow_target one [] (shallow_back (register_code spare first) (one ∷ []) shallow))

either_below : (at : ℕ) (op : Op) (first second : Operand) (turned : Bool) →
    is_shallow (if turned then in_order at op second first else in_order at op first second) ≡
    true →
    at < 3
either_below at op first second true shallow = in_order_below at op second first shallow
either_below at op first second false shallow = in_order_below at op first second shallow

native_below : (at : ℕ) (op : Op) (first second : Operand) →
    is_shallow (native at op first second) ≡ true → at < 3
unfolding native
native_below at op first second shallow =
    either_below at op first second (is_turned op first) shallow

native_front : (at : ℕ) (op : Op) (first second : Operand) (back : List Instr) →
    is_shallow (native at op first second ++ back) ≡ true → at < 3
native_front at op first second back shallow =
    native_below at op first second (shallow_front (native at op first second) back shallow)

choice_below : (at : ℕ) (op : Op) (first second : Operand) →
    is_shallow (choice at op first second) ≡ true → at < 3
unfolding choice
choice_below at op first second shallow =
    let less : at + 1 + taken_by (second_chosen first second) < 3 =
    test_shallow at op (copy_code at (first_chosen first second)) (second_chosen first second)
    shallow in
    omega arith

conjunction_below : (at : ℕ) (first second : Operand) →
    is_shallow (conjunction at first second) ≡ true → at < 3
unfolding conjunction
conjunction_below at first second shallow =
    let t : ℕ = tested_in (at + taken_by second) (register_or_spare (at + taken_by second) first) in
    let u : ℕ = tested_in (at + 1) (register_or_spare (at + 1) second) in
    let back : List Instr = instr.Or at t (Register u) ∷ negation at in
    shallow_target (instr.Or at t (Register u)) (negation at)
    (shallow_back (zero_test (at + 1) second) back
    (shallow_back (zero_test (at + taken_by second) first) (zero_test (at + 1) second ++ back)
    shallow))

and_below : (at : ℕ) (t : Bool) (first second : Operand) →
    is_shallow (operation_code at And t first second) ≡ true → at < 3
unfolding operation_code
and_below at true first second shallow = native_below at BitAnd first second shallow
and_below at false first second shallow = conjunction_below at first second shallow

within_below : (at : ℕ) (first second : Operand) →
    is_shallow (within_code at first second) ≡ true → at < 3
unfolding within_code
within_below at first second shallow =
    let spare : ℕ = at + taken_by second in
    let index : ℕ = register_or_spare spare first in
    let test : ℕ = test_register at index in
    shallow_target (instr.Div at index (Register test)) []
    (shallow_rest (instr.Lt test index second) (instr.Div at index (Register test) ∷ [])
    (shallow_back (register_code spare first) (index_code at index second) shallow))

pub operation_below : (op : Op) (at : ℕ) (t : Bool) (first second : Operand) →
    is_shallow (operation_code at op t first second) ≡ true → at < 3
unfolding operation_code
operation_below Add at t first second shallow = native_below at Add first second shallow
operation_below Sub at t first second shallow = native_below at Sub first second shallow
operation_below Mul at t first second shallow = native_below at Mul first second shallow
operation_below Div at t first second shallow = native_below at Div first second shallow
operation_below Rem at t first second shallow = native_below at Rem first second shallow
operation_below Shl at t first second shallow = native_below at Shl first second shallow
operation_below Shr at t first second shallow = native_below at Shr first second shallow
operation_below BitAnd at t first second shallow = native_below at BitAnd first second shallow
operation_below BitOr at t first second shallow = native_below at BitOr first second shallow
operation_below BitXor at t first second shallow = native_below at BitXor first second shallow
operation_below Eq at t first second shallow = native_below at Eq first second shallow
operation_below Ne at t first second shallow = native_front at Eq first second (negation at) shallow
operation_below Lt at t first second shallow = native_below at Lt first second shallow
operation_below Le at t first second shallow = native_front at Gt first second (negation at) shallow
operation_below Gt at t first second shallow = native_below at Gt first second shallow
operation_below Ge at t first second shallow = native_front at Lt first second (negation at) shallow
operation_below And at t first second shallow = and_below at t first second shallow
operation_below Or at t first second shallow =
    native_front at BitOr first second (if t then [] else negation at ++ negation at) shallow
operation_below Min at t first second shallow = choice_below at Min first second shallow
operation_below Max at t first second shallow = choice_below at Max first second shallow
operation_below Within at t first second shallow = within_below at first second shallow

-- the register of an expression that takes one
pub value_below : (layout : ProgramLayoutData) (at : ℕ) (tree : Tree) → takes tree ≡ 1 →
    is_shallow (value_code layout at tree) ≡ true → at < 3
value_below layout at (number k) takes shallow = absurd (omega arith)
value_below layout at own takes shallow = absurd (omega arith)
value_below layout at (loop nest) takes shallow =
    shallow_target (own_load at (loop_cells layout nest)) [] shallow
value_below layout at (private x) takes shallow =
    shallow_target (own_load at (private_cells layout x)) [] shallow
value_below layout at (place array index) takes shallow =
    let load : Instr = instr.Ld at (Named (array_cells layout array) (value_operand at index)) in
    shallow_target load [] (shallow_back (value_code layout at index) (load ∷ []) shallow)
value_below layout at (apply op first second) takes_one shallow =
    let up : ℕ = at + takes first in
    let last : List Instr = operation_code at op (is_truth first && is_truth second)
    (value_operand at first) (value_operand up second) in
    operation_below op at (is_truth first && is_truth second) (value_operand at first)
    (value_operand up second)
    (shallow_back (value_code layout up second) last
    (shallow_back (value_code layout at first) (value_code layout up second ++ last) shallow))
