-- The code of operations. The value of one comes into the register `at`. Below `at` registers are
-- taken, and one for each operand that was computed: the first such one is in `at`.
use Rattle.std.specs.Prelude.{ℕ, ◌+◌, Bool, true, false, ◌&&◌, ◌==◌, nat_lt, if◌then◌else◌}
use Rattle.std.specs.Prelude.{List, [], ◌∷◌, ◌++◌}
use Rattle.std.specs.List.{list_all}
use Rattle.pram_job.specs.declared.instr.Instr.{Instr}
use Rattle.pram_job.specs.declared.instr.Instr.TheVariants as instr
use Rattle.pram_job.specs.declared.instr.Operand.{Operand}
use Rattle.pram_job.specs.declared.instr.Operand.TheVariants.{Register, Number}
use Rattle.pram_job.specs.declared.instr.Operands.{Operands}
use Rattle.pram_job.specs.declared.instr.Operands.TheVariants.{Target, TargetNumber}
use Rattle.pram_job.specs.declared.instr.Operands.TheVariants.{TargetPlace, TargetTwo}
use Rattle.pram_job.specs.Instructions.{row_of}
use Rattle.pardo_program.specs.declared.operation.Op.{Op}
use Rattle.pardo_program.specs.declared.operation.Op.TheVariants.{Add, Sub, Mul, Div, Rem, Shl, Shr}
use Rattle.pardo_program.specs.declared.operation.Op.TheVariants.{BitAnd, BitOr, BitXor, Eq, Ne}
use Rattle.pardo_program.specs.declared.operation.Op.TheVariants.{Lt, Le, Gt, Ge, And, Or, Min, Max}
use Rattle.pardo_program.specs.declared.operation.Op.TheVariants.{Within}

-- the register that holds a processor's own number throughout
abbrev pub own_register : ℕ
own_register = 3

-- ---- which registers code uses

-- the register that an instruction gives a value, or 0
abbrev pub target_in : Operands → ℕ
target_in (Target target) = target
target_in (TargetNumber target number) = target
target_in (TargetPlace target place) = target
target_in (TargetTwo target first second) = target
target_in _ = 0

abbrev pub target_of : Instr → ℕ
target_of instr = target_in (row_of instr).1

-- the code gives values to the registers for values alone
abbrev pub is_shallow : List Instr → Bool
is_shallow code = list_all (λ instr. nat_lt (target_of instr) own_register) code

-- how many registers were taken for an operand: a number and the own number need none
abbrev pub taken_by : Operand → ℕ
taken_by (Register register) = if nat_lt register own_register then 1 else 0
taken_by (Number number) = 0

-- ---- an operand in a register; of a number it is `spare`

abbrev pub register_code : ℕ → Operand → List Instr
register_code spare (Register register) = []
register_code spare (Number number) = instr.Set spare number ∷ []

abbrev pub register_or_spare : ℕ → Operand → ℕ
register_or_spare spare (Register register) = register
register_or_spare spare (Number number) = spare

-- ---- one instruction

-- `>` has the instruction of its mirror.
abbrev pub instruction_of : Op → ℕ → ℕ → Operand → Instr
instruction_of Add at first second = instr.Add at first second
instruction_of Sub at first second = instr.Sub at first second
instruction_of Mul at first second = instr.Mul at first second
instruction_of Div at first second = instr.Div at first second
instruction_of Rem at first second = instr.Rem at first second
instruction_of Shl at first second = instr.Shl at first second
instruction_of Shr at first second = instr.Shr at first second
instruction_of BitAnd at first second = instr.And at first second
instruction_of BitOr at first second = instr.Or at first second
instruction_of BitXor at first second = instr.Xor at first second
instruction_of Eq at first second = instr.Eq at first second
instruction_of Lt at first second = instr.Lt at first second
instruction_of Gt at first second = instr.Lt at first second
instruction_of _ at first second = instr.Set at 0

-- The operands change places: of a number only the second place may be.
abbrev pub is_turned : Op → Operand → Bool
is_turned Gt first = true
is_turned Add (Number number) = true
is_turned Mul (Number number) = true
is_turned BitAnd (Number number) = true
is_turned BitOr (Number number) = true
is_turned BitXor (Number number) = true
is_turned Eq (Number number) = true
is_turned _ first = false

abbrev pub in_order : ℕ → Op → Operand → Operand → List Instr
in_order at op first second =
    register_code (at + taken_by second) first
    ++ instruction_of op at (register_or_spare (at + taken_by second) first) second ∷ []

unfoldable pub native : ℕ → Op → Operand → Operand → List Instr
native at op first second =
    if is_turned op first then in_order at op second first else in_order at op first second

-- ---- several instructions

-- whether a register is 0
abbrev pub negation : ℕ → List Instr
negation at = instr.Eq at at (Number 0) ∷ []

-- where the test of an operand comes to
abbrev pub tested_in : ℕ → ℕ → ℕ
tested_in spare register = if register == own_register then spare else register

-- whether an operand is 0
abbrev pub zero_test : ℕ → Operand → List Instr
zero_test spare operand = register_code spare operand
    ++ instr.Eq (tested_in spare (register_or_spare spare operand))
    (register_or_spare spare operand) (Number 0)
    ∷ []

-- whether neither of two operands is 0
unfoldable pub conjunction : ℕ → Operand → Operand → List Instr
conjunction at first second =
    zero_test (at + taken_by second) first
    ++ (zero_test (at + 1) second
    ++ (instr.Or at
    (tested_in (at + taken_by second) (register_or_spare (at + taken_by second) first))
    (Register (tested_in (at + 1) (register_or_spare (at + 1) second))) ∷ negation at))

-- an operand for which no register was taken comes into this one
abbrev pub copy_code : ℕ → Operand → List Instr
copy_code at (Register register) =
    if nat_lt register own_register then [] else instr.Pid at ∷ []
copy_code at (Number number) = instr.Set at number ∷ []

abbrev pub is_max : Op → Bool
is_max Max = true
is_max _ = false

-- y + (x - y) * c, where x is in `at`, and c is 1 if x is the one that is wanted
abbrev pub chosen_of : ℕ → Op → Operand → List Instr
chosen_of at op second =
    let test = at + 1 + taken_by second in
    instr.Lt test at second ∷ ((if is_max op then negation test else [])
    ++ (instr.Sub at at second ∷ instr.Mul at at (Register test) ∷ instr.Add at at second ∷ []))

-- the operands change places where the second one alone was computed
abbrev pub first_chosen : Operand → Operand → Operand
first_chosen first second =
    if (taken_by first == 0) && (taken_by second == 1) then second else first

abbrev pub second_chosen : Operand → Operand → Operand
second_chosen first second =
    if (taken_by first == 0) && (taken_by second == 1) then first else second

-- the least or the greatest of two operands
unfoldable pub choice : ℕ → Op → Operand → Operand → List Instr
choice at op first second =
    copy_code at (first_chosen first second) ++ chosen_of at op (second_chosen first second)

-- the register of a test, beside that of the index
abbrev pub test_register : ℕ → ℕ → ℕ
test_register at index = if index == at then at + 1 else at

-- an index, where it is below the bound; where it is not, its processor divides by 0
abbrev pub index_code : ℕ → ℕ → Operand → List Instr
index_code at index bound =
    instr.Lt (test_register at index) index bound
    ∷ instr.Div at index (Register (test_register at index)) ∷ []

-- the same; a number comes into a register
unfoldable pub within_code : ℕ → Operand → Operand → List Instr
within_code at first second = register_code (at + taken_by second) first
    ++ index_code at (register_or_spare (at + taken_by second) first) second

-- The code of an operation; of `and` and `or` it is shorter where both operands are truths, which
-- are 0 or 1.
unfoldable pub operation_code : ℕ → Op → Bool → Operand → Operand → List Instr
operation_code at Ne are_truths a b = native at Eq a b ++ negation at
operation_code at Le are_truths a b = native at Gt a b ++ negation at
operation_code at Ge are_truths a b = native at Lt a b ++ negation at
operation_code at And are_truths a b =
    if are_truths then native at BitAnd a b else conjunction at a b
operation_code at Or are_truths a b =
    native at BitOr a b ++ (if are_truths then [] else negation at ++ negation at)
operation_code at Min are_truths a b = choice at Min a b
operation_code at Max are_truths a b = choice at Max a b
operation_code at Within are_truths a b = within_code at a b
operation_code at op are_truths a b = native at op a b
