-- The operations of two numbers below 2^32.
use Rattle.std.specs.Prelude.{ℕ, ◌+◌, ◌-◌, ◌*◌, ◌/◌, ◌%◌, ◌^◌, Bool, true, false, not, ◌&&◌, ◌||◌}
use Rattle.std.specs.Prelude.{◌==◌, nat_lt, nat_le, if◌then◌else◌, bit_and, bit_or, bit_xor}
use Rattle.std.specs.Prelude.{min, max, Option, Some, None}
use Rattle.pardo_program.specs.declared.operation.Op.{Op}
use Rattle.pardo_program.specs.declared.operation.Op.TheVariants.{Add, Sub, Mul, Div, Rem, Shl, Shr}
use Rattle.pardo_program.specs.declared.operation.Op.TheVariants.{BitAnd, BitOr, BitXor, Eq, Ne}
use Rattle.pardo_program.specs.declared.operation.Op.TheVariants.{Lt, Le, Gt, Ge, And, Or, Min, Max}
use Rattle.pardo_program.specs.declared.operation.Op.TheVariants.{Within}

-- The level at which an operation stands between its operands: those of level 1 bind most
-- tightly. `min` and `max` stand before theirs, and `Within` stands nowhere.
unfoldable pub level_of : Op → ℕ
level_of Mul = 1
level_of Div = 1
level_of Rem = 1
level_of Shl = 1
level_of Shr = 1
level_of BitAnd = 1
level_of Add = 2
level_of Sub = 2
level_of BitOr = 2
level_of BitXor = 2
level_of Eq = 3
level_of Ne = 3
level_of Lt = 3
level_of Le = 3
level_of Gt = 3
level_of Ge = 3
level_of And = 4
level_of Or = 5
level_of Min = 0
level_of Max = 0
level_of Within = 6

-- the level of comparisons, which take two operands alone
abbrev pub comparisons : ℕ
comparisons = 3

-- the level of whole expressions
abbrev pub loosest : ℕ
loosest = 5

unfoldable pub is_division : Op → Bool
is_division Div = true
is_division Rem = true
is_division _ = false

-- the greatest number of 32 bits
abbrev pub greatest_value : ℕ
greatest_value = 4294967295

-- 1 for what is true, and 0 for what is not
abbrev pub bit : Bool → ℕ
bit truth = if truth then 1 else 0

-- The value of an operation, where there is one.
unfoldable pub operation_value : Op → ℕ → ℕ → ℕ
operation_value Add a b = (a + b) % 2 ^ 32
operation_value Sub a b = (a + (2 ^ 32 - b)) % 2 ^ 32
operation_value Mul a b = (a * b) % 2 ^ 32
operation_value Div a b = a / b
operation_value Rem a b = a % b
operation_value Shl a b = if nat_lt b 32 then (a * 2 ^ b) % 2 ^ 32 else 0
operation_value Shr a b = if nat_lt b 32 then a / 2 ^ b else 0
operation_value BitAnd a b = bit_and a b
operation_value BitOr a b = bit_or a b
operation_value BitXor a b = bit_xor a b
operation_value Eq a b = bit (a == b)
operation_value Ne a b = bit (not (a == b))
operation_value Lt a b = bit (nat_lt a b)
operation_value Le a b = bit (nat_le a b)
operation_value Gt a b = bit (nat_lt b a)
operation_value Ge a b = bit (nat_le b a)
operation_value And a b = bit (not (a == 0) && not (b == 0))
operation_value Or a b = bit (not (a == 0) || not (b == 0))
operation_value Min a b = min a b
operation_value Max a b = max a b
operation_value Within a b = a

-- where an operation has no value: a division by 0, and an index that is not within its bound
unfoldable pub lacks : Op → ℕ → ℕ → Bool
lacks Within a b = not (nat_lt a b)
lacks op a b = is_division op && (b == 0)

-- what is worked out by an operation
abbrev pub worked_out : Op → ℕ → ℕ → Option ℕ
worked_out op a b = if lacks op a b then None else Some (operation_value op a b)
