-- Values have 32 bits.
use Rattle.std.proofs.Common.{ℕ, ◌*◌, ◌/◌, ◌%◌, ◌^◌, ◌<◌, Bool, true, false}
use Rattle.std.proofs.Common.{if◌then◌else◌, bit_and, nat_lt, arith, ◌==◌, ◌&&◌, ◌||◌}
use Rattle.std.proofs.Common.{not, nat_le}
use Rattle.std.proofs.lemmas.Nat.{or_lt, xor_lt, and_le_l}
use Rattle.std.proofs.lemmas.Grind.{common_steps}
use Rattle.pardo_program.specs.declared.operation.Op.{Op}
use Rattle.pardo_program.specs.declared.operation.Op.TheVariants.{Add, Sub, Mul, Div, Rem, Shl, Shr}
use Rattle.pardo_program.specs.declared.operation.Op.TheVariants.{BitAnd, BitOr, BitXor, Eq, Ne}
use Rattle.pardo_program.specs.declared.operation.Op.TheVariants.{Lt, Le, Gt, Ge, And, Or, Min, Max}
use Rattle.pardo_program.specs.declared.operation.Op.TheVariants.{Within}
use Rattle.pardo_program.specs.Operations.{operation_value, bit}

bit_small : (test : Bool) → bit test < 2 ^ 32
bit_small true = omega arith
bit_small false = omega arith

if_small : (test : Bool) (a b : ℕ) → a < 2 ^ 32 → b < 2 ^ 32 → (if test then a else b) < 2 ^ 32
if_small true a b p q = p
if_small false a b p q = q

small_rest : (a : ℕ) → a % 2 ^ 32 < 2 ^ 32
small_rest a = omega arith

small_quotient : (a b : ℕ) → a < 2 ^ 32 → a / b < 2 ^ 32
small_quotient a b p = grind (arith, common_steps)

small_remainder : (a b : ℕ) → a < 2 ^ 32 → a % b < 2 ^ 32
small_remainder a b p = grind (arith, common_steps)

small_and : (a b : ℕ) → a < 2 ^ 32 → bit_and a b < 2 ^ 32
small_and a b p = omega (arith, and_le_l a b)

pub value_small : (op : Op) (a b : ℕ) → a < 2 ^ 32 → b < 2 ^ 32 → operation_value op a b < 2 ^ 32
unfolding operation_value
value_small Add a b p q = omega arith
value_small Sub a b p q = omega arith
value_small Mul a b p q = small_rest (a * b)
value_small Div a b p q = small_quotient a b p
value_small Rem a b p q = small_remainder a b p
value_small Shl a b p q = if_small (nat_lt b 32) _ 0 (small_rest (a * 2 ^ b)) (omega arith)
value_small Shr a b p q = if_small (nat_lt b 32) _ 0 (small_quotient a (2 ^ b) p) (omega arith)
value_small BitAnd a b p q = small_and a b p
value_small BitOr a b p q = or_lt 32 a b p q
value_small BitXor a b p q = xor_lt 32 a b p q
value_small Eq a b p q = bit_small (a == b)
value_small Ne a b p q = bit_small (not (a == b))
value_small Lt a b p q = bit_small (nat_lt a b)
value_small Le a b p q = bit_small (nat_le a b)
value_small Gt a b p q = bit_small (nat_lt b a)
value_small Ge a b p q = bit_small (nat_le b a)
value_small And a b p q = bit_small (not (a == 0) && not (b == 0))
value_small Or a b p q = bit_small (not (a == 0) || not (b == 0))
value_small Min a b p q = omega arith
value_small Max a b p q = omega arith
value_small Within a b p q = p
