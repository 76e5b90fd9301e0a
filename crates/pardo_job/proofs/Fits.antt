-- Values fit 32 bits.
use Rattle.std.proofs.Common.{ℕ, ◌+◌, ◌-◌, ◌*◌, ◌%◌, ◌/◌, ◌^◌, ◌<◌, ◌≤◌, ◌==◌, nat_lt, nat_le}
use Rattle.std.proofs.Common.{Bool, true, false}
use Rattle.std.proofs.Common.{arith, if◌then◌else◌, ◌&&◌, ◌||◌, not}
use Rattle.std.proofs.Math.Nat.{div-le_self, mod-le}
use Rattle.std.proofs.lemmas.Nat.{and_le_l, or_of_32, xor_of_32}
use Rattle.std.specs.Prelude.{bit_and}
use Rattle.pardo_program.specs.declared.operation.Op.{Op}
use Rattle.pardo_program.specs.declared.operation.Op.TheVariants.{Add, Sub, Mul, Div, Rem, Shl, Shr}
use Rattle.pardo_program.specs.declared.operation.Op.TheVariants.{BitAnd, BitOr, BitXor, Eq, Ne}
use Rattle.pardo_program.specs.declared.operation.Op.TheVariants.{Lt, Le, Gt, Ge, And, Or, Min, Max}
use Rattle.pardo_program.specs.declared.operation.Op.TheVariants.{Within}
use Rattle.pardo_program.specs.Operations.{bit, operation_value}

bit_fits : (x : Bool) → bit x < 2 ^ 32
bit_fits true = omega arith
bit_fits false = omega arith

remainder_fits : (n : ℕ) → n % 2 ^ 32 < 2 ^ 32
remainder_fits n = omega arith

choice_fits : (t : Bool) (x : ℕ) → x < 2 ^ 32 → (if t then x else 0) < 2 ^ 32
choice_fits true x lt = lt
choice_fits false x lt = omega arith

quotient_fits : (a b : ℕ) → a < 2 ^ 32 → a / 2 ^ b < 2 ^ 32
quotient_fits a b lt = let le : a / 2 ^ b ≤ a = div-le_self a (2 ^ b) in omega arith

pub value_fits : (op : Op) (a b : ℕ) → a < 2 ^ 32 → b < 2 ^ 32 →
    operation_value op a b < 2 ^ 32
unfolding operation_value
value_fits Add a b la lb = remainder_fits (a + b)
value_fits Sub a b la lb = remainder_fits (a + (2 ^ 32 - b))
value_fits Mul a b la lb = remainder_fits (a * b)
value_fits Div a b la lb = omega (arith, div-le_self a b)
value_fits Rem a b la lb = omega (arith, mod-le a b)
value_fits Shl a b la lb =
    choice_fits (nat_lt b 32) ((a * 2 ^ b) % 2 ^ 32) (remainder_fits (a * 2 ^ b))
value_fits Shr a b la lb = choice_fits (nat_lt b 32) (a / 2 ^ b) (quotient_fits a b la)
value_fits BitAnd a b la lb = let le : bit_and a b ≤ a = and_le_l a b in omega arith
value_fits BitOr a b la lb = or_of_32 a b la lb
value_fits BitXor a b la lb = xor_of_32 a b la lb
value_fits Eq a b la lb = bit_fits (a == b)
value_fits Ne a b la lb = bit_fits (not (a == b))
value_fits Lt a b la lb = bit_fits (nat_lt a b)
value_fits Le a b la lb = bit_fits (nat_le a b)
value_fits Gt a b la lb = bit_fits (nat_lt b a)
value_fits Ge a b la lb = bit_fits (nat_le b a)
value_fits And a b la lb = bit_fits (not (a == 0) && not (b == 0))
value_fits Or a b la lb = bit_fits (not (a == 0) || not (b == 0))
value_fits Min a b la lb = omega arith
value_fits Max a b la lb = omega arith
value_fits Within a b la lb = la
