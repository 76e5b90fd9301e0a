-- What operations make of operands.
use Rattle.std.specs.Prelude.{ℕ, nat_lt, if◌then◌else◌, Option, Some, None}
use Rattle.pardo_program.specs.declared.operation.Op.{Op}
use Rattle.pardo_program.specs.declared.operation.Op.TheVariants as op
use Rattle.pardo_program.specs.Expression.{Tree, number, apply}
use Rattle.pardo_program.specs.Operations.{operation_value}

-- Of two numbers it makes a number at once.
abbrev pub applied : Op → Tree → Tree → Tree
applied op (number first) (number second) = number (operation_value op first second)
applied op first second = apply op first second

-- the number that a tree is, if it is one
abbrev pub constant_of : Tree → Option ℕ
constant_of (number value) = Some value
constant_of _ = None

-- An index is tested, unless it is a number within its bound.
abbrev pub tested : ℕ → Tree → Option ℕ → Tree
tested n tree None = apply op.Within tree (number n)
tested n tree (Some k) = if nat_lt k n then tree else apply op.Within tree (number n)
