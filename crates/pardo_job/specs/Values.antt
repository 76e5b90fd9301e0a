-- The code of expressions.
use Rattle.std.specs.Prelude.{ℕ, ◌+◌, Bool, false, ◌&&◌, List, [], ◌∷◌, ◌++◌}
use Rattle.pram_job.specs.declared.instr.Array.{Array}
use Rattle.pram_job.specs.declared.instr.Instr.{Instr}
use Rattle.pram_job.specs.declared.instr.Instr.TheVariants.{Ld}
use Rattle.pram_job.specs.declared.instr.Operand.{Operand}
use Rattle.pram_job.specs.declared.instr.Operand.TheVariants.{Register, Number}
use Rattle.pram_job.specs.declared.instr.Place.{Place}
use Rattle.pram_job.specs.declared.instr.Place.TheVariants.{Named}
use Rattle.pardo_program.specs.Expression.{Tree, number, own, loop, private, place, apply}
use Rattle.pardo_flat.specs.Layouts.{ProgramLayoutData, private_cells, loop_cells, array_cells}
use Rattle.pardo_flat.specs.Flat.{gives_truth}
use Rattle.pardo_job.specs.Operations.{own_register, operation_code}

-- a processor's own cell of a row
abbrev pub own_place : Array → Place
own_place cells = Named cells (Register own_register)

abbrev pub own_load : ℕ → Array → Instr
own_load at cells = Ld at (own_place cells)

-- where the value of an expression is: it is computed, in `at`, but for numbers and the own one
abbrev pub value_operand : ℕ → Tree → Operand
value_operand at (number k) = Number k
value_operand at own = Register own_register
value_operand at _ = Register at

-- how many registers it takes
abbrev pub takes : Tree → ℕ
takes (number k) = 0
takes own = 0
takes _ = 1

-- it is 0 or 1 whatever the program does
abbrev pub is_truth : Tree → Bool
is_truth (apply op first second) = gives_truth op (is_truth first && is_truth second)
is_truth _ = false

-- The code of an expression, by the registers from `at` on.
abbrev pub value_code : ProgramLayoutData → ℕ → Tree → List Instr
value_code layout at (number k) = []
value_code layout at own = []
value_code layout at (loop nest) = own_load at (loop_cells layout nest) ∷ []
value_code layout at (private x) = own_load at (private_cells layout x) ∷ []
value_code layout at (place array index) = value_code layout at index
    ++ Ld at (Named (array_cells layout array) (value_operand at index)) ∷ []
value_code layout at (apply op first second) = value_code layout at first
    ++ (value_code layout (at + takes first) second
    ++ operation_code at op (is_truth first && is_truth second)
    (value_operand at first) (value_operand (at + takes first) second))
