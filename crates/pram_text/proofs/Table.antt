-- The table of instructions, read from names, is the one that is read from instructions.
use Rattle.std.specs.List.{AllByRecursion}
use Rattle.std.proofs.Common.{◌≡◌, ℕ, Bool, true, false, sym, subst}
use Rattle.pram_job.specs.declared.instr.Instr.{Instr}
use Rattle.pram_job.specs.declared.instr.Operand.{Operand}
use Rattle.pram_job.specs.declared.instr.Operands.{Operands}
use Rattle.pram_job.specs.declared.instr.Operands.TheVariants as o
use Rattle.pram_job.specs.Instructions.{AreOperands, Form, bare, only_target, target_number}
use Rattle.pram_job.specs.declared.instr.Place.{Place}
use Rattle.pram_job.specs.Instructions.{target_place, target_two, place_value, register_index}
use Rattle.pram_job.specs.Instructions.{only_index, row_of, table}
use Rattle.pram_job.specs.Job.{IsInstr}
use Rattle.text_lines.specs.Lines.{Word}

-- what is made has this name, and these operands
abbrev pub IsRow : Word → Form → Type 0
IsRow name (bare instr) = row_of instr ≡ (name, o.Bare)
IsRow name (only_target make) = (r : ℕ) → row_of (make r) ≡ (name, o.Target r)
IsRow name (target_number make) = (r k : ℕ) → row_of (make r k) ≡ (name, o.TargetNumber r k)
IsRow name (target_place make) =
    (r : ℕ) (place : Place) → row_of (make r place) ≡ (name, o.TargetPlace r place)
IsRow name (target_two make) =
    (r a : ℕ) (b : Operand) → row_of (make r a b) ≡ (name, o.TargetTwo r a b)
IsRow name (place_value make) =
    (place : Place) (b : Operand) → row_of (make place b) ≡ (name, o.PlaceValue place b)
IsRow name (register_index make) = (r p : ℕ) → row_of (make r p) ≡ (name, o.RegisterIndex r p)
IsRow name (only_index make) = (p : ℕ) → row_of (make p) ≡ (name, o.Index p)

pub table_is : (later : Bool) →
    AllByRecursion (λ (row : Word × Form). IsRow row.0 row.1) (table later)
table_is true = search
table_is false = search

pub is_instr : (cells len : ℕ) (name : Word) (instr : Instr) (operands : Operands) →
    row_of instr ≡ (name, operands) → AreOperands cells len operands → IsInstr cells len instr
is_instr cells len name instr operands is are =
    subst (λ (row : Word × Operands). AreOperands cells len row.1) (sym is) are
