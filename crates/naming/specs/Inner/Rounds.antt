-- A program that was compiled.
use Rattle.pardo_program.specs.Lawful.{IsProgram}
use Rattle.pardo_program.specs.Program.{ProgramData}
use Rattle.pardo_flat.specs.Flat.{flat}

-- it is lawful, and so is the flat one
abbrev pub IsLawfulFlat : ProgramData → Type 0
IsLawfulFlat program = IsProgram program × IsProgram (flat program)
