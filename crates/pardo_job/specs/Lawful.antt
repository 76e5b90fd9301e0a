-- What the reader makes of every text: what the compiler relies on.
use Rattle.std.specs.Prelude.{◌<◌, ◌^◌, length}
use Rattle.pardo_program.specs.Expression.{Tree, number, own, loop, private, place, apply}
use Rattle.pardo_flat.specs.Layouts.{ProgramLayoutData}

-- An expression of code names what there is.
abbrev pub IsLawfulTree : ProgramLayoutData → Tree → Type 0
IsLawfulTree layout (number k) = k < 2 ^ 32
IsLawfulTree layout own = Unit {0}
IsLawfulTree layout (loop nest) = nest < layout.loops
IsLawfulTree layout (private x) = x < layout.privates
IsLawfulTree layout (place array index) = (array < length layout.arrays) × IsLawfulTree layout index
IsLawfulTree layout (apply op first second) =
    IsLawfulTree layout first × IsLawfulTree layout second
