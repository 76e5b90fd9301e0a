-- The names of a program's variables.
use Rattle.std.specs.Prelude.{◌≢◌, List, [], ◌∷◌, ◌++◌, map}
use Rattle.std.specs.List.{AllByRecursion}
use Rattle.text_lines.specs.Lines.{Word}
use Rattle.pardo_program.specs.Program.{ArrayData, PrivateData, ProgramData}

-- those of shared arrays, and then those of private variables
abbrev pub names_among : List ArrayData → List PrivateData → List Word
names_among arrays privates =
    map (λ array. array.name) arrays ++ map (λ variable. variable.name) privates

abbrev pub variable_names : ProgramData → List Word
variable_names program = names_among program.arrays program.privates

-- no two are the same
abbrev pub AreDistinct : List Word → Type 0
AreDistinct [] = Unit {0}
AreDistinct (word ∷ words) = AllByRecursion (λ other. word ≢ other) words × AreDistinct words
