-- The words with which the lines of an exercise begin.
use Rattle.std.specs.Prelude.{ℕ, Bool, true, false, codes, if◌then◌else◌}
use Rattle.std.specs.Prelude.{Option, Some, None}
use Rattle.std.specs.Str.{bytes_eq}
use Rattle.text_lines.specs.Lines.{Word}
use Rattle.exercise_text.specs.declared.key.Key.{Key}
use Rattle.exercise_text.specs.declared.key.Key.TheVariants.{Note, Title, Task, Model, Want, Time}
use Rattle.exercise_text.specs.declared.key.Key.TheVariants.{Operations, Steps, Lines, Given}
use Rattle.exercise_text.specs.declared.key.Key.TheVariants.{Start, Reference, Input, Hidden, Gone}

abbrev pub said_key : Word → Option Key
said_key word =
    if bytes_eq word (codes "title") then Some Title
    else (if bytes_eq word (codes "task") then Some Task
    else (if bytes_eq word (codes "model") then Some Model
    else (if bytes_eq word (codes "want") then Some Want
    else (if bytes_eq word (codes "gone") then Some Gone else None))))

abbrev pub bar_key : Word → Option Key
bar_key word =
    if bytes_eq word (codes "time") then Some Time
    else (if bytes_eq word (codes "operations") then Some Operations
    else (if bytes_eq word (codes "steps") then Some Steps
    else (if bytes_eq word (codes "lines") then Some Lines else None)))

abbrev pub part_key : Word → Option Key
part_key word =
    if bytes_eq word (codes "given") then Some Given
    else (if bytes_eq word (codes "start") then Some Start
    else (if bytes_eq word (codes "reference") then Some Reference
    else (if bytes_eq word (codes "input") then Some Input
    else (if bytes_eq word (codes "hidden") then Some Hidden else None))))

abbrev pub or_else : Option Key → Option Key → Option Key
or_else None other = other
or_else (Some key) other = Some key

-- the key that a word names
abbrev pub key_named : Word → Option Key
key_named word = or_else (said_key word) (or_else (bar_key word) (part_key word))

-- the place of a key among the keys, by which they differ
abbrev pub key_place : Key → ℕ
key_place Note = 0
key_place Title = 1
key_place Task = 2
key_place Model = 3
key_place Want = 4
key_place Time = 5
key_place Operations = 6
key_place Steps = 7
key_place Lines = 8
key_place Given = 9
key_place Start = 10
key_place Reference = 11
key_place Input = 12
key_place Hidden = 13
key_place Gone = 14

-- lines of a program follow
abbrev pub is_part : Key → Bool
is_part Given = true
is_part Start = true
is_part Reference = true
is_part _ = false

-- settings of a run
abbrev pub is_input : Key → Bool
is_input Input = true
is_input Hidden = true
is_input _ = false

-- an expression that bounds what a run costs
abbrev pub is_bar : Key → Bool
is_bar Time = true
is_bar Operations = true
is_bar Steps = true
is_bar _ = false

-- it stands once at most
abbrev pub is_once : Key → Bool
is_once Note = false
is_once Task = false
is_once Input = false
is_once Hidden = false
is_once _ = true
