-- What names stand for, and where they may stand.
use Rattle.std.specs.Prelude.{Bool, true, false, if◌then◌else◌, Option, Some, None}
use Rattle.std.specs.Str.{bytes_eq}
use Rattle.pardo_text.specs.declared.names.Named.{Named}
use Rattle.pardo_text.specs.declared.names.Named.TheVariants.{Constant, Own, Scalar, Array, Table}
use Rattle.pardo_text.specs.declared.names.Named.TheVariants.{Private, Loop}
use Rattle.pardo_text.specs.declared.names.Scope.{Scope}
use Rattle.pardo_text.specs.declared.names.Scope.TheVariants.{Start, Bound, Uniform, Any}
use Rattle.pardo_program.specs.Expression.{Tree, number, own, loop, private, place}
use Rattle.text_lines.specs.Lines.{Word}

abbrev pub Names : Type 0
Names = Word → Option Named

abbrev pub no_names : Names
no_names = λ word. None

-- one name more
abbrev pub named : Word → Named → Names → Names
named name thing names = λ word. if bytes_eq name word then Some thing else names word

-- one name less
abbrev pub unnamed : Word → Names → Names
unnamed name names = λ word. if bytes_eq name word then None else names word

-- Constants may stand everywhere.
abbrev pub admits : Scope → Named → Bool
admits scope (Constant value) = true
admits Start Own = true
admits Bound (Loop nest) = true
admits Uniform (Loop nest) = true
admits Uniform (Scalar array) = true
admits Any thing = true
admits _ _ = false

-- what a name without an index says
abbrev pub tree_from : Named → Tree
tree_from (Constant value) = number value
tree_from Own = own
tree_from (Scalar array) = place array (number 0)
tree_from (Array array) = place array (number 0)
tree_from (Table array rows columns) = place array (number 0)
tree_from (Private x) = private x
tree_from (Loop nest) = loop nest
