-- Where a number must be known at once, an expression is a number.
use Rattle.std.proofs.Common.{◌≡◌, ℕ, true, false, ◌&&◌, List, IfOk, refl, ap, ◌∙◌, sym}
use Rattle.std.proofs.Common.{subst, Ok, Some, None}
use Rattle.pardo_text.specs.declared.names.Named.{Named}
use Rattle.pardo_text.specs.declared.names.Named.TheVariants as thing
use Rattle.pardo_text.specs.declared.names.Scope.TheVariants.{Fixed}
use Rattle.pardo_program.specs.declared.operation.Op.{Op}
use Rattle.pardo_program.specs.Expression.{Tree, number}
use Rattle.pardo_text.specs.Expressions.{Read, joined, is_zero, within_at}
use Rattle.pardo_program.specs.Folding.{applied, constant_of}
use Rattle.pardo_text.specs.Laws.{ConstantsAreNumbers}
use Rattle.pardo_text.specs.Names.{Names, admits, tree_from}
use Rattle.pardo_program.specs.Operations.{is_division, operation_value}
use Rattle.pardo_text.specs.Tokens.{Token}
use Rattle.pardo_text.proofs.Ifs.{ok_if}
use Rattle.pardo_text.proofs.LawTrees.{Keeps, within_kept, expression_kept}

abbrev pub IsNumber : Tree → Type 0
IsNumber tree = (value : ℕ) × (tree ≡ number value)

applied_number : (op : Op) (first second : Tree) → IsNumber first → IsNumber second →
    IsNumber (applied op first second)
applied_number op first second a b = (
  operation_value op a.0 b.0,
  ap (λ tree. applied op tree second) a.1
      ∙ ap (λ tree. applied op (number a.0) tree) b.1,
)

joined_number : (op : Op) (first second : Tree) → IsNumber first → IsNumber second →
    IfOk (joined op first second) IsNumber
unfolding joined
joined_number op first second a b =
    let both = applied_number op first second a b in
    ok_if (is_division op && is_zero (constant_of second)) _ _ IsNumber (λ _. tt) (λ _. both)

bare_number : (found : Named) → admits Fixed found ≡ true → IsNumber (tree_from found)
bare_number (thing.Constant value) e = (value, refl)
bare_number thing.Own e = absurd (let none : false ≡ true = e in cc)
bare_number (thing.Scalar array) e = absurd (let none : false ≡ true = e in cc)
bare_number (thing.Array array) e = absurd (let none : false ≡ true = e in cc)
bare_number (thing.Table array rows columns) e = absurd (let none : false ≡ true = e in cc)
bare_number (thing.Private x) e = absurd (let none : false ≡ true = e in cc)
bare_number (thing.Loop nest) e = absurd (let none : false ≡ true = e in cc)

keeps_number : (names : Names) → Keeps names Fixed IsNumber
keeps_number names = record {
  numbers = λ value few. (value, refl);
  bare = λ word found e f is. bare_number found f;
  placed = λ word array index e f p. absurd (let none : false ≡ true = f in cc);
  tabled = λ word array rows columns row column e f p q.
      absurd (let none : false ≡ true = f in cc);
  joins = joined_number;
  pairs = λ op first second e p q. applied_number op first second p q;
}

pub within_is_number : (names : Names) (left : ℕ) (tokens : List Token) →
    IfOk (within_at names left Fixed tokens) (λ read. IsNumber read.0)
within_is_number names left tokens =
    within_kept names Fixed IsNumber (keeps_number names) left tokens

pub is_no_other : (names : Names) (left : ℕ) (tokens rest : List Token) (tree : Tree) →
    within_at names left Fixed tokens ≡ Ok (tree, rest) → constant_of tree ≡ None → ⊥
is_no_other names left tokens rest tree e f =
    let is : IsNumber tree = subst (λ (read : Read Tree). IfOk read (λ r. IsNumber r.0)) e
    (within_is_number names left tokens) in
    let none : Some is.0 ≡ None = sym (ap constant_of is.1) ∙ f in cc

pub constants_are_numbers : ConstantsAreNumbers
constants_are_numbers names tokens =
    expression_kept names Fixed IsNumber (keeps_number names) tokens
