-- What is within bounds stays within greater ones.
use Rattle.std.proofs.Common.{◌≡◌, ℕ, ◌^◌, ◌<◌, ◌≤◌, Bool, true, false, ◌&&◌}
use Rattle.std.proofs.Common.{Option, Some, None, if◌then◌else◌, nat_lt}
use Rattle.std.proofs.Common.{IfOk, refl, sym, subst, ◌∙◌, arith}
use Rattle.pardo_text.specs.declared.names.Named.{Named}
use Rattle.pardo_text.specs.declared.names.Named.TheVariants as thing
use Rattle.pardo_text.specs.declared.names.Scope.{Scope}
use Rattle.pardo_text.specs.declared.names.Scope.TheVariants.{Start}
use Rattle.pardo_program.specs.declared.operation.Op.{Op}
use Rattle.pardo_program.specs.declared.operation.Op.TheVariants.{Add, Mul, Within}
use Rattle.pardo_program.specs.declared.statement.Line.{Line}
use Rattle.pardo_program.specs.declared.statement.Statement.{Statement}
use Rattle.pardo_program.specs.declared.statement.Statement.TheVariants as statement
use Rattle.pardo_program.specs.declared.statement.Target.{Target}
use Rattle.pardo_program.specs.declared.statement.Target.TheVariants as target
use Rattle.pardo_program.specs.Expression.{Tree, number, own, loop, private, place, apply}
use Rattle.pardo_program.specs.Folding.{applied, constant_of, tested}
use Rattle.pardo_text.specs.Expressions.{joined, is_zero}
use Rattle.pardo_program.specs.Lawful.{Bounds, IsExpression, IsCommonTree, IsTarget, IsStatement}
use Rattle.pardo_program.specs.Lawful.{IsLine}
use Rattle.text_lines.specs.Lines.{Word}
use Rattle.pardo_text.specs.Names.{Names, admits, tree_from}
use Rattle.pardo_program.specs.Operations.{is_division, operation_value}
use Rattle.pardo_text.proofs.Ifs.{ok_if}
use Rattle.pardo_text.proofs.LawTrees.{Keeps, IsBare}
use Rattle.pardo_program.proofs.LawValues.{value_small}

pub record Grows (b c : Bounds) : Type 0 where
  pub arrays : b.arrays ≤ c.arrays
  pub privates : b.privates ≤ c.privates
  pub loops : b.loops ≤ c.loops
  pub choices : b.choices ≤ c.choices
  pub lines : b.lines ≤ c.lines

-- what a name may stand for
abbrev pub IsThing : Bounds → Named → Type 0
IsThing b (thing.Constant value) = value < 2 ^ 32
IsThing b thing.Own = Unit {0}
IsThing b (thing.Scalar array) = array < b.arrays
IsThing b (thing.Array array) = array < b.arrays
IsThing b (thing.Table array rows columns) =
    (array < b.arrays) × (rows < 2 ^ 32) × (columns < 2 ^ 32)
IsThing b (thing.Private x) = x < b.privates
IsThing b (thing.Loop nest) = nest < b.loops

abbrev pub AreThings : Bounds → Names → Type 0
AreThings b names = (word : Word) (found : Named) → names word ≡ Some found → IsThing b found

module _ (b c : Bounds) (g : Grows b c) where
  pub thing_more : (found : Named) → IsThing b found → IsThing c found
  thing_more (thing.Constant value) is = is
  thing_more thing.Own is = tt
  thing_more (thing.Scalar array) is = omega (arith, is, g.arrays)
  thing_more (thing.Array array) is = omega (arith, is, g.arrays)
  thing_more (thing.Table array rows columns) is =
      (omega (arith, is.0, g.arrays), is.1, is.2)
  thing_more (thing.Private x) is = omega (arith, is, g.privates)
  thing_more (thing.Loop nest) is = omega (arith, is, g.loops)

  pub things_more : (names : Names) → AreThings b names → AreThings c names
  things_more names are word found e = thing_more found (are word found e)

  pub tree_more : (tree : Tree) → IsExpression b tree → IsExpression c tree
  tree_more (number value) is = is
  tree_more own is = tt
  tree_more (loop nest) is = omega (arith, is, g.loops)
  tree_more (private x) is = omega (arith, is, g.privates)
  tree_more (place array index) is = (omega (arith, is.0, g.arrays), tree_more index is.1)
  tree_more (apply op first second) is =
      (tree_more first is.0, tree_more second is.1)

  pub common_more : (tree : Tree) → IsCommonTree b tree → IsCommonTree c tree
  common_more tree is = (tree_more tree is.0, is.1)

  target_more : (to : Target) → IsTarget b to → IsTarget c to
  target_more (target.Private x) is = omega (arith, is, g.privates)
  target_more (target.Array array index) is =
      (omega (arith, is.0, g.arrays), tree_more index is.1)

  pub statement_more : (said : Statement) → IsStatement b said → IsStatement c said
  statement_more (statement.Assign to value) is = (target_more to is.0, tree_more value is.1)
  statement_more (statement.If condition) is = tree_more condition is
  statement_more statement.Else is = tt
  statement_more statement.EndIf is = tt
  statement_more (statement.While condition end) is =
      (common_more condition is.0, omega (arith, is.1, g.lines))
  statement_more (statement.EndWhile begin) is = omega (arith, is, g.lines)
  statement_more (statement.For nest first last up end) is = (
    omega (arith, is.0, g.loops),
    common_more first is.1,
    common_more last is.2,
    omega (arith, is.3, g.lines),
  )
  statement_more (statement.EndFor begin) is = omega (arith, is, g.lines)

  pub line_more : (line : Line) → IsLine b line → IsLine c line
  line_more line is = (statement_more line.statement is.0, omega (arith, is.1, g.choices))

-- ---- expressions

-- what an operation of two expressions makes
pub applied_keeps : (P : Tree → Type 0) (op : Op) (first second : Tree) →
    ((a b : ℕ) → first ≡ number a → second ≡ number b → P (number (operation_value op a b))) →
    P (apply op first second) → P (applied op first second)
applied_keeps P op (number a) (number b) known both = known a b refl refl
applied_keeps P op (number a) own known both = both
applied_keeps P op (number a) (loop nest) known both = both
applied_keeps P op (number a) (private x) known both = both
applied_keeps P op (number a) (place array index) known both = both
applied_keeps P op (number a) (apply other first second) known both = both
applied_keeps P op own second known both = both
applied_keeps P op (loop nest) second known both = both
applied_keeps P op (private x) second known both = both
applied_keeps P op (place array index) second known both = both
applied_keeps P op (apply other first more) second known both = both

as_number : (b : Bounds) (tree : Tree) (value : ℕ) → tree ≡ number value → IsExpression b tree →
    value < 2 ^ 32
as_number b tree value e is = subst (IsExpression b) e is

applied_tree : (b : Bounds) (op : Op) (first second : Tree) → IsExpression b first →
    IsExpression b second → IsExpression b (applied op first second)
applied_tree b op first second p q = applied_keeps (IsExpression b) op first second
    (λ x y e f. value_small op x y (as_number b first x e p) (as_number b second y f q))
    (p, q)

bare_tree : (b : Bounds) (found : Named) → IsBare found → IsThing b found →
    IsExpression b (tree_from found)
bare_tree b (thing.Constant value) bare is = is
bare_tree b thing.Own bare is = tt
bare_tree b (thing.Scalar array) bare is = (is, omega arith)
bare_tree b (thing.Array array) bare is = absurd bare
bare_tree b (thing.Table array rows columns) bare is = absurd bare
bare_tree b (thing.Private x) bare is = is
bare_tree b (thing.Loop nest) bare is = is

-- what keeps P where an operation is applied keeps it where two expressions are joined
joined_keeps : (P : Tree → Type 0) (op : Op) (first second : Tree) → P (applied op first second) →
    IfOk (joined op first second) P
unfolding joined
joined_keeps P op first second both =
    ok_if (is_division op && is_zero (constant_of second)) _ _ P (λ _. tt) (λ _. both)

-- an index with its test, where it has one
tested_tree : (b : Bounds) (n : ℕ) (tree : Tree) (value : Option ℕ) → n < 2 ^ 32 →
    IsExpression b tree → IsExpression b (tested n tree value)
tested_tree b n tree None few is = (is, few)
tested_tree b n tree (Some k) few is = either (nat_lt k n)
  where
    either : (t : Bool) → IsExpression b (if t then tree else apply Within tree (number n))
    either true = is
    either false = (is, few)

table_tree : (b : Bounds) (array rows columns : ℕ) (row column : Tree) →
    IsThing b (thing.Table array rows columns) → IsExpression b row → IsExpression b column →
    IsExpression b (place array (applied Add
    (applied Mul (tested rows row (constant_of row)) (number columns))
    (tested columns column (constant_of column))))
table_tree b array rows columns row column is p q =
    let first = tested rows row (constant_of row) in
    let second = tested columns column (constant_of column) in (
      is.0,
      applied_tree b Add (applied Mul first (number columns)) second
          (applied_tree b Mul first (number columns)
          (tested_tree b rows row (constant_of row) is.1 p) is.2)
          (tested_tree b columns column (constant_of column) is.2 q),
    )

-- expressions in code
pub keeps_tree : (b : Bounds) (names : Names) (scope : Scope) → AreThings b names →
    Keeps names scope (IsExpression b)
keeps_tree b names scope are = record {
  numbers = λ value few. few;
  bare = λ word found e f is. bare_tree b found is (are word found e);
  placed = λ word array index e f p. (are word (thing.Array array) e, p);
  tabled = λ word array rows columns row column e f p q.
      table_tree b array rows columns row column
      (are word (thing.Table array rows columns) e) p q;
  joins = λ op first second p q.
      joined_keeps (IsExpression b) op first second (applied_tree b op first second p q);
  pairs = λ op first second e p q. applied_tree b op first second p q;
}

-- ---- expressions that are the same for all processors

-- what differs by processor, and an array, may not stand in the scope
abbrev pub IsCommonScope : Scope → Type 0
IsCommonScope scope =
    (admits scope thing.Own ≡ false)
    × ((x : ℕ) → admits scope (thing.Private x) ≡ false)
    × ((array : ℕ) → admits scope (thing.Array array) ≡ false)
    × ((array rows columns : ℕ) → admits scope (thing.Table array rows columns) ≡ false)

applied_common : (b : Bounds) (op : Op) (first second : Tree) → IsCommonTree b first →
    IsCommonTree b second → IsCommonTree b (applied op first second)
applied_common b op first second p q = applied_keeps (IsCommonTree b) op first second
    (λ x y e f. (value_small op x y (as_number b first x e p.0) (as_number b second y f q.0), tt))
    ((p.0, q.0), (p.1, q.1))

bare_common : (b : Bounds) (scope : Scope) (found : Named) → IsCommonScope scope → IsBare found →
    admits scope found ≡ true → IsThing b found → IsCommonTree b (tree_from found)
bare_common b scope (thing.Constant value) common bare e is = (is, tt)
bare_common b scope thing.Own common bare e is =
    absurd (let no : false ≡ true = sym common.0 ∙ e in cc)
bare_common b scope (thing.Scalar array) common bare e is = ((is, omega arith), refl)
bare_common b scope (thing.Array array) common bare e is = absurd bare
bare_common b scope (thing.Table array rows columns) common bare e is = absurd bare
bare_common b scope (thing.Private x) common bare e is =
    absurd (let no : false ≡ true = sym (common.1 x) ∙ e in cc)
bare_common b scope (thing.Loop nest) common bare e is = (is, tt)

pub keeps_common : (b : Bounds) (names : Names) (scope : Scope) → IsCommonScope scope →
    AreThings b names → Keeps names scope (IsCommonTree b)
keeps_common b names scope common are = record {
  numbers = λ value few. (few, tt);
  bare = λ word found e f is. bare_common b scope found common is f (are word found e);
  placed = λ word array index e f p. absurd
      (let no : false ≡ true = sym (common.2 array) ∙ f in cc);
  tabled = λ word array rows columns row column e f p q. absurd
      (let no : false ≡ true = sym (common.3 array rows columns) ∙ f in cc);
  joins = λ op first second p q.
      joined_keeps (IsCommonTree b) op first second (applied_common b op first second p q);
  pairs = λ op first second e p q. applied_common b op first second p q;
}

-- ---- start values

-- what an expression of a start value is made of
abbrev pub IsStart : Tree → Type 0
IsStart (number value) = value < 2 ^ 32
IsStart own = Unit {0}
IsStart (loop nest) = ⊥
IsStart (private x) = ⊥
IsStart (place array index) = ⊥
IsStart (apply op first second) = IsStart first × IsStart second

applied_start : (op : Op) (first second : Tree) → IsStart first → IsStart second →
    IsStart (applied op first second)
applied_start op first second p q = applied_keeps IsStart op first second
    (λ x y e f. value_small op x y (subst IsStart e p) (subst IsStart f q)) (p, q)

bare_start : (b : Bounds) (found : Named) → admits Start found ≡ true → IsThing b found →
    IsStart (tree_from found)
bare_start b (thing.Constant value) e is = is
bare_start b thing.Own e is = tt
bare_start b (thing.Scalar array) e is = absurd (let no : false ≡ true = e in cc)
bare_start b (thing.Array array) e is = absurd (let no : false ≡ true = e in cc)
bare_start b (thing.Table array rows columns) e is =
    absurd (let no : false ≡ true = e in cc)
bare_start b (thing.Private x) e is = absurd (let no : false ≡ true = e in cc)
bare_start b (thing.Loop nest) e is = absurd (let no : false ≡ true = e in cc)

pub keeps_start : (b : Bounds) (names : Names) → AreThings b names → Keeps names Start IsStart
keeps_start b names are = record {
  numbers = λ value few. few;
  bare = λ word found e f is. bare_start b found f (are word found e);
  placed = λ word array index e f p. absurd (let no : false ≡ true = f in cc);
  tabled = λ word array rows columns row column e f p q.
      absurd (let no : false ≡ true = f in cc);
  joins = λ op first second p q.
      joined_keeps IsStart op first second (applied_start op first second p q);
  pairs = λ op first second e p q. applied_start op first second p q;
}
