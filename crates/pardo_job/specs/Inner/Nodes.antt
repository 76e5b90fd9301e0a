-- The code of expressions node by node.
use Rattle.std.specs.Prelude.{◌≡◌, ℕ, ◌+◌, ◌<◌, ◌&&◌, List, [], ◌∷◌, ◌++◌, length, sum_by}
use Rattle.std.specs.Prelude.{Result, OnOk}
use Rattle.pram_job.specs.declared.instr.Instr.{Instr}
use Rattle.pram_job.specs.declared.instr.Instr.TheVariants.{Ld}
use Rattle.pram_job.specs.declared.instr.Place.TheVariants.{Named}
use Rattle.pardo_program.specs.declared.expression.Node.{Node}
use Rattle.pardo_program.specs.declared.expression.Node.TheVariants.{Number, Own, Loop}
use Rattle.pardo_program.specs.declared.expression.Node.TheVariants.{Private, Place, Apply}
use Rattle.pardo_program.specs.Expression.{Tree, with_node}
use Rattle.pardo_flat.specs.Layouts.{ProgramLayoutData, private_cells, loop_cells, array_cells}
use Rattle.pardo_job.specs.declared.fault.JobKind.{JobKind}
use Rattle.pardo_job.specs.declared.held.Held.{Held}
use Rattle.pardo_job.specs.declared.held.Stack.{Stack}
use Rattle.pardo_job.specs.Inner.Emitting.{PutsCode}
use Rattle.pardo_job.specs.Operations.{operation_code}
use Rattle.pardo_job.specs.Values.{own_load, value_operand, takes, is_truth}

-- the first register that is free after these expressions, the last one first
abbrev pub free_after : ℕ → List Tree → ℕ
free_after base trees = base + sum_by takes trees

-- an expression whose value is at hand
abbrev pub held_of : ℕ → Tree → Held
held_of at tree = record { operand = value_operand at tree; is_truth = is_truth tree }

-- several, the last one last
abbrev pub all_held : ℕ → List Tree → List Held
all_held base [] = []
all_held base (tree ∷ trees) = all_held base trees ++ held_of (free_after base trees) tree ∷ []

-- the code of a node after these expressions
abbrev pub node_code : ProgramLayoutData → ℕ → List Tree → Node → List Instr
node_code layout base trees (Number k) = []
node_code layout base trees Own = []
node_code layout base trees (Loop nest) =
    own_load (free_after base trees) (loop_cells layout nest) ∷ []
node_code layout base trees (Private x) =
    own_load (free_after base trees) (private_cells layout x) ∷ []
node_code layout base (index ∷ trees) (Place array) = Ld (free_after base trees)
    (Named (array_cells layout array) (value_operand (free_after base trees) index)) ∷ []
node_code layout base [] (Place array) = []
node_code layout base (second ∷ first ∷ trees) (Apply op) =
    operation_code (free_after base trees) op (is_truth first && is_truth second)
    (value_operand (free_after base trees) first)
    (value_operand (free_after base trees + takes first) second)
node_code layout base (second ∷ []) (Apply op) = []
node_code layout base [] (Apply op) = []

abbrev pub nodes_code : ProgramLayoutData → ℕ → List Tree → List Node → List Instr
nodes_code layout base trees [] = []
nodes_code layout base trees (node ∷ nodes) =
    node_code layout base trees node ++ nodes_code layout base (with_node trees node) nodes

-- ---- nodes of lawful expressions

-- the node names what there is, and its operands are at hand
abbrev pub IsReady : ProgramLayoutData → List Tree → Node → Type 0
IsReady layout trees (Number k) = Unit {0}
IsReady layout trees Own = Unit {0}
IsReady layout trees (Loop nest) = nest < layout.loops
IsReady layout trees (Private x) = x < layout.privates
IsReady layout (index ∷ trees) (Place array) = array < length layout.arrays
IsReady layout [] (Place array) = ⊥
IsReady layout (second ∷ first ∷ trees) (Apply op) = Unit {0}
IsReady layout (second ∷ []) (Apply op) = ⊥
IsReady layout [] (Apply op) = ⊥

-- each of these nodes is ready after those before it, and they make one expression
abbrev pub AreReadyNodes : ProgramLayoutData → List Tree → List Node → Type 0
AreReadyNodes layout trees [] = length trees ≡ 1
AreReadyNodes layout trees (node ∷ nodes) =
    IsReady layout trees node × AreReadyNodes layout (with_node trees node) nodes

-- ---- values at hand

-- some values, and after them those of these expressions, the last one first
pub record HoldsValues (stack : Stack) (before : List Held) (base : ℕ) (trees : List Tree)
    : Type 0 where
  pub values : stack.values.items ≡ before ++ all_held base trees
  pub taken : stack.taken ≡ free_after base trees

-- the operands of a node are at hand
pub record CanTake (stack : Stack) (layout : ProgramLayoutData) (node : Node) : Type 0 where
  pub before : List Held
  pub base : ℕ
  pub trees : List Tree
  pub holds : HoldsValues stack before base trees
  pub ready : IsReady layout trees node

-- the code of the node is put, and its value is at hand
pub record TakesOne {A : Type 0} (old new : List Instr) (stack : Stack) (result : Result A JobKind)
    (code : List Instr) (before : List Held) (base : ℕ) (trees : List Tree) : Type 0 where
  pub put : PutsCode old new result code
  pub held : OnOk result (HoldsValues stack before base trees)

-- whatever was at hand before
abbrev pub Takes : {A : Type 0} → Stack → List Instr → List Instr → Stack → Result A JobKind →
    ProgramLayoutData → Node → Type 0
Takes was old new stack result layout node = (before : List Held) (base : ℕ) (trees : List Tree) →
    HoldsValues was before base trees → IsReady layout trees node →
    TakesOne old new stack result (node_code layout base trees node) before base
    (with_node trees node)
