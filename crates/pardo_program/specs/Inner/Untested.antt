-- Expressions without tests, node by node.
use Rattle.std.specs.Prelude.{◌≡◌, Bool, true, false, List, map}
use Rattle.pardo_program.specs.declared.expression.Node.{Node}
use Rattle.pardo_program.specs.declared.expression.Node.TheVariants.{Apply}
use Rattle.pardo_program.specs.declared.operation.Op.TheVariants.{Within}
use Rattle.pardo_program.specs.Expression.{Tree, with_node}
use Rattle.pardo_program.specs.Inner.Postfixes.{HasOperands}
use Rattle.pardo_program.specs.Tests.{Known, without_tests}

-- with one node more, whatever expressions there are
abbrev pub TakesUntested : Known → Node → List Tree → List Tree → Type 0
TakesUntested known node before after = (trees : List Tree) →
    before ≡ map (without_tests known) trees → HasOperands trees node →
    after ≡ map (without_tests known) (with_node trees node)

-- the operands of the node are there
pub record OperandsAreThere (known : Known) (node : Node) (before : List Tree) : Type 0 where
  pub trees : List Tree
  pub are : before ≡ map (without_tests known) trees
  pub ready : HasOperands trees node

abbrev pub is_test : Node → Bool
is_test (Apply Within) = true
is_test _ = false
