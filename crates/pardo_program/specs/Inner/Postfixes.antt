-- Expressions one after another, each in postfix order.
use Rattle.std.specs.Prelude.{◌≡◌, List, [], ◌∷◌, ◌++◌, length, refl}
use Rattle.std.proofs.Common.{ap, sym, ◌∙◌, append_assoc, append-nil}
use Rattle.std.specs.Coded.{Coded, coded_list}
use Rattle.pardo_program.specs.declared.expression.Node.{Node}
use Rattle.pardo_program.specs.declared.expression.Node.TheVariants.{Number, Own, Loop}
use Rattle.pardo_program.specs.declared.expression.Node.TheVariants.{Private, Place, Apply}
use Rattle.pardo_program.specs.Expression.{Tree, with_node, postfix, trees_of, trees_of-postfix}
use Rattle.pardo_program.specs.Expression.{tree_code}

-- the nodes of trees, the last tree first
abbrev pub postfixes : List Tree → List Node
postfixes [] = []
postfixes (tree ∷ trees) = postfixes trees ++ postfix tree

trees_of-onto : (trees base : List Tree) (nodes : List Node) →
    trees_of base (postfixes trees ++ nodes) ≡ trees_of (trees ++ base) nodes
trees_of-onto [] base nodes = refl
trees_of-onto (tree ∷ trees) base nodes =
    ap (trees_of base) (append_assoc (postfixes trees) (postfix tree) nodes)
    ∙ trees_of-onto trees base (postfix tree ++ nodes)
    ∙ trees_of-postfix tree (trees ++ base) nodes

pub trees_of-postfixes : (trees : List Tree) → trees_of [] (postfixes trees) ≡ trees
trees_of-postfixes trees =
    ap (λ nodes. trees_of [] nodes) (sym (append-nil (postfixes trees)))
    ∙ trees_of-onto trees [] [] ∙ append-nil trees

abbrev pub ArePostfix : List Node → Type 0
ArePostfix nodes = (trees : List Tree) × (nodes ≡ postfixes trees)

abbrev pub trees_code : Coded (List Tree)
trees_code = coded_list tree_code

-- the operands of a node are there
abbrev pub HasOperands : List Tree → Node → Type 0
HasOperands trees (Number k) = Unit {0}
HasOperands trees Own = Unit {0}
HasOperands trees (Loop nest) = Unit {0}
HasOperands trees (Private x) = Unit {0}
HasOperands (index ∷ trees) (Place array) = Unit {0}
HasOperands [] (Place array) = ⊥
HasOperands (second ∷ first ∷ trees) (Apply op) = Unit {0}
HasOperands (second ∷ []) (Apply op) = ⊥
HasOperands [] (Apply op) = ⊥

-- each of these nodes finds its operands, and they make one expression
abbrev pub AreTaken : List Tree → List Node → Type 0
AreTaken trees [] = length trees ≡ 1
AreTaken trees (node ∷ nodes) =
    HasOperands trees node × AreTaken (with_node trees node) nodes
