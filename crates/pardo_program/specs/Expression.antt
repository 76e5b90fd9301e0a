-- What an expression is.
use Rattle.std.specs.Prelude.{◌≡◌, ℕ, List, [], ◌∷◌, ◌++◌, refl}
use Rattle.std.proofs.Common.{ap, sym, ◌∙◌, append_assoc, append-nil}
use Rattle.std.specs.Coded.{Coded, code_by, coded_list}
use Rattle.pardo_program.specs.declared.operation.Op.{Op}
use Rattle.pardo_program.specs.declared.expression.Node.{Node}
use Rattle.pardo_program.specs.declared.expression.Node.TheVariants.{Number, Own, Loop, Private}
use Rattle.pardo_program.specs.declared.expression.Node.TheVariants.{Place, Apply}
use Rattle.pardo_program.specs.contracts.expression.Node as node

pub data Tree : Type 0 where
  number : ℕ → Tree
  own : Tree
  loop : ℕ → Tree
  private : ℕ → Tree
  place : ℕ → Tree → Tree
  apply : Op → Tree → Tree → Tree

abbrev pub postfix : Tree → List Node
postfix (number k) = Number k ∷ []
postfix own = Own ∷ []
postfix (loop nest) = Loop nest ∷ []
postfix (private x) = Private x ∷ []
postfix (place array index) = postfix index ++ Place array ∷ []
postfix (apply op first second) = postfix first ++ (postfix second ++ Apply op ∷ [])

-- the trees of postfix nodes, the last first, with one node more
abbrev pub with_node : List Tree → Node → List Tree
with_node trees (Number k) = number k ∷ trees
with_node trees Own = own ∷ trees
with_node trees (Loop nest) = loop nest ∷ trees
with_node trees (Private x) = private x ∷ trees
with_node (index ∷ trees) (Place array) = place array index ∷ trees
with_node [] (Place array) = []
with_node (second ∷ first ∷ trees) (Apply op) = apply op first second ∷ trees
with_node (second ∷ []) (Apply op) = second ∷ []
with_node [] (Apply op) = []

abbrev pub trees_of : List Tree → List Node → List Tree
trees_of trees [] = trees
trees_of trees (node ∷ nodes) = trees_of (with_node trees node) nodes

pub trees_of-postfix : (tree : Tree) (trees : List Tree) (nodes : List Node) →
    trees_of trees (postfix tree ++ nodes) ≡ trees_of (tree ∷ trees) nodes
trees_of-postfix (number k) trees nodes = refl
trees_of-postfix own trees nodes = refl
trees_of-postfix (loop nest) trees nodes = refl
trees_of-postfix (private x) trees nodes = refl
trees_of-postfix (place array index) trees nodes =
    ap (trees_of trees) (append_assoc (postfix index) (Place array ∷ []) nodes)
    ∙ trees_of-postfix index trees (Place array ∷ nodes)
trees_of-postfix (apply op first second) trees nodes =
    ap (trees_of trees) (append_assoc (postfix first) (postfix second ++ Apply op ∷ []) nodes)
    ∙ trees_of-postfix first trees ((postfix second ++ Apply op ∷ []) ++ nodes)
    ∙ ap (trees_of (first ∷ trees)) (append_assoc (postfix second) (Apply op ∷ []) nodes)
    ∙ trees_of-postfix second (first ∷ trees) (Apply op ∷ nodes)

abbrev pub first_of : List Tree → Tree
first_of [] = own
first_of (tree ∷ trees) = tree

abbrev pub tree_of : List Node → Tree
tree_of nodes = first_of (trees_of [] nodes)

abbrev pub IsPostfix : List Node → Type 0
IsPostfix nodes = (tree : Tree) × (nodes ≡ postfix tree)

abbrev pub tree_of-postfix : (tree : Tree) → tree_of (postfix tree) ≡ tree
tree_of-postfix tree = ap (λ nodes. tree_of nodes) (sym (append-nil (postfix tree)))
    ∙ ap first_of (trees_of-postfix tree [] [])

abbrev pub tree_code : Coded Tree
tree_code = code_by (List Node) (coded_list node.the_row.coded) postfix tree_of tree_of-postfix
