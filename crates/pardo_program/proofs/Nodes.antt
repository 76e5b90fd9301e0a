-- The nodes of an expression, one after another.
use Rattle.std.proofs.Common.{◌≡◌, ℕ, ◌+◌, ◌<◌, ◌≤◌, List, [], ◌∷◌, ◌++◌, refl, sym, ap, ◌∙◌, subst}
use Rattle.std.proofs.Common.{drop, get_or, length, append_assoc, append-nil}
use Rattle.std.proofs.lemmas.List.{at_drop_all, drop_more}
use Rattle.pardo_program.specs.declared.expression.Node.{Node}
use Rattle.pardo_program.specs.declared.expression.Node.TheVariants.{Place, Apply}
use Rattle.pardo_program.specs.Expression.{Tree, number, own, loop, private, place, apply, postfix}
use Rattle.pardo_program.specs.Expression.{trees_of, trees_of-postfix, with_node}
use Rattle.pardo_program.specs.Inner.Postfixes.{AreTaken, HasOperands}

nodes_taken : (tree : Tree) (trees : List Tree) (nodes : List Node) →
    AreTaken (tree ∷ trees) nodes → AreTaken trees (postfix tree ++ nodes)
nodes_taken (number k) trees nodes rest = (tt, rest)
nodes_taken own trees nodes rest = (tt, rest)
nodes_taken (loop nest) trees nodes rest = (tt, rest)
nodes_taken (private x) trees nodes rest = (tt, rest)
nodes_taken (place array index) trees nodes rest =
    subst (AreTaken trees) (sym (append_assoc (postfix index) (Place array ∷ []) nodes))
    (nodes_taken index trees (Place array ∷ nodes) (tt, rest))
nodes_taken (apply op first second) trees nodes rest =
    subst (AreTaken trees) (sym
    (append_assoc (postfix first) (postfix second ++ Apply op ∷ []) nodes))
    (nodes_taken first trees ((postfix second ++ Apply op ∷ []) ++ nodes)
    (subst (AreTaken (first ∷ trees)) (sym (append_assoc (postfix second) (Apply op ∷ []) nodes))
    (nodes_taken second (first ∷ trees) (Apply op ∷ nodes) (tt, rest))))

all_taken : (tree : Tree) → AreTaken [] (postfix tree)
all_taken tree = subst (AreTaken []) (append-nil (postfix tree)) (nodes_taken tree [] [] refl)

-- the first k nodes are taken, and so it is with the expressions that they make
pub record SoFar (P : List Tree → Type 0) (nodes : List Node) (k : ℕ) : Type 0 where
  pub trees : List Tree
  pub are : P trees
  pub ready : AreTaken trees (drop k nodes)
  pub leads : trees_of trees (drop k nodes) ≡ trees_of [] nodes

pub none_so_far : (P : List Tree → Type 0) (tree : Tree) (nodes : List Node) →
    nodes ≡ postfix tree → P [] → SoFar P nodes 0
none_so_far P tree nodes e none = record {
  trees = [];
  are = none;
  ready = subst (AreTaken []) (sym e) (all_taken tree);
  leads = refl;
}

pub operands_are : (P : List Tree → Type 0) (nodes : List Node) (k : ℕ) (d : Node) →
    k < length nodes → (s : SoFar P nodes k) → HasOperands s.trees (get_or nodes k d)
operands_are P nodes k d lt s =
    let ready : AreTaken s.trees (get_or nodes k d ∷ drop (k + 1) nodes) =
    subst (AreTaken s.trees) (drop_more nodes k d lt) s.ready in ready.0

pub one_more : (P Q : List Tree → Type 0) (nodes : List Node) (k : ℕ) (d : Node) →
    k < length nodes →
    ((trees : List Tree) → P trees → HasOperands trees (get_or nodes k d) →
    Q (with_node trees (get_or nodes k d))) →
    SoFar P nodes k → SoFar Q nodes (k + 1)
one_more P Q nodes k d lt takes s =
    let node : Node = get_or nodes k d in
    let e : drop k nodes ≡ node ∷ drop (k + 1) nodes = drop_more nodes k d lt in
    let rest : List Node = drop (k + 1) nodes in
    let ready : AreTaken s.trees (node ∷ rest) = subst (AreTaken s.trees) e s.ready in record {
      trees = with_node s.trees node;
      are = takes s.trees s.are ready.0;
      ready = ready.1;
      leads = sym (ap (trees_of s.trees) e) ∙ s.leads;
    }

pub all_so_far : (P : List Tree → Type 0) (tree : Tree) (nodes : List Node) (k : ℕ) →
    nodes ≡ postfix tree → length nodes ≤ k → SoFar P nodes k → P (tree ∷ [])
all_so_far P tree nodes k is_postfix le s =
    let one : s.trees ≡ tree ∷ [] =
    sym (at_drop_all (trees_of s.trees) nodes k le) ∙ s.leads ∙
    ap (trees_of []) (is_postfix ∙ sym (append-nil (postfix tree)))
    ∙ trees_of-postfix tree [] [] in
    subst P one s.are
