-- Nodes in postfix order, and the trees that they stand for.
use Rattle.std.proofs.Common.{◌≡◌, ◌≤◌, ◌<◌, ℕ, List, [], ◌∷◌, ◌++◌, length, drop}
use Rattle.std.proofs.Common.{Option, Some, None, refl, sym, ap, ◌∙◌, arith, append_assoc, length-append}
use Rattle.std.specs.Option.{option_to_list, IsSome}
use Rattle.std.proofs.lemmas.List.{same_from_push}
use Rattle.pardo_program.specs.declared.expression.Node.{Node}
use Rattle.pardo_program.specs.declared.expression.Node.TheVariants.{Number, Own, Loop, Private}
use Rattle.pardo_program.specs.declared.expression.Node.TheVariants.{Place, Apply}
use Rattle.pardo_program.specs.declared.operation.Op.{Op}
use Rattle.pardo_program.specs.Expression.{Tree, number, own, loop, private, place, apply, postfix}
use Rattle.pardo_program.specs.Expression.{tree_of, tree_of-postfix, IsPostfix, first_of, trees_of}
use Rattle.pardo_program.specs.Inner.Postfixes.{postfixes, trees_of-postfixes, ArePostfix}
use Rattle.pardo_program.specs.Folding.{constant_of}
use Rattle.pardo_program.specs.Inner.Nodes.{IsLeaf, IsLastNumber}

-- the nodes of an expression are those of its tree
pub nodes_of : (nodes : List Node) (tree : Tree) → IsPostfix nodes → tree_of nodes ≡ tree →
    nodes ≡ postfix tree
nodes_of nodes tree is view =
    is.1 ∙ ap postfix (sym (tree_of-postfix is.0) ∙ ap tree_of (sym is.1) ∙ view)

-- several nodes are no number
pub constant_of-long : (nodes : List Node) (tree : Tree) → nodes ≡ postfix tree →
    2 ≤ length nodes → None ≡ constant_of tree
constant_of-long nodes (number value) e long =
    absurd (let few : length nodes ≡ 1 = ap length e in omega arith)
constant_of-long nodes own e long = refl
constant_of-long nodes (loop nest) e long = refl
constant_of-long nodes (private x) e long = refl
constant_of-long nodes (place array index) e long = refl
constant_of-long nodes (apply op first second) e long = refl

-- ---- expressions one after another

pub nodes_of_all : (nodes : List Node) (trees : List Tree) → ArePostfix nodes →
    trees_of [] nodes ≡ trees → nodes ≡ postfixes trees
nodes_of_all nodes trees are view =
    are.1 ∙ ap postfixes (sym (trees_of-postfixes are.0)
    ∙ ap (λ all. trees_of [] all) (sym are.1) ∙ view)

pub trees_from_nodes : (nodes : List Node) (trees : List Tree) → nodes ≡ postfixes trees →
    trees_of [] nodes ≡ trees
trees_from_nodes nodes trees e = ap (λ all. trees_of [] all) e ∙ trees_of-postfixes trees

pub top_is : (trees : List Tree) → 0 < length trees → trees ≡ first_of trees ∷ drop 1 trees
top_is [] some = absurd (omega arith)
top_is (tree ∷ trees) some = refl

-- one more, of one node
pub leaf_nodes : (trees : List Tree) (nodes new : List Node) (node : Node) → IsLeaf node →
    nodes ≡ postfixes trees → new ≡ nodes ++ node ∷ [] →
    new ≡ postfixes (tree_of (node ∷ []) ∷ trees)
leaf_nodes trees nodes new (Number value) is e f = f ∙ ap (λ front. front ++ Number value ∷ []) e
leaf_nodes trees nodes new Own is e f = f ∙ ap (λ front. front ++ Own ∷ []) e
leaf_nodes trees nodes new (Loop nest) is e f = f ∙ ap (λ front. front ++ Loop nest ∷ []) e
leaf_nodes trees nodes new (Private x) is e f = f ∙ ap (λ front. front ++ Private x ∷ []) e
leaf_nodes trees nodes new (Place array) is e f = absurd is
leaf_nodes trees nodes new (Apply op) is e f = absurd is

-- the last one becomes a place
pub place_nodes : (trees : List Tree) (nodes new : List Node) (array : ℕ) → 0 < length trees →
    nodes ≡ postfixes trees → new ≡ nodes ++ Place array ∷ [] →
    new ≡ postfixes (place array (first_of trees) ∷ drop 1 trees)
place_nodes [] nodes new array some e f = absurd (omega arith)
place_nodes (index ∷ trees) nodes new array some e f =
    f ∙ ap (λ front. front ++ Place array ∷ []) e
    ∙ append_assoc (postfixes trees) (postfix index) (Place array ∷ [])

-- the last two become an operation
pub apply_nodes : (trees : List Tree) (nodes new : List Node) (op : Op) → 1 < length trees →
    nodes ≡ postfixes trees → new ≡ nodes ++ Apply op ∷ [] →
    new ≡ postfixes (apply op (first_of (drop 1 trees)) (first_of trees) ∷ drop 2 trees)
apply_nodes [] nodes new op two e f = absurd (omega arith)
apply_nodes (second ∷ []) nodes new op two e f = absurd (omega arith)
apply_nodes (second ∷ first ∷ trees) nodes new op two e f =
    f ∙ ap (λ front. front ++ Apply op ∷ []) e
    ∙ append_assoc (postfixes trees ++ postfix first) (postfix second) (Apply op ∷ [])
    ∙ append_assoc (postfixes trees) (postfix first) (postfix second ++ Apply op ∷ [])

-- the only one
pub only_one : (trees : List Tree) (nodes : List Node) → nodes ≡ postfixes trees →
    length trees ≡ 1 → IsPostfix nodes
only_one [] nodes e one = absurd (omega arith)
only_one (tree ∷ []) nodes e one = (tree, e)
only_one (tree ∷ other ∷ trees) nodes e one = absurd (omega arith)

-- ---- the last one, if it is a number

pub number_on_top : (trees : List Tree) (front : List Node) (value : ℕ) →
    postfixes trees ≡ front ++ Number value ∷ [] →
    (rest : List Tree) × (trees ≡ number value ∷ rest) × (front ≡ postfixes rest)
number_on_top [] front value e =
    absurd (let few : 0 ≡ length (front ++ Number value ∷ []) = ap length e in
    omega (arith, length-append front (Number value ∷ [])))
number_on_top (number k ∷ rest) front value e =
    let both = same_from_push (postfixes rest) front (Number k) (Number value) e in
    let node : Number k ≡ Number value = both.1 in
    let same : k ≡ value = cc in
    (rest, ap (λ v. number v ∷ rest) same, sym both.0)
number_on_top (own ∷ rest) front value e =
    absurd (let node : Own ≡ Number value =
    (same_from_push (postfixes rest) front Own (Number value) e).1 in cc)
number_on_top (loop nest ∷ rest) front value e =
    absurd (let node : Loop nest ≡ Number value =
    (same_from_push (postfixes rest) front (Loop nest) (Number value) e).1 in cc)
number_on_top (private x ∷ rest) front value e =
    absurd (let node : Private x ≡ Number value =
    (same_from_push (postfixes rest) front (Private x) (Number value) e).1 in cc)
number_on_top (place array index ∷ rest) front value e =
    absurd (let node : Place array ≡ Number value =
    (same_from_push (postfixes rest ++ postfix index) front (Place array) (Number value)
    (append_assoc (postfixes rest) (postfix index) (Place array ∷ []) ∙ e)).1 in cc)
number_on_top (apply op first second ∷ rest) front value e =
    absurd (let node : Apply op ≡ Number value =
    (same_from_push ((postfixes rest ++ postfix first) ++ postfix second) front (Apply op)
    (Number value)
    (append_assoc (postfixes rest ++ postfix first) (postfix second) (Apply op ∷ [])
    ∙ append_assoc (postfixes rest) (postfix first) (postfix second ++ Apply op ∷ []) ∙ e)).1
    in cc)

no_number_on_top : (trees : List Tree) (nodes : List Node) → nodes ≡ postfixes trees →
    IsLastNumber nodes None → None ≡ constant_of (first_of trees)
no_number_on_top [] nodes e none = refl
no_number_on_top (number k ∷ rest) nodes e none = absurd (none (postfixes rest) k e)
no_number_on_top (own ∷ rest) nodes e none = refl
no_number_on_top (loop nest ∷ rest) nodes e none = refl
no_number_on_top (private x ∷ rest) nodes e none = refl
no_number_on_top (place array index ∷ rest) nodes e none = refl
no_number_on_top (apply op first second ∷ rest) nodes e none = refl

pub top_constant : (trees : List Tree) (nodes : List Node) (found : Option ℕ) →
    nodes ≡ postfixes trees → IsLastNumber nodes found → found ≡ constant_of (first_of trees)
top_constant trees nodes None e none = no_number_on_top trees nodes e none
top_constant trees nodes (Some value) e is =
    sym (ap (λ all. constant_of (first_of all))
    (number_on_top trees is.0 value (sym e ∙ is.1)).1)

pub some_nodes : (nodes front : List Node) (node : Node) (n : ℕ) → nodes ≡ front ++ node ∷ [] →
    length nodes ≡ n → 0 < n
some_nodes nodes front node n e f =
    let more : length nodes ≡ length (front ++ node ∷ []) = ap length e in
    omega (arith, length-append front (node ∷ []))

-- what is left where the last node, a number, was taken
pub left_below : (trees : List Tree) (nodes left : List Node) (value : ℕ)
    (taken : Option Node) → nodes ≡ postfixes trees → IsLastNumber nodes (Some value) →
    nodes ≡ left ++ option_to_list taken → IsSome taken →
    (rest : List Tree) × (trees ≡ number value ∷ rest) × (left ≡ postfixes rest)
left_below trees nodes left value None e is f some = absurd (cc some)
left_below trees nodes left value (Some node) e is f some =
    let top = number_on_top trees is.0 value (sym e ∙ is.1) in
    let same : left ≡ is.0 =
    (same_from_push left is.0 node (Number value) (sym f ∙ is.1)).0 in
    (top.0, top.1, same ∙ top.2)
