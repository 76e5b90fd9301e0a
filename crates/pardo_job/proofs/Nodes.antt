-- The code of an expression is that of its nodes.
use Rattle.std.proofs.Common.{◌≡◌, ℕ, ◌+◌, subst, ◌&&◌, List, [], ◌∷◌, ◌++◌, refl, sym, ap, ◌∙◌}
use Rattle.std.proofs.Common.{append_assoc, append-nil, arith}
use Rattle.std.proofs.lemmas.List.Sums.{sum_by-cons}
use Rattle.pram_job.specs.declared.instr.Instr.{Instr}
use Rattle.pram_job.specs.declared.instr.Instr.TheVariants.{Ld}
use Rattle.pram_job.specs.declared.instr.Place.TheVariants.{Named}
use Rattle.pardo_program.specs.declared.expression.Node.{Node}
use Rattle.pardo_program.specs.declared.expression.Node.TheVariants.{Place, Apply}
use Rattle.pardo_program.specs.Expression.{Tree, number, own, loop, private, place, apply, postfix}
use Rattle.pardo_flat.specs.Layouts.{ProgramLayoutData, array_cells}
use Rattle.pardo_job.specs.Operations.{operation_code}
use Rattle.pardo_job.specs.Values.{value_code, value_operand, takes, is_truth}
use Rattle.pardo_job.specs.Inner.Nodes.{free_after, nodes_code, AreReadyNodes}
use Rattle.pardo_job.specs.Lawful.{IsLawfulTree}

-- one expression more takes its registers
free_one : (base : ℕ) (tree : Tree) (trees : List Tree) →
    free_after base (tree ∷ trees) ≡ free_after base trees + takes tree
free_one base tree trees = omega (arith, sum_by-cons takes tree trees)

pub code_of_nodes : (layout : ProgramLayoutData) (base : ℕ) (tree : Tree) (trees : List Tree)
    (nodes : List Node) →
    nodes_code layout base trees (postfix tree ++ nodes)
    ≡ value_code layout (free_after base trees) tree ++ nodes_code layout base (tree ∷ trees) nodes
code_of_nodes layout base (number k) trees nodes = refl
code_of_nodes layout base own trees nodes = refl
code_of_nodes layout base (loop nest) trees nodes = refl
code_of_nodes layout base (private x) trees nodes = refl
code_of_nodes layout base (place array index) trees nodes =
    let at : ℕ = free_after base trees in
    let load : Instr = Ld at (Named (array_cells layout array) (value_operand at index)) in
    ap (nodes_code layout base trees) (append_assoc (postfix index) (Place array ∷ []) nodes)
    ∙ code_of_nodes layout base index trees (Place array ∷ nodes)
    ∙ sym (append_assoc (value_code layout at index) (load ∷ [])
    (nodes_code layout base (place array index ∷ trees) nodes))
code_of_nodes layout base (apply op first second) trees nodes =
    let at : ℕ = free_after base trees in
    let up : ℕ = at + takes first in
    let front : List Instr = value_code layout at first in
    let middle : List Instr = value_code layout up second in
    let back : List Instr = operation_code at op (is_truth first && is_truth second)
    (value_operand at first) (value_operand up second) in
    let rest : List Instr = nodes_code layout base (apply op first second ∷ trees) nodes in
    let is_up : free_after base (first ∷ trees) ≡ up = free_one base first trees in
    ap (nodes_code layout base trees)
    (append_assoc (postfix first) (postfix second ++ Apply op ∷ []) nodes)
    ∙ code_of_nodes layout base first trees ((postfix second ++ Apply op ∷ []) ++ nodes)
    ∙ ap (λ l. front ++ l) (ap (nodes_code layout base (first ∷ trees))
    (append_assoc (postfix second) (Apply op ∷ []) nodes)
    ∙ code_of_nodes layout base second (first ∷ trees) (Apply op ∷ nodes)
    ∙ ap (λ x. value_code layout x second ++ (back ++ rest)) is_up)
    ∙ (ap (λ l. front ++ l) (sym (append_assoc middle back rest))
    ∙ sym (append_assoc front (middle ++ back) rest))

-- the whole of an expression
pub code_of_postfix : (layout : ProgramLayoutData) (base : ℕ) (tree : Tree) →
    nodes_code layout base [] (postfix tree) ≡ value_code layout base tree
code_of_postfix layout base tree =
    ap (nodes_code layout base []) (sym (append-nil (postfix tree)))
    ∙ code_of_nodes layout base tree [] []
    ∙ append-nil (value_code layout (free_after base []) tree)
    ∙ ap (λ at. value_code layout at tree) (let e : base + 0 ≡ base = omega arith in e)

-- the nodes of a lawful expression find their operands
pub nodes_are_ready : (layout : ProgramLayoutData) (tree : Tree) (trees : List Tree)
    (nodes : List Node) →
    IsLawfulTree layout tree → AreReadyNodes layout (tree ∷ trees) nodes →
    AreReadyNodes layout trees (postfix tree ++ nodes)
nodes_are_ready layout (number k) trees nodes is rest = (tt, rest)
nodes_are_ready layout own trees nodes is rest = (tt, rest)
nodes_are_ready layout (loop nest) trees nodes is rest = (is, rest)
nodes_are_ready layout (private x) trees nodes is rest = (is, rest)
nodes_are_ready layout (place array index) trees nodes is rest =
    subst (AreReadyNodes layout trees) (sym (append_assoc (postfix index) (Place array ∷ []) nodes))
    (nodes_are_ready layout index trees (Place array ∷ nodes) is.1 (is.0, rest))
nodes_are_ready layout (apply op first second) trees nodes is rest =
    subst (AreReadyNodes layout trees) (sym
    (append_assoc (postfix first) (postfix second ++ Apply op ∷ []) nodes))
    (nodes_are_ready layout first trees ((postfix second ++ Apply op ∷ []) ++ nodes) is.0
    (subst (AreReadyNodes layout (first ∷ trees))
    (sym (append_assoc (postfix second) (Apply op ∷ []) nodes))
    (nodes_are_ready layout second (first ∷ trees) (Apply op ∷ nodes) is.1 (tt, rest))))

pub all_nodes_ready : (layout : ProgramLayoutData) (tree : Tree) → IsLawfulTree layout tree →
    AreReadyNodes layout [] (postfix tree)
all_nodes_ready layout tree is =
    subst (AreReadyNodes layout []) (append-nil (postfix tree))
    (nodes_are_ready layout tree [] [] is refl)
