-- The code of an expression, node after node.
use Rattle.std.proofs.Common.{◌≡◌, ℕ, ◌+◌, ◌<◌, ◌≤◌, true, List, [], ◌∷◌, ◌++◌, length, drop}
use Rattle.std.proofs.Common.{get_or, Ok, Err}
use Rattle.std.proofs.Common.{refl, sym, ap, subst, ◌∙◌, append_assoc, append-nil, arith, Result}
use Rattle.std.proofs.lemmas.List.{at_drop_all, drop_more}
use Rattle.pram_job.specs.declared.instr.Instr.{Instr}
use Rattle.pardo_program.specs.declared.expression.Node.{Node}
use Rattle.pardo_program.specs.Expression.{Tree, postfix, trees_of, trees_of-postfix, with_node}
use Rattle.pardo_flat.specs.Layouts.{ProgramLayoutData}
use Rattle.pardo_job.specs.declared.fault.JobKind.{JobKind}
use Rattle.pardo_job.specs.declared.held.Held.{Held}
use Rattle.pardo_job.specs.declared.held.Stack.{Stack}
use Rattle.pardo_job.specs.Lawful.{IsLawfulTree}
use Rattle.pardo_job.specs.Operations.{is_shallow, taken_by}
use Rattle.pardo_job.specs.Values.{takes, value_code}
use Rattle.pardo_job.specs.Inner.Emitting.{IsCodeFault, PutsCode}
use Rattle.pardo_job.specs.Inner.Nodes.{AreReadyNodes, CanTake, HoldsValues, Takes, free_after}
use Rattle.pardo_job.specs.Inner.Nodes.{held_of}
use Rattle.pardo_job.specs.Inner.Nodes.{node_code, nodes_code}
use Rattle.pardo_job.proofs.Emitting.{fault_back, fault_front, shallow_both}
use Rattle.pardo_job.proofs.Holding.{held_less, taken_of}
use Rattle.pardo_job.proofs.Nodes.{all_nodes_ready, code_of_postfix}
use Rattle.std.proofs.Common.{◌&&◌}

-- the code of the first k nodes is put, and these expressions are at hand
pub record PutSoFar (layout : ProgramLayoutData) (at : ℕ) (nodes : List Node) (k : ℕ)
    (old now : List Instr)
    (stack : Stack) : Type 0 where
  pub trees : List Tree
  pub front : List Instr
  pub holds : HoldsValues stack [] at trees
  pub ready : AreReadyNodes layout trees (drop k nodes)
  pub leads : trees_of trees (drop k nodes) ≡ trees_of [] nodes
  pub code : now ≡ old ++ front
  pub shallow : is_shallow front ≡ true
  pub whole : front ++ nodes_code layout at trees (drop k nodes) ≡ nodes_code layout at [] nodes

pub put_none : (layout : ProgramLayoutData) (at : ℕ) (tree : Tree) (nodes : List Node)
    (old now : List Instr) (stack : Stack) →
    nodes ≡ postfix tree → IsLawfulTree layout tree → now ≡ old → stack.values.items ≡ [] →
    stack.taken
    ≡ at →
    PutSoFar layout at nodes 0 old now stack
put_none layout at tree nodes old now stack e lawful same values taken = record {
  trees = [];
  front = [];
  holds = record { values = values; taken = omega (arith, taken) };
  ready = subst (AreReadyNodes layout []) (sym e) (all_nodes_ready layout tree lawful);
  leads = refl;
  code = same ∙ sym (append-nil old);
  shallow = refl;
  whole = refl;
}

pub can_take : (layout : ProgramLayoutData) (at : ℕ) (nodes : List Node) (k : ℕ)
    (old now : List Instr)
    (stack : Stack)
    (d : Node) → k < length nodes → PutSoFar layout at nodes k old now stack →
    CanTake stack layout (get_or nodes k d)
can_take layout at nodes k old now stack d lt s =
    let ready : AreReadyNodes layout s.trees (get_or nodes k d ∷ drop (k + 1) nodes) =
    subst (AreReadyNodes layout s.trees) (drop_more nodes k d lt) s.ready in record {
      before = [];
      base = at;
      trees = s.trees;
      holds = s.holds;
      ready = ready.0;
    }

-- one node more
pub put_more : {A : Type 0} (layout : ProgramLayoutData) (at : ℕ) (nodes : List Node) (k : ℕ)
    (old now new : List Instr) (stack after : Stack)
    (d : Node) (x : A) → k < length nodes →
    Takes stack now new after (Ok x) layout (get_or nodes k d) →
    PutSoFar layout at nodes k old now stack → PutSoFar layout at nodes (k + 1) old new after
put_more layout at nodes k old now new stack after d x lt take s =
    let node : Node = get_or nodes k d in
    let e : drop k nodes ≡ node ∷ drop (k + 1) nodes = drop_more nodes k d lt in
    let rest : List Node = drop (k + 1) nodes in
    let ready : AreReadyNodes layout s.trees (node ∷ rest) =
    subst (AreReadyNodes layout s.trees) e s.ready in
    let one = take [] at s.trees s.holds ready.0 in
    let code : List Instr = node_code layout at s.trees node in
    let trees : List Tree = with_node s.trees node in record {
      trees = trees;
      front = s.front ++ code;
      holds = one.held;
      ready = ready.1;
      leads = sym (ap (trees_of s.trees) e) ∙ s.leads;
      code = one.put.all ∙ ap (λ (l : List Instr). l ++ code) s.code ∙
          append_assoc old s.front code;
      shallow = shallow_both s.front code ∙ ap (λ t. t && is_shallow code) s.shallow ∙
          one.put.shallow;
      whole = append_assoc s.front code (nodes_code layout at trees rest)
          ∙ sym (ap (λ (l : List Node). s.front ++ nodes_code layout at s.trees l) e) ∙ s.whole;
    }

-- a node that is at fault
pub put_fails : {A B : Type 0} (layout : ProgramLayoutData) (at : ℕ) (tree : Tree)
    (nodes : List Node)
    (k : ℕ) (old now new : List Instr)
    (stack after : Stack) (d : Node) (kind : JobKind) → nodes ≡ postfix tree → k < length nodes →
    Takes {A = A} stack now new after (Err kind) layout (get_or nodes k d) →
    PutSoFar layout at nodes k old now stack → (r : Result B JobKind) → r ≡ Err kind →
    PutsCode old new r (value_code layout at tree)
put_fails {B = B} layout at tree nodes k old now new stack after d kind is_postfix lt take s r
    failed =
    let node : Node = get_or nodes k d in
    let e : drop k nodes ≡ node ∷ drop (k + 1) nodes = drop_more nodes k d lt in
    let rest : List Node = drop (k + 1) nodes in
    let ready : AreReadyNodes layout s.trees (node ∷ rest) =
    subst (AreReadyNodes layout s.trees) e s.ready in
    let one = take [] at s.trees s.holds ready.0 in
    let code : List Instr = node_code layout at s.trees node in
    let back : List Instr = nodes_code layout at (with_node s.trees node) rest in
    let whole : s.front ++ (code ++ back) ≡ value_code layout at tree =
    sym (ap (λ (l : List Node). s.front ++ nodes_code layout at s.trees l) e) ∙ s.whole
    ∙ ap (nodes_code layout at []) is_postfix ∙ code_of_postfix layout at tree in
    subst (λ (q : Result B JobKind). PutsCode old new q (value_code layout at tree)) (sym failed)
    (record {
      all = tt;
      shallow = tt;
      fault = subst (λ (l : List Instr). IsCodeFault l kind) whole
          (fault_back s.front (code ++ back) kind s.shallow
          (fault_front code back kind one.put.fault));
    })

-- all nodes
pub record PutAll (layout : ProgramLayoutData) (at : ℕ) (tree : Tree) (old now : List Instr)
    (stack : Stack) : Type 0 where
  pub holds : HoldsValues stack [] at (tree ∷ [])
  pub code : now ≡ old ++ value_code layout at tree
  pub shallow : is_shallow (value_code layout at tree) ≡ true

pub put_all : (layout : ProgramLayoutData) (at : ℕ) (tree : Tree) (nodes : List Node) (k : ℕ)
    (old now : List Instr) (stack : Stack) →
    nodes ≡ postfix tree → length nodes ≤ k → PutSoFar layout at nodes k old now stack →
    PutAll layout at tree old now stack
put_all layout at tree nodes k old now stack is_postfix le s =
    let one : s.trees ≡ tree ∷ [] =
    sym (at_drop_all (trees_of s.trees) nodes k le) ∙ s.leads ∙
    ap (trees_of []) (is_postfix ∙ sym (append-nil (postfix tree)))
    ∙ trees_of-postfix tree [] [] in
    let whole : s.front ≡ value_code layout at tree =
    sym (append-nil s.front) ∙ sym (at_drop_all
    (λ (l : List Node). s.front ++ nodes_code layout at s.trees l) nodes k le) ∙ s.whole
    ∙ ap (nodes_code layout at []) is_postfix ∙ code_of_postfix layout at tree in record {
      holds = subst (HoldsValues stack [] at) one s.holds;
      code = s.code ∙ ap (λ (l : List Instr). old ++ l) whole;
      shallow = subst (λ (l : List Instr). is_shallow l ≡ true) whole s.shallow;
    }

-- the value is the one at hand
pub record Taken (x : Held) (at : ℕ) (tree : Tree) : Type 0 where
  pub is : x ≡ held_of at tree
  pub takes_as : taken_by x.operand ≡ takes tree

pub value_taken : (s t : Stack) (x : Held) (at : ℕ) (tree : Tree) → s.taken ≤ 3 →
    HoldsValues s [] at (tree ∷ []) →
    s.values.items ≡ t.values.items ++ x ∷ [] → s.taken ≡ t.taken + taken_by x.operand →
    Taken x at tree
value_taken s t x at tree few h e f =
    let base : free_after at [] ≡ at = let g : at + 0 ≡ at = omega arith in g in
    let less = held_less s t x [] at tree [] few h e f in
    let is : x ≡ held_of at tree = less.is ∙ ap (λ (n : ℕ). held_of n tree) base in
    let room : at + takes tree ≤ 3 = omega (arith, h.taken, few) in record {
      is = is;
      takes_as = ap (λ (y : Held). taken_by y.operand) is ∙ taken_of at tree room;
    }

pub is_there : (s : Stack) (at : ℕ) (tree : Tree) → HoldsValues s [] at (tree ∷ []) →
    0 < length s.values.items
is_there s at tree h = omega (arith, ap (λ (l : List Held). length l) h.values)

-- ---- code that is dropped

puts_after : {A : Type 0} (made now new : List Instr) (r : Result A JobKind) (code : List Instr) →
    now ≡ [] → PutsCode now new r code → PutsCode made (made ++ new) r code
puts_after made now new (Ok x) code e p = record {
  all = ap (λ (l : List Instr). made ++ l) (p.all ∙ ap (λ (l : List Instr). l ++ code) e);
  shallow = p.shallow;
  fault = p.fault;
}
puts_after made now new (Err k) code e p =
    record { all = tt; shallow = tt; fault = p.fault }

-- what a node puts in the place of nothing, after all that was made before
pub takes_after : {A : Type 0} (was : Stack) (made now new : List Instr) (stack : Stack)
    (r : Result A JobKind) (layout : ProgramLayoutData) (node : Node) → now ≡ [] →
    Takes was now new stack r layout node → Takes was made (made ++ new) stack r layout node
takes_after was made now new stack r layout node e take = λ before base trees h ready.
    let one = take before base trees h ready in record {
      put = puts_after made now new r (node_code layout base trees node) e one.put;
      held = one.held;
    }
