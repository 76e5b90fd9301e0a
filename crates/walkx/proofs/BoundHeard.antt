-- What words answer whose nodes only rise may be heard.
use Rattle.std.proofs.Common.{ℕ, ◌*◌, ◌<◌, ◌≤◌, List, [], ◌∷◌, length, get_or}
use Rattle.std.proofs.Common.{refl, sym, subst, inl, inr, get_or-set_same, arith}
use Rattle.std.proofs.lemmas.Bool.{cases_eq, eq-eqb, ne_eqb}
use Rattle.pram_job.specs.Job.{JobData}
use Rattle.pram_words.specs.Words.{LayoutData, number_of}
use Rattle.pram_words.specs.declared.words.Word.TheVariants.{Node, Position}
use Rattle.walkx.specs.declared.operation.Op.{Op}
use Rattle.walkx.specs.declared.operation.Op.TheVariants.{Load, Store, Max, Swap, Over}
use Rattle.walkx.specs.Operations.{answer, words_after}
use Rattle.walkx.specs.Bound.{low, MayHear}

-- what words hold of a node
abbrev pub node_in : LayoutData → List ℕ → ℕ → ℕ
node_in y words n = get_or words (number_of y (Node n)) 0

-- no node of these words is lower in the later ones
abbrev pub NodesRise : LayoutData → List ℕ → List ℕ → Type 0
NodesRise y words later = (n : ℕ) → 1 ≤ n → n < 2 * y.leaves → node_in y words n ≤ node_in y later n

-- the history shows of no node more than these words have
abbrev pub IsShownBelow : LayoutData → List ℕ → List (Op × ℕ) → Type 0
IsShownBelow y words history =
    (n : ℕ) → 1 ≤ n → n < 2 * y.leaves → low history (number_of y (Node n)) ≤ node_in y words n

pub shown_below_none : (y : LayoutData) (words : List ℕ) → IsShownBelow y words []
shown_below_none y words = λ n some inside. omega arith

-- it stays so while nodes rise
pub shown_below_later : (y : LayoutData) (words later : List ℕ) (history : List (Op × ℕ)) →
    NodesRise y words later → IsShownBelow y words history → IsShownBelow y later history
shown_below_later y words later history rise below = λ n some inside.
    let a = rise n some inside in
    let b = below n some inside in
    omega arith

-- then the words' answer may be heard, if the root is within the phases and the position is a node
pub may_hear : (job : JobData) (y : LayoutData) (w : ℕ)
    (words : List ℕ) (history : List (Op × ℕ)) (op : Op) → IsShownBelow y words history →
    node_in y words 1 ≤ 3 * job.steps → (1 ≤ get_or words (number_of y (Position w)) 0)
    × (get_or words (number_of y (Position w)) 0 < 2 * y.leaves) →
    MayHear job y w history op (answer words op)
may_hear job y w words history (Load k) below root position = record {
  rises = λ n some inside e.
      subst (λ (j : ℕ). low history j ≤ get_or words j 0) (sym e) (below n some inside);
  root = λ e. subst (λ (j : ℕ). get_or words j 0 ≤ 3 * job.steps) (sym e) root;
  position = λ e. subst (λ (j : ℕ). (1 ≤ get_or words j 0) × (get_or words j 0 < 2 * y.leaves))
      (sym e) position;
}
may_hear job y w words history (Store k value) below root position = tt
may_hear job y w words history (Max k value) below root position = tt
may_hear job y w words history (Swap k old new) below root position = tt
may_hear job y w words history (Over e) below root position = tt

-- and the history with it shows no more than the words have after the operation
pub shown_below_more : (y : LayoutData) (words : List ℕ) (history : List (Op × ℕ)) (op : Op) →
    ((n : ℕ) → 1 ≤ n → n < 2 * y.leaves → number_of y (Node n) < length words) →
    NodesRise y words (words_after words op) → IsShownBelow y words history →
    IsShownBelow y (words_after words op) ((op, answer words op) ∷ history)
shown_below_more y words history (Load j) len rise below = λ n some inside.
    let b = below n some inside in
    let k = number_of y (Node n) in
    elim (cases_eq j k) [
      | inl e ↦ rw (e, eq-eqb k k refl) (omega arith)
      | inr e ↦ rw (ne_eqb j k e) (omega arith)
    ]
shown_below_more y words history (Max j value) len rise below = λ n some inside.
    let a = rise n some inside in
    let b = below n some inside in
    let k = number_of y (Node n) in
    let lt : k < length words = len n some inside in
    elim (cases_eq j k) [
      | inl e ↦ rw (e, eq-eqb k k refl, get_or-set_same) (omega arith)
      | inr e ↦ rw (ne_eqb j k e) (omega arith)
    ]
shown_below_more y words history (Store j value) len rise below = λ n some inside.
    let a = rise n some inside in
    let b = below n some inside in omega arith
shown_below_more y words history (Swap j old new) len rise below = λ n some inside.
    let a = rise n some inside in
    let b = below n some inside in omega arith
shown_below_more y words history (Over e) len rise below = λ n some inside.
    let a = rise n some inside in
    let b = below n some inside in omega arith
