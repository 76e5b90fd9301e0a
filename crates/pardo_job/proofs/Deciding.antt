-- Straight pieces of lines.
use Rattle.std.proofs.Common.{◌≡◌, ℕ, ◌==◌, Bool, true, false, not, List, [], ◌++◌, Option, Some}
use Rattle.std.proofs.Common.{None}
use Rattle.std.proofs.Common.{refl, sym, ap, ◌∙◌, inl, inr, if◌then◌else◌, append-nil}
use Rattle.std.specs.Option.{option_and_then}
use Rattle.pram_job.specs.declared.instr.Instr.{Instr}
use Rattle.pram_job.specs.declared.instr.Operand.TheVariants.{Register, Number}
use Rattle.pardo_program.specs.declared.operation.Op.TheVariants as op
use Rattle.pardo_program.specs.Expression.{Tree, number, own, loop, private, place, apply}
use Rattle.pardo_program.specs.Operations.{bit, operation_value}
use Rattle.pardo_flat.specs.Layouts.{ProgramLayoutData}
use Rattle.pardo_job.specs.Leaves.{Decides, DecidesTo, ConditionsDecide}
use Rattle.pardo_job.specs.Lines.{condition_code}
use Rattle.pardo_job.specs.Meaning.{value}
use Rattle.pardo_job.specs.Operations.{native, is_shallow}
use Rattle.pardo_job.specs.Straight.{Registers, operand_value, after_all, Computes}
use Rattle.pardo_job.specs.Values.{value_code, value_operand, is_truth}
use Rattle.pardo_job.proofs.Straight.{after_front, after_append}
use Rattle.pardo_job.proofs.Shallow.{shallow_front, shallow_back}
use Rattle.pardo_job.proofs.Operating.{IsApart, computes_native}
use Rattle.pardo_job.proofs.Applying.{IsTruth}
use Rattle.pardo_job.proofs.Evaluating.{Evaluated, EvaluatesTo, evaluates}

-- ---- conditions

-- a value tested twice for 0
bit_of_value : (v : ℕ) → bit (bit (v == 0) == 0) ≡ bit (not (v == 0))
bit_of_value v = elim (v == 0) as (λ t. bit (bit t == 0) ≡ bit (not t))
    [ true ↦ refl | false ↦ refl ]

truth_of_value : (v : ℕ) → IsTruth v → v ≡ bit (not (v == 0))
truth_of_value v (inl none) = none ∙ sym (ap (λ x. bit (not (x == 0))) none)
truth_of_value v (inr one) = one ∙ sym (ap (λ x. bit (not (x == 0))) one)

-- an expression that is a truth is computed
truth_operand : (tree : Tree) → is_truth tree ≡ true → value_operand 0 tree ≡ Register 0
truth_operand (number k) e = absurd (let wrong : false ≡ true = e in cc)
truth_operand own e = absurd (let wrong : false ≡ true = e in cc)
truth_operand (loop nest) e = refl
truth_operand (private x) e = refl
truth_operand (place array index) e = refl
truth_operand (apply op first second) e = refl

abbrev twice : Tree → List Instr
twice tree = native 0 op.Eq (value_operand 0 tree) (Number 0)
    ++ native 0 op.Eq (Register 0) (Number 0)

zero_apart : (tree : Tree) → IsApart 0 (Number 0) (value_operand 0 tree)
zero_apart (number k) = tt
zero_apart own = inr refl
zero_apart (loop nest) = inl refl
zero_apart (private x) = inl refl
zero_apart (place array index) = inl refl
zero_apart (apply op first second) = inl refl

tree_apart : (tree : Tree) → IsApart 0 (value_operand 0 tree) (Number 0)
tree_apart (number k) = tt
tree_apart own = tt
tree_apart (loop nest) = tt
tree_apart (private x) = tt
tree_apart (place array index) = tt
tree_apart (apply op first second) = tt

equals_zero : (v : ℕ) → operation_value op.Eq v 0 ≡ bit (v == 0)
unfolding operation_value
equals_zero v = refl

tested_twice : (memory : ℕ → ℕ) (i v : ℕ) (tree : Tree) (held : Registers) →
    operand_value held (value_operand 0 tree) ≡ v → is_shallow (twice tree) ≡ true →
    Decides memory i held (twice tree) v
tested_twice memory i v tree held e shallow =
    let front : List Instr = native 0 op.Eq (value_operand 0 tree) (Number 0) in
    let back : List Instr = native 0 op.Eq (Register 0) (Number 0) in
    let c : Computes memory i held 0 front (operation_value op.Eq v 0) =
    computes_native memory i 0 v 0 (value_operand 0 tree) (Number 0) held op.Eq tt (tree_apart tree)
    (zero_apart tree) e refl (shallow_front front back shallow) in
    let d : Computes memory i c.now 0 back (operation_value op.Eq (operation_value op.Eq v 0) 0) =
    computes_native memory i 0 (operation_value op.Eq v 0) 0 (Register 0) (Number 0) c.now op.Eq tt
    tt
    (inl refl) c.gives refl (shallow_back front back shallow) in
    record {
      now = d.now;
      runs = after_front memory i front back held c.now c.runs ∙ d.runs;
      gives = d.gives ∙ equals_zero (operation_value op.Eq v 0)
          ∙ ap (λ x. bit (x == 0)) (equals_zero v) ∙
          bit_of_value v;
      keeps = d.keeps 3 (inr refl) ∙ c.keeps 3 (inr refl);
    }

-- the code after the value, by whether that is a truth
decides_after : (memory : ℕ → ℕ) (i v : ℕ) (layout : ProgramLayoutData) (tree : Tree)
    (held : Registers)
    (t : Bool) →
    is_truth tree ≡ t → Evaluated memory i held layout 0 tree v →
    is_shallow (value_code layout 0 tree ++ (if t then [] else twice tree)) ≡ true →
    Decides memory i held (value_code layout 0 tree ++ (if t then [] else twice tree)) v
decides_after memory i v layout tree held true is c shallow = record {
  now = c.now;
  runs = ap (λ code. after_all memory i code held) (append-nil (value_code layout 0 tree)) ∙ c.runs;
  gives = sym (ap (operand_value c.now) (truth_operand tree is)) ∙ c.gives ∙
      truth_of_value v (c.truth is);
  keeps = c.keeps 3 (inr refl);
}
decides_after memory i v layout tree held false is c shallow =
    let d : Decides memory i c.now (twice tree) v = tested_twice memory i v tree c.now c.gives
    (shallow_back (value_code layout 0 tree) (twice tree) shallow) in
    record {
      now = d.now;
      runs = after_front memory i (value_code layout 0 tree) (twice tree) held c.now c.runs ∙
          d.runs;
      gives = d.gives;
      keeps = d.keeps ∙ c.keeps 3 (inr refl);
    }

condition_from : (memory : ℕ → ℕ) (i : ℕ) (layout : ProgramLayoutData) (tree : Tree)
    (held : Registers)
    (v : Option ℕ) →
    EvaluatesTo memory i held layout 0 tree v → is_shallow (condition_code layout tree) ≡ true →
    DecidesTo memory i held (condition_code layout tree) v
unfolding condition_code
condition_from memory i layout tree held None e shallow =
    after_append memory i (value_code layout 0 tree) (if is_truth tree then [] else twice tree) held
    ∙ ap (option_and_then (after_all memory i (if is_truth tree then [] else twice tree))) e
condition_from memory i layout tree held (Some v) c shallow =
    decides_after memory i v layout tree held (is_truth tree) refl c shallow

condition_front : (layout : ProgramLayoutData) (tree : Tree) →
    is_shallow (condition_code layout tree) ≡
    true →
    is_shallow (value_code layout 0 tree) ≡ true
unfolding condition_code
condition_front layout tree shallow =
    shallow_front (value_code layout 0 tree) (if is_truth tree then [] else twice tree) shallow

-- The code of a condition decides it.
pub conditions_decide : ConditionsDecide
conditions_decide program layout source memory i tree held sees own_i is shallow =
    condition_from memory i layout tree held (value program source i tree)
    (evaluates program layout source memory i sees tree 0 held own_i is
    (condition_front layout tree shallow)) shallow
