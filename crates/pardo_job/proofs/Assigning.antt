-- Straight pieces of lines that work on two expressions, or on one in a register.
use Rattle.std.proofs.Common.{◌≡◌, ℕ, ◌+◌, Bool, true, false, List, [], ◌++◌, Option, Some, None}
use Rattle.std.proofs.Common.{refl, sym, ap, ◌∙◌, subst, inl, inr, arith, if◌then◌else◌, append-nil}
use Rattle.std.proofs.Common.{append_assoc}
use Rattle.pram_job.specs.declared.instr.Instr.{Instr}
use Rattle.pram_job.specs.declared.instr.Operand.{Operand}
use Rattle.pram_job.specs.declared.instr.Operand.TheVariants.{Register}
use Rattle.pardo_program.specs.declared.operation.Op.{Op}
use Rattle.pardo_program.specs.declared.operation.Op.TheVariants as op
use Rattle.pardo_program.specs.Expression.{Tree, number, own, loop, private, place, apply}
use Rattle.pardo_program.specs.Operations.{bit, operation_value}
use Rattle.pardo_program.specs.Program.{ProgramData}
use Rattle.pardo_flat.specs.Layouts.{ProgramLayoutData}
use Rattle.pardo_job.specs.Lawful.{IsLawfulTree}
use Rattle.pardo_job.specs.Lines.{none_code, while_code}
use Rattle.pardo_job.specs.Meaning.{Source, value, has_none}
use Rattle.pardo_job.specs.Operations.{native, is_shallow, taken_by, register_or_spare}
use Rattle.pardo_job.specs.Sees.{Sees}
use Rattle.pardo_job.specs.Straight.{Registers, put, operand_value, after_all, IsKept, Computes}
use Rattle.pardo_job.specs.Values.{value_code, value_operand, takes}
use Rattle.pardo_job.proofs.Straight.{after_front, put_same, put_other}
use Rattle.pardo_job.proofs.Shallow.{shallow_front, shallow_back}
use Rattle.pardo_job.proofs.Operating.{computes_native}
use Rattle.pardo_job.proofs.Choices.{IsAt}
use Rattle.pardo_job.proofs.Applying.{first_apart, second_apart}
use Rattle.pardo_job.proofs.Below.{value_below}
use Rattle.pardo_job.proofs.Evaluating.{Evaluated, EvaluatesTo, evaluates, none_after, operand_at}
use Rattle.pardo_job.proofs.Evaluating.{operand_taken}

-- ---- two expressions, one after the other

abbrev pub both_code : ProgramLayoutData → Tree → Tree → List Instr
both_code layout first second = value_code layout 0 first ++ value_code layout (takes first) second

-- both values are at hand, and the own number
pub record HasBoth (memory : ℕ → ℕ) (i : ℕ) (held : Registers) (layout : ProgramLayoutData)
    (first second : Tree) (a b : ℕ) : Type 0 where
  pub now : Registers
  pub runs : after_all memory i (both_code layout first second) held ≡ Some now
  pub first_is : operand_value now (value_operand 0 first) ≡ a
  pub second_is : operand_value now (value_operand (takes first) second) ≡ b
  pub keeps : now 3 ≡ held 3

-- none where one of the two has no value
abbrev pub BothTo : (ℕ → ℕ) → ℕ → Registers → ProgramLayoutData → Tree → Tree → Option ℕ →
    Option ℕ →
    Type 0
BothTo memory i held layout first second None b =
    after_all memory i (both_code layout first second) held ≡ None
BothTo memory i held layout first second (Some a) None =
    after_all memory i (both_code layout first second) held ≡ None
BothTo memory i held layout first second (Some a) (Some b) =
    HasBoth memory i held layout first second a b

first_stays : (tree : Tree) (held now : Registers) →
    ((which : ℕ) → IsKept (takes tree) which → now which ≡ held which) →
    operand_value now (value_operand 0 tree) ≡ operand_value held (value_operand 0 tree)
first_stays (number k) held now keeps = refl
first_stays own held now keeps = keeps 3 (inr refl)
first_stays (loop nest) held now keeps = keeps 0 (inl (omega arith))
first_stays (private x) held now keeps = keeps 0 (inl (omega arith))
first_stays (place array index) held now keeps = keeps 0 (inl (omega arith))
first_stays (apply op first second) held now keeps = keeps 0 (inl (omega arith))

both_from : (memory : ℕ → ℕ) (i : ℕ) (held : Registers) (layout : ProgramLayoutData)
    (first second : Tree)
    (a b : Option ℕ) → held 3 ≡ i → EvaluatesTo memory i held layout 0 first a →
    ((now : Registers) → now 3 ≡ i → EvaluatesTo memory i now layout (takes first) second b) →
    BothTo memory i held layout first second a b
both_from memory i held layout first second None b own_i c d =
    none_after memory i (value_code layout 0 first) (value_code layout (takes first) second) held c
both_from memory i held layout first second (Some a) None own_i c d =
    after_front memory i (value_code layout 0 first) (value_code layout (takes first) second) held
    c.now c.runs
    ∙ d c.now (c.keeps 3 (inr refl) ∙ own_i)
both_from memory i held layout first second (Some a) (Some b) own_i c d =
    let e : Evaluated memory i c.now layout (takes first) second b =
    d c.now (c.keeps 3 (inr refl) ∙ own_i) in
    record {
      now = e.now;
      runs = after_front memory i (value_code layout 0 first)
          (value_code layout (takes first) second) held c.now c.runs ∙ e.runs;
      first_is = first_stays first c.now e.now e.keeps ∙ c.gives;
      second_is = e.gives;
      keeps = e.keeps 3 (inr refl) ∙ c.keeps 3 (inr refl);
    }

-- The code of two expressions leaves both values: that of an assignment up to its store is such.
pub both_evaluate : (program : ProgramData) (layout : ProgramLayoutData) (source : Source)
    (memory : ℕ → ℕ)
    (i : ℕ) → Sees program layout source memory i → (first second : Tree) (held : Registers) →
    held 3 ≡ i → IsLawfulTree layout first → IsLawfulTree layout second →
    is_shallow (both_code layout first second) ≡ true →
    BothTo memory i held layout first second (value program source i first)
    (value program source i second)
both_evaluate program layout source memory i sees first second held own_i is is_too shallow =
    both_from memory i held layout first second (value program source i first)
    (value program source i second) own_i
    (evaluates program layout source memory i sees first 0 held own_i is
    (shallow_front (value_code layout 0 first) (value_code layout (takes first) second) shallow))
    (λ now now_i. evaluates program layout source memory i sees second (takes first) now now_i
    is_too
    (shallow_back (value_code layout 0 first) (value_code layout (takes first) second) shallow))

-- ---- the condition of a loop

-- a value in a register, and the own number kept
pub record HasIn (memory : ℕ → ℕ) (i : ℕ) (held : Registers) (code : List Instr) (register v : ℕ) :
    Type 0 where
  pub now : Registers
  pub runs : after_all memory i code held ≡ Some now
  pub gives : now register ≡ v
  pub keeps : now 3 ≡ held 3

ready : (memory : ℕ → ℕ) (i v register : ℕ) (layout : ProgramLayoutData) (tree : Tree)
    (held : Registers) →
    value_operand 0 tree ≡ Register register → Evaluated memory i held layout 0 tree v →
    HasIn memory i held (value_code layout 0 tree ++ []) register v
ready memory i v register layout tree held is c = record {
  now = c.now;
  runs = ap (λ code. after_all memory i code held) (append-nil (value_code layout 0 tree)) ∙ c.runs;
  gives = sym (ap (operand_value c.now) is) ∙ c.gives;
  keeps = c.keeps 3 (inr refl);
}

-- The code of a `while` leaves the value of its condition in the register that is tested.
pub while_evaluates : (memory : ℕ → ℕ) (i v : ℕ) (layout : ProgramLayoutData) (tree : Tree)
    (held : Registers) →
    Evaluated memory i held layout 0 tree v →
    HasIn memory i held (while_code layout tree) (register_or_spare 0 (value_operand 0 tree)) v
unfolding while_code
while_evaluates memory i v layout (number k) held c = record {
  now = put 0 k held;
  runs = refl;
  gives = put_same 0 k held ∙ c.gives;
  keeps = put_other 0 k 3 held (λ e. omega arith);
}
while_evaluates memory i v layout own held c = ready memory i v 3 layout own held refl c
while_evaluates memory i v layout (loop nest) held c =
    ready memory i v 0 layout (loop nest) held refl c
while_evaluates memory i v layout (private x) held c =
    ready memory i v 0 layout (private x) held refl c
while_evaluates memory i v layout (place array index) held c =
    ready memory i v 0 layout (place array index) held refl c
while_evaluates memory i v layout (apply op first second) held c =
    ready memory i v 0 layout (apply op first second) held refl c

-- ---- whether a `for` has no turn

abbrev order_of : Bool → Op
order_of up = if up then op.Gt else op.Lt

no_turn : (up : Bool) (a b : ℕ) → operation_value (order_of up) a b ≡ bit (has_none up a b)
unfolding operation_value
no_turn true a b = refl
no_turn false a b = refl

compares : (memory : ℕ → ℕ) (i a b : ℕ) (up : Bool) (first second : Operand) (held : Registers) →
    IsAt 0 first → IsAt (0 + taken_by first) second → operand_value held first ≡ a →
    operand_value held second ≡ b → is_shallow (native 0 (order_of up) first second) ≡ true →
    Computes memory i held 0 (native 0 (order_of up) first second)
    (operation_value (order_of up) a b)
compares memory i a b true first second held p q e f shallow =
    computes_native memory i 0 a b first second held op.Gt tt (first_apart 0 first second q)
    (second_apart 0 first second p) e f shallow
compares memory i a b false first second held p q e f shallow =
    computes_native memory i 0 a b first second held op.Lt tt (first_apart 0 first second q)
    (second_apart 0 first second p) e f shallow

pub none_evaluates : (memory : ℕ → ℕ) (i a b : ℕ) (layout : ProgramLayoutData) (up : Bool)
    (first last : Tree) (held : Registers) →
    HasBoth memory i held layout first last a b → is_shallow (none_code layout up first last) ≡
    true →
    HasIn memory i held (none_code layout up first last) 0 (bit (has_none up a b))
unfolding none_code
none_evaluates memory i a b layout up first last held c shallow =
    let front : List Instr = value_code layout 0 first in
    let middle : List Instr = value_code layout (takes first) last in
    let x : Operand = value_operand 0 first in
    let y : Operand = value_operand (takes first) last in
    let back : List Instr = native 0 (order_of up) x y in
    let rest : is_shallow (middle ++ back) ≡ true = shallow_back front (middle ++ back) shallow in
    let taken : 0 + taken_by x ≡ takes first =
    omega (arith, operand_taken 0 first (λ one. omega arith)) in
    let second_at : IsAt (takes first) y =
    operand_at (takes first) last (λ one. value_below layout (takes first) last one
    (shallow_front middle back rest)) in
    let d : Computes memory i c.now 0 back (operation_value (order_of up) a b) =
    compares memory i a b up x y c.now (operand_at 0 first (λ one. omega arith))
    (subst (λ n. IsAt n y) (sym taken) second_at) c.first_is c.second_is
    (shallow_back middle back rest) in
    record {
      now = d.now;
      runs = ap (λ code. after_all memory i code held) (sym (append_assoc front middle back))
          ∙ after_front memory i (front ++ middle) back held c.now c.runs ∙ d.runs;
      gives = d.gives ∙ no_turn up a b;
      keeps = d.keeps 3 (inr refl) ∙ c.keeps;
    }
