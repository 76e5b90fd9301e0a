-- The code of every operation computes its value.
use Rattle.std.proofs.Common.{◌≡◌, ℕ, zero, suc, ◌+◌, ◌^◌, ◌<◌, ◌≤◌, ◌⊎◌, ◌==◌, nat_lt}
use Rattle.std.proofs.Common.{Bool, true, false, List, [], ◌++◌, refl, sym, ap, ◌∙◌, subst}
use Rattle.std.proofs.Common.{inl, inr, ⊎_elim, arith, append_assoc, append-nil, ◌&&◌, ◌||◌, not}
use Rattle.std.proofs.Common.{nat_le}
use Rattle.std.specs.Prelude.{bit_or, bit_and}
use Rattle.std.proofs.lemmas.Nat.{le_or_l, le_or_r}
use Rattle.std.proofs.lemmas.Bool.{lt-ltb, le-ltb, cases_lt}
use Rattle.pram_job.specs.declared.instr.Instr.{Instr}
use Rattle.pram_job.specs.declared.instr.Operand.{Operand}
use Rattle.pram_job.specs.declared.instr.Operand.TheVariants.{Register, Number}
use Rattle.pardo_program.specs.declared.operation.Op.{Op}
use Rattle.pardo_program.specs.declared.operation.Op.TheVariants.{Add, Sub, Mul, Div, Rem, Shl, Shr}
use Rattle.pardo_program.specs.declared.operation.Op.TheVariants.{BitAnd, BitOr, BitXor, Eq, Ne}
use Rattle.pardo_program.specs.declared.operation.Op.TheVariants.{Lt, Le, Gt, Ge, And, Or, Min, Max}
use Rattle.pardo_program.specs.declared.operation.Op.TheVariants.{Within}
use Rattle.pardo_program.specs.Operations.{bit, operation_value}
use Rattle.pardo_job.specs.Operations.{native, choice, operation_code}
use Rattle.pardo_job.specs.Operations.{taken_by, is_shallow, negation}
use Rattle.pardo_job.specs.Straight.{Registers, operand_value, Computes}
use Rattle.pardo_job.proofs.Straight.{computes_negation}
use Rattle.pardo_job.proofs.Shallow.{shallow_front}
use Rattle.pardo_job.proofs.Operating.{IsNative, IsApart, computes_native}
use Rattle.pardo_job.proofs.Choices.{IsAt, IsChoice, computes_choice}
use Rattle.pardo_job.proofs.Joining.{computes_conjunction}

-- ---- tests

zero_of_bit : (x : Bool) → bit (bit x == 0) ≡ bit (not x)
zero_of_bit true = refl
zero_of_bit false = refl

le_no : (a b : ℕ) → b < a → false ≡ nat_le a b
le_no a b lt = grind arith

le_yes : (a b : ℕ) → a ≤ b → true ≡ nat_le a b
le_yes a b le = grind arith

not_below : (a b : ℕ) → bit (bit (nat_lt b a) == 0) ≡ bit (nat_le a b)
not_below a b = ⊎_elim
    (λ (lt : b < a). ap (λ t. bit (bit t == 0)) (lt-ltb b a lt) ∙ ap bit (le_no a b lt))
    (λ (le : a ≤ b). ap (λ t. bit (bit t == 0)) (le-ltb b a le) ∙ ap bit (le_yes a b le))
    (cases_lt b a)

-- 0 or 1
abbrev pub IsTruth : ℕ → Type 0
IsTruth v = (v ≡ 0) ⊎ (v ≡ 1)

pub bit_truth : (x : Bool) → IsTruth (bit x)
bit_truth true = inr refl
bit_truth false = inl refl

truths_and : (a b : ℕ) → IsTruth a → IsTruth b → bit_and a b ≡ bit (not (a == 0) && not (b == 0))
truths_and a b (inl p) (inl q) = ap (λ x. bit_and x b) p ∙ ap (bit_and 0) q ∙
    sym (ap (λ x. bit (not (x == 0) && not (b == 0))) p)
truths_and a b (inl p) (inr q) = ap (λ x. bit_and x b) p ∙ ap (bit_and 0) q ∙
    sym (ap (λ x. bit (not (x == 0) && not (b == 0))) p)
truths_and a b (inr p) (inl q) = ap (λ x. bit_and x b) p ∙ ap (bit_and 1) q ∙
    sym (ap (λ x. bit (not (x == 0) && not (b == 0))) p ∙ ap (λ y. bit (not (y == 0))) q)
truths_and a b (inr p) (inr q) = ap (λ x. bit_and x b) p ∙ ap (bit_and 1) q ∙
    sym (ap (λ x. bit (not (x == 0) && not (b == 0))) p ∙ ap (λ y. bit (not (y == 0))) q)

truths_or : (a b : ℕ) → IsTruth a → IsTruth b → bit_or a b ≡ bit (not (a == 0) || not (b == 0))
truths_or a b (inl p) (inl q) = ap (λ x. bit_or x b) p ∙ ap (bit_or 0) q ∙
    sym (ap (λ x. bit (not (x == 0) || not (b == 0))) p ∙ ap (λ y. bit (not (y == 0))) q)
truths_or a b (inl p) (inr q) = ap (λ x. bit_or x b) p ∙ ap (bit_or 0) q ∙
    sym (ap (λ x. bit (not (x == 0) || not (b == 0))) p ∙ ap (λ y. bit (not (y == 0))) q)
truths_or a b (inr p) (inl q) = ap (λ x. bit_or x b) p ∙ ap (bit_or 1) q ∙
    sym (ap (λ x. bit (not (x == 0) || not (b == 0))) p)
truths_or a b (inr p) (inr q) = ap (λ x. bit_or x b) p ∙ ap (bit_or 1) q ∙
    sym (ap (λ x. bit (not (x == 0) || not (b == 0))) p)

is_not_zero : (a : ℕ) → 0 < a → (a == 0) ≡ false
is_not_zero a lt = grind arith

-- whether one of two values is not 0
either_value : (a b : ℕ) → bit (bit (bit_or a b == 0) == 0) ≡ bit (not (a == 0) || not (b == 0))
either_value zero zero = refl
either_value (suc a) b =
    ap (λ t. bit (bit t == 0)) (is_not_zero (bit_or (suc a) b) (omega (arith, le_or_l (suc a) b)))
    ∙ sym (ap (λ t. bit (not t || not (b == 0))) (is_not_zero (suc a) (omega arith)))
either_value zero (suc b) =
    ap (λ t. bit (bit t == 0)) (is_not_zero (bit_or zero (suc b))
    (omega (arith, le_or_r zero (suc b))))
    ∙ sym (ap (λ t. bit (not t)) (is_not_zero (suc b) (omega arith)))

-- ---- operands

pub first_apart : (at : ℕ) (first second : Operand) → IsAt (at + taken_by first) second →
    IsApart at first second
first_apart at (Number m) (Register s) (inl q) = inl (q.0 ∙ omega arith)
first_apart at (Number m) (Register s) (inr q) = inr q
first_apart at (Number m) (Number n) q = tt
first_apart at (Register r) second q = tt

pub second_apart : (at : ℕ) (first second : Operand) → IsAt at first → IsApart at second first
second_apart at (Register r) (Number n) (inl p) = inl p.0
second_apart at (Register r) (Number n) (inr p) = inr p
second_apart at (Number m) (Number n) p = tt
second_apart at first (Register s) p = tt

-- ---- all operations

pub record Operands (at i a b : ℕ) (held : Registers) (first second : Operand) : Type 0 where
  pub below : at < 3
  pub own : held 3 ≡ i
  pub first_at : IsAt at first
  pub second_at : IsAt (at + taken_by first) second
  pub first_fits : a < 2 ^ 32
  pub second_fits : b < 2 ^ 32
  pub first_is : operand_value held first ≡ a
  pub second_is : operand_value held second ≡ b

native_of : (op : Op) (memory : ℕ → ℕ) (i at a b : ℕ) (held : Registers) (first second : Operand) →
    IsNative op → Operands at i a b held first second →
    is_shallow (native at op first second) ≡ true →
    Computes memory i held at (native at op first second) (operation_value op a b)
native_of op memory i at a b held first second is c shallow =
    computes_native memory i at a b first second held op is
    (first_apart at first second c.second_at) (second_apart at first second c.first_at)
    c.first_is c.second_is shallow

negated_of : (op : Op) (memory : ℕ → ℕ) (i at a b result : ℕ) (held : Registers)
    (first second : Operand) →
    IsNative op → Operands at i a b held first second → bit (operation_value op a b == 0) ≡ result →
    is_shallow (native at op first second ++ negation at) ≡ true →
    Computes memory i held at (native at op first second ++ negation at) result
negated_of op memory i at a b result held first second is c e shallow =
    subst (λ v. Computes memory i held at (native at op first second ++ negation at) v) e
    (computes_negation memory i held at (operation_value op a b) (native at op first second) c.below
    (native_of op memory i at a b held first second is c
    (shallow_front (native at op first second) (negation at) shallow)))

-- what is to be shown of an operation
abbrev pub ComputesOperation : Op → Bool → (ℕ → ℕ) → ℕ → ℕ → ℕ → ℕ → Registers → Operand → Operand →
    Type 0
ComputesOperation op are_truths memory i at a b held first second =
    is_shallow (operation_code at op are_truths first second) ≡ true →
    Computes memory i held at (operation_code at op are_truths first second)
    (operation_value op a b)

and_of : (are_truths : Bool) (memory : ℕ → ℕ) (i at a b : ℕ) (held : Registers)
    (first second : Operand) →
    Operands at i a b held first second → (are_truths ≡ true → IsTruth a × IsTruth b) →
    ComputesOperation And are_truths memory i at a b held first second
unfolding operation_code operation_value
and_of true memory i at a b held first second c truths shallow =
    subst (λ v. Computes memory i held at (native at BitAnd first second) v)
    (truths_and a b (truths refl).0 (truths refl).1)
    (native_of BitAnd memory i at a b held first second tt c shallow)
and_of false memory i at a b held first second c truths shallow =
    computes_conjunction memory i at a b held first second c.below c.first_at c.second_at
    c.first_is c.second_is shallow

or_of : (are_truths : Bool) (memory : ℕ → ℕ) (i at a b : ℕ) (held : Registers)
    (first second : Operand) →
    Operands at i a b held first second → (are_truths ≡ true → IsTruth a × IsTruth b) →
    ComputesOperation Or are_truths memory i at a b held first second
unfolding operation_code operation_value
or_of true memory i at a b held first second c truths shallow =
    let none : native at BitOr first second ++ [] ≡ native at BitOr first second =
    append-nil (native at BitOr first second) in
    subst (λ code. Computes memory i held at code (bit (not (a == 0) || not (b == 0)))) (sym none)
    (subst (λ v. Computes memory i held at (native at BitOr first second) v)
    (truths_or a b (truths refl).0 (truths refl).1)
    (native_of BitOr memory i at a b held first second tt c (ap is_shallow (sym none) ∙ shallow)))
or_of false memory i at a b held first second c truths shallow =
    let code : List Instr = native at BitOr first second in
    let joined : (code ++ negation at) ++ negation at ≡ code ++ (negation at ++ negation at) =
    append_assoc code (negation at) (negation at) in
    subst (λ all. Computes memory i held at all (bit (not (a == 0) || not (b == 0)))) joined
    (subst (λ v. Computes memory i held at ((code ++ negation at) ++ negation at) v)
    (either_value a b)
    (computes_negation memory i held at (bit (bit_or a b == 0)) (code ++ negation at) c.below
    (negated_of BitOr memory i at a b (bit (bit_or a b == 0)) held first second tt c refl
    (shallow_front (code ++ negation at) (negation at) (ap is_shallow joined ∙ shallow)))))

choice_of : (op : Op) (memory : ℕ → ℕ) (i at a b : ℕ) (held : Registers) (first second : Operand) →
    IsChoice op → Operands at i a b held first second →
    is_shallow (choice at op first second) ≡ true →
    Computes memory i held at (choice at op first second) (operation_value op a b)
choice_of op memory i at a b held first second is c shallow =
    computes_choice op memory i at a b held first second is c.below c.own c.first_at c.second_at
    c.first_fits c.second_fits c.first_is c.second_is shallow

-- an operation that always has a value
abbrev pub IsPlain : Op → Type 0
IsPlain Div = ⊥
IsPlain Rem = ⊥
IsPlain Within = ⊥
IsPlain _ = Unit {0}

pub computes_operation : (op : Op) (are_truths : Bool) (memory : ℕ → ℕ) (i at a b : ℕ)
    (held : Registers) (first second : Operand) → IsPlain op →
    Operands at i a b held first second → (are_truths ≡ true → IsTruth a × IsTruth b) →
    ComputesOperation op are_truths memory i at a b held first second
unfolding operation_code operation_value
computes_operation Add t memory i at a b held first second plain c truths shallow =
    native_of Add memory i at a b held first second tt c shallow
computes_operation Sub t memory i at a b held first second plain c truths shallow =
    native_of Sub memory i at a b held first second tt c shallow
computes_operation Mul t memory i at a b held first second plain c truths shallow =
    native_of Mul memory i at a b held first second tt c shallow
computes_operation Div t memory i at a b held first second plain c truths shallow =
    absurd plain
computes_operation Rem t memory i at a b held first second plain c truths shallow =
    absurd plain
computes_operation Shl t memory i at a b held first second plain c truths shallow =
    native_of Shl memory i at a b held first second tt c shallow
computes_operation Shr t memory i at a b held first second plain c truths shallow =
    native_of Shr memory i at a b held first second tt c shallow
computes_operation BitAnd t memory i at a b held first second plain c truths shallow =
    native_of BitAnd memory i at a b held first second tt c shallow
computes_operation BitOr t memory i at a b held first second plain c truths shallow =
    native_of BitOr memory i at a b held first second tt c shallow
computes_operation BitXor t memory i at a b held first second plain c truths shallow =
    native_of BitXor memory i at a b held first second tt c shallow
computes_operation Eq t memory i at a b held first second plain c truths shallow =
    native_of Eq memory i at a b held first second tt c shallow
computes_operation Ne t memory i at a b held first second plain c truths shallow =
    negated_of Eq memory i at a b (bit (not (a == b))) held first second tt c (zero_of_bit (a == b))
    shallow
computes_operation Lt t memory i at a b held first second plain c truths shallow =
    native_of Lt memory i at a b held first second tt c shallow
computes_operation Le t memory i at a b held first second plain c truths shallow =
    negated_of Gt memory i at a b (bit (nat_le a b)) held first second tt c (not_below a b) shallow
computes_operation Gt t memory i at a b held first second plain c truths shallow =
    native_of Gt memory i at a b held first second tt c shallow
computes_operation Ge t memory i at a b held first second plain c truths shallow =
    negated_of Lt memory i at a b (bit (nat_le b a)) held first second tt c (not_below b a) shallow
computes_operation And t memory i at a b held first second plain c truths shallow =
    and_of t memory i at a b held first second c truths shallow
computes_operation Or t memory i at a b held first second plain c truths shallow =
    or_of t memory i at a b held first second c truths shallow
computes_operation Min t memory i at a b held first second plain c truths shallow =
    choice_of Min memory i at a b held first second tt c shallow
computes_operation Max t memory i at a b held first second plain c truths shallow =
    choice_of Max memory i at a b held first second tt c shallow
computes_operation Within t memory i at a b held first second plain c truths shallow =
    absurd plain
