-- The code of `min` and `max` for any operands.
use Rattle.std.proofs.Common.{◌≡◌, ℕ, ◌+◌, ◌^◌, ◌<◌, ◌⊎◌, ◌==◌, nat_lt}
use Rattle.std.proofs.Common.{true, false, List, [], ◌∷◌, ◌++◌, Some, None, refl, sym, ap, ◌∙◌}
use Rattle.std.proofs.Common.{subst}
use Rattle.std.proofs.Common.{inl, inr, arith, if◌then◌else◌, ◌&&◌}
use Rattle.std.proofs.lemmas.Bool.{lt-ltb}
use Rattle.pram_job.specs.declared.instr.Instr.{Instr}
use Rattle.pram_job.specs.declared.instr.Instr.TheVariants as instr
use Rattle.pram_job.specs.declared.instr.Operand.{Operand}
use Rattle.pram_job.specs.declared.instr.Operand.TheVariants.{Register, Number}
use Rattle.pardo_program.specs.declared.operation.Op.{Op}
use Rattle.pardo_program.specs.declared.operation.Op.TheVariants.{Min, Max}
use Rattle.pardo_program.specs.Operations.{operation_value}
use Rattle.pardo_job.specs.Operations.{chosen_of, choice, copy_code, taken_by, is_shallow}
use Rattle.pardo_job.specs.Operations.{negation, is_max}
use Rattle.pardo_job.specs.Straight.{Registers, put, operand_value, after_one, Computes}
use Rattle.pardo_job.proofs.Straight.{put_same}
use Rattle.pardo_job.proofs.Shallow.{shallow_target, shallow_back}
use Rattle.pardo_job.proofs.Choosing.{IsOther, operand_other, IsNext, computes_after}
use Rattle.pardo_job.proofs.Choosing.{least_chosen, greatest_chosen}

-- The operand is a number, the own number, or in the register `at`.
abbrev pub IsAt : ℕ → Operand → Type 0
IsAt at (Register register) = ((register ≡ at) × (register < 3)) ⊎ (register ≡ 3)
IsAt at (Number number) = Unit {0}

pub taken_one : (register : ℕ) → register < 3 → taken_by (Register register) ≡ 1
taken_one register lt = ap (λ b. if b then 1 else 0) (lt-ltb register 3 lt)

pub taken_none : (register : ℕ) → register ≡ 3 → taken_by (Register register) ≡ 0
taken_none register own = ap (λ r. taken_by (Register r)) own

abbrev pub IsChoice : Op → Type 0
IsChoice Min = Unit {0}
IsChoice Max = Unit {0}
IsChoice _ = ⊥

choice_value : (op : Op) (memory : ℕ → ℕ) (i at a b : ℕ) (second : Operand) (held : Registers) →
    IsChoice op → IsNext at second → at < 3 → at + 1 + taken_by second < 3 → a < 2 ^ 32 →
    b < 2 ^ 32 → held at ≡ a → operand_value held second ≡ b →
    Computes memory i held at (chosen_of at op second) (operation_value op a b)
unfolding operation_value
choice_value Min memory i at a b second held is next lt less la lb ha hb =
    least_chosen memory i at a b second held next lt less la lb ha hb
choice_value Max memory i at a b second held is next lt less la lb ha hb =
    greatest_chosen memory i at a b second held next lt less la lb ha hb
choice_value _ memory i at a b second held is next lt less la lb ha hb = absurd is

choice_turned : (op : Op) (a b : ℕ) → IsChoice op → operation_value op b a ≡ operation_value op a b
unfolding operation_value
choice_turned Min a b is = omega arith
choice_turned Max a b is = omega arith
choice_turned _ a b is = absurd is

choice_kept : (at : ℕ) (op : Op) (first second : Operand) →
    ((taken_by first == 0) && (taken_by second == 1)) ≡ false →
    choice at op first second ≡ copy_code at first ++ chosen_of at op second
unfolding choice
choice_kept at op first second e =
    ap (λ t. copy_code at (if t then second else first)
    ++ chosen_of at op (if t then first else second)) e

choice_swapped : (at : ℕ) (op : Op) (first second : Operand) →
    ((taken_by first == 0) && (taken_by second == 1)) ≡ true →
    choice at op first second ≡ copy_code at second ++ chosen_of at op first
unfolding choice
choice_swapped at op first second e =
    ap (λ t. copy_code at (if t then second else first)
    ++ chosen_of at op (if t then first else second)) e

-- the test's register, of code that is shallow
pub test_shallow : (at : ℕ) (op : Op) (front : List Instr) (second : Operand) →
    is_shallow (front ++ chosen_of at op second) ≡ true → at + 1 + taken_by second < 3
test_shallow at op front second shallow =
    shallow_target (instr.Lt (at + 1 + taken_by second) at second)
    ((if is_max op then negation (at + 1 + taken_by second) else [])
    ++ (instr.Sub at at second ∷ instr.Mul at at (Register (at + 1 + taken_by second)) ∷
    instr.Add at at second ∷ []))
    (shallow_back front (chosen_of at op second) shallow)

-- the first one is in its register
choice_ready : (op : Op) (memory : ℕ → ℕ) (i at a b register : ℕ) (second : Operand)
    (held : Registers) →
    IsChoice op → register ≡ at → register < 3 → IsNext at second → a < 2 ^ 32 → b < 2 ^ 32 →
    held register ≡ a → operand_value held second ≡ b →
    is_shallow (copy_code at (Register register) ++ chosen_of at op second) ≡ true →
    Computes memory i held at (copy_code at (Register register) ++ chosen_of at op second)
    (operation_value op a b)
choice_ready op memory i at a b register second held is same lt next la lb ha hb shallow =
    let none : copy_code at (Register register) ≡ [] =
    ap (λ t. if t then [] else instr.Pid at ∷ []) (lt-ltb register 3 lt) in
    let less : at + 1 + taken_by second < 3 =
    test_shallow at op (copy_code at (Register register)) second shallow in
    subst (λ code. Computes memory i held at (code ++ chosen_of at op second)
    (operation_value op a b))
    (sym none)
    (choice_value op memory i at a b second held is next (omega arith) less la lb
    (ap held (sym same) ∙ ha) hb)

-- the first one is copied into its register
choice_copied : (op : Op) (memory : ℕ → ℕ) (i at a b : ℕ) (first second : Operand) (one : Instr)
    (held : Registers) →
    IsChoice op → copy_code at first ≡ one ∷ [] → after_one memory i one held ≡
    Some (put at a held) →
    IsNext at second → IsOther at second → a < 2 ^ 32 → b < 2 ^ 32 → operand_value held second ≡ b →
    is_shallow (copy_code at first ++ chosen_of at op second) ≡ true →
    Computes memory i held at (copy_code at first ++ chosen_of at op second)
    (operation_value op a b)
choice_copied op memory i at a b first second one held is copy leads next other la lb hb shallow =
    let less : at + 1 + taken_by second < 3 =
    test_shallow at op (copy_code at first) second shallow in
    let lt : at < 3 = omega arith in
    subst (λ code. Computes memory i held at (code ++ chosen_of at op second)
    (operation_value op a b))
    (sym copy)
    (computes_after memory i at at a (operation_value op a b) (one ∷ []) (chosen_of at op second)
    held
    (omega arith) lt
    (ap (λ o. elim o [ None ↦ None | Some now ↦ Some now ]) leads)
    (choice_value op memory i at a b second (put at a held) is next lt less la lb
    (put_same at a held) (operand_other at a held second other ∙ hb)))

-- a direct operand: a number, or the own one
copied_own : (op : Op) (memory : ℕ → ℕ) (i at a b register : ℕ) (second : Operand)
    (held : Registers) →
    IsChoice op → register ≡ 3 → held 3 ≡ i → IsNext at second → IsOther at second →
    a < 2 ^ 32 → b < 2 ^ 32 → held register ≡ a → operand_value held second ≡ b →
    is_shallow (copy_code at (Register register) ++ chosen_of at op second) ≡ true →
    Computes memory i held at (copy_code at (Register register) ++ chosen_of at op second)
    (operation_value op a b)
copied_own op memory i at a b register second held is own own_i next other la lb ha hb shallow =
    let same : i ≡ a = sym own_i ∙ ap held (sym own) ∙ ha in
    choice_copied op memory i at a b (Register register) second (instr.Pid at) held is
    (ap (λ r. if nat_lt r 3 then [] else instr.Pid at ∷ []) own)
    (ap (λ v. Some (put at v held)) same) next other la lb hb shallow

copied_number : (op : Op) (memory : ℕ → ℕ) (i at a b number : ℕ) (second : Operand)
    (held : Registers) →
    IsChoice op → IsNext at second → IsOther at second →
    a < 2 ^ 32 → b < 2 ^ 32 → number ≡ a → operand_value held second ≡ b →
    is_shallow (copy_code at (Number number) ++ chosen_of at op second) ≡ true →
    Computes memory i held at (copy_code at (Number number) ++ chosen_of at op second)
    (operation_value op a b)
copied_number op memory i at a b number second held is next other la lb ha hb shallow =
    choice_copied op memory i at a b (Number number) second (instr.Set at number) held is refl
    (ap (λ v. Some (put at v held)) ha) next other la lb hb shallow

-- what the lemma says of two operands
abbrev pub ComputesChoice : Op → (ℕ → ℕ) → ℕ → ℕ → ℕ → ℕ → Registers → Operand → Operand → Type 0
ComputesChoice op memory i at a b held first second =
    operand_value held first ≡ a → operand_value held second ≡ b →
    is_shallow (choice at op first second) ≡ true →
    Computes memory i held at (choice at op first second) (operation_value op a b)

-- by the code that it is
by_code : (op : Op) (memory : ℕ → ℕ) (i at a b : ℕ) (held : Registers) (first second : Operand)
    (code : List Instr) →
    choice at op first second ≡ code →
    (is_shallow code ≡ true → Computes memory i held at code (operation_value op a b)) →
    is_shallow (choice at op first second) ≡ true →
    Computes memory i held at (choice at op first second) (operation_value op a b)
by_code op memory i at a b held first second code e c shallow =
    subst (λ code. Computes memory i held at code (operation_value op a b)) (sym e)
    (c (ap is_shallow (sym e) ∙ shallow))

next_from : (at : ℕ) (second : Operand) → IsAt (at + 1) second → IsNext at second
next_from at (Register register) placed = placed
next_from at (Number number) placed = tt

neither : (first second : Operand) → taken_by second ≡ 0 → taken_by first ≡ 0 →
    ((taken_by first == 0) && (taken_by second == 1)) ≡ false
neither first second e f = ap (λ t. (t == 0) && (taken_by second == 1)) f ∙ ap (λ t. t == 1) e

second_alone : (first second : Operand) → taken_by first ≡ 0 → taken_by second ≡ 1 →
    ((taken_by first == 0) && (taken_by second == 1)) ≡ true
second_alone first second e f = ap (λ t. (t == 0) && (taken_by second == 1)) e ∙ ap (λ t. t == 1) f

-- the first one is in `at`
first_ready : (op : Op) (memory : ℕ → ℕ) (i at a b register : ℕ) (held : Registers)
    (second : Operand) →
    IsChoice op → register ≡ at → register < 3 → IsAt (at + taken_by (Register register)) second →
    a < 2 ^ 32 → b < 2 ^ 32 → ComputesChoice op memory i at a b held (Register register) second
first_ready op memory i at a b register held second is same lt placed la lb ha hb =
    let one : taken_by (Register register) ≡ 1 = taken_one register lt in
    by_code op memory i at a b held (Register register) second
    (copy_code at (Register register) ++ chosen_of at op second)
    (choice_kept at op (Register register) second
    (ap (λ t. (t == 0) && (taken_by second == 1)) one))
    (choice_ready op memory i at a b register second held is same lt
    (next_from at second (subst (λ t. IsAt (at + t) second) one placed)) la lb ha hb)

-- the second one alone is computed
second_ready : (op : Op) (memory : ℕ → ℕ) (i at a b register : ℕ) (held : Registers)
    (first : Operand) →
    IsChoice op → taken_by first ≡ 0 → IsNext at first → register ≡ at → register < 3 →
    a < 2 ^ 32 → b < 2 ^ 32 → ComputesChoice op memory i at a b held first (Register register)
second_ready op memory i at a b register held first is none next same lt la lb ha hb =
    by_code op memory i at a b held first (Register register)
    (copy_code at (Register register) ++ chosen_of at op first)
    (choice_swapped at op first (Register register)
    (second_alone first (Register register) none (taken_one register lt)))
    (λ shallow. subst (λ v. Computes memory i held at
    (copy_code at (Register register) ++ chosen_of at op first) v) (choice_turned op a b is)
    (choice_ready op memory i at b a register first held is same lt next lb la hb ha shallow))

-- none is computed
none_ready : (op : Op) (memory : ℕ → ℕ) (i at a b : ℕ) (held : Registers) (first second : Operand) →
    taken_by first ≡ 0 → taken_by second ≡ 0 →
    (is_shallow (copy_code at first ++ chosen_of at op second) ≡ true →
    Computes memory i held at (copy_code at first ++ chosen_of at op second)
    (operation_value op a b)) →
    is_shallow (choice at op first second) ≡ true →
    Computes memory i held at (choice at op first second) (operation_value op a b)
none_ready op memory i at a b held first second e f c =
    by_code op memory i at a b held first second (copy_code at first ++ chosen_of at op second)
    (choice_kept at op first second (neither first second f e)) c

own_other : (at register : ℕ) → at < 3 → register ≡ 3 → IsOther at (Register register)
own_other at register lt own = λ same. omega arith

pub computes_choice : (op : Op) (memory : ℕ → ℕ) (i at a b : ℕ) (held : Registers)
    (first second : Operand) →
    IsChoice op → at < 3 → held 3 ≡ i → IsAt at first → IsAt (at + taken_by first) second →
    a < 2 ^ 32 → b < 2 ^ 32 → ComputesChoice op memory i at a b held first second
computes_choice op memory i at a b held (Register r) second is lt own (inl p) q la lb ha hb shallow
    =
    first_ready op memory i at a b r held second is p.0 p.1 q la lb ha hb shallow
computes_choice op memory i at a b held (Register r) (Register s) is lt own (inr p) (inl q) la lb ha
    hb shallow =
    let none : taken_by (Register r) ≡ 0 = taken_none r p in
    let same : s ≡ at = q.0 ∙ ap (λ t. at + t) none ∙ omega arith in
    second_ready op memory i at a b s held (Register r) is none (inr p) same q.1 la lb ha hb shallow
computes_choice op memory i at a b held (Register r) (Register s) is lt own (inr p) (inr q) la lb ha
    hb shallow =
    none_ready op memory i at a b held (Register r) (Register s) (taken_none r p) (taken_none s q)
    (copied_own op memory i at a b r (Register s) held is p own (inr q) (own_other at s lt q) la lb
    ha hb) shallow
computes_choice op memory i at a b held (Register r) (Number n) is lt own (inr p) q la lb ha hb
    shallow =
    none_ready op memory i at a b held (Register r) (Number n) (taken_none r p) refl
    (copied_own op memory i at a b r (Number n) held is p own tt tt la lb ha hb) shallow
computes_choice op memory i at a b held (Number m) (Register s) is lt own p (inl q) la lb ha hb
    shallow =
    let same : s ≡ at = q.0 ∙ omega arith in
    second_ready op memory i at a b s held (Number m) is refl tt same q.1 la lb ha hb shallow
computes_choice op memory i at a b held (Number m) (Register s) is lt own p (inr q) la lb ha hb
    shallow =
    none_ready op memory i at a b held (Number m) (Register s) refl (taken_none s q)
    (copied_number op memory i at a b m (Register s) held is (inr q) (own_other at s lt q) la lb ha
    hb) shallow
computes_choice op memory i at a b held (Number m) (Number n) is lt own p q la lb ha hb shallow =
    none_ready op memory i at a b held (Number m) (Number n) refl refl
    (copied_number op memory i at a b m (Number n) held is tt tt la lb ha hb) shallow
