-- The code of operations that are several instructions.
use Rattle.std.proofs.Common.{◌≡◌, ◌≢◌, ℕ, ◌+◌, ◌-◌, ◌*◌, ◌%◌, ◌^◌, ◌<◌, ◌≤◌, ◌⊎◌, ◌==◌, nat_lt}
use Rattle.std.proofs.Common.{List, [], ◌∷◌, ◌++◌, Some, refl, ap, ◌∙◌, subst}
use Rattle.std.proofs.Common.{inl, inr, ⊎_elim, arith, if◌then◌else◌, min, max}
use Rattle.std.proofs.lemmas.Bool.{lt-ltb, le-ltb, cases_lt}
use Rattle.pram_job.specs.declared.instr.Instr.{Instr}
use Rattle.pram_job.specs.declared.instr.Instr.TheVariants as instr
use Rattle.pram_job.specs.declared.instr.Operand.{Operand}
use Rattle.pram_job.specs.declared.instr.Operand.TheVariants.{Register, Number}
use Rattle.pardo_program.specs.declared.operation.Op.TheVariants as op
use Rattle.pardo_program.specs.Operations.{bit}
use Rattle.pardo_job.specs.Operations.{chosen_of}
use Rattle.pardo_job.specs.Operations.{taken_by}
use Rattle.pardo_job.specs.Straight.{Registers, put, operand_value, after_all, IsKept, Computes}
use Rattle.pardo_job.proofs.Straight.{put_same, put_other, after_front}

-- the operand is not this register
abbrev pub IsOther : ℕ → Operand → Type 0
IsOther which (Register register) = register ≢ which
IsOther which (Number number) = Unit {0}

pub operand_other : (which value : ℕ) (held : Registers) (operand : Operand) →
    IsOther which operand → operand_value (put which value held) operand ≡ operand_value held operand
operand_other which value held (Register register) other = put_other which value register held other
operand_other which value held (Number number) other = refl

-- a register that is not kept
pub not_kept : (at target : ℕ) → at ≤ target → target < 3 → (which : ℕ) → IsKept at which →
    which ≢ target
not_kept at target le lt which (inl below) same = omega arith
not_kept at target le lt which (inr own) same = omega arith

-- ---- the least and the greatest

abbrev pub blended : ℕ → ℕ → ℕ → ℕ
blended a b c = (((a + (2 ^ 32 - b)) % 2 ^ 32 * c) % 2 ^ 32 + b) % 2 ^ 32

abbrev pub blend_code : ℕ → ℕ → Operand → List Instr
blend_code at test second = instr.Sub at at second ∷ instr.Mul at at (Register test)
    ∷ instr.Add at at second ∷ []

pub blends : (memory : ℕ → ℕ) (i at test a b c : ℕ) (second : Operand) (held : Registers) →
    at < 3 → test ≢ at → IsOther at second → held at ≡ a → held test ≡ c →
    operand_value held second ≡ b →
    Computes memory i held at (blend_code at test second) (blended a b c)
blends memory i at test a b c second held lt ne other ha hc hb =
    let x : ℕ = (held at + (2 ^ 32 - operand_value held second)) % 2 ^ 32 in
    let h1 : Registers = put at x held in
    let y : ℕ = (h1 at * h1 test) % 2 ^ 32 in
    let h2 : Registers = put at y h1 in
    let z : ℕ = (h2 at + operand_value h2 second) % 2 ^ 32 in
    let is_x : h1 at ≡ (a + (2 ^ 32 - b)) % 2 ^ 32 = put_same at x held
    ∙ ap (λ v. (v + (2 ^ 32 - operand_value held second)) % 2 ^ 32) ha
    ∙ ap (λ v. (a + (2 ^ 32 - v)) % 2 ^ 32) hb in
    let is_c : h1 test ≡ c = put_other at x test held ne ∙ hc in
    let is_y : h2 at ≡ ((a + (2 ^ 32 - b)) % 2 ^ 32 * c) % 2 ^ 32 = put_same at y h1
    ∙ ap (λ v. (v * h1 test) % 2 ^ 32) is_x
    ∙ ap (λ v. ((a + (2 ^ 32 - b)) % 2 ^ 32 * v) % 2 ^ 32) is_c in
    let is_b : operand_value h2 second ≡ b =
    operand_other at y h1 second other ∙ operand_other at x held second other ∙ hb in
    record {
      now = put at z h2;
      runs = refl;
      gives = put_same at z h2
          ∙ ap (λ v. (v + operand_value h2 second) % 2 ^ 32) is_y
          ∙ ap (λ v. (((a + (2 ^ 32 - b)) % 2 ^ 32 * c) % 2 ^ 32 + v) % 2 ^ 32) is_b;
      keeps = λ which kept.
          let apart : which ≢ at = not_kept at at (omega arith) lt which kept in
          put_other at z which h2 apart ∙ put_other at y which h1 apart ∙
          put_other at x which held apart;
    }

pub blended_one : (a b : ℕ) → a < 2 ^ 32 → b < 2 ^ 32 → blended a b 1 ≡ a
blended_one a b la lb = omega arith

pub blended_none : (a b : ℕ) → b < 2 ^ 32 → blended a b 0 ≡ b
blended_none a b lb = omega arith

-- The operand is a number, the own number, or in the register after `at`.
abbrev pub IsNext : ℕ → Operand → Type 0
IsNext at (Register register) = ((register ≡ at + 1) × (register < 3)) ⊎ (register ≡ 3)
IsNext at (Number number) = Unit {0}

-- The register of the test is free.
test_other : (at : ℕ) (second : Operand) → (IsNext at second) → at + 1 + taken_by second < 3 →
    IsOther (at + 1 + taken_by second) second
test_other at (Number number) next lt = tt
test_other at (Register register) (inl next) lt = λ same.
    let one : taken_by (Register register) ≡ 1 =
    ap (λ b. if b then 1 else 0) (lt-ltb register 3 next.1) in
    let is : register ≡ at + 1 = next.0 in
    omega arith
test_other at (Register register) (inr own) lt = λ same. omega arith

at_other : (at : ℕ) (second : Operand) → IsNext at second → at < 3 → IsOther at second
at_other at (Number number) next lt = tt
at_other at (Register register) (inl next) lt = λ same. let is : register ≡ at + 1 = next.0 in
    omega arith
at_other at (Register register) (inr own) lt = λ same. omega arith

least_blended : (a b : ℕ) → a < 2 ^ 32 → b < 2 ^ 32 → blended a b (bit (nat_lt a b)) ≡ min a b
least_blended a b la lb = ⊎_elim
    (λ (lt : a < b). ap (λ t. blended a b (bit t)) (lt-ltb a b lt) ∙ blended_one a b la lb ∙
    omega arith)
    (λ (le : b ≤ a). ap (λ t. blended a b (bit t)) (le-ltb a b le) ∙ blended_none a b lb ∙
    omega arith)
    (cases_lt a b)

greatest_blended : (a b : ℕ) → a < 2 ^ 32 → b < 2 ^ 32 →
    blended a b (bit (bit (nat_lt a b) == 0)) ≡ max a b
greatest_blended a b la lb = ⊎_elim
    (λ (lt : a < b). ap (λ t. blended a b (bit (bit t == 0))) (lt-ltb a b lt) ∙ blended_none a b lb
    ∙ omega arith)
    (λ (le : b ≤ a). ap (λ t. blended a b (bit (bit t == 0))) (le-ltb a b le) ∙
    blended_one a b la lb ∙ omega arith)
    (cases_lt a b)

-- after code that changes one register that is not kept
pub computes_after : (memory : ℕ → ℕ) (i at target value result : ℕ) (front back : List Instr)
    (held : Registers) → at ≤ target → target < 3 →
    after_all memory i front held ≡ Some (put target value held) →
    Computes memory i (put target value held) at back result →
    Computes memory i held at (front ++ back) result
computes_after memory i at target value result front back held le lt e c = record {
  now = c.now;
  runs = after_front memory i front back held (put target value held) e ∙ c.runs;
  gives = c.gives;
  keeps = λ which kept. c.keeps which kept
      ∙ put_other target value which held (not_kept at target le lt which kept);
}

pub least_chosen : (memory : ℕ → ℕ) (i at a b : ℕ) (second : Operand) (held : Registers) →
    IsNext at second → at < 3 → at + 1 + taken_by second < 3 → a < 2 ^ 32 → b < 2 ^ 32 →
    held at ≡ a → operand_value held second ≡ b →
    Computes memory i held at (chosen_of at op.Min second) (min a b)
least_chosen memory i at a b second held next at_lt lt la lb ha hb =
    let test : ℕ = at + 1 + taken_by second in
    let c : ℕ = bit (nat_lt (held at) (operand_value held second)) in
    let ne : test ≢ at = λ same. omega arith in
    let ne_too : at ≢ test = λ same. omega arith in
    let is_c : c ≡ bit (nat_lt a b) = ap (λ v. bit (nat_lt v (operand_value held second))) ha ∙
    ap (λ v. bit (nat_lt a v)) hb in
    computes_after memory i at test c (min a b) (instr.Lt test at second ∷ [])
    (blend_code at test second) held (omega arith) lt refl
    (subst (λ v. Computes memory i (put test c held) at (blend_code at test second) v)
    (ap (blended a b) is_c ∙ least_blended a b la lb)
    (blends memory i at test a b c second (put test c held) at_lt ne (at_other at second next at_lt)
    (put_other test c at held ne_too ∙ ha) (put_same test c held)
    (operand_other test c held second (test_other at second next lt) ∙ hb)))

pub greatest_chosen : (memory : ℕ → ℕ) (i at a b : ℕ) (second : Operand) (held : Registers) →
    IsNext at second → at < 3 → at + 1 + taken_by second < 3 → a < 2 ^ 32 → b < 2 ^ 32 →
    held at ≡ a → operand_value held second ≡ b →
    Computes memory i held at (chosen_of at op.Max second) (max a b)
greatest_chosen memory i at a b second held next at_lt lt la lb ha hb =
    let test : ℕ = at + 1 + taken_by second in
    let c : ℕ = bit (nat_lt (held at) (operand_value held second)) in
    let h1 : Registers = put test c held in
    let d : ℕ = bit (h1 test == 0) in
    let ne : test ≢ at = λ same. omega arith in
    let ne_too : at ≢ test = λ same. omega arith in
    let is_c : c ≡ bit (nat_lt a b) = ap (λ v. bit (nat_lt v (operand_value held second))) ha ∙
    ap (λ v. bit (nat_lt a v)) hb in
    let is_d : d ≡ bit (bit (nat_lt a b) == 0) =
    ap (λ v. bit (v == 0)) (put_same test c held ∙ is_c) in
    computes_after memory i at test c (max a b) (instr.Lt test at second ∷ [])
    (instr.Eq test test (Number 0) ∷ blend_code at test second) held (omega arith) lt refl
    (computes_after memory i at test d (max a b) (instr.Eq test test (Number 0) ∷ [])
    (blend_code at test second) h1 (omega arith) lt refl
    (subst (λ v. Computes memory i (put test d h1) at (blend_code at test second) v)
    (ap (blended a b) is_d ∙ greatest_blended a b la lb)
    (blends memory i at test a b d second (put test d h1) at_lt ne (at_other at second next at_lt)
    (put_other test d at h1 ne_too ∙ put_other test c at held ne_too ∙ ha) (put_same test d h1)
    (operand_other test d h1 second (test_other at second next lt) ∙
    operand_other test c held second (test_other at second next lt) ∙ hb))))
