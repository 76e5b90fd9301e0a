-- The code of every operation computes what is worked out: who divides by 0 leaves, and whose index
-- is not within its bound.
use Rattle.std.proofs.Common.{◌≡◌, ◌≢◌, ℕ, ◌+◌, ◌<◌, ◌==◌, ◌&&◌, Bool, true, false, List, [], ◌∷◌}
use Rattle.std.proofs.Common.{Option, Some, None, refl, sym, ap, ◌∙◌, subst, ⊎_elim, arith}
use Rattle.std.proofs.Common.{if◌then◌else◌, nat_lt, ◌≤◌, ◌/◌, not, eq-eqb}
use Rattle.std.proofs.lemmas.Bool.{eqb-true}
use Rattle.std.specs.Option.{option_map, option_and_then}
use Rattle.std.proofs.Math.Nat.{div-one}
use Rattle.std.proofs.lemmas.Option.{none-some, same_Some}
use Rattle.pram_job.specs.declared.instr.Instr.{Instr}
use Rattle.pram_job.specs.declared.instr.Instr.TheVariants as instr
use Rattle.pram_job.specs.declared.instr.Operand.{Operand}
use Rattle.pram_job.specs.declared.instr.Operand.TheVariants.{Register, Number}
use Rattle.pardo_program.specs.declared.operation.Op.{Op}
use Rattle.pardo_program.specs.declared.operation.Op.TheVariants.{Div, Rem, Within}
use Rattle.pardo_program.specs.Operations.{bit, is_division, lacks, operation_value, worked_out}
use Rattle.pardo_job.specs.Operations.{in_order, instruction_of, is_shallow, native}
use Rattle.pardo_job.specs.Operations.{operation_code, taken_by, within_code, index_code}
use Rattle.pardo_job.specs.Operations.{test_register}
use Rattle.pardo_job.specs.Straight.{Registers, put, operand_value, after_one, after_all, IsKept}
use Rattle.pardo_job.specs.Straight.{Computes}
use Rattle.pardo_job.proofs.Applying.{IsPlain, IsTruth, Operands, computes_operation, first_apart}
use Rattle.pardo_job.proofs.Operating.{IsApart, operand_kept}
use Rattle.pardo_job.proofs.Shallow.{shallow_target, shallow_rest}
use Rattle.pardo_job.proofs.Straight.{computes_one, put_same, put_other}

-- the code leaves the value in its register, and where there is none its processor leaves
abbrev pub ComputesTo : (ℕ → ℕ) → ℕ → Registers → ℕ → List Instr → Option ℕ → Type 0
ComputesTo memory i held at code None = after_all memory i code held ≡ None
ComputesTo memory i held at code (Some value) = Computes memory i held at code value

-- what is worked out is the value of the operation
pub worked_value : (op : Op) (a b v : ℕ) → worked_out op a b ≡ Some v → operation_value op a b ≡ v
worked_value op a b v e = by_test (lacks op a b) e
  where
    by_test : (t : Bool) → (if t then None else Some (operation_value op a b)) ≡ Some v →
        operation_value op a b ≡ v
    by_test true e = absurd (none-some v e)
    by_test false e = same_Some (operation_value op a b) v e

-- ---- divisions

abbrev IsQuotient : Op → Type 0
IsQuotient Div = Unit {0}
IsQuotient Rem = Unit {0}
IsQuotient _ = ⊥

module _ (memory : ℕ → ℕ) (i at : ℕ) where
  one_divides : (op : Op) (first : ℕ) (second : Operand) (held : Registers) → IsQuotient op →
      after_one memory i (instruction_of op at first second) held
      ≡ option_map (λ v. put at v held) (worked_out op (held first) (operand_value held second))
  unfolding lacks is_division operation_value
  one_divides Div first second held is = refl
  one_divides Rem first second held is = refl
  one_divides _ first second held is = absurd is

  by_one : (one : Instr) (held : Registers) (o : Option ℕ) → at < 3 →
      after_one memory i one held ≡ option_map (λ v. put at v held) o →
      ComputesTo memory i held at (one ∷ []) o
  by_one one held None lt e = ap (option_and_then (after_all memory i [])) e
  by_one one held (Some v) lt e = computes_one memory i held at v one lt e

  -- a value comes into a register that nothing keeps
  after_put : (spare value : ℕ) (code all : List Instr) (held : Registers) (o : Option ℕ) →
      after_all memory i all held ≡ after_all memory i code (put spare value held) →
      ((which : ℕ) → IsKept at which → which ≢ spare) →
      ComputesTo memory i (put spare value held) at code o → ComputesTo memory i held at all o
  after_put spare value code all held None e apart c = e ∙ c
  after_put spare value code all held (Some v) e apart c = record {
    now = c.now;
    runs = e ∙ c.runs;
    gives = c.gives;
    keeps = λ which kept. c.keeps which kept ∙ put_other spare value which held (apart which kept);
  }

  -- a register from `at` on that holds values is not kept
  not_kept : (spare : ℕ) → at ≤ spare → spare < 3 → (which : ℕ) → IsKept at which → which ≢ spare
  not_kept spare le lt which kept same =
      ⊎_elim (λ (k : which < at). let no : ⊥ = omega arith in no)
      (λ (k : which ≡ 3). let no : ⊥ = omega arith in no) kept

  divides : (op : Op) (a b : ℕ) (first second : Operand) (held : Registers) → IsQuotient op →
      at < 3 → IsApart at first second → operand_value held first ≡ a → operand_value held second ≡ b →
      is_shallow (in_order at op first second) ≡ true →
      ComputesTo memory i held at (in_order at op first second) (worked_out op a b)
  divides op a b (Register register) second held is lt apart e f shallow =
      by_one (instruction_of op at register second) held (worked_out op a b) lt
      (one_divides op register second held is
      ∙ (λ k. option_map (λ v. put at v held) (worked_out op (e k) (f k))))
  divides op a b (Number number) second held is lt apart e f shallow =
      let spare : ℕ = at + taken_by second in
      let one : Instr = instruction_of op at spare second in
      let less : at + taken_by second < 3 =
      shallow_target (instr.Set spare number) (one ∷ []) shallow in
      let now : Registers = put spare number held in
      let first_is : now spare ≡ a = put_same spare number held ∙ e in
      let second_is : operand_value now second ≡ b =
      operand_kept at number held second lt less apart ∙ f in
      after_put spare number (one ∷ []) (instr.Set spare number ∷ one ∷ []) held (worked_out op a b)
      refl (not_kept spare (omega arith) less)
      (by_one one now (worked_out op a b) lt (one_divides op spare second now is
      ∙ (λ k. option_map (λ v. put at v now) (worked_out op (first_is k) (second_is k)))))

-- ---- indices within their bounds

test_beside : (at index : ℕ) → index ≢ test_register at index
test_beside at index = by_case (index == at) refl
  where
    by_case : (t : Bool) → (index == at) ≡ t → index ≢ (if t then at + 1 else at)
    by_case true e same = omega (arith, eqb-true index at e, same)
    by_case false e same =
        absurd (let no : true ≡ false = sym (eq-eqb index at same) ∙ e in cc)

test_from : (at index : ℕ) → at ≤ test_register at index
test_from at index = by_case (index == at)
  where
    by_case : (t : Bool) → at ≤ (if t then at + 1 else at)
    by_case true = omega arith
    by_case false = omega arith

-- a / 1 is a, and a / 0 is none
worked_within : (a b : ℕ) → worked_out Div a (bit (nat_lt a b)) ≡ worked_out Within a b
unfolding lacks is_division operation_value
worked_within a b = by_test (nat_lt a b)
  where
    by_test : (t : Bool) → (if true && (bit t == 0) then None else Some (a / bit t))
        ≡ (if not t then None else Some a)
    by_test true = ap Some (div-one a)
    by_test false = refl

module _ (memory : ℕ → ℕ) (i at : ℕ) where
  index_of : (index : ℕ) (bound : Operand) (a b : ℕ) (held : Registers) → at < 3 →
      test_register at index < 3 → held index ≡ a → operand_value held bound ≡ b →
      ComputesTo memory i held at (index_code at index bound) (worked_out Within a b)
  index_of index bound a b held lt less e f =
      let test : ℕ = test_register at index in
      let divided : Instr = instr.Div at index (Register test) in
      let now : Registers = put test (bit (nat_lt a b)) held in
      after_put memory i at test (bit (nat_lt a b)) (divided ∷ []) (index_code at index bound) held
      (worked_out Within a b)
      (λ k. after_all memory i (divided ∷ []) (put test (bit (nat_lt (e k) (f k))) held))
      (not_kept memory i at test (test_from at index) less)
      (by_one memory i at divided now (worked_out Within a b) lt
      (one_divides memory i at Div index (Register test) now tt
      ∙ ap (λ o. option_map (λ v. put at v now) o)
      (ap (λ v. worked_out Div v (now test))
      (put_other test (bit (nat_lt a b)) index held (test_beside at index) ∙ e)
      ∙ ap (λ v. worked_out Div a v) (put_same test (bit (nat_lt a b)) held)
      ∙ worked_within a b)))

  within_of : (a b : ℕ) (held : Registers) (first second : Operand) → Operands at i a b held first second →
      is_shallow (within_code at first second) ≡ true →
      ComputesTo memory i held at (within_code at first second) (worked_out Within a b)
  unfolding within_code
  within_of a b held (Register register) second c shallow =
      index_of register second a b held c.below
      (shallow_target (instr.Lt (test_register at register) register second)
      (instr.Div at register (Register (test_register at register)) ∷ []) shallow)
      c.first_is c.second_is
  within_of a b held (Number number) second c shallow =
      let spare : ℕ = at + taken_by second in
      let test : ℕ = test_register at spare in
      let one : Instr = instr.Set spare number in
      let code : List Instr = index_code at spare second in
      let less : at + taken_by second < 3 = shallow_target one code shallow in
      after_put memory i at spare number code (one ∷ code) held (worked_out Within a b) refl
      (not_kept memory i at spare (omega arith) less)
      (index_of spare second a b (put spare number held) c.below
      (shallow_target (instr.Lt test spare second) (instr.Div at spare (Register test) ∷ [])
      (shallow_rest one code shallow))
      (put_same spare number held ∙ c.first_is)
      (operand_kept at number held second c.below less
      (first_apart at (Number number) second c.second_at) ∙ c.second_is))

-- ---- all operations

pub computes_found : (op : Op) (are_truths : Bool) (memory : ℕ → ℕ) (i at a b : ℕ)
    (held : Registers) (first second : Operand) → Operands at i a b held first second →
    (are_truths ≡ true → IsTruth a × IsTruth b) →
    is_shallow (operation_code at op are_truths first second) ≡ true →
    ComputesTo memory i held at (operation_code at op are_truths first second) (worked_out op a b)
unfolding operation_code native lacks is_division
computes_found Div t memory i at a b held first second c truths shallow =
    divides memory i at Div a b first second held tt c.below
    (first_apart at first second c.second_at) c.first_is c.second_is shallow
computes_found Rem t memory i at a b held first second c truths shallow =
    divides memory i at Rem a b first second held tt c.below
    (first_apart at first second c.second_at) c.first_is c.second_is shallow
computes_found Within t memory i at a b held first second c truths shallow =
    within_of memory i at a b held first second c shallow
computes_found op t memory i at a b held first second c truths shallow =
    computes_operation op t memory i at a b held first second tt c truths shallow
