-- The code of an operation computes its value.
use Rattle.std.proofs.Common.{◌≡◌, ◌≢◌, ℕ, ◌+◌, ◌%◌, ◌^◌, ◌<◌, ◌⊎◌}
use Rattle.std.proofs.Common.{true, false, [], ◌∷◌, Some, refl, sym, ap, ◌∙◌, subst}
use Rattle.std.proofs.Common.{inl, inr, ⊎_elim, arith, if◌then◌else◌}
use Rattle.std.proofs.Math.Nat.{add_comm, mul_comm}
use Rattle.std.proofs.lemmas.Nat.{and_comm, or_comm, xor_comm}
use Rattle.std.proofs.lemmas.Bool.{lt-ltb, cases_Bool}
use Rattle.std.specs.Option.{option_and_then}
use Rattle.pram_job.specs.declared.instr.Instr.{Instr}
use Rattle.pram_job.specs.declared.instr.Instr.TheVariants as instr
use Rattle.pram_job.specs.declared.instr.Operand.{Operand}
use Rattle.pram_job.specs.declared.instr.Operand.TheVariants.{Register, Number}
use Rattle.pardo_program.specs.declared.operation.Op.{Op}
use Rattle.pardo_program.specs.declared.operation.Op.TheVariants.{Add, Sub, Mul, Div, Rem, Shl, Shr}
use Rattle.pardo_program.specs.declared.operation.Op.TheVariants.{BitAnd, BitOr, BitXor, Eq, Ne}
use Rattle.pardo_program.specs.declared.operation.Op.TheVariants.{Lt, Le, Gt, Ge, And, Or, Min, Max}
use Rattle.pardo_program.specs.declared.operation.Op.TheVariants.{Within}
use Rattle.pardo_program.specs.Operations.{bit, operation_value}
use Rattle.pardo_job.specs.Operations.{native, in_order, is_turned, instruction_of}
use Rattle.pardo_job.specs.Operations.{taken_by, is_shallow}
use Rattle.pardo_job.specs.Straight.{Registers, put, operand_value, after_one, after_all, Computes}
use Rattle.pardo_job.proofs.Straight.{put_same, put_other, computes_one}
use Rattle.pardo_job.proofs.Shallow.{shallow_target, shallow_rest, instruction_target}

-- ---- one instruction

-- an operation that is one instruction
abbrev pub IsNative : Op → Type 0
IsNative Add = Unit {0}
IsNative Sub = Unit {0}
IsNative Mul = Unit {0}
IsNative Shl = Unit {0}
IsNative Shr = Unit {0}
IsNative BitAnd = Unit {0}
IsNative BitOr = Unit {0}
IsNative BitXor = Unit {0}
IsNative Eq = Unit {0}
IsNative Lt = Unit {0}
IsNative Gt = Unit {0}
IsNative _ = ⊥

-- the operation whose instruction it has
abbrev pub mirrored : Op → Op
mirrored Gt = Lt
mirrored op = op

one_value : (memory : ℕ → ℕ) (i at first : ℕ) (second : Operand) (held : Registers) (op : Op) →
    IsNative op → after_one memory i (instruction_of op at first second) held
    ≡ Some (put at (operation_value (mirrored op) (held first) (operand_value held second)) held)
unfolding operation_value
one_value memory i at first second held Add is = refl
one_value memory i at first second held Sub is = refl
one_value memory i at first second held Mul is = refl
one_value memory i at first second held Div is = absurd is
one_value memory i at first second held Rem is = absurd is
one_value memory i at first second held Shl is = refl
one_value memory i at first second held Shr is = refl
one_value memory i at first second held BitAnd is = refl
one_value memory i at first second held BitOr is = refl
one_value memory i at first second held BitXor is = refl
one_value memory i at first second held Eq is = refl
one_value memory i at first second held Ne is = absurd is
one_value memory i at first second held Lt is = refl
one_value memory i at first second held Le is = absurd is
one_value memory i at first second held Gt is = refl
one_value memory i at first second held Ge is = absurd is
one_value memory i at first second held And is = absurd is
one_value memory i at first second held Or is = absurd is
one_value memory i at first second held Min is = absurd is
one_value memory i at first second held Max is = absurd is
one_value memory i at first second held Within is = absurd is

-- ---- where operands are

-- A number that comes into a register overwrites no operand: the other one is in `at`, or the own
-- number.
abbrev pub IsApart : ℕ → Operand → Operand → Type 0
IsApart at (Number number) (Register register) = (register ≡ at) ⊎ (register ≡ 3)
IsApart at _ _ = Unit {0}

-- the register after those of an operand is not that operand's
taken_at : (at : ℕ) → at < 3 → taken_by (Register at) ≡ 1
taken_at at lt = ap (λ b. if b then 1 else 0) (lt-ltb at 3 lt)

spare_apart : (at register : ℕ) → at < 3 → at + taken_by (Register register) < 3 →
    (register ≡ at) ⊎ (register ≡ 3) → register ≢ at + taken_by (Register register)
spare_apart at register lt less (inl same) e =
    let one : taken_by (Register register) ≡ 1 = ap (λ r. taken_by (Register r)) same ∙
    taken_at at lt in
    omega arith
spare_apart at register lt less (inr own) e = omega arith

pub operand_kept : (at number : ℕ) (held : Registers) (other : Operand) → at < 3 →
    at + taken_by other < 3 → IsApart at (Number number) other →
    operand_value (put (at + taken_by other) number held) other ≡ operand_value held other
operand_kept at number held (Number other) lt less apart = refl
operand_kept at number held (Register register) lt less apart =
    put_other (at + taken_by (Register register)) number register held
    (spare_apart at register lt less apart)

-- ---- one operation

ordered_number : (memory : ℕ → ℕ) (i at number b : ℕ) (second : Operand) (held : Registers)
    (op : Op) →
    IsNative op → IsApart at (Number number) second → operand_value held second ≡ b →
    at < 3 → at + taken_by second < 3 →
    Computes memory i held at (in_order at op (Number number) second)
    (operation_value (mirrored op) number b)
ordered_number memory i at number b second held op is apart e lt less =
    let spare : ℕ = at + taken_by second in
    let held1 : Registers = put spare number held in
    let same : held1 spare ≡ number = put_same spare number held in
    let other : operand_value held1 second ≡ b = operand_kept at number held second lt less apart ∙
    e in
    let v : ℕ = operation_value (mirrored op) (held1 spare) (operand_value held1 second) in
    let is_v : v ≡ operation_value (mirrored op) number b =
    ap (λ x. operation_value (mirrored op) x (operand_value held1 second)) same
    ∙ ap (operation_value (mirrored op) number) other in
    record {
      now = put at v held1;
      runs = ap (option_and_then (after_all memory i []))
          (one_value memory i at spare second held1 op is);
      gives = put_same at v held1 ∙ is_v;
      keeps = λ which kept.
          let apart_at : which ≢ at = λ h. ⊎_elim (λ (k : which < at). omega arith)
          (λ (k : which ≡ 3). omega arith) kept in
          let apart_spare : which ≢ at + taken_by second =
          λ h. ⊎_elim (λ (k : which < at). omega arith) (λ (k : which ≡ 3). omega arith) kept in
          put_other at v which held1 apart_at ∙ put_other spare number which held apart_spare;
    }

ordered : (memory : ℕ → ℕ) (i at a b : ℕ) (first second : Operand) (held : Registers) (op : Op) →
    IsNative op → IsApart at first second → operand_value held first ≡ a → operand_value held second ≡ b →
    is_shallow (in_order at op first second) ≡ true →
    Computes memory i held at (in_order at op first second) (operation_value (mirrored op) a b)
ordered memory i at a b (Number number) second held op is apart e f shallow =
    let spare : ℕ = at + taken_by second in
    let set : Instr = instr.Set spare number in
    let one : Instr = instruction_of op at spare second in
    let spare_lt : at + taken_by second < 3 = shallow_target set (one ∷ []) shallow in
    let at_lt : at < 3 = subst (λ t. t < 3) (instruction_target op at spare second)
    (shallow_target one [] (shallow_rest set (one ∷ []) shallow)) in
    subst (λ x. Computes memory i held at (in_order at op (Number number) second)
    (operation_value (mirrored op) x b)) e
    (ordered_number memory i at number b second held op is apart f at_lt spare_lt)
ordered memory i at a b (Register register) second held op is apart e f shallow =
    let at_lt : at < 3 = subst (λ t. t < 3) (instruction_target op at register second)
    (shallow_target (instruction_of op at register second) [] shallow) in
    computes_one memory i held at (operation_value (mirrored op) a b)
    (instruction_of op at register second) at_lt
    (one_value memory i at register second held op is
    ∙ ap (λ x. Some (put at (operation_value (mirrored op) x (operand_value held second)) held)) e
    ∙ ap (λ x. Some (put at (operation_value (mirrored op) a x) held)) f)

-- an operation that may change its operands' places
turned_value : (op : Op) (first : Operand) (a b : ℕ) → IsNative op → is_turned op first ≡ true →
    operation_value (mirrored op) b a ≡ operation_value op a b
unfolding operation_value
turned_value Add first a b is e = ap (λ v. v % 2 ^ 32) (add_comm b a)
turned_value Sub first a b is e = absurd (let no : false ≡ true = e in cc)
turned_value Mul first a b is e = ap (λ v. v % 2 ^ 32) (mul_comm b a)
turned_value Div first a b is e = absurd is
turned_value Rem first a b is e = absurd is
turned_value Shl first a b is e = absurd (let no : false ≡ true = e in cc)
turned_value Shr first a b is e = absurd (let no : false ≡ true = e in cc)
turned_value BitAnd first a b is e = and_comm b a
turned_value BitOr first a b is e = or_comm b a
turned_value BitXor first a b is e = xor_comm b a
turned_value Eq first a b is e = ap bit (grind arith)
turned_value Ne first a b is e = absurd is
turned_value Lt first a b is e = absurd (let no : false ≡ true = e in cc)
turned_value Le first a b is e = absurd is
turned_value Gt first a b is e = refl
turned_value Ge first a b is e = absurd is
turned_value And first a b is e = absurd is
turned_value Or first a b is e = absurd is
turned_value Min first a b is e = absurd is
turned_value Max first a b is e = absurd is
turned_value Within first a b is e = absurd is

straight_value : (op : Op) (first : Operand) → is_turned op first ≡ false → mirrored op ≡ op
straight_value Add first e = refl
straight_value Sub first e = refl
straight_value Mul first e = refl
straight_value Div first e = refl
straight_value Rem first e = refl
straight_value Shl first e = refl
straight_value Shr first e = refl
straight_value BitAnd first e = refl
straight_value BitOr first e = refl
straight_value BitXor first e = refl
straight_value Eq first e = refl
straight_value Ne first e = refl
straight_value Lt first e = refl
straight_value Le first e = refl
straight_value Gt first e = absurd (let no : true ≡ false = e in cc)
straight_value Ge first e = refl
straight_value And first e = refl
straight_value Or first e = refl
straight_value Min first e = refl
straight_value Max first e = refl
straight_value Within first e = refl

pub computes_native : (memory : ℕ → ℕ) (i at a b : ℕ) (first second : Operand) (held : Registers)
    (op : Op) → IsNative op → IsApart at first second → IsApart at second first →
    operand_value held first ≡ a → operand_value held second ≡ b →
    is_shallow (native at op first second) ≡ true →
    Computes memory i held at (native at op first second) (operation_value op a b)
unfolding native
computes_native memory i at a b first second held op is apart apart_too e f shallow =
    ⊎_elim
    (λ (turned : is_turned op first ≡ true).
    let same : native at op first second ≡ in_order at op second first =
    ap (λ t. if t then in_order at op second first else in_order at op first second) turned in
    subst (λ code. Computes memory i held at code (operation_value op a b)) (sym same)
    (subst (λ v. Computes memory i held at (in_order at op second first) v)
    (turned_value op first a b is turned)
    (ordered memory i at b a second first held op is apart_too f e
    (ap is_shallow (sym same) ∙ shallow))))
    (λ (straight : is_turned op first ≡ false).
    let same : native at op first second ≡ in_order at op first second =
    ap (λ t. if t then in_order at op second first else in_order at op first second) straight in
    subst (λ code. Computes memory i held at code (operation_value op a b)) (sym same)
    (subst (λ o. Computes memory i held at (in_order at op first second) (operation_value o a b))
    (straight_value op first straight)
    (ordered memory i at a b first second held op is apart e f
    (ap is_shallow (sym same) ∙ shallow))))
    (cases_Bool (is_turned op first))
