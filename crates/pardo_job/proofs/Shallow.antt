-- Code that gives values to the registers for values alone.
use Rattle.std.proofs.Common.{◌≡◌, ℕ, ◌<◌, Bool, true, false, ◌&&◌, List, ◌∷◌, ◌++◌, refl, sym, ◌∙◌}
use Rattle.std.proofs.Common.{nat_lt}
use Rattle.std.proofs.lemmas.Bool.{ltb-true}
use Rattle.std.proofs.lemmas.List.Folds.{list_all-append}
use Rattle.pram_job.specs.declared.instr.Instr.{Instr}
use Rattle.pram_job.specs.declared.instr.Operand.{Operand}
use Rattle.pardo_program.specs.declared.operation.Op.{Op}
use Rattle.pardo_program.specs.declared.operation.Op.TheVariants.{Add, Sub, Mul, Div, Rem, Shl, Shr}
use Rattle.pardo_program.specs.declared.operation.Op.TheVariants.{BitAnd, BitOr, BitXor, Eq, Ne}
use Rattle.pardo_program.specs.declared.operation.Op.TheVariants.{Lt, Le, Gt, Ge, And, Or, Min, Max}
use Rattle.pardo_program.specs.declared.operation.Op.TheVariants.{Within}
use Rattle.pardo_job.specs.Operations.{is_shallow, target_of, instruction_of}

both_front : (a b : Bool) → (a && b) ≡ true → a ≡ true
both_front true b e = refl
both_front false b e = e

both_back : (a b : Bool) → (a && b) ≡ true → b ≡ true
both_back true b e = e
both_back false b e = absurd (let no : false ≡ true = e in cc)

pub shallow_target : (one : Instr) (code : List Instr) → is_shallow (one ∷ code) ≡ true →
    target_of one < 3
shallow_target one code e =
    ltb-true (target_of one) 3 (both_front (nat_lt (target_of one) 3) (is_shallow code) e)

pub shallow_rest : (one : Instr) (code : List Instr) → is_shallow (one ∷ code) ≡ true →
    is_shallow code ≡ true
shallow_rest one code e = both_back (nat_lt (target_of one) 3) (is_shallow code) e

pub shallow_front : (front back : List Instr) → is_shallow (front ++ back) ≡ true →
    is_shallow front ≡ true
shallow_front front back e = both_front (is_shallow front) (is_shallow back)
    (sym (list_all-append (λ one. nat_lt (target_of one) 3) front back) ∙ e)

pub shallow_back : (front back : List Instr) → is_shallow (front ++ back) ≡ true →
    is_shallow back ≡ true
shallow_back front back e = both_back (is_shallow front) (is_shallow back)
    (sym (list_all-append (λ one. nat_lt (target_of one) 3) front back) ∙ e)

-- an operation's instruction gives its register a value
pub instruction_target : (op : Op) (at first : ℕ) (second : Operand) →
    target_of (instruction_of op at first second) ≡ at
instruction_target Add at first second = refl
instruction_target Sub at first second = refl
instruction_target Mul at first second = refl
instruction_target Div at first second = refl
instruction_target Rem at first second = refl
instruction_target Shl at first second = refl
instruction_target Shr at first second = refl
instruction_target BitAnd at first second = refl
instruction_target BitOr at first second = refl
instruction_target BitXor at first second = refl
instruction_target Eq at first second = refl
instruction_target Ne at first second = refl
instruction_target Lt at first second = refl
instruction_target Le at first second = refl
instruction_target Gt at first second = refl
instruction_target Ge at first second = refl
instruction_target And at first second = refl
instruction_target Or at first second = refl
instruction_target Min at first second = refl
instruction_target Max at first second = refl
instruction_target Within at first second = refl
