-- Three registers are enough for the pieces of an expression, and for what is left of it.
use Rattle.std.proofs.Common.{◌≡◌, ℕ, ◌+◌, ◌<◌, ◌≤◌, ◌==◌, ◌⊎◌, Bool, true, false}
use Rattle.std.proofs.Common.{◌&&◌, ◌||◌, not, List, [], ◌∷◌, ◌++◌, refl, sym, ap, ◌∙◌, subst}
use Rattle.std.proofs.Common.{inl, inr, arith, if◌then◌else◌, length, nat_lt}
use Rattle.std.specs.List.{All}
use Rattle.std.proofs.lemmas.Bool.{eq-eqb, eqb-true, le-leb, leb-true, lt-ltb, ne_eqb}
use Rattle.std.proofs.lemmas.List.Elements.{All-append, All-cons, All-nil}
use Rattle.pram_job.specs.declared.instr.Instr.{Instr}
use Rattle.pram_job.specs.declared.instr.Instr.TheVariants as instr
use Rattle.pram_job.specs.declared.instr.Operand.{Operand}
use Rattle.pram_job.specs.declared.instr.Operand.TheVariants.{Register, Number}
use Rattle.pram_job.specs.declared.instr.Place.TheVariants.{Named}
use Rattle.pardo_program.specs.declared.operation.Op.{Op}
use Rattle.pardo_program.specs.declared.operation.Op.TheVariants.{Add, Sub, Mul, Div, Rem, Shl, Shr}
use Rattle.pardo_program.specs.declared.operation.Op.TheVariants.{BitAnd, BitOr, BitXor, Eq, Ne}
use Rattle.pardo_program.specs.declared.operation.Op.TheVariants.{Lt, Le, Gt, Ge, And, Or, Min, Max}
use Rattle.pardo_program.specs.declared.operation.Op.TheVariants.{Within}
use Rattle.pardo_program.specs.Expression.{Tree, number, own, loop, private, place, apply}
use Rattle.pardo_flat.specs.Flat.{ShapeData, applied_shape, beside, computed_shape, first_need}
use Rattle.pardo_flat.specs.Flat.{has_room}
use Rattle.pardo_flat.specs.Flat.{is_beside}
use Rattle.pardo_flat.specs.Flat.{operation_need, shape_of, split, split_last, variable}
use Rattle.pardo_flat.specs.Flat.{registers_taken}
use Rattle.pardo_flat.specs.Layouts.{ProgramLayoutData, array_cells, loop_cells}
use Rattle.pardo_flat.specs.Layouts.{private_cells}
use Rattle.pardo_flat.specs.Flat.{gives_truth}
use Rattle.pardo_flat.proofs.Splitters.{shape-variable}
use Rattle.pardo_job.specs.Operations.{choice, chosen_of, conjunction, copy_code, first_chosen}
use Rattle.pardo_job.specs.Operations.{in_order, instruction_of, is_max, is_shallow}
use Rattle.pardo_job.specs.Operations.{is_turned, native, negation, operation_code}
use Rattle.pardo_job.specs.Operations.{register_or_spare, second_chosen, taken_by, target_of}
use Rattle.pardo_job.specs.Operations.{index_code, test_register, tested_in, within_code, zero_test}
use Rattle.pardo_job.specs.Values.{is_truth, own_load, takes, value_code}
use Rattle.pardo_job.specs.Values.{value_operand}
use Rattle.pardo_job.proofs.Choices.{taken_none, taken_one}
use Rattle.pardo_job.proofs.Emitting.{shallow_both}
use Rattle.pardo_job.proofs.Shallow.{instruction_target}

-- ---- instructions

-- one that gives this register a value
pub more : (one : Instr) (code : List Instr) (n : ℕ) → target_of one ≡ n → n < 3 →
    is_shallow code ≡ true → is_shallow (one ∷ code) ≡ true
more one code n is lt rest = ap (λ m. nat_lt m 3 && is_shallow code) is
    ∙ ap (λ t. t && is_shallow code) (lt-ltb n 3 lt) ∙ rest

pub both : (front back : List Instr) → is_shallow front ≡ true → is_shallow back ≡ true →
    is_shallow (front ++ back) ≡ true
both front back f b = shallow_both front back ∙ ap (λ t. t && is_shallow back) f ∙ b

-- ---- operands

-- the operand of an expression of this shape, from this register on
abbrev IsOf : ShapeData → ℕ → Operand → Type 0
IsOf shape at (Number k) = (shape.is_number ≡ true) × (shape.is_computed ≡ false)
IsOf shape at (Register register) =
    ((register ≡ at) × (register < 3) × (shape.is_computed ≡ true))
    ⊎ ((register ≡ 3) × (shape.is_computed ≡ false))

taken_as : (shape : ShapeData) (at : ℕ) (x : Operand) → IsOf shape at x →
    taken_by x ≡ registers_taken shape
taken_as shape at (Number k) is = sym (ap (λ b. if b then 1 else 0) is.1)
taken_as shape at (Register register) (inl here) =
    taken_one register here.1 ∙ sym (ap (λ b. if b then 1 else 0) here.2)
taken_as shape at (Register register) (inr own_one) =
    taken_none register own_one.0 ∙ sym (ap (λ b. if b then 1 else 0) own_one.1)

pub taken_few : (shape : ShapeData) → registers_taken shape ≤ 1
taken_few shape = few shape.is_computed
  where
    few : (b : Bool) → (if b then 1 else 0) ≤ 1
    few true = omega arith
    few false = omega arith

-- ---- operations

in_order_level : (at : ℕ) (op : Op) (x y : Operand) → at < 3 → at + taken_by y < 3 →
    is_shallow (in_order at op x y) ≡ true
in_order_level at op (Register register) y lt spare =
    more (instruction_of op at register y) [] at (instruction_target op at register y) lt refl
in_order_level at op (Number k) y lt spare =
    let s : ℕ = at + taken_by y in
    more (instr.Set s k) (instruction_of op at s y ∷ []) s refl spare
    (more (instruction_of op at s y) [] at (instruction_target op at s y) lt refl)

-- an operand that stands in a register needs no other
in_order_register : (at : ℕ) (op : Op) (register : ℕ) (y : Operand) → at < 3 →
    is_shallow (in_order at op (Register register) y) ≡ true
in_order_register at op register y lt =
    more (instruction_of op at register y) [] at (instruction_target op at register y) lt refl

-- those that are turned where a number stands first
abbrev pub Turns : Op → Type 0
Turns op = ((k : ℕ) → is_turned op (Number k) ≡ true)
    × ((register : ℕ) → is_turned op (Register register) ≡ false)

pub turned_level : (at : ℕ) (op : Op) → Turns op → (x y : Operand) → at < 3 →
    is_shallow (native at op x y) ≡ true
unfolding native
turned_level at op turns (Register register) y lt =
    ap (λ t. is_shallow (if t then in_order at op y (Register register)
    else in_order at op (Register register) y)) (turns.1 register)
    ∙ in_order_register at op register y lt
turned_level at op turns (Number k) y lt =
    ap (λ t. is_shallow (if t then in_order at op y (Number k)
    else in_order at op (Number k) y)) (turns.0 k)
    ∙ in_order_level at op y (Number k) lt (omega (arith, lt))

-- those that are never turned
fixed_level : (at : ℕ) (op : Op) → ((x : Operand) → is_turned op x ≡ false) → (x y : Operand) →
    at < 3 → ((k : ℕ) → x ≡ Number k → at + taken_by y < 3) →
    is_shallow (native at op x y) ≡ true
unfolding native
fixed_level at op fixed (Register register) y lt spare =
    ap (λ t. is_shallow (if t then in_order at op y (Register register)
    else in_order at op (Register register) y)) (fixed (Register register))
    ∙ in_order_register at op register y lt
fixed_level at op fixed (Number k) y lt spare =
    ap (λ t. is_shallow (if t then in_order at op y (Number k)
    else in_order at op (Number k) y)) (fixed (Number k))
    ∙ in_order_level at op (Number k) y lt (spare k refl)

-- `>` always is
greater_level : (at : ℕ) (x y : Operand) → at < 3 →
    ((k : ℕ) → y ≡ Number k → at + taken_by x < 3) →
    is_shallow (native at Gt x y) ≡ true
unfolding native
greater_level at x (Register register) lt spare = in_order_register at Gt register x lt
greater_level at x (Number k) lt spare = in_order_level at Gt (Number k) x lt (spare k refl)

negated : (at : ℕ) (code : List Instr) → at < 3 → is_shallow code ≡ true →
    is_shallow (code ++ negation at) ≡ true
negated at code lt shallow =
    both code (negation at) shallow (more (instr.Eq at at (Number 0)) [] at refl lt refl)

-- room for a number that stands first
spare_first : (at : ℕ) (a b : ShapeData) (up : ℕ) (x y : Operand) → IsOf a at x → IsOf b up y →
    at + first_need a b ≤ 3 → (k : ℕ) → x ≡ Number k → at + taken_by y < 3
spare_first at a b up x y is too few k e =
    let number_is : a.is_number ≡ true = (subst (IsOf a at) e is).0 in
    let one = taken_as b up y too in
    let need : first_need a b ≡ (if b.is_computed then 2 else 1) =
    ap (λ t. if t && b.is_computed then 2 else 1) number_is in
    by_taken b.is_computed (omega (arith, few, need)) one
  where
    by_taken : (t : Bool) → at + (if t then 2 else 1) ≤ 3 →
        taken_by y ≡ (if t then 1 else 0) → at + taken_by y < 3
    by_taken true less one = omega (arith, less, one)
    by_taken false less one = omega (arith, less, one)

-- an operand is tested: in its own register, or in a spare one
test_level : (shape : ShapeData) (at spare : ℕ) (x : Operand) → IsOf shape at x →
    (shape.is_computed ≡ false → spare < 3) →
    is_shallow (zero_test spare x) ≡ true
test_level shape at spare (Number k) is less =
    let lt = less is.1 in
    more (instr.Set spare k) (instr.Eq (tested_in spare spare) spare (Number 0) ∷ []) spare refl lt
    (more (instr.Eq (tested_in spare spare) spare (Number 0)) [] spare
    (tested (spare == 3)) lt refl)
  where
    tested : (b : Bool) → (if b then spare else spare) ≡ spare
    tested true = refl
    tested false = refl
test_level shape at spare (Register register) (inl here) less =
    more (instr.Eq (tested_in spare register) register (Number 0)) [] register
    (ap (λ b. if b then spare else register) (ne_eqb register 3 (λ e. omega (arith, e, here.1))))
    here.1 refl
test_level shape at spare (Register register) (inr own_one) less =
    more (instr.Eq (tested_in spare register) register (Number 0)) [] spare
    (ap (λ b. if b then spare else register) (eq-eqb register 3 own_one.0)) (less own_one.1) refl

-- two registers where one of the operands is not computed_shape
both_level : (at : ℕ) (a b : ShapeData) (x y : Operand) → IsOf a at x →
    IsOf b (at + registers_taken a) y → at < 3 →
    at + (if a.is_computed && b.is_computed then 1 else 2) ≤ 3 →
    is_shallow (conjunction at x y) ≡ true
unfolding conjunction
both_level at a b x y is too lt few =
    let first_spare : ℕ = at + taken_by y in
    let t : ℕ = tested_in first_spare (register_or_spare first_spare x) in
    let u : ℕ = tested_in (at + 1) (register_or_spare (at + 1) y) in
    let one = taken_as b (at + registers_taken a) y too in
    let less = taken_few b in
    both (zero_test first_spare x) (zero_test (at + 1) y ++ (instr.Or at t (Register u)
    ∷ negation at))
    (test_level a at first_spare x is (λ away. let low : at + 2 ≤ 3 =
    subst (λ c. at + (if c && b.is_computed then 1 else 2) ≤ 3) away few in
    omega (arith, low, one, less)))
    (both (zero_test (at + 1) y) (instr.Or at t (Register u) ∷ negation at)
    (test_level b (at + registers_taken a) (at + 1) y too (λ away. let low : at + 2 ≤ 3 =
    second_away a.is_computed (subst (λ c. at + (if a.is_computed && c then 1 else 2) ≤ 3) away
    few) in omega (arith, low)))
    (more (instr.Or at t (Register u)) (negation at) at refl lt
    (more (instr.Eq at at (Number 0)) [] at refl lt refl)))
  where
    second_away : (c : Bool) → at + (if c && false then 1 else 2) ≤ 3 → at + 2 ≤ 3
    second_away true less = less
    second_away false less = less

-- ---- the least and the greatest

chosen_level : (at : ℕ) (op : Op) (y : Operand) → at + 1 + taken_by y < 3 →
    is_shallow (chosen_of at op y) ≡ true
chosen_level at op y lt =
    let test : ℕ = at + 1 + taken_by y in
    let rest : List Instr =
    instr.Sub at at y ∷ (instr.Mul at at (Register test) ∷ (instr.Add at at y ∷ [])) in
    let low : at < 3 = omega (arith, lt) in
    let last : is_shallow rest ≡ true =
    more (instr.Sub at at y) (instr.Mul at at (Register test) ∷ (instr.Add at at y ∷ [])) at refl
    low (more (instr.Mul at at (Register test)) (instr.Add at at y ∷ []) at refl low
    (more (instr.Add at at y) [] at refl low refl)) in
    more (instr.Lt test at y) ((if is_max op then negation test else []) ++ rest) test refl lt
    (both (if is_max op then negation test else []) rest (maybe (is_max op)) last)
  where
    maybe : (b : Bool) → is_shallow (if b then negation (at + 1 + taken_by y) else []) ≡ true
    maybe true = more (instr.Eq (at + 1 + taken_by y) (at + 1 + taken_by y) (Number 0)) []
        (at + 1 + taken_by y) refl lt refl
    maybe false = refl

copy_level : (at : ℕ) (x : Operand) → at < 3 → is_shallow (copy_code at x) ≡ true
copy_level at (Number k) lt = more (instr.Set at k) [] at refl lt refl
copy_level at (Register register) lt = maybe (nat_lt register 3)
  where
    maybe : (b : Bool) → is_shallow (if b then [] else instr.Pid at ∷ []) ≡ true
    maybe true = refl
    maybe false = more (instr.Pid at) [] at refl lt refl

choice_level : (at : ℕ) (op : Op) (a b : ShapeData) (x y : Operand) → IsOf a at x →
    IsOf b (at + registers_taken a) y →
    at + (if a.is_computed && b.is_computed then 3 else 2) ≤ 3 →
    is_shallow (choice at op x y) ≡ true
unfolding choice
choice_level at op a b x y is too few =
    let one = taken_as a at x is in
    let other = taken_as b (at + registers_taken a) y too in
    let lt : at < 3 = least (a.is_computed && b.is_computed) few in
    both (copy_code at (first_chosen x y)) (chosen_of at op (second_chosen x y))
    (copy_level at (first_chosen x y) lt)
    (chosen_level at op (second_chosen x y)
    (chosen_second a.is_computed b.is_computed one other few))
  where
    least : (c : Bool) → at + (if c then 3 else 2) ≤ 3 → at < 3
    least true less = omega (arith, less)
    least false less = omega (arith, less)

    by_turn : (c d turn : Bool) → taken_by x ≡ (if c then 1 else 0) →
        taken_by y ≡ (if d then 1 else 0) →
        (((if c then 1 else 0) == 0) && ((if d then 1 else 0) == 1)) ≡ turn →
        at + 1 + taken_by (if turn then x else y) < 3 →
        at + 1 + taken_by (second_chosen x y) < 3
    by_turn c d turn one other e less =
        subst (λ t. at + 1 + taken_by (if t then x else y) < 3)
        (sym (ap (λ n. (n == 0) && (taken_by y == 1)) one
        ∙ ap (λ n. ((if c then 1 else 0) == 0) && (n == 1)) other ∙ e)) less

    chosen_second : (c d : Bool) → taken_by x ≡ (if c then 1 else 0) →
        taken_by y ≡ (if d then 1 else 0) → at + (if c && d then 3 else 2) ≤ 3 →
        at + 1 + taken_by (second_chosen x y) < 3
    chosen_second true true one other less =
        by_turn true true false one other refl (omega (arith, other, less))
    chosen_second true false one other less =
        by_turn true false false one other refl (omega (arith, other, less))
    chosen_second false true one other less =
        by_turn false true true one other refl (omega (arith, one, less))
    chosen_second false false one other less =
        by_turn false false false one other refl (omega (arith, other, less))

-- ---- the test of an index

taken_small : (operand : Operand) → taken_by operand ≤ 1
taken_small (Number k) = omega arith
taken_small (Register register) = few (nat_lt register 3)
  where
    few : (b : Bool) → (if b then 1 else 0) ≤ 1
    few true = omega arith
    few false = omega arith

index_level : (at index : ℕ) (y : Operand) → at < 3 → test_register at index < 3 →
    is_shallow (index_code at index y) ≡ true
index_level at index y lt test =
    let register : ℕ = test_register at index in
    more (instr.Lt register index y) (instr.Div at index (Register register) ∷ []) register refl test
    (more (instr.Div at index (Register register)) [] at refl lt refl)

-- the register of the test is `at`, or the one after it
test_low : (at index : ℕ) → at + 2 ≤ 3 → test_register at index < 3
test_low at index less = by_case (index == at)
  where
    by_case : (t : Bool) → (if t then at + 1 else at) < 3
    by_case true = omega (arith, less)
    by_case false = omega (arith, less)

within_level : (at : ℕ) (a b : ShapeData) (x y : Operand) → IsOf a at x →
    IsOf b (at + registers_taken a) y → at + (if a.is_computed || a.is_number then 2 else 1) ≤ 3 →
    is_shallow (within_code at x y) ≡ true
unfolding within_code
within_level at a b (Number k) y is too few =
    let less : at + 2 ≤ 3 = for_number a.is_computed a.is_number is.1 is.0 few in
    let spare : ℕ = at + taken_by y in
    more (instr.Set spare k) (index_code at spare y) spare refl (omega (arith, less, taken_small y))
    (index_level at spare y (omega (arith, less)) (test_low at spare less))
  where
    for_number : (c n : Bool) → c ≡ false → n ≡ true → at + (if c || n then 2 else 1) ≤ 3 →
        at + 2 ≤ 3
    for_number false true e f less = less
    for_number true n e f less = absurd (let no : true ≡ false = e in cc)
    for_number false false e f less = absurd (let no : false ≡ true = f in cc)
within_level at a b (Register register) y (inl here) too few =
    let less : at + 2 ≤ 3 = for_computed a.is_computed a.is_number here.2 few in
    index_level at register y (omega (arith, less)) (test_low at register less)
  where
    for_computed : (c n : Bool) → c ≡ true → at + (if c || n then 2 else 1) ≤ 3 → at + 2 ≤ 3
    for_computed true n e less = less
    for_computed false n e less = absurd (let no : false ≡ true = e in cc)
within_level at a b (Register register) y (inr own_one) too few =
    let lt : at < 3 = for_own (a.is_computed || a.is_number) few in
    index_level at register y lt
    (subst (λ r. test_register at r < 3) (sym own_one.0) (by_case (3 == at) refl lt))
  where
    for_own : (t : Bool) → at + (if t then 2 else 1) ≤ 3 → at < 3
    for_own true less = omega (arith, less)
    for_own false less = omega (arith, less)

    by_case : (t : Bool) → (3 == at) ≡ t → at < 3 → (if t then at + 1 else at) < 3
    by_case true e lt = absurd (omega (arith, eqb-true 3 at e, lt))
    by_case false e lt = lt

-- ---- each operation

truths_level : (t : Bool) (at : ℕ) (a b : ShapeData) (x y : Operand) → IsOf a at x →
    IsOf b (at + registers_taken a) y → at < 3 →
    at + (if t || (a.is_computed && b.is_computed) then 1 else 2) ≤ 3 →
    is_shallow (if t then native at BitAnd x y else conjunction at x y) ≡ true
truths_level true at a b x y is too lt few =
    turned_level at BitAnd ((λ k. refl), (λ register. refl)) x y lt
truths_level false at a b x y is too lt few = both_level at a b x y is too lt few

doubled : (t : Bool) (at : ℕ) (code : List Instr) → at < 3 → is_shallow code ≡ true →
    is_shallow (code ++ (if t then [] else negation at ++ negation at)) ≡ true
doubled true at code lt shallow = both code [] shallow refl
doubled false at code lt shallow = both code (negation at ++ negation at) shallow
    (more (instr.Eq at at (Number 0)) (negation at) at refl lt
    (more (instr.Eq at at (Number 0)) [] at refl lt refl))

some_need : (op : Op) (a b : ShapeData) → 1 ≤ operation_need op a b
unfolding operation_need
some_need op a b = by_op op
  where
    least : (c : Bool) (m n : ℕ) → 1 ≤ m → 1 ≤ n → 1 ≤ (if c then m else n)
    least true m n p q = p
    least false m n p q = q

    by_op : (o : Op) → 1 ≤ operation_need o a b
    by_op Sub = least (a.is_number && b.is_computed) 2 1 (omega arith) (omega arith)
    by_op Div = least (a.is_number && b.is_computed) 2 1 (omega arith) (omega arith)
    by_op Rem = least (a.is_number && b.is_computed) 2 1 (omega arith) (omega arith)
    by_op Shl = least (a.is_number && b.is_computed) 2 1 (omega arith) (omega arith)
    by_op Shr = least (a.is_number && b.is_computed) 2 1 (omega arith) (omega arith)
    by_op Lt = least (a.is_number && b.is_computed) 2 1 (omega arith) (omega arith)
    by_op Ge = least (a.is_number && b.is_computed) 2 1 (omega arith) (omega arith)
    by_op Gt = least (b.is_number && a.is_computed) 2 1 (omega arith) (omega arith)
    by_op Le = least (b.is_number && a.is_computed) 2 1 (omega arith) (omega arith)
    by_op And = least ((a.is_truth && b.is_truth) || (a.is_computed && b.is_computed)) 1 2
        (omega arith) (omega arith)
    by_op Min = least (a.is_computed && b.is_computed) 3 2 (omega arith) (omega arith)
    by_op Max = least (a.is_computed && b.is_computed) 3 2 (omega arith) (omega arith)
    by_op Add = omega arith
    by_op Mul = omega arith
    by_op BitAnd = omega arith
    by_op BitOr = omega arith
    by_op BitXor = omega arith
    by_op Eq = omega arith
    by_op Ne = omega arith
    by_op Or = omega arith
    by_op Within = least (a.is_computed || a.is_number) 2 1 (omega arith) (omega arith)

few_need : (op : Op) (a b : ShapeData) → operation_need op a b ≤ 3
unfolding operation_need
few_need op a b = by_op op
  where
    most : (c : Bool) (m n : ℕ) → m ≤ 3 → n ≤ 3 → (if c then m else n) ≤ 3
    most true m n p q = p
    most false m n p q = q

    by_op : (o : Op) → operation_need o a b ≤ 3
    by_op Sub = most (a.is_number && b.is_computed) 2 1 (omega arith) (omega arith)
    by_op Div = most (a.is_number && b.is_computed) 2 1 (omega arith) (omega arith)
    by_op Rem = most (a.is_number && b.is_computed) 2 1 (omega arith) (omega arith)
    by_op Shl = most (a.is_number && b.is_computed) 2 1 (omega arith) (omega arith)
    by_op Shr = most (a.is_number && b.is_computed) 2 1 (omega arith) (omega arith)
    by_op Lt = most (a.is_number && b.is_computed) 2 1 (omega arith) (omega arith)
    by_op Ge = most (a.is_number && b.is_computed) 2 1 (omega arith) (omega arith)
    by_op Gt = most (b.is_number && a.is_computed) 2 1 (omega arith) (omega arith)
    by_op Le = most (b.is_number && a.is_computed) 2 1 (omega arith) (omega arith)
    by_op And = most ((a.is_truth && b.is_truth) || (a.is_computed && b.is_computed)) 1 2
        (omega arith) (omega arith)
    by_op Min = most (a.is_computed && b.is_computed) 3 2 (omega arith) (omega arith)
    by_op Max = most (a.is_computed && b.is_computed) 3 2 (omega arith) (omega arith)
    by_op Add = omega arith
    by_op Mul = omega arith
    by_op BitAnd = omega arith
    by_op BitOr = omega arith
    by_op BitXor = omega arith
    by_op Eq = omega arith
    by_op Ne = omega arith
    by_op Or = omega arith
    by_op Within = most (a.is_computed || a.is_number) 2 1 (omega arith) (omega arith)

module _ (at : ℕ) (a b : ShapeData) (x y : Operand) (is : IsOf a at x)
    (too : IsOf b (at + registers_taken a) y) where
  abbrev spare_x : at + first_need a b ≤ 3 → (k : ℕ) → x ≡ Number k → at + taken_by y < 3
  spare_x few k e = spare_first at a b (at + registers_taken a) x y is too few k e

  first_low : at + first_need a b ≤ 3 → at < 3
  first_low few = low (a.is_number && b.is_computed) few
    where
      low : (c : Bool) → at + (if c then 2 else 1) ≤ 3 → at < 3
      low true less = omega (arith, less)
      low false less = omega (arith, less)

  second_low : at + first_need b a ≤ 3 → at < 3
  second_low few = low (b.is_number && a.is_computed) few
    where
      low : (c : Bool) → at + (if c then 2 else 1) ≤ 3 → at < 3
      low true less = omega (arith, less)
      low false less = omega (arith, less)

  -- room for the second operand, if it is a number
  spare_y : at + first_need b a ≤ 3 → (k : ℕ) → y ≡ Number k → at + taken_by x < 3
  spare_y few k e =
      let number_is : b.is_number ≡ true = (subst (IsOf b (at + registers_taken a)) e too).0 in
      let one = taken_as a at x is in
      let need : first_need b a ≡ (if a.is_computed then 2 else 1) =
      ap (λ t. if t && a.is_computed then 2 else 1) number_is in
      by_taken a.is_computed (omega (arith, few, need)) one
    where
      by_taken : (t : Bool) → at + (if t then 2 else 1) ≤ 3 →
          taken_by x ≡ (if t then 1 else 0) → at + taken_by x < 3
      by_taken true less one = omega (arith, less, one)
      by_taken false less one = omega (arith, less, one)

  fixed : (op : Op) → ((z : Operand) → is_turned op z ≡ false) → at + first_need a b ≤ 3 →
      is_shallow (native at op x y) ≡ true
  fixed op never few =
      fixed_level at op never x y (first_low few) (λ k e. spare_x few k e)

  turned : (op : Op) → Turns op → at + 1 ≤ 3 → is_shallow (native at op x y) ≡ true
  turned op turns few = turned_level at op turns x y (omega (arith, few))

  greater : at + first_need b a ≤ 3 → is_shallow (native at Gt x y) ≡ true
  greater few = greater_level at x y (second_low few) (λ k e. spare_y few k e)

  operation_level : (op : Op) → at + operation_need op a b ≤ 3 →
      is_shallow (operation_code at op (a.is_truth && b.is_truth) x y) ≡ true
  unfolding operation_code operation_need
  operation_level Add few = turned Add ((λ k. refl), (λ register. refl)) few
  operation_level Mul few = turned Mul ((λ k. refl), (λ register. refl)) few
  operation_level BitAnd few = turned BitAnd ((λ k. refl), (λ register. refl)) few
  operation_level BitOr few = turned BitOr ((λ k. refl), (λ register. refl)) few
  operation_level BitXor few = turned BitXor ((λ k. refl), (λ register. refl)) few
  operation_level Eq few = turned Eq ((λ k. refl), (λ register. refl)) few
  operation_level Ne few = negated at (native at Eq x y) (omega (arith, few))
      (turned Eq ((λ k. refl), (λ register. refl)) few)
  operation_level Sub few = fixed Sub (λ z. refl) few
  operation_level Div few = fixed Div (λ z. refl) few
  operation_level Rem few = fixed Rem (λ z. refl) few
  operation_level Shl few = fixed Shl (λ z. refl) few
  operation_level Shr few = fixed Shr (λ z. refl) few
  operation_level Lt few = fixed Lt (λ z. refl) few
  operation_level Ge few =
      negated at (native at Lt x y) (first_low few) (fixed Lt (λ z. refl) few)
  operation_level Gt few = greater few
  operation_level Le few = negated at (native at Gt x y) (second_low few) (greater few)
  operation_level Or few =
      doubled (a.is_truth && b.is_truth) at (native at BitOr x y) (omega (arith, few))
      (turned BitOr ((λ k. refl), (λ register. refl)) few)
  operation_level And few = truths_level (a.is_truth && b.is_truth) at a b x y is too
      (let e = some_need And a b in omega (arith, few, e)) few
  operation_level Min few = choice_level at Min a b x y is too few
  operation_level Max few = choice_level at Max a b x y is too few
  operation_level Within few = within_level at a b x y is too few

-- ---- expressions

pub takes_as : (tree : Tree) → takes tree ≡ registers_taken (shape_of tree)
unfolding applied_shape
takes_as (number k) = refl
takes_as own = refl
takes_as (loop nest) = refl
takes_as (private x) = refl
takes_as (place array index) = refl
takes_as (apply op first second) = refl

truth_as : (tree : Tree) → is_truth tree ≡ (shape_of tree).is_truth
unfolding applied_shape
truth_as (number k) = refl
truth_as own = refl
truth_as (loop nest) = refl
truth_as (private x) = refl
truth_as (place array index) = refl
truth_as (apply op first second) =
    ap (λ t. gives_truth op (t && is_truth second)) (truth_as first)
    ∙ ap (λ t. gives_truth op ((shape_of first).is_truth && t)) (truth_as second)

operand_of : (tree : Tree) (at : ℕ) → at + (shape_of tree).need ≤ 3 →
    IsOf (shape_of tree) at (value_operand at tree)
unfolding applied_shape
operand_of (number k) at few = (refl, refl)
operand_of own at few = inr (refl, refl)
operand_of (loop nest) at few = inl (refl, omega (arith, few), refl)
operand_of (private x) at few = inl (refl, omega (arith, few), refl)
operand_of (place array index) at few = inl (refl, omega (arith, few), refl)
operand_of (apply op first second) at few =
    let some = some_need op (shape_of first) (shape_of second) in
    inl (refl, omega (arith, few, some), refl)

pub room_is_enough : (layout : ProgramLayoutData) (tree : Tree) (at : ℕ) →
    at + (shape_of tree).need ≤ 3 → is_shallow (value_code layout at tree) ≡ true
unfolding applied_shape
room_is_enough layout (number k) at few = refl
room_is_enough layout own at few = refl
room_is_enough layout (loop nest) at few =
    more (own_load at (loop_cells layout nest)) [] at refl (omega (arith, few)) refl
room_is_enough layout (private x) at few =
    more (own_load at (private_cells layout x)) [] at refl (omega (arith, few)) refl
room_is_enough layout (place array index) at few =
    let load : Instr = instr.Ld at (Named (array_cells layout array) (value_operand at index)) in
    both (value_code layout at index) (load ∷ [])
    (room_is_enough layout index at (omega (arith, few)))
    (more load [] at refl (omega (arith, few)) refl)
room_is_enough layout (apply op first second) at few =
    let a = shape_of first in
    let b = shape_of second in
    let same = takes_as first in
    let up : ℕ = at + registers_taken a in
    let truths : (is_truth first && is_truth second) ≡ (a.is_truth && b.is_truth) =
    ap (λ t. t && is_truth second) (truth_as first) ∙ ap (λ t. a.is_truth && t) (truth_as second)
    in
    let x = value_operand at first in
    let one : at + a.need ≤ 3 = omega (arith, few) in
    let other : up + b.need ≤ 3 = omega (arith, few) in
    let code : ℕ → Bool → List Instr = λ n t. value_code layout at first
    ++ (value_code layout n second ++ operation_code at op t x (value_operand n second)) in
    ap (λ n. is_shallow (code n (is_truth first && is_truth second)))
    (let e : at + takes first ≡ up = omega (arith, same) in e)
    ∙ ap (λ t. is_shallow (code up t)) truths
    ∙ both (value_code layout at first)
    (value_code layout up second
    ++ operation_code at op (a.is_truth && b.is_truth) x (value_operand up second))
    (room_is_enough layout first at one)
    (both (value_code layout up second)
    (operation_code at op (a.is_truth && b.is_truth) x (value_operand up second))
    (room_is_enough layout second up other)
    (operation_level at a b x (value_operand up second) (operand_of first at one)
    (operand_of second up other) op (omega (arith, few))))

-- ---- what is left of an expression, and its pieces

computes : (shape : ShapeData) → shape.need ≤ 3 → has_room 0 shape ≡ true
computes shape few = le-leb (0 + shape.need) 3 (omega (arith, few))

-- nothing is split off where three registers are enough
pub split_small : (common : Bool) (t : ℕ) (tree : Tree) → (shape_of tree).need ≤ 3 → split common t tree ≡ ([], tree)
unfolding applied_shape
split_small common t (number k) few = refl
split_small common t own few = refl
split_small common t (loop nest) few = refl
split_small common t (private x) few = refl
split_small common t (place array index) few =
    ap (λ (s : List Tree × Tree). (s.0, place array s.1)) (split_small common t index (omega (arith, few)))
split_small common t (apply op first second) few =
    let a = shape_of first in
    let b = shape_of second in
    let left = split common t first in
    let u : ℕ = t + length left.0 in
    let one : left ≡ ([], first) = split_small common t first (omega (arith, few)) in
    let other : split common u second ≡ ([], second) = split_small common u second (omega (arith, few)) in
    let room : is_beside op (shape_of left.1) b ≡ true =
    ap (λ (s : List Tree × Tree). is_beside op (shape_of s.1) b) one
    ∙ ap (λ r. not a.is_computed || r) (computes (applied_shape op a b) few)
    ∙ or_true (not a.is_computed) in
    let joined : Bool → List Tree × Tree → List Tree × Tree → List Tree × Tree =
    λ r s q. ((beside common t r s q).0, apply op (beside common t r s q).1 (beside common t r s q).2) in
    ap (λ r. joined r left (split common u second)) room
    ∙ ap (λ (s : List Tree × Tree). joined true s (split common u second)) one
    ∙ ap (λ (s : List Tree × Tree). joined true ([], first) s) other
  where
    or_true : (c : Bool) → (c || true) ≡ true
    or_true true = refl
    or_true false = refl

abbrev pub IsSmall : Tree → Type 0
IsSmall tree = (shape_of tree).need ≤ 3

-- all pieces and what is left are small
abbrev pub AreSmall : List Tree × Tree → Type 0
AreSmall parts = All IsSmall parts.0 × IsSmall parts.1

-- an operation whose operands have room
joins_small : (op : Op) (a b : ShapeData) → a.need ≤ 3 → registers_taken a + b.need ≤ 3 →
    (applied_shape op a b).need ≤ 3
unfolding applied_shape
joins_small op a b one other = let e = few_need op a b in omega (arith, one, other, e)

pub split_are_small : (common : Bool) (t : ℕ) (tree : Tree) → AreSmall (split common t tree)
unfolding applied_shape
split_are_small common t (number k) = (All-nil IsSmall, omega arith)
split_are_small common t own = (All-nil IsSmall, omega arith)
split_are_small common t (loop nest) = (All-nil IsSmall, omega arith)
split_are_small common t (private x) = (All-nil IsSmall, omega arith)
split_are_small common t (place array index) =
    let inner = split_are_small common t index in let e = inner.1 in (inner.0, omega (arith, e))
split_are_small common t (apply op first second) =
    let left = split common t first in
    let u : ℕ = t + length left.0 in
    by_room left (split common u second) second
    (split_are_small common t first) (split_are_small common u second)
    (split_small common u second) (is_beside op (shape_of left.1) (shape_of second)) refl
  where
    by_taken : (left right : List Tree × Tree) (second : Tree) → IsSmall left.1 →
        IsSmall right.1 → ((shape_of second).need ≤ 3 → right ≡ ([], second)) → (c : Bool) →
        (shape_of left.1).is_computed ≡ c →
        (not (shape_of left.1).is_computed
        || has_room 0 (applied_shape op (shape_of left.1) (shape_of second))) ≡ true →
        registers_taken (shape_of left.1) + (shape_of right.1).need ≤ 3
    by_taken left right second one other small false e on =
        let none : registers_taken (shape_of left.1) ≡ 0 = ap (λ b. if b then 1 else 0) e in
        omega (arith, other, none)
    by_taken left right second one other small true e on =
        let room = ap (λ c. not c || has_room 0 (applied_shape op (shape_of left.1) (shape_of second)))
        (sym e) ∙ on in
        let few = leb-true (0 + (applied_shape op (shape_of left.1) (shape_of second)).need) 3 room in
        let beside_it : registers_taken (shape_of left.1) + (shape_of second).need ≤ 3 =
        omega (arith, few) in
        let same = ap (λ (s : List Tree × Tree). (shape_of s.1).need) (small (omega (arith, beside_it)))
        in omega (arith, beside_it, same)

    by_room : (left right : List Tree × Tree) (second : Tree) → AreSmall left → AreSmall right →
        ((shape_of second).need ≤ 3 → right ≡ ([], second)) → (room : Bool) →
        (not (shape_of left.1).is_computed
        || has_room 0 (applied_shape op (shape_of left.1) (shape_of second))) ≡ room →
        AreSmall (
          (beside common t room left right).0,
          apply op (beside common t room left right).1 (beside common t room left right).2,
        )
    by_room left right second one other small true e = (
      All-append IsSmall left.0 right.0 one.0 other.0,
      joins_small op (shape_of left.1) (shape_of right.1) one.1
          (by_taken left right second one.1 other.1 small (shape_of left.1).is_computed refl e),
    )
    by_room left right second one other small false e =
        let few = taken_few (shape_of left.1) in (
          All-append IsSmall left.0 (right.0 ++ right.1 ∷ []) one.0
              (All-append IsSmall right.0 (right.1 ∷ []) other.0
              (All-cons IsSmall right.1 [] other.1 (All-nil IsSmall))),
          subst (λ (s : ShapeData). (applied_shape op (shape_of left.1) s).need ≤ 3)
              (sym (shape-variable common (t + length left.0 + length right.0)))
              (joins_small op (shape_of left.1) (computed_shape false 1) one.1
              (omega (arith, few))),
        )

-- the last bound of a `for` has a register less
abbrev pub IsSmaller : Tree → Type 0
IsSmaller tree = 1 + (shape_of tree).need ≤ 3

pub last_is_small : (t : ℕ) (tree : Tree) →
    All IsSmall (split_last t tree).0 × IsSmaller (split_last t tree).1
last_is_small t tree =
    by_room (split true t tree) (split_are_small true t tree)
    (has_room 1 (shape_of (split true t tree).1)) refl
  where
    by_room : (last : List Tree × Tree) → AreSmall last → (room : Bool) →
        has_room 1 (shape_of last.1) ≡ room →
        All IsSmall (if room then last else (last.0 ++ last.1 ∷ [], loop (t + length last.0))).0
        × IsSmaller (if room then last else (last.0 ++ last.1 ∷ [], loop (t + length last.0))).1
    by_room last small true e = (small.0, leb-true (1 + (shape_of last.1).need) 3 e)
    by_room last small false e = (
      All-append IsSmall last.0 (last.1 ∷ []) small.0
          (All-cons IsSmall last.1 [] small.1 (All-nil IsSmall)),
      omega arith,
    )

-- two bounds are compared
first_few : (a b : ShapeData) → first_need a b ≤ 2
first_few a b = few (a.is_number && b.is_computed)
  where
    few : (c : Bool) → (if c then 2 else 1) ≤ 2
    few true = omega arith
    few false = omega arith

pub compared_level : (up : Bool) (first last : Tree) → IsSmall first → IsSmaller last →
    is_shallow (native 0 (if up then Gt else Lt) (value_operand 0 first)
    (value_operand (takes first) last)) ≡ true
compared_level up first last small smaller =
    subst (λ n. is_shallow (native 0 (if up then Gt else Lt) (value_operand 0 first)
    (value_operand n last)) ≡ true)
    (let e = takes_as first in
    let same : 0 + registers_taken (shape_of first) ≡ takes first = omega (arith, e) in same) (by_way up)
  where
    one : IsOf (shape_of first) 0 (value_operand 0 first)
    one = operand_of first 0 (omega (arith, small))

    other : IsOf (shape_of last) (0 + registers_taken (shape_of first))
        (value_operand (0 + registers_taken (shape_of first)) last)
    other = let few = taken_few (shape_of first) in
        operand_of last (0 + registers_taken (shape_of first)) (omega (arith, few, smaller))

    by_way : (up : Bool) → is_shallow (native 0 (if up then Gt else Lt) (value_operand 0 first)
        (value_operand (0 + registers_taken (shape_of first)) last)) ≡ true
    by_way true = greater 0 (shape_of first) (shape_of last) (value_operand 0 first)
        (value_operand (0 + registers_taken (shape_of first)) last) one other
        (let few = first_few (shape_of last) (shape_of first) in omega (arith, few))
    by_way false = fixed 0 (shape_of first) (shape_of last) (value_operand 0 first)
        (value_operand (0 + registers_taken (shape_of first)) last) one other Lt (λ z. refl)
        (let few = first_few (shape_of first) (shape_of last) in omega (arith, few))
