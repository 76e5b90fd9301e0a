-- The code of expressions and of pieces of lines is code of a machine with so many cells.
use Rattle.std.proofs.Common.{◌≡◌, ℕ, ◌+◌, ◌-◌, ◌^◌, ◌<◌, ◌≤◌, Bool, true, false, ◌&&◌, ◌==◌}
use Rattle.std.proofs.Common.{if◌then◌else◌, nat_lt}
use Rattle.std.proofs.Common.{List, [], ◌∷◌, ◌++◌, length, refl, arith}
use Rattle.pram_job.specs.declared.instr.Array.{Array}
use Rattle.pram_job.specs.declared.instr.Instr.{Instr}
use Rattle.pram_job.specs.declared.instr.Instr.TheVariants as instr
use Rattle.pram_job.specs.declared.instr.Operand.{Operand}
use Rattle.pram_job.specs.declared.instr.Operand.TheVariants.{Register, Number}
use Rattle.pram_job.specs.declared.instr.Place.TheVariants.{Named}
use Rattle.pram_job.specs.Instructions.{IsArray, IsOperand, IsPlace}
use Rattle.pram_job.specs.Job.{IsInstr}
use Rattle.pardo_program.specs.declared.operation.Op.{Op}
use Rattle.pardo_program.specs.declared.operation.Op.TheVariants.{Add, Sub, Mul, Div, Rem, Shl, Shr}
use Rattle.pardo_program.specs.declared.operation.Op.TheVariants.{BitAnd, BitOr, BitXor, Eq, Ne}
use Rattle.pardo_program.specs.declared.operation.Op.TheVariants.{Lt, Le, Gt, Ge, And, Or, Min, Max}
use Rattle.pardo_program.specs.declared.operation.Op.TheVariants.{Within}
use Rattle.pardo_program.specs.Expression.{Tree, number, own, loop, private, place, apply}
use Rattle.pardo_flat.specs.Layouts.{ProgramLayoutData, array_cells, loop_cells, mask_cells}
use Rattle.pardo_flat.specs.Layouts.{private_cells}
use Rattle.pardo_flat.specs.Layouts.{row}
use Rattle.pardo_job.specs.Lawful.{IsLawfulTree}
use Rattle.pardo_job.specs.Operations.{chosen_of, choice, conjunction, copy_code, first_chosen}
use Rattle.pardo_job.specs.Operations.{second_chosen}
use Rattle.pardo_job.specs.Operations.{in_order, instruction_of, is_max, is_shallow, is_turned}
use Rattle.pardo_job.specs.Operations.{native, negation}
use Rattle.pardo_job.specs.Operations.{operation_code, register_code, register_or_spare, taken_by}
use Rattle.pardo_job.specs.Operations.{index_code, test_register, tested_in, within_code, zero_test}
use Rattle.pardo_job.specs.Values.{is_truth, value_operand, own_load, own_place, takes, value_code}
use Rattle.pardo_job.proofs.Below.{operation_below, value_below}
use Rattle.pardo_job.proofs.Choices.{test_shallow}
use Rattle.pardo_job.proofs.Shallow.{shallow_back, shallow_front, shallow_target}

-- all instructions are those of a machine with so many cells and with a code of this length
abbrev pub Fit : ℕ → ℕ → List Instr → Type 0
Fit cells len [] = Unit {0}
Fit cells len (one ∷ code) = IsInstr cells len one × Fit cells len code

pub fit_both : (cells len : ℕ) (front back : List Instr) → Fit cells len front →
    Fit cells len back →
    Fit cells len (front ++ back)
fit_both cells len [] back f b = b
fit_both cells len (one ∷ front) back f b = (f.0, fit_both cells len front back f.1 b)

-- ---- operations

pub register_fits : (cells len spare : ℕ) (operand : Operand) → IsOperand operand →
    is_shallow (register_code spare operand) ≡ true → Fit cells len (register_code spare operand)
register_fits cells len spare (Register r) is shallow = tt
register_fits cells len spare (Number k) is shallow =
    let lt : spare < 3 = shallow_target (instr.Set spare k) [] shallow in
    let fits : spare < 4 = omega arith in
    ((fits, is), tt)

pub register_below : (spare : ℕ) (operand : Operand) → IsOperand operand →
    is_shallow (register_code spare operand) ≡ true → register_or_spare spare operand < 4
register_below spare (Register r) is shallow = is
register_below spare (Number k) is shallow =
    let lt : spare < 3 = shallow_target (instr.Set spare k) [] shallow in omega arith

instruction_fits : (cells len : ℕ) (op : Op) (at first : ℕ) (second : Operand) → at < 4 →
    first < 4 →
    IsOperand second → IsInstr cells len (instruction_of op at first second)
instruction_fits cells len Add at first second a f s = (a, f, s)
instruction_fits cells len Sub at first second a f s = (a, f, s)
instruction_fits cells len Mul at first second a f s = (a, f, s)
instruction_fits cells len Div at first second a f s = (a, f, s)
instruction_fits cells len Rem at first second a f s = (a, f, s)
instruction_fits cells len Shl at first second a f s = (a, f, s)
instruction_fits cells len Shr at first second a f s = (a, f, s)
instruction_fits cells len BitAnd at first second a f s = (a, f, s)
instruction_fits cells len BitOr at first second a f s = (a, f, s)
instruction_fits cells len BitXor at first second a f s = (a, f, s)
instruction_fits cells len Eq at first second a f s = (a, f, s)
instruction_fits cells len Ne at first second a f s = (a, (let z : 0 < 2 ^ 32 = omega arith in z))
instruction_fits cells len Lt at first second a f s = (a, f, s)
instruction_fits cells len Le at first second a f s = (a, (let z : 0 < 2 ^ 32 = omega arith in z))
instruction_fits cells len Gt at first second a f s = (a, f, s)
instruction_fits cells len Ge at first second a f s = (a, (let z : 0 < 2 ^ 32 = omega arith in z))
instruction_fits cells len And at first second a f s = (a, (let z : 0 < 2 ^ 32 = omega arith in z))
instruction_fits cells len Or at first second a f s = (a, (let z : 0 < 2 ^ 32 = omega arith in z))
instruction_fits cells len Min at first second a f s = (a, (let z : 0 < 2 ^ 32 = omega arith in z))
instruction_fits cells len Max at first second a f s = (a, (let z : 0 < 2 ^ 32 = omega arith in z))
instruction_fits cells len Within at first second a f s =
    (a, (let z : 0 < 2 ^ 32 = omega arith in z))

in_order_fits : (cells len at : ℕ) (op : Op) (first second : Operand) → at < 3 → IsOperand first →
    IsOperand second → is_shallow (in_order at op first second) ≡ true →
    Fit cells len (in_order at op first second)
in_order_fits cells len at op first second lt f s shallow =
    let spare : ℕ = at + taken_by second in
    let front : List Instr = register_code spare first in
    let one : Instr = instruction_of op at (register_or_spare spare first) second in
    let quiet : is_shallow front ≡ true = shallow_front front (one ∷ []) shallow in
    let low : at < 4 = omega arith in
    fit_both cells len front (one ∷ []) (register_fits cells len spare first f quiet) (
      instruction_fits cells len op at (register_or_spare spare first) second low
          (register_below spare first f quiet) s,
      tt,
    )

either_fits : (cells len at : ℕ) (op : Op) (first second : Operand) (turned : Bool) → at < 3 →
    IsOperand first →
    IsOperand second → is_shallow (if turned then in_order at op second first else in_order at op
    first second) ≡ true →
    Fit cells len (if turned then in_order at op second first else in_order at op first second)
either_fits cells len at op first second true lt f s shallow =
    in_order_fits cells len at op second first lt s f shallow
either_fits cells len at op first second false lt f s shallow =
    in_order_fits cells len at op first second lt f s shallow

pub native_fits : (cells len at : ℕ) (op : Op) (first second : Operand) → at < 3 → IsOperand first →
    IsOperand second → is_shallow (native at op first second) ≡ true →
    Fit cells len (native at op first second)
unfolding native
native_fits cells len at op first second lt f s shallow =
    either_fits cells len at op first second (is_turned op first) lt f s shallow

negation_fits : (cells len at : ℕ) → at < 3 → Fit cells len (negation at)
negation_fits cells len at lt =
    let low : at < 4 = omega arith in
    let z : 0 < 2 ^ 32 = omega arith in
    ((low, low, z), tt)

tested_below : (spare register : ℕ) (b : Bool) → spare < 4 → register < 4 →
    (if b then spare else register) < 4
tested_below spare register true s r = s
tested_below spare register false s r = r

-- the target of a test is one for values
zero_low : (spare : ℕ) (operand : Operand) → is_shallow (zero_test spare operand) ≡ true →
    tested_in spare (register_or_spare spare operand) < 3
zero_low spare operand shallow =
    let r : ℕ = register_or_spare spare operand in
    shallow_target (instr.Eq (tested_in spare r) r (Number 0)) []
    (shallow_back (register_code spare operand) _ shallow)

zero_fits : (cells len spare : ℕ) (operand : Operand) → IsOperand operand →
    is_shallow (zero_test spare operand) ≡ true → Fit cells len (zero_test spare operand)
zero_fits cells len spare operand is shallow =
    let r : ℕ = register_or_spare spare operand in
    let front : List Instr = register_code spare operand in
    let one : Instr = instr.Eq (tested_in spare r) r (Number 0) in
    let quiet : is_shallow front ≡ true = shallow_front front (one ∷ []) shallow in
    let lt : tested_in spare r < 3 = zero_low spare operand shallow in
    let low : tested_in spare r < 4 = omega arith in
    let z : 0 < 2 ^ 32 = omega arith in
    fit_both cells len front (one ∷ []) (register_fits cells len spare operand is quiet)
    ((low, register_below spare operand is quiet, z), tt)

conjunction_fits : (cells len at : ℕ) (first second : Operand) → at < 3 → IsOperand first →
    IsOperand second →
    is_shallow (conjunction at first second) ≡ true → Fit cells len (conjunction at first second)
unfolding conjunction
conjunction_fits cells len at first second lt f s shallow =
    let spare : ℕ = at + taken_by second in
    let t : ℕ = tested_in spare (register_or_spare spare first) in
    let u : ℕ = tested_in (at + 1) (register_or_spare (at + 1) second) in
    let front : List Instr = zero_test spare first in
    let middle : List Instr = zero_test (at + 1) second in
    let back : List Instr = instr.Or at t (Register u) ∷ negation at in
    let after : is_shallow (middle ++ back) ≡ true = shallow_back front (middle ++ back) shallow in
    let quiet : is_shallow front ≡ true = shallow_front front (middle ++ back) shallow in
    let quiet_too : is_shallow middle ≡ true = shallow_front middle back after in
    let low : at < 4 = omega arith in
    let tl : t < 3 = zero_low spare first quiet in
    let ul : u < 3 = zero_low (at + 1) second quiet_too in
    let tf : t < 4 = omega arith in
    let uf : u < 4 = omega arith in
    fit_both cells len front (middle ++ back) (zero_fits cells len spare first f quiet)
    (fit_both cells len middle back (zero_fits cells len (at + 1) second s quiet_too)
    ((low, tf, uf), negation_fits cells len at lt))

copy_either : (cells len at r : ℕ) (b : Bool) → at < 3 →
    Fit cells len (if b then [] else instr.Pid at ∷ [])
copy_either cells len at r true lt = tt
copy_either cells len at r false lt = let low : at < 4 = omega arith in (low, tt)

copy_fits : (cells len at : ℕ) (operand : Operand) → at < 3 → IsOperand operand →
    Fit cells len (copy_code at operand)
copy_fits cells len at (Register r) lt is = copy_either cells len at r (nat_lt r 3) lt
copy_fits cells len at (Number k) lt is = let low : at < 4 = omega arith in ((low, is), tt)

negation_either : (cells len at : ℕ) (b : Bool) → at < 3 →
    Fit cells len (if b then negation at else [])
negation_either cells len at true lt = negation_fits cells len at lt
negation_either cells len at false lt = tt

chosen_fits : (cells len at : ℕ) (op : Op) (second : Operand) → at < 3 → at + 1 +
    taken_by second < 3 →
    IsOperand second → Fit cells len (chosen_of at op second)
chosen_fits cells len at op second lt room s =
    let test : ℕ = at + 1 + taken_by second in
    let low : at < 4 = omega arith in
    let test_low : test < 4 = omega arith in
    let last : List Instr = instr.Sub at at second ∷ instr.Mul at at (Register test) ∷
    instr.Add at at second ∷ [] in (
      (test_low, low, s),
      fit_both cells len (if is_max op then negation test else []) last
          (negation_either cells len test (is_max op) room)
          ((low, low, s), ((low, low, test_low), ((low, low, s), tt))),
    )

either_operand : (b : Bool) (x y : Operand) → IsOperand x → IsOperand y →
    IsOperand (if b then x else y)
either_operand true x y p q = p
either_operand false x y p q = q

choice_fits : (cells len at : ℕ) (op : Op) (first second : Operand) → at < 3 → IsOperand first →
    IsOperand second →
    is_shallow (choice at op first second) ≡ true → Fit cells len (choice at op first second)
unfolding choice
choice_fits cells len at op first second lt f s shallow =
    let turned : Bool = (taken_by first == 0) && (taken_by second == 1) in
    let x : Operand = first_chosen first second in
    let y : Operand = second_chosen first second in
    let room : at + 1 + taken_by y < 3 = test_shallow at op (copy_code at x) y shallow in
    fit_both cells len (copy_code at x) (chosen_of at op y)
    (copy_fits cells len at x lt (either_operand turned second first s f))
    (chosen_fits cells len at op y lt room (either_operand turned first second f s))

-- an operation that is one instruction, and is then turned round
negated : (cells len at : ℕ) (front : List Instr) → at < 3 → Fit cells len front →
    Fit cells len (front ++ negation at)
negated cells len at front lt f =
    fit_both cells len front (negation at) f (negation_fits cells len at lt)

and_fits : (cells len at : ℕ) (truths : Bool) (a b : Operand) → at < 3 → IsOperand a → IsOperand b →
    is_shallow (if truths then native at BitAnd a b else conjunction at a b) ≡ true →
    Fit cells len (if truths then native at BitAnd a b else conjunction at a b)
and_fits cells len at true a b lt f s shallow = native_fits cells len at BitAnd a b lt f s shallow
and_fits cells len at false a b lt f s shallow = conjunction_fits cells len at a b lt f s shallow

twice_fits : (cells len at : ℕ) (truths : Bool) → at < 3 →
    Fit cells len (if truths then [] else negation at ++ negation at)
twice_fits cells len at true lt = tt
twice_fits cells len at false lt =
    negated cells len at (negation at) lt (negation_fits cells len at lt)

within_fits : (cells len at : ℕ) (first second : Operand) → at < 3 → IsOperand first →
    IsOperand second →
    is_shallow (within_code at first second) ≡ true → Fit cells len (within_code at first second)
unfolding within_code
within_fits cells len at first second lt f s shallow =
    let spare : ℕ = at + taken_by second in
    let index : ℕ = register_or_spare spare first in
    let test : ℕ = test_register at index in
    let front : List Instr = register_code spare first in
    let back : List Instr = index_code at index second in
    let quiet : is_shallow front ≡ true = shallow_front front back shallow in
    let index_low : index < 4 = register_below spare first f quiet in
    let test_low : test < 4 = omega (
      arith,
      shallow_target (instr.Lt test index second) (instr.Div at index (Register test) ∷ [])
          (shallow_back front back shallow),
    ) in
    let low : at < 4 = omega arith in
    fit_both cells len front back (register_fits cells len spare first f quiet)
    ((test_low, index_low, s), ((low, index_low, test_low), tt))

each_fits : (cells len at : ℕ) (truths : Bool) (a b : Operand) → IsOperand a → IsOperand b →
    (one : Op) → at < 3 →
    is_shallow (operation_code at one truths a b) ≡ true →
    Fit cells len (operation_code at one truths a b)
unfolding operation_code
each_fits cells len at truths a b f s Ne lt shallow =
    negated cells len at (native at Eq a b) lt
    (native_fits cells len at Eq a b lt f s (shallow_front (native at Eq a b) (negation at) shallow))
each_fits cells len at truths a b f s Le lt shallow =
    negated cells len at (native at Gt a b) lt
    (native_fits cells len at Gt a b lt f s (shallow_front (native at Gt a b) (negation at) shallow))
each_fits cells len at truths a b f s Ge lt shallow =
    negated cells len at (native at Lt a b) lt
    (native_fits cells len at Lt a b lt f s (shallow_front (native at Lt a b) (negation at) shallow))
each_fits cells len at truths a b f s And lt shallow =
    and_fits cells len at truths a b lt f s shallow
each_fits cells len at truths a b f s Or lt shallow =
    let last : List Instr = if truths then [] else negation at ++ negation at in
    fit_both cells len (native at BitOr a b) last
    (native_fits cells len at BitOr a b lt f s (shallow_front (native at BitOr a b) last shallow))
    (twice_fits cells len at truths lt)
each_fits cells len at truths a b f s Min lt shallow =
    choice_fits cells len at Min a b lt f s shallow
each_fits cells len at truths a b f s Max lt shallow =
    choice_fits cells len at Max a b lt f s shallow
each_fits cells len at truths a b f s Within lt shallow =
    within_fits cells len at a b lt f s shallow
each_fits cells len at truths a b f s Add lt shallow =
    native_fits cells len at Add a b lt f s shallow
each_fits cells len at truths a b f s Sub lt shallow =
    native_fits cells len at Sub a b lt f s shallow
each_fits cells len at truths a b f s Mul lt shallow =
    native_fits cells len at Mul a b lt f s shallow
each_fits cells len at truths a b f s Div lt shallow =
    native_fits cells len at Div a b lt f s shallow
each_fits cells len at truths a b f s Rem lt shallow =
    native_fits cells len at Rem a b lt f s shallow
each_fits cells len at truths a b f s Shl lt shallow =
    native_fits cells len at Shl a b lt f s shallow
each_fits cells len at truths a b f s Shr lt shallow =
    native_fits cells len at Shr a b lt f s shallow
each_fits cells len at truths a b f s BitAnd lt shallow =
    native_fits cells len at BitAnd a b lt f s shallow
each_fits cells len at truths a b f s BitOr lt shallow =
    native_fits cells len at BitOr a b lt f s shallow
each_fits cells len at truths a b f s BitXor lt shallow =
    native_fits cells len at BitXor a b lt f s shallow
each_fits cells len at truths a b f s Eq lt shallow = native_fits cells len at Eq a b lt f s shallow
each_fits cells len at truths a b f s Lt lt shallow = native_fits cells len at Lt a b lt f s shallow
each_fits cells len at truths a b f s Gt lt shallow = native_fits cells len at Gt a b lt f s shallow

pub operation_fits : (cells len : ℕ) (op : Op) (at : ℕ) (truths : Bool) (a b : Operand) →
    IsOperand a → IsOperand b →
    is_shallow (operation_code at op truths a b) ≡ true →
    Fit cells len (operation_code at op truths a b)
operation_fits cells len op at truths a b f s shallow =
    each_fits cells len at truths a b f s op (operation_below op at truths a b shallow) shallow

-- ---- expressions

-- the arrays and the rows of a layout lie among so many cells
pub record IsLaid (cells : ℕ) (layout : ProgramLayoutData) : Type 0 where
  pub arrays : (array : ℕ) → array < length layout.arrays → IsArray cells (array_cells layout array)
  pub rows : (which : ℕ) → which < layout.privates + layout.loops + layout.choices →
      IsArray cells (row layout which)

pub own_fits : (cells : ℕ) (array : Array) → IsArray cells array → IsPlace cells (own_place array)
own_fits cells array is = let own : 3 < 4 = omega arith in (is, own)

pub load_fits : (cells len at : ℕ) (array : Array) → at < 3 → IsArray cells array →
    Fit cells len (own_load at array ∷ [])
load_fits cells len at array lt is = let low : at < 4 = omega arith in
    ((low, own_fits cells array is), tt)

pub private_fits : (cells : ℕ) (layout : ProgramLayoutData) (x : ℕ) → IsLaid cells layout →
    x < layout.privates →
    IsArray cells (private_cells layout x)
private_fits cells layout x laid lt = laid.rows x (omega arith)

pub loop_fits : (cells : ℕ) (layout : ProgramLayoutData) (nest : ℕ) → IsLaid cells layout →
    nest < layout.loops →
    IsArray cells (loop_cells layout nest)
loop_fits cells layout nest laid lt = laid.rows (layout.privates + nest) (omega arith)

pub mask_fits : (cells : ℕ) (layout : ProgramLayoutData) (depth : ℕ) → IsLaid cells layout →
    0 < depth →
    depth ≤ layout.choices →
    IsArray cells (mask_cells layout depth)
mask_fits cells layout depth laid lt le =
    laid.rows (layout.privates + layout.loops + (depth - 1)) (omega arith)

pub operand_fits : (layout : ProgramLayoutData) (at : ℕ) (tree : Tree) → IsLawfulTree layout tree →
    is_shallow (value_code layout at tree) ≡ true → IsOperand (value_operand at tree)
operand_fits layout at (number k) lawful shallow = lawful
operand_fits layout at own lawful shallow = let lt : 3 < 4 = omega arith in lt
operand_fits layout at (loop nest) lawful shallow = let lt : at < 3 =
    value_below layout at (loop nest) refl shallow in let low : at < 4 = omega arith in low
operand_fits layout at (private x) lawful shallow = let lt : at < 3 =
    value_below layout at (private x) refl shallow in let low : at < 4 = omega arith in low
operand_fits layout at (place array index) lawful shallow = let lt : at < 3 =
    value_below layout at (place array index) refl shallow in let low : at < 4 = omega arith in low
operand_fits layout at (apply op first second) lawful shallow = let lt : at < 3 =
    value_below layout at (apply op first second) refl shallow in let low : at < 4 = omega arith in
    low

pub value_fits : (cells len : ℕ) (layout : ProgramLayoutData) (at : ℕ) (tree : Tree) →
    IsLaid cells layout → IsLawfulTree layout tree →
    is_shallow (value_code layout at tree) ≡ true → Fit cells len (value_code layout at tree)
value_fits cells len layout at (number k) laid lawful shallow = tt
value_fits cells len layout at own laid lawful shallow = tt
value_fits cells len layout at (loop nest) laid lawful shallow =
    load_fits cells len at (loop_cells layout nest) (value_below layout at (loop nest) refl shallow)
    (loop_fits cells layout nest laid lawful)
value_fits cells len layout at (private x) laid lawful shallow =
    load_fits cells len at (private_cells layout x) (value_below layout at (private x) refl shallow)
    (private_fits cells layout x laid lawful)
value_fits cells len layout at (place array index) laid lawful shallow =
    let front : List Instr = value_code layout at index in
    let load : Instr = instr.Ld at (Named (array_cells layout array) (value_operand at index)) in
    let quiet : is_shallow front ≡ true = shallow_front front (load ∷ []) shallow in
    let lt : at < 3 = value_below layout at (place array index) refl shallow in
    let low : at < 4 = omega arith in
    fit_both cells len front (load ∷ []) (value_fits cells len layout at index laid lawful.1 quiet)
    ((low, (laid.arrays array lawful.0, operand_fits layout at index lawful.1 quiet)), tt)
value_fits cells len layout at (apply op first second) laid lawful shallow =
    let up : ℕ = at + takes first in
    let front : List Instr = value_code layout at first in
    let middle : List Instr = value_code layout up second in
    let back : List Instr = operation_code at op (is_truth first && is_truth second)
    (value_operand at first) (value_operand up second) in
    let after : is_shallow (middle ++ back) ≡ true = shallow_back front (middle ++ back) shallow in
    let quiet : is_shallow front ≡ true = shallow_front front (middle ++ back) shallow in
    let quiet_too : is_shallow middle ≡ true = shallow_front middle back after in
    fit_both cells len front (middle ++ back)
    (value_fits cells len layout at first laid lawful.0 quiet)
    (fit_both cells len middle back
    (value_fits cells len layout up second laid lawful.1 quiet_too)
    (operation_fits cells len op at (is_truth first && is_truth second) (value_operand at first)
    (value_operand up second)
    (operand_fits layout at first lawful.0 quiet)
    (operand_fits layout up second lawful.1 quiet_too) (shallow_back middle back after)))
