-- The code of lines is code of the machine of the program's job.
use Rattle.std.proofs.Common.{◌≡◌, ℕ, zero, suc, ◌+◌, ◌*◌, ◌^◌, ◌<◌, ◌≤◌, Bool, true, false, ◌==◌}
use Rattle.std.proofs.Common.{if◌then◌else◌}
use Rattle.std.proofs.Common.{List, [], ◌∷◌, ◌++◌, length, refl, sym, ap, subst, ◌∙◌, arith}
use Rattle.std.proofs.Common.{Option, Some, None}
use Rattle.std.proofs.lemmas.List.{length-append, length-map}
use Rattle.std.specs.List.{All, slice_get}
use Rattle.std.proofs.lemmas.Option.{get_or_from_slice_get, slice_get_within}
use Rattle.pram_job.specs.declared.instr.Instr.{Instr}
use Rattle.pram_job.specs.declared.instr.Instr.TheVariants as instr
use Rattle.pram_job.specs.declared.instr.Operand.{Operand}
use Rattle.pram_job.specs.declared.instr.Operand.TheVariants.{Register, Number}
use Rattle.pram_job.specs.declared.instr.Place.TheVariants.{Named}
use Rattle.pram_job.specs.Instructions.{IsArray, IsOperand}
use Rattle.pardo_program.specs.declared.operation.Op.{Op}
use Rattle.pardo_program.specs.declared.operation.Op.TheVariants as op
use Rattle.pardo_program.specs.declared.statement.Statement.{Statement}
use Rattle.pardo_program.specs.declared.statement.Statement.TheVariants.{Assign, If, Else, EndIf}
use Rattle.pardo_program.specs.declared.statement.Statement.TheVariants.{While, EndWhile, For}
use Rattle.pardo_program.specs.declared.statement.Statement.TheVariants.{EndFor}
use Rattle.pardo_program.specs.declared.statement.Target.{Target}
use Rattle.pardo_program.specs.declared.statement.Target.TheVariants.{Private, Array as Shared}
use Rattle.pardo_program.specs.Expression.{Tree}
use Rattle.pardo_program.specs.Lawful.{IsLine, IsStatement, IsTarget, IsExpression, bounds_of}
use Rattle.pardo_program.specs.Lawful.{masks_of}
use Rattle.pardo_program.specs.declared.statement.Line.{Line}
use Rattle.pardo_program.specs.Program.{ProgramData}
use Rattle.pardo_flat.specs.Layouts.{ProgramLayoutData, array_cells, cells_of_array, program_layout}
use Rattle.pardo_flat.specs.Layouts.{loop_cells}
use Rattle.pardo_flat.specs.Layouts.{mask_cells, private_cells}
use Rattle.pardo_flat.specs.Statements.{statement_at}
use Rattle.pardo_job.specs.Inner.Pieces.{IsLawfulTarget}
use Rattle.pardo_job.specs.Lawful.{IsLawfulTree}
use Rattle.pardo_job.specs.Lines.{assignment_code, choosing, condition_code, first_code, no_code}
use Rattle.pardo_job.specs.Lines.{line_code, loop_end, masked}
use Rattle.pardo_job.specs.Lines.{next_value, none_code, others, own_store, turn_code, while_code}
use Rattle.pardo_job.specs.Operations.{is_shallow, native, register_code, register_or_spare}
use Rattle.pardo_job.specs.Values.{is_truth, value_operand, own_load, own_place, takes, value_code}
use Rattle.pardo_job.proofs.Fitting.{Fit, IsLaid, fit_both, loop_fits, mask_fits, native_fits}
use Rattle.pardo_job.proofs.Fitting.{operand_fits}
use Rattle.pardo_job.proofs.Fitting.{own_fits, private_fits, register_below, register_fits}
use Rattle.pardo_job.proofs.Fitting.{value_fits}
use Rattle.pardo_job.proofs.LineParts.{idle_length}
use Rattle.pardo_job.proofs.Shallow.{shallow_back, shallow_front, shallow_rest}
use Rattle.pardo_job.proofs.Trees.{lawful_tree}

-- ---- straight pieces

pub assignment_fits : (cells len : ℕ) (layout : ProgramLayoutData) (target : Target) (tree : Tree) →
    IsLaid cells layout →
    IsLawfulTarget layout target → IsLawfulTree layout tree →
    is_shallow (assignment_code layout target tree) ≡ true →
    Fit cells len (assignment_code layout target tree)
unfolding assignment_code
assignment_fits cells len layout (Private x) tree laid to lawful shallow =
    let front : List Instr = value_code layout 0 tree in
    let store : Instr = instr.St (own_place (private_cells layout x)) (value_operand 0 tree) in
    let quiet : is_shallow front ≡ true = shallow_front front (store ∷ []) shallow in
    fit_both cells len front (store ∷ []) (value_fits cells len layout 0 tree laid lawful quiet) (
      (
        own_fits cells (private_cells layout x) (private_fits cells layout x laid to),
        operand_fits layout 0 tree lawful quiet,
      ),
      tt,
    )
assignment_fits cells len layout (Shared array index) tree laid to lawful shallow =
    let front : List Instr = value_code layout 0 tree in
    let middle : List Instr = value_code layout (takes tree) index in
    let store : Instr = instr.St
    (Named (array_cells layout array) (value_operand (takes tree) index))
    (value_operand 0 tree) in
    let quiet : is_shallow front ≡ true = shallow_front front (middle ++ store ∷ []) shallow in
    let after : is_shallow (middle ++ store ∷ []) ≡ true =
    shallow_back front (middle ++ store ∷ []) shallow in
    let quiet_too : is_shallow middle ≡ true = shallow_front middle (store ∷ []) after in
    fit_both cells len front (middle ++ store ∷ [])
    (value_fits cells len layout 0 tree laid lawful quiet)
    (fit_both cells len middle (store ∷ [])
    (value_fits cells len layout (takes tree) index laid to.1 quiet_too) (
      (
        (laid.arrays array to.0, operand_fits layout (takes tree) index to.1 quiet_too),
        operand_fits layout 0 tree lawful quiet,
      ),
      tt,
    ))

abbrev truth_code : Operand → List Instr
truth_code operand = native 0 op.Eq operand (Number 0) ++ native 0 op.Eq (Register 0) (Number 0)

truth_fits : (cells len : ℕ) (operand : Operand) (b : Bool) → IsOperand operand →
    is_shallow (if b then [] else truth_code operand) ≡ true →
    Fit cells len (if b then [] else truth_code operand)
truth_fits cells len operand true is shallow = tt
truth_fits cells len operand false is shallow =
    let zero_low : 0 < 3 = omega arith in
    let z : 0 < 2 ^ 32 = omega arith in
    let r : 0 < 4 = omega arith in
    let front : List Instr = native 0 op.Eq operand (Number 0) in
    let back : List Instr = native 0 op.Eq (Register 0) (Number 0) in
    fit_both cells len front back (native_fits cells len 0 op.Eq operand (Number 0) zero_low is z
    (shallow_front front back shallow))
    (native_fits cells len 0 op.Eq (Register 0) (Number 0) zero_low r z
    (shallow_back front back shallow))

pub condition_fits : (cells len : ℕ) (layout : ProgramLayoutData) (tree : Tree) →
    IsLaid cells layout →
    IsLawfulTree layout tree → is_shallow (condition_code layout tree) ≡ true →
    Fit cells len (condition_code layout tree)
unfolding condition_code
condition_fits cells len layout tree laid lawful shallow =
    let front : List Instr = value_code layout 0 tree in
    let back : List Instr = if is_truth tree then [] else truth_code (value_operand 0 tree) in
    let quiet : is_shallow front ≡ true = shallow_front front back shallow in
    fit_both cells len front back (value_fits cells len layout 0 tree laid lawful quiet)
    (truth_fits cells len (value_operand 0 tree) (is_truth tree)
    (operand_fits layout 0 tree lawful quiet) (shallow_back front back shallow))

-- the code of a condition, and its register
pub record FitsWhile (cells len : ℕ) (layout : ProgramLayoutData) (tree : Tree) : Type 0 where
  pub code : Fit cells len (while_code layout tree)
  pub register : register_or_spare 0 (value_operand 0 tree) < 4

pub while_fits : (cells len : ℕ) (layout : ProgramLayoutData) (tree : Tree) → IsLaid cells layout →
    IsLawfulTree layout tree → is_shallow (while_code layout tree) ≡ true →
    FitsWhile cells len layout tree
unfolding while_code
while_fits cells len layout tree laid lawful shallow =
    let front : List Instr = value_code layout 0 tree in
    let o : Operand = value_operand 0 tree in
    let back : List Instr = register_code 0 o in
    let quiet : is_shallow front ≡ true = shallow_front front back shallow in
    let quiet_too : is_shallow back ≡ true = shallow_back front back shallow in
    let is : IsOperand o = operand_fits layout 0 tree lawful quiet in record {
      code = fit_both cells len front back (value_fits cells len layout 0 tree laid lawful quiet)
          (register_fits cells len 0 o is quiet_too);
      register = register_below 0 o is quiet_too;
    }

pub none_fits : (cells len : ℕ) (layout : ProgramLayoutData) (up : Bool) (first last : Tree) →
    IsLaid cells layout →
    IsLawfulTree layout first → IsLawfulTree layout last →
    is_shallow (none_code layout up first last) ≡
    true →
    Fit cells len (none_code layout up first last)
unfolding none_code
none_fits cells len layout up first last laid f l shallow =
    let zero_low : 0 < 3 = omega arith in
    let one : Op = if up then op.Gt else op.Lt in
    let a : Operand = value_operand 0 first in
    let b : Operand = value_operand (takes first) last in
    let front : List Instr = value_code layout 0 first in
    let middle : List Instr = value_code layout (takes first) last in
    let back : List Instr = native 0 one a b in
    let quiet : is_shallow front ≡ true = shallow_front front (middle ++ back) shallow in
    let after : is_shallow (middle ++ back) ≡ true = shallow_back front (middle ++ back) shallow in
    let quiet_too : is_shallow middle ≡ true = shallow_front middle back after in
    fit_both cells len front (middle ++ back) (value_fits cells len layout 0 first laid f quiet)
    (fit_both cells len middle back
    (value_fits cells len layout (takes first) last laid l quiet_too)
    (native_fits cells len 0 one a b zero_low (operand_fits layout 0 first f quiet)
    (operand_fits layout (takes first) last l quiet_too)
    (shallow_back middle back after)))

pub first_fits : (cells len : ℕ) (layout : ProgramLayoutData) (nest : ℕ) (first : Tree) →
    IsLaid cells layout → nest < layout.loops →
    IsLawfulTree layout first → is_shallow (first_code layout nest first) ≡ true →
    Fit cells len (first_code layout nest first)
unfolding first_code
first_fits cells len layout nest first laid lt lawful shallow =
    let front : List Instr = value_code layout 0 first in
    let store : Instr = instr.St (own_place (loop_cells layout nest)) (value_operand 0 first) in
    let quiet : is_shallow front ≡ true = shallow_front front (store ∷ []) shallow in
    fit_both cells len front (store ∷ []) (value_fits cells len layout 0 first laid lawful quiet) (
      (
        own_fits cells (loop_cells layout nest) (loop_fits cells layout nest laid lt),
        operand_fits layout 0 first lawful quiet,
      ),
      tt,
    )

pub turn_fits : (cells len : ℕ) (layout : ProgramLayoutData) (nest : ℕ) (last : Tree) →
    IsLaid cells layout → nest < layout.loops →
    IsLawfulTree layout last → is_shallow (turn_code layout nest last) ≡ true →
    Fit cells len (turn_code layout nest last)
unfolding turn_code
turn_fits cells len layout nest last laid lt lawful shallow =
    let r0 : 0 < 4 = omega arith in
    let r1 : 1 < 4 = omega arith in
    let load : Instr = own_load 0 (loop_cells layout nest) in
    let front : List Instr = value_code layout 1 last in
    let sub : Instr = instr.Sub 1 0 (value_operand 1 last) in
    let after : is_shallow (front ++ sub ∷ []) ≡ true =
    shallow_rest load (front ++ sub ∷ []) shallow in
    let quiet : is_shallow front ≡ true = shallow_front front (sub ∷ []) after in (
      (r0, own_fits cells (loop_cells layout nest) (loop_fits cells layout nest laid lt)),
      fit_both cells len front (sub ∷ []) (value_fits cells len layout 1 last laid lawful quiet)
          ((r1, r0, operand_fits layout 1 last lawful quiet), tt),
    )

-- ---- lines

store_fits : (cells len : ℕ) (layout : ProgramLayoutData) (which : ℕ) →
    IsArray cells (mask_cells layout which) → Fit cells len (own_store (mask_cells layout which) ∷ [])
store_fits cells len layout which is = let r0 : 0 < 4 = omega arith in
    ((own_fits cells (mask_cells layout which) is, r0), tt)

pub idle_fits : (cells len at n : ℕ) → at + n ≤ len → Fit cells len (no_code at n)
idle_fits cells len at zero le = tt
idle_fits cells len at (suc n) le =
    ((let j : at + 1 ≤ len = omega arith in j), idle_fits cells len (at + 1) n (omega arith))

-- ---- bodies of shallow lines

masked_body_either : (layout : ProgramLayoutData) (at depth : ℕ) (body : List Instr) (b : Bool) →
    is_shallow (if b then body else own_load 0 (mask_cells layout depth) ∷ instr.Jz 0 (at + 3) ∷
    instr.Jmp (at + 4 + length body)
    ∷ (no_code (at + 3) (length body) ++ instr.Jmp (at + 4 + 2 * length body) ∷ body)) ≡ true →
    is_shallow body ≡ true
masked_body_either layout at depth body true shallow = shallow
masked_body_either layout at depth body false shallow =
    let n : ℕ = length body in
    let last : List Instr = instr.Jmp (at + 4 + 2 * n) ∷ body in
    let three : List Instr = no_code (at + 3) n ++ last in
    let two : List Instr = instr.Jmp (at + 4 + n) ∷ three in
    let one : List Instr = instr.Jz 0 (at + 3) ∷ two in
    shallow_rest (instr.Jmp (at + 4 + 2 * n)) body (shallow_back (no_code (at + 3) n) last
    (shallow_rest (instr.Jmp (at + 4 + n)) three (shallow_rest (instr.Jz 0 (at + 3)) two
    (shallow_rest (own_load 0 (mask_cells layout depth)) one shallow))))

pub masked_body : (layout : ProgramLayoutData) (at depth : ℕ) (body : List Instr) →
    is_shallow (masked layout at depth body) ≡ true →
    is_shallow body ≡ true
unfolding masked
masked_body layout at depth body shallow =
    masked_body_either layout at depth body (depth == 0) shallow

choosing_body_either : (layout : ProgramLayoutData) (at depth : ℕ) (body : List Instr) (b : Bool) →
    is_shallow (if b then body else own_load 0 (mask_cells layout depth) ∷
    instr.Jz 0 (at + 3 + length body)
    ∷ (body ++ instr.Jmp (at + 4 + 2 * length body) ∷
    no_code (at + 3 + length body) (length body + 1))) ≡ true → is_shallow body ≡ true
choosing_body_either layout at depth body true shallow = shallow
choosing_body_either layout at depth body false shallow =
    let n : ℕ = length body in
    let last : List Instr = instr.Jmp (at + 4 + 2 * n) ∷ no_code (at + 3 + n) (n + 1) in
    let one : List Instr = instr.Jz 0 (at + 3 + n) ∷ (body ++ last) in
    shallow_front body last (shallow_rest (instr.Jz 0 (at + 3 + n)) (body ++ last)
    (shallow_rest (own_load 0 (mask_cells layout depth)) one shallow))

pub choosing_body : (layout : ProgramLayoutData) (at depth : ℕ) (body : List Instr) →
    is_shallow (choosing layout at depth body) ≡ true →
    is_shallow body ≡ true
unfolding choosing
choosing_body layout at depth body shallow = choosing_body_either layout at depth body (depth == 0)
    (shallow_front (if depth == 0 then body
    else own_load 0 (mask_cells layout depth) ∷ instr.Jz 0 (at + 3 + length body)
    ∷ (body ++ instr.Jmp (at + 4 + 2 * length body) ∷
    no_code (at + 3 + length body) (length body + 1)))
    (own_store (mask_cells layout (depth + 1)) ∷ []) shallow)

-- the code of an assignment
masked_either : (cells len : ℕ) (layout : ProgramLayoutData) (at depth : ℕ) (body : List Instr)
    (b : Bool) → IsLaid cells layout →
    (b ≡ false → 0 < depth) → depth ≤ layout.choices → Fit cells len body →
    at + length (if b then body else own_load 0 (mask_cells layout depth) ∷ instr.Jz 0 (at + 3) ∷
    instr.Jmp (at + 4 + length body)
    ∷ (no_code (at + 3) (length body) ++ instr.Jmp (at + 4 + 2 * length body) ∷ body)) ≤ len →
    Fit cells len (if b then body else own_load 0 (mask_cells layout depth) ∷ instr.Jz 0 (at + 3) ∷
    instr.Jmp (at + 4 + length body)
    ∷ (no_code (at + 3) (length body) ++ instr.Jmp (at + 4 + 2 * length body) ∷ body))
masked_either cells len layout at depth body true laid some le fits room = fits
masked_either cells len layout at depth body false laid some le fits room =
    let r0 : 0 < 4 = omega arith in
    let n : ℕ = length body in
    let pads : List Instr = no_code (at + 3) n in
    let sum : length (pads ++ instr.Jmp (at + 4 + 2 * n) ∷ body) ≡ length pads +
    length (instr.Jmp (at + 4 + 2 * n) ∷ body) =
    length-append pads (instr.Jmp (at + 4 + 2 * n) ∷ body) in
    let all : at + (3 + (n + (1 + n))) ≤ len = omega (arith, room, sum, idle_length (at + 3) n) in
    let j1 : at + 3 ≤ len = omega arith in
    let j2 : at + 4 + n ≤ len = omega arith in
    let j3 : at + 4 + 2 * n ≤ len = omega arith in (
      (
        r0,
        own_fits cells (mask_cells layout depth)
            (mask_fits cells layout depth laid (some refl) le),
      ),
      (
        (r0, j1),
        (
          j2,
          fit_both cells len pads (instr.Jmp (at + 4 + 2 * n) ∷ body)
              (idle_fits cells len (at + 3) n (omega arith)) (j3, fits),
        ),
      ),
    )

pub not_zero : (n : ℕ) → (n == 0) ≡ false → 0 < n
not_zero zero e = absurd (let no : true ≡ false = e in cc)
not_zero (suc n) e = omega arith

masked_fits : (cells len : ℕ) (layout : ProgramLayoutData) (at depth : ℕ) (body : List Instr) →
    IsLaid cells layout →
    depth ≤ layout.choices → Fit cells len body → at + length (masked layout at depth body) ≤ len →
    Fit cells len (masked layout at depth body)
unfolding masked
masked_fits cells len layout at depth body laid le fits room =
    masked_either cells len layout at depth body (depth == 0) laid (not_zero depth) le fits room

choice_either : (cells len : ℕ) (layout : ProgramLayoutData) (at depth : ℕ) (body : List Instr)
    (b : Bool) → IsLaid cells layout →
    (b ≡ false → 0 < depth) → depth ≤ layout.choices → Fit cells len body →
    at + length (if b then body else own_load 0 (mask_cells layout depth) ∷
    instr.Jz 0 (at + 3 + length body)
    ∷ (body ++ instr.Jmp (at + 4 + 2 * length body) ∷
    no_code (at + 3 + length body) (length body + 1))) ≤ len →
    Fit cells len (if b then body else own_load 0 (mask_cells layout depth) ∷
    instr.Jz 0 (at + 3 + length body)
    ∷ (body ++ instr.Jmp (at + 4 + 2 * length body) ∷
    no_code (at + 3 + length body) (length body + 1)))
choice_either cells len layout at depth body true laid some le fits room = fits
choice_either cells len layout at depth body false laid some le fits room =
    let r0 : 0 < 4 = omega arith in
    let n : ℕ = length body in
    let pads : List Instr = no_code (at + 3 + n) (n + 1) in
    let sum : length (body ++ instr.Jmp (at + 4 + 2 * n) ∷ pads) ≡ n +
    length (instr.Jmp (at + 4 + 2 * n) ∷ pads) =
    length-append body (instr.Jmp (at + 4 + 2 * n) ∷ pads) in
    let all : at + (2 + (n + (1 + (n + 1)))) ≤ len =
    omega (arith, room, sum, idle_length (at + 3 + n) (n + 1)) in
    let j1 : at + 3 + n ≤ len = omega arith in
    let j2 : at + 4 + 2 * n ≤ len = omega arith in (
      (
        r0,
        own_fits cells (mask_cells layout depth)
            (mask_fits cells layout depth laid (some refl) le),
      ),
      (
        (r0, j1),
        fit_both cells len body (instr.Jmp (at + 4 + 2 * n) ∷ pads) fits
            (j2, idle_fits cells len (at + 3 + n) (n + 1) (omega arith)),
      ),
    )

choosing_fits : (cells len : ℕ) (layout : ProgramLayoutData) (at depth : ℕ) (body : List Instr) →
    IsLaid cells layout →
    depth + 1 ≤ layout.choices → Fit cells len body → at +
    length (choosing layout at depth body) ≤ len →
    Fit cells len (choosing layout at depth body)
unfolding choosing
choosing_fits cells len layout at depth body laid le fits room =
    let front : List Instr = if depth == 0 then body
    else own_load 0 (mask_cells layout depth) ∷ instr.Jz 0 (at + 3 + length body)
    ∷ (body ++ instr.Jmp (at + 4 + 2 * length body) ∷
    no_code (at + 3 + length body) (length body + 1)) in
    let store : List Instr = own_store (mask_cells layout (depth + 1)) ∷ [] in
    let sum : length (front ++ store) ≡ length front + length store = length-append front store in
    fit_both cells len front store
    (choice_either cells len layout at depth body (depth == 0) laid (not_zero depth) (omega arith)
    fits (omega (arith, room, sum)))
    (store_fits cells len layout (depth + 1)
    (mask_fits cells layout (depth + 1) laid (omega arith) le))

others_either : (cells len : ℕ) (layout : ProgramLayoutData) (depth : ℕ) (b : Bool) →
    IsLaid cells layout →
    (b ≡ false → 0 < depth) → depth ≤ layout.choices →
    Fit cells len (if b then instr.Eq 0 0 (Number 0) ∷
    [] else own_load 1 (mask_cells layout depth) ∷ instr.Lt 0 0 (Register 1) ∷ [])
others_either cells len layout depth true laid some le =
    let r0 : 0 < 4 = omega arith in let z : 0 < 2 ^ 32 = omega arith in ((r0, r0, z), tt)
others_either cells len layout depth false laid some le =
    let r0 : 0 < 4 = omega arith in let r1 : 1 < 4 = omega arith in (
      (
        r1,
        own_fits cells (mask_cells layout depth)
            (mask_fits cells layout depth laid (some refl) le),
      ),
      ((r0, r0, r1), tt),
    )

others_fits : (cells len : ℕ) (layout : ProgramLayoutData) (depth : ℕ) → IsLaid cells layout →
    depth +
    1 ≤ layout.choices →
    Fit cells len (others layout depth)
unfolding others
others_fits cells len layout depth laid le =
    let r0 : 0 < 4 = omega arith in
    let is : IsArray cells (mask_cells layout (depth + 1)) =
    mask_fits cells layout (depth + 1) laid (omega arith) le in
    let middle : List Instr = if depth == 0 then instr.Eq 0 0 (Number 0) ∷
    [] else own_load 1 (mask_cells layout depth) ∷ instr.Lt 0 0 (Register 1) ∷ [] in (
      (r0, own_fits cells (mask_cells layout (depth + 1)) is),
      fit_both cells len middle (own_store (mask_cells layout (depth + 1)) ∷ [])
          (others_either cells len layout depth (depth == 0) laid (not_zero depth) (omega arith))
          (store_fits cells len layout (depth + 1) is),
    )

next_fits : (cells len : ℕ) (up : Bool) → Fit cells len (next_value up ∷ [])
next_fits cells len true = let r0 : 0 < 4 = omega arith in let z : 1 < 2 ^ 32 = omega arith in
    ((r0, r0, z), tt)
next_fits cells len false = let r0 : 0 < 4 = omega arith in let z : 1 < 2 ^ 32 = omega arith in
    ((r0, r0, z), tt)

-- places that lie within a code of this length
abbrev pub AreWithin : (ℕ → ℕ) → ℕ → Type 0
AreWithin places len = (j : ℕ) → places j ≤ len

-- what the end of a loop needs of its first line
abbrev pub IsFirstLine : ProgramLayoutData → Statement → Type 0
IsFirstLine layout (For nest first last up end) = (nest < layout.loops) × IsLawfulTree layout last
IsFirstLine layout _ = Unit {0}

end_fits : (cells len : ℕ) (layout : ProgramLayoutData) (places : ℕ → ℕ) (begin : ℕ)
    (statement : Statement) → IsLaid cells layout →
    AreWithin places len → IsFirstLine layout statement →
    is_shallow (loop_end layout places begin statement) ≡ true →
    Fit cells len (loop_end layout places begin statement)
end_fits cells len layout places begin (For nest first last up end) laid within is shallow =
    let r0 : 0 < 4 = omega arith in
    let r1 : 1 < 4 = omega arith in
    let front : List Instr = turn_code layout nest last in
    let back : List Instr = instr.Jz 1 (places (end + 1)) ∷ next_value up ∷
    own_store (loop_cells layout nest) ∷ instr.Jmp (places (begin + 1)) ∷ [] in
    let quiet : is_shallow front ≡ true = shallow_front front back shallow in
    fit_both cells len front back (turn_fits cells len layout nest last laid is.0 is.1 quiet) (
      (r1, within (end + 1)),
      (
        (next_fits cells len up).0,
        (
          (own_fits cells (loop_cells layout nest) (loop_fits cells layout nest laid is.0), r0),
          (within (begin + 1), tt),
        ),
      ),
    )
end_fits cells len layout places begin (Assign target tree) laid within is shallow = tt
end_fits cells len layout places begin (If tree) laid within is shallow = tt
end_fits cells len layout places begin Else laid within is shallow = tt
end_fits cells len layout places begin EndIf laid within is shallow = tt
end_fits cells len layout places begin (While tree end) laid within is shallow = tt
end_fits cells len layout places begin (EndWhile start) laid within is shallow = tt
end_fits cells len layout places begin (EndFor start) laid within is shallow = tt

-- ---- the code of a line of a program

lawful_target : (program : ProgramData) (target : Target) → IsTarget (bounds_of program) target →
    IsLawfulTarget (program_layout program) target
unfolding program_layout
lawful_target program (Private x) is = is
lawful_target program (Shared array index) is = (
  subst (λ n. array < n) (sym (length-map program.arrays cells_of_array)) is.0,
  lawful_tree program index is.1,
)

loops_same : (program : ProgramData) → (program_layout program).loops ≡ program.loops
unfolding program_layout
loops_same program = refl

choices_same : (program : ProgramData) → (program_layout program).choices ≡ program.choices
unfolding program_layout
choices_same program = refl

-- the first line of a loop
first_line : (program : ProgramData) (statement : Statement) →
    IsStatement (bounds_of program) statement → IsFirstLine (program_layout program) statement
first_line program (For nest first last up end) is =
    (subst (λ n. nest < n) (sym (loops_same program)) is.0, lawful_tree program last is.2.0)
first_line program (Assign target tree) is = tt
first_line program (If tree) is = tt
first_line program Else is = tt
first_line program EndIf is = tt
first_line program (While tree end) is = tt
first_line program (EndWhile begin) is = tt
first_line program (EndFor begin) is = tt

-- what holds of all lines holds of the one at a place
pub line_at : (lines : List Line) (k : ℕ) (line : Line) (P : Line → Type 0) → All P lines →
    slice_get lines k ≡ Some line → P line
line_at lines k line P all e =
    subst P (get_or_from_slice_get lines k line line e)
    (all k line (slice_get_within lines k line e))

-- what the line at a place says is lawful
pub statement_is : (program : ProgramData) (begin : ℕ) →
    All (IsLine (bounds_of program)) program.lines →
    IsStatement (bounds_of program) (statement_at program begin)
statement_is program begin all = cases (slice_get program.lines begin) refl
  where
    cases : (found : Option Line) → slice_get program.lines begin ≡ found →
        IsStatement (bounds_of program) (elim found [ None ↦ EndIf | Some line ↦ line.statement ])
    cases None e = tt
    cases (Some line) e = (line_at program.lines begin line (IsLine (bounds_of program)) all e).0

pub line_fits : (program : ProgramData) (cells len : ℕ) (places : ℕ → ℕ) (at depth : ℕ)
    (statement : Statement) →
    IsLaid cells (program_layout program) → AreWithin places len →
    All (IsLine (bounds_of program)) program.lines →
    IsStatement (bounds_of program) statement → depth + masks_of statement ≤ program.choices →
    is_shallow (line_code program places at depth statement) ≡ true →
    at + length (line_code program places at depth statement) ≤ len →
    Fit cells len (line_code program places at depth statement)
unfolding line_code
line_fits program cells len places at depth (Assign target tree) laid within all is le shallow room
    =
    let layout : ProgramLayoutData = program_layout program in
    let body : List Instr = assignment_code layout target tree in
    masked_fits cells len layout at depth body laid (omega (arith, choices_same program, le))
    (assignment_fits cells len layout target tree laid (lawful_target program target is.0)
    (lawful_tree program tree is.1) (masked_body layout at depth body shallow)) room
line_fits program cells len places at depth (If tree) laid within all is le shallow room =
    let layout : ProgramLayoutData = program_layout program in
    let body : List Instr = condition_code layout tree in
    choosing_fits cells len layout at depth body laid (omega (arith, choices_same program, le))
    (condition_fits cells len layout tree laid (lawful_tree program tree is)
    (choosing_body layout at depth body shallow)) room
line_fits program cells len places at depth Else laid within all is le shallow room =
    others_fits cells len (program_layout program) depth laid
    (omega (arith, choices_same program, le))
line_fits program cells len places at depth EndIf laid within all is le shallow room = tt
line_fits program cells len places at depth (While tree end) laid within all is le shallow room =
    let layout : ProgramLayoutData = program_layout program in
    let test : List Instr = while_code layout tree in
    let jump : Instr = instr.Jz (register_or_spare 0 (value_operand 0 tree)) (places (end + 1)) in
    let both = while_fits cells len layout tree laid (lawful_tree program tree is.0.0)
    (shallow_front test (jump ∷ []) shallow) in
    fit_both cells len test (jump ∷ []) both.code ((both.register, within (end + 1)), tt)
line_fits program cells len places at depth (EndWhile begin) laid within all is le shallow room =
    (within begin, tt)
line_fits program cells len places at depth (For nest first last up end) laid within all is le
    shallow room =
    let layout : ProgramLayoutData = program_layout program in
    let r0 : 0 < 4 = omega arith in
    let lt : nest < layout.loops = subst (λ n. nest < n) (sym (loops_same program)) is.0 in
    let test : List Instr = none_code layout up first last in
    let start : List Instr = first_code layout nest first in
    let jump : Instr = instr.Jz 0 (at + length test + 2) in
    let leave : Instr = instr.Jmp (places (end + 1)) in
    let sum : length (test ++ jump ∷ leave ∷ start) ≡ length test + length (jump ∷ leave ∷ start) =
    length-append test (jump ∷ leave ∷ start) in
    let inside : at + length test + 2 ≤ len = omega (arith, room, sum) in
    let after : is_shallow (jump ∷ leave ∷ start) ≡ true =
    shallow_back test (jump ∷ leave ∷ start) shallow in
    let quiet : is_shallow start ≡ true =
    shallow_rest leave start (shallow_rest jump (leave ∷ start) after) in
    fit_both cells len test (jump ∷ leave ∷ start)
    (none_fits cells len layout up first last laid (lawful_tree program first is.1.0)
    (lawful_tree program last is.2.0) (shallow_front test (jump ∷ leave ∷ start) shallow)) (
      (r0, inside),
      (
        within (end + 1),
        first_fits cells len layout nest first laid lt (lawful_tree program first is.1.0) quiet,
      ),
    )
line_fits program cells len places at depth (EndFor begin) laid within all is le shallow room =
    end_fits cells len (program_layout program) places begin (statement_at program begin) laid
    within
    (first_line program (statement_at program begin) (statement_is program begin all)) shallow

-- ---- what lines need of the layout

pub tree_in : (program : ProgramData) (layout : ProgramLayoutData) (tree : Tree) → layout ≡
    program_layout program →
    IsExpression (bounds_of program) tree → IsLawfulTree layout tree
tree_in program layout tree e is =
    subst (λ (l : ProgramLayoutData). IsLawfulTree l tree) (sym e) (lawful_tree program tree is)

pub target_in : (program : ProgramData) (layout : ProgramLayoutData) (target : Target) → layout ≡
    program_layout program →
    IsTarget (bounds_of program) target → IsLawfulTarget layout target
target_in program layout target e is =
    subst (λ (l : ProgramLayoutData). IsLawfulTarget l target) (sym e)
    (lawful_target program target is)

pub loops_in : (program : ProgramData) (layout : ProgramLayoutData) →
    layout ≡ program_layout program →
    layout.loops ≡ program.loops
loops_in program layout e = ap (λ (l : ProgramLayoutData). l.loops) e ∙ loops_same program

pub choices_in : (program : ProgramData) (layout : ProgramLayoutData) →
    layout ≡ program_layout program →
    layout.choices ≡ program.choices
choices_in program layout e = ap (λ (l : ProgramLayoutData). l.choices) e ∙ choices_same program
