-- Lines that are too great by their expressions alone.
use Rattle.std.proofs.Common.{◌≡◌, ℕ, ◌+◌, ◌*◌, ◌<◌, ◌≤◌, ◌==◌, nat_lt, Bool, true, false}
use Rattle.std.proofs.Common.{if◌then◌else◌, ◌&&◌, List, [], ◌∷◌, ◌++◌, length, Result, Ok, Err}
use Rattle.std.proofs.Common.{refl, sym, ap, subst, ◌∙◌, arith, append_assoc, length-append}
use Rattle.std.specs.Prelude.{IfErr}
use Rattle.pram_job.specs.declared.instr.Instr.{Instr}
use Rattle.pram_job.specs.declared.instr.Instr.TheVariants.{Jmp, Jz, St}
use Rattle.pram_job.specs.declared.instr.Operand.{Operand}
use Rattle.pram_job.specs.declared.instr.Operand.TheVariants.{Number, Register}
use Rattle.pram_job.specs.declared.instr.Place.TheVariants.{Named}
use Rattle.pram_job.specs.declared.limits.TheConstants.{MAX_CODE}
use Rattle.pardo_program.specs.declared.expression.Node.{Node}
use Rattle.pardo_program.specs.declared.operation.Op.{Op}
use Rattle.pardo_program.specs.declared.operation.Op.TheVariants as op
use Rattle.pardo_program.specs.declared.statement.Statement.{Statement}
use Rattle.pardo_program.specs.declared.statement.Statement.TheVariants.{Assign, If, While, For}
use Rattle.pardo_program.specs.declared.statement.Target.TheVariants.{Private, Array as Shared}
use Rattle.pardo_program.specs.Expression.{Tree, number, own, loop, private, place, apply, postfix}
use Rattle.pardo_program.specs.Program.{ProgramData}
use Rattle.pardo_flat.specs.Layouts.{ProgramLayoutData, program_layout, array_cells, loop_cells}
use Rattle.pardo_flat.specs.Layouts.{mask_cells}
use Rattle.pardo_flat.specs.Layouts.{private_cells}
use Rattle.pardo_job.specs.declared.fault.JobKind.{JobKind}
use Rattle.pardo_job.specs.declared.fault.JobKind.TheVariants.{TooDeep, TooLong, Endless, Memory}
use Rattle.pardo_job.specs.declared.fault.JobKind.TheVariants.{TooManyCells}
use Rattle.pardo_job.specs.Inner.Emitting.{IsCodeFault}
use Rattle.pardo_job.specs.Inner.Pieces.{IsLineFault, PutsLine, bounds_code, choice_code, under}
use Rattle.pardo_job.specs.Lines.{assignment_code, choosing, condition_code, first_code, no_code}
use Rattle.pardo_job.specs.Lines.{line_code, masked, none_code, own_store, while_code}
use Rattle.pardo_job.specs.Operations.{chosen_of, conjunction, choice, copy_code, first_chosen}
use Rattle.pardo_job.specs.Operations.{in_order, instruction_of, is_shallow, is_turned, native}
use Rattle.pardo_job.specs.Operations.{operation_code, register_code, register_or_spare}
use Rattle.pardo_job.specs.Operations.{second_chosen, taken_by, within_code, zero_test}
use Rattle.pardo_job.specs.Values.{is_truth, value_operand, own_load, own_place, takes}
use Rattle.pardo_job.specs.Values.{value_code}
use Rattle.pardo_job.proofs.Emitting.{fault_back, shallow_both}
use Rattle.pardo_job.proofs.LineGoals.{IsSaid}
use Rattle.pardo_job.proofs.LineParts.{choice_long, idle_shallow, none_parts, under_long}
use Rattle.pardo_job.proofs.Shallow.{instruction_target}

-- ---- an operation has an instruction

in_order_some : (at : ℕ) (one : Op) (a b : Operand) → 1 ≤ length (in_order at one a b)
in_order_some at one a b =
    let spare : ℕ = at + taken_by b in
    let last : List Instr = instruction_of one at (register_or_spare spare a) b ∷ [] in
    omega (arith, length-append (register_code spare a) last)

either_some : (at : ℕ) (one : Op) (a b : Operand) (turned : Bool) →
    1 ≤ length (if turned then in_order at one b a else in_order at one a b)
either_some at one a b true = in_order_some at one b a
either_some at one a b false = in_order_some at one a b

native_some : (at : ℕ) (one : Op) (a b : Operand) → 1 ≤ length (native at one a b)
unfolding native
native_some at one a b = either_some at one a b (is_turned one a)

front_some : (front back : List Instr) → 1 ≤ length front → 1 ≤ length (front ++ back)
front_some front back some = omega (arith, length-append front back)

back_some : (front back : List Instr) → 1 ≤ length back → 1 ≤ length (front ++ back)
back_some front back some = omega (arith, length-append front back)

conjunction_some : (at : ℕ) (a b : Operand) → 1 ≤ length (conjunction at a b)
unfolding conjunction
conjunction_some at a b =
    front_some (zero_test (at + taken_by b) a) _
    (back_some (register_code (at + taken_by b) a) _ (omega arith))

choice_some : (at : ℕ) (one : Op) (a b : Operand) → 1 ≤ length (choice at one a b)
unfolding choice
choice_some at one a b =
    back_some (copy_code at (first_chosen a b)) (chosen_of at one (second_chosen a b))
    (omega arith)

and_some : (at : ℕ) (truths : Bool) (a b : Operand) →
    1 ≤ length (if truths then native at op.BitAnd a b else conjunction at a b)
and_some at true a b = native_some at op.BitAnd a b
and_some at false a b = conjunction_some at a b

within_some : (at : ℕ) (a b : Operand) → 1 ≤ length (within_code at a b)
unfolding within_code
within_some at a b = back_some (register_code (at + taken_by b) a) _ (omega arith)

operation_some : (at : ℕ) (one : Op) (truths : Bool) (a b : Operand) →
    1 ≤ length (operation_code at one truths a b)
unfolding operation_code
operation_some at op.Ne truths a b = front_some (native at op.Eq a b) _ (native_some at op.Eq a b)
operation_some at op.Le truths a b = front_some (native at op.Gt a b) _ (native_some at op.Gt a b)
operation_some at op.Ge truths a b = front_some (native at op.Lt a b) _ (native_some at op.Lt a b)
operation_some at op.And truths a b = and_some at truths a b
operation_some at op.Or truths a b =
    front_some (native at op.BitOr a b) _ (native_some at op.BitOr a b)
operation_some at op.Min truths a b = choice_some at op.Min a b
operation_some at op.Max truths a b = choice_some at op.Max a b
operation_some at op.Within truths a b = within_some at a b
operation_some at op.Add truths a b = native_some at op.Add a b
operation_some at op.Sub truths a b = native_some at op.Sub a b
operation_some at op.Mul truths a b = native_some at op.Mul a b
operation_some at op.Div truths a b = native_some at op.Div a b
operation_some at op.Rem truths a b = native_some at op.Rem a b
operation_some at op.Shl truths a b = native_some at op.Shl a b
operation_some at op.Shr truths a b = native_some at op.Shr a b
operation_some at op.BitAnd truths a b = native_some at op.BitAnd a b
operation_some at op.BitOr truths a b = native_some at op.BitOr a b
operation_some at op.BitXor truths a b = native_some at op.BitXor a b
operation_some at op.Eq truths a b = native_some at op.Eq a b
operation_some at op.Lt truths a b = native_some at op.Lt a b
operation_some at op.Gt truths a b = native_some at op.Gt a b

-- ---- the code of an expression is at least half as long as its nodes

nodes_few : (layout : ProgramLayoutData) (at : ℕ) (tree : Tree) →
    length (postfix tree) ≤ 2 * length (value_code layout at tree) + 1
nodes_few layout at (number k) = omega arith
nodes_few layout at own = omega arith
nodes_few layout at (loop nest) = omega arith
nodes_few layout at (private x) = omega arith
nodes_few layout at (place array index) =
    omega (
      arith,
      nodes_few layout at index,
      length-append {A = Node} (postfix index),
      length-append {A = Instr} (value_code layout at index),
    )
nodes_few layout at (apply one first second) =
    let code : List Instr = operation_code at one (is_truth first && is_truth second)
    (value_operand at first) (value_operand (at + takes first) second) in
    omega (
      arith,
      nodes_few layout at first,
      nodes_few layout (at + takes first) second,
      operation_some at one (is_truth first && is_truth second) (value_operand at first)
          (value_operand (at + takes first) second),
      length-append {A = Node} (postfix first),
      length-append {A = Node} (postfix second),
      length-append (value_code layout at first) (value_code layout (at + takes first) second ++ code),
      length-append (value_code layout (at + takes first) second) code,
    )

pub long_code : (layout : ProgramLayoutData) (at : ℕ) (tree : Tree) (nodes : List Node) →
    nodes ≡ postfix tree → 2 * MAX_CODE + 1 < length nodes →
    MAX_CODE < length (value_code layout at tree)
long_code layout at tree nodes e many =
    omega (arith, nodes_few layout at tree, ap (λ (l : List Node). length l) e)

pub long_bounds : (layout : ProgramLayoutData) (first second : Tree) (nodes others : List Node)
    (count : ℕ) → nodes ≡ postfix first → others ≡ postfix second →
    count ≤ length nodes + length others → 2 * MAX_CODE + 2 < count →
    MAX_CODE < length (bounds_code layout first second)
long_bounds layout first second nodes others count e f few many =
    omega (
      arith,
      nodes_few layout 0 first,
      nodes_few layout (takes first) second,
      ap (λ (l : List Node). length l) e,
      ap (λ (l : List Node). length l) f,
      length-append (value_code layout 0 first) (value_code layout (takes first) second),
    )

-- the second expression begins where the first one has left registers free
pub both_deep : (layout : ProgramLayoutData) (first second : Tree) (at : ℕ) (k : JobKind) →
    at ≡ takes first → is_shallow (value_code layout 0 first) ≡ true →
    IsCodeFault (value_code layout at second) k → IsCodeFault (bounds_code layout first second) k
both_deep layout first second at k e s fault =
    fault_back (value_code layout 0 first) (value_code layout (takes first) second) k s
    (subst (λ (n : ℕ). IsCodeFault (value_code layout n second) k) e fault)

pub both_shallow : (layout : ProgramLayoutData) (first second : Tree) (at : ℕ) → at ≡ takes first →
    is_shallow (value_code layout 0 first) ≡ true →
    is_shallow (value_code layout at second) ≡ true →
    is_shallow (bounds_code layout first second) ≡ true
both_shallow layout first second at e s t =
    shallow_both (value_code layout 0 first) (value_code layout (takes first) second)
    ∙ ap (λ b. b && is_shallow (value_code layout (takes first) second)) s
    ∙ ap (λ n. is_shallow (value_code layout n second)) (sym e) ∙ t

-- ---- parts that decide whether code is shallow

-- the line is as shallow as this part of it
pub record IsPart (line part : List Instr) : Type 0 where
  pub same : is_shallow line ≡ is_shallow part
  pub few : length part ≤ length line

and_true : (b : Bool) → (b && true) ≡ b
and_true true = refl
and_true false = refl

and_again : (a b : Bool) → ((a && b) && a) ≡ (a && b)
and_again true true = refl
and_again true false = refl
and_again false b = refl

part_then : (line part : List Instr) (front : List Instr) → IsPart line front → IsPart front part →
    IsPart line part
part_then line part front p q = record {
  same = p.same ∙ q.same;
  few = omega (arith, p.few, q.few);
}

front_part : (front back : List Instr) → is_shallow back ≡ true → IsPart (front ++ back) front
front_part front back s = record {
  same = shallow_both front back ∙ ap (λ t. is_shallow front && t) s
      ∙ and_true (is_shallow front);
  few = omega (arith, length-append front back);
}

as_part : (line same part : List Instr) → line ≡ same → IsPart same part → IsPart line part
as_part line same part e p = subst (λ (l : List Instr). IsPart l part) (sym e) p

-- ---- short ends

spare_shallow : (b : Bool) (a : Operand) →
    is_shallow (register_code (0 + (if b then 1 else 0)) a) ≡ true
spare_shallow true (Register register) = refl
spare_shallow true (Number k) = refl
spare_shallow false (Register register) = refl
spare_shallow false (Number k) = refl

register_shallow : (a b : Operand) → is_shallow (register_code (0 + taken_by b) a) ≡ true
register_shallow a (Register register) = spare_shallow (nat_lt register 3) a
register_shallow a (Number k) = spare_shallow false a

in_order_shallow : (one : Op) (a b : Operand) → is_shallow (in_order 0 one a b) ≡ true
in_order_shallow one a b =
    let register : ℕ = register_or_spare (0 + taken_by b) a in
    shallow_both (register_code (0 + taken_by b) a) (instruction_of one 0 register b ∷ [])
    ∙ ap (λ t. t && is_shallow (instruction_of one 0 register b ∷ [])) (register_shallow a b)
    ∙ ap (λ n. nat_lt n 3 && true) (instruction_target one 0 register b)

native_either : (one : Op) (a b : Operand) (turned : Bool) →
    is_shallow (if turned then in_order 0 one b a else in_order 0 one a b) ≡ true
native_either one a b true = in_order_shallow one b a
native_either one a b false = in_order_shallow one a b

native_shallow : (one : Op) (a b : Operand) → is_shallow (native 0 one a b) ≡ true
unfolding native
native_shallow one a b = native_either one a b (is_turned one a)

truth_shallow : (truth : Bool) (a : Operand) →
    is_shallow (if truth then []
    else native 0 op.Eq a (Number 0) ++ native 0 op.Eq (Register 0) (Number 0)) ≡ true
truth_shallow true a = refl
truth_shallow false a =
    shallow_both (native 0 op.Eq a (Number 0)) (native 0 op.Eq (Register 0) (Number 0))
    ∙ ap (λ t. t && is_shallow (native 0 op.Eq (Register 0) (Number 0)))
    (native_shallow op.Eq a (Number 0))
    ∙ native_shallow op.Eq (Register 0) (Number 0)

-- ---- masks

masked_either : (layout : ProgramLayoutData) (at depth : ℕ) (body : List Instr) (b : Bool) →
    IsPart (if b then body else under layout at depth body) body
masked_either layout at depth body true = record { same = refl; few = omega arith }
masked_either layout at depth body false =
    let n : ℕ = length body in
    record {
      same = shallow_both (no_code (at + 3) n) (Jmp (at + 4 + 2 * n) ∷ body)
          ∙ ap (λ b. b && is_shallow body) (idle_shallow (at + 3) n);
      few = under_long layout at depth body;
    }

masked_part : (layout : ProgramLayoutData) (at depth : ℕ) (body : List Instr) →
    IsPart (masked layout at depth body) body
unfolding masked
masked_part layout at depth body = masked_either layout at depth body (depth == 0)

choice_either : (layout : ProgramLayoutData) (at depth : ℕ) (body : List Instr) (b : Bool) →
    is_shallow (if b then body else own_load 0
    (mask_cells layout depth) ∷ Jz 0 (at + 3 + length body)
    ∷ (body ++ Jmp (at + 4 + 2 * length body) ∷ no_code (at + 3 + length body) (length body + 1)))
    ≡ is_shallow body
choice_either layout at depth body true = refl
choice_either layout at depth body false =
    let n : ℕ = length body in
    shallow_both body (Jmp (at + 4 + 2 * n) ∷ no_code (at + 3 + n) (n + 1))
    ∙ ap (λ b. is_shallow body && b) (idle_shallow (at + 3 + n) (n + 1))
    ∙ and_true (is_shallow body)

choosing_part : (layout : ProgramLayoutData) (at depth : ℕ) (body : List Instr) →
    IsPart (choosing layout at depth body) body
unfolding choosing
choosing_part layout at depth body =
    part_then (choosing layout at depth body) body (choice_code layout at depth body)
    (front_part (choice_code layout at depth body) (own_store (mask_cells layout (depth + 1)) ∷ [])
    refl)
    (record {
      same = choice_either layout at depth body (depth == 0);
      few = choice_long layout at depth body (depth == 0);
    })

-- ---- the expressions of a line decide

pub private_part : (program : ProgramData) (places : ℕ → ℕ) (at depth x : ℕ) (tree : Tree) →
    IsPart (line_code program places at depth (Assign (Private x) tree))
    (value_code (program_layout program) 0 tree)
unfolding line_code assignment_code
private_part program places at depth x tree =
    let layout : ProgramLayoutData = program_layout program in
    let code : List Instr = assignment_code layout (Private x) tree in
    part_then (masked layout at depth code) (value_code layout 0 tree) code
    (masked_part layout at depth code)
    (front_part (value_code layout 0 tree)
    (St (own_place (private_cells layout x)) (value_operand 0 tree) ∷ []) refl)

pub array_part : (program : ProgramData) (places : ℕ → ℕ) (at depth array : ℕ)
    (index tree : Tree) →
    IsPart (line_code program places at depth (Assign (Shared array index) tree))
    (bounds_code (program_layout program) tree index)
unfolding line_code assignment_code
array_part program places at depth array index tree =
    let layout : ProgramLayoutData = program_layout program in
    let code : List Instr = assignment_code layout (Shared array index) tree in
    let store : List Instr = St (Named (array_cells layout array)
    (value_operand (takes tree) index)) (value_operand 0 tree) ∷ [] in
    part_then (masked layout at depth code) (bounds_code layout tree index) code
    (masked_part layout at depth code)
    (as_part code (bounds_code layout tree index ++ store) (bounds_code layout tree index)
    (sym (append_assoc (value_code layout 0 tree) (value_code layout (takes tree) index) store))
    (front_part (bounds_code layout tree index) store refl))

pub if_part : (program : ProgramData) (places : ℕ → ℕ) (at depth : ℕ) (tree : Tree) →
    IsPart (line_code program places at depth (If tree))
    (value_code (program_layout program) 0 tree)
unfolding line_code condition_code
if_part program places at depth tree =
    let layout : ProgramLayoutData = program_layout program in
    let code : List Instr = condition_code layout tree in
    part_then (choosing layout at depth code) (value_code layout 0 tree) code
    (choosing_part layout at depth code)
    (front_part (value_code layout 0 tree) _ (truth_shallow (is_truth tree) (value_operand 0 tree)))

pub while_part : (program : ProgramData) (places : ℕ → ℕ) (at depth : ℕ) (tree : Tree)
    (end : ℕ) →
    IsPart (line_code program places at depth (While tree end))
    (value_code (program_layout program) 0 tree)
unfolding line_code while_code
while_part program places at depth tree end =
    let layout : ProgramLayoutData = program_layout program in
    let code : List Instr = while_code layout tree in
    part_then (line_code program places at depth (While tree end)) (value_code layout 0 tree) code
    (front_part code (Jz (register_or_spare 0 (value_operand 0 tree)) (places (end + 1)) ∷ []) refl)
    (front_part (value_code layout 0 tree) (register_code 0 (value_operand 0 tree))
    (register_shallow (value_operand 0 tree) (Number 0)))

pub for_part : (program : ProgramData) (places : ℕ → ℕ) (at depth nest : ℕ) (first last : Tree)
    (up : Bool) (end : ℕ) →
    IsPart (line_code program places at depth (For nest first last up end))
    (bounds_code (program_layout program) first last)
unfolding line_code first_code
for_part program places at depth nest first last up end =
    let layout : ProgramLayoutData = program_layout program in
    let test : List Instr = none_code layout up first last in
    let start : List Instr = first_code layout nest first in
    let rest : List Instr = Jz 0 (at + length test + 2) ∷ Jmp (places (end + 1)) ∷ start in
    let bounds : List Instr = bounds_code layout first last in
    let one : Bool = is_shallow (value_code layout 0 first) in
    let other : Bool = is_shallow (value_code layout (takes first) last) in
    let in_test : IsPart test bounds = as_part test _ bounds (none_parts layout up first last)
    (front_part bounds _ (native_shallow (if up then op.Gt else op.Lt) (value_operand 0 first)
    (value_operand (takes first) last))) in
    let in_start : IsPart start (value_code layout 0 first) =
    front_part (value_code layout 0 first)
    (St (own_place (loop_cells layout nest)) (value_operand 0 first) ∷ []) refl in
    let both : is_shallow bounds ≡ (one && other) =
    shallow_both (value_code layout 0 first) (value_code layout (takes first) last) in
    record {
      same = shallow_both test rest
          ∙ ap (λ t. t && is_shallow start) (in_test.same ∙ both)
          ∙ ap (λ t. (one && other) && t) in_start.same
          ∙ and_again one other ∙ sym both;
      few = omega (arith, in_test.few, length-append test rest);
    }

-- ---- faults

fault_same : (line part : List Instr) (k : JobKind) → IsPart line part → IsLineFault part k →
    IsLineFault line k
fault_same line part TooDeep p e = p.same ∙ e
fault_same line part TooLong p e = (p.same ∙ e.0, omega (arith, e.1, p.few))
fault_same line part Endless p e = e
fault_same line part TooManyCells p e = e
fault_same line part Memory p e = e

judged_same : (r : Result (Unit {0}) JobKind) (line part : List Instr) → IsPart line part →
    IfErr r (IsLineFault part) → IfErr r (IsLineFault line)
judged_same (Ok x) line part p e = tt
judged_same (Err k) line part p e = fault_same line part k p e

-- a fault of the expressions of a line is one of the line
pub judged_as : (r : Result (Unit {0}) JobKind) (program : ProgramData) (layout : ProgramLayoutData)
    (places : ℕ → ℕ) (at depth : ℕ) (statement said : Statement)
    (part : ProgramLayoutData → List Instr) → IsSaid program layout statement said →
    IsPart (line_code program places at depth said) (part (program_layout program)) →
    IfErr r (IsLineFault (part layout)) →
    IfErr r (IsLineFault (line_code program places at depth statement))
judged_as r program layout places at depth statement said part s p e =
    subst (λ (t : Statement). IfErr r (IsLineFault (line_code program places at depth t)))
    (sym s.is)
    (judged_same r (line_code program places at depth said) (part (program_layout program)) p
    (subst (λ (l : ProgramLayoutData). IfErr r (IsLineFault (part l))) s.layout_is e))

-- a line that was judged puts nothing
pub judged_puts : (old : List Instr) (r : Result (Unit {0}) JobKind) (k : JobKind)
    (code : List Instr) → r ≡ Err k → IsLineFault code k → PutsLine old old r code
judged_puts old r k code e fault =
    subst (λ (q : Result (Unit {0}) JobKind). PutsLine old old q code) (sym e)
    (record { all = tt; shallow = tt; fault = fault })
