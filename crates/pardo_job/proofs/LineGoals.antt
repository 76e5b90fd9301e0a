-- The code of a line, as its pieces are put.
use Rattle.std.proofs.Common.{◌≡◌, ℕ, ◌+◌, Bool, true, false, List, [], ◌∷◌, ◌++◌, length, Result}
use Rattle.std.proofs.Common.{Ok, Err}
use Rattle.std.proofs.Common.{refl, sym, ap, subst, ◌∙◌}
use Rattle.pram_job.specs.declared.instr.Instr.{Instr}
use Rattle.pram_job.specs.declared.instr.Instr.TheVariants.{Jmp, Jz}
use Rattle.pardo_program.specs.declared.statement.Statement.{Statement}
use Rattle.pardo_program.specs.declared.statement.Statement.TheVariants.{Assign, If, Else, EndIf}
use Rattle.pardo_program.specs.declared.statement.Statement.TheVariants.{While, EndWhile, For}
use Rattle.pardo_program.specs.declared.statement.Statement.TheVariants.{EndFor}
use Rattle.pardo_program.specs.declared.statement.Target.{Target}
use Rattle.pardo_program.specs.Expression.{Tree}
use Rattle.pardo_program.specs.Program.{ProgramData}
use Rattle.pardo_flat.specs.Layouts.{ProgramLayoutData, program_layout}
use Rattle.pardo_flat.specs.Statements.{statement_at}
use Rattle.pardo_job.specs.declared.fault.JobKind.{JobKind}
use Rattle.pardo_job.specs.declared.fault.JobKind.TheVariants.{TooDeep, TooLong, Endless, Memory}
use Rattle.pardo_job.specs.declared.fault.JobKind.TheVariants.{TooManyCells}
use Rattle.pardo_job.specs.Inner.Emitting.{PutsCode, IsCodeFault}
use Rattle.pardo_job.specs.Inner.Pieces.{IsLineFault, PutsLine}
use Rattle.pardo_job.specs.Lines.{assignment_code, choosing, condition_code, first_code, line_code}
use Rattle.pardo_job.specs.Lines.{loop_end, masked}
use Rattle.pardo_job.specs.Lines.{none_code, others, while_code}
use Rattle.pardo_job.specs.Operations.{is_shallow, register_or_spare}
use Rattle.pardo_job.specs.Values.{value_operand}
use Rattle.pardo_job.proofs.Emitting.{puts_none, puts_then}
use Rattle.pardo_job.proofs.LineFits.{choosing_body, masked_body}
use Rattle.pardo_job.proofs.LineParts.{puts_line}
use Rattle.pardo_job.proofs.Shallow.{shallow_back, shallow_front, shallow_rest}

not_shallow : (a b : Bool) → (a ≡ true → b ≡ true) → b ≡ false → a ≡ false
not_shallow true b f e = absurd
    (let t : b ≡ true = f refl in let no : true ≡ false = sym t ∙ e in cc)
not_shallow false b f e = refl

-- a fault of the body of a line is one of the line
fault_through : (line body : List Instr) (k : JobKind) →
    (is_shallow line ≡ true → is_shallow body ≡ true) →
    IsCodeFault body k → IsLineFault line k
fault_through line body TooDeep f e = not_shallow (is_shallow line) (is_shallow body) f e
fault_through line body TooLong f e = absurd e
fault_through line body Endless f e = e
fault_through line body TooManyCells f e = e
fault_through line body Memory f e = e

pub line_fails : {A : Type 0} (old new line body : List Instr) (r : Result A JobKind)
    (k : JobKind) → r ≡ Err k →
    (is_shallow line ≡ true → is_shallow body ≡ true) → IsCodeFault body k → PutsLine old new r line
line_fails {A = A} old new line body r k e f fault =
    subst (λ (q : Result A JobKind). PutsLine old new q line) (sym e)
    (record { all = tt; shallow = tt; fault = fault_through line body k f fault })

-- what a line is said to be
pub record IsSaid (program : ProgramData) (layout : ProgramLayoutData) (statement said : Statement)
    :
    Type 0 where
  pub layout_is : layout ≡ program_layout program
  pub is : statement ≡ said

as_said : {A : Type 0} (old new : List Instr) (r : Result A JobKind) (program : ProgramData)
    (places : ℕ → ℕ) (at depth : ℕ)
    (statement said : Statement) → statement ≡ said →
    PutsLine old new r (line_code program places at depth said) →
    PutsLine old new r (line_code program places at depth statement)
as_said old new r program places at depth statement said e p =
    subst (λ (s : Statement). PutsLine old new r (line_code program places at depth s)) (sym e) p

-- ---- assignments

pub assign_puts : (old new : List Instr) (r : Result (Unit {0}) JobKind) (program : ProgramData)
    (layout : ProgramLayoutData) (places : ℕ → ℕ) (at depth : ℕ)
    (statement : Statement) (target : Target) (tree : Tree) (body : List Instr) →
    IsSaid program layout statement (Assign target tree) →
    body ≡ assignment_code layout target tree → PutsLine old new r (masked layout at depth body) →
    PutsLine old new r (line_code program places at depth statement)
unfolding line_code
assign_puts old new r program layout places at depth statement target tree body said e p =
    as_said old new r program places at depth statement (Assign target tree) said.is
    (subst (λ (l : List Instr). PutsLine old new r l)
    (ap (masked layout at depth) e ∙
    ap (λ (l : ProgramLayoutData). masked l at depth (assignment_code l target tree))
    said.layout_is) p)

pub assign_fails : (old new : List Instr) (r : Result (Unit {0}) JobKind) (program : ProgramData)
    (layout : ProgramLayoutData) (places : ℕ → ℕ) (at depth : ℕ)
    (statement : Statement) (target : Target) (tree : Tree) (k : JobKind) →
    IsSaid program layout statement (Assign target tree) → r ≡ Err k →
    IsCodeFault (assignment_code layout target tree) k →
    PutsLine old new r (line_code program places at depth statement)
unfolding line_code
assign_fails old new r program layout places at depth statement target tree k said e fault =
    as_said old new r program places at depth statement (Assign target tree) said.is
    (line_fails old new (line_code program places at depth (Assign target tree))
    (assignment_code (program_layout program) target tree) r k e
    (masked_body (program_layout program) at depth
    (assignment_code (program_layout program) target tree))
    (subst (λ (l : ProgramLayoutData). IsCodeFault (assignment_code l target tree) k) said.layout_is
    fault))

-- ---- conditions

pub if_puts : (old new : List Instr) (r : Result (Unit {0}) JobKind) (program : ProgramData)
    (layout : ProgramLayoutData) (places : ℕ → ℕ) (at depth : ℕ)
    (statement : Statement) (tree : Tree) (body : List Instr) →
    IsSaid program layout statement (If tree) →
    body ≡ condition_code layout tree → PutsLine old new r (choosing layout at depth body) →
    PutsLine old new r (line_code program places at depth statement)
unfolding line_code
if_puts old new r program layout places at depth statement tree body said e p =
    as_said old new r program places at depth statement (If tree) said.is
    (subst (λ (l : List Instr). PutsLine old new r l)
    (ap (choosing layout at depth) e ∙
    ap (λ (l : ProgramLayoutData). choosing l at depth (condition_code l tree)) said.layout_is) p)

pub if_fails : (old new : List Instr) (r : Result (Unit {0}) JobKind) (program : ProgramData)
    (layout : ProgramLayoutData) (places : ℕ → ℕ) (at depth : ℕ)
    (statement : Statement) (tree : Tree) (k : JobKind) →
    IsSaid program layout statement (If tree) → r ≡ Err k →
    IsCodeFault (condition_code layout tree) k →
    PutsLine old new r (line_code program places at depth statement)
unfolding line_code
if_fails old new r program layout places at depth statement tree k said e fault =
    as_said old new r program places at depth statement (If tree) said.is
    (line_fails old new (line_code program places at depth (If tree))
    (condition_code (program_layout program) tree) r k e
    (choosing_body (program_layout program) at depth (condition_code (program_layout program) tree))
    (subst (λ (l : ProgramLayoutData). IsCodeFault (condition_code l tree) k) said.layout_is fault))

pub else_puts : (old new : List Instr) (r : Result (Unit {0}) JobKind) (program : ProgramData)
    (layout : ProgramLayoutData) (places : ℕ → ℕ) (at depth : ℕ)
    (statement : Statement) → IsSaid program layout statement Else →
    PutsCode old new r (others layout depth) →
    PutsLine old new r (line_code program places at depth statement)
unfolding line_code
else_puts old new r program layout places at depth statement said p =
    as_said old new r program places at depth statement Else said.is
    (puts_line old new r (others (program_layout program) depth)
    (subst (λ (l : ProgramLayoutData). PutsCode old new r (others l depth)) said.layout_is p))

pub end_if_puts : (old : List Instr) (x : Unit {0}) (program : ProgramData) (places : ℕ → ℕ)
    (at depth : ℕ) (statement : Statement) →
    statement ≡ EndIf → PutsLine old old (Ok x) (line_code program places at depth statement)
unfolding line_code
end_if_puts old x program places at depth statement e =
    as_said old old (Ok x) program places at depth statement EndIf e
    (puts_line old old (Ok x) [] (puts_none old x))

-- ---- loops

pub while_fails : (old new : List Instr) (r : Result (Unit {0}) JobKind) (program : ProgramData)
    (layout : ProgramLayoutData) (places : ℕ → ℕ) (at depth : ℕ)
    (statement : Statement) (tree : Tree) (end : ℕ) (k : JobKind) →
    IsSaid program layout statement (While tree end) → r ≡ Err k →
    IsCodeFault (while_code layout tree) k →
    PutsLine old new r (line_code program places at depth statement)
unfolding line_code
while_fails old new r program layout places at depth statement tree end k said e fault =
    as_said old new r program places at depth statement (While tree end) said.is
    (line_fails old new (line_code program places at depth (While tree end))
    (while_code (program_layout program) tree) r k e
    (λ s. shallow_front (while_code (program_layout program) tree)
    (Jz (register_or_spare 0 (value_operand 0 tree)) (places (end + 1)) ∷ []) s)
    (subst (λ (l : ProgramLayoutData). IsCodeFault (while_code l tree) k) said.layout_is fault))

pub while_puts : {A : Type 0} (old mid new : List Instr) (x : A) (r : Result (Unit {0}) JobKind)
    (program : ProgramData) (layout : ProgramLayoutData) (places : ℕ → ℕ) (at depth : ℕ)
    (statement : Statement) (tree : Tree) (end register place : ℕ) →
    IsSaid program layout statement (While tree end) →
    register ≡ register_or_spare 0 (value_operand 0 tree) → place ≡ places (end + 1) →
    PutsCode old mid (Ok x) (while_code layout tree) →
    PutsCode mid new r (Jz register place ∷ []) →
    PutsLine old new r (line_code program places at depth statement)
unfolding line_code
while_puts old mid new x r program layout places at depth statement tree end register place said e f
    p q =
    let test : List Instr = while_code (program_layout program) tree in
    let jump : List Instr = Jz (register_or_spare 0 (value_operand 0 tree)) (places (end + 1))
    ∷ [] in
    let same : Jz register place ∷ [] ≡ jump = ap (λ (n : ℕ). Jz n place ∷ []) e ∙
    ap (λ (n : ℕ). Jz (register_or_spare 0 (value_operand 0 tree)) n ∷ []) f in
    as_said old new r program places at depth statement (While tree end) said.is
    (puts_line old new r (test ++ jump) (puts_then old mid new test jump x r
    (subst (λ (l : ProgramLayoutData). PutsCode old mid (Ok x) (while_code l tree)) said.layout_is
    p)
    (subst (λ (l : List Instr). PutsCode mid new r l) same q)))

pub end_while_puts : (old new : List Instr) (r : Result (Unit {0}) JobKind) (program : ProgramData)
    (places : ℕ → ℕ) (at depth : ℕ)
    (statement : Statement) (begin place : ℕ) → statement ≡ EndWhile begin → place ≡ places begin →
    PutsCode old new r (Jmp place ∷ []) →
    PutsLine old new r (line_code program places at depth statement)
unfolding line_code
end_while_puts old new r program places at depth statement begin place e f p =
    as_said old new r program places at depth statement (EndWhile begin) e
    (puts_line old new r (Jmp (places begin) ∷ [])
    (subst (λ (n : ℕ). PutsCode old new r (Jmp n ∷ [])) f p))

abbrev for_line : ProgramLayoutData → (ℕ → ℕ) → ℕ → ℕ → Tree → Tree → Bool → ℕ → List Instr
for_line layout places at nest first last up end = none_code layout up first last
    ++ (Jz 0 (at + length (none_code layout up first last) + 2) ∷ Jmp (places (end + 1)) ∷
    first_code layout nest first)

pub for_test_fails : (old new : List Instr) (r : Result (Unit {0}) JobKind) (program : ProgramData)
    (layout : ProgramLayoutData) (places : ℕ → ℕ) (at depth : ℕ)
    (statement : Statement) (nest : ℕ) (first last : Tree) (up : Bool) (end : ℕ) (k : JobKind) →
    IsSaid program layout statement (For nest first last up end) →
    r ≡ Err k → IsCodeFault (none_code layout up first last) k →
    PutsLine old new r (line_code program places at depth statement)
unfolding line_code
for_test_fails old new r program layout places at depth statement nest first last up end k said e
    fault =
    let test : List Instr = none_code (program_layout program) up first last in
    as_said old new r program places at depth statement (For nest first last up end) said.is
    (line_fails old new (for_line (program_layout program) places at nest first last up end) test r
    k e
    (λ s. shallow_front test (Jz 0 (at + length test + 2) ∷ Jmp (places (end + 1)) ∷
    first_code (program_layout program) nest first) s)
    (subst (λ (l : ProgramLayoutData). IsCodeFault (none_code l up first last) k) said.layout_is
    fault))

pub for_start_fails : (old new : List Instr) (r : Result (Unit {0}) JobKind) (program : ProgramData)
    (layout : ProgramLayoutData) (places : ℕ → ℕ) (at depth : ℕ)
    (statement : Statement) (nest : ℕ) (first last : Tree) (up : Bool) (end : ℕ) (k : JobKind) →
    IsSaid program layout statement (For nest first last up end) →
    r ≡ Err k → IsCodeFault (first_code layout nest first) k →
    PutsLine old new r (line_code program places at depth statement)
unfolding line_code
for_start_fails old new r program layout places at depth statement nest first last up end k said e
    fault =
    let test : List Instr = none_code (program_layout program) up first last in
    let start : List Instr = first_code (program_layout program) nest first in
    let jump : Instr = Jz 0 (at + length test + 2) in
    let leave : Instr = Jmp (places (end + 1)) in
    as_said old new r program places at depth statement (For nest first last up end) said.is
    (line_fails old new (for_line (program_layout program) places at nest first last up end) start r
    k e
    (λ s. shallow_rest leave start (shallow_rest jump (leave ∷ start)
    (shallow_back test (jump ∷ leave ∷ start) s)))
    (subst (λ (l : ProgramLayoutData). IsCodeFault (first_code l nest first) k) said.layout_is
    fault))

pub for_puts : (old new : List Instr) (r : Result (Unit {0}) JobKind) (program : ProgramData)
    (layout : ProgramLayoutData) (places : ℕ → ℕ) (at depth : ℕ)
    (statement : Statement) (nest : ℕ) (first last : Tree) (up : Bool) (end place : ℕ)
    (test start : List Instr) →
    IsSaid program layout statement (For nest first last up end) → test ≡
    none_code layout up first last → start ≡ first_code layout nest first →
    place ≡ places (end + 1) → PutsLine old new r
    (test ++ Jz 0 (at + length test + 2) ∷ Jmp place ∷ start) →
    PutsLine old new r (line_code program places at depth statement)
unfolding line_code
for_puts old new r program layout places at depth statement nest first last up end place test start
    said e f g p =
    as_said old new r program places at depth statement (For nest first last up end) said.is
    (subst (λ (l : List Instr). PutsLine old new r l)
    (ap (λ (t : List Instr). t ++ Jz 0 (at + length t + 2) ∷ Jmp place ∷ start) e
    ∙ ap (λ (s : List Instr). none_code layout up first last ++
    Jz 0 (at + length (none_code layout up first last) + 2) ∷ Jmp place ∷ s) f
    ∙ ap (λ (n : ℕ). none_code layout up first last ++
    Jz 0 (at + length (none_code layout up first last) + 2) ∷ Jmp n ∷
    first_code layout nest first) g
    ∙ ap (λ (l : ProgramLayoutData). for_line l places at nest first last up end) said.layout_is) p)

pub end_for_puts : (old new : List Instr) (r : Result (Unit {0}) JobKind) (program : ProgramData)
    (places : ℕ → ℕ) (at depth : ℕ)
    (statement first : Statement) (begin : ℕ) → statement ≡ EndFor begin → first ≡
    statement_at program begin →
    PutsCode old new r (loop_end (program_layout program) places begin first) →
    PutsLine old new r (line_code program places at depth statement)
unfolding line_code
end_for_puts old new r program places at depth statement first begin e f p =
    as_said old new r program places at depth statement (EndFor begin) e
    (puts_line old new r
    (loop_end (program_layout program) places begin (statement_at program begin))
    (subst (λ (s : Statement). PutsCode old new r
    (loop_end (program_layout program) places begin s)) f p))
