-- Pieces of the code of lines, one after another.
use Rattle.std.proofs.Common.{◌≡◌, ◌≢◌, ℕ, zero, suc, ◌+◌, ◌*◌, ◌<◌, ◌≤◌, Bool, true, false, ◌&&◌}
use Rattle.std.proofs.Common.{◌==◌, if◌then◌else◌}
use Rattle.std.proofs.Common.{List, [], ◌∷◌, ◌++◌, length, eq-eqb}
use Rattle.std.proofs.lemmas.Bool.{ne_eqb}
use Rattle.std.proofs.Common.{Result, Ok, Err, IfErr, refl, sym, ap, subst, ◌∙◌, append_assoc}
use Rattle.std.proofs.Common.{arith}
use Rattle.std.proofs.lemmas.List.{length-append}
use Rattle.pram_job.specs.declared.instr.Instr.{Instr}
use Rattle.pram_job.specs.declared.instr.Instr.TheVariants.{Jz, Jmp}
use Rattle.pram_job.specs.declared.limits.TheConstants.{MAX_CODE}
use Rattle.pardo_program.specs.Expression.{Tree}
use Rattle.pardo_flat.specs.Layouts.{ProgramLayoutData, mask_cells}
use Rattle.pardo_job.specs.declared.fault.JobKind.{JobKind}
use Rattle.pardo_job.specs.declared.fault.JobKind.TheVariants.{TooDeep, TooLong, Endless, Memory}
use Rattle.pardo_job.specs.declared.fault.JobKind.TheVariants.{TooManyCells}
use Rattle.pardo_job.specs.Inner.Emitting.{PutsCode, IsCodeFault}
use Rattle.pram_job.specs.declared.instr.Array.{Array}
use Rattle.pram_job.specs.declared.instr.Operand.{Operand}
use Rattle.pardo_program.specs.declared.operation.Op.{Op}
use Rattle.pardo_program.specs.declared.operation.Op.TheVariants as op
use Rattle.pardo_job.specs.Inner.Pieces.{IsLineFault, PutsLine, bounds_code, bounds_operands}
use Rattle.pardo_job.specs.Inner.Pieces.{choice_code, under}
use Rattle.pardo_job.specs.Lines.{choosing, no_code, masked, none_code, own_store}
use Rattle.pardo_job.specs.Operations.{is_shallow, native}
use Rattle.pardo_job.specs.Values.{value_operand, own_load, takes, value_code}
use Rattle.pardo_job.proofs.Emitting.{fault_front, puts_fails, puts_then, shallow_both}

-- ---- the code of a line

pub fault_of_line : (code : List Instr) (kind : JobKind) → IsCodeFault code kind →
    IsLineFault code kind
fault_of_line code TooDeep e = e
fault_of_line code TooLong e = absurd e
fault_of_line code Endless e = e
fault_of_line code TooManyCells e = e
fault_of_line code Memory e = e

-- code that is put as any
pub puts_line : {A : Type 0} (old new : List Instr) (r : Result A JobKind) (code : List Instr) →
    PutsCode old new r code → PutsLine old new r code
puts_line old new (Ok x) code p = record { all = p.all; shallow = p.shallow; fault = p.fault }
puts_line old new (Err k) code p =
    record { all = p.all; shallow = p.shallow; fault = fault_of_line code k p.fault }

-- code that is too long
pub line_too_long : {A : Type 0} (old new code : List Instr) → is_shallow code ≡ true →
    MAX_CODE < length code → PutsLine {A = A} old new (Err TooLong) code
line_too_long old new code s lt = record { all = tt; shallow = tt; fault = (s, lt) }

-- ---- steps that do nothing

where_next : (at n : ℕ) → at + 1 + n + 1 ≡ at + suc n + 1
where_next at n = omega arith

pub idle_suc : (at n : ℕ) → no_code at (suc n) ≡ no_code at n ++ Jmp (at + n + 1) ∷ []
idle_suc at zero = let e : at + 1 ≡ at + 0 + 1 = omega arith in ap (λ (k : ℕ). Jmp k ∷ []) e
idle_suc at (suc n) =
    ap (λ (l : List Instr). Jmp (at + 1) ∷ l)
    (idle_suc (at + 1) n ∙ ap (λ (k : ℕ). no_code (at + 1) n ++ Jmp k ∷ []) (where_next at n))

pub idle_more : (at n : ℕ) → no_code at (n + 1) ≡ no_code at n ++ Jmp (at + n + 1) ∷ []
idle_more at n =
    let e : n + 1 ≡ suc n = omega arith in
    ap (no_code at) e ∙ idle_suc at n

pub idle_shallow : (at n : ℕ) → is_shallow (no_code at n) ≡ true
idle_shallow at zero = refl
idle_shallow at (suc n) = idle_shallow (at + 1) n

pub idle_length : (at n : ℕ) → length (no_code at n) ≡ n
idle_length at zero = refl
idle_length at (suc n) = let e = idle_length (at + 1) n in omega (arith, e)

pub idle_count : (first now : List Instr) (n : ℕ) → now ≡ first ++ no_code (length first) n →
    length now ≡ length first + n
idle_count first now n e =
    omega (
      arith,
      ap (λ (l : List Instr). length l) e,
      length-append first (no_code (length first) n),
      idle_length (length first) n,
    )

pub idle_step : (first now new : List Instr) (n next : ℕ) → now ≡ first ++ no_code (length first) n →
    new ≡ now ++ Jmp next ∷ [] →
    next ≡ length now + 1 → new ≡ first ++ no_code (length first) (n + 1)
idle_step first now new n next e f g =
    let at : ℕ = length first in
    let is : next ≡ at + n + 1 = omega (arith, idle_count first now n e, g) in
    f ∙ ap (λ (l : List Instr). l ++ Jmp next ∷ []) e ∙
    ap (λ (k : ℕ). (first ++ no_code at n) ++ Jmp k ∷ []) is
    ∙ append_assoc first (no_code at n) (Jmp (at + n + 1) ∷ []) ∙
    ap (λ (l : List Instr). first ++ l) (sym (idle_more at n))

-- ---- the code of masked lines

pub masked_none : (layout : ProgramLayoutData) (at depth : ℕ) (body : List Instr) → depth ≡ 0 →
    masked layout at depth body ≡ body
unfolding masked
masked_none layout at depth body e =
    ap (λ (b : Bool). if b then body else under layout at depth body) (eq-eqb depth 0 e)

pub masked_some : (layout : ProgramLayoutData) (at depth : ℕ) (body : List Instr) → depth ≢ 0 →
    masked layout at depth body ≡ under layout at depth body
unfolding masked
masked_some layout at depth body e =
    ap (λ (b : Bool). if b then body else under layout at depth body) (ne_eqb depth 0 e)

under_shallow : (layout : ProgramLayoutData) (at depth : ℕ) (body : List Instr) →
    is_shallow body ≡ true →
    is_shallow (under layout at depth body) ≡ true
under_shallow layout at depth body s =
    let n : ℕ = length body in
    shallow_both (no_code (at + 3) n) (Jmp (at + 4 + 2 * n) ∷ body)
    ∙ ap (λ b. b && is_shallow body) (idle_shallow (at + 3) n) ∙ s

pub under_long : (layout : ProgramLayoutData) (at depth : ℕ) (body : List Instr) →
    length body ≤ length (under layout at depth body)
under_long layout at depth body =
    let n : ℕ = length body in
    omega (arith, length-append (no_code (at + 3) n) (Jmp (at + 4 + 2 * n) ∷ body))

-- a body that is too long
pub masked_too_long : {A : Type 0} (old new : List Instr) (layout : ProgramLayoutData)
    (at depth : ℕ)
    (body : List Instr) → is_shallow body ≡ true → MAX_CODE < length body →
    PutsLine {A = A} old new (Err TooLong) (masked layout at depth body)
masked_too_long {A = A} old new layout at zero body s lt =
    subst (λ (code : List Instr). PutsLine {A = A} old new (Err TooLong) code)
    (sym (masked_none layout at zero body refl)) (line_too_long old new body s lt)
masked_too_long {A = A} old new layout at (suc outer) body s lt =
    let some : suc outer ≢ 0 = omega arith in
    subst (λ (code : List Instr). PutsLine {A = A} old new (Err TooLong) code)
    (sym (masked_some layout at (suc outer) body some))
    (line_too_long old new (under layout at (suc outer) body)
    (under_shallow layout at (suc outer) body s)
    (omega (arith, lt, under_long layout at (suc outer) body)))

choice_shallow : (layout : ProgramLayoutData) (at depth : ℕ) (body : List Instr) (b : Bool) →
    is_shallow body ≡ true →
    is_shallow (if b then body else own_load 0 (mask_cells layout depth) ∷
    Jz 0 (at + 3 + length body)
    ∷ (body ++ Jmp (at + 4 + 2 * length body) ∷ no_code (at + 3 + length body) (length body + 1))) ≡
    true
choice_shallow layout at depth body true s = s
choice_shallow layout at depth body false s =
    let n : ℕ = length body in
    shallow_both body (Jmp (at + 4 + 2 * n) ∷ no_code (at + 3 + n) (n + 1))
    ∙ ap (λ b. b && is_shallow (no_code (at + 3 + n) (n + 1))) s ∙ idle_shallow (at + 3 + n) (n + 1)

pub choice_long : (layout : ProgramLayoutData) (at depth : ℕ) (body : List Instr) (b : Bool) →
    length body ≤ length (if b then body else own_load 0 (mask_cells layout depth) ∷
    Jz 0 (at + 3 + length body)
    ∷ (body ++ Jmp (at + 4 + 2 * length body) ∷ no_code (at + 3 + length body) (length body + 1)))
choice_long layout at depth body true = omega arith
choice_long layout at depth body false =
    let n : ℕ = length body in
    omega (arith, length-append body (Jmp (at + 4 + 2 * n) ∷ no_code (at + 3 + n) (n + 1)))

pub choosing_too_long : {A : Type 0} (old new : List Instr) (layout : ProgramLayoutData)
    (at depth : ℕ)
    (body : List Instr) →
    is_shallow body ≡ true → MAX_CODE < length body →
    PutsLine {A = A} old new (Err TooLong) (choosing layout at depth body)
unfolding choosing
choosing_too_long old new layout at depth body s lt =
    let front : List Instr = choice_code layout at depth body in
    let store : List Instr = own_store (mask_cells layout (depth + 1)) ∷ [] in
    line_too_long old new (front ++ store)
    (shallow_both front store ∙ ap (λ b. b && is_shallow store)
    (choice_shallow layout at depth body (depth == 0) s))
    (omega (arith, lt, choice_long layout at depth body (depth == 0), length-append front store))

pub choosing_fails : (old new : List Instr) (r : Result (Unit {0}) JobKind) (k : JobKind)
    (layout : ProgramLayoutData) (at depth : ℕ) (body : List Instr) →
    r ≡ Err k → PutsCode {A = Unit {0}} old new (Err k) (choice_code layout at depth body) →
    PutsLine old new r (choosing layout at depth body)
unfolding choosing
choosing_fails old new r k layout at depth body e p =
    let store : List Instr = own_store (mask_cells layout (depth + 1)) ∷ [] in
    subst (λ (q : Result (Unit {0}) JobKind). PutsLine old new q (choosing layout at depth body))
    (sym e)
    (puts_line old new (Err k) (choice_code layout at depth body ++ store)
    (puts_fails old new (choice_code layout at depth body) store k p))

pub choosing_put : (old mid new : List Instr) (r : Result (Unit {0}) JobKind) (x : Unit {0})
    (layout : ProgramLayoutData) (at depth : ℕ) (body : List Instr) (row : Array) →
    row ≡ mask_cells layout (depth + 1) →
    PutsCode old mid (Ok x) (choice_code layout at depth body) →
    PutsCode mid new r (own_store row ∷ []) →
    PutsLine old new r (choosing layout at depth body)
unfolding choosing
choosing_put old mid new r x layout at depth body row e p q =
    let front : List Instr = choice_code layout at depth body in
    let store : List Instr = own_store (mask_cells layout (depth + 1)) ∷ [] in
    puts_line old new r (front ++ store) (puts_then old mid new front store x r p
    (subst (λ (cells : Array). PutsCode mid new r (own_store cells ∷ [])) e q))

-- ---- the test of a loop

pub on_err : {A E : Type 0} (r : Result A E) (k : E) (P : E → Type 0) → r ≡ Err k → P k → IfErr r P
on_err {A = A} {E = E} r k P e p = subst (λ (q : Result A E). IfErr q P) (sym e) p

pub none_parts : (layout : ProgramLayoutData) (up : Bool) (first last : Tree) →
    none_code layout up first last
    ≡ bounds_code layout first last ++
    native 0 (if up then op.Gt else op.Lt) (value_operand 0 first)
    (value_operand (takes first) last)
unfolding none_code
none_parts layout up first last =
    sym (append_assoc (value_code layout 0 first) (value_code layout (takes first) last)
    (native 0 (if up then op.Gt else op.Lt) (value_operand 0 first)
    (value_operand (takes first) last)))

pub none_first_fails : (layout : ProgramLayoutData) (up : Bool) (first last : Tree) (k : JobKind) →
    IsCodeFault (bounds_code layout first last) k →
    IsCodeFault (none_code layout up first last) k
none_first_fails layout up first last k f =
    let back : List Instr = native 0 (if up then op.Gt else op.Lt) (value_operand 0 first)
    (value_operand (takes first) last) in
    subst (λ (l : List Instr). IsCodeFault l k) (sym (none_parts layout up first last))
    (fault_front (bounds_code layout first last) back k f)

pub none_puts : {A B : Type 0} (old mid new : List Instr) (x : A) (r : Result B JobKind)
    (layout : ProgramLayoutData) (up : Bool) (first last : Tree)
    (a b : Operand) (one : Op) → one ≡ (if up then op.Gt else op.Lt) → (a, b) ≡
    bounds_operands first last →
    PutsCode old mid (Ok x) (bounds_code layout first last) →
    PutsCode mid new r (native 0 one a b) →
    PutsCode old new r (none_code layout up first last)
none_puts old mid new x r layout up first last a b one e f p q =
    let front : List Instr = bounds_code layout first last in
    let back : List Instr = native 0 (if up then op.Gt else op.Lt) (value_operand 0 first)
    (value_operand (takes first) last) in
    let same : native 0 one a b ≡ back = ap (λ (o : Op). native 0 o a b) e
    ∙ ap (λ (both : Operand × Operand). native 0 (if up then op.Gt else op.Lt) both.0 both.1) f in
    subst (λ (l : List Instr). PutsCode old new r l) (sym (none_parts layout up first last))
    (puts_then old mid new front back x r p
    (subst (λ (l : List Instr). PutsCode mid new r l) same q))
