-- What code is but for the places that it jumps to.
use Rattle.std.proofs.Common.{◌≡◌, ℕ, zero, suc, ◌+◌, ◌*◌, Bool, true, false, ◌&&◌, ◌==◌}
use Rattle.std.proofs.Common.{if◌then◌else◌, nat_lt}
use Rattle.std.proofs.Common.{List, [], ◌∷◌, ◌++◌, length, map, refl, sym, ap, ◌∙◌}
use Rattle.std.proofs.lemmas.List.{length-map, map-append}
use Rattle.pram_job.specs.declared.instr.Instr.{Instr}
use Rattle.pram_job.specs.declared.instr.Instr.TheVariants.{Jz, Jmp}
use Rattle.pardo_program.specs.declared.statement.Statement.{Statement}
use Rattle.pardo_program.specs.declared.statement.Statement.TheVariants.{Assign, If, Else, EndIf}
use Rattle.pardo_program.specs.declared.statement.Statement.TheVariants.{While, EndWhile, For}
use Rattle.pardo_program.specs.declared.statement.Statement.TheVariants.{EndFor}
use Rattle.pardo_program.specs.Program.{ProgramData}
use Rattle.pardo_flat.specs.Layouts.{ProgramLayoutData, program_layout, loop_cells, mask_cells}
use Rattle.pardo_flat.specs.Statements.{statement_at}
use Rattle.pardo_job.specs.Lines.{no_code, masked, choosing, loop_end, line_code, next_value}
use Rattle.pardo_job.specs.Lines.{assignment_code, condition_code, while_code, none_code}
use Rattle.pardo_job.specs.Lines.{first_code, turn_code, own_store}
use Rattle.pardo_job.specs.Operations.{is_shallow, target_of, register_or_spare}
use Rattle.pardo_job.specs.Values.{own_load, value_operand}

-- an instruction, but for the place that it jumps to
abbrev pub unplaced : Instr → Instr
unplaced (Jz register index) = Jz register 0
unplaced (Jmp index) = Jmp 0
unplaced instr = instr

abbrev pub shape : List Instr → List Instr
shape code = map unplaced code

idle_shape : (a b n : ℕ) → shape (no_code a n) ≡ shape (no_code b n)
idle_shape a b zero = refl
idle_shape a b (suc n) = ap (λ (l : List Instr). Jmp 0 ∷ l) (idle_shape (a + 1) (b + 1) n)

-- the same shape of fronts and of backs
join : (x y u v : List Instr) → shape x ≡ shape y → shape u ≡ shape v → shape (x ++ u) ≡
    shape (y ++ v)
join x y u v e f = map-append unplaced x u ∙ ap (λ (l : List Instr). l ++ shape u) e
    ∙ ap (λ (l : List Instr). shape y ++ l) f ∙ sym (map-append unplaced y v)

-- a choice that is made in the same way
either : (b : Bool) (x y u v : List Instr) → shape x ≡ shape y → shape u ≡ shape v →
    shape (if b then x else u) ≡ shape (if b then y else v)
either true x y u v e f = e
either false x y u v e f = f

-- what comes of an assignment's code after its mask
abbrev passing : ℕ → List Instr → List Instr
passing at body = no_code (at + 3) (length body) ++ Jmp (at + 4 + 2 * length body) ∷ body

abbrev skipping : ℕ → List Instr → List Instr
skipping at body = Jz 0 (at + 3) ∷ Jmp (at + 4 + length body) ∷ passing at body

skipping_shape : (a b : ℕ) (body : List Instr) → shape (skipping a body) ≡ shape (skipping b body)
skipping_shape a b body =
    let n : ℕ = length body in
    ap (λ (l : List Instr). Jz 0 0 ∷ Jmp 0 ∷ l)
    (join (no_code (a + 3) n) (no_code (b + 3) n) (Jmp (a + 4 + 2 * n) ∷ body)
    (Jmp (b + 4 + 2 * n) ∷ body) (idle_shape (a + 3) (b + 3) n) refl)

masked_shape : (layout : ProgramLayoutData) (a b depth : ℕ) (body : List Instr) →
    shape (masked layout a depth body) ≡ shape (masked layout b depth body)
unfolding masked
masked_shape layout a b depth body =
    let load : Instr = own_load 0 (mask_cells layout depth) in
    either (depth == 0) body body (load ∷ skipping a body) (load ∷ skipping b body) refl
    (ap (λ (l : List Instr). load ∷ l) (skipping_shape a b body))

-- what comes of a condition's code after its mask
abbrev deciding : ℕ → List Instr → List Instr
deciding at body = Jz 0 (at + 3 + length body)
    ∷ (body ++ Jmp (at + 4 + 2 * length body) ∷ no_code (at + 3 + length body) (length body + 1))

deciding_shape : (a b : ℕ) (body : List Instr) → shape (deciding a body) ≡ shape (deciding b body)
deciding_shape a b body =
    let n : ℕ = length body in
    let x : List Instr = no_code (a + 3 + n) (n + 1) in
    let y : List Instr = no_code (b + 3 + n) (n + 1) in
    ap (λ (l : List Instr). Jz 0 0 ∷ l)
    (join body body (Jmp (a + 4 + 2 * n) ∷ x) (Jmp (b + 4 + 2 * n) ∷ y) refl
    (ap (λ (l : List Instr). Jmp 0 ∷ l) (idle_shape (a + 3 + n) (b + 3 + n) (n + 1))))

choosing_shape : (layout : ProgramLayoutData) (a b depth : ℕ) (body : List Instr) →
    shape (choosing layout a depth body) ≡ shape (choosing layout b depth body)
unfolding choosing
choosing_shape layout a b depth body =
    let load : Instr = own_load 0 (mask_cells layout depth) in
    let store : List Instr = own_store (mask_cells layout (depth + 1)) ∷ [] in
    join (if depth == 0 then body else load ∷ deciding a body)
    (if depth == 0 then body else load ∷ deciding b body) store store
    (either (depth == 0) body body (load ∷ deciding a body) (load ∷ deciding b body) refl
    (ap (λ (l : List Instr). load ∷ l) (deciding_shape a b body)))
    refl

end_shape : (layout : ProgramLayoutData) (f g : ℕ → ℕ) (begin : ℕ) (statement : Statement) →
    shape (loop_end layout f begin statement) ≡ shape (loop_end layout g begin statement)
end_shape layout f g begin (For nest first last up end) =
    let test : List Instr = turn_code layout nest last in
    let store : Instr = own_store (loop_cells layout nest) in
    join test test (Jz 1 (f (end + 1)) ∷ next_value up ∷ store ∷ Jmp (f (begin + 1)) ∷ [])
    (Jz 1 (g (end + 1)) ∷ next_value up ∷ store ∷ Jmp (g (begin + 1)) ∷ []) refl refl
end_shape layout f g begin (Assign target tree) = refl
end_shape layout f g begin (If tree) = refl
end_shape layout f g begin Else = refl
end_shape layout f g begin EndIf = refl
end_shape layout f g begin (While tree end) = refl
end_shape layout f g begin (EndWhile start) = refl
end_shape layout f g begin (EndFor start) = refl

-- the code of a line is the same but for the places, wherever it stands and other lines do
pub line_shape : (program : ProgramData) (f g : ℕ → ℕ) (a b depth : ℕ) (statement : Statement) →
    shape (line_code program f a depth statement) ≡ shape (line_code program g b depth statement)
unfolding line_code
line_shape program f g a b depth (Assign target tree) =
    masked_shape (program_layout program) a b depth
    (assignment_code (program_layout program) target tree)
line_shape program f g a b depth (If tree) =
    choosing_shape (program_layout program) a b depth (condition_code (program_layout program) tree)
line_shape program f g a b depth Else = refl
line_shape program f g a b depth EndIf = refl
line_shape program f g a b depth (While tree end) =
    let test : List Instr = while_code (program_layout program) tree in
    let r : ℕ = register_or_spare 0 (value_operand 0 tree) in
    join test test (Jz r (f (end + 1)) ∷ []) (Jz r (g (end + 1)) ∷ []) refl refl
line_shape program f g a b depth (EndWhile begin) = refl
line_shape program f g a b depth (For nest first last up end) =
    let test : List Instr = none_code (program_layout program) up first last in
    let start : List Instr = first_code (program_layout program) nest first in
    join test test (Jz 0 (a + length test + 2) ∷ Jmp (f (end + 1)) ∷ start)
    (Jz 0 (b + length test + 2) ∷ Jmp (g (end + 1)) ∷ start) refl refl
line_shape program f g a b depth (EndFor begin) =
    end_shape (program_layout program) f g begin (statement_at program begin)

-- ---- what follows from it

pub shape_length : (code : List Instr) → length (shape code) ≡ length code
shape_length code = length-map code unplaced

target_same : (one : Instr) → target_of (unplaced one) ≡ target_of one
target_same (Jz r i) = refl
target_same (Jmp i) = refl
target_same _ = refl

pub shape_shallow : (code : List Instr) → is_shallow (shape code) ≡ is_shallow code
shape_shallow [] = refl
shape_shallow (one ∷ code) =
    ap (λ n. nat_lt n 3 && is_shallow (shape code)) (target_same one)
    ∙ ap (λ b. nat_lt (target_of one) 3 && b) (shape_shallow code)

-- neither its length nor its registers depend on places
pub line_length : (program : ProgramData) (f g : ℕ → ℕ) (a b depth : ℕ) (statement : Statement) →
    length (line_code program f a depth statement) ≡ length (line_code program g b depth statement)
line_length program f g a b depth statement =
    sym (shape_length (line_code program f a depth statement))
    ∙ ap (λ (l : List Instr). length l) (line_shape program f g a b depth statement)
    ∙ shape_length (line_code program g b depth statement)

pub line_shallow : (program : ProgramData) (f g : ℕ → ℕ) (a b depth : ℕ) (statement : Statement) →
    is_shallow (line_code program f a depth statement) ≡
    is_shallow (line_code program g b depth statement)
line_shallow program f g a b depth statement =
    sym (shape_shallow (line_code program f a depth statement))
    ∙ ap is_shallow (line_shape program f g a b depth statement)
    ∙ shape_shallow (line_code program g b depth statement)
