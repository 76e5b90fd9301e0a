-- What is carried from line to line, and what is kept over steps.
use Rattle.std.proofs.Common.{◌≡◌, ℕ, suc, ◌+◌, ◌-◌, ◌*◌, ◌<◌, ◌≤◌, ◌==◌, ◌⊎◌, Bool, true}
use Rattle.std.proofs.Common.{false, List, [], ◌∷◌, ◌++◌, Option, Some, None, refl, sym, ap}
use Rattle.std.proofs.Common.{◌∙◌, subst, ⊎_elim, arith, if◌then◌else◌, length}
use Rattle.std.specs.Prelude.{sum_by}
use Rattle.std.proofs.lemmas.List.Sums.{sum_by-take-le}
use Rattle.std.proofs.Math.Seq.{take-length}
use Rattle.std.specs.Option.{option_map}
use Rattle.std.proofs.lemmas.Bool.{cases_lt}
use Rattle.pram_job.specs.declared.instr.Instr.{Instr}
use Rattle.pram_job.specs.declared.instr.Instr.TheVariants.{Jz, Jmp}
use Rattle.pram_job.specs.Job.{JobData}
use Rattle.pram_machine.specs.Machine.{counter, out_of_range}
use Rattle.pram_machine.specs.Instructions.{request_in}
use Rattle.pram_step.specs.Runs.{state_after}
use Rattle.pardo_program.specs.declared.statement.Statement.{Statement}
use Rattle.pardo_program.specs.declared.statement.Statement.TheVariants.{Assign, If, Else, EndIf}
use Rattle.pardo_program.specs.declared.statement.Statement.TheVariants.{For}
use Rattle.pardo_program.specs.declared.statement.Statement.TheVariants.{While, EndWhile, EndFor}
use Rattle.pardo_program.specs.declared.statement.Target.TheVariants.{Private, Array as Shared}
use Rattle.pardo_program.specs.Program.{ProgramData}
use Rattle.pardo_flat.specs.Layouts.{ProgramLayoutData, program_layout}
use Rattle.pardo_flat.specs.Layouts.{mask_cells}
use Rattle.pardo_flat.specs.Statements.{statement_at}
use Rattle.pardo_job.specs.Lines.{no_code, masked, choosing, others, own_store, place_of}
use Rattle.pardo_job.specs.Lines.{length_of_line}
use Rattle.pardo_job.specs.Lines.{condition_code, while_code, none_code}
use Rattle.pardo_job.specs.Lines.{turn_code}
use Rattle.pardo_job.specs.Meaning.{Source, value, common_value}
use Rattle.pardo_job.specs.Meaning.{asked_in}
use Rattle.pardo_job.specs.Meaning.{has_none}
use Rattle.pardo_job.specs.Operations.{is_shallow}
use Rattle.pardo_job.specs.Values.{value_code, own_load}
use Rattle.pardo_job.proofs.Assigning.{both_code}
use Rattle.pardo_job.proofs.Shallow.{shallow_front, shallow_back, shallow_rest}
use Rattle.pardo_law.specs.Locals.{Local, StandsAfter, StoresAgree, memory_of}
use Rattle.pardo_law.proofs.Bodies.{under, between}
use Rattle.pardo_law.proofs.Cutting.{is_inside, Below, PutOnly, StaysIn, Unchanged}
use Rattle.pardo_law.proofs.Lengths.{code_len}
use Rattle.pardo_law.proofs.Masks.{quiet, quiet_choice}
use Rattle.pardo_law.proofs.Picturing.{IsOf, IsHere, Pictured}
use Rattle.pardo_law.proofs.Picturing.{code_is}
use Rattle.pardo_law.proofs.Rows.{held_below}

-- ---- how many steps

-- by a value, or where there is none
abbrev pub cost_by : ℕ → Option ℕ → (ℕ → ℕ) → ℕ
cost_by otherwise None steps = otherwise
cost_by otherwise (Some value) steps = steps value

-- those of the end of a loop
abbrev pub loop_cost : ProgramData → Source → Statement → ℕ
loop_cost program source (For nest first last up end) =
    cost_by (length (turn_code (program_layout program) nest last) + 1)
    (common_value program source last) (λ b. if source.loops nest == b
    then length (turn_code (program_layout program) nest last) + 1
    else suc ((length (turn_code (program_layout program) nest last) + 1) + 1) + 1)
loop_cost program source _ = 0

abbrev pub cost : ProgramData → Source → ℕ → Statement → ℕ
cost program source depth (Assign (Private x) tree) =
    suc (quiet depth (length (value_code (program_layout program) 0 tree)))
cost program source depth (Assign (Shared array index) tree) =
    suc (quiet depth (length (both_code (program_layout program) tree index)))
cost program source depth (If tree) =
    suc (quiet_choice depth (length (condition_code (program_layout program) tree)))
cost program source depth Else = length (others (program_layout program) depth)
cost program source depth EndIf = 0
cost program source depth (While tree end) = length (while_code (program_layout program) tree) + 1
cost program source depth (EndWhile begin) = 1
cost program source depth (For nest first last up end) =
    cost_by (length (none_code (program_layout program) up first last) + 1)
    (common_value program source first) (λ a.
    cost_by (length (none_code (program_layout program) up first last) + 1)
    (common_value program source last) (λ b. if has_none up a b
    then length (none_code (program_layout program) up first last) + 1 + 1
    else suc ((length (none_code (program_layout program) up first last) + 1) +
    length (value_code (program_layout program) 0 first))))
cost program source depth (EndFor begin) = loop_cost program source (statement_at program begin)

-- after t steps the machine shows this state of the program
pub record Carried (program : ProgramData) (job : JobData) (source : Source) (t : ℕ) : Type 0 where
  pub memory : ℕ → ℕ
  pub locals : ℕ → Local
  pub standing : StandsAfter job t memory locals
  pub pictured : Pictured program source memory locals

-- in these steps memory below a cell is what it was before them
abbrev pub StillBelow : JobData → ℕ → ℕ → ℕ → Type 0
StillBelow job low t n = (k cell : ℕ) → k < n → cell < low →
    memory_of job (state_after job (t + k)) cell ≡ memory_of job (state_after job t) cell

-- the same after a line, before all whose steps the processors stand in its code, and arrays and
-- private variables are what they were
pub record Advance (program : ProgramData) (job : JobData) (asked : ℕ → Option (ℕ × ℕ))
    (source : Source) (t c lo hi : ℕ) : Type 0 where
  pub carried : Carried program job source (t + c)
  pub stays : StaysIn job lo hi t c
  pub still : StillBelow job (held_below (program_layout program)) t c
  pub puts : PutOnly job (program_layout program).shared t c asked

pub here_below : (job : JobData) (lo hi place i : ℕ) (g : Option ℕ) (l : Local) →
    place < length job.code → IsHere g place i l →
    Below lo hi job l
here_below job lo hi place i (Some line) l lt here = subst (Below lo hi job) (sym here) tt
here_below job lo hi place i None l lt here = subst (Below lo hi job) (sym here.is) lt

place_most : (program : ProgramData) (j : ℕ) →
    place_of program j ≤ place_of program (length program.lines)
unfolding place_of
place_most program j =
    let e = sum_by-take-le (length_of_line program) program.lines j in
    let f = ap (λ lines. sum_by (length_of_line program) lines) (take-length program.lines) in
    omega arith

pub place_low : (program : ProgramData) (job : JobData) → IsOf program job → (j : ℕ) →
    place_of program j < length job.code
place_low program job of j =
    let e = place_most program j in let f = code_len program job (code_is program job of) in
    omega arith

pub stays_then : (job : JobData) (lo hi t u n m : ℕ) → u ≡ t + n → StaysIn job lo hi t n →
    StaysIn job lo hi u m →
    StaysIn job lo hi t (n + m)
stays_then job lo hi t u n m e first second k i lt less = ⊎_elim
    (λ (low : k < n). first k i low less)
    (λ (high : n ≤ k).
    let same : u + (k - n) ≡ t + k = omega arith in
    subst (λ v. (counter job (state_after job v) i ≡ out_of_range job)
    ⊎ (is_inside lo hi (counter job (state_after job v) i) ≡ true)) same
    (second (k - n) i (omega arith) less))
    (cases_lt k n)

pub stays_none : (job : JobData) (lo hi t : ℕ) → StaysIn job lo hi t 0
stays_none job lo hi t k i lt less = absurd (omega arith)

pub still_all : (job : JobData) (low t n : ℕ) → Unchanged job t n → StillBelow job low t n
still_all job low t n same k cell lt less = ap (λ (f : ℕ → ℕ). f cell) (same k lt)

pub still_then : (job : JobData) (low t u n m : ℕ) → u ≡ t + n → StillBelow job low t n →
    ((cell : ℕ) → cell < low →
    memory_of job (state_after job u) cell ≡ memory_of job (state_after job t) cell) →
    StillBelow job low u m →
    StillBelow job low t (n + m)
still_then job low t u n m e first between second k cell lt less = ⊎_elim
    (λ (early : k < n). first k cell early less)
    (λ (late : n ≤ k).
    let same : t + k ≡ u + (k - n) = omega arith in
    ap (λ (v : ℕ). memory_of job (state_after job v) cell) same
    ∙ second (k - n) cell (omega arith) less ∙ between cell less)
    (cases_lt k n)

pub puts_then : (job : JobData) (low t u n m : ℕ) (asked : ℕ → Option (ℕ × ℕ)) → u ≡ t + n →
    PutOnly job low t n asked → PutOnly job low u m asked →
    PutOnly job low t (n + m) asked
puts_then job low t u n m asked e first second k i cell value lt less below put = ⊎_elim
    (λ (early : k < n). first k i cell value early less below put)
    (λ (late : n ≤ k).
    let same : t + k ≡ u + (k - n) = omega arith in
    second (k - n) i cell value (omega arith) less below
    (subst (λ (v : ℕ). (request_in job (state_after job v) i).put ≡ Some (cell, value)) same put))
    (cases_lt k n)

pub puts_none : (job : JobData) (low t : ℕ) (asked : ℕ → Option (ℕ × ℕ)) →
    PutOnly job low t 0 asked
puts_none job low t asked k i cell value lt less below put = absurd (omega arith)

pub still_none : (job : JobData) (low t : ℕ) → StillBelow job low t 0
still_none job low t k cell lt less = absurd (omega arith)

-- the writes of a line agree with the machine's rule
abbrev pub AgreesIn : ProgramData → JobData → Source → ℕ → Statement → Type 0
AgreesIn program job source depth statement =
    StoresAgree job (λ i. asked_in program source depth statement i)

-- ---- pieces of shallow code

masked_body : (layout : ProgramLayoutData) (at depth : ℕ) (body : List Instr) (t : Bool) →
    is_shallow (if t then body else under layout at depth body) ≡ true → is_shallow body ≡ true
masked_body layout at depth body true shallow = shallow
masked_body layout at depth body false shallow =
    shallow_rest (Jmp (at + 4 + 2 * length body)) body
    (shallow_back (no_code (at + 3) (length body)) (Jmp (at + 4 + 2 * length body) ∷ body)
    (shallow_rest (Jmp (at + 4 + length body))
    (no_code (at + 3) (length body) ++ (Jmp (at + 4 + 2 * length body) ∷ body))
    (shallow_rest (Jz 0 (at + 3)) (Jmp (at + 4 + length body) ∷
    (no_code (at + 3) (length body) ++ (Jmp (at + 4 + 2 * length body) ∷ body)))
    (shallow_rest (own_load 0 (mask_cells layout depth))
    (Jz 0 (at + 3) ∷ (Jmp (at + 4 + length body) ∷
    (no_code (at + 3) (length body) ++ (Jmp (at + 4 + 2 * length body) ∷ body)))) shallow))))

choosing_body : (layout : ProgramLayoutData) (at depth : ℕ) (body : List Instr) (t : Bool) →
    is_shallow (if t then body else between layout at depth body) ≡ true → is_shallow body ≡ true
choosing_body layout at depth body true shallow = shallow
choosing_body layout at depth body false shallow =
    shallow_front body (Jmp (at + 4 + 2 * length body) ∷
    no_code (at + 3 + length body) (length body + 1))
    (shallow_rest (Jz 0 (at + 3 + length body))
    (body ++ (Jmp (at + 4 + 2 * length body) ∷ no_code (at + 3 + length body) (length body + 1)))
    (shallow_rest (own_load 0 (mask_cells layout depth))
    (Jz 0 (at + 3 + length body) ∷ (body ++
    (Jmp (at + 4 + 2 * length body) ∷ no_code (at + 3 + length body) (length body + 1)))) shallow))

pub shallow_masked : (layout : ProgramLayoutData) (at depth : ℕ) (body : List Instr) →
    is_shallow (masked layout at depth body) ≡ true →
    is_shallow body ≡ true
unfolding masked
shallow_masked layout at depth body shallow = masked_body layout at depth body (depth == 0) shallow

pub shallow_choosing : (layout : ProgramLayoutData) (at depth : ℕ) (body : List Instr) →
    is_shallow (choosing layout at depth body) ≡ true →
    is_shallow body ≡ true
unfolding choosing
shallow_choosing layout at depth body shallow = choosing_body layout at depth body (depth == 0)
    (shallow_front (if depth == 0 then body else between layout at depth body)
    (own_store (mask_cells layout (depth + 1)) ∷ []) shallow)

pub if_map : (cell : ℕ) (b : Bool) (o : Option ℕ) →
    (if b then option_map {U = ℕ × ℕ} (λ v. (cell, v)) o else None)
    ≡ option_map {U = ℕ × ℕ} (λ v. (cell, v)) (if b then o else None)
if_map cell true o = refl
if_map cell false o = refl
