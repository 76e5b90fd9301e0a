-- How long the code of a line is, and where it stands in the code of the program.
use Rattle.std.proofs.Common.{◌≡◌, ℕ, zero, suc, ◌+◌, ◌*◌, ◌==◌, Bool, true, false, List, [], ◌∷◌}
use Rattle.std.proofs.Common.{◌++◌, Some}
use Rattle.std.proofs.Common.{refl, sym, ap, ◌∙◌, subst, arith, if◌then◌else◌, length}
use Rattle.std.proofs.Common.{length-append, append_assoc, take}
use Rattle.std.specs.Prelude.{slice_get, sum_by}
use Rattle.std.proofs.lemmas.List.Sums.{sum_by-cons}
use Rattle.std.proofs.lemmas.Option.{none-some, same_Some}
use Rattle.pram_job.specs.declared.instr.Instr.{Instr}
use Rattle.pram_job.specs.declared.instr.Instr.TheVariants.{Pid, Jz, Jmp, Halt}
use Rattle.pram_job.specs.Job.{JobData}
use Rattle.pardo_program.specs.declared.statement.Line.{Line}
use Rattle.pardo_program.specs.declared.statement.Statement.{Statement}
use Rattle.pardo_program.specs.declared.statement.Statement.TheVariants.{Assign, If, Else, EndIf}
use Rattle.pardo_program.specs.declared.statement.Statement.TheVariants.{While, EndWhile, For}
use Rattle.pardo_program.specs.declared.statement.Statement.TheVariants.{EndFor}
use Rattle.pardo_program.specs.Program.{ProgramData}
use Rattle.pardo_flat.specs.Layouts.{ProgramLayoutData, program_layout, mask_cells, loop_cells}
use Rattle.pardo_flat.specs.Statements.{statement_at}
use Rattle.pardo_job.specs.Lines.{no_code, masked, choosing, line_code, loop_end, length_of_line}
use Rattle.pardo_job.specs.Lines.{place_of}
use Rattle.pardo_job.specs.Lines.{code_from, code_of, own_store, turn_code, next_value, while_code}
use Rattle.pardo_job.specs.Lines.{none_code, first_code}
use Rattle.pardo_job.specs.Operations.{register_or_spare}
use Rattle.pardo_job.specs.Values.{own_load, value_operand}
use Rattle.pardo_law.specs.Locals.{HasCodeAt}
use Rattle.pardo_law.proofs.Placing.{stands_whole}

-- ---- the length of a line does not depend on its place

pub length-idle : (at count : ℕ) → length (no_code at count) ≡ count
length-idle at zero = refl
length-idle at (suc count) = ap suc (length-idle (at + 1) count)

length_idle_same : (at other count : ℕ) (back other_back : List Instr) → length back ≡
    length other_back →
    length (no_code at count ++ back) ≡ length (no_code other count ++ other_back)
length_idle_same at other count back other_back e =
    length-append (no_code at count) back
    ∙ ap (λ n. n + length back) (length-idle at count ∙ sym (length-idle other count))
    ∙ ap (λ n. length (no_code other count) + n) e
    ∙ sym (length-append (no_code other count) other_back)

length_front_same : (front back other_back : List Instr) → length back ≡ length other_back →
    length (front ++ back) ≡ length (front ++ other_back)
length_front_same front back other_back e =
    length-append front back ∙ ap (λ n. length front + n) e ∙ sym (length-append front other_back)

length_back_same : (front other_front back : List Instr) → length front ≡ length other_front →
    length (front ++ back) ≡ length (other_front ++ back)
length_back_same front other_front back e =
    length-append front back ∙ ap (λ n. n + length back) e ∙ sym (length-append other_front back)

length-masked : (layout : ProgramLayoutData) (at other depth : ℕ) (body : List Instr) →
    length (masked layout at depth body) ≡ length (masked layout other depth body)
unfolding masked
length-masked layout at other depth body = by_depth (depth == 0)
  where
    by_depth : (t : Bool) → length (if t then body
        else own_load 0 (mask_cells layout depth) ∷ Jz 0 (at + 3) ∷ Jmp (at + 4 + length body)
        ∷ (no_code (at + 3) (length body) ++ Jmp (at + 4 + 2 * length body) ∷ body))
        ≡ length (if t then body
        else own_load 0 (mask_cells layout depth) ∷ Jz 0 (other + 3) ∷ Jmp (other + 4 + length body)
        ∷ (no_code (other + 3) (length body) ++ Jmp (other + 4 + 2 * length body) ∷ body))
    by_depth true = refl
    by_depth false = ap (λ n. suc (suc (suc n)))
        (length_idle_same (at + 3) (other + 3) (length body) (Jmp (at + 4 + 2 * length body) ∷ body)
        (Jmp (other + 4 + 2 * length body) ∷ body) refl)

length-choosing : (layout : ProgramLayoutData) (at other depth : ℕ) (body : List Instr) →
    length (choosing layout at depth body) ≡ length (choosing layout other depth body)
unfolding choosing
length-choosing layout at other depth body = length_back_same
    (if depth == 0 then body
    else own_load 0 (mask_cells layout depth) ∷ Jz 0 (at + 3 + length body)
    ∷ (body ++ Jmp (at + 4 + 2 * length body) ∷ no_code (at + 3 + length body) (length body + 1)))
    (if depth == 0 then body
    else own_load 0 (mask_cells layout depth) ∷ Jz 0 (other + 3 + length body)
    ∷ (body ++ Jmp (other + 4 + 2 * length body) ∷
    no_code (other + 3 + length body) (length body + 1)))
    (own_store (mask_cells layout (depth + 1)) ∷ []) (by_depth (depth == 0))
  where
    by_depth : (t : Bool) → length (if t then body
        else own_load 0 (mask_cells layout depth) ∷ Jz 0 (at + 3 + length body)
        ∷ (body ++ Jmp (at + 4 + 2 * length body) ∷ no_code (at + 3 + length body) (length body + 1)))
        ≡ length (if t then body
        else own_load 0 (mask_cells layout depth) ∷ Jz 0 (other + 3 + length body)
        ∷ (body ++ Jmp (other + 4 + 2 * length body) ∷
        no_code (other + 3 + length body) (length body + 1)))
    by_depth true = refl
    by_depth false = ap (λ n. suc (suc n)) (length_front_same body
        (Jmp (at + 4 + 2 * length body) ∷ no_code (at + 3 + length body) (length body + 1))
        (Jmp (other + 4 + 2 * length body) ∷ no_code (other + 3 + length body) (length body + 1))
        (ap suc (length-idle (at + 3 + length body) (length body + 1)
        ∙ sym (length-idle (other + 3 + length body) (length body + 1)))))

length-loop_end : (layout : ProgramLayoutData) (place other : ℕ → ℕ) (begin : ℕ)
    (opener : Statement) →
    length (loop_end layout place begin opener) ≡ length (loop_end layout other begin opener)
length-loop_end layout place other begin (For nest first last up end) =
    length_front_same (turn_code layout nest last)
    (Jz 1 (place (end + 1)) ∷ next_value up ∷ own_store (loop_cells layout nest) ∷
    Jmp (place (begin + 1)) ∷ [])
    (Jz 1 (other (end + 1)) ∷ next_value up ∷ own_store (loop_cells layout nest) ∷
    Jmp (other (begin + 1)) ∷ []) refl
length-loop_end layout place other begin (Assign target tree) = refl
length-loop_end layout place other begin (If tree) = refl
length-loop_end layout place other begin Else = refl
length-loop_end layout place other begin EndIf = refl
length-loop_end layout place other begin (While tree end) = refl
length-loop_end layout place other begin (EndWhile line) = refl
length-loop_end layout place other begin (EndFor line) = refl

pub length-line_code : (program : ProgramData) (place other : ℕ → ℕ) (at at_other depth : ℕ)
    (statement : Statement) →
    length (line_code program place at depth statement) ≡
    length (line_code program other at_other depth statement)
unfolding line_code
length-line_code program place other at at_other depth (Assign target tree) =
    length-masked (program_layout program) at at_other depth _
length-line_code program place other at at_other depth (If tree) =
    length-choosing (program_layout program) at at_other depth _
length-line_code program place other at at_other depth Else = refl
length-line_code program place other at at_other depth EndIf = refl
length-line_code program place other at at_other depth (While tree end) =
    length_front_same (while_code (program_layout program) tree)
    (Jz (register_or_spare 0 (value_operand 0 tree)) (place (end + 1)) ∷ [])
    (Jz (register_or_spare 0 (value_operand 0 tree)) (other (end + 1)) ∷ []) refl
length-line_code program place other at at_other depth (EndWhile begin) = refl
length-line_code program place other at at_other depth (For nest first last up end) =
    let test : List Instr = none_code (program_layout program) up first last in
    let start : List Instr = first_code (program_layout program) nest first in
    length_front_same test (Jz 0 (at + length test + 2) ∷ Jmp (place (end + 1)) ∷ start)
    (Jz 0 (at_other + length test + 2) ∷ Jmp (other (end + 1)) ∷ start) refl
length-line_code program place other at at_other depth (EndFor begin) =
    length-loop_end (program_layout program) place other begin (statement_at program begin)

-- ---- where lines stand

pub length_is : (program : ProgramData) (place : ℕ → ℕ) (at : ℕ) (line : Line) →
    length (line_code program place at line.depth line.statement) ≡ length_of_line program line
unfolding length_of_line
length_is program place at line =
    length-line_code program place (λ j. 0) at 0 line.depth line.statement

-- from a line on
abbrev pub place_in : ProgramData → ℕ → List Line → ℕ → ℕ
place_in program at lines j = at + sum_by (length_of_line program) (take j lines)

place_in_zero : (program : ProgramData) (at : ℕ) (lines : List Line) → at ≡
    place_in program at lines 0
place_in_zero program at lines = omega arith

place_in_suc : (program : ProgramData) (at j : ℕ) (line : Line) (lines : List Line) →
    place_in program (at + length_of_line program line) lines j ≡
    place_in program at (line ∷ lines) (suc j)
place_in_suc program at j line lines =
    let e : sum_by (length_of_line program) (line ∷ take j lines)
    ≡ length_of_line program line + sum_by (length_of_line program) (take j lines) =
    sum_by-cons (length_of_line program) line (take j lines) in omega arith

-- the code of the first line, and that of the others
module _ (program : ProgramData) (job : JobData) (before : List Instr) (at : ℕ) (line : Line)
    (lines : List Line)
    (whole : job.code ≡ before ++ code_from program at (line ∷ lines))
    (len : length before ≡ at) where
  abbrev here : List Instr
  here = line_code program (place_of program) at line.depth line.statement

  abbrev rest : List Instr
  rest = code_from program (at + length_of_line program line) lines

  pub first_stands : HasCodeAt job at here
  first_stands = subst (λ n. HasCodeAt job n here) len (stands_whole job before here rest whole)

  pub rest_whole : job.code ≡ (before ++ here) ++ rest
  rest_whole = whole ∙ sym (append_assoc before here rest)

  pub rest_len : length (before ++ here) ≡ at + length_of_line program line
  rest_len = length-append before here ∙ ap (λ n. n + length here) len
      ∙ ap (λ n. at + n) (length_is program (place_of program) at line)

abbrev LineStands : ProgramData → JobData → ℕ → Line → Type 0
LineStands program job at line =
    HasCodeAt job at (line_code program (place_of program) at line.depth line.statement)

lines_stand : (program : ProgramData) (job : JobData) (before : List Instr) (at : ℕ)
    (lines : List Line) →
    job.code ≡ before ++ code_from program at lines → length before ≡ at →
    (j : ℕ) (line : Line) → slice_get lines j ≡ Some line →
    LineStands program job (place_in program at lines j) line
lines_stand program job before at [] whole len j line is = absurd (none-some line is)
lines_stand program job before at (first ∷ lines) whole len zero line is =
    subst (λ l. LineStands program job (place_in program at (first ∷ lines) 0) l)
    (same_Some first line is)
    (subst (λ n. LineStands program job n first) (place_in_zero program at (first ∷ lines))
    (first_stands program job before at first lines whole len))
lines_stand program job before at (first ∷ lines) whole len (suc j) line is =
    subst (λ n. LineStands program job n line) (place_in_suc program at j first lines)
    (lines_stand program job
    (before ++ line_code program (place_of program) at first.depth first.statement)
    (at + length_of_line program first) lines
    (rest_whole program job before at first lines whole len)
    (rest_len program job before at first lines whole len) j line is)

halt_stands : (program : ProgramData) (job : JobData) (before : List Instr) (at : ℕ)
    (lines : List Line) →
    job.code ≡ before ++ code_from program at lines → length before ≡ at →
    HasCodeAt job (place_in program at lines (length lines)) (Halt ∷ [])
halt_stands program job before at [] whole len =
    subst (λ n. HasCodeAt job n (Halt ∷ [])) (len ∙ place_in_zero program at [])
    (stands_whole job before (Halt ∷ []) [] whole)
halt_stands program job before at (first ∷ lines) whole len =
    subst (λ n. HasCodeAt job n (Halt ∷ [])) (place_in_suc program at (length lines) first lines)
    (halt_stands program job
    (before ++ line_code program (place_of program) at first.depth first.statement)
    (at + length_of_line program first) lines
    (rest_whole program job before at first lines whole len)
    (rest_len program job before at first lines whole len))

length_after : (program : ProgramData) (job : JobData) (before : List Instr) (at : ℕ)
    (lines : List Line) →
    job.code ≡ before ++ code_from program at lines → length before ≡ at →
    length job.code ≡ place_in program at lines (length lines) + 1
length_after program job before at [] whole len =
    ap length whole ∙ length-append before (Halt ∷ [])
    ∙ (let e : length before + 1 ≡ place_in program at [] 0 + 1 = omega arith in e)
length_after program job before at (first ∷ lines) whole len =
    length_after program job
    (before ++ line_code program (place_of program) at first.depth first.statement)
    (at + length_of_line program first) lines
    (rest_whole program job before at first lines whole len)
    (rest_len program job before at first lines whole len)
    ∙ ap (λ n. n + 1) (place_in_suc program at (length lines) first lines)

-- ---- in the job of a program

module _ (program : ProgramData) (job : JobData) (code_is : job.code ≡ code_of program) where
  whole : job.code ≡ (Pid 3 ∷ []) ++ code_from program 1 program.lines
  unfolding code_of
  whole = code_is

  pub first_is : HasCodeAt job 0 (Pid 3 ∷ [])
  first_is = stands_whole job [] (Pid 3 ∷ []) (code_from program 1 program.lines) whole

  pub line_stands : (j : ℕ) (line : Line) → slice_get program.lines j ≡ Some line →
      HasCodeAt job (place_of program j)
      (line_code program (place_of program) (place_of program j) line.depth line.statement)
  unfolding place_of
  line_stands j line is = lines_stand program job (Pid 3 ∷ []) 1 program.lines whole refl j line is

  pub end_stands : HasCodeAt job (place_of program (length program.lines)) (Halt ∷ [])
  unfolding place_of
  end_stands = halt_stands program job (Pid 3 ∷ []) 1 program.lines whole refl

  pub code_len : length job.code ≡ place_of program (length program.lines) + 1
  unfolding place_of
  code_len = length_after program job (Pid 3 ∷ []) 1 program.lines whole refl

-- ---- places

sum_next : (program : ProgramData) (lines : List Line) (j : ℕ) (line : Line) → slice_get lines j ≡
    Some line →
    sum_by (length_of_line program) (take (suc j) lines)
    ≡ sum_by (length_of_line program) (take j lines) + length_of_line program line
sum_next program [] j line is = absurd (none-some line is)
sum_next program (first ∷ lines) zero line is =
    sum_by-cons (length_of_line program) first [] ∙
    ap (λ l. length_of_line program l + 0) (same_Some first line is)
    ∙ (let e : length_of_line program line + 0 ≡ 0 + length_of_line program line = omega arith in e)
sum_next program (first ∷ lines) (suc j) line is =
    sum_by-cons (length_of_line program) first (take (suc j) lines)
    ∙ ap (λ n. length_of_line program first + n) (sum_next program lines j line is)
    ∙ (let e : sum_by (length_of_line program) (first ∷ take j lines)
    ≡ length_of_line program first + sum_by (length_of_line program) (take j lines) =
    sum_by-cons (length_of_line program) first (take j lines) in omega arith)

pub place_next : (program : ProgramData) (j : ℕ) (line : Line) → slice_get program.lines j ≡
    Some line →
    place_of program (j + 1) ≡ place_of program j + length_of_line program line
unfolding place_of
place_next program j line is =
    ap (λ n. 1 + sum_by (length_of_line program) (take n program.lines))
    (let e : j + 1 ≡ suc j = omega arith in e)
    ∙ (let e = sum_next program program.lines j line is in omega arith)
