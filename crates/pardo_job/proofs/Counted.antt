-- Where the counted lines stand in the code of a program.
use Rattle.std.proofs.Common.{◌≡◌, ℕ, zero, suc, ◌+◌, ◌*◌, ◌<◌, ◌≤◌, ◌==◌, Bool, true, false, ◌||◌}
use Rattle.std.proofs.Common.{List, [], ◌∷◌, ◌++◌, Some, length, get_or, drop}
use Rattle.std.proofs.Common.{refl, sym, ap, ◌∙◌, subst, arith, if◌then◌else◌, length-append, append_assoc}
use Rattle.std.specs.Prelude.{slice_get}
use Rattle.std.specs.List.{list_any}
use Rattle.std.proofs.lemmas.List.{append-nil, at_drop_all, drop_more}
use Rattle.std.proofs.lemmas.List.Folds.{list_any-append}
use Rattle.std.proofs.lemmas.Option.{get_or_from_slice_get, slice_get_within}
use Rattle.pram_job.specs.declared.instr.Instr.{Instr}
use Rattle.pram_job.specs.declared.instr.Instr.TheVariants.{Jmp, Jz, St}
use Rattle.pram_job.specs.declared.instr.Place.TheVariants.{Named}
use Rattle.pardo_program.specs.declared.statement.Line.{Line}
use Rattle.pardo_program.specs.declared.statement.Statement.TheVariants.{Assign, If, Else, EndIf}
use Rattle.pardo_program.specs.declared.statement.Statement.TheVariants.{While, EndWhile, For}
use Rattle.pardo_program.specs.declared.statement.Statement.TheVariants.{EndFor}
use Rattle.pardo_program.specs.declared.statement.Target.{Target}
use Rattle.pardo_program.specs.declared.statement.Target.TheVariants.{Private, Array as Shared}
use Rattle.pardo_program.specs.declared.expression.Node.{Node}
use Rattle.pardo_program.specs.declared.expression.Node.TheVariants.{Apply, Place}
use Rattle.pardo_program.specs.Expression.{Tree, number, own, loop, private, place, apply, postfix}
use Rattle.pardo_program.specs.Program.{ProgramData}
use Rattle.pardo_flat.specs.Flat.{first_flat_of, flat, flat_size}
use Rattle.pardo_flat.specs.Layouts.{ProgramLayoutData, array_cells, mask_cells, program_layout}
use Rattle.pardo_flat.proofs.FlatLines.{first_next, some_at}
use Rattle.pardo_job.specs.declared.times.CountedLine.{CountedLine}
use Rattle.pardo_job.specs.Lines.{assignment_code, choosing, code_of, condition_code, no_code}
use Rattle.pardo_job.specs.Lines.{length_of_line, line_code, masked, own_store, place_of}
use Rattle.pardo_job.specs.Times.{behind_mask, counted_from, counted_line, counted_place}
use Rattle.pardo_job.specs.Times.{place_of_line, is_counted, is_place, loop_end_at, loop_ends}
use Rattle.pardo_job.specs.Times.{loop_ends_from, reads_shared}
use Rattle.pardo_program.specs.declared.statement.Statement.{Statement}
use Rattle.pardo_job.specs.Values.{own_load, takes, value_code, value_operand}
use Rattle.pardo_job.proofs.JobFits.{code_length}
use Rattle.pardo_job.proofs.FlatFirsts.{first_line, place_some, places_rise}
use Rattle.pardo_job.proofs.Placed.{place_below, place_more}

-- ---- how long the code of counted lines is

by_length : (t : Bool) (a b : List Instr) → 0 < length a → 2 < length b →
    (if t then 0 else 2) < length (if t then a else b)
by_length true a b p q = p
by_length false a b p q = q

abbrev under_mask : ProgramLayoutData → ℕ → ℕ → List Instr → List Instr
under_mask layout at depth body = own_load 0 (mask_cells layout depth) ∷ (Jz 0 (at + 3)
    ∷ (Jmp (at + 4 + length body)
    ∷ (no_code (at + 3) (length body) ++ (Jmp (at + 4 + 2 * length body) ∷ body))))

abbrev choice_of : ProgramLayoutData → ℕ → ℕ → List Instr → List Instr
choice_of layout at depth body = own_load 0 (mask_cells layout depth) ∷ (Jz 0 (at + 3 + length body)
    ∷ (body ++ (Jmp (at + 4 + 2 * length body) ∷ no_code (at + 3 + length body) (length body + 1))))

choice_long : (layout : ProgramLayoutData) (at depth : ℕ) (body : List Instr) →
    2 < length (choice_of layout at depth body)
choice_long layout at depth body =
    let e = length-append body (Jmp (at + 4 + 2 * length body)
    ∷ no_code (at + 3 + length body) (length body + 1)) in omega arith

masked_long : (layout : ProgramLayoutData) (at depth : ℕ) (body : List Instr) → 0 < length body →
    behind_mask depth < length (masked layout at depth body)
unfolding masked
masked_long layout at depth body some =
    by_length (depth == 0) body (under_mask layout at depth body) some (omega arith)

choosing_long : (layout : ProgramLayoutData) (at depth : ℕ) (body : List Instr) →
    behind_mask depth < length (choosing layout at depth body)
unfolding choosing
choosing_long layout at depth body = by_depth (depth == 0)
  where
    by_depth : (t : Bool) → (if t then 0 else 2) < length ((if t then body
        else choice_of layout at depth body) ++ own_store (mask_cells layout (depth + 1)) ∷ [])
    by_depth true =
        let e = length-append body (own_store (mask_cells layout (depth + 1)) ∷ []) in omega arith
    by_depth false =
        let e = length-append (choice_of layout at depth body)
        (own_store (mask_cells layout (depth + 1)) ∷ []) in
        let f = choice_long layout at depth body in omega arith

some_after : (front : List Instr) (one : Instr) → 0 < length (front ++ one ∷ [])
some_after front one = let e = length-append front (one ∷ []) in omega arith

assignment_long : (layout : ProgramLayoutData) (target : Target) (tree : Tree) →
    0 < length (assignment_code layout target tree)
unfolding assignment_code
assignment_long layout (Private x) tree = some_after (value_code layout 0 tree) _
assignment_long layout (Shared array index) tree =
    let e = length-append (value_code layout 0 tree)
    (value_code layout (takes tree) index ++ (St (Named (array_cells layout array)
    (value_operand (takes tree) index)) (value_operand 0 tree) ∷ [])) in
    let f = some_after (value_code layout (takes tree) index) (St (Named (array_cells layout array)
    (value_operand (takes tree) index)) (value_operand 0 tree)) in omega arith

pub counted_long : (program : ProgramData) (place_of : ℕ → ℕ) (at depth : ℕ)
    (statement : Statement) → is_counted statement ≡ true →
    behind_mask depth < length (line_code program place_of at depth statement)
unfolding line_code
counted_long program place_of at depth (Assign target tree) counted =
    masked_long (program_layout program) at depth
    (assignment_code (program_layout program) target tree)
    (assignment_long (program_layout program) target tree)
counted_long program place_of at depth (If tree) counted =
    choosing_long (program_layout program) at depth (condition_code (program_layout program) tree)
counted_long program place_of at depth Else counted = absurd (let e : false ≡ true = counted in cc)
counted_long program place_of at depth EndIf counted = absurd (let e : false ≡ true = counted in cc)
counted_long program place_of at depth (While tree end) counted =
    absurd (let e : false ≡ true = counted in cc)
counted_long program place_of at depth (EndWhile begin) counted =
    absurd (let e : false ≡ true = counted in cc)
counted_long program place_of at depth (For nest first last up end) counted =
    absurd (let e : false ≡ true = counted in cc)
counted_long program place_of at depth (EndFor begin) counted =
    absurd (let e : false ≡ true = counted in cc)

-- ---- in the code of the program

line_within : (program : ProgramData) (j : ℕ) (line : Line) →
    slice_get program.lines j ≡ Some line → is_counted line.statement ≡ true →
    counted_place program j line.depth < length (code_of program)
unfolding length_of_line
line_within program j line is counted =
    let more = place_more program j line is in
    let long = counted_long program (λ k. 0) 0 line.depth line.statement counted in
    let low = place_below program (j + 1) in
    let whole = code_length program in omega arith

pub counted_within : (program : ProgramData) (j : ℕ) (line : Line) →
    slice_get program.lines j ≡ Some line → is_counted line.statement ≡ true →
    counted_place (flat program) (first_flat_of program j) line.depth
    < length (code_of (flat program))
counted_within program j line is counted =
    let its = first_line program j line is counted in
    subst (λ d. counted_place (flat program) (first_flat_of program j) d
    < length (code_of (flat program))) its.depth
    (line_within (flat program) (first_flat_of program j) its.line_is its.found its.counts)

some_code : (program : ProgramData) (line : Line) → is_counted line.statement ≡ true →
    1 ≤ length_of_line program line
unfolding length_of_line
some_code program line counted =
    let long = counted_long program (λ k. 0) 0 line.depth line.statement counted in omega arith

one_counted : (program : ProgramData) (j : ℕ) (line : Line) → slice_get program.lines j ≡ Some line →
    place_of_line program j + length (counted_line (place_of_line program j) j line)
    ≤ place_of_line program (j + 1)
one_counted program j line is = by_counted (is_counted line.statement) refl
  where
    listed : Bool → List CountedLine
    listed b = if b
        then record {
          at = j;
          number = line.number;
          first = place_of_line program j;
          own = place_of_line program j + behind_mask line.depth;
        } ∷ []
        else []

    next : first_flat_of program (j + 1) ≡ first_flat_of program j + flat_size program line
    next = first_next program j line is

    by_counted : (b : Bool) → is_counted line.statement ≡ b →
        place_of_line program j + length (listed (is_counted line.statement))
        ≤ place_of_line program (j + 1)
    by_counted true e =
        let its = first_line program j line is e in
        let some = some_code (flat program) its.line_is its.counts in
        let more = place_more (flat program) (first_flat_of program j) its.line_is its.found in
        let rise = places_rise (flat program) (first_flat_of program j + 1)
        (first_flat_of program (j + 1)) (let n = next in omega (arith, n)) in
        let long : length (listed (is_counted line.statement)) ≡ 1 = ap (λ b. length (listed b)) e in
        omega (arith, some, more, rise, long)
    by_counted false e =
        let rise = places_rise (flat program) (first_flat_of program j)
        (first_flat_of program (j + 1)) (let n = next in omega (arith, n)) in
        let long : length (listed (is_counted line.statement)) ≡ 0 = ap (λ b. length (listed b)) e in
        omega (arith, rise, long)

-- each has an instruction of its own
counted_few : (program : ProgramData) (k j : ℕ) → j + k ≡ length program.lines →
    place_of_line program j + length (counted_from program j (drop j program.lines))
    ≤ place_of (flat program) (length (flat program).lines)
counted_few program zero j all =
    let none = at_drop_all (λ (l : List Line). length (counted_from program j l)) program.lines j
    (omega (arith, all)) in
    let low = place_below (flat program) (first_flat_of program j) in omega (arith, none, low)
counted_few program (suc k) j all =
    let found = some_at program.lines j (omega (arith, all)) in
    let line : Line = found.0 in
    let there : get_or program.lines j line ≡ line =
    get_or_from_slice_get program.lines j line line found.1 in
    let left : drop j program.lines ≡ line ∷ drop (j + 1) program.lines =
    drop_more program.lines j line (omega (arith, all))
    ∙ ap (λ (x : Line). x ∷ drop (j + 1) program.lines) there in
    let count = ap (λ (l : List Line). length (counted_from program j l)) left in
    let one = one_counted program j line found.1 in
    let rest = counted_few program k (j + 1) (omega (arith, all)) in
    let both = length-append (counted_line (place_of_line program j) j line)
    (counted_from program (j + 1) (drop (j + 1) program.lines)) in
    omega (arith, count, one, rest, both)

pub all_few : (program : ProgramData) →
    length (counted_from program 0 program.lines)
    < place_of (flat program) (length (flat program).lines)
all_few program =
    let few = counted_few program (length program.lines) 0 (omega arith) in
    let some = place_some (flat program) (first_flat_of program 0) in omega (arith, few, some)

-- ---- one line after another

pub record AreCountedSoFar (program : ProgramData) (j : ℕ) (counted : List CountedLine) : Type 0
  where
    pub whole : counted ++ counted_from program j (drop j program.lines)
        ≡ counted_from program 0 program.lines

pub none_counted : (program : ProgramData) (counted : List CountedLine) → counted ≡ [] →
    AreCountedSoFar program 0 counted
none_counted program counted e = record {
  whole = ap (λ (l : List CountedLine). l ++ counted_from program 0 program.lines) e;
}

pub one_more_counted : (program : ProgramData) (j : ℕ) (line : Line)
    (counted new : List CountedLine) → slice_get program.lines j ≡ Some line →
    new ≡ counted ++ counted_line (place_of (flat program) (first_flat_of program j)) j line →
    AreCountedSoFar program j counted → AreCountedSoFar program (j + 1) new
one_more_counted program j line counted new is more so_far =
    let lt : j < length program.lines = slice_get_within program.lines j line is in
    let there : get_or program.lines j line ≡ line =
    get_or_from_slice_get program.lines j line line is in
    let left : drop j program.lines ≡ line ∷ drop (j + 1) program.lines =
    drop_more program.lines j line lt ∙ ap (λ (x : Line). x ∷ drop (j + 1) program.lines) there in
    let one : List CountedLine = counted_line (place_of (flat program) (first_flat_of program j)) j line in
    let rest : List CountedLine = counted_from program (j + 1) (drop (j + 1) program.lines) in
    record {
      whole = ap (λ (l : List CountedLine). l ++ rest) more ∙ append_assoc counted one rest
          ∙ sym (ap (λ (l : List Line). counted ++ counted_from program j l) left) ∙ so_far.whole;
    }

pub all_counted : (program : ProgramData) (j : ℕ) (counted : List CountedLine) →
    length program.lines ≤ j → AreCountedSoFar program j counted →
    counted ≡ counted_from program 0 program.lines
all_counted program j counted le so_far =
    sym (append-nil counted)
    ∙ sym (at_drop_all (λ (l : List Line). counted ++ counted_from program j l) program.lines j le)
    ∙ so_far.whole

-- ---- conditions

abbrev has_place : List Node → Bool
has_place nodes = list_any is_place nodes

or_true : (a : Bool) → (a || true) ≡ true
or_true true = refl
or_true false = refl

or_false : (a : Bool) → (a || false) ≡ a
or_false true = refl
or_false false = refl

pub reads_nodes : (tree : Tree) → has_place (postfix tree) ≡ reads_shared tree
reads_nodes (number k) = refl
reads_nodes own = refl
reads_nodes (loop nest) = refl
reads_nodes (private x) = refl
reads_nodes (place array index) =
    list_any-append is_place (postfix index) (Place array ∷ []) ∙ or_true (has_place (postfix index))
reads_nodes (apply op first second) =
    list_any-append is_place (postfix first) (postfix second ++ Apply op ∷ [])
    ∙ ap (λ b. has_place (postfix first) || b)
    (list_any-append is_place (postfix second) (Apply op ∷ [])
    ∙ or_false (has_place (postfix second)))
    ∙ ap (λ b. b || has_place (postfix second)) (reads_nodes first)
    ∙ ap (λ b. reads_shared first || b) (reads_nodes second)

-- ---- the ends of loops, one after another

pub record AreEndsSoFar (program : ProgramData) (j : ℕ) (ends : List ℕ) : Type 0 where
  pub whole : ends ++ loop_ends_from program j (drop j program.lines) ≡ loop_ends program

pub no_ends : (program : ProgramData) (ends : List ℕ) → ends ≡ [] → AreEndsSoFar program 0 ends
no_ends program ends e =
    record { whole = ap (λ (l : List ℕ). l ++ loop_ends_from program 0 program.lines) e }

pub one_more_end : (program : ProgramData) (j : ℕ) (line : Line) (ends new : List ℕ) →
    slice_get program.lines j ≡ Some line →
    new ≡ ends ++ loop_end_at (place_of_line program j) line.statement →
    AreEndsSoFar program j ends → AreEndsSoFar program (j + 1) new
one_more_end program j line ends new is more so_far =
    let lt : j < length program.lines = slice_get_within program.lines j line is in
    let there : get_or program.lines j line ≡ line =
    get_or_from_slice_get program.lines j line line is in
    let left : drop j program.lines ≡ line ∷ drop (j + 1) program.lines =
    drop_more program.lines j line lt ∙ ap (λ (x : Line). x ∷ drop (j + 1) program.lines) there in
    let one : List ℕ = loop_end_at (place_of_line program j) line.statement in
    let rest : List ℕ = loop_ends_from program (j + 1) (drop (j + 1) program.lines) in record {
      whole = ap (λ (l : List ℕ). l ++ rest) more ∙ append_assoc ends one rest
          ∙ sym (ap (λ (l : List Line). ends ++ loop_ends_from program j l) left) ∙ so_far.whole;
    }

pub all_ends : (program : ProgramData) (j : ℕ) (ends : List ℕ) → length program.lines ≤ j →
    AreEndsSoFar program j ends → ends ≡ loop_ends program
all_ends program j ends le so_far =
    sym (append-nil ends)
    ∙ sym (at_drop_all (λ (l : List Line). ends ++ loop_ends_from program j l) program.lines j le)
    ∙ so_far.whole
