-- Where lines stand in the code, and the numbers of their instructions.
use Rattle.std.proofs.Common.{◌≡◌, ◌≢◌, ℕ, zero, suc, ◌+◌, ◌-◌, ◌<◌, ◌≤◌, Bool, true, false, ◌&&◌}
use Rattle.std.proofs.Common.{IsTrue, get_or}
use Rattle.std.proofs.Common.{Option, Some, None, List, [], ◌∷◌, ◌++◌, length, take, drop}
use Rattle.std.proofs.Common.{replicate}
use Rattle.std.proofs.Common.{refl, sym, ap, subst, ◌∙◌, append_assoc, arith}
use Rattle.std.specs.Prelude.{slice_index}
use Rattle.std.specs.List.{All, slice_get, sum_by}
use Rattle.std.proofs.lemmas.List.{at_drop_all, drop_more, get_or-append-add, get_or_append_left}
use Rattle.std.proofs.lemmas.List.{get_or_push, get_or-replicate, length-append, length-replicate}
use Rattle.std.proofs.lemmas.List.{take_more, take_all}
use Rattle.std.proofs.lemmas.List.Sums.{sum_by-append, sum_by-cons, sum_by-take-le}
use Rattle.std.proofs.Common.{below_more}
use Rattle.std.proofs.lemmas.Bool.{le-leb, lt-leb}
use Rattle.std.proofs.lemmas.Option.{get_or_from_slice_get, slice_get_within}
use Rattle.pram_job.specs.declared.instr.Instr.{Instr}
use Rattle.pram_job.specs.declared.instr.Instr.TheVariants.{Halt, Jmp, Jz, Pid}
use Rattle.pram_job.specs.declared.limits.TheConstants.{MAX_CODE}
use Rattle.pardo_program.specs.declared.statement.Line.{Line}
use Rattle.pardo_program.specs.declared.statement.Statement.{Statement}
use Rattle.pardo_program.specs.declared.statement.Statement.TheVariants.{Assign, If, Else, EndIf}
use Rattle.pardo_program.specs.declared.statement.Statement.TheVariants.{While, EndWhile, For}
use Rattle.pardo_program.specs.declared.statement.Statement.TheVariants.{EndFor}
use Rattle.pardo_program.specs.Lawful.{IsLine, IsStatement, bounds_of}
use Rattle.pardo_program.specs.Program.{ProgramData}
use Rattle.pardo_flat.specs.Layouts.{program_layout, loop_cells}
use Rattle.pardo_flat.specs.Statements.{statement_at}
use Rattle.pardo_job.specs.declared.fault.JobFault.{JobFault}
use Rattle.pardo_job.specs.declared.fault.JobKind.{JobKind}
use Rattle.pardo_job.specs.declared.fault.JobKind.TheVariants.{TooDeep, TooLong, Endless, Memory}
use Rattle.pardo_job.specs.declared.fault.JobKind.TheVariants.{TooManyCells}
use Rattle.pardo_job.specs.Compiled.{AreLevel, AreLineNumbers}
use Rattle.pardo_job.specs.Inner.Listings.{AreAllPlaces, ArePlaces, IsFaultAt, IsPlaceAfter}
use Rattle.pardo_job.specs.Inner.Pieces.{IsLineFault}
use Rattle.pardo_job.specs.Lines.{code_from, code_of, first_code, length_of_line, line_code}
use Rattle.pardo_job.specs.Lines.{loop_end}
use Rattle.pardo_job.specs.Lines.{next_value, none_code, own_store, place_of}
use Rattle.pardo_job.specs.Lines.{turn_code, while_code}
use Rattle.pardo_job.specs.Operations.{is_shallow, register_or_spare}
use Rattle.pardo_job.specs.Values.{value_operand}
use Rattle.pardo_job.specs.Refusals.{IsLinesFault, is_level, is_short, line_numbers, numbers_from}
use Rattle.pardo_job.proofs.LineFits.{statement_is}
use Rattle.pardo_job.proofs.Shapes.{line_length, line_shallow}

-- ---- lines

pub statement_there : (program : ProgramData) (begin : ℕ) (line : Line) →
    slice_get program.lines begin ≡ Some line →
    line.statement ≡ statement_at program begin
statement_there program begin line e =
    sym (ap (λ (o : Option Line). elim o [ None ↦ EndIf | Some found ↦ found.statement ]) e)

-- what is wrong with a line at a place, as a fault says it
pub fault_at : (program : ProgramData) (line : Line) (place : ℕ) (f : ℕ → ℕ) (at : ℕ)
    (kind : JobKind) (fault : JobFault) → fault.kind ≡ kind →
    (kind ≢ Memory → fault.line ≡ line.number) → (kind ≡ Memory → fault.line ≡ 0) →
    IsLineFault (line_code program f at line.depth line.statement) kind →
    IsFaultAt program line place fault.line fault.kind
unfolding length_of_line
fault_at program line place f at kind fault e named memory is =
    subst (λ (k : JobKind). IsFaultAt program line place fault.line k) (sym e)
    (cases kind named memory is)
  where
    cases : (k : JobKind) → (k ≢ Memory → fault.line ≡ line.number) →
        (k ≡ Memory → fault.line ≡ 0) →
        IsLineFault (line_code program f at line.depth line.statement) k →
        IsFaultAt program line place fault.line k
    cases TooDeep n m fails = (
      n (λ no. cc),
      sym (line_shallow program f (λ j. 0) at 0 line.depth line.statement) ∙ fails,
    )
    cases TooLong n m fails = (
      n (λ no. cc),
      sym (line_shallow program f (λ j. 0) at 0 line.depth line.statement) ∙ fails.0,
      omega (arith, fails.1, line_length program f (λ j. 0) at 0 line.depth line.statement),
    )
    cases Endless n m fails = fails
    cases TooManyCells n m fails = fails
    cases Memory n m fails = m refl

pub long_at : (program : ProgramData) (line : Line) (place : ℕ) (f : ℕ → ℕ) (at : ℕ)
    (fault : JobFault) → fault.kind ≡ TooLong →
    (TooLong ≢ Memory → fault.line ≡ line.number) →
    is_shallow (line_code program f at line.depth line.statement) ≡ true →
    MAX_CODE ≤ place + length (line_code program f at line.depth line.statement) →
    IsFaultAt program line place fault.line fault.kind
unfolding length_of_line
long_at program line place f at fault e named shallow le =
    subst (λ (k : JobKind). IsFaultAt program line place fault.line k) (sym e) (
      named (λ no. cc),
      sym (line_shallow program f (λ j. 0) at 0 line.depth line.statement) ∙ shallow,
      omega (arith, le, line_length program f (λ j. 0) at 0 line.depth line.statement),
    )

pub place_after_is : (program : ProgramData) (line : Line) (place after : ℕ) (f : ℕ → ℕ) (at : ℕ)
    (code : List Instr) →
    code ≡ line_code program f at line.depth line.statement →
    is_shallow (line_code program f at line.depth line.statement) ≡ true →
    after ≡ place + length code → after < MAX_CODE → IsPlaceAfter program line place after
unfolding length_of_line
place_after_is program line place after f at code e shallow is lt = record {
  after_is = omega (
    arith,
    is,
    ap (λ (l : List Instr). length l) e,
    line_length program f (λ j. 0) at 0 line.depth line.statement,
  );
  level = sym (line_shallow program f (λ j. 0) at 0 line.depth line.statement) ∙ shallow;
  short = lt;
}

-- ---- places

pub place_start : (program : ProgramData) → place_of program 0 ≡ 1
unfolding place_of
place_start program = refl

pub place_more : (program : ProgramData) (j : ℕ) (line : Line) → slice_get program.lines j ≡
    Some line →
    place_of program (j + 1) ≡ place_of program j + length_of_line program line
unfolding place_of
place_more program j line e =
    let lt : j < length program.lines = slice_get_within program.lines j line e in
    let is : get_or program.lines j line ≡ line =
    get_or_from_slice_get program.lines j line line e in
    let more : take (j + 1) program.lines ≡ take j program.lines ++ line ∷ [] =
    take_more program.lines j line lt ∙ ap (λ (x : Line). take j program.lines ++ x ∷ []) is in
    omega (
      arith,
      ap (λ (l : List Line). sum_by (length_of_line program) l) more,
      sum_by-append (length_of_line program) (take j program.lines) (line ∷ []),
      sum_by-cons (length_of_line program) line [],
    )

pub place_below : (program : ProgramData) (j : ℕ) →
    place_of program j ≤ place_of program (length program.lines)
unfolding place_of
place_below program j =
    let all : take (length program.lines) program.lines ≡ program.lines =
    take_all (length program.lines) program.lines (omega arith) in
    omega (
      arith,
      sum_by-take-le (length_of_line program) program.lines j,
      ap (λ (l : List Line). sum_by (length_of_line program) l) all,
    )

both_true : (a b : Bool) → a ≡ true → b ≡ true → IsTrue (a && b)
both_true true b e f = f
both_true false b e f = absurd (let no : false ≡ true = e in cc)

level_of : (a b : Bool) → IsTrue (a && b) → a ≡ true
level_of true b is = refl
level_of false b is = absurd (let no : false ≡ true = is in cc)

same_line : {o : Option Line} {x y : Line} → o ≡ Some x → o ≡ Some y → x ≡ y
same_line e f = cc

-- no line yet
pub places_none : (program : ProgramData) (places : List ℕ) → places ≡ 1 ∷ [] →
    ArePlaces program 0 places
places_none program places e = record {
  count = ap (λ (l : List ℕ). length l) e;
  each = λ k lt. first k lt;
  fine = λ k line lt. absurd (omega arith);
  short = omega (arith, place_start program);
}
  where
    first : (k : ℕ) → k < 0 + 1 → slice_index places k ≡ place_of program k
    first zero lt = ap (λ (l : List ℕ). slice_index l 0) e ∙ sym (place_start program)
    first (suc k) lt = absurd (omega arith)

-- a fault of the line after these
pub fault_is : (program : ProgramData) (j : ℕ) (line : Line) (places : List ℕ) (number : ℕ)
    (kind : JobKind) →
    slice_get program.lines j ≡ Some line → ArePlaces program j places →
    IsFaultAt program line (place_of program j) number kind →
    IsLinesFault program number kind
fault_is program j line places number TooDeep e are f = record {
  j = j;
  line = line;
  is_there = e;
  number_is = f.0;
  before = are.fine;
  level_is = f.1;
  unfit = ap (λ b. b && is_short program j) f.1;
}
fault_is program j line places number TooLong e are f =
    let long : is_short program j ≡ false =
    lt-leb (place_of program (j + 1) + 1) MAX_CODE
    (omega (arith, f.2, place_more program j line e)) in record {
      j = j;
      line = line;
      is_there = e;
      number_is = f.0;
      before = are.fine;
      level_is = f.1;
      unfit = ap (λ b. b && is_short program j) f.1 ∙ long;
    }
fault_is program j line places number Endless e are f = absurd f
fault_is program j line places number TooManyCells e are f = absurd f
fault_is program j line places number Memory e are f = f

-- one line more
pub places_more : (program : ProgramData) (j : ℕ) (line : Line) (places more : List ℕ) (after : ℕ) →
    slice_get program.lines j ≡ Some line →
    ArePlaces program j places → IsPlaceAfter program line (place_of program j) after → more ≡
    places ++ after ∷ [] →
    ArePlaces program (j + 1) more
places_more program j line places more after e are is f =
    let last : after ≡ place_of program (j + 1) = is.after_is ∙ sym (place_more program j line e) in
    let old_places : (k : ℕ) → k < j + 1 → slice_index more k ≡ place_of program k =
    λ k lt. ap (λ (l : List ℕ). slice_index l k) f ∙
    get_or_append_left places (after ∷ []) 0 k (omega (arith, are.count)) ∙ are.each k lt in
    let new_place : slice_index more (j + 1) ≡ place_of program (j + 1) =
    ap (λ (l : List ℕ). slice_index l (j + 1)) f ∙ get_or_push places after 0 (j + 1) are.count ∙
    last in
    let short : is_short program j ≡ true =
    le-leb (place_of program (j + 1) + 1) MAX_CODE (omega (arith, last, is.short)) in
    let here : (other : Line) → slice_get program.lines j ≡ Some other →
    IsTrue (is_level program other && is_short program j) =
    λ other is_other. both_true (is_level program other) (is_short program j)
    (subst (λ (x : Line). is_level program x ≡ true) (same_line e is_other) is.level) short in
    let fine : (k : ℕ) → k < j + 1 → (other : Line) → slice_get program.lines k ≡ Some other →
    IsTrue (is_level program other && is_short program k) =
    below_more (λ (k : ℕ). (other : Line) → slice_get program.lines k ≡ Some other →
    IsTrue (is_level program other && is_short program k)) j
    (λ k lt other is_other. are.fine k other lt is_other) here in record {
      count = omega (
        arith,
        ap (λ (l : List ℕ). length l) f,
        length-append places (after ∷ []),
        are.count,
      );
      each = below_more (λ (k : ℕ). slice_index more k ≡ place_of program k) (j + 1) old_places
          new_place;
      fine = λ k other lt is_there. fine k lt other is_there;
      short = omega (arith, last, is.short);
    }

-- ---- what follows from the places of all lines

pub level_all : (program : ProgramData) (places : List ℕ) → AreAllPlaces program places →
    AreLevel program
level_all program places are j line e =
    level_of (is_level program line) (is_short program j)
    (are.fine j line (slice_get_within program.lines j line e) e)

-- a line that was measured is at fault by memory alone
pub only_memory : (program : ProgramData) (places : List ℕ) (f : ℕ → ℕ) (at j : ℕ) (line : Line)
    (kind : JobKind) → AreAllPlaces program places →
    slice_get program.lines j ≡ Some line →
    IsLineFault (line_code program f at line.depth line.statement) kind → kind ≡ Memory
unfolding length_of_line
only_memory program places f at j line TooDeep are e fault =
    let level : is_level program line ≡ true = level_all program places are j line e in
    let same : is_shallow (line_code program f at line.depth line.statement) ≡
    is_level program line = line_shallow program f (λ k. 0) at 0 line.depth line.statement in
    absurd (let no : false ≡ true = sym fault ∙ same ∙ level in cc)
only_memory program places f at j line TooLong are e fault =
    let same : length (line_code program f at line.depth line.statement)
    ≡ length_of_line program line =
    line_length program f (λ k. 0) at 0 line.depth line.statement in
    absurd (omega (
      arith,
      same,
      fault.1,
      place_more program j line e,
      place_below program (j + 1),
      are.short,
    ))
only_memory program places f at j line Endless are e fault = absurd fault
only_memory program places f at j line TooManyCells are e fault = absurd fault
only_memory program places f at j line Memory are e fault = refl

-- ---- places that agree

end_same : (program : ProgramData) (f g : ℕ → ℕ) (n begin : ℕ) (statement : Statement) →
    ((j : ℕ) → j < n + 1 → f j ≡ g j) → begin < n →
    (bounds_of program).lines ≡ n → IsStatement (bounds_of program) statement →
    loop_end (program_layout program) f begin statement
    ≡ loop_end (program_layout program) g begin statement
end_same program f g n begin (For nest first last up end) same lt lines is =
    let test : List Instr = turn_code (program_layout program) nest last in
    let store : Instr = own_store (loop_cells (program_layout program) nest) in
    let one : f (end + 1) ≡ g (end + 1) = same (end + 1) (omega (arith, is.3, lines)) in
    let two : f (begin + 1) ≡ g (begin + 1) = same (begin + 1) (omega arith) in
    ap (λ (k : ℕ). test ++ Jz 1 k ∷ next_value up ∷ store ∷ Jmp (f (begin + 1)) ∷ []) one
    ∙ ap (λ (k : ℕ). test ++ Jz 1 (g (end + 1)) ∷ next_value up ∷ store ∷ Jmp k ∷ []) two
end_same program f g n begin (Assign target tree) same lt lines is = refl
end_same program f g n begin (If tree) same lt lines is = refl
end_same program f g n begin Else same lt lines is = refl
end_same program f g n begin EndIf same lt lines is = refl
end_same program f g n begin (While tree end) same lt lines is = refl
end_same program f g n begin (EndWhile start) same lt lines is = refl
end_same program f g n begin (EndFor start) same lt lines is = refl

pub line_same : (program : ProgramData) (f g : ℕ → ℕ) (at depth : ℕ) (statement : Statement) →
    ((j : ℕ) → j < length program.lines + 1 → f j ≡ g j) →
    All (IsLine (bounds_of program)) program.lines →
    IsStatement (bounds_of program) statement → line_code program f at depth statement ≡
    line_code program g at depth statement
unfolding line_code
line_same program f g at depth (Assign target tree) same all is = refl
line_same program f g at depth (If tree) same all is = refl
line_same program f g at depth Else same all is = refl
line_same program f g at depth EndIf same all is = refl
line_same program f g at depth (While tree end) same all is =
    ap (λ (k : ℕ). while_code (program_layout program) tree
    ++ Jz (register_or_spare 0 (value_operand 0 tree)) k ∷
    []) (same (end + 1) (omega (arith, is.1)))
line_same program f g at depth (EndWhile begin) same all is =
    ap (λ (k : ℕ). Jmp k ∷ []) (same begin (omega (arith, is)))
line_same program f g at depth (For nest first last up end) same all is =
    let test : List Instr = none_code (program_layout program) up first last in
    ap (λ (k : ℕ). test ++ Jz 0 (at + length test + 2) ∷ Jmp k ∷
    first_code (program_layout program) nest first) (same (end + 1) (omega (arith, is.3)))
line_same program f g at depth (EndFor begin) same all is =
    end_same program f g (length program.lines) begin (statement_at program begin) same is refl
    (statement_is program begin all)

-- ---- the whole code

pub record IsCodeSoFar (program : ProgramData) (j : ℕ) (code : List Instr) : Type 0 where
  pub long : length code ≡ place_of program j
  pub whole : code ++ code_from program (place_of program j) (drop j program.lines) ≡
      code_of program

pub code_none : (program : ProgramData) (code : List Instr) → code ≡ Pid 3 ∷ [] →
    IsCodeSoFar program 0 code
unfolding code_of place_of
code_none program code e = record {
  long = ap (λ (l : List Instr). length l) e;
  whole = ap (λ (l : List Instr). l ++ code_from program 1 program.lines) e;
}

pub code_more : (program : ProgramData) (places : List ℕ) (j : ℕ) (line : Line)
    (code new : List Instr) → AreAllPlaces program places →
    All (IsLine (bounds_of program)) program.lines →
    IsStatement (bounds_of program) line.statement →
    slice_get program.lines j ≡ Some line → new ≡ code ++
    line_code program (slice_index places) (length code) line.depth line.statement →
    IsCodeSoFar program j code → IsCodeSoFar program (j + 1) new
unfolding length_of_line
code_more program places j line code new are all is e f so_far =
    let lt : j < length program.lines = slice_get_within program.lines j line e in
    let one : List Instr = line_code program (place_of program) (place_of program j) line.depth
    line.statement in
    let same : line_code program (slice_index places) (length code) line.depth line.statement ≡
    one =
    line_same program (slice_index places) (place_of program) (length code) line.depth
    line.statement are.each all is
    ∙ ap (λ (k : ℕ). line_code program (place_of program) k line.depth line.statement)
    so_far.long in
    let put : new ≡ code ++ one = f ∙ ap (λ (l : List Instr). code ++ l) same in
    let long : length one ≡ length_of_line program line =
    line_length program (place_of program) (λ k. 0) (place_of program j) 0 line.depth
    line.statement in
    let there : get_or program.lines j line ≡ line =
    get_or_from_slice_get program.lines j line line e in
    let left : drop j program.lines ≡ line ∷ drop (j + 1) program.lines =
    drop_more program.lines j line lt ∙ ap (λ (x : Line). x ∷ drop (j + 1) program.lines) there in
    let more : place_of program (j + 1) ≡ place_of program j + length_of_line program line =
    place_more program j line e in
    let rest : List Instr = code_from program (place_of program j + length_of_line program line)
    (drop (j + 1) program.lines) in record {
      long = omega (
        arith,
        ap (λ (l : List Instr). length l) put,
        length-append code one,
        long,
        more,
        so_far.long,
      );
      whole = ap (λ (k : ℕ). new ++ code_from program k (drop (j + 1) program.lines)) more
          ∙ ap (λ (l : List Instr). l ++ rest) put ∙ append_assoc code one rest
          ∙ sym (ap (λ (l : List Line). code ++ code_from program (place_of program j) l) left) ∙
          so_far.whole;
    }

pub code_all : (program : ProgramData) (j : ℕ) (code new : List Instr) → length program.lines ≤ j →
    new ≡ code ++ Halt ∷ [] →
    IsCodeSoFar program j code → new ≡ code_of program
code_all program j code new le e so_far =
    e ∙ sym (at_drop_all (λ (l : List Line). code ++ code_from program (place_of program j) l)
    program.lines j le) ∙ so_far.whole

-- ---- numbers

pub record AreNumbersSoFar (program : ProgramData) (j last : ℕ) (numbers : List ℕ) : Type 0 where
  pub count : length numbers ≡ place_of program j
  pub whole : numbers ++ numbers_from program last (drop j program.lines) ≡ line_numbers program

pub numbers_none : (program : ProgramData) (numbers : List ℕ) → numbers ≡ 0 ∷ [] →
    AreNumbersSoFar program 0 0 numbers
unfolding line_numbers place_of
numbers_none program numbers e = record {
  count = ap (λ (l : List ℕ). length l) e;
  whole = ap (λ (l : List ℕ). l ++ numbers_from program 0 program.lines) e;
}

pub numbers_more : (program : ProgramData) (j last : ℕ) (line : Line) (numbers new : List ℕ) →
    slice_get program.lines j ≡ Some line →
    new ≡ take (place_of program (j + 1)) numbers ++
    replicate (place_of program (j + 1) - length numbers) line.number →
    AreNumbersSoFar program j last numbers → AreNumbersSoFar program (j + 1) line.number new
numbers_more program j last line numbers new e f so_far =
    let lt : j < length program.lines = slice_get_within program.lines j line e in
    let there : get_or program.lines j line ≡ line =
    get_or_from_slice_get program.lines j line line e in
    let left : drop j program.lines ≡ line ∷ drop (j + 1) program.lines =
    drop_more program.lines j line lt ∙ ap (λ (x : Line). x ∷ drop (j + 1) program.lines) there in
    let more : place_of program (j + 1) ≡ place_of program j + length_of_line program line =
    place_more program j line e in
    let n : ℕ = length_of_line program line in
    let front : take (place_of program (j + 1)) numbers ≡ numbers =
    take_all (place_of program (j + 1)) numbers (omega (arith, so_far.count, more)) in
    let gap : place_of program (j + 1) - length numbers ≡ n = omega (arith, so_far.count, more) in
    let own : List ℕ = replicate n line.number in
    let rest : List ℕ = numbers_from program line.number (drop (j + 1) program.lines) in
    let put : new ≡ numbers ++ own = f ∙
    ap (λ (l : List ℕ). l ++ replicate (place_of program (j + 1) - length numbers) line.number)
    front
    ∙ ap (λ (k : ℕ). numbers ++ replicate k line.number) gap in
    let long : length own ≡ n = length-replicate {A = ℕ} n line.number in record {
      count = omega (
        arith,
        ap (λ (l : List ℕ). length l) put,
        length-append numbers own,
        long,
        so_far.count,
        more,
      );
      whole = ap (λ (l : List ℕ). l ++ rest) put ∙ append_assoc numbers own rest
          ∙ sym (ap (λ (l : List Line). numbers ++ numbers_from program last l) left) ∙
          so_far.whole;
    }

pub numbers_all : (program : ProgramData) (j last : ℕ) (numbers new : List ℕ) →
    length program.lines ≤ j → new ≡ numbers ++ last ∷ [] →
    AreNumbersSoFar program j last numbers → new ≡ line_numbers program
numbers_all program j last numbers new le e so_far =
    e ∙ sym (at_drop_all (λ (l : List Line). numbers ++ numbers_from program last l) program.lines j
    le) ∙ so_far.whole

from_at : (program : ProgramData) (lines : List Line) (last j k : ℕ) (line : Line) →
    slice_get lines j ≡ Some line → k < length_of_line program line →
    get_or (numbers_from program last lines) (sum_by (length_of_line program) (take j lines) + k) 0
    ≡
    line.number
from_at program [] last j k line e lt = absurd (omega (arith, slice_get_within [] j line e))
from_at program (first ∷ lines) last zero k line e lt =
    let is : first ≡ line = cc in
    let n : ℕ = length_of_line program first in
    let own : List ℕ = replicate n first.number in
    let fits : k < n = subst (λ (x : Line). k < length_of_line program x) (sym is) lt in
    let long : length own ≡ n = length-replicate {A = ℕ} n first.number in
    let at : 0 + k ≡ k = omega arith in
    ap (λ (i : ℕ). get_or (own ++ numbers_from program first.number lines) i 0) at
    ∙ get_or_append_left own (numbers_from program first.number lines) 0 k
    (omega (arith, long, fits))
    ∙ get_or-replicate n k first.number 0 fits ∙ ap (λ (x : Line). x.number) is
from_at program (first ∷ lines) last (suc j) k line e lt =
    let n : ℕ = length_of_line program first in
    let own : List ℕ = replicate n first.number in
    let long : length own ≡ n = length-replicate {A = ℕ} n first.number in
    let at : sum_by (length_of_line program) (first ∷ take j lines) + k ≡ length own +
    (sum_by (length_of_line program) (take j lines) + k) =
    omega (arith, sum_by-cons (length_of_line program) first (take j lines), long) in
    ap (λ (i : ℕ). get_or (own ++ numbers_from program first.number lines) i 0) at
    ∙ get_or-append-add own (numbers_from program first.number lines)
    (sum_by (length_of_line program) (take j lines) + k) 0
    ∙ from_at program lines first.number j k line e lt

-- the number of each instruction of a line is the line's
pub number_in : (program : ProgramData) (line_of : ℕ → ℕ) → AreLineNumbers program line_of →
    (j k : ℕ) (line : Line) → slice_get program.lines j ≡ Some line →
    k < length_of_line program line → line_of (place_of program j + k) ≡ line.number
unfolding line_numbers place_of
number_in program line_of numbers j k line e lt =
    let at : 1 + sum_by (length_of_line program) (take j program.lines) + k ≡
    suc (sum_by (length_of_line program) (take j program.lines) + k) = omega arith in
    numbers (1 + sum_by (length_of_line program) (take j program.lines) + k)
    ∙ ap (λ (i : ℕ). get_or (0 ∷ numbers_from program 0 program.lines) i 0) at
    ∙ from_at program program.lines 0 j k line e lt
