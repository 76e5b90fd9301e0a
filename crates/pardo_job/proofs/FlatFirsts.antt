-- The first of the lines for a counted line of a program.
use Rattle.std.proofs.Common.{◌≡◌, ℕ, zero, suc, ◌+◌, ◌<◌, ◌≤◌, Bool, true, false, List, [], ◌∷◌, ◌++◌}
use Rattle.std.proofs.Common.{Some, length, if◌then◌else◌, length-append, refl, sym, ap, ◌∙◌, ⊎_elim}
use Rattle.std.proofs.Common.{arith}
use Rattle.std.specs.Prelude.{slice_get, sum_by, take}
use Rattle.std.proofs.lemmas.Bool.{cases_lt}
use Rattle.std.proofs.lemmas.List.Sums.{sum_by-cons}
use Rattle.pardo_program.specs.declared.operation.Op.{Op}
use Rattle.pardo_program.specs.declared.statement.Line.{Line}
use Rattle.pardo_program.specs.declared.statement.Statement.{Statement}
use Rattle.pardo_program.specs.declared.statement.Statement.TheVariants.{Assign, If, Else, EndIf}
use Rattle.pardo_program.specs.declared.statement.Statement.TheVariants.{While, EndWhile, For}
use Rattle.pardo_program.specs.declared.statement.Statement.TheVariants.{EndFor}
use Rattle.pardo_program.specs.declared.statement.Target.TheVariants.{Private, Array as Shared}
use Rattle.pardo_program.specs.Expression.{Tree, number, own as own_number, loop, private, place}
use Rattle.pardo_program.specs.Expression.{apply}
use Rattle.pardo_program.specs.Program.{ProgramData}
use Rattle.pardo_flat.specs.Flat.{base_of, beside, first_flat_of, fits, flat, flat_size, giving}
use Rattle.pardo_flat.specs.Flat.{is_beside, is_for_all, last_line, last_of, moved_statement}
use Rattle.pardo_flat.specs.Flat.{split_off}
use Rattle.pardo_flat.specs.Flat.{pieces_of, shape_of, split, split_statement, statement_parts}
use Rattle.pardo_flat.proofs.FlatLines.{first_next, hidden_is, hidden_stands, last_stands}
use Rattle.pardo_job.specs.Lines.{length_of_line, place_of}
use Rattle.pardo_job.specs.Times.{is_counted, reads_shared}

-- ---- sums

pub sum_rises : (f : Line → ℕ) (lines : List Line) (a b : ℕ) → a ≤ b →
    sum_by f (take a lines) ≤ sum_by f (take b lines)
sum_rises f lines zero b le = omega arith
sum_rises f lines (suc a) zero le = absurd (omega arith)
sum_rises f [] (suc a) (suc b) le = omega arith
sum_rises f (line ∷ lines) (suc a) (suc b) le =
    let e = sum_by-cons f line (take a lines) in
    let g = sum_by-cons f line (take b lines) in
    omega (arith, sum_rises f lines a b (omega arith))

pub places_rise : (program : ProgramData) (a b : ℕ) → a ≤ b →
    place_of program a ≤ place_of program b
unfolding place_of
places_rise program a b le =
    let e = sum_rises (length_of_line program) program.lines a b le in omega arith

pub place_some : (program : ProgramData) (j : ℕ) → 0 < place_of program j
unfolding place_of
place_some program j = omega arith

-- ---- what is split off

two_none : (common : Bool) (t : ℕ) (op : Op) (first second : Tree) (left right : List Tree × Tree)
    (b : Bool) →
    (length left.0 ≡ 0 → left.1 ≡ first) → (length right.0 ≡ 0 → right.1 ≡ second) →
    length (beside common t b left right).0 ≡ 0 →
    apply op (beside common t b left right).1 (beside common t b left right).2
    ≡ apply op first second
two_none common t op first second left right true one other few =
    let long = length-append left.0 right.0 in
    ap (λ (x : Tree). apply op x right.1) (one (omega (arith, few, long)))
    ∙ ap (apply op first) (other (omega (arith, few, long)))
two_none common t op first second left right false one other few =
    let long = length-append left.0 (right.0 ++ right.1 ∷ []) in
    let more = length-append right.0 (right.1 ∷ []) in absurd (omega (arith, few, long, more))

pub split_none : (common : Bool) (t : ℕ) (tree : Tree) → length (split common t tree).0 ≡ 0 →
    (split common t tree).1 ≡ tree
split_none common t (number k) none = refl
split_none common t own_number none = refl
split_none common t (loop nest) none = refl
split_none common t (private x) none = refl
split_none common t (place array index) none = ap (place array) (split_none common t index none)
split_none common t (apply op first second) none =
    two_none common t op first second (split common t first)
    (split common (t + length (split common t first).0) second)
    (is_beside op (shape_of (split common t first).1) (shape_of second))
    (λ few. split_none common t first few)
    (λ few. split_none common (t + length (split common t first).0) second few) none

-- ---- where the lines for a line stand

module _ (program : ProgramData) where
  pub first_rises : (a b : ℕ) → a ≤ b → first_flat_of program a ≤ first_flat_of program b
  unfolding first_flat_of
  first_rises a b le = sum_rises (flat_size program) program.lines a b le

  -- of the lines for the line a, only the first may be the first for the line j
  pub first_only : (a j k : ℕ) (line other : Line) → slice_get program.lines a ≡ Some line →
      slice_get program.lines j ≡ Some other → k ≤ length (pieces_of program line) →
      first_flat_of program a + k ≡ first_flat_of program j → (a ≡ j) × (k ≡ 0)
  first_only a j k line other is found le same = ⊎_elim
      (λ (low : a < j).
      let e = first_next program a line is in
      let f = first_rises (a + 1) j (omega arith) in absurd (omega (arith, e, f, le, same)))
      (λ (high : j ≤ a). ⊎_elim
      (λ (more : j < a).
      let e = first_next program j other found in
      let f = first_rises (j + 1) a (omega arith) in absurd (omega (arith, e, f, same)))
      (λ (less : a ≤ j).
      let one : a ≡ j = omega arith in
      let e = ap (first_flat_of program) one in (one, omega (arith, e, same)))
      (cases_lt j a))
      (cases_lt a j)

  -- ---- the first line for a counted line is counted

  module _ (j : ℕ) (line : Line) (is : slice_get program.lines j ≡ Some line)
      (counted : is_counted line.statement ≡ true) where
    rest_counts : (statement : Statement) → is_counted statement ≡ true → (b : Bool) →
        length (if b then ([], statement) else split_statement program statement).0 ≡ 0 →
        is_counted (moved_statement program (if b then ([], statement)
        else split_statement program statement).1) ≡ true
    rest_counts (Assign (Private x) tree) counts true none = refl
    rest_counts (Assign (Private x) tree) counts false none = refl
    rest_counts (Assign (Shared array index) tree) counts true none = refl
    rest_counts (Assign (Shared array index) tree) counts false none = refl
    rest_counts (If tree) counts true none = counts
    rest_counts (If tree) counts false none =
        ap reads_shared (split_none false (length program.privates) tree none) ∙ counts
    rest_counts Else counts b none = absurd (let e : false ≡ true = counts in cc)
    rest_counts EndIf counts b none = absurd (let e : false ≡ true = counts in cc)
    rest_counts (While tree end) counts b none = absurd (let e : false ≡ true = counts in cc)
    rest_counts (EndWhile begin) counts b none = absurd (let e : false ≡ true = counts in cc)
    rest_counts (For nest first last up end) counts b none =
        absurd (let e : false ≡ true = counts in cc)
    rest_counts (EndFor begin) counts b none = absurd (let e : false ≡ true = counts in cc)

    counted_parts : (statement : Statement) → is_counted statement ≡ true →
        (statement_parts program statement ≡ split_off program statement)
        × (is_for_all statement ≡ false)
    counted_parts (Assign target tree) counts = (refl, refl)
    counted_parts (If tree) counts = (refl, refl)
    counted_parts Else counts = absurd (let e : false ≡ true = counts in cc)
    counted_parts EndIf counts = absurd (let e : false ≡ true = counts in cc)
    counted_parts (While tree end) counts = absurd (let e : false ≡ true = counts in cc)
    counted_parts (EndWhile begin) counts = absurd (let e : false ≡ true = counts in cc)
    counted_parts (For nest first last up end) counts =
        absurd (let e : false ≡ true = counts in cc)
    counted_parts (EndFor begin) counts = absurd (let e : false ≡ true = counts in cc)

    pub record FirstLine : Type 0 where
      pub line_is : Line
      pub found : slice_get (flat program).lines (first_flat_of program j) ≡ Some line_is
      pub depth : line_is.depth ≡ line.depth
      pub counts : is_counted line_is.statement ≡ true

    last_counts : length (pieces_of program line) ≡ 0 →
        is_counted (last_line program line).statement ≡ true
    last_counts none =
        let same = (counted_parts line.statement counted).0 in
        ap (λ (p : List Tree × Statement). is_counted (moved_statement program p.1)) same
        ∙ rest_counts line.statement counted (fits line.statement)
        (sym (ap (λ (p : List Tree × Statement). length p.0) same) ∙ none)

    pub first_line : FirstLine
    first_line = ⊎_elim
        (λ (some : 0 < length (pieces_of program line)).
        let end = last_of program 0 in
        let there = hidden_is end line (base_of program line.statement) (pieces_of program line) 0
        some in
        let e : first_flat_of program j + 0 ≡ first_flat_of program j = omega arith in record {
          line_is = record line { statement = giving (is_for_all line.statement) end there.0 there.1 };
          found = ap (slice_get (flat program).lines) (sym e)
              ∙ hidden_stands program j line is 0 some ∙ there.2;
          depth = refl;
          counts = ap (λ common. is_counted (giving common end there.0 there.1))
              (counted_parts line.statement counted).1;
        })
        (λ (none : length (pieces_of program line) ≤ 0).
        let zero_is : length (pieces_of program line) ≡ 0 = omega arith in
        let e : first_flat_of program j ≡ first_flat_of program j + length (pieces_of program line) =
        omega (arith, none) in record {
          line_is = last_line program line;
          found = ap (slice_get (flat program).lines) e ∙ last_stands program j line is;
          depth = refl;
          counts = last_counts zero_is;
        })
        (cases_lt 0 (length (pieces_of program line)))
