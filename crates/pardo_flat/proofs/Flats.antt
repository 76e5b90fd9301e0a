-- The flat program, line by line.
use Rattle.std.proofs.Common.{◌≡◌, ℕ, zero, suc, ◌+◌, ◌-◌, ◌*◌, ◌<◌, ◌≤◌, ◌==◌, Bool, true, false}
use Rattle.std.proofs.Common.{List, [], ◌∷◌, ◌++◌, Some, refl, sym, ap, ◌∙◌, subst, ⊎_elim, arith}
use Rattle.std.proofs.Common.{if◌then◌else◌, length, length-append, append_assoc, append-nil, take}
use Rattle.std.proofs.Common.{below_more, drop, get_or, map, max, set, length-take}
use Rattle.std.specs.Prelude.{nat_le, replicate, slice_get, slice_index, sum_by}
use Rattle.std.specs.List.{flat_map}
use Rattle.std.proofs.Math.Nat.{add-mul, mul_comm}
use Rattle.std.proofs.Math.Seq.{take-length}
use Rattle.std.proofs.lemmas.Bool.{cases_lt, eq-eqb, leb-false, leb-true, ne_eqb}
use Rattle.std.proofs.lemmas.Grind.{flat_map-append}
use Rattle.std.proofs.lemmas.List.{get_or_append_left, get_or_push, map-append, take_more}
use Rattle.std.proofs.lemmas.List.Concat.{length-flat_map}
use Rattle.std.proofs.lemmas.Option.{none-some, same_Some}
use mathlib.Core.Path.{fun_ext}
use Rattle.pardo_program.specs.declared.limits.TheConstants.{MAX_CELLS}
use Rattle.pardo_program.specs.declared.statement.Line.{Line}
use Rattle.pardo_program.specs.declared.statement.Statement.{Statement}
use Rattle.pardo_program.specs.declared.statement.Statement.TheVariants.{Assign, If, Else, EndIf}
use Rattle.pardo_program.specs.declared.statement.Statement.TheVariants.{While, EndWhile, For}
use Rattle.pardo_program.specs.declared.statement.Statement.TheVariants.{EndFor}
use Rattle.pardo_program.specs.declared.statement.Target.TheVariants.{Private, Array as Shared}
use Rattle.pardo_program.specs.Expression.{Tree, number}
use Rattle.pardo_program.specs.Lawful.{IsProgram, IsLine, IsStatement, bounds_of}
use Rattle.pardo_program.specs.Program.{PrivateData, ProgramData, shared_cells}
use Rattle.pardo_flat.specs.Flat.{base_of, first_flat_of, fits, flat, flat_size, giving, hidden}
use Rattle.pardo_flat.specs.Flat.{is_for_all, last_of, line_parts, lines_for, most_pieces}
use Rattle.pardo_flat.specs.Flat.{moved_statement, nameless, pieces_count, pieces_of, split}
use Rattle.pardo_flat.specs.Flat.{split_bounds, split_statement, statement_parts}
use Rattle.pardo_flat.specs.declared.flat.Flat.{Flat}
use Rattle.pardo_flat.specs.declared.flat.FlatLines.{FlatLines}
use Rattle.pardo_flat.specs.Inner.Flats.{AreFirsts, AreFlat, AreFlatSoFar, IsFlatProgram, moved_by}
use Rattle.pardo_flat.specs.Inner.Flats.{moved_line, parted_line, unmoved_lines}
use Rattle.pardo_flat.specs.Flat.{IsFirstSplit, IsTooWide}
use Rattle.pardo_flat.specs.Layouts.{ProgramLayoutData, program_layout}
use Rattle.pardo_flat.proofs.FlatLawful.{flat_lawful, most_in, privates_are}
use Rattle.pardo_flat.proofs.FlatLines.{all_at, length-hidden}

-- ---- lists

take_next : (xs : List Line) (n : ℕ) (x : Line) → slice_get xs n ≡ Some x →
    take (suc n) xs ≡ take n xs ++ x ∷ []
take_next [] n x is = absurd (none-some x is)
take_next (y ∷ ys) zero x is = ap (λ z. z ∷ []) (same_Some y x is)
take_next (y ∷ ys) (suc n) x is = ap (λ l. y ∷ l) (take_next ys n x is)

pub take_one_more : (xs : List Line) (n : ℕ) (x : Line) → slice_get xs n ≡ Some x →
    take (n + 1) xs ≡ take n xs ++ x ∷ []
take_one_more xs n x is =
    ap (λ k. take k xs) (let e : n + 1 ≡ suc n = omega arith in e) ∙ take_next xs n x is

get_take : (xs : List Line) (n k : ℕ) → k < n → slice_get (take n xs) k ≡ slice_get xs k
get_take [] zero k lt = absurd (omega (arith, lt))
get_take [] (suc n) k lt = refl
get_take (y ∷ ys) zero k lt = absurd (omega (arith, lt))
get_take (y ∷ ys) (suc n) zero lt = refl
get_take (y ∷ ys) (suc n) (suc k) lt = get_take ys n k (omega (arith, lt))

-- ---- hidden lines

-- the line that gives a piece to a variable
abbrev given_line : Line → ℕ → Tree → Line
given_line line t piece =
    record line { statement = giving (is_for_all line.statement) 0 t piece }

pub hidden_more : (line : Line) (t : ℕ) (pieces : List Tree) (piece : Tree) →
    hidden 0 line t (pieces ++ piece ∷ [])
    ≡ hidden 0 line t pieces ++ given_line line (t + length pieces) piece ∷ []
hidden_more line t [] piece =
    ap (λ x. given_line line x piece ∷ []) (let e : t ≡ t + 0 = omega arith in e)
hidden_more line t (first ∷ pieces) piece =
    ap (λ (l : List Line). given_line line t first ∷ l)
    (hidden_more line (t + 1) pieces piece
    ∙ ap (λ x. hidden 0 line (t + 1) pieces ++ given_line line x piece ∷ [])
    (let e : t + 1 + length pieces ≡ t + length (first ∷ pieces) = omega arith in e))

pub hidden_step : (line : Line) (t i : ℕ) (pieces : List Tree) (d piece : Tree)
    (common : Bool) (statement : Statement)
    (before lines new_lines : List Line) → i < length pieces → piece ≡ get_or pieces i d →
    common ≡ is_for_all line.statement → statement ≡ giving common 0 (t + i) piece →
    lines ≡ before ++ hidden 0 line t (take i pieces) →
    new_lines ≡ lines ++ record line { statement = statement } ∷ [] →
    new_lines ≡ before ++ hidden 0 line t (take (i + 1) pieces)
hidden_step line t i pieces d piece common statement before lines new_lines lt is kind gives so_far
    more =
    let count : length (take i pieces) ≡ i = omega (arith, length-take i pieces, lt) in
    more ∙ ap (λ (s : Statement). lines ++ record line { statement = s } ∷ [])
    (gives ∙ ap (λ k. giving k 0 (t + i) piece) kind)
    ∙ ap (λ (l : List Line). l ++ given_line line (t + i) piece ∷ []) so_far
    ∙ append_assoc before (hidden 0 line t (take i pieces)) (given_line line (t + i) piece ∷ [])
    ∙ ap (λ (l : List Line). before ++ l)
    (ap (λ n. hidden 0 line t (take i pieces) ++ given_line line (t + n) piece ∷ []) (sym count)
    ∙ sym (hidden_more line t (take i pieces) piece)
    ∙ ap (λ x. hidden 0 line t (take i pieces ++ x ∷ [])) is
    ∙ ap (λ (l : List Tree). hidden 0 line t l) (sym (take_more pieces i d lt)))

-- ---- a line moved

module _ (f : Line → Line) where
  front_at : (old : List Line) (i : ℕ) (d : Line) → i < length old →
      get_or (map f (take i old) ++ drop i old) i d ≡ get_or old i d
  front_at [] i d lt = absurd (omega (arith, lt))
  front_at (x ∷ xs) zero d lt = refl
  front_at (x ∷ xs) (suc i) d lt = front_at xs i d (omega (arith, lt))

  front_set : (old : List Line) (i : ℕ) (d new : Line) → i < length old →
      new ≡ f (get_or old i d) →
      set (map f (take i old) ++ drop i old) i new
      ≡ map f (take (suc i) old) ++ drop (suc i) old
  front_set [] i d new lt is = absurd (omega (arith, lt))
  front_set (x ∷ xs) zero d new lt is = ap (λ z. z ∷ xs) is
  front_set (x ∷ xs) (suc i) d new lt is =
      ap (λ l. f x ∷ l) (front_set xs i d new (omega (arith, lt)) is)

  pub moved_more : (old lines : List Line) (i : ℕ) (d new : Line) → i < length old →
      lines ≡ map f (take i old) ++ drop i old → new ≡ f (get_or lines i d) →
      set lines i new ≡ map f (take (i + 1) old) ++ drop (i + 1) old
  moved_more old lines i d new lt e is =
      ap (λ (l : List Line). set l i new) e
      ∙ front_set old i d new lt (is ∙ ap (λ (l : List Line). f (get_or l i d)) e
      ∙ ap f (front_at old i d lt))
      ∙ ap (λ n. map f (take n old) ++ drop n old)
      (let a : suc i ≡ i + 1 = omega arith in a)

-- ---- the lines for each line

module _ (program : ProgramData) where
  abbrev base : Line → ℕ
  base line = base_of program line.statement

  parted_size : (line : Line) → length (unmoved_lines program line) ≡ flat_size program line
  parted_size line = length-append (hidden 0 line (base line) (pieces_of program line))
      (record line { statement = (line_parts program line).1 } ∷ [])
      ∙ ap (λ n. n + 1) (length-hidden 0 line (base line) (pieces_of program line))

  next_first : (n : ℕ) (lines : List Line) → lines ≡ flat_map (unmoved_lines program) (take n program.lines) →
      length lines ≡ first_flat_of program n
  unfolding first_flat_of
  next_first n lines are = ap (λ (l : List Line). length l) are
      ∙ length-flat_map (unmoved_lines program) (take n program.lines)
      ∙ ap (λ (f : Line → ℕ). sum_by f (take n program.lines)) (fun_ext parted_size)

  most_next : (common : Bool) (lines : List Line) (line : Line) →
      most_pieces common program (lines ++ line ∷ [])
      ≡ max (most_pieces common program lines) (pieces_count common program line)
  most_next common [] line = omega arith
  most_next common (first ∷ lines) line = let e = most_next common lines line in omega (arith, e)

  pub none_flat : (lines : List Line) (firsts : List ℕ) (split : ℕ) → lines ≡ [] → firsts ≡ [] →
      AreFlatSoFar program 0 lines firsts 0 0 split
  none_flat lines firsts split none no_first = record {
    lines_are = none;
    count = ap (λ (l : List ℕ). length l) no_first;
    firsts_are = λ j lt. absurd (omega (arith, lt));
    most_is = refl;
    loops_is = refl;
    split_is = λ lt. absurd (omega (arith, lt));
  }

  module _ (n : ℕ) (line : Line) (lines : List Line) (firsts : List ℕ) (most loops split : ℕ)
      (there : slice_get program.lines n ≡ Some line)
      (so_far : AreFlatSoFar program n lines firsts most loops split) where
    few_before : (k : ℕ) (other : Line) → k < n → slice_get program.lines k ≡ Some other →
        max most loops ≡ 0 → length (pieces_of program other) ≡ 0
    few_before k other lt is none =
        let e = most_in program (take n program.lines) k other
        (get_take program.lines n k lt ∙ is) in
        let f = so_far.most_is in
        let g = so_far.loops_is in omega (arith, e, f, g, none)

    -- the pieces of a kind that this line has, and no others
    some_pieces : (new_most new_loops : ℕ) → new_most ≡ max most (pieces_count false program line) →
        new_loops ≡ max loops (pieces_count true program line) → max most loops ≡ 0 →
        0 < max new_most new_loops → 0 < length (pieces_of program line)
    some_pieces new_most new_loops e f none some = by_kind (is_for_all line.statement) refl
      where
        by_kind : (b : Bool) → is_for_all line.statement ≡ b → 0 < length (pieces_of program line)
        by_kind true is =
            let a = ap (λ c. if c then 0 else length (pieces_of program line)) is in
            let b = ap (λ c. if c then length (pieces_of program line) else 0) is in
            omega (arith, a, b, e, f, none, some)
        by_kind false is =
            let a = ap (λ c. if c then 0 else length (pieces_of program line)) is in
            let b = ap (λ c. if c then length (pieces_of program line) else 0) is in
            omega (arith, a, b, e, f, none, some)

    split_next : (new_most new_loops new_split : ℕ) →
        new_most ≡ max most (pieces_count false program line) →
        new_loops ≡ max loops (pieces_count true program line) →
        new_split ≡ (if max most loops == 0 then line.number else split) →
        0 < max new_most new_loops → IsFirstSplit program new_split (n + 1)
    split_next new_most new_loops new_split e f is some = ⊎_elim
        (λ (old : 0 < max most loops).
        let first = so_far.split_is old in record {
          j = first.j;
          line = first.line;
          within = let g = first.within in omega (arith, g);
          is_there = first.is_there;
          number_is = is ∙ ap (λ b. if b then line.number else split)
              (ne_eqb (max most loops) 0 (λ g. absurd (omega (arith, g, old))))
              ∙ first.number_is;
          has_pieces = first.has_pieces;
          before = first.before;
        })
        (λ (new : max most loops ≤ 0).
        let none : max most loops ≡ 0 = omega (arith, new) in record {
          j = n;
          line = line;
          within = omega arith;
          is_there = there;
          number_is = is ∙ ap (λ b. if b then line.number else split)
              (eq-eqb (max most loops) 0 none);
          has_pieces = some_pieces new_most new_loops e f none some;
          before = λ k other lt found. few_before k other lt found none;
        })
        (cases_lt 0 (max most loops))

    pub flat_more : (b : ℕ) (new_lines : List Line) (new_firsts : List ℕ)
        (new_most new_loops new_split : ℕ) (pieces : List Tree) (rest : Statement) →
        b ≡ base line → (pieces, rest) ≡ statement_parts program line.statement →
        new_lines ≡ lines ++ parted_line b line pieces rest →
        new_firsts ≡ firsts ++ length lines ∷ [] →
        new_most ≡ max most (if is_for_all line.statement then 0 else length pieces) →
        new_loops ≡ max loops (if is_for_all line.statement then length pieces else 0) →
        new_split ≡ (if max most loops == 0 then line.number else split) →
        AreFlatSoFar program (n + 1) new_lines new_firsts new_most new_loops new_split
    flat_more b new_lines new_firsts new_most new_loops new_split pieces rest from parts e f g g_too
        h =
        let pieces_are : pieces ≡ pieces_of program line =
        ap (λ (p : List Tree × Statement). p.0) parts in
        let rest_is : rest ≡ (line_parts program line).1 =
        ap (λ (p : List Tree × Statement). p.1) parts in
        let taken = take_one_more program.lines n line there in
        let most_same : new_most ≡ max most (pieces_count false program line) =
        g ∙ ap (λ (l : List Tree). max most (if is_for_all line.statement then 0 else length l))
        pieces_are in
        let loops_same : new_loops ≡ max loops (pieces_count true program line) =
        g_too ∙ ap (λ (l : List Tree). max loops (if is_for_all line.statement then length l else 0))
        pieces_are in
        record {
          lines_are = e ∙ ap (λ (l : List Line). l ++ parted_line b line pieces rest)
              so_far.lines_are
              ∙ ap (λ k. flat_map (unmoved_lines program) (take n program.lines)
              ++ parted_line k line pieces rest) from
              ∙ ap (λ (l : List Tree). flat_map (unmoved_lines program) (take n program.lines)
              ++ parted_line (base line) line l rest) pieces_are
              ∙ ap (λ (s : Statement). flat_map (unmoved_lines program) (take n program.lines)
              ++ parted_line (base line) line (pieces_of program line) s) rest_is
              ∙ ap (λ (l : List Line). flat_map (unmoved_lines program) (take n program.lines) ++ l)
              (sym (append-nil (unmoved_lines program line)))
              ∙ sym (flat_map-append (unmoved_lines program) (take n program.lines) (line ∷ []))
              ∙ sym (ap (λ (l : List Line). flat_map (unmoved_lines program) l) taken);
          count = let i = ap (λ (l : List ℕ). length l) f in
              let j = length-append firsts (length lines ∷ []) in
              let k = so_far.count in omega (arith, i, j, k);
          firsts_are = below_more (λ j. slice_index new_firsts j ≡ first_flat_of program j) n
              (λ j lt. ap (λ (l : List ℕ). slice_index l j) f
              ∙ get_or_append_left firsts (length lines ∷ []) 0 j
              (let c = so_far.count in omega (arith, c, lt)) ∙ so_far.firsts_are j lt)
              (ap (λ (l : List ℕ). slice_index l n) f
              ∙ get_or_push firsts (length lines) 0 n so_far.count
              ∙ next_first n lines so_far.lines_are);
          most_is = most_same ∙ ap (λ m. max m (pieces_count false program line)) so_far.most_is
              ∙ sym (most_next false (take n program.lines) line)
              ∙ sym (ap (λ (l : List Line). most_pieces false program l) taken);
          loops_is = loops_same ∙ ap (λ m. max m (pieces_count true program line)) so_far.loops_is
              ∙ sym (most_next true (take n program.lines) line)
              ∙ sym (ap (λ (l : List Line). most_pieces true program l) taken);
          split_is = split_next new_most new_loops new_split most_same loops_same h;
        }

-- ---- lines that loops name

module _ (program : ProgramData) (firsts : List ℕ) (are : AreFirsts program firsts) where
  abbrev first : ℕ → ℕ
  first = slice_index firsts

  last_same : (end : ℕ) → end < length program.lines →
      first (end + 1) - 1 ≡ first_flat_of program (end + 1) - 1
  last_same end lt = ap (λ n. n - 1) (are (end + 1) (omega (arith, lt)))

  moved_same : (statement : Statement) → IsStatement (bounds_of program) statement →
      moved_by first statement ≡ moved_statement program statement
  moved_same (Assign target tree) is = refl
  moved_same (If tree) is = refl
  moved_same Else is = refl
  moved_same EndIf is = refl
  moved_same (While tree end) is = ap (While tree) (last_same end is.1)
  moved_same (EndWhile begin) is = ap EndWhile (are begin (omega (arith, is)))
  moved_same (For nest low high up end) is = ap (For nest low high up) (last_same end is.3)
  moved_same (EndFor begin) is = ap EndFor (last_same begin is)

  split_same : (statement : Statement) → IsStatement (bounds_of program) statement →
      moved_by first (split_statement program statement).1
      ≡ moved_statement program (split_statement program statement).1
  split_same (Assign (Private x) tree) is = refl
  split_same (Assign (Shared array index) tree) is = refl
  split_same (If tree) is = refl
  split_same Else is = refl
  split_same EndIf is = refl
  split_same (While tree end) is =
      ap (While (split true program.loops tree).1) (last_same end is.1)
  split_same (EndWhile begin) is = moved_same (EndWhile begin) is
  split_same (For nest low high up end) is =
      let parts = split_bounds program.loops low high in
      ap (For nest parts.1 parts.2 up) (last_same end is.3)
  split_same (EndFor begin) is = moved_same (EndFor begin) is

  by_level : (level : Bool) (statement : Statement) → IsStatement (bounds_of program) statement →
      moved_by first (if level then ([], statement) else split_statement program statement).1
      ≡ moved_statement program
      (if level then ([], statement) else split_statement program statement).1
  by_level true statement is = moved_same statement is
  by_level false statement is = split_same statement is

  rest_same : (statement : Statement) → IsStatement (bounds_of program) statement →
      moved_by first (statement_parts program statement).1
      ≡ moved_statement program (statement_parts program statement).1
  rest_same (Assign target tree) is = by_level (fits (Assign target tree)) (Assign target tree) is
  rest_same (If tree) is = by_level (fits (If tree)) (If tree) is
  rest_same Else is = refl
  rest_same EndIf is = refl
  rest_same (While tree end) is = by_level (fits (While tree end)) (While tree end) is
  rest_same (EndWhile begin) is = moved_same (EndWhile begin) is
  rest_same (For nest low high up end) is =
      by_level (fits (For nest low high up end)) (For nest low high up end) is
  rest_same (EndFor begin) is = moved_same (EndFor begin) is

  giving_same : (common : Bool) (t : ℕ) (piece : Tree) → 0 < length program.lines →
      moved_by first (giving common 0 t piece) ≡ giving common (last_of program 0) t piece
  giving_same true t piece some = ap (For t piece (number 0) false) (last_same 0 some)
  giving_same false t piece some = refl

  hidden_same : (line : Line) (t : ℕ) (pieces : List Tree) → 0 < length program.lines →
      map (moved_line first) (hidden 0 line t pieces) ≡ hidden (last_of program 0) line t pieces
  hidden_same line t [] some = refl
  hidden_same line t (piece ∷ pieces) some =
      ap (λ (s : Statement). record line { statement = s }
      ∷ map (moved_line first) (hidden 0 line (t + 1) pieces))
      (giving_same (is_for_all line.statement) t piece some)
      ∙ ap (λ (l : List Line). record line {
        statement = giving (is_for_all line.statement) (last_of program 0) t piece;
      } ∷ l) (hidden_same line (t + 1) pieces some)

  line_same : (line : Line) → IsStatement (bounds_of program) line.statement →
      0 < length program.lines →
      map (moved_line first) (unmoved_lines program line) ≡ lines_for program line
  unfolding lines_for
  line_same line is some =
      let base = base_of program line.statement in
      map-append (moved_line first) (hidden 0 line base (pieces_of program line))
      (record line { statement = (line_parts program line).1 } ∷ [])
      ∙ ap (λ (l : List Line). l
      ++ record line { statement = moved_by first (line_parts program line).1 } ∷ [])
      (hidden_same line base (pieces_of program line) some)
      ∙ ap (λ (s : Statement). hidden (last_of program 0) line base (pieces_of program line)
      ++ record line { statement = s } ∷ []) (rest_same line.statement is)

  lines_same : (lines : List Line) → ((j : ℕ) (line : Line) → slice_get lines j ≡ Some line →
      IsStatement (bounds_of program) line.statement) → 0 < length program.lines →
      map (moved_line first) (flat_map (unmoved_lines program) lines) ≡ flat_map (lines_for program) lines
  lines_same [] is some = refl
  lines_same (line ∷ lines) is some =
      map-append (moved_line first) (unmoved_lines program line) (flat_map (unmoved_lines program) lines)
      ∙ ap (λ (l : List Line). l ++ map (moved_line first) (flat_map (unmoved_lines program) lines))
      (line_same line (is 0 line refl) some)
      ∙ ap (λ (l : List Line). lines_for program line ++ l)
      (lines_same lines (λ j other e. is (suc j) other e) some)

  pub moved_all : (lawful : IsProgram program) →
      map (moved_line first) (flat_map (unmoved_lines program) program.lines)
      ≡ flat_map (lines_for program) program.lines
  moved_all lawful = lines_same program.lines (λ j line e.
      (all_at (IsLine (bounds_of program)) program.lines j line lawful.lines e).0) lawful.has_line

-- ---- the whole

pub flat_is : (program given : ProgramData) (most loops : ℕ) (lines : List Line) →
    given ≡ record program {
      privates = program.privates ++ replicate most (nameless program);
      loops = loops;
      lines = lines;
    } → most ≡ most_pieces false program program.lines →
    loops ≡ program.loops + most_pieces true program program.lines →
    lines ≡ flat_map (lines_for program) program.lines → given ≡ flat program
flat_is program given most loops lines is e g f =
    is ∙ ap (λ n. record program {
      privates = program.privates ++ replicate {A = PrivateData} n (nameless program);
      loops = loops;
      lines = lines;
    }) e
    ∙ ap (λ (n : ℕ). record program {
      privates = program.privates
          ++ replicate {A = PrivateData} (most_pieces false program program.lines)
          (nameless program);
      loops = n;
      lines = lines;
    }) g
    ∙ ap (λ (l : List Line). record program {
      privates = program.privates
          ++ replicate {A = PrivateData} (most_pieces false program program.lines)
          (nameless program);
      loops = program.loops + most_pieces true program program.lines;
      lines = l;
    }) f

-- the cells of rows, counted in another order
pub cells_same : (shared procs p l c m n : ℕ) →
    shared + (p + l + c) * procs + m * procs + n * procs
    ≡ shared + procs * ((p + m) + (l + n) + c)
cells_same shared procs p l c m n =
    let a = add-mul (p + l + c) m procs in
    let b = add-mul ((p + l + c) + m) n procs in
    let d = mul_comm procs ((p + m) + (l + n) + c) in
    let e : (p + l + c) + m + n ≡ (p + m) + (l + n) + c = omega arith in
    let f = ap (λ k. k * procs) e in omega (arith, a, b, d, f)

-- the end of the last line is known, too
pub all_flat : (program : ProgramData) (n : ℕ) (flat : FlatLines) (lines : List Line)
    (firsts : List ℕ) (most loops split : ℕ) → length program.lines ≤ n → n ≤ length program.lines →
    AreFlatSoFar program n lines firsts most loops split → flat.lines.items ≡ lines →
    flat.firsts.items ≡ firsts ++ length lines ∷ [] → flat.most ≡ most → flat.loops ≡ loops →
    flat.split ≡ split → AreFlat program flat
all_flat program n flat lines firsts most loops split le ge so_far e f g g_too h =
    let all : n ≡ length program.lines = omega (arith, le, ge) in
    let whole : take n program.lines ≡ program.lines =
    ap (λ k. take k program.lines) all ∙ take-length program.lines in record {
      lines_are = e ∙ so_far.lines_are ∙ ap (λ (l : List Line). flat_map (unmoved_lines program) l) whole;
      count = let a = ap (λ (l : List ℕ). length l) f in
          let b = length-append firsts (length lines ∷ []) in
          let c = so_far.count in omega (arith, a, b, c, all);
      firsts_are = λ j low. ap (λ (l : List ℕ). slice_index l j) f ∙ ⊎_elim
          (λ (lt : j < n). get_or_append_left firsts (length lines ∷ []) 0 j
          (let c = so_far.count in omega (arith, c, lt)) ∙ so_far.firsts_are j lt)
          (λ (high : n ≤ j).
          let same : n ≡ j = omega (arith, high, low, all) in
          subst (λ k. slice_index (firsts ++ length lines ∷ []) k ≡ first_flat_of program k) same
          (get_or_push firsts (length lines) 0 n so_far.count
          ∙ next_first program n lines so_far.lines_are))
          (cases_lt j n);
      most_is = g ∙ so_far.most_is ∙ ap (λ (l : List Line). most_pieces false program l) whole;
      loops_is = g_too ∙ so_far.loops_is
          ∙ ap (λ (l : List Line). most_pieces true program l) whole;
      split_is = λ some.
          subst (λ s. IsFirstSplit program s (length program.lines)) (sym h)
          (subst (λ k. IsFirstSplit program split k) all
          (so_far.split_is (omega (arith, g, g_too, some))));
    }

-- ---- whether there are cells enough

mul_least : (a b : ℕ) → 0 < a → b ≤ a * b
mul_least zero b lt = absurd (omega (arith, lt))
mul_least (suc a) b lt = omega arith

-- the cells of the flat program, as its layout counts them
module _ (program : ProgramData) (lawful : IsProgram program) (flat_lines : FlatLines)
    (layout : ProgramLayoutData) (enough : Bool) (are : AreFlat program flat_lines)
    (laid : layout ≡ program_layout program)
    (told : enough ≡ nat_le (layout.shared
    + (layout.privates + layout.loops + layout.choices) * layout.procs
    + flat_lines.most * layout.procs + flat_lines.loops * layout.procs) MAX_CELLS) where
  abbrev most : ℕ
  most = most_pieces false program program.lines

  abbrev loops : ℕ
  loops = most_pieces true program program.lines

  abbrev needed : ℕ
  needed = shared_cells program.arrays + program.procs
      * (length (flat program).privates + (flat program).loops + program.choices)

  counted : layout.shared + (layout.privates + layout.loops + layout.choices) * layout.procs
      + flat_lines.most * layout.procs + flat_lines.loops * layout.procs ≡ needed
  unfolding program_layout
  counted =
      ap (λ (l : ProgramLayoutData). l.shared + (l.privates + l.loops + l.choices) * l.procs
      + flat_lines.most * l.procs + flat_lines.loops * l.procs) laid
      ∙ ap (λ n. shared_cells program.arrays
      + (length program.privates + program.loops + program.choices) * program.procs
      + n * program.procs + flat_lines.loops * program.procs) are.most_is
      ∙ ap (λ n. shared_cells program.arrays
      + (length program.privates + program.loops + program.choices) * program.procs
      + most * program.procs + n * program.procs) are.loops_is
      ∙ cells_same (shared_cells program.arrays) program.procs (length program.privates)
      program.loops program.choices most loops
      ∙ ap (λ n. shared_cells program.arrays
      + program.procs * (n + (program.loops + loops) + program.choices))
      (sym (privates_are program lawful))

  told_needed : enough ≡ nat_le needed MAX_CELLS
  told_needed = told ∙ ap (λ n. nat_le n MAX_CELLS) counted

  without : max most loops ≡ 0 → needed ≤ MAX_CELLS
  without none =
      let all = privates_are program lawful in
      let same : length (flat program).privates + (flat program).loops
      ≡ length program.privates + program.loops = omega (arith, all, none) in
      let e = ap (λ n. shared_cells program.arrays + program.procs * (n + program.choices)) same in
      let f = lawful.cells in omega (arith, e, f)

  pub too_wide : enough ≡ false → IsTooWide program flat_lines.split
  too_wide missing =
      let over : MAX_CELLS < needed = leb-false needed MAX_CELLS (sym told_needed ∙ missing) in record {
        first = are.split_is (⊎_elim
            (λ (some : 0 < max flat_lines.most flat_lines.loops). some)
            (λ (few : max flat_lines.most flat_lines.loops ≤ 0).
            let e = are.most_is in
            let f = are.loops_is in
            let none : max most loops ≡ 0 = omega (arith, few, e, f) in
            let le = without none in absurd (omega (arith, le, over)))
            (cases_lt 0 (max flat_lines.most flat_lines.loops)));
        cells = over;
      }

  -- there are no more loops than cells
  pub few_loops : enough ≡ true → program.loops + flat_lines.loops ≤ MAX_CELLS
  few_loops there =
      let low : needed ≤ MAX_CELLS = leb-true needed MAX_CELLS (sym told_needed ∙ there) in
      let rows = length (flat program).privates + (flat program).loops + program.choices in
      let wide : rows ≤ program.procs * rows = mul_least program.procs rows lawful.procs.0 in
      let e = are.loops_is in omega (arith, low, wide, e)

  pub flat_whole : (given : Flat) (moved : List Line) (loops_now : ℕ) → enough ≡ true →
      loops_now ≡ program.loops + flat_lines.loops →
      moved ≡ map (moved_line (slice_index flat_lines.firsts.items)) flat_lines.lines.items →
      given.program ≡ record program {
        privates = program.privates ++ replicate flat_lines.most (nameless program);
        loops = loops_now;
        lines = moved;
      } → given.firsts.items ≡ flat_lines.firsts.items → IsFlatProgram program given
  flat_whole given moved loops_now there loops_are e f g =
      let lines_are : moved ≡ flat_map (lines_for program) program.lines =
      e ∙ ap (map (moved_line (slice_index flat_lines.firsts.items))) are.lines_are
      ∙ moved_all program flat_lines.firsts.items are.firsts_are lawful in
      let same = flat_is program given.program flat_lines.most loops_now moved f are.most_is
      (loops_are ∙ ap (λ n. program.loops + n) are.loops_is) lines_are in
      record {
        program_is = same;
        lawful = subst IsProgram (sym same) (flat_lawful program lawful
            (leb-true needed MAX_CELLS (sym told_needed ∙ there)));
        count = ap (λ (l : List ℕ). length l) g ∙ are.count;
        firsts_are = λ j le. ap (λ (l : List ℕ). slice_index l j) g ∙ are.firsts_are j le;
      }
