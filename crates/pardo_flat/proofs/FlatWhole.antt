-- A program whose lines all fit three registers is flat already.
use Rattle.std.proofs.Common.{◌≡◌, ℕ, zero, suc, ◌+◌, ◌<◌, ◌≤◌, Bool, true, false, List, [], ◌∷◌, ◌++◌}
use Rattle.std.proofs.Common.{Option, Some, None, refl, ap, ◌∙◌, arith, append-nil, if◌then◌else◌, length}
use Rattle.std.proofs.Common.{take}
use Rattle.std.specs.Prelude.{replicate, slice_get, sum_by}
use Rattle.std.specs.List.{flat_map}
use Rattle.std.proofs.lemmas.List.Sums.{sum_by-cons}
use Rattle.pardo_program.specs.declared.statement.Line.{Line}
use Rattle.pardo_program.specs.declared.statement.Statement.{Statement}
use Rattle.pardo_program.specs.declared.statement.Statement.TheVariants.{Assign, If, Else, EndIf}
use Rattle.pardo_program.specs.declared.statement.Statement.TheVariants.{While, EndWhile, For}
use Rattle.pardo_program.specs.declared.statement.Statement.TheVariants.{EndFor}
use Rattle.pardo_program.specs.Expression.{Tree}
use Rattle.pardo_program.specs.Lawful.{IsLine, IsProgram, IsStatement, bounds_of}
use Rattle.pardo_program.specs.Program.{PrivateData, ProgramData}
use Rattle.pardo_flat.specs.Flat.{base_of, first_flat_of, fits, flat, flat_size, hidden, is_for_all}
use Rattle.pardo_flat.specs.Flat.{last_line, last_of, last_pieces, line_parts, lines_for}
use Rattle.pardo_flat.specs.Flat.{most_pieces, moved_statement, nameless, pieces_count, pieces_of}
use Rattle.pardo_flat.specs.Flat.{split_statement, statement_parts}
use Rattle.pardo_flat.specs.Statements.{statement_at}
use Rattle.pardo_flat.proofs.FlatLines.{all_at}

-- the lines of a list all fit
abbrev AllFit : List Line → Type 0
AllFit lines = (j : ℕ) (line : Line) → slice_get lines j ≡ Some line →
    fits line.statement ≡ true

if_same : {A : Type 0} (b : Bool) (x : A) → (if b then x else x) ≡ x
if_same true x = refl
if_same false x = refl

module _ (program : ProgramData) where
  parts_whole : (line : Line) → AllFit program.lines → fits line.statement ≡ true →
      line_parts program line ≡ ([], line.statement)
  parts_whole line all fit = by_statement line.statement fit
    where
      -- the first line of a loop fits, too
      opener_fits : (begin : ℕ) (o : Option Line) → slice_get program.lines begin ≡ o →
          fits (elim o as (λ (x : Option Line). Statement)
          [ None ↦ EndIf | Some other ↦ other.statement ]) ≡ true
      opener_fits begin None e = refl
      opener_fits begin (Some other) e = all begin other e

      by_statement : (statement : Statement) → fits statement ≡ true →
          statement_parts program statement ≡ ([], statement)
      by_statement (EndFor begin) is =
          ap (λ b. (
            (if b then [] else last_pieces program (statement_at program begin)),
            EndFor begin,
          )) (opener_fits begin (slice_get program.lines begin) refl)
      by_statement (Assign target tree) is = ap (λ b. if b then ([], Assign target tree)
          else split_statement program (Assign target tree)) is
      by_statement (If tree) is =
          ap (λ b. if b then ([], If tree) else split_statement program (If tree)) is
      by_statement Else is = refl
      by_statement EndIf is = refl
      by_statement (While tree end) is = ap (λ b. if b then ([], While tree end)
          else split_statement program (While tree end)) is
      by_statement (EndWhile begin) is = refl
      by_statement (For nest first last up end) is =
          ap (λ b. if b then ([], For nest first last up end)
          else split_statement program (For nest first last up end)) is

  size_one : (line : Line) → AllFit program.lines → fits line.statement ≡ true →
      flat_size program line ≡ 1
  size_one line all fit =
      let e = ap (λ (p : List Tree × Statement). length p.0) (parts_whole line all fit) in
      omega (arith, e)

  sums : AllFit program.lines → (lines : List Line) → AllFit lines → (j : ℕ) →
      j ≤ length lines → sum_by (flat_size program) (take j lines) ≡ j
  sums all [] fit zero le = refl
  sums all [] fit (suc j) le = absurd (omega (arith, le))
  sums all (line ∷ lines) fit zero le = refl
  sums all (line ∷ lines) fit (suc j) le =
      let one = size_one line all (fit 0 line refl) in
      let rest = sums all lines (λ k other is. fit (suc k) other is) j (omega (arith, le)) in
      sum_by-cons (flat_size program) line (take j lines) ∙ omega (arith, one, rest)

  none_of : (common : Bool) (line : Line) → length (pieces_of program line) ≡ 0 →
      pieces_count common program line ≡ 0
  none_of true line none = ap (λ n. if is_for_all line.statement then n else 0) none
      ∙ if_same (is_for_all line.statement) 0
  none_of false line none = ap (λ n. if is_for_all line.statement then 0 else n) none
      ∙ if_same (is_for_all line.statement) 0

  none_most : AllFit program.lines → (common : Bool) (lines : List Line) → AllFit lines →
      most_pieces common program lines ≡ 0
  none_most all common [] fit = refl
  none_most all common (line ∷ lines) fit =
      let one = size_one line all (fit 0 line refl) in
      let none = none_of common line (omega (arith, one)) in
      let rest = none_most all common lines (λ k other is. fit (suc k) other is) in
      omega (arith, none, rest)

module _ (program : ProgramData) (lawful : IsProgram program) (fit : AllFit program.lines) where
  pub first_same : (j : ℕ) → j ≤ length program.lines → first_flat_of program j ≡ j
  unfolding first_flat_of
  first_same j le = sums program fit program.lines fit j le

  last_same : (j : ℕ) → j < length program.lines → last_of program j ≡ j
  last_same j lt = let e = first_same (j + 1) (omega (arith, lt)) in omega (arith, e)

  moved_same : (statement : Statement) → IsStatement (bounds_of program) statement →
      moved_statement program statement ≡ statement
  moved_same (Assign target tree) is = refl
  moved_same (If tree) is = refl
  moved_same Else is = refl
  moved_same EndIf is = refl
  moved_same (While tree end) is = ap (While tree) (last_same end is.1)
  moved_same (EndWhile begin) is =
      ap EndWhile (first_same begin (let e = is in omega (arith, e)))
  moved_same (For nest first last up end) is = ap (For nest first last up) (last_same end is.3)
  moved_same (EndFor begin) is = ap EndFor (last_same begin is)

  line_same : (line : Line) → fits line.statement ≡ true →
      IsStatement (bounds_of program) line.statement → lines_for program line ≡ line ∷ []
  unfolding lines_for
  line_same line one is =
      let statement = ap (λ (p : List Tree × Statement). moved_statement program p.1)
      (parts_whole program line fit one) ∙ moved_same line.statement is in
      ap (λ (p : List Tree × Statement).
      hidden (last_of program 0) line (base_of program line.statement) p.0
      ++ last_line program line ∷ []) (parts_whole program line fit one)
      ∙ ap (λ (s : Statement). record line { statement = s } ∷ []) statement

  lines_same : (lines : List Line) → AllFit lines →
      ((j : ℕ) (line : Line) → slice_get lines j ≡ Some line →
      IsStatement (bounds_of program) line.statement) →
      flat_map (lines_for program) lines ≡ lines
  lines_same [] all is = refl
  lines_same (line ∷ lines) all is =
      ap (λ (front : List Line). front ++ flat_map (lines_for program) lines)
      (line_same line (all 0 line refl) (is 0 line refl))
      ∙ ap (λ (rest : List Line). line ∷ rest)
      (lines_same lines (λ j other e. all (suc j) other e) (λ j other e. is (suc j) other e))

  privates_same : program.privates
      ++ replicate (most_pieces false program program.lines) (nameless program) ≡ program.privates
  privates_same =
      ap (λ n. program.privates ++ replicate {A = PrivateData} n (nameless program))
      (none_most program fit false program.lines fit) ∙ append-nil program.privates

  loops_same : program.loops + most_pieces true program program.lines ≡ program.loops
  loops_same = let none = none_most program fit true program.lines fit in omega (arith, none)

  pub whole : flat program ≡ program
  whole = ap (λ (ps : List PrivateData). record program {
    privates = ps;
    loops = program.loops + most_pieces true program program.lines;
    lines = flat_map (lines_for program) program.lines;
  }) privates_same
      ∙ ap (λ (n : ℕ). record program {
        loops = n;
        lines = flat_map (lines_for program) program.lines;
      }) loops_same
      ∙ ap (λ (ls : List Line). record program { lines = ls })
      (lines_same program.lines fit (λ j line e.
      (all_at (IsLine (bounds_of program)) program.lines j line lawful.lines e).0))
