-- Flattening keeps runs.
use Rattle.std.proofs.Common.{◌≡◌, ℕ, zero, suc, ◌+◌, ◌-◌, ◌<◌, ◌≤◌, ◌⊎◌, Bool, true, false}
use Rattle.std.proofs.Common.{List, [], ◌∷◌, Option, Some, None, refl, sym, ap, ◌∙◌, subst, inl, inr}
use Rattle.std.proofs.Common.{⊎_elim, arith, if◌then◌else◌, length, take}
use Rattle.std.specs.Prelude.{IsTrue, is_some, nat_lt, slice_get, slice_index, replicate}
use Rattle.std.specs.Option.{option_or}
use Rattle.std.proofs.Math.Seq.{take-length}
use Rattle.std.proofs.lemmas.Bool.{cases_Bool, le-ltb}
use Rattle.std.proofs.lemmas.List.{length-take-le}
use mathlib.Core.Path.{fun_ext}
use Rattle.pardo_program.specs.declared.statement.Line.{Line}
use Rattle.pardo_program.specs.declared.statement.Statement.{Statement}
use Rattle.pardo_program.specs.declared.statement.Statement.TheVariants.{Assign, If, Else, EndIf}
use Rattle.pardo_program.specs.declared.statement.Statement.TheVariants.{While, EndWhile, For}
use Rattle.pardo_program.specs.declared.statement.Statement.TheVariants.{EndFor}
use Rattle.pardo_program.specs.declared.statement.Target.TheVariants.{Private, Array as Shared}
use Rattle.pardo_program.specs.Expression.{Tree, number as numeral, own, loop, private}
use Rattle.pardo_program.specs.Expression.{place as at_place, apply}
use Rattle.pardo_program.specs.Lawful.{Bounds, IsExpression, IsLine, IsProgram, IsStatement}
use Rattle.pardo_program.specs.Lawful.{bounds_of}
use Rattle.pardo_program.specs.Program.{PrivateData, ProgramData}
use Rattle.pardo_flat.specs.Statements.{statement_at}
use Rattle.pardo_flat.specs.Flat.{base_of, first_flat_of, fits, flat, giving, hidden, is_for_all}
use Rattle.pardo_flat.specs.Flat.{last_line, last_of, last_pieces, line_parts, most_pieces}
use Rattle.pardo_flat.specs.Flat.{moved_statement, nameless, pieces_of, split_statement}
use Rattle.pardo_flat.specs.Flat.{statement_parts}
use Rattle.pardo_flat.proofs.FlatLines.{first_next, get_front, hidden_is, hidden_stands}
use Rattle.pardo_flat.proofs.FlatLines.{last_stands}
use Rattle.pardo_job.specs.Conflicts.{asked_for}
use Rattle.pardo_job.specs.Meaning.{Source, abandoned, after, after_statement, asked_in, by_common}
use Rattle.pardo_job.specs.Meaning.{common_value, next, on_to, loop_turned}
use Rattle.pardo_job.proofs.Meanings.{asked_at, gone_for_good, next_at}
use Rattle.pardo_law.specs.Flattening.{FlatteningKeepsRuns, IsLeft, KeepsLine}
use Rattle.pardo_job.specs.Carries.{Shares, StandsFor}
use Rattle.pardo_law.specs.Flattening.{flat_count, size_next}
use Rattle.pardo_law.proofs.Carrying.{all_at}
use Rattle.pardo_law.proofs.FlatStates.{IsOpening, line_stands, now_shares}
use Rattle.pardo_law.proofs.LoopLines.{loop_cut, loop_line, opener_is, shares_kept}
use Rattle.pardo_law.proofs.LoopPieces.{Cut, Let, LoopsBelow, PiecesBelow, after_lets}
use Rattle.pardo_law.proofs.LoopPieces.{bounds_below, last_below, lets_run, split_below}
use Rattle.pardo_law.proofs.Splitting.{after_pieces}

pub after_next : (program : ProgramData) (n : ℕ) →
    after program (suc n) ≡ next program (after program n)
unfolding after
after_next program n = refl

-- ---- hidden lines are made one after the other

next_none : (program : ProgramData) (n : ℕ) →
    slice_get program.lines (after program n).at ≡ None →
    after program (suc n) ≡ after program n
unfolding next
next_none program n none = after_next program n
    ∙ ap (λ (o : Option Line). elim o as (λ (x : Option Line). Source) [
      | None ↦ after program n
      | Some line ↦
          after_statement program line.number line.depth line.statement (after program n)
    ]) none

-- the line that is next, and the state after it
step : (program : ProgramData) (m : ℕ) (line : Line) →
    slice_get program.lines (after program m).at ≡ Some line →
    after program (m + 1)
    ≡ after_statement program line.number line.depth line.statement (after program m)
step program m line is =
    ap (after program) (let e : m + 1 ≡ suc m = omega arith in e)
    ∙ after_next program m ∙ next_at program (after program m) line is

made : (program : ProgramData) (end : ℕ) (line : Line) → is_for_all line.statement ≡ false →
    (t : ℕ) (pieces : List Tree) (m : ℕ) →
    ((k : ℕ) → k < length pieces →
    slice_get program.lines ((after program m).at + k) ≡ slice_get (hidden end line t pieces) k) →
    (k : ℕ) → k ≤ length pieces → after program (m + k)
    ≡ after_pieces program line.number line.depth t (take k pieces) (after program m)
made program end line plain t [] m stand zero le =
    ap (after program) (let e : m + 0 ≡ m = omega arith in e)
made program end line plain t (piece ∷ pieces) m stand zero le =
    ap (after program) (let e : m + 0 ≡ m = omega arith in e)
made program end line plain t [] m stand (suc k) le = absurd (omega (arith, le))
made program end line plain t (piece ∷ pieces) m stand (suc k) le =
    let place = (after program m).at in
    let here : slice_get program.lines place
    ≡ Some (record line { statement = Assign (Private t) piece }) =
    ap (slice_get program.lines) (let e : place ≡ place + 0 = omega arith in e)
    ∙ stand 0 (omega arith)
    ∙ ap (λ c. Some (record line { statement = giving c end t piece })) plain in
    let one = step program m (record line { statement = Assign (Private t) piece }) here in
    let on : (after program (m + 1)).at ≡ place + 1 = ap (λ (s : Source). s.at) one in
    ap (after program) (let e : m + suc k ≡ (m + 1) + k = omega arith in e)
    ∙ made program end line plain (t + 1) pieces (m + 1)
    (λ j lt. ap (slice_get program.lines)
    (let e : (after program (m + 1)).at + j ≡ place + suc j = omega (arith, on) in e)
    ∙ stand (suc j) (omega (arith, lt))) k (omega (arith, le))
    ∙ ap (after_pieces program line.number line.depth (t + 1) (take k pieces)) one

-- ---- hidden lines of a loop

pub no_more : {A : Type 0} (xs : List A) → slice_get xs (length xs) ≡ None
no_more [] = refl
no_more (x ∷ xs) = no_more xs

-- where no line is next, the program stays as it is
pub stays_over : (program : ProgramData) (m k : ℕ) →
    slice_get program.lines (after program m).at ≡ None →
    after program (m + k) ≡ after program m
stays_over program m zero none = ap (after program) (let e : m + 0 ≡ m = omega arith in e)
stays_over program m (suc k) none =
    let before = stays_over program m k none in
    ap (after program) (let e : m + suc k ≡ suc (m + k) = omega arith in e)
    ∙ next_none program (m + k) (ap (λ (s : Source). slice_get program.lines s.at) before ∙ none)
    ∙ before

none_below : (a : ℕ) → nat_lt a 0 ≡ false
none_below a = le-ltb a 0 (omega arith)

-- a hidden line of a loop goes by the value of its piece
let_is : (program : ProgramData) (number depth end t : ℕ) (piece : Tree) (source : Source) →
    after_statement program number depth (giving true end t piece) source
    ≡ by_common program number source (common_value program source piece) (λ v.
    on_to (source.at + 1) (loop_turned t v source))
let_is program number depth end t piece source =
    ap (by_common program number source (common_value program source piece))
    (fun_ext (λ a. ap (λ b. if b then on_to (end + 1) source
    else on_to (source.at + 1) (loop_turned t a source)) (none_below a)))

then_made : (program : ProgramData) (number t m k : ℕ) (piece : Tree) (rest : List Tree)
    (source : Source) → after program (m + 1) ≡ by_common program number source
    (common_value program source piece) (λ v. on_to (source.at + 1) (loop_turned t v source)) →
    ((v : ℕ) → after program (m + 1) ≡ on_to (source.at + 1) (loop_turned t v source) →
    after program ((m + 1) + k)
    ≡ after_lets program number (t + 1) rest (after program (m + 1))) →
    (o : Option ℕ) → common_value program source piece ≡ o →
    after program ((m + 1) + k) ≡ by_common program number source o (λ v.
    after_lets program number (t + 1) rest (on_to (source.at + 1) (loop_turned t v source)))
then_made program number t m k piece rest source one more None e =
    let now : after program (m + 1) ≡ abandoned program number source =
    one ∙ ap (λ o. by_common program number source o (λ v.
    on_to (source.at + 1) (loop_turned t v source))) e in
    stays_over program (m + 1) k
    (ap (λ (s : Source). slice_get program.lines s.at) now ∙ no_more program.lines) ∙ now
then_made program number t m k piece rest source one more (Some v) e =
    let now : after program (m + 1) ≡ on_to (source.at + 1) (loop_turned t v source) =
    one ∙ ap (λ o. by_common program number source o (λ w.
    on_to (source.at + 1) (loop_turned t w source))) e in
    more v now ∙ ap (after_lets program number (t + 1) rest) now

one_let : (program : ProgramData) (end : ℕ) (line : Line) → is_for_all line.statement ≡ true →
    (t : ℕ) (piece : Tree) (pieces : List Tree) (m : ℕ) →
    slice_get program.lines ((after program m).at + 0)
    ≡ slice_get (hidden end line t (piece ∷ pieces)) 0 →
    after program (m + 1) ≡ by_common program line.number (after program m)
    (common_value program (after program m) piece) (λ v.
    on_to ((after program m).at + 1) (loop_turned t v (after program m)))
one_let program end line common t piece pieces m stand =
    let place = (after program m).at in
    let here : slice_get program.lines place
    ≡ Some (record line { statement = giving true end t piece }) =
    ap (slice_get program.lines) (let e : place ≡ place + 0 = omega arith in e)
    ∙ stand ∙ ap (λ c. Some (record line { statement = giving c end t piece })) common in
    step program m (record line { statement = giving true end t piece }) here
    ∙ let_is program line.number line.depth end t piece (after program m)

made_lets : (program : ProgramData) (end : ℕ) (line : Line) → is_for_all line.statement ≡ true →
    (t : ℕ) (pieces : List Tree) (m : ℕ) →
    ((k : ℕ) → k < length pieces →
    slice_get program.lines ((after program m).at + k) ≡ slice_get (hidden end line t pieces) k) →
    (k : ℕ) → k ≤ length pieces → after program (m + k)
    ≡ after_lets program line.number t (take k pieces) (after program m)
made_lets program end line common t [] m stand zero le =
    ap (after program) (let e : m + 0 ≡ m = omega arith in e)
made_lets program end line common t (piece ∷ pieces) m stand zero le =
    ap (after program) (let e : m + 0 ≡ m = omega arith in e)
made_lets program end line common t [] m stand (suc k) le = absurd (omega (arith, le))
made_lets program end line common t (piece ∷ pieces) m stand (suc k) le =
    let place = (after program m).at in
    ap (after program) (let e : m + suc k ≡ (m + 1) + k = omega arith in e)
    ∙ then_made program line.number t m k piece (take k pieces) (after program m)
    (one_let program end line common t piece pieces m (stand 0 (omega arith)))
    (λ v now.
    let on : (after program (m + 1)).at ≡ place + 1 = ap (λ (s : Source). s.at) now in
    made_lets program end line common (t + 1) pieces (m + 1)
    (λ j lt. ap (slice_get program.lines)
    (let f : (after program (m + 1)).at + j ≡ place + suc j = omega (arith, on) in f)
    ∙ stand (suc j) (omega (arith, lt))) k (omega (arith, le)))
    (common_value program (after program m) piece) refl

-- the first pieces of those that are below their variables
below_take : (t : ℕ) (pieces : List Tree) (k : ℕ) → PiecesBelow t pieces →
    PiecesBelow t (take k pieces)
below_take t [] zero below = tt
below_take t [] (suc k) below = tt
below_take t (piece ∷ pieces) zero below = tt
below_take t (piece ∷ pieces) (suc k) below =
    (below.0, below_take (t + 1) pieces k below.1)

at_after : (program : ProgramData) (number depth t : ℕ) (pieces : List Tree) (source : Source) →
    (after_pieces program number depth t pieces source).at ≡ source.at + length pieces
at_after program number depth t [] source =
    let e : source.at ≡ source.at + 0 = omega arith in e
at_after program number depth t (piece ∷ pieces) source =
    at_after program number depth (t + 1) pieces
    (after_statement program number depth (Assign (Private t) piece) source)
    ∙ (let e : source.at + 1 + length pieces ≡ source.at + suc (length pieces) = omega arith in e)

pub gone_later : (program : ProgramData) (i line m k : ℕ) →
    (after program m).gone i ≡ Some line → (after program (m + k)).gone i ≡ Some line
gone_later program i line m zero gone =
    ap (λ n. (after program n).gone i) (let e : m + 0 ≡ m = omega arith in e) ∙ gone
gone_later program i line m (suc k) gone =
    ap (λ n. (after program n).gone i) (let e : m + suc k ≡ suc (m + k) = omega arith in e)
    ∙ ap (λ (s : Source). s.gone i) (after_next program (m + k))
    ∙ gone_for_good program (after program (m + k)) i line (gone_later program i line m k gone)

-- ---- pieces of a line of a loop read variables below their own

below_expression : (b : Bounds) (tree : Tree) → IsExpression b tree → LoopsBelow b.loops tree
below_expression b (numeral k) is = tt
below_expression b own is = tt
below_expression b (loop nest) is = is
below_expression b (private x) is = tt
below_expression b (at_place array index) is = below_expression b index is.1
below_expression b (apply op first second) is =
    (below_expression b first is.0, below_expression b second is.1)

module _ (program : ProgramData) (lawful : IsProgram program) where
  below : (tree : Tree) → IsExpression (bounds_of program) tree → LoopsBelow program.loops tree
  below tree is = below_expression (bounds_of program) tree is

  bound_below : (opener : Statement) → IsStatement (bounds_of program) opener → (level : Bool) →
      PiecesBelow program.loops (if level then [] else last_pieces program opener)
  bound_below opener is true = tt
  bound_below (For nest first last up end) is false =
      (last_below program.loops last (below last is.2.0)).0
  bound_below (Assign target tree) is false = tt
  bound_below (If tree) is false = tt
  bound_below Else is false = tt
  bound_below EndIf is false = tt
  bound_below (While tree end) is false = tt
  bound_below (EndWhile line) is false = tt
  bound_below (EndFor line) is false = tt

  pieces_below : (level : Bool) (statement : Statement) → IsStatement (bounds_of program) statement →
      IsOpening statement → PiecesBelow program.loops
      (if level then ([], statement) else split_statement program statement).0
  pieces_below true statement is opens = tt
  pieces_below false (While tree end) is opens =
      (split_below program.loops tree (below tree is.0.0)).0
  pieces_below false (For nest first last up end) is opens =
      bounds_below program.loops first last (below first is.1.0) (below last is.2.0)
  pieces_below false (Assign target tree) is opens = absurd opens
  pieces_below false (If tree) is opens = absurd opens
  pieces_below false Else is opens = absurd opens
  pieces_below false EndIf is opens = absurd opens
  pieces_below false (EndWhile begin) is opens = absurd opens
  pieces_below false (EndFor begin) is opens = absurd opens

  statement_below : (statement : Statement) → IsStatement (bounds_of program) statement →
      is_for_all statement ≡ true →
      PiecesBelow program.loops (statement_parts program statement).0
  statement_below (While tree end) is common =
      pieces_below (fits (While tree end)) (While tree end) is tt
  statement_below (For nest first last up end) is common =
      pieces_below (fits (For nest first last up end)) (For nest first last up end) is tt
  statement_below (EndFor begin) is common =
      bound_below (statement_at program begin) (opener_is program lawful begin is)
      (fits (statement_at program begin))
  statement_below (Assign target tree) is common = absurd (let no : false ≡ true = common in cc)
  statement_below (If tree) is common = absurd (let no : false ≡ true = common in cc)
  statement_below Else is common = absurd (let no : false ≡ true = common in cc)
  statement_below EndIf is common = absurd (let no : false ≡ true = common in cc)
  statement_below (EndWhile begin) is common = absurd (let no : false ≡ true = common in cc)

-- ---- lines of loops ask for nothing

nothing_asked : (program : ProgramData) (source : Source) (depth : ℕ) (statement : Statement)
    (i : ℕ) → is_for_all statement ≡ true → asked_in program source depth statement i ≡ None
nothing_asked program source depth (While tree end) i common = refl
nothing_asked program source depth (For nest first last up end) i common = refl
nothing_asked program source depth (EndFor begin) i common = refl
nothing_asked program source depth (Assign target tree) i common =
    absurd (let no : false ≡ true = common in cc)
nothing_asked program source depth (If tree) i common =
    absurd (let no : false ≡ true = common in cc)
nothing_asked program source depth Else i common =
    absurd (let no : false ≡ true = common in cc)
nothing_asked program source depth EndIf i common =
    absurd (let no : false ≡ true = common in cc)
nothing_asked program source depth (EndWhile begin) i common =
    absurd (let no : false ≡ true = common in cc)

giving_asks : (program : ProgramData) (source : Source) (depth : ℕ) (common : Bool)
    (end x : ℕ) (tree : Tree) (i : ℕ) →
    asked_in program source depth (giving common end x tree) i ≡ None
giving_asks program source depth true end x tree i = refl
giving_asks program source depth false end x tree i = refl

pub none_asked : (program : ProgramData) (source : Source) (i : ℕ) →
    slice_get program.lines source.at ≡ None → asked_for program source i ≡ None
unfolding asked_for
none_asked program source i none =
    ap (λ (o : Option Line). elim o as (λ (x : Option Line). Option (ℕ × ℕ)) [
      | None ↦ None
      | Some line ↦ asked_in program source line.depth line.statement i
    ]) none

-- what is left of a line of a loop is one
level_common : (program : ProgramData) (statement : Statement) (level : Bool) →
    is_for_all (moved_statement program
    (if level then ([], statement) else split_statement program statement).1)
    ≡ is_for_all statement
level_common program (Assign (Private x) tree) true = refl
level_common program (Assign (Shared array index) tree) true = refl
level_common program (If tree) true = refl
level_common program Else true = refl
level_common program EndIf true = refl
level_common program (While tree end) true = refl
level_common program (EndWhile begin) true = refl
level_common program (For nest first last up end) true = refl
level_common program (EndFor begin) true = refl
level_common program (Assign (Private x) tree) false = refl
level_common program (Assign (Shared array index) tree) false = refl
level_common program (If tree) false = refl
level_common program Else false = refl
level_common program EndIf false = refl
level_common program (While tree end) false = refl
level_common program (EndWhile begin) false = refl
level_common program (For nest first last up end) false = refl
level_common program (EndFor begin) false = refl

still_common : (program : ProgramData) (statement : Statement) →
    is_for_all (moved_statement program (statement_parts program statement).1)
    ≡ is_for_all statement
still_common program (Assign target tree) =
    level_common program (Assign target tree) (fits (Assign target tree))
still_common program (If tree) = level_common program (If tree) (fits (If tree))
still_common program Else = refl
still_common program EndIf = refl
still_common program (While tree end) =
    level_common program (While tree end) (fits (While tree end))
still_common program (EndWhile begin) = refl
still_common program (For nest first last up end) =
    level_common program (For nest first last up end) (fits (For nest first last up end))
still_common program (EndFor begin) = refl

some_or : (o : Option ℕ) (number : ℕ) → IsTrue (is_some (option_or o (Some number)))
some_or None number = refl
some_or (Some other) number = refl

-- ---- a line

module _ (program : ProgramData) (lawful : IsProgram program) (n : ℕ)
    (stands : StandsFor program (after program n) (after (flat program) (flat_count program n)))
    (line : Line) (is : slice_get program.lines (after program n).at ≡ Some line) where
  abbrev m : ℕ
  m = flat_count program n

  abbrev pieces : List Tree
  pieces = pieces_of program line

  abbrev first_flat : Source
  first_flat = after (flat program) m

  abbrev source : Source
  source = after program n

  line_is : IsStatement (bounds_of program) line.statement
  line_is = (all_at (IsLine (bounds_of program)) program.lines source.at line lawful.lines is).0

  pub size : flat_count program (suc n) ≡ m + length pieces + 1
  size = ap (λ o. flat_count program n + size_next program o) is
      ∙ (let e : m + (length pieces + 1) ≡ m + length pieces + 1 = omega arith in e)

  one : after program (suc n)
      ≡ after_statement program line.number line.depth line.statement source
  one = after_next program n ∙ next_at program source line is

  -- the hidden lines stand from here on
  hidden_here : (base : ℕ) → base_of program line.statement ≡ base → (j : ℕ) → j < length pieces →
      slice_get (flat program).lines (first_flat.at + j)
      ≡ slice_get (hidden (last_of program 0) line base pieces) j
  hidden_here base e j lt = ap (λ p. slice_get (flat program).lines (p + j)) stands.at
      ∙ hidden_stands program source.at line is j lt
      ∙ ap (λ b. slice_get (hidden (last_of program 0) line b pieces) j) e

  last_here : (after (flat program) (m + length pieces)).at
      ≡ first_flat_of program source.at + length pieces →
      slice_get (flat program).lines (after (flat program) (m + length pieces)).at
      ≡ Some (last_line program line)
  last_here at = ap (slice_get (flat program).lines) at
      ∙ last_stands program source.at line is

  place : (now : Source) → now.at ≡ first_flat_of program source.at + length pieces →
      now.at + 1 ≡ first_flat_of program (source.at + 1)
  place now at = let more = first_next program source.at line is in omega (arith, at, more)

  -- after the last of the lines for it
  flat_one : (now : Source) → after (flat program) (m + length pieces) ≡ now →
      now.at ≡ first_flat_of program source.at + length pieces →
      after (flat program) (flat_count program (suc n))
      ≡ after_statement (flat program) line.number line.depth
      (moved_statement program (line_parts program line).1) now
  flat_one now e at = ap (after (flat program)) size
      ∙ step (flat program) (m + length pieces) (last_line program line)
      (last_here (ap (λ (s : Source). s.at) e ∙ at))
      ∙ ap (after_statement (flat program) line.number line.depth
      (moved_statement program (line_parts program line).1)) e

  abbrev Next : Type 0
  Next = StandsFor program (after program (suc n))
      (after (flat program) (flat_count program (suc n)))

  -- it stands in the midst of the lines for it, or is left
  abbrev At : ℕ → Type 0
  At k = ((after (flat program) (m + k)).at ≡ first_flat_of program source.at + k)
      ⊎ (IsTrue (is_for_all line.statement) × IsLeft (flat program) (after (flat program) (m + k)))

  abbrev Asks : Type 0
  Asks = (i : ℕ) → asked_for (flat program) (after (flat program) (m + length pieces)) i
      ≡ asked_for program source i

  record Kind : Type 0 where
    shares : (k : ℕ) → k ≤ length pieces →
        Shares program source (after (flat program) (m + k))
    at : (k : ℕ) → k ≤ length pieces → At k
    next : Next
    asks : Asks

  -- ---- a line that is not one of a loop

  module _ (plain : is_for_all line.statement ≡ false) where
    abbrev base : ℕ
    base = length program.privates

    base_is : base_of program line.statement ≡ base
    base_is = ap (λ b. if b then program.loops else length program.privates) plain

    abbrev so_far : ℕ → Source
    so_far k =
        after_pieces (flat program) line.number line.depth base (take k pieces) first_flat

    mid : (k : ℕ) → k ≤ length pieces → after (flat program) (m + k) ≡ so_far k
    mid k le = made (flat program) (last_of program 0) line plain base pieces m
        (hidden_here base base_is) k le

    mid_at : (k : ℕ) → k ≤ length pieces →
        (after (flat program) (m + k)).at ≡ first_flat_of program source.at + k
    mid_at k le =
        ap (λ (s : Source). s.at) (mid k le)
        ∙ at_after (flat program) line.number line.depth base (take k pieces) first_flat
        ∙ ap (λ l. first_flat.at + l) (length-take-le k pieces le)
        ∙ ap (λ p. p + k) stands.at

    abbrev last_flat : Source
    last_flat = after_pieces (flat program) line.number line.depth base pieces first_flat

    last_mid : after (flat program) (m + length pieces) ≡ last_flat
    last_mid = mid (length pieces) (omega arith)
        ∙ ap (λ ps. after_pieces (flat program) line.number line.depth base ps first_flat)
        (take-length pieces)

    last_at : last_flat.at ≡ first_flat_of program source.at + length pieces
    last_at = sym (ap (λ (s : Source). s.at) last_mid) ∙ mid_at (length pieces) (omega arith)

    abbrev Both : Type 0
    Both = StandsFor program
        (after_statement program line.number line.depth line.statement source)
        (after_statement (flat program) line.number line.depth
        (moved_statement program (line_parts program line).1) last_flat)
        × ((i : ℕ) → asked_in (flat program) last_flat line.depth
        (moved_statement program (line_parts program line).1) i
        ≡ asked_in program source line.depth line.statement i)

    both : Both
    both = line_stands program source first_flat stands.shares stands.gone line.number line.depth
        line.statement plain line_is (place last_flat last_at)

    plain_kind : Kind
    plain_kind = record {
      shares = λ k le. subst (Shares program source) (sym (mid k le))
          (now_shares program source first_flat stands.shares stands.gone line.number line.depth
          (take k pieces));
      at = λ k le. inl (mid_at k le);
      next = subst (λ s. StandsFor program s (after (flat program) (flat_count program (suc n))))
          (sym one)
          (subst (StandsFor program
          (after_statement program line.number line.depth line.statement source))
          (sym (flat_one last_flat last_mid last_at)) both.0);
      asks = λ i.
          asked_at (flat program) (after (flat program) (m + length pieces))
          (last_line program line) i (last_here (mid_at (length pieces) (omega arith)))
          ∙ ap (λ (s : Source). asked_in (flat program) s line.depth
          (moved_statement program (line_parts program line).1) i) last_mid
          ∙ both.1 i ∙ sym (asked_at program source line i is);
    }

  -- ---- a line of a loop

  module _ (common : is_for_all line.statement ≡ true) where
    loops_is : base_of program line.statement ≡ program.loops
    loops_is = ap (λ b. if b then program.loops else length program.privates) common

    abbrev lets : List Tree → Source
    lets ps = after_lets (flat program) line.number program.loops ps first_flat

    let_mid : (k : ℕ) → k ≤ length pieces → after (flat program) (m + k) ≡ lets (take k pieces)
    let_mid k le = made_lets (flat program) (last_of program 0) line common program.loops pieces m
        (hidden_here program.loops loops_is) k le

    all_below : PiecesBelow program.loops pieces
    all_below = statement_below program lawful line.statement line_is common

    abbrev Found : ℕ → Type 0
    Found k = Let (flat program) line.number program.loops (take k pieces) first_flat
        (after (flat program) (m + k))

    found : (k : ℕ) → k ≤ length pieces → Found k
    found k le = subst (Let (flat program) line.number program.loops (take k pieces) first_flat)
        (sym (let_mid k le))
        (lets_run (flat program) line.number program.loops (take k pieces) first_flat
        (below_take program.loops pieces k all_below))

    found_shares : (k : ℕ) → k ≤ length pieces → Found k →
        Shares program source (after (flat program) (m + k))
    found_shares k le (inl whole) =
        shares_kept program source first_flat (after (flat program) (m + k)) stands.shares
        whole.kept
    found_shares k le (inr cut) =
        let shares = shares_kept program source first_flat cut.mid stands.shares cut.kept in
        subst (Shares program source) (sym cut.now_is) (record {
          cells = shares.cells;
          loops = shares.loops;
          masks = shares.masks;
          privates = shares.privates;
        })

    left : (k : ℕ) → Cut (flat program) line.number program.loops (take k pieces) first_flat
        (after (flat program) (m + k)) → IsLeft (flat program) (after (flat program) (m + k))
    left k cut = record {
      at = sym (ap (λ (s : Source). s.at) cut.now_is);
      all = λ i. subst (λ (s : Source). IsTrue (is_some (s.gone i))) (sym cut.now_is)
          (some_or (cut.mid.gone i) line.number);
    }

    found_at : (k : ℕ) → k ≤ length pieces → Found k → At k
    found_at k le (inl whole) =
        let at = whole.at in
        let count = length-take-le k pieces le in
        let start = stands.at in
        inl (omega (arith, at, count, start))
    found_at k le (inr cut) = inr (common, left k cut)

    abbrev last_source : Source
    last_source = after (flat program) (m + length pieces)

    last_found : Let (flat program) line.number program.loops pieces first_flat last_source
    last_found = subst (λ ps. Let (flat program) line.number program.loops ps first_flat last_source)
        (take-length pieces) (found (length pieces) (omega arith))

    abbrev Stood : Type 0
    Stood = StandsFor program
        (after_statement program line.number line.depth line.statement source)
        (after (flat program) (flat_count program (suc n)))

    last_stood : Let (flat program) line.number program.loops pieces first_flat last_source → Stood
    last_stood (inl whole) =
        let at : last_source.at ≡ first_flat_of program source.at + length pieces =
        (let e = whole.at in let start = stands.at in omega (arith, e, start)) in
        subst (StandsFor program
        (after_statement program line.number line.depth line.statement source))
        (sym (flat_one last_source refl at))
        (loop_line program source first_flat last_source stands line.number line.depth
        (place last_source at) line.statement common lawful line_is whole)
    last_stood (inr cut) =
        let none : slice_get (flat program).lines last_source.at ≡ None =
        ap (λ (s : Source). slice_get (flat program).lines s.at) cut.now_is
        ∙ no_more (flat program).lines in
        subst (StandsFor program
        (after_statement program line.number line.depth line.statement source))
        (sym (ap (after (flat program)) size
        ∙ stays_over (flat program) (m + length pieces) 1 none))
        (loop_cut program source first_flat stands line.number line.depth lawful line.statement
        common line_is last_source cut)

    -- neither the line nor the last of the lines for it asks for something
    nothing : (i : ℕ) → asked_for program source i ≡ None
    nothing i = asked_at program source line i is
        ∙ nothing_asked program source line.depth line.statement i common

    flat_nothing : (i : ℕ) → Let (flat program) line.number program.loops pieces first_flat
        last_source → asked_for (flat program) last_source i ≡ None
    flat_nothing i (inl whole) =
        let at : last_source.at ≡ first_flat_of program source.at + length pieces =
        (let e = whole.at in let start = stands.at in omega (arith, e, start)) in
        asked_at (flat program) last_source (last_line program line) i (last_here at)
        ∙ nothing_asked (flat program) last_source line.depth
        (moved_statement program (line_parts program line).1) i
        (still_common program line.statement ∙ common)
    flat_nothing i (inr cut) = none_asked (flat program) last_source i
        (ap (λ (s : Source). slice_get (flat program).lines s.at) cut.now_is
        ∙ no_more (flat program).lines)

    loop_kind : Kind
    loop_kind = record {
      shares = λ k le. found_shares k le (found k le);
      at = λ k le. found_at k le (found k le);
      next = subst (λ s. StandsFor program s (after (flat program) (flat_count program (suc n))))
          (sym one) (last_stood last_found);
      asks = λ i. flat_nothing i last_found ∙ sym (nothing i);
    }

  kind : Kind
  kind = ⊎_elim (λ (common : is_for_all line.statement ≡ true). loop_kind common)
      (λ (plain : is_for_all line.statement ≡ false). plain_kind plain)
      (cases_Bool (is_for_all line.statement))

  pub stands_next : StandsFor program (after program (suc n))
      (after (flat program) (flat_count program (suc n)))
  stands_next = kind.next

  hidden_none : (k i : ℕ) → k < length pieces → At k →
      asked_for (flat program) (after (flat program) (m + k)) i ≡ None
  hidden_none k i lt (inl at) =
      let base = base_of program line.statement in
      let there = hidden_is (last_of program 0) line base pieces k lt in
      let shown : Line = record line {
        statement = giving (is_for_all line.statement) (last_of program 0) there.0 there.1;
      } in
      let here : slice_get (flat program).lines (after (flat program) (m + k)).at ≡ Some shown =
      ap (slice_get (flat program).lines) at
      ∙ hidden_stands program source.at line is k lt ∙ there.2 in
      asked_at (flat program) (after (flat program) (m + k)) shown i here
      ∙ giving_asks (flat program) (after (flat program) (m + k)) line.depth
      (is_for_all line.statement) (last_of program 0) there.0 there.1 i
  hidden_none k i lt (inr left) = none_asked (flat program) (after (flat program) (m + k)) i
      (sym (ap (slice_get (flat program).lines) left.1.at) ∙ no_more (flat program).lines)

  pub keeps_line : KeepsLine program n line
  keeps_line = record {
    shares = kind.shares;
    at = kind.at;
    gone = λ k i number le gone.
        let e : n + 1 ≡ suc n = omega arith in
        let late : (m + k) + (length pieces + 1 - k) ≡ flat_count program (suc n) =
        (let s = size in omega (arith, s, le)) in
        ap (λ j. (after program j).gone i) e
        ∙ sym (ap (λ (g : ℕ → Option ℕ). g i) stands_next.gone)
        ∙ sym (ap (λ j. (after (flat program) j).gone i) late)
        ∙ gone_later (flat program) i number (m + k) (length pieces + 1 - k) gone;
    hidden = λ k i lt. hidden_none k i lt (kind.at k (omega (arith, lt)));
    asks = kind.asks;
  }

-- ---- all lines

start_shares : (program : ProgramData) →
    Shares program (after program 0) (after (flat program) 0)
unfolding after
start_shares program = record {
  cells = refl;
  loops = λ nest lt. refl;
  masks = refl;
  privates = λ x i lt. ap (λ (o : Option PrivateData).
      elim o as (λ (p : Option PrivateData). ℕ)
      [ None ↦ 0 | Some variable ↦ slice_index variable.start i ])
      (get_front program.privates
      (replicate (most_pieces false program program.lines) (nameless program)) x lt);
}

starts : (program : ProgramData) → StandsFor program (after program 0) (after (flat program) 0)
unfolding after first_flat_of
starts program = record { shares = start_shares program; gone = refl; at = refl }

no_line : (program : ProgramData) (n : ℕ) →
    slice_get program.lines (after program n).at ≡ None →
    (after program (suc n) ≡ after program n)
    × (flat_count program (suc n) ≡ flat_count program n)
unfolding after next
no_line program n none = (
  ap (λ (o : Option Line). elim o as (λ (x : Option Line). Source) [
    | None ↦ after program n
    | Some line ↦ after_statement program line.number line.depth line.statement (after program n)
  ]) none,
  ap (λ o. flat_count program n + size_next program o) none
      ∙ (let e : flat_count program n + 0 ≡ flat_count program n = omega arith in e),
)

stands_at : (program : ProgramData) → IsProgram program → (n : ℕ) →
    StandsFor program (after program n) (after (flat program) (flat_count program n))
stands_at program lawful zero = starts program
stands_at program lawful (suc n) =
    by_line (stands_at program lawful n) (slice_get program.lines (after program n).at) refl
  where
    by_line : StandsFor program (after program n) (after (flat program) (flat_count program n)) →
        (o : Option Line) → slice_get program.lines (after program n).at ≡ o →
        StandsFor program (after program (suc n))
        (after (flat program) (flat_count program (suc n)))
    by_line so_far (Some line) is = stands_next program lawful n so_far line is
    by_line so_far None is = let same = no_line program n is in
        subst (λ s. StandsFor program s (after (flat program) (flat_count program (suc n))))
        (sym same.0)
        (subst (λ k. StandsFor program (after program n) (after (flat program) k))
        (sym same.1) so_far)

pub flattening_keeps_runs : FlatteningKeepsRuns
flattening_keeps_runs program n lawful = record {
  stands = stands_at program lawful n;
  line = λ line is. keeps_line program lawful n (stands_at program lawful n) line is;
}
