-- The flat program of a lawful one is lawful.
use Rattle.std.proofs.Common.{◌≡◌, ℕ, zero, suc, ◌+◌, ◌*◌, ◌^◌, ◌<◌, ◌≤◌, Bool}
use Rattle.std.proofs.Common.{true, false, List, [], ◌∷◌, ◌++◌, Option, Some, None, refl, sym, ap}
use Rattle.std.proofs.Common.{◌∙◌, subst, ⊎_elim, arith, if◌then◌else◌, length, max}
use Rattle.std.proofs.Common.{length-append}
use Rattle.std.specs.Prelude.{slice_get, replicate}
use Rattle.std.specs.List.{All, flat_map}
use Rattle.std.proofs.lemmas.List.{get_or-replicate, length-replicate}
use Rattle.std.proofs.Math.ListN.{get_or}
use Rattle.std.proofs.lemmas.Bool.{cases_Bool}
use Rattle.std.proofs.lemmas.List.Elements.{All-append, All-cons, All-from_get_or, All-nil}
use Rattle.std.proofs.lemmas.List.Elements.{All-tail}
use Rattle.std.proofs.lemmas.Option.{none-some, same_Some, slice_get_within}
use Rattle.pardo_program.specs.declared.limits.TheConstants.{MAX_CELLS}
use Rattle.pardo_program.specs.declared.statement.Line.{Line}
use Rattle.pardo_program.specs.declared.statement.Statement.{Statement}
use Rattle.pardo_program.specs.declared.statement.Statement.TheVariants.{Assign, If, Else, EndIf}
use Rattle.pardo_program.specs.declared.statement.Statement.TheVariants.{While, EndWhile, For}
use Rattle.pardo_program.specs.declared.statement.Statement.TheVariants.{EndFor}
use Rattle.pardo_program.specs.declared.statement.Target.TheVariants.{Private, Array as Shared}
use Rattle.pardo_program.specs.Expression.{Tree, number, own, loop, private, place, apply}
use Rattle.pardo_program.specs.Lawful.{Bounds, IsCommon, IsCommonTree, IsExpression, IsLine}
use Rattle.pardo_program.specs.Lawful.{IsPrivate, IsProgram, IsStatement, bounds_of, masks_of}
use Rattle.pardo_program.specs.Program.{PrivateData, ProgramData, shared_cells}
use Rattle.pardo_flat.specs.Flat.{base_of, beside, first_flat_of, fits, flat, giving, has_room}
use Rattle.pardo_flat.specs.Flat.{hidden, is_beside, is_for_all, last_line, last_of, last_pieces}
use Rattle.pardo_flat.specs.Flat.{lines_for, most_pieces, moved_statement, nameless, pieces_count}
use Rattle.pardo_flat.specs.Flat.{pieces_of, shape_of, split, split_last, split_statement}
use Rattle.pardo_flat.specs.Flat.{statement_parts, registers_taken, variable}
use Rattle.pardo_flat.specs.Statements.{statement_at}
use Rattle.pardo_flat.proofs.FlatLines.{all_at, hidden_for, last_is, last_stands, some_at}

-- ---- expressions

-- of other bounds, with at least as many private variables
abbrev IsWider : Bounds → Bounds → Type 0
IsWider b c = (b.arrays ≡ c.arrays) × (b.loops ≤ c.loops) × (b.privates ≤ c.privates)

wider : (b c : Bounds) → IsWider b c → (tree : Tree) → IsExpression b tree → IsExpression c tree
wider b c is (number k) e = e
wider b c is own e = tt
wider b c is (loop nest) e = omega (arith, e, is.1)
wider b c is (private x) e = omega (arith, e, is.2)
wider b c is (place array index) e =
    ((let f = e.0 in let g = is.0 in omega arith), wider b c is index e.1)
wider b c is (apply op first second) e =
    (wider b c is first e.0, wider b c is second e.1)

-- how many variables of a kind there are
abbrev limit : Bool → Bounds → ℕ
limit true c = c.loops
limit false c = c.privates

variable_is : (common : Bool) (c : Bounds) (k : ℕ) → k < limit common c →
    IsExpression c (variable common k)
variable_is true c k lt = lt
variable_is false c k lt = lt

-- pieces and what is left of two expressions
beside_lawful : (common : Bool) (c : Bounds) (t : ℕ) (room : Bool)
    (first second : List Tree × Tree) →
    All (IsExpression c) first.0 → IsExpression c first.1 → All (IsExpression c) second.0 →
    IsExpression c second.1 → t + length (beside common t room first second).0 ≤ limit common c →
    All (IsExpression c) (beside common t room first second).0
    × IsExpression c (beside common t room first second).1
    × IsExpression c (beside common t room first second).2
beside_lawful common c t true first second are is are_too is_too few =
    (All-append (IsExpression c) first.0 second.0 are are_too, is, is_too)
beside_lawful common c t false first second are is are_too is_too few =
    let more = All-append (IsExpression c) second.0 (second.1 ∷ []) are_too
    (All-cons (IsExpression c) second.1 [] is_too (All-nil (IsExpression c))) in
    let long = length-append first.0 (second.0 ++ second.1 ∷ []) in
    let longer = length-append second.0 (second.1 ∷ []) in (
      All-append (IsExpression c) first.0 (second.0 ++ second.1 ∷ []) are more,
      is,
      variable_is common c (t + length first.0 + length second.0)
          (omega (arith, long, longer, few)),
    )

-- the first expression has no more pieces
beside_least : (common : Bool) (t : ℕ) (room : Bool) (first second : List Tree × Tree) →
    length first.0 + length second.0 ≤ length (beside common t room first second).0
beside_least common t true first second =
    let e = length-append first.0 second.0 in omega (arith, e)
beside_least common t false first second =
    let long = length-append first.0 (second.0 ++ second.1 ∷ []) in
    let longer = length-append second.0 (second.1 ∷ []) in omega (arith, long, longer)

split_lawful : (common : Bool) (c : Bounds) (t : ℕ) (tree : Tree) →
    IsExpression c tree → t + length (split common t tree).0 ≤ limit common c →
    All (IsExpression c) (split common t tree).0 × IsExpression c (split common t tree).1
split_lawful common c t (number k) is few = (All-nil (IsExpression c), is)
split_lawful common c t own is few = (All-nil (IsExpression c), is)
split_lawful common c t (loop nest) is few = (All-nil (IsExpression c), is)
split_lawful common c t (private x) is few = (All-nil (IsExpression c), is)
split_lawful common c t (place array index) is few =
    let inner = split_lawful common c t index is.1 few in (inner.0, (is.0, inner.1))
split_lawful common c t (apply op first second) is few =
    let left = split common t first in
    let right = split common (t + length left.0) second in
    let room = is_beside op (shape_of left.1) (shape_of second) in
    let least = beside_least common t room left right in
    let one = split_lawful common c t first is.0 (omega (arith, least, few)) in
    let other = split_lawful common c (t + length left.0) second is.1
    (omega (arith, least, few)) in
    let both = beside_lawful common c t room left right one.0 one.1 other.0 other.1 few in
    (both.0, (both.1, both.2))

-- ---- expressions that are common to all processors

beside_common : (t : ℕ) (room : Bool) (first second : List Tree × Tree) →
    All IsCommon first.0 → IsCommon first.1 → All IsCommon second.0 → IsCommon second.1 →
    All IsCommon (beside true t room first second).0
    × IsCommon (beside true t room first second).1 × IsCommon (beside true t room first second).2
beside_common t true first second are is are_too is_too =
    (All-append IsCommon first.0 second.0 are are_too, is, is_too)
beside_common t false first second are is are_too is_too = (
  All-append IsCommon first.0 (second.0 ++ second.1 ∷ []) are
      (All-append IsCommon second.0 (second.1 ∷ []) are_too
      (All-cons IsCommon second.1 [] is_too (All-nil IsCommon))),
  is,
  tt,
)

split_common : (t : ℕ) (tree : Tree) → IsCommon tree →
    All IsCommon (split true t tree).0 × IsCommon (split true t tree).1
split_common t (number k) is = (All-nil IsCommon, tt)
split_common t own is = absurd is
split_common t (loop nest) is = (All-nil IsCommon, tt)
split_common t (private x) is = absurd is
split_common t (place array index) is = (
  subst (λ (i : Tree). All IsCommon (split true t i).0) (sym is) (All-nil IsCommon),
  ap (λ (i : Tree). (split true t i).1) is,
)
split_common t (apply op first second) is =
    let left = split true t first in
    let right = split true (t + length left.0) second in
    let one = split_common t first is.0 in
    let other = split_common (t + length left.0) second is.1 in
    let both = beside_common t (is_beside op (shape_of left.1) (shape_of second)) left right
    one.0 one.1 other.0 other.1 in
    (both.0, (both.1, both.2))

-- pieces of a kind, and what is left of an expression
abbrev IsPiece : Bool → Bounds → Tree → Type 0
IsPiece true c tree = IsCommonTree c tree
IsPiece false c tree = IsExpression c tree

both_are : (c : Bounds) (pieces : List Tree) → All (IsExpression c) pieces →
    All IsCommon pieces → All (IsCommonTree c) pieces
both_are c pieces are common k d lt = (are k d lt, common k d lt)

loop_lawful : (c : Bounds) (t : ℕ) (tree : Tree) → IsCommonTree c tree →
    t + length (split true t tree).0 ≤ c.loops →
    All (IsCommonTree c) (split true t tree).0 × IsCommonTree c (split true t tree).1
loop_lawful c t tree is few =
    let one = split_lawful true c t tree is.0 few in
    let other = split_common t tree is.1 in
    (both_are c (split true t tree).0 one.0 other.0, (one.1, other.1))

-- the last bound of a `for`
last_by_room : (c : Bounds) (t : ℕ) (last : List Tree × Tree) (room : Bool) →
    All (IsCommonTree c) last.0 → IsCommonTree c last.1 →
    t + length (if room then last else (last.0 ++ last.1 ∷ [], loop (t + length last.0))).0
    ≤ c.loops →
    All (IsCommonTree c)
    (if room then last else (last.0 ++ last.1 ∷ [], loop (t + length last.0))).0
    × IsCommonTree c
    (if room then last else (last.0 ++ last.1 ∷ [], loop (t + length last.0))).1
last_by_room c t last true are is few = (are, is)
last_by_room c t last false are is few =
    let long = length-append last.0 (last.1 ∷ []) in (
      All-append (IsCommonTree c) last.0 (last.1 ∷ []) are
          (All-cons (IsCommonTree c) last.1 [] is (All-nil (IsCommonTree c))),
      (omega (arith, long, few), tt),
    )

last_least : (t : ℕ) (last : List Tree × Tree) (room : Bool) → length last.0
    ≤ length (if room then last else (last.0 ++ last.1 ∷ [], loop (t + length last.0))).0
last_least t last true = omega arith
last_least t last false =
    let long = length-append last.0 (last.1 ∷ []) in omega (arith, long)

last_lawful : (c : Bounds) (t : ℕ) (tree : Tree) → IsCommonTree c tree →
    t + length (split_last t tree).0 ≤ c.loops →
    All (IsCommonTree c) (split_last t tree).0 × IsCommonTree c (split_last t tree).1
last_lawful c t tree is few =
    let last = split true t tree in
    let room = has_room 1 (shape_of last.1) in
    let least = last_least t last room in
    let parts = loop_lawful c t tree is (omega (arith, least, few)) in
    last_by_room c t last room parts.0 parts.1 few

-- ---- lines

module _ (program : ProgramData) where
  pub count_in : (common : Bool) (lines : List Line) (j : ℕ) (line : Line) →
      slice_get lines j ≡ Some line →
      pieces_count common program line ≤ most_pieces common program lines
  count_in common [] j line is = absurd (none-some line is)
  count_in common (first ∷ lines) zero line is =
      let same = ap (pieces_count common program) (same_Some first line is) in
      omega (arith, same)
  count_in common (first ∷ lines) (suc j) line is =
      let e = count_in common lines j line is in omega (arith, e)

  count_is : (line : Line) (common : Bool) → is_for_all line.statement ≡ common →
      pieces_count common program line ≡ length (pieces_of program line)
  count_is line true e =
      ap (λ b. if b then length (pieces_of program line) else 0) e
  count_is line false e =
      ap (λ b. if b then 0 else length (pieces_of program line)) e

  pub most_in : (lines : List Line) (j : ℕ) (line : Line) → slice_get lines j ≡ Some line →
      length (pieces_of program line)
      ≤ max (most_pieces false program lines) (most_pieces true program lines)
  most_in lines j line is = ⊎_elim
      (λ (on : is_for_all line.statement ≡ true).
      let e = count_is line true on in
      let f = count_in true lines j line is in omega (arith, e, f))
      (λ (off : is_for_all line.statement ≡ false).
      let e = count_is line false off in
      let f = count_in false lines j line is in omega (arith, e, f))
      (cases_Bool (is_for_all line.statement))

module _ (program : ProgramData) (lawful : IsProgram program) where
  abbrev b : Bounds
  b = bounds_of program

  abbrev c : Bounds
  c = bounds_of (flat program)

  abbrev base : ℕ
  base = length program.privates

  pub privates_are : c.privates ≡ base + most_pieces false program program.lines
  privates_are =
      length-append program.privates
      (replicate (most_pieces false program program.lines) (nameless program))
      ∙ ap (λ n. base + n)
      (length-replicate {A = PrivateData} (most_pieces false program program.lines)
      (nameless program))

  is_wider : IsWider b c
  is_wider = (refl, omega arith, (let e = privates_are in omega (arith, e)))

  few_pieces : (j : ℕ) (line : Line) → slice_get program.lines j ≡ Some line →
      base_of program line.statement + length (pieces_of program line)
      ≤ limit (is_for_all line.statement) c
  few_pieces j line is = ⊎_elim
      (λ (on : is_for_all line.statement ≡ true).
      let e = count_is program line true on in
      let f = count_in program true program.lines j line is in
      let base_is = ap (λ b. if b then program.loops else base) on in
      subst (λ b. base_of program line.statement + length (pieces_of program line) ≤ limit b c)
      (sym on) (omega (arith, e, f, base_is)))
      (λ (off : is_for_all line.statement ≡ false).
      let e = count_is program line false off in
      let f = count_in program false program.lines j line is in
      let g = privates_are in
      let base_is = ap (λ b. if b then program.loops else base) off in
      subst (λ b. base_of program line.statement + length (pieces_of program line) ≤ limit b c)
      (sym off) (omega (arith, e, f, g, base_is)))
      (cases_Bool (is_for_all line.statement))

  -- a line of the text has a last flat line
  last_within : (j : ℕ) → j < length program.lines → last_of program j < c.lines
  last_within j lt =
      let line = some_at program.lines j lt in
      slice_get_within (flat program).lines (last_of program j) (last_line program line.0)
      (ap (slice_get (flat program).lines) (last_is program j line.0 line.1)
      ∙ last_stands program j line.0 line.1)

  pub first_within : (j : ℕ) → j < length program.lines → first_flat_of program j < c.lines
  first_within j lt =
      let line = some_at program.lines j lt in
      let e = last_is program j line.0 line.1 in
      let f = last_within j lt in omega (arith, e, f)

  wide : (tree : Tree) → IsExpression b tree → IsExpression c tree
  wide tree is = wider b c is_wider tree is

  wide_common : (tree : Tree) → IsCommonTree b tree → IsCommonTree c tree
  wide_common tree is = (wide tree is.0, is.1)

  abbrev AreParts : Bool → List Tree × Statement → ℕ → Type 0
  AreParts common parts depth = All (IsPiece common c) parts.0
      × IsStatement c (moved_statement program parts.1)
      × (depth + masks_of (moved_statement program parts.1) ≤ c.choices)

  no_pieces : (common : Bool) → All (IsPiece common c) []
  no_pieces common = All-nil (IsPiece common c)

  plain_parts : (statement : Statement) (depth : ℕ) → IsStatement b statement →
      depth + masks_of statement ≤ b.choices →
      AreParts (is_for_all statement) ([], statement) depth
  plain_parts (Assign (Private x) tree) depth is few = (
    no_pieces false,
    ((let e = privates_are in let f = is.0 in omega (arith, e, f)), wide tree is.1),
    few,
  )
  plain_parts (Assign (Shared array index) tree) depth is few = (
    no_pieces false,
    ((is.0.0, wide index is.0.1), wide tree is.1),
    few,
  )
  plain_parts (If tree) depth is few = (no_pieces false, wide tree is, few)
  plain_parts Else depth is few = (no_pieces false, tt, few)
  plain_parts EndIf depth is few = (no_pieces false, tt, few)
  plain_parts (While tree end) depth is few =
      (no_pieces true, (wide_common tree is.0, last_within end is.1), few)
  plain_parts (EndWhile begin) depth is few = (no_pieces false, first_within begin is, few)
  plain_parts (For nest first last up end) depth is few = (
    no_pieces true,
    (
      (let f = is.0 in omega (arith, f)),
      wide_common first is.1,
      wide_common last is.2,
      last_within end is.3,
    ),
    few,
  )
  plain_parts (EndFor begin) depth is few = (no_pieces true, last_within begin is, few)

  split_parts : (statement : Statement) (depth : ℕ) → IsStatement b statement →
      depth + masks_of statement ≤ b.choices →
      base_of program statement + length (split_statement program statement).0
      ≤ limit (is_for_all statement) c →
      AreParts (is_for_all statement) (split_statement program statement) depth
  split_parts (Assign (Private x) tree) depth is few low =
      let parts = split_lawful false c base tree (wide tree is.1) low in
      (parts.0, ((let e = privates_are in let f = is.0 in omega (arith, e, f)), parts.1), few)
  split_parts (Assign (Shared array index) tree) depth is few low =
      let left = split false base tree in
      let right = split false (base + length left.0) index in
      let room = has_room (registers_taken (shape_of left.1)) (shape_of index) in
      let least = beside_least false base room left right in
      let one = split_lawful false c base tree (wide tree is.1) (omega (arith, least, low)) in
      let other = split_lawful false c (base + length left.0) index (wide index is.0.1)
      (omega (arith, least, low)) in
      let both = beside_lawful false c base room left right one.0 one.1 other.0 other.1 low in
      (both.0, ((is.0.0, both.2), both.1), few)
  split_parts (If tree) depth is few low =
      let parts = split_lawful false c base tree (wide tree is) low in
      (parts.0, parts.1, few)
  split_parts Else depth is few low = plain_parts Else depth is few
  split_parts EndIf depth is few low = plain_parts EndIf depth is few
  split_parts (While tree end) depth is few low =
      let parts = loop_lawful c program.loops tree (wide_common tree is.0) low in
      (parts.0, (parts.1, last_within end is.1), few)
  split_parts (EndWhile begin) depth is few low = plain_parts (EndWhile begin) depth is few
  split_parts (For nest first last up end) depth is few low =
      let high = split_last program.loops last in
      let low_parts = split true (program.loops + length high.0) first in
      let long = length-append high.0 low_parts.0 in
      let one = last_lawful c program.loops last (wide_common last is.2)
      (omega (arith, long, low)) in
      let other = loop_lawful c (program.loops + length high.0) first (wide_common first is.1)
      (omega (arith, long, low)) in (
        All-append (IsCommonTree c) high.0 low_parts.0 one.0 other.0,
        ((let f = is.0 in omega (arith, f)), other.1, one.1, last_within end is.3),
        few,
      )
  split_parts (EndFor begin) depth is few low = plain_parts (EndFor begin) depth is few

  by_level : (level : Bool) (statement : Statement) (depth : ℕ) → IsStatement b statement →
      depth + masks_of statement ≤ b.choices →
      base_of program statement
      + length (if level then ([], statement) else split_statement program statement).0
      ≤ limit (is_for_all statement) c →
      AreParts (is_for_all statement)
      (if level then ([], statement) else split_statement program statement) depth
  by_level true statement depth is few low = plain_parts statement depth is few
  by_level false statement depth is few low = split_parts statement depth is few low

  -- the pieces that the end of a `for` asks for again
  last_are : (opener : Statement) → IsStatement b opener → (level : Bool) →
      program.loops + length (if level then [] else last_pieces program opener) ≤ c.loops →
      All (IsCommonTree c) (if level then [] else last_pieces program opener)
  last_are opener is true low = All-nil (IsCommonTree c)
  last_are (For nest first last up end) is false low =
      (last_lawful c program.loops last (wide_common last is.2) low).0
  last_are (Assign target tree) is false low = All-nil (IsCommonTree c)
  last_are (If tree) is false low = All-nil (IsCommonTree c)
  last_are Else is false low = All-nil (IsCommonTree c)
  last_are EndIf is false low = All-nil (IsCommonTree c)
  last_are (While tree end) is false low = All-nil (IsCommonTree c)
  last_are (EndWhile line) is false low = All-nil (IsCommonTree c)
  last_are (EndFor line) is false low = All-nil (IsCommonTree c)

  opener_is : (begin : ℕ) → begin < length program.lines →
      IsStatement b (statement_at program begin)
  opener_is begin lt =
      let line = some_at program.lines begin lt in
      subst (IsStatement b) (sym (ap (λ (o : Option Line). elim o as (λ (x : Option Line). Statement)
      [ None ↦ EndIf | Some l ↦ l.statement ]) line.1))
      (all_at (IsLine b) program.lines begin line.0 lawful.lines line.1).0

  parts_lawful : (statement : Statement) (depth : ℕ) → IsStatement b statement →
      depth + masks_of statement ≤ b.choices →
      base_of program statement + length (statement_parts program statement).0
      ≤ limit (is_for_all statement) c →
      AreParts (is_for_all statement) (statement_parts program statement) depth
  parts_lawful (EndFor begin) depth is few low = (
    last_are (statement_at program begin) (opener_is begin is)
        (fits (statement_at program begin)) low,
    last_within begin is,
    few,
  )
  parts_lawful (Assign target tree) depth is few low =
      by_level (fits (Assign target tree)) (Assign target tree) depth is few low
  parts_lawful (If tree) depth is few low = by_level (fits (If tree)) (If tree) depth is few low
  parts_lawful Else depth is few low = plain_parts Else depth is few
  parts_lawful EndIf depth is few low = plain_parts EndIf depth is few
  parts_lawful (While tree end) depth is few low =
      by_level (fits (While tree end)) (While tree end) depth is few low
  parts_lawful (EndWhile begin) depth is few low = plain_parts (EndWhile begin) depth is few
  parts_lawful (For nest first last up end) depth is few low =
      by_level (fits (For nest first last up end)) (For nest first last up end) depth is few low

  giving_is : (common : Bool) (end t : ℕ) (piece : Tree) → t < limit common c → end < c.lines →
      IsPiece common c piece →
      IsStatement c (giving common end t piece) × (masks_of (giving common end t piece) ≡ 0)
  giving_is true end t piece lt within is = ((lt, is, (omega arith, tt), within), refl)
  giving_is false end t piece lt within is = ((lt, is), refl)

  hidden_lawful : (end : ℕ) (line : Line) (t : ℕ) (pieces : List Tree) → end < c.lines →
      line.depth ≤ c.choices →
      t + length pieces ≤ limit (is_for_all line.statement) c →
      All (IsPiece (is_for_all line.statement) c) pieces →
      All (IsLine c) (hidden end line t pieces)
  hidden_lawful end line t [] within low few are = All-nil (IsLine c)
  hidden_lawful end line t (piece ∷ pieces) within low few are =
      let given = giving_is (is_for_all line.statement) end t piece (omega (arith, few)) within
      (all_at (IsPiece (is_for_all line.statement) c) (piece ∷ pieces) 0 piece are refl) in
      let none = given.1 in
      All-cons (IsLine c)
      (record line { statement = giving (is_for_all line.statement) end t piece })
      (hidden end line (t + 1) pieces) (given.0, omega (arith, low, none))
      (hidden_lawful end line (t + 1) pieces within low (omega (arith, few))
      (All-tail (IsPiece (is_for_all line.statement) c) piece pieces are))

  lines_lawful : (j : ℕ) (line : Line) → slice_get program.lines j ≡ Some line →
      All (IsLine c) (lines_for program line)
  unfolding lines_for
  lines_lawful j line is =
      let here : IsLine b line = all_at (IsLine b) program.lines j line lawful.lines is in
      let few = few_pieces j line is in
      let parts = parts_lawful line.statement line.depth here.0 here.1 few in
      let depth : line.depth ≤ c.choices = (let e = here.1 in omega (arith, e)) in
      All-append (IsLine c) (hidden_for program line) (last_line program line ∷ [])
      (hidden_lawful (last_of program 0) line (base_of program line.statement)
      (pieces_of program line) (last_within 0 lawful.has_line) depth few parts.0)
      (All-cons (IsLine c) (last_line program line) [] (parts.1, parts.2) (All-nil (IsLine c)))

  all_lawful : (lines : List Line) →
      ((j : ℕ) (line : Line) → slice_get lines j ≡ Some line →
      All (IsLine c) (lines_for program line)) →
      All (IsLine c) (flat_map (lines_for program) lines)
  all_lawful [] are = All-nil (IsLine c)
  all_lawful (line ∷ lines) are =
      All-append (IsLine c) (lines_for program line) (flat_map (lines_for program) lines)
      (are 0 line refl) (all_lawful lines (λ j other is. are (suc j) other is))

  none_left : (k procs d : ℕ) → k < procs → get_or (replicate {A = ℕ} procs 0) k d < 2 ^ 32
  none_left k procs d lt =
      subst (λ n. n < 2 ^ 32) (sym (get_or-replicate {A = ℕ} procs k 0 d lt)) (omega arith)

  nameless_is : IsPrivate program.procs (nameless program)
  nameless_is = (
    length-replicate {A = ℕ} program.procs 0,
    All-from_get_or (λ value. value < 2 ^ 32) (replicate {A = ℕ} program.procs 0) 0
        (λ k lt. none_left k program.procs 0
        (let e = length-replicate {A = ℕ} program.procs 0 in omega (arith, e, lt))),
  )

  nameless_are : (n : ℕ) → All (IsPrivate program.procs) (replicate n (nameless program))
  nameless_are zero = All-nil (IsPrivate program.procs)
  nameless_are (suc n) = All-cons (IsPrivate program.procs) (nameless program)
      (replicate n (nameless program)) nameless_is (nameless_are n)

  -- its cells are within the limit
  pub flat_lawful : shared_cells program.arrays
      + program.procs
      * (length (flat program).privates + (flat program).loops + program.choices)
      ≤ MAX_CELLS →
      IsProgram (flat program)
  flat_lawful few = record {
    procs = lawful.procs;
    arrays = lawful.arrays;
    privates = All-append (IsPrivate program.procs) program.privates
        (replicate (most_pieces false program program.lines) (nameless program)) lawful.privates
        (nameless_are (most_pieces false program program.lines));
    has_line = let e = first_within 0 lawful.has_line in omega (arith, e);
    lines = all_lawful program.lines lines_lawful;
    cells = few;
  }
