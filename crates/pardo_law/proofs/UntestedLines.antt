-- What is known before each line of a program, and the blocks that are open there.
use Rattle.std.proofs.Common.{◌≡◌, ℕ, zero, suc, ◌+◌, ◌-◌, Bool, true, false}
use Rattle.std.proofs.Common.{List, [], ◌∷◌, ◌++◌, Option, Some, None}
use Rattle.std.proofs.Common.{refl, sym, ap, ◌∙◌, subst, arith, length, length-append, take}
use Rattle.std.specs.Prelude.{drop, slice_get}
use Rattle.std.proofs.Math.Seq.{take-append_seam}
use Rattle.std.proofs.lemmas.Option.{none-some, same_Some}
use Rattle.pardo_program.specs.declared.statement.Line.{Line}
use Rattle.pardo_program.specs.declared.statement.Statement.{Statement}
use Rattle.pardo_program.specs.declared.statement.Statement.TheVariants.{Assign, If, Else, EndIf}
use Rattle.pardo_program.specs.declared.statement.Statement.TheVariants.{While, EndWhile, For}
use Rattle.pardo_program.specs.declared.statement.Statement.TheVariants.{EndFor}
use Rattle.pardo_program.specs.Blocks.{is_choice}
use Rattle.pardo_program.specs.Expression.{Tree, own}
use Rattle.pardo_program.specs.Nested.{Belongs, IsNested, LinesLead, around, loops_of, opened_by}
use Rattle.pardo_program.specs.Program.{ProgramData}
use Rattle.pardo_program.specs.Tests.{Known, known_after, known_of, lines_untested, loop_most}
use Rattle.pardo_program.specs.Tests.{statement_untested}
use Rattle.pardo_flat.specs.Statements.{statement_at}

-- ---- what is known before the line at a place

abbrev pub known_at : Known → List Line → ℕ → Known
known_at known lines zero = known
known_at known [] (suc j) = known
known_at known (line ∷ lines) (suc j) = known_at (known_after known line.statement) lines j

known_next : (known : Known) (lines : List Line) (j : ℕ) (line : Line) →
    slice_get lines j ≡ Some line →
    known_at known lines (suc j) ≡ known_after (known_at known lines j) line.statement
known_next known [] j line is = absurd (none-some line is)
known_next known (first ∷ lines) zero line is =
    ap (λ (l : Line). known_after known l.statement) (same_Some first line is)
known_next known (first ∷ lines) (suc j) line is =
    known_next (known_after known first.statement) lines j line is

known_past : (known : Known) (lines : List Line) (j : ℕ) → slice_get lines j ≡ None →
    known_at known lines (suc j) ≡ known_at known lines j
known_past known [] zero is = refl
known_past known [] (suc j) is = refl
known_past known (first ∷ lines) zero is = absurd (none-some first (sym is))
known_past known (first ∷ lines) (suc j) is =
    known_past (known_after known first.statement) lines j is

-- lines tell of the variables of loops alone
loops_alone : (known : Known) (statement : Statement) →
    known_after known statement ≡ record known { loops = (known_after known statement).loops }
loops_alone known (For nest first last up end) = refl
loops_alone known (EndFor begin) = refl
loops_alone known (Assign target tree) = refl
loops_alone known (If tree) = refl
loops_alone known Else = refl
loops_alone known EndIf = refl
loops_alone known (While tree end) = refl
loops_alone known (EndWhile begin) = refl

pub only_loops : (known : Known) (lines : List Line) (j : ℕ) →
    known_at known lines j ≡ record known { loops = (known_at known lines j).loops }
only_loops known lines zero = refl
only_loops known [] (suc j) = refl
only_loops known (line ∷ lines) (suc j) =
    only_loops (known_after known line.statement) lines j
    ∙ ap (λ (k : Known). record k
    { loops = (known_at (known_after known line.statement) lines j).loops })
    (loops_alone known line.statement)

-- ---- the lines without tests

pub untested_at : (known : Known) (lines : List Line) (j : ℕ) (line : Line) →
    slice_get lines j ≡ Some line → slice_get (lines_untested known lines) j
    ≡ Some (record line { statement = statement_untested (known_at known lines j) line.statement })
untested_at known [] j line is = absurd (none-some line is)
untested_at known (first ∷ lines) zero line is =
    ap (λ (l : Line). Some (record l { statement = statement_untested known l.statement }))
    (same_Some first line is)
untested_at known (first ∷ lines) (suc j) line is =
    untested_at (known_after known first.statement) lines j line is

pub untested_past : (known : Known) (lines : List Line) (j : ℕ) → slice_get lines j ≡ None →
    slice_get (lines_untested known lines) j ≡ None
untested_past known [] j is = refl
untested_past known (first ∷ lines) zero is = absurd (none-some first (sym is))
untested_past known (first ∷ lines) (suc j) is =
    untested_past (known_after known first.statement) lines j is

pub as_many : (known : Known) (lines : List Line) →
    length (lines_untested known lines) ≡ length lines
as_many known [] = refl
as_many known (line ∷ lines) = ap suc (as_many (known_after known line.statement) lines)

-- ---- open blocks; loops by the place of their first line

pub data Open : Type 0 where
  chosen : Open
  other : Open
  turning : ℕ → Open
  counting : ℕ → Open

-- the type of blocks, which has no name here
abbrev pub taken_of : {A B : Type 0} → (A → B) → Type 0
taken_of {A} f = A

abbrev pub Blocks : Type 0
Blocks = taken_of loops_of

abbrev pub blocks_of : List Open → Blocks
blocks_of [] = []
blocks_of (chosen ∷ outer) = opened_by 0 (If own) ++ blocks_of outer
blocks_of (other ∷ outer) = opened_by 0 Else ++ blocks_of outer
blocks_of (turning begin ∷ outer) = opened_by begin (While own 0) ++ blocks_of outer
blocks_of (counting begin ∷ outer) = opened_by begin (For 0 own own true 0) ++ blocks_of outer

-- how many of them are loops `for`
abbrev pub count_of : List Open → ℕ
count_of [] = 0
count_of (chosen ∷ outer) = count_of outer
count_of (other ∷ outer) = count_of outer
count_of (turning begin ∷ outer) = count_of outer
count_of (counting begin ∷ outer) = count_of outer + 1

count_is : (blocks : List Open) → loops_of (blocks_of blocks) ≡ count_of blocks
count_is [] = refl
count_is (chosen ∷ outer) = count_is outer
count_is (other ∷ outer) = count_is outer
count_is (turning begin ∷ outer) = count_is outer
count_is (counting begin ∷ outer) = ap (λ n. n + 1) (count_is outer)

abbrev pub new_at : ℕ → Statement → List Open
new_at at (If tree) = chosen ∷ []
new_at at Else = other ∷ []
new_at at (While tree end) = turning at ∷ []
new_at at (For nest first last up end) = counting at ∷ []
new_at at statement = []

abbrev pub left_by : Statement → List Open → List Open
left_by Else blocks = drop 1 blocks
left_by EndIf blocks = drop 1 blocks
left_by (EndWhile begin) blocks = drop 1 blocks
left_by (EndFor begin) blocks = drop 1 blocks
left_by statement blocks = blocks

-- the blocks that are open after a line at a place
abbrev pub open_after : ℕ → Statement → List Open → List Open
open_after at statement blocks = new_at at statement ++ left_by statement blocks

drop_blocks : (blocks : List Open) → drop 1 (blocks_of blocks) ≡ blocks_of (drop 1 blocks)
drop_blocks [] = refl
drop_blocks (chosen ∷ outer) = refl
drop_blocks (other ∷ outer) = refl
drop_blocks (turning begin ∷ outer) = refl
drop_blocks (counting begin ∷ outer) = refl

blocks_after : (at : ℕ) (statement : Statement) (blocks : List Open) →
    opened_by at statement ++ around statement (blocks_of blocks)
    ≡ blocks_of (open_after at statement blocks)
blocks_after at Else blocks = ap (λ (b : Blocks). opened_by at Else ++ b) (drop_blocks blocks)
blocks_after at EndIf blocks = drop_blocks blocks
blocks_after at (EndWhile begin) blocks = drop_blocks blocks
blocks_after at (EndFor begin) blocks = drop_blocks blocks
blocks_after at (Assign target tree) blocks = refl
blocks_after at (If tree) blocks = refl
blocks_after at (While tree end) blocks = refl
blocks_after at (For nest first last up end) blocks = refl

-- ---- the blocks that are open before the line at a place

abbrev pub open_from : ℕ → List Open → List Line → ℕ → List Open
open_from at blocks lines zero = blocks
open_from at blocks [] (suc j) = blocks
open_from at blocks (line ∷ lines) (suc j) =
    open_from (at + 1) (open_after at line.statement blocks) lines j

from_next : (at : ℕ) (blocks : List Open) (lines : List Line) (j : ℕ) (line : Line) →
    slice_get lines j ≡ Some line → open_from at blocks lines (suc j)
    ≡ open_after (at + j) line.statement (open_from at blocks lines j)
from_next at blocks [] j line is = absurd (none-some line is)
from_next at blocks (first ∷ lines) zero line is =
    ap (λ (l : Line). open_after at l.statement blocks) (same_Some first line is)
    ∙ ap (λ n. open_after n line.statement blocks) (let e : at ≡ at + zero = omega arith in e)
from_next at blocks (first ∷ lines) (suc j) line is =
    from_next (at + 1) (open_after at first.statement blocks) lines j line is
    ∙ ap (λ n. open_after n line.statement
    (open_from (at + 1) (open_after at first.statement blocks) lines j))
    (let e : at + 1 + j ≡ at + suc j = omega arith in e)

from_past : (at : ℕ) (blocks : List Open) (lines : List Line) (j : ℕ) →
    slice_get lines j ≡ None → open_from at blocks lines (suc j) ≡ open_from at blocks lines j
from_past at blocks [] zero is = refl
from_past at blocks [] (suc j) is = refl
from_past at blocks (first ∷ lines) zero is = absurd (none-some first (sym is))
from_past at blocks (first ∷ lines) (suc j) is =
    from_past (at + 1) (open_after at first.statement blocks) lines j is

from_belongs : (at : ℕ) (blocks : List Open) (lines : List Line) (j : ℕ) (line : Line) →
    LinesLead at (blocks_of blocks) lines [] → slice_get lines j ≡ Some line →
    Belongs (blocks_of (open_from at blocks lines j)) line.statement
from_belongs at blocks [] j line lead is = absurd (none-some line is)
from_belongs at blocks (first ∷ lines) zero line lead is =
    subst (λ (l : Line). Belongs (blocks_of blocks) l.statement) (same_Some first line is) lead.0.0
from_belongs at blocks (first ∷ lines) (suc j) line lead is =
    from_belongs (at + 1) (open_after at first.statement blocks) lines j line
    (subst (λ (b : Blocks). LinesLead (at + 1) b lines [])
    (blocks_after at first.statement blocks) lead.1) is

-- ---- which block a line may close

first_choice : Blocks → Bool
first_choice [] = true
first_choice (block ∷ blocks) = is_choice block

pub closes_for : (blocks : List Open) (begin : ℕ) → Belongs (blocks_of blocks) (EndFor begin) →
    (outer : List Open) × (blocks ≡ counting begin ∷ outer)
closes_for [] begin is = absurd (let no = is.1 in cc)
closes_for (chosen ∷ outer) begin is = absurd (let no = is.1 in cc)
closes_for (other ∷ outer) begin is = absurd (let no = is.1 in cc)
closes_for (turning first ∷ outer) begin is = absurd (let no = is.1 in cc)
closes_for (counting first ∷ outer) begin is =
    (outer, ap (λ n. counting n ∷ outer) (let said = is.1 in let e : first ≡ begin = cc in e))

pub closes_while : (blocks : List Open) (begin : ℕ) → Belongs (blocks_of blocks) (EndWhile begin) →
    (outer : List Open) × (blocks ≡ turning begin ∷ outer)
closes_while [] begin is = absurd (let no = is.1 in cc)
closes_while (chosen ∷ outer) begin is = absurd (let no = is.1 in cc)
closes_while (other ∷ outer) begin is = absurd (let no = is.1 in cc)
closes_while (counting first ∷ outer) begin is = absurd (let no = is.1 in cc)
closes_while (turning first ∷ outer) begin is =
    (outer, ap (λ n. turning n ∷ outer) (let said = is.1 in let e : first ≡ begin = cc in e))

-- ---- what holds of each open block, and the blocks around it

abbrev pub Each : (Open → List Open → Type 0) → List Open → Type 0
Each Q [] = Unit {0}
Each Q (block ∷ outer) = Q block outer × Each Q outer

each_drop : (Q : Open → List Open → Type 0) (blocks : List Open) → Each Q blocks →
    Each Q (drop 1 blocks)
each_drop Q [] are = tt
each_drop Q (block ∷ outer) are = are.1

each_left : (Q : Open → List Open → Type 0) (statement : Statement) (blocks : List Open) →
    Each Q blocks → Each Q (left_by statement blocks)
each_left Q Else blocks are = each_drop Q blocks are
each_left Q EndIf blocks are = each_drop Q blocks are
each_left Q (EndWhile begin) blocks are = each_drop Q blocks are
each_left Q (EndFor begin) blocks are = each_drop Q blocks are
each_left Q (Assign target tree) blocks are = are
each_left Q (If tree) blocks are = are
each_left Q (While tree end) blocks are = are
each_left Q (For nest first last up end) blocks are = are

-- it holds of the block that a line opens
abbrev pub Opens : (Open → List Open → Type 0) → ℕ → Statement → List Open → Type 0
Opens Q at (If tree) outer = Q chosen outer
Opens Q at Else outer = Q other outer
Opens Q at (While tree end) outer = Q (turning at) outer
Opens Q at (For nest first last up end) outer = Q (counting at) outer
Opens Q at statement outer = Unit {0}

each_new : (Q : Open → List Open → Type 0) (at : ℕ) (statement : Statement)
    (outer : List Open) → Each Q outer → Opens Q at statement outer →
    Each Q (new_at at statement ++ outer)
each_new Q at (If tree) outer are new = (new, are)
each_new Q at Else outer are new = (new, are)
each_new Q at (While tree end) outer are new = (new, are)
each_new Q at (For nest first last up end) outer are new = (new, are)
each_new Q at (Assign target tree) outer are new = are
each_new Q at EndIf outer are new = are
each_new Q at (EndWhile begin) outer are new = are
each_new Q at (EndFor begin) outer are new = are

pub each_after : (Q : Open → List Open → Type 0) (at : ℕ) (statement : Statement)
    (blocks : List Open) → Each Q blocks → Opens Q at statement (left_by statement blocks) →
    Each Q (open_after at statement blocks)
each_after Q at statement blocks are new =
    each_new Q at statement (left_by statement blocks) (each_left Q statement blocks are) new

-- ---- one program

-- what the variable of a loop is at most, by its first line
abbrev pub most_of : Statement → ℕ
most_of (For nest first last up end) = loop_most up first last
most_of statement = 0

module _ (program : ProgramData) where
  abbrev pub open_at : ℕ → List Open
  open_at j = open_from 0 [] program.lines j

  pub line_at : (j : ℕ) (line : Line) → slice_get program.lines j ≡ Some line →
      statement_at program j ≡ line.statement
  line_at j line is = ap (λ (o : Option Line). elim o as (λ (x : Option Line). Statement) [
    | None ↦ EndIf
    | Some l ↦ l.statement
  ]) is

  open_suc : (j : ℕ) (line : Line) → slice_get program.lines j ≡ Some line →
      open_at (suc j) ≡ open_after j line.statement (open_at j)
  open_suc j line is = from_next 0 [] program.lines j line is
      ∙ ap (λ n. open_after n line.statement (open_at j))
      (let e : 0 + j ≡ j = omega arith in e)

  pub open_next : (j : ℕ) (line : Line) → slice_get program.lines j ≡ Some line →
      open_at (j + 1) ≡ open_after j line.statement (open_at j)
  open_next j line is =
      ap open_at (let e : j + 1 ≡ suc j = omega arith in e) ∙ open_suc j line is

  pub belongs_at : IsNested program.lines → (j : ℕ) (line : Line) →
      slice_get program.lines j ≡ Some line → Belongs (blocks_of (open_at j)) line.statement
  belongs_at nested j line is = from_belongs 0 [] program.lines j line nested.0 is

  -- the depth of a loop is how many loops are open before it
  pub nest_is : IsNested program.lines → (j nest end : ℕ) (line : Line) (first last : Tree)
      (up : Bool) → slice_get program.lines j ≡ Some line →
      line.statement ≡ For nest first last up end → nest ≡ count_of (open_at j)
  nest_is nested j nest end line first last up is e =
      let belongs : Belongs (blocks_of (open_at j)) (For nest first last up end) =
      subst (Belongs (blocks_of (open_at j))) e (belongs_at nested j line is) in
      belongs ∙ count_is (open_at j)

  -- ---- around an open loop stand the blocks that were open before its first line

  abbrev pub StandsAround : Open → List Open → Type 0
  StandsAround (turning begin) outer = outer ≡ open_at begin
  StandsAround (counting begin) outer = outer ≡ open_at begin
  StandsAround block outer = Unit {0}

  stands_new : (j : ℕ) (statement : Statement) →
      Opens StandsAround j statement (left_by statement (open_at j))
  stands_new j (While tree end) = refl
  stands_new j (For nest first last up end) = refl
  stands_new j (If tree) = tt
  stands_new j Else = tt
  stands_new j (Assign target tree) = tt
  stands_new j EndIf = tt
  stands_new j (EndWhile begin) = tt
  stands_new j (EndFor begin) = tt

  pub stand_around : (j : ℕ) → Each StandsAround (open_at j)
  stand_around zero = tt
  stand_around (suc j) = by_line (stand_around j) (slice_get program.lines j) refl
    where
      by_line : Each StandsAround (open_at j) → (o : Option Line) →
          slice_get program.lines j ≡ o → Each StandsAround (open_at (suc j))
      by_line before None is =
          subst (Each StandsAround) (sym (from_past 0 [] program.lines j is)) before
      by_line before (Some line) is = subst (Each StandsAround) (sym (open_suc j line is))
          (each_after StandsAround j line.statement (open_at j) before
          (stands_new j line.statement))

  -- ---- what is known of the variables of open loops

  abbrev pub mosts : List Open → List ℕ
  mosts [] = []
  mosts (counting begin ∷ outer) = mosts outer ++ most_of (statement_at program begin) ∷ []
  mosts (turning begin ∷ outer) = mosts outer
  mosts (chosen ∷ outer) = mosts outer
  mosts (other ∷ outer) = mosts outer

  pub mosts_long : (blocks : List Open) → length (mosts blocks) ≡ count_of blocks
  mosts_long [] = refl
  mosts_long (counting begin ∷ outer) =
      length-append (mosts outer) (most_of (statement_at program begin) ∷ [])
      ∙ ap (λ n. n + 1) (mosts_long outer)
  mosts_long (turning begin ∷ outer) = mosts_long outer
  mosts_long (chosen ∷ outer) = mosts_long outer
  mosts_long (other ∷ outer) = mosts_long outer

  -- of a part of an `if` nothing is known
  choice_closed : (blocks : List Open) → Belongs (blocks_of blocks) EndIf →
      mosts blocks ≡ mosts (drop 1 blocks)
  unfolding first_choice
  choice_closed [] is = refl
  choice_closed (chosen ∷ outer) is = refl
  choice_closed (other ∷ outer) is = refl
  choice_closed (turning begin ∷ outer) is = refl
  choice_closed (counting begin ∷ outer) is =
      absurd (let no : false ≡ true = ap first_choice is.2 ∙ is.3 in cc)

  part_closed : (blocks : List Open) → Belongs (blocks_of blocks) Else →
      mosts blocks ≡ mosts (drop 1 blocks)
  part_closed [] is = refl
  part_closed (chosen ∷ outer) is = refl
  part_closed (other ∷ outer) is = refl
  part_closed (turning begin ∷ outer) is = refl
  part_closed (counting begin ∷ outer) is = absurd (let no = is.1 in cc)

  without_last : (xs : List ℕ) (m : ℕ) → take (length (xs ++ m ∷ []) - 1) (xs ++ m ∷ []) ≡ xs
  without_last xs m =
      ap (λ n. take n (xs ++ m ∷ []))
      (let long = length-append xs (m ∷ []) in
      let e : length (xs ++ m ∷ []) - 1 ≡ length xs = omega (arith, long) in e)
      ∙ take-append_seam xs (m ∷ [])

  mosts_next : (known : Known) (blocks : List Open) (j : ℕ) (statement : Statement) →
      known.loops ≡ mosts blocks → Belongs (blocks_of blocks) statement →
      statement_at program j ≡ statement →
      (known_after known statement).loops ≡ mosts (open_after j statement blocks)
  mosts_next known blocks j (Assign target tree) e belongs is = e
  mosts_next known blocks j (If tree) e belongs is = e
  mosts_next known blocks j (While tree end) e belongs is = e
  mosts_next known blocks j Else e belongs is = e ∙ part_closed blocks belongs
  mosts_next known blocks j EndIf e belongs is = e ∙ choice_closed blocks belongs
  mosts_next known blocks j (EndWhile begin) e belongs is =
      let closed = closes_while blocks begin belongs in
      e ∙ ap mosts closed.1 ∙ sym (ap (λ (o : List Open). mosts (drop 1 o)) closed.1)
  mosts_next known blocks j (For nest first last up end) e belongs is =
      ap (λ (l : List ℕ). l ++ loop_most up first last ∷ []) e
      ∙ ap (λ (s : Statement). mosts blocks ++ most_of s ∷ []) (sym is)
  mosts_next known blocks j (EndFor begin) e belongs is =
      let closed = closes_for blocks begin belongs in
      ap (λ (l : List ℕ). take (length l - 1) l) (e ∙ ap mosts closed.1)
      ∙ without_last (mosts closed.0) (most_of (statement_at program begin))
      ∙ sym (ap (λ (o : List Open). mosts (drop 1 o)) closed.1)

  pub known_loops : IsNested program.lines → (j : ℕ) →
      (known_at (known_of program) program.lines j).loops ≡ mosts (open_at j)
  known_loops nested zero = refl
  known_loops nested (suc j) = by_line (known_loops nested j) (slice_get program.lines j) refl
    where
      by_line : (known_at (known_of program) program.lines j).loops ≡ mosts (open_at j) →
          (o : Option Line) → slice_get program.lines j ≡ o →
          (known_at (known_of program) program.lines (suc j)).loops ≡ mosts (open_at (suc j))
      by_line before None is =
          ap (λ (k : Known). k.loops) (known_past (known_of program) program.lines j is)
          ∙ before
          ∙ sym (ap mosts (from_past 0 [] program.lines j is))
      by_line before (Some line) is =
          ap (λ (k : Known). k.loops) (known_next (known_of program) program.lines j line is)
          ∙ mosts_next (known_at (known_of program) program.lines j) (open_at j) j line.statement
          before (belongs_at nested j line is) (line_at j line is)
          ∙ sym (ap mosts (open_suc j line is))
