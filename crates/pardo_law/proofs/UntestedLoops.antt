-- The variables of open loops are at most what is known of them.
use Rattle.std.proofs.Common.{◌≡◌, ◌≢◌, ℕ, zero, suc, ◌+◌, ◌-◌, ◌^◌, ◌<◌, ◌≤◌, ◌==◌, Bool}
use Rattle.std.proofs.Common.{true, false, List, [], ◌∷◌, Option, Some, None, refl, sym, ap}
use Rattle.std.proofs.Common.{◌∙◌, subst, ⊎_elim, arith, if◌then◌else◌, length, unwrap_or}
use Rattle.std.specs.Prelude.{drop, slice_get}
use Rattle.std.proofs.lemmas.Bool.{cases_lt, eq-eqb, eqb-false, ltb-false, ne_eqb}
use Rattle.std.proofs.lemmas.Option.{none-some, same_Some, slice_get_within}
use Rattle.pardo_program.specs.declared.statement.Line.{Line}
use Rattle.pardo_program.specs.declared.statement.Statement.{Statement}
use Rattle.pardo_program.specs.declared.statement.Statement.TheVariants.{Assign, If, Else, EndIf}
use Rattle.pardo_program.specs.declared.statement.Statement.TheVariants.{While, EndWhile, For}
use Rattle.pardo_program.specs.declared.statement.Statement.TheVariants.{EndFor}
use Rattle.pardo_program.specs.declared.statement.Target.TheVariants.{Private, Array as Shared}
use Rattle.pardo_program.specs.Expression.{Tree, number, own, loop, private, place, apply}
use Rattle.pardo_program.specs.Folding.{constant_of}
use Rattle.pardo_program.specs.Lawful.{IsLine, IsProgram, IsStatement, bounds_of}
use Rattle.pardo_program.specs.Nested.{Belongs, IsNested, loop_begin, loop_end_told, said_by}
use Rattle.pardo_program.specs.Operations.{operation_value}
use Rattle.pardo_program.specs.Program.{ProgramData}
use Rattle.pardo_program.specs.Tests.{Known, known_of, loop_most, without_tests}
use Rattle.pardo_program.specs.Operations.{greatest_value}
use Rattle.pardo_flat.specs.Statements.{statement_at}
use Rattle.pardo_flat.proofs.FlatLines.{all_at, get_back, get_front}
use Rattle.pardo_job.specs.Meaning.{Source, abandoned, after, after_statement, by_common}
use Rattle.pardo_job.specs.Meaning.{common_value, has_none, loop_ended, next, next_turn, on_to}
use Rattle.pardo_job.specs.Meaning.{loop_turned, value}
use Rattle.pardo_job.proofs.Meanings.{next_at}
use Rattle.pardo_job.proofs.Untested.{left_out_tests_pass}
use Rattle.pardo_law.proofs.UntestedLines.{Each, Open, Opens, StandsAround, belongs_at, blocks_of}
use Rattle.pardo_law.proofs.UntestedLines.{chosen, closes_for, closes_while, count_of, counting}
use Rattle.pardo_law.proofs.UntestedLines.{each_after, known_at, known_loops, left_by, line_at}
use Rattle.pardo_law.proofs.UntestedLines.{most_of, mosts, mosts_long, nest_is, only_loops}
use Rattle.pardo_law.proofs.UntestedLines.{open_after, open_at, open_next, other, stand_around}
use Rattle.pardo_law.proofs.UntestedLines.{turning}
use Rattle.pardo_law.proofs.UntestedValues.{IsFit, IsSmall, common_small, fit_after, fit_start}
use Rattle.pardo_law.proofs.UntestedValues.{wide_at}

-- ---- the variable of a loop

-- one that counts down to a number is never less
abbrev IsAbove : Bool → Tree → ℕ → Type 0
IsAbove false (number k) v = k ≤ v
IsAbove up last v = Unit {0}

abbrev IsHeld : Bool → Tree → Tree → ℕ → Type 0
IsHeld up first last v = (v ≤ loop_most up first last) × IsAbove up last v

abbrev IsWithin : Statement → ℕ → Type 0
IsWithin (For nest first last up end) v = IsHeld up first last v
IsWithin statement v = ⊥

within_most : (statement : Statement) (v : ℕ) → IsWithin statement v → v ≤ most_of statement
within_most (For nest first last up end) v is = is.0
within_most (Assign target tree) v is = absurd is
within_most (If tree) v is = absurd is
within_most Else v is = absurd is
within_most EndIf v is = absurd is
within_most (While tree end) v is = absurd is
within_most (EndWhile begin) v is = absurd is
within_most (EndFor begin) v is = absurd is

module _ (program : ProgramData) (source : Source) where
  abbrev Has : Tree → ℕ → Type 0
  Has tree v = common_value program source tree ≡ Some v

  -- ---- its first value

  up_starts : (first last : Tree) (a b : ℕ) → a < 2 ^ 32 → Has last b → a ≤ b →
      IsHeld true first last a
  up_starts first (number k) a b few e le =
      (let same = same_Some k b e in omega (arith, same, le), tt)
  up_starts first own a b few e le = (omega (arith, few), tt)
  up_starts first (loop nest) a b few e le = (omega (arith, few), tt)
  up_starts first (private x) a b few e le = (omega (arith, few), tt)
  up_starts first (place array index) a b few e le = (omega (arith, few), tt)
  up_starts first (apply op one two) a b few e le = (omega (arith, few), tt)

  first_most : (first : Tree) (a : ℕ) → a < 2 ^ 32 → Has first a →
      a ≤ unwrap_or (constant_of first) greatest_value
  first_most (number k) a few e = let same = same_Some k a e in omega (arith, same)
  first_most own a few e = omega (arith, few)
  first_most (loop nest) a few e = omega (arith, few)
  first_most (private x) a few e = omega (arith, few)
  first_most (place array index) a few e = omega (arith, few)
  first_most (apply op one two) a few e = omega (arith, few)

  down_starts : (first last : Tree) (a b : ℕ) → a < 2 ^ 32 → Has first a → Has last b → b ≤ a →
      IsHeld false first last a
  down_starts first (number k) a b few is e le =
      (first_most first a few is, let same = same_Some k b e in omega (arith, same, le))
  down_starts first own a b few is e le = (omega (arith, few), tt)
  down_starts first (loop nest) a b few is e le = (omega (arith, few), tt)
  down_starts first (private x) a b few is e le = (omega (arith, few), tt)
  down_starts first (place array index) a b few is e le = (omega (arith, few), tt)
  down_starts first (apply op one two) a b few is e le = (omega (arith, few), tt)

  starts : (up : Bool) (first last : Tree) (a b : ℕ) → a < 2 ^ 32 → Has first a → Has last b →
      has_none up a b ≡ false → IsHeld up first last a
  starts true first last a b few is e some =
      up_starts first last a b few e (ltb-false b a some)
  starts false first last a b few is e some =
      down_starts first last a b few is e (ltb-false a b some)

  -- ---- its next value

  up_few : (v : ℕ) → next_turn true v < 2 ^ 32
  unfolding operation_value
  up_few v = omega arith

  down_few : (v : ℕ) → next_turn false v < 2 ^ 32
  unfolding operation_value
  down_few v = omega arith

  up_more : (v k : ℕ) → v ≤ k → v ≢ k → next_turn true v ≤ k
  unfolding operation_value
  up_more v k le ne = omega arith

  down_less : (v k : ℕ) → v < 2 ^ 32 → k ≤ v → v ≢ k →
      (next_turn false v ≤ v) × (k ≤ next_turn false v)
  unfolding operation_value
  down_less v k few le ne = (omega arith, omega arith)

  up_turns : (first last : Tree) (v b : ℕ) → IsHeld true first last v → Has last b → v ≢ b →
      IsHeld true first last (next_turn true v)
  up_turns first (number k) v b is e ne =
      (up_more v k is.0 (λ same. ne (same ∙ same_Some k b e)), tt)
  up_turns first own v b is e ne = (let few = up_few v in omega (arith, few), tt)
  up_turns first (loop nest) v b is e ne = (let few = up_few v in omega (arith, few), tt)
  up_turns first (private x) v b is e ne = (let few = up_few v in omega (arith, few), tt)
  up_turns first (place array index) v b is e ne =
      (let few = up_few v in omega (arith, few), tt)
  up_turns first (apply op one two) v b is e ne =
      (let few = up_few v in omega (arith, few), tt)

  down_turns : (first last : Tree) (v b : ℕ) → v < 2 ^ 32 → IsHeld false first last v →
      Has last b → v ≢ b → IsHeld false first last (next_turn false v)
  down_turns first (number k) v b few is e ne =
      let less = down_less v k few is.1 (λ same. ne (same ∙ same_Some k b e)) in
      (let le = is.0 in omega (arith, le, less.0), less.1)
  down_turns first own v b few is e ne = (let low = down_few v in omega (arith, low), tt)
  down_turns first (loop nest) v b few is e ne = (let low = down_few v in omega (arith, low), tt)
  down_turns first (private x) v b few is e ne = (let low = down_few v in omega (arith, low), tt)
  down_turns first (place array index) v b few is e ne =
      (let low = down_few v in omega (arith, low), tt)
  down_turns first (apply op one two) v b few is e ne =
      (let low = down_few v in omega (arith, low), tt)

  turns : (up : Bool) (first last : Tree) (v b : ℕ) → v < 2 ^ 32 → IsHeld up first last v →
      Has last b → v ≢ b → IsHeld up first last (next_turn up v)
  turns true first last v b few is e ne = up_turns first last v b is e ne
  turns false first last v b few is e ne = down_turns first last v b few is e ne

-- ---- all open loops

other_loop : (loops : ℕ → ℕ) (m v n : ℕ) → n < m → (if n == m then v else loops n) ≡ loops n
other_loop loops m v n lt = ap (λ b. if b then v else loops n)
    (ne_eqb n m (λ same. omega (arith, lt, same)))

this_loop : (loops : ℕ → ℕ) (m v n : ℕ) → m ≡ n → v ≡ (if n == m then v else loops n)
this_loop loops m v n e = sym (ap (λ b. if b then v else loops n) (eq-eqb n m (sym e)))

module _ (program : ProgramData) where
  abbrev Within : (ℕ → ℕ) → Open → List Open → Type 0
  Within loops (counting begin) outer =
      IsWithin (statement_at program begin) (loops (count_of outer))
  Within loops block outer = Unit {0}

  abbrev AreWithin : (ℕ → ℕ) → List Open → Type 0
  AreWithin loops blocks = Each (Within loops) blocks

  -- the variable of a loop that is not open takes a value
  set_within : (loops : ℕ → ℕ) (m v : ℕ) (blocks : List Open) → count_of blocks ≤ m →
      AreWithin loops blocks → AreWithin (λ n. if n == m then v else loops n) blocks
  set_within loops m v [] few are = tt
  set_within loops m v (counting begin ∷ outer) few are = (
    subst (IsWithin (statement_at program begin))
        (sym (other_loop loops m v (count_of outer) (omega (arith, few)))) are.0,
    set_within loops m v outer (omega (arith, few)) are.1,
  )
  set_within loops m v (chosen ∷ outer) few are = (tt, set_within loops m v outer few are.1)
  set_within loops m v (other ∷ outer) few are = (tt, set_within loops m v outer few are.1)
  set_within loops m v (turning begin ∷ outer) few are =
      (tt, set_within loops m v outer few are.1)

  within_known : (loops : ℕ → ℕ) (blocks : List Open) → AreWithin loops blocks → (nest most : ℕ) →
      slice_get (mosts program blocks) nest ≡ Some most → loops nest ≤ most
  within_known loops [] are nest most e = absurd (none-some most e)
  within_known loops (chosen ∷ outer) are nest most e =
      within_known loops outer are.1 nest most e
  within_known loops (other ∷ outer) are nest most e =
      within_known loops outer are.1 nest most e
  within_known loops (turning begin ∷ outer) are nest most e =
      within_known loops outer are.1 nest most e
  within_known loops (counting begin ∷ outer) are nest most e =
      let before = mosts program outer in
      let this = most_of (statement_at program begin) in
      let long = mosts_long program outer in
      ⊎_elim
      (λ (low : nest < length before). within_known loops outer are.1 nest most
      (sym (get_front before (this ∷ []) nest low) ∙ e))
      (λ (high : length before ≤ nest).
      let k : ℕ = nest - length before in
      let there : slice_get (this ∷ []) k ≡ Some most =
      sym (get_back before (this ∷ []) nest k (omega (arith, high))) ∙ e in
      let short = slice_get_within (this ∷ []) k most there in
      let none : k ≡ 0 = omega (arith, short) in
      let same : this ≡ most =
      same_Some this most (sym (ap (slice_get (this ∷ [])) none) ∙ there) in
      let here : count_of outer ≡ nest = omega (arith, high, long, none) in
      let le : loops (count_of outer) ≤ this =
      within_most (statement_at program begin) (loops (count_of outer)) are.0 in
      subst (λ n. loops n ≤ most) here (omega (arith, le, same)))
      (cases_lt nest (length before))

-- ---- a run

said_line : (says : Statement → Option ℕ) (o : Option Line) (k : ℕ) → said_by says o ≡ Some k →
    (line : Line) × (o ≡ Some line) × (says line.statement ≡ Some k)
said_line says None k e = absurd (none-some k e)
said_line says (Some line) k e = (line, refl, e)

-- no line is next
pub next_none : (program : ProgramData) (source : Source) →
    slice_get program.lines source.at ≡ None → next program source ≡ source
unfolding next
next_none program source e = ap (λ (o : Option Line). elim o as (λ (x : Option Line). Source) [
  | None ↦ source
  | Some line ↦ after_statement program line.number line.depth line.statement source
]) e

module _ (program : ProgramData) (lawful : IsProgram program)
    (nested : IsNested program.lines) where
  abbrev open_here : ℕ → List Open
  open_here j = open_at program j

  -- the outer blocks are those before the first line of the loop that is closed
  record Closes (j begin : ℕ) (block : Open) : Type 0 where
    outer : List Open
    is : open_here j ≡ block ∷ outer
    around : outer ≡ open_here begin

  closing_while : (j begin : ℕ) (line : Line) → slice_get program.lines j ≡ Some line →
      line.statement ≡ EndWhile begin → Closes j begin (turning begin)
  closing_while j begin line is e =
      let closed = closes_while (open_here j) begin
      (subst (Belongs (blocks_of (open_here j))) e (belongs_at program nested j line is)) in
      record {
        outer = closed.0;
        is = closed.1;
        around = (subst (Each (StandsAround program)) closed.1 (stand_around program j)).0;
      }

  closing_for : (j begin : ℕ) (line : Line) → slice_get program.lines j ≡ Some line →
      line.statement ≡ EndFor begin → Closes j begin (counting begin)
  closing_for j begin line is e =
      let closed = closes_for (open_here j) begin
      (subst (Belongs (blocks_of (open_here j))) e (belongs_at program nested j line is)) in
      record {
        outer = closed.0;
        is = closed.1;
        around = (subst (Each (StandsAround program)) closed.1 (stand_around program j)).0;
      }

  after_here : (j : ℕ) (line : Line) (statement : Statement) →
      slice_get program.lines j ≡ Some line → line.statement ≡ statement →
      open_here (j + 1) ≡ open_after j statement (open_here j)
  after_here j line statement is e =
      open_next program j line is ∙ ap (λ (s : Statement). open_after j s (open_here j)) e

  -- after the end of a loop those blocks are open that were open before it
  left_open : (j begin : ℕ) (block : Open) (c : Closes j begin block) →
      drop 1 (open_here j) ≡ open_here begin
  left_open j begin block c = ap (λ (o : List Open). drop 1 o) c.is ∙ c.around

  ended : (j begin : ℕ) (line : Line) (statement : Statement) →
      slice_get program.lines j ≡ Some line → line.statement ≡ statement →
      loop_begin statement ≡ Some begin → open_here (j + 1) ≡ open_here begin
  ended j begin line (EndWhile first) is e says =
      after_here j line (EndWhile first) is e
      ∙ left_open j first (turning first) (closing_while j first line is e)
      ∙ ap open_here (same_Some first begin says)
  ended j begin line (EndFor first) is e says =
      after_here j line (EndFor first) is e
      ∙ left_open j first (counting first) (closing_for j first line is e)
      ∙ ap open_here (same_Some first begin says)
  ended j begin line (Assign target tree) is e says = absurd (none-some begin says)
  ended j begin line (If tree) is e says = absurd (none-some begin says)
  ended j begin line Else is e says = absurd (none-some begin says)
  ended j begin line EndIf is e says = absurd (none-some begin says)
  ended j begin line (While tree end) is e says = absurd (none-some begin says)
  ended j begin line (For nest first last up end) is e says = absurd (none-some begin says)

  -- so it is where the loop has no turn
  passed : (j end : ℕ) (line : Line) → slice_get program.lines j ≡ Some line →
      loop_end_told line.statement ≡ Some end → open_here (end + 1) ≡ open_here j
  passed j end line is says =
      let tied = nested.2 j end (ap (said_by loop_end_told) is ∙ says) in
      let last = said_line loop_begin (slice_get program.lines end) j tied in
      ended end j last.0 last.0.statement last.1 refl last.2

  -- ---- what holds before a line

  abbrev Held : Source → Type 0
  Held source = (line : Line) → slice_get program.lines source.at ≡ Some line →
      AreWithin program source.loops (open_here source.at)

  pub record IsSound (source : Source) : Type 0 where
    pub fit : IsFit program lawful source
    pub held : Held source

  held_if : (t : Bool) (one two : Source) → Held one → Held two → Held (if t then one else two)
  held_if true one two first second = first
  held_if false one two first second = second

  held_end : (text_line : ℕ) (source : Source) → Held (abandoned program text_line source)
  held_end text_line source line is =
      absurd (let lt = slice_get_within program.lines (length program.lines) line is in
      omega (arith, lt))

  module _ (source : Source) (sound : IsSound source) (line : Line)
      (is : slice_get program.lines source.at ≡ Some line) (text_line depth : ℕ) where
    abbrev here : AreWithin program source.loops (open_here source.at)
    here = sound.held line is

    -- at the next line, if the loops stay
    goes_on : (statement : Statement) → line.statement ≡ statement →
        Opens (Within program source.loops) source.at statement
        (left_by statement (open_here source.at)) →
        AreWithin program source.loops (open_here (source.at + 1))
    goes_on statement e new = subst (AreWithin program source.loops)
        (sym (after_here source.at line statement is e))
        (each_after (Within program source.loops) source.at statement (open_here source.at) here
        new)

    -- after a loop
    passes : (statement : Statement) (end : ℕ) → line.statement ≡ statement →
        loop_end_told statement ≡ Some end →
        AreWithin program source.loops (open_here (end + 1))
    passes statement end e says = subst (AreWithin program source.loops)
        (sym (passed source.at end line is (ap loop_end_told e ∙ says))) here

    -- the blocks around a loop that ends here
    around_here : (begin : ℕ) (block : Open) → Closes source.at begin block →
        AreWithin program source.loops (open_here begin)
    around_here begin block c = subst (AreWithin program source.loops) c.around
        (subst (AreWithin program source.loops) c.is here).1

    while_held : (tree : Tree) (end : ℕ) → line.statement ≡ While tree end →
        Held (after_statement program text_line depth (While tree end) source)
    while_held tree end e = by_value (common_value program source tree)
      where
        by_value : (o : Option ℕ) → Held (by_common program text_line source o (λ v.
            if v == 0 then on_to (end + 1) source else on_to (source.at + 1) source))
        by_value None = held_end text_line source
        by_value (Some v) = held_if (v == 0) (on_to (end + 1) source)
            (on_to (source.at + 1) source)
            (λ next there. passes (While tree end) end e refl)
            (λ next there. goes_on (While tree end) e tt)

    -- a loop begins
    turned_held : (nest a b end : ℕ) (first last : Tree) (up : Bool) →
        line.statement ≡ For nest first last up end → IsHeld up first last a →
        AreWithin program (loop_turned nest a source).loops (open_here (source.at + 1))
    turned_held nest a b end first last up e held =
        let count : nest ≡ count_of (open_here source.at) =
        nest_is program nested source.at nest end line first last up is e in
        subst (AreWithin program (loop_turned nest a source).loops)
        (sym (after_here source.at line (For nest first last up end) is e)) (
          subst (λ s. IsWithin s ((loop_turned nest a source).loops (count_of (open_here source.at))))
              (sym (line_at program source.at line is ∙ e))
              (subst (IsHeld up first last)
              (this_loop source.loops nest a (count_of (open_here source.at)) count) held),
          set_within program source.loops nest a (open_here source.at) (omega (arith, count)) here,
        )

    for_held : (nest end : ℕ) (first last : Tree) (up : Bool) →
        line.statement ≡ For nest first last up end →
        IsStatement (bounds_of program) (For nest first last up end) →
        Held (after_statement program text_line depth (For nest first last up end) source)
    for_held nest end first last up e lawfully =
        by_first (common_value program source first) refl
        (common_small program lawful source sound.fit first lawfully.1.0)
      where
        by_test : (t : Bool) (a b : ℕ) → has_none up a b ≡ t → a < 2 ^ 32 →
            common_value program source first ≡ Some a →
            common_value program source last ≡ Some b →
            Held (if t then on_to (end + 1) source
            else on_to (source.at + 1) (loop_turned nest a source))
        by_test true a b none few f g =
            λ next there. passes (For nest first last up end) end e refl
        by_test false a b some few f g = λ next there. turned_held nest a b end first last up e
            (starts program source up first last a b few f g some)

        by_last : (a : ℕ) → a < 2 ^ 32 → common_value program source first ≡ Some a →
            (o : Option ℕ) → common_value program source last ≡ o →
            Held (by_common program text_line source o (λ b.
            if has_none up a b then on_to (end + 1) source
            else on_to (source.at + 1) (loop_turned nest a source)))
        by_last a few f None g = held_end text_line source
        by_last a few f (Some b) g = by_test (has_none up a b) a b refl few f g

        by_first : (o : Option ℕ) → common_value program source first ≡ o → IsSmall o →
            Held (by_common program text_line source o (λ a.
            by_common program text_line source (common_value program source last) (λ b.
            if has_none up a b then on_to (end + 1) source
            else on_to (source.at + 1) (loop_turned nest a source))))
        by_first None f few = held_end text_line source
        by_first (Some a) f few = by_last a few f (common_value program source last) refl

    -- a loop goes on
    module _ (begin : ℕ) (e : line.statement ≡ EndFor begin) where
      abbrev closed : Closes source.at begin (counting begin)
      closed = closing_for source.at begin line is e

      within_here : IsWithin (statement_at program begin) (source.loops (count_of closed.outer))
      within_here = (subst (AreWithin program source.loops) closed.is here).0

      again_held : (nest end b : ℕ) (first last : Tree) (up : Bool) (opener : Line) →
          slice_get program.lines begin ≡ Some opener →
          opener.statement ≡ For nest first last up end →
          common_value program source last ≡ Some b → source.loops nest ≢ b →
          AreWithin program (loop_turned nest (next_turn up (source.loops nest)) source).loops
          (open_here (begin + 1))
      again_held nest end b first last up opener there f g more =
          let v = next_turn up (source.loops nest) in
          let count : nest ≡ count_of (open_here begin) =
          nest_is program nested begin nest end opener first last up there f in
          let said : statement_at program begin ≡ For nest first last up end =
          line_at program begin opener there ∙ f in
          let held : IsHeld up first last (source.loops nest) =
          subst (λ s. IsWithin s (source.loops nest)) said
          (subst (λ n. IsWithin (statement_at program begin) (source.loops n))
          (ap (λ (o : List Open). count_of o) closed.around ∙ sym count) within_here) in
          subst (AreWithin program (loop_turned nest v source).loops)
          (sym (after_here begin opener (For nest first last up end) there f)) (
            subst (λ s. IsWithin s ((loop_turned nest v source).loops (count_of (open_here begin))))
                (sym said)
                (subst (IsHeld up first last)
                (this_loop source.loops nest v (count_of (open_here begin)) count)
                (turns program source up first last (source.loops nest) b
                (sound.fit.each_loop nest) held g more)),
            set_within program source.loops nest v (open_here begin) (omega (arith, count))
                (around_here begin (counting begin) closed),
          )

      ended_held : (opener : Line) (statement : Statement) →
          slice_get program.lines begin ≡ Some opener → opener.statement ≡ statement →
          loop_end_told statement ≡ Some source.at → IsWithin statement
          (source.loops (count_of closed.outer)) →
          Held (loop_ended program text_line begin statement source)
      ended_held opener (For nest first last up end) there f says within =
          by_last (common_value program source last) refl
        where
          by_test : (t : Bool) (b : ℕ) → (source.loops nest == b) ≡ t →
              common_value program source last ≡ Some b →
              Held (if t then on_to (end + 1) source
              else on_to (begin + 1) (loop_turned nest (next_turn up (source.loops nest)) source))
          by_test true b same g = λ next there. subst (AreWithin program source.loops)
              (sym (ended source.at begin line (EndFor begin) is e refl)
              ∙ ap (λ k. open_here (k + 1)) (sym (same_Some end source.at says)))
              (around_here begin (counting begin) closed)
          by_test false b more g = λ next at. again_held nest end b first last up opener there f g
              (eqb-false (source.loops nest) b more)

          by_last : (o : Option ℕ) → common_value program source last ≡ o →
              Held (by_common program text_line source o (λ b.
              if source.loops nest == b then on_to (end + 1) source
              else on_to (begin + 1) (loop_turned nest (next_turn up (source.loops nest)) source)))
          by_last None g = held_end text_line source
          by_last (Some b) g = by_test (source.loops nest == b) b refl g
      ended_held opener (Assign target tree) there f says within = absurd within
      ended_held opener (If tree) there f says within = absurd within
      ended_held opener Else there f says within = absurd within
      ended_held opener EndIf there f says within = absurd within
      ended_held opener (While tree end) there f says within = absurd within
      ended_held opener (EndWhile first) there f says within = absurd within
      ended_held opener (EndFor first) there f says within = absurd within

      abbrev first_line : (first : Line) × (slice_get program.lines begin ≡ Some first)
          × (loop_end_told first.statement ≡ Some source.at)
      first_line = said_line loop_end_told (slice_get program.lines begin) source.at
          (nested.1 source.at begin
          (ap (said_by loop_begin) is ∙ ap loop_begin e)).1

      opener_lawful : IsStatement (bounds_of program) (statement_at program begin)
      opener_lawful = subst (IsStatement (bounds_of program))
          (sym (line_at program begin first_line.0 first_line.1))
          (all_at (IsLine (bounds_of program)) program.lines begin first_line.0 lawful.lines
          first_line.1).0

      end_held : Held (after_statement program text_line depth (EndFor begin) source)
      end_held =
          let said = line_at program begin first_line.0 first_line.1 in
          subst (λ s. Held (loop_ended program text_line begin s source)) (sym said)
          (ended_held first_line.0 first_line.0.statement first_line.1 refl first_line.2
          (subst (λ s. IsWithin s (source.loops (count_of closed.outer))) said within_here))

    statement_held : (statement : Statement) → line.statement ≡ statement →
        IsStatement (bounds_of program) statement →
        Held (after_statement program text_line depth statement source)
    statement_held (Assign (Private x) tree) e lawfully =
        λ next there. goes_on (Assign (Private x) tree) e tt
    statement_held (Assign (Shared array index) tree) e lawfully =
        λ next there. goes_on (Assign (Shared array index) tree) e tt
    statement_held (If tree) e lawfully = λ next there. goes_on (If tree) e tt
    statement_held Else e lawfully = λ next there. goes_on Else e tt
    statement_held EndIf e lawfully = λ next there. goes_on EndIf e tt
    statement_held (While tree end) e lawfully = while_held tree end e
    statement_held (EndWhile begin) e lawfully = λ next there.
        around_here begin (turning begin) (closing_while source.at begin line is e)
    statement_held (For nest first last up end) e lawfully =
        for_held nest end first last up e lawfully
    statement_held (EndFor begin) e lawfully = end_held begin e

    sound_line : IsSound (after_statement program text_line depth line.statement source)
    sound_line =
        let lawfully = (all_at (IsLine (bounds_of program)) program.lines source.at line
        lawful.lines is).0 in record {
          fit = fit_after program lawful text_line depth line.statement source lawfully
              (wide_at program lawful source.at line is line.statement refl)
              (λ begin e. opener_lawful begin e) sound.fit;
          held = statement_held line.statement refl lawfully;
        }

  sound_next : (source : Source) → IsSound source → IsSound (next program source)
  sound_next source sound = by_line (slice_get program.lines source.at) refl
    where
      by_line : (o : Option Line) → slice_get program.lines source.at ≡ o →
          IsSound (next program source)
      by_line None is = subst IsSound (sym (next_none program source is)) sound
      by_line (Some line) is = subst IsSound (sym (next_at program source line is))
          (sound_line source sound line is line.number line.depth)

  pub sound_after : (n : ℕ) → IsSound (after program n)
  unfolding after
  sound_after zero = record {
    fit = fit_start program lawful;
    held = λ line is. tt;
  }
  sound_after (suc n) = sound_next (after program n) (sound_after n)

  -- ---- so the tests that are left out pass

  abbrev pub known_here : ℕ → Known
  known_here j = known_at (known_of program) program.lines j

  pub tests_pass : (source : Source) → IsSound source → (line : Line) →
      slice_get program.lines source.at ≡ Some line → (i : ℕ) → i < program.procs →
      (tree : Tree) → value program source i (without_tests (known_here source.at) tree)
      ≡ value program source i tree
  tests_pass source sound line is i lt tree =
      let only = only_loops (known_of program) program.lines source.at in
      left_out_tests_pass program (known_here source.at) source i tree (record {
        own = subst (λ (k : Known). i < k.procs) (sym only) lt;
        privates = λ x most e. sound.fit.at_most x i most lt
            (subst (λ (k : Known). slice_get k.privates x ≡ Some most) only e);
        loops = λ nest most e. within_known program source.loops (open_here source.at)
            (sound.held line is) nest most
            (subst (λ (l : List ℕ). slice_get l nest ≡ Some most)
            (known_loops program nested source.at) e);
      })
