-- A line without tests does to the same state what the line does.
use Rattle.std.proofs.Common.{◌≡◌, ℕ, zero, suc, ◌+◌, ◌<◌, ◌==◌, Bool, true, false, ◌&&◌, not}
use Rattle.std.proofs.Common.{Option, Some, None, refl, sym, ap, ◌∙◌, subst, arith}
use Rattle.std.proofs.Common.{if◌then◌else◌, unwrap_or}
use Rattle.std.specs.Prelude.{is_some, slice_get}
use Rattle.std.specs.Option.{option_map, option_and_then, option_or, is_none}
use mathlib.Core.Path.{fun_ext}
use Rattle.pardo_program.specs.declared.statement.Line.{Line}
use Rattle.pardo_program.specs.declared.statement.Statement.{Statement}
use Rattle.pardo_program.specs.declared.statement.Statement.TheVariants.{Assign, If, Else, EndIf}
use Rattle.pardo_program.specs.declared.statement.Statement.TheVariants.{While, EndWhile, For}
use Rattle.pardo_program.specs.declared.statement.Statement.TheVariants.{EndFor}
use Rattle.pardo_program.specs.declared.statement.Target.TheVariants.{Private, Array as Shared}
use Rattle.pardo_program.specs.Expression.{Tree, number, own, loop, private, place, apply}
use Rattle.pardo_program.specs.Operations.{worked_out}
use Rattle.pardo_program.specs.Program.{ProgramData}
use Rattle.pardo_program.specs.Tests.{Known, known_of, program_untested, statement_untested}
use Rattle.pardo_program.specs.Tests.{without_tests}
use Rattle.pardo_flat.specs.Statements.{statement_at}
use Rattle.pardo_job.specs.Meaning.{Source, abandoned, after_statement, array_cell, asked_in}
use Rattle.pardo_job.specs.Meaning.{by_common, common_value, first_below, given_to}
use Rattle.pardo_job.specs.Meaning.{has_none, is_active, is_true, loop_ended, losing, next_turn}
use Rattle.pardo_job.specs.Meaning.{on_to, loop_turned, value, write_of}
use Rattle.pardo_law.specs.Untested.{AreAlike}
use Rattle.pardo_law.proofs.UntestedLines.{as_many, known_at, untested_at, untested_past}

first_same : (n : ℕ) (f g : ℕ → Option ℕ) → ((i : ℕ) → i < n → f i ≡ g i) →
    first_below n f ≡ first_below n g
first_same zero f g same = refl
first_same (suc n) f g same =
    ap (λ o. option_or o (f n)) (first_same n f g (λ i lt. same i (omega (arith, lt))))
    ∙ ap (option_or (first_below n g)) (same n (omega arith))

module _ (program : ProgramData) where
  abbrev bare : ProgramData
  bare = program_untested program

  abbrev Same : Source → Source → Type 0
  Same one two = AreAlike program.procs one two

  -- ---- states that are the same

  moved_same : (one two : Source) (k m : ℕ) → Same one two → k ≡ m →
      Same (on_to k one) (on_to m two)
  moved_same one two k m same e = record {
    at = e;
    cells = same.cells;
    loops = same.loops;
    privates = same.privates;
    masks = same.masks;
    gone = same.gone;
  }

  next_same : (one two : Source) → Same one two →
      Same (on_to (one.at + 1) one) (on_to (two.at + 1) two)
  next_same one two same =
      moved_same one two (one.at + 1) (two.at + 1) same (ap (λ k. k + 1) same.at)

  turned_same : (one two : Source) (nest v w : ℕ) → Same one two → v ≡ w →
      Same (loop_turned nest v one) (loop_turned nest w two)
  turned_same one two nest v w same e = record {
    at = same.at;
    cells = same.cells;
    loops = ap {B = ℕ → ℕ} (λ f n. if n == nest then v else f n) same.loops
        ∙ ap {B = ℕ → ℕ} (λ x n. if n == nest then x else two.loops n) e;
    privates = same.privates;
    masks = same.masks;
    gone = same.gone;
  }

  over_same : (text_line : ℕ) (one two : Source) → Same one two →
      Same (abandoned bare text_line one) (abandoned program text_line two)
  over_same text_line one two same = record {
    at = as_many (known_of program) program.lines;
    cells = same.cells;
    loops = same.loops;
    privates = same.privates;
    masks = same.masks;
    gone = λ i lt. ap (λ g. option_or g (Some text_line)) (same.gone i lt);
  }

  if_same : (s t : Bool) (one two three four : Source) → s ≡ t → Same one three → Same two four →
      Same (if s then one else two) (if t then three else four)
  if_same s t one two three four e first second =
      subst (λ u. Same (if s then one else two) (if u then three else four)) e (by_test s)
    where
      by_test : (u : Bool) → Same (if u then one else two) (if u then three else four)
      by_test true = first
      by_test false = second

  common_same : (text_line : ℕ) (one two : Source) (o p : Option ℕ) (goes to : ℕ → Source) →
      Same one two → o ≡ p → ((v : ℕ) → Same (goes v) (to v)) →
      Same (by_common bare text_line one o goes) (by_common program text_line two p to)
  common_same text_line one two o p goes to same e each =
      subst (λ q. Same (by_common bare text_line one o goes)
      (by_common program text_line two q to)) e (by_value o)
    where
      by_value : (q : Option ℕ) → Same (by_common bare text_line one q goes)
          (by_common program text_line two q to)
      by_value None = over_same text_line one two same
      by_value (Some v) = each v

  -- ---- values in them

  module _ (some : 0 < program.procs) (one two : Source) (same : Same one two) where
    value_same : (i : ℕ) → i < program.procs → (tree : Tree) →
        value program one i tree ≡ value program two i tree
    value_same i lt (number k) = refl
    value_same i lt own = refl
    value_same i lt (loop nest) = ap (λ (f : ℕ → ℕ). Some (f nest)) same.loops
    value_same i lt (private x) = ap Some (same.privates x i lt)
    value_same i lt (place array index) =
        ap (option_and_then (λ k. option_map one.cells (array_cell program array k)))
        (value_same i lt index)
        ∙ ap (λ (f : ℕ → ℕ). option_and_then (λ k. option_map f (array_cell program array k))
        (value program two i index)) same.cells
    value_same i lt (apply op first second) =
        ap (λ v. option_and_then (λ a. option_and_then (worked_out op a) v)
        (value program one i first)) (value_same i lt second)
        ∙ ap (option_and_then (λ a. option_and_then (worked_out op a) (value program two i second)))
        (value_same i lt first)

    bare_common : (tree : Tree) → common_value bare one tree ≡ common_value program two tree
    bare_common tree = value_same 0 some tree

    active_same : (depth i : ℕ) → i < program.procs →
        is_active one depth i ≡ is_active two depth i
    active_same depth i lt =
        ap (λ m. m && is_none (one.gone i)) (same.masks depth i lt)
        ∙ ap (λ g. two.masks depth i && is_none g) (same.gone i lt)

    losing_same : (text_line depth : ℕ) (has had : ℕ → Bool) (i : ℕ) → i < program.procs →
        has i ≡ had i → losing text_line depth has one i ≡ losing text_line depth had two i
    losing_same text_line depth has had i lt e =
        ap (λ t. if t && not (has i) then Some text_line else one.gone i)
        (active_same depth i lt)
        ∙ ap (λ t. if is_active two depth i && not t then Some text_line else one.gone i) e
        ∙ ap (λ g. if is_active two depth i && not (had i) then Some text_line else g)
        (same.gone i lt)

    -- ---- the end of a loop

    ended_same : (text_line begin : ℕ) (known : Known) (opener : Statement) →
        Same (loop_ended bare text_line begin (statement_untested known opener) one)
        (loop_ended program text_line begin opener two)
    ended_same text_line begin known (For nest first last up end) =
        common_same text_line one two (common_value bare one last) (common_value program two last)
        _ _ same (bare_common last) (λ b.
        if_same (one.loops nest == b) (two.loops nest == b) (on_to (end + 1) one)
        (on_to (begin + 1) (loop_turned nest (next_turn up (one.loops nest)) one))
        (on_to (end + 1) two)
        (on_to (begin + 1) (loop_turned nest (next_turn up (two.loops nest)) two))
        (ap (λ (f : ℕ → ℕ). f nest == b) same.loops)
        (moved_same one two (end + 1) (end + 1) same refl)
        (moved_same (loop_turned nest (next_turn up (one.loops nest)) one)
        (loop_turned nest (next_turn up (two.loops nest)) two) (begin + 1) (begin + 1)
        (turned_same one two nest (next_turn up (one.loops nest))
        (next_turn up (two.loops nest)) same
        (ap (λ (f : ℕ → ℕ). next_turn up (f nest)) same.loops)) refl))
    ended_same text_line begin known (Assign target tree) = same
    ended_same text_line begin known (If tree) = same
    ended_same text_line begin known Else = same
    ended_same text_line begin known EndIf = same
    ended_same text_line begin known (While tree end) = same
    ended_same text_line begin known (EndWhile line) = same
    ended_same text_line begin known (EndFor line) = same

    opener_bare : (begin : ℕ) (o : Option Line) → slice_get program.lines begin ≡ o →
        statement_at bare begin ≡ statement_untested
        (known_at (known_of program) program.lines begin) (statement_at program begin)
    opener_bare begin None e =
        ap of (untested_past (known_of program) program.lines begin e)
        ∙ sym (ap (λ (o : Option Line). statement_untested
        (known_at (known_of program) program.lines begin) (of o)) e)
      where
        of : Option Line → Statement
        of o = elim o as (λ (x : Option Line). Statement) [ None ↦ EndIf | Some l ↦ l.statement ]
    opener_bare begin (Some line) e =
        ap of (untested_at (known_of program) program.lines begin line e)
        ∙ sym (ap (λ (o : Option Line). statement_untested
        (known_at (known_of program) program.lines begin) (of o)) e)
      where
        of : Option Line → Statement
        of o = elim o as (λ (x : Option Line). Statement) [ None ↦ EndIf | Some l ↦ l.statement ]

    end_same : (text_line begin : ℕ) →
        Same (loop_ended bare text_line begin (statement_at bare begin) one)
        (loop_ended program text_line begin (statement_at program begin) two)
    end_same text_line begin =
        subst (λ s. Same (loop_ended bare text_line begin s one)
        (loop_ended program text_line begin (statement_at program begin) two))
        (sym (opener_bare begin (slice_get program.lines begin) refl))
        (ended_same text_line begin (known_at (known_of program) program.lines begin)
        (statement_at program begin))

    -- ---- a line whose tests pass

    module _ (known : Known) (pass : (i : ℕ) → i < program.procs → (tree : Tree) →
        value program two i (without_tests known tree) ≡ value program two i tree) where
      value_bare : (i : ℕ) → i < program.procs → (tree : Tree) →
          value bare one i (without_tests known tree) ≡ value program two i tree
      value_bare i lt tree = value_same i lt (without_tests known tree) ∙ pass i lt tree

      write_bare : (array i : ℕ) (index tree : Tree) → i < program.procs →
          write_of bare one array i (without_tests known index) (without_tests known tree)
          ≡ write_of program two array i index tree
      write_bare array i index tree lt =
          ap (λ o. option_and_then (λ v. option_map (λ cell. (cell, v))
          (option_and_then (array_cell program array) o))
          (value bare one i (without_tests known tree))) (value_bare i lt index)
          ∙ ap (option_and_then (λ v. option_map (λ cell. (cell, v))
          (option_and_then (array_cell program array) (value program two i index))))
          (value_bare i lt tree)

      pub asked_bare : (depth : ℕ) (statement : Statement) (i : ℕ) → i < program.procs →
          asked_in bare one depth (statement_untested known statement) i
          ≡ asked_in program two depth statement i
      asked_bare depth (Assign (Shared array index) tree) i lt =
          ap (λ t. if t then write_of bare one array i (without_tests known index)
          (without_tests known tree) else None) (active_same depth i lt)
          ∙ ap (λ o. if is_active two depth i then o else None) (write_bare array i index tree lt)
      asked_bare depth (Assign (Private x) tree) i lt = refl
      asked_bare depth (If tree) i lt = refl
      asked_bare depth Else i lt = refl
      asked_bare depth EndIf i lt = refl
      asked_bare depth (While tree end) i lt = refl
      asked_bare depth (EndWhile begin) i lt = refl
      asked_bare depth (For nest first last up end) i lt = refl
      asked_bare depth (EndFor begin) i lt = refl

      private_bare : (text_line depth x : ℕ) (tree : Tree) →
          Same (after_statement bare text_line depth
          (statement_untested known (Assign (Private x) tree)) one)
          (after_statement program text_line depth (Assign (Private x) tree) two)
      private_bare text_line depth x tree = record {
        at = ap (λ k. k + 1) same.at;
        cells = same.cells;
        loops = same.loops;
        privates = λ y i lt.
            ap (λ t. if (y == x) && t
            then unwrap_or (value bare one i (without_tests known tree)) (one.privates y i)
            else one.privates y i) (active_same depth i lt)
            ∙ ap (λ o. if (y == x) && is_active two depth i
            then unwrap_or o (one.privates y i) else one.privates y i) (value_bare i lt tree)
            ∙ ap (λ v. if (y == x) && is_active two depth i
            then unwrap_or (value program two i tree) v else v) (same.privates y i lt);
        masks = same.masks;
        gone = λ i lt. losing_same text_line depth
            (λ j. is_some (value bare one j (without_tests known tree)))
            (λ j. is_some (value program two j tree)) i lt
            (ap is_some (value_bare i lt tree));
      }

      shared_bare : (text_line depth array : ℕ) (index tree : Tree) →
          Same (after_statement bare text_line depth
          (statement_untested known (Assign (Shared array index) tree)) one)
          (after_statement program text_line depth (Assign (Shared array index) tree) two)
      shared_bare text_line depth array index tree = record {
        at = ap (λ k. k + 1) same.at;
        cells = fun_ext (λ cell.
            ap (λ o. unwrap_or o (one.cells cell))
            (first_same program.procs
            (λ i. given_to cell (asked_in bare one depth (statement_untested known
            (Assign (Shared array index) tree)) i))
            (λ i. given_to cell (asked_in program two depth (Assign (Shared array index) tree) i))
            (λ i lt. ap (given_to cell)
            (asked_bare depth (Assign (Shared array index) tree) i lt)))
            ∙ ap (λ (f : ℕ → ℕ). unwrap_or (first_below program.procs
            (λ i. given_to cell (asked_in program two depth (Assign (Shared array index) tree) i)))
            (f cell)) same.cells);
        loops = same.loops;
        privates = same.privates;
        masks = same.masks;
        gone = λ i lt. losing_same text_line depth
            (λ j. is_some (write_of bare one array j (without_tests known index)
            (without_tests known tree)))
            (λ j. is_some (write_of program two array j index tree)) i lt
            (ap is_some (write_bare array i index tree lt));
      }

      chosen_bare : (text_line depth : ℕ) (tree : Tree) →
          Same (after_statement bare text_line depth (statement_untested known (If tree)) one)
          (after_statement program text_line depth (If tree) two)
      chosen_bare text_line depth tree = record {
        at = ap (λ k. k + 1) same.at;
        cells = same.cells;
        loops = same.loops;
        privates = same.privates;
        masks = λ d i lt.
            ap (λ t. if d == depth + 1
            then t && is_true (value bare one i (without_tests known tree)) else one.masks d i)
            (active_same depth i lt)
            ∙ ap (λ o. if d == depth + 1 then is_active two depth i && is_true o
            else one.masks d i) (value_bare i lt tree)
            ∙ ap (λ m. if d == depth + 1
            then is_active two depth i && is_true (value program two i tree) else m)
            (same.masks d i lt);
        gone = λ i lt. losing_same text_line depth
            (λ j. is_some (value bare one j (without_tests known tree)))
            (λ j. is_some (value program two j tree)) i lt
            (ap is_some (value_bare i lt tree));
      }

      else_same : (text_line depth : ℕ) →
          Same (after_statement bare text_line depth Else one)
          (after_statement program text_line depth Else two)
      else_same text_line depth = record {
        at = ap (λ k. k + 1) same.at;
        cells = same.cells;
        loops = same.loops;
        privates = same.privates;
        masks = λ d i lt.
            ap (λ m. if d == depth + 1 then m && not (one.masks d i) else one.masks d i)
            (same.masks depth i lt)
            ∙ ap (λ m. if d == depth + 1 then two.masks depth i && not m else m)
            (same.masks d i lt);
        gone = same.gone;
      }

      pub statement_bare : (text_line depth : ℕ) (statement : Statement) →
          Same (after_statement bare text_line depth (statement_untested known statement) one)
          (after_statement program text_line depth statement two)
      statement_bare text_line depth (Assign (Private x) tree) =
          private_bare text_line depth x tree
      statement_bare text_line depth (Assign (Shared array index) tree) =
          shared_bare text_line depth array index tree
      statement_bare text_line depth (If tree) = chosen_bare text_line depth tree
      statement_bare text_line depth Else = else_same text_line depth
      statement_bare text_line depth EndIf = next_same one two same
      statement_bare text_line depth (While tree end) =
          common_same text_line one two (common_value bare one tree)
          (common_value program two tree) _ _ same (bare_common tree) (λ v.
          if_same (v == 0) (v == 0) (on_to (end + 1) one) (on_to (one.at + 1) one)
          (on_to (end + 1) two) (on_to (two.at + 1) two) refl
          (moved_same one two (end + 1) (end + 1) same refl) (next_same one two same))
      statement_bare text_line depth (EndWhile begin) =
          moved_same one two begin begin same refl
      statement_bare text_line depth (For nest first last up end) =
          common_same text_line one two (common_value bare one first)
          (common_value program two first) _ _ same (bare_common first) (λ a.
          common_same text_line one two (common_value bare one last)
          (common_value program two last) _ _ same (bare_common last) (λ b.
          if_same (has_none up a b) (has_none up a b) (on_to (end + 1) one)
          (on_to (one.at + 1) (loop_turned nest a one)) (on_to (end + 1) two)
          (on_to (two.at + 1) (loop_turned nest a two)) refl
          (moved_same one two (end + 1) (end + 1) same refl)
          (moved_same (loop_turned nest a one) (loop_turned nest a two) (one.at + 1) (two.at + 1)
          (turned_same one two nest a a same refl) (ap (λ k. k + 1) same.at))))
      statement_bare text_line depth (EndFor begin) = end_same text_line begin
