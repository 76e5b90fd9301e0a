-- A line of a loop, after its pieces, does to the flat state what it does to the state.
use Rattle.std.proofs.Common.{◌≡◌, ℕ, ◌+◌, ◌<◌, ◌==◌, ◌⊎◌, Bool, true, false}
use Rattle.std.proofs.Common.{List, [], Option, Some, None, refl, sym, ap}
use Rattle.std.proofs.Common.{◌∙◌, subst, inl, inr, ⊎_elim, arith, if◌then◌else◌, length}
use Rattle.pardo_program.specs.declared.statement.Line.{Line}
use Rattle.pardo_program.specs.declared.statement.Statement.{Statement}
use Rattle.pardo_program.specs.declared.statement.Statement.TheVariants.{Assign, If, Else, EndIf}
use Rattle.pardo_program.specs.declared.statement.Statement.TheVariants.{While, EndWhile, For}
use Rattle.pardo_program.specs.declared.statement.Statement.TheVariants.{EndFor}
use Rattle.pardo_program.specs.Expression.{Tree}
use Rattle.pardo_program.specs.Lawful.{IsExpression, IsLine, IsProgram, IsStatement, bounds_of}
use Rattle.pardo_program.specs.Program.{ProgramData}
use Rattle.pardo_flat.specs.Statements.{statement_at}
use Rattle.pardo_flat.specs.Flat.{bound_pieces, first_flat_of, fits, flat, is_for_all}
use Rattle.pardo_flat.specs.Flat.{last_pieces, moved_statement}
use Rattle.pardo_flat.specs.Flat.{split, split_bounds, split_statement}
use Rattle.pardo_flat.specs.Flat.{statement_parts}
use Rattle.pardo_flat.proofs.FlatLines.{some_at}
use Rattle.pardo_job.specs.Meaning.{Source, after_statement}
use Rattle.pardo_job.specs.Meaning.{common_value, has_none}
use Rattle.pardo_job.specs.Meaning.{abandoned, by_common, loop_ended, next_turn, on_to}
use Rattle.pardo_job.specs.Meaning.{loop_turned}
use Rattle.pardo_job.specs.Carries.{Shares, StandsFor}
use Rattle.pardo_law.proofs.Carrying.{all_at}
use Rattle.pardo_law.proofs.LoopPieces.{Cut, Fails, Kept, Whole, bounds_fail, bounds_held}
use Rattle.pardo_law.proofs.LoopPieces.{last_fails, split_fails, split_held}
use Rattle.pardo_law.proofs.FlatStates.{IsOpening, for_stands, over_stands, turns_stand}
use Rattle.pardo_law.proofs.FlatStates.{value_shared, while_stands}

-- where all of them are made
pub shares_kept : (program : ProgramData) (source flat_source now : Source) →
    Shares program source flat_source → Kept program.loops flat_source now →
    Shares program source now
shares_kept program source flat_source later shares kept = record {
  cells = kept.cells ∙ shares.cells;
  loops = λ nest lt. kept.loops nest lt ∙ shares.loops nest lt;
  masks = kept.masks ∙ shares.masks;
  privates = λ x i lt. ap (λ (f : ℕ → ℕ → ℕ). f x i) kept.privates ∙ shares.privates x i lt;
}

module _ (program : ProgramData) (source flat_source now : Source)
    (stands : StandsFor program source flat_source) (text_line depth : ℕ)
    (leads : now.at + 1 ≡ first_flat_of program (source.at + 1)) where
  abbrev LoopEnds : Statement → List Tree × Statement → Type 0
  LoopEnds statement parts =
      Whole (flat program) text_line program.loops parts.0 flat_source now →
      StandsFor program (after_statement program text_line depth statement source)
      (after_statement (flat program) text_line depth (moved_statement program parts.1) now)

  shares_now : (pieces : List Tree) →
      Whole (flat program) text_line program.loops pieces flat_source now →
      Shares program source now
  shares_now pieces whole = shares_kept program source flat_source now stands.shares whole.kept

  gone_now : (pieces : List Tree) →
      Whole (flat program) text_line program.loops pieces flat_source now →
      now.gone ≡ source.gone
  gone_now pieces whole = whole.kept.gone ∙ stands.gone

  common_now : (pieces : List Tree) →
      Whole (flat program) text_line program.loops pieces flat_source now →
      (tree : Tree) → IsExpression (bounds_of program) tree →
      common_value (flat program) now tree ≡ common_value program source tree
  common_now pieces whole tree is =
      value_shared program source now 0 (shares_now pieces whole) tree is

  loop_level : (level : Bool) (statement : Statement) → IsStatement (bounds_of program) statement →
      is_for_all statement ≡ true → (opens : IsOpening statement) →
      LoopEnds statement (if level then ([], statement) else split_statement program statement)
  loop_level true (While tree end) is common opens whole =
      while_stands program source now (shares_now [] whole) (gone_now [] whole) text_line depth
      tree tree end is.1 (common_now [] whole tree is.0.0) leads
  loop_level false (While tree end) is common opens whole =
      let parts = split true program.loops tree in
      while_stands program source now (shares_now parts.0 whole) (gone_now parts.0 whole) text_line
      depth tree parts.1 end is.1
      (split_held (flat program) now program.loops tree whole.held
      ∙ common_now parts.0 whole tree is.0.0) leads
  loop_level true (For nest first last up end) is common opens whole =
      for_stands program source now (shares_now [] whole) (gone_now [] whole) text_line depth
      nest first last first last up end is.3 (common_now [] whole first is.1.0)
      (common_now [] whole last is.2.0) leads
  loop_level false (For nest first last up end) is common opens whole =
      let parts = split_bounds program.loops first last in
      let held = bounds_held (flat program) now program.loops first last whole.held in
      for_stands program source now (shares_now parts.0 whole) (gone_now parts.0 whole) text_line
      depth nest first last parts.1 parts.2 up end is.3
      (held.0 ∙ common_now parts.0 whole first is.1.0)
      (held.1 ∙ common_now parts.0 whole last is.2.0) leads
  loop_level level (Assign target tree) is common opens whole = absurd opens
  loop_level level (If tree) is common opens whole = absurd opens
  loop_level level Else is common opens whole = absurd opens
  loop_level level EndIf is common opens whole = absurd opens
  loop_level level (EndWhile begin) is common opens whole = absurd opens
  loop_level level (EndFor begin) is common opens whole = absurd opens

  pub loop_line : (statement : Statement) → is_for_all statement ≡ true → IsProgram program →
      IsStatement (bounds_of program) statement →
      LoopEnds statement (statement_parts program statement)
  loop_line (While tree end) common lawful is whole =
      loop_level (fits (While tree end)) (While tree end) is common tt whole
  loop_line (For nest first last up end) common lawful is whole =
      loop_level (fits (For nest first last up end)) (For nest first last up end) is common tt
      whole
  loop_line (EndFor begin) common lawful is whole =
      let pieces = bound_pieces program (statement_at program begin) in
      let at = whole.at in
      let was = stands.at in
      turns_stand program source now (shares_now pieces whole) (gone_now pieces whole) text_line
      depth begin is lawful whole.held (omega (arith, at, was))
  loop_line (Assign target tree) common lawful is whole =
      absurd (let no : false ≡ true = common in cc)
  loop_line (If tree) common lawful is whole =
      absurd (let no : false ≡ true = common in cc)
  loop_line Else common lawful is whole =
      absurd (let no : false ≡ true = common in cc)
  loop_line EndIf common lawful is whole =
      absurd (let no : false ≡ true = common in cc)
  loop_line (EndWhile begin) common lawful is whole =
      absurd (let no : false ≡ true = common in cc)

pub opener_is : (program : ProgramData) → IsProgram program → (begin : ℕ) →
    begin < length program.lines → IsStatement (bounds_of program) (statement_at program begin)
opener_is program lawful begin lt =
    let line = some_at program.lines begin lt in
    subst (IsStatement (bounds_of program))
    (sym (ap (λ (o : Option Line). elim o as (λ (x : Option Line). Statement)
    [ None ↦ EndIf | Some l ↦ l.statement ]) line.1))
    (all_at (IsLine (bounds_of program)) program.lines begin line.0 lawful.lines line.1).0

-- where one has no value, the line sends all out, too
module _ (program : ProgramData) (source flat_source : Source)
    (stands : StandsFor program source flat_source) (text_line depth : ℕ) where
  abbrev Over : Statement → Type 0
  Over statement = after_statement program text_line depth statement source
      ≡ abandoned program text_line source

  common_cut : (mid : Source) → Kept program.loops flat_source mid → (tree : Tree) →
      IsExpression (bounds_of program) tree → common_value (flat program) mid tree ≡ None →
      common_value program source tree ≡ None
  common_cut mid kept tree is none =
      sym (value_shared program source mid 0
      (shares_kept program source flat_source mid stands.shares kept) tree is) ∙ none

  while_over : (tree : Tree) (end : ℕ) → common_value program source tree ≡ None →
      Over (While tree end)
  while_over tree end none = ap (λ o. by_common program text_line source o (λ value.
      if value == 0 then on_to (end + 1) source else on_to (source.at + 1) source)) none

  for_over : (nest : ℕ) (first last : Tree) (up : Bool) (end : ℕ) →
      (common_value program source first ≡ None) ⊎ (common_value program source last ≡ None) →
      Over (For nest first last up end)
  for_over nest first last up end (inl none) =
      ap (λ o. by_common program text_line source o (λ a.
      by_common program text_line source (common_value program source last) (λ b.
      if has_none up a b then on_to (end + 1) source
      else on_to (source.at + 1) (loop_turned nest a source)))) none
  for_over nest first last up end (inr none) =
      ap (λ o. by_common program text_line source (common_value program source first) (λ a.
      by_common program text_line source o (λ b.
      if has_none up a b then on_to (end + 1) source
      else on_to (source.at + 1) (loop_turned nest a source)))) none
      ∙ either_way (common_value program source first)
    where
      either_way : (o : Option ℕ) →
          by_common program text_line source o (λ a. abandoned program text_line source)
          ≡ abandoned program text_line source
      either_way None = refl
      either_way (Some a) = refl

  turn_over : (begin : ℕ) (opener : Statement) → statement_at program begin ≡ opener →
      IsStatement (bounds_of program) opener → (level : Bool) → (mid : Source) →
      Kept program.loops flat_source mid → Fails (flat program) mid program.loops
      (if level then [] else last_pieces program opener) → Over (EndFor begin)
  turn_over begin opener was is true mid kept fails = absurd fails
  turn_over begin (For nest first last up end) was is false mid kept fails =
      let none = common_cut mid kept last is.2.0
      (last_fails (flat program) mid program.loops last fails) in
      ap (λ s. loop_ended program text_line begin s source) was
      ∙ ap (λ o. by_common program text_line source o (λ b.
      if source.loops nest == b then on_to (end + 1) source
      else on_to (begin + 1) (loop_turned nest (next_turn up (source.loops nest)) source))) none
  turn_over begin (Assign target tree) was is false mid kept fails = absurd fails
  turn_over begin (If tree) was is false mid kept fails = absurd fails
  turn_over begin Else was is false mid kept fails = absurd fails
  turn_over begin EndIf was is false mid kept fails = absurd fails
  turn_over begin (While tree end) was is false mid kept fails = absurd fails
  turn_over begin (EndWhile line) was is false mid kept fails = absurd fails
  turn_over begin (EndFor line) was is false mid kept fails = absurd fails

  cut_level : (level : Bool) (statement : Statement) → IsOpening statement →
      IsStatement (bounds_of program) statement → (mid : Source) →
      Kept program.loops flat_source mid → Fails (flat program) mid program.loops
      (if level then ([], statement) else split_statement program statement).0 → Over statement
  cut_level true statement opens is mid kept fails = absurd fails
  cut_level false (While tree end) opens is mid kept fails =
      while_over tree end (common_cut mid kept tree is.0.0
      (split_fails (flat program) mid program.loops tree fails))
  cut_level false (For nest first last up end) opens is mid kept fails =
      for_over nest first last up end (⊎_elim
      (λ (none : common_value (flat program) mid first ≡ None).
      inl (common_cut mid kept first is.1.0 none))
      (λ (none : common_value (flat program) mid last ≡ None).
      inr (common_cut mid kept last is.2.0 none))
      (bounds_fail (flat program) mid program.loops first last fails))
  cut_level false (Assign target tree) opens is mid kept fails = absurd opens
  cut_level false (If tree) opens is mid kept fails = absurd opens
  cut_level false Else opens is mid kept fails = absurd opens
  cut_level false EndIf opens is mid kept fails = absurd opens
  cut_level false (EndWhile begin) opens is mid kept fails = absurd opens
  cut_level false (EndFor begin) opens is mid kept fails = absurd opens

  line_over : IsProgram program → (statement : Statement) → is_for_all statement ≡ true →
      IsStatement (bounds_of program) statement → (mid : Source) →
      Kept program.loops flat_source mid → Fails (flat program) mid program.loops
      (statement_parts program statement).0 → Over statement
  line_over lawful (While tree end) common is mid kept fails =
      cut_level (fits (While tree end)) (While tree end) tt is mid kept fails
  line_over lawful (For nest first last up end) common is mid kept fails =
      cut_level (fits (For nest first last up end)) (For nest first last up end) tt is mid kept fails
  line_over lawful (EndFor begin) common is mid kept fails =
      turn_over begin (statement_at program begin) refl (opener_is program lawful begin is)
      (fits (statement_at program begin)) mid kept fails
  line_over lawful (Assign target tree) common is mid kept fails =
      absurd (let no : false ≡ true = common in cc)
  line_over lawful (If tree) common is mid kept fails =
      absurd (let no : false ≡ true = common in cc)
  line_over lawful Else common is mid kept fails = absurd (let no : false ≡ true = common in cc)
  line_over lawful EndIf common is mid kept fails = absurd (let no : false ≡ true = common in cc)
  line_over lawful (EndWhile begin) common is mid kept fails =
      absurd (let no : false ≡ true = common in cc)

  pub loop_cut : IsProgram program → (statement : Statement) → is_for_all statement ≡ true →
      IsStatement (bounds_of program) statement → (now : Source) →
      Cut (flat program) text_line program.loops (statement_parts program statement).0 flat_source
      now →
      StandsFor program (after_statement program text_line depth statement source) now
  loop_cut lawful statement common is now cut =
      subst (λ s. StandsFor program s now)
      (sym (line_over lawful statement common is cut.mid cut.kept cut.fails))
      (subst (StandsFor program (abandoned program text_line source)) (sym cut.now_is)
      (over_stands program source cut.mid
      (shares_kept program source flat_source cut.mid stands.shares cut.kept)
      (cut.kept.gone ∙ stands.gone) text_line depth))
