-- Laws of the meaning.
use Rattle.std.proofs.Common.{◌≡◌, ℕ, ◌+◌, ◌==◌, Bool, true, false, ◌&&◌, not, Option, Some, None}
use Rattle.std.proofs.Common.{refl, sym, ap, ◌∙◌, inl, inr, ◌⊎◌, ⊎_elim}
use Rattle.std.proofs.Common.{if◌then◌else◌, unwrap_or}
use Rattle.std.proofs.Math.Bool.{and-false}
use Rattle.std.specs.Prelude.{IsTrue, slice_get, is_some}
use Rattle.std.specs.Option.{option_map, option_and_then, option_or, is_none}
use Rattle.pardo_program.specs.declared.statement.Line.{Line}
use Rattle.pardo_program.specs.declared.statement.Statement.{Statement}
use Rattle.pardo_program.specs.declared.statement.Statement.TheVariants.{Assign, If, Else, EndIf}
use Rattle.pardo_program.specs.declared.statement.Statement.TheVariants.{While, EndWhile, For}
use Rattle.pardo_program.specs.declared.statement.Statement.TheVariants.{EndFor}
use Rattle.pardo_program.specs.declared.statement.Target.TheVariants.{Private, Array}
use Rattle.pardo_program.specs.Expression.{Tree, number, own, loop, private, place, apply}
use Rattle.pardo_program.specs.Operations.{worked_out}
use Rattle.pardo_program.specs.Program.{ProgramData}
use Rattle.pardo_flat.specs.Statements.{statement_at}
use Rattle.pardo_job.specs.Conflicts.{asked_for}
use Rattle.pardo_job.specs.Laws.{LoopsAreCommon, OutsideIsUnchanged, GoneForGood}
use Rattle.pardo_job.specs.Meaning.{Source, value, array_cell, is_active, asked_in, write_of}
use Rattle.pardo_job.specs.Meaning.{losing}
use Rattle.pardo_job.specs.Meaning.{next}
use Rattle.pardo_job.specs.Meaning.{after_statement, on_to, loop_ended, has_none}
use Rattle.pardo_job.specs.Meaning.{by_common, common_value}
use Rattle.pardo_job.specs.Meaning.{private_assigned, shared_assigned, chosen, otherwise, loop_turned}
use Rattle.pardo_job.specs.Meaning.{next_turn}

pub loops_are_common : LoopsAreCommon
loops_are_common program source (number k) i j is = refl
loops_are_common program source own i j is = absurd is
loops_are_common program source (loop nest) i j is = refl
loops_are_common program source (private x) i j is = absurd is
loops_are_common program source (place array index) i j is =
    ap (option_and_then (λ k. option_map source.cells (array_cell program array k)))
    (ap (value program source i) is ∙ sym (ap (value program source j) is))
loops_are_common program source (apply op first second) i j is =
    ap (λ v. option_and_then (λ a. option_and_then (worked_out op a) v)
    (value program source i first))
    (loops_are_common program source second i j is.1)
    ∙ ap (option_and_then (λ a. option_and_then (worked_out op a) (value program source j second)))
    (loops_are_common program source first i j is.0)

-- ---- a processor that is not active

abbrev AllOut : Source → Type 0
AllOut source = (j : ℕ) → IsTrue (is_some (source.gone j))

-- it has in one state what it has in the other, if not all are gone there
record Keeps (source other : Source) (i : ℕ) : Type 0 where
  privates : (x : ℕ) → other.privates x i ≡ source.privates x i
  gone : (other.gone i ≡ source.gone i) ⊎ AllOut other
  stays : (line : ℕ) → source.gone i ≡ Some line → other.gone i ≡ Some line

keeps : (source other : Source) (i : ℕ) →
    ((x : ℕ) → other.privates x i ≡ source.privates x i) → other.gone i ≡ source.gone i →
    Keeps source other i
keeps source other i privates gone = record {
  privates = privates;
  gone = inl gone;
  stays = λ line e. gone ∙ e;
}

same : (source : Source) (i : ℕ) → Keeps source source i
same source i = keeps source source i (λ x. refl) refl

keeps_if : (t : Bool) (source first second : Source) (i : ℕ) → Keeps source first i →
    Keeps source second i → Keeps source (if t then first else second) i
keeps_if true source first second i c d = c
keeps_if false source first second i c d = d

moved : (line : ℕ) (source other : Source) (i : ℕ) → Keeps source other i →
    Keeps source (on_to line other) i
moved line source other i c = record { privates = c.privates; gone = c.gone; stays = c.stays }

out_by : (g : Option ℕ) (line : ℕ) → IsTrue (is_some (option_or g (Some line)))
out_by None line = refl
out_by (Some before) line = refl

-- a line of a loop, with a value and without one
common_kept : (program : ProgramData) (line : ℕ) (source : Source) (o : Option ℕ)
    (goes : ℕ → Source) (i : ℕ) → ((v : ℕ) → Keeps source (goes v) i) →
    Keeps source (by_common program line source o goes) i
common_kept program line source None goes i kept = record {
  privates = λ x. refl;
  gone = inr (λ j. out_by (source.gone j) line);
  stays = λ before e. ap (λ g. option_or g (Some line)) e;
}
common_kept program line source (Some v) goes i kept = kept v

not_lost : (line depth : ℕ) (has : ℕ → Bool) (source : Source) (i : ℕ) →
    is_active source depth i ≡ false → losing line depth has source i ≡ source.gone i
not_lost line depth has source i e =
    ap (λ t. if t && not (has i) then Some line else source.gone i) e

private_kept : (program : ProgramData) (line depth x : ℕ) (tree : Tree) (source : Source) (i : ℕ) →
    is_active source depth i ≡ false →
    Keeps source (private_assigned program line depth x tree source) i
private_kept program line depth x tree source i e = keeps source
    (private_assigned program line depth x tree source) i (λ y. ap (λ t. if (y == x) &&
    t then unwrap_or (value program source i tree) (source.privates y i) else source.privates y i) e
    ∙ ap (λ t. if t then unwrap_or (value program source i tree) (source.privates y i) else
    source.privates y i) (and-false (y == x)))
    (not_lost line depth (λ j. is_some (value program source j tree)) source i e)

shared_kept : (program : ProgramData) (line depth array : ℕ) (index tree : Tree) (source : Source)
    (i : ℕ) →
    is_active source depth i ≡ false →
    Keeps source (shared_assigned program line depth array index tree source) i
shared_kept program line depth array index tree source i e = keeps source
    (shared_assigned program line depth array index tree source) i (λ y. refl)
    (not_lost line depth (λ j. is_some (write_of program source array j index tree)) source i e)

chosen_kept : (program : ProgramData) (line depth : ℕ) (tree : Tree) (source : Source) (i : ℕ) →
    is_active source depth i ≡ false → Keeps source (chosen program line depth tree source) i
chosen_kept program line depth tree source i e = keeps source
    (chosen program line depth tree source) i (λ y. refl)
    (not_lost line depth (λ j. is_some (value program source j tree)) source i e)

otherwise_kept : (depth : ℕ) (source : Source) (i : ℕ) → Keeps source (otherwise depth source) i
otherwise_kept depth source i = keeps source (otherwise depth source) i (λ x. refl) refl

turned_kept : (nest v : ℕ) (source : Source) (i : ℕ) → Keeps source (loop_turned nest v source) i
turned_kept nest v source i = keeps source (loop_turned nest v source) i (λ x. refl) refl

loop_kept : (program : ProgramData) (line begin : ℕ) (opener : Statement) (source : Source)
    (i : ℕ) → Keeps source (loop_ended program line begin opener source) i
loop_kept program line begin (For nest first last up end) source i =
    common_kept program line source (common_value program source last) _ i (λ b.
    keeps_if (source.loops nest == b) source
    (on_to (end + 1) source) (on_to (begin + 1)
    (loop_turned nest (next_turn up (source.loops nest)) source)) i
    (moved (end + 1) source source i (same source i))
    (moved (begin + 1) source (loop_turned nest (next_turn up (source.loops nest)) source) i
    (turned_kept nest (next_turn up (source.loops nest)) source i)))
loop_kept program line begin (Assign target tree) source i = same source i
loop_kept program line begin (If tree) source i = same source i
loop_kept program line begin Else source i = same source i
loop_kept program line begin EndIf source i = same source i
loop_kept program line begin (While tree end) source i = same source i
loop_kept program line begin (EndWhile other) source i = same source i
loop_kept program line begin (EndFor other) source i = same source i

statement_kept : (program : ProgramData) (line depth : ℕ) (statement : Statement) (source : Source)
    (i : ℕ) →
    is_active source depth i ≡ false →
    Keeps source (after_statement program line depth statement source) i
statement_kept program line depth (Assign (Private x) tree) source i e =
    moved (source.at + 1) source (private_assigned program line depth x tree source) i
    (private_kept program line depth x tree source i e)
statement_kept program line depth (Assign (Array array index) tree) source i e =
    moved (source.at + 1) source (shared_assigned program line depth array index tree source) i
    (shared_kept program line depth array index tree source i e)
statement_kept program line depth (If tree) source i e =
    moved (source.at + 1) source (chosen program line depth tree source) i
    (chosen_kept program line depth tree source i e)
statement_kept program line depth Else source i e =
    moved (source.at + 1) source (otherwise depth source) i (otherwise_kept depth source i)
statement_kept program line depth EndIf source i e =
    moved (source.at + 1) source source i (same source i)
statement_kept program line depth (While tree end) source i e =
    common_kept program line source (common_value program source tree) _ i (λ v.
    keeps_if (v == 0) source (on_to (end + 1) source) (on_to (source.at + 1) source) i
    (moved (end + 1) source source i (same source i))
    (moved (source.at + 1) source source i (same source i)))
statement_kept program line depth (EndWhile begin) source i e =
    moved begin source source i (same source i)
statement_kept program line depth (For nest first last up end) source i e =
    common_kept program line source (common_value program source first) _ i (λ a.
    common_kept program line source (common_value program source last) _ i (λ b.
    keeps_if (has_none up a b) source (on_to (end + 1) source)
    (on_to (source.at + 1) (loop_turned nest a source)) i
    (moved (end + 1) source source i (same source i))
    (moved (source.at + 1) source (loop_turned nest a source) i (turned_kept nest a source i))))
statement_kept program line depth (EndFor begin) source i e =
    loop_kept program line begin (statement_at program begin) source i

nothing_asked : (program : ProgramData) (source : Source) (depth i : ℕ) (statement : Statement) →
    is_active source depth i ≡ false → asked_in program source depth statement i ≡ None
nothing_asked program source depth i (Assign (Private x) tree) e = refl
nothing_asked program source depth i (Assign (Array array index) tree) e =
    ap (λ t. if t then write_of program source array i index tree else None) e
nothing_asked program source depth i (If tree) e = refl
nothing_asked program source depth i Else e = refl
nothing_asked program source depth i EndIf e = refl
nothing_asked program source depth i (While tree end) e = refl
nothing_asked program source depth i (EndWhile begin) e = refl
nothing_asked program source depth i (For nest first last up end) e = refl
nothing_asked program source depth i (EndFor begin) e = refl

pub next_at : (program : ProgramData) (source : Source) (line : Line) →
    slice_get program.lines source.at ≡ Some line →
    next program source ≡ after_statement program line.number line.depth line.statement source
unfolding next
next_at program source line e = ap (λ o. elim o [
  | None ↦ source
  | Some found ↦ after_statement program found.number found.depth found.statement source
]) e

pub asked_at : (program : ProgramData) (source : Source) (line : Line) (i : ℕ) →
    slice_get program.lines source.at ≡ Some line →
    asked_for program source i ≡ asked_in program source line.depth line.statement i
unfolding asked_for
asked_at program source line i e = ap (λ o. elim o [
  | None ↦ None
  | Some found ↦ asked_in program source found.depth found.statement i
]) e

pub outside_is_unchanged : OutsideIsUnchanged
outside_is_unchanged program source line i e inactive =
    let c : Keeps source (after_statement program line.number line.depth line.statement source) i =
    statement_kept program line.number line.depth line.statement source i inactive in
    record {
      asks = asked_at program source line i e
          ∙ nothing_asked program source line.depth i line.statement inactive;
      privates = λ x. ap (λ s. s.privates x i) (next_at program source line e) ∙ c.privates x;
      gone = ⊎_elim (λ same. inl (ap (λ s. s.gone i) (next_at program source line e) ∙ same))
          (λ out. inr (λ j low. ap (λ s. is_some (s.gone j)) (next_at program source line e) ∙ out j))
          c.gone;
    }

-- one that is gone is not active
gone_inactive : (source : Source) (depth i line : ℕ) → source.gone i ≡ Some line →
    is_active source depth i ≡ false
gone_inactive source depth i line e =
    ap (λ o. source.masks depth i && is_none o) e ∙ and-false (source.masks depth i)

gone_after : (program : ProgramData) (source : Source) (i line : ℕ) (found : Option Line) →
    slice_get program.lines source.at ≡ found → source.gone i ≡ Some line →
    (next program source).gone i ≡ Some line
unfolding next
gone_after program source i line None e gone =
    ap (λ s. s.gone i) (ap (λ o. elim o [
      | None ↦ source
      | Some found ↦ after_statement program found.number found.depth found.statement source
    ]) e) ∙ gone
gone_after program source i line (Some found) e gone =
    ap (λ s. s.gone i) (next_at program source found e)
    ∙ (statement_kept program found.number found.depth found.statement source i
    (gone_inactive source found.depth i line gone)).stays line gone

pub gone_for_good : GoneForGood
gone_for_good program source i line gone =
    gone_after program source i line (slice_get program.lines source.at) refl gone
