-- What is left of a line does to the flat state after its pieces what the line does to the state.
use Rattle.std.proofs.Common.{◌≡◌, ℕ, ◌+◌, ◌<◌, ◌==◌, ◌⊎◌, Bool, true, false}
use Rattle.std.proofs.Common.{◌&&◌, not, List, [], Option, Some, None, refl, sym, ap}
use Rattle.std.proofs.Common.{◌∙◌, subst, inl, inr, ⊎_elim, arith, if◌then◌else◌, length, unwrap_or}
use Rattle.std.specs.Prelude.{is_some, slice_get}
use Rattle.std.specs.Option.{option_map, option_and_then, option_or, is_none}
use Rattle.std.proofs.Math.Bool.{and-false}
use Rattle.std.proofs.lemmas.Bool.{cases_Bool}
use mathlib.Core.Path.{fun_ext}
use Rattle.pardo_program.specs.declared.statement.Line.{Line}
use Rattle.pardo_program.specs.declared.statement.Statement.{Statement}
use Rattle.pardo_program.specs.declared.statement.Statement.TheVariants.{Assign, If, Else, EndIf}
use Rattle.pardo_program.specs.declared.statement.Statement.TheVariants.{While, EndWhile, For}
use Rattle.pardo_program.specs.declared.statement.Statement.TheVariants.{EndFor}
use Rattle.pardo_program.specs.declared.statement.Target.TheVariants.{Private, Array as Shared}
use Rattle.pardo_program.specs.Expression.{Tree, number, own, loop, private, place, apply}
use Rattle.pardo_program.specs.Lawful.{Bounds, IsExpression, IsLine, IsProgram, IsStatement}
use Rattle.pardo_program.specs.Lawful.{bounds_of}
use Rattle.pardo_program.specs.Operations.{worked_out}
use Rattle.pardo_program.specs.Program.{ProgramData}
use Rattle.pardo_flat.specs.Statements.{statement_at}
use Rattle.pardo_flat.specs.Flat.{first_flat_of, fits, flat, has_room, is_for_all}
use Rattle.pardo_flat.specs.Flat.{last_line, last_of, last_pieces, line_parts, moved_statement}
use Rattle.pardo_flat.specs.Flat.{shape_of, split, split_bounds, split_statement, split_store}
use Rattle.pardo_flat.specs.Flat.{statement_parts, registers_taken}
use Rattle.pardo_flat.proofs.FlatLines.{flat_end, last_next, last_stands, last_is}
pub use Rattle.pardo_flat.proofs.FlatLines.{some_at}
use Rattle.pardo_job.specs.Meaning.{Source, value, array_cell, is_active, after_statement, losing}
use Rattle.pardo_job.specs.Meaning.{asked_in, chosen, common_value, given_to, first_below, has_none}
use Rattle.pardo_job.specs.Meaning.{abandoned, by_common, is_true, loop_ended, next_turn, on_to}
use Rattle.pardo_job.specs.Meaning.{otherwise}
use Rattle.pardo_job.specs.Meaning.{private_assigned, shared_assigned, loop_turned}
use Rattle.pardo_job.specs.Meaning.{value_written, write_of}
use Rattle.pardo_job.specs.Carries.{Shares, StandsFor}
use Rattle.pardo_law.proofs.Carrying.{all_at}
use Rattle.pardo_law.proofs.LoopPieces.{Held}
use Rattle.pardo_law.proofs.LoopPieces.{last_held}
use Rattle.pardo_law.proofs.Splitting.{NoneOf, Ran, ReadsBelow, SameBoth, active_there, after_pieces}
use Rattle.pardo_law.proofs.Splitting.{below_kept, beside_ran, cells_kept, gone_outside}
use Rattle.pardo_law.proofs.Splitting.{inactive_gone, loops_kept, masks_kept, reads_more}
use Rattle.pardo_law.proofs.Splitting.{split_ran, split_reads}

-- an expression of a lawful program reads the private variables of the text
pub expression_reads : (b : Bounds) (tree : Tree) → IsExpression b tree →
    ReadsBelow b.privates tree
expression_reads b (number k) is = tt
expression_reads b own is = tt
expression_reads b (loop nest) is = tt
expression_reads b (private x) is = is
expression_reads b (place array index) is = expression_reads b index is.1
expression_reads b (apply op first second) is =
    (expression_reads b first is.0, expression_reads b second is.1)

-- the first line of a loop
abbrev pub IsOpening : Statement → Type 0
IsOpening (While tree end) = Unit {0}
IsOpening (For nest first last up end) = Unit {0}
IsOpening statement = ⊥

if_same : {A : Type 0} (b : Bool) (x : A) → (if b then x else x) ≡ x
if_same true x = refl
if_same false x = refl

-- an expression of the text has its value in both states
pub value_shared : (program : ProgramData) (source flat_source : Source) (i : ℕ) →
    Shares program source flat_source → (tree : Tree) →
    IsExpression (bounds_of program) tree →
    value (flat program) flat_source i tree ≡ value program source i tree
value_shared program source flat_source i shares (number k) is = refl
value_shared program source flat_source i shares own is = refl
value_shared program source flat_source i shares (loop nest) is = ap Some (shares.loops nest is)
value_shared program source flat_source i shares (private x) is =
    ap Some (shares.privates x i is)
value_shared program source flat_source i shares (place array index) is =
    ap (option_and_then (λ k. option_map flat_source.cells (array_cell program array k)))
    (value_shared program source flat_source i shares index is.1)
    ∙ ap (λ (f : ℕ → ℕ). option_and_then (λ k. option_map f (array_cell program array k))
    (value program source i index)) shares.cells
value_shared program source flat_source i shares (apply op first second) is =
    ap (λ v. option_and_then (λ a. option_and_then (worked_out op a) v)
    (value (flat program) flat_source i first))
    (value_shared program source flat_source i shares second is.1)
    ∙ ap (option_and_then (λ a. option_and_then (worked_out op a) (value program source i second)))
    (value_shared program source flat_source i shares first is.0)

module _ (program : ProgramData) (source flat_source : Source)
    (shares : Shares program source flat_source) (same_gone : flat_source.gone ≡ source.gone)
    (text_line depth : ℕ) where
  abbrev pub other : ProgramData
  other = flat program

  abbrev pub base : ℕ
  base = length program.privates

  abbrev Reads : Tree → Type 0
  Reads tree = IsExpression (bounds_of program) tree

  same_value : (i : ℕ) (tree : Tree) → Reads tree →
      value other flat_source i tree ≡ value program source i tree
  same_value i tree is = value_shared program source flat_source i shares tree is

  active_same : (i : ℕ) → is_active flat_source depth i ≡ is_active source depth i
  active_same i =
      ap (λ (m : ℕ → ℕ → Bool). m depth i && is_none (flat_source.gone i)) shares.masks
      ∙ ap (λ (g : ℕ → Option ℕ). source.masks depth i && is_none (g i)) same_gone

  -- ---- a line with pieces

  module _ (pieces : List Tree) where
    abbrev now : Source
    now = after_pieces other text_line depth base pieces flat_source

    -- a processor that is not active
    record Outside (i : ℕ) : Type 0 where
      before : is_active source depth i ≡ false
      after : is_active now depth i ≡ false
      same : now.gone i ≡ source.gone i

    -- one that is, still after the pieces
    record Stays (i : ℕ) (G : Type 0) : Type 0 where
      before : is_active source depth i ≡ true
      after : is_active now depth i ≡ true
      holds : G

    -- one that is gone in them
    record Leaves (i : ℕ) (N : Type 0) : Type 0 where
      before : is_active source depth i ≡ true
      after : is_active now depth i ≡ false
      gone : now.gone i ≡ Some text_line
      reason : N

    abbrev Case : ℕ → Type 0 → Type 0 → Type 0
    Case i G N = Outside i ⊎ (Stays i G ⊎ Leaves i N)

    case_of : (i : ℕ) (G : Source → Type 0) (H N M : Type 0) → (G now → H) → (N → M) →
        (is_active flat_source depth i ≡ true →
        Ran other text_line depth i base pieces flat_source G N) →
        Case i H M
    case_of i G H N M holds reason runs = ⊎_elim
        (λ (on : is_active source depth i ≡ true). ⊎_elim
        (λ (still : (is_active now depth i ≡ true) × G now).
        inr (inl (record { before = on; after = still.0; holds = holds still.1 })))
        (λ (left : (now.gone i ≡ Some text_line) × N).
        inr (inr (record {
          before = on;
          after = inactive_gone now depth i text_line left.0;
          gone = left.0;
          reason = reason left.1;
        })))
        (runs (active_same i ∙ on)))
        (λ (off : is_active source depth i ≡ false).
        let was : is_active flat_source depth i ≡ false = active_same i ∙ off in
        let kept = gone_outside other text_line depth base pieces flat_source i was in
        inl (record {
          before = off;
          after = ap (λ (m : ℕ → ℕ → Bool). m depth i && is_none (now.gone i))
              (masks_kept other text_line depth base pieces flat_source)
              ∙ ap (λ g. flat_source.masks depth i && is_none g) kept ∙ was;
          same = kept ∙ ap (λ (g : ℕ → Option ℕ). g i) same_gone;
        }))
        (cases_Bool (is_active source depth i))

    -- what is chosen by whether a processor is active, and by a value
    picks : (A B : Type 0) (v w : Option A) (i : ℕ) (K : Bool → Option A → B) (rest : B) →
        ((u : Option A) → K false u ≡ rest) → K true None ≡ rest → Case i (v ≡ w) (w ≡ None) →
        K (is_active now depth i) v ≡ K (is_active source depth i) w
    picks A B v w i K rest off none (inl out) =
        ap (λ a. K a v) out.after ∙ off v ∙ sym (off w) ∙ sym (ap (λ a. K a w) out.before)
    picks A B v w i K rest off none (inr (inl on)) =
        ap (λ a. K a v) on.after ∙ ap (K true) on.holds ∙ sym (ap (λ a. K a w) on.before)
    picks A B v w i K rest off none (inr (inr left)) =
        ap (λ a. K a v) left.after ∙ off v ∙ sym none ∙ sym (ap (K true) left.reason)
        ∙ sym (ap (λ a. K a w) left.before)

    -- who has no value is gone, in the line or in its pieces
    loses : (A : Type 0) (v w : ℕ → Option A) (i : ℕ) → Case i (v i ≡ w i) (w i ≡ None) →
        losing text_line depth (λ j. is_some (v j)) now i
        ≡ losing text_line depth (λ j. is_some (w j)) source i
    loses A v w i (inl out) =
        ap (λ a. if a && not (is_some (v i)) then Some text_line else now.gone i) out.after
        ∙ out.same
        ∙ sym (ap (λ a. if a && not (is_some (w i)) then Some text_line else source.gone i)
        out.before)
    loses A v w i (inr (inl on)) =
        ap (λ a. if a && not (is_some (v i)) then Some text_line else now.gone i) on.after
        ∙ ap (λ u. if not (is_some u) then Some text_line else now.gone i) on.holds
        ∙ ap (λ g. if not (is_some (w i)) then Some text_line else g)
        (active_there now depth i on.after ∙ sym (active_there source depth i on.before))
        ∙ sym (ap (λ a. if a && not (is_some (w i)) then Some text_line else source.gone i)
        on.before)
    loses A v w i (inr (inr left)) =
        ap (λ a. if a && not (is_some (v i)) then Some text_line else now.gone i) left.after
        ∙ left.gone
        ∙ sym (ap (λ u. if not (is_some u) then Some text_line else source.gone i) left.reason)
        ∙ sym (ap (λ a. if a && not (is_some (w i)) then Some text_line else source.gone i)
        left.before)

    now_cells : now.cells ≡ source.cells
    now_cells =
        cells_kept other text_line depth base pieces flat_source ∙ shares.cells

    now_loops : (nest : ℕ) → nest < program.loops → now.loops nest ≡ source.loops nest
    now_loops nest lt =
        ap (λ (l : ℕ → ℕ). l nest) (loops_kept other text_line depth base pieces flat_source)
        ∙ shares.loops nest lt

    now_masks : now.masks ≡ source.masks
    now_masks =
        masks_kept other text_line depth base pieces flat_source ∙ shares.masks

    now_privates : (x i : ℕ) → x < base → now.privates x i ≡ source.privates x i
    now_privates x i lt =
        below_kept other text_line depth base pieces flat_source x i lt
        ∙ shares.privates x i lt

    pub now_shares : Shares program source now
    now_shares = record {
      cells = now_cells;
      loops = now_loops;
      masks = now_masks;
      privates = now_privates;
    }

    -- for each active processor what is left of an expression has its value after the pieces
    abbrev Runs : Tree → Tree → Type 0
    Runs tree rest = (i : ℕ) → is_active flat_source depth i ≡ true →
        Ran other text_line depth i base pieces flat_source
        (λ s. value other s i rest ≡ value other flat_source i tree)
        (value other flat_source i tree ≡ None)

    case_value : (tree rest : Tree) → Reads tree → Runs tree rest → (i : ℕ) →
        Case i (value other now i rest ≡ value program source i tree)
        (value program source i tree ≡ None)
    case_value tree rest reads runs i = case_of i
        (λ s. value other s i rest ≡ value other flat_source i tree)
        (value other now i rest ≡ value program source i tree)
        (value other flat_source i tree ≡ None) (value program source i tree ≡ None)
        (λ e. e ∙ same_value i tree reads) (λ e. sym (same_value i tree reads) ∙ e) (runs i)

    lost_same : (tree rest : Tree) → Reads tree → Runs tree rest →
        ◌≡◌ {A = ℕ → Option ℕ}
        (λ i. losing text_line depth (λ j. is_some (value other now j rest)) now i)
        (λ i. losing text_line depth (λ j. is_some (value program source j tree)) source i)
    lost_same tree rest reads runs = fun_ext (λ i. loses ℕ (λ j. value other now j rest)
        (λ j. value program source j tree) i (case_value tree rest reads runs i))

    private_stands : (x : ℕ) (tree rest : Tree) → Reads tree → Runs tree rest →
        now.at + 1 ≡ first_flat_of program (source.at + 1) →
        StandsFor program
        (on_to (source.at + 1) (private_assigned program text_line depth x tree source))
        (on_to (now.at + 1) (private_assigned other text_line depth x rest now))
    private_stands x tree rest reads runs leads = record {
      shares = record {
        cells = now_cells;
        loops = now_loops;
        masks = now_masks;
        privates = λ y i lt.
            ap (λ p. if (y == x) && is_active now depth i
            then unwrap_or (value other now i rest) p else p) (now_privates y i lt)
            ∙ picks ℕ ℕ (value other now i rest) (value program source i tree) i
            (λ a v. if (y == x) && a then unwrap_or v (source.privates y i)
            else source.privates y i) (source.privates y i)
            (λ v. ap (λ b. if b then unwrap_or v (source.privates y i)
            else source.privates y i) (and-false (y == x)))
            (if_same ((y == x) && true) (source.privates y i))
            (case_value tree rest reads runs i);
      };
      gone = lost_same tree rest reads runs;
      at = leads;
    }

    choice_stands : (tree rest : Tree) → Reads tree → Runs tree rest →
        now.at + 1 ≡ first_flat_of program (source.at + 1) →
        StandsFor program (on_to (source.at + 1) (chosen program text_line depth tree source))
        (on_to (now.at + 1) (chosen other text_line depth rest now))
    choice_stands tree rest reads runs leads = record {
      shares = record {
        cells = now_cells;
        loops = now_loops;
        masks = ap (λ (m : ℕ → ℕ → Bool). λ d i. if d == depth + 1
            then is_active now depth i && is_true (value other now i rest) else m d i) now_masks
            ∙ fun_ext (λ d. fun_ext (λ i. ap (λ b. if d == depth + 1 then b else source.masks d i)
            (picks ℕ Bool (value other now i rest) (value program source i tree) i
            (λ a v. a && is_true v) false (λ v. refl) refl
            (case_value tree rest reads runs i))));
        privates = now_privates;
      };
      gone = lost_same tree rest reads runs;
      at = leads;
    }

    -- ---- an assignment to a leads

    abbrev RunBoth : Tree → Tree → Tree → Tree → Type 0
    RunBoth tree index rest rest_index = (i : ℕ) → is_active flat_source depth i ≡ true →
        Ran other text_line depth i base pieces flat_source
        (SameBoth other text_line depth i rest rest_index tree index flat_source)
        (NoneOf other text_line depth i tree index flat_source)

    write_same : (array i : ℕ) (tree index rest rest_index : Tree) → Reads tree →
        Reads index →
        SameBoth other text_line depth i rest rest_index tree index flat_source now →
        write_of other now array i rest_index rest ≡ write_of program source array i index tree
    write_same array i tree index rest rest_index reads reads_index same =
        ap (λ v. option_and_then (λ w. option_map {U = ℕ × ℕ} (λ cell. (cell, w))
        (option_and_then (array_cell program array) (value other now i rest_index))) v)
        (same.0 ∙ same_value i tree reads)
        ∙ ap (λ v. option_and_then (λ w. option_map {U = ℕ × ℕ} (λ cell. (cell, w))
        (option_and_then (array_cell program array) v)) (value program source i tree))
        (same.1 ∙ same_value i index reads_index)

    never : (v : Option ℕ) →
        option_and_then {U = ℕ × ℕ} (λ w. option_map {U = ℕ × ℕ} (λ cell. (cell, w)) None) v
        ≡ None
    never None = refl
    never (Some w) = refl

    write_none : (array i : ℕ) (tree index : Tree) → Reads tree →
        Reads index → NoneOf other text_line depth i tree index flat_source →
        write_of program source array i index tree ≡ None
    write_none array i tree index reads reads_index (inl none) =
        ap (λ v. option_and_then (λ w. option_map {U = ℕ × ℕ} (λ cell. (cell, w))
        (option_and_then (array_cell program array) (value program source i index))) v)
        (sym (same_value i tree reads) ∙ none)
    write_none array i tree index reads reads_index (inr none) =
        ap (λ v. option_and_then (λ w. option_map {U = ℕ × ℕ} (λ cell. (cell, w))
        (option_and_then (array_cell program array) v)) (value program source i tree))
        (sym (same_value i index reads_index) ∙ none) ∙ never (value program source i tree)

    case_write : (array : ℕ) (tree index rest rest_index : Tree) → Reads tree →
        Reads index → RunBoth tree index rest rest_index → (i : ℕ) →
        Case i (write_of other now array i rest_index rest
        ≡ write_of program source array i index tree)
        (write_of program source array i index tree ≡ None)
    case_write array tree index rest rest_index reads reads_index runs i = case_of i
        (SameBoth other text_line depth i rest rest_index tree index flat_source)
        (write_of other now array i rest_index rest ≡ write_of program source array i index tree)
        (NoneOf other text_line depth i tree index flat_source)
        (write_of program source array i index tree ≡ None)
        (write_same array i tree index rest rest_index reads reads_index)
        (write_none array i tree index reads reads_index) (runs i)

    asked_same : (array : ℕ) (tree index rest rest_index : Tree) → Reads tree →
        Reads index → RunBoth tree index rest rest_index → (i : ℕ) →
        asked_in other now depth (Assign (Shared array rest_index) rest) i
        ≡ asked_in program source depth (Assign (Shared array index) tree) i
    asked_same array tree index rest rest_index reads reads_index runs i =
        picks (ℕ × ℕ) (Option (ℕ × ℕ)) (write_of other now array i rest_index rest)
        (write_of program source array i index tree) i (λ a v. if a then v else None) None
        (λ v. refl) refl (case_write array tree index rest rest_index reads reads_index runs i)

    shared_stands : (array : ℕ) (tree index rest rest_index : Tree) → Reads tree →
        Reads index → RunBoth tree index rest rest_index →
        now.at + 1 ≡ first_flat_of program (source.at + 1) →
        StandsFor program
        (on_to (source.at + 1) (shared_assigned program text_line depth array index tree source))
        (on_to (now.at + 1) (shared_assigned other text_line depth array rest_index rest now))
    shared_stands array tree index rest rest_index reads reads_index runs leads = record {
      shares = record {
        cells = ap (value_written other now)
            (fun_ext (asked_same array tree index rest rest_index reads reads_index runs))
            ∙ ap (λ (c : ℕ → ℕ). λ cell. unwrap_or (first_below program.procs
            (λ i. given_to cell (asked_in program source depth
            (Assign (Shared array index) tree) i))) (c cell)) now_cells;
        loops = now_loops;
        masks = now_masks;
        privates = now_privates;
      };
      gone = fun_ext (λ i. loses (ℕ × ℕ) (λ j. write_of other now array j rest_index rest)
          (λ j. write_of program source array j index tree) i
          (case_write array tree index rest rest_index reads reads_index runs i));
      at = leads;
    }

  -- ---- lines without pieces

  jump : (a b : ℕ) → b ≡ first_flat_of program a →
      StandsFor program (on_to a source) (on_to b flat_source)
  jump a b leads = record {
    shares = record {
      cells = shares.cells;
      loops = shares.loops;
      masks = shares.masks;
      privates = shares.privates;
    };
    gone = same_gone;
    at = leads;
  }

  turn : (nest v w a b : ℕ) → w ≡ v → b ≡ first_flat_of program a →
      StandsFor program (on_to a (loop_turned nest v source)) (on_to b (loop_turned nest w flat_source))
  turn nest v w a b same leads = record {
    shares = record {
      cells = shares.cells;
      loops = λ n lt. ap (λ u. if n == nest then u else flat_source.loops n) same
          ∙ ap (λ u. if n == nest then v else u) (shares.loops n lt);
      masks = shares.masks;
      privates = shares.privates;
    };
    gone = same_gone;
    at = leads;
  }

  else_stands : flat_source.at + 1 ≡ first_flat_of program (source.at + 1) →
      StandsFor program (on_to (source.at + 1) (otherwise depth source))
      (on_to (flat_source.at + 1) (otherwise depth flat_source))
  else_stands leads = record {
    shares = record {
      cells = shares.cells;
      loops = shares.loops;
      masks = ap (λ (m : ℕ → ℕ → Bool). λ d i. if d == depth + 1
          then m depth i && not (m d i) else m d i) shares.masks;
      privates = shares.privates;
    };
    gone = same_gone;
    at = leads;
  }

  either : (b c : Bool) (x y z w : Source) → c ≡ b → StandsFor program x z →
      StandsFor program y w → StandsFor program (if b then x else y) (if c then z else w)
  either true c x y z w same first second =
      subst (λ b. StandsFor program x (if b then z else w)) (sym same) first
  either false c x y z w same first second =
      subst (λ b. StandsFor program y (if b then z else w)) (sym same) second

  same_common : (tree : Tree) → Reads tree →
      common_value other flat_source tree ≡ common_value program source tree
  same_common tree is = same_value 0 tree is

  -- where all are gone both programs are over
  pub over_stands : StandsFor program (abandoned program text_line source)
      (abandoned other text_line flat_source)
  over_stands = record {
    shares = record {
      cells = shares.cells;
      loops = shares.loops;
      masks = shares.masks;
      privates = shares.privates;
    };
    gone = ap (λ (g : ℕ → Option ℕ). λ i. option_or (g i) (Some text_line)) same_gone;
    at = flat_end program;
  }

  common_stands : (mine others : Option ℕ) → others ≡ mine → (goes other_goes : ℕ → Source) →
      ((v : ℕ) → StandsFor program (goes v) (other_goes v)) →
      StandsFor program (by_common program text_line source mine goes)
      (by_common other text_line flat_source others other_goes)
  common_stands mine others same goes other_goes each =
      subst (λ o. StandsFor program (by_common program text_line source mine goes)
      (by_common other text_line flat_source o other_goes)) (sym same) (by_value mine)
    where
      by_value : (o : Option ℕ) → StandsFor program (by_common program text_line source o goes)
          (by_common other text_line flat_source o other_goes)
      by_value None = over_stands
      by_value (Some v) = each v

  after_last : (end : ℕ) → end < length program.lines →
      last_of program end + 1 ≡ first_flat_of program (end + 1)
  after_last end lt =
      let line = some_at program.lines end lt in last_next program end line.0 line.1

  -- ---- lines of loops, of which these are left

  pub while_stands : (tree rest : Tree) (end : ℕ) → end < length program.lines →
      common_value other flat_source rest ≡ common_value program source tree →
      flat_source.at + 1 ≡ first_flat_of program (source.at + 1) →
      StandsFor program (after_statement program text_line depth (While tree end) source)
      (after_statement other text_line depth (While rest (last_of program end)) flat_source)
  while_stands tree rest end lt same leads =
      common_stands (common_value program source tree) (common_value other flat_source rest) same
      _ _ (λ v. either (v == 0) (v == 0)
      (on_to (end + 1) source) (on_to (source.at + 1) source)
      (on_to (last_of program end + 1) flat_source) (on_to (flat_source.at + 1) flat_source)
      refl (jump (end + 1) (last_of program end + 1) (after_last end lt))
      (jump (source.at + 1) (flat_source.at + 1) leads))

  pub for_stands : (nest : ℕ) (first last low high : Tree) (up : Bool) (end : ℕ) →
      end < length program.lines →
      common_value other flat_source low ≡ common_value program source first →
      common_value other flat_source high ≡ common_value program source last →
      flat_source.at + 1 ≡ first_flat_of program (source.at + 1) →
      StandsFor program
      (after_statement program text_line depth (For nest first last up end) source)
      (after_statement other text_line depth (For nest low high up (last_of program end))
      flat_source)
  for_stands nest first last low high up end lt same same_too leads =
      common_stands (common_value program source first) (common_value other flat_source low) same
      _ _ (λ a.
      common_stands (common_value program source last) (common_value other flat_source high)
      same_too _ _ (λ b.
      either (has_none up a b) (has_none up a b)
      (on_to (end + 1) source) (on_to (source.at + 1) (loop_turned nest a source))
      (on_to (last_of program end + 1) flat_source)
      (on_to (flat_source.at + 1) (loop_turned nest a flat_source)) refl
      (jump (end + 1) (last_of program end + 1) (after_last end lt))
      (turn nest a a (source.at + 1) (flat_source.at + 1) refl leads)))

  -- the end of a loop, by its first line
  for_ended : (begin nest : ℕ) (first last low high : Tree) (up : Bool) (end : ℕ) →
      begin < length program.lines → end < length program.lines → nest < program.loops →
      common_value other flat_source high ≡ common_value program source last →
      StandsFor program
      (loop_ended program text_line begin (For nest first last up end) source)
      (loop_ended other text_line (last_of program begin)
      (For nest low high up (last_of program end)) flat_source)
  for_ended begin nest first last low high up end before lt within same_last =
      let same : flat_source.loops nest ≡ source.loops nest = shares.loops nest within in
      common_stands (common_value program source last) (common_value other flat_source high)
      same_last _ _ (λ b.
      either (source.loops nest == b) (flat_source.loops nest == b)
      (on_to (end + 1) source)
      (on_to (begin + 1) (loop_turned nest (next_turn up (source.loops nest)) source))
      (on_to (last_of program end + 1) flat_source)
      (on_to (last_of program begin + 1)
      (loop_turned nest (next_turn up (flat_source.loops nest)) flat_source))
      (ap (λ n. n == b) same)
      (jump (end + 1) (last_of program end + 1) (after_last end lt))
      (turn nest (next_turn up (source.loops nest)) (next_turn up (flat_source.loops nest))
      (begin + 1) (last_of program begin + 1) (ap (next_turn up) same)
      (after_last begin before)))

  stays : (k : ℕ) → k ≡ 0 → flat_source.at ≡ first_flat_of program source.at + k →
      StandsFor program source flat_source
  stays k none at = record {
    shares = record {
      cells = shares.cells;
      loops = shares.loops;
      masks = shares.masks;
      privates = shares.privates;
    };
    gone = same_gone;
    at = omega (arith, none, at);
  }

  abbrev LoopStands : ℕ → Statement → Statement → Type 0
  LoopStands begin opener rest =
      StandsFor program (loop_ended program text_line begin opener source)
      (loop_ended other text_line (last_of program begin) (moved_statement program rest) flat_source)

  -- the pieces of its last bound have their values
  abbrev BoundHeld : Statement → Bool → Type 0
  BoundHeld opener level = Held other flat_source program.loops
      (if level then [] else last_pieces program opener)

  -- and it stands after them
  abbrev BoundAt : Statement → Bool → Type 0
  BoundAt opener level = flat_source.at ≡ first_flat_of program source.at
      + length (if level then [] else last_pieces program opener)

  by_level : (begin : ℕ) (level : Bool) (opener : Statement) → begin < length program.lines →
      IsStatement (bounds_of program) opener → BoundHeld opener level → BoundAt opener level →
      LoopStands begin opener
      (if level then ([], opener) else split_statement program opener).1
  by_level begin true (For nest first last up end) before is held at =
      for_ended begin nest first last first last up end before is.3 is.0 (same_common last is.2.0)
  by_level begin false (For nest first last up end) before is held at =
      let parts = split_bounds program.loops first last in
      for_ended begin nest first last parts.1 parts.2 up end before is.3 is.0
      (last_held other flat_source program.loops last held ∙ same_common last is.2.0)
  by_level begin true (Assign target tree) before is held at = stays 0 refl at
  by_level begin true (If tree) before is held at = stays 0 refl at
  by_level begin true Else before is held at = stays 0 refl at
  by_level begin true EndIf before is held at = stays 0 refl at
  by_level begin true (While tree end) before is held at = stays 0 refl at
  by_level begin true (EndWhile line) before is held at = stays 0 refl at
  by_level begin true (EndFor line) before is held at = stays 0 refl at
  by_level begin false (Assign (Private x) tree) before is held at = stays 0 refl at
  by_level begin false (Assign (Shared array index) tree) before is held at = stays 0 refl at
  by_level begin false (If tree) before is held at = stays 0 refl at
  by_level begin false Else before is held at = stays 0 refl at
  by_level begin false EndIf before is held at = stays 0 refl at
  by_level begin false (While tree end) before is held at = stays 0 refl at
  by_level begin false (EndWhile line) before is held at = stays 0 refl at
  by_level begin false (EndFor line) before is held at = stays 0 refl at

  loop_stands : (begin : ℕ) (opener : Statement) → begin < length program.lines →
      IsStatement (bounds_of program) opener → BoundHeld opener (fits opener) →
      BoundAt opener (fits opener) →
      LoopStands begin opener (statement_parts program opener).1
  loop_stands begin (For nest first last up end) before is held at =
      by_level begin (fits (For nest first last up end)) (For nest first last up end) before is held
      at
  loop_stands begin (Assign target tree) before is held at =
      by_level begin (fits (Assign target tree)) (Assign target tree) before is held at
  loop_stands begin (If tree) before is held at =
      by_level begin (fits (If tree)) (If tree) before is held at
  loop_stands begin (While tree end) before is held at =
      by_level begin (fits (While tree end)) (While tree end) before is held at
  loop_stands begin Else before is held at = stays 0 refl at
  loop_stands begin EndIf before is held at = stays 0 refl at
  loop_stands begin (EndWhile line) before is held at = stays 0 refl at
  loop_stands begin (EndFor line) before is held at = stays 0 refl at

  -- the end of a loop
  pub turns_stand : (begin : ℕ) → begin < length program.lines → IsProgram program →
      BoundHeld (statement_at program begin) (fits (statement_at program begin)) →
      BoundAt (statement_at program begin) (fits (statement_at program begin)) →
      StandsFor program (after_statement program text_line depth (EndFor begin) source)
      (after_statement other text_line depth (EndFor (last_of program begin)) flat_source)
  turns_stand begin before lawful held at =
      let line = some_at program.lines begin before in
      let is : IsLine (bounds_of program) line.0 =
      all_at (IsLine (bounds_of program)) program.lines begin line.0 lawful.lines line.1 in
      let was : statement_at program begin ≡ line.0.statement =
      ap (λ (o : Option Line). elim o as (λ (x : Option Line). Statement)
      [ None ↦ EndIf | Some l ↦ l.statement ]) line.1 in
      let here : slice_get other.lines (last_of program begin)
      ≡ Some (last_line program line.0) =
      ap (slice_get other.lines) (last_is program begin line.0 line.1)
      ∙ last_stands program begin line.0 line.1 in
      let same : statement_at other (last_of program begin)
      ≡ moved_statement program (line_parts program line.0).1 =
      ap (λ (o : Option Line). elim o as (λ (x : Option Line). Statement)
      [ None ↦ EndIf | Some l ↦ l.statement ]) here in
      subst (λ s. StandsFor program (loop_ended program text_line begin s source)
      (loop_ended other text_line (last_of program begin)
      (statement_at other (last_of program begin)) flat_source)) (sym was)
      (subst (λ s. StandsFor program
      (loop_ended program text_line begin line.0.statement source)
      (loop_ended other text_line (last_of program begin) s flat_source)) (sym same)
      (loop_stands begin line.0.statement before is.0
      (subst (λ s. BoundHeld s (fits s)) was held) (subst (λ s. BoundAt s (fits s)) was at)))

  -- ---- all lines

  abbrev LineStands : Statement → List Tree × Statement → Type 0
  LineStands statement parts =
      (after_pieces other text_line depth base parts.0 flat_source).at + 1
      ≡ first_flat_of program (source.at + 1) →
      StandsFor program (after_statement program text_line depth statement source)
      (after_statement other text_line depth (moved_statement program parts.1)
      (after_pieces other text_line depth base parts.0 flat_source))
      × ((i : ℕ) → asked_in other (after_pieces other text_line depth base parts.0 flat_source) depth
      (moved_statement program parts.1) i ≡ asked_in program source depth statement i)

  plain_stands : (statement : Statement) → is_for_all statement ≡ false →
      IsStatement (bounds_of program) statement → LineStands statement ([], statement)
  plain_stands (Assign (Private x) tree) plain is leads = (
    private_stands [] x tree tree is.1 (λ i active. inl (active, refl)) leads,
    λ i. refl,
  )
  plain_stands (Assign (Shared array index) tree) plain is leads =
      let runs : RunBoth [] tree index tree index = λ i active. inl (active, (refl, refl)) in (
        shared_stands [] array tree index tree index is.1 is.0.1 runs leads,
        asked_same [] array tree index tree index is.1 is.0.1 runs,
      )
  plain_stands (If tree) plain is leads = (
    choice_stands [] tree tree is (λ i active. inl (active, refl)) leads,
    λ i. refl,
  )
  plain_stands Else plain is leads = (else_stands leads, λ i. refl)
  plain_stands EndIf plain is leads =
      (jump (source.at + 1) (flat_source.at + 1) leads, λ i. refl)
  plain_stands (EndWhile begin) plain is leads =
      (jump begin (first_flat_of program begin) refl, λ i. refl)
  plain_stands (While tree end) plain is leads =
      absurd (let no : true ≡ false = plain in cc)
  plain_stands (For nest first last up end) plain is leads =
      absurd (let no : true ≡ false = plain in cc)
  plain_stands (EndFor begin) plain is leads = absurd (let no : true ≡ false = plain in cc)

  reads_of : (tree : Tree) → Reads tree → ReadsBelow base tree
  reads_of tree is = expression_reads (bounds_of program) tree is

  split_stands : (statement : Statement) → is_for_all statement ≡ false →
      IsStatement (bounds_of program) statement →
      LineStands statement (split_statement program statement)
  split_stands (Assign (Private x) tree) plain is leads =
      let parts = split false base tree in (
        private_stands parts.0 x tree parts.1 is.1
            (λ i active. split_ran other text_line depth i base tree (reads_of tree is.1)
            flat_source active) leads,
        λ i. refl,
      )
  split_stands (Assign (Shared array index) tree) plain is leads =
      let value_parts = split false base tree in
      let u = base + length value_parts.0 in
      let index_parts = split false u index in
      let room = has_room (registers_taken (shape_of value_parts.1)) (shape_of index) in
      let parts = split_store base tree index in
      let reads = reads_of tree is.1 in
      let reads_index = reads_of index is.0.1 in
      let runs : RunBoth parts.0 tree index parts.1 parts.2 = λ i active.
      beside_ran other text_line depth i base room value_parts index_parts tree index flat_source
      (split_reads base tree reads) reads_index
      (split_ran other text_line depth i base tree reads flat_source active)
      (λ mid still. split_ran other text_line depth i u index
      (reads_more base u index (omega arith) reads_index) mid still) in (
        shared_stands parts.0 array tree index parts.1 parts.2 is.1 is.0.1 runs leads,
        asked_same parts.0 array tree index parts.1 parts.2 is.1 is.0.1 runs,
      )
  split_stands (If tree) plain is leads =
      let parts = split false base tree in (
        choice_stands parts.0 tree parts.1 is
            (λ i active. split_ran other text_line depth i base tree (reads_of tree is) flat_source
            active) leads,
        λ i. refl,
      )
  split_stands Else plain is leads = plain_stands Else plain is leads
  split_stands EndIf plain is leads = plain_stands EndIf plain is leads
  split_stands (EndWhile begin) plain is leads = plain_stands (EndWhile begin) plain is leads
  split_stands (While tree end) plain is leads =
      absurd (let no : true ≡ false = plain in cc)
  split_stands (For nest first last up end) plain is leads =
      absurd (let no : true ≡ false = plain in cc)
  split_stands (EndFor begin) plain is leads = absurd (let no : true ≡ false = plain in cc)

  level_stands : (level : Bool) (statement : Statement) → is_for_all statement ≡ false →
      IsStatement (bounds_of program) statement →
      LineStands statement
      (if level then ([], statement) else split_statement program statement)
  level_stands true statement plain is = plain_stands statement plain is
  level_stands false statement plain is = split_stands statement plain is

  -- a line that is not one of a loop
  pub line_stands : (statement : Statement) → is_for_all statement ≡ false →
      IsStatement (bounds_of program) statement →
      LineStands statement (statement_parts program statement)
  line_stands (Assign target tree) plain is =
      level_stands (fits (Assign target tree)) (Assign target tree) plain is
  line_stands (If tree) plain is = level_stands (fits (If tree)) (If tree) plain is
  line_stands Else plain is = plain_stands Else plain is
  line_stands EndIf plain is = plain_stands EndIf plain is
  line_stands (EndWhile begin) plain is = plain_stands (EndWhile begin) plain is
  line_stands (While tree end) plain is = absurd (let no : true ≡ false = plain in cc)
  line_stands (For nest first last up end) plain is =
      absurd (let no : true ≡ false = plain in cc)
  line_stands (EndFor begin) plain is = absurd (let no : true ≡ false = plain in cc)
