-- What is left of an expression has its value after the pieces, for each active processor.
use Rattle.std.proofs.Common.{◌≡◌, ℕ, ◌+◌, ◌<◌, ◌≤◌, ◌⊎◌, Bool, true, false}
use Rattle.std.proofs.Common.{◌&&◌, not, List, [], ◌∷◌, ◌++◌, Option, Some, None, refl, sym, ap}
use Rattle.std.proofs.Common.{◌∙◌, subst, inl, inr, ⊎_elim, arith, if◌then◌else◌, length, unwrap_or}
use Rattle.std.proofs.Common.{length-append}
use Rattle.std.specs.Prelude.{is_some}
use Rattle.std.specs.Option.{option_map, option_and_then, is_none}
use Rattle.std.proofs.Math.Bool.{and-false}
use Rattle.std.proofs.lemmas.Bool.{eq-eqb, ne_eqb}
use mathlib.Core.Path.{fun_ext}
use Rattle.pardo_program.specs.declared.statement.Statement.TheVariants.{Assign}
use Rattle.pardo_program.specs.declared.statement.Target.TheVariants.{Private}
use Rattle.pardo_program.specs.declared.operation.Op.{Op}
use Rattle.pardo_program.specs.Expression.{Tree, number, own, loop, private, place, apply}
use Rattle.pardo_program.specs.Operations.{worked_out}
use Rattle.pardo_program.specs.Program.{ProgramData}
use Rattle.pardo_flat.specs.Flat.{beside, is_beside, shape_of, split}
use Rattle.pardo_job.specs.Meaning.{Source, value, array_cell, is_active, after_statement}

-- ---- what an expression reads

-- private variables below a text_line
abbrev pub ReadsBelow : ℕ → Tree → Type 0
ReadsBelow n (number k) = Unit {0}
ReadsBelow n own = Unit {0}
ReadsBelow n (loop nest) = Unit {0}
ReadsBelow n (private x) = x < n
ReadsBelow n (place array index) = ReadsBelow n index
ReadsBelow n (apply op first second) = ReadsBelow n first × ReadsBelow n second

pub reads_more : (n m : ℕ) (tree : Tree) → n ≤ m → ReadsBelow n tree → ReadsBelow m tree
reads_more n m (number k) le reads = tt
reads_more n m own le reads = tt
reads_more n m (loop nest) le reads = tt
reads_more n m (private x) le reads = omega (arith, reads)
reads_more n m (place array index) le reads = reads_more n m index le reads
reads_more n m (apply op first second) le reads =
    (reads_more n m first le reads.0, reads_more n m second le reads.1)

-- what it reads is the same in both states
pub record Alike (source now : Source) (i n : ℕ) : Type 0 where
  pub cells : now.cells ≡ source.cells
  pub loops : now.loops ≡ source.loops
  pub privates : (x : ℕ) → x < n → now.privates x i ≡ source.privates x i

pub value_alike : (program other : ProgramData) (source now : Source) (i n : ℕ) →
    ((array k : ℕ) → array_cell other array k ≡ array_cell program array k) →
    Alike source now i n → (tree : Tree) → ReadsBelow n tree →
    value other now i tree ≡ value program source i tree
value_alike program other source now i n arrays alike (number k) reads = refl
value_alike program other source now i n arrays alike own reads = refl
value_alike program other source now i n arrays alike (loop nest) reads =
    ap (λ (f : ℕ → ℕ). Some (f nest)) alike.loops
value_alike program other source now i n arrays alike (private x) reads =
    ap Some (alike.privates x reads)
value_alike program other source now i n arrays alike (place array index) reads =
    ap (option_and_then (λ k. option_map now.cells (array_cell other array k)))
    (value_alike program other source now i n arrays alike index reads)
    ∙ ap (λ (f : ℕ → Option ℕ). option_and_then f (value program source i index))
    (fun_ext (λ k. ap (option_map now.cells) (arrays array k)
    ∙ ap (λ (f : ℕ → ℕ). option_map f (array_cell program array k)) alike.cells))
value_alike program other source now i n arrays alike (apply op first second) reads =
    ap (λ v. option_and_then (λ a. option_and_then (worked_out op a) v) (value other now i first))
    (value_alike program other source now i n arrays alike second reads.1)
    ∙ ap (option_and_then (λ a. option_and_then (worked_out op a) (value program source i second)))
    (value_alike program other source now i n arrays alike first reads.0)

-- ---- what is left of an expression reads what it read, and the variables of its pieces

-- by whether the second expression is a piece
beside_reads : (t : ℕ) (room : Bool) (first second : List Tree × Tree) →
    ReadsBelow (t + length first.0) first.1 →
    ReadsBelow (t + length first.0 + length second.0) second.1 →
    ReadsBelow (t + length (beside false t room first second).0) (beside false t room first second).1
    × ReadsBelow (t + length (beside false t room first second).0) (beside false t room first second).2
beside_reads t true first second reads too =
    let long = length-append first.0 second.0 in (
      reads_more (t + length first.0) (t + length (first.0 ++ second.0)) first.1 (omega arith)
          reads,
      reads_more (t + length first.0 + length second.0) (t + length (first.0 ++ second.0))
          second.1 (omega arith) too,
    )
beside_reads t false first second reads too =
    let long = length-append first.0 (second.0 ++ second.1 ∷ []) in
    let more = length-append second.0 (second.1 ∷ []) in (
      reads_more (t + length first.0) (t + length (first.0 ++ (second.0 ++ second.1 ∷ [])))
          first.1 (omega arith) reads,
      omega arith,
    )

pub split_reads : (t : ℕ) (tree : Tree) → ReadsBelow t tree →
    ReadsBelow (t + length (split false t tree).0) (split false t tree).1
split_reads t (number k) reads = tt
split_reads t own reads = tt
split_reads t (loop nest) reads = tt
split_reads t (private x) reads = omega (arith, reads)
split_reads t (place array index) reads = split_reads t index reads
split_reads t (apply op first second) reads =
    let left = split false t first in
    let right = split false (t + length left.0) second in
    let room = is_beside op (shape_of left.1) (shape_of second) in
    beside_reads t room left right (split_reads t first reads.0)
    (split_reads (t + length left.0) second
    (reads_more t (t + length left.0) second (omega arith) reads.1))

-- ---- hidden lines

-- the state after the hidden lines of these pieces
abbrev pub after_pieces : ProgramData → ℕ → ℕ → ℕ → List Tree → Source → Source
after_pieces program text_line depth t [] source = source
after_pieces program text_line depth t (piece ∷ pieces) source =
    after_pieces program text_line depth (t + 1) pieces
    (after_statement program text_line depth (Assign (Private t) piece) source)

-- a processor that is not there is not active
pub inactive_gone : (source : Source) (depth i line : ℕ) → source.gone i ≡ Some line →
    is_active source depth i ≡ false
inactive_gone source depth i line e =
    ap (λ o. source.masks depth i && is_none o) e ∙ and-false (source.masks depth i)

there_by : (m : Bool) (g : Option ℕ) → (m && is_none g) ≡ true → g ≡ None
there_by m None e = refl
there_by m (Some line) e = let no : false ≡ true = sym (and-false m) ∙ e in absurd (cc)

pub active_there : (source : Source) (depth i : ℕ) → is_active source depth i ≡ true →
    source.gone i ≡ None
active_there source depth i e = there_by (source.masks depth i) (source.gone i) e

module _ (program : ProgramData) (text_line depth : ℕ) where
  abbrev pub ran : ℕ → List Tree → Source → Source
  ran t pieces source = after_pieces program text_line depth t pieces source

  abbrev pub given : ℕ → Tree → Source → Source
  given t piece source = after_statement program text_line depth (Assign (Private t) piece) source

  pub cells_kept : (t : ℕ) (pieces : List Tree) (source : Source) →
      (ran t pieces source).cells ≡ source.cells
  cells_kept t [] source = refl
  cells_kept t (piece ∷ pieces) source = cells_kept (t + 1) pieces (given t piece source)

  pub loops_kept : (t : ℕ) (pieces : List Tree) (source : Source) →
      (ran t pieces source).loops ≡ source.loops
  loops_kept t [] source = refl
  loops_kept t (piece ∷ pieces) source = loops_kept (t + 1) pieces (given t piece source)

  pub masks_kept : (t : ℕ) (pieces : List Tree) (source : Source) →
      (ran t pieces source).masks ≡ source.masks
  masks_kept t [] source = refl
  masks_kept t (piece ∷ pieces) source = masks_kept (t + 1) pieces (given t piece source)

  -- variables below those of the pieces are kept
  pub below_kept : (t : ℕ) (pieces : List Tree) (source : Source) (x i : ℕ) → x < t →
      (ran t pieces source).privates x i ≡ source.privates x i
  below_kept t [] source x i lt = refl
  below_kept t (piece ∷ pieces) source x i lt =
      below_kept (t + 1) pieces (given t piece source) x i (omega arith)
      ∙ ap (λ b. if b && is_active source depth i
      then unwrap_or (value program source i piece) (source.privates x i)
      else source.privates x i) (ne_eqb x t (λ same. omega arith))

  pub alike_after : (t : ℕ) (pieces : List Tree) (source : Source) (i : ℕ) →
      Alike source (ran t pieces source) i t
  alike_after t pieces source i = record {
    cells = cells_kept t pieces source;
    loops = loops_kept t pieces source;
    privates = λ x lt. below_kept t pieces source x i lt;
  }

  -- who is not active stays as it is
  gone_one : (t : ℕ) (piece : Tree) (source : Source) (i : ℕ) →
      is_active source depth i ≡ false → (given t piece source).gone i ≡ source.gone i
  gone_one t piece source i e =
      ap (λ a. if a && not (is_some (value program source i piece)) then Some text_line
      else source.gone i) e

  pub gone_outside : (t : ℕ) (pieces : List Tree) (source : Source) (i : ℕ) →
      is_active source depth i ≡ false → (ran t pieces source).gone i ≡ source.gone i
  gone_outside t [] source i e = refl
  gone_outside t (piece ∷ pieces) source i e =
      let same = gone_one t piece source i e in
      gone_outside (t + 1) pieces (given t piece source) i
      (ap (λ g. source.masks depth i && is_none g) same ∙ e) ∙ same

  pub gone_kept : (t : ℕ) (pieces : List Tree) (source : Source) (i line : ℕ) →
      source.gone i ≡ Some line → (ran t pieces source).gone i ≡ Some line
  gone_kept t pieces source i line e =
      gone_outside t pieces source i (inactive_gone source depth i line e) ∙ e

  pub ran_append : (t u : ℕ) (front back : List Tree) (source : Source) → u ≡ t + length front →
      ran t (front ++ back) source ≡ ran u back (ran t front source)
  ran_append t u [] back source e =
      let same : u ≡ t = omega (arith, e) in sym (ap (λ n. ran n back source) same)
  ran_append t u (piece ∷ front) back source e =
      ran_append (t + 1) u front back (given t piece source) (omega (arith, e))

  -- ---- one processor that is active before them

  -- It is still active after these pieces, and this holds of the state; or it is gone in them, for
  -- this reason.
  abbrev pub Ran : ℕ → ℕ → List Tree → Source → (Source → Type 0) → Type 0 → Type 0
  Ran i t pieces source Holds Reason =
      ((is_active (ran t pieces source) depth i ≡ true) × Holds (ran t pieces source))
      ⊎ (((ran t pieces source).gone i ≡ Some text_line) × Reason)

  ran_then : (i t u : ℕ) (front back : List Tree) (source : Source) (G H : Source → Type 0)
      (N M : Type 0) → u ≡ t + length front → Ran i t front source G N → (N → M) →
      (is_active (ran t front source) depth i ≡ true → G (ran t front source) →
      Ran i u back (ran t front source) H M) →
      Ran i t (front ++ back) source H M
  ran_then i t u front back source G H N M e first reason second =
      let same = sym (ran_append t u front back source e) in
      subst (λ (now : Source). ((is_active now depth i ≡ true) × H now)
      ⊎ ((now.gone i ≡ Some text_line) × M)) same
      (⊎_elim
      (λ (on : (is_active (ran t front source) depth i ≡ true) × G (ran t front source)).
      second on.0 on.1)
      (λ (off : ((ran t front source).gone i ≡ Some text_line) × N).
      inr (gone_kept u back (ran t front source) i text_line off.0, reason off.1))
      first)

  -- a piece gives its variable its value
  abbrev Gives : ℕ → ℕ → Tree → Source → Source → Type 0
  Gives i t piece source now = value program source i piece ≡ Some (now.privates t i)

  given_by : (i t : ℕ) (piece : Tree) (source : Source) → is_active source depth i ≡ true →
      (v : Option ℕ) → value program source i piece ≡ v →
      Ran i t (piece ∷ []) source (Gives i t piece source) (value program source i piece ≡ None)
  given_by i t piece source active (Some w) e =
      let kept : (given t piece source).gone i ≡ source.gone i =
      ap (λ v. if is_active source depth i && not (is_some v) then Some text_line
      else source.gone i) e
      ∙ ap (λ a. if a && false then Some text_line else source.gone i) active in
      let gives : (given t piece source).privates t i ≡ w =
      ap (λ b. if b && is_active source depth i
      then unwrap_or (value program source i piece) (source.privates t i)
      else source.privates t i) (eq-eqb t t refl)
      ∙ ap (λ a. if a then unwrap_or (value program source i piece) (source.privates t i)
      else source.privates t i) active
      ∙ ap (λ v. unwrap_or v (source.privates t i)) e in
      inl (ap (λ g. source.masks depth i && is_none g) kept ∙ active, e ∙ ap Some (sym gives))
  given_by i t piece source active None e = inr (
    ap (λ a. if a && not (is_some (value program source i piece)) then Some text_line
        else source.gone i) active
        ∙ ap (λ v. if not (is_some v) then Some text_line else source.gone i) e,
    e,
  )

  -- ---- two expressions

  abbrev Same : ℕ → Tree → Tree → Source → Source → Type 0
  Same i rest tree source now = value program now i rest ≡ value program source i tree

  -- what is left of both has their values
  abbrev pub SameBoth : ℕ → Tree → Tree → Tree → Tree → Source → Source → Type 0
  SameBoth i rest other first second source now =
      (value program now i rest ≡ value program source i first)
      × (value program now i other ≡ value program source i second)

  abbrev pub NoneOf : ℕ → Tree → Tree → Source → Type 0
  NoneOf i first second source =
      (value program source i first ≡ None) ⊎ (value program source i second ≡ None)

  pub beside_ran : (i t : ℕ) (room : Bool) (left right : List Tree × Tree) (first second : Tree)
      (source : Source) → ReadsBelow (t + length left.0) left.1 → ReadsBelow t second →
      Ran i t left.0 source (Same i left.1 first source) (value program source i first ≡ None) →
      ((now : Source) → is_active now depth i ≡ true → Ran i (t + length left.0) right.0 now
      (Same i right.1 second now) (value program now i second ≡ None)) →
      Ran i t (beside false t room left right).0 source
      (SameBoth i (beside false t room left right).1 (beside false t room left right).2 first second source)
      (NoneOf i first second source)
  beside_ran i t true left right first second source reads too one other =
      let mid = ran t left.0 source in
      let u = t + length left.0 in
      let same = value_alike program program source mid i t (λ array k. refl)
      (alike_after t left.0 source i) second too in
      ran_then i t u left.0 right.0 source (Same i left.1 first source)
      (SameBoth i left.1 right.1 first second source) (value program source i first ≡ None)
      (NoneOf i first second source) refl one inl
      (λ active is. ⊎_elim
      (λ (on : (is_active (ran u right.0 mid) depth i ≡ true)
      × Same i right.1 second mid (ran u right.0 mid)). inl (
        on.0,
        (
          value_alike program program mid (ran u right.0 mid) i u (λ array k. refl)
              (alike_after u right.0 mid i) left.1 reads ∙ is,
          on.1 ∙ same,
        ),
      ))
      (λ (off : ((ran u right.0 mid).gone i ≡ Some text_line)
      × (value program mid i second ≡ None)). inr (off.0, inr (sym same ∙ off.1)))
      (other mid active))
  beside_ran i t false left right first second source reads too one other =
      let mid = ran t left.0 source in
      let u = t + length left.0 in
      let w = t + length left.0 + length right.0 in
      let late = ran u right.0 mid in
      let same = value_alike program program source mid i t (λ array k. refl)
      (alike_after t left.0 source i) second too in
      ran_then i t u left.0 (right.0 ++ right.1 ∷ []) source (Same i left.1 first source)
      (SameBoth i left.1 (private w) first second source) (value program source i first ≡ None)
      (NoneOf i first second source) refl one inl
      (λ active is. ran_then i u w right.0 (right.1 ∷ []) mid (Same i right.1 second mid)
      (SameBoth i left.1 (private w) first second source) (value program mid i second ≡ None)
      (NoneOf i first second source) refl (other mid active) (λ none. inr (sym same ∙ none))
      (λ still gives. ⊎_elim
      (λ (on : (is_active (given w right.1 late) depth i ≡ true)
      × Gives i w right.1 late (given w right.1 late)). inl (
        on.0,
        (
          value_alike program program late (given w right.1 late) i w (λ array k. refl)
              (alike_after w (right.1 ∷ []) late i) left.1
              (reads_more u w left.1 (omega arith) reads)
              ∙ value_alike program program mid late i u (λ array k. refl)
              (alike_after u right.0 mid i) left.1 reads ∙ is,
          sym on.1 ∙ gives ∙ same,
        ),
      ))
      (λ (off : ((given w right.1 late).gone i ≡ Some text_line)
      × (value program late i right.1 ≡ None)).
      inr (off.0, inr (sym same ∙ sym gives ∙ off.1)))
      (given_by i w right.1 late still (value program late i right.1) refl)))

  -- ---- an expression

  none_first : (op : Op) (i : ℕ) (first second : Tree) (source : Source) →
      NoneOf i first second source → value program source i (apply op first second) ≡ None
  none_first op i first second source (inl none) =
      ap (option_and_then (λ a. option_and_then (worked_out op a) (value program source i second)))
      none
  none_first op i first second source (inr none) =
      ap (λ v. option_and_then (λ a. option_and_then (worked_out op a) v)
      (value program source i first)) none ∙ never (value program source i first)
    where
      never : (v : Option ℕ) →
          option_and_then (λ a. option_and_then (worked_out op a) None) v ≡ None
      never None = refl
      never (Some a) = refl

  pub split_ran : (i t : ℕ) (tree : Tree) → ReadsBelow t tree →
      (source : Source) → is_active source depth i ≡ true →
      Ran i t (split false t tree).0 source (Same i (split false t tree).1 tree source)
      (value program source i tree ≡ None)
  split_ran i t (number k) reads source active = inl (active, refl)
  split_ran i t own reads source active = inl (active, refl)
  split_ran i t (loop nest) reads source active = inl (active, refl)
  split_ran i t (private x) reads source active = inl (active, refl)
  split_ran i t (place array index) reads source active =
      let s = split false t index in
      let now = ran t s.0 source in
      ⊎_elim
      (λ (on : (is_active now depth i ≡ true) × Same i s.1 index source now). inl (
        on.0,
        ap (option_and_then (λ k. option_map now.cells (array_cell program array k))) on.1
            ∙ ap (λ (f : ℕ → ℕ). option_and_then (λ k. option_map f (array_cell program array k))
            (value program source i index)) (cells_kept t s.0 source),
      ))
      (λ (off : (now.gone i ≡ Some text_line) × (value program source i index ≡ None)).
      inr (
        off.0,
        ap (option_and_then (λ k. option_map source.cells (array_cell program array k))) off.1,
      ))
      (split_ran i t index reads source active)
  split_ran i t (apply op first second) reads source active =
      let left = split false t first in
      let right = split false (t + length left.0) second in
      let room = is_beside op (shape_of left.1) (shape_of second) in
      let parts = beside false t room left right in
      let now = ran t parts.0 source in
      ⊎_elim
      (λ (on : (is_active now depth i ≡ true)
      × SameBoth i parts.1 parts.2 first second source now). inl (
        on.0,
        ap (λ v. option_and_then (λ a. option_and_then (worked_out op a) v)
            (value program now i parts.1)) on.1.1
            ∙ ap (option_and_then (λ a. option_and_then (worked_out op a)
            (value program source i second))) on.1.0,
      ))
      (λ (off : (now.gone i ≡ Some text_line) × NoneOf i first second source).
      inr (off.0, none_first op i first second source off.1))
      (beside_ran i t room left right first second source (split_reads t first reads.0)
      reads.1 (split_ran i t first reads.0 source active)
      (λ mid still. split_ran i (t + length left.0) second
      (reads_more t (t + length left.0) second (omega arith) reads.1) mid still))
