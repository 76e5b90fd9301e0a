-- What is left of an expression in a line of a loop has its value after the pieces.
use Rattle.std.proofs.Common.{◌≡◌, ℕ, ◌+◌, ◌<◌, ◌≤◌, ◌⊎◌, Bool, true, false, List, [], ◌∷◌}
use Rattle.std.proofs.Common.{◌++◌, Option, Some, None, refl, sym, ap, ◌∙◌, subst, inl, inr, ⊎_elim}
use Rattle.std.proofs.Common.{arith, if◌then◌else◌, length, length-append}
use Rattle.std.specs.Option.{option_map, option_and_then}
use Rattle.std.proofs.lemmas.Bool.{eq-eqb, ne_eqb}
use Rattle.pardo_program.specs.declared.operation.Op.{Op}
use Rattle.pardo_program.specs.Expression.{Tree, number, own, loop, private, place, apply}
use Rattle.pardo_program.specs.Operations.{worked_out}
use Rattle.pardo_program.specs.Program.{ProgramData}
use Rattle.pardo_flat.specs.Flat.{beside, has_room, is_beside, shape_of, split, split_bounds}
use Rattle.pardo_flat.specs.Flat.{split_last}
use Rattle.pardo_job.specs.Meaning.{Source, abandoned, array_cell, by_common, common_value, on_to}
use Rattle.pardo_job.specs.Meaning.{loop_turned, value}

-- ---- what an expression reads

-- variables of loops below a number
abbrev pub LoopsBelow : ℕ → Tree → Type 0
LoopsBelow n (number k) = Unit {0}
LoopsBelow n own = Unit {0}
LoopsBelow n (loop nest) = nest < n
LoopsBelow n (private x) = Unit {0}
LoopsBelow n (place array index) = LoopsBelow n index
LoopsBelow n (apply op first second) = LoopsBelow n first × LoopsBelow n second

pub loops_more : (n m : ℕ) (tree : Tree) → n ≤ m → LoopsBelow n tree → LoopsBelow m tree
loops_more n m (number k) le below = tt
loops_more n m own le below = tt
loops_more n m (loop nest) le below = omega (arith, below)
loops_more n m (private x) le below = tt
loops_more n m (place array index) le below = loops_more n m index le below
loops_more n m (apply op first second) le below =
    (loops_more n m first le below.0, loops_more n m second le below.1)

-- each piece reads variables below its own
abbrev pub PiecesBelow : ℕ → List Tree → Type 0
PiecesBelow t [] = Unit {0}
PiecesBelow t (piece ∷ pieces) = LoopsBelow t piece × PiecesBelow (t + 1) pieces

below_append : (t u : ℕ) (front back : List Tree) → u ≡ t + length front →
    PiecesBelow t front → PiecesBelow u back → PiecesBelow t (front ++ back)
below_append t u [] back e below too =
    let same : u ≡ t = omega (arith, e) in subst (λ n. PiecesBelow n back) same too
below_append t u (piece ∷ front) back e below too =
    (below.0, below_append (t + 1) u front back (omega (arith, e)) below.1 too)

-- what is left of an expression reads the variables of its pieces, too
abbrev AreBelow : ℕ → List Tree → Tree → Type 0
AreBelow t pieces rest = PiecesBelow t pieces × LoopsBelow (t + length pieces) rest

beside_below : (t : ℕ) (room : Bool) (left right : List Tree × Tree) →
    AreBelow t left.0 left.1 → AreBelow (t + length left.0) right.0 right.1 →
    PiecesBelow t (beside true t room left right).0
    × LoopsBelow (t + length (beside true t room left right).0) (beside true t room left right).1
    × LoopsBelow (t + length (beside true t room left right).0) (beside true t room left right).2
beside_below t true left right one other =
    let long = length-append left.0 right.0 in
    let n : ℕ = t + length (left.0 ++ right.0) in (
      below_append t (t + length left.0) left.0 right.0 refl one.0 other.0,
      loops_more (t + length left.0) n left.1 (omega (arith, long)) one.1,
      loops_more (t + length left.0 + length right.0) n right.1 (omega (arith, long)) other.1,
    )
beside_below t false left right one other =
    let long = length-append left.0 (right.0 ++ right.1 ∷ []) in
    let more = length-append right.0 (right.1 ∷ []) in
    let n : ℕ = t + length (left.0 ++ (right.0 ++ right.1 ∷ [])) in (
      below_append t (t + length left.0) left.0 (right.0 ++ right.1 ∷ []) refl one.0
          (below_append (t + length left.0) (t + length left.0 + length right.0) right.0
          (right.1 ∷ []) refl other.0 (other.1, tt)),
      loops_more (t + length left.0) n left.1 (omega (arith, long)) one.1,
      omega (arith, long, more),
    )

pub split_below : (t : ℕ) (tree : Tree) → LoopsBelow t tree →
    AreBelow t (split true t tree).0 (split true t tree).1
split_below t (number k) below = (tt, tt)
split_below t own below = (tt, tt)
split_below t (loop nest) below = (tt, omega (arith, below))
split_below t (private x) below = (tt, tt)
split_below t (place array index) below = split_below t index below
split_below t (apply op first second) below =
    let left = split true t first in
    let right = split true (t + length left.0) second in
    let both = beside_below t (is_beside op (shape_of left.1) (shape_of second)) left right
    (split_below t first below.0)
    (split_below (t + length left.0) second
    (loops_more t (t + length left.0) second (omega arith) below.1)) in
    (both.0, (both.1, both.2))

last_by_room : (t : ℕ) (last : List Tree × Tree) (room : Bool) → AreBelow t last.0 last.1 →
    AreBelow t (if room then last else (last.0 ++ last.1 ∷ [], loop (t + length last.0))).0
    (if room then last else (last.0 ++ last.1 ∷ [], loop (t + length last.0))).1
last_by_room t last true below = below
last_by_room t last false below =
    let long = length-append last.0 (last.1 ∷ []) in (
      below_append t (t + length last.0) last.0 (last.1 ∷ []) refl below.0 (below.1, tt),
      omega (arith, long),
    )

pub last_below : (t : ℕ) (tree : Tree) → LoopsBelow t tree →
    AreBelow t (split_last t tree).0 (split_last t tree).1
last_below t tree below =
    let last = split true t tree in
    last_by_room t last (has_room 1 (shape_of last.1)) (split_below t tree below)

pub bounds_below : (t : ℕ) (first last : Tree) → LoopsBelow t first → LoopsBelow t last →
    PiecesBelow t (split_bounds t first last).0
bounds_below t first last below too =
    let high = split_last t last in
    let low = split true (t + length high.0) first in
    below_append t (t + length high.0) high.0 low.0 refl (last_below t last too).0
    (split_below (t + length high.0) first
    (loops_more t (t + length high.0) first (omega arith) below)).0

-- ---- values where each variable has that of its piece

never : (op : Op) (o : Option ℕ) →
    option_and_then {U = ℕ} (λ a. option_and_then (worked_out op a) None) o ≡ None
never op None = refl
never op (Some a) = refl

module _ (program : ProgramData) (now : Source) where
  abbrev V : Tree → Option ℕ
  V tree = common_value program now tree

  -- each of these variables has the value of its piece
  abbrev pub Held : ℕ → List Tree → Type 0
  Held t [] = Unit {0}
  Held t (piece ∷ pieces) = (V (loop t) ≡ V piece) × Held (t + 1) pieces

  -- or the first that has not belongs to a piece without a value
  abbrev pub Fails : ℕ → List Tree → Type 0
  Fails t [] = ⊥
  Fails t (piece ∷ pieces) =
      (V piece ≡ None) ⊎ ((V (loop t) ≡ V piece) × Fails (t + 1) pieces)

  held_both : (t u : ℕ) (front back : List Tree) → u ≡ t + length front →
      Held t (front ++ back) → Held t front × Held u back
  held_both t u [] back e held =
      let same : t ≡ u = omega (arith, e) in (tt, subst (λ n. Held n back) same held)
  held_both t u (piece ∷ front) back e held =
      let rest = held_both (t + 1) u front back (omega (arith, e)) held.1 in
      ((held.0, rest.0), rest.1)

  fails_in : (t u : ℕ) (front back : List Tree) → u ≡ t + length front →
      Fails t (front ++ back) → Fails t front ⊎ (Held t front × Fails u back)
  fails_in t u [] back e fails =
      let same : t ≡ u = omega (arith, e) in inr (tt, subst (λ n. Fails n back) same fails)
  fails_in t u (piece ∷ front) back e (inl none) = inl (inl none)
  fails_in t u (piece ∷ front) back e (inr on) = ⊎_elim
      (λ (early : Fails (t + 1) front). inl (inr (on.0, early)))
      (λ (late : Held (t + 1) front × Fails u back). inr ((on.0, late.0), late.1))
      (fails_in (t + 1) u front back (omega (arith, e)) on.1)

  apply_same : (op : Op) (a b c d : Tree) → V a ≡ V c → V b ≡ V d →
      V (apply op a b) ≡ V (apply op c d)
  apply_same op a b c d one other =
      ap (λ v. option_and_then (λ x. option_and_then (worked_out op x) v) (V a)) other
      ∙ ap (option_and_then (λ x. option_and_then (worked_out op x) (V d))) one

  abbrev NoneOf : Tree → Tree → Type 0
  NoneOf a b = (V a ≡ None) ⊎ (V b ≡ None)

  apply_none : (op : Op) (a b : Tree) → NoneOf a b → V (apply op a b) ≡ None
  apply_none op a b (inl none) =
      ap (option_and_then (λ x. option_and_then (worked_out op x) (V b))) none
  apply_none op a b (inr none) =
      ap (λ v. option_and_then (λ x. option_and_then (worked_out op x) v) (V a)) none
      ∙ never op (V a)

  beside_held : (t : ℕ) (op : Op) (first second : Tree) (left right : List Tree × Tree)
      (room : Bool) → (Held t left.0 → V left.1 ≡ V first) →
      (Held (t + length left.0) right.0 → V right.1 ≡ V second) →
      Held t (beside true t room left right).0 →
      V (apply op (beside true t room left right).1 (beside true t room left right).2)
      ≡ V (apply op first second)
  beside_held t op first second left right true one other held =
      let both = held_both t (t + length left.0) left.0 right.0 refl held in
      apply_same op left.1 right.1 first second (one both.0) (other both.1)
  beside_held t op first second left right false one other held =
      let u : ℕ = t + length left.0 in
      let both = held_both t u left.0 (right.0 ++ right.1 ∷ []) refl held in
      let rest = held_both u (u + length right.0) right.0 (right.1 ∷ []) refl both.1 in
      apply_same op left.1 (loop (u + length right.0)) first second (one both.0)
      (rest.1.0 ∙ other rest.0)

  pub split_held : (t : ℕ) (tree : Tree) → Held t (split true t tree).0 →
      V (split true t tree).1 ≡ V tree
  split_held t (number k) held = refl
  split_held t own held = refl
  split_held t (loop nest) held = refl
  split_held t (private x) held = refl
  split_held t (place array index) held =
      ap (option_and_then (λ k. option_map now.cells (array_cell program array k)))
      (split_held t index held)
  split_held t (apply op first second) held =
      let left = split true t first in
      let right = split true (t + length left.0) second in
      beside_held t op first second left right (is_beside op (shape_of left.1) (shape_of second))
      (split_held t first) (split_held (t + length left.0) second) held

  beside_fails : (t : ℕ) (first second : Tree) (left right : List Tree × Tree)
      (room : Bool) → (Fails t left.0 → V first ≡ None) →
      (Held (t + length left.0) right.0 → V right.1 ≡ V second) →
      (Fails (t + length left.0) right.0 → V second ≡ None) →
      Fails t (beside true t room left right).0 → NoneOf first second
  beside_fails t first second left right true none same none_too fails = ⊎_elim
      (λ (early : Fails t left.0). inl (none early))
      (λ (late : Held t left.0 × Fails (t + length left.0) right.0). inr (none_too late.1))
      (fails_in t (t + length left.0) left.0 right.0 refl fails)
  beside_fails t first second left right false none same none_too fails =
      let u : ℕ = t + length left.0 in
      let last : List Tree = right.1 ∷ [] in
      ⊎_elim
      (λ (early : Fails t left.0). inl (none early))
      (λ (late : Held t left.0 × Fails u (right.0 ++ last)). inr (⊎_elim
      (λ (inner : Fails u right.0). none_too inner)
      (λ (at : Held u right.0 × Fails (u + length right.0) last). ⊎_elim
      (λ (here : V right.1 ≡ None). sym (same at.0) ∙ here)
      (λ (more : (V (loop (u + length right.0)) ≡ V right.1) × ⊥). absurd more.1)
      at.1)
      (fails_in u (u + length right.0) right.0 last refl late.1)))
      (fails_in t u left.0 (right.0 ++ last) refl fails)

  pub split_fails : (t : ℕ) (tree : Tree) → Fails t (split true t tree).0 → V tree ≡ None
  split_fails t (number k) fails = absurd fails
  split_fails t own fails = absurd fails
  split_fails t (loop nest) fails = absurd fails
  split_fails t (private x) fails = absurd fails
  split_fails t (place array index) fails =
      ap (option_and_then (λ k. option_map now.cells (array_cell program array k)))
      (split_fails t index fails)
  split_fails t (apply op first second) fails =
      let left = split true t first in
      let right = split true (t + length left.0) second in
      apply_none op first second (beside_fails t first second left right
      (is_beside op (shape_of left.1) (shape_of second)) (split_fails t first)
      (split_held (t + length left.0) second) (split_fails (t + length left.0) second) fails)

  -- ---- bounds of a `for`

  last_held_by : (t : ℕ) (tree : Tree) (last : List Tree × Tree) (room : Bool) →
      (Held t last.0 → V last.1 ≡ V tree) →
      Held t (if room then last else (last.0 ++ last.1 ∷ [], loop (t + length last.0))).0 →
      V (if room then last else (last.0 ++ last.1 ∷ [], loop (t + length last.0))).1 ≡ V tree
  last_held_by t tree last true same held = same held
  last_held_by t tree last false same held =
      let both = held_both t (t + length last.0) last.0 (last.1 ∷ []) refl held in
      both.1.0 ∙ same both.0

  pub last_held : (t : ℕ) (tree : Tree) → Held t (split_last t tree).0 →
      V (split_last t tree).1 ≡ V tree
  last_held t tree held =
      let last = split true t tree in
      last_held_by t tree last (has_room 1 (shape_of last.1)) (split_held t tree) held

  last_fails_by : (t : ℕ) (tree : Tree) (last : List Tree × Tree) (room : Bool) →
      (Held t last.0 → V last.1 ≡ V tree) → (Fails t last.0 → V tree ≡ None) →
      Fails t (if room then last else (last.0 ++ last.1 ∷ [], loop (t + length last.0))).0 →
      V tree ≡ None
  last_fails_by t tree last true same none fails = none fails
  last_fails_by t tree last false same none fails = ⊎_elim
      (λ (early : Fails t last.0). none early)
      (λ (at : Held t last.0 × Fails (t + length last.0) (last.1 ∷ [])). ⊎_elim
      (λ (here : V last.1 ≡ None). sym (same at.0) ∙ here)
      (λ (more : (V (loop (t + length last.0)) ≡ V last.1) × ⊥). absurd more.1)
      at.1)
      (fails_in t (t + length last.0) last.0 (last.1 ∷ []) refl fails)

  pub last_fails : (t : ℕ) (tree : Tree) → Fails t (split_last t tree).0 → V tree ≡ None
  last_fails t tree fails =
      let last = split true t tree in
      last_fails_by t tree last (has_room 1 (shape_of last.1)) (split_held t tree)
      (split_fails t tree) fails

  pub bounds_held : (t : ℕ) (first last : Tree) → Held t (split_bounds t first last).0 →
      (V (split_bounds t first last).1 ≡ V first) × (V (split_bounds t first last).2 ≡ V last)
  bounds_held t first last held =
      let high = split_last t last in
      let u : ℕ = t + length high.0 in
      let both = held_both t u high.0 (split true u first).0 refl held in
      (split_held u first both.1, last_held t last both.0)

  pub bounds_fail : (t : ℕ) (first last : Tree) → Fails t (split_bounds t first last).0 →
      NoneOf first last
  bounds_fail t first last fails =
      let high = split_last t last in
      let u : ℕ = t + length high.0 in ⊎_elim
      (λ (early : Fails t high.0). inr (last_fails t last early))
      (λ (late : Held t high.0 × Fails u (split true u first).0). inl (split_fails u first late.1))
      (fails_in t u high.0 (split true u first).0 refl fails)

-- ---- the run

-- all but variables of loops from a number on
pub record Kept (t : ℕ) (source now : Source) : Type 0 where
  pub cells : now.cells ≡ source.cells
  pub masks : now.masks ≡ source.masks
  pub privates : now.privates ≡ source.privates
  pub gone : now.gone ≡ source.gone
  pub loops : (nest : ℕ) → nest < t → now.loops nest ≡ source.loops nest

pub value_kept : (program : ProgramData) (t : ℕ) (source now : Source) (i : ℕ) →
    Kept t source now → (tree : Tree) → LoopsBelow t tree →
    value program now i tree ≡ value program source i tree
value_kept program t source now i kept (number k) below = refl
value_kept program t source now i kept own below = refl
value_kept program t source now i kept (loop nest) below = ap Some (kept.loops nest below)
value_kept program t source now i kept (private x) below =
    ap (λ (f : ℕ → ℕ → ℕ). Some (f x i)) kept.privates
value_kept program t source now i kept (place array index) below =
    ap (option_and_then (λ k. option_map now.cells (array_cell program array k)))
    (value_kept program t source now i kept index below)
    ∙ ap (λ (f : ℕ → ℕ). option_and_then (λ k. option_map f (array_cell program array k))
    (value program source i index)) kept.cells
value_kept program t source now i kept (apply op first second) below =
    ap (λ v. option_and_then (λ a. option_and_then (worked_out op a) v)
    (value program now i first)) (value_kept program t source now i kept second below.1)
    ∙ ap (option_and_then (λ a. option_and_then (worked_out op a) (value program source i second)))
    (value_kept program t source now i kept first below.0)

module _ (program : ProgramData) (text_line : ℕ) where
  -- the state after the hidden lines of these pieces: where one has no value, all are gone
  abbrev pub after_lets : ℕ → List Tree → Source → Source
  after_lets t [] source = source
  after_lets t (piece ∷ pieces) source =
      by_common program text_line source (common_value program source piece) (λ v.
      after_lets (t + 1) pieces (on_to (source.at + 1) (loop_turned t v source)))

  -- all of them have one
  pub record Whole (t : ℕ) (pieces : List Tree) (source now : Source) : Type 0 where
    pub kept : Kept t source now
    pub held : Held program now t pieces
    pub at : now.at ≡ source.at + length pieces

  -- or one has none in this state
  pub record Cut (t : ℕ) (pieces : List Tree) (source now : Source) : Type 0 where
    pub mid : Source
    pub kept : Kept t source mid
    pub fails : Fails program mid t pieces
    pub now_is : now ≡ abandoned program text_line mid

  abbrev pub Let : ℕ → List Tree → Source → Source → Type 0
  Let t pieces source now = Whole t pieces source now ⊎ Cut t pieces source now

  one_kept : (t v : ℕ) (source : Source) →
      Kept t source (on_to (source.at + 1) (loop_turned t v source))
  one_kept t v source = record {
    cells = refl;
    masks = refl;
    privates = refl;
    gone = refl;
    loops = λ nest lt. ap (λ b. if b then v else source.loops nest)
        (ne_eqb nest t (λ same. omega (arith, same, lt)));
  }

  then_kept : (t v : ℕ) (source now : Source) →
      Kept (t + 1) (on_to (source.at + 1) (loop_turned t v source)) now → Kept t source now
  then_kept t v source now rest =
      let one = one_kept t v source in record {
        cells = rest.cells;
        masks = rest.masks;
        privates = rest.privates;
        gone = rest.gone;
        loops = λ nest lt. rest.loops nest (omega (arith, lt)) ∙ one.loops nest lt;
      }

  first_held : (t v : ℕ) (piece : Tree) (source now : Source) → LoopsBelow t piece →
      common_value program source piece ≡ Some v →
      Kept (t + 1) (on_to (source.at + 1) (loop_turned t v source)) now →
      common_value program now (loop t) ≡ common_value program now piece
  first_held t v piece source now below e rest =
      ap Some (rest.loops t (omega arith)
      ∙ ap (λ b. if b then v else source.loops t) (eq-eqb t t refl))
      ∙ sym e
      ∙ sym (value_kept program t source now 0 (then_kept t v source now rest) piece below)

  one_run : (t : ℕ) (piece : Tree) (pieces : List Tree) (source : Source) → LoopsBelow t piece →
      ((v : ℕ) → Let (t + 1) pieces (on_to (source.at + 1) (loop_turned t v source))
      (after_lets (t + 1) pieces (on_to (source.at + 1) (loop_turned t v source)))) →
      (o : Option ℕ) → common_value program source piece ≡ o → Let t (piece ∷ pieces) source
      (by_common program text_line source o (λ v.
      after_lets (t + 1) pieces (on_to (source.at + 1) (loop_turned t v source))))
  one_run t piece pieces source below rest None e = inr (record {
    mid = source;
    kept = record {
      cells = refl;
      masks = refl;
      privates = refl;
      gone = refl;
      loops = λ nest lt. refl;
    };
    fails = inl e;
    now_is = refl;
  })
  one_run t piece pieces source below rest (Some v) e =
      let on = on_to (source.at + 1) (loop_turned t v source) in
      let now = after_lets (t + 1) pieces on in ⊎_elim
      (λ (whole : Whole (t + 1) pieces on now).
      let at = whole.at in inl (record {
        kept = then_kept t v source now whole.kept;
        held = (first_held t v piece source now below e whole.kept, whole.held);
        at = omega (arith, at);
      }))
      (λ (cut : Cut (t + 1) pieces on now).
      inr (record {
        mid = cut.mid;
        kept = then_kept t v source cut.mid cut.kept;
        fails = inr (first_held t v piece source cut.mid below e cut.kept, cut.fails);
        now_is = cut.now_is;
      }))
      (rest v)

  pub lets_run : (t : ℕ) (pieces : List Tree) (source : Source) → PiecesBelow t pieces →
      Let t pieces source (after_lets t pieces source)
  lets_run t [] source below = inl (record {
    kept = record {
      cells = refl;
      masks = refl;
      privates = refl;
      gone = refl;
      loops = λ nest lt. refl;
    };
    held = tt;
    at = omega arith;
  })
  lets_run t (piece ∷ pieces) source below =
      one_run t piece pieces source below.0
      (λ v. lets_run (t + 1) pieces (on_to (source.at + 1) (loop_turned t v source)) below.1)
      (common_value program source piece) refl
