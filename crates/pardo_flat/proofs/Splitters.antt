-- Expressions by pieces, node by node.
use Rattle.std.proofs.Common.{◌≡◌, ℕ, ◌+◌, ◌<◌, Bool, true, false, List, [], ◌∷◌, ◌++◌, refl, sym, ap}
use Rattle.std.proofs.Common.{◌∙◌, ⊎_elim, subst, arith, drop, get_or, length, length-append, append_assoc}
use Rattle.std.proofs.Common.{append-nil, ◌≤◌}
use Rattle.std.specs.Prelude.{max}
use Rattle.std.proofs.lemmas.Bool.{cases_Bool}
use Rattle.std.proofs.lemmas.List.{at_drop_all, drop_more, same_from_push}
use Rattle.pardo_program.specs.declared.expression.Node.{Node}
use Rattle.pardo_program.specs.declared.expression.Node.TheVariants.{Number, Own, Loop}
use Rattle.pardo_program.specs.declared.expression.Node.TheVariants.{Private, Place, Apply}
use Rattle.pardo_program.specs.declared.operation.Op.{Op}
use Rattle.pardo_program.specs.Expression.{Tree, number, own, loop, private, place, apply, postfix}
use Rattle.pardo_program.specs.Expression.{trees_of, trees_of-postfix, with_node}
use Rattle.pardo_flat.specs.declared.splitter.Part.{Part}
use Rattle.pardo_flat.specs.Flat.{ShapeData, applied_shape, beside, computed_shape, is_beside}
use Rattle.pardo_flat.specs.Flat.{shape_of, split}
use Rattle.pardo_flat.specs.Flat.{variable}
use Rattle.pardo_program.specs.Inner.Postfixes.{HasOperands}
use Rattle.pardo_flat.specs.Inner.Splits.{AreSplit, CanSplit, JoinsTo}
use Rattle.pardo_flat.specs.Inner.Splits.{CanShape, ShapesNode, TakesNode, joined_splits, shapes_of}
use Rattle.pardo_flat.specs.Inner.Splits.{split_part, parts_after, pieces_after}

-- ---- the variable of a piece

pub shape-variable : (common : Bool) (k : ℕ) →
    shape_of (variable common k) ≡ computed_shape false 1
shape-variable true k = refl
shape-variable false k = refl

-- ---- how many parts there are

pub parts_count : (common : Bool) (t : ℕ) (before trees : List Tree) →
    length (parts_after common t before trees) ≡ length trees
parts_count common t before [] = refl
parts_count common t before (tree ∷ trees) =
    let more = length-append (parts_after common t before trees)
    (split_part common (t + length (pieces_after common t before trees)) tree ∷ []) in
    let rest = parts_count common t before trees in omega (arith, more, rest)

-- ---- a node without operands

-- nothing is split off
abbrev pub whole_part : Tree → Part
whole_part tree = record { rest = tree; shape = shape_of tree; whole = shape_of tree }

pub leaf_taken : (common : Bool) (t : ℕ) (leaf : Tree) → ((u : ℕ) → split common u leaf ≡ ([], leaf)) →
    (before trees pieces new_pieces : List Tree) (parts new_parts : List Part) →
    new_pieces ≡ pieces → new_parts ≡ parts ++ whole_part leaf ∷ [] →
    AreSplit common t before trees pieces parts →
    AreSplit common t before (leaf ∷ trees) new_pieces new_parts
leaf_taken common t leaf is before trees pieces new_pieces parts new_parts same more are =
    let u : ℕ = t + length (pieces_after common t before trees) in record {
      pieces_are = same ∙ are.pieces_are ∙ sym (append-nil (pieces_after common t before trees))
          ∙ ap (λ s. pieces_after common t before trees ++ s.0) (sym (is u));
      parts_are = more ∙ ap (λ all. all ++ whole_part leaf ∷ []) are.parts_are
          ∙ ap (λ s. parts_after common t before trees
          ++ record { rest = s.1; shape = shape_of s.1; whole = shape_of leaf } ∷ []) (sym (is u));
    }

-- ---- a place

abbrev pub place_part : ℕ → Part → Part
place_part array part = record {
  rest = place array part.rest;
  shape = computed_shape false (max 1 part.shape.need);
  whole = computed_shape false (max 1 part.whole.need);
}

pub place_taken : (common : Bool) (t array : ℕ) (before : List Tree) (index : Tree) (trees pieces : List Tree)
    (new_pieces : List Tree) (parts rest new_parts : List Part) (part : Part) →
    parts ≡ rest ++ part ∷ [] → new_pieces ≡ pieces →
    new_parts ≡ rest ++ place_part array part ∷ [] →
    AreSplit common t before (index ∷ trees) pieces parts →
    AreSplit common t before (place array index ∷ trees) new_pieces new_parts
place_taken common t array before index trees pieces new_pieces parts rest new_parts part popped same more
    are =
    let u : ℕ = t + length (pieces_after common t before trees) in
    let both = same_from_push rest (parts_after common t before trees) part (split_part common u index)
    (sym popped ∙ are.parts_are) in record {
      pieces_are = same ∙ are.pieces_are;
      parts_are = more ∙ ap (λ all. all ++ place_part array part ∷ []) both.0
          ∙ ap (λ p. parts_after common t before trees ++ place_part array p ∷ []) both.1;
    }

-- ---- an operation

-- the two operands that were taken off
pub record AreTakenOff (parts rest : List Part) (first second : Part) : Type 0 where
  pub between : List Part
  pub last : parts ≡ between ++ second ∷ []
  pub last_but_one : between ≡ rest ++ first ∷ []

abbrev pub joined_part : Op → Part → Tree → ShapeData → Part → Part
joined_part op first other shape second = record {
  rest = apply op first.rest other;
  shape = applied_shape op first.shape shape;
  whole = applied_shape op first.whole second.whole;
}

module _ (common : Bool) (t : ℕ) (op : Op) (before : List Tree) (second first : Tree) (trees pieces : List Tree)
    (parts rest : List Part) (left right : Part) (off : AreTakenOff parts rest left right)
    (are : AreSplit common t before (second ∷ first ∷ trees) pieces parts) where
  abbrev so_far : List Tree
  so_far = pieces_after common t before trees

  abbrev u : ℕ
  u = t + length so_far

  abbrev w : ℕ
  w = u + length (split common u first).0

  w_is : t + length (so_far ++ (split common u first).0) ≡ w
  w_is = let e = length-append so_far (split common u first).0 in omega (arith, e)

  top : (off.between ≡ parts_after common t before trees ++ split_part common u first ∷ [])
      × (right ≡ split_part common (t + length (so_far ++ (split common u first).0)) second)
  top = let both = same_from_push off.between
      (parts_after common t before trees ++ split_part common u first ∷ []) right
      (split_part common (t + length (so_far ++ (split common u first).0)) second)
      (sym off.last ∙ are.parts_are) in (both.0, both.1)

  pub right_is : right ≡ split_part common w second
  right_is = top.1 ∙ ap (λ n. split_part common n second) w_is

  below : (rest ≡ parts_after common t before trees) × (left ≡ split_part common u first)
  below = let both = same_from_push rest (parts_after common t before trees) left (split_part common u first)
      (sym off.last_but_one ∙ top.0) in (both.0, both.1)

  pub left_is : left ≡ split_part common u first
  left_is = below.1

  pieces_so_far : pieces ≡ (so_far ++ (split common u first).0) ++ (split common w second).0
  pieces_so_far = are.pieces_are
      ∙ ap (λ n. (so_far ++ (split common u first).0) ++ (split common n second).0) w_is

  abbrev room : Bool
  room = is_beside op (shape_of (split common u first).1) (shape_of second)

  pub room_is : is_beside op left.shape right.whole ≡ room
  room_is = ap (λ p. is_beside op p.shape right.whole) left_is
      ∙ ap (λ p. is_beside op (shape_of (split common u first).1) p.whole) right_is

  abbrev Split : Bool → List Tree × Tree
  Split b = let s = beside common u b (split common u first) (split common w second) in (s.0, apply op s.1 s.2)

  by_room : (new_pieces : List Tree) (new_parts : List Part) (b : Bool) → b ≡ room →
      new_pieces ≡ so_far ++ (Split b).0 →
      new_parts ≡ rest ++ record {
        rest = (Split b).1;
        shape = shape_of (Split b).1;
        whole = applied_shape op (shape_of first) (shape_of second);
      } ∷ [] →
      AreSplit common t before (apply op first second ∷ trees) new_pieces new_parts
  by_room new_pieces new_parts b same e f = record {
    pieces_are = e ∙ ap (λ c. so_far ++ (Split c).0) same;
    parts_are = f ∙ ap (λ all. all ++ record {
      rest = (Split b).1;
      shape = shape_of (Split b).1;
      whole = applied_shape op (shape_of first) (shape_of second);
    } ∷ []) below.0 ∙ ap (λ c. parts_after common t before trees ++ record {
      rest = (Split c).1;
      shape = shape_of (Split c).1;
      whole = applied_shape op (shape_of first) (shape_of second);
    } ∷ []) same;
  }

  -- the second one stays beside the first
  pub stays_beside : (new_pieces : List Tree) (new_parts : List Part) →
      is_beside op left.shape right.whole ≡ true → new_pieces ≡ pieces →
      new_parts ≡ rest ++ joined_part op left right.rest right.shape right ∷ [] →
      AreSplit common t before (apply op first second ∷ trees) new_pieces new_parts
  stays_beside new_pieces new_parts on e f =
      by_room new_pieces new_parts true (sym on ∙ room_is)
      (e ∙ pieces_so_far ∙ append_assoc so_far (split common u first).0 (split common w second).0)
      (f ∙ ap (λ p. rest ++ joined_part op p right.rest right.shape right ∷ []) left_is
      ∙ ap (λ p. rest ++ joined_part op (split_part common u first) p.rest p.shape p ∷ []) right_is)

  -- it becomes a piece
  pub becomes_piece : (new_pieces : List Tree) (new_parts : List Part) →
      is_beside op left.shape right.whole ≡ false → new_pieces ≡ pieces ++ right.rest ∷ [] →
      new_parts ≡ rest ++ joined_part op left (variable common (t + length pieces))
      (computed_shape false 1) right ∷ [] →
      AreSplit common t before (apply op first second ∷ trees) new_pieces new_parts
  becomes_piece new_pieces new_parts off_beside e f =
      let k : ℕ = u + length (split common u first).0 + length (split common w second).0 in
      let count : t + length pieces ≡ k =
      (let a = ap length pieces_so_far in
      let b = length-append (so_far ++ (split common u first).0) (split common w second).0 in
      let c = length-append so_far (split common u first).0 in omega (arith, a, b, c)) in
      by_room new_pieces new_parts false (sym off_beside ∙ room_is)
      (e ∙ ap (λ all. all ++ right.rest ∷ []) pieces_so_far
      ∙ ap (λ p. ((so_far ++ (split common u first).0) ++ (split common w second).0) ++ p.rest ∷ []) right_is
      ∙ append_assoc (so_far ++ (split common u first).0) (split common w second).0 ((split common w second).1 ∷ [])
      ∙ append_assoc so_far (split common u first).0 ((split common w second).0 ++ (split common w second).1 ∷ []))
      (f ∙ ap (λ n. rest ++ joined_part op left (variable common n) (computed_shape false 1) right ∷ []) count
      ∙ ap (λ p. rest ++ joined_part op p (variable common k) (computed_shape false 1) right ∷ []) left_is
      ∙ ap (λ p. rest ++ joined_part op (split_part common u first) (variable common k)
      (computed_shape false 1) p ∷ []) right_is
      ∙ ap (λ s. rest ++ joined_part op (split_part common u first) (variable common k) s
      (split_part common w second) ∷ []) (sym (shape-variable common k)))

  pub joined_taken : (new_pieces : List Tree) (new_parts : List Part) →
      JoinsTo common t op left right pieces rest new_pieces new_parts →
      AreSplit common t before (apply op first second ∷ trees) new_pieces new_parts
  joined_taken new_pieces new_parts j = ⊎_elim
      (λ (on : is_beside op left.shape right.whole ≡ true). stays_beside new_pieces new_parts on
      (j.0 ∙ ap (λ b. (joined_splits common t op b left right pieces).0) on)
      (j.1 ∙ ap (λ b. rest ++ (joined_splits common t op b left right pieces).1 ∷ []) on))
      (λ (away : is_beside op left.shape right.whole ≡ false).
      becomes_piece new_pieces new_parts away
      (j.0 ∙ ap (λ b. (joined_splits common t op b left right pieces).0) away)
      (j.1 ∙ ap (λ b. rest ++ (joined_splits common t op b left right pieces).1 ∷ []) away))
      (cases_Bool (is_beside op left.shape right.whole))

-- ---- a node

pub number_takes : (common : Bool) (t k : ℕ) (pieces new_pieces : List Tree) (parts new_parts : List Part) →
    new_pieces ≡ pieces → new_parts ≡ parts ++ whole_part (number k) ∷ [] →
    TakesNode common t (Number k) pieces parts new_pieces new_parts
number_takes common t k pieces new_pieces parts new_parts same more before trees are ready =
    leaf_taken common t (number k) (λ u. refl) before trees pieces new_pieces parts new_parts same more are

pub own_takes : (common : Bool) (t : ℕ) (pieces new_pieces : List Tree) (parts new_parts : List Part) →
    new_pieces ≡ pieces → new_parts ≡ parts ++ whole_part own ∷ [] →
    TakesNode common t Own pieces parts new_pieces new_parts
own_takes common t pieces new_pieces parts new_parts same more before trees are ready =
    leaf_taken common t own (λ u. refl) before trees pieces new_pieces parts new_parts same more are

pub loop_takes : (common : Bool) (t nest : ℕ) (pieces new_pieces : List Tree) (parts new_parts : List Part) →
    new_pieces ≡ pieces → new_parts ≡ parts ++ whole_part (loop nest) ∷ [] →
    TakesNode common t (Loop nest) pieces parts new_pieces new_parts
loop_takes common t nest pieces new_pieces parts new_parts same more before trees are ready =
    leaf_taken common t (loop nest) (λ u. refl) before trees pieces new_pieces parts new_parts same more
    are

pub private_takes : (common : Bool) (t x : ℕ) (pieces new_pieces : List Tree) (parts new_parts : List Part) →
    new_pieces ≡ pieces → new_parts ≡ parts ++ whole_part (private x) ∷ [] →
    TakesNode common t (Private x) pieces parts new_pieces new_parts
private_takes common t x pieces new_pieces parts new_parts same more before trees are ready =
    leaf_taken common t (private x) (λ u. refl) before trees pieces new_pieces parts new_parts same more
    are

pub place_takes : (common : Bool) (t array : ℕ) (pieces new_pieces : List Tree) (parts rest new_parts : List Part)
    (part : Part) → parts ≡ rest ++ part ∷ [] → new_pieces ≡ pieces →
    new_parts ≡ rest ++ place_part array part ∷ [] →
    TakesNode common t (Place array) pieces parts new_pieces new_parts
place_takes common t array pieces new_pieces parts rest new_parts part popped same more before [] are
    ready = absurd ready
place_takes common t array pieces new_pieces parts rest new_parts part popped same more before
    (index ∷ trees) are ready =
    place_taken common t array before index trees pieces new_pieces parts rest new_parts part popped same
    more are

pub apply_takes : (common : Bool) (t : ℕ) (op : Op) (pieces new_pieces : List Tree)
    (parts rest new_parts : List Part) (left right : Part) →
    AreTakenOff parts rest left right →
    JoinsTo common t op left right pieces rest new_pieces new_parts →
    TakesNode common t (Apply op) pieces parts new_pieces new_parts
apply_takes common t op pieces new_pieces parts rest new_parts left right off j before [] are ready =
    absurd ready
apply_takes common t op pieces new_pieces parts rest new_parts left right off j before (second ∷ []) are
    ready = absurd ready
apply_takes common t op pieces new_pieces parts rest new_parts left right off j before
    (second ∷ first ∷ trees) are ready =
    joined_taken common t op before second first trees pieces parts rest left right off are new_pieces
    new_parts j

-- the operands are there
one_there : (common : Bool) (t array : ℕ) (pieces : List Tree) (parts : List Part) →
    (before trees : List Tree) → AreSplit common t before trees pieces parts →
    HasOperands trees (Place array) → 0 < length parts
one_there common t array pieces parts before [] are ready = absurd ready
one_there common t array pieces parts before (index ∷ trees) are ready =
    let e = ap (λ (l : List Part). length l) are.parts_are in
    let f = parts_count common t before (index ∷ trees) in omega (arith, e, f)

two_there : (common : Bool) (t : ℕ) (op : Op) (pieces : List Tree) (parts : List Part) →
    (before trees : List Tree) → AreSplit common t before trees pieces parts →
    HasOperands trees (Apply op) → 1 < length parts
two_there common t op pieces parts before [] are ready = absurd ready
two_there common t op pieces parts before (second ∷ []) are ready = absurd ready
two_there common t op pieces parts before (second ∷ first ∷ trees) are ready =
    let e = ap (λ (l : List Part). length l) are.parts_are in
    let f = parts_count common t before (second ∷ first ∷ trees) in omega (arith, e, f)

pub index_there : (common : Bool) (t array : ℕ) (pieces : List Tree) (parts : List Part) →
    CanSplit common t (Place array) pieces parts → 0 < length parts
index_there common t array pieces parts can =
    one_there common t array pieces parts can.before can.trees can.are can.ready

pub operands_there : (common : Bool) (t : ℕ) (op : Op) (pieces : List Tree) (parts : List Part) →
    CanSplit common t (Apply op) pieces parts → 1 < length parts
operands_there common t op pieces parts can =
    two_there common t op pieces parts can.before can.trees can.are can.ready

-- the only one is taken off
pub record IsOnlyPart (common : Bool) (t : ℕ) (before : List Tree) (tree : Tree) (pieces : List Tree)
    (rest : List Part) (part : Part) : Type 0 where
  pub none : rest ≡ []
  pub part_is : part ≡ split_part common (t + length before) tree
  pub pieces_are : pieces ≡ before ++ (split common (t + length before) tree).0

pub only_part : (common : Bool) (t : ℕ) (before : List Tree) (tree : Tree) (pieces : List Tree)
    (parts rest : List Part) (part : Part) → AreSplit common t before (tree ∷ []) pieces parts →
    parts ≡ rest ++ part ∷ [] → IsOnlyPart common t before tree pieces rest part
only_part common t before tree pieces parts rest part are popped =
    let both = same_from_push rest [] part (split_part common (t + length before) tree)
    (sym popped ∙ are.parts_are) in
    record { none = both.0; part_is = both.1; pieces_are = are.pieces_are }

pub some_part : (common : Bool) (t : ℕ) (before : List Tree) (tree : Tree) (pieces : List Tree)
    (parts : List Part) → AreSplit common t before (tree ∷ []) pieces parts → 0 < length parts
some_part common t before tree pieces parts are = omega (arith, ap (λ (l : List Part). length l) are.parts_are)

-- ---- shapes alone

module _ (shapes new_shapes : List ShapeData) where
  pub leaf_shapes : (leaf : Tree) (node : Node) → ((trees : List Tree) →
      with_node trees node ≡ leaf ∷ trees) → new_shapes ≡ shapes ++ shape_of leaf ∷ [] →
      ShapesNode node shapes new_shapes
  leaf_shapes leaf node with is trees are ready =
      is ∙ ap (λ all. all ++ shape_of leaf ∷ []) are ∙ sym (ap shapes_of (with trees))

  pub place_shapes : (array : ℕ) (rest : List ShapeData) (index : ShapeData) →
      shapes ≡ rest ++ index ∷ [] →
      new_shapes ≡ rest ++ computed_shape false (max 1 index.need) ∷ [] →
      ShapesNode (Place array) shapes new_shapes
  place_shapes array rest index popped is [] are ready = absurd ready
  place_shapes array rest index popped is (tree ∷ trees) are ready =
      let both = same_from_push rest (shapes_of trees) index (shape_of tree) (sym popped ∙ are) in
      is ∙ ap (λ all. all ++ computed_shape false (max 1 index.need) ∷ []) both.0
      ∙ ap (λ (s : ShapeData). shapes_of trees ++ computed_shape false (max 1 s.need) ∷ []) both.1

  pub apply_shapes : (op : Op) (between rest : List ShapeData) (first second : ShapeData) →
      shapes ≡ between ++ second ∷ [] → between ≡ rest ++ first ∷ [] →
      new_shapes ≡ rest ++ applied_shape op first second ∷ [] →
      ShapesNode (Apply op) shapes new_shapes
  apply_shapes op between rest first second popped under is [] are ready = absurd ready
  apply_shapes op between rest first second popped under is (last ∷ []) are ready = absurd ready
  apply_shapes op between rest first second popped under is (last ∷ tree ∷ trees) are ready =
      let top = same_from_push between (shapes_of (tree ∷ trees)) second (shape_of last)
      (sym popped ∙ are) in
      let next = same_from_push rest (shapes_of trees) first (shape_of tree)
      (sym under ∙ top.0) in
      is ∙ ap (λ all. all ++ applied_shape op first second ∷ []) next.0
      ∙ ap (λ s. shapes_of trees ++ applied_shape op s second ∷ []) next.1
      ∙ ap (λ s. shapes_of trees ++ applied_shape op (shape_of tree) s ∷ []) top.1

shapes_count : (trees : List Tree) → length (shapes_of trees) ≡ length trees
shapes_count [] = refl
shapes_count (tree ∷ trees) =
    let more = length-append (shapes_of trees) (shape_of tree ∷ []) in
    let rest = shapes_count trees in omega (arith, more, rest)

some_shape : (array : ℕ) (shapes : List ShapeData) (trees : List Tree) →
    shapes ≡ shapes_of trees → HasOperands trees (Place array) → 0 < length shapes
some_shape array shapes [] are ready = absurd ready
some_shape array shapes (tree ∷ trees) are ready =
    let e = ap (λ (l : List ShapeData). length l) are in
    let f = shapes_count (tree ∷ trees) in omega (arith, e, f)

pub index_shape_there : (array : ℕ) (shapes : List ShapeData) → CanShape (Place array) shapes →
    0 < length shapes
index_shape_there array shapes can = some_shape array shapes can.trees can.are can.ready

two_shapes : (op : Op) (shapes : List ShapeData) (trees : List Tree) →
    shapes ≡ shapes_of trees → HasOperands trees (Apply op) → 1 < length shapes
two_shapes op shapes [] are ready = absurd ready
two_shapes op shapes (tree ∷ []) are ready = absurd ready
two_shapes op shapes (tree ∷ other ∷ trees) are ready =
    let e = ap (λ (l : List ShapeData). length l) are in
    let f = shapes_count (tree ∷ other ∷ trees) in omega (arith, e, f)

pub shapes_there : (op : Op) (shapes : List ShapeData) → CanShape (Apply op) shapes →
    1 < length shapes
shapes_there op shapes can = two_shapes op shapes can.trees can.are can.ready

-- ---- taking off two parts changes neither pieces nor base

pub joins_back : (kind common : Bool) (s t : ℕ) (op : Op) (first second : Part)
    (pieces old : List Tree) (parts : List Part) (new_pieces : List Tree)
    (new_parts : List Part) → kind ≡ common → s ≡ t → pieces ≡ old →
    JoinsTo kind s op first second pieces parts new_pieces new_parts →
    JoinsTo common t op first second old parts new_pieces new_parts
joins_back kind common s t op first second pieces old parts new_pieces new_parts same e f j =
    subst (λ k. JoinsTo k t op first second old parts new_pieces new_parts) same
    (subst (λ n. JoinsTo kind n op first second old parts new_pieces new_parts) e
    (subst (λ l. JoinsTo kind s op first second l parts new_pieces new_parts) f j))
