-- Expressions by pieces, node by node.
use Rattle.std.specs.Prelude.{◌≡◌, ℕ, ◌+◌, Bool, false, List, [], ◌∷◌, ◌++◌, length}
use Rattle.std.specs.Prelude.{if◌then◌else◌}
use Rattle.pardo_program.specs.declared.operation.Op.{Op}
use Rattle.pardo_program.specs.declared.expression.Node.{Node}
use Rattle.pardo_program.specs.declared.expression.Node.TheVariants.{Number, Own, Loop}
use Rattle.pardo_program.specs.declared.expression.Node.TheVariants.{Private, Place, Apply}
use Rattle.pardo_program.specs.Expression.{Tree, apply, with_node}
use Rattle.pardo_program.specs.Inner.Postfixes.{HasOperands}
use Rattle.pardo_flat.specs.declared.splitter.Part.{Part}
use Rattle.pardo_flat.specs.Flat.{ShapeData, applied_shape, computed_shape, is_beside}
use Rattle.pardo_flat.specs.Flat.{shape_of, split, variable}

-- what is left of an expression, with its shape and that of the whole expression
abbrev pub split_part : Bool → ℕ → Tree → Part
split_part common t tree = record {
  rest = (split common t tree).1;
  shape = shape_of (split common t tree).1;
  whole = shape_of tree;
}

-- the pieces after these expressions, the last one first, and what is left of each
abbrev pub pieces_after : Bool → ℕ → List Tree → List Tree → List Tree
pieces_after common t before [] = before
pieces_after common t before (tree ∷ trees) = pieces_after common t before trees
    ++ (split common (t + length (pieces_after common t before trees)) tree).0

abbrev pub parts_after : Bool → ℕ → List Tree → List Tree → List Part
parts_after common t before [] = []
parts_after common t before (tree ∷ trees) = parts_after common t before trees
    ++ split_part common (t + length (pieces_after common t before trees)) tree ∷ []

-- these pieces and parts are those of these expressions
pub record AreSplit (common : Bool) (t : ℕ) (before trees pieces : List Tree) (parts : List Part) :
    Type 0 where
  pub pieces_are : pieces ≡ pieces_after common t before trees
  pub parts_are : parts ≡ parts_after common t before trees

-- with one node more, whatever came before
abbrev pub TakesNode : Bool → ℕ → Node → List Tree → List Part → List Tree → List Part → Type 0
TakesNode common t node pieces parts new_pieces new_parts = (before trees : List Tree) →
    AreSplit common t before trees pieces parts → HasOperands trees node →
    AreSplit common t before (with_node trees node) new_pieces new_parts

-- the operands of the node are there
pub record CanSplit (common : Bool) (t : ℕ) (node : Node) (pieces : List Tree)
    (parts : List Part) : Type 0 where
  pub before : List Tree
  pub trees : List Tree
  pub are : AreSplit common t before trees pieces parts
  pub ready : HasOperands trees node

-- an operation of two parts: the second one is the last piece where it has no room beside the first
abbrev pub joined_splits : Bool → ℕ → Op → Bool → Part → Part → List Tree → List Tree × Part
joined_splits common t op room first second pieces =
    if room then (
      pieces,
      record {
        rest = apply op first.rest second.rest;
        shape = applied_shape op first.shape second.shape;
        whole = applied_shape op first.whole second.whole;
      },
    )
    else (
      pieces ++ second.rest ∷ [],
      record {
        rest = apply op first.rest (variable common (t + length pieces));
        shape = applied_shape op first.shape (computed_shape false 1);
        whole = applied_shape op first.whole second.whole;
      },
    )

abbrev pub JoinsTo : Bool → ℕ → Op → Part → Part → List Tree → List Part → List Tree →
    List Part → Type 0
JoinsTo common t op first second pieces parts new_pieces new_parts =
    let beside = is_beside op first.shape second.whole in
    let to = joined_splits common t op beside first second pieces in
    (new_pieces ≡ to.0) × (new_parts ≡ parts ++ to.1 ∷ [])

-- ---- shapes alone

-- those of expressions, the last one first
abbrev pub shapes_of : List Tree → List ShapeData
shapes_of [] = []
shapes_of (tree ∷ trees) = shapes_of trees ++ shape_of tree ∷ []

-- with one node more, whatever expressions there are
abbrev pub ShapesNode : Node → List ShapeData → List ShapeData → Type 0
ShapesNode node shapes new_shapes = (trees : List Tree) → shapes ≡ shapes_of trees →
    HasOperands trees node → new_shapes ≡ shapes_of (with_node trees node)

-- the operands of the node are there
pub record CanShape (node : Node) (shapes : List ShapeData) : Type 0 where
  pub trees : List Tree
  pub are : shapes ≡ shapes_of trees
  pub ready : HasOperands trees node
