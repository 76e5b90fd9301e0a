-- Nodes by themselves.
use Rattle.std.specs.Prelude.{◌≡◌, ℕ, List, [], ◌∷◌, ◌++◌, Option, Some, None}
use Rattle.pardo_program.specs.declared.expression.Node.{Node}
use Rattle.pardo_program.specs.declared.expression.Node.TheVariants.{Number, Place, Apply}

-- a node with no expression before it
abbrev pub IsLeaf : Node → Type 0
IsLeaf (Place array) = ⊥
IsLeaf (Apply op) = ⊥
IsLeaf _ = Unit {0}

-- the number that the last node is, if it is one
abbrev pub IsLastNumber : List Node → Option ℕ → Type 0
IsLastNumber nodes None =
    (front : List Node) (value : ℕ) → nodes ≡ front ++ Number value ∷ [] → ⊥
IsLastNumber nodes (Some value) = (front : List Node) × (nodes ≡ front ++ Number value ∷ [])
