-- The tree of progress, as a heap: node 1 is the root, node n has the children 2n and 2n + 1.
use Rattle.std.specs.Prelude.{◌≡◌, ◌↔◌, ℕ, Bool, IsTrue, ◌+◌, ◌-◌, ◌%◌, ◌^◌, ◌<◌, ◌≤◌, ◌==◌}
use Rattle.std.specs.Int.{leading_zeros, bit_at, w32}

-- how many binary digits a number below 2^32 has; 0 has none
unfoldable pub digits_of : ℕ → ℕ
digits_of number = 32 - leading_zeros w32 number

-- the least power of two that is at least the number
unfoldable pub leaves_of : ℕ → ℕ
leaves_of number = 2 ^ digits_of (number - 1)

-- how far a node lies below the root; the first leaf of a tree is the node of the number of its
-- leaves, so the tree has the height `depth_of leaves`
unfoldable pub depth_of : ℕ → ℕ
depth_of node = digits_of node - 1

-- the leaf where a worker begins
abbrev pub first_leaf_of : ℕ → ℕ → ℕ
first_leaf_of leaves worker = leaves + worker % leaves

-- a worker's way from an inner node of which both children are unfinished
abbrev pub turns_right : ℕ → ℕ → ℕ → Bool
turns_right leaves worker node = bit_at (worker % leaves) (depth_of leaves - 1 - depth_of node) == 1

-- the turn in the compact form, said by bits: at this depth of a tree of this height, the bit
-- `height - 1 - depth` of the worker's number modulo the leaves is 1
abbrev pub IsTurn : ℕ → ℕ → ℕ → Bool → Type 0
IsTurn leaves worker node right =
    (height depth : ℕ) → leaves ≡ 2 ^ height → 2 ^ depth ≤ node → node < 2 ^ (depth + 1) →
    (IsTrue right) ↔ (bit_at (worker % leaves) (height - 1 - depth) ≡ 1)
