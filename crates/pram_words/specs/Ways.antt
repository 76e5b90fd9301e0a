-- A worker's way over the tree of progress, by the form of the board.
use Rattle.std.specs.Prelude.{◌≡◌, ◌↔◌, ℕ, zero, suc, Bool, IsTrue, ◌+◌}
use Rattle.std.specs.Prelude.{◌*◌, ◌%◌, ◌^◌, ◌<◌, ◌≤◌, ◌==◌, count_ones}
use Rattle.std.specs.Int.{from_bool}
use Rattle.pram_words.specs.declared.layout.Form.{Form}
use Rattle.pram_words.specs.declared.layout.Form.TheVariants.{Compact, Wide}
use Rattle.pram_words.specs.Tree.{depth_of, first_leaf_of, turns_right, IsTurn}
use Rattle.pram_words.specs.Forms.{by_form}
use Rattle.pram_words.specs.Words.{LayoutData}

-- The turn in the wide form: of the bits of the worker's number from the lowest up to that of the
-- node's depth, an odd number are 1. So two workers who share a subtree go through it from both its
-- ends, as in a reflected binary code, however many workers there are.
abbrev pub turns_right_wide : ℕ → ℕ → Bool
turns_right_wide worker node = count_ones (worker % 2 ^ (depth_of node + 1)) % 2 == 1

-- the same, said of the node's depth
abbrev pub IsTurnWide : ℕ → ℕ → Bool → Type 0
IsTurnWide worker node right = (depth : ℕ) → 2 ^ depth ≤ node → node < 2 ^ (depth + 1) →
    IsTrue right ↔ (count_ones (worker % 2 ^ (depth + 1)) % 2 ≡ 1)

-- a worker's way from an inner node of which both children are unfinished
unfoldable pub turns_right_in : LayoutData → ℕ → ℕ → Bool
turns_right_in layout worker node =
    by_form layout.form (turns_right layout.leaves worker node)
    (turns_right_wide worker node)

-- a worker's way from an inner node, said by bits, in each form
abbrev pub IsTurnInForm : Form → LayoutData → ℕ → ℕ → Bool → Type 0
IsTurnInForm Compact layout worker node right = IsTurn layout.leaves worker node right
IsTurnInForm (Wide grain) layout worker node right = IsTurnWide worker node right

-- the node at a depth where a worker's turns lead from the root
unfoldable pub way_of : LayoutData → ℕ → ℕ → ℕ
way_of layout worker zero = 1
way_of layout worker (suc depth) =
    2 * way_of layout worker depth
    + from_bool (turns_right_in layout worker (way_of layout worker depth))

-- the leaf where a worker begins
unfoldable pub first_leaf_in : LayoutData → ℕ → ℕ
first_leaf_in layout worker =
    by_form layout.form (first_leaf_of layout.leaves worker)
    (way_of layout worker (depth_of layout.leaves))
