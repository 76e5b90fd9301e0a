-- The leaf of a processor is a node of the tree.
use Rattle.std.proofs.Common.{ℕ, ◌<◌, arith}
use Rattle.pram_words.specs.declared.words.Word.TheVariants.{Node}
use Rattle.pram_words.specs.Words.{LayoutData, IsLayout, IsWord}
use Rattle.pram_words.proofs.Blocks.{block_below}
use Rattle.lawful_walk.specs.Board.{leaf_of}

pub leaf_word : (y : LayoutData) (i : ℕ) → IsLayout y → i < y.procs → IsWord y (Node (leaf_of y i))
leaf_word y i limits proc =
    let below = block_below y i limits proc in
    let some = limits.leaves.0 in
    (omega arith, omega arith)
