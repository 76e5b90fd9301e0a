use Rattle.std.proofs.Common.{◌≤◌, ◌+◌, ◌%◌, ℕ, arith}
use Rattle.pram_words.specs.Words.{grain}
use Rattle.walk_memory.specs.Inner.Posts.{IsLeafPost, PostData, processor_of}
use Rattle.walk_memory.proofs.Ways.{within_row}
use Rattle.walk_memory.proofs.row_walk.lanes_to.Goals as goal

-- a block lies in one row
row : (at : PostData) (end : ℕ) → IsLeafPost at → at.rank ≤ end → end ≤ grain at.layout →
    processor_of at % 64 + end ≤ 64 + at.rank
row at end leaf later most =
    omega (arith, later, most, within_row at.layout at.node leaf.board.layout.block)

pub overflow_add-result : goal.overflow_add-result
overflow_add-result c = omega (
  arith,
  c.rank.ensures,
  c.processor-i.ensures.value,
  row c.args.leaf.now c.args.end c.processor-i.ensures.limits c.requires.later c.requires.within,
)

pub invariant_of-result : goal.invariant_of-result
invariant_of-result c =
    let is = c.processor-i.ensures.value in
    let most = row c.args.leaf.now c.args.end c.processor-i.ensures.limits c.requires.later
    c.requires.within in record {
      ordered = omega arith;
      within = omega (arith, c.rank.ensures, is, most);
      fits = omega (arith, c.rank.ensures, is, most, c.processor-i.type_inv);
    }
