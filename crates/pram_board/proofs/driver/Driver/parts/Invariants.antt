use Rattle.std.proofs.Common.{◌≡◌, ◌≤◌, ◌-◌}
use Rattle.walk_memory.specs.Inner.Posts.{at_rank}
use Rattle.pram_board.specs.Inner.Plays.{AtTask, Moved, driving, in_block, post_task}
use Rattle.pram_board.proofs.driver.Driver.parts.Given as goal

abbrev pub invariant-loop-leaf : goal.invariant-loop-leaf
invariant-loop-leaf g l = record {
  seat : l.self.seat.ghost_name ≡ l.fn.self.seat.ghost_name;
  same : l.leaf ≡ at_rank l.fn.leaf l.leaf.rank;
  later : l.fn.leaf.rank ≤ l.leaf.rank;
  at : AtTask l.leaf l.len (driving l.self) l.memory;
  moved : Moved (post_task l.fn.leaf) (driving l.fn.self) (in_block l.fn.leaf l.fn.leaf.rank l.fn.memory)
      (driving l.self) (in_block l.fn.leaf l.leaf.rank l.memory);
}

abbrev pub decreases-loop-leaf : goal.decreases-loop-leaf
decreases-loop-leaf g l = l.len - l.leaf.rank
