use Rattle.std.proofs.Common.{◌≡◌, ◌≤◌, ◌-◌}
use Rattle.walk_memory.specs.Inner.Posts.{at_rank}
use Rattle.walk_memory.specs.Plain.{carried_all}
use Rattle.pram_board.specs.Inner.Plays.{AtTask, Moved, driving, in_block, post_task}
use Rattle.pram_board.proofs.driver.Driver.store_on.Given as goal

abbrev pub invariant-loop-stores : goal.invariant-loop-stores
invariant-loop-stores g l = record {
  seat : l.self.seat.ghost_name ≡ l.fn.self.seat.ghost_name;
  same : l.leaf ≡ at_rank l.fn.leaf l.leaf.rank;
  later : l.fn.leaf.rank ≤ l.leaf.rank;
  at : AtTask l.leaf l.len (driving l.self)
      (carried_all l.fn.leaf (l.leaf.rank - l.fn.leaf.rank) l.fn.stores.memory.now);
  moved : Moved (post_task l.fn.leaf) (driving l.fn.self)
      (in_block l.fn.leaf l.fn.leaf.rank l.fn.stores.memory.now) (driving l.self)
      (in_block l.fn.leaf l.leaf.rank
      (carried_all l.fn.leaf (l.leaf.rank - l.fn.leaf.rank) l.fn.stores.memory.now));
}

abbrev pub decreases-loop-stores : goal.decreases-loop-stores
decreases-loop-stores g l = l.len - l.leaf.rank
