use Rattle.std.proofs.Common.{◌≡◌, ◌<◌, ◌-◌, suc}
use Rattle.walk_memory.specs.Inner.Posts.{at_rank}
use Rattle.pram_board.specs.Inner.Plays.{AtTask, Moved, driving, in_block, post_task}
use Rattle.pram_board.proofs.driver.Driver.run_on.Given as goal

abbrev pub invariant-loop-next : goal.invariant-loop-next
invariant-loop-next g l = record {
  seat : l.self.seat.ghost_name ≡ l.fn.self.seat.ghost_name;
  same : l.next ≡ at_rank l.leaf l.next.rank;
  later : l.leaf.rank < l.next.rank;
  at : AtTask l.next l.len (driving l.self) l.memory;
  moved : Moved (post_task l.leaf) (driving l.fn.self)
      (in_block l.leaf (suc l.leaf.rank) l.fn.memory) (driving l.self)
      (in_block l.leaf l.next.rank l.memory);
}

abbrev pub decreases-loop-next : goal.decreases-loop-next
decreases-loop-next g l = l.len - l.next.rank
