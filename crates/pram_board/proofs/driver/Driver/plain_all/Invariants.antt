use Rattle.std.proofs.Common.{◌≡◌, ◌-◌, ◌≤◌}
use Rattle.walk_memory.specs.Inner.Posts.{at_rank}
use Rattle.walk_memory.specs.Plain.{done_all}
use Rattle.pram_board.specs.Inner.Plain.{by_lanes}
use Rattle.pram_board.specs.Inner.Plays.{AtTask, Moved, driving, in_block, post_task}
use Rattle.pram_board.proofs.driver.Driver.plain_all.Given as goal

-- those before this leaf's have done theirs
abbrev pub invariant-loop-value : goal.invariant-loop-value
invariant-loop-value g l = record {
  seat : l.self.seat.ghost_name ≡ l.fn.self.seat.ghost_name;
  same : l.leaf ≡ at_rank l.fn.leaf l.leaf.rank;
  later : l.fn.leaf.rank ≤ l.leaf.rank;
  at : AtTask l.leaf l.len (driving l.self)
      (done_all l.fn.leaf (l.leaf.rank - l.fn.leaf.rank)
      (by_lanes (g.P.PlainTasks.does l.plain l.fn.leaf) l.values l.memory) l.memory);
  moved : Moved (post_task l.fn.leaf) (driving l.fn.self)
      (in_block l.fn.leaf l.fn.leaf.rank l.memory) (driving l.self)
      (in_block l.fn.leaf l.leaf.rank
      (done_all l.fn.leaf (l.leaf.rank - l.fn.leaf.rank)
      (by_lanes (g.P.PlainTasks.does l.plain l.fn.leaf) l.values l.memory) l.memory));
}

abbrev pub decreases-loop-value : goal.decreases-loop-value
decreases-loop-value g l = l.len - l.leaf.rank
