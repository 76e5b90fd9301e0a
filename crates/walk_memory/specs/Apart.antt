-- Processors of a block that do not stand together.
use Rattle.std.specs.Prelude.{◌≡◌, ◌+◌, ◌<◌, ◌≤◌, ℕ}
use Rattle.pram_job.specs.Job.{JobData}
use Rattle.walk_memory.specs.declared.block.Block.{Block}
use Rattle.walk_memory.specs.declared.span.Span.{Span}
use Rattle.walk_memory.specs.Lanes.{lane}
use Rattle.walk_memory.specs.Together.{goes_as_far}

-- Each of these lanes gets as far as it did before; the other lanes are as they were.
pub record GetAsFar (job : JobData) (lanes : Span) (old new : Block) : Type 0 where
  pub far : (k : ℕ) → lanes.start ≤ k → k < lanes.end →
      goes_as_far job (lanes.first + k) (lane old k) (lane new k)
  pub before : (k : ℕ) → k < lanes.start → lane new k ≡ lane old k
  pub after : (k : ℕ) → lanes.end ≤ k → lane new k ≡ lane old k
