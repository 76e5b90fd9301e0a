-- Processors of a block go on alone by some steps, and the rest of their way stays as it is.
use Rattle.std.specs.Prelude.{◌≡◌, ℕ, ◌-◌, List}
use Rattle.pram_job.specs.Job.{JobData}
use Rattle.pram_words.specs.Words.{grain}
use Rattle.walk_memory.specs.declared.memo.Memo.{Memo}
use Rattle.walk_memory.specs.Inner.Posts.{PostData}
use Rattle.walk_memory.specs.Memory.{gone_on}
use Rattle.walk_memory.specs.Blocks.{block_gone_on}

-- where processor i gets at last
abbrev pub goes_as_far : JobData → ℕ → Memo → Memo → Type 0
goes_as_far job i before after = gone_on job i after ≡ gone_on job i before

-- where those of a block get, from this rank on
abbrev pub gone_from : PostData → ℕ → List Memo → List Memo
gone_from at rank memory =
    block_gone_on (grain at.layout - rank) at.job at.layout at.node rank memory
