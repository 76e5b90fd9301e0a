-- A block whose processors all stand at one instruction.
use Rattle.std.specs.Prelude.{◌≡◌, ◌+◌, ◌<◌, ℕ, true, false, slice_get, List, Some}
use Rattle.pram_job.specs.Job.{JobData}
use Rattle.pram_job.specs.declared.instr.Instr.{Instr}
use Rattle.walk_memory.specs.declared.as_one.Together.{Together}
use Rattle.walk_memory.specs.declared.memo.Memo.{Memo}
use Rattle.walk_memory.specs.Inner.Posts.{PostData}
use Rattle.walk_memory.specs.Memory.{gone_on, is_due, is_load, memo_of}
use Rattle.walk_memory.specs.Blocks.{has_rank, processor_at}

-- what is known of the processor of a rank
abbrev pub memo_at : PostData → List Memo → ℕ → Memo
memo_at post memory rank = memo_of memory (processor_at post.layout post.node rank)

-- there this instruction is next, and they can go on
abbrev pub StandTogether : JobData → Together → Instr → Type 0
StandTogether job at instr = (slice_get job.code at.counter ≡ Some instr) × (at.step < job.steps)
    × (at.stored ≡ false)

-- it is no load, and they do not settle in the next step
abbrev pub GoesUnsettled : Together → Instr → Type 0
GoesUnsettled at instr =
    (is_load (Some instr) ≡ false) × (is_due at.settled (at.step + 1) ≡ false)

-- all stay where they are
abbrev pub AllStay : PostData → List Memo → Type 0
AllStay post memory = (rank : ℕ) → has_rank post.layout post.node rank ≡ true →
    gone_on post.job (processor_at post.layout post.node rank) (memo_at post memory rank)
    ≡ memo_at post memory rank
