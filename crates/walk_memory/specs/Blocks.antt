-- A job's board, the blocks of its leaves, and how far their processors have nothing to do.
use Rattle.std.specs.Prelude.{◌≡◌, ℕ, ◌+◌, ◌-◌, ◌*◌, ◌&&◌, nat_le, nat_lt, if◌then◌else◌, List, max}
use Rattle.std.specs.Prelude.{min, zero, suc, Bool, slice_set}
use Rattle.pram_job.specs.Job.{JobData, IsJob}
use Rattle.pram_words.specs.Phases.{step_at}
use Rattle.pram_words.specs.Words.{LayoutData, IsLayout, grain, layout_of}
use Rattle.pram_words.specs.declared.layout.Form.{Form}
use Rattle.pram_words.specs.declared.layout.Form.TheVariants.{Compact, Wide}
use Rattle.walk_memory.specs.declared.memo.Memo.{Memo}
use Rattle.walk_memory.specs.Memory.{gone_on, memo_of, reach}

-- the layout is the job's
abbrev pub IsLayoutOf : JobData → LayoutData → Type 0
IsLayoutOf job layout = layout ≡ layout_of job layout.form layout.workers

-- a job within its limits, and its board
pub record IsBoard (job : JobData) (board : LayoutData) : Type 0 where
  pub limits : IsJob job
  pub layout : IsLayout board
  pub is : IsLayoutOf job board

abbrev pub IsWide : Form → Type 0
IsWide Compact = ⊥
IsWide (Wide block) = Unit {0}

-- the last phase of the step
abbrev pub last_phase : ℕ → ℕ
last_phase phase = 3 * step_at phase

-- the processor of a rank in the block of leaf n, and whether there is one
abbrev pub processor_at : LayoutData → ℕ → ℕ → ℕ
processor_at layout node rank = grain layout * (node - layout.leaves) + rank

abbrev pub has_rank : LayoutData → ℕ → ℕ → Bool
has_rank layout node rank =
    nat_lt rank (grain layout) && nat_lt (processor_at layout node rank) layout.procs

-- Up to which phase the processors of a block have nothing to do, from this rank on, by what is known
-- of them. Of one that acted in a later phase nothing is known.
abbrev pub reach_from_phase : ℕ → Memo → ℕ
reach_from_phase phase memo = if nat_le memo.acted phase then reach memo else 0

abbrev pub least_reach : ℕ → JobData → LayoutData → ℕ → ℕ → ℕ → List Memo → ℕ
least_reach zero job layout node phase rank memory = 3 * job.steps
least_reach (suc more) job layout node phase rank memory =
    if has_rank layout node rank
    then min (reach_from_phase phase (memo_of memory (processor_at layout node rank)))
    (least_reach more job layout node phase (suc rank) memory)
    else 3 * job.steps

-- and the block, where this phase is done
abbrev pub block_reach : JobData → LayoutData → ℕ → ℕ → List Memo → ℕ
block_reach job layout node phase memory =
    max phase (least_reach (grain layout) job layout node phase 0 memory)

-- up to which phase so many processors have nothing to do, from this one on, or up to this one
abbrev pub least_of : ℕ → ℕ → ℕ → ℕ → List Memo → ℕ
least_of most phase zero i memory = most
least_of most phase (suc more) i memory =
    min (reach_from_phase phase (memo_of memory i)) (least_of most phase more (suc i) memory)

-- after the last one's task the processors of a block go on alone, from this rank on
abbrev pub block_gone_on : ℕ → JobData → LayoutData → ℕ → ℕ → List Memo → List Memo
block_gone_on zero job layout node rank memory = memory
block_gone_on (suc more) job layout node rank memory =
    if has_rank layout node rank
    then block_gone_on more job layout node (suc rank) (slice_set memory
    (processor_at layout node rank) (gone_on job (processor_at layout node rank)
    (memo_of memory (processor_at layout node rank))))
    else memory
