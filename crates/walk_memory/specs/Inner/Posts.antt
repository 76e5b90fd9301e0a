-- Where a worker stands, with the job and its board.
use Rattle.std.specs.Prelude.{◌≡◌, ◌≢◌, IsTrue, ℕ, ◌+◌, ◌*◌, ◌^◌, ◌<◌, ◌≤◌}
use Rattle.pram_job.specs.declared.instr.Rule.TheVariants.{Common}
use Rattle.pram_job.specs.Job.{JobData}
use Rattle.pram_words.specs.Phases.{kind_at, step_at}
use Rattle.pram_words.specs.declared.phases.Kind.{Kind}
use Rattle.pram_words.specs.Words.{AreOwn, LayoutData, grain, number_of, places_of}
use Rattle.pram_words.specs.declared.layout.OwnWords.{OwnWords}
use Rattle.pram_words.specs.declared.words.Word.TheVariants.{Claim, Stored}
use Rattle.walk_memory.specs.Blocks.{IsBoard, processor_at}

-- a worker at a node, in the phase of its turn, at the processor of a rank in the node's block
pub record PostData : Type 0 where
  pub job : JobData
  pub layout : LayoutData
  pub worker : ℕ
  pub node : ℕ
  pub phase : ℕ
  pub rank : ℕ

abbrev pub post_data : JobData → LayoutData → ℕ → ℕ → ℕ → ℕ → PostData
post_data job layout worker node phase rank =
    record { job = job; layout = layout; worker = worker; node = node; phase = phase; rank = rank }

-- the worker and its node are on the job's board
pub record IsPost (at : PostData) : Type 0 where
  pub board : IsBoard at.job at.layout
  pub worker : at.worker < at.layout.workers
  pub some : 1 ≤ at.node
  pub most : at.node < 2 * at.layout.leaves

-- the step of the phase, and the processor of the rank
abbrev pub step_of : PostData → ℕ
step_of at = step_at at.phase

abbrev pub processor_of : PostData → ℕ
processor_of at = processor_at at.layout at.node at.rank

-- the node is a leaf with a processor of the rank, and the phase one of the job's
pub record IsLeafPost (at : PostData) : Type 0 where
  pub board : IsBoard at.job at.layout
  pub first : at.layout.leaves ≤ at.node
  pub rank : at.rank < grain at.layout
  pub last : processor_of at < at.layout.procs
  pub phase : at.phase ≤ 3 * at.job.steps

-- the post at the processor of another rank
abbrev pub at_rank : PostData → ℕ → PostData
at_rank at rank = record at { rank = rank }

-- a post that is a leaf's, with its step, what the phase does, its processor, and where that one's
-- words begin, and those of the cells
pub record IsLeafOf (at : PostData) (t : ℕ) (kind : Kind) (i : ℕ) (words : OwnWords)
    (first_cell : ℕ) : Type 0 where
  pub leaf : IsLeafPost at
  pub step : t ≡ step_of at
  pub does : kind ≡ kind_at at.phase
  pub processor : i ≡ processor_of at
  pub own : AreOwn at.layout i words
  pub cells : (cell : ℕ) → cell < at.layout.cells →
      number_of at.layout (Stored cell 0) ≡ first_cell + 2 * cell

-- the two words of a place begin at this one
pub record IsPairAt (layout : LayoutData) (place word : ℕ) : Type 0 where
  pub first : word ≡ number_of layout (Stored place 0)
  pub second : word + 1 ≡ number_of layout (Stored place 1)
  pub below : word + 1 < 2 ^ 32

-- a cell with a claim word
abbrev pub IsCell : LayoutData → ℕ → Type 0
IsCell layout cell = IsTrue layout.claims × (cell < layout.cells)

-- the claim words of the cells begin at this one: one a cell
abbrev pub ClaimsFrom : LayoutData → ℕ → Type 0
ClaimsFrom layout first = (cell : ℕ) → IsCell layout cell →
    number_of layout (Claim cell) ≡ first + cell

-- a cell of the job: a place of the board, with a claim word but under the rule common
pub record IsCellOf (at : PostData) (cell : ℕ) : Type 0 where
  pub below : cell < at.job.cells
  pub place : cell < places_of at.layout
  pub claim : at.job.rule ≢ Common → IsCell at.layout cell
