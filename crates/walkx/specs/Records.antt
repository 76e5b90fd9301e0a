-- A record of atomic steps with their answers, and what it knows of a worker.
use Rattle.std.specs.Prelude.{◌≡◌, ◌⊎◌, ℕ, ◌<◌, List, [], ◌∷◌, ◌++◌}
use Rattle.pram_job.specs.Job.{JobData}
use Rattle.pram_words.specs.Words.{LayoutData}
use Rattle.walkx.specs.declared.operation.Op.{Op}
use Rattle.walkx.specs.Doing.{Doing}
use Rattle.walkx.specs.Doing as doing
use Rattle.walkx.specs.Scripts.{ends, rest, heard_in}
use Rattle.walk_memory.specs.declared.memo.Memo.{Memo}
use Rattle.walk_memory.specs.Memory.{IsTrueMemo, IsTrueMemory}
use Rattle.walkx.specs.Walk.{worked, Walking, begun_phase, heard_of, node_of, part_script}
use Rattle.walk_memory.specs.Blocks.{processor_at}

-- none; a record followed by one step with its answer; two records joined, with no order between
-- them
pub data Record : Type 0 where
  empty : Record
  after : Record → Op → ℕ → Record
  both : Record → Record → Record

-- the record has these steps, the newest first, in this order
abbrev pub Has : Record → List (Op × ℕ) → Type 0
Has past [] = Unit {0}
Has empty (step ∷ steps) = ⊥
Has (after past op found) (step ∷ steps) =
    ((step ≡ (op, found)) × Has past steps) ⊎ Has past (step ∷ steps)
Has (both past other) (step ∷ steps) = Has past (step ∷ steps) ⊎ Has other (step ∷ steps)

-- ---- the record knows the worker

-- the record has a whole task of the processor of this rank, in its phase, by what is true of it
pub record HasPart (job : JobData) (layout : LayoutData) (past : Record) (node phase rank : ℕ) :
    Type 0 where
  pub memo : Memo
  pub is_true : IsTrueMemo job (processor_at layout node rank) memo
  pub answers : List ℕ
  pub learned : Memo
  pub whole : rest (part_script job layout node phase rank memo) answers
      ≡ ends (worked node phase rank learned)
  pub has : Has past
      (heard_in (part_script job layout node phase rank memo) answers ++ begun_phase layout phase)

-- the record has the whole tasks of all processors of the block before the one that the worker is
-- at
abbrev pub HasBlock : JobData → LayoutData → Record → ℕ → Doing → Type 0
HasBlock job layout past node (doing.Part phase rank) = (earlier : ℕ) → earlier < rank →
    HasPart job layout past node phase earlier
HasBlock job layout past node _ = Unit {0}

-- it has the steps that brought the worker where it stands, and what the worker remembers is true
pub record Knows (job : JobData) (layout : LayoutData) (past : Record) (worker : Walking) :
    Type 0 where
  pub script : Has past (heard_of job layout worker)
  pub block : HasBlock job layout past (node_of layout worker) worker.now
  pub memory : IsTrueMemory job worker.memory
