-- Plain tasks of a block, which are remembered once they are done.
use Rattle.std.specs.Prelude.{◌≡◌, ℕ, ◌-◌, suc, Bool, true, false, List, slice_set, Option}
use Rattle.walk_memory.specs.declared.memo.Memo.{Memo}
use Rattle.walk_memory.specs.Inner.Posts.{PostData, at_rank, processor_of}
use Rattle.walk_memory.specs.Memory.{at_start, memo_of}
use Rattle.walk_memory.specs.Plain.{done_all, done_or_late}
use Rattle.pram_board.specs.Inner.Plays.{AtPart, DonePart, Driving}

-- what is remembered once this is known of the processors from the post's up to this rank, but for
-- the last one, if the worker was late there
abbrev pub done_up_to : PostData → (ℕ → Memo) → List Memo → ℕ × Bool → List Memo
done_up_to at does memory (last, false) = done_all at (suc last - at.rank) does memory
done_up_to at does memory (last, true) = slice_set (done_all at (last - at.rank) does memory)
    (processor_of (at_rank at last)) at_start

-- the worker is at the task of this leaf's processor, with a memory that knows the same of it
pub record AtAlike (at : PostData) (driver : Driving) (memory : List Memo) : Type 0 where
  pub held : List Memo
  pub same : memo_of held (processor_of at) ≡ memo_of memory (processor_of at)
  pub part : AtPart at driver held

-- The task was done, with any memory that knows the same of it: what is then known of the processor
-- by the value that the task gave, if the worker was not late.
abbrev pub DoneAlike : PostData → Driving → List Memo → (ℕ → Memo) → Option ℕ → Driving → Type 0
DoneAlike at before memory does found later = (held : List Memo) →
    memo_of held (processor_of at) ≡ memo_of memory (processor_of at) → AtPart at before held →
    DonePart at before held later (slice_set held (processor_of at) (done_or_late does found))
