-- Answers that are played back, and the worker that heard them.
use Rattle.std.specs.Prelude.{◌≡◌, ℕ, suc, ◌*◌, ◌<◌, ◌≤◌, [], ◌∷◌, length, slice_set}
use Rattle.std.specs.Prelude.{Option, Some, None, Result, Ok, Err}
use Rattle.pram_job.specs.Job.{JobData}
use Rattle.pram_words.specs.Words.{LayoutData}
use Rattle.walkx.specs.declared.next.Next.{Next}
use Rattle.walkx.specs.declared.next.Next.TheVariants as next
use Rattle.walkx.specs.declared.operation.Op.{Op}
use Rattle.walkx.specs.declared.operation.Op.TheVariants.{Over}
use Rattle.walkx.specs.declared.playback.Playback.{Playback}
use Rattle.walkx.specs.Doing.{Doing}
use Rattle.walkx.specs.Doing as doing
use Rattle.walkx.specs.Inner.Heard.{newest}
use Rattle.walk_memory.specs.Inner.Posts.{IsLeafPost, IsPost, PostData, post_data}
use Rattle.walkx.specs.Rests.{IsBlockPost, then_of}
use Rattle.walkx.specs.Scripts.{Script, ends, first_op, heard_in, rest}
use Rattle.walk_memory.specs.Memory.{FitsMemory}
use Rattle.walkx.specs.Walk.{Then, Walking, AllAdmitted, IsInBlock, goes_in, node_of, script_of}
use Rattle.walk_memory.specs.Blocks.{processor_at}

-- this many of the answers were played back, and this is left of the script
pub record Played (at : PostData) (from : Playback × Script Then) (playback : Playback)
    (script : Script Then) : Type 0 where
  pub same : playback.heard.now ≡ from.0.heard.now
  pub within : playback.played ≤ length playback.heard.now
  pub here : rest from.1 (newest playback.played playback.heard.now) ≡ script
  pub admitted : AllAdmitted at.job at.layout
      (heard_in from.1 (newest (length playback.heard.now) playback.heard.now))

-- the operation after all answers
pub record AsksOperation (from : Playback × Script Then) (playback : Playback) : Type 0 where
  pub same : playback.heard.now ≡ from.0.heard.now
  pub op : first_op (rest from.1 (newest (length playback.heard.now) playback.heard.now))
      ≡ Some playback.held_op

abbrev pub stands_back : PostData → Playback × Script Then → Playback → Option (Script Then) →
    Type 0
stands_back at from playback (Some script) = Played at from playback script
stands_back at from playback None = AsksOperation from playback

-- the script ended so, or asks this next
abbrev pub ScriptComesTo : Script Then → Result Next Op → Type 0
ScriptComesTo script (Ok next) = script ≡ ends (then_of next)
ScriptComesTo script (Err op) = first_op script ≡ Some op

-- ---- a worker

-- the phase of a turn, or of a task in a block; none is needed beside one
abbrev pub phase_of_doing : Doing → ℕ
phase_of_doing (doing.Turn phase) = phase
phase_of_doing (doing.Part phase rank) = phase
phase_of_doing _ = 0

-- the rank of the processor whose task it does
abbrev pub rank_of : Doing → ℕ
rank_of (doing.Part phase rank) = rank
rank_of _ = 0

-- where it stands
abbrev pub stand_of : JobData → LayoutData → Walking → PostData
stand_of job layout worker =
    post_data job layout worker.number (node_of layout worker) (phase_of_doing worker.now)
    (rank_of worker.now)

-- its script can be played back with what it heard
pub record IsPlayable (job : JobData) (layout : LayoutData) (worker : Walking) : Type 0 where
  pub number : worker.number < layout.workers
  pub node : (1 ≤ node_of layout worker) × (node_of layout worker < 2 * layout.leaves)
  pub phase : phase_of_doing worker.now ≤ 3 * job.steps
  pub block : IsInBlock layout (node_of layout worker) worker.now
  pub memory : FitsMemory job worker.memory
  pub admitted : AllAdmitted job layout (heard_in (script_of job layout worker) worker.heard)

-- a worker on its board, in the block of its leaf
pub record IsBlockPlace (at : PostData) : Type 0 where
  pub post : IsPost at
  pub block : IsBlockPost at

-- where a worker of this number goes on in a block, it is there
abbrev pub GoesOn : JobData → LayoutData → ℕ → Next → Type 0
GoesOn job layout worker (next.Enters node phase) =
    IsBlockPlace (post_data job layout worker node phase 0)
GoesOn job layout worker (next.Worked node phase rank memo) =
    IsLeafPost (post_data job layout worker node phase rank)
    × IsBlockPlace (post_data job layout worker node phase (suc rank))
GoesOn job layout worker _ = Unit {0}

-- the worker with one answer more
abbrev pub hearing : Walking → ℕ → Walking
hearing worker found = record worker { heard = found ∷ worker.heard }

-- the worker after a script that it heard whole, and where it is held then
abbrev pub come_to : JobData → LayoutData → Walking → Next → Walking
come_to job layout worker (next.Begins node) =
    record worker { node = Some node; now = doing.Begin; heard = [] }
come_to job layout worker (next.Turns node phase) =
    record worker { node = Some node; now = doing.Turn phase; heard = [] }
come_to job layout worker (next.Enters node phase) =
    goes_in job layout worker.number node phase 0 worker.memory
come_to job layout worker (next.Worked node phase rank memo) =
    goes_in job layout worker.number node phase (suc rank)
    (slice_set worker.memory (processor_at layout node rank) memo)
come_to job layout worker (next.Stops end) = record worker { now = doing.Over end }

abbrev pub op_after : Next → Option Op
op_after (next.Begins node) = None
op_after (next.Turns node phase) = None
op_after (next.Enters node phase) = None
op_after (next.Worked node phase rank memo) = None
op_after (next.Stops end) = Some (Over end)
