-- What a worker that a record knows does next, and what a read answers.
use Rattle.std.specs.Prelude.{◌≡◌, ◌≢◌, ℕ, suc, ◌*◌, ◌≤◌, List, [], ◌∷◌, slice_index}
use Rattle.pram_job.specs.Job.{JobData}
use Rattle.pram_step.specs.Runs.{IsReached, state_after, IsFault}
use Rattle.pram_words.specs.declared.words.Word.{Word}
use Rattle.pram_words.specs.declared.words.Word.TheVariants.{Conflict, Node, Position}
use Rattle.pram_words.specs.Words.{LayoutData, IsWord}
use Rattle.walkx.specs.declared.operation.Op.{Op}
use Rattle.walkx.specs.Bound.{told_all}
use Rattle.walkx.specs.Doing.{Doing}
use Rattle.walkx.specs.Doing as doing
use Rattle.walkx.specs.Operations.{words_after, answer}
use Rattle.walkx.specs.Walk.{Walking, ask_of}
use Rattle.walkx.specs.Records.{Record, after}
use Rattle.pram_step.specs.declared.answer.Fault.{Fault}
use Rattle.lawful_walk.specs.Board.{held, root}
use Rattle.lawful_walk.specs.Moments.{Backed, IsFixed, Keeps}
use Rattle.lawful_walk.specs.Seen.{Heard, Shows, KnowsStep, HeardThen}

-- the phase that it is in, or 0, which is over for all words
abbrev pub phase_now : Doing → ℕ
phase_now (doing.Turn phase) = phase
phase_now (doing.Part phase rank) = phase
phase_now _ = 0

-- A step that keeps the words. Where the phase is over, no word but the worker's position
-- changes, in the wide form none but that and marks, which rise: phase 0 for a script of loads.
pub record Goes (job : JobData) (layout : LayoutData) (worker phase : ℕ) (op : Op)
    (words : List ℕ) : Type 0 where
  pub keeps : Keeps job layout op words
  pub stale : phase ≤ root layout words →
      (word : Word) → IsWord layout word → word ≢ Position worker → IsFixed layout.form word →
      held layout (words_after words op) word ≡ held layout words word

-- Its next operation goes well, and the words that it leaves bear out the record with it.
pub record Moves (job : JobData) (layout : LayoutData) (past : Record) (worker : Walking)
    (words : List ℕ) : Type 0 where
  pub goes : Goes job layout worker.number (phase_now worker.now) (ask_of job layout worker) words
  pub backed : Backed job layout
      (after past (ask_of job layout worker) (answer words (ask_of job layout worker)))
      (words_after words (ask_of job layout worker))

-- its steps with these answers, the newest first
abbrev pub steps_heard : JobData → LayoutData → Walking → List ℕ → List (Op × ℕ)
steps_heard job layout worker [] = []
steps_heard job layout worker (found ∷ earlier) =
    (ask_of job layout (told_all job layout worker earlier), found)
    ∷ steps_heard job layout worker earlier

-- an answer of a read, the record before the read and the one after it being these
pub record IsLawfulRead (job : JobData) (layout : LayoutData) (before later : Record)
    (cell step value : ℕ) : Type 0 where
  pub reached : IsReached job step
  pub holds : value ≡ slice_index (state_after job step) cell
  pub lasts : (t : ℕ) → KnowsStep layout before t → t ≤ step
  -- what the loads of this read show of the root and of word 0 is no later step
  pub seen : (t : ℕ) → Shows layout later t → t ≤ step
  pub known : (t : ℕ) × KnowsStep layout later t × (step ≤ t)
  pub named : (conflict : ℕ) → conflict ≢ 0 →
      Heard layout before Conflict conflict → suc step ≡ conflict

-- ---- what a worker that is over has heard

-- the last step is shown, and word 0 was heard as 0 after the root as 3T
pub record DoneWell (job : JobData) (layout : LayoutData) (past : Record) : Type 0 where
  pub shows : Shows layout past job.steps
  pub heard : HeardThen layout past (Node 1) (3 * job.steps) Conflict 0
  pub reached : IsReached job job.steps

-- word 0 was heard as the step of the first conflict, which is one of the job's
pub record IsConflict (job : JobData) (t : ℕ) : Type 0 where
  pub fault : Fault
  pub is : IsFault job fault
  pub step : fault.step ≡ t

-- what a load of the root and then one of word 0 say: the step that they show, and a conflict
pub record ProgressWell (job : JobData) (layout : LayoutData) (before later : Record)
    (step found : ℕ) : Type 0 where
  pub reached : IsReached job step
  pub shows : Shows layout later step
  pub lasts : (t : ℕ) → KnowsStep layout before t → t ≤ step
  pub seen : (t : ℕ) → Shows layout later t → t ≤ step
  pub named : (value : ℕ) → value ≢ 0 → Heard layout before Conflict value → suc step ≡ value
  pub conflict : found ≢ 0 → IsConflict job found
