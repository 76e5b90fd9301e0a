-- How many operations a worker makes: its walk over a list of answers, what it may hear, and the
-- bound.
use Rattle.std.specs.Prelude.{◌≡◌, ℕ, ◌+◌, ◌*◌, ◌<◌, ◌≤◌, ◌==◌, if◌then◌else◌, max, List, [], ◌∷◌}
use Rattle.pram_job.specs.Job.{JobData}
use Rattle.pram_words.specs.Tree.{leaves_of}
use Rattle.pram_words.specs.Words.{LayoutData, number_of}
use Rattle.pram_words.specs.declared.words.Word.TheVariants.{Node, Position}
use Rattle.walkx.specs.declared.operation.Op.{Op}
use Rattle.walkx.specs.declared.operation.Op.TheVariants.{Load, Max}
use Rattle.walkx.specs.Walk.{Walking, heard_of, ask_of, told}

-- ---- the walk of a worker over answers, the newest first

-- the worker after these answers
abbrev pub told_all : JobData → LayoutData → Walking → List ℕ → Walking
told_all job layout worker [] = worker
told_all job layout worker (found ∷ earlier) =
    told job layout (told_all job layout worker earlier) found

-- its operations with these answers, the newest first; the oldest are those that brought it where
-- it stood
abbrev pub history_of : JobData → LayoutData → Walking → List ℕ → List (Op × ℕ)
history_of job layout worker [] = heard_of job layout worker
history_of job layout worker (found ∷ earlier) =
    (ask_of job layout (told_all job layout worker earlier), found)
    ∷ history_of job layout worker earlier

-- ---- what a worker may hear

-- what an operation with its answer shows of a word: what was loaded from it, or what it was raised
-- to
abbrev pub shown_of_word : Op → ℕ → ℕ → ℕ
shown_of_word (Load number) found word = if number == word then found else 0
shown_of_word (Max number value) found word = if number == word then value else 0
shown_of_word _ found word = 0

-- the greatest that a history shows of a word
abbrev pub low : List (Op × ℕ) → ℕ → ℕ
low [] word = 0
low (step ∷ earlier) word = max (shown_of_word step.0 step.1 word) (low earlier word)

-- What a worker may load from a word after a history: of a node nothing below what the history
-- shows, of the root nothing above the last phase, and as its position a node.
pub record MayLoad (job : JobData) (layout : LayoutData) (worker : ℕ) (earlier : List (Op
    × ℕ)) (word found : ℕ) : Type 0 where
  pub rises : (node : ℕ) → 1 ≤ node → node < 2 * layout.leaves →
      word ≡ number_of layout (Node node) → low earlier word ≤ found
  pub root : word ≡ number_of layout (Node 1) → found ≤ 3 * job.steps
  pub position : word ≡ number_of layout (Position worker) →
      (1 ≤ found) × (found < 2 * layout.leaves)

abbrev pub MayHear : JobData → LayoutData → ℕ → List (Op × ℕ) → Op → ℕ → Type 0
MayHear job layout worker earlier (Load word) found = MayLoad job layout worker earlier word found
MayHear job layout worker earlier _ found = Unit {0}

-- each answer of a history may be heard after those before it
abbrev pub IsHeard : JobData → LayoutData → ℕ → List (Op × ℕ) → Type 0
IsHeard job layout worker [] = Unit {0}
IsHeard job layout worker (step ∷ earlier) =
    MayHear job layout worker earlier step.0 step.1 × IsHeard job layout worker earlier

-- ---- the bound

-- 300 L T + 8, L being the least power of two that is at least the number of processors
abbrev pub own_step_bound : JobData → ℕ
own_step_bound job = 300 * leaves_of job.procs * job.steps + 8
