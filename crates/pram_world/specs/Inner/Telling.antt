-- What is read off the words of a board.
use Rattle.std.specs.Prelude.{◌≡◌, ◌≢◌, ℕ, suc, ◌*◌, List, take}
use Rattle.pram_job.specs.Job.{JobData}
use Rattle.pram_machine.specs.declared.requests.Request.{Request}
use Rattle.pram_step.specs.Runs.{requests_after, state_after}
use Rattle.pram_words.specs.declared.words.Word.TheVariants.{Stored}
use Rattle.pram_words.specs.Words.{LayoutData}
use Rattle.pram_words.specs.Stamps.{newer_payload}
use Rattle.lawful_walk.specs.Board.{conflict, held}
use Rattle.pram_world.specs.declared.outcome.Progress.{Progress}
use Rattle.pram_world.specs.declared.outcome.Progress.TheVariants.{Disputed, Finished, Going}

-- the payload of the newer of the two words of a place
abbrev pub newest_payload : LayoutData → List ℕ → ℕ → ℕ
newest_payload layout words place =
    newer_payload (held layout words (Stored place 0)) (held layout words (Stored place 1))

-- word 0 is read first, and then the root
abbrev pub Says : JobData → ℕ → ℕ → Progress → Type 0
Says job named root Disputed = named ≢ 0
Says job named root Finished = (named ≡ 0) × (root ≡ 3 * job.steps)
Says job named root Going = (named ≡ 0) × (root ≢ 3 * job.steps)

-- the cells after the last step
abbrev pub last_cells : JobData → List ℕ
last_cells job = take job.cells (state_after job job.steps)

-- the requests of the step that word 0 names
abbrev pub AreNamed : JobData → LayoutData → List ℕ → List Request → Type 0
AreNamed job layout words requests =
    (t : ℕ) → conflict layout words ≡ suc t → requests ≡ requests_after job t
