-- What a world answers.
use Rattle.std.specs.Prelude.{◌≡◌, ◌≢◌, ℕ, ◌*◌, ◌/◌, List}
use Rattle.pram_job.specs.Job.{JobData}
use Rattle.pram_step.specs.declared.answer.RunAnswer.{RunAnswer}
use Rattle.pram_step.specs.declared.answer.RunAnswer.TheVariants.{Final, Conflict, Unfinished}
use Rattle.pram_step.specs.Runs.{IsAnswer, IsReached}
use Rattle.pram_words.specs.Words.{LayoutData}
use Rattle.lawful_walk.specs.Board.{root, conflict}
use Rattle.pram_world.specs.Worlds.{WorldData}

-- Where word 0 is not 0 the job's answer, a conflict; else, where the root shows the last step, the
-- job's answer, the cells; else the number of steps that the root shows, all of which agree.
abbrev pub IsTold : JobData → LayoutData → List ℕ → RunAnswer → Type 0
IsTold job layout words (Conflict fault) =
    (conflict layout words ≢ 0) × IsAnswer job (Conflict fault)
IsTold job layout words (Final cells) =
    (conflict layout words ≡ 0) × (root layout words ≡ 3 * job.steps)
    × IsAnswer job (Final cells)
IsTold job layout words (Unfinished t) =
    (conflict layout words ≡ 0) × (root layout words ≢ 3 * job.steps)
    × (t ≡ root layout words / 3) × IsReached job t

abbrev pub IsWorldOutcome : WorldData → RunAnswer → Type 0
IsWorldOutcome world = IsTold world.job world.layout world.words
