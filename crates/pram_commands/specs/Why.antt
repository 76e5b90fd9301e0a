-- What becomes of the processors, where that follows an answer.
use Rattle.std.specs.Prelude.{◌≡◌, ◌++◌, ℕ, Bool, true, false, List, [], Option, Some}
use Rattle.pram_job.specs.Job.{JobData}
use Rattle.pram_step.specs.declared.answer.RunAnswer.{RunAnswer}
use Rattle.pram_step.specs.declared.answer.RunAnswer.TheVariants.{Final, Conflict, Unfinished}
use Rattle.pram_rows.specs.Causes.{AreReasons}
use Rattle.pram_rows.specs.Told.{why_text}
use Rattle.pram_rows.specs.declared.causes.Why.{Why}
use Rattle.command_data.specs.declared.line.Style.{Style}
use Rattle.naming.specs.Names.{AreNames, NamingData, line_at, styled}
use Rattle.naming.specs.Rounds.{AreRounds}
use Rattle.naming.specs.RowNames.{row_words}

-- the steps that an answer speaks of: all of the job's, or those that an unfinished run made
abbrev pub told_steps : JobData → RunAnswer → ℕ
told_steps job (Final cells) = job.steps
told_steps job (Conflict fault) = job.steps
told_steps job (Unfinished step) = step

-- why it is so, by the lines that instructions came from and by words for arrays, and in which
-- rounds of loops
abbrev pub IsExplained : (job_text : List ℕ) → Option NamingData → JobData → RunAnswer → Why →
    List ℕ → Type 0
IsExplained job_text names job ended why back = (rounds : List ℕ)
    × AreRounds names job ended why.fates.lost rounds
    × (back ≡ why_text (line_at job_text names) (row_words names).array why ++ rounds)

-- what follows an answer: nothing, or if it is asked for, what became of the processors in these
-- steps, and why
abbrev pub Follows : Bool → (job_text : List ℕ) → Option NamingData → JobData → RunAnswer →
    List ℕ → Type 0
Follows false job_text names job ended back = back ≡ []
Follows true job_text names job ended back = (why : Why)
    × AreReasons job (told_steps job ended) ended why
    × IsExplained job_text names job ended why back

-- a style without records
abbrev pub in_lines : Bool → Style
in_lines why = record { csv = false; why = why }

-- the style of records alone
abbrev pub in_records : Style
in_records = record { csv = true; why = false }

-- What a command comes to that tells an answer in a style: the answer, and what follows it.
pub record Explaining (style : Style) (Ends : RunAnswer → Type 0) (job_text : List ℕ)
    (job : JobData) (text : List ℕ) (answer : Option RunAnswer) : Type 0 where
  pub ended : RunAnswer
  pub back : List ℕ
  pub names : Option NamingData
  pub ends : Ends ended
  pub are_names : AreNames job_text job names
  pub follows : Follows style.why job_text names job ended back
  pub prints : text ≡ styled style.csv names ended job.steps ++ back
  pub gives : answer ≡ Some ended
