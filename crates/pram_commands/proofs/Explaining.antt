-- What becomes of processors follows an answer.
use Rattle.std.proofs.Common.{◌≡◌, ◌∙◌, ◌++◌, ℕ, Bool, true, List, Option, ap, refl, subst, sym}
use Rattle.pram_job.specs.Job.{JobData}
use Rattle.pram_step.specs.Runs.{IsAnswer}
use Rattle.pram_step.specs.declared.answer.RunAnswer.{RunAnswer}
use Rattle.pram_step.specs.declared.answer.RunAnswer.TheVariants.{Final, Conflict, Unfinished}
use Rattle.pram_rows.specs.Causes.{AreReasons}
use Rattle.pram_rows.specs.Told.{why_text}
use Rattle.pram_rows.specs.declared.causes.Why.{Why}
use Rattle.naming.specs.Names.{NamingData, line_at}
use Rattle.naming.specs.Rounds.{AreRounds}
use Rattle.naming.specs.RowNames.{row_words}
use Rattle.pram_commands.specs.Why.{Follows, IsExplained, told_steps}

-- what is told by lines of a text is told by the same lines of a program
pub explains : (job_text : List ℕ) (names : Option NamingData) (job : JobData) (ended : RunAnswer)
    (why : Why) (line_of : ℕ → ℕ) (front rounds back : List ℕ) → line_of ≡ line_at job_text names →
    front ≡ why_text line_of (row_words names).array why →
    AreRounds names job ended why.fates.lost rounds → back ≡ front ++ rounds →
    IsExplained job_text names job ended why back
explains job_text names job ended why line_of front rounds back same told are is = (
  rounds,
  are,
  is ∙ ap (λ (f : List ℕ). f ++ rounds)
      (told ∙ ap (λ (f : ℕ → ℕ). why_text f (row_words names).array why) same),
)

-- an answer speaks of all steps
told_all : (job : JobData) (ended : RunAnswer) → IsAnswer job ended → job.steps ≡ told_steps job ended
told_all job (Final cells) is = refl
told_all job (Conflict fault) is = refl
told_all job (Unfinished step) is = absurd is

module _ (asked : Bool) (job_text : List ℕ) (names : Option NamingData) (job : JobData)
    (ended : RunAnswer) (why : Why) (back : List ℕ) where
  pub follows : (steps : ℕ) → asked ≡ true → steps ≡ told_steps job ended →
      AreReasons job steps ended why → IsExplained job_text names job ended why back →
      Follows asked job_text names job ended back
  follows steps is_asked to is told =
      subst (λ (b : Bool). Follows b job_text names job ended back) (sym is_asked) (
        why,
        subst (λ (n : ℕ). AreReasons job n ended why) to is,
        told,
      )

  pub follows_answer : asked ≡ true → IsAnswer job ended → AreReasons job job.steps ended why →
      IsExplained job_text names job ended why back → Follows asked job_text names job ended back
  follows_answer is_asked is whys told = follows job.steps is_asked (told_all job ended is) whys told
