-- The rows of a span, whatever the answer of its job is.
use Rattle.std.specs.Prelude.{ℕ, ◌-◌, List, min}
use Rattle.pram_step.specs.Runs.{IsAnswer}
use Rattle.pram_step.specs.declared.answer.RunAnswer.{RunAnswer}
use Rattle.pram_rows.specs.Shown.{last_step}
use Rattle.pram_rows.specs.StepRows.{StepRows, rows_after}
use Rattle.pram_rows.specs.declared.window.Span.{Span}

-- the rows of its steps, those that there are: the last of all is `last`
abbrev pub span_text : StepRows → Span → ℕ → List ℕ
span_text rows span last =
    rows_after rows span.job.now span.first (min span.end last - span.first)

-- this holds of the rows of a span up to the last step of the job
abbrev pub OfAnswers : StepRows → Span → (List ℕ → Type 0) → Type 0
OfAnswers rows span Holds = (answer : RunAnswer) → IsAnswer span.job.now answer →
    Holds (span_text rows span (last_step span.job.now answer))
