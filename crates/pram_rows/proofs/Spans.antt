-- What a sink took of the rows of a span, whatever the answer of its job is, and with the header.
use Rattle.std.proofs.Common.{◌≡◌, ◌+◌, ◌-◌, ◌<◌, ◌≤◌, ℕ, List, [], Option, Result, Ok, Err, min}
use Rattle.std.proofs.Common.{inl, inr, refl, sym, ap, ap₂, subst, arith, ◌∙◌}
use Rattle.std.proofs.KnownBytes.{Appends-nil, Appends-trans}
use Rattle.std.proofs.lemmas.Bool.{cases_lt}
use Rattle.std.specs.Io.KnownBytes.{Appends}
use Rattle.std.specs.Prelude.{OnErr}
use Rattle.pram_job.specs.Job.{JobData}
use Rattle.pram_step.specs.Runs.{IsAnswer, IsFirstConflict, IsReached}
use Rattle.pram_step.specs.declared.answer.Fault.{Fault}
use Rattle.pram_step.specs.declared.answer.RunAnswer.{RunAnswer}
use Rattle.pram_streams.specs.Transfer.{AppendsBeginning}
use Rattle.pram_streams.proofs.Beginnings.{beginning-after, beginning-longer}
use Rattle.pram_rows.specs.Inner.Printing.{TakesBut}
use Rattle.pram_rows.specs.Inner.Spans.{OfAnswers}
use Rattle.pram_rows.specs.Shown.{BeginsSteps, TakesSteps, last_step, steps_text}
use Rattle.pram_rows.specs.StepRows.{StepRows, rows_after}
use Rattle.pram_rows.specs.declared.window.Span.{Span}
use Rattle.pram_rows.specs.declared.window.Window.{Window}
use Rattle.pram_rows.proofs.Lines.{but-beginning, but-rest, lines-longer, whole-begins}
use Rattle.pram_rows.proofs.Reaching.{last-beyond, last-disputed, last-reached, last-within}

-- what holds anyway holds at an error
pub on_err : {T E P : Type 0} (r : Result T E) → P → OnErr r P
on_err (Ok value) holds = tt
on_err (Err error) holds = holds

module _ (shown : StepRows) (span : Span) where
  -- nothing is a beginning
  pub none-begins : (a : Option (List ℕ)) → OfAnswers shown span (AppendsBeginning a a)
  none-begins a = λ answer is. ([], refl, Appends-nil a)

  -- what was left is put, or a beginning of it
  pub rest-begins : (a b c : Option (List ℕ)) (rest : List ℕ) →
      OfAnswers shown span (TakesBut a b rest) → AppendsBeginning b c rest →
      OfAnswers shown span (AppendsBeginning a c)
  rest-begins a b c rest rows begins =
      λ answer is. but-beginning a b rest _ (rows answer is) c begins

  pub rest-taken : (a b c : Option (List ℕ)) (rest : List ℕ) → OfAnswers shown span (TakesBut a b rest) →
      Appends b c rest → OfAnswers shown span (Appends a c)
  rest-taken a b c rest rows put = λ answer is. but-rest a b rest _ (rows answer is) c put

  -- what holds of the rows of the steps up to the last one holds of all
  pub rows-all : (Holds : List ℕ → Type 0) (made : ℕ) →
      ((answer : RunAnswer) → IsAnswer span.job.now answer →
      min span.end (last_step span.job.now answer) ≡ made) →
      Holds (rows_after shown span.job.now span.first (made - span.first)) →
      OfAnswers shown span Holds
  rows-all Holds made all holds = λ answer is. subst (λ (n : ℕ).
      Holds (rows_after shown span.job.now span.first (n - span.first)))
      (sym (all answer is)) holds

  -- the rows of some steps are a beginning, where the job has these steps
  pub rows-begin : (a b : Option (List ℕ)) (made : ℕ) →
      ((answer : RunAnswer) → IsAnswer span.job.now answer →
      made ≤ min span.end (last_step span.job.now answer)) →
      AppendsBeginning a b (rows_after shown span.job.now span.first
      (made - span.first)) → OfAnswers shown span (AppendsBeginning a b)
  rows-begin a b made had begins = λ answer is.
      let job = span.job.now in
      let m = made - span.first in
      let n = min span.end (last_step job answer) - span.first in
      let has = had answer is in
      subst (λ l. AppendsBeginning a b l)
      (sym (lines-longer shown job span.first m n (omega (arith, has))))
      (beginning-longer a b (rows_after shown job span.first m)
      (rows_after shown job (span.first + m) (n - m)) begins)

  -- where so many steps agree, the job has one more
  pub has-next : (made : ℕ) → IsReached span.job.now made → made < span.end →
      (answer : RunAnswer) → IsAnswer span.job.now answer →
      made + 1 ≤ min span.end (last_step span.job.now answer)
  has-next made reached more answer is =
      let within = span.within in
      omega (arith, last-beyond span.job.now made answer reached (omega (arith, more, within)) is)

  -- where all agree, it has all of them
  pub has-all : (made : ℕ) → IsReached span.job.now made → made ≡ span.end →
      (answer : RunAnswer) → IsAnswer span.job.now answer →
      min span.end (last_step span.job.now answer) ≡ made
  has-all made reached all answer is =
      let within = span.within in
      omega (
        arith,
        all,
        last-reached span.job.now made answer reached (omega (arith, all, within)) is,
      )

  -- where one of them does not, it is the last
  pub has-disputed : (fault : Fault) → IsFirstConflict span.job.now fault → fault.step ≤ span.end →
      (answer : RunAnswer) → IsAnswer span.job.now answer →
      min span.end (last_step span.job.now answer) ≡ fault.step
  has-disputed fault first within answer is =
      let bound = span.within in
      omega (
        arith,
        within,
        last-disputed span.job.now fault answer first (omega (arith, within, bound)) is,
      )

-- rows of no steps are alike wherever they begin
same-lines : (rows : StepRows) (job : JobData) (t u m n : ℕ) → m ≡ 0 → n ≡ 0 →
    rows_after rows job t m ≡ rows_after rows job u n
same-lines rows job t u m n none nothing = ap (λ k. rows_after rows job t k) none
    ∙ sym (ap (λ k. rows_after rows job u k) nothing)

module _ (rows : StepRows) (job : JobData) (from to first end : ℕ)
    (last : end ≡ min to job.steps) (start : first ≡ min (from - 1) end) where
  -- the rows of a span are those of its window
  lines-are : (steps : ℕ) → steps ≤ job.steps →
      rows_after rows job first (min end steps - first)
      ≡ rows_after rows job (from - 1) (min to steps - (from - 1))
  lines-are steps within = elim (cases_lt end (from - 1)) [
    | inl past ↦ same-lines rows job first (from - 1) _ _ (omega (arith, last, start, past, within))
        (omega (arith, last, start, past, within))
    | inr begun ↦
        let same : first ≡ from - 1 = omega (arith, start, begun) in
        let few : min end steps ≡ min to steps = omega (arith, last, within) in
        ap₂ (λ t n. rows_after rows job t (n - t)) same few
  ]

-- what was taken is a beginning of itself
pub begun : (shown : StepRows) (job : JobData) (window : Window) (a b : Option (List ℕ)) (answer : RunAnswer) →
    TakesSteps shown job window a b answer → BeginsSteps shown job window a b
begun shown job window a b answer takes = record {
  answer = answer;
  answers = takes.answers;
  prints = whole-begins a b (steps_text shown job window answer) takes.prints;
}

-- a beginning of the header is one of what is shown
pub header-begins : (shown : StepRows) (job : JobData) (window : Window) (a b : Option (List ℕ)) (answer : RunAnswer) →
    IsAnswer job answer → AppendsBeginning a b shown.header →
    BeginsSteps shown job window a b
header-begins shown job window a b answer is some =
    let from = window.from - 1 in
    record {
      answer = answer;
      answers = is;
      prints = beginning-longer a b shown.header
          (rows_after shown job from
          (min window.to (last_step job answer) - from)) some;
    }

-- the rows of a window's span go after the header
module _ (shown : StepRows) (job : JobData) (window : Window) (first end : ℕ)
    (last : end ≡ min window.to job.steps) (start : first ≡ min (window.from - 1) end)
    (a b c : Option (List ℕ)) (put : Appends a b shown.header)
    (answer : RunAnswer) (is : IsAnswer job answer) where
  same : rows_after shown job first (min end (last_step job answer) - first)
      ≡ rows_after shown job (window.from - 1)
      (min window.to (last_step job answer) - (window.from - 1))
  same = lines-are shown job window.from window.to first end
      last start (last_step job answer) (last-within job answer is)

  pub takes-steps : Appends b c (rows_after shown job first
      (min end (last_step job answer) - first)) → TakesSteps shown job window a c answer
  takes-steps rows = record {
    answers = is;
    prints = Appends-trans a b c shown.header _ put
        (subst (λ l. Appends b c l) same rows);
  }

  pub begins-steps : AppendsBeginning b c (rows_after shown job first
      (min end (last_step job answer) - first)) → BeginsSteps shown job window a c
  begins-steps rows = record {
    answer = answer;
    answers = is;
    prints = beginning-after a b c shown.header _ put
        (subst (λ l. AppendsBeginning b c l) same rows);
  }
