-- How a call ends, and what it tells.
use Rattle.std.specs.Prelude.{◌≡◌, ◌≢◌, ◌⊎◌, ◌<◌, ℕ, List, length}
use Rattle.refusals.specs.declared.refusal.TheConstants.{REFUSED, UNFINISHED, FAILED}
use Rattle.library_core.specs.Answers.{IsFilled, front_of}
use Rattle.library_core.specs.Faults.{IsColumn, line_told, status_of_call_fault, subject_of}
use Rattle.library_core.specs.declared.answer.Answer.{Answer}
use Rattle.library_core.specs.declared.answer.TheConstants.{ANSWER_SIZE, NOTHING}
use Rattle.library_core.specs.declared.fault.CallFault.{CallFault}

-- the statuses of a call that was done: done, a conflict, or unfinished
abbrev pub IsEndingStatus : ℕ → Type 0
IsEndingStatus status = (status < REFUSED) ⊎ (status ≡ UNFINISHED)

-- Some items are given with this status. They stand at the front of the buffer, as many as it has
-- room for, and behind them it is as it was; the answer tells how many they are.
pub record ShowsItems {A : Type 0} (Gives : List A → ℕ → Type 0) (buffer buffer' : List A)
    (answer answer' : Answer) (status : ℕ) : Type 0 where
  pub items : List A
  pub gives : Gives items status
  pub front : buffer' ≡ front_of items buffer
  pub sized : answer.size ≡ ANSWER_SIZE
  pub placed : answer'.column ≡ 0
  pub told : IsFilled NOTHING (length items) 0 answer answer'

-- There is this fault, with this status, and the answer tells what is refused, and where.
pub record Refuses (Why : CallFault → Type 0) (answer answer' : Answer) (status : ℕ)
    : Type 0 where
  pub fault : CallFault
  pub why : Why fault
  pub is : status ≡ status_of_call_fault fault
  pub sized : answer.size ≡ ANSWER_SIZE
  pub placed : IsColumn fault answer'.column
  pub told : IsFilled (subject_of fault) 0 (line_told fault) answer answer'

-- The answer has another size, and nothing is told.
pub record IsUntold (answer answer' : Answer) (status : ℕ) : Type 0 where
  pub other : answer.size ≢ ANSWER_SIZE
  pub kept : answer' ≡ answer
  pub failed : status ≡ FAILED

abbrev pub RefusesOrNot : (CallFault → Type 0) → (answer answer' : Answer) → ℕ → Type 0
RefusesOrNot Why answer answer' status =
    Refuses Why answer answer' status ⊎ IsUntold answer answer' status

-- What a call does with a buffer and an answer: it was done, and shows what is given; or it was
-- not, the buffer is as it was, and the answer tells why.
pub record IsCall {A : Type 0} (Gives : List A → ℕ → Type 0) (Why : CallFault → Type 0)
    (buffer buffer' : List A) (answer answer' : Answer) (status : ℕ) : Type 0 where
  pub done : IsEndingStatus status → ShowsItems Gives buffer buffer' answer answer' status
  pub kept : ¬ IsEndingStatus status → buffer' ≡ buffer
  pub refused : ¬ IsEndingStatus status → RefusesOrNot Why answer answer' status
