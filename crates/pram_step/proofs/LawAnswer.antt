-- A job has one answer at most.
use Rattle.std.proofs.Common.{◌≡◌, ℕ, ◌<◌, ◌≤◌, List, take, inl, inr}
use Rattle.std.proofs.Common.{sym, ap, subst, ◌∙◌, ⊎_elim, arith}
use Rattle.std.proofs.lemmas.Bool.{cases_lt, cases_order}
use Rattle.pram_job.specs.Job.{JobData}
use Rattle.pram_step.specs.declared.answer.Dispute.{Dispute}
use Rattle.pram_step.specs.declared.answer.Fault.{Fault}
use Rattle.pram_step.specs.declared.answer.RunAnswer.{RunAnswer}
use Rattle.pram_step.specs.declared.answer.RunAnswer.TheVariants.{Final, Conflict, Unfinished}
use Rattle.pram_machine.specs.declared.requests.Request.{Request}
use Rattle.pram_step.specs.Steps.{IsDispute, WritesCell}
use Rattle.pram_step.specs.Runs.{requests_after, IsReached, IsStateAfter}
use Rattle.pram_step.specs.Runs.{dispute_of, IsFirstConflict, IsAnswer}
use Rattle.pram_machine.specs.Machine.{State}
use Rattle.pram_step.proofs.Disputing.{one_least_clash}
use Rattle.pram_step.proofs.LawFixed.{one_state}

-- ---- the details of a conflict

pub one_dispute : (job : JobData) (requests : List Request) (d e : Dispute) →
    IsDispute job requests d → IsDispute job requests e → d ≡ e
one_dispute job requests d e a b = one_least_clash job.rule (WritesCell job requests) d e a b

-- ---- the first conflict

pub conflict_ends : (job : JobData) (fault : Fault) (n : ℕ) → IsFirstConflict job fault →
    fault.step ≤ n → IsReached job n → ⊥
conflict_ends job fault n is within reached =
    let lt : is.before < n = omega (arith, is.step) in
    reached is.before lt fault.cell fault.first fault.second is.dispute.clash

pub conflict_after : (job : JobData) (t : ℕ) (s : State) (fault : Fault) → IsStateAfter job t s →
    IsFirstConflict job fault → t < fault.step
conflict_after job t s fault is first = elim (cases_lt t fault.step) [
  | inl later ↦ later
  | inr within ↦ absurd (conflict_ends job fault t first within is.reached)
]

no_earlier : (job : JobData) (f g : Fault) (a : IsFirstConflict job f) (b : IsFirstConflict job g) →
    a.before < b.before → ⊥
no_earlier job f g a b lt = b.reached a.before lt f.cell f.first f.second a.dispute.clash

same_before : (job : JobData) (f g : Fault) (a : IsFirstConflict job f)
    (b : IsFirstConflict job g) → a.before ≡ b.before
same_before job f g a b =
    ⊎_elim (λ same. same) (λ apart.
    absurd (⊎_elim (λ lt. no_earlier job f g a b lt) (λ gt. no_earlier job g f b a gt) apart))
    (cases_order a.before b.before)

pub one_conflict : (job : JobData) (f g : Fault) → IsFirstConflict job f →
    IsFirstConflict job g → f ≡ g
one_conflict job f g a b =
    let before : a.before ≡ b.before = same_before job f g a b in
    let there : IsDispute job (requests_after job a.before) (dispute_of g) =
    subst (λ (t : ℕ). IsDispute job (requests_after job t) (dispute_of g)) (sym before) b.dispute in
    let same : dispute_of f ≡ dispute_of g =
    one_dispute job (requests_after job a.before) (dispute_of f) (dispute_of g) a.dispute there in
    let step : f.step ≡ g.step = omega (arith, a.step, b.step) in λ i.
    record { step = step i; cell = (same i).cell; first = (same i).first; second = (same i).second }

-- ---- the answer

pub one_answer : (job : JobData) (a b : RunAnswer) → IsAnswer job a → IsAnswer job b → a ≡ b
one_answer job (Final cells) (Final others) x y =
    ap Final (x.2 ∙ ap (take job.cells) (one_state job job.steps x.0 y.0 x.1 y.1) ∙ sym y.2)
one_answer job (Final cells) (Conflict fault) x y =
    absurd (conflict_ends job fault job.steps y.first y.within x.1.reached)
one_answer job (Final cells) (Unfinished step) x y = absurd y
one_answer job (Conflict fault) (Final cells) x y =
    absurd (conflict_ends job fault job.steps x.first x.within y.1.reached)
one_answer job (Conflict fault) (Conflict other) x y =
    ap Conflict (one_conflict job fault other x.first y.first)
one_answer job (Conflict fault) (Unfinished step) x y = absurd y
one_answer job (Unfinished step) b x y = absurd x
