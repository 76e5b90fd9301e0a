-- What the models of the PRAM accept.
use Rattle.std.proofs.Common.{◌≡◌, ◌≢◌, ◌↔◌, ℕ, ◌<◌, ◌≤◌, List, Some, refl, sym}
use Rattle.std.proofs.Common.{subst, ◌∙◌, arith}
use Rattle.std.proofs.lemmas.Option.{some_pair_parts}
use Rattle.pram_job.specs.declared.instr.Rule.{Rule}
use Rattle.pram_job.specs.declared.instr.Rule.TheVariants as rule
use Rattle.pram_job.specs.Job.{JobData}
use Rattle.pram_cost.specs.declared.meeting.Sharing.TheVariants.{SameRead, SameWrite, OtherValue}
use Rattle.pram_cost.specs.declared.pram.Pram.{Pram}
use Rattle.pram_cost.specs.declared.pram.Pram.TheVariants.{Erew, Crew, CommonCrcw, PriorityCrcw}
use Rattle.pram_machine.specs.declared.requests.Request.{Request}
use Rattle.pram_cost.specs.Accesses.{write_by}
use Rattle.pram_machine.specs.Instructions.{request_in, requests_in}
use Rattle.pram_machine.specs.Machine.{State}
use Rattle.pram_cost.specs.Meetings.{MeetIn}
use Rattle.pram_cost.specs.Models.{strength, Accepts, AcceptsSteps, IsWeakestModel}
use Rattle.pram_step.specs.Runs.{IsReached, state_after}
use Rattle.pram_step.specs.Disputes.{Forbids}
use Rattle.pram_step.specs.Steps.{Writes, Clashes, Agrees}
use Rattle.pram_cost.proofs.Accessing.{write_is, write_from}
use Rattle.pram_step.proofs.LawPlaces.{writer_is}
use Rattle.pram_step.proofs.LawRules.{asked_same, writes_same}
use Rattle.pram_step.proofs.RequestList.{put_of_written, written_of_put}
use Rattle.pram_machine.proofs.Shapes.{asks}

-- ---- the order of the models

pub stronger_accepts : (weak strong : Pram) (job : JobData) (s : State) →
    strength weak ≤ strength strong → Accepts weak job s → Accepts strong job s
stronger_accepts weak strong job s le accepts sharing cell i j met =
    let most = accepts sharing cell i j met in omega arith

pub erew_accepts : (pram : Pram) (job : JobData) (s : State) → Accepts Erew job s →
    Accepts pram job s
erew_accepts pram job s = stronger_accepts Erew pram job s (omega arith)

pub priority_accepts : (job : JobData) (s : State) → Accepts PriorityCrcw job s
priority_accepts job s SameRead cell i j met = omega arith
priority_accepts job s SameWrite cell i j met = omega arith
priority_accepts job s OtherValue cell i j met = omega arith

same_strength : (pram other : Pram) → strength pram ≡ strength other → pram ≡ other
same_strength Erew Erew e = refl
same_strength Crew Crew e = refl
same_strength CommonCrcw CommonCrcw e = refl
same_strength PriorityCrcw PriorityCrcw e = refl
same_strength _ _ e = absurd (omega arith)

pub one_model : (job : JobData) (n : ℕ) (pram other : Pram) → IsWeakestModel job n pram →
    IsWeakestModel job n other → pram ≡ other
one_model job n pram other a b =
    let le = a.weakest other b.accepts in
    let ge = b.weakest pram a.accepts in
    same_strength pram other (omega arith)

-- ---- a write to a cell, of requests and of accesses

write_of_writes : (job : JobData) (r : Rule) (s : State) (cell i v : ℕ) → cell < job.cells →
    Writes (record job { rule = r }) (requests_in job s) cell i v →
    (i < job.procs) × (write_by job s i ≡ Some (cell, v))
write_of_writes job r s cell i v low w =
    let plain : Writes job (requests_in job s) cell i v =
    writes_same job r job.rule job.steps job.steps (requests_in job s) cell i v w in
    let is = writer_is job s cell i v plain in (
      is.0,
      write_from job s i cell v low
          (put_of_written job cell i v (request_in job s i) low is.1),
    )

writes_of_write : (job : JobData) (r : Rule) (s : State) (cell i v : ℕ) → i < job.procs →
    write_by job s i ≡ Some (cell, v) →
    (cell < job.cells) × Writes (record job { rule = r }) (requests_in job s) cell i v
writes_of_write job r s cell i v lt e =
    let is = write_is job s i cell v e in
    let low = is.0 in (
      low,
      record {
        request = request_in job s i;
        request_is = asks job s i lt;
        writes = written_of_put job cell i v (request_in job s i) (λ same. omega arith) is.1;
      },
    )

-- two that meet in a way that the rule forbids clash
clash_of_met : (job : JobData) (r : Rule) (s : State) (cell i j v w : ℕ) → i < job.procs →
    j < job.procs → write_by job s i ≡ Some (cell, v) → write_by job s j ≡ Some (cell, w) →
    Forbids r i v j w → Clashes (record job { rule = r }) (requests_in job s) cell i j
clash_of_met job r s cell i j v w lt lt' a b forbidden =
    let first = writes_of_write job r s cell i v lt a in
    let second = writes_of_write job r s cell j w lt' b in
    record {
      value = v;
      other = w;
      writes = first;
      writes_too = second;
      forbidden = forbidden;
    }

-- ---- what the rules of the same names say

crew_agrees_of : (job : JobData) (s : State) → Accepts Crew job s →
    Agrees (record job { rule = rule.Crew }) (requests_in job s)
crew_agrees_of job s accepts cell i j c =
    let a = write_of_writes job rule.Crew s cell i c.value c.writes.0 c.writes.1 in
    let b = write_of_writes job rule.Crew s cell j c.other c.writes_too.0 c.writes_too.1 in
    let met : MeetIn SameWrite job s cell i j = record {
      value = c.value;
      other = c.other;
      within = a.0;
      within_too = b.0;
      goes = a.1;
      goes_too = b.1;
      differ = c.forbidden;
    } in
    let never = accepts SameWrite cell i j met in
    omega arith

crew_accepts_of : (job : JobData) (s : State) →
    Agrees (record job { rule = rule.Crew }) (requests_in job s) → Accepts Crew job s
crew_accepts_of job s agrees SameRead cell i j met = omega arith
crew_accepts_of job s agrees SameWrite cell i j met =
    absurd (agrees cell i j (clash_of_met job rule.Crew s cell i j met.value met.other met.within
    met.within_too met.goes met.goes_too met.differ))
crew_accepts_of job s agrees OtherValue cell i j met =
    let apart : i ≢ j = λ e.
    met.differ (some_pair_parts cell cell met.value met.other
    (sym met.goes ∙ subst (λ (k : ℕ). write_by job s k ≡ Some (cell, met.other)) (sym e)
    met.goes_too)).1 in
    absurd (agrees cell i j (clash_of_met job rule.Crew s cell i j met.value met.other met.within
    met.within_too met.goes met.goes_too apart))

common_agrees_of : (job : JobData) (s : State) → Accepts CommonCrcw job s →
    Agrees (record job { rule = rule.Common }) (requests_in job s)
common_agrees_of job s accepts cell i j c =
    let a = write_of_writes job rule.Common s cell i c.value c.writes.0 c.writes.1 in
    let b = write_of_writes job rule.Common s cell j c.other c.writes_too.0 c.writes_too.1 in
    let met : MeetIn OtherValue job s cell i j = record {
      value = c.value;
      other = c.other;
      within = a.0;
      within_too = b.0;
      goes = a.1;
      goes_too = b.1;
      differ = c.forbidden;
    } in
    let never = accepts OtherValue cell i j met in
    omega arith

common_accepts_of : (job : JobData) (s : State) →
    Agrees (record job { rule = rule.Common }) (requests_in job s) → Accepts CommonCrcw job s
common_accepts_of job s agrees SameRead cell i j met = omega arith
common_accepts_of job s agrees SameWrite cell i j met = omega arith
common_accepts_of job s agrees OtherValue cell i j met =
    absurd (agrees cell i j (clash_of_met job rule.Common s cell i j met.value met.other
    met.within met.within_too met.goes met.goes_too met.differ))

pub crew_is_rule : (job : JobData) (s : State) →
    Accepts Crew job s ↔ Agrees (record job { rule = rule.Crew }) (requests_in job s)
crew_is_rule job s = (crew_agrees_of job s, crew_accepts_of job s)

pub common_is_rule : (job : JobData) (s : State) →
    Accepts CommonCrcw job s ↔ Agrees (record job { rule = rule.Common }) (requests_in job s)
common_is_rule job s = (common_agrees_of job s, common_accepts_of job s)

-- ---- runs

agrees_in_run : (job : JobData) (r : Rule) (t : ℕ) →
    Agrees (record job { rule = r }) (requests_in job (state_after job t)) →
    Agrees (record job { rule = r }) (requests_in (record job { rule = r })
    (state_after (record job { rule = r }) t))
agrees_in_run job r t = subst (λ (requests : List Request).
    Agrees (record job { rule = r }) requests) (sym (asked_same job r job.steps t))

agrees_from_run : (job : JobData) (r : Rule) (t : ℕ) →
    Agrees (record job { rule = r }) (requests_in (record job { rule = r })
    (state_after (record job { rule = r }) t)) →
    Agrees (record job { rule = r }) (requests_in job (state_after job t))
agrees_from_run job r t = subst (λ (requests : List Request).
    Agrees (record job { rule = r }) requests) (asked_same job r job.steps t)

pub crew_runs : (job : JobData) (n : ℕ) →
    AcceptsSteps Crew job n ↔ IsReached (record job { rule = rule.Crew }) n
crew_runs job n = (
  λ accepts t lt. agrees_in_run job rule.Crew t (crew_agrees_of job (state_after job t)
      (accepts t lt)),
  λ reached t lt. crew_accepts_of job (state_after job t) (agrees_from_run job rule.Crew t
      (reached t lt)),
)

pub common_runs : (job : JobData) (n : ℕ) →
    AcceptsSteps CommonCrcw job n ↔ IsReached (record job { rule = rule.Common }) n
common_runs job n = (
  λ accepts t lt. agrees_in_run job rule.Common t (common_agrees_of job (state_after job t)
      (accepts t lt)),
  λ reached t lt. common_accepts_of job (state_after job t) (agrees_from_run job rule.Common t
      (reached t lt)),
)
