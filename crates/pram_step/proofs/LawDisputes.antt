-- A step agrees or has a dispute, and so each job has an answer.
use Rattle.std.proofs.Common.{◌≡◌, ℕ, zero, suc, ◌+◌, ◌<◌, ◌≤◌, ◌⊎◌, ◌↔◌, List, length}
use Rattle.std.proofs.Common.{take, refl, sym, subst, ◌∙◌, inl, inr, ⊎_elim, arith}
use Rattle.std.proofs.lemmas.Bool.{cases_lt, cases_eq}
use Rattle.std.proofs.lemmas.Option.{slice_get_within}
use Rattle.pram_job.specs.declared.instr.Rule.{Rule}
use Rattle.pram_job.specs.declared.instr.Rule.TheVariants.{Common, Priority, Crew}
use Rattle.pram_job.specs.Job.{JobData}
use Rattle.pram_step.specs.declared.answer.Dispute.{Dispute}
use Rattle.pram_step.specs.declared.answer.Fault.{Fault}
use Rattle.pram_step.specs.declared.answer.RunAnswer.{RunAnswer}
use Rattle.pram_step.specs.declared.answer.RunAnswer.TheVariants.{Final, Conflict}
use Rattle.pram_machine.specs.declared.requests.Request.{Request}
use Rattle.pram_step.specs.Steps.{Writes, WritesCell, Clashes, Agrees, IsDispute}
use Rattle.pram_step.specs.Disputes.{Forbids}
use Rattle.pram_step.specs.Orders.{written_by}
use Rattle.pram_step.specs.Runs.{state_after, requests_after, IsReached, IsFirstConflict, IsAnswer}
use Rattle.pram_step.proofs.LawWriters.{written_once, option_cases, HasFirst, HasNone, writer_cases}
use Rattle.pram_step.proofs.LawFixed.{reached_more}
use Rattle.pram_step.proofs.LawOrders.{writes_from_by, not_by}

-- ---- the least number below n of which P holds

record Least (P : ℕ → Type 0) (n : ℕ) : Type 0 where
  pub at : ℕ
  pub within : at < n
  pub holds : P at
  pub none_before : (j : ℕ) → j < at → P j → ⊥

below_next : (P : ℕ → Type 0) (n : ℕ) → ((j : ℕ) → j < n → P j → ⊥) →
    (P n → ⊥) → (j : ℕ) → j < suc n → P j → ⊥
below_next P n none not_here j lt holds =
    ⊎_elim
    (λ below. none j below holds)
    (λ past. let here : j ≡ n = omega arith in not_here (subst P here holds))
    (cases_lt j n)

least_below : (P : ℕ → Type 0) (decide : (j : ℕ) → P j ⊎ (P j → ⊥)) (n : ℕ) →
    Least P n ⊎ ((j : ℕ) → j < n → P j → ⊥)
least_below P decide zero = inr (λ j lt holds. absurd (omega arith))
least_below P decide (suc n) = ⊎_elim
    (λ (l : Least P n). inl (let within : l.at < n = l.within in
    record { at = l.at; within = omega arith; holds = l.holds; none_before = l.none_before }))
    (λ none. ⊎_elim
    (λ here. inl (record { at = n; within = omega arith; holds = here; none_before = none }))
    (λ not_here. inr (below_next P n none not_here)) (decide n))
    (least_below P decide n)

-- ---- whether two processors clash

writes_or_not : (job : JobData) (requests : List Request) (p i : ℕ) →
    ((v : ℕ) × Writes job requests p i v) ⊎ ((v : ℕ) → Writes job requests p i v → ⊥)
writes_or_not job requests p i =
    option_cases (written_by job requests p i)
    (λ none. inr (λ v w. not_by job requests p i v w none))
    (λ v some. inl (v, writes_from_by job requests p i v some))

forbids_or_not : (rule : Rule) (i v j w : ℕ) → Forbids rule i v j w ⊎ (Forbids rule i v j w → ⊥)
forbids_or_not Common i v j w =
    ⊎_elim (λ same. inr (λ differ. differ same)) (λ differ. inl differ) (cases_eq v w)
forbids_or_not Priority i v j w = inr (λ never. never)
forbids_or_not Crew i v j w =
    ⊎_elim (λ same. inr (λ differ. differ same)) (λ differ. inl differ) (cases_eq i j)

-- where i writes v to the cell
clash_or_not : (job : JobData) (requests : List Request) (cell i v : ℕ) →
    cell < job.cells → Writes job requests cell i v → (j : ℕ) →
    Clashes job requests cell i j ⊎ (Clashes job requests cell i j → ⊥)
clash_or_not job requests cell i v is_cell mine j =
    ⊎_elim (λ other. ⊎_elim (λ forbidden. inl (record {
      value = v;
      other = other.0;
      writes = (is_cell, mine);
      writes_too = (is_cell, other.1);
      forbidden = forbidden;
    }))
    (λ allowed. inr (λ c.
    let value : c.value ≡ v = written_once job requests cell i c.value v c.writes.1 mine in
    let second : c.other ≡ other.0 =
    written_once job requests cell j c.other other.0 c.writes_too.1 other.1 in
    allowed (subst (λ (w : ℕ). Forbids job.rule i v j w) second
    (subst (λ (u : ℕ). Forbids job.rule i u j c.other) value c.forbidden))))
    (forbids_or_not job.rule i v j other.0))
    (λ none. inr (λ c. none c.other c.writes_too.1))
    (writes_or_not job requests cell j)

-- ---- whether a cell is disputed

-- where two writers clash, the first writer clashes with one of them
third_forbids : (rule : Rule) (k u i v j w : ℕ) → Forbids rule i v j w →
    Forbids rule k u i v ⊎ Forbids rule k u j w
third_forbids Common k u i v j w differ =
    ⊎_elim (λ same. inr (λ too. differ (sym same ∙ too))) (λ apart. inl apart) (cases_eq u v)
third_forbids Priority k u i v j w never = absurd never
third_forbids Crew k u i v j w differ =
    ⊎_elim (λ same. inr (λ too. differ (sym same ∙ too))) (λ apart. inl apart) (cases_eq k i)

first_clashes : (job : JobData) (requests : List Request) (cell i j k u : ℕ) →
    Writes job requests cell k u → Clashes job requests cell i j →
    Clashes job requests cell k i ⊎ Clashes job requests cell k j
first_clashes job requests cell i j k u first c =
    ⊎_elim (λ forbidden. inl (record {
      value = u;
      other = c.value;
      writes = (c.writes.0, first);
      writes_too = c.writes;
      forbidden = forbidden;
    }))
    (λ forbidden. inr (record {
      value = u;
      other = c.other;
      writes = (c.writes.0, first);
      writes_too = c.writes_too;
      forbidden = forbidden;
    }))
    (third_forbids job.rule k u i c.value j c.other c.forbidden)

-- the least writer of the cell, and the least that clashes with it
record Disputed (job : JobData) (requests : List Request) (cell : ℕ) : Type 0 where
  pub first : ℕ
  pub second : ℕ
  pub clash : Clashes job requests cell first second
  pub least_first : (i v : ℕ) → WritesCell job requests cell i v → first ≤ i
  pub least_second : (j : ℕ) → Clashes job requests cell first j → second ≤ j

clash_below : (job : JobData) (requests : List Request) (cell i j : ℕ) →
    Clashes job requests cell i j → j < length requests
clash_below job requests cell i j c =
    slice_get_within requests j c.writes_too.1.request c.writes_too.1.request_is

disputed_with : (job : JobData) (requests : List Request)
    (cell : ℕ) (f : HasFirst job requests cell) →
    Least (λ j. Clashes job requests cell f.writer j) (length requests) → Disputed job requests cell
disputed_with job requests cell f l = record {
  first = f.writer;
  second = l.at;
  clash = l.holds;
  least_first = λ i v w. f.first.least i v w.1;
  least_second = λ j c.
      ⊎_elim (λ before. absurd (l.none_before j before c)) (λ after. after) (cases_lt j l.at);
}

no_clash_with : (job : JobData) (requests : List Request)
    (cell : ℕ) (f : HasFirst job requests cell) →
    ((j : ℕ) → j < length requests → Clashes job requests cell f.writer j → ⊥) → (i j : ℕ) →
    Clashes job requests cell i j → ⊥
no_clash_with job requests cell f none i j c =
    ⊎_elim
    (λ one. none i (clash_below job requests cell f.writer i one) one)
    (λ two. none j (clash_below job requests cell f.writer j two) two)
    (first_clashes job requests cell i j f.writer f.value f.first.writes c)

disputed_or_not : (job : JobData) (requests : List Request) (cell : ℕ) →
    Disputed job requests cell ⊎ ((i j : ℕ) → Clashes job requests cell i j → ⊥)
disputed_or_not job requests cell = ⊎_elim
    (λ is_cell. ⊎_elim (λ (n : HasNone job requests cell). inr (λ i j c. n.none i c.value c.writes.1))
    (λ (f : HasFirst job requests cell). ⊎_elim
    (λ (l : Least (λ j. Clashes job requests cell f.writer j) (length requests)).
    inl (disputed_with job requests cell f l))
    (λ none. inr (no_clash_with job requests cell f none))
    (least_below (λ j. Clashes job requests cell f.writer j)
    (clash_or_not job requests cell f.writer f.value is_cell f.first.writes) (length requests)))
    (writer_cases job requests cell))
    (λ no_cell. inr (λ i j c. let within : cell < job.cells = c.writes.0 in absurd (omega arith)))
    (cases_lt cell job.cells)

-- ---- whether a step agrees

decide_disputed : (job : JobData) (requests : List Request) (cell : ℕ) →
    Disputed job requests cell ⊎ (Disputed job requests cell → ⊥)
decide_disputed job requests cell = ⊎_elim (λ d. inl d)
    (λ none. inr (λ d. none d.first d.second d.clash)) (disputed_or_not job requests cell)

clash_disputed : (job : JobData) (requests : List Request) (cell i j : ℕ) →
    Clashes job requests cell i j → Disputed job requests cell
clash_disputed job requests cell i j c =
    ⊎_elim (λ d. d) (λ none. absurd (none i j c)) (disputed_or_not job requests cell)

dispute_at : (job : JobData) (requests : List Request) → Least (Disputed job requests) job.cells →
    (d : Dispute) × IsDispute job requests d
dispute_at job requests l =
    let is : IsDispute job requests
    (record { cell = l.at; first = l.holds.first; second = l.holds.second }) = record {
      clash = l.holds.clash;
      least_cell = λ cell i j c. ⊎_elim
          (λ before. absurd (l.none_before cell before (clash_disputed job requests cell i j c)))
          (λ after. after) (cases_lt cell l.at);
      least_first = l.holds.least_first;
      least_second = l.holds.least_second;
    } in
    (record { cell = l.at; first = l.holds.first; second = l.holds.second }, is)

pub agrees_or_dispute : (job : JobData) (requests : List Request) →
    Agrees job requests ⊎ ((d : Dispute) × IsDispute job requests d)
agrees_or_dispute job requests =
    ⊎_elim
    (λ (l : Least (Disputed job requests) job.cells). inr (dispute_at job requests l))
    (λ none. inl (λ cell i j c. none cell c.writes.0 (clash_disputed job requests cell i j c)))
    (least_below (Disputed job requests) (decide_disputed job requests) job.cells)

-- ---- whether there is a state after t steps

first_conflict : (job : JobData) (t : ℕ) (d : Dispute) →
    IsReached job t → IsDispute job (requests_after job t) d →
    (fault : Fault) × IsFirstConflict job fault × (fault.step ≤ suc t)
first_conflict job t d reached is =
    let conflict : IsFirstConflict job
    (record { step = t + 1; cell = d.cell; first = d.first; second = d.second }) =
    record { before = t; step = refl; reached = reached; dispute = is } in
    let le : t + 1 ≤ suc t = omega arith in
    (record { step = t + 1; cell = d.cell; first = d.first; second = d.second }, conflict, le)

pub reached_or_conflict : (job : JobData) (t : ℕ) →
    IsReached job t ⊎ ((fault : Fault) × IsFirstConflict job fault × (fault.step ≤ t))
reached_or_conflict job zero = inl (λ s lt. absurd (omega arith))
reached_or_conflict job (suc t) =
    ⊎_elim
    (λ reached. ⊎_elim
    (λ agrees. inl (reached_more job t reached agrees))
    (λ d. inr (first_conflict job t d.0 reached d.1))
    (agrees_or_dispute job (requests_after job t)))
    (λ c. let le : c.0.step ≤ suc t = omega (arith, c.2) in inr (c.0, c.1, le))
    (reached_or_conflict job t)

pub has_answer : (job : JobData) → (answer : RunAnswer) × IsAnswer job answer
has_answer job = elim (reached_or_conflict job job.steps) [
  | inl reached ↦ (
    Final (take job.cells (state_after job job.steps)),
    (state_after job job.steps, record { reached = reached; state = refl }, refl),
  )
  | inr c ↦ (Conflict c.0, record { first = c.1; within = c.2 })
]

-- there is one exactly where no step up to t has a dispute
pub reached_where : (job : JobData) (t : ℕ) →
    IsReached job t ↔ ((s : ℕ) (d : Dispute) → s < t → IsDispute job (requests_after job s) d → ⊥)
reached_where job t = (
  λ reached s d below is. reached s below d.cell d.first d.second is.clash,
  λ none s below. elim (agrees_or_dispute job (requests_after job s)) [
    | inl agrees ↦ agrees
    | inr d ↦ absurd (none s d.0 below d.1)
  ],
)
