-- Jobs that differ in their rule or their number of steps alone.
use Rattle.std.proofs.Common.{◌≡◌, ℕ, zero, suc, ◌+◌, List, [], ◌∷◌, Option}
use Rattle.std.proofs.Common.{Some, None, length, map, refl, sym, ap, subst, ◌∙◌}
use Rattle.std.specs.Prelude.{slice_get, slice_index}
use Rattle.std.specs.List.{range_with_len}
use Rattle.std.specs.Option.{option_or, unwrap_or}
use Rattle.pram_job.specs.declared.instr.Instr.{Instr}
use Rattle.pram_job.specs.declared.instr.Instr.TheVariants.{Ld, St, Halt}
use Rattle.pram_job.specs.declared.instr.Place.TheVariants.{Cell, Named}
use Rattle.pram_job.specs.declared.instr.Rule.{Rule}
use Rattle.pram_job.specs.declared.instr.Rule.TheVariants.{Common, Priority, Crew}
use Rattle.pram_job.specs.Job.{JobData}
use Rattle.pram_machine.specs.declared.requests.Request.{Request}
use Rattle.pram_machine.specs.Machine.{State, counter}
use Rattle.pram_machine.specs.Instructions.{cell_read, goes_to, decided, operand_held}
use Rattle.pram_machine.specs.Instructions.{decided_in, request_in, requests_in}
use Rattle.pram_step.specs.Steps.{Writes, Counts, IsNext, Clashes, Agrees}
use Rattle.pram_step.specs.Disputes.{Forbids}
use Rattle.pram_step.specs.Steps.{written, first_written, after_requests, next_state}
use Rattle.pram_step.specs.Runs.{state_after, AgreesAfter}
use Rattle.pram_step.proofs.LawWriters.{written_once}

-- the job with another rule and another number of steps
abbrev pub varied : JobData → Rule → ℕ → JobData
varied job r n = record job { rule = r; steps = n }

-- ---- neither the rule nor the number of steps stands in what the processors ask for

decided_same : (job : JobData) (r : Rule) (n : ℕ) (i counter : ℕ) (instr : Instr) (a b v : ℕ) →
    decided (varied job r n) i counter instr a b v ≡ decided job i counter instr a b v
unfolding decided
decided_same job r n i counter (Ld _ (Cell _)) a b v = refl
decided_same job r n i counter (Ld _ (Named _ _)) a b v = refl
decided_same job r n i counter (St (Cell _) _) a b v = refl
decided_same job r n i counter (St (Named _ _) _) a b v = refl
decided_same job r n i counter Halt a b v = refl
decided_same job r n i counter _ a b v = refl

cell_same : (job : JobData) (r : Rule) (n : ℕ) (instr : Instr) (a : ℕ) →
    cell_read (varied job r n) instr a ≡ cell_read job instr a
cell_same job r n (Ld _ (Cell _)) a = refl
cell_same job r n (Ld _ (Named _ _)) a = refl
cell_same job r n Halt a = refl
cell_same job r n _ a = refl

request_same : (job : JobData) (r : Rule) (n : ℕ) (s : State) (i : ℕ) →
    request_in (varied job r n) s i ≡ request_in job s i
unfolding request_in
request_same job r n s i =
    ap (λ (run : Instr → Request). elim (slice_get job.code (counter job s i)) [
      | None ↦ goes_to (counter job s i)
      | Some instr ↦ run instr
    ]) (λ k instr. same instr k)
  where
    same : (instr : Instr) → decided_in (varied job r n) s i instr ≡ decided_in job s i instr
    same instr =
        decided_same job r n i _ instr _ _ _
        ∙ ap (λ (o : Option ℕ). decided job i (counter job s i) instr (operand_held job s i instr 0)
        (operand_held job s i instr 1) (elim o [ None ↦ 0 | Some cell ↦ slice_index s cell ]))
        (cell_same job r n instr (operand_held job s i instr 0))

pub requests_same : (job : JobData) (r : Rule) (n : ℕ) (s : State) →
    requests_in (varied job r n) s ≡ requests_in job s
unfolding requests_in
requests_same job r n s =
    ap (λ (f : ℕ → Request). map f (range_with_len 0 job.procs)) (λ k i. request_same job r n s i k)

first_written_same : (job : JobData) (r : Rule) (n : ℕ) (p i : ℕ) (rs : List Request) →
    first_written (varied job r n) p i rs ≡ first_written job p i rs
first_written_same job r n p i [] = refl
first_written_same job r n p i (x ∷ rs) =
    ap (option_or (written job p i x)) (first_written_same job r n p (i + 1) rs)

after_same : (job : JobData) (r : Rule) (n : ℕ) (requests : List Request) (s : State) →
    after_requests (varied job r n) requests s ≡ after_requests job requests s
unfolding after_requests
after_same job r n requests s = ap (λ (f : ℕ → Option ℕ).
    map (λ p. unwrap_or (f p) (slice_index s p)) (range_with_len 0 (length s)))
    (λ k p. first_written_same job r n p 0 requests k)

pub next_same : (job : JobData) (r : Rule) (n : ℕ) (s : State) →
    next_state (varied job r n) s ≡ next_state job s
next_same job r n s = after_same job r n (requests_in (varied job r n) s) s
    ∙ ap (λ (requests : List Request). after_requests job requests s) (requests_same job r n s)

pub state_same : (job : JobData) (r : Rule) (n t : ℕ) →
    state_after (varied job r n) t ≡ state_after job t
unfolding state_after
state_same job r n zero = refl
state_same job r n (suc t) =
    next_same job r n (state_after (varied job r n) t) ∙ ap (next_state job) (state_same job r n t)

pub asked_same : (job : JobData) (r : Rule) (n t : ℕ) →
    requests_in (varied job r n) (state_after (varied job r n) t)
    ≡ requests_in job (state_after job t)
asked_same job r n t = requests_same job r n (state_after (varied job r n) t)
    ∙ ap (requests_in job) (state_same job r n t)

-- ---- what is against one rule and against another

pub writes_same : (job : JobData) (r q : Rule) (n m : ℕ) (requests : List Request) (p i v : ℕ) →
    Writes (varied job r n) requests p i v → Writes (varied job q m) requests p i v
writes_same job r q n m requests p i v w =
    record { request = w.request; request_is = w.request_is; writes = w.writes }

clash_moves : (job : JobData) (r q : Rule) (n m : ℕ) (requests : List Request) (cell i j : ℕ) →
    ((v w : ℕ) → Writes job requests cell i v → Writes job requests cell j w →
    Forbids r i v j w → Forbids q i v j w) → Clashes (varied job r n) requests cell i j →
    Clashes (varied job q m) requests cell i j
clash_moves job r q n m requests cell i j forbids c = record {
  value = c.value;
  other = c.other;
  writes = (c.writes.0, writes_same job r q n m requests cell i c.value c.writes.1);
  writes_too = (c.writes.0, writes_same job r q n m requests cell j c.other c.writes_too.1);
  forbidden = forbids c.value c.other
      (writes_same job r job.rule n job.steps requests cell i c.value c.writes.1)
      (writes_same job r job.rule n job.steps requests cell j c.other c.writes_too.1) c.forbidden;
}

-- what any rule forbids, crew forbids
crew_forbids : (job : JobData) (requests : List Request) (cell i j : ℕ) (r : Rule) (v w : ℕ) →
    Writes job requests cell i v → Writes job requests cell j w →
    Forbids r i v j w → Forbids Crew i v j w
crew_forbids job requests cell i j Common v w a b differ same = differ (written_once job requests
    cell i v w a (subst (λ (k : ℕ). Writes job requests cell k w) (sym same) b))
crew_forbids job requests cell i j Priority v w a b never same = never
crew_forbids job requests cell i j Crew v w a b differ same = differ same

clash_of_crew : (job : JobData) (r : Rule) (n m : ℕ) (requests : List Request) (cell i j : ℕ) →
    Clashes (varied job r n) requests cell i j → Clashes (varied job Crew m) requests cell i j
clash_of_crew job r n m requests cell i j =
    clash_moves job r Crew n m requests cell i j (crew_forbids job requests cell i j r)

pub clash_same : (job : JobData) (r : Rule) (n m : ℕ) (requests : List Request) (cell i j : ℕ) →
    Clashes (varied job r n) requests cell i j → Clashes (varied job r m) requests cell i j
clash_same job r n m requests cell i j =
    clash_moves job r r n m requests cell i j (λ v w a b forbidden. forbidden)

-- ---- steps that agree

agrees_at : (job : JobData) (r : Rule) (n t : ℕ) →
    Agrees (varied job r n) (requests_in job (state_after job t)) → AgreesAfter (varied job r n) t
agrees_at job r n t = subst (λ (requests : List Request). Agrees (varied job r n) requests)
    (sym (asked_same job r n t))

agrees_from : (job : JobData) (r : Rule) (n t : ℕ) → AgreesAfter (varied job r n) t →
    Agrees (varied job r n) (requests_in job (state_after job t))
agrees_from job r n t =
    subst (λ (requests : List Request). Agrees (varied job r n) requests) (asked_same job r n t)

-- a step that agrees for crew agrees for each rule
pub crew_agrees : (job : JobData) (r : Rule) (n m t : ℕ) → AgreesAfter (varied job Crew n) t →
    AgreesAfter (varied job r m) t
crew_agrees job r n m t agrees = agrees_at job r m t (λ cell i j clash. agrees_from job Crew n t
    agrees cell i j (clash_of_crew job r m n (requests_in job (state_after job t)) cell i j clash))

-- for priority each step agrees
pub priority_agrees : (job : JobData) (n t : ℕ) → AgreesAfter (varied job Priority n) t
priority_agrees job n t cell i j clash = clash.forbidden

pub steps_agree : (job : JobData) (r : Rule) (n m t : ℕ) → AgreesAfter (varied job r n) t →
    AgreesAfter (varied job r m) t
steps_agree job r n m t agrees = agrees_at job r m t (λ cell i j clash. agrees_from job r n t agrees
    cell i j (clash_same job r m n (requests_in job (state_after job t)) cell i j clash))

-- ---- next states

-- under priority fewer writes count than under any rule, under crew as many as under any
priority_counts : (job : JobData) (r : Rule) (n m : ℕ) (requests : List Request) (p i : ℕ) →
    Counts Priority (varied job Priority m) requests p i → Counts r (varied job r n) requests p i
priority_counts job Common n m requests p i counts = tt
priority_counts job Priority n m requests p i counts =
    λ j w writes. counts j w (writes_same job Priority Priority n m requests p j w writes)
priority_counts job Crew n m requests p i counts = tt

pub next_for_priority : (job : JobData) (r : Rule) (requests : List Request) (old new : State) →
    IsNext (record job { rule = r }) requests old new →
    IsNext (record job { rule = Priority }) requests old new
next_for_priority job r requests old new is = record {
  len = is.len;
  written_to = λ p i v lt w counts.
      is.written_to p i v lt (writes_same job Priority r job.steps job.steps requests p i v w)
      (priority_counts job r job.steps job.steps requests p i counts);
  kept = λ p lt none. is.kept p lt
      (λ i v w. none i v (writes_same job r Priority job.steps job.steps requests p i v w));
}

pub next_from_crew : (job : JobData) (r : Rule) (requests : List Request) (old new : State) →
    IsNext (record job { rule = Crew }) requests old new →
    IsNext (record job { rule = r }) requests old new
next_from_crew job r requests old new is = record {
  len = is.len;
  written_to = λ p i v lt w counts.
      is.written_to p i v lt (writes_same job r Crew job.steps job.steps requests p i v w) tt;
  kept = λ p lt none. is.kept p lt
      (λ i v w. none i v (writes_same job Crew r job.steps job.steps requests p i v w));
}
