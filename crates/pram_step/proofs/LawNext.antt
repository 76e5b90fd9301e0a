-- The next state: where the step agrees there is one, and only one.
use Rattle.std.proofs.Common.{◌≡◌, ℕ, ◌+◌, ◌<◌, ◌≤◌, List, Option, Some, None}
use Rattle.std.proofs.Common.{refl, sym, ap, subst, ◌∙◌, ⊎_elim, arith, length}
use Rattle.std.specs.Prelude.{slice_index}
use Rattle.std.specs.Option.{unwrap_or}
use Rattle.std.proofs.lemmas.Bool.{cases_lt, cases_eq}
use Rattle.std.proofs.lemmas.List.{ext_get_or}
use Rattle.std.proofs.lemmas.List.FromFn.{get_or-map-range_with_len}
use Rattle.pram_job.specs.declared.instr.Rule.{Rule}
use Rattle.pram_job.specs.declared.instr.Rule.TheVariants.{Common, Priority, Crew}
use Rattle.pram_job.specs.Job.{JobData, IsJob}
use Rattle.pram_machine.specs.declared.requests.Request.{Request}
use Rattle.pram_machine.specs.Machine.{State}
use Rattle.pram_machine.specs.Instructions.{requests_in}
use Rattle.pram_step.specs.Steps.{Writes, Agrees, Counts, IsNext}
use Rattle.pram_step.specs.Disputes.{Forbids}
use Rattle.pram_step.specs.Steps.{first_written, after_requests, next_state}
use Rattle.pram_step.proofs.LawWriters.{written_once, IsFirstWriter}
use Rattle.pram_step.proofs.LawWriters.{HasFirst, HasNone, writer_cases}
use Rattle.pram_step.proofs.LawPlaces.{one_writer_value}
use Rattle.pram_step.proofs.LawFixed.{length-after}

-- ---- the next state, place by place

pub after_at : (job : JobData) (requests : List Request) (s : State) (p : ℕ) → p < length s →
    slice_index (after_requests job requests s) p
    ≡ unwrap_or (first_written job p 0 requests) (slice_index s p)
unfolding after_requests
after_at job requests s p lt =
    let there : 0 + p ≡ p = omega arith in
    get_or-map-range_with_len
    (λ (q : ℕ). unwrap_or (first_written job q 0 requests) (slice_index s q)) 0
    (length s) p p 0 lt there

pub after_first : (job : JobData) (requests : List Request) (s : State) (p v : ℕ) → p < length s →
    first_written job p 0 requests ≡ Some v → slice_index (after_requests job requests s) p ≡ v
after_first job requests s p v lt e =
    after_at job requests s p lt ∙ ap (λ (o : Option ℕ). unwrap_or o (slice_index s p)) e

pub after_none : (job : JobData) (requests : List Request) (s : State) (p : ℕ) →
    p < length s → first_written job p 0 requests ≡ None →
    slice_index (after_requests job requests s) p ≡ slice_index s p
after_none job requests s p lt e =
    after_at job requests s p lt ∙ ap (λ (o : Option ℕ). unwrap_or o (slice_index s p)) e

-- ---- what agreeing says of two writers of a place

pub common_value : (job : JobData) (requests : List Request) (p i j v w : ℕ) →
    job.rule ≡ Common → Agrees job requests → p < job.cells → Writes job requests p i v →
    Writes job requests p j w → v ≡ w
common_value job requests p i j v w rule agrees cell a b =
    ⊎_elim
    (λ same. same)
    (λ differ. absurd (agrees p i j (record {
      value = v;
      other = w;
      writes = (cell, a);
      writes_too = (cell, b);
      forbidden = subst (λ (r : Rule). Forbids r i v j w) (sym rule) differ;
    })))
    (cases_eq v w)

pub crew_writer : (job : JobData) (requests : List Request) (p i j v w : ℕ) →
    job.rule ≡ Crew → Agrees job requests → p < job.cells → Writes job requests p i v →
    Writes job requests p j w → i ≡ j
crew_writer job requests p i j v w rule agrees cell a b =
    ⊎_elim
    (λ same. same)
    (λ differ. absurd (agrees p i j (record {
      value = v;
      other = w;
      writes = (cell, a);
      writes_too = (cell, b);
      forbidden = subst (λ (r : Rule). Forbids r i v j w) (sym rule) differ;
    })))
    (cases_eq i j)

pub crew_value : (job : JobData) (requests : List Request) (p i j v w : ℕ) →
    job.rule ≡ Crew → Agrees job requests → p < job.cells → Writes job requests p i v →
    Writes job requests p j w → v ≡ w
crew_value job requests p i j v w rule agrees cell a b =
    let same : i ≡ j = crew_writer job requests p i j v w rule agrees cell a b in
    written_once job requests p i v w a (subst (λ (k : ℕ). Writes job requests p k w) (sym same) b)

priority_value : (job : JobData) (requests : List Request)
    (p i v w : ℕ) (f : IsFirstWriter job requests p i v) (j : ℕ) → Writes job requests p j w →
    ((k u : ℕ) → Writes job requests p k u → j ≤ k) → v ≡ w
priority_value job requests p i v w f j b counts =
    let above : i ≤ j = f.least j w b in
    let below : j ≤ i = counts i v f.writes in
    let same : i ≡ j = omega arith in
    written_once job requests p i v w f.writes
    (subst (λ (k : ℕ). Writes job requests p k w) (sym same) b)

-- ---- where the step agrees, what the first writer writes is what each write that counts writes

first_counts : (job : JobData) (s : State) (p i j v w : ℕ) (rule : Rule) → job.rule ≡ rule →
    IsJob job → Agrees job (requests_in job s) → IsFirstWriter job (requests_in job s) p i v →
    Writes job (requests_in job s) p j w → Counts rule job (requests_in job s) p j → v ≡ w
first_counts job s p i j v w Common rule is_job agrees f b counts =
    ⊎_elim
    (λ cell. common_value job (requests_in job s) p i j v w rule agrees cell f.writes b)
    (λ no_cell. one_writer_value job s p i j v w is_job no_cell f.writes b)
    (cases_lt p job.cells)
first_counts job s p i j v w Priority rule is_job agrees f b counts =
    priority_value job (requests_in job s) p i v w f j b counts
first_counts job s p i j v w Crew rule is_job agrees f b counts =
    ⊎_elim
    (λ cell. crew_value job (requests_in job s) p i j v w rule agrees cell f.writes b)
    (λ no_cell. one_writer_value job s p i j v w is_job no_cell f.writes b)
    (cases_lt p job.cells)

next_written_to : (job : JobData) (s : State) → IsJob job → Agrees job (requests_in job s) →
    (p i v : ℕ) → p < length s → Writes job (requests_in job s) p i v →
    Counts job.rule job (requests_in job s) p i → slice_index (next_state job s) p ≡ v
next_written_to job s is_job agrees p i v lt w counts =
    ⊎_elim (λ (n : HasNone job (requests_in job s) p). absurd (n.none i v w))
    (λ (f : HasFirst job (requests_in job s) p).
    after_first job (requests_in job s) s p f.value lt f.found
    ∙ first_counts job s p f.writer i f.value v job.rule refl is_job agrees f.first w counts)
    (writer_cases job (requests_in job s) p)

after_kept : (job : JobData) (requests : List Request) (s : State) (p : ℕ) →
    p < length s → ((i v : ℕ) → Writes job requests p i v → ⊥) →
    slice_index (after_requests job requests s) p ≡ slice_index s p
after_kept job requests s p lt none =
    ⊎_elim
    (λ (n : HasNone job requests p). after_none job requests s p lt n.found)
    (λ (f : HasFirst job requests p). absurd (none f.writer f.value f.first.writes))
    (writer_cases job requests p)

pub next_is_next : (job : JobData) (s : State) → IsJob job → Agrees job (requests_in job s) →
    IsNext job (requests_in job s) s (next_state job s)
next_is_next job s is_job agrees = record {
  len = length-after job (requests_in job s) s;
  written_to = next_written_to job s is_job agrees;
  kept = after_kept job (requests_in job s) s;
}

-- ---- a next state is this one

first_does_count : (job : JobData) (requests : List Request) (p i v : ℕ) (rule : Rule) →
    IsFirstWriter job requests p i v → Counts rule job requests p i
first_does_count job requests p i v Common f = tt
first_does_count job requests p i v Priority f = f.least
first_does_count job requests p i v Crew f = tt

next_at : (job : JobData) (requests : List Request) (old new : State) →
    IsNext job requests old new → (p : ℕ) → p < length old →
    slice_index new p ≡ slice_index (after_requests job requests old) p
next_at job requests old new is p lt = ⊎_elim
    (λ (n : HasNone job requests p).
    is.kept p lt n.none ∙ sym (after_none job requests old p lt n.found))
    (λ (f : HasFirst job requests p). is.written_to p f.writer f.value lt f.first.writes
    (first_does_count job requests p f.writer f.value job.rule f.first)
    ∙ sym (after_first job requests old p f.value lt f.found))
    (writer_cases job requests p)

pub is_next_state : (job : JobData) (requests : List Request) (old new : State) →
    IsNext job requests old new → new ≡ after_requests job requests old
is_next_state job requests old new is =
    ext_get_or 0 new (after_requests job requests old)
    (is.len ∙ sym (length-after job requests old))
    (λ p lt. next_at job requests old new is p (omega (arith, is.len)))

pub one_next : (job : JobData) (requests : List Request) (old new other : State) →
    IsNext job requests old new → IsNext job requests old other → new ≡ other
one_next job requests old new other a b =
    is_next_state job requests old new a ∙ sym (is_next_state job requests old other b)
