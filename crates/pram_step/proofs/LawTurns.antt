-- Where a step agrees, the processors may write one after another.
use Rattle.std.proofs.Common.{◌≡◌, ◌≢◌, ℕ, ◌+◌, ◌<◌, List, [], ◌∷◌, Option}
use Rattle.std.proofs.Common.{Some, None, length, refl, sym, ap, ◌∙◌, arith}
use Rattle.std.specs.Prelude.{slice_index}
use Rattle.std.specs.Option.{option_or, unwrap_or}
use Rattle.std.proofs.lemmas.List.{ext_get_or}
use Rattle.std.proofs.lemmas.List.FromFn.{length-map-range_with_len, get_or-map-range_with_len}
use Rattle.pram_job.specs.declared.instr.Rule.TheVariants.{Priority}
use Rattle.pram_job.specs.Job.{JobData, IsJob}
use Rattle.pram_machine.specs.declared.requests.Request.{Request}
use Rattle.pram_machine.specs.Machine.{State}
use Rattle.pram_machine.specs.Instructions.{requests_in}
use Rattle.pram_step.specs.Steps.{Writes, Agrees, next_state}
use Rattle.pram_step.specs.Orders.{HasAll, written_by, first_found, after_writes_of, after_in_turn}
use Rattle.pram_step.proofs.LawNext.{after_at}
use Rattle.pram_step.proofs.LawFixed.{length-after}
use Rattle.pram_step.proofs.LawOrders.{Found, found_some, writes_from_by, one_value, first_found_is}

length-writes_of : (job : JobData) (requests : List Request) (i : ℕ) (s : State) →
    length (after_writes_of job requests i s) ≡ length s
unfolding after_writes_of
length-writes_of job requests i s = length-map-range_with_len _ 0 (length s)

writes_of_at : (job : JobData) (requests : List Request) (i : ℕ) (s : State) (p : ℕ) →
    p < length s → slice_index (after_writes_of job requests i s) p
    ≡ unwrap_or (written_by job requests p i) (slice_index s p)
unfolding after_writes_of
writes_of_at job requests i s p lt =
    let there : 0 + p ≡ p = omega arith in
    get_or-map-range_with_len (λ (q : ℕ). unwrap_or (written_by job requests q i) (slice_index s q))
    0 (length s) p p 0 lt there

length-in_turn : (job : JobData) (requests : List Request) (order : List ℕ) (s : State) →
    length (after_in_turn job requests order s) ≡ length s
unfolding after_in_turn
length-in_turn job requests [] s = refl
length-in_turn job requests (i ∷ order) s = length-in_turn job requests order
    (after_writes_of job requests i s) ∙ length-writes_of job requests i s

-- the last of two equal values is the first
last_is_first : (first rest : Option ℕ) (held : ℕ) →
    ((v w : ℕ) → first ≡ Some v → rest ≡ Some w → w ≡ v) →
    unwrap_or rest (unwrap_or first held) ≡ unwrap_or (option_or first rest) held
last_is_first None rest held same = refl
last_is_first (Some v) None held same = refl
last_is_first (Some v) (Some w) held same = same v w refl refl

-- where all that is written to a place is one value
in_turn_at : (job : JobData) (requests : List Request) (p : ℕ) →
    ((i j v w : ℕ) → Writes job requests p i v → Writes job requests p j w → v ≡ w) →
    (order : List ℕ) (s : State) → p < length s → slice_index (after_in_turn job requests order s) p
    ≡ unwrap_or (first_found job requests p order) (slice_index s p)
unfolding after_in_turn
in_turn_at job requests p one [] s lt = refl
in_turn_at job requests p one (i ∷ order) s lt =
    let within : p < length (after_writes_of job requests i s) =
    omega (arith, length-writes_of job requests i s) in
    in_turn_at job requests p one order (after_writes_of job requests i s) within
    ∙ ap (unwrap_or (first_found job requests p order)) (writes_of_at job requests i s p lt)
    ∙ last_is_first (written_by job requests p i) (first_found job requests p order)
    (slice_index s p) (λ v w here there.
    let f : Found job requests p w = found_some job requests p w order there in
    one f.writer i w v f.writes (writes_from_by job requests p i v here))

in_turn_is : (job : JobData) (s : State) (order : List ℕ) → IsJob job → job.rule ≢ Priority →
    Agrees job (requests_in job s) → HasAll job order → (p : ℕ) → p < length s →
    slice_index (after_in_turn job (requests_in job s) order s) p ≡ slice_index (next_state job s) p
in_turn_is job s order is_job rule agrees all p lt =
    in_turn_at job (requests_in job s) p
    (λ i j v w a b. one_value job s p i j v w job.rule refl rule is_job agrees a b) order s lt
    ∙ ap (λ (o : Option ℕ). unwrap_or o (slice_index s p))
    (first_found_is job s p order is_job rule agrees all)
    ∙ sym (after_at job (requests_in job s) s p lt)

pub turns_are_free : (job : JobData) (s : State) (order : List ℕ) →
    IsJob job → job.rule ≢ Priority → Agrees job (requests_in job s) → HasAll job order →
    after_in_turn job (requests_in job s) order s ≡ next_state job s
turns_are_free job s order is_job rule agrees all =
    ext_get_or 0 (after_in_turn job (requests_in job s) order s) (next_state job s)
    (length-in_turn job (requests_in job s) order s ∙ sym (length-after job (requests_in job s) s))
    (λ p lt. in_turn_is job s order is_job rule agrees all p
    (omega (arith, length-in_turn job (requests_in job s) order s)))
