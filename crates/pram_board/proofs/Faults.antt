-- What loads of the request words give once word 0 was heard to name a step.
use Rattle.std.proofs.Common.{◌≡◌, ◌≢◌, ℕ, suc, ◌+◌, ◌^◌, ◌<◌, List, [], ◌∷◌, ◌++◌, map, sym, ap}
use Rattle.std.proofs.Common.{ap₂, subst, ◌∙◌, arith}
use Rattle.std.specs.List.{range_with_len}
use Rattle.std.proofs.lemmas.List.FromFn.{map-range_with_len_more}
use Rattle.pram_job.specs.Job.{JobData}
use Rattle.pram_machine.specs.declared.requests.Request.{Request}
use Rattle.pram_machine.specs.Instructions.{request_in, requests_in}
use Rattle.pram_step.specs.History.{part_after}
use Rattle.pram_step.specs.Runs.{AreConflicting, requests_after, state_after, IsFault}
use Rattle.pram_step.specs.declared.arrival.Arrival.{Arrival}
use Rattle.pram_step.specs.declared.arrival.Arrival.TheVariants.{Disputed}
use Rattle.pram_step.specs.Arrivals.{IsArrival}
use Rattle.pram_step.specs.declared.answer.Fault.{Fault}
use Rattle.pram_words.specs.declared.words.Word.TheVariants.{Asked, Conflict}
use Rattle.pram_words.specs.Stamps.{stamped_word, stamp_of, payload_of}
use Rattle.pram_words.specs.Words.{number_of}
use Rattle.pram_words.specs.declared.layout.Form.TheVariants.{Compact}
use Rattle.walkx.specs.declared.operation.Op.TheVariants.{Load}
use Rattle.walkx.specs.Records.{Record, after}
use Rattle.walkx.specs.Requests.{AreWordsOf}
use Rattle.walk_memory.specs.Blocks.{IsBoard}
use Rattle.walk_memory.proofs.Boards.{same_procs}
use Rattle.lawful_walk.specs.Moments.{Sound, WasBacked}
use Rattle.lawful_walk.specs.Seen.{Heard}
use Rattle.lawful_walk.proofs.Knowing.{conflict_now}
use Rattle.lawful_walk.proofs.Sounding.{sound_conflict, was_part}
use Rattle.lawful_walk.specs.Walks.{IsConflict}
use Rattle.pram_board.specs.declared.task.Task.{Task}
use Rattle.pram_board.specs.Seats.{SeatData, hears, HasLoaded, KnowsConflict}
use Rattle.pram_board.proofs.Begins.{heard_afters}

pub still_heard : (t : Task) (n : ℕ) (p q : SeatData) (u : ℕ) → HasLoaded n p q →
    Heard t.layout p.record_of Conflict u → Heard t.layout q.record_of Conflict u
still_heard t n p q u loads heard = subst (λ (z : SeatData). Heard t.layout z.record_of Conflict u)
    (sym loads.is) (heard_afters t.layout p.record_of loads.steps Conflict u heard)

-- word 0, once heard as another value than 0, keeps it
pub named_again : (t : Task) (p q : SeatData) (k found u : ℕ) → k ≡ number_of t.layout Conflict →
    q ≡ hears p (Load k) found → Sound t.job t.layout q.record_of → u ≢ 0 →
    Heard t.layout p.record_of Conflict u → found ≡ u
named_again t p q k found u at is sound some heard =
    let was : WasBacked t.job t.layout
    (after p.record_of (Load (number_of t.layout Conflict)) found) =
    subst (λ (j : ℕ). Sound t.job t.layout (after p.record_of (Load j) found)) at
    (subst (λ (z : SeatData). Sound t.job t.layout z.record_of) is sound) in
    let m = was.backed in
    m.heard ∙ conflict_now t.job t.layout p.record_of u m.words m.earlier heard some

-- ---- a request

pub part_heard : (t : Task) (p q : SeatData) (k i j found s : ℕ) → IsBoard t.job t.layout →
    t.layout.form ≡ Compact →
    i < t.job.procs → j < 3 → k ≡ number_of t.layout (Asked i j) → q ≡ hears p (Load k) found →
    Sound t.job t.layout q.record_of →
    Heard t.layout p.record_of Conflict (suc s) →
    (stamp_of found ≡ suc s) × (payload_of found ≡ part_after t.job s i j)
part_heard t p q k i j found s board compact below few at is sound heard =
    let procs = same_procs t.job t.layout board in
    let was : WasBacked t.job t.layout
    (after p.record_of (Load (number_of t.layout (Asked i j))) found) =
    subst (λ (n : ℕ). Sound t.job t.layout (after p.record_of (Load n) found)) at
    (subst (λ (z : SeatData). Sound t.job t.layout z.record_of) is sound) in
    was_part t.job t.layout p.record_of s i j found compact heard (omega arith) few was

whole : (word t part : ℕ) → stamp_of word ≡ t → payload_of word ≡ part →
    (part < 2 ^ 32) × (word ≡ stamped_word t part)
whole word t part stamp payload = (omega arith, omega arith)

-- three such words are those of the request
pub words_of : (job : JobData) (s i place value next : ℕ) →
    (stamp_of place ≡ suc s) × (payload_of place ≡ part_after job s i 0) →
    (stamp_of value ≡ suc s) × (payload_of value ≡ part_after job s i 1) →
    (stamp_of next ≡ suc s) × (payload_of next ≡ part_after job s i 2) →
    AreWordsOf (suc s) (request_in job (state_after job s) i) place value next
words_of job s i place value next a b c =
    let p = whole place (suc s) (part_after job s i 0) a.0 a.1 in
    let v = whole value (suc s) (part_after job s i 1) b.0 b.1 in
    let n = whole next (suc s) (part_after job s i 2) c.0 c.1 in
    record { fits = (p.0, v.0, n.0); first = p.1; second = v.1; third = n.1 }

-- one request more
pub requests_more : (job : JobData) (s i : ℕ) (requests now : List Request) (r : Request) →
    requests ≡ map (request_in job (state_after job s)) (range_with_len 0 i) →
    r ≡ request_in job (state_after job s) i → now ≡ requests ++ r ∷ [] →
    now ≡ map (request_in job (state_after job s)) (range_with_len 0 (i + 1))
requests_more job s i requests now r so_far is pushed =
    pushed ∙ ap₂ (λ xs x. xs ++ x ∷ []) so_far is
    ∙ sym (map-range_with_len_more (request_in job (state_after job s)) 0 i i (omega arith))

-- ---- the conflict

all_requests : (job : JobData) (s n : ℕ) → n ≡ job.procs →
    map (request_in job (state_after job s)) (range_with_len 0 n) ≡ requests_after job s
unfolding requests_in
all_requests job s n is = ap (λ m. map (request_in job (state_after job s)) (range_with_len 0 m)) is

-- the requests of all processors, heard once word 0 was, are those of the first conflict
pub conflicting : (t : Task) (r : Record) (named n : ℕ) (requests : List Request) →
    Sound t.job t.layout r → KnowsConflict t.layout r →
    ((u : ℕ) → u ≢ 0 → Heard t.layout r Conflict u → named ≡ u) → n ≡ t.job.procs →
    ((s : ℕ) → Heard t.layout r Conflict (suc s) →
    requests ≡ map (request_in t.job (state_after t.job s)) (range_with_len 0 n)) →
    AreConflicting t.job named requests
conflicting t r named n requests sound knows same all are =
    let c = sound_conflict t.job t.layout r knows.step sound knows.heard knows.some in
    let first = c.is.first in
    let is : named ≡ knows.step = same knows.step knows.some knows.heard in
    let step : knows.step ≡ suc first.before = (let a = first.step in
    let b = c.step in omega arith) in
    let heard : Heard t.layout r Conflict (suc first.before) =
    subst (Heard t.layout r Conflict) step knows.heard in
    record {
      before = first.before;
      step = omega arith;
      within = (let a = c.is.within in
          let b = c.step in omega arith);
      reached = first.reached;
      against = λ agrees. agrees c.fault.cell c.fault.first c.fault.second (first.dispute.clash);
      are = are first.before heard ∙ all_requests t.job first.before n all;
    }

-- whatever word 0 is heard as once it was heard as a step, it is the first conflict
pub named_conflict : (t : Task) (r : Record) (named : ℕ) → Sound t.job t.layout r →
    KnowsConflict t.layout r → ((u : ℕ) → u ≢ 0 → Heard t.layout r Conflict u → named ≡ u) →
    IsConflict t.job named
named_conflict t r named sound knows same =
    subst (IsConflict t.job) (sym (same knows.step knows.some knows.heard))
    (sound_conflict t.job t.layout r knows.step sound knows.heard knows.some)

-- which is what the machine comes upon
pub fault_met : (job : JobData) (step most : ℕ) → IsConflict job step → (came : Arrival) →
    IsArrival job step most came → (fault : Fault) → came ≡ Disputed fault → IsFault job fault
fault_met job step most c came is fault e =
    let there = subst (IsArrival job step most) e is in
    let low = there.1 in
    let within = c.is.within in
    let same = c.step in record { first = there.0; within = omega arith }
