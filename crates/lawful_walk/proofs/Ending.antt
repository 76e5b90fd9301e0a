-- A worker that is over, and known: what it heard is so. Progress.
use Rattle.std.proofs.Common.{◌≡◌, ◌≢◌, ℕ, zero, suc, ◌*◌, ◌≤◌, List, [], ◌∷◌, refl, sym, subst}
use Rattle.std.proofs.Common.{inl, inr, lit<, arith, ◌⊎◌}
use Rattle.std.proofs.lemmas.Bool.{cases_lt}
use Rattle.pram_job.specs.Job.{JobData}
use Rattle.pram_step.specs.Runs.{IsReached, AgreesAfter}
use Rattle.pram_step.proofs.LawAnswer.{conflict_ends}
use Rattle.pram_step.proofs.LawDisputes.{reached_or_conflict}
use Rattle.pram_step.specs.declared.arrival.Arrival.{Arrival}
use Rattle.pram_step.specs.declared.arrival.Arrival.TheVariants.{Reached, TooFar}
use Rattle.pram_step.specs.Arrivals.{IsArrival}
use Rattle.pram_words.specs.declared.words.Word.TheVariants.{Conflict, Node}
use Rattle.pram_words.specs.Words.{LayoutData, number_of}
use Rattle.pram_words.proofs.NextPhases.{next_above}
use Rattle.walkx.specs.declared.operation.Ended.{Ended}
use Rattle.walkx.specs.declared.operation.Op.TheVariants.{Load}
use Rattle.walkx.specs.Doing.{Doing}
use Rattle.walkx.specs.Doing as doing
use Rattle.walkx.specs.Reads.{step_seen}
use Rattle.walkx.specs.Records.{Record, Has}
use Rattle.walkx.specs.Scripts.{Script, ends}
use Rattle.walkx.specs.Walk.{Then, stops, Walking, Fits, Matches, node_of, rest_of, heard_of}
use Rattle.walkx.proofs.Ends.{AllEnds, Brings, BeginEnds, heard_both, worker_ends}
use Rattle.walkx.proofs.Knowing.{has_earlier}
use Rattle.lawful_walk.specs.Walks.{IsConflict, ProgressWell}
use Rattle.lawful_walk.specs.Board.{Stands, root}
use Rattle.lawful_walk.specs.Moments.{Backed}
use Rattle.lawful_walk.specs.Seen.{Heard, Shows}
use Rattle.lawful_walk.proofs.Facts.{facts}
use Rattle.lawful_walk.proofs.Knowing.{conflict_now, conflict_fin, conflict_first, known_now}
use Rattle.lawful_walk.proofs.Reading.{load_root, load_conflict, glanced_both}

-- ---- what a worker that is over heard

over_rest : (d : Doing) (e : Ended) (script : Script Then) → d ≡ doing.Over e →
    Matches d script → script ≡ ends (stops e)
over_rest d e script is h =
    (subst (λ (x : Doing). Matches x script → script ≡ ends (stops e)) (sym is) (λ g. g)) h

pub over_heard : (job : JobData) (y : LayoutData) (w : Walking) (e : Ended) → Fits job y w →
    w.now ≡ doing.Over e → BeginEnds job y (node_of y w) (stops e) (heard_of job y w)
over_heard job y w e well is =
    subst (λ (d : Doing). Brings job y w.number (node_of y w) d (stops e) (heard_of job y w)) is
    (subst (λ (s : Script Then). AllEnds (Brings job y w.number (node_of y w) w.now) s
    (heard_of job y w)) (over_rest w.now e (rest_of job y w) is well.matches)
    (worker_ends job y w well.block))

-- ---- the end

pub both_shows : (y : LayoutData) (r : Record) (t : ℕ) →
    Has r (heard_both y (3 * t) 0) → Shows y r t
both_shows y r zero has = inr (inr (
  refl,
  record {
    op = Load (number_of y (Node 1));
    hears = refl;
    has =
        has_earlier r (Load (number_of y Conflict), 0) ((Load (number_of y (Node 1)), 0) ∷ []) has;
  },
))
both_shows y r (suc k) has = inr (inl (
  0,
  (λ e. absurd (omega arith)),
  record {
    op = Load (number_of y (Node 1));
    next = Load (number_of y Conflict);
    hears = refl;
    hears_next = refl;
    has = has;
  },
))

-- ---- the conflict

pub is_first : (job : JobData) (s : ℕ) → IsReached job s → (AgreesAfter job s → ⊥) →
    suc s ≤ job.steps → IsConflict job (suc s)
is_first job s reached not within = elim (reached_or_conflict job (suc s)) [
  | inl all ↦ absurd (not (all s (omega arith)))
  | inr c ↦ (let low : c.0.step ≤ suc s = c.2 in elim (cases_lt s c.0.step) [
    | inl k ↦ record {
      fault = c.0;
      is = record { first = c.1; within = omega arith };
      step = omega arith;
    }
    | inr k ↦ absurd (conflict_ends job c.0 s c.1 k reached)
  ])
]

-- whoever makes the steps up to a conflict comes upon it
pub conflict_met : (job : JobData) (step most : ℕ) → IsConflict job step → most ≡ job.steps →
    (came : Arrival) → IsArrival job step most came →
    ((state : List ℕ) × (came ≡ Reached state)) ⊎ (came ≡ TooFar) → ⊥
conflict_met job step most c all came is (inl e) =
    let there = subst (IsArrival job step most) e.1 is in
    let at = c.is.first.step in
    conflict_ends job c.fault step c.is.first (let same = c.step in omega arith) there.reached
conflict_met job step most c all came is (inr e) =
    let there = subst (IsArrival job step most) e is in
    let less = there.0 in
    let within = c.is.within in
    let same = c.step in absurd (omega arith)

pub heard_conflict : (job : JobData) (y : LayoutData) (r : Record) (u : ℕ) (words : List ℕ) →
    Stands job y words → Backed job y r words →
    Heard y r Conflict u → u ≢ 0 → IsConflict job u
heard_conflict job y r zero words stands backed heard some = absurd (some refl)
heard_conflict job y r (suc s) words stands backed heard some =
    let c = conflict_first job y r s words stands backed heard in
    let f = conflict_fin job y r (suc s) words stands backed heard some in
    let leaves = stands.sizes.leaves in
    let most = stands.lawful.tree.most 1 (lit< tt, omega arith) in
    let near = stands.lawful.named.near s (conflict_now job y r (suc s) words backed heard some) in
    let low = (facts job y words stands).root_low in
    let next = (next_above y.form (root y words)).1 in
    is_first job s c.0 c.1 (elim near [ inl e ↦ omega arith | inr e ↦ omega arith ])

-- ---- progress

pub progress_well : (job : JobData) (y : LayoutData) (before : Record) (r u : ℕ) (words : List ℕ) →
    Stands job y words →
    Backed job y (load_conflict y (load_root y before r) u) words →
    ProgressWell job y before (load_conflict y (load_root y before r) u) (step_seen r u) u
progress_well job y before r u words stands backed =
    let g = glanced_both job y before r u words stands backed in
    let later = load_conflict y (load_root y before r) u in
    record {
      reached = (known_now job y later (step_seen r u) words stands backed (inl g.shows)).0;
      shows = g.shows;
      lasts = g.low;
      seen = g.shown;
      named = g.named;
      conflict = λ some. heard_conflict job y later u words stands backed
          (record { op = Load (number_of y Conflict); hears = refl; has = inl (refl, tt) }) some;
    }
