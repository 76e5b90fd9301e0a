-- What loads of a cell's words give once the last step is shown, and loads of request words once
-- word 0 was heard.
use Rattle.std.proofs.Common.{◌≡◌, ℕ, suc, ◌<◌, ◌≤◌, false, List, slice_index, sym, ap, ◌∙◌, lit<}
use Rattle.std.proofs.Common.{arith}
use Rattle.pram_job.specs.Job.{JobData}
use Rattle.pram_step.specs.History.{part_after}
use Rattle.pram_step.specs.Runs.{state_after}
use Rattle.pram_words.specs.Stamps.{stamp_of, payload_of, newer_word}
use Rattle.pram_words.specs.Words.{LayoutData, IsWord, IsStamped, number_of, places_of, most_stored}
use Rattle.pram_words.specs.declared.layout.Form.TheVariants.{Compact}
use Rattle.pram_words.specs.declared.words.Word.TheVariants.{Conflict, Asked, Stored}
use Rattle.walkx.specs.Records.{Record, after}
use Rattle.walkx.specs.Tasks.{is_late}
use Rattle.walkx.specs.declared.operation.Op.TheVariants.{Load}
use Rattle.lawful_walk.specs.Board.{held, stamp_at, Stands}
use Rattle.lawful_walk.specs.Lands.{landed_step}
use Rattle.lawful_walk.specs.Seen.{Heard, KnowsStep}
use Rattle.lawful_walk.proofs.Facts.{facts}
use Rattle.lawful_walk.proofs.Growths.{place_as_heard}
use Rattle.lawful_walk.proofs.Knowing.{known_now, conflict_now}
use Rattle.lawful_walk.proofs.Places.{is_early}
use Rattle.lawful_walk.specs.Moments.{Backed}

-- ---- memory

-- no word of a place has a stamp above the last step
stamps_most : (job : JobData) (y : LayoutData) (words : List ℕ) (p k : ℕ) → Stands job y words →
    IsWord y (Stored p k) → stamp_at y words p k ≤ job.steps
stamps_most job y words p k stands is =
    let range : IsStamped job.steps (most_stored y job p) (held y words (Stored p k)) =
    stands.admitted.in_range (Stored p k) is in range.0

-- The two words of a place, loaded one after the other: the newer one has what the place's words
-- tell in the end.
pub final_place : (job : JobData) (y : LayoutData) (r : Record) (p a b : ℕ) (words : List ℕ) →
    Stands job y words → KnowsStep y r job.steps → p < places_of y →
    Backed job y
    (after (after r (Load (number_of y (Stored p 0))) a) (Load (number_of y (Stored p 1))) b)
    words →
    payload_of (newer_word a b)
    ≡ slice_index (state_after job (landed_step y.form job job.steps p)) p
final_place job y r p a b words stands knows place m =
    let first = m.earlier in
    let k = known_now job y r job.steps first.words first.stands first.earlier knows in
    let low = (facts job y first.words first.stands).root_low in
    let most_a = stamps_most job y first.words p 0 first.stands (place, lit< tt) in
    let most_b = stamps_most job y m.words p 1 m.stands (place, lit< tt) in
    let ea : stamp_of a ≡ stamp_at y first.words p 0 = ap stamp_of first.heard in
    let eb : stamp_of b ≡ stamp_at y m.words p 1 = ap stamp_of m.heard in
    let early : is_late (suc job.steps) a b ≡ false =
    is_early job.steps a b (omega arith) (omega arith) in
    (place_as_heard job y job.steps p a b first.words m.words words first.stands m.stands stands
    first.since m.since place k.0 (let f = k.1 in omega arith) first.heard m.heard early).value

-- ---- fault

-- Once word 0 was heard as s + 1, each request word holds its part of step s + 1, the one that does
-- not agree.
pub final_part : (job : JobData) (y : LayoutData) (r : Record) (s i j found : ℕ) (words : List ℕ) →
    y.form ≡ Compact → Stands job y words → Heard y r Conflict (suc s) → i < y.procs → j < 3 →
    Backed job y (after r (Load (number_of y (Asked i j))) found) words →
    (stamp_of found ≡ suc s) × (payload_of found ≡ part_after job s i j)
final_part job y r s i j found words compact stands heard proc part m =
    let c = conflict_now job y r (suc s) m.words m.earlier heard (λ e. absurd (omega arith)) in
    let e : stamp_of (held y m.words (Asked i j)) ≡ suc s =
    (facts job y m.words m.stands).conflict_asked compact i j proc part
    (λ none. absurd (let g : suc s ≡ 0 = sym c ∙ none in omega arith)) ∙ c in (
      ap stamp_of m.heard ∙ e,
      ap payload_of m.heard ∙ ((m.stands.lawful.asked compact i j proc part).part s e).1,
    )
