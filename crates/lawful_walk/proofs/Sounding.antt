-- What a sound record promises: each part of it was borne out by standing words.
use Rattle.std.proofs.Common.{◌≡◌, ◌≢◌, ℕ, ◌*◌, ◌<◌, List, [], ◌∷◌, refl, subst, inl, inr}
use Rattle.pram_job.specs.Job.{JobData}
use Rattle.pram_words.specs.declared.words.Word.TheVariants.{Conflict}
use Rattle.pram_words.specs.Words.{LayoutData, number_of}
use Rattle.walkx.specs.declared.operation.Ended.TheVariants as ended
use Rattle.walkx.specs.declared.operation.Op.{Op}
use Rattle.walkx.specs.declared.operation.Op.TheVariants.{Load}
use Rattle.walkx.specs.Doing as doing
use Rattle.walkx.specs.Bound.{history_of, IsHeard}
use Rattle.walkx.specs.Records.{Record, empty, after, both, Has, Knows}
use Rattle.walkx.specs.Walk.{Walking, Fits}
use Rattle.walkx.proofs.BoundSteps.{own_steps as bound}
use Rattle.walkx.proofs.Ends.{heard_root, heard_both}
use Rattle.walkx.proofs.Knowing.{has_newest}
use Rattle.lawful_walk.specs.Moments.{WasBacked, Sound}
use Rattle.lawful_walk.specs.Seen.{Heard}
use Rattle.lawful_walk.specs.WalkLaws.{BackedRecordsAreSound, KnownStepsAreReached}
use Rattle.lawful_walk.specs.WalkLaws.{RecordedStepsAreBounded, EndsAreTrue, ReadsAreLawful}
use Rattle.lawful_walk.specs.WalkLaws.{ProgressIsTrue, FinalValuesAreHeld, ConflictRequestsAreHeld}
use Rattle.lawful_walk.specs.Walks.{DoneWell, IsConflict}
use Rattle.lawful_walk.proofs.Knowing.{known_now}
use Rattle.lawful_walk.proofs.Reading.{read_is_lawful, loads_few}
use Rattle.lawful_walk.proofs.Bounding.{backed_is_heard}
use Rattle.lawful_walk.proofs.Finals.{final_place, final_part}
use Rattle.lawful_walk.proofs.Ending.{progress_well, over_heard, both_shows, heard_conflict}

-- a record that the words bear out is sound
pub sound_of : BackedRecordsAreSound
sound_of job y empty words stands backed = tt
sound_of job y (after r op found) words stands backed =
    record { words = words; stands = stands; backed = backed }
sound_of job y (both r s) words stands backed =
    (sound_of job y r words stands backed.0, sound_of job y s words stands backed.1)

-- a part of a record that has these steps
pub record Part (job : JobData) (y : LayoutData) (es : List (Op × ℕ)) : Type 0 where
  pub part : Record
  pub was : WasBacked job y part
  pub has : Has part es

-- steps that stand in a row stand in one part
pub sound_part : (job : JobData) (y : LayoutData) (r : Record) (e : Op × ℕ) (es : List (Op × ℕ)) →
    Sound job y r → Has r (e ∷ es) → Part job y (e ∷ es)
sound_part job y empty e es sound has = absurd has
sound_part job y (after r op found) e es sound has =
    record { part = after r op found; was = sound; has = has }
sound_part job y (both r s) e es sound has = elim has [
  | inl h ↦ sound_part job y r e es sound.0 h
  | inr h ↦ sound_part job y s e es sound.1 h
]

-- what it shows or knows is reached
pub sound_known : KnownStepsAreReached
sound_known job y r t sound (inl (inl s)) =
    let h = s.2 in
    let p = sound_part job y r (h.op, s.0) [] sound h.has in
    let w = p.was in
    (known_now job y p.part t w.words w.stands w.backed
    (inl (inl (s.0, s.1, record { op = h.op; hears = h.hears; has = p.has })))).0
sound_known job y r t sound (inl (inr (inl s))) =
    let h = s.2 in
    let p = sound_part job y r (h.next, s.0) ((h.op, 3 * t) ∷ []) sound h.has in
    let w = p.was in
    (known_now job y p.part t w.words w.stands w.backed (inl (inr (inl (
      s.0,
      s.1,
      record { op = h.op; next = h.next; hears = h.hears; hears_next = h.hears_next; has = p.has },
    ))))).0
sound_known job y r t sound (inl (inr (inr s))) =
    let h = s.1 in
    let p = sound_part job y r (h.op, 0) [] sound h.has in
    let w = p.was in
    (known_now job y p.part t w.words w.stands w.backed
    (inl (inr (inr (s.0, record { op = h.op; hears = h.hears; has = p.has }))))).0
sound_known job y r t sound (inr s) =
    let h = s.5 in
    let p = sound_part job y r (h.op, s.2) [] sound h.has in
    let w = p.was in
    (known_now job y p.part t w.words w.stands w.backed
    (inr (s.0, s.1, s.2, s.3, s.4, record { op = h.op; hears = h.hears; has = p.has }))).0

-- word 0, heard as not 0, is the step of the first conflict
pub sound_conflict : (job : JobData) (y : LayoutData) (r : Record) (u : ℕ) → Sound job y r →
    Heard y r Conflict u → u ≢ 0 → IsConflict job u
sound_conflict job y r u sound h some =
    let p = sound_part job y r (h.op, u) [] sound h.has in
    let w = p.was in
    heard_conflict job y p.part u w.words w.stands w.backed
    (record { op = h.op; hears = h.hears; has = p.has }) some

-- a worker that is over
sound_done : (job : JobData) (y : LayoutData) (r : Record) (w : Walking) → Sound job y r →
    Fits job y w → Knows job y r w → w.now ≡ doing.Over ended.Done → DoneWell job y r
sound_done job y r w sound well knows is =
    let has : Has r (heard_both y (3 * job.steps) 0) =
    subst (λ (es : List (Op × ℕ)). Has r es) (over_heard job y w ended.Done well is) knows.script in
    let shows = both_shows y r job.steps has in
    record {
      shows = shows;
      heard = record { op = _; next = _; hears = refl; hears_next = refl; has = has };
      reached = sound_known job y r job.steps sound (inl shows);
    }

sound_stopped : (job : JobData) (y : LayoutData) (r : Record) (w : Walking) (u : ℕ) →
    Sound job y r → Fits job y w → Knows job y r w →
    w.now ≡ doing.Over (ended.Conflict u) → Heard y r Conflict u × IsConflict job u
sound_stopped job y r w u sound well knows is =
    let h = over_heard job y w (ended.Conflict u) well is in
    let has : Has r (heard_both y h.1.0 u) =
    subst (λ (es : List (Op × ℕ)). Has r es) h.1.1 knows.script in
    let heard : Heard y r Conflict u = record {
      op = _;
      hears = refl;
      has = has_newest r (Load (number_of y Conflict), u) (heard_root y h.1.0) has;
    } in
    (heard, sound_conflict job y r u sound heard h.0)

pub sound_ends : EndsAreTrue
sound_ends job y r w sound fits knows =
    (sound_done job y r w sound fits knows, λ u. sound_stopped job y r w u sound fits knows)

-- a read
pub was_read : ReadsAreLawful
was_read job y before c step value answers cell is was = (
  read_is_lawful job y before c step value answers was.words cell is was.stands was.backed,
  loads_few y c answers,
)

-- progress, the loads of memory and those of fault: a record that ends with a load is sound as a
-- whole
pub was_progress : ProgressIsTrue
was_progress job y before r u was = progress_well job y before r u was.words was.stands was.backed

pub was_place : FinalValuesAreHeld
was_place job y r p a b knows place was =
    final_place job y r p a b was.words was.stands knows place was.backed

pub was_part : ConflictRequestsAreHeld
was_part job y r s i j found compact heard proc part was =
    final_part job y r s i j found was.words compact was.stands heard proc part was.backed

-- what the own-step bound asks of any steps of a sound record
pub sound_heard : (job : JobData) (y : LayoutData) (w : ℕ) (r : Record) (history : List (Op × ℕ)) →
    w < y.workers → Sound job y r → Has r history → IsHeard job y w history
sound_heard job y w r [] worker sound has = tt
sound_heard job y w r (e ∷ es) worker sound has =
    let p = sound_part job y r e es sound has in
    let was = p.was in
    backed_is_heard job y w p.part (e ∷ es) was.words worker was.backed p.has

-- So a worker that is going has made fewer than the bound.
pub sound_steps : RecordedStepsAreBounded
sound_steps job y r w answers is fits sound has going =
    bound.0 job y w is fits answers going
    (sound_heard job y w.number r (history_of job y w answers) fits.number sound has)
