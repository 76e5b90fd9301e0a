-- Every act keeps what holds of a run.
use Rattle.std.proofs.Common.{◌≡◌, ◌≢◌, ℕ, ◌<◌, ◌≤◌, Bool, if◌then◌else◌, List, [], ◌∷◌, slice_get}
use Rattle.std.proofs.Common.{Option, Some, None, refl, sym, subst, ◌∙◌, inl, inr, arith}
use Rattle.std.proofs.lemmas.Bool.{cases_Bool}
use Rattle.std.specs.Option.{is_none}
use Rattle.pram_job.specs.Job.{JobData, IsJob}
use Rattle.pram_words.specs.declared.layout.Form.{Form}
use Rattle.pram_words.specs.Words.{IsGrain, grain_of, LayoutData, layout_of}
use Rattle.walkx.specs.declared.operation.Ended.{Ended}
use Rattle.walkx.specs.declared.operation.Ended.TheVariants as ended
use Rattle.walkx.specs.Doing as doing
use Rattle.walkx.specs.Operations.{answer}
use Rattle.walkx.specs.Records.{Record, after}
use Rattle.walkx.specs.Walk.{Walking, ask_of, end_of, started, come_back, remembering}
use Rattle.lawful_walk.specs.Board.{Grows}
use Rattle.lawful_walk.specs.Moments.{Backed}
use Rattle.lawful_walk.proofs.Knowing.{conflict_now}
use Rattle.lawful_walk.proofs.Moments.{same}
use Rattle.lawful_walk.proofs.Sounding.{sound_of, sound_ends}
use Rattle.lawful_walk.proofs.Staying.{loads_keep, records_outlive}
use Rattle.pram_world.specs.Inner.Holding.{WorldHolds}
use Rattle.pram_world.specs.Interleavings.{Interleaves, IsTrueEnd}
use Rattle.pram_world.specs.Laws.{EveryInterleaving, IsLawfulRun}
use Rattle.pram_world.specs.Runs.{Run, run_begun, noted_by, noted, observed, acted, all_acted}
use Rattle.pram_world.specs.Runs.{StartFits, StartsFit}
use Rattle.pram_world.specs.Worlds.{Act, go, stop, back, start, load, Body, walks, stopped, number}
use Rattle.pram_world.specs.Worlds.{WorldData, went, replaced, world_after, Walks}
use Rattle.pram_world.proofs.Answering.{root_most}
use Rattle.pram_world.proofs.Cited.{moves, ended_root}
use Rattle.pram_world.proofs.Counting.{board_after}
use Rattle.pram_world.proofs.Keeping.{holds_begun, holds_step, holds_replaced, holds_joined}
use Rattle.pram_world.proofs.Keeping.{stopped_known, started_known, back_known}
use Rattle.pram_world.proofs.Keeping.{stale_changes_nothing}
use Rattle.pram_world.proofs.Overs.{idle_went}
use Rattle.pram_world.proofs.Showing.{shows_machine}

-- ---- the record of all atomic steps

-- the record is kept by a step of a body that is going, and stays at one of a body that is not
went_noted : (s : WorldData) (made : Record) (b : ℕ) (o : Option Body) → slice_get s.bodies b ≡ o →
    WorldHolds s made → WorldHolds (went s b o) (noted_by s o made)
went_noted s made b None is h = h
went_noted s made b (Some (stopped n)) is h = h
went_noted s made b (Some (walks w)) is h =
    let longer = after made (ask_of s.job s.layout w) (answer s.words (ask_of s.job s.layout w)) in
    elim (cases_Bool (is_none (end_of w.now))) [
      | inl goes ↦
          subst (λ (v : Bool). WorldHolds (went s b (Some (walks w))) (if v then longer else made))
          (sym goes) (holds_step s made b w is h)
      | inr over ↦ subst
          (λ (v : Bool). WorldHolds (went s b (Some (walks w))) (if v then longer else made))
          (sym over)
          (subst (λ (x : WorldData). WorldHolds x made)
          (sym (idle_went s b (Some (walks w)) is over)) h)
    ]

stop_noted : (s : WorldData) (made : Record) (b : ℕ) (o : Option Body) → slice_get s.bodies b ≡ o →
    WorldHolds s made → WorldHolds (replaced s b stopped o) made
stop_noted s made b None is h = h
stop_noted s made b (Some body) is h = holds_replaced s made b (stopped (number body)) h
    (stopped_known s (number body) (h.numbers b body is))

back_noted : (s : WorldData) (made : Record) (b size : ℕ) (o : Option Body) →
    slice_get s.bodies b ≡ o → WorldHolds s made →
    WorldHolds (replaced s b (λ n. walks (remembering size (come_back n))) o) made
back_noted s made b size None is h = h
back_noted s made b size (Some body) is h =
    holds_replaced s made b (walks (remembering size (come_back (number body)))) h
    (back_known s (number body) size (h.numbers b body is))

pub noted_holds : (s : WorldData) (made : Record) (a : Act) → StartFits s.layout.workers a →
    WorldHolds s made → WorldHolds (world_after s a) (noted s a made)
noted_holds s made (go b) fits h = went_noted s made b (slice_get s.bodies b) refl h
noted_holds s made (stop b) fits h = stop_noted s made b (slice_get s.bodies b) refl h
noted_holds s made (back b size) fits h = back_noted s made b size (slice_get s.bodies b) refl h
noted_holds s made (start w size) fits h =
    holds_joined s made (walks (remembering size (started w))) h (started_known s w size fits)
noted_holds s made (load k) fits h = h

-- ---- the words grow

went_grows : (s : WorldData) (made : Record) (b : ℕ) (o : Option Body) → slice_get s.bodies b ≡ o →
    WorldHolds s made → Grows s.layout s.words (went s b o).words
went_grows s made b None is h = same s.layout s.words
went_grows s made b (Some (stopped n)) is h = same s.layout s.words
went_grows s made b (Some (walks w)) is h =
    let k = h.known b w is in
    ((moves s.job s.layout made w s.words h.stands h.backed k.0 k.1).goes).keeps.grows

replaced_grows : (s : WorldData) (b : ℕ) (new : ℕ → Body) (o : Option Body) →
    Grows s.layout s.words (replaced s b new o).words
replaced_grows s b new None = same s.layout s.words
replaced_grows s b new (Some body) = same s.layout s.words

pub act_grows : (s : WorldData) (made : Record) (a : Act) → WorldHolds s made →
    Grows s.layout s.words (world_after s a).words
act_grows s made (go b) h = went_grows s made b (slice_get s.bodies b) refl h
act_grows s made (stop b) h = replaced_grows s b stopped (slice_get s.bodies b)
act_grows s made (back b size) h =
    replaced_grows s b (λ n. walks (remembering size (come_back n))) (slice_get s.bodies b)
act_grows s made (start w size) h = same s.layout s.words
act_grows s made (load k) h = same s.layout s.words

-- ---- ends

true_end : (s : WorldData) (made : Record) (w : Walking) (e : Ended) (b : ℕ) → WorldHolds s made →
    Walks s b w → w.now ≡ doing.Over e → IsTrueEnd s.job s.layout s.words e
true_end s made w ended.Done b h at is =
    let k = h.known b w at in
    let low = ended_root s.job s.layout made w s.words h.stands h.backed k.0 k.1 is in
    let high = root_most s.job s.layout s.words h.stands in (
      omega arith,
      ((sound_ends s.job s.layout made w
          (sound_of s.job s.layout made s.words h.stands h.backed) k.1 k.0).0 is).reached,
    )
true_end s made w (ended.Conflict u) b h at is =
    let k = h.known b w at in
    let c = (sound_ends s.job s.layout made w
    (sound_of s.job s.layout made s.words h.stands h.backed) k.1 k.0).1 u is in
    let step = (c.1).step in
    let first = (((c.1).is).first).step in
    let some : u ≢ 0 = λ e. absurd (omega arith) in
    (conflict_now s.job s.layout made u s.words h.backed c.0 some, c.1)

-- ---- a world that holds

pub interleaves : (s : WorldData) (made : Record) → WorldHolds s made → Interleaves s made
interleaves s made h = record {
  lawful = h.stands;
  backed = h.backed;
  known = h.known;
  shows = shows_machine s.job s.layout s.words h.stands;
  grows = λ a. act_grows s made a h;
  stale = λ a. stale_changes_nothing s a (record { made = made; holds = h });
  ends = λ b w e at is. true_end s made w e b h at is;
}

-- ---- a run

pub record RunHolds (job : JobData) (y : LayoutData) (r : Run) : Type 0 where
  pub job_stays : r.world.job ≡ job
  pub board_stays : r.world.layout ≡ y
  pub holds : WorldHolds r.world r.made
  pub observed : Backed r.world.job r.world.layout r.loads r.world.words

-- a record of loads outlives an act, and keeps what is loaded
outlives : (s : WorldData) (made loads : Record) (a : Act) →
    WorldHolds s made → Backed s.job s.layout loads s.words →
    Backed (world_after s a).job (world_after s a).layout loads (world_after s a).words
outlives s made loads a h backed =
    let now = world_after s a in
    let board = board_after s a in
    subst (λ (y : LayoutData). Backed now.job y loads now.words) (sym board.1)
    (subst (λ (job : JobData). Backed job s.layout loads now.words) (sym board.0)
    (records_outlive s.job s.layout loads s.words now.words backed (act_grows s made a h)).0)

observed_on : (s : WorldData) (made loads : Record) (a : Act) →
    WorldHolds s made → Backed s.job s.layout loads s.words →
    Backed (world_after s a).job (world_after s a).layout (observed s a loads)
    (world_after s a).words
observed_on s made loads (go b) h backed = outlives s made loads (go b) h backed
observed_on s made loads (stop b) h backed = outlives s made loads (stop b) h backed
observed_on s made loads (back b size) h backed = outlives s made loads (back b size) h backed
observed_on s made loads (start w size) h backed = backed
observed_on s made loads (load k) h backed =
    loads_keep s.job s.layout loads k s.words h.stands backed

pub acted_holds : (job : JobData) (y : LayoutData) (r : Run) (a : Act) → StartFits y.workers a →
    RunHolds job y r → RunHolds job y (acted r a)
acted_holds job y r a fits h = record {
  job_stays = (board_after r.world a).0 ∙ h.job_stays;
  board_stays = (board_after r.world a).1 ∙ h.board_stays;
  holds = noted_holds r.world r.made a
      (subst (λ (z : LayoutData). StartFits z.workers a) (sym h.board_stays) fits) h.holds;
  observed = observed_on r.world r.made r.loads a h.holds h.observed;
}

pub all_hold : (job : JobData) (y : LayoutData) (r : Run) (acts : List Act) →
    StartsFit y.workers acts → RunHolds job y r → RunHolds job y (all_acted r acts)
all_hold job y r [] fits h = h
all_hold job y r (a ∷ acts) fits h =
    all_hold job y (acted r a) acts fits.1 (acted_holds job y r a fits.0 h)

pub begun_holds : (job : JobData) (form : Form) (workers : ℕ) → IsJob job →
    IsGrain (grain_of form) → 1 ≤ workers → workers ≤ 64 →
    RunHolds job (layout_of job form workers) (run_begun job form workers)
begun_holds job form workers limits block some most = record {
  job_stays = refl;
  board_stays = refl;
  holds = holds_begun job form workers limits block some most;
  observed = tt;
}

pub lawful_run : (job : JobData) (form : Form) (workers : ℕ) (r : Run) →
    RunHolds job (layout_of job form workers) r → IsLawfulRun job form workers r
lawful_run job form workers r h = record {
  job_stays = h.job_stays;
  board_stays = h.board_stays;
  interleaves = interleaves _ _ h.holds;
  observed = h.observed;
}

pub every_interleaving : EveryInterleaving
every_interleaving job form workers acts limits block some most fits =
    let begun = begun_holds job form workers limits block some most in
    lawful_run job form workers (all_acted (run_begun job form workers) acts)
    (all_hold job (layout_of job form workers) (run_begun job form workers) acts fits begun)
