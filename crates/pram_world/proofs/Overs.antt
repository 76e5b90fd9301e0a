-- Bodies that are not going: they stay, and one that is over tells how the job ended.
use Rattle.std.proofs.Common.{◌≡◌, ◌≢◌, ◌⊎◌, ℕ, ◌*◌, false, List, slice_get, slice_set}
use Rattle.std.proofs.Common.{Option, Some, None, refl, sym, ap, ap₂, ◌∙◌, inl, inr, arith}
use Rattle.std.specs.Option.{is_none}
use Rattle.pram_job.specs.Job.{JobData}
use Rattle.pram_words.specs.Words.{LayoutData}
use Rattle.pram_step.specs.declared.answer.RunAnswer.TheVariants.{Unfinished}
use Rattle.walkx.specs.declared.operation.Ended.{Ended}
use Rattle.walkx.specs.declared.operation.Ended.TheVariants as ended
use Rattle.walkx.specs.declared.operation.Op.{Op}
use Rattle.walkx.specs.declared.operation.Op.TheVariants.{Over}
use Rattle.walkx.specs.Doing.{Doing}
use Rattle.walkx.specs.Doing as doing
use Rattle.walkx.specs.Operations.{words_after, answer}
use Rattle.walkx.specs.Records.{Record, Knows}
use Rattle.walkx.specs.Walk.{Walking, ask_of, told, next_op, rest_of, end_of}
use Rattle.lawful_walk.specs.Board.{root, conflict}
use Rattle.pram_world.specs.declared.event.Event.TheVariants.{Go}
use Rattle.pram_world.specs.Inner.Holding.{Fitting, WorldHolds}
use Rattle.pram_world.specs.Outcomes.{IsWorldOutcome}
use Rattle.pram_world.specs.Worlds.{Body, walks, stopped, WorldData, Walks, body_goes, going}
use Rattle.pram_world.specs.Worlds.{went, shown, shown_by, effect_of, happens, nothing}
use Rattle.pram_world.proofs.Answering.{root_most}
use Rattle.pram_world.proofs.Bodies.{set_same}
use Rattle.pram_world.proofs.Cited.{told_still, ended_root, ended_conflict}

-- ---- a worker that is over

over_by : (d : Doing) → is_none (end_of d) ≡ false → (e : Ended) × (d ≡ doing.Over e)
over_by doing.Back e = absurd (cc)
over_by doing.Begin e = absurd (cc)
over_by (doing.Turn q) e = absurd (cc)
over_by (doing.Part q rank) e = absurd (cc)
over_by (doing.Over x) e = (x, refl)

asks_over : (job : JobData) (y : LayoutData) (w : Walking) (e : Ended) →
    w.now ≡ doing.Over e → ask_of job y w ≡ Over e
asks_over job y w e is = ap (λ (d : Doing). next_op d (rest_of job y w)) is

-- ---- its step changes nothing

same_step : (s : WorldData) (b : ℕ) (w v : Walking) (op : Op) (e : Ended) →
    op ≡ Over e → v ≡ w → Walks s b w →
    record s { words = words_after s.words op; bodies = slice_set s.bodies b (walks v) } ≡ s
same_step s b w v op e is same at =
    ap₂ (λ (o : Op) (u : Walking). record s {
      words = words_after s.words o;
      bodies = slice_set s.bodies b (walks u);
    }) is same
    ∙ ap (λ (bs : List Body). record s { bodies = bs }) (set_same s.bodies b (walks w) at)

pub idle_went : (s : WorldData) (b : ℕ) (o : Option Body) → slice_get s.bodies b ≡ o →
    body_goes o ≡ false → went s b o ≡ s
idle_went s b None is still = refl
idle_went s b (Some (stopped n)) is still = refl
idle_went s b (Some (walks w)) is still =
    let e = over_by w.now still in
    same_step s b w (told s.job s.layout w (answer s.words (ask_of s.job s.layout w)))
    (ask_of s.job s.layout w) e.0 (asks_over s.job s.layout w e.0 e.1)
    (told_still s.job s.layout w (answer s.words (ask_of s.job s.layout w)) e.0 e.1) is

idle_shown : (s : WorldData) (b : ℕ) (o : Option Body) → body_goes o ≡ false →
    shown_by s o ≡ nothing
idle_shown s b None still = refl
idle_shown s b (Some (stopped n)) still = refl
idle_shown s b (Some (walks w)) still =
    let e = over_by w.now still in ap (effect_of s.words) (asks_over s.job s.layout w e.0 e.1)

-- where a body is not going, its step changes nothing and shows nothing
pub idle : (s : WorldData) (b : ℕ) → going s b ≡ false →
    (happens s (Go b) ≡ s) × (shown s (Go b) ≡ nothing)
idle s b still =
    (idle_went s b (slice_get s.bodies b) refl still, idle_shown s b (slice_get s.bodies b) still)

-- ---- how it ended

ends_as : (s : WorldData) (made : Record) (w : Walking) (e : Ended) → WorldHolds s made →
    Knows s.job s.layout made w → Fitting s.job s.layout w → w.now ≡ doing.Over e →
    (conflict s.layout s.words ≢ 0) ⊎ (root s.layout s.words ≡ 3 * s.job.steps)
ends_as s made w ended.Done h knows fits is =
    let low = ended_root s.job s.layout made w s.words h.stands h.backed knows fits is in
    let high = root_most s.job s.layout s.words h.stands in
    inr (omega arith)
ends_as s made w (ended.Conflict u) h knows fits is =
    inl (ended_conflict s.job s.layout made w u s.words h.stands h.backed knows fits is)

-- Once a worker is over, word 0 is not 0, or the root shows the last step.
over_tells : (s : WorldData) (made : Record) (b : ℕ) (w : Walking) → WorldHolds s made →
    Walks s b w →
    going s b ≡ false → (conflict s.layout s.words ≢ 0) ⊎ (root s.layout s.words ≡ 3 * s.job.steps)
over_tells s made b w h at still =
    let e = over_by w.now (sym (ap body_goes at) ∙ still) in
    let k = h.known b w at in
    ends_as s made w e.0 h k.0 k.1 e.1

-- so the outcome is not that the run is unfinished
pub over_finished : (s : WorldData) (made : Record) (b : ℕ) (w : Walking) (t : ℕ) →
    WorldHolds s made →
    Walks s b w → going s b ≡ false → IsWorldOutcome s (Unfinished t) → ⊥
over_finished s made b w t h at still outcome = elim (over_tells s made b w h at still) [
  | inl some ↦ some outcome.0
  | inr last ↦ outcome.1 last
]
