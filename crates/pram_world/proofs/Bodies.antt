-- What the code does to its bodies is what the definitions say.
use Rattle.std.proofs.Common.{◌≡◌, ℕ, zero, suc, ◌+◌, ◌<◌, ◌≤◌, List, [], ◌∷◌}
use Rattle.std.proofs.Common.{◌++◌, length, map, slice_get, slice_set, None, Some}
use Rattle.std.proofs.Common.{refl, sym, ap, ap₂, subst, ◌∙◌, inl, inr, arith}
use Rattle.std.proofs.lemmas.List.{map-append, map-set}
use Rattle.std.proofs.lemmas.List.FromFn.{map-range_with_len_more}
use Rattle.std.proofs.lemmas.Option.{slice_get-map, slice_get_past}
use Rattle.std.specs.Option.{option_map}
use Rattle.std.specs.List.{range_with_len}
use Rattle.pram_job.specs.Job.{JobData, IsJob}
use Rattle.pram_words.specs.declared.layout.Form.TheVariants.{Compact}
use Rattle.pram_words.specs.Words.{LayoutData, layout_of}
use Rattle.pram_words.specs.Start.{start_words}
use Rattle.walkx.specs.declared.operation.Op.{Op}
use Rattle.walkx.specs.Operations.{words_after, answer}
use Rattle.walkx.specs.Records.{empty, after}
use Rattle.walkx.specs.Inner.Workers.{WorkerData}
use Rattle.walkx.specs.Serving.{Serves}
use Rattle.walkx.specs.Walk.{HearsAdmitted, ask_of, told, started, come_back}
use Rattle.pram_world.specs.declared.event.Effect.{Effect}
use Rattle.pram_world.specs.declared.event.Event.TheVariants.{Go, Stop, Back}
use Rattle.pram_world.specs.declared.world.Runner.{Runner}
use Rattle.pram_world.specs.declared.world.Runner.TheVariants as runner
use Rattle.pram_world.specs.Inner.Holding.{WorldHolds, IsWorld, AllServe, body_of_runner, world_of}
use Rattle.pram_world.specs.Worlds.{start, Body, walks, stopped, number, WorldData, start_compact}
use Rattle.pram_world.specs.Worlds.{went, replaced, world_after, happens, shown, shown_by, effect_of}
use Rattle.pram_world.specs.Worlds.{nothing}
use Rattle.pram_world.proofs.Cited.{hears_admitted}
use Rattle.pram_world.proofs.Keeping.{holds_start, holds_step, holds_replaced, holds_joined}
use Rattle.pram_world.proofs.Keeping.{stopped_known, started_known, back_known, get_set, get_push}

-- a body as contracts see it
pub body_at : (runners : List Runner) (b : ℕ) (r : Runner) → slice_get runners b ≡ Some r →
    slice_get (map body_of_runner runners) b ≡ Some (body_of_runner r)
body_at runners b r is = slice_get-map body_of_runner runners b ∙ ap (option_map body_of_runner) is

same_kept : (j k : WorkerData) → runner.Walks j ≡ runner.Walks k → j ≡ k
same_kept j k e = cc

not_kept : (n : ℕ) (k : WorkerData) → runner.Walks k ≡ runner.Stopped n → ⊥
not_kept n k e = cc

-- ---- one body replaced, or one more

set_serve : (job : JobData) (y : LayoutData) (runners : List Runner) (b : ℕ) (r : Runner) →
    AllServe job y runners → ((k : WorkerData) → runner.Walks k ≡ r → Serves job y k) →
    AllServe job y (slice_set runners b r)
set_serve job y runners b r all new = λ at k e. elim (get_set runners b at r (runner.Walks k) e) [
  | inl same ↦ new k same
  | inr old ↦ all at k old
]

push_serve : (job : JobData) (y : LayoutData) (runners : List Runner) (r : Runner) →
    AllServe job y runners → ((k : WorkerData) → runner.Walks k ≡ r → Serves job y k) →
    AllServe job y (runners ++ r ∷ [])
push_serve job y runners r all new = λ at k e. elim (get_push runners at r (runner.Walks k) e) [
  | inl same ↦ new k same
  | inr old ↦ all at k old
]

set_world :
    (job : JobData) (y : LayoutData) (words : List ℕ) (runners : List Runner) (b : ℕ) (r : Runner) →
    world_of job y words (slice_set runners b r) ≡ record (world_of job y words runners) {
      bodies = slice_set (map body_of_runner runners) b (body_of_runner r);
    }
set_world job y words runners b r =
    ap (λ (bodies : List Body). record { job = job; layout = y; words = words; bodies = bodies })
    (map-set body_of_runner runners b r)

-- ---- a step

-- what the code of a step comes to
pub record Stepped (job : JobData) (y : LayoutData) (words : List ℕ) (runners : List Runner) (b : ℕ)
    (old : WorkerData) (effect : Effect) (now : List ℕ) (new : WorkerData) : Type 0 where
  pub op : Op
  pub at : slice_get runners b ≡ Some (runner.Walks old)
  pub asked : op ≡ ask_of job y old.walking
  pub wrote : now ≡ words_after words op
  pub shows : effect ≡ effect_of words op
  pub became : new.walking ≡ told job y old.walking (answer words op)
  pub serves : Serves job y new

module _ (job : JobData) (y : LayoutData) (words : List ℕ) (runners : List Runner)
    (b : ℕ) (old : WorkerData) (effect : Effect) (now : List ℕ) (new : WorkerData)
    (s : Stepped job y words runners b old effect now new) where
  pub step_world : world_of job y now (slice_set runners b (runner.Walks new))
      ≡ happens (world_of job y words runners) (Go b)
  step_world =
      let w = old.walking in
      let wrote : now ≡ words_after words (ask_of job y w) =
      s.wrote ∙ ap (words_after words) s.asked in
      let became : new.walking ≡ told job y w (answer words (ask_of job y w)) =
      s.became ∙ ap (λ (op : Op). told job y w (answer words op)) s.asked in
      set_world job y now runners b (runner.Walks new)
      ∙ ap₂ (λ (ws : List ℕ) (body : Body).
      record {
        job = job;
        layout = y;
        words = ws;
        bodies =
            slice_set (map body_of_runner runners) b body;
      })
      wrote (ap walks became)
      ∙ ap (went (world_of job y words runners) b) (sym (body_at runners b (runner.Walks old) s.at))

  pub step_shown : effect ≡ shown (world_of job y words runners) (Go b)
  step_shown = s.shows ∙ ap (effect_of words) s.asked ∙ ap (shown_by (world_of job y words runners))
      (sym (body_at runners b (runner.Walks old) s.at))

  pub step_keeps : IsWorld job y words runners →
      IsWorld job y now (slice_set runners b (runner.Walks new))
  step_keeps h =
      let body = body_at runners b (runner.Walks old) s.at in
      record {
        made = _;
        holds = subst (λ (x : WorldData). WorldHolds x
            (after h.made (ask_of job y old.walking) (answer words (ask_of job y old.walking))))
            (ap (λ o. went (world_of job y words runners) b o) (sym body) ∙ sym step_world)
            (holds_step (world_of job y words runners) h.made b old.walking body h.holds);
        serve = set_serve job y runners b (runner.Walks new) h.serve
            (λ k e. subst (Serves job y) (sym (same_kept k new e)) s.serves);
      }

-- a worker serves, and what it hears is admitted
pub serves_at : (job : JobData) (y : LayoutData) (words : List ℕ)
    (runners : List Runner) (b : ℕ) (k : WorkerData) → IsWorld job y words runners →
    slice_get runners b ≡ Some (runner.Walks k) → Serves job y k
serves_at job y words runners b k h at = h.serve b k at

pub hears_at : (job : JobData) (y : LayoutData) (words : List ℕ)
    (runners : List Runner) (b : ℕ) (k : WorkerData) (found : ℕ) → IsWorld job y words runners →
    slice_get runners b ≡ Some (runner.Walks k) →
    found ≡ answer words (ask_of job y k.walking) →
    HearsAdmitted job y (ask_of job y k.walking) found
hears_at job y words runners b k found h at is =
    let known = (h.holds).known b k.walking (body_at runners b (runner.Walks k) at) in
    subst (HearsAdmitted job y (ask_of job y k.walking)) (sym is)
    (hears_admitted job y words k.walking (h.holds).stands known.1)

-- ---- stopped, come back, and twinned

pub number_below : (job : JobData) (y : LayoutData) (words : List ℕ) (runners : List Runner)
    (b : ℕ) (r : Runner) → IsWorld job y words runners → slice_get runners b ≡ Some r →
    number (body_of_runner r) < y.workers
number_below job y words runners b r h at =
    (h.holds).numbers b (body_of_runner r) (body_at runners b r at)

pub stop_keeps : (job : JobData) (y : LayoutData) (words : List ℕ)
    (runners : List Runner) (b n : ℕ) → IsWorld job y words runners → n < y.workers →
    IsWorld job y words (slice_set runners b (runner.Stopped n))
stop_keeps job y words runners b n h below = record {
  made = h.made;
  holds = subst (λ (x : WorldData). WorldHolds x h.made)
      (sym (set_world job y words runners b (runner.Stopped n)))
      (holds_replaced (world_of job y words runners) h.made b
      (stopped n) h.holds (stopped_known (world_of job y words runners) n below));
  serve = set_serve job y runners b (runner.Stopped n) h.serve (λ k e. absurd (not_kept n k e));
}

pub back_keeps : (job : JobData) (y : LayoutData) (words : List ℕ) (runners : List Runner) (b n : ℕ)
    (k : WorkerData) → IsWorld job y words runners → n < y.workers → k.walking ≡ come_back n →
    Serves job y k → IsWorld job y words (slice_set runners b (runner.Walks k))
back_keeps job y words runners b n k h below is serves = record {
  made = h.made;
  holds = subst (λ (x : WorldData). WorldHolds x h.made) (sym (set_world job y words runners b
      (runner.Walks k) ∙ ap (λ w. record (world_of job y words runners) {
        bodies = slice_set (map body_of_runner runners) b (walks w);
      }) is))
      (holds_replaced (world_of job y words runners) h.made b
      (walks (come_back n)) h.holds (back_known (world_of job y words runners) n 0 below));
  serve = set_serve job y runners b
      (runner.Walks k) h.serve (λ j e. subst (Serves job y) (sym (same_kept j k e)) serves);
}

pub twin_world : (job : JobData) (y : LayoutData)
    (words : List ℕ) (runners : List Runner) (n : ℕ) (k : WorkerData) → k.walking ≡ started n →
    world_of job y words (runners ++ runner.Walks k ∷ []) ≡ world_after (world_of job y words runners) (start n 0)
twin_world job y words runners n k is =
    ap (λ (bodies : List Body). record { job = job; layout = y; words = words; bodies = bodies })
    (map-append body_of_runner runners (runner.Walks k ∷ [])
    ∙ ap (λ w. map body_of_runner runners ++ walks w ∷ []) is)

pub twin_keeps : (job : JobData) (y : LayoutData) (words : List ℕ) (runners : List Runner)
    (n : ℕ) (k : WorkerData) → IsWorld job y words runners → n < y.workers → k.walking ≡ started n →
    Serves job y k → IsWorld job y words (runners ++ runner.Walks k ∷ [])
twin_keeps job y words runners n k h below is serves = record {
  made = h.made;
  holds = subst (λ (x : WorldData). WorldHolds x h.made)
      (sym (twin_world job y words runners n k is))
      (holds_joined (world_of job y words runners) h.made (walks (started n)) h.holds
      (started_known (world_of job y words runners) n 0 below));
  serve = push_serve job y runners
      (runner.Walks k) h.serve (λ j e. subst (Serves job y) (sym (same_kept j k e)) serves);
}

pub stop_world : (job : JobData) (y : LayoutData) (words : List ℕ) (runners : List Runner)
    (b n : ℕ) (r : Runner) → slice_get runners b ≡ Some r → n ≡ number (body_of_runner r) →
    world_of job y words (slice_set runners b (runner.Stopped n))
    ≡ happens (world_of job y words runners) (Stop b)
stop_world job y words runners b n r at is =
    set_world job y words runners b (runner.Stopped n)
    ∙ ap (λ m. record (world_of job y words runners) {
      bodies = slice_set (map body_of_runner runners) b (stopped m);
    }) is
    ∙ ap (replaced (world_of job y words runners) b stopped) (sym (body_at runners b r at))

pub back_world : (job : JobData) (y : LayoutData)
    (words : List ℕ) (runners : List Runner) (b n : ℕ) (k : WorkerData) (r : Runner) →
    slice_get runners b ≡ Some r → n ≡ number (body_of_runner r) → k.walking ≡ come_back n →
    world_of job y words (slice_set runners b (runner.Walks k))
    ≡ happens (world_of job y words runners) (Back b)
back_world job y words runners b n k r at is walks_is =
    set_world job y words runners b (runner.Walks k)
    ∙ ap (λ w. record (world_of job y words runners) {
      bodies = slice_set (map body_of_runner runners) b (walks w);
    }) (walks_is ∙ ap come_back is)
    ∙ ap (replaced (world_of job y words runners) b (λ m. walks (come_back m)))
    (sym (body_at runners b r at))

-- no body has the number
pub no_body : (runners : List Runner) (b : ℕ) → length runners ≤ b →
    slice_get (map body_of_runner runners) b ≡ None
no_body runners b past =
    slice_get-map body_of_runner runners b
    ∙ ap (option_map body_of_runner) (slice_get_past runners b past)

-- a stopped body stays as it is
pub set_same : {X : Type 0} (xs : List X) (b : ℕ) (x : X) →
    slice_get xs b ≡ Some x → slice_set xs b x ≡ xs
set_same [] b x e = refl
set_same (z ∷ zs) zero x e = let f : z ≡ x = cc in ap (λ v. v ∷ zs) (sym f)
set_same (z ∷ zs) (suc b) x e = ap (λ vs. z ∷ vs) (set_same zs b x e)

pub still_world : (job : JobData) (y : LayoutData) (words : List ℕ) (runners : List Runner)
    (b n : ℕ) (r : Runner) → slice_get runners b ≡ Some r → r ≡ runner.Stopped n →
    world_of job y words (slice_set runners b r) ≡ happens (world_of job y words runners) (Go b)
still_world job y words runners b n r at is =
    ap (world_of job y words) (set_same runners b r at) ∙ ap (went (world_of job y words runners) b)
    (sym (body_at runners b r at ∙ ap (λ x. Some (body_of_runner x)) is))

pub still_shown : (job : JobData) (y : LayoutData) (words : List ℕ) (runners : List Runner)
    (b n : ℕ) (r : Runner) → slice_get runners b ≡ Some r → r ≡ runner.Stopped n →
    nothing ≡ shown (world_of job y words runners) (Go b)
still_shown job y words runners b n r at is = ap (shown_by (world_of job y words runners))
    (sym (body_at runners b r at ∙ ap (λ x. Some (body_of_runner x)) is))

-- ---- the start

pub none_serve : (job : JobData) (y : LayoutData) → AllServe job y []
none_serve job y at k e = absurd (cc)

-- one more worker, newly started
pub starts_serve : (job : JobData) (y : LayoutData) (runners now : List Runner) (k : WorkerData) →
    AllServe job y runners → now ≡ runners ++ runner.Walks k ∷ [] →
    Serves job y k → AllServe job y now
starts_serve job y runners now k all is serves =
    subst (AllServe job y) (sym is)
    (push_serve job y runners (runner.Walks k) all
    (λ j e. subst (Serves job y) (sym (same_kept j k e)) serves))

pub starts_bodies : (runners now : List Runner) (k : WorkerData) (n : ℕ) →
    map body_of_runner runners ≡ map (λ w. walks (started w)) (range_with_len 0 n) →
    now ≡ runners ++ runner.Walks k ∷ [] → k.walking ≡ started n →
    map body_of_runner now ≡ map (λ w. walks (started w)) (range_with_len 0 (n + 1))
starts_bodies runners now k n bodies is started_is =
    ap (map body_of_runner) is ∙ map-append body_of_runner runners (runner.Walks k ∷ [])
    ∙ ap₂ (λ xs w. xs ++ walks w ∷ []) bodies started_is
    ∙ sym (map-range_with_len_more (λ (w : ℕ). walks (started w)) 0 n n (omega arith))

pub start_world : (job : JobData) (y : LayoutData) (workers : ℕ) (words : List ℕ)
    (runners : List Runner) → y ≡ layout_of job Compact workers → words ≡ start_words y job →
    map body_of_runner runners ≡ map (λ w. walks (started w)) (range_with_len 0 workers) →
    world_of job y words runners ≡ start_compact job workers
start_world job y workers words runners is words_is bodies =
    ap₂ (λ ws (bs : List Body). record { job = job; layout = y; words = ws; bodies = bs }) words_is
    bodies ∙ ap (λ (z : LayoutData). record {
      job = job;
      layout = z;
      words = start_words z job;
      bodies = map (λ w. walks (started w)) (range_with_len 0 workers);
    }) is

pub start_is_world : (job : JobData) (y : LayoutData)
    (workers : ℕ) (words : List ℕ) (runners : List Runner) → IsJob job →
    1 ≤ workers → workers ≤ 64 → y ≡ layout_of job Compact workers → words ≡ start_words y job →
    map body_of_runner runners ≡ map (λ w. walks (started w)) (range_with_len 0 workers) →
    AllServe job y runners → IsWorld job y words runners
start_is_world job y workers words runners limits some most is words_is bodies serve = record {
  made = empty;
  holds = subst (λ (s : WorldData). WorldHolds s empty)
      (sym (start_world job y workers words runners is words_is bodies))
      (holds_start job workers limits some most);
  serve = serve;
}
