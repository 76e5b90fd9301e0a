-- The phases of bodies are those of their job.
use Rattle.std.proofs.Common.{arith, ◌≡◌, ℕ, slice_get, Option, Some, None, refl, subst}
use Rattle.std.specs.Option.{option_map}
use Rattle.pram_job.specs.Job.{JobData, IsJob}
use Rattle.pram_words.specs.Words.{LayoutData}
use Rattle.walkx.specs.Activities.{activity_of}
use Rattle.walkx.specs.Doing.{Doing}
use Rattle.walkx.specs.Doing as doing
use Rattle.walkx.specs.Walk.{IsPhase}
use Rattle.pram_world.specs.declared.event.Standing.{Standing}
use Rattle.pram_world.specs.Interleavings.{IsInterleaved}
use Rattle.pram_world.specs.Standings.{standing_of}
use Rattle.pram_world.specs.Worlds.{Body, walks, stopped, WorldData}
use Rattle.page_core.specs.Scenes.{ActivityFits, PhaseFits}

fits_activity : (job : JobData) (y : LayoutData) (d : Doing) → IsJob job →
    IsPhase job y d → ActivityFits (activity_of d)
fits_activity job y doing.Back limits phase = tt
fits_activity job y doing.Begin limits phase = tt
fits_activity job y (doing.Turn q) limits phase = let few = limits.steps in omega arith
fits_activity job y (doing.Part q rank) limits phase = let few = limits.steps in omega arith
fits_activity job y (doing.Over e) limits phase = tt

fits_body : (s : WorldData) (b : ℕ) (body : Body) → IsInterleaved s →
    slice_get s.bodies b ≡ Some body → PhaseFits (standing_of body)
fits_body s b (stopped n) h is = tt
fits_body s b (walks w) h is =
    fits_activity s.job s.layout w.now h.1.lawful.limits (h.1.known b w is).1.phase

fits_option : (s : WorldData) (b : ℕ) (o : Option Body) (x : Standing) → IsInterleaved s →
    slice_get s.bodies b ≡ o → option_map standing_of o ≡ Some x → PhaseFits x
fits_option s b None x h is e = absurd (cc)
fits_option s b (Some body) x h is e =
    let same : standing_of body ≡ x = cc in subst PhaseFits same (fits_body s b body h is)

pub fits : (s : WorldData) (b : ℕ) (x : Standing) → IsInterleaved s →
    option_map standing_of (slice_get s.bodies b) ≡ Some x → PhaseFits x
fits s b x h e = fits_option s b (slice_get s.bodies b) x h refl e
