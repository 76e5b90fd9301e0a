-- An observer's read in a run.
use Rattle.std.proofs.Common.{sym, subst}
use Rattle.pram_job.specs.Job.{JobData}
use Rattle.pram_words.specs.Words.{LayoutData, layout_of}
use Rattle.walkx.specs.Records.{Record}
use Rattle.lawful_walk.specs.Moments.{WasBacked}
use Rattle.lawful_walk.specs.Walks.{IsLawfulRead}
use Rattle.lawful_walk.proofs.Sounding.{was_read}
use Rattle.pram_world.specs.Laws.{EveryReadIsLawful}
use Rattle.pram_world.specs.Runs.{Run, run_begun, all_acted}
use Rattle.pram_world.proofs.Interleaving.{RunHolds, all_hold, begun_holds}

-- what an observer loaded was borne out
was_observed : (job : JobData) (y : LayoutData) (r : Run) →
    RunHolds job y r → WasBacked job y r.loads
was_observed job y r h =
    let here : WasBacked r.world.job r.world.layout r.loads =
    record { words = r.world.words; stands = h.holds.stands; backed = h.observed } in
    subst (λ (z : LayoutData). WasBacked job z r.loads) h.board_stays
    (subst (λ (j : JobData). WasBacked j r.world.layout r.loads) h.job_stays here)

pub every_read_is_lawful : EveryReadIsLawful
every_read_is_lawful job form workers
    acts later c step value answers limits block some most fits also cell is read =
    let y = layout_of job form workers in
    let before = all_acted (run_begun job form workers) acts in
    let behind = all_acted before later in
    let h = all_hold job y before later also (all_hold job y
    (run_begun job form workers) acts fits (begun_holds job form workers limits block some most)) in
    let was = subst (λ (r : Record). WasBacked job y r) read (was_observed job y behind h) in
    let good = was_read job y before.loads c step value answers cell is was in (
      subst (λ (r : Record). IsLawfulRead job y before.loads r c step value) (sym read) good.0,
      good.1,
    )
