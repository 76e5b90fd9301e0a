-- What stays so, step after step: a known worker is known, and a record is borne out.
use Rattle.walkx.specs.declared.operation.Op.TheVariants.{Load}
use Rattle.walkx.specs.Operations.{answer, words_after}
use Rattle.walk_memory.specs.Blocks.{IsBoard}
use Rattle.walkx.specs.Walk.{ask_of}
use Rattle.walkx.proofs.Asking.{all_ask}
use Rattle.walkx.proofs.Fitting.{fits_told}
use Rattle.walkx.proofs.Knowing.{knows_more, knows_next}
use Rattle.lawful_walk.proofs.Knowing.{known_now, knows_too}
use Rattle.lawful_walk.proofs.Moments.{backed_later, backs, load_keeps}
use Rattle.lawful_walk.specs.WalkLaws.{LateWorkersChangeNothing, KnownWorkersStayKnown}
use Rattle.lawful_walk.specs.WalkLaws.{RecordsOutliveGrowth, LoadsKeepRecords, KnownStepsLast}
use Rattle.lawful_walk.proofs.Admitted.{answer_admitted}
use Rattle.lawful_walk.proofs.Remembering.{told_true}
use Rattle.lawful_walk.proofs.Turns.{rank_safe, workers_keep}

-- ---- a worker

pub known_stays : KnownWorkersStayKnown
known_stays job y r w words stands fits knows backed =
    let op = ask_of job y w in
    let board : IsBoard job y =
    record { limits = stands.limits; layout = stands.sizes; is = stands.layout } in
    let admitted = answer_admitted job y words op stands (all_ask job y w board fits) in
    let moves = workers_keep job y r w words stands fits knows backed in
    let is_true = told_true job y r w (answer words op) (words_after words op) rank_safe board
    moves.goes.keeps.stands fits knows moves.backed in (
      fits_told job y w (answer words op) board fits admitted,
      knows_next job y r w (answer words op) board fits knows admitted is_true,
      λ other. knows_more job y r other op (answer words op),
    )

pub late_changes_nothing : LateWorkersChangeNothing
late_changes_nothing job y r w words stands fits knows backed =
    ((workers_keep job y r w words stands fits knows backed).goes).stale

-- ---- a record

pub records_outlive : RecordsOutliveGrowth
records_outlive job y r words later backed up =
    let b = backed_later job y r words later backed up in (b, λ other is. (b, is))

pub loads_keep : LoadsKeepRecords
loads_keep job y r k words stands backed =
    backs job y r (Load k) words stands backed (load_keeps job y k words stands)

pub known_last : KnownStepsLast
known_last job y r t words later stands backed up knows = (
  (known_now job y r t later stands (backed_later job y r words later backed up) knows).1,
  λ op found. knows_too y r op found t knows,
)
