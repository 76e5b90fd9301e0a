-- Which steps a seat may make, and what their answers are.
use Rattle.std.proofs.Common.{◌≡◌, ℕ, ◌*◌, ◌^◌, ◌<◌, ◌≤◌, List, sym, subst, arith}
use Rattle.pram_job.specs.Job.{JobData, IsJob}
use Rattle.pram_words.proofs.Numbering.{numbering}
use Rattle.pram_words.specs.declared.words.Word.TheVariants.{Conflict, Node}
use Rattle.pram_words.specs.Start.{start_words}
use Rattle.pram_words.specs.Words.{LayoutData, IsLayout, number_of, length_of}
use Rattle.walkx.specs.declared.operation.Op.{Op}
use Rattle.walkx.specs.declared.operation.Op.TheVariants.{Load}
use Rattle.walkx.specs.Records.{Record, after, Knows}
use Rattle.walkx.specs.Walk.{Walking, Fits, AsksAdmitted, HearsAdmitted, IsStepOn, ask_of}
use Rattle.walk_memory.specs.Blocks.{IsBoard, IsLayoutOf}
use Rattle.walk_memory.proofs.Boards.{root_most, conflict_most}
use Rattle.lawful_walk.specs.Board.{Stands}
use Rattle.lawful_walk.specs.Moments.{Backed, Moment, Sound, WasBacked}
use Rattle.lawful_walk.proofs.Admitted.{answer_admitted}
use Rattle.lawful_walk.proofs.Moments.{load_keeps}
use Rattle.lawful_walk.proofs.Starting.{starts_stand}
use Rattle.lawful_walk.proofs.Turns.{workers_keep}
use Rattle.pram_board.specs.declared.task.Task.{Task}
use Rattle.pram_board.specs.Rules.{May}

-- ---- the start

pub starts : (job : JobData) (y : LayoutData) (words : List ℕ) → IsJob job → IsLayout y →
    IsLayoutOf job y → words ≡ start_words y job → Stands job y words
starts job y words limits sizes is e =
    let w = sizes.workers in
    subst (Stands job y) (sym e)
    (subst (λ (z : LayoutData). Stands job z (start_words z job)) (sym is)
    (starts_stand job y.form y.workers limits sizes.block w.0 w.1))

-- ---- what may be done

pub may_load : (t : Task) (r : Record) (k : ℕ) → k < length_of t.layout → May t r (Load k)
may_load t r k below = (below, λ words stands backed. load_keeps t.job t.layout k words stands)

pub may_step : (t : Task) (r : Record) (w : Walking) →
    Fits t.job t.layout w → Knows t.job t.layout r w → IsStepOn t.layout (ask_of t.job t.layout w) →
    May t r (ask_of t.job t.layout w)
may_step t r w fits knows is = (
  is,
  λ words stands backed.
      ((workers_keep t.job t.layout r w words stands fits knows backed).goes).keeps,
)

-- ---- what is heard

-- a sound record's last answer is admitted
pub admits : (t : Task) (r : Record) (op : Op) (found : ℕ) →
    Sound t.job t.layout (after r op found) → AsksAdmitted t.job t.layout op →
    HearsAdmitted t.job t.layout op found
admits t r op found sound ok =
    let was : WasBacked t.job t.layout (after r op found) = sound in
    let m : Moment t.job t.layout op found (Backed t.job t.layout r) was.words = was.backed in
    subst (HearsAdmitted t.job t.layout op) (sym m.heard)
    (answer_admitted t.job t.layout m.words op m.stands ok)

-- ---- the words of a table

pub some_words : (y : LayoutData) (n : ℕ) → IsLayout y → n ≡ length_of y → 0 < n
some_words y n limits e =
    let b : number_of y Conflict < length_of y = (numbering y limits).below Conflict tt in
    omega arith

-- the root is at most the last phase, word 0 at most the last step
pub root_small : (t : Task) (r : Record) (k root : ℕ) →
    IsBoard t.job t.layout → k ≡ number_of t.layout (Node 1) → k < length_of t.layout →
    Sound t.job t.layout (after r (Load k) root) → root ≤ 12884901885
root_small t r k root board is below sound =
    let m : root ≤ 3 * t.job.steps = root_most t.job t.layout root board (subst (λ (n : ℕ).
    HearsAdmitted t.job t.layout (Load n) root) is (admits t r (Load k) root sound below)) in
    let few : t.job.steps < 2 ^ 32 = (board.limits).steps in
    omega arith

pub conflict_small : (t : Task) (r : Record) (k u : ℕ) →
    IsBoard t.job t.layout → k ≡ number_of t.layout Conflict → k < length_of t.layout →
    Sound t.job t.layout (after r (Load k) u) → u < 2 ^ 32
conflict_small t r k u board is below sound =
    let m : u ≤ t.job.steps = conflict_most t.job t.layout u board (subst
    (λ (n : ℕ). HearsAdmitted t.job t.layout (Load n) u) is (admits t r (Load k) u sound below)) in
    let few : t.job.steps < 2 ^ 32 = (board.limits).steps in
    omega arith
