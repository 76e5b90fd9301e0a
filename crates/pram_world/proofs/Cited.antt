-- What the worlds' lemmas rest on, of the walk and of lawful words.
use Rattle.std.proofs.Common.{◌≡◌, ◌≢◌, ℕ, ◌*◌, ◌<◌, ◌≤◌, List, []}
use Rattle.std.proofs.Common.{◌∷◌, length, None, sym, ◌∙◌, arith}
use Rattle.pram_job.specs.Job.{JobData}
use Rattle.pram_words.specs.Words.{LayoutData}
use Rattle.walkx.proofs.Asking.{all_ask}
use Rattle.walkx.proofs.Fitting.{fits_told}
use Rattle.walkx.proofs.Going.{told_over}
use Rattle.walkx.proofs.Knowing.{knows_more, has_earlier, has_more}
use Rattle.walkx.proofs.Workers.{known_new, starts, comes_anew}
use Rattle.walkx.specs.declared.operation.Ended.{Ended}
use Rattle.walkx.specs.declared.operation.Ended.TheVariants as ended
use Rattle.walkx.specs.declared.operation.Op.{Op}
use Rattle.walkx.specs.Doing.{Doing}
use Rattle.walkx.specs.Doing as doing
use Rattle.walkx.specs.Scripts.{rest_after}
use Rattle.walkx.specs.Bound.{told_all, history_of, own_step_bound}
use Rattle.walkx.specs.Operations.{answer}
use Rattle.walkx.specs.Records.{Record, after, Has, Knows}
use Rattle.walkx.specs.Walk.{Walking, IsGoing, HearsAdmitted, ask_of, told, rest_of, end_of}
use Rattle.walkx.specs.Walk.{started, come_back, remembering}
use Rattle.walk_memory.specs.Blocks.{IsBoard}
use Rattle.lawful_walk.specs.Board.{Stands, root, conflict}
use Rattle.lawful_walk.specs.Moments.{Backed}
use Rattle.lawful_walk.specs.Walks.{Moves}
use Rattle.lawful_walk.proofs.Sounding.{sound_of, sound_steps, sound_ends}
use Rattle.lawful_walk.proofs.Admitted.{answer_admitted}
use Rattle.lawful_walk.proofs.Knowing.{root_now, conflict_now}
use Rattle.lawful_walk.proofs.Staying.{known_stays}
use Rattle.lawful_walk.proofs.Turns.{workers_keep}
use Rattle.pram_world.specs.Inner.Holding.{Fitting}

pub board_of : (job : JobData) (y : LayoutData) (words : List ℕ) →
    Stands job y words → IsBoard job y
board_of job y words stands =
    record { limits = stands.limits; layout = stands.sizes; is = stands.layout }

-- the next step of a worker that a record knows
pub moves : (job : JobData) (y : LayoutData) (r : Record) (w : Walking) (words : List ℕ) →
    Stands job y words → Backed job y r words → Knows job y r w →
    Fitting job y w → Moves job y r w words
moves job y r w words stands backed knows fits =
    workers_keep job y r w words stands fits knows backed

-- other workers stay known
pub more : (job : JobData) (y : LayoutData) (r : Record) (op : Op) (found : ℕ) (w : Walking) →
    Knows job y r w → Knows job y (after r op found) w
more job y r op found w knows = knows_more job y r w op found knows

pub has_on : (r : Record) (op : Op) (found : ℕ) (es : List (Op × ℕ)) →
    Has r es → Has (after r op found) es
has_on = has_more

-- what standing words answer is admitted
pub hears_admitted : (job : JobData) (y : LayoutData) (words : List ℕ) (w : Walking) →
    Stands job y words → Fitting job y w →
    HearsAdmitted job y (ask_of job y w) (answer words (ask_of job y w))
hears_admitted job y words w stands fits = answer_admitted job y words (ask_of job y w) stands
    (all_ask job y w (board_of job y words stands) fits)

-- so it stays known
pub known_on : (job : JobData) (y : LayoutData) (r : Record) (w : Walking) (words : List ℕ) →
    Stands job y words → Backed job y r words → Knows job y r w → Fitting job y w →
    Knows job y (after r (ask_of job y w) (answer words (ask_of job y w)))
    (told job y w (answer words (ask_of job y w)))
known_on job y r w words stands backed knows fits =
    (known_stays job y r w words stands fits knows backed).1

-- and fits on
pub fits_on : (job : JobData) (y : LayoutData) (words : List ℕ) (w : Walking) → Stands job y words →
    Fitting job y w → Fitting job y (told job y w (answer words (ask_of job y w)))
fits_on job y words w stands fits = fits_told job y w (answer words (ask_of job y w))
    (board_of job y words stands) fits (hears_admitted job y words w stands fits)

-- a worker that starts or comes back, with a memory of any size
pub starts_well : (job : JobData) (y : LayoutData) (made : Record) (n size : ℕ) → n < y.workers →
    Knows job y made (remembering size (started n)) × Fitting job y (remembering size (started n))
starts_well job y made n size below =
    ((known_new job y made n size).0, (starts job y n size below).fits)

pub returns_well : (job : JobData) (y : LayoutData) (made : Record) (n size : ℕ) → n < y.workers →
    Knows job y made (remembering size (come_back n))
    × Fitting job y (remembering size (come_back n))
returns_well job y made n size below =
    ((known_new job y made n size).1, (comes_anew job y n size below).fits)

pub in_workers : (job : JobData) (y : LayoutData) (w : Walking) →
    Fitting job y w → w.number < y.workers
in_workers job y w fits = fits.number

going_of : (d : Doing) → end_of d ≡ None → IsGoing d
going_of doing.Back e = tt
going_of doing.Begin e = tt
going_of (doing.Turn q) e = tt
going_of (doing.Part q rank) e = tt
going_of (doing.Over x) e = absurd (cc)

-- A worker that is going has made fewer steps than the bound since a record knew it.
pub own_steps : (job : JobData) (y : LayoutData) (r : Record)
    (w : Walking) (answers words : List ℕ) → Stands job y words → Backed job y r words →
    Has r (history_of job y w answers) → Fitting job y w →
    end_of (told_all job y w answers).now ≡ None → length answers < own_step_bound job
own_steps job y r w answers words stands backed has fits going =
    sound_steps job y r w answers (board_of job y words stands) fits
    (sound_of job y r words stands backed) has
    (going_of (told_all job y w answers).now going)

-- a worker that is over stays so
pub told_still : (job : JobData) (y : LayoutData) (w : Walking) (found : ℕ) (e : Ended) →
    w.now ≡ doing.Over e → told job y w found ≡ w
told_still job y w found e is = told_over job y w found (rest_after (rest_of job y w) found) w.now e is

-- Done: the root shows the last step; Conflict: word 0 is not 0
pub ended_root : (job : JobData) (y : LayoutData) (r : Record) (w : Walking) (words : List ℕ) →
    Stands job y words → Backed job y r words → Knows job y r w → Fitting job y w →
    w.now ≡ doing.Over ended.Done → 3 * job.steps ≤ root y words
ended_root job y r w words stands backed knows fits is =
    let done = (sound_ends job y r w (sound_of job y r words stands backed) fits knows).0 is in
    let h = done.heard in
    root_now job y r (3 * job.steps) words backed (record {
      op = h.op;
      hears = h.hears;
      has = has_earlier r (h.next, 0) ((h.op, 3 * job.steps) ∷ []) h.has;
    })

pub ended_conflict : (job : JobData) (y : LayoutData) (r : Record) (w : Walking)
    (u : ℕ) (words : List ℕ) → Stands job y words → Backed job y r words → Knows job y r w →
    Fitting job y w → w.now ≡ doing.Over (ended.Conflict u) → conflict y words ≢ 0
ended_conflict job y r w u words stands backed knows fits is =
    let c = (sound_ends job y r w (sound_of job y r words stands backed) fits knows).1 u is in
    let step = (c.1).step in
    let first = (((c.1).is).first).step in
    let some : u ≢ 0 = λ e. absurd (omega arith) in
    λ none. some (sym (conflict_now job y r u words backed c.0 some) ∙ none)
