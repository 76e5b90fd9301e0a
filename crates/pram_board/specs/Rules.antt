-- The rule of the board, over its words and the views of all seats.
use Rattle.std.specs.Prelude.{◌≡◌, ℕ, true, false, List, []}
use mathlib.Core.Option.{some}
use lib.ListN.{get_elem?}
use Rattle.atomic_table.specs.Table.{State, Step, Me}
use Rattle.pram_job.specs.declared.instr.Rule.TheVariants.{Common}
use Rattle.pram_job.specs.Job.{JobData}
use Rattle.pram_words.specs.declared.layout.Form.TheVariants.{Compact}
use Rattle.pram_words.specs.Words.{layout_of}
use Rattle.walkx.specs.declared.operation.Op.{Op}
use Rattle.walkx.specs.declared.operation.Op.TheVariants.{Load, Store, Max, Swap}
use Rattle.walkx.specs.Records.{Record, empty, after, both}
use Rattle.walkx.specs.Walk.{IsStepOn}
use Rattle.lawful_walk.specs.Board.{Stands}
use Rattle.lawful_walk.specs.Moments.{Backed, Sound, Keeps}
use Rattle.pram_board.specs.declared.task.Task.{Task}
use Rattle.pram_board.specs.declared.task.View.{View}

-- the view of a seat of this task
abbrev pub viewing : Task → Record → View
viewing task known = record { live = true; task = task; heard = known }

-- the view of a seat that was joined to another: it is of no job, and of that nothing is said
abbrev pub no_job : JobData
no_job = record { rule = Common; cells = 0; procs = 0; steps = 0; init = []; code = [] }

abbrev pub idle_view : View
idle_view = record {
  live = false;
  task = record { job = no_job; layout = layout_of no_job Compact 0 };
  heard = empty;
}

abbrev pub opened : Task → View
opened task = viewing task empty

abbrev pub united : View → View → View
united first second =
    record { live = first.live; task = first.task; heard = both first.heard second.heard }

-- the words bear out what a seat knows
abbrev pub BearsOut : Task → State (Unit {0}) View → View → Type 0
BearsOut task state view = view.live ≡ true →
    (view.task ≡ task) × Backed task.job task.layout view.heard state.words

pub record Holds (task : Task) (state : State (Unit {0}) View) : Type 0 where
  pub stands : Stands task.job task.layout state.words
  pub seats : (id : ℕ) (view : View) → get_elem? state.views id ≡ some view →
      BearsOut task state view

-- ---- what an atomic step may be

-- whatever standing words bear out the record, this step of its seat leaves words that stand and
-- have grown
abbrev pub May : Task → Record → Op → Type 0
May task known op = IsStepOn task.layout op
    × ((words : List ℕ) → Stands task.job task.layout words →
    Backed task.job task.layout known words → Keeps task.job task.layout op words)

-- ---- what an atomic step tells

-- the seat has made this step and heard this answer, which agrees with all that it heard before
abbrev pub SeatHeard : Op → ℕ → Me (Unit {0}) View → Me (Unit {0}) View → Type 0
SeatHeard op found me now =
    (now ≡ (record { live = me.0.live; task = me.0.task; heard = after me.0.heard op found }, me.1))
    × Sound me.0.task.job me.0.task.layout (after me.0.heard op found)

abbrev pub Loaded : Step (Unit {0}) → Me (Unit {0}) View → ℕ → Me (Unit {0}) View → Type 0
Loaded step me found now = SeatHeard (Load step.word) found me now

abbrev pub Stored : Step (Unit {0}) → Me (Unit {0}) View → ℕ → Me (Unit {0}) View → Type 0
Stored step me found now = SeatHeard (Store step.word step.first) 0 me now

abbrev pub RaisedWord : Step (Unit {0}) → Me (Unit {0}) View → ℕ → Me (Unit {0}) View → Type 0
RaisedWord step me found now = SeatHeard (Max step.word step.first) found me now

abbrev pub Swapped : Step (Unit {0}) → Me (Unit {0}) View → ℕ → Me (Unit {0}) View → Type 0
Swapped step me found now = SeatHeard (Swap step.word step.first step.second) found me now
