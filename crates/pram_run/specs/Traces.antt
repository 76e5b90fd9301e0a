-- The atomic steps of a run.
use Rattle.std.specs.Prelude.{ℕ, List, [], ◌∷◌, ◌++◌, Option, Some, None}
use Rattle.walkx.specs.declared.operation.Op.{Op}
use Rattle.walkx.specs.declared.operation.Op.TheVariants as op
use Rattle.pram_world.specs.declared.event.Effect.{Effect}
use Rattle.pram_world.specs.declared.event.Event.{Event}
use Rattle.pram_world.specs.declared.event.Event.TheVariants.{Go, Stop, Back}
use Rattle.pram_world.specs.Worlds.{WorldData, happens, shown}
use Rattle.pram_run.specs.declared.trace.StepKind.{StepKind}
use Rattle.pram_run.specs.declared.trace.StepKind.TheVariants.{Load, Store, Max, Swap}
use Rattle.pram_run.specs.declared.trace.TraceRow.{TraceRow}

abbrev pub row_with : ℕ → StepKind → ℕ → ℕ → ℕ → TraceRow
row_with worker kind word before after =
    record { before = before; after = after; word = word; worker = worker; kind = kind }

-- the row of a step on these words, if it is an atomic step
abbrev pub row_by : ℕ → ℕ → ℕ → Op → Option TraceRow
row_by worker before after (op.Load word) = Some (row_with worker Load word before after)
row_by worker before after (op.Store word value) = Some (row_with worker Store word before after)
row_by worker before after (op.Max word value) = Some (row_with worker Max word before after)
row_by worker before after (op.Swap word old new) = Some (row_with worker Swap word before after)
row_by worker before after (op.Over ended) = None

abbrev pub row_of_step : ℕ → Option Op → ℕ → ℕ → Option TraceRow
row_of_step worker None before after = None
row_of_step worker (Some op) before after = row_by worker before after op

abbrev pub listed_row : Option TraceRow → List TraceRow
listed_row None = []
listed_row (Some row) = row ∷ []

-- the rows of what an event of this worker showed: one for an atomic step, else none
abbrev pub rows_of_effect : ℕ → Effect → List TraceRow
rows_of_effect worker effect = listed_row (row_of_step worker effect.op effect.before effect.after)

abbrev pub body_of_event : Event → ℕ
body_of_event (Go body) = body
body_of_event (Stop body) = body
body_of_event (Back body) = body

-- the atomic steps of a run, in order
unfoldable pub trace_of : WorldData → List Event → List TraceRow
trace_of world [] = []
trace_of world (event ∷ events) =
    rows_of_effect (body_of_event event) (shown world event)
    ++ trace_of (happens world event) events
