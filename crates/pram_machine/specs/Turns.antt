-- The request that a turn is.
use Rattle.std.specs.Prelude.{◌≡◌, ℕ, ◌<◌, ◌≤◌, Option, Some, None}
use Rattle.pram_job.specs.Job.{JobData}
use Rattle.pram_machine.specs.declared.requests.Request.{Request}
use Rattle.pram_machine.specs.declared.turn.Put.{Put}
use Rattle.pram_machine.specs.declared.turn.Put.TheVariants.{Nothing, Register, Cell}
use Rattle.pram_machine.specs.declared.turn.Turn.{Turn}

abbrev pub put_of : Put → Option (ℕ × ℕ)
put_of Nothing = None
put_of (Register place value) = Some (place, value)
put_of (Cell cell value) = Some (cell, value)

abbrev pub request_of : Turn → Request
request_of turn = record { put = put_of turn.put; next = turn.next }

-- a cell is one of the job's, and the place of a register is none
abbrev pub IsSorted : JobData → Put → Type 0
IsSorted job Nothing = Unit {0}
IsSorted job (Register place value) = job.cells ≤ place
IsSorted job (Cell cell value) = cell < job.cells

-- the turn is this request, sorted so
pub record IsTurnOf (job : JobData) (request : Request) (turn : Turn) : Type 0 where
  pub value : request_of turn ≡ request
  pub sorted : IsSorted job turn.put
