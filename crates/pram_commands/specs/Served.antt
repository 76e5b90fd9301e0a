-- What the status of a line that was served says.
use Rattle.std.specs.Prelude.{◌≡◌, ◌⊎◌, ◌≤◌, ◌<◌, ℕ, IsTrue, is_some}
use Rattle.pram_streams.specs.Transfer.{GivesSome}
use Rattle.pram_commands.specs.Did.{Begins, Command, Explains, Prints, tells_status}
use Rattle.naming.specs.Writing.{Writing}
use Rattle.refusals.specs.Faults.{fault_status}
use Rattle.pram_commands.specs.Inputs.{InputsRead}
use Rattle.pram_commands.specs.Line.{command_of}
use Rattle.refusals.specs.declared.fault.CommandFault.{CommandFault}
use Rattle.command_data.specs.declared.line.Line.{Line}
use Rattle.refusals.specs.declared.refusal.TheConstants.{REFUSED, UNFINISHED, FAILED, MEMORY}

-- There is a fault with this status, of which all is true that a fault says.
abbrev pub HasFault : Command → InputsRead → Writing → ℕ → Type 0
HasFault command reads writes status =
    (fault : CommandFault) × (fault_status fault ≡ status) × Explains command reads writes fault

-- What the status of a line says. Below 2, or 3: it was done. 2: a text bears a fault, or the job
-- lacks a cell that is to be watched, and nothing was written. 4: a device failed or a source is
-- too large; 4 or more wherever one failed. With 4 or more nothing was written; or, where the
-- output failed, or memory ran out and the command prints in pieces, a beginning of what the line
-- prints. The sources stand after the bytes read so far.
pub record Served (line : Line) (reads : InputsRead) (writes : Writing) (status : ℕ) : Type 0 where
  pub done : (status < REFUSED) ⊎ (status ≡ UNFINISHED)
      → Prints (command_of line.ask) reads writes (tells_status status)
  pub most : status ≤ MEMORY
  pub stops : status ≡ UNFINISHED → IsTrue (is_some (command_of line.ask).workers)
  pub refused : status ≡ REFUSED
      → HasFault (command_of line.ask) reads writes REFUSED × writes.Unwritten
  pub failed : status ≡ FAILED → HasFault (command_of line.ask) reads writes FAILED
  pub job : IsTrue reads.job_failed → FAILED ≤ status
  pub plan : IsTrue reads.plan_failed → FAILED ≤ status
  pub out : IsTrue writes.failed → FAILED ≤ status
  pub begins : FAILED ≤ status → writes.Unwritten ⊎ ((IsTrue writes.failed
      ⊎ ((status ≡ MEMORY) × (command_of line.ask).InPieces))
      × Begins (command_of line.ask) reads writes)
  pub job_reads : GivesSome reads.job reads.job'
  pub plan_reads : GivesSome reads.plan reads.plan'
