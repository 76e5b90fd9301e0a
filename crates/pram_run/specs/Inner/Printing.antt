-- Records that csv writes, and rows that were passed on to a sink.
use Rattle.std.specs.Prelude.{◌≡◌, ◌+◌, ◌++◌, ℕ, List, Option, length, false}
use Rattle.std.specs.Io.KnownBytes.{Appends}
use Rattle.pram_streams.specs.declared.print.PrintFault.{PrintFault}
use Rattle.pram_streams.specs.declared.print.PrintFault.TheVariants as print
use Rattle.pram_run.specs.declared.print.OutFault.{OutFault}
use Rattle.pram_run.specs.declared.print.OutFault.TheVariants.{Device, Memory}
use Rattle.pram_run.specs.declared.trace.TraceRow.{TraceRow}
use Rattle.pram_run.specs.Printed.{row_lines}

abbrev pub out_fault_of_print : PrintFault → OutFault
out_fault_of_print print.Device = Device
out_fault_of_print print.Memory = Memory

-- The sink took the lines of the first of these rows, so many having gone before; the others are
-- kept, and the count goes on.
pub record PassedOn (sink sink' : Option (List ℕ)) (before : ℕ) (rows kept : List TraceRow) (after :
    ℕ) : Type 0 where
  pub gone : List TraceRow
  pub parts : rows ≡ gone ++ kept
  pub count : after ≡ before + length gone
  pub prints : Appends sink sink' (row_lines before gone)
