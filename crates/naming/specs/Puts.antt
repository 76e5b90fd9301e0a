-- What came of a text that was printed.
use Rattle.std.specs.Prelude.{◌↔◌, ℕ, List, Result, OnOk, IsErrOf, IsTrue}
use Rattle.std.specs.Io.KnownBytes.{Appends}
use Rattle.pram_streams.specs.Transfer.{AppendsBeginning}
use Rattle.pram_streams.specs.declared.print.PrintFault.{PrintFault}
use Rattle.pram_streams.specs.declared.print.PrintFault.TheVariants.{Device, Memory}
use Rattle.naming.specs.Writing.{Writing}

-- The output took the text, or a beginning of it; nothing where memory ran out.
pub record PutText (writes : Writing) (text : List ℕ) (put : Result (Unit {0}) PrintFault)
    : Type 0 where
  pub ok : OnOk put (Appends writes.out writes.out' text)
  pub beginning : AppendsBeginning writes.out writes.out' text
  pub memory : IsErrOf put Memory → writes.Unwritten
  pub failed : IsTrue writes.failed ↔ IsErrOf put Device
