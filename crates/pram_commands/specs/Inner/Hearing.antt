-- What comes of an answer that is printed as it is heard.
use Rattle.std.specs.Prelude.{◌≡◌, ℕ, List, Option, Result, Ok, Err}
use Rattle.pram_job.specs.Job.{JobData}
use Rattle.pram_streams.specs.declared.print.PrintFault.{PrintFault}
use Rattle.pram_streams.specs.declared.print.PrintFault.TheVariants.{Memory}
use Rattle.pram_run.specs.Heard.{Ended}
use Rattle.command_data.specs.declared.line.Style.{Style}
use Rattle.naming.specs.Puts.{PutText}
use Rattle.naming.specs.Writing.{Writing}
use Rattle.pram_commands.specs.Inner.Puts.{HasAnswered}
use Rattle.naming.specs.Names.{NamingData, printed_answer}

-- The answer of a job of so many steps was printed, or nothing where the run was out of memory.
abbrev pub HasPrinted : Writing → Option NamingData → ℕ → Ended → Result (Unit {0}) PrintFault →
    Type 0
HasPrinted writes names steps (Ok answer) put =
    PutText writes (printed_answer names answer steps) put
HasPrinted writes names steps (Err refused) put = (put ≡ Err Memory) × writes.Unwritten

-- An answer with what follows it was printed, or nothing where the run was out of memory.
abbrev pub HasToldEnd : Style → List ℕ → JobData → Writing → Ended → Result (Unit {0}) PrintFault
    → Type 0
HasToldEnd style job_text job writes (Ok answer) put =
    HasAnswered style job_text job writes answer put
HasToldEnd style job_text job writes (Err refused) put = (put ≡ Err Memory) × writes.Unwritten
