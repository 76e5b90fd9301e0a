-- The command that a line asks for.
use Rattle.command_data.specs.CellLists.{parts_of}
use Rattle.pram_commands.specs.Did.{Command}
use Rattle.pram_commands.specs.LineRecords.{costing_by}
use Rattle.pram_commands.specs.Plain.{checking, plainly}
use Rattle.pram_commands.specs.Replayed.{replaying}
use Rattle.pram_commands.specs.Sweeps.{sweeping}
use Rattle.pram_commands.specs.Steps.{stepping}
use Rattle.pram_commands.specs.Texts.{compiling}
use Rattle.pram_commands.specs.Threads.{running, watching}
use Rattle.pram_commands.specs.Traced.{tracing}
use Rattle.pram_commands.specs.Under.{under_model}
use Rattle.command_data.specs.declared.line.Ask.{Ask}
use Rattle.command_data.specs.declared.line.Ask.TheVariants.{Alone, OnThreads}
use Rattle.command_data.specs.declared.line.AskAlone.{AskAlone}
use Rattle.command_data.specs.declared.line.AskAlone.TheVariants.{Check, Compile, Plain, Cost}
use Rattle.command_data.specs.declared.line.AskAlone.TheVariants.{Sweep, Steps, Trace, Replay}
use Rattle.command_data.specs.declared.line.AskOnThreads.{AskOnThreads}
use Rattle.command_data.specs.declared.line.AskOnThreads.TheVariants.{Run, Watch}

-- what the thread that calls is asked alone: the command says which bytes it prints on a job and a
-- plan, and how it ends
abbrev pub command_alone : AskAlone → Command
command_alone (Check model) = under_model model checking
command_alone Compile = compiling
command_alone (Plain style model) = under_model model (plainly style)
command_alone (Cost lines model) = under_model model (costing_by lines)
command_alone Sweep = sweeping
command_alone (Steps from to alone) = stepping alone (record { from = from; to = to })
command_alone (Trace alone) = tracing alone
command_alone (Replay workers alone) = replaying alone workers.count

-- what is asked on threads: the command says which bytes it prints on a job and a plan, and how it
-- ends
abbrev pub command_on_threads : AskOnThreads → Command
command_on_threads (Run run) = running run.style run.manner.workers.count
command_on_threads (Watch watch) =
    watching watch.manner.workers.count (parts_of watch.cells.text.now) watch.rounds

abbrev pub command_of : Ask → Command
command_of (Alone ask) = command_alone ask
command_of (OnThreads ask) = command_on_threads ask
