-- The run of a program.
use Rattle.std.specs.Prelude.{◌≡◌, ℕ, List, Ok, slice_index}
use Rattle.pram_cost.specs.Costs.{IsCost}
use Rattle.pardo_program.specs.Program.{ProgramData}
use Rattle.pardo_text.specs.Reading.{program_of}
use Rattle.pardo_job.specs.Compiled.{IsCompiled}
use Rattle.pardo_job.specs.Ends.{HasEnded}
use Rattle.pardo_answers.specs.declared.run.Run.{Run}
use Rattle.pardo_answers.specs.Costs.{line_costs, rounds_in}

-- The run is that of the program's job: how it ends, what it costs, and what it tells of the
-- program's counted lines and of its loops.
pub record IsRunOf (program : ProgramData) (run : Run) : Type 0 where
  pub program_is : run.program ≡ program
  pub compiled : IsCompiled program run.job (slice_index run.numbers.items)
  pub ended : HasEnded run.job (slice_index run.numbers.items) run.ended
  pub cost : IsCost run.job run.costs.cost
  pub lines : run.costs.lines.items ≡ line_costs program run.job
  pub rounds : run.costs.rounds ≡ rounds_in program run.job

-- and the text spells the program
abbrev pub IsTextRun : List ℕ → Run → Type 0
IsTextRun text run = (program_of text ≡ Ok run.program) × IsRunOf run.program run
