-- Time, operations and rounds of a program, told by the run of its job.
use Rattle.std.specs.Prelude.{◌≡◌, ℕ, true, slice_get, sum_by, Some}
use Rattle.pram_job.specs.Job.{JobData}
use Rattle.pram_cost.specs.Profiles.{executed_at, most_at, instruction_steps}
use Rattle.pardo_program.specs.declared.statement.Line.{Line}
use Rattle.pardo_program.specs.Lawful.{IsProgram}
use Rattle.pardo_program.specs.Nested.{IsNested}
use Rattle.pardo_program.specs.Program.{ProgramData}
use Rattle.pardo_flat.specs.Flat.{first_flat_of, flat}
use Rattle.pardo_job.specs.Compiled.{IsCompiled}
use Rattle.pardo_job.specs.Lines.{place_of}
use Rattle.pardo_job.specs.Times.{AreAllLines, counted_from, counted_place, is_counted}
use Rattle.pardo_job.specs.Times.{line_most, line_operations, line_time, line_times}
use Rattle.pardo_job.specs.Times.{loop_ends, operations_to, rounds_to, time_to}

-- The job tells of the line j what is so of it in the n lines of the run: the first instruction of
-- the lines made for it is executed as often as the line, and the one at their counted place by
-- those that take part in it.
pub record TellsLine (program : ProgramData) (job : JobData) (n j depth : ℕ) : Type 0 where
  pub times : instruction_steps job (place_of (flat program) (first_flat_of program j)) job.steps
      ≡ line_times program j n
  pub time :
      instruction_steps job (counted_place (flat program) (first_flat_of program j) depth) job.steps
      ≡ line_time program j n
  pub operations : executed_at job (counted_place (flat program) (first_flat_of program j) depth)
      job.steps ≡ line_operations program j n
  pub most : most_at job (counted_place (flat program) (first_flat_of program j) depth) job.steps
      ≡ line_most program j n

-- What the compiler makes of a program tells the costs of each counted line.
abbrev pub JobsTellLines : Type 0
JobsTellLines = (program : ProgramData) (job : JobData) (line_of : ℕ → ℕ) (n j : ℕ)
    (line : Line) → IsProgram program → IsNested program.lines → IsCompiled program job line_of →
    AreAllLines program n → slice_get program.lines j ≡ Some line →
    is_counted line.statement ≡ true → TellsLine program job n j line.depth

-- The counted lines together have all operations, and all the time.
abbrev pub LinesAddUp : Type 0
LinesAddUp = (program : ProgramData) (n : ℕ) →
    (sum_by (λ counted. line_operations program counted.at n)
    (counted_from program 0 program.lines) ≡ operations_to program n)
    × (sum_by (λ counted. line_time program counted.at n)
    (counted_from program 0 program.lines) ≡ time_to program n)

-- The first instructions of the `end`s of its loops are executed together as often as it has
-- rounds.
abbrev pub JobsTellRounds : Type 0
JobsTellRounds = (program : ProgramData) (job : JobData) (line_of : ℕ → ℕ) (n : ℕ) →
    IsProgram program → IsNested program.lines → IsCompiled program job line_of →
    AreAllLines program n →
    sum_by (λ first. instruction_steps job first job.steps) (loop_ends program)
    ≡ rounds_to program n
