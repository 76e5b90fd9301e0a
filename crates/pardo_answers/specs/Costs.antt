-- What the run of a program's job tells of its counted lines, and of the ends of its loops.
use Rattle.std.specs.Prelude.{◌<◌, ◌^◌, ℕ, List, map, sum_by}
use Rattle.pram_job.specs.Job.{JobData}
use Rattle.pram_cost.specs.Profiles.{executed_at, most_at, instruction_steps}
use Rattle.pardo_program.specs.Program.{ProgramData}
use Rattle.pardo_job.specs.Times.{counted_from, loop_ends}
use Rattle.pardo_job.specs.declared.times.CountedLine.{CountedLine}
use Rattle.pardo_answers.specs.declared.line_costs.LineCost.{LineCost}

-- what it tells of a counted line
abbrev pub line_cost : JobData → CountedLine → LineCost
line_cost job counted = record {
  line = counted.number;
  times = instruction_steps job counted.first job.steps;
  time = instruction_steps job counted.own job.steps;
  operations = executed_at job counted.own job.steps;
  most = most_at job counted.own job.steps;
}

-- the costs of all counted lines
abbrev pub line_costs : ProgramData → JobData → List LineCost
line_costs program job = map (line_cost job) (counted_from program 0 program.lines)

-- the time and the operations of a program: the sums of its lines
abbrev pub time_in : List LineCost → ℕ
time_in lines = sum_by (λ cost. cost.time) lines

abbrev pub operations_in : List LineCost → ℕ
operations_in lines = sum_by (λ cost. cost.operations) lines

-- the rounds of a program: how often the `end` of a loop is made
abbrev pub rounds_in : ProgramData → JobData → ℕ
rounds_in program job = sum_by (λ first. instruction_steps job first job.steps) (loop_ends program)

-- time and operations are numbers of 64 bits
pub record AreSmall (lines : List LineCost) : Type 0 where
  pub time : time_in lines < 2 ^ 64
  pub operations : operations_in lines < 2 ^ 64
