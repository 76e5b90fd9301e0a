-- What was counted of the lines of a program.
use Rattle.std.specs.Prelude.{ℕ, List}
use Rattle.pram_cost.specs.Profiled.{tally_at}
use Rattle.pram_cost.specs.declared.profile.Tallied.{Tallied}
use Rattle.pardo_job.specs.declared.times.CountedLine.{CountedLine}
use Rattle.pardo_answers.specs.declared.line_costs.LineCost.{LineCost}

-- what was counted of a line
abbrev pub line_by : List Tallied → CountedLine → LineCost
line_by rows counted = record {
  line = counted.number;
  times = (tally_at rows counted.first).executed.steps;
  time = (tally_at rows counted.own).executed.steps;
  operations = (tally_at rows counted.own).executed.times;
  most = (tally_at rows counted.own).executed.most;
}

-- in how many steps some processor executed an instruction
abbrev pub steps_by : List Tallied → ℕ → ℕ
steps_by rows index = (tally_at rows index).executed.steps
