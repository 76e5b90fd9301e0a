-- How costs are told by the names of a text.
use Rattle.std.specs.Prelude.{ℕ, List, [], ◌∷◌, ◌++◌, codes, decimal, slice_index}
use Rattle.std.specs.Prelude.{Option, Some, None}
use Rattle.pram_job.specs.Job.{JobData}
use Rattle.pram_step.specs.declared.answer.RunAnswer.TheVariants.{Conflict}
use Rattle.pram_cost.specs.Printed.{CostWords, by_cells}
use Rattle.pram_cost.specs.declared.meeting.Meeting.{Meeting}
use Rattle.pardo_job.specs.Printed.{cell_text}
use Rattle.pardo_answers.specs.Costs.{line_costs as program_costs, operations_in, rounds_in}
use Rattle.pardo_answers.specs.Costs.{time_in}
use Rattle.pardo_answers.specs.declared.line_costs.LineCost.{LineCost}
use Rattle.naming.specs.Names.{NamingData, printed_answer}

-- the place of a meeting, and where its cell has none the cell
abbrev pub place_or_cell : List ℕ → Meeting → List ℕ
place_or_cell [] meeting = by_cells.spot meeting
place_or_cell (byte ∷ bytes) meeting = codes " place=" ++ byte ∷ bytes

-- where two processors meet in a program: the line of the first one's instruction, and the place
abbrev pub spot_in : NamingData → Meeting → List ℕ
spot_in naming meeting =
    codes " line=" ++ decimal (slice_index naming.numbers meeting.counter)
    ++ place_or_cell (cell_text naming.program.arrays meeting.cell) meeting

-- the costs of all counted lines; a text of the machine has none
abbrev pub named_line_costs : Option NamingData → JobData → List LineCost
named_line_costs None job = []
named_line_costs (Some naming) job = program_costs naming.program job

-- their sums: the time and the operations of the program
abbrev pub sums_text : List LineCost → List ℕ
sums_text lines =
    codes "time " ++ decimal (time_in lines) ++ codes "\noperations "
    ++ decimal (operations_in lines) ++ codes "\n"

-- how often the `end` of a loop is made; a text of the machine has none
abbrev pub named_rounds : Option NamingData → JobData → ℕ
named_rounds None job = 0
named_rounds (Some naming) job = rounds_in naming.program job

-- the line that tells it of a program, after the costs
abbrev pub rounds_text : Option NamingData → ℕ → List ℕ
rounds_text None rounds = []
rounds_text (Some naming) rounds = codes "rounds " ++ decimal rounds ++ codes "\n"

-- How costs tell meetings and conflicts: by cells, or by a program's lines and places, a conflict
-- as the answer tells it. Of a program its time and operations stand before them.
abbrev pub cost_words : Option NamingData → List LineCost → CostWords
cost_words None lines = by_cells
cost_words (Some naming) lines = record {
  head = sums_text lines;
  spot = spot_in naming;
  conflict = λ fault. printed_answer (Some naming) (Conflict fault) 0;
}
