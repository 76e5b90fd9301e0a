-- In which rounds of the loops around its line a processor is lost, or two clash: what the
-- variables of these loops hold before the step.
use Rattle.std.specs.Prelude.{◌≡◌, ℕ, nat_le, if◌then◌else◌, List, [], ◌++◌, codes, decimal}
use Rattle.std.specs.Prelude.{Option, Some, None, slice_get}
use Rattle.std.specs.List.{flat_map, range_with_len}
use Rattle.pram_job.specs.Job.{JobData}
use Rattle.pram_machine.specs.Machine.{State, counter}
use Rattle.pram_step.specs.Runs.{IsFault}
use Rattle.pram_step.specs.declared.answer.RunAnswer.{RunAnswer}
use Rattle.pram_step.specs.declared.answer.RunAnswer.TheVariants.{Final, Conflict, Unfinished}
use Rattle.pram_rows.specs.Causes.{state_before}
use Rattle.pram_rows.specs.declared.fates.Lost.{Lost}
use Rattle.pardo_program.specs.Program.{ProgramData}
use Rattle.pardo_program.specs.declared.statement.Line.{Line}
use Rattle.pardo_program.specs.declared.statement.Statement.{Statement}
use Rattle.pardo_program.specs.declared.statement.Statement.TheVariants.{For}
use Rattle.pardo_flat.specs.Flat.{flat}
use Rattle.pardo_flat.specs.Layouts.{loop_cells, program_layout}
use Rattle.pardo_job.specs.Shows.{own_cell}
use Rattle.pardo_answers.specs.Traces.{lines_before}
use Rattle.naming.specs.Names.{NamingData}

-- what processor i's cell for the variable of the loop holds that stands in so many others: the
-- flat program is the one that is compiled
abbrev pub variable_value : ProgramData → State → (i nest : ℕ) → ℕ
variable_value program state i nest =
    own_cell state (loop_cells (program_layout (flat program)) nest) i

-- `round step=9 line=4 value=2`: before this step, the variable of the loop of this line
abbrev pub round_line : (step line value : ℕ) → List ℕ
round_line step line value = codes "round step=" ++ decimal step ++ codes " line=" ++ decimal line
    ++ codes " value=" ++ decimal value ++ codes "\n"

-- a loop `for` whose `end` does not stand before this place tells its round
abbrev pub round_told : (ℕ → ℕ) → (step at number : ℕ) → Statement → List ℕ
round_told value_of step at number (For nest first last up end) =
    if nat_le at end then round_line step number (value_of nest) else []
round_told value_of step at number _ = []

abbrev pub round_of : (ℕ → ℕ) → (step at : ℕ) → Option Line → List ℕ
round_of value_of step at None = []
round_of value_of step at (Some line) = round_told value_of step at line.number line.statement

-- and so do, from outside in, all loops that begin before the place and end there or after it
abbrev pub rounds_around : (ℕ → ℕ) → ProgramData → (step at : ℕ) → List ℕ
rounds_around value_of program step at =
    flat_map (λ begin. round_of value_of step at (slice_get program.lines begin))
    (range_with_len 0 at)

-- the rounds in which processor i makes a step: those of the loops around the line where it is
abbrev pub rounds_before : NamingData → JobData → (step i : ℕ) → List ℕ
rounds_before naming job step i =
    let state = state_before job step in
    rounds_around (variable_value naming.program state i) naming.program step
    (lines_before naming.places (counter job state i))

abbrev pub lost_rounds : NamingData → JobData → Option Lost → List ℕ
lost_rounds naming job None = []
lost_rounds naming job (Some lost) = rounds_before naming job lost.step lost.processor

-- those of the first of two that clash, where the answer is the job's conflict
abbrev pub AreClashRounds : NamingData → JobData → RunAnswer → List ℕ → Type 0
AreClashRounds naming job (Conflict fault) rounds =
    IsFault job fault → rounds ≡ rounds_before naming job fault.step fault.first
AreClashRounds naming job (Final cells) rounds = rounds ≡ []
AreClashRounds naming job (Unfinished step) rounds = rounds ≡ []

-- Those of the conflict, and then those of a loss; a text of the machine has no loops.
abbrev pub AreRounds : Option NamingData → JobData → RunAnswer → Option Lost → List ℕ → Type 0
AreRounds None job ended lost rounds = rounds ≡ []
AreRounds (Some naming) job ended lost rounds = (clash : List ℕ)
    × AreClashRounds naming job ended clash × (rounds ≡ clash ++ lost_rounds naming job lost)
