-- The answer of a run, and the summary of a job, as text.
use Rattle.std.specs.Prelude.{ℕ, ◌+◌, List, [], ◌∷◌, ◌++◌, length, codes, decimal}
use Rattle.pram_job.specs.Job.{JobData}
use Rattle.pram_job.specs.declared.instr.Rule.{Rule}
use Rattle.pram_job.specs.declared.instr.Rule.TheVariants.{Common, Priority, Crew}
use Rattle.pram_step.specs.declared.answer.Fault.{Fault}
use Rattle.pram_step.specs.declared.answer.RunAnswer.{RunAnswer}
use Rattle.pram_step.specs.declared.answer.RunAnswer.TheVariants.{Final, Conflict, Unfinished}

-- the line of a cell
abbrev pub cell_line : ℕ → ℕ → List ℕ
cell_line cell value = decimal cell ++ codes ": " ++ decimal value ++ codes "\n"

-- a line for each cell, from this one on
abbrev pub cell_lines : ℕ → List ℕ → List ℕ
cell_lines cell [] = []
cell_lines cell (value ∷ values) = cell_line cell value ++ cell_lines (cell + 1) values

-- the line of a conflict
abbrev pub conflict_line : Fault → List ℕ
conflict_line fault = codes "conflict step=" ++ decimal fault.step
    ++ codes " cell=" ++ decimal fault.cell
    ++ codes " processors=" ++ decimal fault.first ++ codes "," ++ decimal fault.second
    ++ codes "\n"

-- the printed answer of a job of so many steps
abbrev pub printed : RunAnswer → ℕ → List ℕ
printed (Final cells) steps =
    codes "done steps=" ++ decimal steps ++ codes "\n" ++ cell_lines 0 cells
printed (Conflict fault) steps = conflict_line fault
printed (Unfinished step) steps = codes "unfinished step=" ++ decimal step ++ codes "\n"

-- what the summary of a job says of its rule
abbrev pub rule_mark : Rule → List ℕ
rule_mark Common = []
rule_mark Priority = codes " rule=priority"
rule_mark Crew = codes " rule=crew"

-- the summary of a job
abbrev pub summary : JobData → List ℕ
summary job = codes "ok cells=" ++ decimal job.cells ++ codes " procs=" ++ decimal job.procs
    ++ codes " steps=" ++ decimal job.steps ++ codes " code=" ++ decimal (length job.code)
    ++ rule_mark job.rule ++ codes "\n"
