-- The final cells of a job, printed as CSV.
use Rattle.std.specs.Prelude.{ℕ, ◌+◌, List, [], ◌∷◌, ◌++◌, codes, decimal}
use Rattle.pram_step.specs.declared.answer.RunAnswer.{RunAnswer}
use Rattle.pram_step.specs.declared.answer.RunAnswer.TheVariants.{Final, Conflict, Unfinished}
use Rattle.pram_streams.specs.Printed.{printed}

-- `4,13`
abbrev pub cell_record : ℕ → ℕ → List ℕ
cell_record cell value = decimal cell ++ codes "," ++ decimal value ++ codes "\n"

-- a record for each cell, from this one on
abbrev pub cell_records : ℕ → List ℕ → List ℕ
cell_records cell [] = []
cell_records cell (value ∷ values) = cell_record cell value ++ cell_records (cell + 1) values

-- the answer of a job of so many steps, with its cells as records
abbrev pub answer_records : RunAnswer → ℕ → List ℕ
answer_records (Final cells) steps = codes "cell,value\n" ++ cell_records 0 cells
answer_records (Conflict fault) steps = printed (Conflict fault) steps
answer_records (Unfinished step) steps = printed (Unfinished step) steps
