-- The trace of a run, and the list of a watch, as text.
use Rattle.std.specs.Prelude.{ℕ, ◌+◌, List, [], ◌∷◌, ◌++◌, codes, decimal}
use Rattle.pram_run.specs.declared.sight.Sight.{Sight}
use Rattle.pram_run.specs.declared.trace.StepKind.{StepKind}
use Rattle.pram_run.specs.declared.trace.StepKind.TheVariants.{Load, Store, Max, Swap}
use Rattle.pram_run.specs.declared.trace.TraceRow.{TraceRow}

abbrev pub kind_word : StepKind → List ℕ
kind_word Load = codes "load"
kind_word Store = codes "store"
kind_word Max = codes "max"
kind_word Swap = codes "swap"

-- the line of a row, with the tick in front
abbrev pub trace_line : ℕ → TraceRow → List ℕ
trace_line tick row = decimal tick ++ codes "," ++ decimal row.worker ++ codes ","
    ++ kind_word row.kind ++ codes "," ++ decimal row.word ++ codes ","
    ++ decimal row.before ++ codes "," ++ decimal row.after ++ codes "\n"

-- a line for each row, the ticks counted on from one
abbrev pub row_lines : ℕ → List TraceRow → List ℕ
row_lines tick [] = []
row_lines tick (row ∷ rows) = trace_line (tick + 1) row ++ row_lines (tick + 1) rows

-- the header, and a line for each row
abbrev pub trace_text : List TraceRow → List ℕ
trace_text rows = codes "tick,worker,op,word,before,after\n" ++ row_lines 0 rows

-- How cells are told: the header of their sights, and what tells each of them.
pub record CellWords : Type 0 where
  pub header : List ℕ
  pub word : ℕ → List ℕ

-- by their numbers
abbrev pub cells_by_number : CellWords
cells_by_number = record { header = codes "step,cell,value\n"; word = λ cell. decimal cell }

-- the line of a sight
abbrev pub sight_line : CellWords → Sight → List ℕ
sight_line words sight = decimal sight.step ++ codes "," ++ words.word sight.cell ++ codes ","
    ++ decimal sight.value ++ codes "\n"

-- a line for each sight
abbrev pub sight_lines : CellWords → List Sight → List ℕ
sight_lines words [] = []
sight_lines words (sight ∷ sights) = sight_line words sight ++ sight_lines words sights

-- the header, and a line for each sight
abbrev pub sights_text : CellWords → List Sight → List ℕ
sights_text words sights = words.header ++ sight_lines words sights
