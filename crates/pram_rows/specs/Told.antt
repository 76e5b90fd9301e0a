-- What became of the processors, as lines that follow an answer.
use Rattle.std.specs.Prelude.{ℕ, List, [], ◌++◌, Option, Some, None, codes, decimal, slice_index}
use Rattle.pram_job.specs.declared.instr.Array.{Array}
use Rattle.pram_rows.specs.declared.causes.Cause.{Cause}
use Rattle.pram_rows.specs.declared.causes.Cause.TheVariants.{Outside, AboveBound, Divided}
use Rattle.pram_rows.specs.declared.causes.Values.{Values}
use Rattle.pram_rows.specs.declared.causes.Why.{Why}
use Rattle.pram_rows.specs.declared.fates.End.{End}
use Rattle.pram_rows.specs.declared.fates.End.TheVariants.{Running, Stopped}
use Rattle.pram_rows.specs.declared.fates.Fates.{Fates}
use Rattle.pram_rows.specs.declared.fates.Lost.{Lost}
use Rattle.pram_rows.specs.declared.told.Origin.{Origin}
use Rattle.pram_rows.specs.declared.told.Origin.TheVariants.{Text, Lines}
use Rattle.pram_text.specs.InstructionLines.{line_of}

-- the number of the line that an instruction came from
abbrev pub line_in : Origin → ℕ → ℕ
line_in (Text text) index = line_of text.now index
line_in (Lines numbers) index = slice_index numbers.now index

-- how they are at the end, where there is one
abbrev pub end_line : (ℕ → ℕ) → Option End → List ℕ
end_line line_at None = []
end_line line_at (Some (Running count first index)) =
    codes "running count=" ++ decimal count ++ codes " first=" ++ decimal first
    ++ codes " line=" ++ decimal (line_at index) ++ codes "\n"
end_line line_at (Some (Stopped step)) = codes "stopped step=" ++ decimal step ++ codes "\n"

-- who first named a cell that there is not, if one did
abbrev pub lost_line : (ℕ → ℕ) → Option Lost → List ℕ
lost_line line_at None = []
lost_line line_at (Some lost) =
    codes "lost processor=" ++ decimal lost.processor ++ codes " step=" ++ decimal lost.step
    ++ codes " line=" ++ decimal (line_at lost.index) ++ codes "\n"

-- what two that clash write, if two do
abbrev pub values_line : Option Values → List ℕ
values_line None = []
values_line (Some values) = codes "wrote values=" ++ decimal values.first ++ codes ","
    ++ decimal values.second ++ codes "\n"

-- why a processor is lost, if one is, by a word for an array
abbrev pub cause_line : (Array → List ℕ) → Option Cause → List ℕ
cause_line word None = []
cause_line word (Some (Outside array index)) =
    codes "outside array=" ++ word array ++ codes " index=" ++ decimal index
    ++ codes " length=" ++ decimal array.len ++ codes "\n"
cause_line word (Some (AboveBound index bound)) =
    codes "outside index=" ++ decimal index ++ codes " length=" ++ decimal bound ++ codes "\n"
cause_line word (Some (Divided value)) =
    codes "divided value=" ++ decimal value ++ codes " by=0\n"

-- both, by the lines that the job's instructions came from
abbrev pub fates_text : (ℕ → ℕ) → Fates → List ℕ
fates_text line_at fates = end_line line_at fates.end ++ lost_line line_at fates.lost

-- and all that follows an answer, the causes beside them
abbrev pub why_text : (ℕ → ℕ) → (Array → List ℕ) → Why → List ℕ
why_text line_at word why = values_line why.values ++ fates_text line_at why.fates
    ++ cause_line word why.cause
