-- What counted lines of a program cost, as records.
use Rattle.std.specs.Prelude.{ℕ, List, [], ◌∷◌, ◌++◌, codes, decimal, slice_index_or}
use Rattle.std.specs.List.{flat_map}
use Rattle.csv.specs.Writing.{default_writer, row_text}
use Rattle.text_lines.specs.Lines.{lines_of}
use Rattle.pardo_answers.specs.declared.line_costs.LineCost.{LineCost}

-- the line of this number, which counts from 1; no other number has a line
abbrev pub numbered_line : List ℕ → ℕ → List ℕ
numbered_line text number = slice_index_or ([] ∷ lines_of text) number []

-- the record of a counted line: its number, what it costs, and the line as it stands
abbrev pub line_record : LineCost → List ℕ → List ℕ
line_record cost line = row_text default_writer
    (decimal cost.line ∷ decimal cost.times ∷ decimal cost.time ∷ decimal cost.operations
    ∷ decimal cost.most ∷ line ∷ [])

-- the records of counted lines, after a header
abbrev pub records_text : List ℕ → List LineCost → List ℕ
records_text text costs = codes "line,times,time,operations,most,text\n"
    ++ flat_map (λ cost. line_record cost (numbered_line text cost.line)) costs
