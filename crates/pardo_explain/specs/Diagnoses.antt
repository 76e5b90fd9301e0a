-- What is printed below the line of a refusal.
use Rattle.std.specs.Prelude.{ℕ, List, [], ◌∷◌, ◌++◌, codes, decimal}
use Rattle.pardo_explain.specs.declared.diagnosis.Diagnosis.{Diagnosis}
use Rattle.pardo_explain.specs.declared.look.Look.{Look}
use Rattle.pardo_explain.specs.declared.look.Look.TheVariants.{Plain, Coloured}
use Rattle.text_lines.specs.Lines.{Word}

-- what has a terminal go on in another colour, by the number that it has for that
abbrev pub sign : Look → List ℕ → List ℕ
sign Plain number = []
sign Coloured number = 27 ∷ codes "[" ++ number ++ codes "m"

-- where it is, for programs that read such lines; bright where there are colours
abbrev pub spot : Look → Word → ℕ → ℕ → List ℕ
spot look file line column =
    sign look (codes "1") ++ file ++ codes ":" ++ decimal line ++ codes ":" ++ decimal column
    ++ codes ": " ++ sign look (codes "0")

abbrev pub indented : List ℕ → List ℕ
indented line = codes "\n    " ++ line

-- what stands below a column; red where there are colours
abbrev pub mark : Look → List ℕ
mark look = sign look (codes "31") ++ codes "^" ++ sign look (codes "0") ++ codes "\n"

-- the place and the sentence; the bad line; and a mark below the column
abbrev pub diagnosis_text : Look → Word → Diagnosis → List ℕ
diagnosis_text look file found =
    spot look file found.line found.column ++ found.sentence.items ++ indented found.shown.items
    ++ indented found.margin.items ++ mark look
