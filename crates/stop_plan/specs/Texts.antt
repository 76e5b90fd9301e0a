-- A plan as a text.
use Rattle.std.specs.Prelude.{ℕ, List, [], ◌∷◌, ◌++◌, codes, decimal}
use Rattle.stop_plan.specs.declared.plan.Act.{Act}
use Rattle.stop_plan.specs.declared.plan.Act.TheVariants.{Go, Sleep, Back, Stop}
use Rattle.stop_plan.specs.declared.plan.Row.{Row}

abbrev pub act_word : Act → List ℕ
act_word Go = codes "go"
act_word Sleep = codes "sleep"
act_word Back = codes "back"
act_word Stop = codes "stop"

-- the line of a row
abbrev pub plan_line : Row → List ℕ
plan_line row = decimal row.worker ++ codes "," ++ act_word row.act ++ codes ","
    ++ decimal row.ticks ++ codes "\n"

-- a line for each row
abbrev pub plan_lines : List Row → List ℕ
plan_lines [] = []
plan_lines (row ∷ rows) = plan_line row ++ plan_lines rows

-- the header, and a line for each row
abbrev pub plan_text : List Row → List ℕ
plan_text rows = codes "worker,act,ticks\n" ++ plan_lines rows
