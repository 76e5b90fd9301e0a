-- What a line names.
use Rattle.std.specs.Prelude.{ℕ, List, [], Option, option_map}
use Rattle.std.specs.Borrow.{Bor}
use Rattle.command_data.specs.CellLists.{part_at, parts_of}
use Rattle.command_data.specs.declared.line.Ask.{Ask}
use Rattle.command_data.specs.declared.line.Ask.TheVariants.{OnThreads}
use Rattle.command_data.specs.declared.line.AskOnThreads.TheVariants.{Watch}

abbrev pub text_now : Option (Bor (List ℕ)) → Option (List ℕ)
text_now = option_map (λ text. text.now)

-- the part of this number of the list of cells that a watch reads
abbrev pub watched_place : Ask → ℕ → List ℕ
watched_place (OnThreads (Watch watch)) at = part_at (parts_of watch.cells.text.now) at
watched_place _ at = []
