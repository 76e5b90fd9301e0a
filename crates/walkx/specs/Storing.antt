-- Stores that are remembered, and carried out in the second pass.
use Rattle.std.specs.Prelude.{ℕ, Option, Some, None}
use Rattle.walk_memory.specs.Inner.Posts.{PostData}
use Rattle.walkx.specs.Scripts.{Script}
use Rattle.walkx.specs.Walk.{Then}
use Rattle.walkx.specs.WideParts.{store_left}

-- what is left of a task, where a report may be due
abbrev pub left_of_task : PostData → Option (ℕ × ℕ) → Script Then → Script Then
left_of_task at None last = last
left_of_task at (Some write) last = store_left at.job.rule at write last
