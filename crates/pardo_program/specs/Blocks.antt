-- Blocks of code.
use Rattle.std.specs.Prelude.{ℕ, ◌+◌, Bool, true, false, if◌then◌else◌, List, [], ◌∷◌}
use Rattle.pardo_program.specs.declared.block.Block.{Block}
use Rattle.pardo_program.specs.declared.block.Block.TheVariants as block
use Rattle.pardo_program.specs.declared.statement.Statement.{Statement}
use Rattle.pardo_program.specs.declared.statement.Statement.TheVariants as statement

-- whether a block is a part of an `if`
abbrev pub is_choice : Block → Bool
is_choice block.If = true
is_choice block.Else = true
is_choice block.Elsif = true
is_choice _ = false

-- how many of the open blocks are
abbrev pub choice_depth : List Block → ℕ
choice_depth [] = 0
choice_depth (block ∷ blocks) =
    if is_choice block then choice_depth blocks + 1 else choice_depth blocks

-- The opening line of a loop learns the place of its end.
abbrev pub loop_ending_at : ℕ → Statement → Statement
loop_ending_at end (statement.While condition old) = statement.While condition end
loop_ending_at end (statement.For nest first last up old) = statement.For nest first last up end
loop_ending_at end other = other
