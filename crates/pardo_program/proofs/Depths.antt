-- How deep blocks of an `if` stand.
use Rattle.std.proofs.Common.{ℕ, ◌+◌, ◌≤◌, Bool, true, false, if◌then◌else◌, List, [], ◌∷◌, length}
use Rattle.std.proofs.Common.{arith}
use Rattle.pardo_program.specs.declared.block.Block.{Block}
use Rattle.pardo_program.specs.Blocks.{is_choice, choice_depth}

one_more : (choice : Bool) (depth len : ℕ) → depth ≤ len →
    (if choice then depth + 1 else depth) ≤ len + 1
one_more true depth len few = omega arith
one_more false depth len few = omega arith

-- not every open block is a part of an `if`
pub depth_few : (blocks : List Block) → choice_depth blocks ≤ length blocks
depth_few [] = omega arith
depth_few (block ∷ blocks) =
    let more = one_more (is_choice block) (choice_depth blocks) (length blocks)
    (depth_few blocks) in
    omega (arith, more)
