use Rattle.std.proofs.Common.{◌+◌, ◌*◌, ◌-◌, ◌≡◌, ◌∷◌, drop}
use Rattle.pardo_program.specs.Expression.{first_of}
use Rattle.pardo_text.specs.Expressions.{chained, turns_at, level_at, operand_at, within_at}
use Rattle.pardo_text.specs.Inner.Names.{names_in}
use Rattle.pardo_text.proofs.parse.+operand.Given as goal

-- Each bracket that may still be opened counts more than all that happens within one.
abbrev pub decreases-within : goal.decreases-within
decreases-within l = 20 * l.around.now.brackets

abbrev pub decreases-bracketed : goal.decreases-bracketed
decreases-bracketed l = 20 * l.around.now.brackets + 1

abbrev pub decreases-pair : goal.decreases-pair
decreases-pair l = 20 * l.around.now.brackets + 1

abbrev pub decreases-logarithm : goal.decreases-logarithm
decreases-logarithm l = 20 * l.around.now.brackets + 1

abbrev pub decreases-index : goal.decreases-index
decreases-index l = 20 * l.around.now.brackets + 1

abbrev pub decreases-indices : goal.decreases-indices
decreases-indices l = 20 * l.around.now.brackets + 2

abbrev pub decreases-used : goal.decreases-used
decreases-used l = 20 * l.around.now.brackets + 3

abbrev pub decreases-named : goal.decreases-named
decreases-named l = 20 * l.around.now.brackets + 4

abbrev pub decreases-operand : goal.decreases-operand
decreases-operand l = 20 * l.around.now.brackets + 5

abbrev pub decreases-leveled : goal.decreases-leveled
decreases-leveled l = 20 * l.around.now.brackets + 6 + 2 * l.level

abbrev pub decreases-chain : goal.decreases-chain
decreases-chain l = 20 * l.around.now.brackets + 5 + 2 * l.level

abbrev pub invariant-chain-loop-turn : goal.invariant-chain-loop-turn
invariant-chain-loop-turn l =
    let operand = level_at (operand_at (names_in l.around.names.now)
    (within_at (names_in l.around.names.now) l.around.brackets)) (l.level - 1) l.around.scope in
    (l.exprs ≡ first_of l.exprs ∷ drop 1 l.initial.exprs)
    × (chained operand l.level (turns_at l.level l.initial.tokens)
    (first_of l.initial.exprs) l.initial.tokens
    ≡ chained operand l.level (l._turn-end - l._turn) (first_of l.exprs) l.tokens)
