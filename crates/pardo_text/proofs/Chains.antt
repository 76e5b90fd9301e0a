-- Levels of expressions, and chains of operations.
use Rattle.std.proofs.Common.{◌≡◌, ℕ, zero, suc, ◌+◌, ◌-◌, ◌<◌, ◌≤◌, List, Some, None}
use Rattle.std.proofs.Common.{Ok, Err, refl, sym, ap, ◌∙◌, arith}
use Rattle.pardo_text.specs.declared.fault.PardoKind.{PardoKind}
use Rattle.pardo_text.specs.declared.fault.PardoKind.TheVariants.{TooDeep}
use Rattle.pardo_text.specs.declared.names.Scope.{Scope}
use Rattle.pardo_program.specs.declared.operation.Op.{Op}
use Rattle.pardo_program.specs.declared.operation.Op.TheVariants.{Div, Rem}
use Rattle.std.specs.Bool.{IsTrue}
use Rattle.pardo_program.specs.Expression.{Tree}
use Rattle.pardo_text.specs.Expressions.{Read, Inner, operator_at, operand_at, joined, chained}
use Rattle.pardo_text.specs.Expressions.{turns_at, level_at, within_at}
use Rattle.pardo_text.specs.Names.{Names}
use Rattle.pardo_program.specs.Operations.{loosest, level_of, is_division}
use Rattle.text_lines.specs.Reads.{◌>>=◌}
use Rattle.pardo_text.specs.Tokens.{Token}

-- ---- brackets

pub within_at_none : (names : Names) (left : ℕ) (scope : Scope) (tokens : List Token) →
    left ≡ 0 → within_at names left scope tokens ≡ Err TooDeep
unfolding within_at
within_at_none names left scope tokens e = rw e refl

pub within_at_more : (names : Names) (left less : ℕ) (scope : Scope) (tokens : List Token) →
    left ≡ less + 1 → within_at names left scope tokens
    ≡ level_at (operand_at names (within_at names less)) loosest scope tokens
unfolding within_at
within_at_more names zero less scope tokens e = absurd (omega arith)
within_at_more names (suc left) less scope tokens e =
    let same : left ≡ less = omega arith in rw same refl

-- ---- levels

pub level_at_zero : (operand : Inner) (level : ℕ) (scope : Scope) (tokens : List Token) →
    level ≡ 0 → level_at operand level scope tokens ≡ operand scope tokens
unfolding level_at
level_at_zero operand level scope tokens e = rw e refl

pub level_at_more : (operand : Inner) (level : ℕ) (scope : Scope) (tokens : List Token) →
    0 < level → level_at operand level scope tokens
    ≡ (level_at operand (level - 1) scope tokens >>= λ first.
    chained (level_at operand (level - 1) scope) level (turns_at level first.1) first.0
    first.1)
unfolding level_at
level_at_more operand zero scope tokens lt = absurd (omega arith)
level_at_more operand (suc level) scope tokens lt =
    let same : suc level - 1 ≡ level = omega arith in rw same refl

-- ---- chains

chained_none : (operand : List Token → Read Tree) (level turns : ℕ)
    (first : Tree) (tokens : List Token) → operator_at level tokens ≡ None →
    chained operand level turns first tokens ≡ Ok (first, tokens)
chained_none operand level zero first tokens e = refl
chained_none operand level (suc turns) first tokens e = rw (e, chained) refl

-- where no operation of the level comes next, with the tokens that are left
pub chained_ends : (operand : List Token → Read Tree) (level turns : ℕ)
    (first : Tree) (tokens rest : List Token) → operator_at level tokens ≡ None → rest ≡ tokens →
    chained operand level turns first tokens ≡ Ok (first, rest)
chained_ends operand level turns first tokens rest e f =
    chained_none operand level turns first tokens e
    ∙ ap (λ left. Ok (first, left)) (sym f)

pub chained_operand : (operand : List Token → Read Tree) (level n i : ℕ)
    (first : Tree) (tokens rest : List Token) (op : Op) (kind : PardoKind) → i < n →
    operator_at level tokens ≡ Some (op, rest) → operand rest ≡ Err kind →
    chained operand level (n - i) first tokens ≡ Err kind
chained_operand operand level n i first tokens rest op kind lt e f =
    let more : n - i ≡ suc (n - (i + 1)) = omega arith in rw (more, chained, e, f) refl

pub chained_join : (operand : List Token → Read Tree) (level n i : ℕ)
    (first second : Tree) (tokens rest after : List Token) (op : Op) (kind : PardoKind) → i < n →
    operator_at level tokens ≡ Some (op, rest) → operand rest ≡ Ok (second, after) →
    joined op first second ≡ Err kind →
    chained operand level (n - i) first tokens ≡ Err kind
chained_join operand level n i first second tokens rest after op kind lt e f g =
    let more : n - i ≡ suc (n - (i + 1)) = omega arith in rw (more, chained, e, f, g) refl

pub chained_more : (operand : List Token → Read Tree) (level n i : ℕ)
    (first second tree : Tree) (tokens rest after : List Token) (op : Op) → i < n →
    operator_at level tokens ≡ Some (op, rest) → operand rest ≡ Ok (second, after) →
    joined op first second ≡ Ok tree →
    chained operand level (n - i) first tokens
    ≡ chained operand level (n - (i + 1)) tree after
chained_more operand level n i first second tree tokens rest after op lt e f g =
    let more : n - i ≡ suc (n - (i + 1)) = omega arith in rw (more, chained, e, f, g) refl

pub chained_begins : (operand : List Token → Read Tree) (level n m : ℕ)
    (first : Tree) (tokens : List Token) → n ≡ m → chained operand level m first tokens
    ≡ chained operand level (n - 0) first tokens
chained_begins operand level n m first tokens e =
    let same : n - 0 ≡ m = omega arith in rw same refl

pub chained_over : (operand : List Token → Read Tree) (level n i : ℕ)
    (first : Tree) (tokens : List Token) → n ≤ i →
    chained operand level (n - i) first tokens ≡ Ok (first, tokens)
chained_over operand level n i first tokens few =
    let none : n - i ≡ 0 = omega arith in rw none refl

-- ---- what stands before its operands

pub before_is_no_division : (op : Op) → level_of op ≡ 0 → IsTrue (is_division op) → ⊥
unfolding level_of is_division
before_is_no_division Div e is = omega arith
before_is_no_division Rem e is = omega arith
before_is_no_division op e is = cc
