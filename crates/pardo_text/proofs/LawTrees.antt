-- What holds of each expression that is read.
use Rattle.std.proofs.Common.{◌≡◌, ℕ, zero, suc, ◌^◌, ◌<◌, ◌==◌, true, List, [], ◌∷◌}
use Rattle.std.proofs.Common.{Option, Some, None, Ok, Err, IfOk, refl, sym, subst, is_some}
use Rattle.std.proofs.Common.{nat_lt, arith, if◌then◌else◌}
use Rattle.std.proofs.lemmas.Bool.Decides.{nat_tests}
use Rattle.pardo_text.specs.declared.fault.PardoKind.TheVariants.{WrongKind}
use Rattle.pardo_text.specs.declared.names.Named.{Named}
use Rattle.pardo_text.specs.declared.names.Named.TheVariants as thing
use Rattle.pardo_text.specs.declared.names.Scope.{Scope}
use Rattle.pardo_text.specs.declared.names.Scope.TheVariants.{Fixed}
use Rattle.pardo_program.specs.declared.operation.Op.{Op}
use Rattle.pardo_program.specs.declared.operation.Op.TheVariants.{Add, Mul}
use Rattle.pardo_text.specs.declared.symbol.Symbol.TheVariants as the
use Rattle.pardo_program.specs.Expression.{Tree, number, place}
use Rattle.pardo_text.specs.Expressions.{Read, Inner, rest_after_mark}
use Rattle.pardo_text.specs.Expressions.{indexed, joined}
use Rattle.pardo_program.specs.Folding.{applied}
use Rattle.pardo_text.specs.Expressions.{pair_at, used_at, place_at, table_at, indices_at, index_at}
use Rattle.pardo_text.specs.Expressions.{after_row}
use Rattle.pardo_program.specs.Folding.{tested, constant_of}
use Rattle.pardo_text.specs.Expressions.{named_at, operand_at, operator_at, chained, turns_at}
use Rattle.pardo_text.specs.Expressions.{level_at, within_at, expression_at, log_of, fixed_value}
use Rattle.text_lines.specs.Lines.{Word}
use Rattle.pardo_text.specs.Names.{Names, admits, tree_from}
use Rattle.pardo_program.specs.Operations.{level_of, loosest}
use Rattle.text_lines.specs.Reads.{◌>>=◌}
use Rattle.pardo_text.specs.Tokens.{Token, name, number as literal, symbol}
use Rattle.pardo_text.proofs.Ifs.{ok_bind, ok_after, ok_if}
use Rattle.pardo_text.specs.declared.part.Mark.TheVariants as mark

log_small : (value : ℕ) → log_of value < 2 ^ 32
unfolding log_of
log_small value = omega arith

-- not an array
abbrev pub IsBare : Named → Type 0
IsBare (thing.Array array) = ⊥
IsBare (thing.Table array rows columns) = ⊥
IsBare _ = Unit {0}

-- what makes P hold of each expression that stands in this scope
pub record Keeps (names : Names) (scope : Scope) (P : Tree → Type 0) : Type 0 where
  pub numbers : (value : ℕ) → value < 2 ^ 32 → P (number value)
  pub bare : (word : Word) (found : Named) → names word ≡ Some found → admits scope found ≡ true →
      IsBare found → P (tree_from found)
  pub placed : (word : Word) (array : ℕ) (index : Tree) → names word ≡ Some (thing.Array array) →
      admits scope (thing.Array array) ≡ true → P index → P (place array index)
  pub tabled : (word : Word) (array rows columns : ℕ) (row column : Tree) →
      names word ≡ Some (thing.Table array rows columns) →
      admits scope (thing.Table array rows columns) ≡ true → P row → P column →
      P (place array (applied Add
      (applied Mul (tested rows row (constant_of row)) (number columns))
      (tested columns column (constant_of column))))
  pub joins : (op : Op) (first second : Tree) → P first → P second →
      IfOk (joined op first second) P
  pub pairs : (op : Op) (first second : Tree) → level_of op ≡ 0 → P first → P second →
      P (applied op first second)

module _ (names : Names) (scope : Scope) (P : Tree → Type 0) (keeps : Keeps names scope P) where
  abbrev Kept : Tree × List Token → Type 0
  Kept read = P read.0

  abbrev KeptIn : (List Token → Read Tree) → Type 0
  KeptIn inner = (tokens : List Token) → IfOk (inner tokens) Kept

  placed_at : (inner : Inner) (word : Word) (array : ℕ) (inside : Option (List Token)) →
      KeptIn (inner scope) → names word ≡ Some (thing.Array array) →
      admits scope (thing.Array array) ≡ true → IfOk (place_at inner scope array inside) Kept
  placed_at inner word array None kept e f = tt
  placed_at inner word array (Some tokens) kept e f =
      ok_bind (inner scope tokens) _ Kept Kept (kept tokens) (λ index p.
      ok_after (rest_after_mark mark.CloseIndex index.1) _ Kept
      (λ rest. keeps.placed word array index.0 e f p))

  -- an index that was read, with its test where it has one
  abbrev Tested : ℕ → Tree × List Token → Type 0
  Tested n read = (tree : Tree) × P tree × (read.0 ≡ tested n tree (constant_of tree))

  index_kept : (inner : Inner) (n : ℕ) (tokens : List Token) → KeptIn (inner scope) →
      IfOk (index_at inner scope n tokens) (Tested n)
  index_kept inner n tokens kept = ok_bind (inner scope tokens) _ Kept (Tested n) (kept tokens)
      (λ tree p. (tree.0, p, refl))

  indices_kept : (inner : Inner) (word : Word) (array rows columns : ℕ) (tokens : List Token) →
      KeptIn (inner scope) → names word ≡ Some (thing.Table array rows columns) →
      admits scope (thing.Table array rows columns) ≡ true →
      IfOk (indices_at inner scope rows columns tokens) (λ read. P (place array read.0))
  indices_kept inner word array rows columns tokens kept e f =
      ok_bind (index_at inner scope rows tokens) _ (Tested rows)
      (λ read. P (place array read.0)) (index_kept inner rows tokens kept) (λ row p.
      ok_after (after_row row.1) _ (λ read. P (place array read.0)) (λ between.
      ok_bind (index_at inner scope columns between) _ (Tested columns)
      (λ read. P (place array read.0)) (index_kept inner columns between kept) (λ column q.
      ok_after (rest_after_mark mark.CloseIndex column.1) _ (λ read. P (place array read.0))
      (λ rest. subst
      (λ r. P (place array (applied Add (applied Mul r (number columns)) column.0))) (sym p.2)
      (subst (λ c. P (place array (applied Add
      (applied Mul (tested rows p.0 (constant_of p.0)) (number columns)) c))) (sym q.2)
      (keeps.tabled word array rows columns p.0 q.0 e f p.1 q.1))))))

  tabled_at : (inner : Inner) (word : Word) (array rows columns : ℕ)
      (inside : Option (List Token)) → KeptIn (inner scope) →
      names word ≡ Some (thing.Table array rows columns) →
      admits scope (thing.Table array rows columns) ≡ true →
      IfOk (table_at inner scope array rows columns inside) Kept
  tabled_at inner word array rows columns None kept e f = tt
  tabled_at inner word array rows columns (Some tokens) kept e f =
      ok_bind (indices_at inner scope rows columns tokens) _
      (λ read. P (place array read.0)) Kept
      (indices_kept inner word array rows columns tokens kept e f) (λ index p. p)

  bare_at : (word : Word) (found : Named) (tokens : List Token) → names word ≡ Some found →
      admits scope found ≡ true → IsBare found →
      IfOk (if is_some (indexed tokens) then Err WrongKind else Ok (tree_from found, tokens)) Kept
  bare_at word found tokens e f is =
      ok_if (is_some (indexed tokens)) _ _ Kept (λ _. tt) (λ _. keeps.bare word found e f is)

  used : (inner : Inner) (word : Word) (found : Named) (tokens : List Token) →
      KeptIn (inner scope) → names word ≡ Some found → admits scope found ≡ true →
      IfOk (used_at inner scope found tokens) Kept
  used inner word (thing.Array array) tokens kept e f =
      placed_at inner word array (indexed tokens) kept e f
  used inner word (thing.Table array rows columns) tokens kept e f =
      tabled_at inner word array rows columns (indexed tokens) kept e f
  used inner word (thing.Constant value) tokens kept e f =
      bare_at word (thing.Constant value) tokens e f tt
  used inner word thing.Own tokens kept e f = bare_at word thing.Own tokens e f tt
  used inner word (thing.Scalar array) tokens kept e f =
      bare_at word (thing.Scalar array) tokens e f tt
  used inner word (thing.Private x) tokens kept e f =
      bare_at word (thing.Private x) tokens e f tt
  used inner word (thing.Loop nest) tokens kept e f = bare_at word (thing.Loop nest) tokens e f tt

  named : (inner : Inner) (word : Word) (found : Option Named) (tokens : List Token) →
      KeptIn (inner scope) → names word ≡ found → IfOk (named_at inner scope found tokens) Kept
  named inner word None tokens kept e = tt
  named inner word (Some found) tokens kept e =
      ok_if (admits scope found) _ _ Kept (λ f. used inner word found tokens kept e f) (λ _. tt)

  pair : (inner : Inner) (op : Op) (tokens : List Token) → KeptIn (inner scope) →
      level_of op ≡ 0 → IfOk (pair_at inner scope op tokens) Kept
  pair inner op tokens kept e =
      ok_after (rest_after_mark mark.Open tokens) _ Kept (λ opened.
      ok_bind (inner scope opened) _ Kept Kept (kept opened) (λ first p.
      ok_after (rest_after_mark mark.Comma first.1) _ Kept (λ between.
      ok_bind (inner scope between) _ Kept Kept (kept between) (λ second q.
      ok_after (rest_after_mark mark.Close second.1) _ Kept
      (λ rest. keeps.pairs op first.0 second.0 e p q)))))

  operand : (inner : Inner) → KeptIn (inner scope) → KeptIn (operand_at names inner scope)
  unfolding operand_at
  operand inner kept [] = tt
  operand inner kept (literal value ∷ rest) =
      ok_if (nat_lt value (2 ^ 32)) _ _ Kept
      (λ e. keeps.numbers value (let few : value < 2 ^ 32 = grind (arith, nat_tests) in few))
      (λ _. tt)
  operand inner kept (name word ∷ rest) = named inner word (names word) rest kept refl
  operand inner kept (symbol the.Open ∷ rest) =
      ok_bind (inner scope rest) _ Kept Kept (kept rest)
      (λ tree p. ok_after (rest_after_mark mark.Close tree.1) _ Kept (λ _. p))
  operand inner kept (symbol the.Lg ∷ rest) =
      ok_after (rest_after_mark mark.Open rest) _ Kept (λ opened.
      ok_after (inner Fixed opened) _ Kept (λ tree.
      ok_after (rest_after_mark mark.Close tree.1) _ Kept (λ _.
      keeps.numbers (log_of (fixed_value tree.0)) (log_small (fixed_value tree.0)))))
  operand inner kept (symbol (the.Operator op) ∷ rest) =
      ok_if (level_of op == 0) _ _ Kept
      (λ e. pair inner op rest kept (let none : level_of op ≡ 0 = grind (arith, nat_tests) in none))
      (λ _. tt)
  operand inner kept (symbol other ∷ rest) = tt

  abbrev KeptAfter : (Tree → List Token → Read Tree) → Type 0
  KeptAfter more = (tree : Tree) (tokens : List Token) → P tree → IfOk (more tree tokens) Kept

  after_operator : (inner : List Token → Read Tree) (more : Tree → List Token → Read Tree)
      (first : Tree) (tokens : List Token) (found : Option (Op × List Token)) → KeptIn inner →
      KeptAfter more → P first → IfOk (elim found as (λ x. Read Tree) [
        | None ↦ Ok (first, tokens)
        | Some found ↦ (inner found.1 >>= λ second. joined found.0 first second.0 >>=
            λ tree. more tree second.1)
      ]) Kept
  after_operator inner more first tokens None kept after p = p
  after_operator inner more first tokens (Some found) kept after p =
      ok_bind (inner found.1) _ Kept Kept (kept found.1) (λ second q.
      ok_bind (joined found.0 first second.0) _ P Kept
      (keeps.joins found.0 first second.0 p q) (λ tree both. after tree second.1 both))

  chain : (inner : List Token → Read Tree) (level turns : ℕ) → KeptIn inner →
      KeptAfter (chained inner level turns)
  chain inner level zero kept first tokens p = p
  chain inner level (suc turns) kept first tokens p =
      after_operator inner (chained inner level turns) first tokens
      (operator_at level tokens) kept (chain inner level turns kept) p

  leveled : (inner : Inner) (level : ℕ) → KeptIn (inner scope) →
      KeptIn (level_at inner level scope)
  unfolding level_at
  leveled inner zero kept tokens = kept tokens
  leveled inner (suc level) kept tokens =
      ok_bind (level_at inner level scope tokens) _ Kept Kept (leveled inner level kept tokens)
      (λ first p. chain (level_at inner level scope) (suc level) (turns_at (suc level) first.1)
      (leveled inner level kept) first.0 first.1 p)

  within : (left : ℕ) → KeptIn (within_at names left scope)
  unfolding within_at
  within zero tokens = tt
  within (suc left) tokens =
      leveled (operand_at names (within_at names left)) loosest
      (operand (within_at names left) (within left)) tokens

  pub places_kept : (left : ℕ) (word : Word) (array rows columns : ℕ) (tokens : List Token) →
      names word ≡ Some (thing.Table array rows columns) →
      admits scope (thing.Table array rows columns) ≡ true →
      IfOk (indices_at (within_at names left) scope rows columns tokens)
      (λ read. P (place array read.0))
  places_kept left word array rows columns tokens e f =
      indices_kept (within_at names left) word array rows columns tokens (within left) e f

  pub within_kept : (left : ℕ) → KeptIn (within_at names left scope)
  within_kept left = within left

  pub expression_kept : (tokens : List Token) →
      IfOk (expression_at names scope tokens) (λ read. P read.0)
  unfolding expression_at
  expression_kept tokens = within 33 tokens
