-- Lines of code.
use Rattle.std.specs.Prelude.{ℕ, Bool, true, false, if◌then◌else◌, List, [], ◌∷◌, length, codes}
use Rattle.std.specs.Prelude.{is_some, Option, Some, None, Result, Ok, Err}
use Rattle.std.specs.Str.{bytes_eq}
use Rattle.pardo_text.specs.declared.fault.PardoKind.{PardoKind}
use Rattle.pardo_text.specs.declared.fault.PardoKind.TheVariants.{BadLine, UnknownName, WrongKind}
use Rattle.pardo_text.specs.declared.fault.PardoKind.TheVariants.{BadBlock}
use Rattle.pardo_text.specs.declared.names.Named.{Named}
use Rattle.pardo_text.specs.declared.names.Named.TheVariants as thing
use Rattle.pardo_text.specs.declared.names.Scope.{Scope}
use Rattle.pardo_text.specs.declared.names.Scope.TheVariants.{Bound, Uniform, Any}
use Rattle.pardo_program.specs.declared.operation.Op.TheVariants.{Div}
use Rattle.pardo_program.specs.declared.block.Block.{Block}
use Rattle.pardo_program.specs.declared.block.Block.TheVariants as block
use Rattle.pardo_program.specs.declared.statement.Statement.{Statement}
use Rattle.pardo_program.specs.declared.statement.Statement.TheVariants as statement
use Rattle.pardo_program.specs.declared.statement.Target.{Target}
use Rattle.pardo_program.specs.declared.statement.Target.TheVariants as target
use Rattle.pardo_text.specs.declared.symbol.Symbol.TheVariants as the
use Rattle.pardo_text.specs.Drafts.{Draft, fitting, with_line, with_block, with_loop, without}
use Rattle.pardo_text.specs.Drafts.{with_end}
use Rattle.pardo_program.specs.Expression.{Tree, number as constant}
use Rattle.pardo_text.specs.Expressions.{Read, rest_after_mark}
use Rattle.pardo_text.specs.Expressions.{indexed, ended, new_name, joined, expression_at}
use Rattle.pardo_text.specs.Expressions.{within_at, indices_at}
use Rattle.text_lines.specs.Lines.{Word}
use Rattle.pardo_text.specs.Names.{Names}
use Rattle.text_lines.specs.Reads.{◌>>=◌}
use Rattle.pardo_text.specs.Tokens.{Token, name, symbol}
use Rattle.pardo_text.specs.declared.part.Mark.TheVariants as mark

-- an expression to the end of the line
unfoldable pub whole_at : Names → Scope → List Token → Result Tree PardoKind
whole_at names scope tokens = do
  tree ← expression_at names scope tokens
  ended tree.0 tree.1

-- ---- assignments

abbrev pub array_place : Names → ℕ → Option (List Token) → Read Target
array_place names array None = Err WrongKind
array_place names array (Some inside) = do
  index ← expression_at names Any inside
  rest ← rest_after_mark mark.CloseIndex index.1
  Ok (target.Array array index.0, rest)

abbrev pub table_place : Names → ℕ → ℕ → ℕ → Option (List Token) → Read Target
table_place names array rows columns None = Err WrongKind
table_place names array rows columns (Some inside) = do
  index ← indices_at (within_at names 33) Any rows columns inside
  Ok (target.Array array index.0, index.1)

-- a target without an index
abbrev pub bare_target : Target → List Token → Read Target
bare_target place tokens = if is_some (indexed tokens) then Err WrongKind else Ok (place, tokens)

-- what an assignment to this name goes to
abbrev pub assignment_target : Names → Option Named → List Token → Read Target
assignment_target names None tokens = Err UnknownName
assignment_target names (Some (thing.Array array)) tokens = array_place names array (indexed tokens)
assignment_target names (Some (thing.Table array rows columns)) tokens =
    table_place names array rows columns (indexed tokens)
assignment_target names (Some (thing.Scalar array)) tokens =
    bare_target (target.Array array (constant 0)) tokens
assignment_target names (Some (thing.Private x)) tokens = bare_target (target.Private x) tokens
assignment_target names (Some other) tokens = Err WrongKind

-- what follows the name of a target
unfoldable pub assignment_at : Names → Word → List Token → Result Statement PardoKind
assignment_at names word tokens = do
  place ← assignment_target names (names word) tokens
  after ← rest_after_mark mark.Assign place.1
  value ← whole_at names Any after
  Ok (statement.Assign place.0 value)

-- what follows the name of a target, and is a line
abbrev pub assignment_line : ℕ → Draft → Word → List Token → Result Draft PardoKind
assignment_line number draft word tokens = do
  said ← assignment_at draft.names word tokens
  Ok (with_line number said draft)

-- ---- lines that open a block

-- what follows `if`
unfoldable pub if_line : ℕ → Draft → List Token → Result Draft PardoKind
if_line number draft tokens = do
  condition ← whole_at draft.names Any tokens
  fitting (with_block block.If (with_line number (statement.If condition) draft))

-- what follows `while`; where the end is stands in the line when the end is read
unfoldable pub while_line : ℕ → Draft → List Token → Result Draft PardoKind
while_line number draft tokens = do
  condition ← whole_at draft.names Uniform tokens
  Ok (with_block (block.While (length draft.lines))
      (with_line number (statement.While condition 0) draft))

-- whether a loop counts up
abbrev pub way_at : List Token → Read Bool
way_at (symbol the.To ∷ rest) = Ok (true, rest)
way_at (symbol the.Downto ∷ rest) = Ok (false, rest)
way_at _ = Err BadLine

-- what follows `for`
unfoldable pub for_line : ℕ → Draft → List Token → Result Draft PardoKind
for_line number draft tokens = do
  word ← new_name draft.names tokens
  after ← rest_after_mark mark.Equals word.1
  first ← expression_at draft.names Bound after
  way ← way_at first.1
  last ← whole_at draft.names Bound way.1
  fitting (with_loop word.0 (with_block (block.For (length draft.lines))
      (with_line number (statement.For (length draft.loops) first.0 last way.0 0) draft)))

-- ---- lines that close one

-- an `else` belongs to the innermost block, which is an `if`, and opens this block
abbrev pub else_of : Block → ℕ → Draft → List Block → Result Draft PardoKind
else_of opened number draft (block.If ∷ blocks) =
    Ok (with_block opened (with_line number statement.Else (record draft { blocks = blocks })))
else_of opened number draft _ = Err BadBlock

-- what follows `elsif`: it is an `else`, and in that an `if`
unfoldable pub elsif_line : ℕ → Draft → List Token → Result Draft PardoKind
elsif_line number draft tokens = do
  within ← else_of block.Elsif number draft draft.blocks
  if_line number within tokens

-- the `elsif`s that are now the innermost blocks end, too
abbrev pub elsifs_ended : ℕ → List Block → Draft → Draft
elsifs_ended number (block.Elsif ∷ blocks) draft =
    elsifs_ended number blocks
    (with_line number statement.EndIf (record draft { blocks = blocks }))
elsifs_ended number blocks draft = draft

-- an `end` belongs to the innermost block
abbrev pub end_block : ℕ → Draft → List Block → Result Draft PardoKind
end_block number draft [] = Err BadBlock
end_block number draft (block.While begin ∷ blocks) =
    Ok (with_line number (statement.EndWhile begin)
    (with_end begin (record draft { blocks = blocks })))
end_block number draft (block.For begin ∷ blocks) =
    Ok (with_line number (statement.EndFor begin)
    (with_end begin (without draft.loops (record draft { blocks = blocks }))))
end_block number draft (choice ∷ blocks) =
    Ok (elsifs_ended number blocks
    (with_line number statement.EndIf (record draft { blocks = blocks })))

-- ---- assertions

-- 1 divided by an expression
unfoldable pub quotient_at : Names → List Token → Read Tree
quotient_at names tokens = do
  divisor ← expression_at names Any tokens
  quotient ← joined Div (constant 1) divisor.0
  Ok (quotient, divisor.1)

-- an `if` and its `end`, of one line
abbrev pub asserted : ℕ → Tree → Draft → Draft
asserted number condition draft =
    with_line number statement.EndIf
    (record (with_block block.If (with_line number (statement.If condition) draft))
    { blocks = draft.blocks })

-- what follows `assert`: who finds 0 there divides by it, and is gone; nobody else is touched
unfoldable pub assert_line : ℕ → Draft → List Token → Result Draft PardoKind
assert_line number draft tokens = do
  quotient ← quotient_at draft.names tokens
  condition ← ended quotient.0 quotient.1
  fitting (asserted number condition draft)

-- ---- any line

-- whether a line that begins with a name has the form of this word: no assignment goes on so
abbrev pub has_form : Word → Word → List Token → Bool
has_form form word (symbol the.Assign ∷ tokens) = false
has_form form word (symbol the.OpenIndex ∷ tokens) = false
has_form form word tokens = bytes_eq word form

-- a line that begins with a name
abbrev pub named_line : ℕ → Draft → Word → List Token → Result Draft PardoKind
named_line number draft word tokens =
    if has_form (codes "elsif") word tokens then elsif_line number draft tokens
    else (if has_form (codes "assert") word tokens then assert_line number draft tokens
    else assignment_line number draft word tokens)

-- a line of this number
unfoldable pub statement_line : ℕ → Draft → List Token → Result Draft PardoKind
statement_line number draft (symbol the.If ∷ tokens) = if_line number draft tokens
statement_line number draft (symbol the.While ∷ tokens) = while_line number draft tokens
statement_line number draft (symbol the.For ∷ tokens) = for_line number draft tokens
statement_line number draft (symbol the.Else ∷ []) = else_of block.Else number draft draft.blocks
statement_line number draft (symbol the.End ∷ []) = end_block number draft draft.blocks
statement_line number draft (name word ∷ tokens) = named_line number draft word tokens
statement_line number draft _ = Err BadLine
