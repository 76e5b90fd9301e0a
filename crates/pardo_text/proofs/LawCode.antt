-- Lines of code make lawful drafts of lawful ones.
use Rattle.std.proofs.Common.{◌≡◌, ℕ, ◌+◌, ◌*◌, ◌<◌, ◌≤◌, Bool, true, false, List, [], ◌∷◌}
use Rattle.std.proofs.Common.{length, max, Option, Some, None, IfOk, refl, sym, ap}
use Rattle.std.proofs.Common.{subst, arith, is_some, if◌then◌else◌}
use Rattle.std.specs.Prelude.{codes}
use Rattle.std.proofs.lemmas.Result.{IfOk-weaker}
use Rattle.std.specs.List.{All}
use Rattle.std.proofs.lemmas.List.Elements.{All-head}
use Rattle.pardo_program.specs.declared.block.Block.{Block}
use Rattle.pardo_program.specs.declared.block.Block.TheVariants as block
use Rattle.pardo_program.specs.declared.limits.TheConstants.{MAX_CELLS}
use Rattle.pardo_text.specs.declared.names.Named.{Named}
use Rattle.pardo_text.specs.declared.names.Named.TheVariants as thing
use Rattle.pardo_text.specs.declared.names.Scope.{Scope}
use Rattle.pardo_text.specs.declared.names.Scope.TheVariants.{Bound, Uniform, Any}
use Rattle.pardo_program.specs.declared.operation.Op.TheVariants.{Div}
use Rattle.pardo_program.specs.declared.statement.Statement.{Statement}
use Rattle.pardo_program.specs.declared.statement.Statement.TheVariants as statement
use Rattle.pardo_program.specs.declared.statement.Target.{Target}
use Rattle.pardo_text.specs.declared.symbol.Symbol.TheVariants as the
use Rattle.pardo_program.specs.Blocks.{choice_depth, is_choice}
use Rattle.pardo_text.specs.Code.{whole_at, array_place, table_place, bare_target}
use Rattle.pardo_text.specs.Code.{assignment_target}
use Rattle.pardo_text.specs.Code.{assignment_at}
use Rattle.pardo_text.specs.Code.{if_line}
use Rattle.pardo_text.specs.Code.{while_line, way_at, for_line, else_of, elsif_line, elsifs_ended}
use Rattle.pardo_text.specs.Code.{end_block, quotient_at, asserted, assert_line, has_form}
use Rattle.pardo_text.specs.Code.{assignment_line, named_line, statement_line}
use Rattle.pardo_text.specs.Drafts.{Draft, cells_needed, fitting, with_line, with_block, with_loop}
use Rattle.pardo_text.specs.Drafts.{without, with_end}
use Rattle.pardo_program.specs.Expression.{Tree, number, place}
use Rattle.pardo_text.specs.Expressions.{new_name, rest_after_mark, ended}
use Rattle.pardo_text.specs.Expressions.{indexed, joined, expression_at, indices_at, within_at}
use Rattle.pardo_program.specs.Lawful.{Bounds, IsExpression, IsCommonTree, IsTarget, IsStatement}
use Rattle.pardo_program.specs.Lawful.{masks_of}
use Rattle.text_lines.specs.Lines.{Word}
use Rattle.pardo_text.specs.Names.{Names}
use Rattle.pardo_program.specs.Program.{shared_cells}
use Rattle.pardo_text.specs.Tokens.{Token, name, symbol}
use Rattle.pardo_text.proofs.Ifs.{ok_bind, ok_after, ok_if}
use Rattle.pardo_text.proofs.LawBounds.{Grows, AreThings, IsCommonScope, keeps_tree, tree_more}
use Rattle.pardo_text.proofs.LawBounds.{keeps_common, common_more, statement_more}
use Rattle.pardo_text.proofs.LawDrafts.{IsDraft, IsLawful, IsBlock, bounds_in, fitting_kept}
use Rattle.pardo_text.proofs.LawDrafts.{more_kept, line_kept, block_kept, loop_kept, popped_kept}
use Rattle.pardo_text.proofs.LawDrafts.{without_kept, end_kept, ended_at_length}
use Rattle.pardo_text.proofs.LawHeader.{ended_kept, one_longer}
use Rattle.pardo_text.proofs.LawTrees.{expression_kept, places_kept}
use Rattle.pardo_text.specs.declared.part.Mark.TheVariants as mark

-- ---- expressions

read_kept : (b : Bounds) (names : Names) (scope : Scope) (tokens : List Token) →
    AreThings b names → IfOk (expression_at names scope tokens) (λ read. IsExpression b read.0)
read_kept b names scope tokens are =
    expression_kept names scope (IsExpression b) (keeps_tree b names scope are) tokens

whole_kept : (b : Bounds) (names : Names) (scope : Scope) (tokens : List Token) →
    AreThings b names → IfOk (whole_at names scope tokens) (IsExpression b)
unfolding whole_at
whole_kept b names scope tokens are =
    ok_bind (expression_at names scope tokens) _ (λ read. IsExpression b read.0) (IsExpression b)
    (read_kept b names scope tokens are)
    (λ tree p. ended_kept (IsExpression b) tree.0 tree.1 p)

-- the same of expressions that loops depend on
common_kept : (b : Bounds) (names : Names) (scope : Scope) (tokens : List Token) →
    IsCommonScope scope → AreThings b names →
    IfOk (expression_at names scope tokens) (λ read. IsCommonTree b read.0)
common_kept b names scope tokens common are =
    expression_kept names scope (IsCommonTree b) (keeps_common b names scope common are) tokens

common_whole_kept : (b : Bounds) (names : Names) (scope : Scope) (tokens : List Token) →
    IsCommonScope scope → AreThings b names →
    IfOk (whole_at names scope tokens) (IsCommonTree b)
unfolding whole_at
common_whole_kept b names scope tokens common are =
    ok_bind (expression_at names scope tokens) _ (λ read. IsCommonTree b read.0) (IsCommonTree b)
    (common_kept b names scope tokens common are)
    (λ tree p. ended_kept (IsCommonTree b) tree.0 tree.1 p)

bound_is_common : IsCommonScope Bound
bound_is_common = (refl, λ x. refl, λ array. refl, λ array rows columns. refl)

uniform_is_common : IsCommonScope Uniform
uniform_is_common = (refl, λ x. refl, λ array. refl, λ array rows columns. refl)

-- ---- assignments

place_kept : (b : Bounds) (names : Names) (array : ℕ) (inside : Option (List Token)) →
    array < b.arrays → AreThings b names →
    IfOk (array_place names array inside) (λ read. IsTarget b read.0)
place_kept b names array None few are = tt
place_kept b names array (Some inside) few are =
    ok_bind (expression_at names Any inside) _ (λ read. IsExpression b read.0)
    (λ read. IsTarget b read.0) (read_kept b names Any inside are)
    (λ index p. ok_after (rest_after_mark mark.CloseIndex index.1) _ (λ read. IsTarget b read.0)
    (λ rest. (few, p)))

table_kept : (b : Bounds) (names : Names) (word : Word) (array rows columns : ℕ)
    (inside : Option (List Token)) → names word ≡ Some (thing.Table array rows columns) →
    AreThings b names →
    IfOk (table_place names array rows columns inside) (λ read. IsTarget b read.0)
table_kept b names word array rows columns None e are = tt
table_kept b names word array rows columns (Some inside) e are =
    ok_bind (indices_at (within_at names 33) Any rows columns inside) _
    (λ read. IsExpression b (place array read.0)) (λ read. IsTarget b read.0)
    (places_kept names Any (IsExpression b) (keeps_tree b names Any are) 33 word array rows
    columns inside e refl) (λ index p. p)

bare_kept : (b : Bounds) (to : Target) (tokens : List Token) → IsTarget b to →
    IfOk (bare_target to tokens) (λ read. IsTarget b read.0)
bare_kept b to tokens is =
    ok_if (is_some (indexed tokens)) _ _ (λ read. IsTarget b read.0) (λ _. tt) (λ _. is)

target_kept : (b : Bounds) (names : Names) (word : Word) (found : Option Named)
    (tokens : List Token) → names word ≡ found → AreThings b names →
    IfOk (assignment_target names found tokens) (λ read. IsTarget b read.0)
target_kept b names word None tokens e are = tt
target_kept b names word (Some (thing.Array array)) tokens e are =
    place_kept b names array (indexed tokens) (are word (thing.Array array) e) are
target_kept b names word (Some (thing.Table array rows columns)) tokens e are =
    table_kept b names word array rows columns (indexed tokens) e are
target_kept b names word (Some (thing.Scalar array)) tokens e are =
    bare_kept b _ tokens (are word (thing.Scalar array) e, omega arith)
target_kept b names word (Some (thing.Private x)) tokens e are =
    bare_kept b _ tokens (are word (thing.Private x) e)
target_kept b names word (Some thing.Own) tokens e are = tt
target_kept b names word (Some (thing.Constant value)) tokens e are = tt
target_kept b names word (Some (thing.Loop nest)) tokens e are = tt

-- an assignment writes no mask
abbrev IsAssignment : Bounds → Statement → Type 0
IsAssignment b said = IsStatement b said × (masks_of said ≡ 0)

assignment_kept : (b : Bounds) (names : Names) (word : Word) (tokens : List Token) →
    AreThings b names → IfOk (assignment_at names word tokens) (IsAssignment b)
unfolding assignment_at
assignment_kept b names word tokens are =
    ok_bind (assignment_target names (names word) tokens) _ (λ read. IsTarget b read.0)
    (IsAssignment b)
    (target_kept b names word (names word) tokens refl are) (λ to p.
    ok_after (rest_after_mark mark.Assign to.1) _ (IsAssignment b) (λ after.
    ok_bind (whole_at names Any after) _ (IsExpression b) (IsAssignment b)
    (whole_kept b names Any after are) (λ value q. ((p, q), refl))))

-- ---- lines in which no block is opened

-- a draft with more lines, and all else as before
line_grows : (n : ℕ) (said : Statement) (d : Draft) →
    Grows (bounds_in d) (bounds_in (with_line n said d))
line_grows n said d = record {
  arrays = omega arith;
  privates = omega arith;
  loops = omega arith;
  choices = omega arith;
  lines = omega (
    arith,
    one_longer d.lines
        (record { statement = said; depth = choice_depth d.blocks; number = n }),
  );
}

-- one line more that is lawful already before it
plain_draft : (n : ℕ) (said : Statement) (d : Draft) → IsStatement (bounds_in d) said →
    masks_of said ≡ 0 → IsDraft (bounds_in d) d →
    IsDraft (bounds_in (with_line n said d)) (with_line n said d)
plain_draft n said d is_said few is =
    let next = with_line n said d in
    let grows = line_grows n said d in
    line_kept (bounds_in next) n said d
    (statement_more (bounds_in d) (bounds_in next) grows said is_said)
    (omega (arith, is.depth, few))
    (more_kept (bounds_in d) (bounds_in next) d grows is)

plain_line : (n : ℕ) (said : Statement) (d : Draft) → IsStatement (bounds_in d) said →
    masks_of said ≡ 0 → IsLawful d → IsLawful (with_line n said d)
plain_line n said d is_said few is = (plain_draft n said d is_said few is.0, is.1)

-- ---- lines that open a block

opened_line : (n : ℕ) (said : Statement) (opened : Block) (d : Draft) → 0 < d.procs →
    IsStatement (bounds_in (with_block opened (with_line n said d))) said →
    choice_depth d.blocks + masks_of said ≤ max d.most_choices (choice_depth (opened ∷ d.blocks)) →
    ((m : ℕ) → length d.lines < m → IsBlock m opened) →
    IsDraft (bounds_in d) d →
    IsDraft (bounds_in (with_block opened (with_line n said d)))
    (with_block opened (with_line n said d))
opened_line n said opened d some is_said few begins is =
    let lined = with_line n said d in
    let next = with_block opened lined in
    let longer = one_longer d.lines
    (record { statement = said; depth = choice_depth d.blocks; number = n }) in
    block_kept (bounds_in next) opened lined some (begins (length lined.lines) longer)
    (line_kept (bounds_in next) n said d is_said few
    (more_kept (bounds_in d) (bounds_in next) d (record {
      arrays = omega arith;
      privates = omega arith;
      loops = omega arith;
      choices = omega arith;
      lines = omega (arith, longer);
    }) is))

opened_if : (n : ℕ) (d : Draft) (condition : Tree) → 0 < d.procs →
    IsExpression (bounds_in d) condition → IsDraft (bounds_in d) d →
    IsDraft (bounds_in (with_block block.If (with_line n (statement.If condition) d)))
    (with_block block.If (with_line n (statement.If condition) d))
opened_if n d condition some p is =
    let next = with_block block.If (with_line n (statement.If condition) d) in
    opened_line n (statement.If condition) block.If d some
    (tree_more (bounds_in d) (bounds_in next) (record {
      arrays = omega arith;
      privates = omega arith;
      loops = omega arith;
      choices = omega arith;
      lines = omega (
        arith,
        one_longer d.lines
            (record {
              statement = statement.If condition;
              depth = choice_depth d.blocks;
              number =
                  n;
            }),
      );
    }) condition p) (omega arith) (λ m lt. tt) is

if_kept : (n : ℕ) (d : Draft) (tokens : List Token) → 0 < d.procs → IsLawful d →
    IfOk (if_line n d tokens) IsLawful
unfolding if_line
if_kept n d tokens some is =
    ok_bind (whole_at d.names Any tokens) _ (IsExpression (bounds_in d)) IsLawful
    (whole_kept (bounds_in d) d.names Any tokens is.0.names) (λ condition p.
    fitting_kept (with_block block.If (with_line n (statement.If condition) d))
    (opened_if n d condition some p is.0))

-- the cells of a draft in which no more `if`s were open than before
same_cells : (d : Draft) (depth : ℕ) → depth ≤ d.most_choices → cells_needed d ≤ MAX_CELLS →
    shared_cells d.arrays + d.procs * (length d.privates + d.most_loops + max d.most_choices depth)
    ≤ MAX_CELLS
same_cells d depth few fit = let same : max d.most_choices depth ≡ d.most_choices = omega arith in
    subst (λ choices. shared_cells d.arrays + d.procs * (length d.privates + d.most_loops + choices)
    ≤ MAX_CELLS) (sym same) fit

while_kept : (n : ℕ) (d : Draft) (tokens : List Token) → 0 < d.procs → IsLawful d →
    IfOk (while_line n d tokens) IsLawful
unfolding while_line
while_kept n d tokens some is =
    ok_bind (whole_at d.names Uniform tokens) _ (IsCommonTree (bounds_in d)) IsLawful
    (common_whole_kept (bounds_in d) d.names Uniform tokens uniform_is_common is.0.names)
    (λ condition p.
    let said : Statement = statement.While condition 0 in
    let opened : Block = block.While (length d.lines) in
    let longer = one_longer d.lines
    (record { statement = said; depth = choice_depth d.blocks; number = n }) in
    let next = with_block opened (with_line n said d) in (
      opened_line n said opened d some (
        common_more (bounds_in d) (bounds_in next) (record {
          arrays = omega arith;
          privates = omega arith;
          loops = omega arith;
          choices = omega arith;
          lines = omega (arith, longer);
        }) condition p,
        omega (arith, longer),
      )
          (omega (arith, is.0.depth)) (λ m lt. lt) is.0,
      same_cells d (choice_depth d.blocks) is.0.depth is.1,
    ))

for_made : (n : ℕ) (d : Draft) (word : Word) (first last : Tree) (up : Bool) → 0 < d.procs →
    IsCommonTree (bounds_in d) first → IsCommonTree (bounds_in d) last → IsLawful d →
    IfOk (fitting (with_loop word (with_block (block.For (length d.lines))
    (with_line n (statement.For (length d.loops) first last up 0) d)))) IsLawful
for_made n d word first last up some p q is =
    let said : Statement = statement.For (length d.loops) first last up 0 in
    let opened : Block = block.For (length d.lines) in
    let longer = one_longer d.lines
    (record { statement = said; depth = choice_depth d.blocks; number = n }) in
    let lined = with_line n said d in
    let deeper = with_block opened lined in
    let next = with_loop word deeper in
    let grows : Grows (bounds_in d) (bounds_in next) = record {
      arrays = omega arith;
      privates = omega arith;
      loops = omega arith;
      choices = omega arith;
      lines = omega (arith, longer);
    } in
    let tree = common_more (bounds_in d) (bounds_in next) grows in
    fitting_kept next (loop_kept (bounds_in next) word deeper some (omega arith)
    (block_kept (bounds_in next) opened lined some longer
    (line_kept (bounds_in next) n said d
    (omega arith, tree first p, tree last q, omega (arith, longer))
    (omega (arith, is.0.depth)) (more_kept (bounds_in d) (bounds_in next) d grows is.0))))

for_kept : (n : ℕ) (d : Draft) (tokens : List Token) → 0 < d.procs → IsLawful d →
    IfOk (for_line n d tokens) IsLawful
unfolding for_line
for_kept n d tokens some is =
    ok_after (new_name d.names tokens) _ IsLawful (λ word.
    ok_after (rest_after_mark mark.Equals word.1) _ IsLawful (λ after.
    ok_bind (expression_at d.names Bound after) _ (λ read. IsCommonTree (bounds_in d) read.0)
    IsLawful
    (common_kept (bounds_in d) d.names Bound after bound_is_common is.0.names) (λ first p.
    ok_after (way_at first.1) _ IsLawful (λ way.
    ok_bind (whole_at d.names Bound way.1) _ (IsCommonTree (bounds_in d)) IsLawful
    (common_whole_kept (bounds_in d) d.names Bound way.1 bound_is_common is.0.names) (λ last q.
    for_made n d word.0 first.0 last way.0 some p q is)))))

-- ---- lines that close one

-- what a block is that an `else` opens
abbrev IsElse : Block → Type 0
IsElse opened = (is_choice opened ≡ true) × ((m : ℕ) → IsBlock m opened)

-- it is as deep as its `if`
else_depth : (choosing : Bool) (depth : ℕ) → choosing ≡ true →
    (if choosing then depth + 1 else depth) ≡ depth + 1
else_depth true depth e = refl
else_depth false depth e = absurd (cc e)

-- a lawful draft with processors
abbrev IsStarted : Draft → Type 0
IsStarted d = IsLawful d × (0 < d.procs)

else_kept : (opened : Block) (n : ℕ) (d : Draft) (blocks : List Block) → d.blocks ≡ blocks →
    IsElse opened → IsStarted d → IfOk (else_of opened n d blocks) IsStarted
else_kept opened n d [] e one is = tt
else_kept opened n d (block.Else ∷ blocks) e one is = tt
else_kept opened n d (block.Elsif ∷ blocks) e one is = tt
else_kept opened n d (block.While begin ∷ blocks) e one is = tt
else_kept opened n d (block.For begin ∷ blocks) e one is = tt
else_kept opened n d (block.If ∷ blocks) e one is =
    let less : Draft = record d { blocks = blocks } in
    let deep : choice_depth blocks + 1 ≤ d.most_choices =
    omega (arith, ap choice_depth e, is.0.0.depth) in
    let same = else_depth (is_choice opened) (choice_depth blocks) one.0 in (
      (
        opened_line n statement.Else opened less is.1 tt (omega (arith, deep)) (λ m lt. one.1 m)
            (popped_kept (bounds_in d) block.If blocks d e is.0.0),
        same_cells d (choice_depth (opened ∷ blocks)) (omega (arith, deep, same)) is.0.1,
      ),
      is.1,
    )

elsif_kept : (n : ℕ) (d : Draft) (tokens : List Token) → 0 < d.procs → IsLawful d →
    IfOk (elsif_line n d tokens) IsLawful
unfolding elsif_line
elsif_kept n d tokens some is =
    ok_bind (else_of block.Elsif n d d.blocks) _ IsStarted IsLawful
    (else_kept block.Elsif n d d.blocks refl (refl, λ m. tt) (is, some))
    (λ within p. if_kept n within tokens p.1 p.0)

-- an end in which the first line of its loop is told
loop_ended : (n begin : ℕ) (said : Statement) (d : Draft) →
    ((b : Bounds) → length d.lines < b.lines → IsStatement b said) → masks_of said ≡ 0 →
    IsLawful d → IsLawful (with_line n said (with_end begin d))
loop_ended n begin said d is_said none is =
    let told = with_end begin d in
    let next = with_line n said told in
    let same = ended_at_length begin d.lines in
    let longer = one_longer told.lines
    (record { statement = said; depth = choice_depth told.blocks; number = n }) in (
      line_kept (bounds_in next) n said told
          (is_said (bounds_in next) (omega (arith, longer, same)))
          (omega (arith, is.0.depth, none))
          (end_kept (bounds_in next) begin d (omega (arith, longer, same))
          (more_kept (bounds_in d) (bounds_in next) d (record {
            arrays = omega arith;
            privates = omega arith;
            loops = omega arith;
            choices = omega arith;
            lines = omega (arith, longer, same);
          }) is.0)),
      is.1,
    )

ended_for : (n begin : ℕ) (d : Draft) (loops : List Word) → length loops ≤ length d.loops →
    begin < length d.lines → IsLawful d →
    IsLawful (with_line n (statement.EndFor begin) (with_end begin (without loops d)))
ended_for n begin d [] few begun is =
    loop_ended n begin (statement.EndFor begin) d (λ b more. omega arith) refl is
ended_for n begin d (word ∷ loops) few begun is =
    loop_ended n begin (statement.EndFor begin) (without (word ∷ loops) d) (λ b more. omega arith)
    refl (without_kept (bounds_in d) (word ∷ loops) d few is.0, is.1)

-- the end of an `if`, and of the `elsif`s around it
choice_kept : (n : ℕ) (choice : Block) (blocks : List Block) (d : Draft) →
    d.blocks ≡ choice ∷ blocks → IsLawful d →
    IsLawful (with_line n statement.EndIf (record d { blocks = blocks }))
choice_kept n choice blocks d e is =
    plain_line n statement.EndIf (record d { blocks = blocks }) tt refl
    (popped_kept (bounds_in d) choice blocks d e is.0, is.1)

elsifs_kept : (n : ℕ) (blocks : List Block) (d : Draft) → d.blocks ≡ blocks → IsLawful d →
    IsLawful (elsifs_ended n blocks d)
elsifs_kept n [] d e is = is
elsifs_kept n (block.If ∷ blocks) d e is = is
elsifs_kept n (block.Else ∷ blocks) d e is = is
elsifs_kept n (block.While begin ∷ blocks) d e is = is
elsifs_kept n (block.For begin ∷ blocks) d e is = is
elsifs_kept n (block.Elsif ∷ blocks) d e is =
    elsifs_kept n blocks (with_line n statement.EndIf (record d { blocks = blocks })) refl
    (choice_kept n block.Elsif blocks d e is)

end_line_kept : (n : ℕ) (d : Draft) (blocks : List Block) → d.blocks ≡ blocks → IsLawful d →
    IfOk (end_block n d blocks) IsLawful
end_line_kept n d [] e is = tt
end_line_kept n d (block.If ∷ blocks) e is =
    elsifs_kept n blocks _ refl (choice_kept n block.If blocks d e is)
end_line_kept n d (block.Else ∷ blocks) e is =
    elsifs_kept n blocks _ refl (choice_kept n block.Else blocks d e is)
end_line_kept n d (block.Elsif ∷ blocks) e is =
    elsifs_kept n blocks _ refl (choice_kept n block.Elsif blocks d e is)
end_line_kept n d (block.While begin ∷ blocks) e is =
    let begun : begin < length d.lines =
    All-head (IsBlock (length d.lines)) (block.While begin) blocks
    (subst (All (IsBlock (length d.lines))) e is.0.blocks) in
    loop_ended n begin (statement.EndWhile begin) (record d { blocks = blocks })
    (λ b more. omega arith) refl (
      popped_kept (bounds_in d) (block.While begin) blocks d e is.0,
      is.1,
    )
end_line_kept n d (block.For begin ∷ blocks) e is =
    let begun : begin < length d.lines =
    All-head (IsBlock (length d.lines)) (block.For begin) blocks
    (subst (All (IsBlock (length d.lines))) e is.0.blocks) in
    let less : Draft = record d { blocks = blocks } in
    ended_for n begin less d.loops (omega arith) begun
    (popped_kept (bounds_in d) (block.For begin) blocks d e is.0, is.1)

-- ---- assertions

quotient_kept : (b : Bounds) (names : Names) (tokens : List Token) → AreThings b names →
    IfOk (quotient_at names tokens) (λ read. IsExpression b read.0)
unfolding quotient_at
quotient_kept b names tokens are =
    let keeps = keeps_tree b names Any are in
    ok_bind (expression_at names Any tokens) _ (λ read. IsExpression b read.0)
    (λ read. IsExpression b read.0) (read_kept b names Any tokens are) (λ divisor p.
    ok_bind (joined Div (number 1) divisor.0) _ (IsExpression b) (λ read. IsExpression b read.0)
    (keeps.joins Div (number 1) divisor.0 (keeps.numbers 1 (omega arith)) p) (λ quotient q. q))

asserted_kept : (n : ℕ) (d : Draft) (condition : Tree) → 0 < d.procs →
    IsExpression (bounds_in d) condition → IsDraft (bounds_in d) d →
    IsDraft (bounds_in (asserted n condition d)) (asserted n condition d)
asserted_kept n d condition some p is =
    let opened = with_block block.If (with_line n (statement.If condition) d) in
    plain_draft n statement.EndIf (record opened { blocks = d.blocks }) tt refl
    (popped_kept (bounds_in opened) block.If d.blocks opened refl
    (opened_if n d condition some p is))

assert_kept : (n : ℕ) (d : Draft) (tokens : List Token) → 0 < d.procs → IsLawful d →
    IfOk (assert_line n d tokens) IsLawful
unfolding assert_line
assert_kept n d tokens some is =
    ok_bind (quotient_at d.names tokens) _ (λ read. IsExpression (bounds_in d) read.0) IsLawful
    (quotient_kept (bounds_in d) d.names tokens is.0.names) (λ quotient p.
    ok_bind (ended quotient.0 quotient.1) _ (IsExpression (bounds_in d)) IsLawful
    (ended_kept (IsExpression (bounds_in d)) quotient.0 quotient.1 p) (λ condition q.
    fitting_kept (asserted n condition d) (asserted_kept n d condition some q is.0)))

-- ---- any line of code

assignment_line_kept : (n : ℕ) (d : Draft) (word : Word) (tokens : List Token) → IsLawful d →
    IfOk (assignment_line n d word tokens) IsLawful
assignment_line_kept n d word tokens is =
    ok_bind (assignment_at d.names word tokens) _ (IsAssignment (bounds_in d)) IsLawful
    (assignment_kept (bounds_in d) d.names word tokens is.0.names)
    (λ said p. plain_line n said d p.0 p.1 is)

named_kept : (n : ℕ) (d : Draft) (word : Word) (tokens : List Token) → 0 < d.procs →
    IsLawful d → IfOk (named_line n d word tokens) IsLawful
named_kept n d word tokens some is =
    ok_if (has_form (codes "elsif") word tokens) _ _ IsLawful
    (λ _. elsif_kept n d tokens some is)
    (λ _. ok_if (has_form (codes "assert") word tokens) _ _ IsLawful
    (λ _. assert_kept n d tokens some is)
    (λ _. assignment_line_kept n d word tokens is))

pub statement_kept : (n : ℕ) (d : Draft) (tokens : List Token) → 0 < d.procs → IsLawful d →
    IfOk (statement_line n d tokens) IsLawful
unfolding statement_line
statement_kept n d (symbol the.If ∷ tokens) some is = if_kept n d tokens some is
statement_kept n d (symbol the.While ∷ tokens) some is = while_kept n d tokens some is
statement_kept n d (symbol the.For ∷ tokens) some is = for_kept n d tokens some is
statement_kept n d (symbol the.Else ∷ []) some is =
    IfOk-weaker (else_of block.Else n d d.blocks) IsStarted IsLawful (λ _ p. p.0)
    (else_kept block.Else n d d.blocks refl (refl, λ m. tt) (is, some))
statement_kept n d (symbol the.End ∷ []) some is = end_line_kept n d d.blocks refl is
statement_kept n d (name word ∷ tokens) some is = named_kept n d word tokens some is
statement_kept n d _ some is = tt
