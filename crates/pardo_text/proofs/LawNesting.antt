-- The blocks of programs are nested.
use Rattle.std.proofs.Common.{◌≡◌, ℕ, ◌+◌, ◌<◌, ◌==◌, true, not, nat_le, List, [], ◌∷◌, ◌++◌}
use Rattle.std.proofs.Common.{inl, inr, length, Some, None, IfOk, refl, sym, ap}
use Rattle.std.proofs.Common.{subst, ◌∙◌, arith}
use Rattle.std.specs.Prelude.{codes}
use Rattle.std.proofs.lemmas.List.{length-append}
use Rattle.pardo_program.specs.declared.block.Block.{Block}
use Rattle.pardo_program.specs.declared.block.Block.TheVariants as block
use Rattle.pardo_text.specs.declared.draft.Stage.{Stage}
use Rattle.pardo_text.specs.declared.draft.Stage.TheVariants as stage
use Rattle.pardo_program.specs.declared.limits.TheConstants.{MAX_CELLS, MAX_PROCS}
use Rattle.pardo_text.specs.declared.names.Named.TheVariants as thing
use Rattle.pardo_text.specs.declared.names.Scope.TheVariants.{Bound, Uniform, Any}
use Rattle.pardo_program.specs.declared.statement.Line.{Line}
use Rattle.pardo_program.specs.declared.statement.Statement.{Statement}
use Rattle.pardo_program.specs.declared.statement.Statement.TheVariants as statement
use Rattle.pardo_program.specs.declared.statement.Target.{Target}
use Rattle.pardo_text.specs.declared.symbol.Symbol.TheVariants as the
use Rattle.pardo_program.specs.Blocks.{choice_depth, is_choice}
use Rattle.pardo_text.specs.Code.{whole_at, assignment_target, assignment_at, if_line}
use Rattle.pardo_text.specs.Code.{while_line, way_at, for_line, else_of, elsif_line, elsifs_ended}
use Rattle.pardo_text.specs.Code.{end_block, quotient_at, asserted, assert_line, has_form}
use Rattle.pardo_text.specs.Code.{assignment_line, named_line, statement_line}
use Rattle.pardo_text.specs.Drafts.{Draft, empty, cells_needed, fitting, with_line, with_block}
use Rattle.pardo_text.specs.Drafts.{with_loop}
use Rattle.pardo_text.specs.Drafts.{without, with_end, with_name, with_array, with_private}
use Rattle.pardo_program.specs.Expression.{Tree}
use Rattle.pardo_text.specs.Expressions.{new_name, rest_after_mark, indexed, ended}
use Rattle.pardo_text.specs.Expressions.{expression_at, fixed_at}
use Rattle.pardo_text.specs.Header.{version_line, rule_named, rule_line, const_line, procs_line}
use Rattle.pardo_text.specs.Header.{shape_at, shared_line, private_start, private_line, code_line}
use Rattle.pardo_program.specs.Program.{places_of_shape}
use Rattle.pardo_text.specs.Header.{header_line}
use Rattle.pardo_text.specs.Laws.{ProgramsAreNested}
use Rattle.text_lines.specs.Lines.{Word, lines_of, said_in}
use Rattle.pardo_text.specs.Names.{Names}
use Rattle.pardo_program.specs.Nested.{IsNested, StandsInBlocks, opened_by, around, loop_begin}
use Rattle.pardo_program.specs.Nested.{loop_end_told}
use Rattle.pardo_program.specs.Nested.{loops_of, EndsAreTied, LinesLead}
use Rattle.pardo_program.specs.Program.{ProgramData}
use Rattle.pardo_text.specs.Reading.{is_readable, line_in_stage, with_tokens, with_text_line, finished_draft}
use Rattle.pardo_text.specs.Reading.{program_in, said_so_far}
use Rattle.pardo_program.specs.Tests.{known_of}
use Rattle.pardo_text.specs.Reading.{on_line, program_after, program_of}
use Rattle.pardo_text.specs.Tokens.{Token, name, number as literal, symbol, tokens_of}
use Rattle.pardo_program.specs.Operations.{greatest_value}
use Rattle.pardo_text.specs.Values.{values_for, start_at}
use Rattle.pardo_text.proofs.Ifs.{ok_bind, ok_after, ok_if}
use Rattle.pardo_program.proofs.LawTests.{nested_kept}
use Rattle.pardo_text.proofs.LawHeader.{ended_kept}
use Rattle.pardo_text.proofs.LawLawful.{on_line_kept, and_then_kept}
use Rattle.pardo_text.proofs.LawOpen.{IsCode, IsLeft, AreOpen, no_code, open_push, open_more}
use Rattle.pardo_text.proofs.LawOpen.{loop_left}
use Rattle.pardo_text.proofs.LawTied.{end_at, leads_last, tied_push, Among, begins_push}
use Rattle.pardo_text.proofs.LawTied.{begins_last}
use Rattle.pardo_text.specs.declared.part.Mark.TheVariants as mark

-- the blocks as lines open them: an `elsif` opens an `else`
abbrev spelled_out : List Block → List Block
spelled_out [] = []
spelled_out (block.Elsif ∷ blocks) = block.Else ∷ spelled_out blocks
spelled_out (block.If ∷ blocks) = block.If ∷ spelled_out blocks
spelled_out (block.Else ∷ blocks) = block.Else ∷ spelled_out blocks
spelled_out (block.While begin ∷ blocks) = block.While begin ∷ spelled_out blocks
spelled_out (block.For begin ∷ blocks) = block.For begin ∷ spelled_out blocks

depth_spelled : (blocks : List Block) → choice_depth blocks ≡ choice_depth (spelled_out blocks)
depth_spelled [] = refl
depth_spelled (block.Elsif ∷ blocks) = ap (λ n. n + 1) (depth_spelled blocks)
depth_spelled (block.If ∷ blocks) = ap (λ n. n + 1) (depth_spelled blocks)
depth_spelled (block.Else ∷ blocks) = ap (λ n. n + 1) (depth_spelled blocks)
depth_spelled (block.While begin ∷ blocks) = depth_spelled blocks
depth_spelled (block.For begin ∷ blocks) = depth_spelled blocks

-- what a draft says of its code
abbrev Code : Draft → Type 0
Code d = IsCode d.lines (spelled_out d.blocks) (length d.loops)

fitting_code : (d : Draft) → Code d → IfOk (fitting d) Code
fitting_code d is = ok_if (nat_le (cells_needed d) MAX_CELLS) _ _ Code (λ _. is) (λ _. tt)

-- ---- header lines say nothing of code

version_code : (d : Draft) (tokens : List Token) → Code d → IfOk (version_line d tokens) Code
unfolding version_line
version_code d (symbol the.Pardo ∷ literal version ∷ []) is =
    ok_if (version == 1) _ _ Code (λ _. is) (λ _. tt)
version_code d _ is = tt

rule_code : (d : Draft) (tokens : List Token) → Code d → IfOk (rule_line d tokens) Code
unfolding rule_line
rule_code d (symbol the.Rule ∷ name word ∷ []) is = ok_after (rule_named word) _ Code (λ rule. is)
rule_code d _ is = tt

const_code : (d : Draft) (tokens : List Token) → Code d → IfOk (const_line d tokens) Code
unfolding const_line
const_code d tokens is =
    ok_after (new_name d.names tokens) _ Code (λ word.
    ok_after (rest_after_mark mark.Equals word.1) _ Code (λ after.
    ok_after (fixed_at d.names 0 greatest_value after) _ Code (λ value.
    ended_kept Code (with_name word.0 (thing.Constant value.0) d) value.1 is)))

procs_code : (d : Draft) (tokens : List Token) → Code d → IfOk (procs_line d tokens) Code
unfolding procs_line
procs_code d tokens is =
    ok_if (d.procs == 0) _ _ Code (λ _.
    ok_after (new_name d.names tokens) _ Code (λ word.
    ok_after (rest_after_mark mark.Less word.1) _ Code (λ after.
    ok_after (fixed_at d.names 1 MAX_PROCS after) _ Code (λ procs.
    ended_kept Code (with_name word.0 thing.Own (record d { procs = procs.0 })) procs.1 is))))
    (λ _. tt)

shared_code : (d : Draft) (tokens : List Token) → Code d → IfOk (shared_line d tokens) Code
unfolding shared_line
shared_code d tokens is =
    ok_after (new_name d.names tokens) _ Code (λ word.
    ok_after (shape_at d.names word.1 (indexed word.1)) _ Code (λ form.
    ok_after (start_at d.names (places_of_shape form.0) form.1) _ Code (λ start.
    fitting_code (with_array word.0 form.0 start d) is)))

private_code : (d : Draft) (tokens : List Token) → Code d → IfOk (private_line d tokens) Code
unfolding private_line
private_code d tokens is =
    ok_if (d.procs == 0) _ _ Code (λ _. tt) (λ _.
    ok_after (new_name d.names tokens) _ Code (λ word.
    ok_after (private_start d.names word.1) _ Code (λ tree.
    ok_after (values_for d.procs tree) _ Code (λ start.
    fitting_code (with_private word.0 start d) is))))

begin_code : (d : Draft) (tokens : List Token) → Code d → IfOk (code_line d tokens) Code
unfolding code_line
begin_code d [] is = ok_if (d.procs == 0) _ _ Code (λ _. tt) (λ _. is)
begin_code d (token ∷ tokens) is = tt

header_code : (d : Draft) (tokens : List Token) → Code d → IfOk (header_line d tokens) Code
unfolding header_line
header_code d (symbol the.Const ∷ tokens) is = const_code d tokens is
header_code d (symbol the.Procs ∷ tokens) is = procs_code d tokens is
header_code d (symbol the.Shared ∷ tokens) is = shared_code d tokens is
header_code d (symbol the.Private ∷ tokens) is = private_code d tokens is
header_code d (symbol the.Code ∷ tokens) is = begin_code d tokens is
header_code d _ is = tt

-- ---- lines of code

-- a line that ends no loop
pushed : (lines : List Line) (blocks : List Block) (line : Line) → LinesLead 0 [] lines blocks →
    EndsAreTied lines → StandsInBlocks blocks line → loop_begin line.statement ≡ None →
    LinesLead 0 [] (lines ++ line ∷ [])
    (opened_by (length lines) line.statement ++ around line.statement blocks)
    × EndsAreTied (lines ++ line ∷ [])
pushed lines blocks line leads tied stands none = (
  leads_last lines blocks line leads stands,
  tied_push lines line tied
      (λ begin e. absurd (let other : None ≡ Some begin = sym none ∙ e in cc)),
)

-- the blocks that are open stay so
still_open : (lines : List Line) (line : Line) (blocks : List Block) →
    AreOpen lines (length lines) blocks →
    AreOpen (lines ++ line ∷ []) (length (lines ++ line ∷ [])) blocks
still_open lines line blocks is =
    open_more (lines ++ line ∷ []) (length lines) (length (lines ++ line ∷ [])) blocks
    (omega (arith, length-append lines (line ∷ [])))
    (open_push lines line (length lines) blocks (omega arith) is)

-- and a loop is one more
end_last : (lines : List Line) (line : Line) →
    end_at (lines ++ line ∷ []) (length lines) ≡ end_at (line ∷ []) 0
end_last [] line = refl
end_last (first ∷ lines) line = end_last lines line

longer : (lines : List Line) (line : Line) → length lines < length (lines ++ line ∷ [])
longer lines line = omega (arith, length-append lines (line ∷ []))

abbrev IsAssignment : Statement → Type 0
IsAssignment said = (to : Target) × (value : Tree) × (said ≡ statement.Assign to value)

assignment_is : (names : Names) (word : Word) (tokens : List Token) →
    IfOk (assignment_at names word tokens) IsAssignment
unfolding assignment_at
assignment_is names word tokens =
    ok_after (assignment_target names (names word) tokens) _ IsAssignment (λ to.
    ok_after (rest_after_mark mark.Assign to.1) _ IsAssignment (λ after.
    ok_after (whole_at names Any after) _ IsAssignment (λ value. (to.0, value, refl))))

assigned : (n : ℕ) (d : Draft) (to : Target) (value : Tree) → Code d →
    Code (with_line n (statement.Assign to value) d)
assigned n d to value is =
    let line : Line = record {
      statement = statement.Assign to value;
      depth = choice_depth d.blocks;
      number = n;
    } in
    let outer = spelled_out d.blocks in
    let more = pushed d.lines outer line is.leads is.tied (tt, depth_spelled d.blocks) refl in
    record {
      leads = more.0;
      tied = more.1;
      begun = begins_push d.lines line outer outer (λ k among. among)
          (λ end e. absurd (let none : None ≡ Some end = e in cc)) is.begun;
      opened = still_open d.lines line outer is.opened;
      loops = is.loops;
    }

opened_if_code : (n : ℕ) (d : Draft) (condition : Tree) → Code d →
    Code (with_block block.If (with_line n (statement.If condition) d))
opened_if_code n d condition is =
    let line : Line = record {
      statement = statement.If condition;
      depth = choice_depth d.blocks;
      number = n;
    } in
    let outer = spelled_out d.blocks in
    let more = pushed d.lines outer line is.leads is.tied (tt, depth_spelled d.blocks) refl in
    record {
      leads = more.0;
      tied = more.1;
      begun = begins_push d.lines line outer (block.If ∷ outer) (λ k among. among)
          (λ end e. absurd (let none : None ≡ Some end = e in cc)) is.begun;
      opened = still_open d.lines line outer is.opened;
      loops = is.loops;
    }

if_code : (n : ℕ) (d : Draft) (tokens : List Token) → Code d → IfOk (if_line n d tokens) Code
unfolding if_line
if_code n d tokens is =
    ok_after (whole_at d.names Any tokens) _ Code (λ condition.
    fitting_code (with_block block.If (with_line n (statement.If condition) d))
    (opened_if_code n d condition is))

while_code : (n : ℕ) (d : Draft) (tokens : List Token) → Code d → IfOk (while_line n d tokens) Code
unfolding while_line
while_code n d tokens is =
    ok_after (whole_at d.names Uniform tokens) _ Code (λ condition.
    let line : Line = record {
      statement = statement.While condition 0;
      depth = choice_depth d.blocks;
      number = n;
    } in
    let outer = spelled_out d.blocks in
    let more = pushed d.lines outer line is.leads is.tied (tt, depth_spelled d.blocks) refl in
    record {
      leads = more.0;
      tied = more.1;
      begun = begins_push d.lines line outer (block.While (length d.lines) ∷ outer)
          (λ k among. inr among) (λ end e. inl refl) is.begun;
      opened = (
        longer d.lines line,
        end_last d.lines line,
        open_push d.lines line (length d.lines) outer (omega arith) is.opened,
      );
      loops = is.loops;
    })

for_code : (n : ℕ) (d : Draft) (tokens : List Token) → Code d → IfOk (for_line n d tokens) Code
unfolding for_line
for_code n d tokens is =
    ok_after (new_name d.names tokens) _ Code (λ word.
    ok_after (rest_after_mark mark.Equals word.1) _ Code (λ after.
    ok_after (expression_at d.names Bound after) _ Code (λ first.
    ok_after (way_at first.1) _ Code (λ way.
    ok_after (whole_at d.names Bound way.1) _ Code (λ last.
    let said : Statement = statement.For (length d.loops) first.0 last way.0 0 in
    let line : Line = record { statement = said; depth = choice_depth d.blocks; number = n } in
    let outer = spelled_out d.blocks in
    let more = pushed d.lines outer line is.leads is.tied (is.loops, depth_spelled d.blocks) refl
    in
    fitting_code (with_loop word.0 (with_block (block.For (length d.lines)) (with_line n said d)))
    (record {
      leads = more.0;
      tied = more.1;
      begun = begins_push d.lines line outer (block.For (length d.lines) ∷ outer)
          (λ k among. inr among) (λ end e. inl refl) is.begun;
      opened = (
        longer d.lines line,
        end_last d.lines line,
        open_push d.lines line (length d.lines) outer (omega arith) is.opened,
      );
      loops = omega (arith, is.loops);
    }))))))

-- the draft's blocks by another name
code_at : (d : Draft) (blocks : List Block) → d.blocks ≡ blocks → Code d →
    IsCode d.lines (spelled_out blocks) (length d.loops)
code_at d blocks e is =
    subst (λ (opening : List Block). IsCode d.lines (spelled_out opening) (length d.loops)) e is

else_code : (opened : Block) (n : ℕ) (d : Draft) (blocks : List Block) → d.blocks ≡ blocks →
    ((others : List Block) → block.Else ∷ spelled_out others ≡ spelled_out (opened ∷ others)) →
    Code d → IfOk (else_of opened n d blocks) Code
else_code opened n d [] e opens is = tt
else_code opened n d (block.Else ∷ blocks) e opens is = tt
else_code opened n d (block.Elsif ∷ blocks) e opens is = tt
else_code opened n d (block.While begin ∷ blocks) e opens is = tt
else_code opened n d (block.For begin ∷ blocks) e opens is = tt
else_code opened n d (block.If ∷ blocks) e opens is =
    let now = code_at d (block.If ∷ blocks) e is in
    let line : Line =
    record { statement = statement.Else; depth = choice_depth blocks; number = n } in
    let outer = spelled_out blocks in
    let more = pushed d.lines (block.If ∷ outer) line now.leads now.tied
    ((outer, refl), depth_spelled blocks) refl in
    subst (λ (opening : List Block). IsCode (d.lines ++ line ∷ []) opening (length d.loops))
    (opens blocks) (record {
      leads = more.0;
      tied = more.1;
      begun = begins_push d.lines line (block.If ∷ outer) (block.Else ∷ outer) (λ k among. among)
          (λ end e. absurd (let none : None ≡ Some end = e in cc)) now.begun;
      opened = still_open d.lines line outer now.opened;
      loops = now.loops;
    })

elsif_code : (n : ℕ) (d : Draft) (tokens : List Token) → Code d → IfOk (elsif_line n d tokens) Code
unfolding elsif_line
elsif_code n d tokens is =
    ok_bind (else_of block.Elsif n d d.blocks) _ Code Code
    (else_code block.Elsif n d d.blocks refl (λ others. refl) is)
    (λ within p. if_code n within tokens p)

-- the end of an `if`
choice_code : (n : ℕ) (d : Draft) (choice : Block) (blocks : List Block) →
    IsCode d.lines (choice ∷ spelled_out blocks) (length d.loops) → is_choice choice ≡ true →
    AreOpen d.lines (length d.lines) (spelled_out blocks) →
    length d.loops ≡ loops_of (spelled_out blocks) →
    ((k : ℕ) → Among k (choice ∷ spelled_out blocks) → Among k (spelled_out blocks)) →
    Code (with_line n statement.EndIf (record d { blocks = blocks }))
choice_code n d choice blocks is choosing opened loops same =
    let line : Line =
    record { statement = statement.EndIf; depth = choice_depth blocks; number = n } in
    let outer = spelled_out blocks in
    let more = pushed d.lines (choice ∷ outer) line is.leads is.tied
    ((choice, outer, refl, choosing), depth_spelled blocks) refl in record {
      leads = more.0;
      tied = more.1;
      begun = begins_push d.lines line (choice ∷ outer) outer same
          (λ end e. absurd (let none : None ≡ Some end = e in cc)) is.begun;
      opened = still_open d.lines line outer opened;
      loops = loops;
    }

-- and of the `elsif`s around it
elsifs_code : (n : ℕ) (blocks : List Block) (d : Draft) → d.blocks ≡ blocks → Code d →
    Code (elsifs_ended n blocks d)
elsifs_code n [] d e is = is
elsifs_code n (block.If ∷ blocks) d e is = is
elsifs_code n (block.Else ∷ blocks) d e is = is
elsifs_code n (block.While begin ∷ blocks) d e is = is
elsifs_code n (block.For begin ∷ blocks) d e is = is
elsifs_code n (block.Elsif ∷ blocks) d e is =
    let now = code_at d (block.Elsif ∷ blocks) e is in
    elsifs_code n blocks (with_line n statement.EndIf (record d { blocks = blocks })) refl
    (choice_code n d block.Else blocks now refl now.opened now.loops (λ k among. among))

-- the end of a loop
loop_code : (lines : List Line) (begin : ℕ) (closed : Block) (blocks : List Block) (line : Line)
    (end loops : ℕ) → IsLeft lines begin closed blocks end → end_at lines begin ≡ Some end →
    begin < end →
    StandsInBlocks (closed ∷ blocks) line → loop_begin line.statement ≡ Some begin →
    loop_end_told line.statement ≡ None → opened_by (length lines) line.statement ++
    around line.statement (closed ∷ blocks) ≡ blocks →
    loops ≡ loops_of blocks → IsCode (lines ++ line ∷ []) blocks loops
loop_code lines begin closed blocks line end loops is told few stands ends plain after same =
    record {
      leads = subst (LinesLead 0 [] (lines ++ line ∷ [])) after
          (leads_last lines (closed ∷ blocks) line is.leads stands);
      tied = tied_push lines line is.tied (λ other e.
          let one : begin ≡ other = (let both : Some begin ≡ Some other = sym ends ∙ e in cc) in (
            omega (arith, one, is.many, few),
            ap (end_at lines) (sym one) ∙ told ∙ ap Some (sym is.many),
          ));
      begun = begins_last lines line begin end blocks is.begun is.many ends plain;
      opened = still_open lines line blocks is.opened;
      loops = same;
    }

for_end_code : (n begin : ℕ) (d : Draft) (loops : List Word) (blocks : List Block) →
    d.loops ≡ loops → IsCode d.lines (block.For begin ∷ spelled_out blocks) (length d.loops) →
    Code (with_line n (statement.EndFor begin)
    (with_end begin (without loops (record d { blocks = blocks }))))
for_end_code n begin d [] blocks e is =
    absurd (let none : length d.loops ≡ 0 = ap length e in omega (arith, none, is.loops))
for_end_code n begin d (word ∷ loops) blocks e is =
    let line : Line = record {
      statement = statement.EndFor begin;
      depth = choice_depth blocks;
      number =
          n;
    } in
    let outer = spelled_out blocks in
    let left = loop_left d.lines begin (block.For begin) outer is.opened.0 is.opened.1 is.opened.2
    is.leads is.tied is.begun in
    let many : length d.loops ≡ length (word ∷ loops) = ap length e in
    loop_code _ begin (block.For begin) outer line (length d.lines) (length loops) left.0 left.1
    is.opened.0 ((outer, refl), depth_spelled blocks) refl refl refl
    (omega (arith, many, is.loops))

end_code : (n : ℕ) (d : Draft) (blocks : List Block) → d.blocks ≡ blocks → Code d →
    IfOk (end_block n d blocks) Code
end_code n d [] e is = tt
end_code n d (block.If ∷ blocks) e is =
    let now = code_at d (block.If ∷ blocks) e is in
    elsifs_code n blocks (with_line n statement.EndIf (record d { blocks = blocks })) refl
    (choice_code n d block.If blocks now refl now.opened now.loops (λ k among. among))
end_code n d (block.Else ∷ blocks) e is =
    let now = code_at d (block.Else ∷ blocks) e is in
    elsifs_code n blocks (with_line n statement.EndIf (record d { blocks = blocks })) refl
    (choice_code n d block.Else blocks now refl now.opened now.loops (λ k among. among))
end_code n d (block.Elsif ∷ blocks) e is =
    let now = code_at d (block.Elsif ∷ blocks) e is in
    elsifs_code n blocks (with_line n statement.EndIf (record d { blocks = blocks })) refl
    (choice_code n d block.Else blocks now refl now.opened now.loops (λ k among. among))
end_code n d (block.While begin ∷ blocks) e is =
    let now = code_at d (block.While begin ∷ blocks) e is in
    let outer = spelled_out blocks in
    let line : Line = record {
      statement = statement.EndWhile begin;
      depth = choice_depth blocks;
      number = n;
    } in
    let left = loop_left d.lines begin (block.While begin) outer now.opened.0 now.opened.1
    now.opened.2 now.leads now.tied now.begun in
    loop_code _ begin (block.While begin) outer line (length d.lines) (length d.loops) left.0
    left.1
    now.opened.0 ((outer, refl), depth_spelled blocks) refl refl refl now.loops
end_code n d (block.For begin ∷ blocks) e is =
    for_end_code n begin d d.loops blocks refl (code_at d (block.For begin ∷ blocks) e is)

-- an `if` and its `end`
asserted_code : (n : ℕ) (d : Draft) (condition : Tree) → Code d → Code (asserted n condition d)
asserted_code n d condition is =
    let next = with_block block.If (with_line n (statement.If condition) d) in
    let now = opened_if_code n d condition is in
    choice_code n next block.If d.blocks now refl now.opened now.loops (λ k among. among)

assert_code : (n : ℕ) (d : Draft) (tokens : List Token) → Code d →
    IfOk (assert_line n d tokens) Code
unfolding assert_line
assert_code n d tokens is =
    ok_after (quotient_at d.names tokens) _ Code (λ quotient.
    ok_after (ended quotient.0 quotient.1) _ Code (λ condition.
    fitting_code (asserted n condition d) (asserted_code n d condition is)))

assignment_code : (n : ℕ) (d : Draft) (word : Word) (tokens : List Token) → Code d →
    IfOk (assignment_line n d word tokens) Code
assignment_code n d word tokens is =
    ok_bind (assignment_at d.names word tokens) _ IsAssignment Code
    (assignment_is d.names word tokens)
    (λ said p. subst (λ (other : Statement). Code (with_line n other d)) (sym p.2)
    (assigned n d p.0 p.1 is))

named_code : (n : ℕ) (d : Draft) (word : Word) (tokens : List Token) → Code d →
    IfOk (named_line n d word tokens) Code
named_code n d word tokens is =
    ok_if (has_form (codes "elsif") word tokens) _ _ Code (λ _. elsif_code n d tokens is)
    (λ _. ok_if (has_form (codes "assert") word tokens) _ _ Code
    (λ _. assert_code n d tokens is)
    (λ _. assignment_code n d word tokens is))

statement_code : (n : ℕ) (d : Draft) (tokens : List Token) → Code d →
    IfOk (statement_line n d tokens) Code
unfolding statement_line
statement_code n d (symbol the.If ∷ tokens) is = if_code n d tokens is
statement_code n d (symbol the.While ∷ tokens) is = while_code n d tokens is
statement_code n d (symbol the.For ∷ tokens) is = for_code n d tokens is
statement_code n d (symbol the.Else ∷ []) is =
    else_code block.Else n d d.blocks refl (λ others. refl) is
statement_code n d (symbol the.End ∷ []) is = end_code n d d.blocks refl is
statement_code n d (name word ∷ tokens) is = named_code n d word tokens is
statement_code n d _ is = tt

-- ---- any line, and all of them

at_code : (next : Stage) (n : ℕ) (d : Draft) (tokens : List Token) → Code d →
    IfOk (line_in_stage next n d tokens) Code
at_code stage.Version n d tokens is = version_code d tokens is
at_code stage.Rule n d tokens is = rule_code d tokens is
at_code stage.Header n d tokens is = header_code d tokens is
at_code stage.Code n d tokens is = statement_code n d tokens is

tokens_code : (n : ℕ) (d : Draft) (tokens : List Token) → Code d →
    IfOk (with_tokens n d tokens) Code
tokens_code n d [] is = is
tokens_code n d (token ∷ tokens) is = at_code d.stage n d (token ∷ tokens) is

text_line_code : (n : ℕ) (d : Draft) (line : List ℕ) → Code d → IfOk (with_text_line n d line) Code
unfolding with_text_line
text_line_code n d line is =
    ok_if (not (is_readable line)) _ _ Code (λ _. tt)
    (λ _. ok_after (tokens_of (said_in line)) _ Code (λ tokens. tokens_code n d tokens is))

abbrev Nested : ProgramData → Type 0
Nested program = IsNested program.lines

finished_code : (next : Stage) (blocks : List Block) (lines : List Line) (d : Draft) →
    d.blocks ≡ blocks → Code d → IfOk (finished_draft next blocks lines d) Nested
finished_code stage.Version blocks lines d e is = tt
finished_code stage.Rule blocks lines d e is = tt
finished_code stage.Header blocks lines d e is = tt
finished_code stage.Code (block ∷ blocks) lines d e is = tt
finished_code stage.Code [] [] d e is = tt
finished_code stage.Code [] (first ∷ lines) d e is =
    nested_kept d.lines (known_of (said_so_far d)) (
      subst (LinesLead 0 [] d.lines) (ap spelled_out e) is.leads,
      is.tied,
      λ begin end said. elim (is.begun begin end said) [
        | inl among ↦ absurd (subst (Among begin) (ap spelled_out e) among)
        | inr there ↦ there
      ],
    )

program_code : (d : Draft) → Code d → IfOk (program_in d) Nested
unfolding program_in
program_code d is = finished_code d.stage d.blocks d.lines d refl is

after_code : (lines : List (List ℕ)) (n : ℕ) (d : Draft) → Code d →
    IfOk (program_after d n lines) Nested
after_code [] n d is = on_line_kept Nested n (program_in d) (program_code d is)
after_code (line ∷ lines) n d is =
    and_then_kept Code Nested (on_line (n + 1) (with_text_line (n + 1) d line)) _
    (on_line_kept Code (n + 1) (with_text_line (n + 1) d line) (text_line_code (n + 1) d line is))
    (λ next is_next. after_code lines (n + 1) next is_next)

pub programs_are_nested : ProgramsAreNested
unfolding program_of
programs_are_nested text = after_code (lines_of text) 0 empty no_code
