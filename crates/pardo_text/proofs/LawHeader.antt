-- Header lines make lawful drafts of lawful ones.
use Rattle.std.proofs.Common.{◌≡◌, ℕ, ◌+◌, ◌*◌, ◌<◌, ◌≤◌, ◌==◌, true, false, List, [], ◌∷◌}
use Rattle.std.proofs.Common.{◌++◌, length, Option, Some, None, IfOk, ◌^◌, nat_lt, arith}
use Rattle.std.proofs.Math.Nat.{mul-pos}
use Rattle.std.proofs.lemmas.Bool.Decides.{nat_tests}
use Rattle.std.proofs.lemmas.List.{length-append}
use Rattle.pardo_text.specs.declared.draft.Stage.{Stage}
use Rattle.pardo_text.specs.declared.draft.Stage.TheVariants as stage
use Rattle.pardo_program.specs.declared.limits.TheConstants.{MAX_CELLS, MAX_PROCS}
use Rattle.pardo_text.specs.declared.names.Named.TheVariants as thing
use Rattle.pardo_text.specs.declared.names.Scope.TheVariants.{Start}
use Rattle.pardo_text.specs.declared.symbol.Symbol.TheVariants as the
use Rattle.pardo_text.specs.Drafts.{Draft, fitting, with_name, with_array, with_private}
use Rattle.pardo_text.specs.Expressions.{ended, new_name, rest_after_mark}
use Rattle.pardo_text.specs.Expressions.{indexed, fixed_at, expression_at}
use Rattle.pardo_text.specs.Header.{version_line, rule_line, rule_named, const_line, procs_line}
use Rattle.pardo_text.specs.Header.{shape_at, columns_at, after_comma, shared_line, private_start}
use Rattle.pardo_text.specs.Header.{private_line, code_line}
use Rattle.pardo_text.specs.Header.{header_line}
use Rattle.pram_job.specs.declared.instr.Rule.{Rule}
use Rattle.pardo_program.specs.Lawful.{AreNumbers}
use Rattle.text_lines.specs.Lines.{Word}
use Rattle.pardo_text.specs.Names.{Names}
use Rattle.pardo_program.specs.declared.arrays.Shape.{Shape}
use Rattle.pardo_program.specs.declared.arrays.Shape.TheVariants as shape
use Rattle.pardo_program.specs.Program.{places_of_shape, shared_cells}
use Rattle.pardo_text.specs.Tokens.{Token, name, number as literal, symbol}
use Rattle.pardo_program.specs.Operations.{greatest_value}
use Rattle.pardo_text.specs.Values.{values_for, start_at}
use Rattle.pardo_text.proofs.Ifs.{ok_bind, ok_after, ok_if}
use Rattle.pardo_text.proofs.LawBounds.{IsStart, keeps_start}
use Rattle.pardo_text.proofs.LawDrafts.{IsLawful, IsShape, bounds_in, fitting_kept, more_kept}
use Rattle.pardo_text.proofs.LawDrafts.{name_kept, stage_kept, procs_kept, array_kept, private_kept}
use Rattle.pardo_text.proofs.LawStarts.{Between, AreSoMany, fixed_kept, starts_kept, values_kept}
use Rattle.pardo_text.proofs.LawTrees.{expression_kept}
use Rattle.pardo_text.specs.declared.part.Mark.TheVariants as mark

pub ended_kept : {A : Type 0} → (P : A → Type 0) (value : A) (tokens : List Token) → P value →
    IfOk (ended value tokens) P
ended_kept P value [] is = is
ended_kept P value (token ∷ tokens) is = tt

test_zero : (n : ℕ) → (n == 0) ≡ true → n ≡ 0
test_zero n e = grind (arith, nat_tests)

test_some : (n : ℕ) → (n == 0) ≡ false → 0 < n
test_some n e = grind (arith, nat_tests)

pub one_longer : {A : Type 0} → (xs : List A) (x : A) → length xs < length (xs ++ x ∷ [])
one_longer xs x = omega (arith, length-append xs (x ∷ []))

-- ---- the first two lines

at_stage : (next : Stage) (d : Draft) → (next ≡ stage.Code → 0 < d.procs) → IsLawful d →
    IsLawful (record d { stage = next })
at_stage next d code is = (stage_kept (bounds_in d) next d code is.0, is.1)

pub version_kept : (d : Draft) (tokens : List Token) → IsLawful d →
    IfOk (version_line d tokens) IsLawful
unfolding version_line
version_kept d (symbol the.Pardo ∷ literal version ∷ []) is =
    ok_if (version == 1) _ _ IsLawful
    (λ _. at_stage stage.Rule d (λ e. absurd (let other : stage.Rule ≡ stage.Code = e in cc)) is)
    (λ _. tt)
version_kept d _ is = tt

pub rule_kept : (d : Draft) (tokens : List Token) → IsLawful d → IfOk (rule_line d tokens) IsLawful
unfolding rule_line
rule_kept d (symbol the.Rule ∷ name word ∷ []) is =
    ok_after (rule_named word) _ IsLawful (λ rule.
    at_stage stage.Header (record d { rule = rule })
    (λ e. absurd (let other : stage.Header ≡ stage.Code = e in cc)) (is_ruled rule))
  where
    is_ruled : (rule : Rule) → IsLawful (record d { rule = rule })
    is_ruled rule = (
      record {
        names = is.0.names;
        procs = is.0.procs;
        arrays = is.0.arrays;
        privates = is.0.privates;
        before = is.0.before;
        code = is.0.code;
        lines = is.0.lines;
        blocks = is.0.blocks;
        depth = is.0.depth;
        loops = is.0.loops;
      },
      is.1,
    )
rule_kept d _ is = tt

-- ---- declarations

const_kept : (d : Draft) (tokens : List Token) → IsLawful d → IfOk (const_line d tokens) IsLawful
unfolding const_line
const_kept d tokens is =
    ok_after (new_name d.names tokens) _ IsLawful (λ word.
    ok_after (rest_after_mark mark.Equals word.1) _ IsLawful (λ after.
    ok_bind (fixed_at d.names 0 greatest_value after) _ (Between 0 greatest_value) IsLawful
    (fixed_kept d.names 0 greatest_value after) (λ value p.
    ended_kept IsLawful (with_name word.0 (thing.Constant value.0) d) value.1
    (name_kept (bounds_in d) word.0 (thing.Constant value.0) d (omega (arith, p.1)) is.0, is.1))))

-- more processors need no more cells while nobody has a cell
no_own_cells : (shared procs cells : ℕ) → cells ≡ 0 → shared ≤ MAX_CELLS →
    shared + procs * cells ≤ MAX_CELLS
no_own_cells shared procs cells e few = rw e (omega arith)

procs_line_kept : (d : Draft) (tokens : List Token) → IsLawful d →
    IfOk (procs_line d tokens) IsLawful
unfolding procs_line
procs_line_kept d tokens is =
    ok_if (d.procs == 0) _ _ IsLawful (λ e.
    let none : d.procs ≡ 0 = test_zero d.procs e in
    ok_after (new_name d.names tokens) _ IsLawful (λ word.
    ok_after (rest_after_mark mark.Less word.1) _ IsLawful (λ after.
    ok_bind (fixed_at d.names 1 MAX_PROCS after) _ (Between 1 MAX_PROCS) IsLawful
    (fixed_kept d.names 1 MAX_PROCS after) (λ procs p.
    let next : Draft = record d { procs = procs.0 } in
    ended_kept IsLawful (with_name word.0 thing.Own next) procs.1 (
      name_kept (bounds_in d) word.0 thing.Own next tt
          (procs_kept (bounds_in d) procs.0 d none (omega (arith, p.0)) p.1 is.0),
      no_own_cells (shared_cells d.arrays) procs.0
          (length d.privates + d.most_loops + d.most_choices)
          (is.0.before none) (omega (arith, is.1)),
    ))))) (λ _. tt)

abbrev IsShaped : Shape × List Token → Type 0
IsShaped read = IsShape read.0

-- a scalar has a place, and so has an array
some_places : (form : Shape) → IsShape form → 0 < places_of_shape form
some_places shape.Scalar is = omega arith
some_places (shape.Line places) is = is
some_places (shape.Table rows columns) is = is.0

columns_kept : (names : Names) (rows : ℕ) (tokens : List Token) (found : Option (List Token)) →
    0 < rows → rows < 2 ^ 32 → IfOk (columns_at names rows tokens found) IsShaped
columns_kept names rows tokens None some few = some
columns_kept names rows tokens (Some inside) some few =
    ok_bind (fixed_at names 1 MAX_CELLS inside) _ (Between 1 MAX_CELLS) IsShaped
    (fixed_kept names 1 MAX_CELLS inside) (λ columns p.
    let one : 0 < columns.0 = omega (arith, p.0) in
    ok_if (nat_lt MAX_CELLS (rows * columns.0)) _ _ IsShaped (λ _. tt)
    (λ _. (mul-pos some one, few, omega (arith, p.1))))

shape_kept : (names : Names) (tokens : List Token) (found : Option (List Token)) →
    IfOk (shape_at names tokens found) IsShaped
shape_kept names tokens None = tt
shape_kept names tokens (Some inside) =
    ok_bind (fixed_at names 1 MAX_CELLS inside) _ (Between 1 MAX_CELLS) IsShaped
    (fixed_kept names 1 MAX_CELLS inside) (λ rows p.
    ok_bind (columns_at names rows.0 rows.1 (after_comma rows.1)) _ IsShaped IsShaped
    (columns_kept names rows.0 rows.1 (after_comma rows.1) (omega (arith, p.0))
    (omega (arith, p.1)))
    (λ form q. ok_after (rest_after_mark mark.CloseIndex form.1) _ IsShaped (λ rest. q)))

array_line : (d : Draft) (word : Word) (form : Shape) (start : List ℕ) → IsShape form →
    0 < length start →
    AreNumbers start → IsLawful d → IfOk (fitting (with_array word form start d)) IsLawful
array_line d word form start is_form some are is =
    let next = with_array word form start d in
    let longer : length d.arrays < length next.arrays = one_longer d.arrays _ in
    fitting_kept next (array_kept (bounds_in next) word form start d longer is_form some are
    (more_kept (bounds_in d) (bounds_in next) d (record {
      arrays = omega arith;
      privates = omega arith;
      loops = omega arith;
      choices = omega arith;
      lines = omega arith;
    }) is.0))

shared_kept : (d : Draft) (tokens : List Token) → IsLawful d → IfOk (shared_line d tokens) IsLawful
unfolding shared_line
shared_kept d tokens is =
    ok_after (new_name d.names tokens) _ IsLawful (λ word.
    ok_bind (shape_at d.names word.1 (indexed word.1)) _ IsShaped IsLawful
    (shape_kept d.names word.1 (indexed word.1)) (λ form is_form.
    ok_bind (start_at d.names (places_of_shape form.0) form.1) _
    (AreSoMany (places_of_shape form.0)) IsLawful
    (starts_kept d.names (places_of_shape form.0) form.1) (λ start p.
    let some = some_places form.0 is_form in
    array_line d word.0 form.0 start is_form (omega (arith, some, p.0)) p.1 is)))

start_kept : (d : Draft) (tokens : List Token) → IsLawful d →
    IfOk (private_start d.names tokens) IsStart
unfolding private_start
start_kept d [] is = omega arith
start_kept d (token ∷ tokens) is =
    ok_after (rest_after_mark mark.Equals (token ∷ tokens)) _ IsStart (λ after.
    ok_bind (expression_at d.names Start after) _ (λ read. IsStart read.0) IsStart
    (expression_kept d.names Start IsStart (keeps_start (bounds_in d) d.names is.0.names) after)
    (λ tree p. ended_kept IsStart tree.0 tree.1 p))

own_line : (d : Draft) (word : Word) (start : List ℕ) → 0 < d.procs → length start ≡ d.procs →
    AreNumbers start → IsLawful d → IfOk (fitting (with_private word start d)) IsLawful
own_line d word start some many are is =
    let next = with_private word start d in
    let longer : length d.privates < length next.privates = one_longer d.privates _ in
    fitting_kept next (private_kept (bounds_in next) word start d longer some many are
    (more_kept (bounds_in d) (bounds_in next) d (record {
      arrays = omega arith;
      privates = omega arith;
      loops = omega arith;
      choices = omega arith;
      lines = omega arith;
    }) is.0))

private_line_kept : (d : Draft) (tokens : List Token) → IsLawful d →
    IfOk (private_line d tokens) IsLawful
unfolding private_line
private_line_kept d tokens is =
    ok_if (d.procs == 0) _ _ IsLawful (λ _. tt) (λ e.
    ok_after (new_name d.names tokens) _ IsLawful (λ word.
    ok_bind (private_start d.names word.1) _ IsStart IsLawful (start_kept d word.1 is) (λ tree p.
    ok_bind (values_for d.procs tree) _ (AreSoMany d.procs) IsLawful
    (values_kept d.procs tree (omega (arith, is.0.procs)) p) (λ start q.
    own_line d word.0 start (test_some d.procs e) q.0 q.1 is))))

code_kept : (d : Draft) (tokens : List Token) → IsLawful d → IfOk (code_line d tokens) IsLawful
unfolding code_line
code_kept d [] is =
    ok_if (d.procs == 0) _ _ IsLawful (λ _. tt)
    (λ e. at_stage stage.Code d (λ _. test_some d.procs e) is)
code_kept d (token ∷ tokens) is = tt

pub header_kept : (d : Draft) (tokens : List Token) → IsLawful d →
    IfOk (header_line d tokens) IsLawful
unfolding header_line
header_kept d (symbol the.Const ∷ tokens) is = const_kept d tokens is
header_kept d (symbol the.Procs ∷ tokens) is = procs_line_kept d tokens is
header_kept d (symbol the.Shared ∷ tokens) is = shared_kept d tokens is
header_kept d (symbol the.Private ∷ tokens) is = private_line_kept d tokens is
header_kept d (symbol the.Code ∷ tokens) is = code_kept d tokens is
header_kept d _ is = tt
