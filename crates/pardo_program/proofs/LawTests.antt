-- A program without tests is lawful and nested where the program is.
use Rattle.std.proofs.Common.{◌≡◌, ℕ, ◌+◌, ◌≤◌, Bool, true, false, List, [], ◌∷◌, ◌++◌}
use Rattle.std.proofs.Common.{length, if◌then◌else◌, Option, Some, refl, sym, ap, ◌∙◌, subst}
use Rattle.std.proofs.Common.{slice_get, zero, suc}
use Rattle.std.specs.List.{All}
use Rattle.std.proofs.lemmas.List.Elements.{All-cons, All-head, All-tail}
use Rattle.pardo_program.specs.declared.block.Block.{Block}
use Rattle.pardo_program.specs.declared.operation.Op.{Op}
use Rattle.pardo_program.specs.declared.operation.Op.TheVariants as op
use Rattle.pardo_program.specs.declared.statement.Line.{Line}
use Rattle.pardo_program.specs.declared.statement.Statement.{Statement}
use Rattle.pardo_program.specs.declared.statement.Statement.TheVariants as statement
use Rattle.pardo_program.specs.declared.statement.Target.{Target}
use Rattle.pardo_program.specs.declared.statement.Target.TheVariants as target
use Rattle.pardo_program.specs.Expression.{Tree, number, own, loop, private, place, apply}
use Rattle.pardo_program.specs.Folding.{constant_of}
use Rattle.pardo_program.specs.Lawful.{Bounds, IsExpression, IsTarget, IsStatement, IsLine}
use Rattle.pardo_program.specs.Lawful.{masks_of}
use Rattle.pardo_program.specs.Nested.{LinesLead, Belongs, IsNested, around, opened_by}
use Rattle.pardo_program.specs.Nested.{loop_begin, loop_end_told, said_by}
use Rattle.pardo_program.specs.Blocks.{choice_depth}
use Rattle.pardo_program.specs.Tests.{Known, is_below, untested, without_tests, target_untested}
use Rattle.pardo_program.specs.Tests.{statement_untested, known_after, lines_untested}

-- ---- what holds of lines

untested_kept : (b : Bounds) (known : Known) (o : Op) (first second : Tree) (n : Option ℕ) →
    IsExpression b first → IsExpression b second →
    IsExpression b (untested known o first second n)
untested_kept b known op.Within first second (Some n) p q = either (is_below known n first)
  where
    either : (t : Bool) →
        IsExpression b (if t then first else apply op.Within first second)
    either true = p
    either false = (p, q)
untested_kept b known o first second n p q = (p, q)

tree_kept : (b : Bounds) (known : Known) (tree : Tree) → IsExpression b tree →
    IsExpression b (without_tests known tree)
tree_kept b known (number k) is = is
tree_kept b known own is = is
tree_kept b known (loop nest) is = is
tree_kept b known (private x) is = is
tree_kept b known (place array index) is = (is.0, tree_kept b known index is.1)
tree_kept b known (apply o first second) is =
    let bound = without_tests known second in
    untested_kept b known o (without_tests known first) bound (constant_of bound)
    (tree_kept b known first is.0) (tree_kept b known second is.1)

target_kept : (b : Bounds) (known : Known) (to : Target) → IsTarget b to →
    IsTarget b (target_untested known to)
target_kept b known (target.Private x) is = is
target_kept b known (target.Array array index) is = (is.0, tree_kept b known index is.1)

said_kept : (b : Bounds) (known : Known) (said : Statement) → IsStatement b said →
    IsStatement b (statement_untested known said)
said_kept b known (statement.Assign to value) is =
    (target_kept b known to is.0, tree_kept b known value is.1)
said_kept b known (statement.If condition) is = tree_kept b known condition is
said_kept b known statement.Else is = is
said_kept b known statement.EndIf is = is
said_kept b known (statement.While condition end) is = is
said_kept b known (statement.EndWhile begin) is = is
said_kept b known (statement.For nest first last up end) is = is
said_kept b known (statement.EndFor begin) is = is

same_masks : (known : Known) (said : Statement) →
    masks_of (statement_untested known said) ≡ masks_of said
same_masks known (statement.Assign to value) = refl
same_masks known (statement.If condition) = refl
same_masks known statement.Else = refl
same_masks known statement.EndIf = refl
same_masks known (statement.While condition end) = refl
same_masks known (statement.EndWhile begin) = refl
same_masks known (statement.For nest first last up end) = refl
same_masks known (statement.EndFor begin) = refl

line_kept : (b : Bounds) (known : Known) (line : Line) → IsLine b line →
    IsLine b (record line { statement = statement_untested known line.statement })
line_kept b known line is = (
  said_kept b known line.statement is.0,
  subst (λ masks. line.depth + masks ≤ b.choices) (sym (same_masks known line.statement)) is.1,
)

pub lines_kept : (b : Bounds) (lines : List Line) (known : Known) → All (IsLine b) lines →
    All (IsLine b) (lines_untested known lines)
lines_kept b [] known are = are
lines_kept b (line ∷ lines) known are =
    All-cons (IsLine b) _ _ (line_kept b known line (All-head (IsLine b) line lines are))
    (lines_kept b lines (known_after known line.statement) (All-tail (IsLine b) line lines are))

pub same_length : (lines : List Line) (known : Known) →
    length (lines_untested known lines) ≡ length lines
same_length [] known = refl
same_length (line ∷ lines) known =
    ap suc (same_length lines (known_after known line.statement))

-- ---- how blocks lie

same_around : (known : Known) (said : Statement) (blocks : List Block) →
    around (statement_untested known said) blocks ≡ around said blocks
same_around known (statement.Assign to value) blocks = refl
same_around known (statement.If condition) blocks = refl
same_around known statement.Else blocks = refl
same_around known statement.EndIf blocks = refl
same_around known (statement.While condition end) blocks = refl
same_around known (statement.EndWhile begin) blocks = refl
same_around known (statement.For nest first last up end) blocks = refl
same_around known (statement.EndFor begin) blocks = refl

same_opened : (known : Known) (at : ℕ) (said : Statement) →
    opened_by at (statement_untested known said) ≡ opened_by at said
same_opened known at (statement.Assign to value) = refl
same_opened known at (statement.If condition) = refl
same_opened known at statement.Else = refl
same_opened known at statement.EndIf = refl
same_opened known at (statement.While condition end) = refl
same_opened known at (statement.EndWhile begin) = refl
same_opened known at (statement.For nest first last up end) = refl
same_opened known at (statement.EndFor begin) = refl

same_belongs : (known : Known) (blocks : List Block) (said : Statement) → Belongs blocks said →
    Belongs blocks (statement_untested known said)
same_belongs known blocks (statement.Assign to value) is = tt
same_belongs known blocks (statement.If condition) is = tt
same_belongs known blocks statement.Else is = is
same_belongs known blocks statement.EndIf is = is
same_belongs known blocks (statement.While condition end) is = is
same_belongs known blocks (statement.EndWhile begin) is = is
same_belongs known blocks (statement.For nest first last up end) is = is
same_belongs known blocks (statement.EndFor begin) is = is

lead_kept : (lines : List Line) (known : Known) (at : ℕ) (blocks last : List Block) →
    LinesLead at blocks lines last → LinesLead at blocks (lines_untested known lines) last
lead_kept [] known at blocks last lead = lead
lead_kept (line ∷ lines) known at blocks last lead =
    let said = line.statement in (
      (
        same_belongs known blocks said lead.0.0,
        lead.0.1 ∙ ap choice_depth (sym (same_around known said blocks)),
      ),
      subst (λ (within : List Block).
          LinesLead (at + 1) within (lines_untested (known_after known said) lines) last)
          (sym (ap (λ (opened : List Block). opened ++ around (statement_untested known said) blocks)
          (same_opened known at said)
          ∙ ap (λ (out : List Block). opened_by at said ++ out) (same_around known said blocks)))
          (lead_kept lines (known_after known said) (at + 1) _ last lead.1),
    )

same_begin : (known : Known) (said : Statement) →
    loop_begin (statement_untested known said) ≡ loop_begin said
same_begin known (statement.Assign to value) = refl
same_begin known (statement.If condition) = refl
same_begin known statement.Else = refl
same_begin known statement.EndIf = refl
same_begin known (statement.While condition end) = refl
same_begin known (statement.EndWhile begin) = refl
same_begin known (statement.For nest first last up end) = refl
same_begin known (statement.EndFor begin) = refl

same_end : (known : Known) (said : Statement) →
    loop_end_told (statement_untested known said) ≡ loop_end_told said
same_end known (statement.Assign to value) = refl
same_end known (statement.If condition) = refl
same_end known statement.Else = refl
same_end known statement.EndIf = refl
same_end known (statement.While condition end) = refl
same_end known (statement.EndWhile begin) = refl
same_end known (statement.For nest first last up end) = refl
same_end known (statement.EndFor begin) = refl

same_said : (says : Statement → Option ℕ) →
    ((known : Known) (said : Statement) → says (statement_untested known said) ≡ says said) →
    (lines : List Line) (known : Known) (at : ℕ) →
    said_by says (slice_get (lines_untested known lines) at) ≡ said_by says (slice_get lines at)
same_said says same [] known at = refl
same_said says same (line ∷ lines) known zero = same known line.statement
same_said says same (line ∷ lines) known (suc at) =
    same_said says same lines (known_after known line.statement) at

pub nested_kept : (lines : List Line) (known : Known) → IsNested lines →
    IsNested (lines_untested known lines)
nested_kept lines known nested = (
  lead_kept lines known 0 [] [] nested.0,
  λ at begin said.
      let tied = nested.1 at begin (sym (same_said loop_begin same_begin lines known at) ∙ said) in
      (tied.0, same_said loop_end_told same_end lines known begin ∙ tied.1),
  λ begin end said. same_said loop_begin same_begin lines known end
      ∙ nested.2 begin end (sym (same_said loop_end_told same_end lines known begin) ∙ said),
)
