-- The end of a `for` names a `for`.
use Rattle.std.proofs.Common.{◌≡◌, ℕ, zero, suc, ◌+◌, List, [], ◌∷◌, ◌++◌, Option, Some, None}
use Rattle.std.proofs.Common.{refl, sym, ap, ◌∙◌, subst, arith, length, length-append, append_assoc}
use Rattle.std.specs.Prelude.{slice_get, drop}
use Rattle.std.proofs.lemmas.Option.{none-some, same_Some}
use Rattle.pardo_program.specs.declared.block.Block.{Block}
use Rattle.pardo_program.specs.declared.block.Block.TheVariants as block
use Rattle.pardo_program.specs.declared.statement.Line.{Line}
use Rattle.pardo_program.specs.declared.statement.Statement.{Statement}
use Rattle.pardo_program.specs.declared.statement.Statement.TheVariants.{Assign, If, Else, EndIf}
use Rattle.pardo_program.specs.declared.statement.Statement.TheVariants.{While, EndWhile, For}
use Rattle.pardo_program.specs.declared.statement.Statement.TheVariants.{EndFor}
use Rattle.pardo_program.specs.Nested.{LinesLead, Belongs, opened_by, around, IsNested}

abbrev pub IsFor : Statement → Type 0
IsFor (For nest first last up end) = Unit {0}
IsFor _ = ⊥

-- the statement of a line, if there is one
abbrev pub statement_in : List Line → ℕ → Statement
statement_in lines k = elim (slice_get lines k) as (λ (x : Option Line). Statement)
    [ None ↦ EndIf | Some l ↦ l.statement ]

abbrev AreFors : List Line → List Block → Type 0
AreFors whole [] = Unit {0}
AreFors whole (block.For begin ∷ blocks) = IsFor (statement_in whole begin) × AreFors whole blocks
AreFors whole (block.While begin ∷ blocks) = AreFors whole blocks
AreFors whole (block.If ∷ blocks) = AreFors whole blocks
AreFors whole (block.Else ∷ blocks) = AreFors whole blocks
AreFors whole (block.Elsif ∷ blocks) = AreFors whole blocks

fors_drop : (whole : List Line) (blocks : List Block) → AreFors whole blocks →
    AreFors whole (drop 1 blocks)
fors_drop whole [] are = tt
fors_drop whole (block.For begin ∷ blocks) are = are.1
fors_drop whole (block.While begin ∷ blocks) are = are
fors_drop whole (block.If ∷ blocks) are = are
fors_drop whole (block.Else ∷ blocks) are = are
fors_drop whole (block.Elsif ∷ blocks) are = are

fors_around : (whole : List Line) (statement : Statement) (blocks : List Block) →
    AreFors whole blocks →
    AreFors whole (around statement blocks)
fors_around whole Else blocks are = fors_drop whole blocks are
fors_around whole EndIf blocks are = fors_drop whole blocks are
fors_around whole (EndWhile begin) blocks are = fors_drop whole blocks are
fors_around whole (EndFor begin) blocks are = fors_drop whole blocks are
fors_around whole (Assign target tree) blocks are = are
fors_around whole (If tree) blocks are = are
fors_around whole (While tree end) blocks are = are
fors_around whole (For nest first last up end) blocks are = are

fors_opened : (whole : List Line) (at : ℕ) (statement : Statement) (blocks : List Block) →
    statement_in whole at ≡ statement → AreFors whole blocks →
    AreFors whole (opened_by at statement ++ blocks)
fors_opened whole at (For nest first last up end) blocks e are = (subst IsFor (sym e) tt, are)
fors_opened whole at (While tree end) blocks e are = are
fors_opened whole at (If tree) blocks e are = are
fors_opened whole at Else blocks e are = are
fors_opened whole at EndIf blocks e are = are
fors_opened whole at (EndWhile begin) blocks e are = are
fors_opened whole at (EndFor begin) blocks e are = are
fors_opened whole at (Assign target tree) blocks e are = are

first_for : (whole : List Line) (begin : ℕ) (blocks : List Block) (statement : Statement) →
    statement ≡ EndFor begin →
    Belongs blocks statement → AreFors whole blocks → IsFor (statement_in whole begin)
first_for whole begin blocks statement e belongs are =
    let is : Belongs blocks (EndFor begin) = subst (Belongs blocks) e belongs in
    let fors : AreFors whole (block.For begin ∷ is.0) = subst (AreFors whole) is.1 are in fors.0

get_seam : (before : List Line) (line : Line) (after : List Line) →
    slice_get (before ++ line ∷ after) (length before) ≡ Some line
get_seam [] line after = refl
get_seam (x ∷ before) line after = get_seam before line after

found_at : (whole : List Line) (before : List Line) (line : Line) (after : List Line) (at : ℕ) →
    whole ≡ before ++ line ∷ after → length before ≡ at → statement_in whole at ≡ line.statement
found_at whole before line after at is len =
    ap (λ (o : Option Line). elim o as (λ (x : Option Line). Statement)
    [ None ↦ EndIf | Some l ↦ l.statement ])
    (ap (slice_get whole) (sym len) ∙ ap (λ lines. slice_get lines (length before)) is ∙
    get_seam before line after)

end_is : (line : Line) (begin : ℕ) (o : Option Line) → o ≡ Some line →
    elim o as (λ (x : Option Line). Statement) [ None ↦ EndIf | Some l ↦ l.statement ] ≡
    EndFor begin → line.statement ≡ EndFor begin
end_is line begin o e f = sym (ap
    (λ (x : Option Line). elim x as (λ (y : Option Line). Statement)
    [ None ↦ EndIf | Some l ↦ l.statement ]) e) ∙ f

leads_to : (whole : List Line) (lines : List Line) (before : List Line) (at : ℕ)
    (blocks last : List Block) →
    whole ≡ before ++ lines → length before ≡ at → AreFors whole blocks →
    LinesLead at blocks lines last →
    (k begin : ℕ) (line : Line) → slice_get lines k ≡ Some line → line.statement ≡ EndFor begin →
    IsFor (statement_in whole begin)
leads_to whole [] before at blocks last same len are leads k begin line is ends =
    absurd (none-some line is)
leads_to whole (first ∷ lines) before at blocks last same len are leads zero begin line is ends =
    let one : first ≡ line = same_Some first line is in
    first_for whole begin blocks first.statement (ap (λ (l : Line). l.statement) one ∙ ends)
    leads.0.0 are
leads_to whole (first ∷ lines) before at blocks last same len are leads (suc k) begin line is ends =
    leads_to whole lines (before ++ first ∷ []) (at + 1)
    (opened_by at first.statement ++ around first.statement blocks) last
    (same ∙ sym (append_assoc before (first ∷ []) lines))
    (length-append before (first ∷ []) ∙ (let e : length before + 1 ≡ at + 1 = omega arith in e))
    (fors_opened whole at first.statement (around first.statement blocks)
    (found_at whole before first lines at same len)
    (fors_around whole first.statement blocks are))
    leads.1 k begin line is ends

pub turns_tied : (whole : List Line) → IsNested whole → (j begin : ℕ) → statement_in whole j ≡
    EndFor begin →
    IsFor (statement_in whole begin)
turns_tied whole nested j begin e = by_line (slice_get whole j) refl
  where
    by_line : (o : Option Line) → slice_get whole j ≡ o → IsFor (statement_in whole begin)
    by_line None f =
        let none : EndIf ≡ EndFor begin =
        sym (ap (λ (x : Option Line). elim x as (λ (y : Option Line). Statement)
        [ None ↦ EndIf | Some l ↦ l.statement ]) f) ∙ e in absurd (cc)
    by_line (Some line) f = leads_to whole whole [] 0 [] [] refl refl tt nested.0 j begin line f
        (end_is line begin (slice_get whole j) f e)
