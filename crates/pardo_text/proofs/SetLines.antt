-- Texts in which nothing is set.
use Rattle.std.proofs.Common.{◌≡◌, ℕ, false, List, [], ◌∷◌, ◌++◌, Option, Some, None, map, codes}
use Rattle.std.proofs.Common.{refl, ap, ap₂, ◌∙◌}
use Rattle.std.specs.List.{join_with_byte}
use Rattle.std.specs.Option.{option_and_then}
use Rattle.std.proofs.lemmas.List.Splits.{join_with_byte-slice_split}
use Rattle.text_lines.specs.Lines.{lines_of, said_in}
use Rattle.pardo_text.specs.Laws.{NothingSetChangesNothing}
use Rattle.pardo_text.specs.Settings.{declared_at, line_as_set, parted, set_in, settled}
use Rattle.pardo_text.specs.Settings.{text_as_set, settable_value}

none_comes : {A B : Type 0} (f : A → Option B) (o : Option A) → ((a : A) → f a ≡ None) →
    option_and_then f o ≡ None
none_comes f None never = refl
none_comes f (Some a) never = never a

none_set : (line : List ℕ) → set_in false [] line ≡ None
none_set line =
    none_comes _ (declared_at line)
    (λ declared. none_comes _ (settable_value declared.0 declared.2) (λ rest. refl))

line_stays : (line : List ℕ) → line_as_set [] line ≡ line
line_stays line =
    ap (λ (set : Option (List ℕ × List ℕ)). elim set [
      | None ↦ line
      | Some found ↦ found.0 ++ parted (codes " = ") found.1
    ]) (none_set (said_in line))

lines_stay : (lines : List (List ℕ)) → map (line_as_set []) lines ≡ lines
lines_stay [] = refl
lines_stay (line ∷ lines) =
    ap₂ (λ (l : List ℕ) (ls : List (List ℕ)). l ∷ ls) (line_stays line) (lines_stay lines)

pub nothing_set_changes_nothing : NothingSetChangesNothing
unfolding text_as_set settled
nothing_set_changes_nothing text =
    ap (join_with_byte 10) (lines_stay (lines_of text)) ∙ join_with_byte-slice_split 10 text
