-- A line without words is skipped, and a fault is within its text.
use Rattle.std.proofs.Common.{◌≡◌, ℕ, cond, get_or, List, [], ◌∷◌, ◌++◌}
use Rattle.std.proofs.Common.{IsTrue, sym, ap, subst, ◌∙◌, inl, inr, arith}
use Rattle.std.specs.List.{AllByRecursion}
use Rattle.std.proofs.lemmas.List.{get_or-map}
use Rattle.std.proofs.lemmas.List.Elements.{recursion_from_All, All-from_recursion}
use Rattle.pram_text.specs.Laws.{FaultIsWithin, CommentsSayNothing}
use Rattle.pram_text.specs.Laws.{BlanksSayNothing, WordlessLinesAreSkipped}
use Rattle.text_lines.specs.Lines.{Line, lines_of, words_of, worded, is_filled}
use Rattle.pram_text.specs.Text.{SpellsLines, numbered_body, Bears}
use Rattle.pram_text.proofs.Worded.{body_numbers-within}
use Rattle.pram_text.proofs.LawAlike.{allowed, same_lines, say_same}
use Rattle.pram_text.proofs.LawBlanks.{comment_has_no_words, comment_is_allowed}
use Rattle.pram_text.proofs.LawBlanks.{blanks_are_no_words, blanks_are_allowed}

-- ---- one line in the place of another

pub comments : CommentsSayNothing
comments text other line comment h a = say_same text other
    (same_lines text other line (line ++ 59 ∷ comment) h (comment_has_no_words line comment)
    (comment_is_allowed line comment a))

pub blanks : BlanksSayNothing
blanks text other left line right h l r = say_same text other
    (same_lines text other line (left ++ line ++ right) h (blanks_are_no_words left line right l r)
    (blanks_are_allowed left line right l r))

-- ---- one line less

without : (before : List (List ℕ)) (line : List ℕ) (after : List (List ℕ)) → words_of line ≡ [] →
    worded (before ++ line ∷ after) ≡ worded (before ++ after)
without [] line after e =
    ap (λ words. cond (is_filled words) (words ∷ worded after) (worded after)) e
without (b ∷ before) line after e = λ i. cond (is_filled (words_of b))
    (words_of b ∷ without before line after e i) (without before line after e i)

module _ {X : Type 0} (P : X → Type 0) where
  all_without : (before : List X) (x : X) (after : List X) →
      AllByRecursion P (before ++ x ∷ after) → AllByRecursion P (before ++ after)
  all_without [] x after h = h.1
  all_without (b ∷ before) x after h = (h.0, all_without before x after h.1)

  all_with : (before : List X) (x : X) (after : List X) → P x → AllByRecursion P (before ++ after) →
      AllByRecursion P (before ++ x ∷ after)
  all_with [] x after p h = (p, h)
  all_with (b ∷ before) x after p h = (h.0, all_with before x after p h.1)

abbrev Allowed : List ℕ → Type 0
Allowed line = IsTrue (allowed line)

pub skipped : WordlessLinesAreSkipped
skipped text other before line after e f a w job = (
  λ t. record {
    allowed = All-from_recursion Allowed (lines_of other)
        (subst (AllByRecursion Allowed) (sym f) (all_without Allowed before line after
        (subst (AllByRecursion Allowed) e (recursion_from_All Allowed (lines_of text) t.allowed))));
    lines = subst (λ l. SpellsLines job l) same t.lines;
  },
  λ t. record {
    allowed = All-from_recursion Allowed (lines_of text)
        (subst (AllByRecursion Allowed) (sym e) (all_with Allowed before line after a (subst
        (AllByRecursion Allowed) f (recursion_from_All Allowed (lines_of other) t.allowed))));
    lines = subst (λ l. SpellsLines job l) (sym same) t.lines;
  },
)
  where
    same : worded (lines_of text) ≡ worded (lines_of other)
    same = ap worded e ∙ without before line after w ∙ sym (ap worded f)

-- ---- a fault is within its text

pub fault_is_within : FaultIsWithin
unfolding Bears
fault_is_within text line kind (inl first) =
    (omega (arith, first.1), omega (arith, first.1, first.2.within))
fault_is_within text line kind (inr label) =
    let lines = lines_of text in
    let within = body_numbers-within lines label.1 (0, []) label.3.within in
    let number : line ≡ (get_or (numbered_body lines) label.1 (0, [])).0 = label.2
    ∙ get_or-map (λ (l : ℕ × Line). l.0) (numbered_body lines) label.1 (0, []) 0 label.3.within in
    (omega (arith, number, within.0), omega (arith, number, within.1))
