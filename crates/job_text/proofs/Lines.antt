-- The lines of a text that was printed line by line.
use Rattle.std.proofs.Common.{◌≡◌, ℕ, ◌==◌, IsTrue, List, [], ◌∷◌, ◌++◌, All, map, refl, ap}
use Rattle.std.proofs.Common.{◌∙◌, append_assoc}
use Rattle.std.specs.List.{AllByRecursion, flat_map, join_with_byte, list_all, filter}
use Rattle.std.proofs.lemmas.Bool.{cond-true}
use Rattle.std.proofs.lemmas.List.Elements.{All-cons, All-nil}
use Rattle.std.proofs.lemmas.List.Splits.{slice_split_at}
use Rattle.text_lines.specs.Lines.{Line, is_allowed, is_filled, lines_of, words_of, worded}
use Rattle.text_lines.proofs.WordsOf.{words_of-nil}
use Rattle.job_text.specs.Printed.{line_text}
use Rattle.job_text.proofs.Plain.{PlainLine, joined_without_feed, words_joined, joined_allowed}

abbrev pub PlainLines : List Line → Type 0
PlainLines lines = AllByRecursion (λ line. PlainLine line) lines

-- the lines, and an empty one after the last line feed
abbrev pub printed_lines : List Line → List (List ℕ)
printed_lines lines = map (λ words. join_with_byte 32 words) lines ++ [] ∷ []

pub lines_are : (lines : List Line) → PlainLines lines →
    lines_of (flat_map line_text lines) ≡ printed_lines lines
lines_are [] h = refl
lines_are (words ∷ lines) h =
    ap lines_of (append_assoc (join_with_byte 32 words) (10 ∷ []) (flat_map line_text lines))
    ∙ slice_split_at (λ byte. byte == 10) (join_with_byte 32 words) 10 (flat_map line_text lines)
    (joined_without_feed words h.0.plain) refl
    ∙ ap (λ ls. join_with_byte 32 words ∷ ls) (lines_are lines h.1)

pub words_are : (lines : List Line) → PlainLines lines → worded (printed_lines lines) ≡ lines
words_are [] h = ap (λ words. filter is_filled (words ∷ [])) words_of-nil
words_are (words ∷ lines) h =
    ap (λ ws. filter is_filled (ws ∷ map words_of (printed_lines lines)))
    (words_joined words h.0.plain)
    ∙ cond-true (is_filled words) (words ∷ worded (printed_lines lines))
    (worded (printed_lines lines)) h.0.filled
    ∙ ap (λ ls. words ∷ ls) (words_are lines h.1)

pub lines_allowed : (lines : List Line) → PlainLines lines →
    All (λ line. IsTrue (list_all is_allowed line)) (printed_lines lines)
lines_allowed [] h =
    All-cons (λ line. IsTrue (list_all is_allowed line)) [] [] refl
    (All-nil (λ line. IsTrue (list_all is_allowed line)))
lines_allowed (words ∷ lines) h =
    All-cons (λ line. IsTrue (list_all is_allowed line)) (join_with_byte 32 words)
    (printed_lines lines) (joined_allowed words h.0.plain) (lines_allowed lines h.1)

pub PlainLines-append : (lines more : List Line) → PlainLines lines → PlainLines more →
    PlainLines (lines ++ more)
PlainLines-append [] more h k = k
PlainLines-append (l ∷ lines) more h k = (h.0, PlainLines-append lines more h.1 k)
