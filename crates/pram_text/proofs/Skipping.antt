-- A line of a text is passed on the way to the line of an instruction.
use Rattle.std.proofs.Common.{◌≡◌, ◌≢◌, ℕ, zero, suc, ◌+◌, ◌-◌, true, false, List, ◌∷◌}
use Rattle.std.proofs.Common.{refl, ap, subst, ◌∙◌, arith}
use Rattle.pram_text.specs.Judgement.{is_code}
use Rattle.text_lines.specs.Lines.{Line, is_filled, words_of}
use Rattle.pram_text.specs.declared.lines.Ahead.{Ahead}
use Rattle.pram_text.specs.declared.lines.Ahead.TheVariants.{Header, Body}
use Rattle.pram_text.proofs.Lists.{after_first_skip}
use Rattle.pram_text.specs.Inner.Ahead.{SkipsLine, line_ahead, line_among, numbered_from}

-- ---- among lines with words

pub skips_code : (index : ℕ) (words : Line) → is_code words ≡ true →
    SkipsLine index (Header 0) words (Body index)
skips_code index words is number entries = rw is refl

pub skips_other : (index : ℕ) (words : Line) → is_code words ≡ false →
    SkipsLine index (Header 0) words (Header 0)
skips_other index words other number entries =
    ap (λ (left : List (ℕ × Line)). line_among left index)
    (after_first_skip (λ (entry : ℕ × Line). is_code entry.1) (number, words) entries other)

one_less : (n : ℕ) → n ≡ suc n - 1
one_less n = omega arith

pub skips_header : (index lines : ℕ) (words : Line) → (lines ≡ 0 → is_code words ≡ false) →
    SkipsLine index (Header lines) words (Header (lines - 1))
skips_header index zero words other = skips_other index words (other refl)
skips_header index (suc lines) words other =
    subst (λ (less : ℕ). SkipsLine index (Header (suc lines)) words (Header less)) (one_less lines)
    (λ number entries. refl)

pub skips_body : (index instructions : ℕ) (words : Line) → Body instructions ≢ Body 0 →
    SkipsLine index (Body instructions) words (Body (instructions - 1))
skips_body index zero words other = absurd (other refl)
skips_body index (suc instructions) words other =
    subst (λ (less : ℕ). SkipsLine index (Body (suc instructions)) words (Body less))
    (one_less instructions) (λ number entries. refl)

-- ---- among all lines

numbered_filled : (number : ℕ) (line : List ℕ) (lines : List (List ℕ)) →
    is_filled (words_of line) ≡ true →
    numbered_from number (line ∷ lines)
    ≡ (number, words_of line) ∷ numbered_from (number + 1) lines
numbered_filled number line lines is = rw is refl

numbered_wordless : (number : ℕ) (line : List ℕ) (lines : List (List ℕ)) →
    is_filled (words_of line) ≡ false →
    numbered_from number (line ∷ lines) ≡ numbered_from (number + 1) lines
numbered_wordless number line lines is = rw is refl

module _ (index number : ℕ) (line : List ℕ) (lines : List (List ℕ)) where
  -- a line without words
  pub passes_wordless : (ahead : Ahead) → is_filled (words_of line) ≡ false →
      line_ahead index ahead (numbered_from number (line ∷ lines))
      ≡ line_ahead index ahead (numbered_from (number + 1) lines)
  passes_wordless ahead is = ap (line_ahead index ahead) (numbered_wordless number line lines is)

  -- a line with words that has another instruction or none
  pub passes_skipped : (ahead left : Ahead) → is_filled (words_of line) ≡ true →
      SkipsLine index ahead (words_of line) left →
      line_ahead index ahead (numbered_from number (line ∷ lines))
      ≡ line_ahead index left (numbered_from (number + 1) lines)
  passes_skipped ahead left is skips =
      ap (line_ahead index ahead) (numbered_filled number line lines is)
      ∙ skips number (numbered_from (number + 1) lines)

  -- the line of the instruction
  pub stands_here : is_filled (words_of line) ≡ true →
      line_ahead index (Body 0) (numbered_from number (line ∷ lines)) ≡ number
  stands_here is = ap (line_ahead index (Body 0)) (numbered_filled number line lines is)
