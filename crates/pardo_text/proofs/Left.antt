-- The tokens that are left.
use Rattle.std.proofs.Common.{◌≡◌, ℕ, zero, suc, ◌+◌, ◌-◌, ◌<◌, ◌≤◌, true, false, List, [], ◌∷◌}
use Rattle.std.proofs.Common.{◌++◌, length, Some, None, Ok, Err, refl, sym, ap, ◌∙◌, arith}
use Rattle.std.proofs.Common.{append_assoc, append-nil, length-append}
use Rattle.pardo_text.specs.declared.fault.PardoKind.TheVariants.{BadSymbol}
use Rattle.text_lines.specs.Lines.{is_blank}
use Rattle.pardo_text.specs.Tokens.{Token, token_at, tokens_in, tokens_of}
use Rattle.pardo_text.specs.Inner.Tokens.{after_blanks, cut_first, tokens_cut, preceded}
use Rattle.pardo_text.proofs.Turns.{preceded-nil, tokens_in-blank, tokens_in-token, tokens_in-none}
use Rattle.pardo_text.proofs.Turns.{preceded-onto}

-- ---- the first one

pub cut_some : (len : ℕ) (line : List ℕ) (first : Token) (rest : List ℕ) → 0 < len →
    Some (first, rest) ≡ token_at (after_blanks line) →
    first ∷ tokens_cut (len - 1) rest ≡ tokens_cut len line
cut_some zero line first rest some e = absurd (omega arith)
cut_some (suc more) line first rest some e =
    ap (λ n. first ∷ tokens_cut n rest) (let less : suc more - 1 ≡ more = omega arith in less)
    ∙ ap (cut_first (tokens_cut more)) e

pub cut_none : (len : ℕ) (line : List ℕ) → None ≡ token_at (after_blanks line) →
    [] ≡ tokens_cut len line
cut_none zero line e = refl
cut_none (suc more) line e = ap (cut_first (tokens_cut more)) e

after_blank : (first : ℕ) (rest : List ℕ) → is_blank first ≡ true →
    after_blanks (first ∷ rest) ≡ after_blanks rest
after_blank first rest e = rw e refl

after_none : (first : ℕ) (rest : List ℕ) → is_blank first ≡ false →
    after_blanks (first ∷ rest) ≡ first ∷ rest
after_none first rest e = rw e refl

cut_blank : (k first : ℕ) (rest : List ℕ) → is_blank first ≡ true →
    tokens_cut k (first ∷ rest) ≡ tokens_cut k rest
cut_blank zero first rest e = refl
cut_blank (suc k) first rest e =
    ap (λ line. cut_first (tokens_cut k) (token_at line)) (after_blank first rest e)

cut_token : (k first : ℕ) (rest : List ℕ) (found : Token × List ℕ) → is_blank first ≡ false →
    token_at (first ∷ rest) ≡ Some found →
    tokens_cut (suc k) (first ∷ rest) ≡ found.0 ∷ tokens_cut k found.1
cut_token k first rest found e f =
    ap (λ line. cut_first (tokens_cut k) (token_at line)) (after_none first rest e)
    ∙ ap (cut_first (tokens_cut k)) f

-- ---- those that were counted

-- so many tokens of the line stand before this rest of it
pub record AreCounted (line rest : List ℕ) (count : ℕ) : Type 0 where
  pub turns : ℕ
  pub few : length rest ≤ turns
  pub tokens : tokens_of line ≡ preceded (tokens_cut count line) (tokens_in turns rest)
  pub more : (k : ℕ) → tokens_cut (count + k) line ≡ tokens_cut count line ++ tokens_cut k rest
  pub count_is : length (tokens_cut count line) ≡ count
  pub room : count + length rest ≤ length line

pub counted_none : (line : List ℕ) → AreCounted line line 0
unfolding tokens_of
counted_none line = record {
  turns = length line;
  few = omega arith;
  tokens = sym (preceded-nil (tokens_in (length line) line));
  more = λ k. ap (λ n. tokens_cut n line) (let same : 0 + k ≡ k = omega arith in same);
  count_is = refl;
  room = omega arith;
}

pub counted_blank : (line : List ℕ) (first : ℕ) (rest : List ℕ) (count : ℕ) →
    AreCounted line (first ∷ rest) count → is_blank first ≡ true → AreCounted line rest count
counted_blank line first rest count c e =
    let next = tokens_in-blank c.turns first rest c.few e in
    record {
      turns = next.0;
      few = next.1;
      tokens = c.tokens ∙ ap (preceded (tokens_cut count line)) next.2;
      more = λ k. c.more k ∙ ap (λ left. tokens_cut count line ++ left) (cut_blank k first rest e);
      count_is = c.count_is;
      room = omega (arith, c.room);
    }

pub counted_token : (line : List ℕ) (first : ℕ) (rest : List ℕ) (count : ℕ)
    (found : Token × List ℕ) → AreCounted line (first ∷ rest) count → is_blank first ≡ false →
    token_at (first ∷ rest) ≡ Some found → length found.1 < length (first ∷ rest) →
    AreCounted line found.1 (count + 1)
counted_token line first rest count found c e f shorter =
    let next = tokens_in-token c.turns first rest found c.few e f shorter in
    let one : tokens_cut (count + 1) line ≡ tokens_cut count line ++ found.0 ∷ [] =
    c.more 1 ∙ ap (λ left. tokens_cut count line ++ left) (cut_token 0 first rest found e f) in
    record {
      turns = next.0;
      few = next.1;
      tokens = c.tokens ∙ ap (preceded (tokens_cut count line)) next.2
          ∙ preceded-onto (tokens_cut count line) found.0 (tokens_in next.0 found.1)
          ∙ ap (λ front. preceded front (tokens_in next.0 found.1)) (sym one);
      more = λ k. ap (λ n. tokens_cut n line)
          (let same : count + 1 + k ≡ count + suc k = omega arith in same)
          ∙ c.more (suc k)
          ∙ ap (λ left. tokens_cut count line ++ left) (cut_token k first rest found e f)
          ∙ sym (append_assoc (tokens_cut count line) (found.0 ∷ []) (tokens_cut k found.1))
          ∙ ap (λ front. front ++ tokens_cut k found.1) (sym one);
      count_is = ap length one ∙ length-append (tokens_cut count line) (found.0 ∷ [])
          ∙ ap (λ n. n + 1) c.count_is;
      room = omega (arith, c.room);
    }

pub counted_all : (line rest : List ℕ) (count : ℕ) → AreCounted line rest count → rest ≡ [] →
    tokens_of line ≡ Ok (tokens_cut count line)
counted_all line rest count c e =
    c.tokens ∙ ap (λ left. preceded (tokens_cut count line) (tokens_in c.turns left)) e
    ∙ ap Ok (append-nil (tokens_cut count line))

pub counted_bad : (line : List ℕ) (first : ℕ) (rest : List ℕ) (count : ℕ) →
    AreCounted line (first ∷ rest) count → is_blank first ≡ false → token_at (first ∷ rest) ≡ None
    → tokens_of line ≡ Err BadSymbol
counted_bad line first rest count c e f =
    c.tokens ∙ ap (preceded (tokens_cut count line))
    (tokens_in-none c.turns first rest c.few e f)
