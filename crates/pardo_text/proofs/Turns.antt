-- The turns in which a line is cut into tokens.
use Rattle.std.proofs.Common.{◌≡◌, ℕ, zero, suc, ◌<◌, ◌≤◌, true, false, List, [], ◌∷◌, ◌++◌}
use Rattle.std.proofs.Common.{length, Some, None, Result, Ok, Err, refl, sym, ap}
use Rattle.std.proofs.Common.{arith, append_assoc}
use Rattle.pardo_text.specs.declared.fault.PardoKind.{PardoKind}
use Rattle.pardo_text.specs.declared.fault.PardoKind.TheVariants.{BadSymbol}
use Rattle.text_lines.specs.Lines.{is_blank}
use Rattle.pardo_text.specs.Tokens.{Token, token_at, tokens_in, onto}
use Rattle.pardo_text.specs.Inner.Tokens.{preceded}

pub preceded-nil : (read : Result (List Token) PardoKind) → preceded [] read ≡ read
preceded-nil (Ok tokens) = refl
preceded-nil (Err kind) = refl

pub preceded-onto : (front : List Token) (token : Token) (read : Result (List Token) PardoKind) →
    preceded front (onto token read) ≡ preceded (front ++ token ∷ []) read
preceded-onto front token (Ok tokens) = ap Ok (sym (append_assoc front (token ∷ []) tokens))
preceded-onto front token (Err kind) = refl

pub tokens_in-blank : (turns first : ℕ) (rest : List ℕ) → length (first ∷ rest) ≤ turns →
    is_blank first ≡ true
    → (left : ℕ) × (length rest ≤ left) × (tokens_in turns (first ∷ rest) ≡ tokens_in left rest)
tokens_in-blank zero first rest few e = absurd (omega arith)
tokens_in-blank (suc left) first rest few e = (left, omega arith, rw e refl)

pub tokens_in-token : (turns first : ℕ) (rest : List ℕ) (found : Token × List ℕ) →
    length (first ∷ rest) ≤ turns → is_blank first ≡ false → token_at (first ∷ rest) ≡ Some found
    → length found.1 < length (first ∷ rest)
    → (left : ℕ) × (length found.1 ≤ left)
    × (tokens_in turns (first ∷ rest) ≡ onto found.0 (tokens_in left found.1))
tokens_in-token zero first rest found few e f shorter = absurd (omega arith)
tokens_in-token (suc left) first rest found few e f shorter =
    (left, omega arith, rw (e, f) refl)

pub tokens_in-none : (turns first : ℕ) (rest : List ℕ) → length (first ∷ rest) ≤ turns →
    is_blank first ≡ false → token_at (first ∷ rest) ≡ None →
    tokens_in turns (first ∷ rest) ≡ Err BadSymbol
tokens_in-none zero first rest few e f = absurd (omega arith)
tokens_in-none (suc left) first rest few e f = rw (e, f) refl
