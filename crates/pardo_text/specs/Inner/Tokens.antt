-- Tokens of the code as the definitions see them.
use Rattle.std.specs.Prelude.{◌≡◌, ◌≢◌, ℕ, zero, suc, ◌-◌, if◌then◌else◌, List, [], ◌∷◌, ◌++◌}
use Rattle.std.specs.Prelude.{Option, Some, None, Result, Ok, Err}
use Rattle.pardo_text.specs.declared.fault.PardoKind.{PardoKind}
use Rattle.pardo_text.specs.declared.fault.PardoKind.TheVariants.{Memory}
use Rattle.pardo_text.specs.declared.token.Token.{Token as Held}
use Rattle.pardo_text.specs.declared.token.Token.TheVariants as held
use Rattle.pardo_text.specs.Tokens.{Token, name, number, symbol, token_at}
use Rattle.text_lines.specs.Lines.{is_blank}

abbrev pub plain : Held → Token
plain (held.Name word) = name word.now
plain (held.Number value) = number value
plain (held.Symbol s) = symbol s

abbrev pub after_blanks : List ℕ → List ℕ
after_blanks [] = []
after_blanks (byte ∷ line) = if is_blank byte then after_blanks line else byte ∷ line

-- a token that was found, and what `more` cuts after it
abbrev pub cut_first : (List ℕ → List Token) → Option (Token × List ℕ) → List Token
cut_first more None = []
cut_first more (Some found) = found.0 ∷ more found.1

-- at most so many tokens with which a line begins
abbrev pub tokens_cut : ℕ → List ℕ → List Token
tokens_cut zero line = []
tokens_cut (suc more) line = cut_first (tokens_cut more) (token_at (after_blanks line))

-- the tokens that are left, this many at most, of which the first one was cut already
abbrev pub tokens_left : Option Held → ℕ → List ℕ → List Token
tokens_left None len rest = []
tokens_left (Some first) len rest = plain first ∷ tokens_cut (len - 1) rest

-- What a function returned, seen by view, is what reading gives, unless memory ran out.
abbrev pub GivesAsRead : {X Y : Type 0} → (X → Y) → Result X PardoKind → Result Y PardoKind → Type 0
GivesAsRead view (Ok value) read = read ≡ Ok (view value)
GivesAsRead view (Err kind) read = kind ≢ Memory → read ≡ Err kind

-- tokens with these in front
abbrev pub preceded : List Token → Result (List Token) PardoKind → Result (List Token) PardoKind
preceded front (Ok tokens) = Ok (front ++ tokens)
preceded front (Err kind) = Err kind
