-- The token that comes next, by its first byte.
use Rattle.std.proofs.Common.{◌≡◌, ℕ, ◌≤◌, Bool, true, false, if◌then◌else◌, List, [], ◌∷◌}
use Rattle.std.proofs.Common.{length, take, drop, get_or, Some, refl, sym, ◌∙◌, arith}
use Rattle.std.specs.Char.{is_ascii_digit}
use Rattle.pardo_text.specs.Tokens.{Token, number, begins_name, is_of_name, keywords}
use Rattle.pardo_text.specs.Tokens.{number_spelled}
use Rattle.pardo_text.specs.Tokens.{run_len, token_at, word_by}

if_true : {A : Type 0} (test : Bool) (x y : A) → test ≡ true → (if test then x else y) ≡ x
if_true true x y e = refl
if_true false x y e = absurd (cc e)

if_false : {A : Type 0} (test : Bool) (x y : A) → test ≡ false → (if test then x else y) ≡ y
if_false true x y e = absurd (cc e)
if_false false x y e = refl

-- a name or a keyword
pub token_word : (line front back : List ℕ) (d n : ℕ) (token : Token) → 1 ≤ length line →
    begins_name (get_or line 0 d) ≡ true → n ≡ run_len is_of_name line → front ≡ take n line →
    back ≡ drop n line → token ≡ word_by keywords front → Some (token, back) ≡ token_at line
unfolding token_at
token_word [] front back d n token some begins is f b t = absurd (omega arith)
token_word (first ∷ rest) front back d n token some begins is f b t =
    rw (t, f, b, is) (sym (if_true (begins_name first) _ _ begins))

-- a number
pub token_number : (line front back : List ℕ) (d n value : ℕ) → 1 ≤ length line →
    begins_name (get_or line 0 d) ≡ false → is_ascii_digit (get_or line 0 d) ≡ true →
    n ≡ run_len is_ascii_digit line → front ≡ take n line → back ≡ drop n line →
    value ≡ number_spelled front → Some (number value, back) ≡ token_at line
unfolding token_at
token_number [] front back d n value some other begins is f b v = absurd (omega arith)
token_number (first ∷ rest) front back d n value some other begins is f b v =
    rw (v, f, b, is) (sym (if_false (begins_name first) _ _ other
    ∙ if_true (is_ascii_digit first) _ _ begins))
