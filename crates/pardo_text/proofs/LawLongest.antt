-- A line begins with no longer token than the one that is taken.
use Rattle.std.proofs.Common.{◌≡◌, ℕ, suc, ◌+◌, ◌≤◌, Bool, true, false, not, ◌&&◌, cond}
use Rattle.std.proofs.Common.{if◌then◌else◌, List, [], ◌∷◌, ◌++◌, length, take, drop, nat_le}
use Rattle.std.proofs.Common.{Option, Some, None, refl, sym, ap, ◌∙◌, arith}
use Rattle.std.specs.Char.{is_ascii_digit}
use Rattle.std.specs.List.{prefix_len}
use Rattle.std.specs.Str.{bytes_eq}
use Rattle.std.proofs.lemmas.Bool.{and_parts}
use Rattle.std.proofs.lemmas.Bool.Decides.{nat_tests}
use Rattle.std.proofs.lemmas.List.{take-append-le, length-take, length-drop, length-append}
use Rattle.std.proofs.lemmas.Slice.Eq.{bytes_eq-Decides}
use Rattle.pardo_text.specs.declared.symbol.Symbol.{Symbol}
use Rattle.pardo_text.specs.Laws.{TokensAreLongest}
use Rattle.text_lines.specs.Lines.{Word}
use Rattle.pardo_text.specs.Tokens.{Token, symbol, marks, mark_by, run_len, begins_name}
use Rattle.pardo_text.specs.Tokens.{is_of_name, token_at}
use Rattle.pardo_text.proofs.Runs.{unwrap_or-position}

-- what is after a token
abbrev after_of : Option (Token × List ℕ) → List ℕ
after_of None = []
after_of (Some found) = found.1

-- What a line gives is no shorter than what its front gives, if that is all of the front.
abbrev NoLonger : List ℕ → List ℕ → Option (Token × List ℕ) → Option (Token × List ℕ) → Type 0
NoLonger front line found found_in_front =
    (token other : Token) (rest : List ℕ) → found ≡ Some (token, rest) →
    found_in_front ≡ Some (other, []) → length front + length rest ≤ length line

choose : (front line : List ℕ) (first second : Bool) (a b c d e f : Option (Token × List ℕ)) →
    NoLonger front line a b → NoLonger front line c d → NoLonger front line e f →
    NoLonger front line (if first then a else (if second then c else e))
    (if first then b else (if second then d else f))
choose front line true second a b c d e f p q r = p
choose front line false true a b c d e f p q r = q
choose front line false false a b c d e f p q r = r

-- nothing is after so many elements
all_dropped : (n : ℕ) (bytes : List ℕ) → drop n bytes ≡ [] → length bytes ≤ n
all_dropped n bytes e =
    let none : length (drop n bytes) ≡ 0 = ap length e in omega (arith, length-drop n bytes)

-- ---- names and numbers

longer_if : (test : Bool) (n a b : ℕ) → suc n ≤ cond test (1 + a) 0 → (n ≤ a → n ≤ b) →
    suc n ≤ cond test (1 + b) 0
longer_if true n a b few more = let up : n ≤ b = more (omega arith) in omega arith
longer_if false n a b few more = absurd (omega arith)

run_on : (p : ℕ → Bool) (front after : List ℕ) → length front ≤ prefix_len p front →
    length front ≤ prefix_len p (front ++ after)
run_on p [] after few = omega arith
run_on p (byte ∷ front) after few =
    longer_if (p byte) (length front) (prefix_len p front) (prefix_len p (front ++ after)) few
    (run_on p front after)

run : (is_of : ℕ → Bool) (front after : List ℕ) (token other : Token) →
    NoLonger front (front ++ after)
    (Some (token, drop (run_len is_of (front ++ after)) (front ++ after)))
    (Some (other, drop (run_len is_of front) front))
run is_of front after token other = λ t o rest e f.
    let none : drop (run_len is_of front) front ≡ [] = ap after_of f in
    let left : drop (run_len is_of (front ++ after)) (front ++ after) ≡ rest = ap after_of e in
    let few : length front ≤ run_len is_of front = all_dropped (run_len is_of front) front none in
    let here = unwrap_or-position (λ x. not (is_of x)) front in
    let there = unwrap_or-position (λ x. not (is_of x)) (front ++ after) in
    let more = run_on (λ x. not (not (is_of x))) front after (omega (arith, few, here)) in
    omega (
      arith,
      more,
      there,
      ap length left,
      length-drop (run_len is_of (front ++ after)) (front ++ after),
      length-append front after,
    )

-- ---- marks

-- no row is spelled by more bytes
abbrev at_most : ℕ → List (Word × Symbol) → Bool
at_most n [] = true
at_most n (row ∷ rows) = nat_le (length row.0) n && at_most n rows

-- a longer row stands before a shorter one
abbrev longest_first : List (Word × Symbol) → Bool
longest_first [] = true
longest_first (row ∷ rows) = at_most (length row.0) rows && longest_first rows

abbrev by_row : Option (Token × List ℕ) → Word × Symbol → List ℕ → Bool → Option (Token × List ℕ)
by_row rest row line test = if test then Some (symbol row.1, drop (length row.0) line) else rest

at_row : (row : Word × Symbol) (front : List ℕ) (other : Token) (n : ℕ) (test : Bool)
    (rest : Option (Token × List ℕ)) → length row.0 ≤ n →
    (rest ≡ Some (other, []) → length front ≤ n) → by_row rest row front test ≡ Some (other, []) →
    length front ≤ n
at_row row front other n true rest few more e =
    let none : drop (length row.0) front ≡ [] = ap after_of e in
    omega (arith, all_dropped (length row.0) front none)
at_row row front other n false rest few more e = more e

row_within : (row : Word × Symbol) (n : ℕ) → nat_le (length row.0) n ≡ true → length row.0 ≤ n
row_within row n e = grind (arith, nat_tests)

within_bound : (rows : List (Word × Symbol)) (n : ℕ) (front : List ℕ) (other : Token) →
    at_most n rows ≡ true → mark_by rows front ≡ Some (other, []) → length front ≤ n
within_bound [] n front other few e = absurd (let none : None ≡ Some (other, []) = e in cc)
within_bound (row ∷ rows) n front other few e =
    let parts = and_parts (nat_le (length row.0) n) (at_most n rows) few in
    at_row row front other n (bytes_eq (take (length row.0) front) row.0) (mark_by rows front)
    (row_within row n parts.0) (within_bound rows n front other parts.1) e

taken : (row : Word × Symbol) (front after rest : List ℕ) →
    drop (length row.0) (front ++ after) ≡ rest → length front ≤ length row.0 →
    length front + length rest ≤ length (front ++ after)
taken row front after rest e few =
    omega (
      arith,
      ap length e,
      length-drop (length row.0) (front ++ after),
      length-append front after,
    )

-- what a front is spelled by, its line begins with
begins_too : (row : Word × Symbol) (front after : List ℕ) →
    bytes_eq (take (length row.0) front) row.0 ≡ true →
    bytes_eq (take (length row.0) (front ++ after)) row.0 ≡ true
begins_too row front after e =
    let k = length row.0 in
    let is : take k front ≡ row.0 = (bytes_eq-Decides (take k front) row.0).0 e in
    let few : k ≤ length front = omega (arith, ap length is, length-take k front) in
    (bytes_eq-Decides (take k (front ++ after)) row.0).1 (take-append-le k front after few ∙ is)

both_rows : (row : Word × Symbol) (front after : List ℕ) (there here : Bool)
    (in_line in_front : Option (Token × List ℕ)) →
    bytes_eq (take (length row.0) (front ++ after)) row.0 ≡ there →
    bytes_eq (take (length row.0) front) row.0 ≡ here →
    ((other : Token) → in_front ≡ Some (other, []) → length front ≤ length row.0) →
    NoLonger front (front ++ after) in_line in_front →
    NoLonger front (front ++ after) (by_row in_line row (front ++ after) there)
    (by_row in_front row front here)
both_rows row front after true true in_line in_front p q few more = λ token other rest e f.
    let none : drop (length row.0) front ≡ [] = ap after_of f in
    taken row front after rest (ap after_of e) (all_dropped (length row.0) front none)
both_rows row front after true false in_line in_front p q few more = λ token other rest e f.
    taken row front after rest (ap after_of e) (few other f)
both_rows row front after false true in_line in_front p q few more =
    absurd (let both : true ≡ false = sym (begins_too row front after q) ∙ p in cc)
both_rows row front after false false in_line in_front p q few more = more

longest_mark : (rows : List (Word × Symbol)) (front after : List ℕ) → longest_first rows ≡ true →
    NoLonger front (front ++ after) (mark_by rows (front ++ after)) (mark_by rows front)
longest_mark [] front after ordered = λ token other rest e f.
    absurd (let none : None ≡ Some (other, []) = f in cc)
longest_mark (row ∷ rows) front after ordered =
    let parts = and_parts (at_most (length row.0) rows) (longest_first rows) ordered in
    both_rows row front after (bytes_eq (take (length row.0) (front ++ after)) row.0)
    (bytes_eq (take (length row.0) front) row.0) (mark_by rows (front ++ after))
    (mark_by rows front)
    refl refl (λ other. within_bound rows (length row.0) front other parts.0)
    (longest_mark rows front after parts.1)

-- ---- tokens

longest : (front after : List ℕ) →
    NoLonger front (front ++ after) (token_at (front ++ after)) (token_at front)
unfolding token_at
longest [] after = λ token other rest e f. absurd (let none : None ≡ Some (other, []) = f in cc)
longest (first ∷ front) after =
    let line = first ∷ front in
    choose line (line ++ after) (begins_name first) (is_ascii_digit first) _ _ _ _ _ _
    (run is_of_name line after _ _) (run is_ascii_digit line after _ _)
    (longest_mark marks line after refl)

pub tokens_are_longest : TokensAreLongest
tokens_are_longest line front after token other rest e split f =
    let here : token_at (front ++ after) ≡ Some (token, rest) = ap token_at (sym split) ∙ e in
    let few = longest front after token other rest here f in
    omega (arith, few, ap length split)
