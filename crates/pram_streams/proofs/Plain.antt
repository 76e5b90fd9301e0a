-- Fields that csv writes without quotes.
use Rattle.std.proofs.Common.{◌≡◌, ◌<◌, ◌^◌, ◌∷◌, [], ℕ, List, false, refl, arith}
use Rattle.std.proofs.lemmas.Bool.{ne_eqb}
use Rattle.std.proofs.lemmas.Fmt.{decimal_is_IsNumeral}
use Rattle.std.proofs.lemmas.Str.Parse.{digit_at}
use Rattle.std.specs.Prelude.{decimal}
use Rattle.std.specs.Char.{digit_value}
use Rattle.std.specs.Str.Parse.{AllDigits}
use Rattle.csv.specs.Writing.{default_writer, field_text, needs_byte, needs_quotes}

-- no byte of the field calls for quotes
abbrev pub IsUnquoted : List ℕ → Type 0
IsUnquoted field = needs_quotes default_writer field ≡ false

-- csv writes the field as it is
abbrev pub IsPlain : List ℕ → Type 0
IsPlain field = field_text default_writer field ≡ field

pub plain : (field : List ℕ) → IsUnquoted field → IsPlain field
plain field unquoted = rw unquoted refl

digit-unquoted : (byte : ℕ) → digit_value byte < 10 → needs_byte default_writer byte ≡ false
digit-unquoted byte digit =
    let within = digit_at (byte ∷ []) 0 (digit, tt) (omega arith) in
    rw (
      ne_eqb byte 44 (λ is. omega (arith, is, within)),
      ne_eqb byte 34 (λ is. omega (arith, is, within)),
      ne_eqb byte 13 (λ is. omega (arith, is, within)),
      ne_eqb byte 10 (λ is. omega (arith, is, within)),
    ) refl

digits-unquoted : (digits : List ℕ) → AllDigits 10 digits → IsUnquoted digits
digits-unquoted [] all = refl
digits-unquoted (digit ∷ digits) (first, all) =
    rw (digit-unquoted digit first) (digits-unquoted digits all)

pub decimal-unquoted : (n : ℕ) → n < 2 ^ 64 → IsUnquoted (decimal n)
decimal-unquoted n fits = digits-unquoted (decimal n) (decimal_is_IsNumeral n fits).0.1
