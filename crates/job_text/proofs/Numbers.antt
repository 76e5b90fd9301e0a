-- Numbers and registers, printed and read.
use Rattle.std.proofs.Common.{◌≡◌, ℕ, zero, suc, ◌<◌, ◌≤◌, ◌^◌, true}
use Rattle.std.proofs.Common.{[], ◌∷◌, length, Ok, refl, arith, codes}
use Rattle.std.proofs.Common.{decimal}
use Rattle.std.specs.Char.{is_ascii_digit, digit_value}
use Rattle.std.specs.List.{list_all}
use Rattle.std.specs.Str.Parse.{AllDigits}
use Rattle.std.proofs.lemmas.Bool.{and_from, le-leb}
use Rattle.std.proofs.lemmas.Fmt.{decimal_is_IsNumeral, decimal_digit}
use Rattle.pram_job.specs.declared.instr.Operand.{Operand}
use Rattle.pram_job.specs.declared.instr.Operand.TheVariants.{Register, Number}
use Rattle.pram_job.specs.declared.limits.TheConstants.{REGISTERS}
use Rattle.pram_job.specs.Instructions.{IsOperand}
use Rattle.pram_text.specs.Judgement.{is_number, value_of_digits, number_in, register_of, most}
use Rattle.pram_text.specs.Judgement.{operand_of}
use Rattle.text_lines.specs.Lines.{Word, is_filled}
use Rattle.job_text.specs.Printed.{operand_word, register_word}
use Rattle.job_text.proofs.Plain.{PlainWord, is_plain, word_after}

-- ---- digits

-- a digit, as a test of its byte
digit_is : (c : ℕ) → digit_value c < 10 → is_ascii_digit c ≡ true
digit_is c h = grind arith

digit_is_plain : (c : ℕ) → is_ascii_digit c ≡ true → is_plain c ≡ true
digit_is_plain c h = grind arith

pub digits_are : (word : Word) → AllDigits 10 word → list_all is_ascii_digit word ≡ true
digits_are [] h = refl
digits_are (c ∷ cs) h =
    and_from (is_ascii_digit c) (list_all is_ascii_digit cs) (digit_is c h.0) (digits_are cs h.1)

plain_digits : (word : Word) → AllDigits 10 word → list_all is_plain word ≡ true
plain_digits [] h = refl
plain_digits (c ∷ cs) h = and_from (is_plain c) (list_all is_plain cs)
    (digit_is_plain c (digit_is c h.0)) (plain_digits cs h.1)

filled_by : (word : Word) → 0 < length word → is_filled word ≡ true
filled_by [] h = absurd (omega (arith, h))
filled_by (c ∷ cs) h = refl

-- ---- numbers

pub printable : (n : ℕ) → n < 2 ^ 32 → n < 2 ^ 64
printable n h = omega (arith, h)

pub decimal_digits : (n : ℕ) → n < 2 ^ 64 → list_all is_ascii_digit (decimal n) ≡ true
decimal_digits n h = digits_are (decimal n) (decimal_is_IsNumeral n h).0.1

pub decimal_plain : (n : ℕ) → n < 2 ^ 64 → PlainWord (decimal n)
decimal_plain n h =
    let d = (decimal_is_IsNumeral n h).0 in
    record {
      filled = filled_by (decimal n) d.0;
      plain = plain_digits (decimal n) d.1;
    }

pub decimal_is_number : (n : ℕ) → n < 2 ^ 64 → is_number (decimal n) ≡ true
decimal_is_number n h = and_from (is_filled (decimal n)) (list_all is_ascii_digit (decimal n))
    (decimal_plain n h).filled (decimal_digits n h)

pub decimal_value : (n : ℕ) → n < 2 ^ 64 → value_of_digits (decimal n) ≡ n
decimal_value n h = (decimal_is_IsNumeral n h).1

pub decimal_in : (low high n : ℕ) → n < 2 ^ 64 → low ≤ n → n ≤ high →
    number_in low high (decimal n) ≡ Ok n
unfolding number_in
decimal_in low high n h l k =
    rw (decimal_is_number n h) (rw (decimal_value n h)
    (rw (le-leb low n l) (rw (le-leb n high k) refl)))

-- ---- registers

pub register_plain : (r : ℕ) → r < 2 ^ 64 → PlainWord (register_word r)
register_plain r h = word_after (codes "r") (decimal r) refl (decimal_plain r h)

pub register_read : (r : ℕ) → r < REGISTERS → register_of (register_word r) ≡ Ok r
unfolding register_of
register_read zero h = rw (decimal_digit 0 (omega arith)) refl
register_read (suc zero) h = rw (decimal_digit 1 (omega arith)) refl
register_read (suc (suc zero)) h = rw (decimal_digit 2 (omega arith)) refl
register_read (suc (suc (suc zero))) h = rw (decimal_digit 3 (omega arith)) refl
register_read (suc (suc (suc (suc r)))) h = absurd (omega (arith, h))

-- ---- operands

pub operand_plain : (operand : Operand) → IsOperand operand → PlainWord (operand_word operand)
operand_plain (Register r) h = register_plain r (omega (arith, h))
operand_plain (Number n) h = decimal_plain n (printable n h)

pub operand_read : (operand : Operand) → IsOperand operand →
    operand_of true (operand_word operand) ≡ Ok operand
operand_read (Register r) h = rw (register_read r h) refl
operand_read (Number n) h =
    rw (decimal_is_number n (printable n h)) (rw (decimal_in 0 most n (printable n h) (omega arith)
    (omega (arith, h))) refl)
