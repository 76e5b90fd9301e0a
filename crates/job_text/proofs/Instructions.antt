-- Instructions, printed and read.
use Rattle.std.proofs.Common.{◌≡◌, ℕ, ◌<◌, ◌≤◌, ◌^◌, true, List, [], ◌∷◌, ◌++◌}
use Rattle.std.proofs.Common.{Ok, Option, Some, refl, arith, codes, decimal}
use Rattle.std.specs.List.{AllByRecursion}
use Rattle.pram_job.specs.declared.instr.Array.{Array}
use Rattle.pram_job.specs.declared.instr.Instr.{Instr}
use Rattle.pram_job.specs.declared.instr.Instr.TheVariants.{Set, Pid, Ld, St, Jz, Jmp, Halt}
use Rattle.pram_job.specs.declared.instr.Operand.{Operand}
use Rattle.pram_job.specs.declared.instr.Operands.{Operands}
use Rattle.pram_job.specs.declared.instr.Operands.TheVariants as o
use Rattle.pram_job.specs.declared.instr.Place.{Place}
use Rattle.pram_job.specs.declared.instr.Place.TheVariants.{Cell, Named}
use Rattle.pram_job.specs.declared.limits.TheConstants.{REGISTERS}
use Rattle.pram_job.specs.Instructions.{IsOperand, IsPlace, AreOperands, row_of}
use Rattle.pram_job.specs.Job.{IsInstr}
use Rattle.pram_text.specs.Judgement.{Scope, instr_of, most, one_register, two_operands}
use Rattle.pram_text.specs.Judgement.{register_and_place, place_operand, register_number, one_label}
use Rattle.pram_text.specs.Judgement.{register_label, number_in}
use Rattle.text_lines.specs.Lines.{Word, Line}
use Rattle.job_text.specs.Printed.{ArrayWords, operand_words, operand_word, register_word, label}
use Rattle.job_text.specs.Printed.{operand_arrays, place_arrays, place_words}
use Rattle.job_text.proofs.Numbers.{operand_read, operand_plain, register_read, register_plain}
use Rattle.job_text.proofs.Numbers.{decimal_in, decimal_plain, printable}
use Rattle.job_text.proofs.Plain.{PlainWord, PlainWords, PlainWords-append, word_after}

-- the words of an instruction, after its label
abbrev pub words_for : ArrayWords → Instr → Line
words_for words instr = (row_of instr).0 ∷ operand_words words (row_of instr).1

-- version 3, where the names of arrays stand for these
abbrev pub third : (Word → Option Array) → Scope
third arrays = record { later = true; arrays = arrays }

-- each of these arrays has its name
abbrev pub AreNamed : ArrayWords → (Word → Option Array) → List Array → Type 0
AreNamed words arrays used = AllByRecursion (λ array. arrays (words array) ≡ Some array) used

-- the labels that the operands name are found
abbrev pub AimFound : (Word → Option ℕ) → Operands → Type 0
AimFound find (o.RegisterIndex register index) = find (label index) ≡ Some index
AimFound find (o.Index index) = find (label index) ≡ Some index
AimFound find _ = Unit {0}

module _ (words : ArrayWords) (cells : ℕ) (arrays : Word → Option Array) (find : Word → Option ℕ)
  where
    one_read : (make : ℕ → Instr) (r : ℕ) → r < REGISTERS →
        one_register make (register_word r ∷ []) ≡ Ok (make r)
    one_read make r h = rw (register_read r h) refl

    number_read : (make : ℕ → ℕ → Instr) (r n : ℕ) → r < REGISTERS → n < 2 ^ 32 →
        register_number make (register_word r ∷ decimal n ∷ []) ≡ Ok (make r n)
    number_read make r n h k =
        let number : number_in 0 most (decimal n) ≡ Ok n =
        decimal_in 0 most n (printable n k) (omega arith) (omega (arith, k)) in
        rw (register_read r h) (rw number refl)

    two_read : (make : ℕ → ℕ → Operand → Instr) (r a : ℕ) (b : Operand) → r < REGISTERS →
        a < REGISTERS → IsOperand b →
        two_operands true make (register_word r ∷ register_word a ∷ operand_word b ∷ [])
        ≡ Ok (make r a b)
    two_read make r a b h k l =
        rw (register_read r h) (rw (register_read a k) (rw (operand_read b l) refl))

    load_read : (make : ℕ → Place → Instr) (r : ℕ) (place : Place) → r < REGISTERS →
        IsPlace cells place → AreNamed words arrays (place_arrays place) →
        register_and_place (third arrays) make (register_word r ∷ place_words words place)
        ≡ Ok (make r place)
    load_read make r (Cell index) h k n = rw (register_read r h) (rw (operand_read index k) refl)
    load_read make r (Named array index) h k n =
        rw (register_read r h) (rw n.0 (rw (operand_read index k.1) refl))

    store_read : (make : Place → Operand → Instr) (place : Place) (b : Operand) →
        IsPlace cells place → IsOperand b → AreNamed words arrays (place_arrays place) →
        place_operand (third arrays) make (place_words words place ++ operand_word b ∷ [])
        ≡ Ok (make place b)
    store_read make (Cell index) b h k n = rw (operand_read index h) (rw (operand_read b k) refl)
    store_read make (Named array index) b h k n =
        rw n.0 (rw (operand_read index h.1) (rw (operand_read b k) refl))

    jump_read : (make : ℕ → Instr) (index : ℕ) → find (label index) ≡ Some index →
        one_label find make (label index ∷ []) ≡ Ok (make index)
    jump_read make index h = rw h refl

    branch_read : (make : ℕ → ℕ → Instr) (r index : ℕ) → r < REGISTERS →
        find (label index) ≡ Some index →
        register_label find make (register_word r ∷ label index ∷ []) ≡ Ok (make r index)
    branch_read make r index h k = rw (register_read r h) (rw k refl)

    pub instr_read : (len : ℕ) (instr : Instr) → IsInstr cells len instr →
        AreNamed words arrays (operand_arrays (row_of instr).1) → AimFound find (row_of instr).1 →
        instr_of (third arrays) find (words_for words instr) ≡ Ok instr
    unfolding instr_of
    instr_read len (Set r n) h k l = number_read (λ r n. Set r n) r n h.0 h.1
    instr_read len (Pid r) h k l = one_read (λ r. Pid r) r h
    instr_read len (Ld r place) h k l = load_read (λ r p. Ld r p) r place h.0 h.1 k
    instr_read len (St place b) h k l = store_read (λ p b. St p b) place b h.0 h.1 k
    instr_read len (Jz r index) h k l = branch_read (λ r i. Jz r i) r index h.0 l
    instr_read len (Jmp index) h k l = jump_read (λ i. Jmp i) index l
    instr_read len Halt h k l = refl
    instr_read len _ h k l = two_read _ _ _ _ h.0 h.1 h.2

-- ---- the words are plain

pub label_plain : (index : ℕ) → index < 2 ^ 64 → PlainWord (label index)
label_plain index h = word_after (codes "L") (decimal index) refl (decimal_plain index h)

-- each of these arrays has a plain name
abbrev pub ArePlain : ArrayWords → List Array → Type 0
ArePlain words arrays = AllByRecursion (λ array. PlainWord (words array)) arrays

name_plain : (instr : Instr) → PlainWord (row_of instr).0
name_plain Halt = record { filled = refl; plain = refl }
name_plain _ = record { filled = refl; plain = refl }

module _ (words : ArrayWords) where
  place_plain : (cells : ℕ) (place : Place) → IsPlace cells place →
      ArePlain words (place_arrays place) → PlainWords (place_words words place)
  place_plain cells (Cell index) h k = (operand_plain index h, tt)
  place_plain cells (Named array index) h k = (k.0, (operand_plain index h.1, tt))

  operands_plain : (cells len : ℕ) (operands : Operands) → len ≤ 4096 →
      AreOperands cells len operands → ArePlain words (operand_arrays operands) →
      PlainWords (operand_words words operands)
  operands_plain cells len o.Bare few h k = tt
  operands_plain cells len (o.Target r) few h k = (register_plain r (omega (arith, h)), tt)
  operands_plain cells len (o.TargetNumber r n) few h k =
      (register_plain r (omega (arith, h.0)), (decimal_plain n (printable n h.1), tt))
  operands_plain cells len (o.TargetPlace r place) few h k =
      (register_plain r (omega (arith, h.0)), place_plain cells place h.1 k)
  operands_plain cells len (o.TargetTwo r a b) few h k = (
    register_plain r (omega (arith, h.0)),
    (register_plain a (omega (arith, h.1)), (operand_plain b h.2, tt)),
  )
  operands_plain cells len (o.PlaceValue place b) few h k =
      PlainWords-append (place_words words place) (operand_word b ∷ [])
      (place_plain cells place h.0 k) (operand_plain b h.1, tt)
  operands_plain cells len (o.RegisterIndex r index) few h k =
      (register_plain r (omega (arith, h.0)), (label_plain index (omega (arith, few, h.1)), tt))
  operands_plain cells len (o.Index index) few h k =
      (label_plain index (omega (arith, few, h)), tt)

  pub words_plain : (cells len : ℕ) (instr : Instr) → len ≤ 4096 → IsInstr cells len instr →
      ArePlain words (operand_arrays (row_of instr).1) → PlainWords (words_for words instr)
  words_plain cells len instr few h k =
      (name_plain instr, operands_plain cells len (row_of instr).1 few h k)
