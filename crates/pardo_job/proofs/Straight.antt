-- Straight code, piece after piece.
use Rattle.std.proofs.Common.{◌≡◌, ◌≢◌, ℕ, ◌<◌, ◌==◌}
use Rattle.std.proofs.Common.{List, [], ◌∷◌, ◌++◌, Option, Some, None, refl, ap, ◌∙◌, subst}
use Rattle.std.proofs.Common.{⊎_elim, arith, eq-eqb, if◌then◌else◌}
use Rattle.std.specs.Option.{option_and_then}
use Rattle.pram_job.specs.declared.instr.Instr.{Instr}
use Rattle.pram_job.specs.declared.instr.Instr.TheVariants as instr
use Rattle.pram_job.specs.declared.instr.Operand.TheVariants.{Number}
use Rattle.pardo_program.specs.Operations.{bit}
use Rattle.pardo_job.specs.Operations.{negation}
use Rattle.pardo_job.specs.Straight.{Registers, put, after_one, after_all, Computes}

pub put_same : (target value : ℕ) (held : Registers) → put target value held target ≡ value
put_same target value held = ap (λ b. if b then value else held target) (eq-eqb target target refl)

pub put_other : (target value which : ℕ) (held : Registers) → which ≢ target →
    put target value held which ≡ held which
put_other target value which held ne = grind (arith)

-- code after code
then_all : (memory : ℕ → ℕ) (i : ℕ) (front back : List Instr) → ((held : Registers) →
    after_all memory i (front ++ back) held
    ≡ option_and_then (after_all memory i back) (after_all memory i front held)) →
    (now : Option Registers) → option_and_then (after_all memory i (front ++ back)) now
    ≡ option_and_then (after_all memory i back) (option_and_then (after_all memory i front) now)
then_all memory i front back each None = refl
then_all memory i front back each (Some held) = each held

pub after_append : (memory : ℕ → ℕ) (i : ℕ) (front back : List Instr) (held : Registers) →
    after_all memory i (front ++ back) held
    ≡ option_and_then (after_all memory i back) (after_all memory i front held)
after_append memory i [] back held = refl
after_append memory i (instr ∷ front) back held =
    then_all memory i front back (after_append memory i front back) (after_one memory i instr held)

-- after code that leads to some registers
pub after_front : (memory : ℕ → ℕ) (i : ℕ) (front back : List Instr) (held now : Registers) →
    after_all memory i front held ≡ Some now →
    after_all memory i (front ++ back) held ≡ after_all memory i back now
after_front memory i front back held now e =
    after_append memory i front back held
    ∙ ap (option_and_then (after_all memory i back)) e

-- one instruction that gives the register a value
pub computes_one : (memory : ℕ → ℕ) (i : ℕ) (held : Registers) (at value : ℕ) (one : Instr) →
    at < 3 → after_one memory i one held ≡ Some (put at value held) →
    Computes memory i held at (one ∷ []) value
computes_one memory i held at value one lt e = record {
  now = put at value held;
  runs = ap (option_and_then (after_all memory i [])) e;
  gives = put_same at value held;
  keeps = λ which kept. put_other at value which held
      (⊎_elim (λ (below : which < at). λ (same : which ≡ at). omega arith)
      (λ (own : which ≡ 3). λ (same : which ≡ at). omega arith) kept);
}

-- code after code: the second piece works on what the first one left
pub computes_then : (memory : ℕ → ℕ) (i : ℕ) (held : Registers) (at value next : ℕ)
    (front back : List Instr) (c : Computes memory i held at front value) →
    Computes memory i c.now at back next → Computes memory i held at (front ++ back) next
computes_then memory i held at value next front back c d = record {
  now = d.now;
  runs = after_front memory i front back held c.now c.runs ∙ d.runs;
  gives = d.gives;
  keeps = λ which kept. d.keeps which kept ∙ c.keeps which kept;
}

-- another name for the value
pub computes_same : (memory : ℕ → ℕ) (i : ℕ) (held : Registers) (at value same : ℕ)
    (code : List Instr) → value ≡ same → Computes memory i held at code value →
    Computes memory i held at code same
computes_same memory i held at value same code e c =
    subst (λ v. Computes memory i held at code v) e c

pub negates : (memory : ℕ → ℕ) (i : ℕ) (held : Registers) (at value : ℕ) → at < 3 →
    held at ≡ value → Computes memory i held at (negation at) (bit (value == 0))
negates memory i held at value lt e =
    computes_one memory i held at (bit (value == 0)) (instr.Eq at at (Number 0)) lt
    (ap (λ v. Some (put at (bit (v == 0)) held)) e)

-- a value, and then whether it is 0
pub computes_negation : (memory : ℕ → ℕ) (i : ℕ) (held : Registers) (at value : ℕ)
    (code : List Instr) → at < 3 → Computes memory i held at code value →
    Computes memory i held at (code ++ negation at) (bit (value == 0))
computes_negation memory i held at value code lt c =
    computes_then memory i held at value (bit (value == 0)) code (negation at) c
    (negates memory i c.now at value lt c.gives)
