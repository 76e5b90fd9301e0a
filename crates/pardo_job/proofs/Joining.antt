-- The code of `and`, and of all operations.
use Rattle.std.proofs.Common.{◌≡◌, ◌≢◌, ℕ, ◌+◌, ◌<◌, ◌≤◌, ◌==◌}
use Rattle.std.proofs.Common.{Bool, true, false, List, [], ◌∷◌, ◌++◌, Some, refl, sym, ap, ◌∙◌}
use Rattle.std.proofs.Common.{subst}
use Rattle.std.proofs.Common.{inl, inr, arith, if◌then◌else◌, ◌&&◌, not}
use Rattle.std.specs.Prelude.{bit_or}
use Rattle.pram_job.specs.declared.instr.Instr.{Instr}
use Rattle.pram_job.specs.declared.instr.Instr.TheVariants as instr
use Rattle.pram_job.specs.declared.instr.Operand.{Operand}
use Rattle.pram_job.specs.declared.instr.Operand.TheVariants.{Register, Number}
use Rattle.pardo_program.specs.Operations.{bit}
use Rattle.pardo_job.specs.Operations.{register_or_spare, zero_test, tested_in, conjunction}
use Rattle.pardo_job.specs.Operations.{taken_by, is_shallow, negation}
use Rattle.pardo_job.specs.Straight.{Registers, put, operand_value, after_all, Computes}
use Rattle.pardo_job.proofs.Straight.{put_same, put_other, after_front, computes_one}
use Rattle.pardo_job.proofs.Straight.{computes_negation}
use Rattle.pardo_job.proofs.Shallow.{shallow_target, shallow_rest, shallow_front, shallow_back}
use Rattle.pardo_job.proofs.Choosing.{IsOther, not_kept}
use Rattle.pardo_job.proofs.Choices.{IsAt, taken_one, taken_none}

-- the code leaves a value in one register, and changes no other
record Tests (memory : ℕ → ℕ) (i : ℕ) (held : Registers) (target : ℕ) (code : List Instr)
    (value : ℕ) : Type 0 where
  now : Registers
  runs : after_all memory i code held ≡ Some now
  gives : now target ≡ value
  keeps : (which : ℕ) → which ≢ target → now which ≡ held which

abbrev test_target : ℕ → Operand → ℕ
test_target spare operand = tested_in spare (register_or_spare spare operand)

tested_below : (spare register : ℕ) → register < 3 → tested_in spare register ≡ register
tested_below spare register lt = grind arith

tested_own : (spare register : ℕ) → register ≡ 3 → tested_in spare register ≡ spare
tested_own spare register own = ap (tested_in spare) own

tested_spare : (spare : ℕ) → tested_in spare spare ≡ spare
tested_spare spare = elim (spare == 3) as (λ t. (if t then spare else spare) ≡ spare)
    [ true ↦ refl | false ↦ refl ]

tests_zero : (memory : ℕ → ℕ) (i spare v : ℕ) (operand : Operand) (held : Registers) →
    operand_value held operand ≡ v →
    Tests memory i held (test_target spare operand) (zero_test spare operand) (bit (v == 0))
tests_zero memory i spare v (Register register) held e =
    let t : ℕ = tested_in spare register in
    record {
      now = put t (bit (held register == 0)) held;
      runs = refl;
      gives = put_same t (bit (held register == 0)) held ∙ ap (λ x. bit (x == 0)) e;
      keeps = λ which ne. put_other t (bit (held register == 0)) which held ne;
    }
tests_zero memory i spare v (Number number) held e =
    let t : ℕ = tested_in spare spare in
    let h1 : Registers = put spare number held in
    record {
      now = put t (bit (h1 spare == 0)) h1;
      runs = refl;
      gives = put_same t (bit (h1 spare == 0)) h1 ∙
          ap (λ x. bit (x == 0)) (put_same spare number held ∙ e);
      keeps = λ which ne.
          let other : which ≢ spare = λ same. ne (same ∙ sym (tested_spare spare)) in
          put_other t (bit (h1 spare == 0)) which h1 ne ∙ put_other spare number which held other;
    }

test_shallow : (spare : ℕ) (operand : Operand) → is_shallow (zero_test spare operand) ≡ true →
    test_target spare operand < 3
test_shallow spare (Register register) shallow =
    shallow_target (instr.Eq (tested_in spare register) register (Number 0)) [] shallow
test_shallow spare (Number number) shallow =
    shallow_target (instr.Eq (tested_in spare spare) spare (Number 0)) []
    (shallow_rest (instr.Set spare number) (instr.Eq (tested_in spare spare) spare (Number 0) ∷ [])
    shallow)

-- ---- the registers of the two tests

-- they are two, neither is kept, and the first is not the second operand's
record AreApart (at : ℕ) (first second : Operand) : Type 0 where
  first_above : at ≤ test_target (at + taken_by second) first
  second_above : at ≤ test_target (at + 1) second
  differ : test_target (at + taken_by second) first ≢ test_target (at + 1) second
  other : IsOther (test_target (at + taken_by second) first) second

apart_of : (at t u : ℕ) (first second : Operand) →
    test_target (at + taken_by second) first ≡ t → test_target (at + 1) second ≡ u →
    at ≤ t → at ≤ u → t ≢ u → IsOther t second → AreApart at first second
apart_of at t u first second is_t is_u le_t le_u ne other = record {
  first_above = subst (λ x. at ≤ x) (sym is_t) le_t;
  second_above = subst (λ x. at ≤ x) (sym is_u) le_u;
  differ = λ same. ne (sym is_t ∙ same ∙ is_u);
  other = subst (λ x. IsOther x second) (sym is_t) other;
}

-- a number, or the own one
abbrev IsDirect : Operand → Type 0
IsDirect (Register register) = register ≡ 3
IsDirect (Number number) = Unit {0}

-- the operand that needs no register of its own: its test comes into the spare one
direct_target : (spare : ℕ) (operand : Operand) → IsDirect operand → test_target spare operand ≡
    spare
direct_target spare (Register register) own = tested_own spare register own
direct_target spare (Number number) own = tested_spare spare

direct_taken : (operand : Operand) → IsDirect operand → taken_by operand ≡ 0
direct_taken (Register register) own = taken_none register own
direct_taken (Number number) own = refl

direct_other : (which : ℕ) (operand : Operand) → IsDirect operand → which < 3 →
    IsOther which operand
direct_other which (Register register) own lt = λ same. let is : register ≡ 3 = own in omega arith
direct_other which (Number number) own lt = tt

both_computed : (at r s : ℕ) → at < 3 → r ≡ at → r < 3 → s ≡ at + 1 → s < 3 →
    AreApart at (Register r) (Register s)
both_computed at r s lt same r_lt next s_lt =
    apart_of at at (at + 1) (Register r) (Register s)
    (tested_below (at + taken_by (Register s)) r r_lt ∙ same) (tested_below (at + 1) s s_lt ∙ next)
    (omega arith) (omega arith) (λ e. omega arith) (λ e. omega arith)

first_computed : (at r : ℕ) (second : Operand) → at < 3 → r ≡ at → r < 3 → IsDirect second →
    AreApart at (Register r) second
first_computed at r second lt same r_lt direct =
    apart_of at at (at + 1) (Register r) second
    (tested_below (at + taken_by second) r r_lt ∙ same) (direct_target (at + 1) second direct)
    (omega arith) (omega arith) (λ e. omega arith) (direct_other at second direct lt)

second_computed : (at s : ℕ) (first : Operand) → at < 3 → IsDirect first → s ≡ at → s < 3 →
    AreApart at first (Register s)
second_computed at s first lt direct same s_lt =
    let one : at + taken_by (Register s) ≡ at + 1 = ap (λ t. at + t) (taken_one s s_lt) in
    apart_of at (at + 1) at first (Register s)
    (direct_target (at + taken_by (Register s)) first direct ∙ one)
    (tested_below (at + 1) s s_lt ∙ same)
    (omega arith) (omega arith) (λ e. omega arith) (λ e. omega arith)

none_computed : (at : ℕ) (first second : Operand) → at < 3 → IsDirect first → IsDirect second →
    AreApart at first second
none_computed at first second lt direct direct_too =
    let none : at + taken_by second ≡ at = ap (λ t. at + t) (direct_taken second direct_too) ∙
    omega arith in
    apart_of at at (at + 1) first second
    (direct_target (at + taken_by second) first direct ∙ none)
    (direct_target (at + 1) second direct_too)
    (omega arith) (omega arith) (λ e. omega arith) (direct_other at second direct_too lt)

are_apart : (at : ℕ) (first second : Operand) → at < 3 → IsAt at first →
    IsAt (at + taken_by first) second → AreApart at first second
are_apart at (Register r) (Register s) lt (inl p) (inl q) =
    let one : s ≡ at + 1 = q.0 ∙ ap (λ t. at + t) (taken_one r p.1) in
    both_computed at r s lt p.0 p.1 one q.1
are_apart at (Register r) (Register s) lt (inl p) (inr q) =
    first_computed at r (Register s) lt p.0 p.1 q
are_apart at (Register r) (Number n) lt (inl p) q = first_computed at r (Number n) lt p.0 p.1 tt
are_apart at (Register r) (Register s) lt (inr p) (inl q) =
    let none : s ≡ at = q.0 ∙ ap (λ t. at + t) (taken_none r p) ∙ omega arith in
    second_computed at s (Register r) lt p none q.1
are_apart at (Register r) (Register s) lt (inr p) (inr q) =
    none_computed at (Register r) (Register s) lt p q
are_apart at (Register r) (Number n) lt (inr p) q = none_computed at (Register r) (Number n) lt p tt
are_apart at (Number m) (Register s) lt p (inl q) =
    let none : s ≡ at = q.0 ∙ omega arith in
    second_computed at s (Number m) lt tt none q.1
are_apart at (Number m) (Register s) lt p (inr q) = none_computed at (Number m) (Register s) lt tt q
are_apart at (Number m) (Number n) lt p q = none_computed at (Number m) (Number n) lt tt tt

-- ---- the conjunction

neither_zero : (x y : Bool) → bit (bit_or (bit x) (bit y) == 0) ≡ bit (not x && not y)
neither_zero true true = refl
neither_zero true false = refl
neither_zero false true = refl
neither_zero false false = refl

other_kept : (which value : ℕ) (held now : Registers) (operand : Operand) →
    ((k : ℕ) → k ≢ which → now k ≡ held k) → IsOther which operand → operand_value held operand ≡
    value →
    operand_value now operand ≡ value
other_kept which value held now (Register register) keeps other e = keeps register other ∙ e
other_kept which value held now (Number number) keeps other e = e

-- the last two instructions
joined : (memory : ℕ → ℕ) (i at t u a b : ℕ) (held : Registers) → at < 3 →
    held t ≡ bit (a == 0) → held u ≡ bit (b == 0) →
    Computes memory i held at (instr.Or at t (Register u) ∷ negation at)
    (bit (not (a == 0) && not (b == 0)))
joined memory i at t u a b held lt ht hu =
    let v : ℕ = bit_or (bit (a == 0)) (bit (b == 0)) in
    subst (λ x. Computes memory i held at (instr.Or at t (Register u) ∷ negation at) x)
    (neither_zero (a == 0) (b == 0))
    (computes_negation memory i held at v (instr.Or at t (Register u) ∷ []) lt
    (computes_one memory i held at v (instr.Or at t (Register u)) lt
    (ap (λ x. Some (put at (bit_or x (held u)) held)) ht ∙
    ap (λ x. Some (put at (bit_or (bit (a == 0)) x) held)) hu)))

pub computes_conjunction : (memory : ℕ → ℕ) (i at a b : ℕ) (held : Registers)
    (first second : Operand) →
    at < 3 → IsAt at first → IsAt (at + taken_by first) second →
    operand_value held first ≡ a → operand_value held second ≡ b →
    is_shallow (conjunction at first second) ≡ true →
    Computes memory i held at (conjunction at first second) (bit (not (a == 0) && not (b == 0)))
unfolding conjunction
computes_conjunction memory i at a b held first second lt p q ha hb shallow =
    let s : ℕ = at + taken_by second in
    let t : ℕ = test_target s first in
    let u : ℕ = test_target (at + 1) second in
    let front : List Instr = zero_test s first in
    let middle : List Instr = zero_test (at + 1) second in
    let back : List Instr = instr.Or at t (Register u) ∷ negation at in
    let apart : AreApart at first second = are_apart at first second lt p q in
    let t_lt : t < 3 = test_shallow s first (shallow_front front (middle ++ back) shallow) in
    let u_lt : u < 3 = test_shallow (at + 1) second
    (shallow_front middle back (shallow_back front (middle ++ back) shallow)) in
    let c : Tests memory i held t front (bit (a == 0)) = tests_zero memory i s a first held ha in
    let d : Tests memory i c.now u middle (bit (b == 0)) =
    tests_zero memory i (at + 1) b second c.now
    (other_kept t b held c.now second c.keeps apart.other hb) in
    let e : Computes memory i d.now at back (bit (not (a == 0) && not (b == 0))) =
    joined memory i at t u a b d.now lt (d.keeps t apart.differ ∙ c.gives) d.gives in
    record {
      now = e.now;
      runs = after_front memory i front (middle ++ back) held c.now c.runs
          ∙ after_front memory i middle back c.now d.now d.runs ∙ e.runs;
      gives = e.gives;
      keeps = λ which kept. e.keeps which kept
          ∙ d.keeps which (not_kept at u apart.second_above u_lt which kept)
          ∙ c.keeps which (not_kept at t apart.first_above t_lt which kept);
    }
