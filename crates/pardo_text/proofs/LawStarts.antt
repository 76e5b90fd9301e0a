-- Start values have 32 bits, and there are as many as there should be.
use Rattle.std.proofs.Common.{◌≡◌, ℕ, zero, suc, ◌-◌, ◌^◌, ◌<◌, ◌≤◌, ◌==◌, Bool, true}
use Rattle.std.proofs.Common.{not, ◌&&◌, ◌||◌, nat_lt, List, [], ◌∷◌, length, replicate}
use Rattle.std.proofs.Common.{slice_index, Option, Some, None, Result, IfOk, refl}
use Rattle.std.proofs.Common.{arith}
use Rattle.std.proofs.lemmas.Bool.Decides.{nat_tests}
use Rattle.std.proofs.lemmas.List.{length-append, length-replicate}
use Rattle.std.proofs.lemmas.List.Elements.{All-nil, All-cons, All-push, All-append, All-replicate}
use Rattle.pardo_text.specs.declared.fault.PardoKind.{PardoKind}
use Rattle.pardo_text.specs.declared.names.Scope.TheVariants.{Fixed}
use Rattle.pardo_program.specs.declared.operation.Op.{Op}
use Rattle.pardo_program.specs.Expression.{Tree, number, own, loop, private, place, apply}
use Rattle.pardo_text.specs.Expressions.{ended, fixed_at, limited, fixed_value, expression_at}
use Rattle.pardo_text.specs.Expressions.{rest_after_mark}
use Rattle.pardo_program.specs.Lawful.{AreNumbers}
use Rattle.pardo_text.specs.Names.{Names}
use Rattle.pardo_program.specs.Operations.{is_division}
use Rattle.pardo_text.specs.Tokens.{Token}
use Rattle.pardo_program.specs.Operations.{greatest_value}
use Rattle.pardo_text.specs.Values.{quotient_of, value_for, values_for, values_in}
use Rattle.pardo_text.specs.Values.{values_after}
use Rattle.pardo_text.specs.Values.{values_next, after_dots, filled, start_at}
use Rattle.pardo_text.proofs.Ifs.{ok_bind, ok_after, ok_if}
use Rattle.pardo_text.proofs.LawBounds.{IsStart}
use Rattle.pardo_program.proofs.LawValues.{value_small}
use Rattle.pardo_text.specs.declared.part.Mark.TheVariants as mark

-- a number within its limits
abbrev pub Between : ℕ → ℕ → ℕ × List Token → Type 0
Between low high read = (low ≤ read.0) × (read.0 ≤ high)

limited_kept : (low high value : ℕ) (rest : List Token) →
    IfOk (limited low high value rest) (Between low high)
limited_kept low high value rest =
    ok_if (nat_lt value low || nat_lt high value) _ _ (Between low high) (λ _. tt)
    (λ e. (
      let up : low ≤ value = grind (arith, nat_tests) in up,
      let few : value ≤ high =
          grind (arith, nat_tests) in few,
    ))

pub fixed_kept : (names : Names) (low high : ℕ) (tokens : List Token) →
    IfOk (fixed_at names low high tokens) (Between low high)
unfolding fixed_at
fixed_kept names low high tokens =
    ok_after (expression_at names Fixed tokens) _ (Between low high) (λ tree.
    limited_kept low high (fixed_value tree.0) tree.1)

-- ---- of private variables

quotient_kept : (op : Op) (a b : ℕ) → a < 2 ^ 32 → b < 2 ^ 32 →
    IfOk (quotient_of op a b) (λ value. value < 2 ^ 32)
quotient_kept op a b p q =
    ok_if (is_division op && (b == 0)) _ _ (λ value. value < 2 ^ 32) (λ _. tt)
    (λ _. value_small op a b p q)

value_kept : (i : ℕ) (tree : Tree) → i < 2 ^ 32 → IsStart tree →
    IfOk (value_for i tree) (λ value. value < 2 ^ 32)
value_kept i (number value) few is = is
value_kept i own few is = few
value_kept i (loop nest) few is = absurd is
value_kept i (private x) few is = absurd is
value_kept i (place array index) few is = absurd is
value_kept i (apply op first second) few is =
    let Small = λ (value : ℕ). value < 2 ^ 32 in
    ok_bind (value_for i first) _ Small Small (value_kept i first few is.0) (λ a p.
    ok_bind (value_for i second) _ Small Small (value_kept i second few is.1) (λ b q.
    quotient_kept op a b p q))

-- so many numbers
abbrev pub AreSoMany : ℕ → List ℕ → Type 0
AreSoMany n values = (length values ≡ n) × AreNumbers values

pub values_kept : (procs : ℕ) (tree : Tree) → procs ≤ 2 ^ 32 → IsStart tree →
    IfOk (values_for procs tree) (AreSoMany procs)
values_kept zero tree few is = (refl, All-nil (λ value. value < 2 ^ 32))
values_kept (suc i) tree few is =
    ok_bind (values_for i tree) _ (AreSoMany i) (AreSoMany (suc i))
    (values_kept i tree (omega arith) is) (λ before p.
    ok_bind (value_for i tree) _ (λ value. value < 2 ^ 32) (AreSoMany (suc i))
    (value_kept i tree (omega arith) is)
    (λ value q. (
      omega (arith, length-append before (value ∷ []), p.0),
      All-push (λ v. v < 2 ^ 32) before value p.1 q,
    )))

-- ---- of arrays

-- one number at least
abbrev AreSome : List ℕ × Bool → Type 0
AreSome read = (0 < length read.0) × AreNumbers read.0

one_number : (value : ℕ) → value < 2 ^ 32 → AreNumbers (value ∷ [])
one_number value few = All-cons (λ v. v < 2 ^ 32) value [] few (All-nil (λ v. v < 2 ^ 32))

ended_kept : (value : ℕ) (fills : Bool) (end : List Token) → value < 2 ^ 32 →
    IfOk (ended (value ∷ [], fills) end) AreSome
ended_kept value fills [] few = (omega arith, one_number value few)
ended_kept value fills (token ∷ tokens) few = tt

next_kept : (more : List Token → Result (List ℕ × Bool) PardoKind) (value : ℕ)
    (tokens : List Token) (found : Option (List Token)) → value < 2 ^ 32 →
    ((rest : List Token) → IfOk (more rest) AreSome) →
    IfOk (values_next more value tokens found) AreSome
next_kept more value tokens (Some end) few kept = ended_kept value true end few
next_kept more value tokens None few kept =
    ok_bind (more tokens) _ AreSome AreSome (kept tokens)
    (λ others p. (omega arith, All-cons (λ v. v < 2 ^ 32) value others.0 few p.1))

after_kept : (more : List Token → Result (List ℕ × Bool) PardoKind) (value : ℕ)
    (rest : List Token) → value < 2 ^ 32 → ((rest : List Token) → IfOk (more rest) AreSome) →
    IfOk (values_after more value rest) AreSome
after_kept more value [] few kept = (omega arith, one_number value few)
after_kept more value (token ∷ tokens) few kept =
    ok_after (rest_after_mark mark.Comma (token ∷ tokens)) _ AreSome
    (λ rest. next_kept more value rest (after_dots rest) few kept)

in_kept : (names : Names) (turns : ℕ) (tokens : List Token) →
    IfOk (values_in names turns tokens) AreSome
in_kept names zero tokens = tt
in_kept names (suc turns) tokens =
    ok_bind (fixed_at names 0 greatest_value tokens) _ (Between 0 greatest_value) AreSome
    (fixed_kept names 0 greatest_value tokens)
    (λ value p. after_kept (values_in names turns) value.0 value.1 (omega (arith, p.1))
    (in_kept names turns))

filled_kept : (places : ℕ) (values : List ℕ) (fills : Bool) → 0 < length values →
    AreNumbers values → IfOk (filled places values fills) (AreSoMany places)
filled_kept places values fills some are =
    let last = slice_index values (length values - 1) in
    ok_if (nat_lt places (length values) || (nat_lt (length values) places && not fills)) _ _
    (AreSoMany places) (λ _. tt) (λ e.
    let few : length values ≤ places = grind (arith, nat_tests) in
    let small : last < 2 ^ 32 = are (length values - 1) 0 (omega arith) in (
      omega (
        arith,
        length-append values (replicate (places - length values) last),
        length-replicate (places - length values) last,
      ),
      All-append (λ v. v < 2 ^ 32) values _ are
          (All-replicate (λ v. v < 2 ^ 32) (places - length values) last small),
    ))

pub starts_kept : (names : Names) (places : ℕ) (tokens : List Token) →
    IfOk (start_at names places tokens) (AreSoMany places)
unfolding start_at
starts_kept names places [] =
    (length-replicate places 0, All-replicate (λ v. v < 2 ^ 32) places 0 (omega arith))
starts_kept names places (token ∷ tokens) =
    ok_after (rest_after_mark mark.Equals (token ∷ tokens)) _ (AreSoMany places) (λ rest.
    ok_bind (values_in names (length rest) rest) _ AreSome (AreSoMany places)
    (in_kept names (length rest) rest)
    (λ values p. filled_kept places values.0 values.1 p.0 p.1))
