-- Values that are read one after another.
use Rattle.std.proofs.Common.{◌≡◌, ◌≢◌, ℕ, suc, ◌+◌, ◌-◌, ◌<◌, ◌≤◌, Bool, true, false, List, []}
use Rattle.std.proofs.Common.{◌∷◌, ◌++◌, length, is_some, unwrap_or, Option, Some, None, Result, Ok}
use Rattle.std.proofs.Common.{Err, refl, sym, ap, ◌∙◌, arith, append_assoc}
use Rattle.pardo_text.specs.declared.fault.PardoKind.{PardoKind}
use Rattle.pardo_text.specs.declared.fault.PardoKind.TheVariants.{BadLine}
use Rattle.pardo_text.specs.Expressions.{ended, fixed_at, rest_after_mark}
use Rattle.pardo_text.specs.Inner.Values.{after_values}
use Rattle.pardo_text.specs.Names.{Names}
use Rattle.text_lines.specs.Reads.{◌>>=◌}
use Rattle.pardo_text.specs.Tokens.{Token}
use Rattle.pardo_program.specs.Operations.{greatest_value}
use Rattle.pardo_text.specs.Values.{values_in, values_after, values_next}
use Rattle.pardo_text.specs.Values.{after_dots}
use Rattle.pardo_text.specs.Values.{filled, start_at}
use Rattle.pardo_text.specs.declared.part.Mark.TheVariants as mark

-- ---- options and ends

pub some_from : {A : Type 0} → (o : Option A) (d x : A) → is_some o ≡ true → x ≡ unwrap_or o d →
    o ≡ Some x
some_from (Some y) d x e f = ap Some (sym f)
some_from None d x e f = absurd (let other : false ≡ true = e in cc)

pub none_from : {A : Type 0} → (o : Option A) → is_some o ≡ false → o ≡ None
none_from (Some y) e = absurd (let other : true ≡ false = e in cc)
none_from None e = refl

pub rest_from : {A : Type 0} → (o : Option A) (d x : A) → is_some o ≡ false → x ≡ unwrap_or o d →
    x ≡ d
rest_from (Some y) d x e f = absurd (let other : true ≡ false = e in cc)
rest_from None d x e f = f

ended-ok : {A : Type 0} → (value : A) (tokens : List Token) → Ok (tt {0}) ≡ ended (tt {0}) tokens →
    ended value tokens ≡ Ok value
ended-ok value [] e = refl
ended-ok value (token ∷ tokens) e = absurd (let other : Ok (tt {0}) ≡ Err BadLine = e in cc)

ended-err : {A : Type 0} → (value : A) (tokens : List Token) (kind : PardoKind) →
    Err kind ≡ ended (tt {0}) tokens → ended value tokens ≡ Err kind
ended-err value [] kind e = absurd (let other : Err kind ≡ Ok (tt {0}) = e in cc)
ended-err value (token ∷ tokens) kind e = let same : kind ≡ BadLine = cc in ap Err (sym same)

-- ---- one value

value_first : (names : Names) (n i : ℕ) (tokens : List Token) → i < n →
    values_in names (n - i) tokens ≡ (fixed_at names 0 greatest_value tokens >>= λ value.
    values_after (values_in names (n - (i + 1))) value.0 value.1)
value_first names n i tokens lt =
    let more : n - i ≡ suc (n - (i + 1)) = omega arith in rw more refl

value_alone : (more : List Token → Result (List ℕ × Bool) PardoKind) (value : ℕ)
    (rest : List Token) → length rest ≡ 0 → values_after more value rest ≡ Ok (value ∷ [], false)
value_alone more value [] e = refl
value_alone more value (token ∷ tokens) e = absurd (omega arith)

value_comma : (more : List Token → Result (List ℕ × Bool) PardoKind) (value : ℕ)
    (rest : List Token) → 0 < length rest → values_after more value rest
    ≡ (rest_after_mark mark.Comma rest >>= λ after. values_next more value after (after_dots after))
value_comma more value [] lt = absurd (omega arith)
value_comma more value (token ∷ tokens) lt = refl

-- ---- what a turn makes of the values

pub take_begins : (names : Names) (n m : ℕ) (front : List ℕ) (tokens : List Token) → n ≡ m →
    after_values front (values_in names m tokens)
    ≡ after_values front (values_in names (n - 0) tokens)
take_begins names n m front tokens e = let same : n - 0 ≡ m = omega arith in rw same refl

pub take_fault : (names : Names) (n i : ℕ) (front : List ℕ) (tokens : List Token)
    (kind : PardoKind) → i < n → fixed_at names 0 greatest_value tokens ≡ Err kind →
    after_values front (values_in names (n - i) tokens) ≡ Err kind
take_fault names n i front tokens kind lt e =
    rw (value_first names n i tokens lt, e) refl

pub take_last : (names : Names) (n i value : ℕ) (front new : List ℕ) (tokens rest : List Token) →
    i < n → fixed_at names 0 greatest_value tokens ≡ Ok (value, rest) → length rest ≡ 0 →
    new ≡ front ++ value ∷ [] →
    after_values front (values_in names (n - i) tokens) ≡ Ok (new, false)
take_last names n i value front new tokens rest lt e f g =
    rw (value_first names n i tokens lt, e, value_alone _ value rest f)
    (ap (λ all. Ok (all, false)) (sym g))

pub take_comma : (names : Names) (n i value : ℕ) (front : List ℕ) (tokens rest : List Token)
    (kind : PardoKind) → i < n → fixed_at names 0 greatest_value tokens ≡ Ok (value, rest) →
    0 < length rest → rest_after_mark mark.Comma rest ≡ Err kind →
    after_values front (values_in names (n - i) tokens) ≡ Err kind
take_comma names n i value front tokens rest kind lt e f g =
    rw (value_first names n i tokens lt, e, value_comma _ value rest f, g) refl

pub take_end : (names : Names) (n i value : ℕ) (front new : List ℕ)
    (tokens rest after end : List Token) → i < n →
    fixed_at names 0 greatest_value tokens ≡ Ok (value, rest) → 0 < length rest →
    rest_after_mark mark.Comma rest ≡ Ok after → after_dots after ≡ Some end → Ok (tt {0}) ≡
    ended (tt {0}) end →
    new ≡ front ++ value ∷ [] →
    after_values front (values_in names (n - i) tokens) ≡ Ok (new, true)
take_end names n i value front new tokens rest after end lt e f g h k new_is =
    rw (value_first names n i tokens lt, e, value_comma _ value rest f, g)
    (rw (h) (rw (ended-ok {A = List ℕ × Bool} (value ∷ [], true) end k)
    (ap (λ all. Ok (all, true)) (sym new_is))))

pub take_left : (names : Names) (n i value : ℕ) (front : List ℕ)
    (tokens rest after end : List Token) (kind : PardoKind) → i < n →
    fixed_at names 0 greatest_value tokens ≡ Ok (value, rest) → 0 < length rest →
    rest_after_mark mark.Comma rest ≡ Ok after → after_dots after ≡ Some end → Err kind ≡
    ended (tt {0}) end →
    after_values front (values_in names (n - i) tokens) ≡ Err kind
take_left names n i value front tokens rest after end kind lt e f g h k =
    rw (value_first names n i tokens lt, e, value_comma _ value rest f, g)
    (rw (h) (rw (ended-err {A = List ℕ × Bool} (value ∷ [], true) end kind k) refl))

after_values-onto : (front new : List ℕ) (value : ℕ) (read : Result (List ℕ × Bool) PardoKind) →
    new ≡ front ++ value ∷ [] →
    after_values front (read >>= λ others. Ok (value ∷ others.0, others.1)) ≡ after_values new read
after_values-onto front new value (Ok others) e =
    ap (λ all. Ok (all, others.1)) (sym (append_assoc front (value ∷ []) others.0)
    ∙ ap (λ all. all ++ others.0) (sym e))
after_values-onto front new value (Err kind) e = refl

pub take_more : (names : Names) (n i value : ℕ) (front new : List ℕ)
    (tokens rest after end : List Token) → i < n →
    fixed_at names 0 greatest_value tokens ≡ Ok (value, rest) → 0 < length rest →
    rest_after_mark mark.Comma rest ≡ Ok after → after_dots after ≡ None → end ≡ after →
    new ≡ front ++ value ∷ [] → after_values front (values_in names (n - i) tokens)
    ≡ after_values new (values_in names (n - (i + 1)) end)
take_more names n i value front new tokens rest after end lt e f g h same new_is =
    rw (value_first names n i tokens lt, e, value_comma _ value rest f, g)
    (rw (h, same) (after_values-onto front new value (values_in names (n - (i + 1)) after) new_is))

pub take_over : (names : Names) (n i : ℕ) (front : List ℕ) (tokens : List Token) → n ≤ i →
    after_values front (values_in names (n - i) tokens) ≡ Err BadLine
take_over names n i front tokens few = let none : n - i ≡ 0 = omega arith in rw none refl

-- ---- start values

of_none : (front : List ℕ) (read : Result (List ℕ × Bool) PardoKind) (x : List ℕ × Bool) →
    front ≡ [] → after_values front read ≡ Ok x → read ≡ Ok x
of_none front (Ok values) x none e =
    ap (λ l. Ok (l ++ values.0, values.1)) (sym none) ∙ e
of_none front (Err kind) x none e = absurd (cc e)

-- Start values are filled up from those that are given.
pub start_given : (names : Names) (places n : ℕ) (tokens rest : List Token) (front values : List ℕ)
    (fills : Bool) → n ≡ length tokens → n ≢ 0 → rest_after_mark mark.Equals tokens ≡ Ok rest →
    front ≡ [] → after_values front (values_in names (length rest) rest) ≡ Ok (values, fills) →
    start_at names places tokens ≡ filled places values fills
unfolding start_at
start_given names places n [] rest front values fills len some e none given =
    absurd (some len)
start_given names places n (token ∷ tokens) rest front values fills len some e none given =
    rw (e, of_none front (values_in names (length rest) rest) (values, fills) none given) refl
