-- Start values, printed and read.
use Rattle.std.proofs.Common.{◌≡◌, ℕ, suc, ◌<◌, ◌≤◌, ◌^◌, ◌+◌, ◌-◌, Bool, true, false}
use Rattle.std.proofs.Common.{◌==◌, nat_le, List, [], ◌∷◌, ◌++◌, length, map, Ok, Option, Some}
use Rattle.std.proofs.Common.{None, refl, sym, ap, ◌∙◌, arith, decimal, unwrap_or}
use Rattle.std.proofs.Common.{slice_get, get_or, if◌then◌else◌, ⊎_elim}
use Rattle.std.specs.List.{AllByRecursion, join_with_byte}
use Rattle.std.specs.Option.{option_or}
use Rattle.std.proofs.lemmas.Bool.{cases_order, le-leb, lt-leb, ne_eqb}
use Rattle.std.proofs.lemmas.List.{get_or_append_left, get_or-append_right}
use Rattle.std.proofs.lemmas.Option.{slice_get-get_or, slice_get_past, unwrap_or-slice_get}
use Rattle.pram_text.specs.Judgement.{Entry, gives, entry_of, init_of, values_of, number_in}
use Rattle.pram_text.specs.Judgement.{says_array, most}
use Rattle.text_lines.specs.Lines.{is_filled}
use Rattle.pram_text.specs.Text.{value_in, value_by}
use Rattle.job_text.specs.Printed.{run_line, run_lines}
use Rattle.job_text.proofs.Lines.{PlainLines}
use Rattle.job_text.proofs.Numbers.{decimal_plain, decimal_in, printable}
use Rattle.job_text.proofs.Plain.{PlainWords, PlainLine}

-- what the lines of runs say
abbrev pub run_entries : ℕ → List (List ℕ) → List Entry
run_entries cell [] = []
run_entries cell (run ∷ runs) =
    (if is_filled run then gives cell run ∷ [] else [])
    ++ run_entries (cell + length run + 1) runs

abbrev pub AreSmall : List ℕ → Type 0
AreSmall values = AllByRecursion (λ value. value < 2 ^ 32) values

-- ---- a line

values_read : (room : ℕ) (values : List ℕ) → AreSmall values → length values ≤ room →
    values_of room (map (λ value. decimal value) values) ≡ Ok values
values_read room [] h fits = refl
values_read room (v ∷ values) h fits =
    let number : number_in 0 most (decimal v) ≡ Ok v =
    decimal_in 0 most v (printable v h.0) (omega arith) (omega (arith, h.0)) in
    let none : (room == 0) ≡ false = ne_eqb room 0 (λ e. omega (arith, fits, e)) in
    let more : values_of (room - 1) (map (λ value. decimal value) values) ≡ Ok values =
    values_read (room - 1) values h.1 (omega (arith, fits)) in
    rw number (rw none (rw more refl))

pub run_read : (cells cell v : ℕ) (values : List ℕ) → cells ≤ 1048576 → AreSmall (v ∷ values) →
    cell + length (v ∷ values) ≤ cells →
    entry_of true cells (run_line cell (v ∷ values)) ≡ Ok (gives cell (v ∷ values))
unfolding entry_of init_of says_array
run_read cells cell v values few h fits =
    let first : number_in 0 (cells - 1) (decimal cell) ≡ Ok cell =
    decimal_in 0 (cells - 1) cell (omega (arith, few, fits)) (omega arith)
    (omega (arith, fits)) in
    let all : values_of (cells - cell) (map (λ value. decimal value) (v ∷ values))
    ≡ Ok (v ∷ values) =
    values_read (cells - cell) (v ∷ values) h (omega (arith, fits)) in
    rw first (rw all refl)

values_plain : (values : List ℕ) → AreSmall values →
    PlainWords (map (λ value. decimal value) values)
values_plain [] h = tt
values_plain (v ∷ values) h = (decimal_plain v (printable v h.0), values_plain values h.1)

run_plain : (cell : ℕ) (values : List ℕ) → cell < 2 ^ 64 → AreSmall values →
    PlainLine (run_line cell values)
run_plain cell values h k = record {
  filled = refl;
  plain = (
    record { filled = refl; plain = refl },
    (decimal_plain cell h, values_plain values k),
  );
}

-- ---- runs within so many cells

-- the values of each are small, and the last one ends at this cell or before it
abbrev pub RunsFit : ℕ → ℕ → List (List ℕ) → Type 0
RunsFit cells cell [] = Unit {0}
RunsFit cells cell (run ∷ runs) =
    AreSmall run × (cell + length run ≤ cells) × RunsFit cells (cell + length run + 1) runs

-- lists that are made with or without one element in front
front_if : {X Y : Type 0} (f : X → Y) (b : Bool) (x : X) (xs : List X) →
    map f ((if b then x ∷ [] else []) ++ xs) ≡ (if b then f x ∷ [] else []) ++ map f xs
front_if f true x xs = refl
front_if f false x xs = refl

pub runs_read : (cells cell : ℕ) (runs : List (List ℕ)) → cells ≤ 1048576 → RunsFit cells cell runs →
    map (entry_of true cells) (run_lines cell runs)
    ≡ map (λ entry. Ok entry) (run_entries cell runs)
runs_read cells cell [] few h = refl
runs_read cells cell ([] ∷ runs) few h = runs_read cells (cell + 0 + 1) runs few h.2
runs_read cells cell ((v ∷ run) ∷ runs) few h =
    let here = run_read cells cell v run few h.0 h.1 in
    let more = runs_read cells (cell + length (v ∷ run) + 1) runs few h.2 in
    λ i. here i ∷ more i

pub runs_plain : (cells cell : ℕ) (runs : List (List ℕ)) → cells ≤ 1048576 →
    RunsFit cells cell runs → PlainLines (run_lines cell runs)
runs_plain cells cell [] few h = tt
runs_plain cells cell ([] ∷ runs) few h = runs_plain cells (cell + 0 + 1) runs few h.2
runs_plain cells cell ((v ∷ run) ∷ runs) few h =
    let low = h.1 in (
      run_plain cell (v ∷ run) (omega (arith, low, few)) h.0,
      runs_plain cells (cell + length (v ∷ run) + 1) runs few h.2,
    )

-- ---- the value of a cell

or_none : {A : Type 0} (o : Option A) → option_or o None ≡ o
or_none None = refl
or_none (Some x) = refl

pub value_in-append : (entries more : List Entry) (c : ℕ) →
    value_in (entries ++ more) c ≡ option_or (value_in entries c) (value_in more c)
value_in-append [] more c = refl
value_in-append (entry ∷ entries) more c =
    ap (option_or (value_by entry c)) (value_in-append entries more c)
    ∙ assoc (value_by entry c) (value_in entries c) (value_in more c)
  where
    assoc : (o p q : Option ℕ) → option_or o (option_or p q) ≡ option_or (option_or o p) q
    assoc None p q = refl
    assoc (Some x) p q = refl

-- what one run gives a cell
front_value : (cell c : ℕ) (run : List ℕ) (rest : List Entry) →
    value_in ((if is_filled run then gives cell run ∷ [] else []) ++ rest) c
    ≡ option_or (if nat_le cell c then slice_get run (c - cell) else None) (value_in rest c)
front_value cell c [] rest = by_test (nat_le cell c)
  where
    by_test : (b : Bool) → value_in rest c
        ≡ option_or (if b then slice_get [] (c - cell) else None) (value_in rest c)
    by_test true = refl
    by_test false = refl
front_value cell c (v ∷ run) rest = refl

-- a run gives nothing to a cell after it
pub past_run : (cell c : ℕ) (run : List ℕ) → cell + length run ≤ c →
    (if nat_le cell c then slice_get run (c - cell) else None) ≡ None
past_run cell c run h =
    rw (le-leb cell c (omega (arith, h))) (slice_get_past run (c - cell) (omega (arith, h)))

before_runs : (cell c : ℕ) (runs : List (List ℕ)) → c < cell →
    value_in (run_entries cell runs) c ≡ None
before_runs cell c [] h = refl
before_runs cell c (run ∷ runs) h =
    front_value cell c run (run_entries (cell + length run + 1) runs)
    ∙ ap (λ b. option_or (if b then slice_get run (c - cell) else None)
    (value_in (run_entries (cell + length run + 1) runs) c)) (lt-leb cell c h)
    ∙ before_runs (cell + length run + 1) c runs (omega (arith, h))

-- the same of a run and the cells after it, where these are as said
module _ (cell c : ℕ) (run after : List ℕ) (later : List Entry) (h : cell ≤ c)
    (more : cell + length run + 1 ≤ c →
    get_or after (c - (cell + length run + 1)) 0 ≡ unwrap_or (value_in later c) 0)
    (none : c < cell + length run + 1 → value_in later c ≡ None) where
  abbrev value_here : ℕ
  value_here = unwrap_or
      (value_in ((if is_filled run then gives cell run ∷ [] else []) ++ later) c) 0

  front : value_here ≡ unwrap_or (option_or (slice_get run (c - cell)) (value_in later c)) 0
  front = ap (λ o. unwrap_or o 0) (front_value cell c run later)
      ∙ ap (λ b. unwrap_or
      (option_or (if b then slice_get run (c - cell) else None) (value_in later c)) 0)
      (le-leb cell c h)

  -- a cell that this run does not reach
  not_here : length run ≤ c - cell → value_here ≡ unwrap_or (value_in later c) 0
  not_here far = front
      ∙ ap (λ o. unwrap_or (option_or o (value_in later c)) 0) (slice_get_past run (c - cell) far)

  within : c - cell < length run → get_or (run ++ 0 ∷ after) (c - cell) 0 ≡ value_here
  within low = get_or_append_left run (0 ∷ after) 0 (c - cell) low
      ∙ sym (front ∙ ap (λ o. unwrap_or (option_or o (value_in later c)) 0)
      (slice_get-get_or run (c - cell) 0 low))

  at_zero : c - cell ≡ length run → get_or (run ++ 0 ∷ after) (c - cell) 0 ≡ value_here
  at_zero at =
      let first : c - cell - length run ≡ 0 = omega (arith, at) in
      get_or-append_right run (0 ∷ after) (length run) (c - cell) 0 refl (omega (arith, at))
      ∙ ap (λ k. get_or (0 ∷ after) k 0) first
      ∙ sym (not_here (omega (arith, at))
      ∙ ap (λ o. unwrap_or o 0) (none (omega (arith, at, h))))

  past : length run < c - cell → get_or (run ++ 0 ∷ after) (c - cell) 0 ≡ value_here
  past far =
      let next : c - cell - length run ≡ suc (c - (cell + length run + 1)) = omega (arith, far) in
      get_or-append_right run (0 ∷ after) (length run) (c - cell) 0 refl (omega (arith, far))
      ∙ ap (λ k. get_or (0 ∷ after) k 0) next ∙ more (omega (arith, far))
      ∙ sym (not_here (omega (arith, far)))

  one_more : get_or (run ++ 0 ∷ after) (c - cell) 0 ≡ value_here
  one_more = ⊎_elim at_zero (λ other. ⊎_elim within past other)
      (cases_order (c - cell) (length run))

-- the cells from this one on, with one that holds 0 between each two runs
pub run_values : (cell c : ℕ) (runs : List (List ℕ)) → cell ≤ c →
    get_or (join_with_byte 0 runs) (c - cell) 0 ≡ unwrap_or (value_in (run_entries cell runs) c) 0
run_values cell c [] h = refl
run_values cell c (run ∷ []) h = sym (ap (λ o. unwrap_or o 0) (front_value cell c run []
    ∙ or_none (if nat_le cell c then slice_get run (c - cell) else None)
    ∙ ap (λ b. if b then slice_get run (c - cell) else None) (le-leb cell c h))
    ∙ unwrap_or-slice_get run (c - cell) 0)
run_values cell c (run ∷ next ∷ runs) h = one_more cell c run (join_with_byte 0 (next ∷ runs))
    (run_entries (cell + length run + 1) (next ∷ runs)) h
    (λ more. run_values (cell + length run + 1) c (next ∷ runs) more)
    (λ low. before_runs (cell + length run + 1) c (next ∷ runs) low)
