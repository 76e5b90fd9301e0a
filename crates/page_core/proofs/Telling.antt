-- Rows and bytes that are told one after the other, and the cells of the arrays before them.
use Rattle.std.proofs.Common.{◌≡◌, ℕ, zero, suc, ◌+◌, ◌<◌, List, [], ◌∷◌, ◌++◌, length, map, take}
use Rattle.std.proofs.Common.{get_or, slice_get, Some, refl, sym, ap, subst, ◌∙◌, arith}
use Rattle.std.proofs.Common.{append_assoc}
use Rattle.std.specs.List.{flat_map, range_with_len}
use Rattle.std.proofs.lemmas.List.{flat_map_more, map_more, take_more}
use Rattle.std.proofs.lemmas.List.FromFn.{get_or-map-range_with_len, length-map-range_with_len}
use Rattle.std.proofs.lemmas.List.FromFn.{map-range_with_len_more}
use Rattle.std.proofs.lemmas.List.Sums.{sum_by-cons}
use Rattle.std.proofs.lemmas.Option.{slice_get-get_or}
use Rattle.pardo_program.specs.Lawful.{AreArrays}
use Rattle.pardo_program.specs.Program.{ArrayData, shared_cells}

-- one row more
pub rows_more : {X Y : Type 0} (f : X → Y) (xs : List X) (k : ℕ) (x : X) (y : Y)
    (old now new : List Y) → k < length xs → x ≡ get_or xs k x → y ≡ f x →
    now ≡ old ++ map f (take k xs) → new ≡ now ++ y ∷ [] → new ≡ old ++ map f (take (k + 1) xs)
rows_more f xs k x y old now new lt at is so_far one =
    one ∙ ap (λ n. n ++ y ∷ []) so_far
    ∙ append_assoc old (map f (take k xs)) (y ∷ [])
    ∙ ap (λ z. old ++ (map f (take k xs) ++ z ∷ [])) (is ∙ ap f at)
    ∙ ap (λ l. old ++ l) (sym (map_more f xs k x lt))

-- one row more of those that go by numbers
pub numbered_more : {Y : Type 0} (f : ℕ → Y) (k : ℕ) (y : Y) (old now new : List Y) → y ≡ f k →
    now ≡ old ++ map f (range_with_len 0 k) → new ≡ now ++ y ∷ [] →
    new ≡ old ++ map f (range_with_len 0 (k + 1))
numbered_more f k y old now new is so_far one =
    let here : 0 + k ≡ k = omega arith in
    one ∙ ap (λ n. n ++ y ∷ []) so_far
    ∙ append_assoc old (map f (range_with_len 0 k)) (y ∷ [])
    ∙ ap (λ z. old ++ (map f (range_with_len 0 k) ++ z ∷ [])) is
    ∙ ap (λ l. old ++ l) (sym (map-range_with_len_more f 0 k k here))

-- all of them
pub numbered_all : {Y : Type 0} (f : ℕ → Y) (n i : ℕ) (rows : List Y) →
    rows ≡ [] ++ map f (range_with_len 0 n) → i < n → slice_get rows i ≡ Some (f i)
numbered_all {Y = Y} f n i rows is low =
    let all = length-map-range_with_len f 0 n in
    subst (λ (xs : List Y). slice_get xs i ≡ Some (f i)) (sym is)
    (slice_get-get_or (map f (range_with_len 0 n)) i (f i) (omega arith)
    ∙ ap Some (get_or-map-range_with_len f 0 n i i (f i) low (omega arith)))

-- the bytes of one more
pub bytes_more : {X : Type 0} (f : X → List ℕ) (xs : List X) (k : ℕ) (x : X)
    (bytes old now new : List ℕ) → k < length xs → x ≡ get_or xs k x → bytes ≡ f x →
    now ≡ old ++ flat_map f (take k xs) → new ≡ now ++ bytes →
    new ≡ old ++ flat_map f (take (k + 1) xs)
bytes_more f xs k x bytes old now new lt at is so_far one =
    one ∙ ap (λ n. n ++ bytes) so_far
    ∙ ap (λ b. (old ++ flat_map f (take k xs)) ++ b) (is ∙ ap f at)
    ∙ flat_map_more f old (take k xs) (get_or xs k x)
    ∙ ap (λ l. old ++ flat_map f l) (sym (take_more xs k x lt))

-- so many cells lie before those that are no array's
pub shared_end : (arrays : List ArrayData) (base n : ℕ) (last : ArrayData) → AreArrays arrays base →
    n + 1 ≡ length arrays → slice_get arrays n ≡ Some last →
    base + shared_cells arrays ≡ last.base + length last.start
shared_end [] base n last are count is = absurd (omega arith)
shared_end (array ∷ arrays) base zero last are count is =
    let sum : shared_cells (array ∷ arrays) ≡ length array.start + shared_cells arrays =
    sum_by-cons (λ (x : ArrayData). length x.start) array arrays in
    let none : shared_cells arrays ≡ 0 = none_after arrays (omega arith) in
    let same : array ≡ last = cc in
    let begins : array.base ≡ last.base = ap (λ (x : ArrayData). x.base) same in
    let counts : length array.start ≡ length last.start =
    ap (λ (x : ArrayData). length x.start) same in
    omega (arith, sum, none, begins, counts, are.0)
  where
    none_after : (xs : List ArrayData) → length xs ≡ 0 → shared_cells xs ≡ 0
    none_after [] e = refl
    none_after (x ∷ xs) e = absurd (omega arith)
shared_end (array ∷ arrays) base (suc n) last are count is =
    let sum : shared_cells (array ∷ arrays) ≡ length array.start + shared_cells arrays =
    sum_by-cons (λ (x : ArrayData). length x.start) array arrays in
    let rest = shared_end arrays (base + length array.start) n last are.3 (omega arith) is in
    omega (arith, sum, rest)
