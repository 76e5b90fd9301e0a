-- Values over and over, one after the other.
use Rattle.std.proofs.Common.{◌≡◌, ℕ, zero, suc, ◌+◌, ◌++◌, ◌∷◌, [], List, length, map, sym, ap, ◌∙◌}
use Rattle.std.proofs.Common.{◌<◌, ◌-◌, ◌^◌, append-nil, arith, drop, take}
use Rattle.std.specs.List.{range_with_len}
use Rattle.std.proofs.lemmas.List.{drop_all, map-append, take_all}
use Rattle.pardo_text.specs.Thrown.{shuffled}
use Rattle.std.proofs.lemmas.List.FromFn.{length-range_with_len}

pub range_more : (first count last : ℕ) → first + count ≡ last →
    range_with_len first (count + 1) ≡ range_with_len first count ++ last ∷ []
range_more first zero last e = ap (λ (n : ℕ). n ∷ []) (omega (arith, e))
range_more first (suc count) last e =
    let same : suc count + 1 ≡ suc (count + 1) = omega arith in
    ap (range_with_len first) same
    ∙ ap (λ (l : List ℕ). first ∷ l) (range_more (first + 1) count last (omega (arith, e)))

-- one value more
pub mapped_more : (f : ℕ → ℕ) (values after : List ℕ) (n value : ℕ) →
    values ≡ map f (range_with_len 0 n) → after ≡ values ++ value ∷ [] → value ≡ f n →
    after ≡ map f (range_with_len 0 (n + 1))
mapped_more f values after n value so_far added is = added
    ∙ ap (λ (l : List ℕ). l ++ value ∷ []) so_far
    ∙ ap (λ (v : ℕ). map f (range_with_len 0 n) ++ v ∷ []) is
    ∙ sym (map-append f (range_with_len 0 n) (n ∷ []))
    ∙ ap (map f) (sym (range_more 0 n n (omega arith)))

-- the numbers of few places are few
pub numbers_few : (n : ℕ) (values : List ℕ) → values ≡ range_with_len 0 n → n < 2 ^ 32 →
    length values < 2 ^ 32
numbers_few n values is few =
    let same : length values ≡ n = ap length is ∙ length-range_with_len 0 n in
    omega (arith, same, few)

-- what a slice of a whole list became is put back as the whole
pub put_back : (len : ℕ) (new items : List ℕ) → len ≡ length items → length new ≡ length items →
    take len (new ++ drop (length new) items) ≡ new
put_back len new items is same =
    let none : drop (length new) items ≡ [] = drop_all (length new) items (omega (arith, same)) in
    ap (λ (rest : List ℕ). take len (new ++ rest)) none
    ∙ ap (λ (l : List ℕ). take len l) (append-nil new)
    ∙ take_all len new (omega (arith, is, same))

-- numbers that are shuffled
pub shuffled_numbers : (places place seed : ℕ) (new items : List ℕ) → place ≡ places →
    items ≡ range_with_len 0 place → new ≡ shuffled (length items - 1) seed items →
    new ≡ shuffled (places - 1) seed (range_with_len 0 places)
shuffled_numbers places place seed new items all is made =
    let whole : items ≡ range_with_len 0 places = is ∙ ap (range_with_len 0) all in
    let same : length items ≡ places = ap length whole ∙ length-range_with_len 0 places in
    made ∙ ap (λ (n : ℕ). shuffled (n - 1) seed items) same
    ∙ ap (λ (l : List ℕ). shuffled (places - 1) seed l) whole
