-- Rows and bytes that are told one after the other.
use Rattle.std.proofs.Common.{◌≡◌, ℕ, ◌+◌, ◌<◌, List, [], ◌∷◌, ◌++◌, length, map, take}
use Rattle.std.proofs.Common.{get_or, sym, ap, ◌∙◌}
use Rattle.std.specs.List.{flat_map}
use Rattle.std.proofs.lemmas.List.{flat_map_more, map_more, take_more}

-- one row more
pub rows_more : {X Y : Type 0} (f : X → Y) (xs : List X) (k : ℕ) (x : X) (y : Y) (now new : List Y) →
    k < length xs → x ≡ get_or xs k x → y ≡ f x → now ≡ map f (take k xs) →
    new ≡ now ++ y ∷ [] → new ≡ map f (take (k + 1) xs)
rows_more f xs k x y now new lt at is so_far one =
    one ∙ ap (λ n. n ++ y ∷ []) so_far
    ∙ ap (λ z. map f (take k xs) ++ z ∷ []) (is ∙ ap f at)
    ∙ sym (map_more f xs k x lt)

-- the bytes of one more
pub bytes_more : {X : Type 0} (f : X → List ℕ) (xs : List X) (k : ℕ) (x : X)
    (bytes now new : List ℕ) → k < length xs → x ≡ get_or xs k x → bytes ≡ f x →
    now ≡ flat_map f (take k xs) → new ≡ now ++ bytes → new ≡ flat_map f (take (k + 1) xs)
bytes_more f xs k x bytes now new lt at is so_far one =
    one ∙ ap (λ n. n ++ bytes) so_far
    ∙ ap (λ b. flat_map f (take k xs) ++ b) (is ∙ ap f at)
    ∙ flat_map_more f [] (take k xs) (get_or xs k x)
    ∙ ap (λ l. flat_map f l) (sym (take_more xs k x lt))
