-- The values that cells start with.
use Rattle.std.proofs.Common.{◌≡◌, ℕ, ◌+◌, ◌-◌, ◌≤◌, ◌<◌, List, [], ◌∷◌, ◌++◌, length, take}
use Rattle.std.proofs.Common.{get_or, replicate, ap, sym, ◌∙◌, subst, arith, append_assoc}
use Rattle.std.proofs.Common.{append-nil}
use Rattle.std.specs.List.{flat_map}
use Rattle.std.proofs.lemmas.Grind.{flat_map-append}
use Rattle.std.proofs.lemmas.List.{take_all, take_more}
use Rattle.pardo_program.specs.Lawful.{IsProgram}
use Rattle.pardo_program.specs.Program.{ProgramData}
use Rattle.pardo_flat.specs.Layouts.{cell_count, given_values, program_layout, start_values}
use Rattle.pardo_job.proofs.JobFits.{given_fits}

-- those of all things, where the loop is past the last of them
pub values_all : {X : Type 0} (f : X → List ℕ) (xs : List X) (k : ℕ) (front now : List ℕ) →
    length xs ≤ k → now ≡ front ++ flat_map f (take k xs) → now ≡ front ++ flat_map f xs
values_all {X = X} f xs k front now le e =
    e ∙ ap (λ (l : List X). front ++ flat_map f l) (take_all k xs le)

-- those of one thing more
pub values_more : {X : Type 0} (f : X → List ℕ) (xs items : List X) (k : ℕ) (x : X)
    (front now new more : List ℕ) → items ≡ xs → k < length items → x ≡ get_or items k x →
    more ≡ f x → now ≡ front ++ flat_map f (take k xs) → new ≡ now ++ more →
    new ≡ front ++ flat_map f (take (k + 1) xs)
values_more {X = X} f xs items k x front now new more same lt at is e g =
    let taken : take (k + 1) xs ≡ take k xs ++ x ∷ [] =
    subst (λ (l : List X). take (k + 1) l ≡ take k l ++ x ∷ []) same
    (take_more items k x lt ∙ ap (λ (y : X). take k items ++ y ∷ []) (sym at)) in
    let values : flat_map f (take (k + 1) xs) ≡ flat_map f (take k xs) ++ more =
    ap (λ (l : List X). flat_map f l) taken ∙ flat_map-append f (take k xs) (x ∷ [])
    ∙ ap (λ (l : List ℕ). flat_map f (take k xs) ++ l) (append-nil (f x) ∙ sym is) in
    g ∙ ap (λ (l : List ℕ). l ++ more) e ∙ append_assoc front (flat_map f (take k xs)) more
    ∙ ap (λ (l : List ℕ). front ++ l) (sym values)

-- the values that are given, and 0 for each other cell
pub start_is : (program : ProgramData) (now new : List ℕ) (n : ℕ) → IsProgram program →
    now ≡ given_values program → n ≡ cell_count (program_layout program) →
    new ≡ take n now ++ replicate (n - length now) 0 → new ≡ start_values program
unfolding start_values
start_is program now new n is e f g =
    let count = ap (λ (l : List ℕ). length l) e in
    let few : length now ≤ n = omega (arith, f, count, given_fits program is) in
    g ∙ ap (λ (l : List ℕ). l ++ replicate (n - length now) 0) (take_all n now few)
    ∙ ap (λ (l : List ℕ). l ++ replicate (n - length l) 0) e
    ∙ ap (λ (k : ℕ). given_values program ++ replicate (k - length (given_values program)) 0) f
