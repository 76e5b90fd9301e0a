-- What each element of a list says.
use Rattle.std.proofs.Common.{◌≡◌, List, [], ◌∷◌, ◌++◌, map, All, Result, Ok, refl}
use Rattle.std.specs.List.{AllByRecursion}
use Rattle.std.proofs.lemmas.List.Elements.{recursion_from_All}
use Rattle.pram_text.specs.declared.fault.TextKind.{TextKind}

-- each element says a value
abbrev pub Said : {X Y : Type 0} → (X → Result Y TextKind) → List X → List Y → Type 0
Said f xs ys = map f xs ≡ map (λ y. Ok y) ys

pub said_once : {X Y : Type 0} (f : X → Result Y TextKind) (xs : List X) (ys zs : List Y) →
    Said f xs ys → Said f xs zs → ys ≡ zs
said_once f [] [] [] a b = refl
said_once f [] [] (z ∷ zs) a b = cc
said_once f [] (y ∷ ys) zs a b = cc
said_once f (x ∷ xs) [] zs a b = cc
said_once f (x ∷ xs) (y ∷ ys) [] a b = cc
said_once f (x ∷ xs) (y ∷ ys) (z ∷ zs) a b =
    let first : y ≡ z = cc in
    let c : Said f xs ys = cc in
    let d : Said f xs zs = cc in
    let rest : ys ≡ zs = said_once f xs ys zs c d in
    cc

-- what stands around one element, says what stands around its value
pub record SaidAround {X Y : Type 0} (f : X → Result Y TextKind) (before : List X) (x : X)
    (after : List X) (ys : List Y) : Type 0 where
  pub front : List Y
  pub value : Y
  pub back : List Y
  pub parts : ys ≡ front ++ value ∷ back
  pub said_front : Said f before front
  pub said_value : f x ≡ Ok value
  pub said_back : Said f after back

pub said_around : {X Y : Type 0} (f : X → Result Y TextKind)
    (before : List X) (x : X) (after : List X) (ys : List Y) → Said f (before ++ x ∷ after) ys →
    SaidAround f before x after ys
said_around f [] x after [] s = cc
said_around f [] x after (y ∷ ys) s =
    let first : f x ≡ Ok y = cc in
    let rest : Said f after ys = cc in
    record {
      front = [];
      value = y;
      back = ys;
      parts = refl;
      said_front = refl;
      said_value = first;
      said_back = rest;
    }
said_around f (b ∷ before) x after [] s = cc
said_around f (b ∷ before) x after (y ∷ ys) s =
    let first : f b ≡ Ok y = cc in
    let rest : Said f (before ++ x ∷ after) ys = cc in
    let r = said_around f before x after ys rest in
    let front : Said f (b ∷ before) (y ∷ r.front) = λ i. first i ∷ r.said_front i in
    record {
      front = y ∷ r.front;
      value = r.value;
      back = r.back;
      parts = λ i. y ∷ r.parts i;
      said_front = front;
      said_value = r.said_value;
      said_back = r.said_back;
    }

-- where each says a value, all say a list
pub said_from_each : {X Y : Type 0} (f : X → Result Y TextKind) (xs : List X) →
    All (λ x. (y : Y) × (f x ≡ Ok y)) xs → (ys : List Y) × Said f xs ys
said_from_each {X} {Y} f xs h =
    by_each xs (recursion_from_All (λ x. (y : Y) × (f x ≡ Ok y)) xs h) where
      by_each : (xs : List X) → AllByRecursion (λ x. (y : Y) × (f x ≡ Ok y)) xs →
          (ys : List Y) × Said f xs ys
      by_each [] h = ([], refl)
      by_each (x ∷ xs) h =
          let rest = by_each xs h.1 in
          (h.0.0 ∷ rest.0, λ i. h.0.1 i ∷ rest.1 i)
