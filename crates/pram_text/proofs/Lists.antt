-- A list around one of its elements.
use Rattle.std.proofs.Common.{◌≡◌, ◌⊎◌, inl, inr, ⊎_elim, ◌+◌, suc, Bool, true, false, ◌||◌}
use Rattle.std.proofs.Common.{cond, List, [], ◌∷◌, ◌++◌, length, take, drop, All, AllPairs, get_or}
use Rattle.std.proofs.Common.{refl, sym, ap, ap₂, subst, ◌∙◌, append-nil, append_assoc, arith}
use Rattle.std.specs.List.{AllByRecursion, list_any, before_first, after_first}
use Rattle.std.specs.List.{position_or_len}
use Rattle.std.proofs.lemmas.Bool.{or_left, or_right, or_parts, cases_Bool}
use Rattle.std.proofs.lemmas.List.{length-append, get_or_append_left, get_or_at}

module _ {X : Type 0} where
  -- an element of two lists in a row stands in the first or in the second
  pub split_of_append : (xs ys before : List X) (x : X) (after : List X) →
      xs ++ ys ≡ before ++ x ∷ after → ((rest : List X) × (xs ≡ before ++ x ∷ rest))
      ⊎ ((more : List X) × (before ≡ xs ++ more) × (ys ≡ more ++ x ∷ after))
  split_of_append [] ys before x after e = inr (before, refl, e)
  split_of_append (z ∷ xs) ys [] x after e =
      let same : z ≡ x = cc in inl (xs, ap (λ w. w ∷ xs) same)
  split_of_append (z ∷ xs) ys (b ∷ before) x after e =
      let same : z ≡ b = cc in
      let rest : xs ++ ys ≡ before ++ x ∷ after = cc in
      elim (split_of_append xs ys before x after rest) [
        | inl l ↦ inl (l.0, λ i. same i ∷ l.1 i)
        | inr r ↦ let same' = sym same in inr (r.0, (λ i. same' i ∷ r.1 i), r.2)
      ]

  -- what holds of no element, and of one more each time, holds of all
  grown_from : (P : List X → Type 0) (front xs : List X) → P front →
      ((before : List X) (x : X) (after : List X) → front ++ xs ≡ before ++ x ∷ after → P before →
      P (before ++ x ∷ [])) → P (front ++ xs)
  grown_from P front [] p more = subst P (sym (append-nil front)) p
  grown_from P front (x ∷ xs) p more =
      let same = append_assoc front (x ∷ []) xs in
      subst P same (grown_from P (front ++ x ∷ []) xs (more front x xs refl p)
      (λ before y after e. more before y after (sym same ∙ e)))

  pub grown : (P : List X → Type 0) (xs : List X) → P [] →
      ((before : List X) (x : X) (after : List X) → xs ≡ before ++ x ∷ after →
      P before → P (before ++ x ∷ [])) → P xs
  grown P xs none more = grown_from P [] xs none more

  -- ---- the first element that passes a test

  module _ (p : X → Bool) where
    abbrev pub NonePasses : List X → Type 0
    NonePasses xs = AllByRecursion (λ x. p x ≡ false) xs

    pub none_left : (xs ys : List X) → NonePasses (xs ++ ys) → NonePasses xs
    none_left [] ys h = tt
    none_left (x ∷ xs) ys h = (h.0, none_left xs ys h.1)

    pub none_at : (xs : List X) (x : X) (ys : List X) → NonePasses (xs ++ x ∷ ys) → p x ≡ false
    none_at [] x ys h = h.0
    none_at (y ∷ xs) x ys h = none_at xs x ys h.1

    pub any_none : (xs : List X) → NonePasses xs → list_any p xs ≡ false
    any_none [] h = refl
    any_none (x ∷ xs) h = rw h.0 (any_none xs h.1)

    pub none_any : (xs : List X) → list_any p xs ≡ false → NonePasses xs
    none_any [] e = tt
    none_any (x ∷ xs) e =
        let parts = or_parts (p x) (list_any p xs) e in (parts.0, none_any xs parts.1)

    pub any_at : (xs : List X) (c : X) (ys : List X) → p c ≡ true → list_any p (xs ++ c ∷ ys) ≡ true
    any_at [] c ys e = or_left (p c) (list_any p ys) e
    any_at (x ∷ xs) c ys e = or_right (p x) _ (any_at xs c ys e)

    -- the list around the first that passes
    pub any_split : (xs : List X) → list_any p xs ≡ true →
        (before : List X) × (c : X) × (after : List X) × (xs ≡ before ++ c ∷ after)
        × NonePasses before × (p c ≡ true)
    any_split [] e = cc
    any_split (x ∷ xs) e = go (p x) refl (λ more. any_split xs more)
      where
        go : (b : Bool) → p x ≡ b → (list_any p xs ≡ true → (before : List X) × (c : X)
            × (after : List X) × (xs ≡ before ++ c ∷ after) × NonePasses before × (p c ≡ true)) →
            (before : List X) × (c : X) × (after : List X) × (x ∷ xs ≡ before ++ c ∷ after)
            × NonePasses before × (p c ≡ true)
        go true now more = ([], x, xs, refl, tt, now)
        go false now more =
            let later : list_any p xs ≡ true = rw now at e in
            let m = more later in
            (x ∷ m.0, m.1, m.2, ap (λ l. x ∷ l) m.3, (now, m.4), m.5)

    drop_past : (xs : List X) (c : X) (ys : List X) → drop (suc (length xs)) (xs ++ c ∷ ys) ≡ ys
    drop_past [] c ys = refl
    drop_past (x ∷ xs) c ys = drop_past xs c ys

    first_at : (xs : List X) (c : X) (ys : List X) → NonePasses xs → p c ≡ true →
        position_or_len p (xs ++ c ∷ ys) ≡ length xs
    first_at [] c ys h e = rw e refl
    first_at (x ∷ xs) c ys h e = rw h.0 (omega (arith, first_at xs c ys h.1 e))

    pub after_first_at : (xs : List X) (c : X) (ys : List X) → NonePasses xs → p c ≡ true →
        after_first p (xs ++ c ∷ ys) ≡ ys
    after_first_at xs c ys h e =
        let at : position_or_len p (xs ++ c ∷ ys) + 1 ≡ suc (length xs) =
        omega (arith, first_at xs c ys h e) in
        ap (λ n. drop n (xs ++ c ∷ ys)) at ∙ drop_past xs c ys

    pub after_first_skip : (x : X) (xs : List X) → p x ≡ false →
        after_first p (x ∷ xs) ≡ after_first p xs
    after_first_skip x xs e =
        let at : position_or_len p (x ∷ xs) + 1 ≡ suc (position_or_len p xs + 1) =
        rw e (omega arith) in
        ap (λ n. drop n (x ∷ xs)) at

    take_before : (xs : List X) (c : X) (ys : List X) → take (length xs) (xs ++ c ∷ ys) ≡ xs
    take_before [] c ys = refl
    take_before (x ∷ xs) c ys = ap (λ zs. x ∷ zs) (take_before xs c ys)

    pub before_first_at : (xs : List X) (c : X) (ys : List X) → NonePasses xs → p c ≡ true →
        before_first p (xs ++ c ∷ ys) ≡ xs
    before_first_at xs c ys h e =
        ap (λ n. take n (xs ++ c ∷ ys)) (first_at xs c ys h e) ∙ take_before xs c ys

    pub before_first_skip : (x : X) (xs : List X) → p x ≡ false →
        before_first p (x ∷ xs) ≡ x ∷ before_first p xs
    before_first_skip x xs e =
        let at : position_or_len p (x ∷ xs) ≡ suc (position_or_len p xs) = rw e (omega arith) in
        ap (λ n. take n (x ∷ xs)) at

    -- one element more
    pub after_first-push : (xs : List X) (y : X) →
        after_first p (xs ++ y ∷ []) ≡ after_first p xs ++ cond (list_any p xs) (y ∷ []) []
    after_first-push [] y = ⊎_elim (λ yes. rw yes refl) (λ no. rw no refl) (cases_Bool (p y))
    after_first-push (x ∷ xs) y =
        ⊎_elim (λ here. rw here refl)
        (λ later. after_first_skip x (xs ++ y ∷ []) later
        ∙ after_first-push xs y ∙ ap₂ (λ zs b. zs ++ cond b (y ∷ []) [])
        (sym (after_first_skip x xs later)) (sym (ap (λ b. b || list_any p xs) later)))
        (cases_Bool (p x))

    -- the first that passes cuts a list in one way
    pub cut_once : (xs : List X) (c : X) (ys xs' : List X) (c' : X) (ys' : List X) →
        NonePasses xs → p c ≡ true → NonePasses xs' → p c' ≡ true →
        xs ++ c ∷ ys ≡ xs' ++ c' ∷ ys' → (xs ≡ xs') × (ys ≡ ys')
    cut_once [] c ys [] c' ys' n t n' t' e = let same : ys ≡ ys' = cc in (refl, same)
    cut_once [] c ys (x ∷ xs') c' ys' n t n' t' e = let same : c ≡ x = cc in let no = n'.0 in cc
    cut_once (x ∷ xs) c ys [] c' ys' n t n' t' e = let same : x ≡ c' = cc in let no = n.0 in cc
    cut_once (x ∷ xs) c ys (x' ∷ xs') c' ys' n t n' t' e =
        let same : x ≡ x' = cc in
        let more : xs ++ c ∷ ys ≡ xs' ++ c' ∷ ys' = cc in
        let rest = cut_once xs c ys xs' c' ys' n.1 t n'.1 t' more in
        ((λ i. same i ∷ rest.0 i), rest.1)

  -- ---- from all elements to each

  pub all_at : (P : X → Type 0) (before : List X) (x : X) (after : List X) →
      All P (before ++ x ∷ after) → P x
  all_at P before x after h = subst P (get_or_at before x after x (length before) refl)
      (h (length before) x (omega (arith, length-append before (x ∷ after))))

  pub pairs_at : (R : X → X → Type 0) (before : List X) (x : X) (after : List X) →
      AllPairs R (before ++ x ∷ after) → All (λ y. R y x) before
  pairs_at R before x after h k d lt =
      let one : R (get_or (before ++ x ∷ after) k d)
      (get_or (before ++ x ∷ after) (length before) d) =
      h k (length before) d lt (omega (arith, length-append before (x ∷ after))) in
      rw (get_or_append_left before (x ∷ after) d k lt) at
      (rw (get_or_at before x after d (length before) refl) at one)

  pub pairs_before : (R : X → X → Type 0) (before after : List X) →
      AllPairs R (before ++ after) → AllPairs R before
  pairs_before R before after h i j d lt within =
      let one : R (get_or (before ++ after) i d) (get_or (before ++ after) j d) =
      h i j d lt (omega (arith, length-append before after)) in
      rw (get_or_append_left before after d i (omega arith)) at
      (rw (get_or_append_left before after d j within) at one)
