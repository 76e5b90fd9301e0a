-- Lines with words, among all lines.
use Rattle.std.proofs.Common.{◌≡◌, ℕ, ◌+◌, ◌<◌, ◌≤◌, zero, suc, Bool, true, false, ◌||◌, ◌&&◌}
use Rattle.std.proofs.Common.{cond, List, [], ◌∷◌, ◌++◌, length, map, filter, take, drop, All}
use Rattle.std.proofs.Common.{get_or, refl, ap, sym, ◌∙◌, subst, ⊎_elim, append-nil, arith}
use Rattle.std.specs.List.{AllByRecursion, enumerate_from, list_any, after_first, position_or_len}
use Rattle.std.proofs.lemmas.Bool.{cond-true, cond-false, cases_Bool}
use Rattle.std.proofs.lemmas.List.{drop-map, map-append, length-map}
use Rattle.std.proofs.lemmas.List.Elements.{filter-append, All-drop, All-from_recursion}
use Rattle.text_lines.specs.Lines.{Line, words_of, worded, numbered, is_filled}
use Rattle.pram_text.specs.Judgement.{is_code}
use Rattle.pram_text.specs.Text.{has_code, body_of, numbered_body}
use Rattle.pram_text.proofs.Lists.{after_first-push}

cond_append : (b : Bool) (w : Line) (all front rest : List Line) → all ≡ front ++ rest →
    cond b (w ∷ all) all ≡ cond b (w ∷ front) front ++ rest
cond_append true w all front rest e = ap (λ l. w ∷ l) e
cond_append false w all front rest e = e

-- a line with words, and the lines with words before it and after it
pub worded_around : (lines : List (List ℕ)) (k : ℕ) →
    k < length lines → is_filled (words_of (get_or lines k [])) ≡ true → worded lines
    ≡ worded (take k lines) ++ words_of (get_or lines k []) ∷ worded (drop (suc k) lines)
worded_around [] k lt e = absurd (omega arith)
worded_around (line ∷ lines) zero lt e = cond-true (is_filled (words_of line)) _ _ e
worded_around (line ∷ lines) (suc k) lt e =
    cond_append (is_filled (words_of line)) (words_of line) (worded lines)
    (worded (take k lines)) (words_of (get_or lines k []) ∷ worded (drop (suc k) lines))
    (worded_around lines k (omega arith) e)

-- the line that has these words
pub record WordedAt (lines : List (List ℕ)) (before : List Line) (words : Line) : Type 0 where
  pub index : ℕ
  pub within : index < length lines
  pub front : worded (take index lines) ≡ before
  pub says : words_of (get_or lines index []) ≡ words
  pub filled : is_filled words ≡ true

pub worded_at : (lines : List (List ℕ)) (before : List Line) (words : Line) (after : List Line) →
    worded lines ≡ before ++ words ∷ after → WordedAt lines before words
worded_at [] [] words after e = cc
worded_at [] (w ∷ before) words after e = cc
worded_at (line ∷ lines) before words after e = go before (is_filled (words_of line)) refl e
    (λ front more. worded_at lines front words after more)
  where
    go : (front : List Line) (b : Bool) → is_filled (words_of line) ≡ b →
        cond b (words_of line ∷ worded lines) (worded lines) ≡ front ++ words ∷ after →
        ((front : List Line) → worded lines ≡ front ++ words ∷ after → WordedAt lines front words) →
        WordedAt (line ∷ lines) front words
    go [] true filled f more =
        let here : words_of line ≡ words = cc in
        record {
          index = 0;
          within = omega arith;
          front = refl;
          says = here;
          filled = subst (λ w. is_filled w ≡ true) here filled;
        }
    go (w ∷ front) true filled f more =
        let here : words_of line ≡ w = cc in
        let rest : worded lines ≡ front ++ words ∷ after = cc in
        let m = more front rest in
        let lt = m.within in
        record {
          index = suc m.index;
          within = omega arith;
          front =
              cond-true (is_filled (words_of line)) (words_of line ∷ worded (take m.index lines))
              (worded (take m.index lines)) filled ∙ (λ i. here i ∷ m.front i);
          says = m.says;
          filled = m.filled;
        }
    go front false filled f more =
        let m = more front f in
        let lt = m.within in
        record {
          index = suc m.index;
          within = omega arith;
          front =
              cond-false (is_filled (words_of line)) (words_of line ∷ worded (take m.index lines))
              (worded (take m.index lines)) filled ∙ m.front;
          says = m.says;
          filled = m.filled;
        }

-- ---- with their numbers

abbrev numbered_from : ℕ → List Line → List (ℕ × Line)
numbered_from n lines = filter (λ l. is_filled l.1) (enumerate_from n lines)

words-numbered_from : (n : ℕ) (lines : List Line) →
    map (λ l. l.1) (numbered_from n lines) ≡ filter is_filled lines
words-numbered_from n [] = refl
words-numbered_from n (line ∷ lines) =
    elim (is_filled line) as (λ b.
    map (λ l. l.1) (cond b ((n, line) ∷ numbered_from (n + 1) lines) (numbered_from (n + 1) lines))
    ≡ cond b (line ∷ filter is_filled lines) (filter is_filled lines)) [
      | true ↦ ap (λ ls. line ∷ ls) (words-numbered_from (n + 1) lines)
      | false ↦ words-numbered_from (n + 1) lines
    ]

enumerate_from-push : (n : ℕ) (lines : List Line) (line : Line) →
    enumerate_from n (lines ++ line ∷ []) ≡ enumerate_from n lines ++ (n + length lines, line) ∷ []
enumerate_from-push n [] line = ap (λ k. (k, line) ∷ []) (omega arith)
enumerate_from-push n (first ∷ lines) line =
    ap (λ ls. (n, first) ∷ ls)
    (enumerate_from-push (n + 1) lines line
    ∙ ap (λ k. enumerate_from (n + 1) lines ++ (k, line) ∷ []) (omega arith))

numbered-push : (lines : List (List ℕ)) (line : List ℕ) → numbered (lines ++ line ∷ [])
    ≡ numbered lines ++ cond (is_filled (words_of line)) ((length lines + 1, words_of line) ∷ []) []
numbered-push lines line =
    ap (numbered_from 1) (map-append words_of lines (line ∷ []))
    ∙ ap (filter (λ l. is_filled l.1)) (enumerate_from-push 1 (map words_of lines) (words_of line))
    ∙ filter-append (λ l. is_filled l.1)
    (enumerate_from 1 (map words_of lines)) ((1 + length (map words_of lines), words_of line) ∷ [])
    ∙ ap (λ k. numbered lines ++ cond (is_filled (words_of line)) ((k, words_of line) ∷ []) [])
    (omega (arith, length-map lines words_of))

-- every number is that of a line
numbers-within : (n : ℕ) (lines : List Line) →
    AllByRecursion (λ l. (n ≤ l.0) × (l.0 < n + length lines)) (numbered_from n lines)
numbers-within n lines = weaker n (n + length lines) n lines (omega arith) (omega arith) where
  weaker : (low high n : ℕ) (lines : List Line) → low ≤ n → n + length lines ≤ high →
      AllByRecursion (λ l. (low ≤ l.0) × (l.0 < high)) (numbered_from n lines)
  weaker low high n [] l h = tt
  weaker low high n (line ∷ lines) l h =
      let more = weaker low high (n + 1) lines (omega arith) (omega arith) in
      elim (is_filled line) as (λ b. AllByRecursion (λ l. (low ≤ l.0) × (l.0 < high))
      (cond b ((n, line) ∷ numbered_from (n + 1) lines) (numbered_from (n + 1) lines))) [
        | true ↦ ((l, omega arith), more)
        | false ↦ more
      ]

pub body_numbers-within : (lines : List (List ℕ)) →
    All (λ (l : ℕ × Line). (1 ≤ l.0) × (l.0 < 1 + length lines)) (numbered_body lines)
body_numbers-within lines =
    let P : ℕ × Line → Type 0 = λ l. (1 ≤ l.0) × (l.0 < 1 + length lines) in
    let all =
    subst (λ n. AllByRecursion (λ (l : ℕ × Line). (1 ≤ l.0) × (l.0 < 1 + n)) (numbered lines))
    (length-map lines words_of) (numbers-within 1 (map words_of lines)) in
    All-drop P _ (drop 4 (numbered lines))
    (All-drop P 4 (numbered lines) (All-from_recursion P (numbered lines) all))

-- ---- the instruction lines

module _ {X Y : Type 0} (f : X → Y) (p : Y → Bool) where
  list_any-map : (xs : List X) → list_any (λ x. p (f x)) xs ≡ list_any p (map f xs)
  list_any-map [] = refl
  list_any-map (x ∷ xs) = ap (λ b. p (f x) || b) (list_any-map xs)

  position_or_len-map : (xs : List X) →
      position_or_len (λ x. p (f x)) xs ≡ position_or_len p (map f xs)
  position_or_len-map [] = refl
  position_or_len-map (x ∷ xs) = ⊎_elim (λ yes. rw yes refl)
      (λ no. rw no (ap (λ n. 1 + n) (position_or_len-map xs))) (cases_Bool (p (f x)))

pub has_code-numbered : (lines : List (List ℕ)) →
    list_any (λ (l : ℕ × Line). is_code l.1) (drop 4 (numbered lines)) ≡ has_code (worded lines)
has_code-numbered lines = list_any-map (λ (l : ℕ × Line). l.1) is_code (drop 4 (numbered lines))
    ∙ ap (list_any is_code) (sym (drop-map (λ (l : ℕ × Line). l.1) 4 (numbered lines))
    ∙ ap (drop 4) (words-numbered_from 1 (map words_of lines)))

pub words-numbered_body : (lines : List (List ℕ)) →
    map (λ l. l.1) (numbered_body lines) ≡ body_of (worded lines)
words-numbered_body lines =
    let words = sym (drop-map (λ (l : ℕ × Line). l.1) 4 (numbered lines))
    ∙ ap (drop 4) (words-numbered_from 1 (map words_of lines)) in
    sym (drop-map (λ (l : ℕ × Line). l.1) _ (drop 4 (numbered lines)))
    ∙ ap (λ n. drop (n + 1) (map (λ (l : ℕ × Line). l.1) (drop 4 (numbered lines))))
    (position_or_len-map (λ (l : ℕ × Line). l.1) is_code (drop 4 (numbered lines)))
    ∙ ap (after_first is_code) words

body-push : {X : Type 0} (p : X → Bool) (xs : List X) (y : X) →
    after_first p (drop 4 (xs ++ y ∷ []))
    ≡ after_first p (drop 4 xs) ++ cond (list_any p (drop 4 xs)) (y ∷ []) []
body-push p [] y = refl
body-push p (a ∷ []) y = refl
body-push p (a ∷ b ∷ []) y = refl
body-push p (a ∷ b ∷ c ∷ []) y = refl
body-push p (a ∷ b ∷ c ∷ d ∷ xs) y = after_first-push p xs y

and-true : (b : Bool) → (b && true) ≡ b
and-true true = refl
and-true false = refl

and-false : (b : Bool) → (b && false) ≡ false
and-false true = refl
and-false false = refl

-- one line more
pub numbered_body-push : (lines : List (List ℕ)) (line : List ℕ) →
    numbered_body (lines ++ line ∷ [])
    ≡ numbered_body lines ++ cond (has_code (worded lines) && is_filled (words_of line))
    ((length lines + 1, words_of line) ∷ []) []
numbered_body-push lines line =
    let y : ℕ × Line = (length lines + 1, words_of line) in
    let test : ℕ × Line → Bool = λ l. is_code l.1 in
    ap (λ ls. after_first test (drop 4 ls)) (numbered-push lines line)
    ∙ by_words (is_filled (words_of line)) y test
    ∙ ap (λ b. numbered_body lines ++ cond (b && is_filled (words_of line)) (y ∷ []) [])
    (has_code-numbered lines)
  where
    by_words : (b : Bool) (y : ℕ × Line) (test : ℕ × Line → Bool) →
        after_first test (drop 4 (numbered lines ++ cond b (y ∷ []) [])) ≡ after_first test
        (drop 4 (numbered lines)) ++ cond (list_any test (drop 4 (numbered lines)) && b) (y ∷ []) []
    by_words true y test = body-push test (numbered lines) y
        ∙ ap (λ b. after_first test (drop 4 (numbered lines)) ++ cond b (y ∷ []) [])
        (sym (and-true (list_any test (drop 4 (numbered lines)))))
    by_words false y test = ap (λ ls. after_first test (drop 4 ls)) (append-nil (numbered lines))
        ∙ sym (ap (λ b. after_first test (drop 4 (numbered lines)) ++ cond b (y ∷ []) [])
        (and-false (list_any test (drop 4 (numbered lines)))) ∙ append-nil _)
