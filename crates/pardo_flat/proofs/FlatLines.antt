-- Where flat lines stand.
use Rattle.std.proofs.Common.{◌≡◌, ℕ, zero, suc, ◌+◌, ◌-◌, ◌<◌, ◌≤◌, List, [], ◌∷◌, ◌++◌}
use Rattle.std.proofs.Common.{Some, None, refl, sym, ap, ◌∙◌, subst, ⊎_elim, arith, length}
use Rattle.std.proofs.Common.{get_or, length-append, take}
use Rattle.std.specs.List.{All}
use Rattle.std.specs.Prelude.{unwrap_or}
use Rattle.std.proofs.lemmas.Option.{slice_get_read, slice_get_within, unwrap_or-slice_get}
use Rattle.std.specs.Prelude.{slice_get, sum_by}
use Rattle.std.specs.List.{flat_map}
use Rattle.std.proofs.lemmas.Bool.{cases_lt}
use Rattle.std.proofs.Math.Seq.{take-length}
use Rattle.std.proofs.lemmas.List.Concat.{length-flat_map}
use Rattle.std.proofs.lemmas.List.Sums.{sum_by-cons}
use mathlib.Core.Path.{fun_ext}
use Rattle.std.proofs.lemmas.Option.{none-some, same_Some}
use Rattle.pardo_program.specs.declared.statement.Line.{Line}
use Rattle.pardo_program.specs.Expression.{Tree}
use Rattle.pardo_program.specs.Program.{ProgramData}
use Rattle.pardo_flat.specs.Flat.{base_of, first_flat_of, flat, giving, hidden, is_for_all}
use Rattle.pardo_flat.specs.Flat.{flat_size, last_line, last_of, lines_for, pieces_of}

-- ---- places in lists

pub all_at : {A : Type 0} (P : A → Type 0) (xs : List A) (k : ℕ) (x : A) → All P xs → slice_get xs k
    ≡ Some x → P x
all_at P xs k x are is = subst P (sym (unwrap_or-slice_get xs k x) ∙ ap (λ o. unwrap_or o x) is)
    (are k x (slice_get_within xs k x is))

pub line_there : (lines items : List Line) (k : ℕ) (line : Line) → items ≡ lines →
    k < length items → line ≡ get_or items k line →
    slice_get lines k ≡ Some line
line_there lines items k line e lt is =
    subst (λ (l : List Line). slice_get l k ≡ Some line) e
    (slice_get_read items (length items) k line refl lt is)

pub some_at : (lines : List Line) (k : ℕ) → k < length lines →
    (line : Line) × (slice_get lines k ≡ Some line)
some_at [] k lt = absurd (omega (arith, lt))
some_at (line ∷ lines) zero lt = (line, refl)
some_at (line ∷ lines) (suc k) lt = some_at lines k (omega (arith, lt))

pub get_front : {A : Type 0} (xs ys : List A) (k : ℕ) → k < length xs →
    slice_get (xs ++ ys) k ≡ slice_get xs k
get_front [] ys k lt = absurd (omega (arith, lt))
get_front (x ∷ xs) ys zero lt = refl
get_front (x ∷ xs) ys (suc k) lt = get_front xs ys k (omega (arith, lt))

pub get_back : {A : Type 0} (xs ys : List A) (m k : ℕ) → m ≡ length xs + k →
    slice_get (xs ++ ys) m ≡ slice_get ys k
get_back [] ys m k e = ap (slice_get ys) (omega (arith, e))
get_back (x ∷ xs) ys zero k e = absurd (omega (arith, e))
get_back (x ∷ xs) ys (suc m) k e = get_back xs ys m k (omega (arith, e))

-- lists of these lengths, one after the other
module _ (f : Line → List Line) (size : Line → ℕ) (long : (x : Line) → length (f x) ≡ size x) where
  found_in : (xs : List Line) (j m k : ℕ) (x : Line) → slice_get xs j ≡ Some x →
      m ≡ sum_by size (take j xs) + k → k < size x →
      slice_get (flat_map f xs) m ≡ slice_get (f x) k
  found_in [] j m k x is e lt = absurd (none-some x is)
  found_in (y ∷ ys) zero m k x is e lt =
      let same = same_Some y x is in
      let here : m ≡ k = omega (arith, e) in
      let short : k < length (f y) = subst (λ z. k < length (f z)) (sym same)
      (let l = long x in omega (arith, l, lt)) in
      ap (slice_get (f y ++ flat_map f ys)) here ∙ get_front (f y) (flat_map f ys) k short
      ∙ ap (λ z. slice_get (f z) k) same
  found_in (y ∷ ys) (suc j) m k x is e lt =
      let sums = sum_by-cons size y (take j ys) in
      let l = long y in
      get_back (f y) (flat_map f ys) m (m - size y) (omega (arith, e, sums, l))
      ∙ found_in ys j (m - size y) k x is (omega (arith, e, sums)) lt

  none_in : (xs : List Line) (j m : ℕ) → slice_get xs j ≡ None → m ≡ sum_by size (take j xs) →
      slice_get (flat_map f xs) m ≡ None
  none_in [] j m is e = refl
  none_in (y ∷ ys) zero m is e = absurd (none-some y (sym is))
  none_in (y ∷ ys) (suc j) m is e =
      let sums = sum_by-cons size y (take j ys) in
      let l = long y in
      get_back (f y) (flat_map f ys) m (m - size y) (omega (arith, e, sums, l))
      ∙ none_in ys j (m - size y) is (omega (arith, e, sums))

  sum_next : (xs : List Line) (j : ℕ) (x : Line) → slice_get xs j ≡ Some x →
      sum_by size (take (suc j) xs) ≡ sum_by size (take j xs) + size x
  sum_next [] j x is = absurd (none-some x is)
  sum_next (y ∷ ys) zero x is = sum_by-cons size y []
      ∙ ap (λ l. size l + 0) (same_Some y x is)
      ∙ (let e : size x + 0 ≡ 0 + size x = omega arith in e)
  sum_next (y ∷ ys) (suc j) x is = sum_by-cons size y (take (suc j) ys)
      ∙ ap (λ n. size y + n) (sum_next ys j x is)
      ∙ (let e : sum_by size (y ∷ take j ys) ≡ size y + sum_by size (take j ys) =
      sum_by-cons size y (take j ys) in omega arith)

-- ---- the lines for a line

pub length-hidden : (end : ℕ) (line : Line) (t : ℕ) (pieces : List Tree) →
    length (hidden end line t pieces) ≡ length pieces
length-hidden end line t [] = refl
length-hidden end line t (piece ∷ pieces) = ap suc (length-hidden end line (t + 1) pieces)

-- each hidden line gives a piece to a variable
pub hidden_is : (end : ℕ) (line : Line) (t : ℕ) (pieces : List Tree) (k : ℕ) → k < length pieces →
    (x : ℕ) × (tree : Tree) × (slice_get (hidden end line t pieces) k
    ≡ Some (record line { statement = giving (is_for_all line.statement) end x tree }))
hidden_is end line t [] k lt = absurd (omega (arith, lt))
hidden_is end line t (piece ∷ pieces) zero lt = (t, piece, refl)
hidden_is end line t (piece ∷ pieces) (suc k) lt =
    hidden_is end line (t + 1) pieces k (omega (arith, lt))

module _ (program : ProgramData) where
  abbrev pub hidden_for : Line → List Line
  hidden_for line =
      hidden (last_of program 0) line (base_of program line.statement) (pieces_of program line)

  abbrev long : (line : Line) → length (hidden_for line) ≡ length (pieces_of program line)
  long line = length-hidden (last_of program 0) line (base_of program line.statement)
      (pieces_of program line)

  pub size_is : (line : Line) → length (lines_for program line) ≡ flat_size program line
  unfolding lines_for
  size_is line = length-append (hidden_for line) (last_line program line ∷ [])
      ∙ ap (λ n. n + 1) (long line)

  -- the last line of the text is the last flat line
  pub flat_end : length (flat program).lines ≡ first_flat_of program (length program.lines)
  unfolding first_flat_of
  flat_end = length-flat_map (lines_for program) program.lines
      ∙ ap (λ (f : Line → ℕ). sum_by f program.lines) (fun_ext size_is)
      ∙ sym (ap (λ lines. sum_by (flat_size program) lines) (take-length program.lines))

  module _ (j : ℕ) (line : Line) (is : slice_get program.lines j ≡ Some line) where
    pub hidden_stands : (k : ℕ) → k < length (pieces_of program line) →
        slice_get (flat program).lines (first_flat_of program j + k)
        ≡ slice_get (hidden_for line) k
    unfolding first_flat_of lines_for
    hidden_stands k lt =
        let e = long line in
        found_in (lines_for program) (flat_size program) size_is program.lines j
        (first_flat_of program j + k) k line is refl (omega (arith, lt))
        ∙ get_front (hidden_for line) (last_line program line ∷ []) k (omega (arith, lt, e))

    pub last_stands : slice_get (flat program).lines
        (first_flat_of program j + length (pieces_of program line)) ≡ Some (last_line program line)
    unfolding first_flat_of lines_for
    last_stands =
        let e = long line in
        found_in (lines_for program) (flat_size program) size_is program.lines j
        (first_flat_of program j + length (pieces_of program line)) (length (pieces_of program line))
        line is refl (omega arith)
        ∙ get_back (hidden_for line) (last_line program line ∷ [])
        (length (pieces_of program line)) 0 (omega (arith, e))

    -- each of the lines for a line has its number
    pub flat_at : (k : ℕ) → k ≤ length (pieces_of program line) → (found : Line) ×
        (slice_get (flat program).lines (first_flat_of program j + k) ≡ Some found)
        × (found.number ≡ line.number)
    flat_at k le = ⊎_elim
        (λ (low : k < length (pieces_of program line)).
        let end = last_of program 0 in
        let there = hidden_is end line (base_of program line.statement) (pieces_of program line) k
        low in (
          record line { statement = giving (is_for_all line.statement) end there.0 there.1 },
          hidden_stands k low ∙ there.2,
          refl,
        ))
        (λ (high : length (pieces_of program line) ≤ k).
        let all : k ≡ length (pieces_of program line) = omega (arith, le, high) in (
          last_line program line,
          ap (λ n. slice_get (flat program).lines (first_flat_of program j + n)) all ∙ last_stands,
          refl,
        ))
        (cases_lt k (length (pieces_of program line)))

    pub first_next : first_flat_of program (j + 1) ≡ first_flat_of program j + flat_size program line
    unfolding first_flat_of
    first_next =
        ap (λ n. sum_by (flat_size program) (take n program.lines))
        (let e : j + 1 ≡ suc j = omega arith in e)
        ∙ sum_next (lines_for program) (flat_size program) size_is program.lines j line is

    pub last_is : last_of program j ≡ first_flat_of program j + length (pieces_of program line)
    last_is = let e = first_next in omega (arith, e)

    pub last_next : last_of program j + 1 ≡ first_flat_of program (j + 1)
    last_next = let e = first_next in omega (arith, e)

  pub none_stands : (j : ℕ) → slice_get program.lines j ≡ None →
      slice_get (flat program).lines (first_flat_of program j) ≡ None
  unfolding first_flat_of
  none_stands j is = none_in (lines_for program) (flat_size program) size_is program.lines j
      (first_flat_of program j) is refl
