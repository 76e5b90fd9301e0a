-- The rows of processors and of steps, one after the other, and what a sink took of them.
use Rattle.std.proofs.Common.{◌≡◌, ◌∙◌, ◌++◌, ◌+◌, ◌-◌, ◌≤◌, ◌∷◌, [], ℕ, zero, suc, List, Option}
use Rattle.std.proofs.Common.{refl, sym, ap, subst, append_assoc, append-nil, arith}
use Rattle.std.proofs.KnownBytes.{Appends-nil, Appends-trans}
use Rattle.std.proofs.Math.Seq.{take-length}
use Rattle.std.proofs.lemmas.Grind.{flat_map-append}
use Rattle.std.specs.Io.KnownBytes.{Appends}
use Rattle.std.specs.List.{flat_map, range_with_len}
use Rattle.pram_job.specs.Job.{JobData}
use Rattle.pram_streams.specs.Transfer.{AppendsBeginning}
use Rattle.pram_streams.proofs.Beginnings.{beginning-after, beginning-longer}
use Rattle.pram_rows.specs.Inner.Printing.{TakesBut}
use Rattle.pram_rows.specs.StepRows.{StepRows, rows_after, step_rows}

-- so many numbers, and then more
range_more : (t m n k u : ℕ) → k ≡ m + n → u ≡ t + m →
    range_with_len t k ≡ range_with_len t m ++ range_with_len u n
range_more t zero n k u count place =
    let all : k ≡ n = omega arith in
    let here : u ≡ t = omega arith in
    rw (all, here) refl
range_more t (suc m) n zero u count place = absurd (omega arith)
range_more t (suc m) n (suc k) u count place =
    ap (λ l. t ∷ l) (range_more (t + 1) m n k u (omega arith) (omega arith))

pub flat_map-range : (f : ℕ → List ℕ) (t m n k u : ℕ) → k ≡ m + n → u ≡ t + m →
    flat_map f (range_with_len t k)
    ≡ flat_map f (range_with_len t m) ++ flat_map f (range_with_len u n)
flat_map-range f t m n k u count place = ap (flat_map f) (range_more t m n k u count place)
    ∙ flat_map-append f (range_with_len t m) (range_with_len u n)

-- a text, the pieces of some numbers, and the piece of the next number
pub pieces-more : (text : List ℕ) (f : ℕ → List ℕ) (t m k u : ℕ) → k ≡ m + 1 → u ≡ t + m
    → (text ++ flat_map f (range_with_len t m)) ++ f u ≡ text ++ flat_map f (range_with_len t k)
pieces-more text f t m k u count place =
    append_assoc text (flat_map f (range_with_len t m)) (f u)
    ∙ ap (λ l. text ++ l) (sym (flat_map-range f t m 1 k u count place
    ∙ ap (λ l. flat_map f (range_with_len t m) ++ l) (append-nil (f u))))

-- the rows of more steps begin with those of fewer
pub lines-longer : (rows : StepRows) (job : JobData) (t m n : ℕ) → m ≤ n →
    rows_after rows job t n
    ≡ rows_after rows job t m ++ rows_after rows job (t + m) (n - m)
lines-longer rows job t m n few =
    flat_map-range (step_rows rows job) t m (n - m) n (t + m) (omega arith) refl

-- what was taken whole was begun
pub whole-begins : (a b : Option (List ℕ)) (text : List ℕ) →
    Appends a b text → AppendsBeginning a b text
whole-begins a b text put = (text, take-length text, put)

module _ (a b : Option (List ℕ)) (rest text : List ℕ) (takes : TakesBut a b rest text) where
  pub but-begins : AppendsBeginning a b text
  but-begins = subst (λ l. AppendsBeginning a b l) takes.text_is
      (beginning-longer a b takes.front rest (whole-begins a b takes.front takes.put))

  pub but-rest : (c : Option (List ℕ)) → Appends b c rest → Appends a c text
  but-rest c put =
      subst (λ l. Appends a c l) takes.text_is (Appends-trans a b c takes.front rest takes.put put)

  pub but-beginning : (c : Option (List ℕ)) → AppendsBeginning b c rest → AppendsBeginning a c text
  but-beginning c begins = subst (λ l. AppendsBeginning a c l) takes.text_is
      (beginning-after a b c takes.front rest takes.put begins)

  all-is : (more : List ℕ) → takes.front ++ (rest ++ more) ≡ text ++ more
  all-is more = sym (append_assoc takes.front rest more) ∙ ap (λ l. l ++ more) takes.text_is

  pub more-begins : (c : Option (List ℕ)) (more : List ℕ) → AppendsBeginning b c (rest ++ more) →
      AppendsBeginning a c (text ++ more)
  more-begins c more begins = subst (λ l. AppendsBeginning a c l) (all-is more)
      (beginning-after a b c takes.front (rest ++ more) takes.put begins)

  pub more-taken : (c : Option (List ℕ)) (left more : List ℕ) → TakesBut b c left (rest ++ more) →
      TakesBut a c left (text ++ more)
  more-taken c left more taken = record {
    front = takes.front ++ taken.front;
    put = Appends-trans a b c takes.front taken.front takes.put taken.put;
    text_is = append_assoc takes.front taken.front left
        ∙ ap (λ l. takes.front ++ l) taken.text_is ∙ all-is more;
  }

-- before the first row
pub no-rows : (rows : StepRows) (job : JobData) (a : Option (List ℕ)) (t m : ℕ)
    (rest : List ℕ) → rest ≡ [] → m ≡ 0 → TakesBut a a rest (rows_after rows job t m)
no-rows rows job a t m rest none zero_rows = record {
  front = [];
  put = Appends-nil a;
  text_is = none ∙ sym (ap (λ n. rows_after rows job t n) zero_rows);
}

module _ (rows : StepRows) (job : JobData) (a b : Option (List ℕ)) (t m k u : ℕ)
    (rest : List ℕ) (takes : TakesBut a b rest (rows_after rows job t m))
    (count : k ≡ m + 1) (place : u ≡ t + m) where
  pub row-begins : (c : Option (List ℕ)) → AppendsBeginning b c (rest ++ step_rows rows job u) →
      AppendsBeginning a c (rows_after rows job t k)
  row-begins c begins =
      subst (λ l. AppendsBeginning a c l)
      (pieces-more [] (step_rows rows job) t m k u count place)
      (more-begins a b rest (rows_after rows job t m) takes c (step_rows rows job u) begins)

  pub row-taken : (c : Option (List ℕ)) (left : List ℕ) →
      TakesBut b c left (rest ++ step_rows rows job u) →
      TakesBut a c left (rows_after rows job t k)
  row-taken c left taken =
      subst (λ l. TakesBut a c left l)
      (pieces-more [] (step_rows rows job) t m k u count place)
      (more-taken a b rest (rows_after rows job t m) takes c left (step_rows rows job u) taken)
