-- The lines between the header and the line `code`, printed and read.
use Rattle.std.proofs.Common.{◌≡◌, ℕ, zero, suc, ◌<◌, ◌≤◌, ◌^◌, ◌+◌, ◌-◌, Bool, true, false}
use Rattle.std.proofs.Common.{◌||◌, ◌==◌, List, [], ◌∷◌, ◌++◌, length, map, Ok, Option, Some, None}
use Rattle.std.proofs.Common.{refl, sym, ap, ap₂, subst, ◌∙◌, arith, bytes_eq, is_some}
use Rattle.std.proofs.Common.{append-nil, append_assoc, ⊎_elim, if◌then◌else◌, get_or}
use Rattle.std.proofs.Common.{unwrap_or}
use Rattle.std.specs.List.{AllByRecursion, list_any, range_with_len, slice_split, onto_first}
use Rattle.std.specs.List.{join_with_byte}
use Rattle.std.specs.Option.{option_or}
use Rattle.std.proofs.lemmas.Bool.{or_from, cases_Bool}
use Rattle.std.proofs.lemmas.List.{map-append}
use Rattle.std.proofs.lemmas.List.Splits.{slice_split-cons_yes, slice_split-cons_no}
use Rattle.std.proofs.lemmas.List.Splits.{join_with_byte-slice_split}
use Rattle.pram_job.specs.declared.instr.Array.{Array}
use Rattle.pram_job.specs.Instructions.{IsArray}
use Rattle.pram_text.specs.Judgement.{Entry, names, gives, entry_of}
use Rattle.text_lines.specs.Lines.{Word}
use Rattle.pram_text.specs.Text.{array_in, array_by, value_in, value_by, gives_values, is_taken}
use Rattle.pram_text.specs.Text.{SaysEntries, SpellsInit}
use Rattle.job_text.specs.Printed.{ArrayWords, AreArrayWords, array_line, once, run_lines}
use Rattle.job_text.proofs.Naming.{AreApart, named, array_read, once_apart, once_keeps}
use Rattle.job_text.proofs.Inits.{run_entries, AreSmall, RunsFit, runs_read, run_values}
use Rattle.job_text.proofs.Inits.{value_in-append, past_run}

-- ---- each takes what is free

-- Each of these, after those and one another, takes nothing that is taken.
abbrev AreFresh : List Entry → List Entry → Type 0
AreFresh before [] = Unit {0}
AreFresh before (entry ∷ entries) =
    (is_taken before entry ≡ false) × AreFresh (before ++ entry ∷ []) entries

fresh_at : (first entries before : List Entry) (entry : Entry) (after : List Entry) →
    AreFresh first entries → entries ≡ before ++ entry ∷ after →
    is_taken (first ++ before) entry ≡ false
fresh_at first [] [] entry after h e = cc
fresh_at first [] (b ∷ before) entry after h e = cc
fresh_at first (x ∷ entries) [] entry after h e =
    let same : x ≡ entry = cc in
    ap₂ is_taken (append-nil first) (sym same) ∙ h.0
fresh_at first (x ∷ entries) (b ∷ before) entry after h e =
    let same : x ≡ b = cc in
    let rest : entries ≡ before ++ entry ∷ after = cc in
    ap (λ ls. is_taken ls entry) (ap (λ y. first ++ y ∷ before) (sym same)
    ∙ sym (append_assoc first (x ∷ []) before))
    ∙ fresh_at (first ++ x ∷ []) entries before entry after h.1 rest

-- ---- arrays

or_none : {A : Type 0} (o : Option A) → option_or o None ≡ o
or_none None = refl
or_none (Some x) = refl

or_some : (o : Option Array) (b : Bool) (array : Array) → o ≡ None → b ≡ false →
    option_or o (if b then Some array else None) ≡ None
or_some o b array e f = ap₂ (λ p c. option_or p (if c then Some array else None)) e f

array_in-push : (entries : List Entry) (entry : Entry) (name : Word) →
    array_in (entries ++ entry ∷ []) name ≡ option_or (array_in entries name) (array_by entry name)
array_in-push [] entry name = or_none (array_by entry name)
array_in-push (first ∷ entries) entry name =
    ap (option_or (array_by first name)) (array_in-push entries entry name)
    ∙ assoc (array_by first name) (array_in entries name) (array_by entry name)
  where
    assoc : (o p q : Option Array) → option_or o (option_or p q) ≡ option_or (option_or o p) q
    assoc None p q = refl
    assoc (Some x) p q = refl

gives-push : (entries : List Entry) (name : Word) (array : Array) →
    list_any gives_values entries ≡ false →
    list_any gives_values (entries ++ names name array ∷ []) ≡ false
gives-push [] name array h = refl
gives-push (names n a ∷ entries) name array h = gives-push entries name array h
gives-push (gives first values ∷ entries) name array h = h

-- these names are not taken yet
abbrev AreNew : ArrayWords → List Entry → List Array → Type 0
AreNew words before arrays =
    AllByRecursion (λ array. array_in before (words array) ≡ None) arrays

new_after : (words : ArrayWords) (before : List Entry) (a : Array) (arrays : List Array) → AreNew words before arrays →
    AllByRecursion (λ b. bytes_eq (words a) (words b) ≡ false) arrays →
    AreNew words (before ++ named words a ∷ []) arrays
new_after words before a [] h k = tt
new_after words before a (b ∷ arrays) h k = (
  array_in-push before (named words a) (words b)
      ∙ or_some (array_in before (words b)) (bytes_eq (words a) (words b)) a h.0 k.0,
  new_after words before a arrays h.1 k.1,
)

taken_nothing : (words : ArrayWords) (before : List Entry) (a : Array) → list_any gives_values before ≡ false →
    array_in before (words a) ≡ None → is_taken before (named words a) ≡ false
unfolding is_taken
taken_nothing words before a h k = ap₂ (λ b o. (b || is_some o)) h k

-- Arrays are fresh, and so is what is fresh after entries that give no cell a value.
arrays_fresh : (words : ArrayWords) (before : List Entry) (arrays : List Array) (rest : List Entry) →
    list_any gives_values before ≡ false → AreNew words before arrays → AreApart words arrays →
    ((c : ℕ) → value_in before c ≡ None) →
    ((all : List Entry) → ((c : ℕ) → value_in all c ≡ None) → AreFresh all rest) →
    AreFresh before (map (named words) arrays ++ rest)
arrays_fresh words before [] rest h k apart none after = after before none
arrays_fresh words before (a ∷ arrays) rest h k apart none after = (
  taken_nothing words before a h k.0,
  arrays_fresh words (before ++ named words a ∷ []) arrays rest (gives-push before (words a) a h)
      (new_after words before a arrays k.1 apart.0) apart.1
      (λ c. value_in-append before (named words a ∷ []) c
      ∙ ap (λ o. option_or o (value_in (named words a ∷ []) c)) (none c)) after,
)

-- ---- start values

none_given : (before : List Entry) (first count : ℕ) →
    ((c : ℕ) → first ≤ c → value_in before c ≡ None) →
    list_any (λ c. is_some (value_in before c)) (range_with_len first count) ≡ false
none_given before first zero h = refl
none_given before first (suc count) h = or_from (is_some (value_in before first))
    (list_any (λ c. is_some (value_in before c)) (range_with_len (first + 1) count))
    (ap is_some (h first (omega arith)))
    (none_given before (first + 1) count (λ c low. h c (omega (arith, low))))

run_taken : (before : List Entry) (cell : ℕ) (run : List ℕ) →
    ((c : ℕ) → cell ≤ c → value_in before c ≡ None) → is_taken before (gives cell run) ≡ false
unfolding is_taken
run_taken before cell run h = none_given before cell (length run) h

runs_fresh : (before : List Entry) (cell : ℕ) (runs : List (List ℕ)) →
    ((c : ℕ) → cell ≤ c → value_in before c ≡ None) → AreFresh before (run_entries cell runs)
runs_fresh before cell [] h = tt
runs_fresh before cell ([] ∷ runs) h =
    runs_fresh before (cell + 0 + 1) runs (λ c low. h c (omega (arith, low)))
runs_fresh before cell ((v ∷ run) ∷ runs) h = (
  run_taken before cell (v ∷ run) h,
  runs_fresh (before ++ gives cell (v ∷ run) ∷ []) (cell + length (v ∷ run) + 1) runs
      (λ c low. value_in-append before (gives cell (v ∷ run) ∷ []) c
      ∙ ap₂ option_or (h c (omega (arith, low)))
      (or_none (value_by (gives cell (v ∷ run)) c)
      ∙ past_run cell c (v ∷ run) (omega (arith, low)))),
)

-- ---- all of them

-- what the lines between say
abbrev pub entries_for : ArrayWords → List Array → List (List ℕ) → List Entry
entries_for words arrays runs = map (named words) (once arrays) ++ run_entries 0 runs

module _ (cells : ℕ) (few : cells ≤ 1048576) (words : ArrayWords) (are : AreArrayWords cells words)
  where
    arrays_said : (arrays : List Array) → AllByRecursion (IsArray cells) arrays →
        map (entry_of true cells) (map (array_line words) arrays)
        ≡ map (λ entry. Ok entry) (map (named words) arrays)
    arrays_said [] h = refl
    arrays_said (a ∷ arrays) h =
        let here = array_read cells few words are a h.0 in
        let more = arrays_said arrays h.1 in
        λ i. here i ∷ more i

all_new : (words : ArrayWords) (arrays : List Array) → AreNew words [] arrays
all_new words [] = tt
all_new words (a ∷ arrays) = (refl, all_new words arrays)

module _ (cells : ℕ) (few : cells ≤ 1048576) (words : ArrayWords) (are : AreArrayWords cells words)
  where
    pub entries_said : (arrays : List Array) (runs : List (List ℕ)) →
        AllByRecursion (IsArray cells) arrays → RunsFit cells 0 runs →
        SaysEntries true cells (map (array_line words) (once arrays) ++ run_lines 0 runs)
        (entries_for words arrays runs)
    entries_said arrays runs h fit = record {
      said = map-append (entry_of true cells) (map (array_line words) (once arrays))
          (run_lines 0 runs)
          ∙ ap₂ (λ xs ys. xs ++ ys)
          (arrays_said cells few words are (once arrays) (once_keeps (IsArray cells) arrays h))
          (runs_read cells 0 runs few fit)
          ∙ sym (map-append (λ entry. Ok entry) (map (named words) (once arrays))
          (run_entries 0 runs));
      fresh = λ before entry after e. fresh_at [] (entries_for words arrays runs) before entry after
          (arrays_fresh words [] (once arrays) (run_entries 0 runs) refl
          (all_new words (once arrays)) (once_apart cells few words are arrays h) (λ c. refl)
          (λ all none. runs_fresh all 0 runs (λ c low. none c))) e;
    }

-- ---- the runs of start values

no_values : (words : ArrayWords) (arrays : List Array) (c : ℕ) → value_in (map (named words) arrays) c ≡ None
no_values words [] c = refl
no_values words (a ∷ arrays) c = no_values words arrays c

abbrev pub runs_of : List ℕ → List (List ℕ)
runs_of init = slice_split (λ value. value == 0) init

pub init_said : (words : ArrayWords) (cells : ℕ) (arrays : List Array) (init : List ℕ) → length init ≡ cells →
    SpellsInit cells (entries_for words arrays (runs_of init)) init
init_said words cells arrays init len = record {
  len = len;
  values = λ c below.
      let at : c ≡ c - 0 = omega arith in
      sym (ap (λ values. get_or values c 0) (join_with_byte-slice_split 0 init))
      ∙ ap (λ k. get_or (join_with_byte 0 (runs_of init)) k 0) at
      ∙ run_values 0 c (runs_of init) (omega arith)
      ∙ sym (ap (λ o. unwrap_or o 0)
      (value_in-append (map (named words) (once arrays)) (run_entries 0 (runs_of init)) c
      ∙ ap (λ o. option_or o (value_in (run_entries 0 (runs_of init)) c))
      (no_values words (once arrays) c)));
}

-- The first run may be longer.
longer : (cells cell v : ℕ) (runs : List (List ℕ)) → v < 2 ^ 32 → RunsFit cells (cell + 1) runs →
    cell < cells → RunsFit cells cell (onto_first v runs)
longer cells cell v [] small h low = ((small, tt), omega (arith, low), tt)
longer cells cell v (run ∷ runs) small h low =
    let next : cell + 1 + length run + 1 ≡ cell + length (v ∷ run) + 1 = omega arith in (
      (small, h.0),
      omega (arith, h.1),
      subst (λ at. RunsFit cells at runs) next h.2,
    )

pub runs_fit : (cells cell : ℕ) (init : List ℕ) → AreSmall init → cell + length init ≡ cells →
    RunsFit cells cell (runs_of init)
runs_fit cells cell [] h len = (tt, omega (arith, len), tt)
runs_fit cells cell (v ∷ init) h len =
    let next : cell + 1 ≡ cell + 0 + 1 = omega arith in
    let more = runs_fit cells (cell + 1) init h.1 (omega (arith, len)) in
    ⊎_elim
    (λ e. subst (RunsFit cells cell) (sym (slice_split-cons_yes (λ value. value == 0) v init e))
    (tt, omega (arith, len), subst (λ at. RunsFit cells at (runs_of init)) next more))
    (λ e. subst (RunsFit cells cell) (sym (slice_split-cons_no (λ value. value == 0) v init e))
    (longer cells cell v (runs_of init) h.0 more (omega (arith, len))))
    (cases_Bool (v == 0))
