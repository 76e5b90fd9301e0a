-- Arrays and start values, one line more.
use Rattle.std.proofs.Common.{◌≡◌, ℕ, ◌+◌, ◌-◌, ◌<◌, ◌≤◌, ◌==◌, List, [], ◌∷◌, ◌++◌, length, map}
use Rattle.std.proofs.Common.{Result, Ok, Err, Option, Some, None, refl, ap, ap₂, sym, ◌∙◌}
use Rattle.std.proofs.Common.{subst, ⊎_elim, inl, inr, Bool, true, false, ◌&&◌, ◌||◌, ◌⊎◌}
use Rattle.std.proofs.Common.{is_some, if◌then◌else◌, unwrap_or, arith, append_assoc, bytes_eq}
use Rattle.std.proofs.Common.{slice_get, nat_le, append-nil, Bor}
use Rattle.std.specs.List.{list_any, range_with_len}
use Rattle.std.specs.Option.{option_or}
use Rattle.std.proofs.lemmas.Bool.{cases_lt, cases_Bool, or_right, leb-true, both_ways}
use Rattle.std.proofs.lemmas.Bool.{eqb-true, eqb-false}
use Rattle.std.proofs.lemmas.List.{map-append}
use Rattle.std.proofs.lemmas.List.FromFn.{length-map-range_with_len, get_or-map-range_with_len}
use Rattle.std.proofs.lemmas.List.FromFn.{length-range_with_len, get_or-range_with_len}
use Rattle.std.proofs.lemmas.List.Folds.{list_any_at}
use Rattle.std.proofs.lemmas.Option.{slice_get_past}
use Rattle.std.proofs.lemmas.Slice.Eq.{bytes_eq-Decides}
use Rattle.pram_text.specs.declared.fault.TextKind.{TextKind}
use Rattle.pram_text.specs.declared.fault.TextKind.TheVariants.{BadHeader}
use Rattle.pram_job.specs.declared.instr.Array.{Array}
use Rattle.pram_text.specs.declared.start.Setup.{Setup}
use Rattle.text_lines.specs.Lines.{Line, Word, is_filled, words_of}
use Rattle.pram_text.specs.Judgement.{Entry, names, gives, says_array, array_of, values_of}
use Rattle.text_lines.specs.Reads.{◌>>=◌}
use Rattle.pram_text.specs.Judgement.{init_of, entry_of}
use Rattle.pram_text.specs.Inner.Reading.{HoldsStart, ReadsArray, ReadsInit, value_given}
use Rattle.pram_text.specs.Inner.Statement.{array_of_name}
use Rattle.pram_text.specs.Text.{array_by, array_in, value_by, value_in, gives_values, is_taken}
use Rattle.pram_text.specs.Text.{entry_fault, new_entry_fault, entries_in, SaysEntries, SpellsInit}
use Rattle.pram_text.proofs.Lists.{split_of_append}
use Rattle.pram_text.proofs.Said.{Said}

-- ---- what lines say

pub entries_in-said : (later : Bool) (cells : ℕ) (inits : List Line) (entries : List Entry) →
    Said (entry_of later cells) inits entries → entries_in later cells inits ≡ entries
entries_in-said later cells [] [] s = refl
entries_in-said later cells [] (entry ∷ entries) s = cc
entries_in-said later cells (line ∷ inits) [] s = cc
entries_in-said later cells (line ∷ inits) (entry ∷ entries) s =
    let first : entry_of later cells line ≡ Ok entry = cc in
    let rest : Said (entry_of later cells) inits entries = cc in
    rw first (ap (λ l. entry ∷ l) (entries_in-said later cells inits entries rest))

pub entry_fault-err : (later : Bool) (cells : ℕ) (inits : List Line) (w : Line) (kind : TextKind) →
    entry_of later cells w ≡ Err kind → entry_fault later cells inits w ≡ Some kind
unfolding entry_fault
entry_fault-err later cells inits w kind e = ap (new_entry_fault (entries_in later cells inits)) e

pub entry_fault-ok : (later : Bool) (cells : ℕ) (inits : List Line) (entries : List Entry)
    (w : Line) (entry : Entry) → SaysEntries later cells inits entries →
    entry_of later cells w ≡ Ok entry →
    entry_fault later cells inits w ≡ (if is_taken entries entry then Some BadHeader else None)
unfolding entry_fault
entry_fault-ok later cells inits entries w entry h e =
    ap₂ new_entry_fault (entries_in-said later cells inits entries h.said) e

none_around : {X : Type 0} (before : List X) (x : X) (after : List X) →
    [] ≡ before ++ x ∷ after → ⊥
none_around [] x after e = cc
none_around (b ∷ before) x after e = cc

pub SaysEntries-none : (later : Bool) (cells : ℕ) → SaysEntries later cells [] []
SaysEntries-none later cells = record {
  said = refl;
  fresh = λ before entry after e. absurd (none_around before entry after e);
}

-- the one entry after these
last_around : (entry : Entry) (more : List Entry) (other : Entry) (after : List Entry) →
    entry ∷ [] ≡ more ++ other ∷ after → (more ≡ []) × (other ≡ entry)
last_around entry [] other after e = let same : other ≡ entry = cc in (refl, same)
last_around entry (m ∷ more) other after e =
    let none : [] ≡ more ++ other ∷ after = cc in absurd (none_around more other after none)

pub SaysEntries-push : (later : Bool) (cells : ℕ) (inits : List Line) (entries : List Entry)
    (w : Line) (entry : Entry) → SaysEntries later cells inits entries →
    entry_of later cells w ≡ Ok entry → is_taken entries entry ≡ false →
    SaysEntries later cells (inits ++ w ∷ []) (entries ++ entry ∷ [])
SaysEntries-push later cells inits entries w entry h said new = record {
  said = map-append (entry_of later cells) inits (w ∷ []) ∙ ap₂ (λ xs r. xs ++ r ∷ []) h.said said
      ∙ sym (map-append (λ p. Ok p) entries (entry ∷ []));
  fresh = λ before other after e.
      elim (split_of_append entries (entry ∷ []) before other after e) [
        | inl front ↦ h.fresh before other front.0 front.1
        | inr here ↦
            let last = last_around entry here.0 other after here.2 in
            let same : before ≡ entries =
            here.1 ∙ ap (λ ls. entries ++ ls) last.0 ∙ append-nil entries in
            ap₂ is_taken same last.1 ∙ new
      ];
}

-- the entries of the first lines
pub SaysEntries-front : (later : Bool) (cells : ℕ) (inits before : List Line)
    (entries front : List Entry) (entry : Entry) (back : List Entry) →
    SaysEntries later cells inits entries → entries ≡ front ++ entry ∷ back →
    Said (entry_of later cells) before front → SaysEntries later cells before front
SaysEntries-front later cells inits before entries front entry back h parts said = record {
  said = said;
  fresh = λ earlier other after e. h.fresh earlier other (after ++ entry ∷ back)
      (parts ∙ ap (λ ls. ls ++ entry ∷ back) e
      ∙ append_assoc earlier (other ∷ after) (entry ∷ back));
}

-- a line without a fault has an entry
pub SaysEntries-more : (later : Bool) (cells : ℕ) (inits : List Line) (w : Line) →
    (entries : List Entry) × SaysEntries later cells inits entries →
    entry_fault later cells inits w ≡ None →
    (entries : List Entry) × SaysEntries later cells (inits ++ w ∷ []) entries
SaysEntries-more later cells inits w h none = by_line (entry_of later cells w) refl where
  by_line : (r : Result Entry TextKind) → entry_of later cells w ≡ r →
      (entries : List Entry) × SaysEntries later cells (inits ++ w ∷ []) entries
  by_line (Err kind) e = let some = entry_fault-err later cells inits w kind e in cc
  by_line (Ok entry) e = by_taken (is_taken h.0 entry) refl where
    by_taken : (b : Bool) → is_taken h.0 entry ≡ b →
        (entries : List Entry) × SaysEntries later cells (inits ++ w ∷ []) entries
    by_taken true taken =
        let some = entry_fault-ok later cells inits h.0 w entry h.1 e
        ∙ ap (λ b. if b then Some BadHeader else None) taken in cc
    by_taken false new =
        (h.0 ++ entry ∷ [], SaysEntries-push later cells inits h.0 w entry h.1 e new)

-- ---- what was read of a line

entry_of-array : (cells : ℕ) (w : Line) → says_array w ≡ true →
    entry_of true cells w ≡ array_of cells w
unfolding entry_of
entry_of-array cells w says = ap (λ b. if b then array_of cells w else init_of true cells w) says

entry_of-init : (later : Bool) (cells : ℕ) (w : Line) → (later && says_array w) ≡ false →
    entry_of later cells w ≡ init_of later cells w
unfolding entry_of
entry_of-init later cells w says =
    ap (λ b. if b then array_of cells w else init_of later cells w) says

pub array_read-err : (cells : ℕ) (w : Line) (r : Result (Bor (List ℕ) × Array) TextKind)
    (kind : TextKind) → says_array w ≡ true → ReadsArray cells w r → r ≡ Err kind →
    entry_of true cells w ≡ Err kind
array_read-err cells w r kind says reads e = entry_of-array cells w says ∙ reads
    ∙ ap (λ r. r >>= λ read. Ok (names read.0.now read.1)) e

pub array_read-ok : (cells : ℕ) (w : Line) (r : Result (Bor (List ℕ) × Array) TextKind)
    (read : Bor (List ℕ) × Array) → says_array w ≡ true → ReadsArray cells w r → r ≡ Ok read →
    entry_of true cells w ≡ Ok (names read.0.now read.1)
array_read-ok cells w r read says reads e = entry_of-array cells w says ∙ reads
    ∙ ap (λ r. r >>= λ read. Ok (names read.0.now read.1)) e

-- the entry of a first cell, with these words of values
given_by : ℕ → Result (ℕ × Bor (List ℕ)) TextKind → Result Entry TextKind
given_by cells r = r >>= λ read. values_of (cells - read.0) (words_of read.1.now)
    >>= λ values. Ok (gives read.0 values)

pub init_read-err : (later : Bool) (cells : ℕ) (w : Line)
    (r : Result (ℕ × Bor (List ℕ)) TextKind) (kind : TextKind) → (later && says_array w) ≡ false →
    ReadsInit later cells w r → r ≡ Err kind → entry_of later cells w ≡ Err kind
unfolding given_by
init_read-err later cells w r kind says reads e =
    entry_of-init later cells w says ∙ reads ∙ ap (given_by cells) e

pub init_read-ok : (later : Bool) (cells : ℕ) (w : Line) (r : Result (ℕ × Bor (List ℕ)) TextKind)
    (read : ℕ × Bor (List ℕ)) (values : Result (List ℕ) TextKind) →
    (later && says_array w) ≡ false → ReadsInit later cells w r → r ≡ Ok read →
    values_of (cells - read.0) (words_of read.1.now) ≡ values →
    entry_of later cells w ≡ (values >>= λ values. Ok (gives read.0 values))
unfolding given_by
init_read-ok later cells w r read values says reads e are =
    entry_of-init later cells w says ∙ reads ∙ ap (given_by cells) e
    ∙ ap (λ values. values >>= λ values. Ok (gives read.0 values)) are

-- ---- the values of all cells

pub SpellsInit-from : (cells : ℕ) (entries : List Entry) → SpellsInit cells entries
    (map (λ c. unwrap_or (value_in entries c) 0) (range_with_len 0 cells))
SpellsInit-from cells entries = record {
  len = length-map-range_with_len _ 0 cells;
  values = λ c below. get_or-map-range_with_len (λ c. unwrap_or (value_in entries c) 0)
      0 cells c c 0 below (omega arith);
}

pub SpellsInit-held : (later : Bool) (cells : ℕ) (inits : List Line) (start : Setup)
    (init : List ℕ) (h : HoldsStart later cells inits start) →
    init ≡ map (λ c. unwrap_or (value_given start.values.items c) 0) (range_with_len 0 cells) →
    SpellsInit cells h.entries init
SpellsInit-held later cells inits start init h values =
    subst (SpellsInit cells h.entries)
    (sym (values ∙ (λ i. map (λ c. unwrap_or (h.values c i) 0) (range_with_len 0 cells))))
    (SpellsInit-from cells h.entries)

-- ---- one entry more

or_none : {A : Type 0} (o : Option A) → option_or o None ≡ o
or_none None = refl
or_none (Some x) = refl

or_assoc : {A : Type 0} (o p q : Option A) → option_or (option_or o p) q ≡ option_or o (option_or p q)
or_assoc None p q = refl
or_assoc (Some x) p q = refl

value_in-push : (entries : List Entry) (entry : Entry) (c : ℕ) →
    value_in (entries ++ entry ∷ []) c ≡ option_or (value_in entries c) (value_by entry c)
value_in-push [] entry c = or_none (value_by entry c)
value_in-push (first ∷ entries) entry c =
    ap (option_or (value_by first c)) (value_in-push entries entry c)
    ∙ sym (or_assoc (value_by first c) (value_in entries c) (value_by entry c))

array_in-push : (entries : List Entry) (entry : Entry) (name : Word) →
    array_in (entries ++ entry ∷ []) name ≡ option_or (array_in entries name) (array_by entry name)
array_in-push [] entry name = or_none (array_by entry name)
array_in-push (first ∷ entries) entry name =
    ap (option_or (array_by first name)) (array_in-push entries entry name)
    ∙ sym (or_assoc (array_by first name) (array_in entries name) (array_by entry name))

or_bool : (a b c : Bool) → (a || (b || c)) ≡ ((a || b) || c)
or_bool true b c = refl
or_bool false b c = refl

or_false : (b : Bool) → (b || false) ≡ b
or_false true = refl
or_false false = refl

gives-push : (entries : List Entry) (entry : Entry) →
    list_any gives_values (entries ++ entry ∷ []) ≡ (list_any gives_values entries || gives_values entry)
gives-push [] entry = or_false (gives_values entry)
gives-push (first ∷ entries) entry = ap (λ b. gives_values first || b) (gives-push entries entry)
    ∙ or_bool (gives_values first) (list_any gives_values entries) (gives_values entry)

none_from : {A : Type 0} (o : Option A) → is_some o ≡ false → o ≡ None
none_from None e = refl
none_from (Some x) e = cc

-- where none of n numbers from a on passes, each of them fails
not_any_in : (p : ℕ → Bool) (a n : ℕ) → list_any p (range_with_len a n) ≡ false →
    (q : ℕ) → a ≤ q → q < a + n → p q ≡ false
not_any_in p a n none q low high = ⊎_elim
    (λ yes. absurd (both_ways _ none (list_any_at p (range_with_len a n) (q - a) 0
    (omega (arith, length-range_with_len a n))
    (ap p (get_or-range_with_len a n (q - a) 0 (omega arith) ∙ at) ∙ yes))))
    (λ no. no) (cases_Bool (p q))
  where
    at : a + (q - a) ≡ q
    at = omega arith

-- ---- what code asks of its list of values

pub filled_by : (xs : List (Option ℕ)) → 1 ≤ length xs → is_filled xs ≡ true
filled_by [] some = absurd (omega arith)
filled_by (x ∷ xs) some = refl

pub filled_unless : (xs : List (Option ℕ)) (n : ℕ) → n ≡ length xs → (n == 0) ≡ false →
    is_filled xs ≡ true
filled_unless xs n len e = filled_by xs (omega (arith, eqb-false n 0 e))

pub bare_if : (xs : List (Option ℕ)) (n : ℕ) → n ≡ length xs → (n == 0) ≡ true →
    is_filled xs ≡ false
bare_if [] n len e = refl
bare_if (x ∷ xs) n len e = absurd (let none = eqb-true n 0 e in omega arith)

pub given_before : (old new : List (Option ℕ)) (c n m : ℕ) (b : Bool) →
    ((q : ℕ) → value_given new q ≡ value_given old q) → m ≡ n →
    b ≡ list_any (λ q. is_some (value_given new q)) (range_with_len c m) →
    list_any (λ q. is_some (value_given old q)) (range_with_len c n) ≡ b
given_before old new c n m b same len e =
    sym (e ∙ (λ i. list_any (λ q. is_some (same q i)) (range_with_len c (len i))))

-- ---- start values, one line more

module _ (later : Bool) (cells : ℕ) (inits : List Line) (old : Setup) (w : Line)
    (h : HoldsStart later cells inits old) where
  module _ (c : ℕ) (vs : List ℕ) (said : entry_of later cells w ≡ Ok (gives c vs)) where
    -- whether one of its cells has a value
    abbrev pub has_given : Bool
    has_given = list_any (λ q. is_some (value_given old.values.items q))
        (range_with_len c (length vs))

    taken-given : is_taken h.entries (gives c vs) ≡ has_given
    unfolding is_taken
    taken-given =
        λ i. list_any (λ q. is_some (sym (h.values q) i)) (range_with_len c (length vs))

    pub entry_fault-given :
        entry_fault later cells inits w ≡ (if has_given then Some BadHeader else None)
    entry_fault-given = entry_fault-ok later cells inits h.entries w (gives c vs) h.said said
        ∙ ap (λ b. if b then Some BadHeader else None) taken-given

    -- a cell that is given a value had none
    fresh_cell : has_given ≡ false → (q : ℕ) →
        (value_by (gives c vs) q ≡ None) ⊎ (value_given old.values.items q ≡ None)
    fresh_cell none q = by_low (nat_le c q) refl
      where
        by_low : (b : Bool) → nat_le c q ≡ b →
            (value_by (gives c vs) q ≡ None) ⊎ (value_given old.values.items q ≡ None)
        by_low false e = inl (ap (λ b. if b then slice_get vs (q - c) else None) e)
        by_low true e = ⊎_elim
            (λ within. inr (none_from (value_given old.values.items q)
            (not_any_in (λ p. is_some (value_given old.values.items p)) c (length vs) none q
            (leb-true c q e) (omega (arith, within, leb-true c q e)))))
            (λ past. inl (ap (λ b. if b then slice_get vs (q - c) else None) e
            ∙ slice_get_past vs (q - c) past))
            (cases_lt (q - c) (length vs))

    swapped : has_given ≡ false → (q : ℕ) →
        option_or (value_by (gives c vs) q) (value_given old.values.items q)
        ≡ option_or (value_in h.entries q) (value_by (gives c vs) q)
    swapped none q = ⊎_elim
        (λ no. ap (λ o. option_or o (value_given old.values.items q)) no ∙ h.values q
        ∙ sym (ap (option_or (value_in h.entries q)) no ∙ or_none (value_in h.entries q)))
        (λ no. ap (option_or (value_by (gives c vs) q)) no ∙ or_none (value_by (gives c vs) q)
        ∙ sym (ap (λ o. option_or o (value_by (gives c vs) q)) (sym (h.values q) ∙ no)))
        (fresh_cell none q)

    pub HoldsStart-given : (new : Setup) → has_given ≡ false →
        ((name : Word) → array_of_name new.arrays name ≡ array_of_name old.arrays name) →
        is_filled new.values.items ≡ true →
        ((q : ℕ) → value_given new.values.items q
        ≡ option_or (value_by (gives c vs) q) (value_given old.values.items q)) →
        HoldsStart later cells (inits ++ w ∷ []) new
    HoldsStart-given new none same filled u = record {
      entries = h.entries ++ gives c vs ∷ [];
      said = SaysEntries-push later cells inits h.entries w (gives c vs) h.said said
          (taken-given ∙ none);
      arrays = λ name. same name ∙ h.arrays name
          ∙ sym (array_in-push h.entries (gives c vs) name ∙ or_none (array_in h.entries name));
      values = λ q. u q ∙ swapped none q ∙ sym (value_in-push h.entries (gives c vs) q);
      filled = filled ∙ sym (gives-push h.entries (gives c vs)
          ∙ or_right (list_any gives_values h.entries) true refl);
    }

  -- ---- an array, one line more

  module _ (name : Word) (array : Array) (said : entry_of later cells w ≡ Ok (names name array)) where
    -- whether a value stands before it, or its name is taken
    abbrev pub is_late : Bool
    is_late = is_filled old.values.items || is_some (array_of_name old.arrays name)

    taken-late : is_taken h.entries (names name array) ≡ is_late
    unfolding is_taken
    taken-late = λ i. (sym h.filled i || is_some (sym (h.arrays name) i))

    pub entry_fault-late :
        entry_fault later cells inits w ≡ (if is_late then Some BadHeader else None)
    entry_fault-late = entry_fault-ok later cells inits h.entries w (names name array) h.said said
        ∙ ap (λ b. if b then Some BadHeader else None) taken-late

    pub HoldsStart-named : (new : Setup) → is_filled old.values.items ≡ false →
        array_of_name old.arrays name ≡ None → new.values.items ≡ old.values.items →
        ((other : Word) → array_of_name new.arrays other
        ≡ (if bytes_eq name other then Some array else array_of_name old.arrays other)) →
        HoldsStart later cells (inits ++ w ∷ []) new
    HoldsStart-named new bare none same put = record {
      entries = h.entries ++ names name array ∷ [];
      said = SaysEntries-push later cells inits h.entries w (names name array) h.said said
          (taken-late ∙ ap₂ (λ a o. (a || is_some o)) bare none);
      arrays = λ other. put other ∙ ⊎_elim
          (λ yes.
          let is : name ≡ other = (bytes_eq-Decides name other).0 yes in
          let unnamed : array_in h.entries other ≡ None =
          ap (array_in h.entries) (sym is) ∙ sym (h.arrays name) ∙ none in
          ap (λ b. if b then Some array else array_of_name old.arrays other) yes
          ∙ sym (array_in-push h.entries (names name array) other
          ∙ ap₂ (λ o b. option_or o (if b then Some array else None)) unnamed yes))
          (λ no. ap (λ b. if b then Some array else array_of_name old.arrays other) no
          ∙ h.arrays other ∙ sym (array_in-push h.entries (names name array) other
          ∙ ap (λ b. option_or (array_in h.entries other) (if b then Some array else None)) no
          ∙ or_none (array_in h.entries other)))
          (cases_Bool (bytes_eq name other));
      values = λ q. ap (λ items. value_given items q) same ∙ h.values q
          ∙ sym (value_in-push h.entries (names name array) q ∙ or_none (value_in h.entries q));
      filled = ap is_filled same ∙ h.filled ∙ sym (gives-push h.entries (names name array)
          ∙ or_false (list_any gives_values h.entries));
    }
