-- One processor more: what stays of the marks and of the least meeting, and what is new.
use Rattle.std.proofs.Common.{◌≡◌, ◌≢◌, ℕ, ◌+◌, ◌<◌, ◌≤◌, ◌⊎◌, List, length, get_or, set}
use Rattle.std.proofs.Common.{Option, Some, None, MatchOption, refl, sym, ◌∙◌, inl, inr, subst}
use Rattle.std.proofs.Common.{arith, get_or-set_same, get_or-set_other}
use Rattle.std.proofs.lemmas.Bool.{cases_lt}
use Rattle.std.proofs.lemmas.Option.{none-some, some_pair_parts}
use Rattle.pram_cost.specs.declared.meeting.Meeting.{Meeting}
use Rattle.pram_cost.specs.declared.meeting.Sharing.{Sharing}
use Rattle.pram_cost.specs.declared.meeting.Sharing.TheVariants.{SameRead, SameWrite, OtherValue}
use Rattle.pram_cost.specs.Inner.Seen.{MarkLeast, GoesBefore}
use Rattle.pram_cost.specs.Meetings.{Differ, Meet, IsLeastMeeting, IsLeastOrNone}

-- ---- what a meeting is

Differ_both_ways : (sharing : Sharing) (i v j w : ℕ) → Differ sharing i v j w →
    Differ sharing j w i v
Differ_both_ways SameRead i v j w differ = λ e. differ (sym e)
Differ_both_ways SameWrite i v j w differ = λ e. differ (sym e)
Differ_both_ways OtherValue i v j w differ = λ e. differ (sym e)

Differ_self : (sharing : Sharing) (i v w : ℕ) → v ≡ w → Differ sharing i v i w → ⊥
Differ_self SameRead i v w e differ = differ refl
Differ_self SameWrite i v w e differ = differ refl
Differ_self OtherValue i v w e differ = differ e

-- where m does not meet k, whoever meets m meets k
Differ_through : (sharing : Sharing) (k u m v j w : ℕ) → k ≢ m → (Differ sharing k u m v → ⊥) →
    Differ sharing m v j w → Differ sharing k u j w
Differ_through SameRead k u m v j w apart alike differ = absurd (alike apart)
Differ_through SameWrite k u m v j w apart alike differ = absurd (alike apart)
Differ_through OtherValue k u m v j w apart alike differ =
    λ e. alike (λ same. differ (sym same ∙ e))

module _ (sharing : Sharing) (access : ℕ → Option (ℕ × ℕ)) where
  one_cell : (i cell cell' v w : ℕ) → access i ≡ Some (cell, v) → access i ≡ Some (cell', w) →
      (cell ≡ cell') × (v ≡ w)
  one_cell i cell cell' v w a b = some_pair_parts cell cell' v w (sym a ∙ b)

  Meet_back : (n cell i j : ℕ) → Meet sharing access n cell i j → Meet sharing access n cell j i
  Meet_back n cell i j m = record {
    value = m.other;
    other = m.value;
    within = m.within_too;
    within_too = m.within;
    goes = m.goes_too;
    goes_too = m.goes;
    differ = Differ_both_ways sharing i m.value j m.other m.differ;
  }

  -- with other numbers of processors
  Meet_of : (n n' cell i j : ℕ) → Meet sharing access n cell i j → i < n' → j < n' →
      Meet sharing access n' cell i j
  Meet_of n n' cell i j m low low' = record {
    value = m.value;
    other = m.other;
    within = low;
    within_too = low';
    goes = m.goes;
    goes_too = m.goes_too;
    differ = m.differ;
  }

  -- ---- more processors

  -- the least meeting found is at this cell or a lesser one
  abbrev IsBefore : Option Meeting → ℕ → Type 0
  IsBefore None cell = ⊥
  IsBefore (Some meeting) cell = meeting.cell ≤ cell

  -- the least meeting stands if each is an old one, or at no lesser cell
  least_stays : (n n' : ℕ) → n ≤ n' → (found : Option Meeting) →
      IsLeastOrNone sharing access n found →
      ((cell i j : ℕ) → Meet sharing access n' cell i j →
      Meet sharing access n cell i j ⊎ IsBefore found cell) → IsLeastOrNone sharing access n' found
  least_stays n n' more None none later = λ cell i j m. elim (later cell i j m) [
    | inl old ↦ none cell i j old
    | inr never ↦ never
  ]
  least_stays n n' more (Some d) least later =
      let first = least.meet.within in
      let second = least.meet.within_too in
      record {
        meet = Meet_of n n' d.cell d.first d.second least.meet (omega arith) (omega arith);
        least_cell = λ cell i j m. elim (later cell i j m) [
          | inl old ↦ least.least_cell cell i j old
          | inr at ↦ at
        ];
        least_first = λ i v low goes. elim (cases_lt i n) [
          | inl old ↦ least.least_first i v old goes
          | inr new ↦ omega arith
        ];
        least_second = λ j m. elim (cases_lt j n) [
          | inl old ↦ least.least_second j (Meet_of n' n d.cell d.first j m first old)
          | inr new ↦ omega arith
        ];
      }

  -- these go to no cell
  abbrev NoneGoes : ℕ → ℕ → Type 0
  NoneGoes n n' = (i : ℕ) → n ≤ i → i < n' → access i ≡ None

  goes_below : (n n' i cell v : ℕ) → NoneGoes n n' → i < n' → access i ≡ Some (cell, v) → i < n
  goes_below n n' i cell v none low goes = elim (cases_lt i n) [
    | inl old ↦ old
    | inr new ↦ absurd (none-some (cell, v) (sym (none i new low) ∙ goes))
  ]

  pub least_past : (n n' : ℕ) → n ≤ n' → NoneGoes n n' → (found : Option Meeting) →
      IsLeastOrNone sharing access n found → IsLeastOrNone sharing access n' found
  least_past n n' more none found least = least_stays n n' more found least (λ cell i j m.
      inl (Meet_of n' n cell i j m (goes_below n n' i cell m.value none m.within m.goes)
      (goes_below n n' j cell m.other none m.within_too m.goes_too)))

  pub marked_past : (n n' : ℕ) (marks : List ℕ) → NoneGoes n n' → MarkLeast access n marks →
      MarkLeast access n' marks
  marked_past n n' marks none marked i cell v low goes =
      marked i cell v (goes_below n n' i cell v none low goes) goes

  pub least_of_none : (n : ℕ) → NoneGoes 0 n → IsLeastOrNone sharing access n None
  least_of_none n none cell i j m =
      let never = goes_below 0 n i cell m.value none m.within m.goes in omega arith

  pub marked_of_none : (n : ℕ) (marks : List ℕ) → NoneGoes 0 n → MarkLeast access n marks
  marked_of_none n marks none i cell v low goes =
      let never = goes_below 0 n i cell v none low goes in absurd (omega arith)

  -- ---- processor m goes to a cell

  module _ (m cell value : ℕ) (goes : access m ≡ Some (cell, value)) where
    -- a meeting is an old one, or one of processor m with one before it
    split : (cell' i j : ℕ) → Meet sharing access (m + 1) cell' i j →
        Meet sharing access m cell' i j
        ⊎ ((k w : ℕ) × (k < m) × (access k ≡ Some (cell, w)) × (cell ≡ cell')
        × Differ sharing m value k w)
    split cell' i j met = elim (cases_lt i m) [
      | inl low ↦ elim (cases_lt j m) [
        | inl low' ↦ inl (Meet_of (m + 1) m cell' i j met low low')
        | inr high ↦ inr (at_last i j met low (let lt = met.within_too in omega arith))
      ]
      | inr high ↦
          let here : i ≡ m = (let lt = met.within in omega arith) in
          elim (cases_lt j m) [
            | inl low' ↦ inr (at_last j i (Meet_back (m + 1) cell' i j met) low' here)
            | inr high' ↦
                let there : j ≡ m = (let lt = met.within_too in omega arith) in
                let same : j ≡ i = there ∙ sym here in
                let goes_too = subst (λ k. access k ≡ Some (cell', met.other)) same met.goes_too in
                let alike = (one_cell i cell' cell' met.value met.other met.goes goes_too).1 in
                absurd (Differ_self sharing i met.value met.other alike
                (subst (λ k. Differ sharing i met.value k met.other) same met.differ))
          ]
    ]
      where
        at_last : (i j : ℕ) → Meet sharing access (m + 1) cell' i j → i < m → j ≡ m →
            (k w : ℕ) × (k < m) × (access k ≡ Some (cell, w)) × (cell ≡ cell')
            × Differ sharing m value k w
        at_last i j met low is =
            let goes_too = subst (λ k. access k ≡ Some (cell', met.other)) is met.goes_too in
            let same = one_cell m cell cell' value met.other goes goes_too in
            let differ = Differ_both_ways sharing i met.value j met.other met.differ in
            let at_m = subst (λ k. Differ sharing k met.other i met.value) is differ in (
              i,
              met.value,
              low,
              subst (λ c. access i ≡ Some (c, met.value)) (sym same.0) met.goes,
              same.0,
              subst (λ u. Differ sharing m u i met.value) (sym same.1) at_m,
            )

    -- none before it goes there
    abbrev IsFirst : List ℕ → Type 0
    IsFirst marks = (w : ℕ) → GoesBefore access (get_or marks cell 0) m cell w → ⊥

    first_there : (marks : List ℕ) → MarkLeast access m marks → IsFirst marks → (k w : ℕ) →
        k < m → access k ≡ Some (cell, w) → ⊥
    first_there marks marked first k w low there =
        let by = marked k cell w low there in
        first by.1.0 (omega (arith, by.0), by.1.1)

    pub least_first_there : (marks : List ℕ) → MarkLeast access m marks → IsFirst marks →
        (found : Option Meeting) → IsLeastOrNone sharing access m found →
        IsLeastOrNone sharing access (m + 1) found
    least_first_there marks marked first found least =
        least_stays m (m + 1) (omega arith) found least (λ cell' i j met.
        elim (split cell' i j met) [
          | inl old ↦ inl old
          | inr new ↦ absurd (first_there marks marked first new.0 new.1 new.2 new.3)
        ])

    pub marked_first_there : (marks : List ℕ) → MarkLeast access m marks → IsFirst marks →
        cell < length marks → MarkLeast access (m + 1) (set marks cell m)
    marked_first_there marks marked first fits i cell' v low at = elim (cases_lt i m) [
      | inl old ↦
          let apart : cell' ≢ cell = λ e.
          first_there marks marked first i v old (subst (λ c. access i ≡ Some (c, v)) e at) in
          let same : get_or (set marks cell m) cell' 0 ≡ get_or marks cell' 0 =
          get_or-set_other marks cell cell' m 0 apart in
          rw same (marked i cell' v old at)
      | inr new ↦
          let here : i ≡ m = omega arith in
          let at_m = subst (λ k. access k ≡ Some (cell', v)) here at in
          let is = (one_cell m cell cell' value v goes at_m).0 in
          let mark : get_or (set marks cell m) cell' 0 ≡ m =
          subst (λ c. get_or (set marks cell m) c 0 ≡ m) is (get_or-set_same marks cell m 0 fits) in
          rw mark (omega arith, (v, at_m))
    ]

    -- the mark names one that goes there before it
    module _ (marks : List ℕ) (marked : MarkLeast access m marks) (other : ℕ)
        (before : GoesBefore access (get_or marks cell 0) m cell other) where
      pub marked_lost : MarkLeast access (m + 1) marks
      marked_lost i cell' v low at = elim (cases_lt i m) [
        | inl old ↦ marked i cell' v old at
        | inr new ↦
            let here : i ≡ m = omega arith in
            let at_m = subst (λ k. access k ≡ Some (cell', v)) here at in
            let is = (one_cell m cell cell' value v goes at_m).0 in
            let early = before.0 in
            subst (λ c. (get_or marks c 0 ≤ i)
            × ((w : ℕ) × (access (get_or marks c 0) ≡ Some (c, w)))) is
            (omega arith, (other, before.1))
      ]

      -- it is the least one there
      marked_least : (i v : ℕ) → i < m → access i ≡ Some (cell, v) → get_or marks cell 0 ≤ i
      marked_least i v low at = (marked i cell v low at).0

      -- the two do not meet
      pub least_alike :
          ((i j : ℕ) → i ≢ j → Differ sharing i other j value → ⊥) → (found : Option Meeting) →
          IsLeastOrNone sharing access m found → IsLeastOrNone sharing access (m + 1) found
      least_alike alike found least =
          least_stays m (m + 1) (omega arith) found least (λ cell' i j met.
          elim (split cell' i j met) [
            | inl old ↦ inl old
            | inr new ↦
                let early = before.0 in
                let apart : get_or marks cell 0 ≢ m = λ e. omega (arith, e, early) in
                let through = Differ_through sharing (get_or marks cell 0) other m value new.0 new.1
                apart (alike (get_or marks cell 0) m apart) new.5 in
                let old : Meet sharing access m cell (get_or marks cell 0) new.0 = record {
                  value = other;
                  other = new.1;
                  within = early;
                  within_too = new.2;
                  goes = before.1;
                  goes_too = new.3;
                  differ = through;
                } in
                inr (subst (IsBefore found) new.4 (old_before found least cell _ _ old))
          ])
        where
          old_before : (found : Option Meeting) → IsLeastOrNone sharing access m found →
              (cell i j : ℕ) → Meet sharing access m cell i j → IsBefore found cell
          old_before None none cell i j met = none cell i j met
          old_before (Some d) least cell i j met = least.least_cell cell i j met

      -- they meet, and one was found at this cell or a lesser one
      pub least_later : (d : Meeting) → d.cell ≤ cell → IsLeastOrNone sharing access m (Some d) →
          IsLeastOrNone sharing access (m + 1) (Some d)
      least_later d lesser least =
          least_stays m (m + 1) (omega arith) (Some d) least (λ cell' i j met.
          elim (split cell' i j met) [
            | inl old ↦ inl old
            | inr new ↦ inr (omega (arith, new.4))
          ])

      -- they meet, and none was found at this cell or a lesser one
      new_least : (step counter : ℕ) → ((i j : ℕ) → i ≢ j → Differ sharing i other j value) →
          ((cell' i j : ℕ) → Meet sharing access m cell' i j → cell < cell') →
          IsLeastMeeting sharing access (m + 1)
          (record {
            step = step;
            cell = cell;
            first = get_or marks cell 0;
            second = m;
            counter = counter;
          })
      new_least step counter differ above =
          let early = before.0 in
          let apart : get_or marks cell 0 ≢ m = λ e. omega (arith, e, early) in
          record {
            meet = record {
              value = other;
              other = value;
              within = omega arith;
              within_too = omega arith;
              goes = before.1;
              goes_too = goes;
              differ = differ (get_or marks cell 0) m apart;
            };
            least_cell = λ cell' i j met. elim (split cell' i j met) [
              | inl old ↦ let far = above cell' i j old in omega arith
              | inr new ↦ omega (arith, new.4)
            ];
            least_first = λ i v low at. elim (cases_lt i m) [
              | inl old ↦ marked_least i v old at
              | inr late ↦ omega arith
            ];
            least_second = λ j met. elim (cases_lt j m) [
              | inl old ↦
                  let far = above cell (get_or marks cell 0) j
                  (Meet_of (m + 1) m cell (get_or marks cell 0) j met early old) in
                  absurd (omega arith)
              | inr late ↦ late
            ];
          }

      pub least_new : (step counter : ℕ) → ((i j : ℕ) → i ≢ j → Differ sharing i other j value) →
          (found : Option Meeting) → MatchOption found (Unit {0}) (λ d. cell < d.cell) →
          IsLeastOrNone sharing access m found → IsLeastOrNone sharing access (m + 1)
          (Some (record {
            step = step;
            cell = cell;
            first = get_or marks cell 0;
            second = m;
            counter = counter;
          }))
      least_new step counter differ None lesser none =
          new_least step counter differ (λ cell' i j met. absurd (none cell' i j met))
      least_new step counter differ (Some d) lesser least = new_least step counter differ (λ cell' i j met.
          let least_of_all = least.least_cell cell' i j met in omega arith)
