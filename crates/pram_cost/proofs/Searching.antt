-- Access after access: what a search knows, by the processors whose accesses they are.
use Rattle.std.proofs.Common.{◌≡◌, ◌≢◌, ℕ, zero, suc, ◌+◌, ◌<◌, ◌≤◌, ◌⊎◌, List, length, get_or}
use Rattle.std.proofs.Common.{set}
use Rattle.std.proofs.Common.{map, Option, Some, None, MatchOption, refl, sym, ap, subst, ◌∙◌}
use Rattle.std.proofs.Common.{inl, inr, arith}
use Rattle.std.proofs.lemmas.Bool.{cases_eq, cases_lt}
use Rattle.std.proofs.lemmas.List.{get_or_default, get_or_past, get_or-map, length-map, map-set}
use Rattle.std.proofs.lemmas.Option.{some_pair_parts}
use Rattle.pram_job.specs.Job.{JobData}
use Rattle.pram_machine.specs.Machine.{State, counter}
use Rattle.pram_step.proofs.Passing.{skip_first, skip_next}
use Rattle.pram_cost.specs.declared.found.Access.{Access}
use Rattle.pram_cost.specs.declared.meeting.Meeting.{Meeting}
use Rattle.pram_cost.specs.declared.meeting.Sharing.{Sharing}
use Rattle.pram_cost.specs.Inner.Found.{access_at, AreAccesses}
use Rattle.pram_cost.specs.Inner.Seen.{GoesBefore, goer, HasLookedAt, HasSearched, MarkLeast}
use Rattle.pram_cost.specs.Meetings.{access_by, Differ, IsLeastOrNone}
use Rattle.pram_cost.proofs.Meets.{least_past, marked_past, least_of_none, marked_of_none}
use Rattle.pram_cost.proofs.Meets.{least_first_there, marked_first_there, marked_lost}
use Rattle.pram_cost.proofs.Meets.{least_alike, least_later, least_new}

-- a number is among the first n of a row, or is none of them
look_for : (row : ℕ → ℕ) (n i : ℕ) →
    ((k : ℕ) → k < n → row k ≢ i) ⊎ ((k : ℕ) × (k < n) × (row k ≡ i))
look_for row zero i = inl (λ k low. absurd (omega arith))
look_for row (suc n) i = elim (look_for row n i) [
  | inr there ↦ (let low = there.1 in inr (there.0, omega arith, there.2))
  | inl none ↦ elim (cases_eq (row n) i) [
    | inl same ↦ inr (n, omega arith, same)
    | inr apart ↦ inl (λ k low. elim (cases_lt k n) [
      | inl below ↦ none k below
      | inr last ↦
          let here : n ≡ k = omega arith in subst (λ m. row m ≢ i) here apart
    ])
  ]
]

-- ---- a list of accesses

module _ (cells procs : ℕ) (access : ℕ → Option (ℕ × ℕ)) (list : List Access)
    (are : AreAccesses cells access procs list) where
  pub goer_at : (k : ℕ) → k < length list → goer procs list k ≡ (access_at list k).processor
  goer_at k inside = ap (λ (one : Access). one.processor)
      (get_or_default list k (record { processor = procs; cell = 0; value = 0 })
      (record { processor = 0; cell = 0; value = 0 }) inside)

  pub goer_past : (k : ℕ) → length list ≤ k → goer procs list k ≡ procs
  goer_past k past = ap (λ (one : Access). one.processor)
      (get_or_past list k (record { processor = procs; cell = 0; value = 0 }) past)

  pub goer_below : (k : ℕ) → k < length list → (access_at list k).processor < procs
  goer_below k inside = (are.each k _ inside).within

  rises : (j k : ℕ) → j < k → k < length list →
      (access_at list j).processor < (access_at list k).processor
  rises j k low inside = are.rises j k _ low inside

  others : (i : ℕ) → i < procs →
      (access i ≡ None) ⊎ ((k : ℕ) × (k < length list) × ((access_at list k).processor ≡ i))
  others i low = by_access (access i) refl
    where
      by_access : (o : Option (ℕ × ℕ)) → access i ≡ o →
          (access i ≡ None) ⊎ ((k : ℕ) × (k < length list) × ((access_at list k).processor ≡ i))
      by_access None is = inl is
      by_access (Some (cell, value)) is =
          elim (look_for (λ k. (access_at list k).processor) (length list) i) [
            | inl none ↦ absurd (are.all i cell value low is none)
            | inr there ↦ inr there
          ]

  -- what is kept by processors that go to no cell, is kept up to the first access, and from one to
  -- the next
  module _ (P : ℕ → Type 0)
      (step : (i : ℕ) → i < procs → access i ≡ None → P i → P (i + 1)) where
    pub search_first : P 0 → P (goer procs list 0)
    search_first = skip_first procs (length list) (λ k. (access_at list k).processor)
        (goer procs list) (λ i. access i ≡ None) goer_at goer_past goer_below rises others P step

    pub search_next : (k : ℕ) → k < length list → P (goer procs list k + 1) →
        P (goer procs list (k + 1))
    search_next k inside here = skip_next procs (length list) (λ k. (access_at list k).processor)
        (goer procs list) (λ i. access i ≡ None) goer_at goer_past goer_below rises others P step k
        inside (subst (λ n. P (n + 1)) (goer_at k inside) here)

  pub goer_goes : (k : ℕ) → k < length list →
      access (goer procs list k) ≡ Some ((access_at list k).cell, (access_at list k).value)
  goer_goes k inside = subst (λ i. access i
      ≡ Some ((access_at list k).cell, (access_at list k).value)) (sym (goer_at k inside))
      (are.each k _ inside).goes

  pub goes_inside : (k : ℕ) → k < length list → (access_at list k).cell < cells
  goes_inside k inside = (are.each k _ inside).is_cell

  -- which goer comes before which
  goer_rises : (j k : ℕ) → j < k → k < length list → goer procs list j < goer procs list k
  goer_rises j k low inside =
      let less = rises j k low inside in
      let first = goer_at j (omega arith) in
      let second = goer_at k inside in omega arith

  goer_late : (j k : ℕ) → j ≤ k → j < length list → goer procs list j ≤ goer procs list k
  goer_late j k low inside = elim (cases_lt k (length list)) [
    | inl within ↦ elim (cases_eq j k) [
      | inl same ↦ subst (λ n. goer procs list j ≤ goer procs list n) same (omega arith)
      | inr apart ↦ (let less = goer_rises j k (omega arith) within in omega arith)
    ]
    | inr past ↦
        let low = goer_below j inside in
        let here = goer_at j inside in
        let end = goer_past k past in omega arith
  ]

  -- the mark names none that goes to the cell of access k before it
  pub none_goes_before : (mark k : ℕ) → k < length list →
      (mark < k → (access_at list mark).cell ≢ (access_at list k).cell) → (v : ℕ) →
      GoesBefore access (goer procs list mark) (goer procs list k) (access_at list k).cell v → ⊥
  none_goes_before mark k inside apart v before = elim (cases_lt mark k) [
    | inl low ↦ apart low (some_pair_parts (access_at list mark).cell (access_at list k).cell
        (access_at list mark).value v
        (sym (goer_goes mark (omega arith)) ∙ before.1)).0
    | inr late ↦
        let least = goer_late k mark late inside in
        let early = before.0 in absurd (omega arith)
  ]

  -- or it names one
  pub goes_before : (mark k : ℕ) → k < length list → mark < k →
      (access_at list mark).cell ≡ (access_at list k).cell →
      GoesBefore access (goer procs list mark) (goer procs list k) (access_at list k).cell
      (access_at list mark).value
  goes_before mark k inside low same = (
    goer_rises mark k low inside,
    subst (λ c. access (goer procs list mark) ≡ Some (c, (access_at list mark).value)) same
        (goer_goes mark (omega arith)),
  )

-- ---- a search

module _ (sharing : Sharing) (job : JobData) (s : State) (step : ℕ) (list : List Access)
    (are : AreAccesses job.cells (access_by sharing job s) job.procs list) where
  -- one more processor goes to no cell
  looked_idle : (marks : List ℕ) (found : Option Meeting) (i : ℕ) → i < job.procs →
      access_by sharing job s i ≡ None → HasLookedAt sharing job s step i marks found →
      HasLookedAt sharing job s step (i + 1) marks found
  looked_idle marks found i low none looked =
      let access = access_by sharing job s in
      let idle : (j : ℕ) → i ≤ j → j < i + 1 → access j ≡ None = λ j from below.
      let e : i ≡ j = omega arith in subst (λ k. access k ≡ None) e none in
      record {
        marked = marked_past sharing access i (i + 1) marks idle looked.marked;
        least = least_past sharing access i (i + 1) (omega arith) idle found looked.least;
        of_step = looked.of_step;
      }

  pub searched_none : (marks : List ℕ) → HasSearched sharing job s step list 0 marks None
  searched_none marks =
      let access = access_by sharing job s in
      let marks' = map (goer job.procs list) marks in
      let none : (i : ℕ) → 0 ≤ i → i < 0 → access i ≡ None = λ i from below. absurd (omega arith) in
      search_first job.cells job.procs access list are
      (λ n. HasLookedAt sharing job s step n marks' None) (looked_idle marks' None)
      (record {
        marked = marked_of_none sharing access 0 marks' none;
        least = least_of_none sharing access 0 none;
        of_step = tt;
      })

  pub searched_all : (k : ℕ) (marks : List ℕ) (found : Option Meeting) → length list ≤ k →
      HasSearched sharing job s step list k marks found →
      IsLeastOrNone sharing (access_by sharing job s) job.procs found
  searched_all k marks found past looked =
      subst (λ n. IsLeastOrNone sharing (access_by sharing job s) n found)
      (goer_past job.cells job.procs (access_by sharing job s) list are k past) looked.least

  module _ (k : ℕ) (marks : List ℕ) (found : Option Meeting)
      (inside : k < length list) (len : length marks ≡ job.cells)
      (looked : HasSearched sharing job s step list k marks found) where
    abbrev here : Access
    here = access_at list k

    abbrev goers : ℕ → ℕ
    goers = goer job.procs list

    abbrev mark : ℕ
    mark = get_or marks here.cell 0

    searched_next : (marks' : List ℕ) (found' : Option Meeting) →
        HasLookedAt sharing job s step (goers k + 1) (map goers marks') found' →
        HasSearched sharing job s step list (k + 1) marks' found'
    searched_next marks' found' after =
        search_next job.cells job.procs (access_by sharing job s) list are
        (λ n. HasLookedAt sharing job s step n (map goers marks') found')
        (looked_idle (map goers marks') found') k inside after

    goes_here : access_by sharing job s (goers k) ≡ Some (here.cell, here.value)
    goes_here = goer_goes job.cells job.procs (access_by sharing job s) list are k inside

    low : here.cell < length marks
    low = let is = goes_inside job.cells job.procs (access_by sharing job s) list are k inside in
        omega arith

    -- the mark, as a processor
    marked_by : get_or (map goers marks) here.cell 0 ≡ goers mark
    marked_by = get_or-map goers marks here.cell 0 0 low

    -- it is the first that goes there
    pub searched_first : (mark < k → (access_at list mark).cell ≢ here.cell) →
        HasSearched sharing job s step list (k + 1) (set marks here.cell k) found
    searched_first apart =
        let access = access_by sharing job s in
        let first = subst (λ i. (v : ℕ) → GoesBefore access i (goers k) here.cell v → ⊥)
        (sym marked_by)
        (none_goes_before job.cells job.procs access list are mark k inside apart) in
        let fits : here.cell < length (map goers marks) =
        (let is = low in omega (arith, length-map marks goers)) in
        searched_next (set marks here.cell k) found (record {
          marked = subst (MarkLeast access (goers k + 1)) (sym (map-set goers marks here.cell k))
              (marked_first_there sharing access (goers k) here.cell here.value goes_here
              (map goers marks) looked.marked first fits);
          least = least_first_there sharing access (goers k) here.cell here.value goes_here
              (map goers marks) looked.marked first found looked.least;
          of_step = looked.of_step;
        })

    -- the mark names one that goes there before it
    module _ (first : Access) (tells : (mark < k) × ((access_at list mark).cell ≡ here.cell)
        × (first ≡ access_at list mark)) where
      before : GoesBefore (access_by sharing job s) (get_or (map goers marks) here.cell 0)
          (goers k) here.cell first.value
      before = subst (λ i. GoesBefore (access_by sharing job s) i (goers k) here.cell first.value)
          (sym marked_by)
          (subst (λ (one : Access). GoesBefore (access_by sharing job s) (goers mark) (goers k)
          here.cell one.value) (sym tells.2)
          (goes_before job.cells job.procs (access_by sharing job s) list are mark k inside tells.0
          tells.1))

      marked_still : MarkLeast (access_by sharing job s) (goers k + 1) (map goers marks)
      marked_still = marked_lost sharing (access_by sharing job s) (goers k) here.cell here.value
          goes_here (map goers marks) looked.marked first.value before

      -- the two do not meet
      pub searched_alike :
          ((i j : ℕ) → i ≢ j → Differ sharing i first.value j here.value → ⊥) →
          HasSearched sharing job s step list (k + 1) marks found
      searched_alike alike = searched_next marks found (record {
        marked = marked_still;
        least = least_alike sharing (access_by sharing job s) (goers k) here.cell here.value
            goes_here (map goers marks) looked.marked first.value before alike found looked.least;
        of_step = looked.of_step;
      })

      -- they do, and two were found to meet at this cell or a lesser one
      pub searched_later : (meeting : Meeting) → found ≡ Some meeting → meeting.cell ≤ here.cell →
          HasSearched sharing job s step list (k + 1) marks found
      searched_later meeting is lesser = searched_next marks found (record {
        marked = marked_still;
        least = subst (IsLeastOrNone sharing (access_by sharing job s) (goers k + 1)) (sym is)
            (least_later sharing (access_by sharing job s) (goers k) here.cell here.value
            goes_here (map goers marks) looked.marked first.value before meeting lesser
            (subst (IsLeastOrNone sharing (access_by sharing job s) (goers k)) is looked.least));
        of_step = looked.of_step;
      })

      -- none was found there, or at a lesser cell
      pub searched_new : (stands : ℕ) →
          ((i j : ℕ) → i ≢ j → Differ sharing i first.value j here.value) →
          MatchOption found (Unit {0}) (λ d. here.cell < d.cell) →
          stands ≡ counter job s first.processor →
          HasSearched sharing job s step list (k + 1) marks (Some (record {
            step = step;
            cell = here.cell;
            first = first.processor;
            second = here.processor;
            counter = stands;
          }))
      searched_new stands differ lesser is =
          let access = access_by sharing job s in
          let below = tells.0 in
          let new = least_new sharing access (goers k) here.cell here.value goes_here
          (map goers marks) looked.marked first.value before step stands differ found lesser
          looked.least in
          let one = marked_by
          ∙ goer_at job.cells job.procs access list are mark (omega arith)
          ∙ ap (λ (one : Access). one.processor) (sym tells.2) in
          let other = goer_at job.cells job.procs access list are k inside in
          searched_next marks _ (record {
            marked = marked_still;
            least = subst (λ j. IsLeastOrNone sharing access (goers k + 1) (Some (record {
              step = step;
              cell = here.cell;
              first = first.processor;
              second = j;
              counter = stands;
            }))) other
                (subst (λ i. IsLeastOrNone sharing access (goers k + 1) (Some (record {
                  step = step;
                  cell = here.cell;
                  first = i;
                  second = goers k;
                  counter = stands;
                }))) one new);
            of_step = (refl, is);
          })
