-- Cells of rows and of arrays, and what stores to them leave.
use Rattle.std.proofs.Common.{◌≡◌, ◌≢◌, ℕ, zero, suc, ◌+◌, ◌*◌, ◌<◌, ◌≤◌, nat_lt, Bool, true, false}
use Rattle.std.proofs.Common.{List, [], ◌∷◌, Option, Some, None}
use Rattle.std.proofs.Common.{refl, sym, ap, ◌∙◌, subst, inl, inr, ⊎_elim, arith, if◌then◌else◌}
use Rattle.std.proofs.Common.{length}
use Rattle.std.specs.Prelude.{slice_get, unwrap_or}
use Rattle.std.specs.Option.{option_map}
use Rattle.std.proofs.Math.Nat.{mul-le-mul_left}
use Rattle.std.proofs.lemmas.Bool.{cases_order, cases_lt, lt-ltb, le-ltb}
use Rattle.std.proofs.lemmas.Option.{none-some, same_Some, some_pair_parts, slice_get-map}
use Rattle.pram_job.specs.declared.instr.Array.{Array}
use Rattle.pram_job.specs.declared.instr.Rule.{Rule}
use Rattle.pram_job.specs.declared.instr.Rule.TheVariants.{Common, Priority, Crew}
use Rattle.pram_job.specs.Job.{JobData}
use Rattle.pram_step.specs.Disputes.{Forbids}
use Rattle.pardo_program.specs.Lawful.{AreArrays}
use Rattle.pardo_program.specs.Program.{ProgramData, ArrayData, shared_cells}
use Rattle.pardo_flat.specs.Layouts.{ProgramLayoutData, row, cells_of_array, program_layout}
use Rattle.pardo_flat.specs.Layouts.{array_cells}
use Rattle.pardo_flat.proofs.Sharing.{shared_more}
use Rattle.pardo_job.specs.Meaning.{array_cell, first_below, given_to}
use Rattle.pardo_law.specs.Locals.{StoresAgree, after_stores}
use Rattle.pardo_law.proofs.Running.{first_none, first_some, given_of, given_none}

-- ---- rows

abbrev pub own_of : ProgramLayoutData → ℕ → ℕ → ℕ
own_of layout which i = (row layout which).base + i

pub rows_apart : (layout : ProgramLayoutData) (w v i j : ℕ) → i < layout.procs → j < layout.procs →
    own_of layout w i ≡ own_of layout v j → (w ≡ v) × (i ≡ j)
rows_apart layout w v i j lt less same = elim (cases_order w v) [
  | inl is ↦ (
    is,
    let e : w * layout.procs ≡ v * layout.procs = ap (λ n. n * layout.procs) is in
        omega arith,
  )
  | inr apart ↦ elim apart [
    | inl low ↦
        let below : suc w ≤ v = omega arith in
        absurd (omega (arith, mul-le-mul_left layout.procs below))
    | inr high ↦
        let below : suc v ≤ w = omega arith in
        absurd (omega (arith, mul-le-mul_left layout.procs below))
  ]
]

pub row_within : (layout : ProgramLayoutData) (w n i : ℕ) → w < n → i < layout.procs →
    own_of layout w i < layout.shared + n * layout.procs
row_within layout w n i lt less =
    let below : suc w ≤ n = omega arith in omega (arith, mul-le-mul_left layout.procs below)

-- ---- each stores to its own cell

abbrev pub own_stores : ProgramLayoutData → ℕ → (ℕ → Option ℕ) → ℕ → Option (ℕ × ℕ)
own_stores layout which values i = option_map (λ v. (own_of layout which i, v)) (values i)

own_parts : (cell c w : ℕ) (o : Option ℕ) → option_map {U = ℕ × ℕ} (λ v. (cell, v)) o ≡
    Some (c, w) →
    (cell ≡ c) × (o ≡ Some w)
own_parts cell c w None e = absurd (none-some (c, w) e)
own_parts cell c w (Some v) e =
    let parts = some_pair_parts cell c v w e in (parts.0, ap Some parts.1)

own_given : (layout : ProgramLayoutData) (which j : ℕ) (values : ℕ → Option ℕ) → j < layout.procs →
    first_below layout.procs (λ i. given_to (own_of layout which j)
    (own_stores layout which values i)) ≡ values j
own_given layout which j values lt = by_value (values j) refl
  where
    by_value : (o : Option ℕ) → values j ≡ o →
        first_below layout.procs (λ i. given_to (own_of layout which j)
        (own_stores layout which values i)) ≡ o
    by_value (Some v) e = first_some layout.procs j v
        (λ i. given_to (own_of layout which j) (own_stores layout which values i)) lt
        (given_of (own_of layout which j) v (own_stores layout which values j)
        (ap (option_map {U = ℕ × ℕ} (λ x. (own_of layout which j, x))) e))
        (λ i before. given_none (own_of layout which j) (own_stores layout which values i) (λ w is.
        let parts = own_parts (own_of layout which i) (own_of layout which j) w (values i) is in
        let same = rows_apart layout which which i j (omega arith) lt parts.0 in
        let e2 : i ≡ j = same.1 in omega arith))
    by_value None e = first_none layout.procs
        (λ i. given_to (own_of layout which j) (own_stores layout which values i))
        (λ i less. given_none (own_of layout which j) (own_stores layout which values i) (λ w is.
        let parts = own_parts (own_of layout which i) (own_of layout which j) w (values i) is in
        let same = rows_apart layout which which i j less lt parts.0 in
        none-some w (sym e ∙ ap values (sym same.1) ∙ parts.1)))

-- what it has stored there is
pub after_own : (layout : ProgramLayoutData) (which j : ℕ) (values : ℕ → Option ℕ)
    (memory : ℕ → ℕ) →
    j < layout.procs →
    after_stores layout.procs (own_stores layout which values) memory (own_of layout which j)
    ≡ unwrap_or (values j) (memory (own_of layout which j))
after_own layout which j values memory lt =
    ap (λ o. unwrap_or o (memory (own_of layout which j))) (own_given layout which j values lt)

pub after_apart : (procs cell : ℕ) (stores : ℕ → Option (ℕ × ℕ)) (memory : ℕ → ℕ) →
    ((i v : ℕ) → i < procs → stores i ≡ Some (cell, v) → ⊥) →
    after_stores procs stores memory cell ≡ memory cell
after_apart procs cell stores memory none =
    ap (λ o. unwrap_or o (memory cell)) (first_none procs (λ i. given_to cell (stores i))
    (λ i lt. given_none cell (stores i) (λ v is. none i v lt is)))

-- a cell of another row is what it was
pub after_other : (layout : ProgramLayoutData) (which v j : ℕ) (values : ℕ → Option ℕ)
    (memory : ℕ → ℕ) →
    j < layout.procs → which ≢ v →
    after_stores layout.procs (own_stores layout which values) memory (own_of layout v j)
    ≡ memory (own_of layout v j)
after_other layout which v j values memory lt ne =
    after_apart layout.procs (own_of layout v j) (own_stores layout which values) memory
    (λ i w less is. let parts = own_parts (own_of layout which i) (own_of layout v j) w (values i)
    is in
    ne (rows_apart layout which v i j less lt parts.0).0)

-- so is a shared one
pub after_shared : (layout : ProgramLayoutData) (which cell : ℕ) (values : ℕ → Option ℕ)
    (memory : ℕ → ℕ) →
    cell < layout.shared →
    after_stores layout.procs (own_stores layout which values) memory cell ≡ memory cell
after_shared layout which cell values memory low =
    after_apart layout.procs cell (own_stores layout which values) memory
    (λ i w less is.
    let e : own_of layout which i ≡ cell =
    (own_parts (own_of layout which i) cell w (values i) is).0 in omega arith)

-- no shared cell is of a row
pub own_high : (layout : ProgramLayoutData) (which i cell v : ℕ) (values : ℕ → Option ℕ) →
    cell < layout.shared → own_stores layout which values i ≡ Some (cell, v) → ⊥
own_high layout which i cell v values low is =
    let e : own_of layout which i ≡ cell =
    (own_parts (own_of layout which i) cell v (values i) is).0 in omega arith

-- the cells of arrays and of private variables are those below
abbrev pub held_below : ProgramLayoutData → ℕ
held_below layout = layout.shared + layout.privates * layout.procs

-- and each cell before the row
pub after_before : (layout : ProgramLayoutData) (procs which cell : ℕ) (values : ℕ → Option ℕ)
    (memory : ℕ → ℕ) → cell < own_of layout which 0 →
    after_stores procs (own_stores layout which values) memory cell ≡ memory cell
after_before layout procs which cell values memory low =
    after_apart procs cell (own_stores layout which values) memory
    (λ i w less is.
    let e : own_of layout which i ≡ cell =
    (own_parts (own_of layout which i) cell w (values i) is).0 in omega arith)

-- as those of arrays and of private variables are before the other rows
pub held_before : (layout : ProgramLayoutData) (which cell : ℕ) → layout.privates ≤ which →
    cell < held_below layout → cell < own_of layout which 0
held_before layout which cell high low = omega (arith, mul-le-mul_left layout.procs high)

not_forbidden : (rule : Rule) (i v j w : ℕ) → i ≡ j → v ≡ w → Forbids rule i v j w → ⊥
not_forbidden Common i v j w same equal forbidden = forbidden equal
not_forbidden Priority i v j w same equal forbidden = forbidden
not_forbidden Crew i v j w same equal forbidden = forbidden same

-- and no rule forbids it
pub own_agree : (job : JobData) (layout : ProgramLayoutData) (which : ℕ) (values : ℕ → Option ℕ) →
    job.procs ≡ layout.procs → StoresAgree job (own_stores layout which values)
own_agree job layout which values e cell i j v w lt less is too =
    let p = own_parts (own_of layout which i) cell v (values i) is in
    let q = own_parts (own_of layout which j) cell w (values j) too in
    let low : i < layout.procs = omega arith in
    let low_too : j < layout.procs = omega arith in
    let same : i ≡ j = (rows_apart layout which which i j low low_too (p.0 ∙ sym q.0)).1 in
    not_forbidden job.rule i v j w same
    (same_Some v w (sym p.1 ∙ ap values same ∙ q.1))

-- ---- arrays

-- an array is within the cells of all
array_within : (arrays : List ArrayData) (base k : ℕ) (held : ArrayData) → AreArrays arrays base →
    slice_get arrays k ≡ Some held →
    (held.base + length held.start ≤ base + shared_cells arrays) × (0 < length held.start)
array_within [] base k held are is = absurd (none-some held is)
array_within (array ∷ arrays) base zero held are is =
    let same : array ≡ held = same_Some array held is in
    let begins : held.base ≡ base = ap (λ (a : ArrayData). a.base) (sym same) ∙ are.0 in
    let long : length array.start ≡ length held.start =
    ap (λ (a : ArrayData). length a.start) same in (
      omega (arith, shared_more array arrays),
      omega (arith, are.1),
    )
array_within (array ∷ arrays) base (suc k) held are is =
    let rest = array_within arrays (base + length array.start) k held are.3 is in
    (omega (arith, rest.0, shared_more array arrays), rest.1)

module _ (program : ProgramData) (arrays_are : AreArrays program.arrays 0) where
  cells_found : (array : ℕ) (o : Option ArrayData) → slice_get program.arrays array ≡ o →
      array_cells (program_layout program) array
      ≡ elim (option_map cells_of_array o) as (λ (x : Option Array). Array)
      [ None ↦ record { base = 0; len = 0 } | Some cells ↦ cells ]
  unfolding program_layout
  cells_found array o e = ap (λ (x : Option Array). elim x as (λ (y : Option Array). Array) [
    | None ↦ record { base = 0; len = 0 }
    | Some cells ↦ cells
  ]) (slice_get-map cells_of_array program.arrays array ∙ ap (option_map cells_of_array) e)

  -- what a cell of an array is
  pub record IsPlace (array index cell : ℕ) : Type 0 where
    pub within : index < (array_cells (program_layout program) array).len
    pub is : (array_cells (program_layout program) array).base + index ≡ cell
    pub shared : cell < (program_layout program).shared

  place_by : (array index cell : ℕ) (held : ArrayData) → slice_get program.arrays array ≡
      Some held →
      (t : Bool) → nat_lt index (length held.start) ≡ t →
      (if t then Some (held.base + index) else None) ≡ Some cell → IsPlace array index cell
  unfolding program_layout
  place_by array index cell held found true e is =
      let cells : array_cells (program_layout program) array ≡ cells_of_array held =
      cells_found array (Some held) found in
      let low : index < length held.start = ⊎_elim (λ (l : index < length held.start). l)
      (λ (no : length held.start ≤ index). let f : true ≡ false = sym e ∙
      le-ltb index (length held.start) no in absurd (cc))
      (cases_lt index (length held.start)) in
      let within_all = (array_within program.arrays 0 array held arrays_are found).0 in
      let c : held.base + index ≡ cell = same_Some (held.base + index) cell is in record {
        within = subst (λ (a : Array). index < a.len) (sym cells) low;
        is = ap (λ (a : Array). a.base + index) cells ∙ c;
        shared = let e2 : cell < shared_cells program.arrays = omega arith in e2;
      }
  place_by array index cell held found false e is = absurd (none-some cell is)

  place_from : (array index cell : ℕ) (o : Option ArrayData) → slice_get program.arrays array ≡ o →
      elim o as (λ (x : Option ArrayData). Option ℕ) [
        | None ↦ None
        | Some held ↦ if nat_lt index (length held.start) then Some (held.base + index) else None
      ] ≡ Some cell → IsPlace array index cell
  place_from array index cell None found is = absurd (none-some cell is)
  place_from array index cell (Some held) found is =
      place_by array index cell held found (nat_lt index (length held.start)) refl is

  pub place_is : (array index cell : ℕ) → array_cell program array index ≡ Some cell →
      IsPlace array index cell
  place_is array index cell is = place_from array index cell (slice_get program.arrays array) refl
      is

  outside_by : (array index : ℕ) (held : ArrayData) → slice_get program.arrays array ≡ Some held →
      (t : Bool) → nat_lt index (length held.start) ≡ t →
      (if t then Some (held.base + index) else None) ≡ None →
      (array_cells (program_layout program) array).len ≤ index
  outside_by array index held found true e is = absurd (none-some (held.base + index) (sym is))
  outside_by array index held found false e is =
      let cells : array_cells (program_layout program) array ≡ cells_of_array held =
      cells_found array (Some held) found in
      let high : length held.start ≤ index = ⊎_elim
      (λ (l : index < length held.start). let f : true ≡ false =
      sym (lt-ltb index (length held.start) l) ∙ e in absurd (cc))
      (λ (no : length held.start ≤ index). no)
      (cases_lt index (length held.start)) in
      subst (λ (a : Array). a.len ≤ index) (sym cells) high

  outside_from : (array index : ℕ) (o : Option ArrayData) → slice_get program.arrays array ≡ o →
      elim o as (λ (x : Option ArrayData). Option ℕ) [
        | None ↦ None
        | Some held ↦ if nat_lt index (length held.start) then Some (held.base + index) else None
      ] ≡ None → (array_cells (program_layout program) array).len ≤ index
  outside_from array index None found is =
      subst (λ (a : Array). a.len ≤ index) (sym (cells_found array None found)) (omega arith)
  outside_from array index (Some held) found is =
      outside_by array index held found (nat_lt index (length held.start)) refl is

  pub place_outside : (array index : ℕ) → array_cell program array index ≡ None →
      (array_cells (program_layout program) array).len ≤ index
  place_outside array index is = outside_from array index (slice_get program.arrays array) refl is
