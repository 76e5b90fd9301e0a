-- The requests of a state, one of each processor, and what they may be.
use Rattle.std.proofs.Common.{◌≡◌, ℕ, zero, suc, ◌+◌, ◌/◌, ◌%◌, ◌^◌, ◌<◌, ◌≤◌, Bool, true}
use Rattle.std.proofs.Common.{false, cond, List, [], ◌∷◌, length, map, Option, Some}
use Rattle.std.proofs.Common.{None, refl, sym, ap, subst, ◌∙◌, inl, inr, arith}
use Rattle.std.specs.Prelude.{slice_get, slice_index, nat_lt, ◌==◌, All, IfSome}
use Rattle.std.proofs.lemmas.Bool.{ltb-true}
use Rattle.std.proofs.lemmas.List.{get_or_past}
use Rattle.std.proofs.lemmas.List.FromFn.{length-map-range_with_len, get_or-map-range_with_len}
use Rattle.std.proofs.lemmas.Bool.{cases_lt}
use Rattle.std.proofs.lemmas.Nat.{and_le_l, or_lt, xor_lt}
use Rattle.std.proofs.Math.Nat.{div-le_self, mod-le}
use Rattle.std.proofs.lemmas.Option.{none-some, same_Some, some_pair_parts, slice_get_within}
use Rattle.std.proofs.lemmas.Option.{slice_get-get_or, get_or_from_slice_get}
use Rattle.pram_job.specs.declared.instr.Instr.{Instr}
use Rattle.pram_job.specs.declared.instr.Instr.TheVariants.{Set, Pid, Add, Sub, Mul, And, Or, Xor}
use Rattle.pram_job.specs.declared.instr.Instr.TheVariants.{Lt, Eq, Shl, Shr, Div, Rem, Ld}
use Rattle.pram_job.specs.declared.instr.Instr.TheVariants.{St, Jz, Jmp, Halt}
use Rattle.pram_job.specs.declared.instr.Operand.{Operand}
use Rattle.pram_job.specs.declared.instr.Operand.TheVariants.{Register, Number}
use Rattle.pram_job.specs.declared.instr.Operands.{Operands}
use Rattle.pram_job.specs.declared.instr.Operands.TheVariants.{Bare, Target, TargetNumber}
use Rattle.pram_job.specs.declared.instr.Operands.TheVariants.{TargetPlace, TargetTwo, PlaceValue}
use Rattle.pram_job.specs.declared.instr.Operands.TheVariants.{RegisterIndex, Index}
use Rattle.pram_job.specs.declared.instr.Place.{Place}
use Rattle.pram_job.specs.declared.instr.Place.TheVariants.{Cell, Named}
use Rattle.pram_job.specs.Instructions.{IsOperand, IsPlace, AreOperands, row_of}
use Rattle.pram_job.specs.Job.{JobData, IsJob, IsInstr}
use Rattle.pram_machine.specs.declared.requests.Request.{Request}
use Rattle.pram_machine.specs.Machine.{State, IsDataPlace, register_place}
use Rattle.pram_machine.specs.Machine.{counter_place, register, counter, out_of_range}
use Rattle.pram_machine.specs.Instructions.{value_of, held_after, index_of, reached, cell_of}
use Rattle.pram_machine.specs.Instructions.{sources_of, cell_read, gives, goes_to, within, shifted}
use Rattle.pram_machine.specs.Instructions.{computed, divided, request_with}
use Rattle.pram_machine.specs.Instructions.{decided, HasShape, operand_held, decided_in, request_in}
use Rattle.pram_machine.specs.Instructions.{requests_in}

-- ---- the request of each processor

pub length-requests_in : (job : JobData) (s : State) → length (requests_in job s) ≡ job.procs
unfolding requests_in
length-requests_in job s = length-map-range_with_len (request_in job s) 0 job.procs

pub asks : (job : JobData) (s : State) (i : ℕ) → i < job.procs →
    slice_get (requests_in job s) i ≡ Some (request_in job s i)
unfolding requests_in
asks job s i lt =
    let within : i < length (requests_in job s) = omega (arith, length-requests_in job s) in
    let there : 0 + i ≡ i = omega arith in
    slice_get-get_or (requests_in job s) i (request_in job s i) within ∙ ap Some
    (get_or-map-range_with_len (request_in job s) 0 job.procs i i (request_in job s i) lt there)

pub asked_by : (job : JobData) (s : State) (i : ℕ) (r : Request) →
    slice_get (requests_in job s) i ≡ Some r → i < job.procs
asked_by job s i r e =
    omega (arith, slice_get_within (requests_in job s) i r e, length-requests_in job s)

pub asked_is : (job : JobData) (s : State) (i : ℕ) (r : Request) →
    slice_get (requests_in job s) i ≡ Some r → r ≡ request_in job s i
asked_is job s i r e = same_Some _ _ (sym e ∙ asks job s i (asked_by job s i r e))

-- ---- by cases: whether there is an instruction at the counter, and whether a test holds

pub instr_is : (job : JobData) (k : ℕ) (instr : Instr) → IsJob job →
    slice_get job.code k ≡ Some instr → IsInstr job.cells (length job.code) instr
instr_is job k instr is_job e =
    subst (λ (x : Instr). IsInstr job.cells (length job.code) x)
    (get_or_from_slice_get job.code k instr instr e)
    (is_job.code_fits k instr (slice_get_within job.code k instr e))

pub request_by :
    (P : Request → Type 0) (job : JobData) (s : State) (i : ℕ) → P (goes_to (counter job s i)) →
    ((instr : Instr) → slice_get job.code (counter job s i) ≡ Some instr →
    P (decided_in job s i instr)) → P (request_in job s i)
unfolding request_in
request_by P job s i stays runs = by_instr (slice_get job.code (counter job s i)) refl
  where
    by_instr : (o : Option Instr) → slice_get job.code (counter job s i) ≡ o → P (elim o [
      | None ↦ goes_to (counter job s i)
      | Some instr ↦ decided_in job s i instr
    ])
    by_instr None e = stays
    by_instr (Some instr) e = runs instr e

either : (P : ℕ → Type 0) (b : Bool) (x y : ℕ) → P x → P y → P (cond b x y)
either P true x y f g = f
either P false x y f g = g

-- ---- operands and places

pub value_fits : (operand : Operand) (held : ℕ) → IsOperand operand → held < 2 ^ 32 →
    value_of operand held < 2 ^ 32
value_fits (Register r) held is fits = fits
value_fits (Number n) held is fits = is

held_fits : (operand : Operand) (a b : ℕ) → a < 2 ^ 32 → b < 2 ^ 32 → held_after operand a b < 2 ^ 32
held_fits (Register r) a b fits fits_too = fits_too
held_fits (Number n) a b fits fits_too = fits

tested : (b : Bool) (n m k : ℕ) → (b ≡ true → n < k) → cond b (Some n) None ≡ Some m → m < k
tested true n m k low e = subst (λ c. c < k) (same_Some n m e) (low refl)
tested false n m k low e = absurd (none-some m e)

-- what is reached is a cell
pub reached_below : (job : JobData) (place : Place) (index cell : ℕ) → IsPlace job.cells place →
    reached job place index ≡ Some cell → cell < job.cells
reached_below job (Cell _) index cell is =
    tested (nat_lt index job.cells) index cell job.cells (λ low. ltb-true index job.cells low)
reached_below job (Named array _) index cell is =
    tested (nat_lt index array.len) (array.base + index) cell job.cells
    (λ low. omega (arith, ltb-true index array.len low, is.0.1))

-- ---- what is computed is below 2^32

shifted_fits : (by n : ℕ) → n < 2 ^ 32 → shifted by n < 2 ^ 32
shifted_fits by n low = either (λ n. n < 2 ^ 32) (nat_lt by 32) n 0 low (omega arith)

-- a quotient and a remainder are at most the number that is divided
divided_fits : (by n a : ℕ) → n ≤ a → a < 2 ^ 32 → IfSome (divided by n) (λ v. v < 2 ^ 32)
divided_fits by n a most low = tested_fits (by == 0)
  where
    tested_fits : (b : Bool) → IfSome (cond b None (Some n)) (λ v. v < 2 ^ 32)
    tested_fits true = tt
    tested_fits false = omega (arith, most, low)

computed_fits : (instr : Instr) (a b : ℕ) → a < 2 ^ 32 → b < 2 ^ 32 →
    IfSome (computed instr a b) (λ v. v < 2 ^ 32)
computed_fits (Add _ _ _) a b fits fits_too = omega arith
computed_fits (Sub _ _ _) a b fits fits_too = omega arith
computed_fits (Mul _ _ _) a b fits fits_too = omega arith
computed_fits (And _ _ _) a b fits fits_too = omega (arith, and_le_l a b)
computed_fits (Or _ _ _) a b fits fits_too = or_lt 32 a b fits fits_too
computed_fits (Xor _ _ _) a b fits fits_too = xor_lt 32 a b fits fits_too
computed_fits (Lt _ _ _) a b fits fits_too =
    either (λ n. n < 2 ^ 32) (nat_lt a b) 1 0 (omega arith) (omega arith)
computed_fits (Eq _ _ _) a b fits fits_too =
    either (λ n. n < 2 ^ 32) (a == b) 1 0 (omega arith) (omega arith)
computed_fits (Shl _ _ _) a b fits fits_too = shifted_fits b _ (omega arith)
computed_fits (Shr _ _ _) a b fits fits_too =
    shifted_fits b _ (omega (arith, div-le_self a (2 ^ b)))
computed_fits (Div _ _ _) a b fits fits_too = divided_fits b (a / b) a (div-le_self a b) fits
computed_fits (Rem _ _ _) a b fits fits_too = divided_fits b (a % b) a (mod-le a b) fits
computed_fits (Set _ _) a b fits fits_too = tt
computed_fits (Pid _) a b fits fits_too = tt
computed_fits (Ld _ _) a b fits fits_too = tt
computed_fits (St _ _) a b fits fits_too = tt
computed_fits (Jz _ _) a b fits fits_too = tt
computed_fits (Jmp _) a b fits fits_too = tt
computed_fits Halt a b fits fits_too = tt

-- ---- what an instruction may ask for

module _ (job : JobData) (i counter a b v : ℕ) where
  -- what holds where there is a cell or a value, and where there is none
  by_cell : (P : Request → Type 0) (o : Option ℕ) (asks : ℕ → Request) →
      P (goes_to (out_of_range job)) → ((cell : ℕ) → o ≡ Some cell → P (asks cell)) →
      P (within o (out_of_range job) asks)
  by_cell P None asks none some = none
  by_cell P (Some found) asks none some = some found refl

  -- data of the request goes to a cell or an own register
  abbrev GoesWell : Request → Type 0
  GoesWell r = (place value : ℕ) → r.put ≡ Some (place, value) → IsDataPlace job i place

  to_register : (r value : ℕ) → r < 4 → GoesWell (gives job i counter r value)
  to_register r value low place v h =
      let e = (some_pair_parts (register_place job i r) place value v h).0 in
      inr (omega arith, omega arith)

  to_cell : (cell value : ℕ) → cell < job.cells →
      GoesWell (record { put = Some (cell, value); next = counter + 1 })
  to_cell cell value low place v h =
      let e = (some_pair_parts cell place value v h).0 in inl (omega arith)

  to_none : GoesWell (goes_to 0)
  to_none place v h = absurd (none-some (place, v) h)

  asked_place : (computes : ℕ → ℕ → Option ℕ) (operands : Operands) →
      AreOperands job.cells (length job.code) operands →
      GoesWell (request_with job i counter computes operands a b v)
  asked_place computes Bare is = to_none
  asked_place computes (Target r) is = to_register r i is
  asked_place computes (TargetNumber r k) is = to_register r k is.0
  asked_place computes (TargetPlace r place) is = by_cell GoesWell (cell_of job place a) _ to_none
      (λ cell e. to_register r v is.0)
  asked_place computes (TargetTwo r _ c) is = by_cell GoesWell (computes a (value_of c b)) _ to_none
      (λ found e. to_register r found is.0)
  asked_place computes (PlaceValue place _) is = by_cell GoesWell (cell_of job place a) _ to_none
      (λ cell e. to_cell cell _ (reached_below job place _ cell is.0 e))
  asked_place computes (RegisterIndex _ index) is = to_none
  asked_place computes (Index index) is = to_none

  pub decided_place : (instr : Instr) → IsInstr job.cells (length job.code) instr →
      (place value : ℕ) → (decided job i counter instr a b v).put ≡ Some (place, value) →
      IsDataPlace job i place
  unfolding decided
  decided_place instr is = asked_place (computed instr) (row_of instr).1 is

  -- its value is below 2^32
  abbrev HasValue : Request → Type 0
  HasValue r = (place value : ℕ) → r.put ≡ Some (place, value) → value < 2 ^ 32

  of_value : (p value : ℕ) → value < 2 ^ 32 → HasValue (record { put = Some (p, value); next = 0 })
  of_value p value low place v h = let e = (some_pair_parts p place value v h).1 in omega arith

  of_none : HasValue (goes_to 0)
  of_none place v h = absurd (none-some (place, v) h)

  asked_value : (computes : ℕ → ℕ → Option ℕ) (operands : Operands) →
      ((x y : ℕ) → x < 2 ^ 32 → y < 2 ^ 32 → IfSome (computes x y) (λ found. found < 2 ^ 32)) →
      AreOperands job.cells (length job.code) operands →
      i < 2 ^ 32 → a < 2 ^ 32 → b < 2 ^ 32 → v < 2 ^ 32 →
      HasValue (request_with job i counter computes operands a b v)
  asked_value computes Bare small is low fits fits_too held = of_none
  asked_value computes (Target r) small is low fits fits_too held = of_value _ _ low
  asked_value computes (TargetNumber r k) small is low fits fits_too held = of_value _ _ is.1
  asked_value computes (TargetPlace r place) small is low fits fits_too held =
      by_cell HasValue (cell_of job place a) _ of_none (λ cell e. of_value _ _ held)
  asked_value computes (TargetTwo r _ c) small is low fits fits_too held =
      by_cell HasValue (computes a (value_of c b)) _ of_none (λ found e. of_value _ _
      (subst (λ o. IfSome o (λ found. found < 2 ^ 32)) e
      (small a (value_of c b) fits (value_fits c b is.2 fits_too))))
  asked_value computes (PlaceValue place c) small is low fits fits_too held =
      by_cell HasValue (cell_of job place a) _ of_none (λ cell e. of_value _ _
      (value_fits c (held_after (index_of place) a b) is.1
      (held_fits (index_of place) a b fits fits_too)))
  asked_value computes (RegisterIndex _ index) small is low fits fits_too held = of_none
  asked_value computes (Index index) small is low fits fits_too held = of_none

  pub decided_value : (instr : Instr) → IsInstr job.cells (length job.code) instr →
      i < 2 ^ 32 → a < 2 ^ 32 → b < 2 ^ 32 → v < 2 ^ 32 → (place value : ℕ) →
      (decided job i counter instr a b v).put ≡ Some (place, value) → value < 2 ^ 32
  unfolding decided
  decided_value instr is low fits fits_too held =
      asked_value (computed instr) (row_of instr).1 (computed_fits instr) is low fits fits_too held

  asked_next : (computes : ℕ → ℕ → Option ℕ) (operands : Operands) →
      AreOperands job.cells (length job.code) operands → counter < length job.code →
      (request_with job i counter computes operands a b v).next ≤ out_of_range job
  asked_next computes (TargetPlace r place) is low = by_cell (λ r. r.next ≤ out_of_range job)
      (cell_of job place a) _ (omega arith) (λ cell e. omega arith)
  asked_next computes (TargetTwo r _ c) is low = by_cell (λ r. r.next ≤ out_of_range job)
      (computes a (value_of c b)) _ (omega arith) (λ found e. omega arith)
  asked_next computes (PlaceValue place _) is low = by_cell (λ r. r.next ≤ out_of_range job)
      (cell_of job place a) _ (omega arith) (λ cell e. omega arith)
  asked_next computes (RegisterIndex r index) is low =
      either (λ n. n ≤ out_of_range job) (a == 0) index (counter + 1)
      (omega (arith, is.1)) (omega arith)
  asked_next computes (Index index) is low = omega (arith, is)
  asked_next computes _ is low = omega arith

  pub decided_next : (instr : Instr) → IsInstr job.cells (length job.code) instr →
      counter < length job.code → (decided job i counter instr a b v).next ≤ out_of_range job
  unfolding decided
  decided_next instr is low = asked_next (computed instr) (row_of instr).1 is low

  -- where it leaves the counter as it is, it asks for no data
  abbrev Stays : Request → Type 0
  Stays r = r.next ≡ counter → r ≡ goes_to counter

  asked_idle : (computes : ℕ → ℕ → Option ℕ) (operands : Operands) →
      Stays (request_with job i counter computes operands a b v)
  asked_idle computes (TargetPlace r place) = by_cell Stays (cell_of job place a) _
      (λ e. ap goes_to e) (λ cell is (e : counter + 1 ≡ counter). absurd (omega arith))
  asked_idle computes (TargetTwo r _ c) = by_cell Stays (computes a (value_of c b)) _
      (λ e. ap goes_to e) (λ found is (e : counter + 1 ≡ counter). absurd (omega arith))
  asked_idle computes (PlaceValue place _) = by_cell Stays (cell_of job place a) _
      (λ e. ap goes_to e) (λ cell is (e : counter + 1 ≡ counter). absurd (omega arith))
  asked_idle computes (RegisterIndex r index) = λ e. ap goes_to e
  asked_idle computes (Index index) = λ e. ap goes_to e
  asked_idle computes Bare = λ e. ap goes_to e
  asked_idle computes _ = λ (e : counter + 1 ≡ counter). absurd (omega arith)

  pub decided_idle : (instr : Instr) → (decided job i counter instr a b v).next ≡ counter →
      decided job i counter instr a b v ≡ goes_to counter
  unfolding decided
  decided_idle instr = asked_idle (computed instr) (row_of instr).1

  pub decided_shape : (instr : Instr) → IsInstr job.cells (length job.code) instr →
      i < 2 ^ 32 → a < 2 ^ 32 → b < 2 ^ 32 → v < 2 ^ 32 → counter < length job.code →
      HasShape job i (decided job i counter instr a b v)
  decided_shape instr is low fits fits_too held inside = record {
    data_place = decided_place instr is;
    data_value = decided_value instr is low fits fits_too held;
    next = decided_next instr is inside;
  }

-- ---- what a processor may ask for in a state

pub place_fits : (s : State) (p : ℕ) → All (λ v. v < 2 ^ 32) s → slice_index s p < 2 ^ 32
place_fits s p fits = elim (cases_lt p (length s)) [
  | inl within ↦ fits p 0 within
  | inr past ↦ (let zero_there : slice_index s p ≡ 0 = get_or_past s p 0 past in omega arith)
]

pub request_place : (job : JobData) (s : State) (i place value : ℕ) → IsJob job →
    (request_in job s i).put ≡ Some (place, value) → IsDataPlace job i place
request_place job s i place value is_job =
    request_by (λ r. r.put ≡ Some (place, value) → IsDataPlace job i place) job s i
    (λ h. absurd (none-some (place, value) h))
    (λ instr e. decided_place job i _ _ _ _ instr (instr_is job _ instr is_job e) place value)

for_some : {X : Type 0} (o : Option X) (P : X → Type 0) → ((x : X) → o ≡ Some x → P x) → IfSome o P
for_some None P h = tt
for_some (Some x) P h = h x refl

pub request_own : (job : JobData) (s : State) (i : ℕ) → IsJob job →
    IfSome (request_in job s i).put (λ w. IsDataPlace job i w.0)
request_own job s i is_job = for_some (request_in job s i).put (λ w. IsDataPlace job i w.0)
    (λ w e. request_place job s i w.0 w.1 is_job e)

pub request_value : (job : JobData) (s : State) (i place value : ℕ) →
    IsJob job → All (λ v. v < 2 ^ 32) s → i < job.procs →
    (request_in job s i).put ≡ Some (place, value) → value < 2 ^ 32
request_value job s i place value is_job fits low =
    request_by (λ r. r.put ≡ Some (place, value) → value < 2 ^ 32) job s i
    (λ h. absurd (none-some (place, value) h)) (λ instr e.
    decided_value job i _ _ _ _ instr (instr_is job _ instr is_job e)
    (omega (arith, is_job.procs.1)) (operand_fits instr 0) (operand_fits instr 1)
    (cell_fits (cell_read job instr (operand_held job s i instr 0))) place value)
  where
    operand_fits : (instr : Instr) (k : ℕ) → operand_held job s i instr k < 2 ^ 32
    operand_fits instr k = registers_fit (sources_of instr) k
      where
        registers_fit : (rs : List ℕ) (k : ℕ) → slice_index (map (register job s i) rs) k < 2 ^ 32
        registers_fit [] k = omega arith
        registers_fit (r ∷ rs) zero = place_fits s (register_place job i r) fits
        registers_fit (r ∷ rs) (suc k) = registers_fit rs k

    cell_fits : (o : Option ℕ) → elim o [ None ↦ 0 | Some cell ↦ slice_index s cell ] < 2 ^ 32
    cell_fits None = omega arith
    cell_fits (Some cell) = place_fits s cell fits

pub request_within : (job : JobData) (s : State) (i : ℕ) → IsJob job →
    counter job s i ≤ out_of_range job → (request_in job s i).next ≤ out_of_range job
request_within job s i is_job low =
    request_by (λ r. r.next ≤ out_of_range job) job s i low (λ instr e. decided_next job i _ _ _ _
    instr (instr_is job _ instr is_job e) (slice_get_within job.code _ instr e))

pub request_next_fits : (job : JobData) (s : State) (i : ℕ) → IsJob job → All (λ v. v < 2 ^ 32) s →
    (request_in job s i).next < 2 ^ 32
request_next_fits job s i is_job fits =
    request_by (λ r. r.next < 2 ^ 32) job s i (place_fits s (counter_place job i) fits) (λ instr e.
    let low : (decided_in job s i instr).next ≤ out_of_range job = decided_next job i _ _ _ _ instr
    (instr_is job _ instr is_job e) (slice_get_within job.code _ instr e) in
    let most = is_job.code_len.1 in omega arith)

pub request_shape : (job : JobData) (s : State) (i : ℕ) → IsJob job → All (λ v. v < 2 ^ 32) s →
    i < job.procs → counter job s i ≤ out_of_range job → HasShape job i (request_in job s i)
request_shape job s i is_job fits low inside = record {
  data_place = λ place value. request_place job s i place value is_job;
  data_value = λ place value. request_value job s i place value is_job fits low;
  next = request_within job s i is_job inside;
}
