-- A step of all processors, one by one.
use Rattle.std.proofs.Common.{◌≡◌, ℕ, ◌+◌, ◌<◌, ◌≤◌, ◌==◌, nat_lt, Bool}
use Rattle.std.proofs.Common.{true, false, ◌∷◌, Option, Some, None}
use Rattle.std.proofs.Common.{refl, sym, ap, ◌∙◌, arith, if◌then◌else◌, length, map, ⊎_elim}
use Rattle.std.specs.Prelude.{slice_get, slice_index}
use Rattle.std.specs.Option.{option_map}
use Rattle.std.proofs.lemmas.Bool.{lt-ltb, le-ltb, cases_lt}
use Rattle.pram_job.specs.declared.instr.Array.{Array}
use Rattle.pram_job.specs.declared.instr.Instr.{Instr}
use Rattle.pram_job.specs.declared.instr.Instr.TheVariants.{Ld, St}
use Rattle.pram_job.specs.declared.instr.Operand.{Operand}
use Rattle.pram_job.specs.declared.instr.Operand.TheVariants.{Register, Number}
use Rattle.pram_job.specs.declared.instr.Operands.{Operands}
use Rattle.pram_job.specs.declared.instr.Operands.TheVariants.{Bare, Target, TargetNumber}
use Rattle.pram_job.specs.declared.instr.Operands.TheVariants.{TargetPlace, TargetTwo, PlaceValue}
use Rattle.pram_job.specs.declared.instr.Operands.TheVariants.{RegisterIndex, Index}
use Rattle.pram_job.specs.declared.instr.Place.TheVariants.{Cell, Named}
use Rattle.pram_job.specs.Instructions.{IsOperand, IsArray, AreOperands, row_of}
use Rattle.pram_job.specs.Job.{JobData, IsJob, IsInstr}
use Rattle.pram_machine.specs.declared.requests.Request.{Request}
use Rattle.pram_machine.specs.Instructions.{decided, decided_in, gives, goes_to, within, request_in}
use Rattle.pram_machine.specs.Instructions.{request_with, computed, read_at, read_by, value_of}
use Rattle.pram_machine.specs.Instructions.{registers_in}
use Rattle.pram_machine.specs.Machine.{State, register, counter, out_of_range, halted, place_count}
use Rattle.pram_machine.proofs.Shapes.{instr_is}
use Rattle.pram_step.proofs.LawStopped.{stopped_request}
use Rattle.pardo_job.specs.Straight.{Registers, put, operand_value}
use Rattle.pardo_law.specs.Locals.{memory_of, registers_of, standing_at, after_instr, after_fetched}
use Rattle.pardo_law.specs.Locals.{local_after, stored_in, local_store_by, store_by_instr, NamesArrays}
use Rattle.pardo_law.specs.Locals.{NamesByArray}
use Rattle.pardo_law.specs.Locals.{FollowsByItself, EachByItself}
use Rattle.pardo_law.proofs.Owning.{follows_out, follows_goes, follows_gives, follows_stores}

-- ---- registers and cells as far as there are some

pub same_register : (job : JobData) (s : State) (i which : ℕ) → which < 4 →
    register job s i which ≡ registers_of job s i which
same_register job s i which few =
    sym (ap (λ t. if t then register job s i which else 0) (lt-ltb which 4 few))

pub same_cell : (job : JobData) (s : State) (cell : ℕ) → cell < job.cells →
    slice_index s cell ≡ memory_of job s cell
same_cell job s cell low =
    sym (ap (λ t. if t then slice_index s cell else 0) (lt-ltb cell job.cells low))

same_second : (job : JobData) (s : State) (i a : ℕ) (b : Operand) → IsOperand b →
    value_of b (slice_index (map (register job s i) (a ∷ registers_in b)) 1)
    ≡ operand_value (registers_of job s i) b
same_second job s i a (Register b) is = same_register job s i b is
same_second job s i a (Number n) is = refl

same_index : (job : JobData) (s : State) (i : ℕ) (b : Operand) → IsOperand b →
    value_of b (slice_index (map (register job s i) (registers_in b)) 0)
    ≡ operand_value (registers_of job s i) b
same_index job s i (Register b) is = same_register job s i b is
same_index job s i (Number n) is = refl

-- ---- by instructions

module _ (job : JobData) (is_job : IsJob job) (s : State) (len : length s ≡ place_count job)
    (i : ℕ) (lt : i < job.procs) (at : ℕ) (held : Registers) (counter_is : counter job s i ≡ at)
    (held_is : registers_of job s i ≡ held) where
  abbrev FollowsBy : Instr → Type 0
  FollowsBy one = FollowsByItself job s i (after_instr job (memory_of job s) i at held one)
      (local_store_by held one)

  abbrev Asks : Instr → Type 0
  Asks one = request_in job s i ≡ decided_in job s i one

  -- it gives a register a value
  given : (target v w : ℕ) → target < 4 → v ≡ w →
      request_in job s i ≡ gives job i (counter job s i) target v →
      FollowsByItself job s i (Some (at + 1, put target w held)) None
  given target v w few e asks = follows_gives job is_job s len i lt at target w held few
      (asks ∙ ap (λ c. gives job i c target v) counter_is ∙ ap (gives job i at target) e) held_is

  -- or has none for it
  computed_or_out : (target : ℕ) (o : Option ℕ) → target < 4 →
      request_in job s i ≡ within o (out_of_range job) (gives job i (counter job s i) target) →
      FollowsByItself job s i (standing_at (at + 1) (option_map (λ v. put target v held) o)) None
  computed_or_out target None few asks = follows_out job is_job s len i lt asks
  computed_or_out target (Some v) few asks = given target v v few refl asks

  here : (which : ℕ) → which < 4 → register job s i which ≡ held which
  here which few = same_register job s i which few ∙ ap (λ (f : Registers). f which) held_is

  there : (a : ℕ) (b : Operand) → IsOperand b →
      value_of b (slice_index (map (register job s i) (a ∷ registers_in b)) 1) ≡ operand_value held b
  there a b is = same_second job s i a b is ∙ ap (λ (f : Registers). operand_value f b) held_is

  first : (b : Operand) → IsOperand b →
      value_of b (slice_index (map (register job s i) (registers_in b)) 0) ≡ operand_value held b
  first b is = same_index job s i b is ∙ ap (λ (f : Registers). operand_value f b) held_is

  -- a load, by whether the array has the place
  loaded : (target : ℕ) (array : Array) (k : ℕ) → target < 4 → array.base + array.len ≤ job.cells →
      (t : Bool) → nat_lt k array.len ≡ t →
      request_in job s i ≡ within (if t then Some (array.base + k) else None) (out_of_range job)
      (λ cell. gives job i (counter job s i) target
      (elim (if t then Some (array.base + k) else None)
      [ None ↦ 0 | Some found ↦ slice_index s found ])) →
      FollowsByItself job s i (standing_at (at + 1)
      (if t then Some (put target (memory_of job s (array.base + k)) held) else None)) None
  loaded target array k few fits true e asks =
      let low : k < array.len = ⊎_elim (λ (l : k < array.len). l)
      (λ (no : array.len ≤ k). let f : true ≡ false = sym e ∙ le-ltb k array.len no in absurd (cc))
      (cases_lt k array.len) in
      given target (slice_index s (array.base + k)) (memory_of job s (array.base + k)) few
      (same_cell job s (array.base + k) (omega arith)) asks
  loaded target array k few fits false e asks = follows_out job is_job s len i lt asks

  load : (target : ℕ) (array : Array) (index : Operand) → target < 4 → IsArray job.cells array →
      IsOperand index → Asks (Ld target (Named array index)) →
      FollowsBy (Ld target (Named array index))
  unfolding decided
  load target array index few fits is asks =
      let e : value_of index (slice_index (map (register job s i) (registers_in index)) 0) ≡
      operand_value held index = first index is in
      loaded target array (operand_value held index) few fits.1
      (nat_lt (operand_value held index) array.len) refl
      (asks ∙ ap (λ k. within (if nat_lt k array.len then Some (array.base + k) else None)
      (out_of_range job)
      (λ cell. gives job i (counter job s i) target
      (elim (if nat_lt k array.len then Some (array.base + k) else None)
      [ None ↦ 0 | Some found ↦ slice_index s found ]))) e)

  -- a store, by the same
  abbrev stores_to : ℕ → ℕ → Bool → Array → Request
  stores_to k v t array = within (if t then Some (array.base + k) else None) (out_of_range job)
      (λ cell. record { put = Some (cell, v); next = counter job s i + 1 })

  keeps_store : (array : Array) (k v : ℕ) → array.base + array.len ≤ job.cells →
      (t : Bool) → nat_lt k array.len ≡ t → request_in job s i ≡ stores_to k v t array →
      FollowsByItself job s i (if t then Some (at + 1, held) else None)
      (if t then Some (array.base + k, v) else None)
  keeps_store array k v fits true e asks =
      let low : k < array.len = ⊎_elim (λ (l : k < array.len). l)
      (λ (no : array.len ≤ k). let f : true ≡ false = sym e ∙ le-ltb k array.len no in absurd (cc))
      (cases_lt k array.len) in
      follows_stores job is_job s len i lt (at + 1) (array.base + k) v held (omega arith)
      (asks ∙ ap (λ c. record { put = Some (array.base + k, v); next = c + 1 }) counter_is) held_is
  keeps_store array k v fits false e asks = follows_out job is_job s len i lt asks

  store : (array : Array) (index value : Operand) → IsArray job.cells array → IsOperand index →
      IsOperand value → Asks (St (Named array index) value) →
      FollowsBy (St (Named array index) value)
  unfolding decided
  store array (Register a) (Register b) fits is too asks =
      keeps_store array (held a) (held b) fits.1 (nat_lt (held a) array.len) refl
      (asks ∙ (λ k. stores_to (here a is k) (here b too k) (nat_lt (here a is k) array.len) array))
  store array (Register a) (Number n) fits is too asks =
      keeps_store array (held a) n fits.1 (nat_lt (held a) array.len) refl
      (asks ∙ (λ k. stores_to (here a is k) n (nat_lt (here a is k) array.len) array))
  store array (Number m) (Register b) fits is too asks =
      keeps_store array m (held b) fits.1 (nat_lt m array.len) refl
      (asks ∙ (λ k. stores_to m (here b too k) (nat_lt m array.len) array))
  store array (Number m) (Number n) fits is too asks =
      keeps_store array m n fits.1 (nat_lt m array.len) refl asks

  jump : (n m : ℕ) → n ≡ m → request_in job s i ≡ goes_to n →
      FollowsByItself job s i (Some (m, held)) None
  jump n m e asks = follows_goes job is_job s len i lt m held (asks ∙ ap goes_to e) held_is

  -- what is asked for by an instruction with these operands, and where that goes
  abbrev AsksWith : (ℕ → ℕ → Option ℕ) → Operands → Type 0
  AsksWith computes operands = request_in job s i ≡ request_with job i (counter job s i) computes operands
      (slice_index (map (register job s i) (read_by operands)) 0)
      (slice_index (map (register job s i) (read_by operands)) 1)
      (elim (read_at job operands (slice_index (map (register job s i) (read_by operands)) 0))
      [ None ↦ 0 | Some cell ↦ slice_index s cell ])

  follows_with : (computes : ℕ → ℕ → Option ℕ) (operands : Operands) →
      AreOperands job.cells (length job.code) operands → NamesArrays operands →
      AsksWith computes operands →
      FollowsByItself job s i (local_after job (memory_of job s) i at held computes operands)
      (stored_in held operands)
  unfolding decided
  follows_with computes (TargetNumber target number) is named asks =
      given target number number is.0 refl asks
  follows_with computes (Target target) is named asks = given target i i is refl asks
  follows_with computes (TargetTwo target a b) is named asks =
      computed_or_out target (computes (held a) (operand_value held b)) is.0
      (asks ∙ (λ k. within (computes (here a is.1 k) (there a b is.2 k)) (out_of_range job)
      (gives job i (counter job s i) target)))
  follows_with computes (TargetPlace target (Named array index)) is named asks =
      load target array index is.0 is.1.0 is.1.1 asks
  follows_with computes (TargetPlace target (Cell index)) is named asks = absurd named
  follows_with computes (PlaceValue (Named array index) value) is named asks =
      store array index value is.0.0 is.0.1 is.1 asks
  follows_with computes (PlaceValue (Cell index) value) is named asks = absurd named
  follows_with computes (RegisterIndex register index) is named asks =
      jump _ _ (λ k. if here register is.0 k == 0 then index else counter_is k + 1) asks
  follows_with computes (Index index) is named asks = jump index index refl asks
  follows_with computes Bare is named asks = jump (halted job) (halted job) refl asks

  pub follows_one : (one : Instr) → IsInstr job.cells (length job.code) one → NamesByArray one →
      Asks one → FollowsBy one
  unfolding decided
  follows_one one is named asks = follows_with (computed one) (row_of one).1 is named asks

  fetched : (o : Option Instr) → slice_get job.code at ≡ o →
      request_in job s i ≡ elim o [
        | None ↦ goes_to (counter job s i)
        | Some one ↦ decided_in job s i
            one
      ] →
      ((one : Instr) → o ≡ Some one → NamesByArray one) →
      FollowsByItself job s i (after_fetched job (memory_of job s) i at held o)
      (store_by_instr held o)
  fetched None e asks named = jump (counter job s i) at counter_is asks
  fetched (Some one) e asks named =
      follows_one one (instr_is job at one is_job e) (named one refl) asks

  requested : request_in job s i ≡ elim (slice_get job.code at) [
    | None ↦ goes_to (counter job s i)
    | Some one ↦ decided_in job s i one
  ]
  unfolding request_in
  requested = ap (λ (c : ℕ). elim (slice_get job.code c) as (λ (o : Option Instr). Request) [
    | None ↦ goes_to (counter job s i)
    | Some one ↦ decided_in job s i one
  ]) counter_is

  pub follows_some : ((one : Instr) → slice_get job.code at ≡ Some one → NamesByArray one) →
      FollowsByItself job s i
      (after_fetched job (memory_of job s) i at held (slice_get job.code at))
      (store_by_instr held (slice_get job.code at))
  follows_some named = fetched (slice_get job.code at) refl requested named

pub each_by_itself : EachByItself
each_by_itself job s i None is_job len lt is named =
    follows_out job is_job s len i lt
    (stopped_request job s i (let e : counter job s i ≡ out_of_range job = is in omega arith)
    ∙ ap goes_to is)
each_by_itself job s i (Some local) is_job len lt is named =
    follows_some job is_job s len i lt local.0 local.1 is.0 is.1 named
