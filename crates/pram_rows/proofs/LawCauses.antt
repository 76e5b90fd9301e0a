-- The laws of causes.
use Rattle.std.proofs.Common.{◌≡◌, ◌∙◌, ℕ, ◌+◌, ◌-◌, ◌<◌, ◌≤◌, Bool, true, false, List}
use Rattle.std.proofs.Common.{◌++◌, Option, Some, None, ap, sym, subst, refl, arith, length}
use Rattle.std.specs.Prelude.{nat_le, nat_lt, if◌then◌else◌, slice_get, slice_index, map, ◌==◌}
use Rattle.std.specs.Prelude.{MatchOption}
use Rattle.std.proofs.lemmas.Bool.{leb-true, ltb-false}
use Rattle.std.proofs.lemmas.List.Elements.{All-get_or}
use Rattle.std.proofs.lemmas.Option.{get_or_from_slice_get, none-some, slice_get-get_or}
use Rattle.pram_job.specs.declared.instr.Instr.{Instr}
use Rattle.pram_job.specs.declared.instr.Instr.TheVariants.{Halt}
use Rattle.pram_job.specs.declared.instr.Operand.{Operand}
use Rattle.pram_job.specs.declared.instr.Operand.TheVariants.{Register, Number}
use Rattle.pram_job.specs.declared.instr.Operands.{Operands}
use Rattle.pram_job.specs.declared.instr.Operands.TheVariants.{Bare, Target, TargetNumber}
use Rattle.pram_job.specs.declared.instr.Operands.TheVariants.{TargetPlace, TargetTwo, PlaceValue}
use Rattle.pram_job.specs.declared.instr.Operands.TheVariants.{RegisterIndex, Index}
use Rattle.pram_job.specs.declared.instr.Place.{Place}
use Rattle.pram_job.specs.declared.instr.Place.TheVariants.{Cell, Named}
use Rattle.pram_job.specs.Instructions.{AreOperands, row_of}
use Rattle.pram_job.specs.Job.{JobData, IsInstr, IsJob}
use Rattle.pram_machine.specs.declared.requests.Request.{Request}
use Rattle.pram_machine.specs.Instructions.{cell_of, computed, decided, decided_in, index_of}
use Rattle.pram_machine.specs.Instructions.{goes_to, read_by, registers_in, request_in}
use Rattle.pram_machine.specs.Instructions.{request_with, value_of, value_part, within}
use Rattle.pram_machine.specs.Machine.{State, counter, halted, out_of_range, register}
use Rattle.pram_step.specs.Runs.{requests_after, state_after}
use Rattle.pram_step.specs.Steps.{WritesCell}
use Rattle.pram_step.proofs.LawPlaces.{writer_is}
use Rattle.pram_step.proofs.RequestList.{put_of_written}
use Rattle.pram_rows.specs.declared.causes.Cause.{Cause}
use Rattle.pram_rows.specs.declared.causes.Cause.TheVariants.{AboveBound, Divided}
use Rattle.pram_rows.specs.Causes.{bound_of, cause_by, cause_in, cause_of, division}
use Rattle.pram_rows.specs.Causes.{IsWhyLost, indexed_cells, operand_value}
use Rattle.pram_rows.specs.Fates.{IsLostIn, NamesNone}
use Rattle.pram_rows.specs.declared.fates.Lost.{Lost}
use Rattle.pram_rows.specs.FateLaws.{ClashValuesAreWritten, IsSo, LostHaveCauses}

-- ---- what two that clash write

put_is : (job : JobData) (t cell i v : ℕ) → WritesCell job (requests_after job t) cell i v →
    (request_in job (state_after job t) i).put ≡ Some (cell, v)
put_is job t cell i v w =
    put_of_written job cell i v (request_in job (state_after job t) i) w.0
    (writer_is job (state_after job t) cell i v w.1).1

put_value : (request : Request) (cell v : ℕ) → request.put ≡ Some (cell, v) →
    request.put ≡ Some (cell, value_part request)
put_value request cell v is = is ∙ ap (λ (o : Option (ℕ × ℕ)).
    Some (cell, elim o as (λ (x : Option (ℕ × ℕ)). ℕ) [ None ↦ 0 | Some write ↦ write.1 ]))
    (sym is)

pub clash_written : ClashValuesAreWritten
clash_written job fault is =
    let first = is.first in
    let step = first.step in
    let e : first.before ≡ fault.step - 1 = omega arith in
    let clash = first.dispute.clash in
    subst (λ (t : ℕ). ((request_in job (state_after job t) fault.first).put
    ≡ Some (fault.cell, value_part (request_in job (state_after job t) fault.first)))
    × ((request_in job (state_after job t) fault.second).put
    ≡ Some (fault.cell, value_part (request_in job (state_after job t) fault.second)))) e (
      put_value (request_in job (state_after job first.before) fault.first) fault.cell clash.value
          (put_is job first.before fault.cell fault.first clash.value clash.writes),
      put_value (request_in job (state_after job first.before) fault.second) fault.cell clash.other
          (put_is job first.before fault.cell fault.second clash.other clash.writes_too),
    )

-- ---- why one is lost

-- what a cause says where there is one, which there is
abbrev IsTold : Option Cause → Type 0
IsTold None = ⊥
IsTold (Some cause) = IsSo cause

told_cause : (found : Option Cause) → IsTold found →
    (cause : Cause) × (found ≡ Some cause) × IsSo cause
told_cause None is = absurd is
told_cause (Some cause) is = (cause, refl, is)

division_by : (below : Bool) (bound value : ℕ) → nat_le bound value ≡ below →
    IsSo (if below then AboveBound value bound else Divided value)
division_by true bound value is = leb-true bound value is
division_by false bound value is = tt

division_so : (bound : Option ℕ) (value : ℕ) → IsSo (division bound value)
division_so None value = tt
division_so (Some bound) value = division_by (nat_le bound value) bound value refl

-- a jump goes to an instruction, or past the last one
jumps_never : (b : Bool) (index next out : ℕ) → (if b then index else next) ≡ out →
    (index ≡ out → ⊥) → (next ≡ out → ⊥) → ⊥
jumps_never true index next out e never goes = never e
jumps_never false index next out e never goes = goes e

module _ (job : JobData) (s : State) (i : ℕ) where
  -- what the registers hold that are read
  abbrev held : List ℕ → ℕ
  held registers = slice_index (map (register job s i) registers) 0

  held_one : (operand : Operand) →
      value_of operand (held (registers_in operand)) ≡ operand_value job s i operand
  held_one (Register which) = refl
  held_one (Number number) = refl

  held_first : (operand : Operand) (more : List ℕ) →
      value_of operand (held (registers_in operand ++ more)) ≡ operand_value job s i operand
  held_first (Register which) more = refl
  held_first (Number number) more = refl

  past : (below : Bool) (index len found : ℕ) (asks : ℕ → Request) → nat_lt index len ≡ below →
      (within (if below then Some found else None) (out_of_range job) asks).next
      ≡ out_of_range job → ((asks found).next ≡ out_of_range job → ⊥) → len ≤ index
  past true index len found asks is out never = absurd (never out)
  past false index len found asks is out never = ltb-false index len is

  place_past : (place : Place) (first : ℕ) (asks : ℕ → Request) →
      (within (cell_of job place first) (out_of_range job) asks).next ≡ out_of_range job →
      ((cell : ℕ) → (asks cell).next ≡ out_of_range job → ⊥) →
      (indexed_cells job place).len ≤ value_of (index_of place) first
  place_past (Cell index) first asks out never =
      past (nat_lt (value_of index first) job.cells) (value_of index first) job.cells
      (value_of index first) asks refl out (never (value_of index first))
  place_past (Named array index) first asks out never =
      past (nat_lt (value_of index first) array.len) (value_of index first) array.len
      (array.base + value_of index first) asks refl out
      (never (array.base + value_of index first))

  by_operands : (at : ℕ) (computes : ℕ → ℕ → Option ℕ) (before : Option Instr)
      (operands : Operands) (second value : ℕ) → at < halted job →
      AreOperands job.cells (length job.code) operands →
      (request_with job i at computes operands (held (read_by operands)) second value).next
      ≡ out_of_range job → IsTold (cause_by job s i before operands)
  by_operands at computes before Bare second value runs are out = absurd (omega arith)
  by_operands at computes before (Target target) second value runs are out =
      absurd (omega arith)
  by_operands at computes before (TargetNumber target number) second value runs are out =
      absurd (omega arith)
  by_operands at computes before (TargetPlace target place) second value runs are out =
      subst (λ (n : ℕ). (indexed_cells job place).len ≤ n) (held_one (index_of place))
      (place_past place (held (registers_in (index_of place))) _ out (λ cell e. omega arith))
  by_operands at computes before (TargetTwo target first b) second value runs are out =
      division_so (bound_of before first b) (register job s i first)
  by_operands at computes before (PlaceValue place b) second value runs are out =
      subst (λ (n : ℕ). (indexed_cells job place).len ≤ n)
      (held_first (index_of place) (registers_in b))
      (place_past place (held (registers_in (index_of place) ++ registers_in b)) _ out
      (λ cell e. omega arith))
  by_operands at computes before (RegisterIndex which index) second value runs are out =
      absurd (jumps_never (register job s i which == 0) index (at + 1) (out_of_range job) out
      (λ e. let low = are.1 in omega arith) (λ e. omega arith))
  by_operands at computes before (Index index) second value runs are out =
      absurd (omega arith)

  by_instr : (before : Option Instr) (instr : Instr) → counter job s i < halted job →
      AreOperands job.cells (length job.code) (row_of instr).1 →
      (decided_in job s i instr).next ≡ out_of_range job →
      IsTold (cause_by job s i before (row_of instr).1)
  unfolding decided
  by_instr before instr runs are out =
      by_operands (counter job s i) (computed instr) before (row_of instr).1 _ _ runs are out

  fits : IsJob job → (index : ℕ) (instr : Instr) → index < length job.code →
      slice_get job.code index ≡ Some instr →
      AreOperands job.cells (length job.code) (row_of instr).1
  fits is_job index instr within is =
      subst (IsInstr job.cells (length job.code)) (get_or_from_slice_get job.code index instr Halt is)
      (All-get_or (IsInstr job.cells (length job.code)) job.code index Halt within
      is_job.code_fits)

  request_by : (instr : Instr) → slice_get job.code (counter job s i) ≡ Some instr →
      request_in job s i ≡ decided_in job s i instr
  unfolding request_in
  request_by instr is = ap (λ (o : Option Instr). elim o as (λ (x : Option Instr). Request) [
    | None ↦ goes_to (counter job s i)
    | Some one ↦ decided_in job s i one
  ]) is

  by_code : IsJob job → NamesNone job s i → (code : Option Instr) →
      slice_get job.code (counter job s i) ≡ code → IsTold (cause_in job s i (counter job s i))
  by_code is_job names None e = absurd (none-some _
      (sym e ∙ slice_get-get_or job.code (counter job s i) Halt names.runs))
  by_code is_job names (Some instr) e =
      subst (λ (o : Option Instr). IsTold (elim o as (λ (x : Option Instr). Option Cause) [
        | None ↦ None
        | Some one ↦ cause_by job s i (slice_get job.code (counter job s i - 1)) (row_of one).1
      ])) (sym e) (by_instr (slice_get job.code (counter job s i - 1)) instr names.runs
      (fits is_job (counter job s i) instr names.runs e)
      (sym (ap (λ (r : Request). r.next) (request_by instr e)) ∙ names.names_none))

  at_index : IsJob job → (index : ℕ) → NamesNone job s i → index ≡ counter job s i →
      IsTold (cause_in job s i index)
  at_index is_job index names same = subst (λ (n : ℕ). IsTold (cause_in job s i n)) (sym same)
      (by_code is_job names (slice_get job.code (counter job s i)) refl)

pub lost_causes : LostHaveCauses
lost_causes job n lost is_job is =
    let step = is.step_is in
    let e : is.before ≡ lost.step - 1 = omega arith in
    told_cause (cause_of job (Some lost))
    (subst (λ (t : ℕ). IsTold (cause_in job (state_after job t) lost.processor lost.index)) e
    (at_index job (state_after job is.before) lost.processor is_job lost.index is.names_none
    is.index_is))

-- so that is why it is
pub told_why : (job : JobData) (n i : ℕ) (lost : Lost) (none : Type 0) → IsJob job →
    lost.processor ≡ i → IsLostIn job n lost → (found : Option Cause) →
    found ≡ cause_of job (Some lost) → MatchOption found none (IsWhyLost job n i)
told_why job n i lost none is_job who is found found_is =
    let told = lost_causes job n lost is_job is in
    subst (λ (o : Option Cause). MatchOption o none (IsWhyLost job n i))
    (sym (found_is ∙ told.1))
    (record { lost = lost; who = who; is_lost = is; cause_is = told.1 })
