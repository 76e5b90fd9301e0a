-- The parts of the tasks, by their results.
use Rattle.std.specs.Prelude.{ℕ, ◌-◌, Bool, not, ◌&&◌, ◌||◌, ◌==◌, nat_lt, if◌then◌else◌}
use Rattle.std.specs.Prelude.{[], slice_get, slice_index, Option}
use Rattle.pram_job.specs.declared.instr.Instr.{Instr}
use Rattle.pram_job.specs.declared.instr.Rule.{Rule}
use Rattle.pram_job.specs.declared.instr.Rule.TheVariants.{Common, Priority, Crew}
use Rattle.pram_job.specs.Job.{JobData}
use Rattle.pram_words.specs.Phases.{kind_at}
use Rattle.pram_words.specs.declared.phases.Kind.{Kind}
use Rattle.pram_machine.specs.declared.requests.Request.{Request}
use Rattle.pram_machine.specs.Instructions.{sources_of, cell_read, decided}
use Rattle.pram_machine.specs.Machine.{register_place}
use Rattle.pram_words.specs.Stamps.{stamped_word, stamp_of, payload_of}
use Rattle.pram_words.specs.Words.{LayoutData, number_of}
use Rattle.pram_words.specs.declared.words.Word.TheVariants.{Conflict, Stored, Claim}
use Rattle.walkx.specs.declared.operation.Op.{Op}
use Rattle.walkx.specs.declared.operation.Op.TheVariants.{Load, Max, Swap}
use Rattle.walkx.specs.Scripts.{Script, asks}
use Rattle.walkx.specs.Tasks.{reads_place, reads_registers, reads_cell, raises_request, executes}
use Rattle.pram_words.specs.Stamps.{newer_payload}
use Rattle.walkx.specs.Tasks.{compute_task}
use Rattle.pram_words.specs.Stamps.{older, older_word}
use Rattle.walkx.specs.Tasks.{is_late, loads_both, writes_place, hears_part}
use Rattle.walkx.specs.Tasks.{if_data, carries, claim_of, claims, differs, reports, task_of}
use Rattle.walk_memory.specs.declared.memo.Memo.{Memo}
use Rattle.walkx.specs.Passes.{wide_task_of}
use Rattle.walkx.specs.Walk.{Then}
use Rattle.walk_memory.specs.Inner.Posts.{PostData, step_of, processor_of}
use Rattle.walkx.specs.Inner.Posts.{part_raised}
use Rattle.walkx.specs.Driving.{Part}

-- both words of a place
abbrev pub both_of : PostData → ℕ → Part (ℕ × ℕ)
both_of at place after next = loads_both at.layout place (λ first second. next (first, second))

-- the older of its words is swapped
abbrev pub swap_of : PostData → ℕ → ℕ → ℕ → ℕ → Op
swap_of at place value first second =
    Swap (number_of at.layout (Stored place (older first second))) (older_word first second)
    (stamped_word (step_of at) value)

-- a place is written, unless it was in this step or later
abbrev pub writes : PostData → ℕ → ℕ → Part (Unit {0})
writes at place value after next = writes_place at.layout (step_of at) place value (next tt)

-- both its words were heard
abbrev pub writes_after : PostData → ℕ → ℕ → Script Then → ℕ × ℕ → Script Then
writes_after at place value after words =
    if is_late (step_of at) words.0 words.1 then after
    else asks (swap_of at place value words.0 words.1) (λ found. after)

-- part j of the request, if it is of this step
abbrev pub hears_request : PostData → ℕ → Part ℕ
hears_request at j = hears_part at.layout (step_of at) (processor_of at) j

abbrev pub writes_data : PostData → ℕ → ℕ → Part (Unit {0})
writes_data at part value after next =
    if_data part (next tt) (λ place. writes_place at.layout (step_of at) place value (next tt))

abbrev pub carries_out : PostData → ℕ → ℕ → ℕ → Part (Unit {0})
carries_out at part value count after next =
    carries at.job at.layout (step_of at) (processor_of at) part value count (next tt)

-- ---- claims

-- the data place is that of a cell
abbrev pub is_cell_part : JobData → ℕ → Bool
is_cell_part job part = not (part == 0) && nat_lt (part - 1) job.cells

-- a cell is claimed for the processor; the claim to it is loaded
abbrev pub claim_raised : PostData → ℕ → Op
claim_raised at cell =
    Max (number_of at.layout (Claim cell)) (stamped_word (step_of at)
    (claim_of at.job (processor_of at)))

abbrev pub claim_loaded : PostData → ℕ → Op
claim_loaded at cell = Load (number_of at.layout (Claim cell))

-- the cell of a data place is claimed, if it is one
abbrev pub claims_data : PostData → ℕ → Part (Unit {0})
claims_data at part after next =
    if_data part (next tt) (λ place.
    claims at.job at.layout (step_of at) (processor_of at) place (next tt))

-- the claim was heard: its owner writes
abbrev pub owner_place : PostData → ℕ → ℕ → ℕ
owner_place at part found =
    if payload_of found == claim_of at.job (processor_of at) then part else 0

abbrev pub after_claim : PostData → ℕ → Script Then → (ℕ → Script Then) → ℕ → Script Then
after_claim at part after next found =
    if nat_lt (step_of at) (stamp_of found) then after else next (owner_place at part found)

-- the data place that is to be written, by the claim to its cell
abbrev pub owns : PostData → ℕ → Part ℕ
owns at part after next =
    if_data part (next part) (λ place.
    if nat_lt place at.job.cells then asks (claim_loaded at place) (after_claim at part after next)
    else next part)

-- by the rule
abbrev pub readies : Rule → PostData → ℕ → Part ℕ
readies Common at part after next = next part
readies Priority at part after next = owns at part after next
readies Crew at part after next = claims_data at part after (λ done. next part)

-- ---- the tasks of the second and the third pass

-- the request is heard and carried out by the rule; what follows its parts
abbrev pub after_count : Rule → PostData → Script Then → ℕ → ℕ → ℕ → Script Then
after_count rule at after part value count =
    readies rule at part after (λ ready. carries_out at ready value count after (λ done. after))

abbrev pub after_value : Rule → PostData → Script Then → ℕ → ℕ → Script Then
after_value rule at after part value =
    hears_request at 2 after (after_count rule at after part value)

abbrev pub after_place : Rule → PostData → Script Then → ℕ → Script Then
after_place rule at after part = hears_request at 1 after (after_value rule at after part)

abbrev pub applies : Rule → PostData → Script Then → Script Then
applies rule at after = hears_request at 0 after (after_place rule at after)

-- the cell of the request is claimed
abbrev pub claims_cell : PostData → Script Then → Script Then
claims_cell at after = hears_request at 0 after (λ part. claims_data at part after (λ done. after))

-- the step is reported as against the rule; if it is
abbrev pub report_made : PostData → Op
report_made at = Swap (number_of at.layout Conflict) 0 (step_of at)

abbrev pub reports_if : PostData → Bool → Part (Unit {0})
reports_if at is after next = if is then reports at.layout (step_of at) (next tt) else next tt

-- a word is of this step and has another payload; one of two words is
abbrev pub differs_from : PostData → ℕ → ℕ → Bool
differs_from at value found = differs (step_of at) value found

abbrev pub either_differs : PostData → ℕ → ℕ × ℕ → Bool
either_differs at value words = differs_from at value words.0 || differs_from at value words.1

-- the value is compared with what the place holds
abbrev pub compares_place : PostData → ℕ → ℕ → Part (Unit {0})
compares_place at place value after next =
    both_of at place after (λ words. reports_if at (either_differs at value words) after next)

abbrev pub compares_data : PostData → ℕ → Part (Unit {0})
compares_data at part after next =
    if_data part (next tt) (λ place. hears_request at 1 after (λ value.
    compares_place at place value after next))

abbrev pub compares : PostData → Script Then → Script Then
compares at after = hears_request at 0 after (λ part. compares_data at part after (λ done. after))

-- the claim to the cell is compared with the processor's own
abbrev pub compares_own : PostData → Script Then → (Unit {0} → Script Then) → ℕ → Script Then
compares_own at after next found =
    reports_if at (differs_from at (claim_of at.job (processor_of at)) found) after next

abbrev pub compares_claim : PostData → ℕ → Part (Unit {0})
compares_claim at part after next =
    if_data part (next tt) (λ place.
    if nat_lt place at.job.cells then asks (claim_loaded at place) (compares_own at after next)
    else next tt)

abbrev pub compares_claims : PostData → Script Then → Script Then
compares_claims at after =
    hears_request at 0 after (λ part. compares_claim at part after (λ done. after))

-- in the compact form, the task of a pass and that of the phase
abbrev pub does_in : Kind → PostData → Script Then → Script Then
does_in kind at = task_of at.job.rule kind at.job at.layout (step_of at) (processor_of at)

abbrev pub does_compact : PostData → Script Then → Script Then
does_compact at = does_in (kind_at at.phase) at

-- in the wide form
abbrev pub does_wide_in : Kind → PostData → Memo → Part Memo
does_wide_in kind at memo after next =
    wide_task_of at.job.rule kind at.job at.layout (step_of at) (processor_of at) memo next

abbrev pub does_wide : PostData → Memo → Part Memo
does_wide at = does_wide_in (kind_at at.phase) at

-- ---- the compute task

abbrev pub reads : PostData → ℕ → Part ℕ
reads at place = reads_place at.layout (step_of at) place

abbrev pub reads_after : PostData → Script Then → (ℕ → Script Then) → ℕ × ℕ → Script Then
reads_after at after next words =
    if is_late (step_of at) words.0 words.1 then after else next (newer_payload words.0 words.1)

abbrev pub register_at_post : PostData → ℕ → ℕ
register_at_post at register = register_place at.job (processor_of at) register

abbrev pub reads_operands : PostData → Instr → Part (ℕ × ℕ)
reads_operands at instr after next =
    reads_registers at.job at.layout (step_of at) (processor_of at) (sources_of instr) [] after
    (λ values. next (slice_index values 0, slice_index values 1))

abbrev pub reads_cell_of : PostData → Instr → ℕ → Part ℕ
reads_cell_of at instr first = reads_cell at.layout (step_of at) (cell_read at.job instr first)

abbrev pub raises_part : PostData → ℕ → ℕ → Part (Unit {0})
raises_part at j payload after next = asks (part_raised at j payload) (λ found. next tt)

abbrev pub raises : PostData → Request → Script Then → Script Then
raises at request = raises_request at.layout (step_of at) (processor_of at) request

abbrev pub executes_at : PostData → ℕ → Option Instr → Script Then → Script Then
executes_at at counter instr =
    executes at.job at.layout (step_of at) (processor_of at) counter instr

-- what the instruction at a counter asks for
abbrev pub decides : {R : Type 0} → JobData → LayoutData → ℕ → ℕ → ℕ → Instr → Script R →
    (Request → Script R) → Script R
decides job layout t i counter instr after next =
    reads_registers job layout t i (sources_of instr) [] after (λ values.
    reads_cell layout t (cell_read job instr (slice_index values 0)) after (λ value.
    next (decided job i counter instr (slice_index values 0) (slice_index values 1) value)))

-- its operands were heard, and the cell
abbrev pub decides_at : PostData → ℕ → Instr → Part Request
decides_at at counter instr after next =
    reads_registers at.job at.layout (step_of at) (processor_of at) (sources_of instr) [] after
    (λ values. reads_cell at.layout (step_of at) (cell_read at.job instr (slice_index values 0))
    after (λ value. next (decided at.job (processor_of at) counter instr (slice_index values 0)
    (slice_index values 1) value)))

abbrev pub decides_with : PostData → ℕ → Instr → (Request → Script Then) → ℕ × ℕ → ℕ → Script Then
decides_with at counter instr next held value =
    next (decided at.job (processor_of at) counter instr held.0 held.1 value)

abbrev pub decides_cell : PostData → ℕ → Instr → Script Then → (Request → Script Then) → ℕ × ℕ →
    Script Then
decides_cell at counter instr after next held =
    reads_cell_of at instr held.0 after (decides_with at counter instr next held)

abbrev pub computes : PostData → Script Then → Script Then
computes at = compute_task at.job at.layout (step_of at) (processor_of at)

abbrev pub after_counter : PostData → Script Then → ℕ → Script Then
after_counter at after counter = executes_at at counter (slice_get at.job.code counter) after
