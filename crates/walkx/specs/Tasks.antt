-- What a worker does at the leaf of a processor, by the kind of the phase and the rule of writing.
-- Each task is told what follows it.
use Rattle.std.specs.Prelude.{ℕ, ◌-◌, Bool, not, ◌&&◌, ◌||◌, ◌==◌, nat_lt, nat_le, if◌then◌else◌}
use Rattle.std.specs.Prelude.{List, [], ◌∷◌, ◌++◌, slice_get, slice_index, Option, Some, None}
use Rattle.pram_job.specs.declared.instr.Instr.{Instr}
use Rattle.pram_job.specs.declared.instr.Rule.{Rule}
use Rattle.pram_job.specs.declared.instr.Rule.TheVariants.{Common, Priority, Crew}
use Rattle.pram_job.specs.Job.{JobData}
use Rattle.pram_machine.specs.declared.requests.Request.{Request}
use Rattle.pram_machine.specs.Instructions.{sources_of, cell_read, decided}
use Rattle.pram_machine.specs.Instructions.{goes_to, place_part, value_part}
use Rattle.pram_machine.specs.Machine.{register_place, counter_place}
use Rattle.pram_words.specs.declared.phases.Kind.{Kind}
use Rattle.pram_words.specs.declared.phases.Kind.TheVariants.{Compute, Apply, Verify}
use Rattle.pram_words.specs.declared.words.Word.TheVariants.{Conflict, Asked, Stored, Claim}
use Rattle.pram_words.specs.Stamps.{stamped_word, stamp_of, payload_of, older, older_word}
use Rattle.pram_words.specs.Stamps.{newer_payload}
use Rattle.pram_words.specs.Words.{LayoutData, number_of}
use Rattle.walkx.specs.declared.operation.Op.TheVariants.{Load, Max, Swap}
use Rattle.walkx.specs.Scripts.{Script, asks}

-- ---- the two words of a place

-- one of them was written in this step or a later one
abbrev pub is_late : ℕ → ℕ → ℕ → Bool
is_late t first second = nat_le t (stamp_of first) || nat_le t (stamp_of second)

-- both words are loaded, the first one first
abbrev pub loads_both : {R : Type 0} → LayoutData → ℕ → (ℕ → ℕ → Script R) → Script R
loads_both layout place next =
    asks (Load (number_of layout (Stored place 0))) (λ first.
    asks (Load (number_of layout (Stored place 1))) (λ second. next first second))

-- What a place held before step t; a late worker's task ends at once.
abbrev pub reads_place : {R : Type 0} → LayoutData → ℕ → ℕ → Script R → (ℕ → Script R) → Script R
reads_place layout t place after next =
    loads_both layout place
    (λ first second. if is_late t first second then after else next (newer_payload first second))

-- The older word of a place is swapped for the value of step t, unless one of them was written in
-- this step already.
abbrev pub writes_place : {R : Type 0} → LayoutData → ℕ → ℕ → ℕ → Script R → Script R
writes_place layout t place value after = loads_both layout place (λ first second.
    if is_late t first second then after
    else asks (Swap (number_of layout (Stored place (older first second))) (older_word first second)
    (stamped_word t value)) (λ found. after))

-- ---- the compute task of step t, for processor i

-- these registers are read in turn, after those that were read before
abbrev pub reads_registers : {R : Type 0} → JobData → LayoutData → ℕ → ℕ → List ℕ → List ℕ →
    Script R → (List ℕ → Script R) → Script R
reads_registers job layout t i [] values after next = next values
reads_registers job layout t i (register ∷ registers) values after next =
    reads_place layout t (register_place job i register) after (λ value.
    reads_registers job layout t i registers (values ++ value ∷ []) after next)

abbrev pub reads_cell : {R : Type 0} → LayoutData → ℕ → Option ℕ → Script R → (ℕ → Script R) →
    Script R
reads_cell layout t None after next = next 0
reads_cell layout t (Some cell) after next = reads_place layout t cell after next

-- the words of a request
abbrev pub raises_request : {R : Type 0} → LayoutData → ℕ → ℕ → Request → Script R → Script R
raises_request layout t i request after =
    asks (Max (number_of layout (Asked i 0)) (stamped_word t (place_part request))) (λ found.
    asks (Max (number_of layout (Asked i 1)) (stamped_word t (value_part request))) (λ found.
    asks (Max (number_of layout (Asked i 2)) (stamped_word t request.next)) (λ found. after)))

abbrev pub executes : {R : Type 0} → JobData → LayoutData → ℕ → ℕ → ℕ → Option Instr → Script R →
    Script R
executes job layout t i counter None after = raises_request layout t i (goes_to counter) after
executes job layout t i counter (Some instr) after =
    reads_registers job layout t i (sources_of instr) [] after (λ values.
    reads_cell layout t (cell_read job instr (slice_index values 0)) after (λ value.
    raises_request layout t i (decided job i counter instr (slice_index values 0)
    (slice_index values 1) value) after))

unfoldable pub compute_task : {R : Type 0} → JobData → LayoutData → ℕ → ℕ → Script R → Script R
compute_task job layout t i after =
    reads_place layout t (counter_place job i) after (λ counter.
    executes job layout t i counter (slice_get job.code counter) after)

-- ---- the request words of processor i, as long as they are of step t

abbrev pub hears_part : {R : Type 0} → LayoutData → ℕ → ℕ → ℕ → Script R → (ℕ → Script R) → Script R
hears_part layout t i j after next =
    asks (Load (number_of layout (Asked i j))) (λ found.
    if stamp_of found == t then next (payload_of found) else after)

-- the data place, if there is one, and else what follows
abbrev pub if_data : {R : Type 0} → ℕ → Script R → (ℕ → Script R) → Script R
if_data part none some = if part == 0 then none else some (part - 1)

-- the claim of processor i
abbrev pub claim_of : JobData → ℕ → ℕ
claim_of job i = job.procs - i

abbrev pub claims : {R : Type 0} → JobData → LayoutData → ℕ → ℕ → ℕ → Script R → Script R
claims job layout t i place after =
    if nat_lt place job.cells
    then asks (Max (number_of layout (Claim place)) (stamped_word t (claim_of job i)))
    (λ found. after) else after

-- ---- the apply task of the rules common and crew: the second pass

abbrev pub carries : {R : Type 0} → JobData → LayoutData → ℕ → ℕ → ℕ → ℕ → ℕ → Script R → Script R
carries job layout t i part value next after =
    if_data part (writes_place layout t (counter_place job i) next after) (λ place.
    writes_place layout t place value (writes_place layout t (counter_place job i) next after))

unfoldable pub apply_task : {R : Type 0} → JobData → LayoutData → ℕ → ℕ → Script R → Script R
apply_task job layout t i after =
    hears_part layout t i 0 after (λ part.
    hears_part layout t i 1 after (λ value. hears_part layout t i 2 after (λ next.
    carries job layout t i part value next after)))

unfoldable pub crew_apply_task : {R : Type 0} → JobData → LayoutData → ℕ → ℕ → Script R → Script R
crew_apply_task job layout t i after =
    hears_part layout t i 0 after (λ part.
    hears_part layout t i 1 after (λ value. hears_part layout t i 2 after (λ next.
    if_data part (carries job layout t i part value next after) (λ place.
    claims job layout t i place (carries job layout t i part value next after)))))

-- ---- the third pass of the rule common: verify

-- a word of step t with another value
abbrev pub differs : ℕ → ℕ → ℕ → Bool
differs t value word = (stamp_of word == t) && not (payload_of word == value)

abbrev pub reports : {R : Type 0} → LayoutData → ℕ → Script R → Script R
reports layout t after = asks (Swap (number_of layout Conflict) 0 t) (λ found. after)

unfoldable pub verify_task : {R : Type 0} → JobData → LayoutData → ℕ → ℕ → Script R → Script R
verify_task job layout t i after =
    hears_part layout t i 0 after
    (λ part. if_data part after (λ place. hears_part layout t i 1 after (λ value.
    loads_both layout place
    (λ first second. if differs t value first || differs t value second then reports layout t after
    else after))))

-- ---- the third pass of the rule crew

unfoldable pub crew_verify_task : {R : Type 0} → JobData → LayoutData → ℕ → ℕ → Script R → Script R
crew_verify_task job layout t i after =
    hears_part layout t i 0 after (λ part. if_data part after (λ place.
    if nat_lt place job.cells then asks (Load (number_of layout (Claim place))) (λ found.
    if differs t (claim_of job i) found then reports layout t after else after)
    else after))

-- ---- the second and third pass of the rule priority

unfoldable pub claim_task : {R : Type 0} → JobData → LayoutData → ℕ → ℕ → Script R → Script R
claim_task job layout t i after =
    hears_part layout t i 0 after
    (λ part. if_data part after (λ place. claims job layout t i place after))

-- A cell is written by the processor whose claim stands; a later claim means late.
unfoldable pub priority_apply_task : {R : Type 0} → JobData → LayoutData → ℕ → ℕ → Script R →
    Script R
priority_apply_task job layout t i after =
    hears_part layout t i 0 after (λ part.
    hears_part layout t i 1 after (λ value. hears_part layout t i 2 after (λ next.
    if_data part (carries job layout t i part value next after) (λ place.
    if nat_lt place job.cells then asks (Load (number_of layout (Claim place))) (λ found.
    if nat_lt t (stamp_of found) then after
    else carries job layout t i (if payload_of found == claim_of job i then part
    else 0) value next after)
    else carries job layout t i part value next after))))

-- ---- the task of a phase

unfoldable pub task_of : {R : Type 0} → Rule → Kind → JobData → LayoutData → ℕ → ℕ → Script R →
    Script R
task_of Common Compute = compute_task
task_of Common Apply = apply_task
task_of Common Verify = verify_task
task_of Priority Compute = compute_task
task_of Priority Apply = claim_task
task_of Priority Verify = priority_apply_task
task_of Crew Compute = compute_task
task_of Crew Apply = crew_apply_task
task_of Crew Verify = crew_verify_task
