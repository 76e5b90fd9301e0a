-- The parts of the tasks of the wide form, by their results.
use Rattle.std.specs.Prelude.{ℕ, Bool, true, false, not, ◌||◌, ◌==◌, nat_lt, if◌then◌else◌, List}
use Rattle.std.specs.Prelude.{[], ◌∷◌, slice_get, slice_index, is_none, Option, Some, None}
use Rattle.std.specs.Prelude.{option_map, Result, Ok, Err}
use Rattle.pram_job.specs.Job.{JobData}
use Rattle.pram_job.specs.declared.instr.Instr.{Instr}
use Rattle.pram_job.specs.declared.instr.Rule.{Rule}
use Rattle.pram_job.specs.declared.instr.Rule.TheVariants.{Common, Priority, Crew}
use Rattle.pram_machine.specs.declared.requests.Request.{Request}
use Rattle.pram_machine.specs.Machine.{counter_place, register_place}
use Rattle.pram_words.specs.Stamps.{stamp_of, payload_of}
use Rattle.walkx.specs.Driving.{Part}
use Rattle.walk_memory.specs.Inner.Posts.{PostData, step_of, processor_of}
use Rattle.walk_memory.specs.OwnWrites.{cell_write}
use Rattle.walkx.specs.Parts.{both_of, claim_loaded, differs_from, either_differs, reports_if}
use Rattle.walkx.specs.Parts.{swap_of, writes}
use Rattle.walkx.specs.declared.left.Left.{Left}
use Rattle.walkx.specs.declared.left.Left.TheVariants.{Late}
use Rattle.walk_memory.specs.declared.memo.Memo.{Memo}
use Rattle.walk_memory.specs.declared.memo.Own.{Own}
use Rattle.walk_memory.specs.Memory.{all_registers, asked_by, at_start, cell_named, is_load}
use Rattle.walk_memory.specs.Memory.{is_past}
use Rattle.walkx.specs.Passes.{claims_store, hears_before, hears_words, is_beyond, knows}
use Rattle.walkx.specs.Passes.{loads_memo, loads_store, own_places, stores, word_before, writes_own}
use Rattle.walk_memory.specs.Turned.{stored}
use Rattle.walk_memory.specs.Learned.{memo_after}
use Rattle.walkx.specs.Scripts.{Script, asks}
use Rattle.walkx.specs.Tasks.{claim_of, is_late, reads_cell}
use Rattle.walkx.specs.Walk.{Then}

-- ---- what is known of the processor before the step

-- the word of a place of its own that was written before the step
abbrev pub heard_before : PostData → ℕ → Part ℕ
heard_before at place after next = hears_before at.layout (step_of at) place after next

-- both were heard
abbrev pub heard_after : PostData → Script Then → (ℕ → Script Then) → ℕ × ℕ → Script Then
heard_after at after next words =
    if is_beyond (step_of at) words.0 words.1 then after
    else next (word_before (step_of at) words.0 words.1)

-- those of all its places
abbrev pub hears_own : PostData → Part (List ℕ)
hears_own at after next =
    hears_words at.layout (step_of at) (own_places at.job (processor_of at)) [] after next

abbrev pub memo_loaded : PostData → Part Memo
memo_loaded at after next = loads_memo at.job at.layout (step_of at) (processor_of at) after next

abbrev pub memo_known : PostData → Memo → Part Memo
memo_known at memo after next =
    knows at.job at.layout (step_of at) (processor_of at) memo after next

-- what the cell held that it reads, or 0
abbrev pub reads_next : PostData → Option ℕ → Part ℕ
reads_next at cell after next = reads_cell at.layout (step_of at) cell after next

-- what it asks for by this instruction at its counter, the cell having held this
abbrev pub asked_with : PostData → Memo → Option Instr → ℕ → Request
asked_with at known instr value = asked_by at.job (processor_of at) known.own instr value

-- ---- the first pass

-- one place of its own is written, if it is to be
abbrev pub writes_if : PostData → Bool → ℕ → ℕ → Part (Unit {0})
writes_if at so place value after next = if so then writes at place value after next else next tt

-- what is written where the processor settles
abbrev pub own_written : PostData → Memo → Request → Part (Unit {0})
own_written at known request after next =
    writes_own at.job at.layout (step_of at) (processor_of at) known request (next tt)

-- The same by what is known once the turn is taken, but for what its words tell, which is as it
-- was: those of its places are written that are no longer so, and the one that tells the step, this
-- register or, if there is none, the counter.
abbrev pub register_tells : Option ℕ → ℕ → Bool
register_tells None r = false
register_tells (Some register) r = register == r

abbrev pub register_due : Memo → Option ℕ → ℕ → Bool
register_due taken tells r =
    register_tells tells r
    || not (slice_index taken.own.registers r == slice_index taken.told.registers r)

abbrev pub counter_due : Memo → Option ℕ → Bool
counter_due taken tells = is_none tells || not (taken.own.counter == taken.told.counter)

abbrev pub register_landed : PostData → Memo → Option ℕ → ℕ → Part (Unit {0})
register_landed at taken tells r =
    writes_if at (register_due taken tells r) (register_place at.job (processor_of at) r)
    (slice_index taken.own.registers r)

abbrev pub counter_landed : PostData → Memo → Option ℕ → Part (Unit {0})
counter_landed at taken tells =
    writes_if at (counter_due taken tells) (counter_place at.job (processor_of at))
    taken.own.counter

-- these registers, and then the counter
abbrev pub landed_from : PostData → Memo → Option ℕ → List ℕ → Part (Unit {0})
landed_from at taken tells [] after next = counter_landed at taken tells after next
landed_from at taken tells (r ∷ registers) after next =
    register_landed at taken tells r after
    (λ done. landed_from at taken tells registers after next)

abbrev pub own_landed : PostData → Memo → Option ℕ → Part (Unit {0})
own_landed at taken tells after next = landed_from at taken tells all_registers after next

-- a store is claimed, by the rule
abbrev pub store_claimed : Rule → PostData → Request → Part (Unit {0})
store_claimed Common at request after next = next tt
store_claimed Priority at request after next =
    claims_store at.job at.layout (step_of at) (processor_of at) request (next tt)
store_claimed Crew at request after next =
    claims_store at.job at.layout (step_of at) (processor_of at) request (next tt)

abbrev pub own_made : Rule → PostData → Memo → Request → Part (Unit {0})
own_made rule at known request after next =
    store_claimed rule at request after (λ done. own_written at known request after next)

abbrev pub learned : PostData → Memo → Request → Memo
learned at known request = memo_after at.job (step_of at) (processor_of at) known request

-- the cell that it claims, if it claims one
abbrev pub claimed_cell : Rule → JobData → Request → Option ℕ
claimed_cell Common job request = None
claimed_cell Priority job request = option_map (λ write. write.0) (cell_write job request.put)
claimed_cell Crew job request = option_map (λ write. write.0) (cell_write job request.put)

-- what follows what is known, and what is asked for
abbrev pub made_after : Rule → PostData → (Memo → Script Then) → Memo → Request → Script Then
made_after rule at next known request =
    own_made rule at known request (next known) (λ done. next (learned at known request))

-- by its instruction, of a processor that is known before the step
abbrev pub does_own_by : PostData → Memo → Option Instr → Part Memo
does_own_by at known instr after next =
    reads_next at (cell_named at.job known.own instr) (next at_start)
    (λ value. made_after at.job.rule at next known (asked_with at known instr value))

abbrev pub own_known : PostData → (Memo → Script Then) → Memo → Script Then
own_known at next known =
    does_own_by at known (slice_get at.job.code known.own.counter) (next known) next

abbrev pub does_own : PostData → Memo → Part Memo
does_own at memo after next = if is_past at.phase memo then next memo
    else memo_known at memo (next memo) (own_known at next)

-- ---- the second pass: the store

abbrev pub store_loaded : PostData → Part (ℕ × ℕ)
store_loaded at after next =
    loads_store at.job at.layout (step_of at) (processor_of at) after
    (λ cell value. next (cell, value))

-- the store that is remembered, if there is one, or that of this instruction
abbrev pub kept_as : Option (ℕ × ℕ) → Result (ℕ × ℕ) Left
kept_as None = Err Late
kept_as (Some write) = Ok write

abbrev pub store_by : PostData → Own → Option Instr → Result (ℕ × ℕ) Left
store_by at own instr = if is_load instr then Err Late
    else kept_as (cell_write at.job (asked_by at.job (processor_of at) own instr 0).put)

abbrev pub stores_of : PostData → Memo → Part (ℕ × ℕ)
stores_of at memo after next =
    stores at.job at.layout (step_of at) (processor_of at) memo after
    (λ cell value. next (cell, value))

-- the cell is written, unless it was in this step or later: whether another value of the step was
-- found there
abbrev pub swaps_after : PostData → ℕ → ℕ → (Bool → Script Then) → ℕ × ℕ → Script Then
swaps_after at cell value next words =
    if is_late (step_of at) words.0 words.1 then next (either_differs at value words)
    else asks (swap_of at cell value words.0 words.1) (λ found. next (differs_from at value found))

abbrev pub swaps : PostData → ℕ → ℕ → Part Bool
swaps at cell value after next = both_of at cell after (swaps_after at cell value next)

-- it is reported where it was
abbrev pub store_compared : PostData → ℕ × ℕ → Part (Unit {0})
store_compared at write after next =
    swaps at write.0 write.1 after (λ other. reports_if at other after next)

-- the claim to the cell was heard: another's is reported
abbrev pub store_reported : PostData → ℕ × ℕ → ℕ → Part (Unit {0})
store_reported at write found after next =
    reports_if at (differs_from at (claim_of at.job (processor_of at)) found) after
    (λ done. writes at write.0 write.1 after next)

abbrev pub crew_store : PostData → ℕ × ℕ → Part (Unit {0})
crew_store at write after next =
    asks (claim_loaded at write.0) (λ found. store_reported at write found after next)

-- the one whose claim stands writes; a later claim means late
abbrev pub owned_written : PostData → ℕ × ℕ → ℕ → Part (Unit {0})
owned_written at write found after next =
    if payload_of found == claim_of at.job (processor_of at)
    then writes at write.0 write.1 after next else next tt

abbrev pub store_owned : PostData → ℕ × ℕ → ℕ → Part (Unit {0})
store_owned at write found late next =
    if nat_lt (step_of at) (stamp_of found) then late else owned_written at write found late next

abbrev pub priority_store : PostData → ℕ × ℕ → Part (Unit {0})
priority_store at write late next =
    asks (claim_loaded at write.0) (λ found. store_owned at write found late next)

-- the store is carried out by the rule
abbrev pub store_carried : Rule → PostData → ℕ × ℕ → Part (Unit {0})
store_carried Common = store_compared
store_carried Priority = priority_store
store_carried Crew = crew_store

-- The same up to the report of another's write, and whether one is due: the claim was heard under
-- crew, where all claims stand
abbrev pub crew_looked : PostData → ℕ × ℕ → ℕ → Part Bool
crew_looked at write found after next =
    if differs_from at (claim_of at.job (processor_of at)) found then next true
    else writes at write.0 write.1 after (λ done. next false)

abbrev pub crew_until : PostData → ℕ × ℕ → Part Bool
crew_until at write after next =
    asks (claim_loaded at write.0) (λ found. crew_looked at write found after next)

-- under priority none is
abbrev pub priority_until : PostData → ℕ × ℕ → Part Bool
priority_until at write after next = priority_store at write after (λ done. next false)

-- by the rule
abbrev pub carried_until : Rule → PostData → ℕ × ℕ → Part Bool
carried_until Common at write = swaps at write.0 write.1
carried_until Priority at write = priority_until at write
carried_until Crew at write = crew_until at write

-- What is left where one is due: the report, and then the write, where there was none yet.
abbrev pub write_left : Rule → PostData → ℕ × ℕ → Script Then → Script Then
write_left Common at write last = last
write_left Priority at write last = last
write_left Crew at write last = writes at write.0 write.1 last (λ done. last)

abbrev pub store_left : Rule → PostData → ℕ × ℕ → Script Then → Script Then
store_left rule at write last = reports_if at true last (λ done. write_left rule at write last)

abbrev pub does_store : PostData → Memo → Part Memo
does_store at memo after next = stores_of at memo (next memo)
    (λ write. store_carried at.job.rule at write (next memo) (λ done. next (stored at memo)))
