-- What a worker does at the leaf of a processor in the wide form, which has two passes and no
-- request words. What a processor asks for is worked out from what the worker remembers of it, or
-- from its own places. In the first pass, compute, its own places are written where it settles, and
-- a store is claimed; in the second one, carry, it is carried out. What follows is told what the
-- worker then knows of the processor.
use Rattle.std.specs.Prelude.{ℕ, suc, ◌++◌, Bool, not, ◌&&◌, ◌||◌, ◌==◌, nat_lt, if◌then◌else◌}
use Rattle.std.specs.Prelude.{List, [], ◌∷◌, is_some, map, slice_index, Option, Some, None, false}
use Rattle.pram_job.specs.declared.instr.Rule.{Rule}
use Rattle.pram_job.specs.declared.instr.Rule.TheVariants.{Common, Priority, Crew}
use Rattle.pram_job.specs.Job.{JobData}
use Rattle.pram_machine.specs.declared.requests.Request.{Request}
use Rattle.pram_machine.specs.Machine.{counter_place, register_place}
use Rattle.pram_words.specs.declared.phases.Kind.{Kind}
use Rattle.pram_words.specs.declared.phases.Kind.TheVariants.{Compute, Apply, Verify}
use Rattle.pram_words.specs.declared.words.Word.TheVariants.{Stored, Claim}
use Rattle.pram_words.specs.Phases.{phase_of}
use Rattle.pram_words.specs.Stamps.{stamped_word, stamp_of, payload_of, older, older_word}
use Rattle.pram_words.specs.Stamps.{newer_word}
use Rattle.pram_words.specs.declared.layout.Form.{Form}
use Rattle.pram_words.specs.declared.layout.Form.TheVariants.{Compact, Wide}
use Rattle.pram_words.specs.Words.{LayoutData, number_of}
use Rattle.walkx.specs.declared.operation.Op.TheVariants.{Load, Swap}
use Rattle.walkx.specs.Scripts.{Script, asks}
use Rattle.walkx.specs.Tasks.{is_late, loads_both, writes_place, reads_cell, claim_of, claims}
use Rattle.walkx.specs.Tasks.{differs, reports, task_of}
use Rattle.walk_memory.specs.declared.memo.Memo.{Memo}
use Rattle.walk_memory.specs.Memory.{all_registers, asked, at_start, cell_next, has_store, is_past}
use Rattle.walk_memory.specs.Memory.{loads_next, own_after, settles_in}
use Rattle.walk_memory.specs.OwnWrites.{cell_write}
use Rattle.walk_memory.specs.Learned.{loaded_memo, memo_after, carried}

-- ---- a processor's own places, before step t

-- The word of a place that was written before step t. A word of step t stands beside it; a later
-- one means late.
abbrev pub word_before : ℕ → ℕ → ℕ → ℕ
word_before t first second = if stamp_of first == t then second
    else (if stamp_of second == t then first else newer_word first second)

abbrev pub is_beyond : ℕ → ℕ → ℕ → Bool
is_beyond t first second = nat_lt t (stamp_of first) || nat_lt t (stamp_of second)

abbrev pub hears_before : {R : Type 0} → LayoutData → ℕ → ℕ → Script R → (ℕ → Script R) → Script R
hears_before layout t place late next = loads_both layout place (λ first second.
    if is_beyond t first second then late else next (word_before t first second))

-- those of these places in turn, after those that were heard before
abbrev pub hears_words : {R : Type 0} → LayoutData → ℕ → List ℕ → List ℕ → Script R →
    (List ℕ → Script R) → Script R
hears_words layout t [] words late next = next words
hears_words layout t (place ∷ places) words late next =
    hears_before layout t place late (λ word.
    hears_words layout t places (words ++ word ∷ []) late next)

-- its counter's, and those of its registers
abbrev pub own_places : JobData → ℕ → List ℕ
own_places job i = counter_place job i ∷ map (register_place job i) all_registers

-- what they tell is then known of it, which went on alone since
abbrev pub loads_memo : {R : Type 0} → JobData → LayoutData → ℕ → ℕ → Script R →
    (Memo → Script R) → Script R
loads_memo job layout t i late next =
    hears_words layout t (own_places job i) [] late (λ words. next (loaded_memo job t i words))

-- remembered, or loaded
abbrev pub knows : {R : Type 0} → JobData → LayoutData → ℕ → ℕ → Memo → Script R →
    (Memo → Script R) → Script R
knows job layout t i memo late next =
    if suc memo.step == t then next memo else loads_memo job layout t i late next

-- ---- compute: where the processor settles, those of its places are written that are no longer
-- what their words tell; and the one that tells the step: the register that takes what was read,
-- or, where nothing was read, the counter

abbrev pub is_put_to : ℕ → Option (ℕ × ℕ) → Bool
is_put_to place None = false
is_put_to place (Some write) = write.0 == place

abbrev pub put_if : Bool → ℕ → ℕ → List (ℕ × ℕ) → List (ℕ × ℕ)
put_if so place value others = if so then (place, value) ∷ others else others

-- register r, known so, after a request
abbrev pub lands_register : JobData → ℕ → Memo → Request → ℕ → Bool
lands_register job i known request r =
    (is_some (cell_next job known.own) && is_put_to (register_place job i r) request.put)
    || not (slice_index (own_after job i known.own request).registers r
    == slice_index known.told.registers r)

abbrev pub lands_counter : JobData → Memo → Request → Bool
lands_counter job known request =
    not (is_some (cell_next job known.own)) || not (request.next == known.told.counter)

abbrev pub registers_landing : JobData → ℕ → Memo → Request → List ℕ → List (ℕ × ℕ) →
    List (ℕ × ℕ)
registers_landing job i known request [] others = others
registers_landing job i known request (r ∷ registers) others =
    put_if (lands_register job i known request r) (register_place job i r)
    (slice_index (own_after job i known.own request).registers r)
    (registers_landing job i known request registers others)

-- the places that are written, and the values
abbrev pub landings : JobData → ℕ → ℕ → Memo → Request → List (ℕ × ℕ)
landings job t i known request = if settles_in job t known.settled known.own
    then registers_landing job i known request all_registers
    (put_if (lands_counter job known request) (counter_place job i) request.next [])
    else []

abbrev pub writes_each : {R : Type 0} → LayoutData → ℕ → List (ℕ × ℕ) → Script R → Script R
writes_each layout t [] after = after
writes_each layout t (write ∷ writes) after =
    writes_place layout t write.0 write.1 (writes_each layout t writes after)

abbrev pub writes_own : {R : Type 0} → JobData → LayoutData → ℕ → ℕ → Memo → Request → Script R →
    Script R
writes_own job layout t i known request after =
    writes_each layout t (landings job t i known request) after

-- what is done with a write, if there is one, or what follows
abbrev pub if_write : {R : Type 0} → Option (ℕ × ℕ) → Script R → (ℕ → ℕ → Script R) → Script R
if_write None none some = none
if_write (Some write) none some = some write.0 write.1

-- whoever is late at the cell forgets the processor
abbrev pub computes_own : {R : Type 0} → JobData → LayoutData → ℕ → ℕ → Memo → (Memo → Script R) →
    (Memo → Request → Script R) → Script R
computes_own job layout t i memo after next =
    if is_past (phase_of t Compute) memo then after memo
    else knows job layout t i memo (after memo) (λ known.
    reads_cell layout t (cell_next job known.own) (after at_start) (λ value.
    next known (asked job i known.own value)))

unfoldable pub own_task : {R : Type 0} → JobData → LayoutData → ℕ → ℕ → Memo →
    (Memo → Script R) → Script R
own_task job layout t i memo after = computes_own job layout t i memo after (λ known request.
    writes_own job layout t i known request (after (memo_after job t i known request)))

-- with claims: that of a store is made, so that all stand when stores are carried out
abbrev pub claims_store : {R : Type 0} → JobData → LayoutData → ℕ → ℕ → Request → Script R →
    Script R
claims_store job layout t i request after =
    if_write (cell_write job request.put) after (λ cell value. claims job layout t i cell after)

unfoldable pub own_claim_task : {R : Type 0} → JobData → LayoutData → ℕ → ℕ → Memo →
    (Memo → Script R) → Script R
own_claim_task job layout t i memo after =
    computes_own job layout t i memo after (λ known request.
    claims_store job layout t i request
    (writes_own job layout t i known request (after (memo_after job t i known request))))

-- ---- carry: a processor's store

-- worked out from its own places: its cell and value
abbrev pub loads_store : {R : Type 0} → JobData → LayoutData → ℕ → ℕ → Script R →
    (ℕ → ℕ → Script R) → Script R
loads_store job layout t i after next =
    loads_memo job layout t i after (λ known.
    if loads_next job known.own then after
    else if_write (cell_write job (asked job i known.own 0).put) after next)

-- remembered, or loaded
abbrev pub stores : {R : Type 0} → JobData → LayoutData → ℕ → ℕ → Memo → Script R →
    (ℕ → ℕ → Script R) → Script R
stores job layout t i memo after next =
    if is_past (phase_of t Verify) memo then after
    else (if has_store t memo then if_write memo.store after next
    else loads_store job layout t i after next)

-- the step is reported where a word is of it and has another payload
abbrev pub reports_other : {R : Type 0} → LayoutData → ℕ → Bool → Script R → Script R
reports_other layout t other after = if other then reports layout t after else after

-- The cell is written as any place. Whoever finds it written in this step compares: heard so, or
-- found in place of the word that was to be swapped.
abbrev pub writes_compared : {R : Type 0} → LayoutData → ℕ → ℕ → ℕ → Script R → Script R
writes_compared layout t cell value after = loads_both layout cell (λ first second.
    if is_late t first second
    then reports_other layout t (differs t value first || differs t value second) after
    else asks (Swap (number_of layout (Stored cell (older first second))) (older_word first second)
    (stamped_word t value)) (λ found. reports_other layout t (differs t value found) after))

unfoldable pub carry_task : {R : Type 0} → JobData → LayoutData → ℕ → ℕ → Memo →
    (Memo → Script R) → Script R
carry_task job layout t i memo after =
    stores job layout t i memo (after memo) (λ cell value.
    writes_compared layout t cell value (after (carried t memo)))

-- All claims stand. Who finds another's reports the step.
unfoldable pub crew_carry_task : {R : Type 0} → JobData → LayoutData → ℕ → ℕ → Memo →
    (Memo → Script R) → Script R
crew_carry_task job layout t i memo after =
    stores job layout t i memo (after memo) (λ cell value.
    asks (Load (number_of layout (Claim cell))) (λ found.
    reports_other layout t (differs t (claim_of job i) found)
    (writes_place layout t cell value (after (carried t memo)))))

-- The one whose claim stands writes. A later claim means late.
unfoldable pub priority_carry_task : {R : Type 0} → JobData → LayoutData → ℕ → ℕ → Memo →
    (Memo → Script R) → Script R
priority_carry_task job layout t i memo after =
    stores job layout t i memo (after memo) (λ cell value.
    asks (Load (number_of layout (Claim cell))) (λ found.
    if nat_lt t (stamp_of found) then after memo
    else (if payload_of found == claim_of job i
    then writes_place layout t cell value (after (carried t memo))
    else after (carried t memo))))

-- ---- the task of a phase; the second phase of a step is none of the wide form's

abbrev pub no_task : {R : Type 0} → JobData → LayoutData → ℕ → ℕ → Memo → (Memo → Script R) →
    Script R
no_task job layout t i memo after = after memo

unfoldable pub wide_task_of : {R : Type 0} → Rule → Kind → JobData → LayoutData → ℕ → ℕ → Memo →
    (Memo → Script R) → Script R
wide_task_of Common Compute = own_task
wide_task_of Common Apply = no_task
wide_task_of Common Verify = carry_task
wide_task_of Priority Compute = own_claim_task
wide_task_of Priority Apply = no_task
wide_task_of Priority Verify = priority_carry_task
wide_task_of Crew Compute = own_claim_task
wide_task_of Crew Apply = no_task
wide_task_of Crew Verify = crew_carry_task

-- by the form of the board; in the compact form nothing is learned
unfoldable pub task_in : {R : Type 0} → Form → Rule → Kind → JobData → LayoutData → ℕ → ℕ → Memo →
    (Memo → Script R) → Script R
task_in Compact rule kind job layout t i memo after = task_of rule kind job layout t i (after memo)
task_in (Wide grain) rule kind job layout t i memo after =
    wide_task_of rule kind job layout t i memo after
