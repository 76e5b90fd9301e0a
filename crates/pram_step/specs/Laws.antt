-- The laws of the machine.
use Rattle.std.specs.Prelude.{◌≡◌, ◌≢◌, ◌⊎◌, ◌↔◌, ℕ, suc, ◌+◌, ◌^◌}
use Rattle.std.specs.Prelude.{◌<◌, ◌≤◌, List, length, slice_index, All, None}
use Rattle.pram_job.specs.declared.instr.Rule.{Rule}
use Rattle.pram_job.specs.declared.instr.Rule.TheVariants.{Priority, Crew}
use Rattle.pram_job.specs.declared.instr.Instr.{Instr}
use Rattle.pram_job.specs.Job.{JobData, IsJob, IsInstr}
use Rattle.pram_step.specs.declared.answer.Dispute.{Dispute}
use Rattle.pram_step.specs.declared.answer.Fault.{Fault}
use Rattle.pram_step.specs.declared.answer.RunAnswer.{RunAnswer}
use Rattle.pram_step.specs.declared.answer.RunAnswer.TheVariants.{Final, Conflict}
use Rattle.pram_machine.specs.declared.requests.Request.{Request}
use Rattle.pram_machine.specs.Machine.{State, start, counter_place, place_count}
use Rattle.pram_machine.specs.Machine.{register, counter, out_of_range, IsStopped, AllStopped}
use Rattle.pram_machine.specs.Instructions.{decided, HasShape, request_in, requests_in}
use Rattle.pram_step.specs.Steps.{Writes, Agrees, IsDispute, IsNext, next_state}
use Rattle.pram_step.specs.Runs.{state_after, requests_after, AgreesAfter, IsReached}
use Rattle.pram_step.specs.Runs.{IsStateAfter, IsFirstConflict, IsAnswer}
use Rattle.pram_step.specs.History.{Asks, Wins, IsWritten, last_write, part_after}
use Rattle.pram_step.specs.Orders.{HasAll, after_first_found, after_least_found, after_in_turn}

-- the two states hold the same in the registers and the counter of processor i
pub record SameOwn (job : JobData) (state other : State) (i : ℕ) : Type 0 where
  pub registers : (which : ℕ) → which < 4 → register job state i which ≡ register job other i which
  pub counters : counter job state i ≡ counter job other i

-- ---- requests

abbrev pub RequestsHaveShape : Type 0
RequestsHaveShape =
    (job : JobData) (state : State) (i : ℕ) → IsJob job →
    i < job.procs → All (λ value. value < 2 ^ 32) state →
    counter job state i ≤ out_of_range job → HasShape job i (request_in job state i)

abbrev pub DecisionsHaveShape : Type 0
DecisionsHaveShape =
    (job : JobData) (i counter first second value : ℕ) (instr : Instr)
    → IsInstr job.cells (length job.code) instr → i < 2 ^ 32 → first < 2 ^ 32 → second < 2 ^ 32
    → value < 2 ^ 32 → counter < length job.code
    → HasShape job i (decided job i counter instr first second value)

abbrev pub ReadsOneCell : Type 0
ReadsOneCell =
    (job : JobData) (state : State) (i : ℕ) → IsJob job → (cell : ℕ) × (cell < job.cells)
    × ((other : State) → SameOwn job state other i →
    slice_index state cell ≡ slice_index other cell →
    request_in job state i ≡ request_in job other i)

-- ---- the next state

abbrev pub NextIsNext : Type 0
NextIsNext =
    (job : JobData) (state : State) → IsJob job → Agrees job (requests_in job state)
    → IsNext job (requests_in job state) state (next_state job state)

abbrev pub OneNext : Type 0
OneNext =
    (job : JobData) (requests : List Request) (old new other : State)
    → IsNext job requests old new → IsNext job requests old other → new ≡ other

abbrev pub AgreesOrHasADispute : Type 0
AgreesOrHasADispute =
    (job : JobData) (requests : List Request) →
    Agrees job requests ⊎ ((dispute : Dispute) × IsDispute job requests dispute)

abbrev pub OneDispute : Type 0
OneDispute =
    (job : JobData) (requests : List Request) (dispute other : Dispute) →
    IsDispute job requests dispute →
    IsDispute job requests other → dispute ≡ other

abbrev pub PriorityAlwaysAgrees : Type 0
PriorityAlwaysAgrees =
    (job : JobData) (requests : List Request) → job.rule ≡ Priority → Agrees job requests

abbrev pub OnlyCellsClash : Type 0
OnlyCellsClash =
    (job : JobData) (state : State) (place i j value other : ℕ) →
    IsJob job → job.cells ≤ place → Writes job (requests_in job state) place i value →
    Writes job (requests_in job state) place j other →
    (i ≡ j) × (value ≡ other)

abbrev pub OrderIsFree : Type 0
OrderIsFree =
    (job : JobData) (state : State) (order : List ℕ)
    → IsJob job → job.rule ≢ Priority → Agrees job (requests_in job state) → HasAll job order
    → after_first_found job (requests_in job state) order state ≡ next_state job state

abbrev pub LeastWriterIsFound : Type 0
LeastWriterIsFound =
    (job : JobData) (state : State) (order : List ℕ) → HasAll job order →
    after_least_found job (requests_in job state) order state ≡ next_state job state

abbrev pub TurnsAreFree : Type 0
TurnsAreFree =
    (job : JobData) (state : State) (order : List ℕ)
    → IsJob job → job.rule ≢ Priority → Agrees job (requests_in job state) → HasAll job order
    → after_in_turn job (requests_in job state) order state ≡ next_state job state

-- ---- states

abbrev pub StartIsAState : Type 0
StartIsAState =
    (job : JobData) → IsStateAfter job 0 (start job)

abbrev pub NextIsAState : Type 0
NextIsAState =
    (job : JobData) (t : ℕ) (state : State) →
    IsStateAfter job t state → Agrees job (requests_in job state) →
    IsStateAfter job (t + 1) (next_state job state)

abbrev pub OneState : Type 0
OneState =
    (job : JobData) (t : ℕ) (state other : State) → IsStateAfter job t state →
    IsStateAfter job t other → state ≡ other

abbrev pub ReachedWhereNothingIsDisputed : Type 0
ReachedWhereNothingIsDisputed =
    (job : JobData) (t : ℕ) → IsReached job t ↔ ((earlier : ℕ) (dispute : Dispute) → earlier < t →
    IsDispute job (requests_after job earlier) dispute → ⊥)

abbrev pub StatesHaveAllPlaces : Type 0
StatesHaveAllPlaces =
    (job : JobData) (t : ℕ) → IsJob job → (length (state_after job t) ≡ place_count job)
    × All (λ value. value < 2 ^ 32) (state_after job t)

abbrev pub CountersStayWithin : Type 0
CountersStayWithin =
    (job : JobData) (t i : ℕ) → IsJob job → i < job.procs →
    counter job (state_after job t) i ≤ out_of_range job

abbrev pub CountersFollowRequests : Type 0
CountersFollowRequests =
    (job : JobData) (state : State) (i : ℕ) → IsJob job → length state ≡ place_count job →
    i < job.procs → counter job (next_state job state) i ≡ (request_in job state i).next

-- ---- what the steps write

abbrev pub LastWriteIsTheLast : Type 0
LastWriteIsTheLast =
    (job : JobData) (t place : ℕ) → (last_write job t place ≤ t)
    × ((earlier : ℕ) → last_write job t place ≡ suc earlier → IsWritten job earlier place)
    × ((earlier : ℕ) → earlier < t → IsWritten job earlier place → earlier < last_write job t place)

abbrev pub UnwrittenPlaceKeepsItsValue : Type 0
UnwrittenPlaceKeepsItsValue =
    (job : JobData) (t later place : ℕ) → IsJob job → place < place_count job → t ≤ later
    → ((earlier : ℕ) → t ≤ earlier → earlier < later → IsWritten job earlier place → ⊥)
    → slice_index (state_after job later) place ≡ slice_index (state_after job t) place

abbrev pub ValueIsOfTheLastWrite : Type 0
ValueIsOfTheLastWrite =
    (job : JobData) (t place : ℕ) → IsJob job → place < place_count job →
    slice_index (state_after job t) place
    ≡ slice_index (state_after job (last_write job t place)) place

abbrev pub WrittenPlaceHoldsTheValue : Type 0
WrittenPlaceHoldsTheValue =
    (job : JobData) (t place i value : ℕ) →
    IsJob job → place < place_count job → AgreesAfter job t →
    Asks job t place i value → Wins job t place i →
    slice_index (state_after job (suc t)) place ≡ value

abbrev pub ProcessorsWriteTheirRequests : Type 0
ProcessorsWriteTheirRequests =
    (job : JobData) (t place i value : ℕ) → IsJob job → i < job.procs
    → Asks job t place i value
    ↔ (((place ≡ counter_place job i) × (value ≡ part_after job t i 2))
    ⊎ ((part_after job t i 0 ≡ suc place) × (part_after job t i 1 ≡ value)))

abbrev pub WritesFit : Type 0
WritesFit =
    (job : JobData) (t place i value : ℕ) → IsJob job → Asks job t place i value →
    (place < place_count job) × (value < 2 ^ 32)

-- ---- what stops

abbrev pub StoppedMachineStays : Type 0
StoppedMachineStays =
    (job : JobData) (state : State) → AllStopped job state →
    Agrees job (requests_in job state) × (next_state job state ≡ state)

abbrev pub StoppedMachineGoesOn : Type 0
StoppedMachineGoesOn =
    (job : JobData) (t more : ℕ) (state : State) → IsStateAfter job t state → AllStopped job state →
    IsStateAfter job (t + more) state

abbrev pub UnchangedStays : Type 0
UnchangedStays =
    (job : JobData) (t more : ℕ) (state : State) →
    IsStateAfter job t state → Agrees job (requests_in job state) →
    next_state job state ≡ state → IsStateAfter job (t + more) state

abbrev pub StoppedProcessorStays : Type 0
StoppedProcessorStays =
    (job : JobData) (t more i : ℕ) → IsJob job → i < job.procs → IsStopped job (state_after job t) i
    → (counter job (state_after job (t + more)) i ≡ counter job (state_after job t) i)
    × ((request_in job (state_after job (t + more)) i).put ≡ None)

-- ---- answers

abbrev pub ConflictExcludesFinal : Type 0
ConflictExcludesFinal =
    (job : JobData) (t : ℕ) (state : State) (fault : Fault) → IsStateAfter job t state →
    IsFirstConflict job fault → t < fault.step

abbrev pub HasAnswer : Type 0
HasAnswer =
    (job : JobData) → (answer : RunAnswer) × IsAnswer job answer

abbrev pub OneAnswer : Type 0
OneAnswer =
    (job : JobData) (answer other : RunAnswer) → IsAnswer job answer →
    IsAnswer job other → answer ≡ other

-- ---- jobs that differ in their rule or their number of steps alone

abbrev pub CrewIsStrictest : Type 0
CrewIsStrictest =
    (job : JobData) (rule : Rule) (t : ℕ) (state : State) →
    IsStateAfter (record job { rule = Crew }) t state →
    IsStateAfter (record job { rule = rule }) t state

abbrev pub PriorityIsFreest : Type 0
PriorityIsFreest =
    (job : JobData) (rule : Rule) (t : ℕ) (state : State)
    → IsStateAfter (record job { rule = rule }) t state →
    IsStateAfter (record job { rule = Priority }) t state

abbrev pub NextOfCrewIsNextOfEachRule : Type 0
NextOfCrewIsNextOfEachRule =
    (job : JobData) (rule : Rule) (requests : List Request) (old new : State)
    → IsNext (record job { rule = Crew }) requests old new →
    IsNext (record job { rule = rule }) requests old new

abbrev pub NextOfEachRuleIsNextOfPriority : Type 0
NextOfEachRuleIsNextOfPriority =
    (job : JobData) (rule : Rule) (requests : List Request) (old new : State)
    → IsNext (record job { rule = rule }) requests old new →
    IsNext (record job { rule = Priority }) requests old new

abbrev pub CrewEndsAsEachRule : Type 0
CrewEndsAsEachRule =
    (job : JobData) (rule : Rule) (cells : List ℕ)
    → IsAnswer (record job { rule = Crew }) (Final cells) →
    IsAnswer (record job { rule = rule }) (Final cells)

abbrev pub PriorityEndsAsEachRule : Type 0
PriorityEndsAsEachRule =
    (job : JobData) (rule : Rule) (cells : List ℕ)
    → IsAnswer (record job { rule = rule }) (Final cells) →
    IsAnswer (record job { rule = Priority }) (Final cells)

abbrev pub ConflictIsThatOfALongerJob : Type 0
ConflictIsThatOfALongerJob =
    (job : JobData) (most : ℕ) (fault : Fault) → job.steps ≤ most → fault.step ≤ job.steps
    → IsAnswer job (Conflict fault) ↔ IsAnswer (record job { steps = most }) (Conflict fault)

abbrev pub LongerJobGoesOn : Type 0
LongerJobGoesOn =
    (job : JobData) (most t : ℕ) (state : State) → IsStateAfter job t state →
    IsStateAfter (record job { steps = most }) t state
