-- What a step does, and when it is against the rule. All is said of the list of requests, one of
-- each processor.
use Rattle.std.specs.Prelude.{◌≡◌, ℕ, ◌+◌, ◌<◌, ◌≤◌, ◌==◌}
use Rattle.std.specs.Prelude.{if◌then◌else◌, List, [], ◌∷◌, length, map, slice_get}
use Rattle.std.specs.Prelude.{slice_index, Option, Some, None, unwrap_or, MatchOption}
use Rattle.std.specs.List.{range_with_len}
use Rattle.std.specs.Option.{option_or}
use Rattle.pram_job.specs.declared.instr.Rule.{Rule}
use Rattle.pram_job.specs.declared.instr.Rule.TheVariants.{Common, Priority, Crew}
use Rattle.pram_job.specs.Job.{JobData}
use Rattle.pram_step.specs.declared.answer.Dispute.{Dispute}
use Rattle.pram_machine.specs.declared.requests.Request.{Request}
use Rattle.pram_step.specs.declared.state.StepFault.{StepFault}
use Rattle.pram_step.specs.declared.state.StepFault.TheVariants.{Conflict, Memory}
use Rattle.pram_machine.specs.Machine.{State, counter_place}
use Rattle.pram_machine.specs.Instructions.{requests_in}
use Rattle.pram_step.specs.Disputes.{Clash, IsLeastClash}

-- what processor i writes to a place; its next counter is a write to its counter's place
abbrev pub written : JobData → ℕ → ℕ → Request → Option ℕ
written job place i request = if place == counter_place job i then Some request.next
    else (elim request.put [
      | None ↦ None
      | Some write ↦ if write.0 == place then Some write.1 else None
    ])

-- the writers of a place: processor i writes the value to it
pub record Writes (job : JobData) (requests : List Request) (place i value : ℕ) : Type 0 where
  pub request : Request
  pub request_is : slice_get requests i ≡ Some request
  pub writes : written job place i request ≡ Some value

-- ---- when a step agrees

-- processor i writes the value to the cell
abbrev pub WritesCell : JobData → List Request → ℕ → ℕ → ℕ → Type 0
WritesCell job requests cell i value = (cell < job.cells) × Writes job requests cell i value

-- processors i and j write to the cell against the rule
abbrev pub Clashes : JobData → List Request → ℕ → ℕ → ℕ → Type 0
Clashes job requests = Clash job.rule (WritesCell job requests)

-- the step agrees with the rule
abbrev pub Agrees : JobData → List Request → Type 0
Agrees job requests = (cell i j : ℕ) → Clash job.rule (WritesCell job requests) cell i j → ⊥

-- the dispute of a step that does not agree
abbrev pub IsDispute : JobData → List Request → Dispute → Type 0
IsDispute job requests = IsLeastClash job.rule (WritesCell job requests)

-- they agree, or this is their dispute
abbrev pub IsVerdict : JobData → List Request → Option Dispute → Type 0
IsVerdict job requests found = MatchOption found (Agrees job requests) (IsDispute job requests)

-- A step that is refused is in conflict, by its dispute. Want of memory says nothing of the
-- requests.
abbrev pub IsStepFault : JobData → List Request → StepFault → Type 0
IsStepFault job requests (Conflict cell first second) =
    IsDispute job requests (record { cell = cell; first = first; second = second })
IsStepFault job requests Memory = Unit {0}

-- ---- the next state

-- Processor i's write counts: with rule priority that of the least writer, else that of any.
abbrev pub Counts : Rule → JobData → List Request → ℕ → ℕ → Type 0
Counts Common job requests place i = Unit {0}
Counts Priority job requests place i = (j value : ℕ) → Writes job requests place j value → i ≤ j
Counts Crew job requests place i = Unit {0}

-- Each place that a write counts for holds its value, each other place what it held.
pub record IsNext (job : JobData) (requests : List Request) (old new : State) : Type 0 where
  pub len : length new ≡ length old
  pub written_to : (place i value : ℕ) → place < length old → Writes job requests place i value →
      Counts job.rule job requests place i → slice_index new place ≡ value
  pub kept : (place : ℕ) → place < length old →
      ((i value : ℕ) → Writes job requests place i value → ⊥) →
      slice_index new place ≡ slice_index old place

-- the value that the first of these processors that writes to the place gives it, the first being
-- processor i
abbrev pub first_written : JobData → ℕ → ℕ → List Request → Option ℕ
first_written job place i [] = None
first_written job place i (request ∷ requests) =
    option_or (written job place i request) (first_written job place (i + 1) requests)

-- each place holds what it is given, or else what it held
abbrev pub given : (ℕ → Option ℕ) → State → State
given values state = map (λ place. unwrap_or (values place) (slice_index state place))
    (range_with_len 0 (length state))

-- The one next state where the step agrees, as a function of all states.
unfoldable pub after_requests : JobData → List Request → State → State
after_requests job requests state = given (λ place. first_written job place 0 requests) state

abbrev pub next_state : JobData → State → State
next_state job state = after_requests job (requests_in job state) state
