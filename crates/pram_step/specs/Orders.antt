-- A step whose processors are looked at in an order of one's own.
use Rattle.std.specs.Prelude.{ℕ, ◌<◌, List, [], ◌∷◌, slice_get}
use Rattle.std.specs.Prelude.{Option, Some, None, nat_le, if◌then◌else◌}
use Rattle.std.specs.List.{Contains}
use Rattle.std.specs.Option.{option_or, option_map}
use Rattle.pram_job.specs.Job.{JobData}
use Rattle.pram_machine.specs.declared.requests.Request.{Request}
use Rattle.pram_machine.specs.Machine.{State}
use Rattle.pram_step.specs.Steps.{written, given}

-- each processor stands in the order, at least once
abbrev pub HasAll : JobData → List ℕ → Type 0
HasAll job order = (i : ℕ) → i < job.procs → Contains order i

-- what processor i writes to the place, if anything
abbrev pub written_by : JobData → List Request → ℕ → ℕ → Option ℕ
written_by job requests place i =
    elim (slice_get requests i) [ None ↦ None | Some request ↦ written job place i request ]

-- ---- the first writer that is found

abbrev pub first_found : JobData → List Request → ℕ → List ℕ → Option ℕ
first_found job requests place [] = None
first_found job requests place (i ∷ order) =
    option_or (written_by job requests place i) (first_found job requests place order)

-- each place takes what the first writer that is found gives it
unfoldable pub after_first_found : JobData → List Request → List ℕ → State → State
after_first_found job requests order state =
    given (λ place. first_found job requests place order) state

-- ---- the least writer that is found

-- of two writers with their values the one of the lesser number
abbrev pub lesser_writer : Option (ℕ × ℕ) → Option (ℕ × ℕ) → Option (ℕ × ℕ)
lesser_writer None second = second
lesser_writer (Some first) None = Some first
lesser_writer (Some first) (Some second) =
    if nat_le first.0 second.0 then Some first else Some second

abbrev pub least_found : JobData → List Request → ℕ → List ℕ → Option (ℕ × ℕ)
least_found job requests place [] = None
least_found job requests place (i ∷ order) =
    lesser_writer (option_map (λ value. (i, value)) (written_by job requests place i))
    (least_found job requests place order)

-- each place takes what the least writer that is found gives it
unfoldable pub after_least_found : JobData → List Request → List ℕ → State → State
after_least_found job requests order state =
    given (λ place. option_map (λ found. found.1) (least_found job requests place order)) state

-- ---- one processor after another

-- processor i has written what its request says
unfoldable pub after_writes_of : JobData → List Request → ℕ → State → State
after_writes_of job requests i state = given (λ place. written_by job requests place i) state

-- the processors of the order have written one after another, each what its request says, which was
-- made before all of them
unfoldable pub after_in_turn : JobData → List Request → List ℕ → State → State
after_in_turn job requests [] state = state
after_in_turn job requests (i ∷ order) state =
    after_in_turn job requests order (after_writes_of job requests i state)
