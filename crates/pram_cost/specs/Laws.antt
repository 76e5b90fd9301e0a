-- The laws of costs and models.
use Rattle.std.specs.Prelude.{◌≡◌, ◌↔◌, ℕ, ◌*◌, ◌≤◌, false}
use Rattle.pram_job.specs.declared.instr.Rule.TheVariants as rule
use Rattle.pram_job.specs.Job.{JobData}
use Rattle.pram_cost.specs.declared.cost.Cost.{Cost}
use Rattle.pram_cost.specs.declared.meeting.Sharing.{Sharing}
use Rattle.pram_cost.specs.declared.pram.Pram.{Pram}
use Rattle.pram_cost.specs.declared.pram.Pram.TheVariants.{Erew, Crew, CommonCrcw, PriorityCrcw}
use Rattle.pram_cost.specs.Costs.{at_work, has_access, executed, steps_with, IsCost}
use Rattle.pram_machine.specs.Instructions.{requests_in}
use Rattle.pram_machine.specs.Machine.{AllStopped}
use Rattle.pram_machine.specs.Machine.{State}
use Rattle.pram_cost.specs.Models.{strength, Accepts, AcceptsSteps, IsWeakestModel}
use Rattle.pram_step.specs.Runs.{IsReached}
use Rattle.pram_step.specs.Steps.{Agrees}

-- ---- models

abbrev pub StrongerModelsAccept : Type 0
StrongerModelsAccept =
    (weak strong : Pram) (job : JobData) (state : State) → strength weak ≤ strength strong →
    Accepts weak job state → Accepts strong job state

abbrev pub ErewAcceptsLeast : Type 0
ErewAcceptsLeast =
    (pram : Pram) (job : JobData) (state : State) → Accepts Erew job state → Accepts pram job state

abbrev pub PriorityAcceptsAll : Type 0
PriorityAcceptsAll = (job : JobData) (state : State) → Accepts PriorityCrcw job state

abbrev pub OneModelIsNeeded : Type 0
OneModelIsNeeded =
    (job : JobData) (n : ℕ) (pram other : Pram) → IsWeakestModel job n pram →
    IsWeakestModel job n other →
    pram ≡ other

-- CREW, and CRCW common, accept exactly the steps that agree with the rule of that name
abbrev pub CrewIsTheRule : Type 0
CrewIsTheRule =
    (job : JobData) (state : State) → Accepts Crew job state
    ↔ Agrees (record job { rule = rule.Crew }) (requests_in job state)

abbrev pub CommonIsTheRule : Type 0
CommonIsTheRule =
    (job : JobData) (state : State) → Accepts CommonCrcw job state
    ↔ Agrees (record job { rule = rule.Common }) (requests_in job state)

-- n steps that CREW accepts are made under rule crew, too
abbrev pub CrewRunsAreReached : Type 0
CrewRunsAreReached =
    (job : JobData) (n : ℕ) →
    AcceptsSteps Crew job n ↔ IsReached (record job { rule = rule.Crew }) n

abbrev pub CommonRunsAreReached : Type 0
CommonRunsAreReached =
    (job : JobData) (n : ℕ) →
    AcceptsSteps CommonCrcw job n ↔ IsReached (record job { rule = rule.Common }) n

-- ---- costs

-- a run has one cost
abbrev pub OneCost : Type 0
OneCost =
    (job : JobData) (cost other : Cost) → IsCost job cost → IsCost job other → cost ≡ other

abbrev pub AtMostAllWork : Type 0
AtMostAllWork = (job : JobData) (state : State) → at_work job state ≤ job.procs

abbrev pub WorkIsWithinTheProduct : Type 0
WorkIsWithinTheProduct = (job : JobData) (n : ℕ) → executed job n ≤ n * job.procs

abbrev pub StepsWithAreSteps : Type 0
StepsWithAreSteps =
    (sharing : Sharing) (job : JobData) (n : ℕ) → steps_with sharing job n ≤ n

abbrev pub StoppedMachineCostsNothing : Type 0
StoppedMachineCostsNothing =
    (sharing : Sharing) (job : JobData) (state : State) → AllStopped job state →
    (at_work job state ≡ 0) × (has_access sharing job state ≡ false) × Accepts Erew job state
