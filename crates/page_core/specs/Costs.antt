-- What is told of costs.
use Rattle.std.specs.Prelude.{◌≡◌, ◌⊎◌, ℕ, List, Option, Some, None}
use Rattle.pram_cost.specs.declared.cost.Cost.{Cost}
use Rattle.pram_cost.specs.declared.meeting.Meeting.{Meeting}
use Rattle.pram_cost.specs.declared.pram.Pram.{Pram}
use Rattle.pram_cost.specs.declared.pram.Pram.TheVariants.{Erew}
use Rattle.pram_cost.specs.Costs.{IsCost}
use Rattle.pram_cost.specs.Models.{IsWeakestModel, strength}
use Rattle.pram_job.specs.Job.{JobData}
use Rattle.page_core.specs.declared.codes.TheConstants.{DONE}
use Rattle.page_core.specs.declared.cost.CostTold.{CostTold}
use Rattle.page_core.specs.declared.cost.MeetingRow.{MeetingRow}
use Rattle.page_core.specs.declared.text.Refusal.{Refusal}
use Rattle.page_core.specs.Texts.{IsRefused, OfJob, coded, refused_as}

abbrev pub meeting_row : Option Meeting → MeetingRow
meeting_row None = record { step = 0; cell = 0; first = 0; second = 0 }
meeting_row (Some meeting) = record {
  step = meeting.step;
  cell = meeting.cell;
  first = meeting.first;
  second = meeting.second;
}

-- a cost, and the weakest model that accepts all steps
abbrev pub cost_row : Cost → Pram → CostTold
cost_row cost pram = record {
  status = coded DONE;
  executed = cost.work.executed;
  steps = cost.steps;
  procs = cost.procs;
  most = cost.work.most;
  reading = cost.work.reading;
  writing = cost.work.writing;
  needs = strength pram;
  same_read = meeting_row cost.meetings.same_read;
  same_write = meeting_row cost.meetings.same_write;
  other_value = meeting_row cost.meetings.other_value;
}

-- the cost of no step of no processor
abbrev pub cost_of_nothing : Cost
cost_of_nothing = record {
  steps = 0;
  procs = 0;
  work = record { executed = 0; most = 0; reading = 0; writing = 0 };
  meetings = record { same_read = None; same_write = None; other_value = None };
  conflict = None;
}

abbrev pub no_cost : Refusal → CostTold
no_cost refusal = record (cost_row cost_of_nothing Erew) { status = refused_as refusal }

-- what the run of a job costs, with the model that it needs
abbrev pub IsCostOfRun : JobData → CostTold → Type 0
IsCostOfRun job told =
    (cost : Cost) × IsCost job cost × (pram : Pram) × IsWeakestModel job cost.steps pram
    × (told ≡ cost_row cost pram)

-- what the run of the text's job costs, or why there is none
abbrev pub IsCostTold : List ℕ → CostTold → Type 0
IsCostTold text told =
    OfJob text (λ job. IsCostOfRun job told)
    ⊎ ((refusal : Refusal) × IsRefused text refusal × (told ≡ no_cost refusal))
