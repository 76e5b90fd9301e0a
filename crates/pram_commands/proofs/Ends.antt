-- What an opened board is, and what a watch of it tells of the job alone.
use Rattle.std.proofs.Common.{◌≡◌, ℕ, List, subst, ◌∙◌}
use Rattle.std.proofs.lemmas.List.Elements.{All-weaker}
use Rattle.std.specs.Prelude.{slice_index}
use Rattle.pram_job.specs.Job.{JobData}
use Rattle.pram_step.specs.Runs.{IsReached, state_after}
use Rattle.stop_plan.specs.Plan.{PlanData}
use Rattle.pram_board.specs.Seats.{Desk, SeatData}
use Rattle.pram_board.specs.declared.task.Task.{Task}
use Rattle.pram_run.specs.Watching.{IsTrueSight, IsWatch}
use Rattle.pram_run.specs.declared.sight.Sight.{Sight}
use Rattle.pram_commands.specs.Threads.{HasSights, IsNewBoard, IsTrueOf}

-- what an opened board is
pub job_of : (job : JobData) (plan : PlanData) (made : Desk × SeatData) →
    IsNewBoard job plan made → made.0.task.job ≡ job
job_of job plan made opened = opened.1.0

-- the same board with a seat of the same value
pub opened_as : (job : JobData) (plan : PlanData) (desk : Desk) (p q : SeatData) → q ≡ p →
    IsNewBoard job plan (desk, p) → IsNewBoard job plan (desk, q)
opened_as job plan desk p q is opened =
    (opened.0, (opened.1.0, opened.1.1, is ∙ opened.1.2))

is_true : (t : Task) (job : JobData) (sight : Sight) → t.job ≡ job →
    IsTrueSight t sight → IsTrueOf job sight
is_true t job sight same told = record {
  reached = subst (λ (j : JobData). IsReached j sight.step) same told.reached;
  value = subst (λ (j : JobData). sight.value ≡ slice_index (state_after j sight.step) sight.cell)
      same told.value;
}

pub has_sights : (t : Task) (job : JobData) (cells : List ℕ) (rounds : ℕ) (p : SeatData)
    (sights : List Sight) (later : SeatData) → t.job ≡ job →
    IsWatch t cells rounds p sights later → HasSights job cells rounds sights
has_sights t job cells rounds p sights later same watch = record {
  listed = watch.listed;
  tells =
      All-weaker (λ (sight : Sight). IsTrueSight t sight) (λ (sight : Sight). IsTrueOf job sight)
      (λ sight told. is_true t job sight same told) sights watch.tells;
  rises = watch.rises;
}
