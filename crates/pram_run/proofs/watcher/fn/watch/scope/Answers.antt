use Rattle.std.proofs.Common.{ℕ, List, ◌∙◌}
use Rattle.std.specs.Prelude.{IfOk}
use Rattle.stop_plan.specs.Plan.{PlanData}
use Rattle.pram_board.specs.Seats.{Desk}
use Rattle.pram_run.specs.Inner.Obeying.{AllEndOrStop}
use Rattle.pram_run.specs.Inner.Reading.{IsWatchJoined}
use Rattle.pram_run.proofs.Sharing.{of_shared}
use Rattle.pram_run.proofs.watcher.fn.watch.scope.Goals as goal

pub returns : goal.returns
returns g c =
    let later = c.watch_in.result.0 in
    let seen = c.reading.ensures in
    let board = seen.board ∙ c.new-shared.ensures.board in
    let plan = seen.plan ∙ c.new-shared.ensures.plan in record {
      ends = of_shared (λ (d : Desk) (p : PlanData) (l : List ℕ) (n : ℕ).
          IfOk c.watch_in.result.1 (λ sights. AllEndOrStop p later))
          _ _ _ _ _ _ _ _ board plan seen.cells seen.rounds c.watch_in.ensures.ends;
      sights = of_shared (λ (d : Desk) (p : PlanData) (l : List ℕ) (n : ℕ).
          IfOk c.watch_in.result.1 (λ sights.
          IsWatchJoined d.task p l n c.captures.seat sights.items later))
          _ _ _ _ _ _ _ _ board plan seen.cells seen.rounds c.watch_in.ensures.sights;
      goes_on = c.watch_in.ensures.goes_on;
    }
