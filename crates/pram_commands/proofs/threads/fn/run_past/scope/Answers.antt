use Rattle.std.proofs.Common.{ℕ, List, inl, inr, subst, ◌∙◌}
use Rattle.stop_plan.specs.Plan.{PlanData}
use Rattle.pram_board.specs.Seats.{Desk, SeatData}
use Rattle.pram_run.specs.Watching.{HasWatchedWith, ReadsAndHears}
use Rattle.pram_run.proofs.Sharing.{of_shared}
use Rattle.pram_commands.proofs.Watching.{watched_as}
use Rattle.pram_commands.proofs.threads.fn.run_past.scope.Goals as goal

pub returns : goal.returns
returns g c =
    let of = c.captures in
    let desk = of.board.now in
    let plan = of.plan.now in
    let seen = c.reading-shared.ensures in
    let is_desk = seen.board ∙ c.new-shared.ensures.board in
    let is_plan = seen.plan ∙ c.new-shared.ensures.plan in
    let heard = c.run_beside-seat.result in
    let Reads = g.P.Reads.reads of.reader desk.task of.cells.now of.rounds in
    elim c.run_beside-seat.ensures.ran [
      | inl alone ↦ inl alone
      | inr all ↦ inr (record {
        made = (desk, of.seat);
        opened = c.requires.opened;
        on = record {
          later = heard.0;
          watched = subst (λ (s : SeatData). HasWatchedWith desk.task plan s heard.0
              (ReadsAndHears Reads g.P.Listener.hears heard.1 heard.2) heard.1)
              c.start_teller-seat.ensures
              (of_shared (λ (d : Desk) (p : PlanData) (l : List ℕ) (n : ℕ).
              HasWatchedWith d.task p c.start_teller-seat.result heard.0
              (ReadsAndHears Reads g.P.Listener.hears heard.1 heard.2) heard.1)
              _ _ _ _ _ _ _ _ is_desk is_plan seen.cells seen.rounds
              (watched_as _ _ c.start_teller-seat.result heard.0 heard.1 heard.2 _ _
              Reads g.P.Listener.hears (λ stops. stops.reader)
              (λ p q stops reads.
              of_shared (λ (d : Desk) (pl : PlanData) (l : List ℕ) (n : ℕ).
              g.P.Reads.reads of.reader d.task l n p q stops.reader)
              _ _ _ _ _ _ _ _ is_desk is_plan seen.cells seen.rounds reads)
              (λ stops hears. hears) all));
        };
      })
    ]
