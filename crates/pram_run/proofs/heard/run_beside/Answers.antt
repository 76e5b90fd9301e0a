use Rattle.std.proofs.Common.{◌≡◌, ◌∙◌, ap, inl, inr, subst, sym, vec_len}
use Rattle.pram_board.specs.Seats.{SeatData}
use Rattle.pram_run.specs.Inner.Hearing.{RunHasEnded}
use Rattle.pram_run.specs.Inner.Obeying.{IsContinued}
use Rattle.pram_run.specs.Inner.Sharing.{plan_of, shared_task}
use Rattle.pram_run.specs.Obeyed.{HasLooked}
use Rattle.pram_run.proofs.Endings.{goes_self, goes_trans, looked_goes}
use Rattle.pram_run.proofs.Hearing.{end_later}
use Rattle.pram_run.proofs.Watches.{watched_with}
use Rattle.pram_run.proofs.heard.run_beside.Goals as goal

pub returns-in_default-clause-ran : goal.returns-in_default-clause-ran
returns-in_default-clause-ran g c = inl (tt, c.hear-heard.ensures)

pub returns-in_default-clause-goes_on : goal.returns-in_default-clause-goes_on
returns-in_default-clause-goes_on g c = goes_self c.args.seat

pub await_missing-theirs-requires : goal.await_missing-theirs-requires
await_missing-theirs-requires g c =
    ap (λ (s : SeatData). s.desk) c.split-seat.ensures.second ∙ c.requires.seat

pub returns-then-not-answers-clause-ran : goal.returns-then-not-answers-clause-ran
returns-then-not-answers-clause-ran g c = inl (tt, c.hear-heard-then-not-answers.ensures)

pub join_beside-seat-requires-clause-looker : goal.join_beside-seat-requires-clause-looker
join_beside-seat-requires-clause-looker g c κs within =
    subst (λ (s : SeatData). IsContinued s c.await_missing-theirs.result.0)
    (c.split-seat.ensures.second ∙ sym c.split-seat.ensures.first
    ∙ sym c.start_few-team.ensures.seat) (looked_goes _ _ c.await_missing-theirs.ensures.looked)

pub hear_end-requires-clause-seat : goal.hear_end-requires-clause-seat
hear_end-requires-clause-seat g c κs within =
    subst (λ (s : SeatData). IsContinued s c.read-reader.new.seat)
    (c.split-seat.ensures.second ∙ sym c.split-seat.ensures.first
    ∙ sym c.start_few-team.ensures.seat)
    (goes_trans _ _ _ (looked_goes _ _ c.await_missing-theirs.ensures.looked)
    c.read-reader.ensures.goes_on)

pub hear_end-requires-clause-answers : goal.hear_end-requires-clause-answers
hear_end-requires-clause-answers g c κs within =
    end_later (shared_task c.args.shared.now) _ _ _ c.read-reader.ensures.goes_on
    (c.await_missing-theirs.ensures.answers c.if-not-answers.false)

pub returns-clause-ran : goal.returns-clause-ran
returns-clause-ran g c =
    let task = shared_task c.args.shared.now in
    let plan = plan_of c.args.shared.now in
    let seen = c.args.shared.now in
    let team = c.start_few-team.result in
    let waits = c.await_missing-theirs in
    let given : team.seat ≡ c.args.seat =
    c.start_few-team.ensures.seat ∙ c.split-seat.ensures.first in
    let ended = c.hear_end.result in
    inr (watched_with task plan c.args.seat waits.result.0 c.read-reader.new.seat ended.0
    (vec_len team.threads) (g.P.Reads.reads c.args.reader task seen.cells.now seen.rounds)
    g.P.Listener.hears ended.1 ended.2 c.read-reader.result
    (subst (λ (s : SeatData). HasLooked s waits.result.0) c.split-seat.ensures.second
    waits.ensures.looked)
    (λ whole. waits.ensures.whole whole ∙ c.split-seat.ensures.second)
    c.read-reader.ensures.reads c.hear_end.ensures.heard
    (subst (λ (s : SeatData). RunHasEnded task plan s (vec_len team.threads)
    c.read-reader.new.seat ended.0 ended.1) given c.hear_end.ensures.ended))
