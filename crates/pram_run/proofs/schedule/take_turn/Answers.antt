use Rattle.std.proofs.Common.{sym, ◌∙◌}
use Rattle.pram_run.proofs.After.{on_ok, turn_taken}
use Rattle.pram_run.proofs.schedule.take_turn.Goals as goal

pub returns-then-is_going : goal.returns-then-is_going
returns-then-is_going c = on_ok c.step.result c.step.ensures (λ next front job workers es is.
    turn_taken job workers es _ _ _ _ c.args.worker is (sym c.is_going.ensures ∙ c.if-is_going.true)
    (next front job workers es is))
