use Rattle.std.proofs.Common.{◌++◌, append_assoc, ap, sym, ◌∙◌}
use Rattle.pram_world.specs.declared.event.Event.TheVariants.{Go}
use Rattle.pram_run.specs.Traces.{rows_of_effect}
use Rattle.pram_run.proofs.After.{after_more, on_ok}
use Rattle.pram_run.proofs.schedule.step.Goals as goal

pub returns : goal.returns
returns c = on_ok c.note.result c.note.ensures (λ listed front job workers es is.
    after_more job workers es _ _ _ _ (Go c.args.worker) is c.event-effect.ensures.world
    (ap (λ rows. front ++ rows)
    (listed ∙ ap (λ e. c.args.trace.now ++ rows_of_effect c.args.worker e)
    c.event-effect.ensures.effect)
    ∙ sym (append_assoc front c.args.trace.now _)))
