use Rattle.std.proofs.Common.{◌∙◌, None, Some, ap, false, refl}
use Rattle.command_data.specs.declared.line.Ask.TheVariants.{Alone}
use Rattle.pram_commands.proofs.Statuses.{served_as}
use Rattle.command_answers.proofs.Planned.{planned}
use Rattle.command_answers.proofs.random.serve_by_plan.Goals as goal

pub returns-in-Ok-clause-served : goal.returns-in-Ok-clause-served
returns-in-Ok-clause-served g c =
    planned (record { has_failed = g.J.Source.has_failed; remaining = g.J.Source.remaining })
    c.args.line.now _ _ c.in-Ok.status (record { job = c.args.job; plan = c.new.result; text = None; unplanned = false })
    c.do_alone.new.sources (served_as _ _ _ (Alone c.args.random.now.ask) c.requires.alone
    c.do_alone.result c.in-Ok.status c.do_alone.ensures (rw c.in-Ok.is refl) (rw c.in-Ok.is tt))
    (c.new.ensures ∙ ap (λ bytes. Some bytes) c.as_bytes-plan.ensures.value)

pub returns-clause-served : goal.returns-clause-served
returns-clause-served g c =
    planned (record { has_failed = g.J.Source.has_failed; remaining = g.J.Source.remaining })
    c.args.line.now _ _ c.tell_fault.result
    (record { job = c.args.job; plan = c.new.result; text = None; unplanned = false })
    c.do_alone.new.sources (served_as _ _ _ (Alone c.args.random.now.ask) c.requires.alone
    c.do_alone.result c.tell_fault.result c.do_alone.ensures (rw c.in-Err.is tt)
    (rw c.in-Err.is c.tell_fault.ensures))
    (c.new.ensures ∙ ap (λ bytes. Some bytes) c.as_bytes-plan.ensures.value)
