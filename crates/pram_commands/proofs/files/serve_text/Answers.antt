use Rattle.std.proofs.Common.{None, false}
use Rattle.pram_commands.proofs.Failing.{serves_text}
use Rattle.pram_commands.specs.contracts.bytes.BytesSource.TheImpl.{ghosts}
use Rattle.pram_commands.proofs.files.serve_text.Goals as goal

pub returns : goal.returns
returns g c = serves_text _ ghosts
    (record { has_failed = g.F.File.Source.has_failed; remaining = g.F.File.Source.remaining })
    c.args.text.now _ _ _ (record { job = c.new-job.result; plan = c.plan_of-plan.result; text = None; unplanned = false })
    c.serve.new.sources c.serve.ensures c.new-job.ensures c.plan_of-plan.ensures.plan
