use Rattle.pram_commands.proofs.Failing.{serves}
use Rattle.pram_commands.proofs.files.serve_files_alone.Goals as goal

pub returns : goal.returns
returns g c = serves _
    (record { has_failed = g.F.File.Source.has_failed; remaining = g.F.File.Source.remaining })
    _ _ _ c.sources_of.result c.serve_alone.new.sources c.serve_alone.ensures c.sources_of.ensures.job
    c.sources_of.ensures.plan
