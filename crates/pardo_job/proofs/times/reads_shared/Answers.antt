use Rattle.std.proofs.Common.{◌∙◌, ap}
use Rattle.std.specs.List.{list_any}
use Rattle.pardo_job.specs.Times.{is_place}
use Rattle.pardo_job.proofs.Counted.{reads_nodes}
use Rattle.pardo_job.proofs.times.reads_shared.Goals as goal

pub returns : goal.returns
returns c = c.has_place.ensures ∙ ap (list_any is_place) c.nodes.ensures
    ∙ reads_nodes c.args.expr.now
