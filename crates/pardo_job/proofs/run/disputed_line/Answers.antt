use Rattle.std.proofs.Common.{ap}
use Rattle.std.specs.Prelude.{slice_index}
use Rattle.pram_step.specs.declared.last.LastRow.{LastRow}
use Rattle.pardo_job.proofs.Ends.{disputed_in, first_within, row_at, row_within}
use Rattle.pardo_job.proofs.run.disputed_line.Goals as goal

pub bounds-last-fault : goal.bounds-last-fault
bounds-last-fault c = row_within c.args.job.now c.args.fault.step c.args.fault.first
    c.args.last.now (first_within c.args.job.now c.args.fault c.requires.conflict) c.requires.last

pub returns : goal.returns
returns c =
    let job = c.args.job.now in
    let fault = c.args.fault in
    disputed_in job (slice_index c.args.numbers.now) fault _ c.line_at.result c.requires.conflict
    (ap (λ (r : LastRow). r.index) (row_at job fault.step fault.first c.args.last.now
    (record { step = 0; index = 0 }) (first_within job fault c.requires.conflict)
    c.requires.last))
    c.line_at.ensures
