use Rattle.std.proofs.lemmas.Option.{slice_get_within}
use Rattle.walk_memory.proofs.rows.go_all.Goals as goal

pub go_by-requires-clause-stand : goal.go_by-requires-clause-stand
go_by-requires-clause-stand g c = (
  slice_get_within c.args.job.now.code c.args.at.counter c.args.by.now.stand.instr.now
      c.requires.stand.0,
  c.requires.stand.1,
)
