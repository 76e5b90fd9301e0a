use Rattle.pram_run.proofs.Advancing.{no_rows}
use Rattle.pram_run.proofs.schedule.Replaying.advance.Goals as goal

pub go_round-requires-clause-rows : goal.go_round-requires-clause-rows
go_round-requires-clause-rows c = no_rows _ (rw c.in-None.is at c.split_first.ensures.cases)

pub returns-in-Some : goal.returns-in-Some
returns-in-Some c = c.begin_row.ensures c.args.trace.now
