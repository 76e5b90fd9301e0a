use Rattle.std.proofs.Common.{◌≡◌, ◌-◌, length}
use Rattle.walkx.specs.Serving.{FollowsScript}
use Rattle.walkx.specs.Reads.{LooksFit, look_of, reader_script}
use Rattle.page_core.specs.Answers.{read_through}
use Rattle.page_core.proofs.reads.read.Given as goal

abbrev pub invariant-loop-step : goal.invariant-loop-step
invariant-loop-step l = record {
  follows : FollowsScript l.world.layout l.reader;
  fits : LooksFit l.world.job l.world.layout l.reader.looking;
  cell : l.reader.looking.cell ≡ l.cell;
  reads : read_through l.world.words (look_of l.world.layout l.reader.looking)
      ≡ read_through l.world.words (reader_script l.world.layout l.cell);
}

abbrev pub decreases-loop-step : goal.decreases-loop-step
decreases-loop-step l = 5 - length l.reader.looking.heard
