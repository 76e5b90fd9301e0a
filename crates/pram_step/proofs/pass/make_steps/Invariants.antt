use Rattle.pram_step.specs.Runs.{IsStateAfter}
use Rattle.pram_step.specs.Running.{AreRunning}
use Rattle.pram_step.specs.Inner.Courses.{IsRoom, listed_processors}
use Rattle.pram_step.proofs.pass.make_steps.Given as goal

abbrev pub invariant-loop-made : goal.invariant-loop-made
invariant-loop-made g l = record {
  after : IsStateAfter l.job l.made l.state;
  running : AreRunning l.job l.state (listed_processors l.room);
  room : IsRoom l.job l.room;
  seen : g.O.Observer.has_seen l.job l.made l.observer;
}
