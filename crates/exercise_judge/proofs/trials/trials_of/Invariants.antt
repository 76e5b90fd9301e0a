use Rattle.std.proofs.Common.{List, [], drop}
use Rattle.exercise_judge.specs.Trials.{AddTrials, TrialData}
use Rattle.exercise_judge.proofs.trials.trials_of.Given as goal

-- what the entries to come add makes them all
abbrev pub invariant-loop-entry : goal.invariant-loop-entry
invariant-loop-entry l = (all : List TrialData) →
    AddTrials l.exercise (drop l.entry-index l.entry-items) l.trials.items all →
    AddTrials l.exercise l.entry-items [] all
