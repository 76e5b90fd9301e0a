use Rattle.command_answers.proofs.Unjudged.{ends_unjudged}
use Rattle.command_answers.proofs.judging.answer_judging.Goals as goal

pub returns-in-Err : goal.returns-in-Err
returns-in-Err g c = ends_unjudged (g.F.Folder.holds c.args.folder.now)
    c.args.judging.now.exercise.now _ _ c.tell_unjudged.result c.tell_unjudged.ensures.out
    c.in-Err.unjudged c.in-Err.ensures.refused c.tell_unjudged.ensures.status
