use Rattle.pram_run.specs.Running.{IsUnfinished}
use Rattle.pram_run.proofs.Hearing.{any_all, ends_all}
use Rattle.pram_run.proofs.heard.last_answer.Goals as goal

pub returns-then-all_started-clause-all : goal.returns-then-all_started-clause-all
returns-then-all_started-clause-all g c =
    any_all c.answer-told.result IsUnfinished _ c.if-all_started.true

pub returns-then-tells_end-clause-all : goal.returns-then-tells_end-clause-all
returns-then-tells_end-clause-all g c =
    ends_all c.answer-told.result _ (c.tells_end.ensures.0 c.if-tells_end.true)
