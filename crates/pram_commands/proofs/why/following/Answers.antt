use Rattle.std.proofs.lemmas.Result.{IfOk-weaker}
use Rattle.pram_commands.proofs.Explaining.{follows}
use Rattle.pram_commands.proofs.why.following.Goals as goal

pub returns : goal.returns
returns c = IfOk-weaker c.explained.result _ _
    (λ back told. follows _ _ _ _ _ c.in_ok-told.told _ _ c.if-not-why.false
    c.told_steps-steps.ensures c.in_ok-told.ensures told)
    c.explained.ensures
