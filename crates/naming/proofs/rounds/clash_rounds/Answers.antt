use Rattle.std.proofs.Common.{subst, sym}
use Rattle.std.specs.Prelude.{IfOk, string_bytes}
use Rattle.std.proofs.lemmas.Result.{IfOk-weaker}
use Rattle.pram_step.specs.declared.answer.RunAnswer.{RunAnswer}
use Rattle.pram_rows.proofs.Causing.{fault_known}
use Rattle.naming.specs.Rounds.{AreClashRounds}
use Rattle.naming.proofs.rounds.clash_rounds.Goals as goal

pub returns-in-Conflict : goal.returns-in-Conflict
returns-in-Conflict c =
    subst (λ (a : RunAnswer). IfOk c.rounds_before.result
    (λ rounds. AreClashRounds c.args.naming.now c.args.job.now a (string_bytes rounds)))
    (sym c.in-Conflict.is)
    (IfOk-weaker c.rounds_before.result _ _ (λ rounds is known.
    let of = fault_known c.args.job.now c.in-Conflict.fault known in is of.2 of.0)
    c.rounds_before.ensures)
