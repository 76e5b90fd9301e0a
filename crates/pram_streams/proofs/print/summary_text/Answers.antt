use Rattle.std.proofs.Common.{◌∙◌, append_assoc}
use Rattle.std.proofs.lemmas.Result.{IfOk-weaker}
use Rattle.pram_streams.proofs.print.summary_text.Goals as goal

pub returns : goal.returns
returns c = IfOk-weaker c.format.result _ _ (λ text written. written ∙ simp (
  append_assoc,
  c.cells-cells.ensures.value,
  c.procs-procs.ensures.value,
  c.steps-steps.ensures.value,
  c.code.ensures.value,
  c.rule_text-mark.ensures,
  c.rule.ensures.value,
)) c.format.ensures.ok
