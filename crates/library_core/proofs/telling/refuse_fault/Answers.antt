use Rattle.std.proofs.Common.{arith, refl, inl, inr}
use Rattle.std.proofs.lemmas.Grind.{common_steps}
use Rattle.refusals.specs.declared.fault.CommandFault.TheVariants.{Memory}
use Rattle.library_core.specs.declared.fault.CallFault.TheVariants.{Command}
use Rattle.library_core.proofs.telling.refuse_fault.Goals as goal

pub returns-in-Ok-clause-refused : goal.returns-in-Ok-clause-refused
returns-in-Ok-clause-refused c = inl (record {
  fault = c.args.fault;
  why = inl refl;
  is = c.tell.ensures.status;
  sized = grind (arith, common_steps, c.if-answer-ne-ANSWER_SIZE.false);
  placed = c.tell.ensures.placed;
  told = c.tell.ensures.told;
})

pub returns-in-Err-clause-refused : goal.returns-in-Err-clause-refused
returns-in-Err-clause-refused c = inl (record {
  fault = Command Memory;
  why = inr refl;
  is = c.tell-in-Err.ensures.status;
  sized = grind (arith, common_steps, c.if-answer-ne-ANSWER_SIZE.false);
  placed = c.tell-in-Err.ensures.placed;
  told = c.tell-in-Err.ensures.told;
})
