use Rattle.std.proofs.Common.{arith, inl, inr, refl}
use Rattle.std.proofs.lemmas.Grind.{common_steps}
use Rattle.refusals.specs.declared.fault.CommandFault.TheVariants.{Memory}
use Rattle.library_core.specs.declared.fault.CallFault.TheVariants.{Command}
use Rattle.library_core.proofs.judging.refuse_unjudged.Goals as goal

pub returns-in-Ok-clause-refused : goal.returns-in-Ok-clause-refused
returns-in-Ok-clause-refused c = inl (record {
  fault = c.fault_of-fault.result;
  why = inl c.fault_of-fault.ensures;
  is = c.tell.ensures.status;
  sized = grind (arith, common_steps, c.if-answer-ne-ANSWER_SIZE.false);
  placed = c.tell.ensures.placed;
  told = c.tell.ensures.told;
})

pub returns-in-Err-clause-refused : goal.returns-in-Err-clause-refused
returns-in-Err-clause-refused c = inl (record {
  fault = Command Memory;
  why = inr refl;
  is = c.tell-in-Err.ensures.status;
  sized = grind (arith, common_steps, c.if-answer-ne-ANSWER_SIZE.false);
  placed = c.tell-in-Err.ensures.placed;
  told = c.tell-in-Err.ensures.told;
})
