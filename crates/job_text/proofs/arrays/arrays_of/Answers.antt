use Rattle.std.proofs.Common.{◌∙◌}
use Rattle.pram_job.specs.declared.instr.Instr.TheVariants.{Set}
use Rattle.job_text.proofs.Once.{once_step, once_stays}
use Rattle.job_text.proofs.arrays.arrays_of.Goals as goal
use Rattle.job_text.proofs.arrays.arrays_of.Goals.{in-Some+in_ok-arrays, in_default}

pub loop-instr-preserved : goal.loop-instr-preserved
loop-instr-preserved c = elim c.match-array_of.branch [
  | in-Some+in_ok-arrays w ↦
      once_step c.args.code.now c.loop-instr.instr-index (Set 0 0) c.loop-instr.arrays
      c.match-array_of.arrays w.in-Some.array c.loop-instr-test.true w.in-Some.ensures
      c.loop-instr.invariant (w.arrays-is ∙ w.in_ok-arrays.ensures)
  | in_default w ↦
      w.arrays-is ∙ once_stays c.args.code.now c.loop-instr.instr-index (Set 0 0)
      c.loop-instr.arrays c.loop-instr-test.true w.in_default.ensures c.loop-instr.invariant
]
