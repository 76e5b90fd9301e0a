use Rattle.std.proofs.Common.{ap, arith}
use Rattle.pram_job.specs.Job.{JobData}
use Rattle.pardo_program.specs.Program.{shared_cells}
use Rattle.library_boards.proofs.Giving.{draft_within}
use Rattle.library_boards.proofs.given.given_program.Goals as goal

pub job_with-requires-clause-within : goal.job_with-requires-clause-within
job_with-requires-clause-within c =
    let inside = draft_within c.in-Ok.field-0.program c.in-Ok.field-0.job
    c.in-Ok.field-0.numbers.items c.in-Ok.ensures.draft in
    omega (
      arith,
      inside,
      ap shared_cells c.arrays.ensures,
      ap (λ (j : JobData). j.cells) c.longest-own.ensures,
    )
