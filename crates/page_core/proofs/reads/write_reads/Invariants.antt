use Rattle.std.proofs.Common.{◌≡◌, ℕ, ◌<◌, slice_get, Some}
use Rattle.page_core.specs.Answers.{read_in}
use Rattle.page_core.specs.Findings.{IsKeptBehind}
use Rattle.page_core.proofs.reads.write_reads.Given as goal

abbrev pub invariant-loop-cell : goal.invariant-loop-cell
invariant-loop-cell l = record {
  read : (i : ℕ) → i < l.cell → slice_get l.rows i ≡ Some (read_in l.world i);
  behind : IsKeptBehind l.world.job.cells l.fn.rows l.rows;
}
