use Rattle.std.proofs.Common.{◌≡◌}
use Rattle.std.specs.Prelude.{count_by, is_some}
use Rattle.std.specs.List.{range_with_len}
use Rattle.pram_cost.specs.Accesses.{cell_read_by, write_by}
use Rattle.pram_step.specs.Running.{is_running}
use Rattle.page_core.specs.Steps.{first_counter}
use Rattle.page_core.proofs.steps.row.Given as goal

abbrev pub invariant-loop-processor : goal.invariant-loop-processor
invariant-loop-processor l = record {
  running : l.row.running ≡ count_by (is_running l.job l.state) (range_with_len 0 l.processor);
  reading : l.row.reading
      ≡ count_by (λ i. is_some (cell_read_by l.job l.state i)) (range_with_len 0 l.processor);
  writing : l.row.writing
      ≡ count_by (λ i. is_some (write_by l.job l.state i)) (range_with_len 0 l.processor);
  at : l.row.at ≡ first_counter l.job l.state;
}
