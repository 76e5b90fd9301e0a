use Rattle.clap.specs.Words.{found_of}
use Rattle.command_line.proofs.Matches.{has_style, met_file, met_plan, pair_of}
use Rattle.command_line.proofs.line.threads_line_of.Goals as goal

pub returns-in_ok-manner-in-run-clause-met : goal.returns-in_ok-manner-in-run-clause-met
returns-in_ok-manner-in-run-clause-met c = rw (← c.in-run.is) (
  record {
    of_file =
        met_file _ _ _ _ c.in_ok-name.ensures.name c.in_ok-name.ensures.rows c.in_ok-file.ensures;
    has_plan = met_plan c.in_ok-name.inner.now _ c.get_str-plan.ensures;
    has_manner = c.in_ok-manner-in-run.ensures.has;
  },
  has_style _ _ (found_of c.in_ok-name.inner.now) _
      (pair_of _ _ _ _ _ c.in_ok-name.ensures.name c.in_ok-name.ensures.rows)
      c.style_of-style.ensures.csv c.style_of-style.ensures.why,
)

pub returns-in_ok-cells-in-watch-clause-met : goal.returns-in_ok-cells-in-watch-clause-met
returns-in_ok-cells-in-watch-clause-met c = rw (← c.in-watch.is) (record {
  has_run = record {
    of_file =
        met_file _ _ _ _ c.in_ok-name.ensures.name c.in_ok-name.ensures.rows c.in_ok-file.ensures;
    has_plan = met_plan c.in_ok-name.inner.now _ c.get_str-plan.ensures;
    has_manner = c.in_ok-manner-in-watch.ensures.has;
  };
  has_cells = c.in_ok-cells-in-watch.ensures.cells;
  spells = c.in_ok-cells-in-watch.ensures.spells;
  has_rounds = c.in_ok-cells-in-watch.ensures.rounds;
})
