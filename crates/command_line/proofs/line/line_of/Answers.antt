use Rattle.std.proofs.Common.{codes, refl}
use Rattle.clap.specs.Words.{found_of}
use Rattle.command_line.proofs.Matches.{flag_of, has_flag, has_model, has_style, met_file, pair_of}
use Rattle.command_line.proofs.line.line_of.Goals as goal

pub returns-in_ok-model-in-check-clause-met : goal.returns-in_ok-model-in-check-clause-met
returns-in_ok-model-in-check-clause-met c = rw (← c.in-check.is) (
  met_file _ _ _ _ c.in_ok-name.ensures.name c.in_ok-name.ensures.rows c.in_ok-file.ensures,
  has_model _ _ (found_of c.in_ok-name.inner.now) _
      (pair_of _ _ _ _ _ c.in_ok-name.ensures.name c.in_ok-name.ensures.rows)
      c.in_ok-model-in-check.ensures,
  refl,
)

pub returns-in_ok-model-in-plain-clause-met : goal.returns-in_ok-model-in-plain-clause-met
returns-in_ok-model-in-plain-clause-met c = rw (← c.in-plain.is) (
  met_file _ _ _ _ c.in_ok-name.ensures.name c.in_ok-name.ensures.rows c.in_ok-file.ensures,
  has_style _ _ (found_of c.in_ok-name.inner.now) _
      (pair_of _ _ _ _ _ c.in_ok-name.ensures.name c.in_ok-name.ensures.rows)
      c.style_of-style.ensures.csv c.style_of-style.ensures.why,
  has_model _ _ (found_of c.in_ok-name.inner.now) _
      (pair_of _ _ _ _ _ c.in_ok-name.ensures.name c.in_ok-name.ensures.rows)
      c.in_ok-model-in-plain.ensures,
  refl,
)

pub returns-in_ok-model-in-cost-clause-met : goal.returns-in_ok-model-in-cost-clause-met
returns-in_ok-model-in-cost-clause-met c = rw (← c.in-cost.is) (
  met_file _ _ _ _ c.in_ok-name.ensures.name c.in_ok-name.ensures.rows c.in_ok-file.ensures,
  has_flag _ _ (found_of c.in_ok-name.inner.now) (codes "lines") _
      (pair_of _ _ _ _ _ c.in_ok-name.ensures.name c.in_ok-name.ensures.rows)
      (flag_of (found_of c.in_ok-name.inner.now) (codes "lines") _ c.get_flag-lines.ensures.none
      c.get_flag-lines.ensures.value c.get_flag-lines.ensures.other),
  has_model _ _ (found_of c.in_ok-name.inner.now) _
      (pair_of _ _ _ _ _ c.in_ok-name.ensures.name c.in_ok-name.ensures.rows)
      c.in_ok-model-in-cost.ensures,
  refl,
)
