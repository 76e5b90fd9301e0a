use Rattle.std.proofs.Common.{◌∙◌, Some, ap, codes, sym}
use Rattle.clap.specs.Words.{found_of, one_text}
use Rattle.clap.proofs.WalkLemmas.{first_value-rows, one_text-rows}
use Rattle.command_line.proofs.Matches.{number_of}
use Rattle.command_line.proofs.options.reads_of.Goals as goal

pub returns : goal.returns
returns c = record {
  spells = rw c.in_ok-cells.ensures.some (c.in_ok-cells.ensures.spells);
  cells = sym (c.in_ok-text.ensures ∙ first_value-rows (found_of c.args.inner.now) (codes "cells"))
      ∙ ap (λ t. Some t) (sym c.in_ok-cells.ensures.some);
  rounds = rw (← one_text-rows (found_of c.args.inner.now) (codes "rounds"))
      (number_of (one_text (found_of c.args.inner.now) (codes "rounds")) _
      c.in_ok-rounds.ensures.none (λ text is. (c.in_ok-rounds.ensures.value text is).0.1));
}
