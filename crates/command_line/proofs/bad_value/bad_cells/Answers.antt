use Rattle.std.proofs.Common.{◌∙◌, codes, sym}
use Rattle.clap.specs.Words.{found_of}
use Rattle.clap.proofs.WalkLemmas.{first_value-rows}
use Rattle.command_line.proofs.Values.{no_cells}
use Rattle.command_line.proofs.bad_value.bad_cells.Goals as goal

pub returns-in-None : goal.returns-in-None
returns-in-None c = record {
  cells = c.in_ok-text.text.now;
  has_cells =
      sym (c.in_ok-text.ensures ∙ first_value-rows (found_of c.args.inner.now) (codes "cells"));
  bad = c.read.ensures.none c.in-None.is;
}

pub returns-in-Some : goal.returns-in-Some
returns-in-Some c =
    no_cells _ c.in_ok-text.text.now
    (sym (c.in_ok-text.ensures ∙ first_value-rows (found_of c.args.inner.now) (codes "cells")))
    c.in-Some.ensures.spells
