use Rattle.std.proofs.Common.{codes}
use Rattle.clap.specs.Words.{found_of}
use Rattle.command_line.proofs.Matches.{flag_of}
use Rattle.command_line.proofs.options.style_of.Goals as goal

pub returns : goal.returns
returns c = record {
  csv = flag_of (found_of c.args.inner.now) (codes "csv") _ c.get_flag.ensures.none
      c.get_flag.ensures.value c.get_flag.ensures.other;
  why = flag_of (found_of c.args.inner.now) (codes "why") _ c.get_flag-2.ensures.none
      c.get_flag-2.ensures.value c.get_flag-2.ensures.other;
}
