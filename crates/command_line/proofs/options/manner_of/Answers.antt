use Rattle.std.proofs.Common.{codes}
use Rattle.clap.specs.Words.{found_of}
use Rattle.command_line.proofs.Matches.{flag_of}
use Rattle.command_line.proofs.options.manner_of.Goals as goal

pub returns-clause-has : goal.returns-clause-has
returns-clause-has c = record {
  has_workers = c.in_ok-workers.ensures;
  has_progress = rw c.telling-progress.ensures.told
      (flag_of (found_of c.args.inner.now) (codes "progress") _ c.get_flag-wanted.ensures.none
      c.get_flag-wanted.ensures.value c.get_flag-wanted.ensures.other);
  has_pace = c.in_ok-pace.ensures;
  has_block = c.in_ok-block.ensures;
}
