use Rattle.std.proofs.Common.{codes}
use Rattle.clap.specs.Words.{found_of}
use Rattle.command_line.proofs.Matches.{flag_of, has_flag, has_seed, pair_of}
use Rattle.command_line.proofs.line.asked_of.Goals as goal

pub returns : goal.returns
returns c = record {
  line = c.in_ok-line.ensures.met;
  telling = c.in_ok-line.ensures.suits;
  random = has_seed _ _ (found_of c.in_ok-inner.inner.now) _
      (pair_of _ _ _ _ _ c.in_ok-inner.ensures.name c.in_ok-inner.ensures.rows)
      c.in_ok-random.ensures;
  explain = has_flag _ _ (found_of c.in_ok-inner.inner.now) (codes "explain") _
      (pair_of _ _ _ _ _ c.in_ok-inner.ensures.name c.in_ok-inner.ensures.rows)
      (flag_of (found_of c.in_ok-inner.inner.now) (codes "explain") _ c.get_flag.ensures.none
      c.get_flag.ensures.value c.get_flag.ensures.other);
}
