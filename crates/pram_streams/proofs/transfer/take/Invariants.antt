use Rattle.std.proofs.Common.{◌≡◌, ◌≤◌, ◌-◌, false, vec_len}
use Rattle.std.specs.Io.KnownBytes.{Consumes}
use Rattle.pram_streams.proofs.transfer.take.Given as goal

abbrev pub invariant-loop-count : goal.invariant-loop-count
invariant-loop-count g l = record {
  reads : Consumes (g.R.Source.remaining l.fn.source) (g.R.Source.remaining l.source) l.bytes.items;
  unfailed : g.R.Source.has_failed l.source ≡ false;
  small : vec_len l.bytes ≤ 67108864;
}

abbrev pub decreases-loop-count : goal.decreases-loop-count
decreases-loop-count g l = 67108864 - vec_len l.bytes
