use Rattle.std.specs.Io.KnownBytes.{Keeps}
use Rattle.pram_streams.proofs.from_read.read_once.Given as goal

abbrev pub invariant-tries : goal.invariant-tries
invariant-tries g l = Keeps (g.R.Read.remaining l.fn.reader) (g.R.Read.remaining l.reader)
