use Rattle.std.proofs.Common.{[]}
use Rattle.pram_words.specs.Inner.Started.{HasStarted}
use Rattle.pram_words.proofs.layout.Layout.start_workers.Given as goal

abbrev pub invariant-loop-w : goal.invariant-loop-w
invariant-loop-w l = HasStarted l.self l.w [] l.words
