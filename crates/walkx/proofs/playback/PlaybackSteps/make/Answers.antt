use Rattle.std.proofs.Common.{refl, arith}
use Rattle.walkx.proofs.Back.{plays_on}
use Rattle.walkx.proofs.playback.PlaybackSteps.make.Goals as goal

pub returns-then-self : goal.returns-then-self
returns-then-self c = plays_on c.args.self.now c.args.op _ (omega arith) refl
