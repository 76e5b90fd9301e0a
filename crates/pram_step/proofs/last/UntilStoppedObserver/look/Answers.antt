use Rattle.std.proofs.Common.{subst}
use Rattle.std.specs.Prelude.{MatchBool}
use Rattle.pram_machine.specs.Machine.{AllStopped}
use Rattle.pram_step.proofs.Lasts.{seen_more}
use Rattle.pram_step.proofs.last.UntilStoppedObserver.look.Goals as goal

pub returns : goal.returns
returns g c =
    let sight = c.args.sight.now in
    let job = sight.job.now in
    let s = sight.state.now in
    seen_more job sight.made sight.times s c.args.self.now.stopped
    (λ n. g.O.Observer.has_seen job n c.args.self.now.observer)
    (λ n. g.O.Observer.has_seen job n c.look.new.self) c.in-None.is c.requires.sight.repeats
    (subst (λ b. MatchBool b (AllStopped job s) (AllStopped job s → ⊥)) c.if-all_stopped.false
    c.all_stopped.ensures) c.requires.before c.in_ok-look.ensures
