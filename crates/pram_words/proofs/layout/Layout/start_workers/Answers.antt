use Rattle.std.proofs.Common.{◌≡◌, [], subst, ◌∙◌, arith}
use Rattle.pram_words.specs.Inner.Started.{HasStarted}
use Rattle.pram_words.proofs.Starting.{worker_started}
use Rattle.pram_words.proofs.layout.Layout.start_workers.Goals as goal

pub loop-w-preserved : goal.loop-w-preserved
loop-w-preserved c =
    worker_started _ _ _ _ _ _ c.workers-w-end.ensures.limits (omega arith)
    c.position_word.ensures.value (c.from.ensures ∙ c.first_leaf.ensures.value) c.loop-w.invariant

pub returns : goal.returns
returns c =
    let all : c.loop-w.w ≡ c.args.self.now.workers = omega arith in
    subst (λ w. HasStarted c.args.self.now w [] c.loop-w.words) all c.loop-w.invariant
