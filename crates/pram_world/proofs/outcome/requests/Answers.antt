use Rattle.std.proofs.Common.{◌+◌, length, ap, ◌∙◌, arith}
use Rattle.std.proofs.lemmas.List.{length-append}
use Rattle.pram_world.proofs.Answering.{requests_more, requests_all}
use Rattle.pram_world.proofs.outcome.requests.Goals as goal

pub loop-i-preserved : goal.loop-i-preserved
loop-i-preserved c = record {
  each = ap length c.in_ok-push.ensures.items
      ∙ length-append _ _ ∙ ap (λ n. n + 1) c.loop-i.invariant.each;
  are = requests_more c.args.job.now c.args.layout.now c.args.words.now _ _ c.loop-i.i _ _ _
      _ c.requires.stands c.requires.compact (omega arith) c.loop-i.invariant.are
      c.asked-place.ensures c.asked-value.ensures
      c.asked-next.ensures c.request_of.ensures.value c.in_ok-push.ensures.items;
}

pub returns-clause-are : goal.returns-clause-are
returns-clause-are c = λ s named.
    c.loop-i.invariant.are s named ∙ requests_all c.args.job.now s c.loop-i.i (omega arith)
