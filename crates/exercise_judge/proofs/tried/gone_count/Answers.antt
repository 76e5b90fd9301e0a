use Rattle.std.proofs.Common.{◌∙◌, ◌+◌, ℕ, Option, ap, arith, cond, refl, sym}
use Rattle.std.specs.Prelude.{is_some}
use Rattle.std.proofs.lemmas.List.FromFn.{sum_by-map-range_with_len_more}
use Rattle.pardo_job.specs.Ends.{gone_in}
use Rattle.exercise_judge.specs.Tries.{gone_count}
use Rattle.exercise_judge.proofs.tried.gone_count.Goals as goal

abbrev one : Option ℕ → ℕ
one line = cond (is_some line) 1 0

pub loop-processor-preserved : goal.loop-processor-preserved
loop-processor-preserved c =
    let gone = gone_in c.args.lines.now.gone.items in
    let p = c.loop-processor.processor in
    let so_far = c.loop-processor.invariant in (
      omega (arith, c.one_if_gone-count.ensures.most, so_far.0),
      ap (λ (n : ℕ). n + c.one_if_gone-count.result) so_far.1
          ∙ ap (λ (n : ℕ). gone_count p gone + n)
          (c.one_if_gone-count.ensures.one ∙ ap one c.gone_in.ensures)
          ∙ sym (sum_by-map-range_with_len_more one gone 0 p p (omega arith)),
    )
