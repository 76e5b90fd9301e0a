use Rattle.std.proofs.Common.{◌≡◌, ℕ, ◌+◌, List, [], ◌∷◌, length, Option, None, ap, sym, subst}
use Rattle.std.proofs.Common.{◌∙◌, inl, inr, arith}
use Rattle.std.specs.Prelude.{slice_index}
use Rattle.std.proofs.lemmas.Bool.{cases_lt}
use Rattle.std.proofs.lemmas.List.{get_or_append_left, get_or_push, length_push}
use Rattle.pardo_job.specs.Ends.{gone_in}
use Rattle.pardo_job.specs.Leaving.{GoneIn}
use Rattle.pardo_job.proofs.run.gone_lines.Goals as goal

pub loop-processor-preserved : goal.loop-processor-preserved
loop-processor-preserved c =
    let job = c.args.job.now in
    let t = c.args.rest.now.steps in
    let old = c.loop-processor.gone.items in
    let n = c.loop-processor.processor in
    let line = c.gone_line.result in
    let items = c.in_ok-push.ensures.items in
    let before = c.loop-processor.invariant in
    record {
      each = ap (λ (xs : List (Option ℕ)). length xs) items ∙ length_push old line
          ∙ ap (λ (m : ℕ). m + 1) before.each;
      noted = λ i low. subst (λ (xs : List (Option ℕ)).
          GoneIn job (slice_index c.args.numbers.now) t i (gone_in xs i)) (sym items)
          (elim (cases_lt i n) [
            | inl less ↦
                let each = before.each in
                subst (λ (o : Option ℕ). GoneIn job (slice_index c.args.numbers.now) t i o)
                (sym (get_or_append_left old (line ∷ []) None i (omega arith)))
                (before.noted i less)
            | inr more ↦
                let e : n ≡ i = omega arith in
                subst (λ (o : Option ℕ). GoneIn job (slice_index c.args.numbers.now) t i o)
                (sym (get_or_push old line None i (before.each ∙ e)))
                (subst (λ (j : ℕ). GoneIn job (slice_index c.args.numbers.now) t j line) e
                c.gone_line.ensures)
          ]);
    }
