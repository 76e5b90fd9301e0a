use Rattle.std.proofs.Common.{◌≡◌, ◌∙◌, ◌<◌, ◌^◌, ℕ, List, ap, arith, length, map, refl, subst, sym}
use Rattle.std.proofs.Common.{vec_len}
use Rattle.std.specs.Prelude.{slice_index, sum_by}
use Rattle.pram_job.specs.Job.{JobData}
use Rattle.pardo_job.specs.Compiled.{IsCompiled}
use Rattle.pardo_job.specs.Ends.{HasEnded}
use Rattle.pardo_job.specs.declared.ended.Ended.{Ended}
use Rattle.pardo_answers.proofs.CostsMade.{made_costs}
use Rattle.pardo_answers.proofs.Lined.{made_lines, made_rounds, made_small}
use Rattle.pardo_answers.proofs.run.finish_costed.Goals as goal

pub invariant_of-result : goal.invariant_of-result
invariant_of-result c =
    let given = c.in_ok-program.compiled in
    let counted = c.in_ok-counted.counted in
    let same : length counted.items ≡ vec_len counted = omega (arith, counted.ok.0) in
    let less = c.in_ok-counted.ensures.few in
    let few : length counted.items < 2 ^ 12 = omega (arith, same, less) in record {
      small = made_small c.args.draft.program given c.into_parts-job.result.0
          c.in_ok-program.measure.profile.rows.items c.in_ok-counted.counted.items
          c.in_ok-lines.lines.items c.in_ok-program.ensures.made c.into_parts-job.ensures.job
          c.in_ok-program.ensures.seen.1 c.in_ok-counted.ensures.counted
          (c.in_ok-lines.ensures ∙ ap (map _) c.as_slice.ensures.value)
          few;
    }

pub returns-clause-run : goal.returns-clause-run
returns-clause-run c =
    let program = c.args.draft.program in
    let given = c.in_ok-program.compiled in
    let parts = c.into_parts-job.result in
    let made = c.in_ok-program.ensures.made in
    let job_is = c.into_parts-job.ensures.job in
    let numbers_are = c.into_parts-job.ensures.lines in
    let ended_is = c.into_parts-job.ensures.ended in
    record {
      program_is = c.in_ok-program.ensures.program;
      compiled = subst (λ (j : JobData). IsCompiled program j (slice_index parts.1.items))
          (sym job_is) (subst (λ (l : List ℕ). IsCompiled program given.job (slice_index l))
          (sym numbers_are) made.job);
      ended = subst (λ (e : Ended). HasEnded parts.0 (slice_index parts.1.items) e) (sym ended_is)
          (subst (λ (j : JobData). HasEnded j (slice_index parts.1.items) given.ended) (sym job_is)
          (subst (λ (l : List ℕ). HasEnded given.job (slice_index l) given.ended)
          (sym numbers_are) made.ended));
      cost = made_costs program given parts.0 parts.2.answer c.in_ok-program.measure.tally
          c.conflict_of.result c.into_cost-cost.result made job_is
          (ap (λ (e : Ended). e.answer) ended_is)
          c.in_ok-program.ensures.seen.0 c.conflict_of.ensures c.into_cost-cost.ensures;
      lines = made_lines program given parts.0 c.in_ok-program.measure.profile.rows.items
          c.in_ok-counted.counted.items c.in_ok-lines.lines.items made job_is
          c.in_ok-program.ensures.seen.1 c.in_ok-counted.ensures.counted
          (c.in_ok-lines.ensures ∙ ap (map _) c.as_slice.ensures.value) program refl;
      rounds = made_rounds program given parts.0 c.in_ok-program.measure.profile.rows.items
          c.in_ok-counted.counted.items c.in_ok-lines.lines.items made job_is
          c.in_ok-program.ensures.seen.1 c.in_ok-counted.ensures.counted
          (c.in_ok-lines.ensures ∙ ap (map _) c.as_slice.ensures.value) c.in_ok-ends.ends.items _
          c.in_ok-ends.ensures
          (c.in_ok-rounds.ensures ∙ ap (sum_by _) c.as_slice-2.ensures.value);
    }
