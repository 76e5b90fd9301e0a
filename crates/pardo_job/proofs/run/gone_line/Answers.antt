use Rattle.std.proofs.Common.{◌≡◌, ◌<◌, List, length, ap, sym, subst, ◌∙◌}
use Rattle.std.specs.Prelude.{slice_index}
use Rattle.pram_machine.specs.Machine.{State, counter, out_of_range}
use Rattle.pram_step.specs.Last.{AreLast}
use Rattle.pram_step.specs.Runs.{state_after}
use Rattle.pram_step.specs.declared.last.LastRow.{LastRow}
use Rattle.pardo_job.proofs.Ends.{gone_leaves, row_at, row_within}
use Rattle.pardo_job.proofs.run.gone_line.Goals as goal

pub bounds-last-processor : goal.bounds-last-processor
bounds-last-processor c = subst (λ (xs : List LastRow). c.args.processor < length xs)
    (sym c.as_slice-last.ensures.value) (row_within c.args.job.now c.args.rest.now.steps
    c.args.processor c.args.rest.now.last.items c.requires.processor c.requires.rest.last)

pub returns : goal.returns
returns c =
    let job = c.args.job.now in
    let rest = c.args.rest.now in
    let i = c.args.processor in
    let gone : counter job (state_after job rest.steps) i ≡ out_of_range job =
    ap (λ (s : State). counter job s i) (sym c.requires.rest.after.state)
    ∙ sym c.counter.ensures ∙ c.if-counter-out_of_range.false ∙ c.out_of_range.ensures in
    let last = subst (λ (xs : List LastRow). AreLast job rest.steps xs)
    (sym c.as_slice-last.ensures.value) c.requires.rest.last in
    gone_leaves job (slice_index c.args.numbers.now) rest.steps i _ c.line_at.result
    c.limits_hold.ensures c.requires.processor gone
    (ap (λ (r : LastRow). r.index) (row_at job rest.steps i c.as_slice-last.result.now
    (record { step = 0; index = 0 }) c.requires.processor last))
    c.line_at.ensures
