use Rattle.std.proofs.Common.{arith, ◌≡◌, ◌+◌, ◌-◌, length, sym, subst, ◌∙◌, inl, inr}
use Rattle.std.proofs.lemmas.Bool.{cases_lt}
use Rattle.std.proofs.lemmas.List.{length-take-le}
use Rattle.pram_step.specs.Walks.{IsWalked, begun}
use Rattle.page_core.specs.Steps.{AreStepsTo}
use Rattle.page_core.proofs.Noting.{rows_few, steps_told}
use Rattle.page_core.proofs.steps.tell_steps.Goals as goal

pub slice_bounds-copy_from_slice-end : goal.slice_bounds-copy_from_slice-end
slice_bounds-copy_from_slice-end c =
    let made = c.in_ok-walked.made in
    let walked = c.in_ok-walked.ensures in
    let few = rows_few c.args.reached.job c.args.reached.step c.min.result c.in_ok-walked.walked
    made.items walked.walked walked.rows in
    omega (arith, few, made.ok.0, c.len.ensures, c.min.ensures)

pub slice_bounds-copy_from_slice-end-2 : goal.slice_bounds-copy_from_slice-end-2
slice_bounds-copy_from_slice-end-2 c =
    let made = c.in_ok-walked.made in
    let walked = c.in_ok-walked.ensures in
    let few = rows_few c.args.reached.job c.args.reached.step c.min.result c.in_ok-walked.walked
    made.items walked.walked walked.rows in
    sym (length-take-le c.len.result c.args.rows.now
    (omega (arith, few, made.ok.0, c.len.ensures, c.min.ensures)))

pub copy_from_slice-requires : goal.copy_from_slice-requires
copy_from_slice-requires c =
    let made = c.in_ok-walked.made in
    let walked = c.in_ok-walked.ensures in
    let few = rows_few c.args.reached.job c.args.reached.step c.min.result c.in_ok-walked.walked
    made.items walked.walked walked.rows in
    length-take-le c.len.result c.args.rows.now
    (omega (arith, few, made.ok.0, c.len.ensures, c.min.ensures))
    ∙ c.len.ensures ∙ sym c.as_slice.ensures.len

pub returns-in-Through-clause-steps : goal.returns-in-Through-clause-steps
returns-in-Through-clause-steps c =
    let job = c.args.reached.job in
    let from = c.args.reached.step in
    let to = from + c.min.result in
    let made = c.in_ok-walked.made in
    let walked = c.in_ok-walked.ensures in
    let noted = subst (λ w. AreStepsTo job from (begun to w) made.items) c.in-Through.is
    walked.rows in
    let all = noted.0 in
    let few = c.min.ensures in
    let steps = c.steps.ensures.value in
    let within = c.args.reached.within in
    let count : c.len-count.result ≡ length made.items = c.len-count.ensures ∙ made.ok.0 in (
      omega arith,
      omega arith,
      elim (cases_lt (length c.args.rows.now) (job.steps - from)) [
        | inl full ↦ inr (omega arith)
        | inr whole ↦ inl (omega arith)
      ],
      (subst (IsWalked job to) c.in-Through.is walked.walked).reached,
      steps_told job from c.len-count.result made.items c.copy_from_slice.new.self _
          (c.copy_from_slice.ensures.after ∙ c.as_slice.ensures.value) count noted.1,
    )

pub returns-clause-steps : goal.returns-clause-steps
returns-clause-steps c =
    let job = c.args.reached.job in
    let from = c.args.reached.step in
    let to = from + c.min.result in
    let made = c.in_ok-walked.made in
    let walked = c.in_ok-walked.ensures in
    let noted = subst (λ w. AreStepsTo job from (begun to w) made.items) c.in-Disputed.is
    walked.rows in
    let found = subst (IsWalked job to) c.in-Disputed.is walked.walked in
    let all = noted.0 in
    let low = found.1 in
    let few = c.min.ensures in
    let steps = c.steps.ensures.value in
    let within = c.args.reached.within in
    let count : c.len-count.result ≡ length made.items = c.len-count.ensures ∙ made.ok.0 in (
      found.0,
      omega arith,
      omega arith,
      steps_told job from c.len-count.result made.items c.copy_from_slice.new.self _
          (c.copy_from_slice.ensures.after ∙ c.as_slice.ensures.value) count noted.1,
    )
