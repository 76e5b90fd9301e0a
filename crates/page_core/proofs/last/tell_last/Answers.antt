use Rattle.std.proofs.Common.{arith, ◌≡◌, refl, subst, ap, take, ◌∙◌}
use Rattle.pram_step.specs.Last.{AreLast, last_row}
use Rattle.pram_step.specs.Walks.{IsWalked, begun}
use Rattle.page_core.proofs.Buffers.{told_rows}
use Rattle.page_core.proofs.last.tell_last.Goals as goal

pub returns-in-Through-clause-last : goal.returns-in-Through-clause-last
returns-in-Through-clause-last c =
    let job = c.args.job.now in
    let t = c.args.step in
    let noted = c.walk.new.observer.rows.items in
    let n = c.procs-procs.result in
    let all : n ≡ job.procs = c.procs-procs.ensures.value in (
      refl,
      c.requires.within,
      all,
      (subst (IsWalked job t) c.in-Through.is c.in_ok-walked.ensures.walked).reached,
      told_rows (last_row job t) job.procs n noted c.copy_from_slice.new.self _ (omega arith)
          (c.copy_from_slice.ensures.after ∙ ap (take n) c.as_slice.ensures.value)
          (subst (λ w. AreLast job (begun t w) noted) c.in-Through.is c.in_ok-walked.ensures.seen),
    )

pub returns-clause-last : goal.returns-clause-last
returns-clause-last c =
    let job = c.args.job.now in
    let t = c.args.step in
    let noted = c.walk.new.observer.rows.items in
    let n = c.procs-procs.result in
    let all : n ≡ job.procs = c.procs-procs.ensures.value in
    let found = subst (IsWalked job t) c.in-Disputed.is c.in_ok-walked.ensures.walked in (
      found.0,
      found.1,
      all,
      told_rows (last_row job c.in-Disputed.fault.step) job.procs n noted
          c.copy_from_slice.new.self _ (omega arith)
          (c.copy_from_slice.ensures.after ∙ ap (take n) c.as_slice.ensures.value)
          (subst (λ w. AreLast job (begun t w) noted) c.in-Disputed.is
          c.in_ok-walked.ensures.seen),
    )
