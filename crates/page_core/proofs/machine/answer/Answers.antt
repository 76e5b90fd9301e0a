use Rattle.std.proofs.Common.{rules, arith, ◌≡◌, take, length, subst, sym}
use Rattle.pram_step.specs.Runs.{IsStateAfter}
use Rattle.page_core.specs.Findings.{IsKeptBehind}
use Rattle.page_core.proofs.Buffers.{length_front}
use Rattle.page_core.proofs.machine.answer.Goals as goal

pub slice_bounds-copy-end : goal.slice_bounds-copy-end
slice_bounds-copy-end c =
    let job = c.in-Ok.job in
    let after : IsStateAfter job job.steps c.in-Ok-Reached.state =
    rw c.in-Ok-Reached.field-0-is at c.in-Ok-Reached.ensures in
    let n = c.cells-count.result in
    subst (λ s. n ≡ length (take n s)) (sym c.places.ensures)
    (length_front job job.steps n c.in-Ok-Reached.state c.states_have_all_places.ensures
    c.cells-count.ensures.job after (omega arith))

pub returns-then-copy-clause-found : goal.returns-then-copy-clause-found
returns-then-copy-clause-found c =
    let job = c.in-Ok.job in
    let state = c.in-Ok-Reached.state in
    let n = c.cells-count.result in
    let after : IsStateAfter job job.steps state =
    rw c.in-Ok-Reached.field-0-is at c.in-Ok-Reached.ensures in
    let front : n ≡ length (take n state) = length_front job job.steps
    n state c.states_have_all_places.ensures c.cells-count.ensures.job after (omega arith) in
    let told : take (length (take n c.places.result.now)) c.copy.new.buffer
    ≡ take n c.places.result.now = search rules in
    let copied : take n c.copy.new.buffer ≡ take n state =
    subst (λ m. take m c.copy.new.buffer ≡ take n state) (sym front)
    (subst (λ s. take (length (take n s)) c.copy.new.buffer ≡ take n s) c.places.ensures told) in (
      job,
      c.in-Ok.ensures.spells,
      (
        c.steps.ensures.value,
        c.cells-count.ensures.value,
        (
          state,
          after,
          subst (λ m. take n c.copy.new.buffer ≡ take m state) c.cells-count.ensures.value copied,
        ),
      ),
    )

pub returns-then-copy-clause-behind : goal.returns-then-copy-clause-behind
returns-then-copy-clause-behind c =
    let job = c.in-Ok.job in
    let state = c.in-Ok-Reached.state in
    let n = c.cells-count.result in
    let after : IsStateAfter job job.steps state =
    rw c.in-Ok-Reached.field-0-is at c.in-Ok-Reached.ensures in
    let front : n ≡ length (take n state) = length_front job job.steps
    n state c.states_have_all_places.ensures c.cells-count.ensures.job after (omega arith) in
    let kept : IsKeptBehind (length (take n c.places.result.now))
    c.args.cells.now c.copy.new.buffer = search rules in
    subst (λ m. IsKeptBehind m c.args.cells.now c.copy.new.buffer) (sym front)
    (subst (λ s. IsKeptBehind (length (take n s)) c.args.cells.now c.copy.new.buffer)
    c.places.ensures kept)
