use Rattle.std.proofs.Common.{arith, ◌≡◌, ℕ, Bool, cond, Option, sym, ap, subst, ◌∙◌}
use Rattle.std.specs.Prelude.{count_by, is_some}
use Rattle.std.specs.List.{range_with_len}
use Rattle.pram_cost.specs.Accesses.{cell_read_by, write_by}
use Rattle.pram_step.specs.Running.{is_running}
use Rattle.pram_cost.specs.Costs.{at_work}
use Rattle.page_core.specs.Steps.{count_reading, count_writing, first_counter}
use Rattle.page_core.proofs.Counting.{count_few, count_more, count_passing, one_few, row_is}
use Rattle.page_core.proofs.steps.row.Goals as goal

pub overflow_add-row : goal.overflow_add-row
overflow_add-row c =
    let p = is_running c.args.job.now c.args.state.now in
    let few = count_few p c.loop-processor.processor in
    let one = one_few c.is_running.result in
    let e = c.loop-processor.invariant.running in
    let is = c.one_if.ensures in
    omega (arith, few, one, e, is)

pub overflow_add-row-in-loop-processor : goal.overflow_add-row-in-loop-processor
overflow_add-row-in-loop-processor c =
    let p : ℕ → Bool = λ i. is_some (cell_read_by c.args.job.now c.args.state.now i) in
    let few = count_few p c.loop-processor.processor in
    let one = one_few c.is_some.result in
    let e = c.loop-processor.invariant.reading in
    let is = c.one_if-in-loop-processor.ensures in
    omega (arith, few, one, e, is)

pub overflow_add-row-in-loop-processor-2 : goal.overflow_add-row-in-loop-processor-2
overflow_add-row-in-loop-processor-2 c =
    let p : ℕ → Bool = λ i. is_some (write_by c.args.job.now c.args.state.now i) in
    let few = count_few p c.loop-processor.processor in
    let one = one_few c.is_some-in-loop-processor.result in
    let e = c.loop-processor.invariant.writing in
    let is = c.one_if-in-loop-processor-2.ensures in
    omega (arith, few, one, e, is)

pub loop-processor-preserved : goal.loop-processor-preserved
loop-processor-preserved c =
    let job = c.args.job.now in
    let state = c.args.state.now in
    let n = c.loop-processor.processor in
    let old = c.loop-processor.invariant in
    let unit : Bool → ℕ = λ (b : Bool). cond b 1 0 in
    let some : Option ℕ → Bool = λ (o : Option ℕ). is_some o in
    let reads : ℕ → Bool = λ i. is_some (cell_read_by job state i) in
    let writes : ℕ → Bool = λ i. is_some (write_by job state i) in
    let running : c.one_if.result ≡ cond (is_running job state n) 1 0 =
    c.one_if.ensures ∙ ap unit c.is_running.ensures in
    let reading : c.one_if-in-loop-processor.result ≡ cond (reads n) 1 0 =
    c.one_if-in-loop-processor.ensures
    ∙ ap unit (c.is_some.ensures ∙ ap some c.read_of.ensures.value) in
    let writing : c.one_if-in-loop-processor-2.result ≡ cond (writes n) 1 0 =
    c.one_if-in-loop-processor-2.ensures
    ∙ ap unit (c.is_some-in-loop-processor.ensures
    ∙ ap (λ (o : Option (ℕ × ℕ)). is_some o) c.write_of.ensures) in
    record {
      running = omega (arith, count_more (is_running job state) n, old.running, running);
      reading = omega (arith, count_more reads n, old.reading, reading);
      writing = omega (arith, count_more writes n, old.writing, writing);
      at = old.at;
    }

pub returns : goal.returns
returns c =
    let job = c.args.job.now in
    let state = c.args.state.now in
    let row = c.loop-processor.row in
    let old = c.loop-processor.invariant in
    let end : c.loop-processor.processor ≡ job.procs = omega arith in
    let running : row.running ≡ at_work job state =
    subst (λ (n : ℕ). row.running ≡ count_by (is_running job state) (range_with_len 0 n)) end
    old.running ∙ sym (count_passing (is_running job state) job.procs) in
    let reading : row.reading ≡ count_reading job state =
    subst (λ (n : ℕ). row.reading
    ≡ count_by (λ i. is_some (cell_read_by job state i)) (range_with_len 0 n)) end old.reading in
    let writing : row.writing ≡ count_writing job state =
    subst (λ (n : ℕ). row.writing
    ≡ count_by (λ i. is_some (write_by job state i)) (range_with_len 0 n)) end old.writing in
    row_is row (at_work job state) (count_reading job state) (count_writing job state)
    (first_counter job state) running reading writing old.at
