use Rattle.std.proofs.Common.{◌<◌, ℕ, List, All, refl, subst, sym}
use Rattle.std.specs.Prelude.{⊤}
use Rattle.pram_commands.proofs.Doing.{err_is, ok_not_err, printed_did, well}
use Rattle.pram_commands.proofs.Outside.{outside_did, puts_as}
use Rattle.command_data.specs.CellLists.{parts_of}
use Rattle.naming.specs.CellLists.{AreCellsOf, IsOutside}
use Rattle.pram_commands.specs.Did.{Answering, tells}
use Rattle.naming.specs.Writing.{writing}
use Rattle.pram_commands.specs.Threads.{TellsSights, TellsWatch}
use Rattle.pram_commands.proofs.commands.on_threads.watch.Goals as goal

pub invariant_of-watched : goal.invariant_of-watched
invariant_of-watched g c = record {
  within = subst (λ (cells : List ℕ). All (λ cell. cell < c.in_ok-inputs.inputs.spelled.job.cells) cells)
      (sym c.as_slice.ensures.value) c.in_ok-cells.ensures.within;
}

pub returns-in_err-cells : goal.returns-in_err-cells
returns-in_err-cells g c =
    let took = c.in_ok-inputs.ensures in
    let inputs = c.in_ok-inputs.inputs in
    let spelled = inputs.spelled in
    let outside = subst (λ (text : List ℕ). IsOutside spelled.names
    spelled.job (parts_of text) c.in_err-cells.field-0.0) c.text.ensures
    c.in_err-cells.ensures.outside in
    outside_did _ _ _ _ spelled.job inputs.plan
    (record {
      job_text = c.in_ok-inputs.inputs.spelled.text.items;
      a_job = took.both.gives_job;
      a_plan = took.both.gives_plan;
    }) spelled.names _ refl tt
    (λ f. ok_not_err _ _ (took.job_failed.0 f))
    (λ f. ok_not_err _ _ (took.plan_failed.0 f)) (well _ c.requires.output) took.job_reads
    took.plan_reads c.in_err-cells.field-0.0 outside
    (record {
      names = spelled.names;
      are_names = took.names;
      outside = outside;
    }) _ (err_is _ _ c.from_residual-in_err-cells.ensures)

pub returns : goal.returns
returns g c =
    let took = c.in_ok-inputs.ensures in
    let inputs = c.in_ok-inputs.inputs in
    let parts = parts_of c.args.ask.cells.text.now in
    let rounds = c.args.ask.rounds in
    let w = writing g.O.Sink c.args.out.now c.put_watch.new.out in
    let cells = c.as_slice.result.now in
    let are_cells = subst (λ (l : List ℕ). AreCellsOf inputs.spelled.names parts l)
    (sym c.as_slice.ensures.value)
    (subst (λ (text : List ℕ). AreCellsOf inputs.spelled.names (parts_of text) c.in_ok-cells.cells.items)
    c.text.ensures c.in_ok-cells.ensures.cells) in
    let within = subst (λ (l : List ℕ). All (λ cell. cell < inputs.spelled.job.cells) l)
    (sym c.as_slice.ensures.value) c.in_ok-cells.ensures.within in
    let puts = puts_as
    (Answering (TellsSights inputs.spelled.names inputs.spelled.job inputs.plan cells rounds) inputs.spelled.text.items
    inputs.spelled.job)
    (TellsWatch parts rounds inputs.spelled.text.items inputs.spelled.job inputs.plan) ⊤ w tells
    (λ text answer shows. record {
      names = inputs.spelled.names;
      are_names = took.names;
      cells = cells;
      are_cells = are_cells;
      within = within;
      shows = shows;
    }) c.put_watch.result c.put_watch.ensures in
    printed_did _ _ _ _ inputs.spelled.job inputs.plan
    (record {
      job_text = inputs.spelled.text.items;
      a_job = took.both.gives_job;
      a_plan = took.both.gives_plan;
    }) tt tt
    (λ f. ok_not_err _ _ (took.job_failed.0 f))
    (λ f. ok_not_err _ _ (took.plan_failed.0 f)) took.job_reads took.plan_reads
    _ puts _ c.printed.ensures
