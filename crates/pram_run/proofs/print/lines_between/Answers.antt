use Rattle.std.proofs.Common.{◌∙◌, ◌++◌, ◌+◌, ◌<◌, sym, ap}
use Rattle.std.proofs.Common.{append_assoc, take, get_or, length, arith}
use Rattle.csv.specs.Writing.{writer_pending, writer_under}
use Rattle.pram_run.specs.Printed.{trace_line, row_lines}
use Rattle.pram_run.specs.declared.trace.TraceRow.{TraceRow}
use Rattle.pram_run.specs.declared.trace.StepKind.TheVariants.{Load}
use Rattle.pram_run.proofs.Lines.{lines-more}
use Rattle.pram_run.proofs.print.lines_between.Goals as goal

abbrev no_row : TraceRow
no_row = record { before = 0; after = 0; word = 0; worker = 0; kind = Load }

pub loop-index-preserved : goal.loop-index-preserved
loop-index-preserved c =
    let rows = c.args.rows.now in
    let index = c.loop-index.index in
    let front = row_lines c.args.before (take c.args.start rows) in
    let line = trace_line (c.args.before + index + 1) (get_or rows index no_row) in
    let old = (writer_under c.loop-index.writer).items ++ writer_pending c.loop-index.writer in
    let within : index < length rows = omega (arith, c.loop-index-test.true, c.requires.to) in
    record {
      between = c.in-Ok.ensures.between;
      text = ap (λ text. front ++ text) c.in-Ok.ensures.text ∙ sym (append_assoc front old line)
          ∙ ap (λ text. text ++ line) c.loop-index.invariant.text
          ∙ sym (lines-more c.args.before rows index no_row within);
    }
