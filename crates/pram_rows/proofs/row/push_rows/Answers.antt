use Rattle.std.proofs.Common.{◌∙◌, ◌++◌, ◌+◌, ap, refl, arith}
use Rattle.pram_rows.specs.Rows.{row_line}
use Rattle.pram_rows.proofs.Lines.{pieces-more}
use Rattle.pram_rows.proofs.row.push_rows.Goals as goal

pub loop-processor-init : goal.loop-processor-init
loop-processor-init g c = record {
  between = record {
    setup = c.from_writer-writer.ensures.cfg;
    fields = c.from_writer-writer.ensures.fields;
    clean = c.from_writer-writer.ensures.wrote;
  };
  text = rw (c.from_writer-writer.ensures.wtr, c.from_writer-writer.ensures.empty) refl;
}

pub loop-processor-preserved : goal.loop-processor-preserved
loop-processor-preserved g c =
    let line =
    row_line (g.N.RowNames.words c.args.names.now) c.args.moment.now.job.now c.args.moment.now.state.now
    (c.args.moment.now.made + 1) in
    let i = c.loop-processor.processor in
    record {
      between = c.in_ok-write_row.ensures.between;
      text = c.in_ok-write_row.ensures.text
          ∙ ap (λ text. text ++ line i) c.loop-processor.invariant.text
          ∙ pieces-more c.args.bytes.items line 0 i (i + 1) i refl (omega arith);
    }
