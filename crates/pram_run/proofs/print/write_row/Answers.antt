use Rattle.std.proofs.Common.{◌≡◌, ◌≢◌, ◌∙◌, ap, sym, decimal}
use Rattle.std.proofs.lemmas.Result.{on_ok_weaker}
use Rattle.csv.specs.Writing.{default_writer, field_text}
use Rattle.csv.specs.declared.writer.QuoteStyle.TheVariants as style
use Rattle.pram_run.proofs.Lines.{row-text}
use Rattle.pram_run.proofs.print.write_row.Goals as goal
use Rattle.pram_run.proofs.print.write_row.Goals.{then-row, else-row}

pub returns-clause-text : goal.returns-clause-text
returns-clause-text g c =
    let value : c.if-row.after.now ≡ decimal c.args.row.now.after = elim c.if-row.branch [
      | then-row w ↦ ap (λ text. text.now) w.after-is ∙ c.number_text-before.ensures.text
          ∙ ap (λ n. decimal n) (sym w.if-row.true)
      | else-row w ↦ ap (λ text. text.now) w.after-is ∙ w.number_text-after.ensures.text
    ] in
    let plain : field_text default_writer c.if-row.after.now ≡ c.if-row.after.now =
    elim c.if-row.branch [
      | then-row w ↦ rw (w.after-is) c.number_text-before.ensures.plain
      | else-row w ↦ rw (w.after-is) w.number_text-after.ensures.plain
    ] in
    let same =
    row-text c.number_text.result.now c.number_text-2.result.now c.number_text-3.result.now
    c.number_text-before.result.now c.if-row.after.now c.args.row.now.kind
    c.number_text.ensures.plain c.number_text-2.ensures.plain c.number_text-3.ensures.plain
    c.number_text-before.ensures.plain plain in
    let quotes : c.args.writer.now.cfg.style ≢ style.NonNumeric = rw c.requires.setup (λ e. cc e) in
    on_ok_weaker c.write_fields.result (λ written. rw (
      c.requires.setup,
      c.as_bytes.ensures.value,
      c.word.ensures,
      same,
      c.number_text.ensures.text,
      c.number_text-2.ensures.text,
      c.number_text-3.ensures.text,
      c.number_text-before.ensures.text,
      value,
      c.from.ensures,
      c.from-2.ensures,
    ) at (written c.requires.fields c.requires.clean quotes)) c.write_fields.ensures.bytes
