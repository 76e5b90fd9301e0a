use Rattle.std.proofs.Common.{◌∙◌, ◌++◌, List, [], ℕ, ap, arith, refl}
use Rattle.command_answers.specs.Setting.{FileGives}
use Rattle.command_answers.proofs.Judged.{records_all, records_made}
use Rattle.command_answers.proofs.judging.records_of.Goals as goal

pub loop-file-init : goal.loop-file-init
loop-file-init g c = record {
  between = record {
    setup = c.from_writer-writer.ensures.cfg;
    fields = c.from_writer-writer.ensures.fields;
    clean = c.from_writer-writer.ensures.wrote;
  };
  made = (
    [],
    (refl, refl),
    rw (c.from_writer-writer.ensures.wtr, c.from_writer-writer.ensures.empty)
        (ap (λ (bytes : List ℕ). bytes ++ []) c.in_ok-header.ensures.items),
  );
}

pub loop-file-preserved : goal.loop-file-preserved
loop-file-preserved g c = record {
  between = c.in_ok-write_record.ensures.between;
  made = rw (c.greater-status.ensures, c.status.ensures)
      (records_made (FileGives (g.F.Folder.holds c.args.folder.now)) c.args.trials.now c.args.files.now
      c.loop-file.file-index _ c.in_ok-said.said c.loop-file.status _ _ c.loop-file-test.true
      c.loop-file.invariant.made c.in_ok-said.ensures c.in_ok-write_record.ensures.text);
}

pub returns-in-Ok : goal.returns-in-Ok
returns-in-Ok g c =
    let so_far = c.loop-file.invariant.made in (
      so_far.0,
      records_all (FileGives (g.F.Folder.holds c.args.folder.now)) c.args.trials.now c.args.files.now
          c.loop-file.file-index so_far.0 c.loop-file.status (omega arith) so_far.1,
      c.in-Ok.ensures.ok ∙ so_far.2,
    )
