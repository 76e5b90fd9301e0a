use Rattle.std.proofs.Common.{◌≡◌, ◌++◌, List, ℕ, take}
use Rattle.csv.specs.Writing.{writer_pending, writer_under}
use Rattle.pram_streams.specs.Records.{IsBetweenRecords}
use Rattle.exercise_words.specs.Records.{AreRecords, header_and_records}
use Rattle.command_answers.specs.Setting.{FileGives}
use Rattle.command_answers.proofs.Texts.{texts_of}
use Rattle.command_answers.proofs.judging.records_of.Given as goal

-- the records so far are written
abbrev pub invariant-loop-file : goal.invariant-loop-file
invariant-loop-file g l = record {
  between : IsBetweenRecords l.writer;
  made : (records : List ℕ)
      × AreRecords (FileGives (g.F.Folder.holds l.folder)) l.trials
      (texts_of (take l.file-index l.files)) records l.status
      × ((writer_under l.writer).items ++ writer_pending l.writer ≡ header_and_records records);
}
