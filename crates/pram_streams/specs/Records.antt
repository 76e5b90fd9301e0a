-- Where a writer of csv stands.
use Rattle.std.specs.Prelude.{◌≡◌, ℕ, false}
use Rattle.csv.specs.Writing.{default_writer, fields_written, has_written, writer_setup}
use Rattle.csv.specs.declared.writer.Writer.{Writer}

-- The writer has its defaults, and stands at the start of a record.
pub record IsBetweenRecords {W : Type 0} (writer : Writer W) : Type 0 where
  pub setup : writer_setup writer ≡ default_writer
  pub fields : fields_written writer ≡ 0
  pub clean : has_written writer ≡ false
