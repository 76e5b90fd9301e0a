-- The statement at a line.
use Rattle.std.specs.Prelude.{ℕ, slice_get, Some, None}
use Rattle.pardo_program.specs.declared.statement.Statement.{Statement}
use Rattle.pardo_program.specs.declared.statement.Statement.TheVariants.{EndIf}
use Rattle.pardo_program.specs.Program.{ProgramData}

abbrev pub statement_at : ProgramData → ℕ → Statement
statement_at program at = elim (slice_get program.lines at) [
  | None ↦ EndIf
  | Some line ↦ line.statement
]
