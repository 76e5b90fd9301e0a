-- The commands, for the clauses of calls.
pub use Rattle.pram_commands.specs.LineRecords.{costing_by}
pub use Rattle.pram_commands.specs.Plain.{checking, plainly}
pub use Rattle.pram_commands.specs.Replayed.{replaying}
pub use Rattle.pram_commands.specs.Steps.{stepping}
pub use Rattle.pram_commands.specs.Texts.{compiling}
pub use Rattle.pram_commands.specs.Why.{in_lines}
