-- The command that is done under a model, by what is told.
use Rattle.pram_commands.specs.Did.{Command}
use Rattle.pram_commands.specs.LineRecords.{costing_by}
use Rattle.pram_commands.specs.Plain.{checking, plainly}
use Rattle.pram_commands.specs.declared.commands.under.Told.{Told}
use Rattle.pram_commands.specs.declared.commands.under.Told.TheVariants.{Summary, Answer, Costs}

abbrev pub command_told : Told → Command
command_told Summary = checking
command_told (Answer style) = plainly style
command_told (Costs lines) = costing_by lines
