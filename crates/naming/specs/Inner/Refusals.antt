-- What a refusal of a text is to a command.
use Rattle.std.specs.Prelude.{◌≡◌, ⊤}
use Rattle.pardo_job.specs.declared.fault.Refusal.{Refusal as ProgramRefusal}
use Rattle.naming.specs.BadTexts.{IsOfText}
use Rattle.refusals.specs.declared.fault.CommandFault.{CommandFault}
use Rattle.refusals.specs.declared.fault.CommandFault.TheVariants as fault

-- what a refusal of a program is to a command
abbrev pub IsFaultOf : ProgramRefusal → CommandFault → Type 0
IsFaultOf refusal (fault.Program found) = (found ≡ refusal) × IsOfText refusal
IsFaultOf refusal fault.Memory = ⊤
IsFaultOf refusal _ = ⊥
