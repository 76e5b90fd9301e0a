-- The bytes still to come from a file, where it was opened; those of standard input are not known.
use Rattle.std.specs.Prelude.{ℕ, List, Option, None}
use Rattle.command_answers.specs.declared.input.Input.{Input}
use Rattle.command_answers.specs.declared.input.Input.TheVariants.{File, Standard, Closed}

abbrev pub remaining_of : {F : Type 0} → (F → Option (List ℕ)) → Input F → Option (List ℕ)
remaining_of remaining (File file) = remaining file
remaining_of remaining (Standard stdin) = None
remaining_of remaining (Closed kind) = None
