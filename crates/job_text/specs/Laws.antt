-- What is printed of a job is read back as that job.
use Rattle.std.specs.Prelude.{ℕ, ◌<◌, List, length, All}
use Rattle.pram_job.specs.declared.instr.Operands.{Operands}
use Rattle.pram_job.specs.declared.instr.Operands.TheVariants.{RegisterIndex, Index}
use Rattle.pram_job.specs.Instructions.{row_of}
use Rattle.pram_job.specs.Job.{JobData, IsJob}
use Rattle.pram_text.specs.Text.{Spells}
use Rattle.job_text.specs.Printed.{ArrayWords, AreArrayWords, array_word, text_of}

-- A jump goes to one of so many instructions.
abbrev pub LandsWithin : ℕ → Operands → Type 0
LandsWithin len (RegisterIndex register index) = index < len
LandsWithin len (Index index) = index < len
LandsWithin len _ = Unit {0}

-- No jump goes past the last instruction, where no label can stand.
abbrev pub JumpsLand : JobData → Type 0
JumpsLand job = All (λ instr. LandsWithin (length job.code) (row_of instr).1) job.code

abbrev pub PrintedIsReadBack : Type 0
PrintedIsReadBack = (words : ArrayWords) (job : JobData) → IsJob job → JumpsLand job →
    AreArrayWords job.cells words → Spells (text_of words job) job

-- A job has so few cells that its arrays may have the names of their bounds.
abbrev pub ArrayWordsAreLawful : Type 0
ArrayWordsAreLawful = (job : JobData) → IsJob job → AreArrayWords job.cells array_word

-- Only such jobs have a text at all.
abbrev pub SpelledJumpsLand : Type 0
SpelledJumpsLand = (text : List ℕ) (job : JobData) → Spells text job → JumpsLand job
