-- Which faults a text has.
use Rattle.std.specs.Prelude.{◌≡◌, ◌≢◌, ℕ, true, false, List, ⊤}
use Rattle.pram_text.specs.Text.{Bears}
use Rattle.pram_text.specs.declared.fault.TextKind.TheVariants as text_kind
use Rattle.pardo_text.specs.declared.fault.PardoKind.TheVariants as pardo_kind
use Rattle.pardo_job.specs.Refusals.{IsProgramRefusal}
use Rattle.pardo_job.specs.declared.fault.JobKind.TheVariants as job_kind
use Rattle.pardo_job.specs.declared.fault.Refusal.{Refusal}
use Rattle.pardo_job.specs.declared.fault.Refusal.TheVariants as program
use Rattle.pardo_answers.specs.Language.{is_program}
use Rattle.refusals.specs.declared.fault.CommandFault.{CommandFault}
use Rattle.refusals.specs.declared.fault.CommandFault.TheVariants.{Text, Program, Memory}

-- What is wrong with a program is wrong with its text.
abbrev pub IsOfText : Refusal → Type 0
IsOfText (program.Text fault) = fault.kind ≢ pardo_kind.Memory
IsOfText (program.Job fault) = fault.kind ≢ job_kind.Memory

-- The text has this fault: as one of the machine, or as a program.
abbrev pub IsBad : List ℕ → CommandFault → Type 0
IsBad text (Text line kind) =
    (is_program text ≡ false) × Bears text line kind × (kind ≢ text_kind.Memory)
IsBad text (Program refusal) =
    (is_program text ≡ true) × IsProgramRefusal text refusal × IsOfText refusal
IsBad text _ = ⊥

-- the text has this fault, or memory ran out
abbrev pub IsBadOrMemory : List ℕ → CommandFault → Type 0
IsBadOrMemory text (Text line kind) = IsBad text (Text line kind)
IsBadOrMemory text (Program refusal) = IsBad text (Program refusal)
IsBadOrMemory text Memory = ⊤
IsBadOrMemory text _ = ⊥
