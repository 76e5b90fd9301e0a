-- What csv writes of rows that are told by numbers.
use Rattle.std.specs.Prelude.{◌≡◌, ℕ, ◌<◌, List, Option, IfSome}
use Rattle.csv.specs.Writing.{default_writer, field_text}
use Rattle.pram_job.specs.Job.{JobData, IsJob}
use Rattle.pram_machine.specs.Machine.{IsDataPlace}
use Rattle.pram_rows.specs.Rows.{by_numbers, instruction_at, target_text}

-- csv writes the field as it is
abbrev pub StandsAsItIs : List ℕ → Type 0
StandsAsItIs field = field_text default_writer field ≡ field

-- An instruction and what is written to stand without quotes, where they are told by numbers.
abbrev pub NumbersHaveNoQuotes : Type 0
NumbersHaveNoQuotes = (lines : Option (List ℕ)) (job : JobData) (index i : ℕ)
    (put : Option (ℕ × ℕ)) → IsJob job → i < job.procs →
    IfSome put (λ write. IsDataPlace job i write.0) →
    StandsAsItIs (instruction_at (by_numbers lines) job index)
    × StandsAsItIs (target_text (by_numbers lines) job i put)
