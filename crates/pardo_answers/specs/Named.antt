-- The answer of a program's job by the names and lines of the program's text.
use Rattle.std.specs.Prelude.{ℕ, List, slice_index}
use Rattle.pram_step.specs.declared.answer.RunAnswer.{RunAnswer}
use Rattle.pram_step.specs.declared.answer.RunAnswer.TheVariants.{Final, Conflict, Unfinished}
use Rattle.pram_streams.specs.Printed.{printed}
use Rattle.pardo_program.specs.Program.{ProgramData}
use Rattle.pram_step.specs.Runs.{dispute_of}
use Rattle.pardo_job.specs.Printed.{conflict_text, end_text}
use Rattle.pardo_job.specs.declared.ended.Lines.{Lines}
use Rattle.pardo_job.specs.Ends.{gone_in}

-- the answer of a program whose job makes so many steps
abbrev pub named_answer : ProgramData → ℕ → Lines → RunAnswer → List ℕ
named_answer program steps lines (Final cells) =
    end_text program steps (slice_index cells) (gone_in lines.gone.items)
named_answer program steps lines (Conflict fault) =
    conflict_text program lines.disputed (dispute_of fault)
named_answer program steps lines (Unfinished step) = printed (Unfinished step) steps
