-- What the rows of steps say of a program's lines.
use Rattle.std.proofs.Common.{◌≡◌, ◌∙◌, ◌&&◌, ◌++◌, ℕ, ◌<◌, Bool, true, false, List, [], Option}
use Rattle.std.proofs.Common.{Some, None, ap, refl, inl, inr, codes, decimal, nat_lt, arith}
use Rattle.std.proofs.Common.{if◌then◌else◌}
use Rattle.std.specs.Prelude.{slice_index}
use Rattle.std.proofs.lemmas.Bool.{lt-ltb}
use Rattle.pram_job.specs.Job.{JobData}
use Rattle.pram_machine.specs.Machine.{counter, halted}
use Rattle.pram_step.specs.declared.answer.RunAnswer.{RunAnswer}
use Rattle.pram_step.specs.Runs.{IsAnswer, state_after}
use Rattle.pram_rows.specs.Rows.{line_number_text, row_end, rows_text}
use Rattle.pram_rows.specs.Shown.{last_step, steps_text}
use Rattle.pram_rows.specs.declared.window.Window.{Window}
use Rattle.pardo_job.specs.Meaning.{after}
use Rattle.pardo_job.specs.Runs.{line_number}
use Rattle.pardo_law.specs.Between.{IsInLine}
use Rattle.pardo_answers.specs.Language.{is_program}
use Rattle.pram_commands.specs.Did.{ending}
use Rattle.naming.specs.Names.{AreNames, NamingData}
use Rattle.naming.specs.RowNames.{row_words}
use Rattle.pram_commands.specs.Traced.{all_steps, traced}
use Rattle.command_law.specs.Programs.{AreProgramsLines, AreProgramsSteps, IsEnding, IsProgramsJob}
use Rattle.command_law.specs.Programs.{TellNumbers, TracesTellTheProgramsLines}
use Rattle.command_law.specs.Programs.{StepsTellTheProgramsLines, TellLines, told_line}
use Rattle.command_law.proofs.Answers.{told_answer}
use Rattle.command_law.proofs.Jobs.{no_machines, programs_job}

told_as : (numbers : List ℕ) (job : JobData) (at : ℕ) → at < halted job →
    line_number_text numbers job at ≡ told_line (slice_index numbers at)
told_as numbers job at low = ap (λ (b : Bool). if b && nat_lt 0 (slice_index numbers at)
    then decimal (slice_index numbers at) else []) (lt-ltb at (halted job) low)

tell_lines : (text : List ℕ) (job : JobData) (naming : NamingData)
    (is : IsProgramsJob text job naming) → TellLines text job naming is
tell_lines text job naming is t n i reached made some goes_on lt runs =
    by_line (is.goes.lines t n i reached made lt runs)
  where
    at : ℕ
    at = counter job (state_after job t) i

    by_line : IsInLine naming.program job (slice_index naming.numbers) t
        (after naming.program n) i →
        row_end (Some naming.numbers) job at
        ≡ codes "," ++ told_line (line_number naming.program (after naming.program n))
        ++ codes "\n"
    by_line (inl comes) = ap (λ (l : List ℕ). codes "," ++ l ++ codes "\n")
        (told_as naming.numbers job at runs ∙ ap told_line comes)
    by_line (inr (inl first)) = absurd (let none = first.0 in omega arith)
    by_line (inr (inr last)) = absurd (goes_on last.0)

module _ (text : List ℕ) (job : JobData) (ended : RunAnswer) (one : is_program text ≡ true) where
  ends_so : (alone : Bool) (names : Option NamingData) → AreNames text job names →
      IsAnswer job ended → IsEnding alone text job (ending alone names ended job.steps)
  ends_so true names are is = refl
  ends_so false names are is = told_answer text job names ended one are is

module _ (text : List ℕ) (job : JobData) (window : Window) (bytes : List ℕ) (ended : RunAnswer)
    (one : is_program text ≡ true) where
  by_names : (alone : Bool) (names of_end : Option NamingData) → AreNames text job names →
      AreNames text job of_end → IsAnswer job ended →
      bytes ≡ rows_text (row_words names) job window.from window.to (last_step job ended)
      ++ ending alone of_end ended job.steps →
      AreProgramsSteps alone window text job bytes
  by_names alone None of_end is are answers prints = no_machines text job one is
  by_names alone (Some naming) of_end is are answers prints =
      let its = programs_job text job naming is in record {
        naming = naming;
        is = its;
        lines = tell_lines text job naming its;
        writes = its.goes.writes;
        ended = ended;
        answers = answers;
        back = ending alone of_end ended job.steps;
        prints = prints;
        ends = ends_so text job ended one alone of_end are answers;
      }

pub steps_tell : StepsTellTheProgramsLines
steps_tell text job alone window bytes answer one comes =
    let told = comes.ends in
    by_names text job window bytes comes.ended one alone told.names comes.names told.are_names
    comes.are_names told.answers
    (comes.prints
    ∙ ap (λ (front : List ℕ). front ++ ending alone comes.names comes.ended job.steps) told.rows)

tell_numbers : (text : List ℕ) (job : JobData) (naming : NamingData)
    (is : IsProgramsJob text job naming) → TellNumbers text job naming is
tell_numbers text job naming is t n i reached made some goes_on lt runs =
    by_line (is.goes.lines t n i reached made lt runs)
  where
    by_line : IsInLine naming.program job (slice_index naming.numbers) t
        (after naming.program n) i →
        slice_index naming.numbers (counter job (state_after job t) i)
        ≡ line_number naming.program (after naming.program n)
    by_line (inl comes) = comes
    by_line (inr (inl first)) = absurd (let none = first.0 in omega arith)
    by_line (inr (inr last)) = absurd (goes_on last.0)

traced_by : (text : List ℕ) (job : JobData) (bytes : List ℕ) (ended : RunAnswer) →
    is_program text ≡ true → (alone : Bool) (names of_end : Option NamingData) →
    AreNames text job names → AreNames text job of_end → IsAnswer job ended →
    bytes ≡ steps_text (traced names) job all_steps ended ++ ending alone of_end ended job.steps →
    AreProgramsLines alone text job bytes
traced_by text job bytes ended one alone None of_end is are answers prints =
    no_machines text job one is
traced_by text job bytes ended one alone (Some naming) of_end is are answers prints =
    let its = programs_job text job naming is in record {
      naming = naming;
      is = its;
      begins = is.begins;
      numbers = tell_numbers text job naming its;
      writes = its.goes.writes;
      ended = ended;
      answers = answers;
      back = ending alone of_end ended job.steps;
      prints = prints;
      ends = ends_so text job ended one alone of_end are answers;
    }

pub traces_tell : TracesTellTheProgramsLines
traces_tell text job alone bytes answer one comes =
    let told = comes.ends in
    traced_by text job bytes comes.ended one alone told.names comes.names told.are_names
    comes.are_names told.answers
    (comes.prints
    ∙ ap (λ (front : List ℕ). front ++ ending alone comes.names comes.ended job.steps) told.rows)
