-- A text ends in one way, and so wants one thing.
use Rattle.std.proofs.Common.{◌≡◌, ◌∙◌, ◌++◌, ℕ, List, Option, None, Some, Result, Ok}
use Rattle.std.proofs.Common.{ap, ap₂, map, subst, sym}
use Rattle.std.specs.Prelude.{MatchOption, codes, slice_index}
use Rattle.text_lines.specs.Lines.{Line, words_of}
use Rattle.pram_job.specs.Job.{JobData}
use Rattle.pram_step.specs.declared.answer.RunAnswer.TheVariants.{Final}
use Rattle.pram_step.specs.Runs.{IsAnswer}
use Rattle.pram_step.proofs.LawAnswer.{one_answer}
use Rattle.pardo_program.specs.Program.{ProgramData}
use Rattle.pardo_text.specs.Reading.{program_of}
use Rattle.pardo_text.specs.declared.fault.PardoFault.{PardoFault}
use Rattle.pardo_job.specs.Compiled.{IsCompiled}
use Rattle.pardo_answers.specs.declared.run.Run.{Run}
use Rattle.pardo_answers.specs.Runs.{IsTextRun}
use Rattle.exercise_text.specs.Entries.{EntryData, answer_of}
use Rattle.exercise_text.specs.declared.key.Key.TheVariants.{Reference}
use Rattle.exercise_text.specs.Headers.{header_as_set, header_of}
use Rattle.exercise_text.specs.Values.{WantedData, held_by, array_start, wanted_by}
use Rattle.exercise_judge.specs.Trials.{AreEnds, AreSaid, AreWanted, EndsWith, part_in}
use Rattle.exercise_judge.specs.Trials.{wanted_names}
use Rattle.exercise_judge.proofs.OneJob.{one_job}
use Rattle.exercise_judge.proofs.Refused.{ok_same}

pub final_same : (a b : List ℕ) → Final a ≡ Final b → a ≡ b
final_same a b same = cc

-- ---- a run of the text

module _ (text : List ℕ) (run : Run) (is : IsTextRun text run) (program : ProgramData)
    (job : JobData)
    (line_of : ℕ → ℕ) (cells : List ℕ) (it : EndsWith text program job line_of cells) where
  pub same_program : run.program ≡ program
  same_program = ok_same run.program program (program_of text) is.0 it.reads

  pub same_job : run.job ≡ job
  same_job = one_job program run.job job (slice_index run.numbers.items) line_of
      (subst (λ (p : ProgramData). IsCompiled p run.job (slice_index run.numbers.items))
      same_program is.1.compiled) it.compiled

  pub run_ends : IsAnswer run.job (Final cells)
  run_ends = subst (λ (j : JobData). IsAnswer j (Final cells)) (sym same_job) it.ends

  pub same_answer : run.ended.answer ≡ Final cells
  same_answer = one_answer run.job run.ended.answer (Final cells) is.1.ended.answers run_ends

-- ---- two ends of it

module _ (text : List ℕ) (names : Line) (a b : List WantedData) (x : AreEnds text names a)
    (y : AreEnds text names b) where
  program_same : x.program ≡ y.program
  program_same = ok_same x.program y.program (program_of text) x.ends.reads y.ends.reads

  job_same : x.job ≡ y.job
  job_same = one_job y.program x.job y.job x.line_of y.line_of
      (subst (λ (p : ProgramData). IsCompiled p x.job x.line_of) program_same x.ends.compiled)
      y.ends.compiled

  cells_same : x.cells ≡ y.cells
  cells_same = final_same x.cells y.cells (one_answer y.job (Final x.cells) (Final y.cells)
      (subst (λ (j : JobData). IsAnswer j (Final x.cells)) job_same x.ends.ends) y.ends.ends)

  pub ends_same : a ≡ b
  ends_same = x.are ∙ ap₂ (λ (p : ProgramData) (cells : List ℕ).
      map (wanted_by (held_by p.arrays (slice_index cells))) names) program_same cells_same
      ∙ sym y.are

-- ---- what is wanted

text_same : (a b : List ℕ) (r : Result (List ℕ) PardoFault) → r ≡ Ok a → r ≡ Ok b → a ≡ b
text_same a b r x y = cc

said_same : (header : List ℕ) (words names : Line) (a b : List WantedData) →
    AreSaid header words names a → AreSaid header words names b → a ≡ b
said_same header words names a b (set, program, sets, reads, are) (
  other,
  too,
  other_sets,
  other_reads,
  other_are,
) =
    let same : set ≡ other = text_same set other (header_as_set header words) sets other_sets in
    let one : program ≡ too = ok_same program too (header_of other (codes "0"))
    (subst (λ (s : List ℕ). header_of s (codes "0") ≡ Ok program) same reads) other_reads in
    are ∙ ap (λ (p : ProgramData). map (wanted_by (array_start p.arrays)) names) one ∙ sym other_are

pub wanted_same : (exercise : List EntryData) (input : EntryData) (header : List ℕ)
    (a b : List WantedData) → AreWanted exercise input header a →
    AreWanted exercise input header b → a ≡ b
wanted_same exercise input header a b = by (answer_of (words_of input.text))
  where
    by : (said : Option Line) →
        MatchOption said (AreEnds (header ++ part_in Reference exercise) (wanted_names exercise) a)
        (λ words. AreSaid header words (wanted_names exercise) a) →
        MatchOption said (AreEnds (header ++ part_in Reference exercise) (wanted_names exercise) b)
        (λ words. AreSaid header words (wanted_names exercise) b) → a ≡ b
    by None x y = ends_same (header ++ part_in Reference exercise) (wanted_names exercise) a b x y
    by (Some words) x y = said_same header words (wanted_names exercise) a b x y
