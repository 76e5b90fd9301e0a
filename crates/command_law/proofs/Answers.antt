-- What is printed of a program's text is the answer of the program.
use Rattle.std.proofs.Common.{◌≡◌, ◌∙◌, ◌⊎◌, ℕ, List, [], ◌++◌, Option, Some, None, Result}
use Rattle.std.proofs.Common.{true, ap, sym, subst, inl, inr, refl}
use Rattle.std.specs.Prelude.{IfOk, slice_index}
use Rattle.std.proofs.lemmas.Bool.{false≢true}
use Rattle.std.proofs.lemmas.List.{append-nil}
use Rattle.pram_job.specs.Job.{JobData}
use Rattle.pram_step.specs.declared.answer.RunAnswer.{RunAnswer}
use Rattle.pram_step.specs.declared.answer.RunAnswer.TheVariants.{Final, Conflict, Unfinished}
use Rattle.pram_step.specs.Runs.{IsAnswer}
use Rattle.stop_plan.specs.Plan.{PlanData}
use Rattle.pram_board.specs.Seats.{SeatData}
use Rattle.pardo_text.specs.declared.fault.PardoFault.{PardoFault}
use Rattle.pardo_program.specs.Lawful.{IsProgram}
use Rattle.pardo_program.specs.Nested.{IsNested}
use Rattle.pardo_program.specs.Program.{ProgramData}
use Rattle.pardo_text.proofs.LawLawful.{programs_are_lawful}
use Rattle.pardo_text.proofs.LawNesting.{programs_are_nested}
use Rattle.pardo_law.proofs.FlatCarrying.{jobs_carry_programs}
use Rattle.pardo_answers.specs.Language.{is_program}
use Rattle.pardo_answers.proofs.LawAnswers.{printed_answers_are_the_programs}
use Rattle.pardo_answers.proofs.LawAnswers.{recorded_answers_are_the_programs}
use Rattle.pardo_answers.specs.Laws.{IsCarrying}
use Rattle.command_law.specs.Laws.{IsCutOff, IsProgramsAnswer, IsProgramsRecords}
use Rattle.command_law.specs.Laws.{PlainRecordsTheProgramsEnd, RunsRecordTheProgramsEnd}
use Rattle.command_law.specs.Laws.{PlainPrintsTheProgramsAnswer, RunsPrintTheProgramsAnswer}
use Rattle.naming.specs.Names.{AreNames, IsNaming, NamingData, printed_answer}
use Rattle.naming.specs.Names.{recorded}
use Rattle.naming.proofs.Stopping.{fewer_steps}
use Rattle.pram_commands.specs.Threads.{EndsAt, MayBeLonger}

-- its job carries it
carried : (text : List ℕ) (job : JobData) (naming : NamingData) → IsNaming text job naming →
    IsCarrying naming.program job (slice_index naming.numbers)
carried text job naming is =
    let lawful : IsProgram naming.program =
    subst (λ (r : Result ProgramData PardoFault). IfOk r IsProgram) is.reads
    (programs_are_lawful text) in
    let nested : IsNested naming.program.lines =
    subst (λ (r : Result ProgramData PardoFault). IfOk r (λ program. IsNested program.lines)) is.reads
    (programs_are_nested text) in
    record {
      lawful = lawful;
      made = is.makes.made;
      carries = jobs_carry_programs naming.program job (slice_index naming.numbers) lawful
          nested is.makes;
    }

-- by the names of a program
by_names : (text : List ℕ) (job : JobData) (naming : NamingData) (answer : RunAnswer) →
    IsNaming text job naming → IsAnswer job answer →
    IsProgramsAnswer text job (printed_answer (Some naming) answer job.steps)
by_names text job naming answer is answers = record {
  program = naming.program;
  reads = is.reads;
  answers = printed_answers_are_the_programs naming.program job (slice_index naming.numbers)
      answer naming.ended.lines (carried text job naming is) answers is.ends.ends_in;
}

recorded_by_names : (text : List ℕ) (job : JobData) (naming : NamingData) (answer : RunAnswer) →
    IsNaming text job naming → IsAnswer job answer →
    IsProgramsRecords text (recorded (Some naming) answer job.steps)
recorded_by_names text job naming answer is answers = record {
  program = naming.program;
  reads = is.reads;
  answers = recorded_answers_are_the_programs naming.program job (slice_index naming.numbers)
      answer naming.ended.lines (carried text job naming is) answers is.ends.ends_in;
}

-- the text of a program is no text of the machine
pub told_answer : (text : List ℕ) (job : JobData) (names : Option NamingData) (answer : RunAnswer) →
    is_program text ≡ true → AreNames text job names → IsAnswer job answer →
    IsProgramsAnswer text job (printed_answer names answer job.steps)
told_answer text job None answer one is answers = absurd (false≢true (sym is.is_none ∙ one))
told_answer text job (Some naming) answer one is answers = by_names text job naming answer is answers

told_records : (text : List ℕ) (job : JobData) (names : Option NamingData) (answer : RunAnswer) →
    is_program text ≡ true → AreNames text job names → IsAnswer job answer →
    IsProgramsRecords text (recorded names answer job.steps)
told_records text job None answer one is answers = absurd (false≢true (sym is.is_none ∙ one))
told_records text job (Some naming) answer one is answers =
    recorded_by_names text job naming answer is answers

-- nothing follows the answer
alone : (Is : List ℕ → Type 0) (bytes told back : List ℕ) → bytes ≡ told ++ back → back ≡ [] →
    Is told → Is bytes
alone Is bytes told back prints follows is =
    subst Is
    (sym (prints ∙ ap (λ (b : List ℕ). told ++ b) follows ∙ append-nil told)) is

pub plain_prints : PlainPrintsTheProgramsAnswer
plain_prints text job bytes answer one comes =
    alone (IsProgramsAnswer text job) bytes (printed_answer comes.names comes.ended job.steps)
    comes.back comes.prints comes.follows
    (told_answer text job comes.names comes.ended one comes.are_names comes.ends)

pub plain_records : PlainRecordsTheProgramsEnd
plain_records text job bytes answer one comes =
    alone (IsProgramsRecords text) bytes (recorded comes.names comes.ended job.steps)
    comes.back comes.prints comes.follows
    (told_records text job comes.names comes.ended one comes.are_names comes.ends)

-- the answer of a run is the job's, though the job was run on a longer board
pub answer_so : (text : List ℕ) (job : JobData) (most : ℕ) (answer : RunAnswer) →
    (most ≡ job.steps) ⊎ MayBeLonger text job most answer →
    IsAnswer (record job { steps = most }) answer → IsAnswer job answer
answer_so text job most answer (inl same) is =
    subst (λ (n : ℕ). IsAnswer (record job { steps = n }) answer) same is
answer_so text job most answer (inr may) is =
    fewer_steps job most answer may.whole may.within is

-- how a run ended
pub ended_so : (text : List ℕ) (job : JobData) (plan : PlanData) (later : SeatData)
    (answer : RunAnswer) → EndsAt text job plan later answer →
    IsAnswer job answer ⊎ IsCutOff plan (Some answer)
ended_so text job plan later (Final cells) at =
    inl (answer_so text job at.most (Final cells) at.enough
    (subst (λ (j : JobData). IsAnswer j (Final cells)) at.opened.1.0
    at.ran.answered.told.tells.0))
ended_so text job plan later (Conflict fault) at =
    inl (answer_so text job at.most (Conflict fault) at.enough
    (subst (λ (j : JobData). IsAnswer j (Conflict fault)) at.opened.1.0
    at.ran.answered.told.tells.0))
ended_so text job plan later (Unfinished step) at =
    inr (record { stops = at.ran.answered.told.stops tt; step = step; is = refl })

pub runs_print : RunsPrintTheProgramsAnswer
runs_print text job plan workers bytes answer one comes =
    elim (ended_so text job plan comes.ends.0 comes.ended comes.ends.1) [
      | inl answers ↦ inl
          (alone (IsProgramsAnswer text job) bytes
          (printed_answer comes.names comes.ended job.steps) comes.back comes.prints comes.follows
          (told_answer text job comes.names comes.ended one comes.are_names answers))
      | inr cut ↦ inr
          (subst (λ (a : Option RunAnswer). IsCutOff plan a) (sym comes.gives) cut)
    ]

pub runs_record : RunsRecordTheProgramsEnd
runs_record text job plan workers bytes answer one comes =
    elim (ended_so text job plan comes.ends.0 comes.ended comes.ends.1) [
      | inl answers ↦ inl
          (alone (IsProgramsRecords text) bytes (recorded comes.names comes.ended job.steps)
          comes.back comes.prints comes.follows
          (told_records text job comes.names comes.ended one comes.are_names answers))
      | inr cut ↦ inr
          (subst (λ (a : Option RunAnswer). IsCutOff plan a) (sym comes.gives) cut)
    ]
