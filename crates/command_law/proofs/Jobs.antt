-- The job of a program's text.
use Rattle.std.proofs.Common.{◌≡◌, ◌∙◌, ◌⊎◌, ℕ, List, Option, Some, None, Result, true, ap, sym}
use Rattle.std.proofs.Common.{subst, inl, inr, refl}
use Rattle.std.specs.Prelude.{IfOk, slice_index}
use Rattle.std.proofs.lemmas.Bool.{false≢true}
use Rattle.pram_job.specs.Job.{JobData}
use Rattle.pram_step.specs.declared.answer.RunAnswer.{RunAnswer}
use Rattle.pram_step.specs.declared.answer.RunAnswer.TheVariants.{Final, Conflict, Unfinished}
use Rattle.pram_step.specs.Runs.{IsAnswer}
use Rattle.pram_streams.specs.Printed.{summary}
use Rattle.stop_plan.specs.Plan.{PlanData}
use Rattle.pram_board.specs.Seats.{SeatData}
use Rattle.pram_run.specs.declared.sight.Sight.{Sight}
use Rattle.pardo_text.specs.declared.fault.PardoFault.{PardoFault}
use Rattle.pardo_program.specs.Lawful.{IsProgram}
use Rattle.pardo_program.specs.Nested.{IsNested}
use Rattle.pardo_program.specs.Program.{ProgramData}
use Rattle.pardo_text.proofs.LawLawful.{programs_are_lawful}
use Rattle.pardo_text.proofs.LawNesting.{programs_are_nested}
use Rattle.pardo_flat.specs.Flat.{flat}
use Rattle.pardo_job.specs.Lines.{job_of}
use Rattle.pardo_law.proofs.FlatBetween.{jobs_go_through}
use Rattle.pardo_answers.specs.Language.{is_program}
use Rattle.naming.specs.Names.{AreNames, IsNaming, NamingData}
use Rattle.pram_commands.specs.Threads.{WatchEndsAt}
use Rattle.command_law.specs.Laws.{IsCutOff}
use Rattle.command_law.specs.Programs.{CheckTellsTheProgramsJob, IsProgramsJob}

-- the text of a program is no text of the machine
pub no_machines : (text : List ℕ) (job : JobData) → is_program text ≡ true →
    AreNames text job None → {A : Type 0} → A
no_machines text job one is = absurd (false≢true (sym is.is_none ∙ one))

pub lawful : (text : List ℕ) (job : JobData) (naming : NamingData) → IsNaming text job naming →
    IsProgram naming.program
lawful text job naming is = subst (λ (r : Result ProgramData PardoFault). IfOk r IsProgram) is.reads
    (programs_are_lawful text)

pub nested : (text : List ℕ) (job : JobData) (naming : NamingData) → IsNaming text job naming →
    IsNested naming.program.lines
nested text job naming is =
    subst (λ (r : Result ProgramData PardoFault). IfOk r (λ program. IsNested program.lines))
    is.reads (programs_are_nested text)

pub programs_job : (text : List ℕ) (job : JobData) (naming : NamingData) →
    IsNaming text job naming → IsProgramsJob text job naming
programs_job text job naming is = record {
  reads = is.reads;
  made = is.makes.made;
  goes = jobs_go_through naming.program job (slice_index naming.numbers)
      (lawful text job naming is) (nested text job naming is) is.makes;
}

-- a program's text has its job
pub its_job : (text : List ℕ) (job : JobData) (names : Option NamingData) →
    is_program text ≡ true → AreNames text job names →
    (naming : NamingData) × IsProgramsJob text job naming
its_job text job None one is = no_machines text job one is
its_job text job (Some naming) one is = (naming, programs_job text job naming is)

pub check_tells : CheckTellsTheProgramsJob
check_tells text job bytes answer one means comes =
    let its = its_job text job means.0 one means.1 in
    record { naming = its.0; is = its.1; prints = comes.0 ∙ ap summary its.1.made }

pub procs_are : (program : ProgramData) (job : JobData) → job ≡ job_of (flat program) job.steps →
    job.procs ≡ program.procs
unfolding job_of
procs_are program job made = ap (λ (j : JobData). j.procs) made

-- how a watch ended
pub ended_watch : (job : JobData) (plan : PlanData) (cells : List ℕ) (rounds : ℕ)
    (later : SeatData) (sights : List Sight) (answer : RunAnswer) →
    WatchEndsAt job plan cells rounds later sights answer →
    IsAnswer job answer ⊎ IsCutOff plan (Some answer)
ended_watch job plan cells rounds later sights (Final values) at =
    inl (subst (λ (j : JobData). IsAnswer j (Final values)) at.opened.1.0
    at.ran.answered.told.tells.0)
ended_watch job plan cells rounds later sights (Conflict fault) at =
    inl (subst (λ (j : JobData). IsAnswer j (Conflict fault)) at.opened.1.0
    at.ran.answered.told.tells.0)
ended_watch job plan cells rounds later sights (Unfinished step) at =
    inr (record { stops = at.ran.answered.told.stops tt; step = step; is = refl })
