-- The job of all parts.
use Rattle.std.proofs.Common.{◌≡◌, ℕ, List, length}
use Rattle.std.proofs.Common.{refl, sym, ap, subst, ◌∙◌, arith}
use Rattle.std.specs.Prelude.{slice_index}
use Rattle.pram_job.specs.declared.instr.Instr.{Instr}
use Rattle.pram_job.specs.declared.instr.Rule.{Rule}
use Rattle.pram_job.specs.Job.{IsJob, JobData, job_data}
use Rattle.pram_step.specs.Runs.{IsReached, state_after}
use Rattle.pardo_program.specs.Lawful.{IsProgram}
use Rattle.pardo_program.specs.Program.{ProgramData}
use Rattle.pardo_flat.specs.Layouts.{cell_count, program_layout, start_values}
use Rattle.pardo_flat.specs.Flat.{flat}
use Rattle.pardo_job.specs.declared.fault.JobKind.{JobKind}
use Rattle.pardo_job.specs.declared.fault.JobKind.TheVariants.{TooDeep, TooLong, Endless, Memory}
use Rattle.pardo_job.specs.declared.fault.JobKind.TheVariants.{TooManyCells}
use Rattle.pardo_job.specs.Compiled.{CompiledData}
use Rattle.pardo_job.specs.Drafts.{IsDraft, IsComplete}
use Rattle.pardo_job.specs.Ends.{HasEnded}
use Rattle.pardo_job.specs.Inner.Endings.{IsFinished, EndsTooLate}
use Rattle.pardo_job.specs.Inner.Listings.{AreAllPlaces}
use Rattle.pardo_job.specs.Lines.{code_of, job_of}
use Rattle.pardo_job.specs.Refusals.{IsProgramFault, FirstRunningStandsAt, most_steps}
use Rattle.pardo_job.proofs.JobFits.{job_is, start_length}
use Rattle.pardo_job.proofs.Placed.{level_all}

-- ---- the job

pub parts_are : (program : ProgramData) (rule : Rule) (cells procs : ℕ) (init : List ℕ)
    (code : List Instr) → IsProgram program →
    rule ≡ program.rule → procs ≡ program.procs → cells ≡ length init → init ≡
    start_values program → code ≡ code_of program →
    job_data rule cells procs 0 init code ≡ job_of program 0
unfolding job_of
parts_are program rule cells procs init code is e1 e2 e3 e4 e5 =
    let count : cells ≡ cell_count (program_layout program) =
    e3 ∙ ap (λ (l : List ℕ). length l) e4 ∙
    start_length program is in
    ap (λ (r : Rule). job_data r cells procs 0 init code) e1
    ∙ ap (λ (k : ℕ). job_data program.rule k procs 0 init code) count
    ∙ ap (λ (k : ℕ). job_data program.rule (cell_count (program_layout program)) k 0 init
    code) e2
    ∙ ap (λ (l : List ℕ). job_data program.rule (cell_count (program_layout program))
    program.procs 0 l code) e4
    ∙ ap (λ (l : List Instr). job_data program.rule (cell_count (program_layout program))
    program.procs 0 (start_values program) l) e5

pub parts_fit : (program : ProgramData) (places : List ℕ) (job : JobData) → IsProgram program →
    AreAllPlaces program places →
    job ≡ job_of program 0 → IsJob job
parts_fit program places job is are e =
    subst (λ (j : JobData). IsJob j) (sym e)
    (job_is program 0 is (omega arith) (level_all program places are) are.short)

with_more : (program : ProgramData) (n : ℕ) → record (job_of program 0) { steps = n } ≡
    job_of program n
unfolding job_of
with_more program n = refl

module _ (program : ProgramData) (job : JobData) (numbers : List ℕ)
    (draft : IsDraft program job numbers) where
  pub made_of : (compiled : CompiledData) → IsJob compiled.job → IsFinished job numbers compiled →
      IsComplete program compiled
  made_of compiled is_job done = record {
    job = record {
      job_is = is_job;
      made = done.job_is ∙ ap (λ (j : JobData). record j { steps = compiled.job.steps }) draft.made
          ∙ with_more (flat program) compiled.job.steps;
      level = draft.level;
      numbers = λ index.
          ap (λ (l : List ℕ). slice_index l index) (done.numbers_are ∙ draft.numbers_are);
      whole = done.whole;
    };
    ended = subst (λ (l : List ℕ). HasEnded compiled.job (slice_index l) compiled.ended)
        (sym done.numbers_are) done.ended;
  }

  -- the job that was run is the job without its steps
  pub draft_is : (compiled : CompiledData) → IsFinished job numbers compiled →
      job ≡ record compiled.job { steps = 0 }
  draft_is compiled done =
      draft.made ∙ sym (with_more (flat program) 0)
      ∙ ap (λ (j : JobData). record j { steps = 0 }) (sym draft.made)
      ∙ ap (λ (j : JobData). record j { steps = 0 }) (sym done.job_is)

  pub late_is : (number : ℕ) (kind : JobKind) → EndsTooLate job numbers number kind →
      IsProgramFault program number kind
  late_is number TooDeep late = absurd late
  late_is number TooLong late = absurd late
  late_is number TooManyCells late = absurd late
  late_is number Memory late = late
  late_is number Endless late = record {
    reached = subst (λ (j : JobData). IsReached j (most_steps j)) draft.made late.0;
    index = late.1.0;
    runs = subst (λ (j : JobData). FirstRunningStandsAt j (state_after j (most_steps j)) late.1.0)
        draft.made
        late.1.1;
    number_is = late.1.2 ∙ ap (λ (l : List ℕ). slice_index l late.1.0) draft.numbers_are;
  }
