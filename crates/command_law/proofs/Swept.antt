-- What the record of a run tells of a program.
use Rattle.std.proofs.Common.{◌≡◌, ◌∙◌, ◌+◌, ◌<◌, ◌||◌, ℕ, zero, suc, Bool, true, List}
use Rattle.std.proofs.Common.{Option, Some, None, ap, ap₂, arith, codes, inl, inr, refl}
use Rattle.std.specs.List.{list_any, range_with_len}
use Rattle.std.specs.Prelude.{if◌then◌else◌, is_some, slice_index}
use Rattle.pram_job.specs.Job.{JobData}
use Rattle.pram_step.specs.declared.answer.Fault.{Fault}
use Rattle.pram_step.specs.declared.answer.RunAnswer.{RunAnswer}
use Rattle.pram_step.proofs.LawAnswer.{conflict_ends}
use Rattle.pram_cost.specs.Costs.{IsLength}
use Rattle.pardo_job.specs.Meaning.{after}
use Rattle.pardo_job.specs.Runs.{IsProgramEnd}
use Rattle.pardo_answers.specs.Language.{is_program}
use Rattle.pardo_answers.proofs.LawAnswers.{one_line}
use Rattle.naming.specs.Costs.{named_line_costs}
use Rattle.naming.specs.Names.{AreNames, IsNaming, NamingData}
use Rattle.pram_commands.specs.Sweeps.{TellsRecord, end_word, fields_text, told_gone}
use Rattle.command_law.specs.Programs.{IsEndWord, IsProgramsJob, IsProgramsRun}
use Rattle.command_law.specs.Programs.{SweepsTellTheProgramsRuns}
use Rattle.command_law.proofs.Costs.{costs_by_meaning}
use Rattle.command_law.proofs.Jobs.{no_machines, procs_are, programs_job}

-- whether one of a range is so
any_same : (f g : ℕ → Bool) (a n : ℕ) → ((k : ℕ) → k < a + n → f k ≡ g k) →
    list_any f (range_with_len a n) ≡ list_any g (range_with_len a n)
any_same f g a zero same = refl
any_same f g a (suc n) same =
    ap₂ (λ (x y : Bool). x || y) (same a (omega arith))
    (any_same f g (a + 1) n (λ k most. same k (omega arith)))

module _ (text : List ℕ) (job : JobData) (naming : NamingData) (names : IsNaming text job naming)
    (is : IsProgramsJob text job naming) where
  abbrev gone : ℕ → Option ℕ
  gone = told_gone (Some naming)

  -- at the end of the program the same processors are gone
  gone_same : (n : ℕ) → IsProgramEnd naming.program n → (i : ℕ) → i < 0 + naming.program.procs →
      is_some (gone i) ≡ is_some ((after naming.program n).gone i)
  gone_same n end i low =
      let procs = procs_are naming.program job is.made in
      let ends = (is.goes.carries.ends n end).0 in
      ap (λ (o : Option ℕ). is_some o)
      (one_line job (slice_index naming.numbers) is.goes.carries.job_is i (omega (arith, procs))
      job.steps (gone i) ((after naming.program n).gone i)
      (names.ends.ends_in.gone ends.reached i (omega (arith, procs))) (ends.gone i (omega arith)))

  word_is : (n : ℕ) (conflict : Option Fault) → IsLength job n conflict →
      IsEndWord naming.program (end_word naming.program.procs gone conflict)
  word_is n None length = elim is.goes.carries.over.1 [
    | inl end ↦ inl (
      is.goes.carries.over.0,
      end,
      ap (λ (any : Bool). if any then codes "gone" else codes "done")
          (any_same (λ i. is_some (gone i))
          (λ i. is_some ((after naming.program is.goes.carries.over.0).gone i)) 0
          naming.program.procs (gone_same is.goes.carries.over.0 end)),
    )
    | inr disputed ↦
        let d = is.goes.carries.disputes is.goes.carries.over.0 disputed.0 disputed.1 in
        absurd (conflict_ends job _ n d.3.first (let within = d.3.within in
        let all = length.0 in omega (arith, within, all)) length.1)
  ]
  word_is n (Some fault) length = elim is.goes.carries.over.1 [
    | inl end ↦ absurd (conflict_ends job fault job.steps length.1.first length.1.within
        (is.goes.carries.ends is.goes.carries.over.0 end).0.reached)
    | inr disputed ↦ inr (is.goes.carries.over.0, disputed.0, disputed.1, refl)
  ]

run_by_names : (text : List ℕ) (job : JobData) (bytes : List ℕ) (answer : Option RunAnswer) →
    is_program text ≡ true → (names : Option NamingData) → AreNames text job names →
    (tells : TellsRecord text job bytes answer) → tells.names ≡ names →
    IsProgramsRun text job bytes
run_by_names text job bytes answer one None names tells same = no_machines text job one names
run_by_names text job bytes answer one (Some naming) names tells same =
    let is = programs_job text job naming names in
    let cost = tells.cost in
    let procs = procs_are naming.program job is.made in record {
      naming = naming;
      is = is;
      cost = cost;
      pram = tells.pram;
      costs = tells.costs;
      procs = tells.costs.cost_is.procs_are ∙ procs;
      needs = tells.needs;
      lines = named_line_costs (Some naming) job;
      lines_cost = costs_by_meaning text job naming names is;
      word = end_word naming.program.procs (told_gone (Some naming)) cost.conflict;
      ends = word_is text job naming names is cost.steps cost.conflict tells.costs.length_is;
      prints = tells.prints ∙ ap₂ (λ (n : Option NamingData) (p : ℕ). fields_text (named_line_costs n job)
          cost tells.pram (end_word p (told_gone n) cost.conflict)) same procs;
    }

pub sweeps_tell : SweepsTellTheProgramsRuns
sweeps_tell text job bytes answer one tells =
    run_by_names text job bytes answer one tells.names tells.are_names tells refl
