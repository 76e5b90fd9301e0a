use Rattle.std.proofs.Common.{ℕ, Err, refl, sym}
use Rattle.std.specs.Prelude.{IsErrOf}
use Rattle.pram_commands.proofs.Doing.{gives_none, ok_not_err, printed_did, well}
use Rattle.pram_commands.specs.Plain.{no_plan}
use Rattle.refusals.specs.declared.fault.CommandFault.TheVariants.{JobDevice, OutDevice}
use Rattle.refusals.specs.declared.fault.CommandFault.TheVariants.{OutsideStep, PlanDevice}
use Rattle.pram_commands.proofs.commands.alone.steps.Goals as goal

no_job : {T : Type 0} (step : ℕ) → IsErrOf {T = T} (Err (OutsideStep step)) JobDevice → ⊥
no_job step is = cc is

no_plan_device : {T : Type 0} (step : ℕ) → IsErrOf {T = T} (Err (OutsideStep step)) PlanDevice → ⊥
no_plan_device step is = cc is

no_out : {T : Type 0} (step : ℕ) → IsErrOf {T = T} (Err (OutsideStep step)) OutDevice → ⊥
no_out step is = cc is

pub returns-in-Some : goal.returns-in-Some
returns-in-Some g c = record {
  done = tt;
  explains = record {
    job = c.in_ok-spelled.spelled.job;
    plan = no_plan;
    given = record { job_text = _; a_job = c.in_ok-spelled.ensures.ok; a_plan = tt };
    lacks = sym c.in-Some.ensures;
  };
  wrote = refl;
  job_first = λ never. absurd never;
  alone = refl;
  job_failed = (
    (λ f. absurd (ok_not_err _ _ (c.in_ok-spelled.ensures.failed.0 f))),
    (λ e. absurd (no_job _ e)),
  );
  plan_failed =
      ((λ f. absurd (well _ c.requires.plan f)), (λ e. absurd (no_plan_device _ e)));
  out_failed = ((λ f. absurd (well _ c.requires.output f)), (λ e. absurd (no_out _ e)));
  job_reads = c.in_ok-spelled.ensures.reads;
  plan_reads = gives_none _;
}

pub returns : goal.returns
returns g c =
    printed_did _ _ _ _ c.in_ok-spelled.spelled.job no_plan
    (record { job_text = _; a_job = c.in_ok-spelled.ensures.ok; a_plan = tt })
    (sym c.in_default.ensures) refl
    (λ f. ok_not_err _ _ (c.in_ok-spelled.ensures.failed.0 f))
    (well _ c.requires.plan) c.in_ok-spelled.ensures.reads (gives_none _)
    _ c.put_steps.ensures _ c.printed.ensures
