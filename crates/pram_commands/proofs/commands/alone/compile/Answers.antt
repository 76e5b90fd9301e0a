use Rattle.std.proofs.Common.{refl}
use Rattle.pram_commands.proofs.Doing.{gives_none, ok_not_err, printed_did, well}
use Rattle.pram_commands.specs.Plain.{no_plan}
use Rattle.pram_commands.proofs.commands.alone.compile.Goals as goal

pub returns : goal.returns
returns g c =
    printed_did _ _ _ _ c.in_ok-spelled.spelled.job no_plan
    (record { job_text = _; a_job = c.in_ok-spelled.ensures.ok; a_plan = tt }) tt refl
    (λ f. ok_not_err _ _ (c.in_ok-spelled.ensures.failed.0 f))
    (well _ c.requires.plan) c.in_ok-spelled.ensures.reads (gives_none _)
    _ c.put_job-told.ensures _ c.printed.ensures
