-- Steps that do nothing.
use Rattle.std.proofs.Common.{◌≡◌, ℕ, zero, suc, ◌+◌, Some}
use Rattle.std.proofs.Common.{refl, ap, subst, arith}
use Rattle.pram_job.specs.declared.instr.Instr.TheVariants.{Jmp}
use Rattle.pram_job.specs.Job.{JobData}
use Rattle.pardo_job.specs.Lines.{no_code}
use Rattle.pardo_law.specs.Locals.{HasCodeAt, IdlingStays}
use Rattle.pardo_job.specs.Straight.{Registers}
use Rattle.pardo_law.proofs.Placing.{runs_one}
use Rattle.pardo_law.proofs.Running.{Runs, quiet_run}

pub runs_idle : (job : JobData) (memory : ℕ → ℕ) (i : ℕ) (held : Registers) (count at : ℕ) →
    HasCodeAt job at (no_code at count) →
    Runs job memory i count (Some (at, held)) (Some (at + count, held))
runs_idle job memory i held zero at stands =
    let e : at ≡ at + 0 = omega arith in ap (λ n. Some (n, held)) e
runs_idle job memory i held (suc count) at stands =
    let e : (at + 1) + count ≡ at + suc count = omega arith in
    runs_one job memory i count at held (Jmp (at + 1)) (Some (at + suc count, held)) stands.0 tt
    refl
    (subst (λ n. Runs job memory i count (Some (at + 1, held)) (Some (n, held))) e
    (runs_idle job memory i held count (at + 1) stands.1))

pub idling_stays : IdlingStays
idling_stays job t at count memory held is_job stands standing =
    quiet_run job is_job count t memory (λ i. Some (at, held i)) (λ i. Some (at + count, held i))
    standing
    (λ i lt. runs_idle job memory i (held i) count at stands)
