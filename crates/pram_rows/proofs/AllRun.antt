-- Where all processors run to the end.
use Rattle.std.proofs.Common.{◌≡◌, ℕ, zero, suc, ◌+◌, ◌<◌, Bool, true, refl, sym, ap, subst}
use Rattle.std.proofs.Common.{◌∙◌, Some, None, arith}
use Rattle.std.specs.List.{count_by, range_with_len}
use Rattle.std.proofs.lemmas.Bool.{lt-ltb}
use Rattle.pram_job.specs.Job.{JobData, IsJob}
use Rattle.pram_machine.specs.Machine.{State, counter, halted}
use Rattle.pram_step.specs.Running.{is_running}
use Rattle.pram_step.specs.Runs.{IsStateAfter, state_after}
use Rattle.pram_rows.specs.declared.fates.End.TheVariants.{Running}
use Rattle.pram_rows.specs.Fates.{AreFates}
use Rattle.pram_rows.proofs.Counting.{count_more_yes}
use Rattle.pram_rows.proofs.Ending.{fates_reached}
use Rattle.pram_rows.proofs.Losing.{lost_at}

-- so many pass that all are
count_all : (p : ℕ → Bool) (n : ℕ) → ((i : ℕ) → i < n → p i ≡ true) →
    count_by p (range_with_len 0 n) ≡ n
count_all p zero all = refl
count_all p (suc n) all =
    let before = count_all p n (λ i low. all i (omega arith)) in
    let e : n + 1 ≡ suc n = omega arith in
    let here = count_more_yes p n (all n (omega arith)) in
    let whole = ap (λ (m : ℕ). count_by p (range_with_len 0 m)) e in
    omega (arith, before, here, whole)

pub fates_all_run : (job : JobData) (n : ℕ) (state : State) (count index : ℕ) → IsJob job →
    IsStateAfter job n state → ((i : ℕ) → i < job.procs → counter job state i < halted job) →
    count ≡ job.procs → index ≡ counter job state 0 →
    AreFates job n (record { end = Some (Running count 0 index); lost = None })
fates_all_run job n state count index is_job after run all at =
    let same = after.state in
    let run' : (i : ℕ) → i < job.procs → counter job (state_after job n) i < halted job =
    λ i low. subst (λ (s : State). counter job s i < halted job) same (run i low) in
    let procs = is_job.procs in
    fates_reached job n (Running count 0 index) None after.reached (record {
      count_is = all ∙ sym (count_all (is_running job (state_after job n)) job.procs
          (λ i low. lt-ltb (counter job (state_after job n) i) (halted job) (run' i low)));
      first_is = record {
        within = omega arith;
        runs = run' 0 (omega arith);
        least = λ j low. absurd (omega arith);
      };
      index_is = at ∙ ap (λ (s : State). counter job s 0) same;
    })
    (λ t low i names.
    let out = lost_at job n t i is_job low names in
    let runs = run' i names.within in
    absurd (omega arith))
