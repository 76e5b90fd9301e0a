-- Processors that stand at one instruction, one after another in the list of those that run.
use Rattle.std.proofs.Common.{◌≡◌, ℕ, zero, suc, ◌+◌, ◌<◌, ◌≤◌, List, length, get_or}
use Rattle.std.proofs.Common.{inl, inr, subst, arith}
use Rattle.std.proofs.lemmas.Bool.{cases_lt}
use Rattle.pram_job.specs.Job.{JobData}
use Rattle.pram_machine.specs.Machine.{IsStopped, State, counter}
use Rattle.pram_step.specs.Inner.Passes.{bound}
use Rattle.pram_step.specs.Running.{AreRunning}
use Rattle.pram_step.specs.Walks.{IsSight}
use Rattle.pram_step.specs.declared.walks.Sight.{Sight}
use Rattle.pram_step.proofs.Passing.{bound_inside, bound_past, count_after, listed_below, run_next}
use Rattle.pram_cost.specs.Inner.Groups.{IsGroup}
use Rattle.pram_cost.specs.declared.group.Group.{Group}

module _ (job : JobData) (s : State) (running : List ℕ) (are : AreRunning job s running) where
  pub bound_most : (k : ℕ) → bound job running k ≤ job.procs
  bound_most k = elim (cases_lt k (length running)) [
    | inl inside ↦
        let e = bound_inside job s running are k inside in
        let low = listed_below job s running are k inside in omega arith
    | inr past ↦ (let e = bound_past job s running are k past in omega arith)
  ]

  pub place_few : (k : ℕ) → k ≤ length running → k ≤ bound job running k
  place_few zero inside = omega arith
  place_few (suc k) inside =
      let before = place_few k (omega arith) in
      let e = bound_inside job s running are k (omega arith) in
      let next : k + 1 ≤ bound job running (k + 1) =
      count_after job running are.rises are.within k (k + 1) (omega arith) (omega arith) in
      let same : k + 1 ≡ suc k = omega arith in
      subst (λ (n : ℕ). n ≤ bound job running n) same next

module _ (sight : Sight) (is : IsSight sight) (from : ℕ) (group : Group)
    (of : IsGroup sight from group) where
  abbrev job : JobData
  job = sight.job.now

  abbrev state : State
  state = sight.state.now

  abbrev running : List ℕ
  running = sight.running.now

  pub group_few : group.end ≤ job.procs
  group_few =
      let inside = of.inside in
      let low = place_few job state running is.running group.end inside in
      let most = bound_most job state running is.running group.end in omega arith

  -- What each of a group carries on is carried on over all of it: so far for so many of them, and
  -- it is kept by who has stopped.
  pub over_group : (P : ℕ → ℕ → Type 0) →
      ((d i : ℕ) → IsStopped job state i → P d i → P d (i + 1)) →
      ((d i : ℕ) → i < job.procs → counter job state i ≡ group.index → P d i → P (suc d) (i + 1)) →
      P 0 (bound job running from) →
      (d : ℕ) → from + d ≤ group.end → P d (bound job running (from + d))
  over_group P past next here zero inside =
      let e : from ≡ from + 0 = omega arith in
      subst (λ (n : ℕ). P 0 (bound job running n)) e here
  over_group P past next here (suc d) inside =
      let within = of.inside in
      let begins = of.some in
      let before = over_group P past next here d (omega arith) in
      let low : from + d < length running = omega arith in
      let e = bound_inside job state running is.running (from + d) low in
      let p : ℕ = get_or running (from + d) 0 in
      let stands = of.stand (from + d) (omega arith) (omega arith) in
      let one = next d p (listed_below job state running is.running (from + d) low) stands
      (subst (P d) e before) in
      let more : from + d + 1 ≡ from + suc d = omega arith in
      subst (λ (n : ℕ). P (suc d) (bound job running n)) more
      (run_next job state running is.running (P (suc d))
      (λ i under stopped was. past (suc d) i stopped was) (from + d) low one)
