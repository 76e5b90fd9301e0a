-- What steps cost, of jobs that differ in their number of steps alone.
use Rattle.std.proofs.Common.{◌≡◌, ℕ, ◌≤◌, Option, Some, None, map}
use Rattle.std.proofs.Common.{refl, sym, ap, subst, ◌∙◌, inl, inr}
use Rattle.std.specs.Prelude.{Bool, is_some, slice_get, slice_index, sum_by, count_by}
use Rattle.std.specs.List.{range_with_len, list_any}
use Rattle.std.specs.Option.{option_map}
use Rattle.pram_job.specs.declared.instr.Instr.{Instr}
use Rattle.pram_job.specs.declared.instr.Instr.TheVariants.{Ld, St, Halt}
use Rattle.pram_job.specs.declared.instr.Place.TheVariants.{Cell, Named}
use Rattle.pram_job.specs.Job.{JobData}
use Rattle.pram_machine.specs.declared.requests.Request.{Request}
use Rattle.pram_machine.specs.Machine.{State, counter}
use Rattle.pram_machine.specs.Instructions.{cell_read, goes_to, decided, operand_held}
use Rattle.pram_machine.specs.Instructions.{decided_in, request_in}
use Rattle.pram_step.specs.Runs.{state_after}
use Rattle.pram_step.proofs.LawRules.{state_same}
use Rattle.pram_cost.specs.declared.cost.Cost.{Cost}
use Rattle.pram_cost.specs.declared.meeting.Meeting.{Meeting}
use Rattle.pram_cost.specs.declared.meeting.Sharing.{Sharing}
use Rattle.pram_cost.specs.declared.meeting.Sharing.TheVariants.{SameRead, SameWrite, OtherValue}
use Rattle.pram_cost.specs.Accesses.{cell_by, put_to_cell}
use Rattle.pram_cost.specs.Costs.{at_work, has_access, steps_with}
use Rattle.pram_cost.specs.Costs.{IsMost, IsCostOf}
use Rattle.pram_cost.specs.Meetings.{access_by, IsFirstOrNone, IsLeastMeeting, NoneMeet}

abbrev pub sized : JobData → ℕ → JobData
sized job n = record job { steps = n }

module _ (job : JobData) (n : ℕ) where
  -- ---- what a processor accesses

  decided_same : (i counter : ℕ) (instr : Instr) (a b v : ℕ) →
      decided (sized job n) i counter instr a b v ≡ decided job i counter instr a b v
  unfolding decided
  decided_same i counter (Ld _ (Cell _)) a b v = refl
  decided_same i counter (Ld _ (Named _ _)) a b v = refl
  decided_same i counter (St (Cell _) _) a b v = refl
  decided_same i counter (St (Named _ _) _) a b v = refl
  decided_same i counter Halt a b v = refl
  decided_same i counter _ a b v = refl

  cell_same : (instr : Instr) (a : ℕ) → cell_read (sized job n) instr a ≡ cell_read job instr a
  cell_same (Ld _ (Cell _)) a = refl
  cell_same (Ld _ (Named _ _)) a = refl
  cell_same Halt a = refl
  cell_same _ a = refl

  request_same : (s : State) (i : ℕ) → request_in (sized job n) s i ≡ request_in job s i
  unfolding request_in
  request_same s i =
      ap (λ (run : Instr → Request). elim (slice_get job.code (counter job s i)) [
        | None ↦ goes_to (counter job s i)
        | Some instr ↦ run instr
      ]) (λ k instr. same instr k)
    where
      same : (instr : Instr) → decided_in (sized job n) s i instr ≡ decided_in job s i instr
      same instr =
          decided_same i _ instr _ _ _
          ∙ ap (λ (o : Option ℕ). decided job i (counter job s i) instr
          (operand_held job s i instr 0) (operand_held job s i instr 1)
          (elim o [ None ↦ 0 | Some cell ↦ slice_index s cell ]))
          (cell_same instr (operand_held job s i instr 0))

  read_same : (s : State) (i : ℕ) →
      access_by SameRead (sized job n) s i ≡ access_by SameRead job s i
  read_same s i = by_instr (slice_get job.code (counter job s i))
    where
      as_access : Option ℕ → Option (ℕ × ℕ)
      as_access o = option_map {U = ℕ × ℕ} (λ (cell : ℕ). (cell, 0)) o

      by_instr : (o : Option Instr) →
          as_access (cell_by (sized job n) s i o) ≡ as_access (cell_by job s i o)
      by_instr None = refl
      by_instr (Some instr) = ap as_access (cell_same instr (operand_held job s i instr 0))

  access_same : (sharing : Sharing) (s : State) (i : ℕ) →
      access_by sharing (sized job n) s i ≡ access_by sharing job s i
  access_same SameRead s i = read_same s i
  access_same SameWrite s i = ap (λ (r : Request). put_to_cell job r.put) (request_same s i)
  access_same OtherValue s i = ap (λ (r : Request). put_to_cell job r.put) (request_same s i)

  state_is : (t : ℕ) → state_after (sized job n) t ≡ state_after job t
  state_is t = state_same job job.rule n t

  access_is : (sharing : Sharing) (t : ℕ) → access_by sharing (sized job n)
      (state_after (sized job n) t) ≡ access_by sharing job (state_after job t)
  access_is sharing t = ap (access_by sharing (sized job n)) (state_is t)
      ∙ (λ k i. access_same sharing (state_after job t) i k)

  -- ---- what steps cost

  with_same : (sharing : Sharing) (t : ℕ) →
      steps_with sharing (sized job n) t ≡ steps_with sharing job t
  with_same sharing t =
      ap (λ (states : ℕ → State). count_by (has_access sharing (sized job n))
      (map states (range_with_len 0 t))) (λ k u. state_is u k)
      ∙ ap (λ (has : State → Bool). count_by has (map (state_after job) (range_with_len 0 t)))
      (λ k s. has_same s k)
    where
      has_same : (s : State) → has_access sharing (sized job n) s ≡ has_access sharing job s
      has_same s = ap (λ (access : ℕ → Option (ℕ × ℕ)).
          list_any (λ i. is_some (access i)) (range_with_len 0 job.procs))
          (λ k i. access_same sharing s i k)

  most_same : (t most : ℕ) → IsMost (sized job n) t most → IsMost job t most
  most_same t most is = record {
    bound = λ u low. subst (λ (s : State). at_work job s ≤ most) (state_is u) (is.bound u low);
    attained = elim is.attained [
      | inl none ↦ inl none
      | inr at ↦ inr (at.0, at.1, ap (at_work job) (sym (state_is at.0)) ∙ at.2)
    ];
  }

  first_same : (sharing : Sharing) (t : ℕ) (found : Option Meeting) →
      IsFirstOrNone sharing (sized job n) t found → IsFirstOrNone sharing job t found
  first_same sharing t None none = λ u low.
      subst (λ (a : ℕ → Option (ℕ × ℕ)). NoneMeet sharing a job.procs) (access_is sharing u)
      (none u low)
  first_same sharing t (Some meeting) is = record {
    before = is.before;
    within = is.within;
    step = is.step;
    none_before = λ u low.
        subst (λ (a : ℕ → Option (ℕ × ℕ)). NoneMeet sharing a job.procs) (access_is sharing u)
        (is.none_before u low);
    least = subst (λ (a : ℕ → Option (ℕ × ℕ)). IsLeastMeeting sharing a job.procs meeting)
        (access_is sharing is.before) is.least;
    stands = is.stands ∙ ap (λ (s : State). counter job s meeting.first) (state_is is.before);
  }

  pub cost_same : (t : ℕ) (cost : Cost) → IsCostOf (sized job n) t cost → IsCostOf job t cost
  cost_same t cost is = record {
    steps_are = is.steps_are;
    procs_are = is.procs_are;
    work_is = record {
      executed_is = is.work_is.executed_is
          ∙ ap (λ (states : ℕ → State). sum_by (at_work job) (map states (range_with_len 0 t)))
          (λ k u. state_is u k);
      most_is = most_same t cost.work.most is.work_is.most_is;
      reading_is = is.work_is.reading_is ∙ with_same SameRead t;
      writing_is = is.work_is.writing_is ∙ with_same SameWrite t;
    };
    first_are = record {
      same_read = first_same SameRead t cost.meetings.same_read is.first_are.same_read;
      same_write = first_same SameWrite t cost.meetings.same_write is.first_are.same_write;
      other_value = first_same OtherValue t cost.meetings.other_value is.first_are.other_value;
    };
  }
