-- The accesses of a step, as they are found.
use Rattle.std.proofs.Common.{◌≡◌, ℕ, suc, ◌+◌, ◌-◌, ◌<◌, ◌≤◌, true, false, List, [], ◌∷◌, ◌++◌}
use Rattle.std.proofs.Common.{length, slice_get}
use Rattle.std.proofs.Common.{Option, Some, None, refl, sym, ap, subst, ◌∙◌, inl, inr, arith}
use Rattle.std.specs.Prelude.{filter}
use Rattle.std.specs.List.{range_with_len}
use Rattle.std.proofs.lemmas.Bool.{cases_lt, le-ltb}
use Rattle.std.proofs.lemmas.List.{get_or_append_left, get_or_push, length_push}
use Rattle.std.proofs.lemmas.List.Elements.{All-push, All-weaker, All-nil}
use Rattle.std.proofs.lemmas.List.Quantifiers.{all_pairs_push}
use Rattle.std.proofs.lemmas.Option.{none-some}
use Rattle.pram_job.specs.declared.instr.Instr.{Instr}
use Rattle.pram_job.specs.declared.instr.Instr.TheVariants.{Ld, St}
use Rattle.pram_job.specs.declared.instr.Operand.{Operand}
use Rattle.pram_job.specs.declared.instr.Place.{Place}
use Rattle.pram_job.specs.Job.{JobData}
use Rattle.pram_machine.specs.Machine.{State, counter, halted, IsStopped}
use Rattle.pram_cost.specs.declared.access.Visit.TheVariants.{Elsewhere, Reads, Writes}
use Rattle.pram_cost.specs.declared.found.Access.{Access}
use Rattle.pram_cost.specs.declared.found.Accesses.{Accesses}
use Rattle.pram_cost.specs.declared.meeting.Sharing.{Sharing}
use Rattle.pram_cost.specs.declared.meeting.Sharing.TheVariants.{SameRead, SameWrite, OtherValue}
use Rattle.pram_step.specs.Inner.Passes.{bound}
use Rattle.pram_step.specs.Running.{is_running}
use Rattle.pram_step.specs.Walks.{IsSight}
use Rattle.pram_step.specs.declared.walks.Sight.{Sight}
use Rattle.pram_cost.specs.declared.group.Group.{Group}
use Rattle.pram_cost.specs.Inner.Groups.{IsGroup}
use Rattle.pram_cost.specs.Inner.Found.{IsAccess, AreAccesses, AreFound, IsVisit, of_kind}
use Rattle.pram_cost.specs.Meetings.{access_by}
use Rattle.pram_cost.proofs.Accessing.{idle_access}
use Rattle.pram_cost.proofs.Grouping.{over_group}
use Rattle.pram_cost.proofs.Runners.{count_runs, count_stopped}
use Rattle.pram_cost.proofs.Visiting.{visit_elsewhere}

-- what stands where no access was found
abbrev nobody : Access
nobody = record { processor = 0; cell = 0; value = 0 }

module _ (cells : ℕ) (access : ℕ → Option (ℕ × ℕ)) where
  earlier : (n n' : ℕ) → n ≤ n' → (one : Access) → IsAccess cells access n one →
      IsAccess cells access n' one
  earlier n n' more one is =
      let low = is.within in
      record { within = omega arith; is_cell = is.is_cell; goes = is.goes }

  none_yet : AreAccesses cells access 0 []
  none_yet = record {
    few = omega arith;
    each = All-nil (IsAccess cells access 0);
    rises = λ j k d low inside. absurd (omega arith);
    all = λ i cell value low goes none. absurd (omega arith);
  }

  module _ (m : ℕ) (list : List Access) (are : AreAccesses cells access m list) where
    -- processor m goes to no cell
    none_more : access m ≡ None → AreAccesses cells access (m + 1) list
    none_more none = let few = are.few in record {
      few = omega arith;
      each = All-weaker (IsAccess cells access m) (IsAccess cells access (m + 1))
          (earlier m (m + 1) (omega arith)) list are.each;
      rises = are.rises;
      all = λ i cell value low goes each. elim (cases_lt i m) [
        | inl before ↦ are.all i cell value before goes each
        | inr late ↦
            let same : i ≡ m = omega arith in
            let at_m = subst (λ k. access k ≡ Some (cell, value)) same goes in
            absurd (none-some (cell, value) (sym none ∙ at_m))
      ];
    }

    -- it goes to this one
    module _ (cell value : ℕ) (low : cell < cells) (goes : access m ≡ Some (cell, value)) where
      abbrev last : Access
      last = record { processor = m; cell = cell; value = value }

      one_more : AreAccesses cells access (m + 1) (list ++ last ∷ [])
      one_more = let few = are.few in record {
        few = omega (arith, length_push list last);
        each = All-push (IsAccess cells access (m + 1)) list last
            (All-weaker (IsAccess cells access m) (IsAccess cells access (m + 1))
            (earlier m (m + 1) (omega arith)) list are.each)
            (record { within = omega arith; is_cell = low; goes = goes });
        rises = all_pairs_push (λ (one other : Access). one.processor < other.processor) list last
            are.rises (λ k d inside. (are.each k d inside).within);
        all = λ i cell' value' below there none. elim (cases_lt i m) [
          | inl before ↦ are.all i cell' value' before there (λ k inside same.
              none k (omega (arith, length_push list last))
              (ap (λ (one : Access). one.processor)
              (get_or_append_left list (last ∷ []) nobody k inside) ∙ same))
          | inr late ↦ none (length list) (omega (arith, length_push list last))
              (ap (λ (one : Access). one.processor)
              (get_or_push list last nobody (length list) refl)
              ∙ (let same : m ≡ i = omega arith in same))
        ];
      }

-- ---- of both kinds

module _ (job : JobData) (s : State) where
  pub found_none : (found : Accesses) → found.running ≡ 0 → found.reads.items ≡ [] →
      found.writes.items ≡ [] → AreFound job s 0 found
  found_none found count reads writes = record {
    few = omega arith;
    count = count;
    reads = subst (AreAccesses job.cells (access_by SameRead job s) 0) (sym reads)
        (none_yet job.cells (access_by SameRead job s));
    writes = subst (AreAccesses job.cells (access_by SameWrite job s) 0) (sym writes)
        (none_yet job.cells (access_by SameWrite job s));
  }

  module _ (m : ℕ) (found : Accesses) (are : AreFound job s m found) where
    no_read : access_by SameRead job s m ≡ None →
        AreAccesses job.cells (access_by SameRead job s) (m + 1) found.reads.items
    no_read = none_more job.cells (access_by SameRead job s) m found.reads.items are.reads

    no_write : access_by SameWrite job s m ≡ None →
        AreAccesses job.cells (access_by SameWrite job s) (m + 1) found.writes.items
    no_write = none_more job.cells (access_by SameWrite job s) m found.writes.items are.writes

    pub found_stopped : is_running job s m ≡ false → AreFound job s (m + 1) found
    found_stopped stopped = let few = are.few in record {
      few = omega arith;
      count = are.count ∙ sym (count_stopped job s m stopped);
      reads = no_read (idle_access SameRead job s m stopped);
      writes = no_write (idle_access SameWrite job s m stopped);
    }

    pub found_past : IsStopped job s m → AreFound job s (m + 1) found
    found_past past = found_stopped (le-ltb (counter job s m) (halted job) past)

    -- one more runs
    module _ (more : Accesses) (count : more.running ≡ found.running + 1) where
      count_more : is_running job s m ≡ true → more.running
          ≡ length (filter (is_running job s) (range_with_len 0 (m + 1)))
      count_more runs =
          let was = are.count in omega (arith, count, was, count_runs job s m runs)

      pub found_elsewhere : IsVisit job s m Elsewhere →
          more.reads.items ≡ found.reads.items → more.writes.items ≡ found.writes.items →
          AreFound job s (m + 1) more
      found_elsewhere is reads writes = let few = are.few in record {
        few = omega arith;
        count = count_more is.runs;
        reads = subst (AreAccesses job.cells (access_by SameRead job s) (m + 1)) (sym reads)
            (no_read is.reads);
        writes = subst (AreAccesses job.cells (access_by SameWrite job s) (m + 1)) (sym writes)
            (no_write is.writes);
      }

      pub found_read : (cell : ℕ) → IsVisit job s m (Reads cell) → more.reads.items
          ≡ found.reads.items ++ (record { processor = m; cell = cell; value = 0 }) ∷ [] →
          more.writes.items ≡ found.writes.items → AreFound job s (m + 1) more
      found_read cell is reads writes = let few = are.few in record {
        few = omega arith;
        count = count_more is.runs;
        reads = subst (AreAccesses job.cells (access_by SameRead job s) (m + 1)) (sym reads)
            (one_more job.cells (access_by SameRead job s) m found.reads.items are.reads cell 0
            is.inside is.reads);
        writes = subst (AreAccesses job.cells (access_by SameWrite job s) (m + 1)) (sym writes)
            (no_write is.writes);
      }

      pub found_write : (cell value : ℕ) → IsVisit job s m (Writes cell value) →
          more.reads.items ≡ found.reads.items → more.writes.items
          ≡ found.writes.items ++ (record { processor = m; cell = cell; value = value }) ∷ [] →
          AreFound job s (m + 1) more
      found_write cell value is reads writes = let few = are.few in record {
        few = omega arith;
        count = count_more is.runs;
        reads = subst (AreAccesses job.cells (access_by SameRead job s) (m + 1)) (sym reads)
            (no_read is.reads);
        writes = subst (AreAccesses job.cells (access_by SameWrite job s) (m + 1)) (sym writes)
            (one_more job.cells (access_by SameWrite job s) m found.writes.items are.writes cell
            value is.inside is.writes);
      }

  -- what was found is all of each kind
  pub all_of_kind : (sharing : Sharing) (found : Accesses) → AreFound job s job.procs found →
      AreAccesses job.cells (access_by sharing job s) job.procs (of_kind sharing found)
  all_of_kind SameRead found are = are.reads
  all_of_kind SameWrite found are = are.writes
  all_of_kind OtherValue found are = are.writes

-- ---- of a group

module _ (sight : Sight) (is : IsSight sight) (group : Group) (of : IsGroup sight group.from group)
    (found : Accesses) (before : AreFound sight.job.now sight.state.now
    (bound sight.job.now sight.running.now group.from) found) where
  abbrev job : JobData
  job = sight.job.now

  abbrev state : State
  state = sight.state.now

  -- so many of it run
  abbrev grown : ℕ → Accesses
  grown d = record found { running = found.running + d }

  -- who has stopped goes to no cell
  pub found_group_past : halted job ≤ group.index →
      AreFound job state (bound job sight.running.now group.end) found
  found_group_past past =
      let begins = of.some in
      let e : group.from + (group.end - group.from) ≡ group.end = omega arith in
      subst (λ n. AreFound job state (bound job sight.running.now n) found) e
      (over_group sight is group.from group of (λ d n. AreFound job state n found)
      (λ d i stopped was. found_past job state i found was stopped)
      (λ d i low here was. found_past job state i found was (omega arith))
      before (group.end - group.from) (omega arith))

  -- and who executes an instruction that neither loads nor stores
  pub found_group : (instr : Instr) → slice_get job.code group.index ≡ Some instr →
      ((r : ℕ) (place : Place) → instr ≡ Ld r place → ⊥) →
      ((place : Place) (b : Operand) → instr ≡ St place b → ⊥) →
      AreFound job state (bound job sight.running.now group.end) (grown (group.end - group.from))
  found_group instr at no_load no_store =
      let begins = of.some in
      let e : group.from + (group.end - group.from) ≡ group.end = omega arith in
      subst (λ n. AreFound job state (bound job sight.running.now n)
      (grown (group.end - group.from))) e
      (over_group sight is group.from group of (λ d n. AreFound job state n (grown d))
      (λ d i stopped was. found_past job state i (grown d) was stopped)
      (λ d i low here was. found_elsewhere job state i (grown d) was (grown (suc d)) (omega arith)
      (visit_elsewhere job state i instr
      (subst (λ n. slice_get job.code n ≡ Some instr) (sym here) at) no_load no_store) refl refl)
      (let none : found.running + 0 ≡ found.running = omega arith in record {
        few = let few = before.few in omega arith;
        count = none ∙ before.count;
        reads = before.reads;
        writes = before.writes;
      }) (group.end - group.from) (omega arith))
