-- How often each instruction is executed, as it is counted.
use Rattle.std.proofs.Common.{◌≡◌, ◌≢◌, ℕ, zero, suc, ◌+◌, ◌-◌, ◌*◌, ◌^◌, ◌<◌, ◌≤◌, ◌==◌}
use Rattle.std.proofs.Common.{nat_lt}
use Rattle.std.proofs.Common.{Bool, true, false, List, [], length, set, if◌then◌else◌}
use Rattle.std.proofs.Common.{replicate}
use Rattle.std.proofs.Common.{refl, sym, ap, ◌∙◌, subst, ⊎_elim, arith}
use Rattle.std.proofs.Math.Nat.{mul-le-mul_left}
use Rattle.std.specs.Prelude.{count_by, max}
use Rattle.std.specs.List.{range_with_len}
use Rattle.std.proofs.lemmas.Bool.{cases_eq, cases_lt, eq-eqb, ne_eqb, lt-ltb}
use Rattle.std.proofs.lemmas.List.{get_or-replicate, get_or-set_other, get_or-set_same}
use Rattle.std.proofs.lemmas.List.{length-replicate, length-set}
use Rattle.std.proofs.lemmas.List.FromFn.{length-range_with_len}
use Rattle.std.proofs.lemmas.List.Sums.{count_by-le-length, sum_by_push}
use Rattle.pram_job.specs.Job.{JobData}
use Rattle.pram_machine.specs.Machine.{State, counter, halted}
use Rattle.pram_step.specs.Inner.Passes.{bound}
use Rattle.pram_step.specs.Running.{Repeats}
use Rattle.pram_step.specs.Runs.{state_after}
use Rattle.pram_step.specs.declared.walks.Sight.{Sight}
use Rattle.pram_step.specs.Walks.{IsSight}
use Rattle.pram_step.proofs.LawRules.{state_same}
use Rattle.pram_cost.specs.declared.profile.Executed.{Executed}
use Rattle.pram_cost.specs.declared.profile.Tallied.{Tallied}
use Rattle.pram_cost.specs.declared.group.Group.{Group}
use Rattle.pram_cost.specs.Inner.Groups.{IsGroup}
use Rattle.pram_cost.specs.Inner.Tallied.{AreTallied, IsTallied, tallied_more, standing_among}
use Rattle.pram_cost.specs.Profiled.{HasProfiled, IsExecuted, tally_at}
use Rattle.pram_cost.specs.Profiles.{executed_at, most_at, standing_at_index, instruction_steps}
use Rattle.pram_cost.proofs.Grouping.{bound_most, over_group}
use Rattle.pram_cost.proofs.Runners.{range-more}

-- ---- in steps that begin in one state

module _ (job : JobData) (index : ℕ) where
  abbrev standing : State → ℕ
  standing s = standing_at_index job index s

  abbrev pub one_of : ℕ → ℕ → ℕ
  one_of k v = if nat_lt 0 v then k else 0

  one_more_of : (k v : ℕ) → one_of k v + one_of 1 v ≡ one_of (suc k) v
  one_more_of k v = by_test (nat_lt 0 v)
    where
      by_test : (b : Bool) → (if b then k else 0) + (if b then 1 else 0) ≡ (if b then suc k else 0)
      by_test true = omega arith
      by_test false = omega arith

  none_of : (v : ℕ) → one_of 0 v ≡ 0
  none_of v = by_test (nat_lt 0 v)
    where
      by_test : (b : Bool) → ◌≡◌ {A = ℕ} (if b then 0 else 0) 0
      by_test true = refl
      by_test false = refl

  module _ (n : ℕ) (s : State) where
    next_of : (k : ℕ) → n + suc k ≡ suc (n + k)
    next_of k = omega arith

    pub steps_more : (k : ℕ) → Repeats job n k s →
        instruction_steps job index (n + k) ≡ instruction_steps job index n + one_of k (standing s)
    unfolding instruction_steps
    steps_more zero same =
        let e : n + 0 ≡ n = omega arith in
        let f = none_of (standing s) in
        let g = ap (instruction_steps job index) e in omega arith
    steps_more (suc k) same =
        let before = steps_more k (λ j lt. same j (omega arith)) in
        let here : state_after job (n + k) ≡ s = same k (omega arith) in
        let last : instruction_steps job index (suc (n + k))
        ≡ instruction_steps job index (n + k) + one_of 1 (standing s) =
        ap (λ (r : State). instruction_steps job index (n + k) + one_of 1 (standing r)) here in
        let e = ap (instruction_steps job index) (next_of k) in
        let f = one_more_of k (standing s) in omega arith

    pub executed_more : (k : ℕ) → Repeats job n k s →
        executed_at job index (n + k) ≡ executed_at job index n + k * standing s
    unfolding executed_at
    executed_more zero same =
        let e : n + 0 ≡ n = omega arith in
        let g = ap (executed_at job index) e in omega arith
    executed_more (suc k) same =
        let before = executed_more k (λ j lt. same j (omega arith)) in
        let here : state_after job (n + k) ≡ s = same k (omega arith) in
        let last : executed_at job index (suc (n + k))
        ≡ executed_at job index (n + k) + standing s =
        ap (λ (r : State). executed_at job index (n + k) + standing r) here in
        let e = ap (executed_at job index) (next_of k) in
        let product : suc k * standing s ≡ k * standing s + standing s = omega arith in omega arith

    pub most_more : (k : ℕ) → Repeats job n (suc k) s →
        most_at job index (n + suc k) ≡ max (most_at job index n) (standing s)
    unfolding most_at
    most_more zero same =
        let e : n + 0 ≡ n = omega arith in
        let here : state_after job n ≡ s =
        subst (λ (m : ℕ). state_after job m ≡ s) e (same 0 (omega arith)) in
        let f : n + 1 ≡ suc n = omega arith in
        ap (most_at job index) f
        ∙ ap (λ (r : State). max (most_at job index n) (standing r)) here
    most_more (suc k) same =
        let before = most_more k (λ j lt. same j (omega arith)) in
        let here : state_after job (n + suc k) ≡ s = same (suc k) (omega arith) in
        let last : most_at job index (suc (n + suc k))
        ≡ max (most_at job index (n + suc k)) (standing s) =
        ap (λ (r : State). max (most_at job index (n + suc k)) (standing r)) here in
        let e = ap (most_at job index) (next_of (suc k)) in omega arith

  -- ---- bounds

  among_few : (s : State) (n : ℕ) → standing_among job index s n ≤ n
  among_few s n = omega (
    arith,
    count_by-le-length (λ i. counter job s i == index) (range_with_len 0 n),
    length-range_with_len 0 n,
  )

  pub steps_few : (n : ℕ) → instruction_steps job index n ≤ n
  unfolding instruction_steps
  steps_few zero = omega arith
  steps_few (suc n) =
      let e = steps_few n in
      let f = one_few (standing (state_after job n)) in omega arith
    where
      one_few : (v : ℕ) → one_of 1 v ≤ 1
      one_few v = by_test (nat_lt 0 v)
        where
          by_test : (b : Bool) → (if b then 1 else 0) ≤ 1
          by_test true = omega arith
          by_test false = omega arith

  pub executed_few : (n : ℕ) → executed_at job index n ≤ n * job.procs
  unfolding executed_at
  executed_few zero = omega arith
  executed_few (suc n) =
      let e = executed_few n in
      let f = among_few (state_after job n) job.procs in
      let product : suc n * job.procs ≡ n * job.procs + job.procs = omega arith in omega arith

  pub most_few : (n : ℕ) → most_at job index n ≤ job.procs
  unfolding most_at
  most_few zero = omega arith
  most_few (suc n) =
      let e = most_few n in
      let f = among_few (state_after job n) job.procs in omega arith

  -- ---- one processor more

  module _ (s : State) (n : ℕ) where
    among_more : standing_among job index s (n + 1)
        ≡ standing_among job index s n + (if counter job s n == index then 1 else 0)
    among_more =
        let e : 0 + n ≡ n = omega arith in
        ap (count_by (λ i. counter job s i == index)) (range-more 0 n)
        ∙ sum_by_push (λ i. if counter job s i == index then 1 else 0) (range_with_len 0 n) (0 + n)
        ∙ ap (λ m. standing_among job index s n + (if counter job s m == index then 1 else 0)) e

    pub among_other : counter job s n ≢ index →
        standing_among job index s (n + 1) ≡ standing_among job index s n
    among_other apart =
        let e : standing_among job index s n + 0 ≡ standing_among job index s n = omega arith in
        among_more ∙ ap (λ (b : Bool). standing_among job index s n + (if b then 1 else 0))
        (ne_eqb (counter job s n) index apart) ∙ e

    pub among_here : counter job s n ≡ index →
        standing_among job index s (n + 1) ≡ standing_among job index s n + 1
    among_here same =
        among_more ∙ ap (λ (b : Bool). standing_among job index s n + (if b then 1 else 0))
        (eq-eqb (counter job s n) index same)

  -- ---- a row

  module _ (made times many d : ℕ) (row : Tallied) (is : IsTallied job index made times many row)
      (some_more : 0 < d) where
    abbrev more : Tallied
    more = tallied_more (made + 1) times d row

    if_last : (b : Bool) → (row.last == made + 1) ≡ b → {A : Type 0} (x y : A) →
        (if row.last == made + 1 then x else y) ≡ (if b then x else y)
    if_last b e x y = ap (λ (t : Bool). if t then x else y) e

    pub counted_first : many ≡ 0 → IsTallied job index made times (many + d) more
    counted_first none =
        let low = is.last_none none in
        let test : (row.last == made + 1) ≡ false =
        ne_eqb row.last (made + 1) (λ e. omega arith) in
        let some : nat_lt 0 (many + d) ≡ true = lt-ltb 0 (many + d) (omega arith) in
        let no : nat_lt 0 many ≡ false = ap (nat_lt 0) none in
        let was : (if nat_lt 0 many then times else 0) ≡ 0 =
        ap (λ (b : Bool). if b then times else 0) no in
        let now_is : (if nat_lt 0 (many + d) then times else 0) ≡ times =
        ap (λ (b : Bool). if b then times else 0) some in
        let now_steps : more.executed.steps ≡ row.executed.steps + times =
        if_last false test row.executed.steps (row.executed.steps + times) in
        let now_many : more.now ≡ d = if_last false test (row.now + d) d in
        let steps = is.steps_are in
        let executed = is.times_are in
        let most = is.most_is in
        let product : times * (many + d) ≡ times * many + times * d = omega arith in
        record {
          steps_are = omega arith;
          times_are = omega arith;
          most_is = ap (max row.executed.most) now_many ∙ (omega arith);
          last_none = λ e. absurd (omega arith);
          last_some = λ lt. (refl, omega arith);
        }

    pub counted_again : 0 < many → IsTallied job index made times (many + d) more
    counted_again lt =
        let known = is.last_some lt in
        let known_many : row.now ≡ many = known.1 in
        let test : (row.last == made + 1) ≡ true = eq-eqb row.last (made + 1) known.0 in
        let some : nat_lt 0 (many + d) ≡ true = lt-ltb 0 (many + d) (omega arith) in
        let yes : nat_lt 0 many ≡ true = lt-ltb 0 many lt in
        let was : (if nat_lt 0 many then times else 0) ≡ times =
        ap (λ (b : Bool). if b then times else 0) yes in
        let now_is : (if nat_lt 0 (many + d) then times else 0) ≡ times =
        ap (λ (b : Bool). if b then times else 0) some in
        let now_steps : more.executed.steps ≡ row.executed.steps =
        if_last true test row.executed.steps (row.executed.steps + times) in
        let now_many : more.now ≡ row.now + d = if_last true test (row.now + d) d in
        let steps = is.steps_are in
        let executed = is.times_are in
        let most = is.most_is in
        let product : times * (many + d) ≡ times * many + times * d = omega arith in
        record {
          steps_are = omega arith;
          times_are = omega arith;
          most_is = ap (max row.executed.most) now_many ∙ (omega arith);
          last_none = λ e. absurd (omega arith);
          last_some = λ less. (refl, omega arith);
        }

    pub counted_more : IsTallied job index made times (many + d) more
    counted_more = ⊎_elim (λ (some : 0 < many). counted_again some)
        (λ (none : many ≤ 0). counted_first (omega arith))
        (cases_lt 0 many)

-- ---- the rows of a step

module _ (sight : Sight) (is : IsSight sight) where
  abbrev pub job_of : JobData
  job_of = sight.job.now

  abbrev pub state_of : State
  state_of = sight.state.now

  -- before all processors
  pub tallied_none : (rows : List Tallied) → HasProfiled job_of sight.made rows →
      AreTallied sight 0 rows
  tallied_none rows has = record {
    count = has.count;
    each = λ index low.
        let each = has.each index low in
        let steps = each.steps_are in
        let times = each.times_are in
        let most = each.most_is in
        let product : sight.times * 0 ≡ 0 = omega arith in record {
          steps_are = omega arith;
          times_are = omega arith;
          most_is = omega arith;
          last_none = λ e. has.last index low;
          last_some = λ lt. absurd (omega arith);
        };
  }

  -- who has stopped executes nothing
  pub tallied_past : (n : ℕ) (rows : List Tallied) → AreTallied sight n rows →
      halted job_of ≤ counter job_of state_of n → AreTallied sight (n + 1) rows
  tallied_past n rows are past = record {
    count = are.count;
    each = λ index low.
        subst (λ m. IsTallied job_of index sight.made sight.times m (tally_at rows index))
        (sym (among_other job_of index state_of n (λ e. omega arith))) (are.each index low);
  }

  -- ---- the rows after a group

  module _ (group : Group) (of : IsGroup sight group.from group) where
    abbrev from : ℕ
    from = bound job_of sight.running.now group.from

    abbrev end : ℕ
    end = bound job_of sight.running.now group.end

    abbrev size : ℕ
    size = group.end - group.from

    -- So many processors more stand at its instruction, and no more at each other.
    among_group : (index : ℕ) → index < length job_of.code → group.index ≡ index →
        standing_among job_of index state_of end
        ≡ standing_among job_of index state_of from + size
    among_group index low same =
        let begins = of.some in
        let e : group.from + size ≡ group.end = omega arith in
        subst (λ n. standing_among job_of index state_of (bound job_of sight.running.now n)
        ≡ standing_among job_of index state_of from + size) e
        (over_group sight is group.from group of
        (λ d n. standing_among job_of index state_of n
        ≡ standing_among job_of index state_of from + d)
        (λ d i stopped was. among_other job_of index state_of i (λ at. omega arith) ∙ was)
        (λ d i under here was.
        let one = among_here job_of index state_of i (here ∙ same) in omega arith)
        (omega arith) size (omega arith))

    among_apart : (index : ℕ) → index < length job_of.code → group.index ≢ index →
        standing_among job_of index state_of end ≡ standing_among job_of index state_of from
    among_apart index low apart =
        let begins = of.some in
        let e : group.from + size ≡ group.end = omega arith in
        subst (λ n. standing_among job_of index state_of (bound job_of sight.running.now n)
        ≡ standing_among job_of index state_of from) e
        (over_group sight is group.from group of
        (λ d n. standing_among job_of index state_of n ≡ standing_among job_of index state_of from)
        (λ d i stopped was. among_other job_of index state_of i (λ at. omega arith) ∙ was)
        (λ d i under here was.
        among_other job_of index state_of i (λ at. apart (sym here ∙ at)) ∙ was)
        refl size (omega arith))

    module _ (rows : List Tallied) (are : AreTallied sight from rows) where
      abbrev row : Tallied
      row = tally_at rows group.index

      abbrev grown : Tallied
      grown = tallied_more (sight.made + 1) sight.times size row

      same_row : (index : ℕ) (other : Tallied) → index < length job_of.code →
          group.index ≢ index → other ≡ tally_at rows index →
          IsTallied job_of index sight.made sight.times
          (standing_among job_of index state_of end) other
      same_row index other low apart same =
          subst (λ m. IsTallied job_of index sight.made sight.times m other)
          (sym (among_apart index low apart))
          (subst (IsTallied job_of index sight.made sight.times
          (standing_among job_of index state_of from)) (sym same) (are.each index low))

      -- a group that has stopped executes nothing
      pub tallied_stopped : halted job_of ≤ group.index → AreTallied sight end rows
      tallied_stopped past = record {
        count = are.count;
        each = λ index low. same_row index (tally_at rows index) low (λ e. omega arith) refl;
      }

      module _ (inside : group.index < length rows) where
        low_index : group.index < length job_of.code
        low_index = let e = are.count in omega arith

        row_is : IsTallied job_of group.index sight.made sight.times
            (standing_among job_of group.index state_of from) row
        row_is = are.each group.index low_index

        grown_is : IsTallied job_of group.index sight.made sight.times
            (standing_among job_of group.index state_of end) grown
        grown_is =
            let begins = of.some in
            subst (λ m. IsTallied job_of group.index sight.made sight.times m grown)
            (sym (among_group group.index low_index refl))
            (counted_more job_of group.index sight.made sight.times
            (standing_among job_of group.index state_of from) size row row_is (omega arith))

        -- one that runs executes one instruction
        pub tallied_group : AreTallied sight end (set rows group.index grown)
        tallied_group = record {
          count = length-set rows group.index _ ∙ are.count;
          each = λ index low. ⊎_elim
              (λ (here : group.index ≡ index). subst
              (λ (k : ℕ). IsTallied job_of k sight.made sight.times
              (standing_among job_of k state_of end) (tally_at (set rows group.index grown) k)) here
              (subst (IsTallied job_of group.index sight.made sight.times
              (standing_among job_of group.index state_of end))
              (sym (get_or-set_same rows group.index grown _ inside)) grown_is))
              (λ (no : group.index ≢ index). same_row index _ low no
              (get_or-set_other rows group.index index _ _ (λ e. no (sym e))))
              (cases_eq group.index index);
        }

        -- ---- what fits

        module _ (few : job_of.procs < 2 ^ 32) where
          many_few : standing_among job_of group.index state_of from + size ≤ job_of.procs
          many_few =
              let e = among_group group.index low_index refl in
              let low = among_few job_of group.index state_of end in
              let most = bound_most job_of state_of sight.running.now is.running group.end in
              omega arith

          pub steps_fit : row.last ≢ sight.made + 1 → row.executed.steps + sight.times < 2 ^ 32
          steps_fit apart = ⊎_elim
              (λ (some : 0 < standing_among job_of group.index state_of from).
              absurd (apart (row_is.last_some some).0))
              (λ (none : standing_among job_of group.index state_of from ≤ 0).
              let no : nat_lt 0 (standing_among job_of group.index state_of from) ≡ false =
              ap (nat_lt 0) (let e : standing_among job_of group.index state_of from ≡ 0 =
              omega arith in e) in
              let e = row_is.steps_are in
              let was : (if nat_lt 0 (standing_among job_of group.index state_of from)
              then sight.times else 0) ≡ 0 = ap (λ (b : Bool). if b then sight.times else 0) no in
              let f = steps_few job_of group.index sight.made in
              let g = is.fits in omega arith)
              (cases_lt 0 (standing_among job_of group.index state_of from))

          pub now_fits : row.last ≡ sight.made + 1 → row.now + size < 2 ^ 32
          now_fits same = ⊎_elim
              (λ (some : 0 < standing_among job_of group.index state_of from).
              let e = (row_is.last_some some).1 in
              let f = many_few in omega arith)
              (λ (none : standing_among job_of group.index state_of from ≤ 0).
              let e = row_is.last_none
              (let e : standing_among job_of group.index state_of from ≡ 0 = omega arith in e) in
              absurd (omega arith))
              (cases_lt 0 (standing_among job_of group.index state_of from))

          pub times_fit : row.executed.times + sight.times * size < 2 ^ 64
          times_fit =
              let many : ℕ = standing_among job_of group.index state_of from in
              let e : row.executed.times ≡ executed_at job_of group.index sight.made
              + sight.times * many = row_is.times_are in
              let f = executed_few job_of group.index sight.made in
              let g = is.fits in
              let more : many + size ≤ job_of.procs = many_few in
              let h = mul-le-mul_left sight.times more in
              let all : sight.made * job_of.procs + sight.times * job_of.procs
              ≡ (sight.made + sight.times) * job_of.procs = omega arith in
              let below : job_of.procs ≤ 2 ^ 32 = omega arith in
              let limit = mul-le-mul_left (sight.made + sight.times) below in
              let product : sight.times * (many + size) ≡ sight.times * many + sight.times * size =
              omega arith in omega arith

  -- ---- after all processors

  pub tallied_all : (rows : List Tallied) → AreTallied sight job_of.procs rows →
      HasProfiled job_of (sight.made + sight.times) rows
  tallied_all rows are = record {
    count = are.count;
    each = λ index low. each_all index low;
    last = λ index low.
        let row = are.each index low in
        let some = is.some in ⊎_elim
        (λ (lt : 0 < standing_among job_of index state_of job_of.procs).
        let e = (row.last_some lt).0 in omega arith)
        (λ (none : standing_among job_of index state_of job_of.procs ≤ 0).
        let e = row.last_none (let e : standing_among job_of index state_of job_of.procs ≡ 0 =
        omega arith in e) in omega arith)
        (cases_lt 0 (standing_among job_of index state_of job_of.procs));
  }
    where
      before_some : (k : ℕ) → 0 < k → (less : ℕ) × (k ≡ suc less)
      before_some zero lt = absurd (omega arith)
      before_some (suc k) lt = (k, refl)

      most_all : (index k : ℕ) → sight.times ≡ suc k →
          most_at job_of index (sight.made + sight.times)
          ≡ max (most_at job_of index sight.made) (standing_at_index job_of index state_of)
      most_all index k e =
          ap (λ m. most_at job_of index (sight.made + m)) e
          ∙ most_more job_of index sight.made state_of k
          (λ j lt. is.repeats j (omega arith))

      each_all : (index : ℕ) → index < length job_of.code →
          IsExecuted job_of index (sight.made + sight.times)
          (tally_at rows index).executed
      each_all index low =
          let row = are.each index low in
          let less = before_some sight.times is.some in record {
            steps_are = row.steps_are
                ∙ sym (steps_more job_of index sight.made state_of sight.times is.repeats);
            times_are = row.times_are
                ∙ sym (executed_more job_of index sight.made state_of sight.times is.repeats);
            most_is = row.most_is ∙ sym (most_all index less.0 less.1);
          }

-- ---- before all steps

pub none_profiled : (job : JobData) (n : ℕ) → n ≡ length job.code →
    HasProfiled job 0 (replicate n (tally_at [] 0))
unfolding executed_at most_at instruction_steps
none_profiled job n len = record {
  count = length-replicate n (tally_at [] 0) ∙ len;
  each = λ index low. subst (λ (row : Tallied). IsExecuted job index 0 row.executed)
      (sym (get_or-replicate n index (tally_at [] 0) _ (omega arith)))
      (record { steps_are = refl; times_are = refl; most_is = refl });
  last = λ index low.
      let e : (tally_at (replicate n (tally_at [] 0)) index).last ≡ 0 =
      ap (λ (row : Tallied). row.last) (get_or-replicate n index (tally_at [] 0) _ (omega arith)) in
      omega arith;
}

-- ---- of jobs that differ in their number of steps alone

module _ (job : JobData) (n index : ℕ) where
  abbrev other : JobData
  other = record job { steps = n }

  other_state : (t : ℕ) → state_after other t ≡ state_after job t
  other_state t = state_same job job.rule n t

  steps_same : (t : ℕ) → instruction_steps other index t ≡ instruction_steps job index t
  unfolding instruction_steps
  steps_same zero = refl
  steps_same (suc t) =
      ap (λ (s : State). instruction_steps other index t
      + (if nat_lt 0 (standing_at_index job index s) then 1 else 0)) (other_state t)
      ∙ ap (λ m. m + (if nat_lt 0 (standing_at_index job index (state_after job t)) then 1 else 0))
      (steps_same t)

  executed_same : (t : ℕ) → executed_at other index t ≡ executed_at job index t
  unfolding executed_at
  executed_same zero = refl
  executed_same (suc t) =
      ap (λ (s : State). executed_at other index t + standing_at_index job index s) (other_state t)
      ∙ ap (λ m. m + standing_at_index job index (state_after job t)) (executed_same t)

  most_same : (t : ℕ) → most_at other index t ≡ most_at job index t
  unfolding most_at
  most_same zero = refl
  most_same (suc t) =
      ap (λ (s : State). max (most_at other index t) (standing_at_index job index s))
      (other_state t)
      ∙ ap (λ m. max m (standing_at_index job index (state_after job t))) (most_same t)

  pub executed_is_same : (t : ℕ) (rows : List Tallied) (executed : Executed) →
      HasProfiled other t rows → index < length job.code →
      executed ≡ (tally_at rows index).executed → IsExecuted job index t executed
  executed_is_same t rows executed has low same =
      let is = has.each index low in record {
        steps_are = ap (λ (e : Executed). e.steps) same ∙ is.steps_are ∙ steps_same t;
        times_are = ap (λ (e : Executed). e.times) same ∙ is.times_are ∙ executed_same t;
        most_is = ap (λ (e : Executed). e.most) same ∙ is.most_is ∙ most_same t;
      }
