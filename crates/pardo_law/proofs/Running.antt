-- Steps of all processors: those in which nobody stores, and those in which some do.
use Rattle.std.proofs.Common.{◌≡◌, ℕ, zero, suc, ◌+◌, ◌<◌, ◌≤◌, ◌==◌, nat_lt, true, Option, Some}
use Rattle.std.proofs.Common.{None}
use Rattle.std.proofs.Common.{refl, sym, ap, ◌∙◌, subst, inl, inr, ⊎_elim, arith, if◌then◌else◌}
use Rattle.std.proofs.Common.{length}
use Rattle.std.specs.Prelude.{slice_index, unwrap_or}
use Rattle.std.specs.Option.{option_or}
use Rattle.std.proofs.lemmas.Bool.{cases_lt, cases_Bool, le-ltb, eqb-true, eq-eqb}
use Rattle.std.proofs.lemmas.Option.{none-some, same_Some}
use Rattle.pram_job.specs.Job.{JobData, IsJob}
use Rattle.pram_machine.specs.Machine.{State, place_count}
use Rattle.pram_machine.specs.Instructions.{request_in, requests_in}
use Rattle.pram_step.specs.Steps.{Writes, written, next_state}
use Rattle.pram_step.specs.Runs.{state_after, AgreesAfter}
use Rattle.pram_step.proofs.LawFixed.{length-state_after, reached_more}
use Rattle.pram_step.proofs.LawWriters.{HasFirst, HasNone, writer_cases}
use Rattle.pram_step.proofs.LawPlaces.{writer_is}
use Rattle.pram_step.proofs.LawNext.{after_first, after_none}
use Rattle.pram_step.proofs.RequestList.{put_of_written, written_of_put}
use Rattle.pram_machine.proofs.Shapes.{asks}
use Rattle.pardo_job.specs.Meaning.{first_below, given_to}
use Rattle.pardo_law.specs.Locals.{Local, memory_of, IsLocal, next_local, local_store, IsNamedAt}
use Rattle.pardo_law.specs.Locals.{FollowsByItself}
use Rattle.pardo_law.specs.Locals.{StandsAfter, StoresAgree, after_stores, StoresAreMade}
use Rattle.pardo_law.proofs.Stepping.{each_by_itself}

-- ---- one processor, while nobody stores

abbrev pub IsQuiet : JobData → Local → Type 0
IsQuiet job l = IsNamedAt job l × (local_store job l ≡ None)

-- by so many quiet steps it comes there
abbrev pub Runs : JobData → (ℕ → ℕ) → ℕ → ℕ → Local → Local → Type 0
Runs job memory i zero l now = l ≡ now
Runs job memory i (suc n) l now = IsQuiet job l ×
    Runs job memory i n (next_local job memory i l) now

pub runs_then : (job : JobData) (memory : ℕ → ℕ) (i n m : ℕ) (l x y : Local) →
    Runs job memory i n l x → Runs job memory i m x y → Runs job memory i (n + m) l y
runs_then job memory i zero m l x y p q =
    let e : 0 + m ≡ m = omega arith in
    subst (λ k. Runs job memory i k l y) (sym e) (subst (λ z. Runs job memory i m z y) (sym p) q)
runs_then job memory i (suc n) m l x y p q =
    let e : suc n + m ≡ suc (n + m) = omega arith in
    subst (λ k. Runs job memory i k l y) (sym e)
    (p.0, runs_then job memory i n m (next_local job memory i l) x y p.1 q)

pub runs_out : (job : JobData) (memory : ℕ → ℕ) (i n : ℕ) → Runs job memory i n None None
runs_out job memory i zero = refl
runs_out job memory i (suc n) = ((tt, refl), runs_out job memory i n)

-- ---- what a cell holds after a step

pub first_none : (n : ℕ) (f : ℕ → Option ℕ) → ((i : ℕ) → i < n → f i ≡ None) → first_below n f ≡
    None
first_none zero f none = refl
first_none (suc n) f none =
    ap (λ o. option_or o (f n)) (first_none n f (λ i lt. none i (omega arith))) ∙
    none n (omega arith)

pub first_some : (n i v : ℕ) (f : ℕ → Option ℕ) → i < n → f i ≡ Some v →
    ((j : ℕ) → j < i → f j ≡ None) → first_below n f ≡ Some v
first_some zero i v f lt is none = absurd (omega arith)
first_some (suc n) i v f lt is none = ⊎_elim
    (λ (low : i < n). ap (λ o. option_or o (f n)) (first_some n i v f low is none))
    (λ (high : n ≤ i). let same : i ≡ n = omega arith in
    ap (λ o. option_or o (f n)) (first_none n f (λ j below. none j (omega arith)))
    ∙ sym (ap f same) ∙ is)
    (cases_lt i n)

pub firsts_same : (n : ℕ) (f g : ℕ → Option ℕ) → ((i : ℕ) → i < n → f i ≡ g i) →
    first_below n f ≡ first_below n g
firsts_same zero f g each = refl
firsts_same (suc n) f g each = λ k.
    option_or (firsts_same n f g (λ i lt. each i (omega arith)) k) (each n (omega arith) k)

pub given_is : (cell v : ℕ) (o : Option (ℕ × ℕ)) → given_to cell o ≡ Some v → o ≡ Some (cell, v)
given_is cell v None e = absurd (none-some v e)
given_is cell v (Some write) e = elim (cases_Bool (write.0 == cell)) [
  | inl same ↦
      let at_cell : write.0 ≡ cell = eqb-true write.0 cell same in
      let value : Some write.1 ≡ Some v = sym (ap (λ t. if t then Some write.1 else None) same) ∙
      e in
      (λ k. Some (at_cell k, same_Some write.1 v value k))
  | inr other ↦ absurd (none-some v (sym (ap (λ t. if t then Some write.1 else None) other) ∙ e))
]

pub given_of : (cell v : ℕ) (o : Option (ℕ × ℕ)) → o ≡ Some (cell, v) → given_to cell o ≡ Some v
given_of cell v o e = ap (given_to cell) e
    ∙ ap (λ t. if t then Some v else None) (eq-eqb cell cell refl)

pub given_none : (cell : ℕ) (o : Option (ℕ × ℕ)) → ((v : ℕ) → o ≡ Some (cell, v) → ⊥) →
    given_to cell o ≡ None
given_none cell o none = by_given (given_to cell o) refl
  where
    by_given : (g : Option ℕ) → given_to cell o ≡ g → given_to cell o ≡ None
    by_given None e = e
    by_given (Some v) e = absurd (none v (given_is cell v o e))

module _ (job : JobData) (is_job : IsJob job) (t : ℕ) (memory : ℕ → ℕ) (locals : ℕ → Local)
    (standing : StandsAfter job t memory locals)
    (named : (i : ℕ) → i < job.procs → IsNamedAt job (locals i)) where
  abbrev s : State
  s = state_after job t

  abbrev stores : ℕ → Option (ℕ × ℕ)
  stores i = local_store job (locals i)

  follows : (i : ℕ) → i < job.procs →
      FollowsByItself job s i (next_local job (memory_of job s) i (locals i)) (stores i)
  follows i lt = each_by_itself job s i (locals i) is_job (length-state_after job t is_job) lt
      (standing.locals_are i lt) (named i lt)

  -- the writes to a cell are the stores
  pub writer_stores : (cell i v : ℕ) → cell < job.cells → Writes job (requests_in job s) cell i v →
      (i < job.procs) × (stores i ≡ Some (cell, v))
  writer_stores cell i v low w =
      let is : (i < job.procs) × (written job cell i (request_in job s i) ≡ Some v) =
      writer_is job s cell i v w in (
        is.0,
        (follows i is.0).wrote cell v low
            (put_of_written job cell i v (request_in job s i) low is.1),
      )

  pub store_writes : (cell i v : ℕ) → cell < job.cells → i < job.procs → stores i ≡ Some (cell, v) →
      Writes job (requests_in job s) cell i v
  store_writes cell i v low lt is = record {
    request = request_in job s i;
    request_is = asks job s i lt;
    writes = written_of_put job cell i v (request_in job s i) (λ same. omega arith)
        ((follows i lt).stored cell v low is);
  }

  pub stores_agree : StoresAgree job stores → AgreesAfter job t
  stores_agree agree cell i j clash =
      let a = writer_stores cell i clash.value clash.writes.0 clash.writes.1 in
      let b = writer_stores cell j clash.other clash.writes_too.0 clash.writes_too.1 in
      agree cell i j clash.value clash.other a.0 b.0 a.1 b.1 clash.forbidden

  cell_after : (cell : ℕ) → cell < job.cells →
      slice_index (next_state job s) cell ≡
      unwrap_or (first_below job.procs (λ i. given_to cell (stores i))) (slice_index s cell)
  cell_after cell low =
      let within : cell < length s = let len : length s ≡ place_count job =
      length-state_after job t is_job in omega arith in
      ⊎_elim (λ (n : HasNone job (requests_in job s) cell).
      after_none job (requests_in job s) s cell within n.found
      ∙ sym (ap (λ o. unwrap_or o (slice_index s cell))
      (first_none job.procs (λ i. given_to cell (stores i))
      (λ i lt. given_none cell (stores i) (λ v is. n.none i v (store_writes cell i v low lt is))))))
      (λ (f : HasFirst job (requests_in job s) cell).
      let a = writer_stores cell f.writer f.value low f.first.writes in
      after_first job (requests_in job s) s cell f.value within f.found
      ∙ sym (ap (λ o. unwrap_or o (slice_index s cell))
      (first_some job.procs f.writer f.value (λ i. given_to cell (stores i))
      a.0 (given_of cell f.value (stores f.writer) a.1)
      (λ j before. given_none cell (stores j) (λ v is.
      let le : f.writer ≤ j = f.first.least j v
      (store_writes cell j v low (let x : f.writer < job.procs = a.0 in omega arith) is) in
      omega arith)))))
      (writer_cases job (requests_in job s) cell)

  in_memory : (cell : ℕ) → cell < job.cells → slice_index s cell ≡ memory cell
  in_memory cell low =
      sym (ap (λ b. if b then slice_index s cell else 0) (lt_true low))
      ∙ ap (λ (f : ℕ → ℕ). f cell) standing.memory_is
    where
      lt_true : {a b : ℕ} → a < b → nat_lt a b ≡ true
      lt_true lt = grind arith

  -- the memory after the step
  abbrev pub then_memory : ℕ → ℕ
  then_memory = memory_of job (next_state job s)

  pub memory_after : (cell : ℕ) → cell < job.cells →
      then_memory cell ≡ after_stores job.procs stores memory cell
  memory_after cell low =
      ap (λ b. if b then slice_index (next_state job s) cell else 0) (lt_yes cell job.cells low)
      ∙ cell_after cell low
      ∙ ap (λ v. unwrap_or (first_below job.procs (λ i. given_to cell (stores i))) v)
      (in_memory cell low)
    where
      lt_yes : (a b : ℕ) → a < b → nat_lt a b ≡ true
      lt_yes a b lt = grind arith

  pub store_step : StoresAgree job stores →
      StandsAfter job (suc t) then_memory (λ i. next_local job memory i (locals i))
  unfolding state_after
  store_step agree = record {
    reached = reached_more job t standing.reached (stores_agree agree);
    memory_is = refl;
    locals_are = λ i lt. subst (λ m. IsLocal job (next_state job s) i
        (next_local job m i (locals i)))
        standing.memory_is (follows i lt).local_is;
  }

-- ---- quiet steps

module _ (job : JobData) (is_job : IsJob job) where
  quiet_memory : (t : ℕ) (memory : ℕ → ℕ) (locals : ℕ → Local) →
      (standing : StandsAfter job t memory locals) →
      (quiet : (i : ℕ) → i < job.procs → IsQuiet job (locals i)) →
      memory_of job (next_state job (state_after job t)) ≡ memory
  quiet_memory t memory locals standing quiet = λ k cell. same cell k
    where
      near : (cell : ℕ) → cell < job.cells → memory_of job (next_state job (state_after job t)) cell
          ≡ memory cell
      near cell low = memory_after job is_job t memory locals standing (λ i lt. (quiet i lt).0) cell
          low
          ∙ ap (λ o. unwrap_or o (memory cell))
          (first_none job.procs (λ i. given_to cell (local_store job (locals i)))
          (λ i lt. ap (given_to cell) (quiet i lt).1))

      far : (cell : ℕ) → job.cells ≤ cell → memory_of job (next_state job (state_after job t)) cell
          ≡ memory cell
      far cell high = ap (λ b. if b then slice_index (next_state job (state_after job t)) cell else
          0) (le-ltb cell job.cells high)
          ∙ sym (ap (λ b. if b then slice_index (state_after job t) cell else 0)
          (le-ltb cell job.cells high))
          ∙ ap (λ (f : ℕ → ℕ). f cell) standing.memory_is

      same : (cell : ℕ) → memory_of job (next_state job (state_after job t)) cell ≡ memory cell
      same cell = ⊎_elim (λ low. near cell low) (λ high. far cell high) (cases_lt cell job.cells)

  quiet_step : (t : ℕ) (memory : ℕ → ℕ) (locals : ℕ → Local) → StandsAfter job t memory locals →
      ((i : ℕ) → i < job.procs → IsQuiet job (locals i)) →
      StandsAfter job (suc t) memory (λ i. next_local job memory i (locals i))
  unfolding state_after
  quiet_step t memory locals standing quiet =
      let next = store_step job is_job t memory locals standing (λ i lt. (quiet i lt).0)
      (λ cell i j v w lt less is too forbidden. none-some (cell, v) (sym (quiet i lt).1 ∙ is)) in
      record {
        reached = next.reached;
        memory_is = quiet_memory t memory locals standing quiet;
        locals_are = next.locals_are;
      }

  same_standing : (t u : ℕ) (memory : ℕ → ℕ) (locals : ℕ → Local) → t ≡ u →
      StandsAfter job t memory locals → StandsAfter job u memory locals
  same_standing t u memory locals e standing =
      subst (λ n. StandsAfter job n memory locals) e standing

  -- other names of what is the same
  pub renamed : (t : ℕ) (memory : ℕ → ℕ) (locals now : ℕ → Local) →
      StandsAfter job t memory locals →
      ((i : ℕ) → i < job.procs → locals i ≡ now i) → StandsAfter job t memory now
  renamed t memory locals now standing each = record {
    reached = standing.reached;
    memory_is = standing.memory_is;
    locals_are = λ i lt. subst (IsLocal job (state_after job t) i) (each i lt)
        (standing.locals_are i lt);
  }

  pub quiet_run : (n t : ℕ) (memory : ℕ → ℕ) (locals now : ℕ → Local) →
      StandsAfter job t memory locals →
      ((i : ℕ) → i < job.procs → Runs job memory i n (locals i) (now i)) →
      StandsAfter job (t + n) memory now
  quiet_run zero t memory locals now standing runs =
      same_standing t (t + zero) memory now (omega arith)
      (renamed t memory locals now standing runs)
  quiet_run (suc n) t memory locals now standing runs =
      same_standing (suc t + n) (t + suc n) memory now (omega arith)
      (quiet_run n (suc t) memory (λ i. next_local job memory i (locals i)) now
      (quiet_step t memory locals standing (λ i lt. (runs i lt).0)) (λ i lt. (runs i lt).1))

pub stores_are_made : StoresAreMade
stores_are_made job t memory locals is_job standing named agree = (
  memory_of job (next_state job (state_after job t)),
  store_step job is_job t memory locals standing named agree,
  memory_after job is_job t memory locals standing named,
)
