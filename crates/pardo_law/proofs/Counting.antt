-- Who executes the counted instruction of a line, and in which of its steps.
use Rattle.std.proofs.Common.{◌≡◌, ◌≢◌, ℕ, zero, suc, ◌+◌, ◌*◌, ◌<◌, ◌≤◌, ◌⊎◌, ◌==◌}
use Rattle.std.proofs.Common.{Bool, true, false, List, [], ◌∷◌, ◌++◌, Option, Some, None, length}
use Rattle.std.proofs.Common.{refl, sym, ap, ◌∙◌, subst, ⊎_elim, arith, if◌then◌else◌}
use Rattle.std.specs.Prelude.{count_by, slice_get}
use Rattle.std.specs.List.{range_with_len}
use Rattle.std.proofs.lemmas.Bool.{cases_eq, cases_lt, eq-eqb, eqb-true, ne_eqb}
use Rattle.pram_job.specs.declared.instr.Instr.{Instr}
use Rattle.pram_job.specs.declared.instr.Instr.TheVariants.{Jmp, Jz}
use Rattle.pram_job.specs.Job.{JobData}
use Rattle.pram_machine.specs.Machine.{counter, out_of_range}
use Rattle.pram_step.specs.Runs.{state_after}
use Rattle.pram_cost.specs.Profiles.{standing_at_index}
use Rattle.pardo_program.specs.declared.statement.Line.{Line}
use Rattle.pardo_program.specs.declared.statement.Statement.{Statement}
use Rattle.pardo_program.specs.declared.statement.Statement.TheVariants.{Assign, If, Else, EndIf}
use Rattle.pardo_program.specs.declared.statement.Statement.TheVariants.{While, EndWhile, For}
use Rattle.pardo_program.specs.declared.statement.Statement.TheVariants.{EndFor}
use Rattle.pardo_program.specs.declared.statement.Target.TheVariants.{Private, Array as Shared}
use Rattle.pardo_program.specs.Operations.{bit}
use Rattle.pardo_program.specs.Program.{ProgramData}
use Rattle.pardo_flat.specs.Layouts.{mask_cells, program_layout}
use Rattle.pardo_job.specs.Lines.{assignment_code, choosing, condition_code, line_code, masked}
use Rattle.pardo_job.specs.Lines.{no_code, own_store, place_of}
use Rattle.pardo_job.specs.Meaning.{Source, is_active}
use Rattle.pardo_job.specs.Straight.{put}
use Rattle.pardo_job.specs.Times.{is_counted, taking_part}
use Rattle.pardo_job.specs.Values.{own_load}
use Rattle.pardo_job.specs.Times.{behind_mask}
use Rattle.pardo_job.proofs.Counted.{counted_long}
use Rattle.pardo_law.specs.Locals.{HasCodeAt, IsLocal, memory_of, standing_at}
use Rattle.pardo_law.proofs.Between.{keeps}
use Rattle.pardo_law.proofs.Bodies.{IsThere, between, loads_mask, under}
use Rattle.pardo_law.proofs.Carried.{Carried, cost, place_low}
use Rattle.pardo_law.proofs.Carrying.{ends_here, line_is, stands_here}
use Rattle.pardo_law.proofs.Cutting.{StaysIn, inside_back, is_inside}
use Rattle.pardo_law.proofs.Gathering.{count_none, count_same, count_some}
use Rattle.pardo_law.proofs.Leading.{LeadingAt, counted_leads, goes_on, leading_at}
use Rattle.pardo_law.proofs.Leading.{next_is, stays_out}
use Rattle.pardo_law.proofs.Masks.{active_is, gone_inactive, mask_at}
use Rattle.pardo_law.proofs.Picturing.{IsHere, IsOf, choice_count, layout_procs, memory_fits}
use Rattle.pardo_law.proofs.Picturing.{procs_are}
use Rattle.pardo_law.proofs.Placing.{stands_front}
use Rattle.pardo_law.proofs.Showing.{here_shows, out_shows}

-- ---- who takes part in a counted line

pub taking_by : (program : ProgramData) (source : Source) (line : Line) →
    slice_get program.lines source.at ≡ Some line → is_counted line.statement ≡ true →
    taking_part program source
    ≡ count_by (is_active source line.depth) (range_with_len 0 program.procs)
unfolding taking_part
taking_by program source line is counted =
    ap (λ (o : Option Line). elim o as (λ (x : Option Line). ℕ) [
      | None ↦ 0
      | Some l ↦ if is_counted l.statement
          then count_by (is_active source l.depth) (range_with_len 0 program.procs)
          else 0
    ]) is
    ∙ ap (λ (b : Bool). if b
    then count_by (is_active source line.depth) (range_with_len 0 program.procs)
    else 0) counted

-- ---- how many steps counted lines take

by_steps : (t : Bool) (n : ℕ) →
    (if t then 0 else 2) < suc (if t then n else suc (suc (suc n)))
by_steps true n = omega arith
by_steps false n = omega arith

by_choice_steps : (t : Bool) (n : ℕ) →
    (if t then 0 else 2) < suc (if t then n else suc (suc (n + 1)))
by_choice_steps true n = omega arith
by_choice_steps false n = omega arith

counted_cost : (program : ProgramData) (source : Source) (depth : ℕ) (statement : Statement) →
    is_counted statement ≡ true → behind_mask depth < cost program source depth statement
counted_cost program source depth (Assign (Private x) tree) counted = by_steps (depth == 0) _
counted_cost program source depth (Assign (Shared array index) tree) counted =
    by_steps (depth == 0) _
counted_cost program source depth (If tree) counted = by_choice_steps (depth == 0) _
counted_cost program source depth Else counted = absurd (let e : false ≡ true = counted in cc)
counted_cost program source depth EndIf counted = absurd (let e : false ≡ true = counted in cc)
counted_cost program source depth (While tree end) counted =
    absurd (let e : false ≡ true = counted in cc)
counted_cost program source depth (EndWhile begin) counted =
    absurd (let e : false ≡ true = counted in cc)
counted_cost program source depth (For nest first last up end) counted =
    absurd (let e : false ≡ true = counted in cc)
counted_cost program source depth (EndFor begin) counted =
    absurd (let e : false ≡ true = counted in cc)

module _ (program : ProgramData) (job : JobData) (of : IsOf program job) (source : Source) (t : ℕ)
    (carried : Carried program job source t) (line : Line)
    (is : slice_get program.lines source.at ≡ Some line) where
  abbrev lo : ℕ
  lo = place_of program source.at

  abbrev hi : ℕ
  hi = place_of program (source.at + 1)

  abbrev pub steps : ℕ
  steps = cost program source line.depth line.statement

  -- where processor i stands before a step of the line
  abbrev stand : ℕ → ℕ → ℕ
  stand k i = counter job (state_after job (t + k)) i

  stays : StaysIn job lo hi t steps
  stays = (keeps program job of source t carried line is).stays

  hi_low : hi ≤ length job.code
  hi_low = let e = place_low program job of (source.at + 1) in omega arith

  low : (i : ℕ) → i < program.procs → i < job.procs
  low i lt = let e = procs_are program job of in omega arith

  pub back : (i : ℕ) → i < job.procs → i < program.procs
  back i lt = let e = procs_are program job of in omega arith

  -- ---- elsewhere

  not_there : (p k i : ℕ) → k < steps → i < job.procs → p < length job.code →
      (p < lo) ⊎ (hi ≤ p) → (stand k i == p) ≡ false
  not_there p k i lt less below apart = ⊎_elim
      (λ (out : stand k i ≡ out_of_range job). ne_eqb (stand k i) p (λ e. omega arith))
      (λ (inside : is_inside lo hi (stand k i) ≡ true).
      let bounds = inside_back lo hi (stand k i) inside in
      let from : lo ≤ stand k i = bounds.0 in
      let to : stand k i < hi = bounds.1 in
      ne_eqb (stand k i) p (λ e. ⊎_elim (λ (before : p < lo). omega arith)
      (λ (after : hi ≤ p). omega arith) apart))
      (stays k i lt less)

  pub nobody_elsewhere : (p k : ℕ) → k < steps → p < length job.code → (p < lo) ⊎ (hi ≤ p) →
      standing_at_index job p (state_after job (t + k)) ≡ 0
  nobody_elsewhere p k lt below apart =
      count_none (λ i. stand k i == p) job.procs (λ i less. not_there p k i lt less below apart)

  -- ---- out of range

  out_next : (u i : ℕ) → i < job.procs → counter job (state_after job u) i ≡ out_of_range job →
      counter job (state_after job (suc u)) i ≡ out_of_range job
  out_next u i lt out = stays_out job of.job_is u i lt out

  out_later : (k i : ℕ) → i < job.procs → counter job (state_after job t) i ≡ out_of_range job →
      stand k i ≡ out_of_range job
  out_later zero i lt out =
      let e : t ≡ t + 0 = omega arith in
      subst (λ (n : ℕ). counter job (state_after job n) i ≡ out_of_range job) e out
  out_later (suc k) i lt out =
      let e : suc (t + k) ≡ t + suc k = omega arith in
      subst (λ (n : ℕ). counter job (state_after job n) i ≡ out_of_range job) e
      (out_next (t + k) i lt (out_later k i lt out))

  -- ---- before the line

  pub there : (i : ℕ) → i < program.procs → source.gone i ≡ None →
      counter job (state_after job t) i ≡ lo
  there i lt e = (here_shows job (state_after job t) i (source.gone i) lo (carried.locals i) e
      (carried.pictured.here i lt) (carried.standing.locals_are i (low i lt))).0

  pub away : (i number : ℕ) → i < program.procs → source.gone i ≡ Some number →
      counter job (state_after job t) i ≡ out_of_range job
  away i number lt e = out_shows job (state_after job t) i (source.gone i) lo number
      (carried.locals i) e (carried.pictured.here i lt) (carried.standing.locals_are i (low i lt))

  -- somebody begins each line
  pub first_executed : (i : ℕ) → i < program.procs → source.gone i ≡ None →
      0 < standing_at_index job lo (state_after job (t + 0))
  first_executed i lt e =
      let same : t ≡ t + 0 = omega arith in
      count_some (λ j. stand 0 j == lo) job.procs i (low i lt)
      (subst (λ (u : ℕ). (counter job (state_after job u) i == lo) ≡ true) same
      (eq-eqb _ lo (there i lt e)))

  -- ---- a counted line

  module _ (counted : is_counted line.statement ≡ true) where
    abbrev code : List Instr
    code = line_code program (place_of program) lo line.depth line.statement

    code_stands : HasCodeAt job lo code
    code_stands = stands_here program job of source t carried line is

    leading : (p : ℕ) → lo ≤ p → p < hi → LeadingAt job p
    leading p from to = leading_at job lo p code code_stands
        (counted_leads program (place_of program) lo line.depth line.statement counted) from
        (let e = ends_here program job of source t carried line is in omega arith)

    -- who is at an instruction or past it is past it next
    onward : (m k i : ℕ) → m < hi → k < steps → i < job.procs → m ≤ stand k i →
        m < counter job (state_after job (suc (t + k))) i
    onward m k i below lt less least = ⊎_elim
        (λ (out : stand k i ≡ out_of_range job).
        let e = out_next (t + k) i less out in let f = hi_low in omega arith)
        (λ (inside : is_inside lo hi (stand k i) ≡ true).
        let bounds = inside_back lo hi (stand k i) inside in
        let found : LeadingAt job (stand k i) = leading (stand k i) bounds.0 bounds.1 in
        let f = hi_low in ⊎_elim
        (λ (out : counter job (state_after job (suc (t + k))) i ≡ out_of_range job). omega arith)
        (λ (more : stand k i < counter job (state_after job (suc (t + k))) i). omega arith)
        (goes_on job of.job_is (t + k) i less (stand k i) found.one refl found.is_there
        found.leads))
        (stays k i lt less)

    past : (m k i n : ℕ) → m < hi → i < job.procs → m ≤ stand k i → k < n → n < steps + 1 →
        m < stand n i
    past m k i zero below less least lt few = absurd (omega arith)
    past m k i (suc n) below less least lt few =
        let e : suc (t + n) ≡ t + suc n = omega arith in
        subst (λ (u : ℕ). m < counter job (state_after job u) i) e
        (onward m n i below (omega arith) less (⊎_elim
        (λ (same : k ≡ n). subst (λ (u : ℕ). m ≤ stand u i) same least)
        (λ (apart : k ≢ n).
        let more = past m k i n below less least (omega arith) (omega arith) in omega arith)
        (cases_eq k n)))

    -- all are at an instruction or past it after so many steps, and nobody was at it before
    pub record IsTurn (m at : ℕ) : Type 0 where
      pub inside : m < hi
      pub within : at < steps
      pub least : (i : ℕ) → i < job.procs → m ≤ stand at i
      pub before : (k i : ℕ) → k < at → i < job.procs → (stand k i == m) ≡ false

    pub no_other_turn : (m at : ℕ) → IsTurn m at → (k : ℕ) → k < steps → k ≢ at →
        standing_at_index job m (state_after job (t + k)) ≡ 0
    no_other_turn m at turn k lt apart =
        count_none (λ i. stand k i == m) job.procs (λ i less. ⊎_elim
        (λ (early : k < at). turn.before k i early less)
        (λ (late : at ≤ k).
        let more = past m at i k turn.inside less (turn.least i less) (omega arith) (omega arith) in
        ne_eqb (stand k i) m (λ e. omega arith))
        (cases_lt k at))

    -- ---- the first instruction

    own_inside : lo + behind_mask line.depth < hi
    own_inside =
        let e = ends_here program job of source t carried line is in
        let f = counted_long program (place_of program) lo line.depth line.statement counted in
        omega arith

    own_within : behind_mask line.depth < steps
    own_within = counted_cost program source line.depth line.statement counted

    first_by : (i : ℕ) → i < program.procs → (g : Option ℕ) → source.gone i ≡ g →
        lo ≤ counter job (state_after job t) i
    first_by i lt None e = let f = there i lt e in omega arith
    first_by i lt (Some number) e =
        let f = away i number lt e in let h = place_low program job of source.at in omega arith

    begins : (i : ℕ) → i < job.procs → lo ≤ stand 0 i
    begins i lt =
        let e : t ≡ t + 0 = omega arith in
        subst (λ (u : ℕ). lo ≤ counter job (state_after job u) i) e
        (first_by i (back i lt) (source.gone i) refl)

    pub first_turn : IsTurn lo 0
    first_turn = record {
      inside = (let e = own_inside in omega arith);
      within = (let e = own_within in omega arith);
      least = begins;
      before = λ k i lt less. absurd (omega arith);
    }

    -- ---- the mask

    -- the code of a line where an `if` is open
    record IsMaskCode : Type 0 where
      target : ℕ
      rest : List Instr
      stands : HasCodeAt job lo (own_load 0 (mask_cells (program_layout program) line.depth)
          ∷ Jz 0 target ∷ rest)
      far : lo + 2 < target

    module _ (inner : (line.depth == 0) ≡ false) where
      masked_code : (body : List Instr) →
          HasCodeAt job lo (masked (program_layout program) lo line.depth body) → IsMaskCode
      unfolding masked
      masked_code body stands =
          let here = subst (λ (b : Bool). HasCodeAt job lo (if b then body
          else under (program_layout program) lo line.depth body)) inner stands in record {
            target = lo + 3;
            rest = Jmp (lo + 4 + length body)
                ∷ (no_code (lo + 3) (length body) ++ Jmp (lo + 4 + 2 * length body) ∷ body);
            stands = here;
            far = omega arith;
          }

      choosing_code : (body : List Instr) →
          HasCodeAt job lo (choosing (program_layout program) lo line.depth body) → IsMaskCode
      unfolding choosing
      choosing_code body stands =
          let here = subst (λ (b : Bool). HasCodeAt job lo ((if b then body
          else between (program_layout program) lo line.depth body)
          ++ own_store (mask_cells (program_layout program) (line.depth + 1)) ∷ [])) inner stands in
          record {
            target = lo + 3 + length body;
            rest = body ++ (Jmp (lo + 4 + 2 * length body)
                ∷ no_code (lo + 3 + length body) (length body + 1));
            stands = stands_front job lo (between (program_layout program) lo line.depth body)
                (own_store (mask_cells (program_layout program) (line.depth + 1)) ∷ []) here;
            far = omega arith;
          }

      code_by : (statement : Statement) → is_counted statement ≡ true →
          HasCodeAt job lo (line_code program (place_of program) lo line.depth statement) →
          IsMaskCode
      unfolding line_code
      code_by (Assign target tree) is_one stands =
          masked_code (assignment_code (program_layout program) target tree) stands
      code_by (If tree) is_one stands =
          choosing_code (condition_code (program_layout program) tree) stands
      code_by Else is_one stands = absurd (let e : false ≡ true = is_one in cc)
      code_by EndIf is_one stands = absurd (let e : false ≡ true = is_one in cc)
      code_by (While tree end) is_one stands = absurd (let e : false ≡ true = is_one in cc)
      code_by (EndWhile begin) is_one stands = absurd (let e : false ≡ true = is_one in cc)
      code_by (For nest first last up end) is_one stands = absurd (let e : false ≡ true = is_one in cc)
      code_by (EndFor begin) is_one stands = absurd (let e : false ≡ true = is_one in cc)

      mask_code : IsMaskCode
      mask_code = code_by line.statement counted code_stands

      few : line.depth ≤ (program_layout program).choices
      few =
          let e = (line_is program job of source t carried line is).1 in
          let f = choice_count program job of in omega arith

      module _ (i : ℕ) (lt : i < program.procs) (here : source.gone i ≡ None) where
        abbrev held_mask : ℕ
        held_mask = bit (source.masks line.depth i)

        mask_is : memory_of job (state_after job t)
            ((mask_cells (program_layout program) line.depth).base + i) ≡ held_mask
        mask_is =
            ap (λ (f : ℕ → ℕ). f ((mask_cells (program_layout program) line.depth).base + i))
            carried.standing.memory_is
            ∙ mask_at program job of.program_is source carried.memory carried.locals
            carried.pictured
            (memory_fits job t carried.memory carried.locals of.job_is carried.standing) i lt
            line.depth inner few here

        is_there : IsThere lo i (carried.locals i)
        is_there = subst (λ g. IsHere g lo i (carried.locals i)) here (carried.pictured.here i lt)

        after_load : IsLocal job (state_after job (suc t)) i
            (Some (lo + 1, put 0 held_mask is_there.held))
        after_load = subst (IsLocal job (state_after job (suc t)) i)
            (ap (standing_at (lo + 1)) (loads_mask job (memory_of job (state_after job t)) i
            (program_layout program) line.depth is_there.held held_mask is_there.own
            (let e = layout_procs program in omega arith) mask_is))
            (next_is job of.job_is t i (low i lt) lo is_there.held
            (own_load 0 (mask_cells (program_layout program) line.depth)) mask_code.stands.0 tt
            (subst (IsLocal job (state_after job t) i) is_there.is
            (carried.standing.locals_are i (low i lt))))

        -- where it goes by its mask
        forks : counter job (state_after job (suc (suc t))) i
            ≡ (if held_mask == 0 then mask_code.target else lo + 1 + 1)
        forks = (next_is job of.job_is (suc t) i (low i lt) (lo + 1)
            (put 0 held_mask is_there.held) (Jz 0 mask_code.target) mask_code.stands.1.0 tt
            after_load).0

      -- ---- where all are before the third step

      -- by its mask it is at the third instruction, or past it
      record IsThird (i : ℕ) : Type 0 where
        acts : (stand 2 i == lo + 2) ≡ is_active source line.depth i
        least : lo + 2 ≤ stand 2 i

      second_is : t + 2 ≡ suc (suc t)
      second_is = omega arith

      third_mask : (i : ℕ) → i < program.procs → source.gone i ≡ None → (m : Bool) →
          source.masks line.depth i ≡ m → IsThird i
      third_mask i lt here true e =
          let at : stand 2 i ≡ lo + 1 + 1 =
          ap (λ (u : ℕ). counter job (state_after job u) i) second_is ∙ forks i lt here
          ∙ ap (λ (b : Bool). if bit b == 0 then mask_code.target else lo + 1 + 1) e in record {
            acts = eq-eqb (stand 2 i) (lo + 2) (omega arith)
                ∙ sym (active_is source line.depth i true here e);
            least = omega arith;
          }
      third_mask i lt here false e =
          let at : stand 2 i ≡ mask_code.target =
          ap (λ (u : ℕ). counter job (state_after job u) i) second_is ∙ forks i lt here
          ∙ ap (λ (b : Bool). if bit b == 0 then mask_code.target else lo + 1 + 1) e in
          let far = mask_code.far in record {
            acts = ne_eqb (stand 2 i) (lo + 2) (λ no. omega arith)
                ∙ sym (active_is source line.depth i false here e);
            least = omega arith;
          }

      third_by : (i : ℕ) → i < program.procs → (g : Option ℕ) → source.gone i ≡ g → IsThird i
      third_by i lt None e = third_mask i lt e (source.masks line.depth i) refl
      third_by i lt (Some number) e =
          let out : stand 2 i ≡ out_of_range job = out_later 2 i (low i lt) (away i number lt e) in
          let f = own_inside in
          let g : lo + behind_mask line.depth ≡ lo + 2 =
          ap (λ (b : Bool). lo + (if b then 0 else 2)) inner in
          let h = hi_low in record {
            acts = ne_eqb (stand 2 i) (lo + 2) (λ no. omega arith)
                ∙ sym (gone_inactive source line.depth i number e);
            least = omega arith;
          }

      -- before it nobody is there
      early_by : (k i : ℕ) → k < 2 → i < program.procs → (g : Option ℕ) → source.gone i ≡ g →
          (stand k i == lo + 2) ≡ false
      early_by k i lt less (Some number) e =
          let out : stand k i ≡ out_of_range job = out_later k i (low i less)
          (away i number less e) in
          let f = own_inside in
          let g : lo + behind_mask line.depth ≡ lo + 2 =
          ap (λ (b : Bool). lo + (if b then 0 else 2)) inner in
          let h = hi_low in ne_eqb (stand k i) (lo + 2) (λ no. omega arith)
      early_by zero i lt less None e =
          let same : t + 0 ≡ t = omega arith in
          let at : stand 0 i ≡ lo =
          ap (λ (u : ℕ). counter job (state_after job u) i) same ∙ there i less e in
          ne_eqb (stand 0 i) (lo + 2) (λ no. omega arith)
      early_by (suc zero) i lt less None e =
          let same : t + 1 ≡ suc t = omega arith in
          let at : stand 1 i ≡ lo + 1 =
          ap (λ (u : ℕ). counter job (state_after job u) i) same ∙ (after_load i less e).0 in
          ne_eqb (stand 1 i) (lo + 2) (λ no. omega arith)
      early_by (suc (suc k)) i lt less None e = absurd (omega arith)

    -- ---- where no `if` is open

    module _ (outer : (line.depth == 0) ≡ true) where
      acts_by : (i : ℕ) → i < program.procs → (g : Option ℕ) → source.gone i ≡ g →
          (counter job (state_after job t) i == lo) ≡ is_active source line.depth i
      acts_by i lt None e =
          let zero_is : line.depth ≡ 0 = eqb-true line.depth 0 outer in
          eq-eqb _ lo (there i lt e)
          ∙ sym (active_is source line.depth i true e
          (ap (λ d. source.masks d i) zero_is ∙ carried.pictured.all i))
      acts_by i lt (Some number) e =
          let out = away i number lt e in
          let f = place_low program job of source.at in
          ne_eqb _ lo (λ no. omega arith) ∙ sym (gone_inactive source line.depth i number e)

    -- ---- the counted instruction

    abbrev pub own : ℕ
    own = lo + behind_mask line.depth

    abbrev Turns : ℕ → Type 0
    Turns k = IsTurn (lo + k) k × ((i : ℕ) → i < program.procs →
        (stand k i == lo + k) ≡ is_active source line.depth i)

    turns_by : (b : Bool) → (line.depth == 0) ≡ b → Turns (if b then 0 else 2)
    turns_by true e =
        let none : lo ≡ lo + 0 = omega arith in
        let same : t ≡ t + 0 = omega arith in (
          subst (λ (m : ℕ). IsTurn m 0) none first_turn,
          λ i lt. subst (λ (m : ℕ). (stand 0 i == m) ≡ is_active source line.depth i) none
              (subst (λ (u : ℕ). (counter job (state_after job u) i == lo)
              ≡ is_active source line.depth i) same (acts_by e i lt (source.gone i) refl)),
        )
    turns_by false e =
        let f : lo + behind_mask line.depth ≡ lo + 2 =
        ap (λ (b : Bool). lo + (if b then 0 else 2)) e in
        let g : behind_mask line.depth ≡ 2 = ap (λ (b : Bool). if b then 0 else 2) e in
        let inside = own_inside in
        let within = own_within in (
          record {
            inside = omega arith;
            within = omega arith;
            least = λ i lt. (third_by e i (back i lt) (source.gone i) refl).least;
            before = λ k i lt less. early_by e k i lt (back i less) (source.gone i) refl;
          },
          λ i lt. (third_by e i lt (source.gone i) refl).acts,
        )

    turns : Turns (behind_mask line.depth)
    turns = turns_by (line.depth == 0) refl

    pub own_turn : IsTurn own (behind_mask line.depth)
    own_turn = turns.0

    -- those that are active execute it
    pub own_executed : standing_at_index job own
        (state_after job (t + behind_mask line.depth)) ≡ taking_part program source
    own_executed =
        count_same (λ i. stand (behind_mask line.depth) i == own) (is_active source line.depth)
        job.procs (λ i lt. turns.1 i (back i lt))
        ∙ ap (λ n. count_by (is_active source line.depth) (range_with_len 0 n))
        (procs_are program job of)
        ∙ sym (taking_by program source line is counted)
