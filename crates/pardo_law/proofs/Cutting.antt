-- A job of which the code of one line alone is left: what a processor does there it does in the job,
-- and it stays in that line.
use Rattle.std.proofs.Common.{◌≡◌, ℕ, zero, suc, ◌+◌, ◌<◌, ◌≤◌, ◌⊎◌, nat_lt, nat_le, Bool, true}
use Rattle.std.proofs.Common.{false, ◌&&◌, List, [], ◌∷◌, Option, Some, None}
use Rattle.std.proofs.Common.{refl, sym, ap, ◌∙◌, subst, inl, inr, ⊎_elim, arith, if◌then◌else◌}
use Rattle.std.proofs.Common.{length}
use Rattle.std.specs.Prelude.{slice_get}
use Rattle.std.specs.Option.{option_map}
use Rattle.std.proofs.lemmas.Bool.{cases_lt, cases_Bool}
use Rattle.std.proofs.lemmas.Option.{none-some, slice_get_past}
use Rattle.pram_job.specs.declared.instr.Instr.{Instr}
use Rattle.pram_job.specs.declared.instr.Instr.TheVariants.{Ld, St, Jz, Jmp, Halt}
use Rattle.pram_job.specs.declared.instr.Operand.TheVariants.{Number}
use Rattle.pram_job.specs.declared.instr.Place.TheVariants.{Cell, Named}
use Rattle.pram_job.specs.Job.{JobData, IsJob}
use Rattle.pram_machine.specs.Machine.{counter, out_of_range}
use Rattle.pram_machine.specs.Instructions.{request_in}
use Rattle.pram_step.specs.Runs.{state_after}
use Rattle.pram_step.proofs.LawFixed.{length-state_after}
use Rattle.pardo_job.specs.Straight.{Registers}
use Rattle.pardo_law.specs.Locals.{Local, after_instr, after_fetched, next_local, store_by_instr}
use Rattle.pardo_law.specs.Locals.{local_store, IsNamedAt}
use Rattle.pardo_law.specs.Locals.{HasCodeAt, StandsAfter, StoresAgree, IsLocal, memory_of}
use Rattle.pardo_law.proofs.Making.{Makes, Goes, IsMade, Went, all_make, all_go, moved, runs_moved}
use Rattle.pardo_law.proofs.Running.{IsQuiet, Runs, quiet_run}
use Rattle.pardo_law.proofs.Stepping.{each_by_itself}

-- an instruction that names no array
abbrev unnamed : Instr
unnamed = Ld 0 (Cell (Number 0))

abbrev pub is_inside : ℕ → ℕ → ℕ → Bool
is_inside lo hi at = nat_le lo at && nat_lt at hi

abbrev kept : ℕ → ℕ → ℕ → Instr → Instr
kept lo hi at one = if is_inside lo hi at then one else unnamed

pub cut_at : ℕ → ℕ → ℕ → List Instr → List Instr
cut_at lo hi at [] = []
cut_at lo hi at (one ∷ code) = kept lo hi at one ∷ cut_at lo hi (suc at) code

abbrev pub site : ℕ → ℕ → JobData → JobData
site lo hi job = record job { code = cut_at lo hi 0 job.code }

length-cut : (lo hi at : ℕ) (code : List Instr) → length (cut_at lo hi at code) ≡ length code
unfolding cut_at
length-cut lo hi at [] = refl
length-cut lo hi at (one ∷ code) = ap suc (length-cut lo hi (suc at) code)

get-cut : (lo hi at : ℕ) (code : List Instr) (k : ℕ) →
    slice_get (cut_at lo hi at code) k ≡ option_map (kept lo hi (at + k)) (slice_get code k)
unfolding cut_at
get-cut lo hi at [] k = refl
get-cut lo hi at (one ∷ code) zero = let e : at ≡ at + 0 = omega arith in
    ap (λ n. Some (kept lo hi n one)) e
get-cut lo hi at (one ∷ code) (suc k) =
    let e : suc at + k ≡ at + suc k = omega arith in
    get-cut lo hi (suc at) code k ∙ ap (λ n. option_map (kept lo hi n) (slice_get code k)) e

inside_true : (lo hi at : ℕ) → lo ≤ at → at < hi → is_inside lo hi at ≡ true
inside_true lo hi at low high = grind arith

pub inside_back : (lo hi at : ℕ) → is_inside lo hi at ≡ true → (lo ≤ at) × (at < hi)
inside_back lo hi at e = grind arith

-- inside nothing is other, and outside nothing is named
module _ (lo hi : ℕ) (job : JobData) where
  get_same : (p : ℕ) → is_inside lo hi p ≡ true → slice_get (site lo hi job).code p ≡
      slice_get job.code p
  get_same p e = get-cut lo hi 0 job.code p
      ∙ ap (λ n. option_map (kept lo hi n) (slice_get job.code p))
      (let z : 0 + p ≡ p = omega arith in z)
      ∙ ap (λ b. option_map (λ one. if b then one else unnamed) (slice_get job.code p)) e
      ∙ same (slice_get job.code p)
    where
      same : (o : Option Instr) → option_map (λ one. if true then one else unnamed) o ≡ o
      same None = refl
      same (Some one) = refl

  get_other : (p : ℕ) (one : Instr) → is_inside lo hi p ≡ false → slice_get job.code p ≡ Some one →
      slice_get (site lo hi job).code p ≡ Some unnamed
  get_other p one e is = get-cut lo hi 0 job.code p
      ∙ ap (λ n. option_map (kept lo hi n) (slice_get job.code p))
      (let z : 0 + p ≡ p = omega arith in z)
      ∙ ap (λ o. option_map (kept lo hi p) o) is
      ∙ ap (λ b. Some (if b then one else unnamed)) e

  pub stands_site : (at : ℕ) (code : List Instr) → HasCodeAt job at code → lo ≤ at → at +
      length code ≤ hi →
      HasCodeAt (site lo hi job) at code
  stands_site at [] stands low high = tt
  stands_site at (one ∷ code) stands low high = (
    get_same at (inside_true lo hi at low (omega arith)) ∙ stands.0,
    stands_site (at + 1) code stands.1 (omega arith) (omega arith),
  )

  -- ---- a processor

  abbrev pub Within : Local → Type 0
  Within None = Unit {0}
  Within (Some local) = is_inside lo hi local.0 ≡ true

  abbrev pub Below : Local → Type 0
  Below None = Unit {0}
  Below (Some local) = local.0 < length job.code

  some_at : (code : List Instr) (p : ℕ) → p < length code → (one : Instr) ×
      (slice_get code p ≡ Some one)
  some_at [] p lt = absurd (omega arith)
  some_at (one ∷ code) zero lt = (one, refl)
  some_at (one ∷ code) (suc p) lt = some_at code p (omega arith)

  within : (l : Local) → IsNamedAt (site lo hi job) l → Below l → Within l
  within None named below = tt
  within (Some local) named below = elim (cases_Bool (is_inside lo hi local.0)) [
    | inl on ↦ on
    | inr off ↦ (let one = some_at job.code local.0 below in
        absurd (named unnamed (get_other local.0 one.0 off one.1)))
  ]

  instr_same : (memory : ℕ → ℕ) (i at : ℕ) (held : Registers) (one : Instr) →
      after_instr (site lo hi job) memory i at held one ≡ after_instr job memory i at held one
  instr_same memory i at held Halt = ap (λ n. Some (n, held)) (length-cut lo hi 0 job.code)
  instr_same memory i at held (St (Named array index) value) = refl
  instr_same memory i at held (St (Cell index) value) = refl
  instr_same memory i at held (Jz register index) = refl
  instr_same memory i at held (Jmp index) = refl
  instr_same memory i at held _ = refl

  fetched_same : (memory : ℕ → ℕ) (i at : ℕ) (held : Registers) (o : Option Instr) →
      after_fetched (site lo hi job) memory i at held o ≡ after_fetched job memory i at held o
  fetched_same memory i at held None = refl
  fetched_same memory i at held (Some one) = instr_same memory i at held one

  next_same : (memory : ℕ → ℕ) (i : ℕ) (l : Local) → Within l →
      next_local (site lo hi job) memory i l ≡ next_local job memory i l
  next_same memory i None is = refl
  next_same memory i (Some local) is =
      ap (after_fetched (site lo hi job) memory i local.0 local.1) (get_same local.0 is)
      ∙ fetched_same memory i local.0 local.1 (slice_get job.code local.0)

  store_same : (l : Local) → Within l → local_store (site lo hi job) l ≡ local_store job l
  store_same None is = refl
  store_same (Some local) is = ap (store_by_instr local.1) (get_same local.0 is)

  named_same : (l : Local) → Within l → IsNamedAt (site lo hi job) l → IsNamedAt job l
  named_same None is named = tt
  named_same (Some local) is named = λ one at_it. named one (get_same local.0 is ∙ at_it)

  -- one that is past the code stays there
  below_before : (memory : ℕ → ℕ) (i : ℕ) (l : Local) →
      Below (next_local (site lo hi job) memory i l) → Below l
  below_before memory i None below = tt
  below_before memory i (Some local) below = ⊎_elim (λ (low : local.0 < length job.code). low)
      (λ (high : length job.code ≤ local.0).
      let past : slice_get (site lo hi job).code local.0 ≡ None =
      slice_get_past (site lo hi job).code local.0
      (let e = length-cut lo hi 0 job.code in omega arith) in
      let stays : next_local (site lo hi job) memory i (Some local) ≡ Some local =
      ap (after_fetched (site lo hi job) memory i local.0 local.1) past in
      subst Below stays below)
      (cases_lt local.0 (length job.code))

  below_first : (memory : ℕ → ℕ) (i n : ℕ) (l mid : Local) →
      Runs (site lo hi job) memory i n l mid → Below mid → Below l
  below_first memory i zero l mid runs below = subst Below (sym runs) below
  below_first memory i (suc n) l mid runs below = below_before memory i l
      (below_first memory i n (next_local (site lo hi job) memory i l) mid runs.1 below)

  -- so are the steps
  record Same (memory : ℕ → ℕ) (i n : ℕ) (l mid : Local) : Type 0 where
    runs : Runs job memory i n l mid
    inside : (k : ℕ) → k < n → Within (moved job memory i k l)

  same_runs : (memory : ℕ → ℕ) (i n : ℕ) (l mid : Local) → Runs (site lo hi job) memory i n l mid →
      Below mid →
      Same memory i n l mid
  same_runs memory i zero l mid runs below =
      record { runs = runs; inside = λ k lt. absurd (omega arith) }
  same_runs memory i (suc n) l mid runs below =
      let low : Below l = below_first memory i (suc n) l mid runs below in
      let is : Within l = within l runs.0.0 low in
      let e : next_local (site lo hi job) memory i l ≡ next_local job memory i l =
      next_same memory i l is in
      let rest : Same memory i n (next_local job memory i l) mid =
      same_runs memory i n (next_local job memory i l) mid
      (subst (λ x. Runs (site lo hi job) memory i n x mid) e runs.1) below in
      record {
        runs = ((named_same l is runs.0.0, sym (store_same l is) ∙ runs.0.1), rest.runs);
        inside = by_turn l is rest.inside;
      }
    where
      by_turn : (l : Local) → Within l →
          ((k : ℕ) → k < n → Within (moved job memory i k (next_local job memory i l))) →
          (k : ℕ) → k < suc n → Within (moved job memory i k l)
      by_turn l is rest zero lt = is
      by_turn l is rest (suc k) lt = rest k (omega arith)

  pub record MakesIn (memory : ℕ → ℕ) (i n : ℕ) (l : Local) (store : Option (ℕ × ℕ))
      (P : Local → Type 0) : Type 0 where
    pub makes : Makes job memory i n l store P
    pub inside : (k : ℕ) → k < suc n → Within (moved job memory i k l)

  pub makes_in : (memory : ℕ → ℕ) (i n : ℕ) (l : Local) (store : Option (ℕ × ℕ))
      (P : Local → Type 0) →
      ((x : Local) → P x → Below x) → Makes (site lo hi job) memory i n l store P →
      MakesIn memory i n l store P
  makes_in memory i n l store P bound c =
      let low : Below c.mid = below_before memory i c.mid
      (bound (next_local (site lo hi job) memory i c.mid) c.goes) in
      let is : Within c.mid = within c.mid c.named low in
      let runs : Same memory i n l c.mid = same_runs memory i n l c.mid c.runs low in record {
        makes = record {
          mid = c.mid;
          runs = runs.runs;
          named = named_same c.mid is c.named;
          stores = sym (store_same c.mid is) ∙ c.stores;
          goes = subst P (next_same memory i c.mid is) c.goes;
        };
        inside = λ k lt. ⊎_elim (λ (less : k < n). runs.inside k less)
            (λ (more : n ≤ k). let e : n ≡ k = omega arith in
            subst (λ j. Within (moved job memory i j l)) e
            (subst Within (sym (runs_moved job memory i n l c.mid runs.runs)) is))
            (cases_lt k n);
      }

  pub record GoesIn (memory : ℕ → ℕ) (i n : ℕ) (l : Local) (P : Local → Type 0) : Type 0 where
    pub goes : Goes job memory i n l P
    pub inside : (k : ℕ) → k < n → Within (moved job memory i k l)

  pub goes_in : (memory : ℕ → ℕ) (i n : ℕ) (l : Local) (P : Local → Type 0) →
      ((x : Local) → P x → Below x) → Goes (site lo hi job) memory i n l P → GoesIn memory i n l P
  goes_in memory i n l P bound c =
      let runs : Same memory i n l c.now =
      same_runs memory i n l c.now c.runs (bound c.now c.goes) in record {
        goes = record { now = c.now; runs = runs.runs; goes = c.goes };
        inside = runs.inside;
      }

-- ---- all of them

runs_front : (job : JobData) (memory : ℕ → ℕ) (i n k : ℕ) (l mid : Local) →
    Runs job memory i n l mid → k < suc n →
    Runs job memory i k l (moved job memory i k l)
runs_front job memory i n zero l mid runs lt = refl
runs_front job memory i zero (suc k) l mid runs lt = absurd (omega arith)
runs_front job memory i (suc n) (suc k) l mid runs lt =
    (runs.0, runs_front job memory i n k (next_local job memory i l) mid runs.1 (omega arith))

-- in each of these steps each processor stands in the line, or is out of range
abbrev pub StaysIn : JobData → ℕ → ℕ → ℕ → ℕ → Type 0
StaysIn job lo hi t n = (k i : ℕ) → k < n → i < job.procs →
    (counter job (state_after job (t + k)) i ≡ out_of_range job)
    ⊎ (is_inside lo hi (counter job (state_after job (t + k)) i) ≡ true)

-- what processors put to a cell in one of these steps they asked for
abbrev pub PutOnly : JobData → ℕ → ℕ → ℕ → (ℕ → Option (ℕ × ℕ)) → Type 0
PutOnly job low t n asked = (k i cell value : ℕ) → k < n → i < job.procs → cell < low →
    (request_in job (state_after job (t + k)) i).put ≡ Some (cell, value) →
    asked i ≡ Some (cell, value)

-- and memory is what it was before them
abbrev pub Unchanged : JobData → ℕ → ℕ → Type 0
Unchanged job t n = (k : ℕ) → k < n →
    memory_of job (state_after job (t + k)) ≡ memory_of job (state_after job t)

module _ (job : JobData) (is_job : IsJob job) (lo hi t n : ℕ) (memory : ℕ → ℕ) (locals : ℕ → Local)
    (standing : StandsAfter job t memory locals) where
  at_step : (k i : ℕ) (l : Local) → Within lo hi job l → IsLocal job (state_after job (t + k)) i l →
      (counter job (state_after job (t + k)) i ≡ out_of_range job)
      ⊎ (is_inside lo hi (counter job (state_after job (t + k)) i) ≡ true)
  at_step k i None is local = inl local
  at_step k i (Some at_it) is local = inr (ap (is_inside lo hi) local.0 ∙ is)

  -- all of them run so, to these places
  abbrev AllRun : (ℕ → Local) → Type 0
  AllRun mids = (i : ℕ) → i < job.procs → Runs job memory i n (locals i) (mids i)

  there_after : (mids : ℕ → Local) → AllRun mids → (k : ℕ) → k < suc n →
      StandsAfter job (t + k) memory (λ j. moved job memory j k (locals j))
  there_after mids runs k lt =
      quiet_run job is_job k t memory locals (λ j. moved job memory j k (locals j)) standing
      (λ j low. runs_front job memory j n k (locals j) (mids j) (runs j low) lt)

  stays : (m : ℕ) (mids : ℕ → Local) → AllRun mids → m ≤ suc n →
      ((i k : ℕ) → i < job.procs → k < m → Within lo hi job (moved job memory i k (locals i))) →
      StaysIn job lo hi t m
  stays m mids runs few inside k i lt less =
      at_step k i (moved job memory i k (locals i)) (inside i k less lt)
      ((there_after mids runs k (omega arith)).locals_are i less)

  -- where it runs it is quiet
  runs_quiet : (i m k : ℕ) (l mid : Local) → Runs job memory i m l mid → k < m →
      IsQuiet job (moved job memory i k l)
  runs_quiet i zero k l mid runs lt = absurd (omega arith)
  runs_quiet i (suc m) zero l mid runs lt = runs.0
  runs_quiet i (suc m) (suc k) l mid runs lt =
      runs_quiet i m k (next_local job memory i l) mid runs.1 (omega arith)

  -- what is put is what is stored
  stored : (mids : ℕ → Local) → AllRun mids → (k i cell value : ℕ) → k < suc n → i < job.procs →
      cell < job.cells → IsNamedAt job (moved job memory i k (locals i)) →
      (request_in job (state_after job (t + k)) i).put ≡ Some (cell, value) →
      local_store job (moved job memory i k (locals i)) ≡ Some (cell, value)
  stored mids runs k i cell value lt less low named put =
      (each_by_itself job (state_after job (t + k)) i (moved job memory i k (locals i)) is_job
      (length-state_after job (t + k) is_job) less
      ((there_after mids runs k lt).locals_are i less) named).wrote cell value low put

  quiet_puts : (mids : ℕ → Local) → AllRun mids → (k i cell value : ℕ) → k < n → i < job.procs →
      cell < job.cells →
      (request_in job (state_after job (t + k)) i).put ≡ Some (cell, value) → ⊥
  quiet_puts mids runs k i cell value lt less low put =
      let quiet = runs_quiet i n k (locals i) (mids i) (runs i less) lt in
      none-some (cell, value) (sym quiet.1
      ∙ stored mids runs k i cell value (omega arith) less low quiet.0 put)

  unchanged : (m : ℕ) (mids : ℕ → Local) → AllRun mids → m ≤ suc n → Unchanged job t m
  unchanged m mids runs few k lt =
      (there_after mids runs k (omega arith)).memory_is ∙ sym standing.memory_is

  module _ (stores : ℕ → Option (ℕ × ℕ)) (P : ℕ → Local → Type 0)
      (bound : (i : ℕ) (x : Local) → P i x → Below lo hi job x)
      (makes : (i : ℕ) → i < job.procs →
      Makes (site lo hi job) memory i n (locals i) (stores i) (P i)) where
    kept_in : (i : ℕ) → i < job.procs →
        MakesIn lo hi job memory i n (locals i) (stores i) (P i)
    kept_in i lt =
        makes_in lo hi job memory i n (locals i) (stores i) (P i) (bound i) (makes i lt)

    kept_runs : AllRun (λ i. moved job memory i n (locals i))
    kept_runs i lt = subst (Runs job memory i n (locals i))
        (sym (runs_moved job memory i n (locals i) (kept_in i lt).makes.mid
        (kept_in i lt).makes.runs)) (kept_in i lt).makes.runs

    pub made_stays : StaysIn job lo hi t (suc n)
    made_stays = stays (suc n) (λ i. moved job memory i n (locals i)) kept_runs (omega arith)
        (λ i k lt less. (kept_in i lt).inside k less)

    pub made_unchanged : Unchanged job t (suc n)
    made_unchanged =
        unchanged (suc n) (λ i. moved job memory i n (locals i)) kept_runs (omega arith)

    last_puts : (i cell value : ℕ) → i < job.procs → cell < job.cells →
        (request_in job (state_after job (t + n)) i).put ≡ Some (cell, value) →
        stores i ≡ Some (cell, value)
    last_puts i cell value lt low put =
        let made = (kept_in i lt).makes in
        let same : moved job memory i n (locals i) ≡ made.mid =
        runs_moved job memory i n (locals i) made.mid made.runs in
        sym made.stores ∙ ap (local_store job) (sym same)
        ∙ stored (λ j. moved job memory j n (locals j)) kept_runs n i cell value (omega arith) lt
        low (subst (IsNamedAt job) (sym same) made.named) put

    pub made_puts : PutOnly job job.cells t (suc n) stores
    made_puts k i cell value lt less low put = ⊎_elim
        (λ (early : k < n). absurd (quiet_puts (λ j. moved job memory j n (locals j)) kept_runs k i
        cell value early less low put))
        (λ (late : n ≤ k).
        let e : k ≡ n = omega arith in
        last_puts i cell value less low
        (subst (λ (m : ℕ). (request_in job (state_after job (t + m)) i).put ≡ Some (cell, value)) e
        put))
        (cases_lt k n)

    pub made_in : StoresAgree job stores → IsMade job (suc (t + n)) memory stores P ×
        StaysIn job lo hi t (suc n) × Unchanged job t (suc n) ×
        PutOnly job job.cells t (suc n) stores
    made_in agree = (
      all_make job is_job t n memory locals standing stores P (λ i lt. (kept_in i lt).makes) agree,
      made_stays,
      made_unchanged,
      made_puts,
    )

  module _ (P : ℕ → Local → Type 0) (bound : (i : ℕ) (x : Local) → P i x → Below lo hi job x)
      (goes : (i : ℕ) → i < job.procs → Goes (site lo hi job) memory i n (locals i) (P i)) where
    going : (i : ℕ) → i < job.procs → GoesIn lo hi job memory i n (locals i) (P i)
    going i lt = goes_in lo hi job memory i n (locals i) (P i) (bound i) (goes i lt)

    going_runs : AllRun (λ i. moved job memory i n (locals i))
    going_runs i lt = subst (Runs job memory i n (locals i))
        (sym (runs_moved job memory i n (locals i) (going i lt).goes.now (going i lt).goes.runs))
        (going i lt).goes.runs

    going_puts : PutOnly job job.cells t n (λ i. None)
    going_puts k i cell value lt less low put =
        absurd (quiet_puts (λ j. moved job memory j n (locals j)) going_runs k i cell value lt less
        low put)

    pub gone_in : Went job (t + n) memory P × StaysIn job lo hi t n × Unchanged job t n ×
        PutOnly job job.cells t n (λ i. None)
    gone_in = (
      all_go job is_job t n memory locals standing P (λ i lt. (going i lt).goes),
      stays n (λ i. moved job memory i n (locals i)) going_runs (omega arith)
          (λ i k lt less. (going i lt).inside k less),
      unchanged n (λ i. moved job memory i n (locals i)) going_runs (omega arith),
      going_puts,
    )
