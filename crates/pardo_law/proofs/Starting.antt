-- The first step: the job shows the state before the first line.
use Rattle.std.proofs.Common.{◌≡◌, ℕ, zero, suc, ◌+◌, ◌-◌, ◌*◌, ◌<◌, ◌≤◌, nat_lt, List, [], ◌∷◌}
use Rattle.std.proofs.Common.{◌++◌, Option, Some, None}
use Rattle.std.proofs.Common.{refl, sym, ap, ◌∙◌, subst, ⊎_elim, arith, if◌then◌else◌, length}
use Rattle.std.proofs.Common.{length-append, get_or, replicate}
use Rattle.std.specs.Prelude.{slice_get, slice_index}
use Rattle.std.specs.List.{All, flat_map}
use Rattle.std.proofs.Math.Dec.{eqb-suc-zero}
use Rattle.std.proofs.Math.Nat.{mul-le-mul_left}
use Rattle.std.proofs.Math.Seq.{get_or-append_right}
use Rattle.std.proofs.lemmas.Bool.{cases_lt, lt-ltb, le-ltb}
use Rattle.std.proofs.lemmas.List.{get_or_append_left, get_or-append-add, get_or_past}
use Rattle.std.proofs.lemmas.List.Concat.{length-flat_map}
use Rattle.pram_job.specs.declared.instr.Instr.TheVariants.{Pid}
use Rattle.pram_job.specs.Job.{JobData}
use Rattle.pram_machine.specs.Machine.{start, register}
use Rattle.pram_step.specs.Runs.{state_after}
use Rattle.pardo_program.specs.Lawful.{IsPrivate}
use Rattle.pardo_program.specs.Operations.{bit}
use Rattle.pardo_program.specs.Program.{ProgramData, ArrayData, PrivateData}
use Rattle.pardo_flat.specs.Layouts.{program_layout, given_values, start_values, cell_count}
use Rattle.pardo_job.specs.Lines.{place_of}
use Rattle.pardo_job.specs.Meaning as meaning
use Rattle.pardo_job.specs.Straight.{put}
use Rattle.pardo_job.proofs.Straight.{put_same}
use Rattle.pardo_law.specs.Locals.{Local, memory_of, StandsAfter}
use Rattle.pardo_law.proofs.Carried.{Carried}
use Rattle.pardo_law.proofs.Bodies.{IsThere, there_at}
use Rattle.pardo_law.proofs.Lengths.{first_is}
use Rattle.pardo_law.proofs.Making.{Goes, Went, all_go, goes_one, goes_here}
use Rattle.pardo_law.proofs.Picturing.{IsOf, Pictured, procs_are, layout_procs, code_is, init_is}
use Rattle.pardo_law.proofs.Picturing.{row_low, shared_low}
use Rattle.pardo_law.proofs.Rows.{own_of}

-- ---- zeros

zeros : (n k : ℕ) → get_or {A = ℕ} (replicate n 0) k 0 ≡ 0
zeros zero k = refl
zeros (suc n) zero = refl
zeros (suc n) (suc k) = zeros n k

-- zeros after a list
with_zeros : (xs : List ℕ) (n k : ℕ) → get_or (xs ++ replicate n 0) k 0 ≡ get_or xs k 0
with_zeros xs n k = ⊎_elim
    (λ (low : k < length xs). get_or_append_left xs (replicate n 0) 0 k low)
    (λ (high : length xs ≤ k). get_or-append_right xs (replicate n 0) k 0 high ∙
    zeros n (k - length xs)
    ∙ sym (get_or_past xs k 0 high))
    (cases_lt k (length xs))

-- ---- start values of private variables

all_rest : (procs : ℕ) (v : PrivateData) (variables : List PrivateData) →
    All (IsPrivate procs) (v ∷ variables) →
    All (IsPrivate procs) variables
all_rest procs v variables are = λ k d lt. are (suc k) d (omega arith)

private_at : (procs x i : ℕ) (variables : List PrivateData) → All (IsPrivate procs) variables →
    i < procs →
    x < length variables →
    get_or (flat_map (λ (v : PrivateData). v.start) variables) (x * procs + i) 0
    ≡ elim (slice_get variables x) as (λ (o : Option PrivateData). ℕ)
    [ None ↦ 0 | Some v ↦ slice_index v.start i ]
private_at procs x i [] are lt less = absurd (omega arith)
private_at procs zero i (v ∷ variables) are lt less =
    let same : 0 * procs + i ≡ i = omega arith in
    let long : length v.start ≡ procs = (are 0 v (omega arith)).0 in
    ap (λ k. get_or (v.start ++ flat_map (λ (w : PrivateData). w.start) variables) k 0) same
    ∙ get_or_append_left v.start (flat_map (λ (w : PrivateData). w.start) variables) 0 i
    (omega arith)
private_at procs (suc x) i (v ∷ variables) are lt less =
    let long : length v.start ≡ procs = (are 0 v (omega arith)).0 in
    let same : suc x * procs + i ≡ length v.start + (x * procs + i) = omega arith in
    ap (λ k. get_or (v.start ++ flat_map (λ (w : PrivateData). w.start) variables) k 0) same
    ∙ get_or-append-add v.start (flat_map (λ (w : PrivateData). w.start) variables) (x * procs + i)
    0
    ∙ private_at procs x i variables (all_rest procs v variables are) lt (omega arith)

privates_long : (procs : ℕ) (variables : List PrivateData) → All (IsPrivate procs) variables →
    length (flat_map (λ (v : PrivateData). v.start) variables) ≡ length variables * procs
privates_long procs [] are = let e : 0 ≡ 0 * procs = omega arith in e
privates_long procs (v ∷ variables) are =
    let long : length v.start ≡ procs = (are 0 v (omega arith)).0 in
    let rest = privates_long procs variables (all_rest procs v variables are) in
    let e = length-append v.start (flat_map (λ (w : PrivateData). w.start) variables) in omega arith

module _ (program : ProgramData) (job : JobData) (of : IsOf program job) where
  abbrev arrays_given : List ℕ
  arrays_given = flat_map (λ (a : ArrayData). a.start) program.arrays

  abbrev privates_given : List ℕ
  privates_given = flat_map (λ (v : PrivateData). v.start) program.privates

  -- what a cell starts with
  held_at : (cell : ℕ) → cell < job.cells → memory_of job (start job) cell ≡
      get_or (given_values program) cell 0
  unfolding start_values
  held_at cell low =
      ap (λ b. if b then slice_index (start job) cell else 0) (lt-ltb cell job.cells low)
      ∙ with_zeros job.init (5 * job.procs) cell
      ∙ ap (λ xs. get_or xs cell 0) (init_is program job of)
      ∙ with_zeros (given_values program)
      (cell_count (program_layout program) - length (given_values program)) cell

  shared_long : length arrays_given ≡ (program_layout program).shared
  unfolding program_layout
  shared_long = length-flat_map (λ (a : ArrayData). a.start) program.arrays

  private_long : length privates_given
      ≡ (program_layout program).privates * (program_layout program).procs
  unfolding program_layout
  private_long = privates_long program.procs program.privates of.program_is.privates

  given_long : length (given_values program) ≡ (program_layout program).shared +
      (program_layout program).privates * (program_layout program).procs
  given_long = length-append arrays_given privates_given ∙ (λ k. shared_long k + private_long k)

  -- a row after those of private variables holds 0
  held_zero : (w i : ℕ) → (program_layout program).privates ≤ w →
      w < (program_layout program).privates + (program_layout program).loops + (program_layout
      program).choices →
      i < (program_layout program).procs →
      memory_of job (start job) (own_of (program_layout program) w i) ≡ 0
  held_zero w i high low lt =
      held_at (own_of (program_layout program) w i) (row_low program job of w i low lt)
      ∙ get_or_past (given_values program) (own_of (program_layout program) w i) 0
      (let e = given_long in omega (arith, mul-le-mul_left (program_layout program).procs high))

  pub held_private : (x i : ℕ) → x < (program_layout program).privates → i < program.procs →
      memory_of job (start job) (own_of (program_layout program) x i)
      ≡ meaning.private_at_start program x i
  unfolding program_layout
  held_private x i low lt =
      let here : own_of (program_layout program) x i
      ≡ length arrays_given + (x * program.procs + i) =
      (let e = shared_long in omega arith) in
      held_at (own_of (program_layout program) x i) (row_low program job of x i (omega arith) lt)
      ∙ ap (λ k. get_or (given_values program) k 0) here
      ∙ get_or-append-add arrays_given privates_given (x * program.procs + i) 0
      ∙ private_at program.procs x i program.privates of.program_is.privates lt low

  pub held_shared : (cell : ℕ) → cell < (program_layout program).shared →
      memory_of job (start job) cell ≡ slice_index arrays_given cell
  held_shared cell lt = held_at cell (shared_low program job of cell lt)
      ∙ get_or_append_left arrays_given privates_given 0 cell (let e = shared_long in omega arith)

  -- ---- registers and counters

  none_there : (p : ℕ) → job.cells ≤ p → slice_index (start job) p ≡ 0
  none_there p high = with_zeros job.init (5 * job.procs) p
      ∙ get_or_past job.init p 0 (let e = of.job_is.init_len in omega arith)

  register_zero : (i which : ℕ) → (if nat_lt which 4 then register job (start job) i which else 0) ≡
      0
  register_zero i which = ⊎_elim
      (λ (few : which < 4). ap (λ b. if b then register job (start job) i which else 0)
      (lt-ltb which 4 few)
      ∙ none_there _ (omega arith))
      (λ (many : 4 ≤ which). ap (λ b. if b then register job (start job) i which else 0)
      (le-ltb which 4 many))
      (cases_lt which 4)

  pub first_standing : StandsAfter job 0 (memory_of job (start job)) (λ i. Some (0, λ which. 0))
  unfolding state_after
  first_standing = record {
    reached = λ earlier lt. absurd (omega arith);
    memory_is = refl;
    locals_are = λ i lt. (none_there _ (omega arith), λ k which. register_zero i which k);
  }

  first_goes : (i : ℕ) → Goes job (memory_of job (start job)) i 1 (Some (0, λ which. 0))
      (IsThere 1 i)
  first_goes i = goes_one job (memory_of job (start job)) i 0 0 (λ which. 0) (Pid 3) (IsThere 1 i)
      (first_is program job (code_is program job of)).0 tt refl
      (goes_here job (memory_of job (start job)) i (Some (1, put 3 i (λ which. 0))) (IsThere 1 i)
      (there_at 1 i (put 3 i (λ which. 0)) (put_same 3 i (λ which. 0))))

  first_place : place_of program 0 ≡ 1
  unfolding place_of
  first_place = refl

  first_pictured : (locals : ℕ → Local) → ((i : ℕ) → i < program.procs → IsThere 1 i (locals i)) →
      Pictured program (meaning.program_start program) (memory_of job (start job)) locals
  first_pictured locals each = record {
    within = omega arith;
    all = λ i. refl;
    cells = held_shared;
    privates = held_private;
    loops = λ nest i lt less there. held_zero ((program_layout program).privates + nest) i
        (omega arith)
        (omega arith)
        (let e = layout_procs program in omega arith);
    masks = λ d i lt less there. held_zero
        ((program_layout program).privates + (program_layout program).loops + (suc d - 1)) i
        (omega arith)
        (omega arith)
        (let e = layout_procs program in omega arith) ∙ sym (ap bit (eqb-suc-zero d));
    here = λ i lt. subst (λ n. IsThere n i (locals i)) (sym first_place) (each i lt);
  }

  pub starts_carried : Carried program job (meaning.program_start program) 1
  starts_carried =
      let went : Went job 1 (memory_of job (start job)) (λ i. IsThere 1 i) =
      all_go job of.job_is 0 1 (memory_of job (start job)) (λ i. Some (0, λ which. 0))
      first_standing (λ i. IsThere 1 i)
      (λ i lt. first_goes i) in record {
        memory = memory_of job (start job);
        locals = went.places;
        standing = went.standing;
        pictured = first_pictured went.places
            (λ i lt. went.each i (let e = procs_are program job of in omega arith));
      }
