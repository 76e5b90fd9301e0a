-- Code that stands at a place, and straight code that runs there.
use Rattle.std.proofs.Common.{◌≡◌, ℕ, suc, ◌+◌, List, [], ◌∷◌, ◌++◌, Option, Some, None}
use Rattle.std.proofs.Common.{refl, sym, ap, ◌∙◌, subst, arith, length, append_assoc}
use Rattle.std.specs.Prelude.{slice_get}
use Rattle.std.specs.Option.{option_and_then}
use Rattle.std.proofs.lemmas.Option.{same_Some}
use Rattle.pram_job.specs.declared.instr.Instr.{Instr}
use Rattle.pram_job.specs.declared.instr.Instr.TheVariants.{Ld, St, Jz, Jmp, Halt}
use Rattle.pram_job.specs.declared.instr.Place.TheVariants.{Cell, Named}
use Rattle.pram_job.specs.Job.{JobData}
use Rattle.pardo_job.specs.Straight.{Registers, after_one, after_all}
use Rattle.pardo_law.specs.Locals.{Local, standing_at, after_instr, after_fetched, next_local}
use Rattle.pardo_law.specs.Locals.{local_store_by, store_by_instr, NamesByArray}
use Rattle.pardo_law.specs.Locals.{IsStraight, AreStraight, HasCodeAt, StraightCodeRuns}
use Rattle.pardo_law.proofs.Running.{IsQuiet, Runs, runs_out, quiet_run}

-- ---- where code stands

pub stands_front : (job : JobData) (at : ℕ) (front back : List Instr) →
    HasCodeAt job at (front ++ back) → HasCodeAt job at front
stands_front job at [] back stands = tt
stands_front job at (one ∷ front) back stands =
    (stands.0, stands_front job (at + 1) front back stands.1)

pub stands_back : (job : JobData) (at : ℕ) (front back : List Instr) →
    HasCodeAt job at (front ++ back) → HasCodeAt job (at + length front) back
stands_back job at [] back stands =
    let e : at ≡ at + 0 = omega arith in subst (λ n. HasCodeAt job n back) e stands
stands_back job at (one ∷ front) back stands =
    let e : (at + 1) + length front ≡ at + suc (length front) = omega arith in
    subst (λ n. HasCodeAt job n back) e (stands_back job (at + 1) front back stands.1)

slice_get-seam : (before : List Instr) (one : Instr) (rest : List Instr) →
    slice_get (before ++ one ∷ rest) (length before) ≡ Some one
slice_get-seam [] one rest = refl
slice_get-seam (x ∷ before) one rest = slice_get-seam before one rest

length_more : (before : List Instr) (one : Instr) → length (before ++ one ∷ []) ≡ length before + 1
length_more [] one = refl
length_more (x ∷ before) one = let e = length_more before one in omega arith

pub stands_whole : (job : JobData) (before code after : List Instr) →
    job.code ≡ before ++ (code ++ after) → HasCodeAt job (length before) code
stands_whole job before [] after e = tt
stands_whole job before (one ∷ code) after e =
    let first : slice_get (before ++ (one ∷ (code ++ after))) (length before) ≡ Some one =
    slice_get-seam before one (code ++ after) in
    let moved : (before ++ (one ∷ [])) ++ (code ++ after) ≡ before ++ (one ∷ (code ++ after)) =
    append_assoc before (one ∷ []) (code ++ after) in (
      ap (λ c. slice_get c (length before)) e ∙ first,
      subst (λ n. HasCodeAt job n code) (length_more before one)
          (stands_whole job (before ++ (one ∷ [])) code after (e ∙ sym moved)),
    )

-- ---- straight code

pub straight_append : (front back : List Instr) → AreStraight front → AreStraight back →
    AreStraight (front ++ back)
straight_append [] back a b = b
straight_append (one ∷ front) back a b = (a.0, straight_append front back a.1 b)

straight_stores : (held : Registers) (one : Instr) → IsStraight one → local_store_by held one ≡ None
straight_stores held (Ld target (Named array index)) is = refl
straight_stores held (Ld target (Cell index)) is = absurd is
straight_stores held (St at value) is = absurd is
straight_stores held (Jz at index) is = absurd is
straight_stores held (Jmp index) is = absurd is
straight_stores held Halt is = absurd is
straight_stores held _ is = refl

straight_named : (one : Instr) → IsStraight one → NamesByArray one
straight_named (Ld target (Named array index)) is = tt
straight_named (Ld target (Cell index)) is = absurd is
straight_named (St at value) is = absurd is
straight_named (Jz at index) is = absurd is
straight_named (Jmp index) is = absurd is
straight_named Halt is = absurd is
straight_named _ is = tt

pub straight_instr : (job : JobData) (memory : ℕ → ℕ) (i at : ℕ) (held : Registers) (one : Instr) →
    IsStraight one → after_instr job memory i at held one ≡
    standing_at (at + 1) (after_one memory i one held)
straight_instr job memory i at held (Ld target (Named array index)) is = refl
straight_instr job memory i at held (Ld target (Cell index)) is = absurd is
straight_instr job memory i at held (St place value) is = absurd is
straight_instr job memory i at held (Jz register index) is = absurd is
straight_instr job memory i at held (Jmp index) is = absurd is
straight_instr job memory i at held Halt is = absurd is
straight_instr job memory i at held _ is = refl

-- an instruction that stands there
pub quiet_at : (job : JobData) (at : ℕ) (held : Registers) (one : Instr) → slice_get job.code at ≡
    Some one →
    NamesByArray one → local_store_by held one ≡ None → IsQuiet job (Some (at, held))
quiet_at job at held one stands named none = (
  λ instr is. subst NamesByArray (same_Some one instr (sym stands ∙ is)) named,
  ap (store_by_instr held) stands ∙ none,
)

pub next_at : (job : JobData) (memory : ℕ → ℕ) (i at : ℕ) (held : Registers) (one : Instr) →
    slice_get job.code at ≡ Some one →
    next_local job memory i (Some (at, held)) ≡ after_instr job memory i at held one
next_at job memory i at held one stands = ap (after_fetched job memory i at held) stands

-- one quiet instruction, and then others
pub runs_one : (job : JobData) (memory : ℕ → ℕ) (i n at : ℕ) (held : Registers) (one : Instr)
    (now : Local) →
    slice_get job.code at ≡ Some one → NamesByArray one → local_store_by held one ≡ None →
    Runs job memory i n (after_instr job memory i at held one) now →
    Runs job memory i (suc n) (Some (at, held)) now
runs_one job memory i n at held one now stands named none runs = (
  quiet_at job at held one stands named none,
  subst (λ l. Runs job memory i n l now) (sym (next_at job memory i at held one stands)) runs,
)

runs_rest : (job : JobData) (memory : ℕ → ℕ) (i : ℕ) (code : List Instr) (at : ℕ) →
    ((now : Registers) → Runs job memory i (length code) (Some (at + 1, now))
    (standing_at ((at + 1) + length code) (after_all memory i code now))) →
    (o : Option Registers) → Runs job memory i (length code) (standing_at (at + 1) o)
    (standing_at (at + suc (length code)) (option_and_then (after_all memory i code) o))
runs_rest job memory i code at each None = runs_out job memory i (length code)
runs_rest job memory i code at each (Some now) =
    let e : (at + 1) + length code ≡ at + suc (length code) = omega arith in
    subst (λ n. Runs job memory i (length code) (Some (at + 1, now))
    (standing_at n (after_all memory i code now))) e (each now)

pub runs_straight : (job : JobData) (memory : ℕ → ℕ) (i : ℕ) (code : List Instr) (at : ℕ)
    (held : Registers) → AreStraight code → HasCodeAt job at code →
    Runs job memory i (length code) (Some (at, held))
    (standing_at (at + length code) (after_all memory i code held))
runs_straight job memory i [] at held straight stands =
    let e : at ≡ at + 0 = omega arith in ap (λ n. Some (n, held)) e
runs_straight job memory i (one ∷ code) at held straight stands =
    let end : Local = standing_at (at + suc (length code)) (after_all memory i (one ∷ code) held) in
    runs_one job memory i (length code) at held one end stands.0
    (straight_named one straight.0) (straight_stores held one straight.0)
    (subst (λ l. Runs job memory i (length code) l end)
    (sym (straight_instr job memory i at held one straight.0))
    (runs_rest job memory i code at
    (λ now. runs_straight job memory i code (at + 1) now straight.1 stands.1)
    (after_one memory i one held)))

-- code that leads to some registers
pub runs_to : (job : JobData) (memory : ℕ → ℕ) (i : ℕ) (code : List Instr) (at : ℕ)
    (held : Registers) (o : Option Registers) →
    AreStraight code → HasCodeAt job at code → after_all memory i code held ≡ o →
    Runs job memory i (length code) (Some (at, held)) (standing_at (at + length code) o)
runs_to job memory i code at held o straight stands e =
    subst (λ x. Runs job memory i (length code) (Some (at, held))
    (standing_at (at + length code) x)) e
    (runs_straight job memory i code at held straight stands)

runs_from : (job : JobData) (memory : ℕ → ℕ) (i at : ℕ) (code : List Instr) → AreStraight code →
    HasCodeAt job at code → (o : Option Registers) →
    Runs job memory i (length code) (standing_at at o)
    (standing_at (at + length code) (option_and_then (after_all memory i code) o))
runs_from job memory i at code straight stands None = runs_out job memory i (length code)
runs_from job memory i at code straight stands (Some held) =
    runs_straight job memory i code at held straight stands

pub straight_code_runs : StraightCodeRuns
straight_code_runs job t at memory code held is_job straight stands standing =
    quiet_run job is_job (length code) t memory (λ i. standing_at at (held i))
    (λ i. standing_at (at + length code) (option_and_then (after_all memory i code) (held i)))
    standing (λ i lt. runs_from job memory i at code straight stands (held i))
