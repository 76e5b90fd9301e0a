-- What memory and the places of all processors show of a state of the program.
use Rattle.std.proofs.Common.{◌≡◌, ℕ, suc, ◌+◌, ◌*◌, ◌^◌, ◌<◌, ◌≤◌, true, Option, Some, None}
use Rattle.std.proofs.Common.{refl, sym, ap, ◌∙◌, subst, ⊎_elim, arith, if◌then◌else◌, length}
use Rattle.std.specs.Prelude.{slice_index, max}
use Rattle.std.proofs.Math.Nat.{mul-le-mul_left}
use Rattle.std.proofs.lemmas.Bool.{cases_lt, le-ltb, lt-ltb}
use Rattle.pram_job.specs.Job.{JobData, IsJob}
use Rattle.pram_step.specs.Runs.{state_after}
use Rattle.pram_step.proofs.LawFits.{state_fits}
use Rattle.pram_machine.proofs.Shapes.{place_fits}
use Rattle.pardo_program.specs.declared.statement.Statement.{Statement}
use Rattle.pardo_program.specs.declared.statement.Statement.TheVariants.{For, EndFor}
use Rattle.pardo_program.specs.Lawful.{IsProgram}
use Rattle.pardo_program.specs.Operations.{bit}
use Rattle.pardo_program.specs.Program.{ProgramData}
use Rattle.pardo_flat.specs.Layouts.{program_layout, private_cells, loop_cells, mask_cells}
use Rattle.pardo_flat.specs.Layouts.{cell_count}
use Rattle.pardo_flat.specs.Layouts.{start_values}
use Rattle.pardo_flat.specs.Statements.{statement_at}
use Rattle.pardo_job.specs.Compiled.{AreLevel}
use Rattle.pardo_job.specs.Lines.{job_of, code_of, place_of}
use Rattle.pardo_job.specs.Meaning.{Source}
use Rattle.pardo_job.specs.Sees.{Sees}
use Rattle.pardo_law.specs.Locals.{Local, StandsAfter}
use Rattle.pardo_law.proofs.Bodies.{IsThere}
use Rattle.pardo_law.proofs.Rows.{held_below, own_of, row_within, place_is, place_outside}

-- ---- the job

-- the end of a loop names its beginning
abbrev pub IsFor : Statement → Type 0
IsFor (For nest first last up end) = Unit {0}
IsFor _ = ⊥

abbrev pub TurnsAreTied : ProgramData → Type 0
TurnsAreTied program = (j begin : ℕ) → statement_at program j ≡ EndFor begin →
    IsFor (statement_at program begin)

-- the job of the definitions for a lawful program
pub record IsOf (program : ProgramData) (job : JobData) : Type 0 where
  pub program_is : IsProgram program
  pub job_is : IsJob job
  pub made : job ≡ job_of program job.steps
  pub level : AreLevel program
  pub tied : TurnsAreTied program

pub layout_procs : (program : ProgramData) → (program_layout program).procs ≡ program.procs
unfolding program_layout
layout_procs program = refl

module _ (program : ProgramData) (job : JobData) (of : IsOf program job) where
  pub procs_are : job.procs ≡ program.procs
  unfolding job_of
  procs_are = ap (λ (j : JobData). j.procs) of.made

  pub procs_same : job.procs ≡ (program_layout program).procs
  procs_same = procs_are ∙ sym (layout_procs program)

  pub cells_are : job.cells ≡ cell_count (program_layout program)
  unfolding job_of
  cells_are = ap (λ (j : JobData). j.cells) of.made

  pub code_is : job.code ≡ code_of program
  unfolding job_of
  code_is = ap (λ (j : JobData). j.code) of.made

  pub rule_is : job.rule ≡ program.rule
  unfolding job_of
  rule_is = ap (λ (j : JobData). j.rule) of.made

  pub init_is : job.init ≡ start_values program
  unfolding job_of
  init_is = ap (λ (j : JobData). j.init) of.made

  le_max : (a b : ℕ) → b ≤ max a b
  le_max a b = omega arith

  pub all_cells : (program_layout program).shared +
      ((program_layout program).privates + (program_layout program).loops + (program_layout
      program).choices)
      * (program_layout program).procs ≤ job.cells
  all_cells = subst (λ n. (program_layout program).shared +
      ((program_layout program).privates + (program_layout program).loops + (program_layout
      program).choices)
      * (program_layout program).procs ≤ n) (sym cells_are)
      (le_max 1 ((program_layout program).shared + ((program_layout program).privates
      + (program_layout program).loops + (program_layout program).choices) * (program_layout
      program).procs))

  pub row_low : (w i : ℕ) → w < (program_layout program).privates + (program_layout program).loops +
      (program_layout program).choices →
      i < (program_layout program).procs → own_of (program_layout program) w i < job.cells
  row_low w i lt less =
      let a = row_within (program_layout program) w
      ((program_layout program).privates + (program_layout program).loops + (program_layout
      program).choices) i
      lt less in
      let b = all_cells in omega arith

  pub shared_low : (cell : ℕ) → cell < (program_layout program).shared → cell < job.cells
  shared_low cell lt = let b = all_cells in omega arith

  pub held_low : (cell : ℕ) → cell < held_below (program_layout program) → cell < job.cells
  held_low cell lt =
      let b = all_cells in
      let few : (program_layout program).privates ≤ (program_layout program).privates
      + (program_layout program).loops + (program_layout program).choices = omega arith in
      omega (arith, mul-le-mul_left (program_layout program).procs few)

  pub private_count : (program_layout program).privates ≡ length program.privates
  unfolding program_layout
  private_count = refl

  pub loop_count : (program_layout program).loops ≡ program.loops
  unfolding program_layout
  loop_count = refl

  pub choice_count : (program_layout program).choices ≡ program.choices
  unfolding program_layout
  choice_count = refl

-- ---- what a standing machine shows

-- by whether it is gone
abbrev pub IsHere : Option ℕ → ℕ → ℕ → Local → Type 0
IsHere (Some line) place i l = l ≡ None
IsHere None place i l = IsThere place i l

pub record Pictured (program : ProgramData) (source : Source) (memory : ℕ → ℕ)
    (locals : ℕ → Local) : Type 0 where
  pub within : source.at ≤ length program.lines
  pub all : (i : ℕ) → source.masks 0 i ≡ true
  pub cells : (cell : ℕ) → cell < (program_layout program).shared → memory cell ≡ source.cells cell
  pub privates : (x i : ℕ) → x < (program_layout program).privates → i < program.procs →
      memory ((private_cells (program_layout program) x).base + i) ≡ source.privates x i
  pub loops : (nest i : ℕ) → nest < (program_layout program).loops → i < program.procs →
      source.gone i ≡
      None →
      memory ((loop_cells (program_layout program) nest).base + i) ≡ source.loops nest
  pub masks : (depth i : ℕ) → depth < (program_layout program).choices → i < program.procs →
      source.gone i ≡ None →
      memory ((mask_cells (program_layout program) (suc depth)).base + i) ≡
      bit (source.masks (suc depth) i)
  pub here : (i : ℕ) → i < program.procs →
      IsHere (source.gone i) (place_of program source.at) i (locals i)

pub memory_fits : (job : JobData) (t : ℕ) (memory : ℕ → ℕ) (locals : ℕ → Local) → IsJob job →
    StandsAfter job t memory locals → (cell : ℕ) → memory cell < 2 ^ 32
memory_fits job t memory locals is_job standing cell =
    subst (λ (m : ℕ → ℕ). m cell < 2 ^ 32) standing.memory_is
    (⊎_elim (λ (low : cell < job.cells).
    subst (λ n. n < 2 ^ 32) (sym (ap (λ b. if b then slice_index (state_after job t) cell else 0)
    (lt-ltb cell job.cells low)))
    (place_fits (state_after job t) cell (state_fits job t is_job)))
    (λ (high : job.cells ≤ cell).
    subst (λ n. n < 2 ^ 32) (sym (ap (λ b. if b then slice_index (state_after job t) cell else 0)
    (le-ltb cell job.cells high)))
    (omega arith)) (cases_lt cell job.cells))

module _ (program : ProgramData) (of : IsProgram program) (source : Source) (memory : ℕ → ℕ)
    (locals : ℕ → Local)
    (pictured : Pictured program source memory locals)
    (fits : (cell : ℕ) → memory cell < 2 ^ 32) where
  pub sees : (i : ℕ) → i < program.procs → source.gone i ≡ None →
      Sees program (program_layout program) source memory i
  sees i lt there = record {
    is_processor = let e = layout_procs program in omega arith;
    few = let e = layout_procs program in let f = of.procs.1 in omega arith;
    fits = fits;
    loops = λ nest low. pictured.loops nest i low lt there;
    privates = λ x low. pictured.privates x i low lt;
    within = λ array index cell is.
        let p = place_is program of.arrays array index cell is in
        (p.within, p.is, pictured.cells cell p.shared);
    outside = λ array index low is. place_outside program of.arrays array index is;
  }
