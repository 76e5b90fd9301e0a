-- A text that is refused spells no program that is compiled.
use Rattle.std.proofs.Common.{◌≡◌, ℕ, ◌+◌, ◌*◌, ◌≤◌, Bool, true, false, ap, arith, length, max}
use Rattle.std.proofs.Common.{List, Result, Ok, subst}
use Rattle.std.specs.Prelude.{◌&&◌}
use Rattle.std.proofs.Math.Nat.{mul_comm}
use Rattle.std.proofs.lemmas.Bool.{le-leb}
use Rattle.pram_job.specs.Job.{JobData}
use Rattle.pardo_program.specs.Program.{ProgramData, shared_cells}
use Rattle.pardo_text.specs.declared.fault.PardoFault.{PardoFault}
use Rattle.pardo_text.specs.Reading.{program_of}
use Rattle.pardo_flat.specs.Flat.{IsTooWide, flat}
use Rattle.pardo_flat.specs.Layouts.{cell_count, program_layout}
use Rattle.pardo_job.specs.declared.fault.JobKind.{JobKind}
use Rattle.pardo_job.specs.declared.fault.JobKind.TheVariants.{TooDeep, TooLong, Endless, Memory}
use Rattle.pardo_job.specs.declared.fault.JobKind.TheVariants.{TooManyCells}
use Rattle.pardo_job.specs.declared.fault.Refusal.{Refusal}
use Rattle.pardo_job.specs.declared.fault.Refusal.TheVariants.{Text, Job}
use Rattle.pardo_job.specs.Compiled.{IsCompiled}
use Rattle.pardo_job.specs.Lines.{job_of, place_of}
use Rattle.pardo_job.specs.Refusals.{IsProgramFault, IsProgramRefusal, IsTooGreat, is_level, is_short}
use Rattle.pardo_job.proofs.JobFits.{code_length}
use Rattle.pardo_job.proofs.Placed.{place_below}
use Rattle.exercise_judge.specs.Verdicts.{IsOfSubmission}

both_true : (a b : Bool) → a ≡ true → b ≡ true → (a && b) ≡ false → ⊥
both_true true true e f differ = cc
both_true true false e f differ = cc
both_true false b e f differ = cc

cells_within : (a b c d e : ℕ) → max 1 (a + (b + c + d) * e) ≤ 1048576 →
    a + e * (b + c + d) ≤ 1048576
cells_within a b c d e le = let same = mul_comm (b + c + d) e in omega (arith, le, same)

module _ (program : ProgramData) (job : JobData) (line_of : ℕ → ℕ)
    (compiled : IsCompiled program job line_of) where
  -- no line is too deep
  not_deep : (number : ℕ) → IsTooGreat (flat program) number false → ⊥
  not_deep number great =
      let level = compiled.level great.j great.line great.is_there in
      let told = great.level_is in cc

  code_few : place_of (flat program) (length (flat program).lines) + 1 ≤ 4096
  unfolding job_of
  code_few = omega (
    arith,
    compiled.job_is.code_len.1,
    ap (λ (j : JobData). length j.code) compiled.made,
    code_length (flat program),
  )

  -- nor is the code too long
  not_long : (number : ℕ) → IsTooGreat (flat program) number true → ⊥
  not_long number great =
      let few = code_few in
      let below = place_below (flat program) (great.j + 1) in
      both_true (is_level (flat program) great.line) (is_short (flat program) great.j) great.level_is
      (le-leb (place_of (flat program) (great.j + 1) + 1) 4096 (omega (arith, few, below)))
      great.unfit

  cells_few : shared_cells program.arrays
      + program.procs
      * (length (flat program).privates + (flat program).loops + program.choices)
      ≤ 1048576
  unfolding job_of program_layout
  cells_few =
      let few : job.cells ≤ 1048576 = compiled.job_is.cells.1 in
      let are : job.cells ≡ cell_count (program_layout (flat program)) =
      ap (λ (j : JobData). j.cells) compiled.made in
      cells_within (shared_cells program.arrays) (length (flat program).privates) (flat program).loops
      program.choices program.procs (omega (arith, few, are))

  -- nor are there too many cells
  not_wide : (number : ℕ) → IsTooWide program number → ⊥
  not_wide number wide = let few = cells_few in let more = wide.cells in omega (arith, few, more)

  no_fault : (number : ℕ) (kind : JobKind) → IsProgramFault program number kind →
      (kind ≡ Memory → ⊥) → (kind ≡ Endless → ⊥) → ⊥
  no_fault number TooDeep fault memory endless = not_deep number fault
  no_fault number TooLong fault memory endless = not_long number fault
  no_fault number Endless fault memory endless = endless (λ i. Endless)
  no_fault number Memory fault memory endless = memory (λ i. Memory)
  no_fault number TooManyCells fault memory endless = not_wide number fault

pub ok_same : (a b : ProgramData) (r : Result ProgramData PardoFault) → r ≡ Ok a → r ≡ Ok b → a ≡ b
ok_same a b r x y = cc

pub refused : (text : List ℕ) (refusal : Refusal) → IsProgramRefusal text refusal → IsOfSubmission refusal →
    (program : ProgramData) (job : JobData) (line_of : ℕ → ℕ) → program_of text ≡ Ok program →
    IsCompiled program job line_of → ⊥
refused text (Text fault) is certain program job line_of reads compiled =
    let told = is.0 certain in cc
refused text (Job fault) is certain program job line_of reads compiled =
    let same = ok_same is.0 program (program_of text) is.1 reads in
    no_fault program job line_of compiled fault.line fault.kind
    (subst (λ (p : ProgramData). IsProgramFault p fault.line fault.kind) same is.2)
    certain.0 certain.1
