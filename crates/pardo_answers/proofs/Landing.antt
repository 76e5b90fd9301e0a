-- The jumps of a program's job go to its instructions, so its text is read back.
use Rattle.std.proofs.Common.{◌≡◌, ℕ, suc, ◌+◌, ◌<◌, ◌≤◌, true, List, [], ◌∷◌, length}
use Rattle.std.proofs.Common.{take, Some, refl, sym, ap, subst, ◌∙◌, arith}
use Rattle.std.specs.List.{All, AllByRecursion, slice_get, sum_by}
use Rattle.std.proofs.lemmas.List.{take_all}
use Rattle.std.proofs.lemmas.List.Elements.{All-from_recursion}
use Rattle.std.proofs.lemmas.List.Sums.{sum_by-cons, sum_by-take-le}
use Rattle.pram_job.specs.declared.instr.Instr.{Instr}
use Rattle.pram_job.specs.declared.instr.Operands.{Operands}
use Rattle.pram_job.specs.declared.instr.Operands.TheVariants as o
use Rattle.pram_job.specs.Instructions.{AreOperands, row_of}
use Rattle.pram_job.specs.Job.{JobData}
use Rattle.pardo_program.specs.declared.statement.Line.{Line}
use Rattle.pardo_program.specs.Lawful.{IsLine, IsProgram, bounds_of}
use Rattle.pardo_program.specs.Program.{ProgramData}
use Rattle.pardo_flat.specs.Flat.{flat}
use Rattle.pardo_flat.specs.Layouts.{cell_count, program_layout}
use Rattle.pardo_job.specs.Compiled.{IsCompiled, IsLinesJob}
use Rattle.pardo_job.proofs.FlatCompiled.{compiled_lawful}
use Rattle.pardo_job.specs.Lines.{code_from, code_of, job_of, length_of_line, line_code, place_of}
use Rattle.pardo_job.specs.Operations.{is_shallow}
use Rattle.pardo_job.specs.Refusals.{is_level}
use Rattle.pardo_job.proofs.Fitting.{Fit, IsLaid, fit_both}
use Rattle.pardo_job.proofs.JobFits.{IsFine, code_length, laid}
use Rattle.pardo_job.proofs.LineFits.{AreWithin, line_at, line_fits}
use Rattle.pardo_job.proofs.Shapes.{line_length, line_shallow}
use Rattle.job_text.specs.Laws.{JumpsLand, LandsWithin}

-- ---- places

all_lines : (program : ProgramData) → place_of program (length program.lines)
    ≡ 1 + sum_by (length_of_line program) program.lines
unfolding place_of
all_lines program = ap (λ (l : List Line). 1 + sum_by (length_of_line program) l)
    (take_all (length program.lines) program.lines (omega arith))

-- no line begins past the last instruction
places_within : (program : ProgramData) (j : ℕ) →
    place_of program j ≤ place_of program (length program.lines)
unfolding place_of
places_within program j =
    let all : take (length program.lines) program.lines ≡ program.lines =
    take_all (length program.lines) program.lines (omega arith) in
    omega (
      arith,
      sum_by-take-le (length_of_line program) program.lines j,
      ap (λ (l : List Line). sum_by (length_of_line program) l) all,
    )

-- ---- code whose jumps go at most to the last instruction

from_lands : (program : ProgramData) (cells len : ℕ) (lines : List Line) (at : ℕ) →
    IsLaid cells (program_layout program) → AreWithin (place_of program) len →
    All (IsLine (bounds_of program)) program.lines →
    ((k : ℕ) (line : Line) → slice_get lines k ≡ Some line → IsFine program line) →
    at + sum_by (length_of_line program) lines ≤ len → Fit cells len (code_from program at lines)
unfolding length_of_line
from_lands program cells len [] at is_laid within all fine le = (tt, tt)
from_lands program cells len (line ∷ lines) at is_laid within all fine le =
    let one : List Instr = line_code program (place_of program) at line.depth line.statement in
    let same : length one ≡ length_of_line program line =
    line_length program (place_of program) (λ j. 0) at 0 line.depth line.statement in
    let first = fine 0 line refl in
    let sum : sum_by (length_of_line program) (line ∷ lines)
    ≡ length_of_line program line + sum_by (length_of_line program) lines =
    sum_by-cons (length_of_line program) line lines in
    let quiet : is_shallow one ≡ true =
    line_shallow program (place_of program) (λ j. 0) at 0 line.depth line.statement
    ∙ first.level in
    fit_both cells len one (code_from program (at + length_of_line program line) lines)
    (line_fits program cells len (place_of program) at line.depth line.statement is_laid within
    all first.lawful.0 first.lawful.1 quiet (omega (arith, same, sum, le)))
    (from_lands program cells len lines (at + length_of_line program line) is_laid within all
    (λ k other e. fine (suc k) other e) (omega (arith, sum, le)))

code_lands : (program : ProgramData) → IsProgram program →
    ((k : ℕ) (line : Line) → slice_get program.lines k ≡ Some line →
    is_level program line ≡ true) →
    Fit (cell_count (program_layout program)) (place_of program (length program.lines))
    (code_of program)
unfolding code_of
code_lands program is level =
    let r3 : 3 < 4 = omega arith in (
      r3,
      from_lands program (cell_count (program_layout program))
          (place_of program (length program.lines)) program.lines 1 (laid program is)
          (places_within program) is.lines
          (λ k line e. record {
            lawful = line_at program.lines k line (IsLine (bounds_of program)) is.lines e;
            level = level k line e;
          })
          (omega (arith, all_lines program)),
    )

-- ---- jumps

operands_land : (cells len : ℕ) (operands : Operands) → AreOperands cells len operands →
    LandsWithin (len + 1) operands
operands_land cells len o.Bare is = tt
operands_land cells len (o.Target target) is = tt
operands_land cells len (o.TargetNumber target number) is = tt
operands_land cells len (o.TargetPlace target place) is = tt
operands_land cells len (o.TargetTwo target first second) is = tt
operands_land cells len (o.PlaceValue place value) is = tt
operands_land cells len (o.RegisterIndex register index) is = omega (arith, is.1)
operands_land cells len (o.Index index) is = omega (arith, is)

all_land : (cells len : ℕ) (code : List Instr) → Fit cells len code →
    AllByRecursion (λ (instr : Instr). LandsWithin (len + 1) (row_of instr).1) code
all_land cells len [] fit = tt
all_land cells len (instr ∷ code) fit =
    (operands_land cells len (row_of instr).1 fit.0, all_land cells len code fit.1)

code_same : (program : ProgramData) (steps : ℕ) → (job_of program steps).code ≡ code_of program
unfolding job_of
code_same program steps = refl

lines_land : (program : ProgramData) (job : JobData) (line_of : ℕ → ℕ) → IsProgram program →
    IsLinesJob program job line_of → JumpsLand job
lines_land program job line_of is compiled =
    let len : ℕ = place_of program (length program.lines) in
    let code : job.code ≡ code_of program =
    ap (λ (j : JobData). j.code) compiled.made ∙ code_same program job.steps in
    let count : length (code_of program) ≡ len + 1 = code_length program in
    let lands : All (λ (instr : Instr). LandsWithin (len + 1) (row_of instr).1)
    (code_of program) =
    All-from_recursion (λ (instr : Instr). LandsWithin (len + 1) (row_of instr).1)
    (code_of program) (all_land (cell_count (program_layout program)) len (code_of program)
    (code_lands program is compiled.level)) in
    subst (λ (c : List Instr).
    All (λ (instr : Instr). LandsWithin (length c) (row_of instr).1) c) (sym code)
    (subst (λ (n : ℕ).
    All (λ (instr : Instr). LandsWithin n (row_of instr).1) (code_of program)) (sym count) lands)

pub jumps_land : (program : ProgramData) (job : JobData) (line_of : ℕ → ℕ) → IsProgram program →
    IsCompiled program job line_of → JumpsLand job
jumps_land program job line_of is compiled =
    lines_land (flat program) job line_of (compiled_lawful program job line_of is compiled) compiled
