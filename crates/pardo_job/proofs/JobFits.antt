-- The job of a lawful program is a job.
use Rattle.std.proofs.Common.{◌≡◌, ℕ, zero, suc, ◌+◌, ◌-◌, ◌*◌, ◌^◌, ◌<◌, ◌≤◌, true}
use Rattle.std.proofs.Common.{Some, None, List, [], ◌∷◌, ◌++◌, length, map, take, replicate, refl}
use Rattle.std.proofs.Common.{ap, ◌∙◌, arith}
use Rattle.std.specs.List.{All, flat_map, slice_get, sum_by}
use Rattle.std.proofs.Math.Nat.{mul-le-mul_left}
use Rattle.std.proofs.lemmas.List.{length-append, length-replicate, take_all}
use Rattle.std.proofs.lemmas.List.Concat.{length-flat_map}
use Rattle.std.proofs.lemmas.List.Elements.{All-append, All-from_recursion, All-nil, All-replicate}
use Rattle.std.proofs.lemmas.List.Elements.{recursion_from_All}
use Rattle.std.proofs.lemmas.List.Sums.{sum_by-cons, sum_by-take-le}
use Rattle.std.specs.List.{AllByRecursion}
use Rattle.pram_job.specs.declared.instr.Instr.{Instr}
use Rattle.pram_job.specs.declared.limits.TheConstants.{MAX_CODE}
use Rattle.pram_job.specs.Instructions.{IsArray}
use Rattle.pram_job.specs.Job.{IsInstr, IsJob}
use Rattle.pardo_program.specs.declared.statement.Line.{Line}
use Rattle.pardo_program.specs.Lawful.{AreArrays, IsLine, IsPrivate, IsProgram, bounds_of}
use Rattle.pardo_program.specs.Program.{ArrayData, PrivateData, ProgramData, shared_cells}
use Rattle.pardo_flat.specs.Layouts.{cell_count, cells_of_array, given_values, program_layout}
use Rattle.pardo_flat.specs.Layouts.{start_values}
use Rattle.pardo_job.specs.Lines.{code_from, code_of, job_of, length_of_line, line_code, place_of}
use Rattle.pardo_job.specs.Operations.{is_shallow}
use Rattle.pardo_job.specs.Refusals.{is_level}
use Rattle.pardo_job.proofs.Fitting.{Fit, IsLaid, fit_both}
use Rattle.pardo_job.proofs.LineFits.{AreWithin, line_at, line_fits}
use Rattle.pardo_job.proofs.Shapes.{line_length, line_shallow}

-- ---- cells

array_within : (cells : ℕ) (arrays : List ArrayData) (base a : ℕ) → AreArrays arrays base →
    a < length (map cells_of_array arrays) →
    base + shared_cells arrays ≤ cells →
    IsArray cells (elim (slice_get (map cells_of_array arrays) a)
    [ None ↦ record { base = 0; len = 0 } | Some found ↦ found ])
array_within cells [] base a are lt le = absurd (omega arith)
array_within cells (array ∷ arrays) base zero are lt le =
    let sum : shared_cells (array ∷ arrays) ≡ length array.start + shared_cells arrays =
    sum_by-cons (λ (x : ArrayData). length x.start) array arrays in (
      (let some : 1 ≤ length array.start = omega (arith, are.1) in some),
      (let in_cells : array.base + length array.start ≤ cells = omega (arith, are.0, sum, le) in
          in_cells),
    )
array_within cells (array ∷ arrays) base (suc a) are lt le =
    let sum : shared_cells (array ∷ arrays) ≡ length array.start + shared_cells arrays =
    sum_by-cons (λ (x : ArrayData). length x.start) array arrays in
    array_within cells arrays (base + length array.start) a are.3 (omega arith)
    (omega (arith, sum, le))

row_within : (which rows procs : ℕ) → which < rows → which * procs + procs ≤ rows * procs
row_within which rows procs lt =
    let le : which + 1 ≤ rows = omega arith in omega (arith, mul-le-mul_left procs le)

pub laid : (program : ProgramData) → IsProgram program →
    IsLaid (cell_count (program_layout program)) (program_layout program)
unfolding program_layout
laid program is = record {
  arrays = λ a lt. array_within (cell_count (program_layout program)) program.arrays 0 a is.arrays
      lt
      (omega arith);
  rows = λ which lt.
      let rows : ℕ = length program.privates + program.loops + program.choices in
      let fits = row_within which rows program.procs lt in
      ((let some : 1 ≤ program.procs = omega (arith, is.procs.0) in some), omega (arith, fits));
}

-- ---- start values

private_sum : (procs : ℕ) (xs : List PrivateData) → AllByRecursion (IsPrivate procs) xs →
    sum_by (λ (x : PrivateData). length x.start) xs ≡ length xs * procs
private_sum procs [] all = omega arith
private_sum procs (x ∷ xs) all =
    omega (
      arith,
      sum_by-cons (λ (y : PrivateData). length y.start) x xs,
      all.0.0,
      private_sum procs xs all.1,
    )

pub given_length : (program : ProgramData) → IsProgram program →
    length (given_values program) ≡ shared_cells program.arrays + length program.privates *
    program.procs
given_length program is =
    let front : List ℕ = flat_map (λ (x : ArrayData). x.start) program.arrays in
    let back : List ℕ = flat_map (λ (x : PrivateData). x.start) program.privates in
    let all : AllByRecursion (IsPrivate program.procs) program.privates =
    recursion_from_All (IsPrivate program.procs) program.privates is.privates in
    omega (
      arith,
      length-append front back,
      length-flat_map (λ (x : ArrayData). x.start) program.arrays,
      length-flat_map (λ (x : PrivateData). x.start) program.privates,
      private_sum program.procs program.privates all,
    )

-- there is a cell for each of them
pub given_fits : (program : ProgramData) → IsProgram program →
    length (given_values program) ≤ cell_count (program_layout program)
unfolding program_layout
given_fits program is =
    let more : length program.privates *
    program.procs ≤ (length program.privates + program.loops + program.choices) * program.procs =
    omega (
      arith,
      mul-le-mul_left program.procs
          (let le : length program.privates ≤ length program.privates + program.loops +
          program.choices = omega arith in le),
    ) in
    omega (arith, given_length program is, more)

cells_fit : (program : ProgramData) → IsProgram program →
    cell_count (program_layout program) ≤ 1048576
unfolding program_layout
cells_fit program is = omega (arith, is.cells)

abbrev Is32 : ℕ → Type 0
Is32 value = value < 2 ^ 32

arrays_32 : (arrays : List ArrayData) (base : ℕ) → AreArrays arrays base →
    All Is32 (flat_map (λ (x : ArrayData). x.start) arrays)
arrays_32 [] base are = All-nil Is32
arrays_32 (array ∷ arrays) base are =
    All-append Is32 array.start (flat_map (λ (x : ArrayData). x.start) arrays) are.2
    (arrays_32 arrays (base + length array.start) are.3)

privates_32 : (procs : ℕ) (xs : List PrivateData) → AllByRecursion (IsPrivate procs) xs →
    All Is32 (flat_map (λ (x : PrivateData). x.start) xs)
privates_32 procs [] all = All-nil Is32
privates_32 procs (x ∷ xs) all =
    All-append Is32 x.start (flat_map (λ (y : PrivateData). y.start) xs) all.0.1
    (privates_32 procs xs all.1)

start_32 : (program : ProgramData) → IsProgram program → All Is32 (start_values program)
unfolding start_values
start_32 program is =
    let zeros : ℕ = cell_count (program_layout program) - length (given_values program) in
    let z : 0 < 2 ^ 32 = omega arith in
    All-append Is32 (given_values program) (replicate zeros 0)
    (All-append Is32 (flat_map (λ (x : ArrayData). x.start) program.arrays)
    (flat_map (λ (x : PrivateData). x.start) program.privates)
    (arrays_32 program.arrays 0 is.arrays)
    (privates_32 program.procs program.privates
    (recursion_from_All (IsPrivate program.procs) program.privates is.privates)))
    (All-replicate Is32 zeros 0 z)

pub start_length : (program : ProgramData) → IsProgram program → length (start_values program) ≡
    cell_count (program_layout program)
unfolding start_values
start_length program is =
    let cells : ℕ = cell_count (program_layout program) in
    let given : List ℕ = given_values program in
    let le : length given ≤ cells = given_fits program is in
    let zeros : List ℕ = replicate (cells - length given) 0 in
    let sum : length (given ++ zeros) ≡ length given + length zeros = length-append given zeros in
    let count : length zeros ≡ cells - length given =
    length-replicate {A = ℕ} (cells - length given) 0 in
    omega (arith, sum, count, le)

-- ---- code

from_length : (program : ProgramData) (lines : List Line) (at : ℕ) →
    length (code_from program at lines) ≡ sum_by (length_of_line program) lines + 1
unfolding length_of_line
from_length program [] at = refl
from_length program (line ∷ lines) at =
    let one : List Instr = line_code program (place_of program) at line.depth line.statement in
    let rest : List Instr = code_from program (at + length_of_line program line) lines in
    let same : length one ≡ length_of_line program line =
    line_length program (place_of program) (λ j. 0) at 0 line.depth line.statement in
    let both : length (one ++ rest) ≡ length one + length rest = length-append one rest in
    omega (
      arith,
      both,
      same,
      from_length program lines (at + length_of_line program line),
      sum_by-cons (length_of_line program) line lines,
    )

pub code_length : (program : ProgramData) → length (code_of program) ≡
    place_of program (length program.lines) + 1
unfolding code_of place_of
code_length program =
    let all : take (length program.lines) program.lines ≡ program.lines =
    take_all (length program.lines) program.lines (omega arith) in
    omega (
      arith,
      from_length program program.lines 1,
      ap (λ (l : List Line). sum_by (length_of_line program) l) all,
    )

places_within : (program : ProgramData) (j : ℕ) →
    place_of program j ≤ place_of program (length program.lines)
unfolding place_of
places_within program j =
    let all : take (length program.lines) program.lines ≡ program.lines =
    take_all (length program.lines) program.lines (omega arith) in
    omega (
      arith,
      sum_by-take-le (length_of_line program) program.lines j,
      ap (λ (l : List Line). sum_by (length_of_line program) l) all,
    )

pub record IsFine (program : ProgramData) (line : Line) : Type 0 where
  pub lawful : IsLine (bounds_of program) line
  pub level : is_level program line ≡ true

from_fits : (program : ProgramData) (cells len : ℕ) (lines : List Line) (at : ℕ) →
    IsLaid cells (program_layout program) →
    AreWithin (place_of program) len → All (IsLine (bounds_of program)) program.lines →
    ((k : ℕ) (line : Line) → slice_get lines k ≡ Some line → IsFine program line) →
    at + sum_by (length_of_line program) lines ≤ len → Fit cells len (code_from program at lines)
unfolding length_of_line
from_fits program cells len [] at laid within all fine le = (tt, tt)
from_fits program cells len (line ∷ lines) at laid within all fine le =
    let one : List Instr = line_code program (place_of program) at line.depth line.statement in
    let same : length one ≡ length_of_line program line =
    line_length program (place_of program) (λ j. 0) at 0 line.depth line.statement in
    let first = fine 0 line refl in
    let sum : sum_by (length_of_line program) (line ∷ lines) ≡ length_of_line program line +
    sum_by (length_of_line program) lines = sum_by-cons (length_of_line program) line lines in
    let quiet : is_shallow one ≡ true =
    line_shallow program (place_of program) (λ j. 0) at 0 line.depth line.statement ∙
    first.level in
    fit_both cells len one (code_from program (at + length_of_line program line) lines)
    (line_fits program cells len (place_of program) at line.depth line.statement laid within all
    first.lawful.0 first.lawful.1 quiet (omega (arith, same, sum, le)))
    (from_fits program cells len lines (at + length_of_line program line) laid within all
    (λ k other e. fine (suc k) other e) (omega (arith, sum, le)))

whole_sum : (program : ProgramData) → place_of program (length program.lines) ≡ 1 +
    sum_by (length_of_line program) program.lines
unfolding place_of
whole_sum program = ap (λ (l : List Line). 1 + sum_by (length_of_line program) l)
    (take_all (length program.lines) program.lines (omega arith))

code_fits : (program : ProgramData) (cells : ℕ) → IsLaid cells (program_layout program) →
    IsProgram program →
    ((k : ℕ) (line : Line) → slice_get program.lines k ≡ Some line → is_level program line ≡ true) →
    Fit cells (length (code_of program)) (code_of program)
unfolding code_of
code_fits program cells is_laid is level =
    let len : ℕ = length (code_of program) in
    let r3 : 3 < 4 = omega arith in
    let total : len ≡ place_of program (length program.lines) + 1 = code_length program in (
      r3,
      from_fits program cells len program.lines 1 is_laid
          (λ j. omega (arith, total, places_within program j)) is.lines
          (λ k line e. record {
            lawful = line_at program.lines k line (IsLine (bounds_of program))
                is.lines e;
            level = level k line e;
          })
          (omega (arith, total, whole_sum program)),
    )

all_fit : (cells len : ℕ) (code : List Instr) → Fit cells len code →
    AllByRecursion (IsInstr cells len) code
all_fit cells len [] f = tt
all_fit cells len (one ∷ code) f = (f.0, all_fit cells len code f.1)

-- a job of which each line is level and whose code is not too long
pub job_is : (program : ProgramData) (steps : ℕ) → IsProgram program → steps < 2 ^ 32 →
    ((k : ℕ) (line : Line) → slice_get program.lines k ≡ Some line → is_level program line ≡ true) →
    place_of program (length program.lines) < MAX_CODE → IsJob (job_of program steps)
unfolding job_of
job_is program steps is lt level short =
    let cells : ℕ = cell_count (program_layout program) in
    let len : ℕ = length (code_of program) in
    let total : len ≡ place_of program (length program.lines) + 1 = code_length program in record {
      cells = ((let one : 1 ≤ cells = omega arith in one), cells_fit program is);
      procs = ((let some : 1 ≤ program.procs = omega (arith, is.procs.0) in some), is.procs.1);
      steps = lt;
      init_len = start_length program is;
      init_fits = start_32 program is;
      code_len = (
        (let some : 1 ≤ len = omega (arith, total) in some),
        (let few : len ≤ MAX_CODE = omega (arith, total, short) in few),
      );
      code_fits = All-from_recursion (IsInstr cells len) (code_of program)
          (all_fit cells len (code_of program) (code_fits program cells (laid program is) is level));
    }
