-- The cells of an array are among those of all arrays, and these among those of the job.
use Rattle.std.proofs.Common.{◌≡◌, ◌+◌, ◌≤◌, ℕ, Bool, true, false, List, [], ◌∷◌, length}
use Rattle.std.proofs.Common.{◌∙◌, ◌<◌, ◌^◌, refl, sym, ap, subst, arith, rules}
use Rattle.std.specs.Prelude.{All, Option, Some, None, Result, Ok, Err, IfOk, IfErr, unwrap_or}
use Rattle.std.specs.Prelude.{if◌then◌else◌}
use Rattle.std.specs.Str.{bytes_eq}
use Rattle.std.proofs.lemmas.List.Sums.{sum_by-cons}
use Rattle.pram_job.specs.declared.instr.Instr.{Instr}
use Rattle.pram_job.specs.declared.instr.Rule.{Rule}
use Rattle.pram_job.specs.Job.{IsJob, JobData, job_data}
use Rattle.pardo_program.specs.Lawful.{AreArrays}
use Rattle.pardo_program.specs.Program.{ArrayData, ProgramData, shared_cells}
use Rattle.pardo_text.specs.Reading.{program_of}
use Rattle.pardo_flat.specs.Flat.{flat}
use Rattle.pardo_flat.specs.Layouts.{program_layout}
use Rattle.pardo_job.specs.Drafts.{IsDraft}
use Rattle.pardo_job.specs.Lines.{job_of}
use Rattle.pardo_answers.specs.Language.{is_program}
use Rattle.library_boards.specs.Givens.{IsGivenFault, IsGivenJob, IsJobWith, IsUnfitFor}
use Rattle.library_boards.specs.Givens.{array_called, put_all, text_arrays}
use Rattle.library_boards.specs.Jobs.{IsNoJob, IsUncountedJobOf}
use Rattle.library_boards.specs.declared.given.Given.{Given}
use Rattle.library_boards.specs.declared.given.GivenFault.{GivenFault}
use Rattle.library_boards.specs.declared.given.GivenFault.TheVariants.{Text, Unfit}
use Rattle.library_boards.specs.declared.job.OpenFault.{OpenFault}

no_array : (array : ArrayData) → None ≡ Some array → ⊥
no_array array e = search rules

-- it is the first one, or one of the others
by_test : (test : Bool) (first array : ArrayData) (others : Option ArrayData) {Q : Type 0} →
    (if test then Some first else others) ≡ Some array → (first ≡ array → Q) →
    (others ≡ Some array → Q) → Q
by_test true first array others is this other = this (ap (λ o. unwrap_or o first) is)
by_test false first array others is this other = other is

pub within : (arrays : List ArrayData) (base : ℕ) (name : List ℕ) (array : ArrayData) →
    AreArrays arrays base → array_called arrays name ≡ Some array →
    array.base + length array.start ≤ base + shared_cells arrays
within [] base name array are is = absurd (no_array array is)
within (first ∷ others) base name array are is =
    let sum = sum_by-cons (λ (a : ArrayData). length a.start) first others in
    by_test (bytes_eq first.name name) first array (array_called others name) is
    (λ e. omega (
      arith,
      sum,
      are.0,
      ap (λ (a : ArrayData). a.base) e,
      ap (λ (a : ArrayData). length a.start) e,
    ))
    (λ e. omega (arith, sum, within others (base + length first.start) name array are.3 e))

layout_within : (program : ProgramData) →
    shared_cells program.arrays ≤ (job_of (flat program) 0).cells
unfolding job_of program_layout
layout_within program = omega arith

pub draft_within : (program : ProgramData) (job : JobData) (numbers : List ℕ) →
    IsDraft program job numbers → shared_cells program.arrays ≤ job.cells
draft_within program job numbers draft =
    omega (arith, layout_within program, ap (λ (j : JobData). j.cells) draft.made)

-- ---- a job with other cells

same_parts : (own : JobData) (rule : Rule) (count procs steps : ℕ) (cells : List ℕ)
    (code : List Instr) → rule ≡ own.rule → count ≡ own.cells → procs ≡ own.procs →
    steps ≡ own.steps → code ≡ own.code →
    job_data rule count procs steps cells code ≡ record own { init = cells }
same_parts own rule count procs steps cells code e1 e2 e3 e4 e5 = rw (e1, e2, e3, e4, e5) refl

pub parts_fit : (own : JobData) (rule : Rule) (count procs steps : ℕ) (cells : List ℕ)
    (code : List Instr) → rule ≡ own.rule → count ≡ own.cells → procs ≡ own.procs →
    steps ≡ own.steps → code ≡ own.code → IsJob own → count ≡ length cells →
    All (λ value. value < 2 ^ 32) cells → IsJob (job_data rule count procs steps cells code)
parts_fit own rule count procs steps cells code e1 e2 e3 e4 e5 is long fits =
    subst (λ (j : JobData). IsJob j) (sym (same_parts own rule count procs steps cells code
    e1 e2 e3 e4 e5)) (record {
      cells = is.cells;
      procs = is.procs;
      steps = is.steps;
      init_len = sym long ∙ e2;
      init_fits = fits;
      code_len = is.code_len;
      code_fits = is.code_fits;
    })

-- ---- the arrays of a text, and its job with what is given

pub arrays_are : (text : List ℕ) (program : ProgramData) → is_program text ≡ true →
    program_of text ≡ Ok program → text_arrays text ≡ program.arrays
arrays_are text program one reads = rw one (rw reads refl)

pub none_are : (text : List ℕ) → is_program text ≡ false → text_arrays text ≡ []
none_are text none = rw none refl

module _ (text : List ℕ) (given : List Given) (arrays : List ArrayData) (own : JobData)
    (same : text_arrays text ≡ arrays) (of : IsUncountedJobOf text own) where
  pub job_is : (result : Result JobData GivenFault) → IfOk result (IsJobWith arrays given own) →
      IfOk result (IsGivenJob text given)
  job_is (Ok job) made = record {
    own = own;
    of = of;
    made = subst (λ (l : List ArrayData). IsJobWith l given own job) (sym same) made;
  }
  job_is (Err fault) made = tt

  fault_is : (fault : GivenFault) → IsUnfitFor arrays given own.init fault →
      IsGivenFault text given fault
  fault_is (Text fault) is = subst (λ (f : OpenFault). IsNoJob text f) (sym is) tt
  fault_is (Unfit fault) is = (
    own,
    of,
    subst (λ (l : List ArrayData). put_all l 0 given own.init ≡ Err fault) (sym same) is,
  )

  pub faults_are : (result : Result JobData GivenFault) →
      IfErr result (IsUnfitFor arrays given own.init) → IfErr result (IsGivenFault text given)
  faults_are (Ok job) is = tt
  faults_are (Err fault) is = fault_is fault is
