-- A submission meets a trial if and only if it solves it.
use Rattle.std.proofs.Common.{◌≡◌, ◌∙◌, ◌+◌, ◌<◌, ◌≤◌, ℕ, zero, suc, true, false, List, []}
use Rattle.std.proofs.Common.{◌∷◌, Option, Some, None, Result, Ok, map, length, ap, ap₂, sym, subst}
use Rattle.std.proofs.Common.{refl, inl, arith, cond}
use Rattle.std.specs.List.{range_with_len}
use Rattle.std.specs.Prelude.{find, slice_index, IfOk}
use Rattle.std.specs.Str.{bytes_eq}
use Rattle.std.proofs.lemmas.List.Sums.{sum_by-cons}
use Rattle.text_lines.specs.Lines.{Word}
use Rattle.pram_job.specs.Job.{JobData}
use Rattle.pram_step.specs.declared.answer.Dispute.{Dispute}
use Rattle.pram_step.specs.declared.answer.RunAnswer.{RunAnswer}
use Rattle.pram_step.specs.declared.answer.RunAnswer.TheVariants.{Final, Conflict, Unfinished}
use Rattle.pram_step.specs.Runs.{IsAnswer}
use Rattle.pram_step.proofs.LawDisputes.{has_answer}
use Rattle.pardo_program.specs.Lawful.{AreArrays, IsProgram}
use Rattle.pardo_program.specs.Nested.{IsNested}
use Rattle.pardo_program.specs.Program.{ArrayData, ProgramData, shared_cells}
use Rattle.pardo_text.specs.Reading.{program_of}
use Rattle.pardo_text.specs.declared.fault.PardoFault.{PardoFault}
use Rattle.pardo_text.proofs.LawLawful.{programs_are_lawful}
use Rattle.pardo_text.proofs.LawNesting.{programs_are_nested}
use Rattle.pardo_flat.specs.Layouts.{program_layout}
use Rattle.pardo_flat.specs.Flat.{flat}
use Rattle.pardo_job.specs.Compiled.{IsCompiled}
use Rattle.pardo_job.specs.Ends.{AreGone}
use Rattle.pardo_job.specs.Lines.{job_of}
use Rattle.pardo_job.specs.Meaning.{after}
use Rattle.pardo_job.specs.Runs.{IsProgramEnd}
use Rattle.pardo_job.specs.Times.{AreAllLines}
use Rattle.pardo_law.specs.Theorem.{IsAnswerOf}
use Rattle.pardo_law.proofs.Answering.{answers_are_the_programs, runs_end_once}
use Rattle.pardo_law.proofs.FlatCarrying.{jobs_carry_programs}
use Rattle.exercise_text.specs.Submissions.{judged_text}
use Rattle.exercise_text.specs.Values.{held_by, array_values}
use Rattle.exercise_judge.specs.Trials.{KeepsBar, Meets, NoneGone, TrialData}
use Rattle.exercise_judge.proofs.Staying.{all_none, none_gone}
use Rattle.exercise_words.specs.Laws.{KeepsAll, Solves, WhatIsMetIsSolved, WhatIsSolvedIsMet}
use Rattle.exercise_words.proofs.Summing.{operations_are, time_is}

-- ---- values by cells that hold the same

map-range_same : (f g : ℕ → ℕ) (a n : ℕ) → ((k : ℕ) → a ≤ k → k < a + n → f k ≡ g k) →
    map f (range_with_len a n) ≡ map g (range_with_len a n)
map-range_same f g a zero same = refl
map-range_same f g a (suc n) same =
    ap₂ (λ (x : ℕ) (l : List ℕ). x ∷ l) (same a (omega arith) (omega arith))
    (map-range_same f g (a + 1) n (λ k least most. same k (omega arith) (omega arith)))

abbrev held : (ℕ → ℕ) → Option ArrayData → List ℕ
held cells None = []
held cells (Some array) = array_values cells array

held_same : (cells other : ℕ → ℕ) (name : Word) (arrays : List ArrayData) (base : ℕ) →
    AreArrays arrays base →
    ((cell : ℕ) → cell < base + shared_cells arrays → cells cell ≡ other cell) →
    held_by arrays cells name ≡ held_by arrays other name
held_same cells other name [] base are same = refl
held_same cells other name (array ∷ arrays) base are same =
    let whole : shared_cells (array ∷ arrays) ≡ length array.start + shared_cells arrays =
    sum_by-cons (λ (x : ArrayData). length x.start) array arrays in
    let base_is = are.0 in
    let here : array_values cells array ≡ array_values other array =
    map-range_same (λ k. cells (array.base + k)) (λ k. other (array.base + k)) 0
    (length array.start) (λ k least most.
    same (array.base + k) (omega (arith, whole, base_is))) in
    let later : held_by arrays cells name ≡ held_by arrays other name =
    held_same cells other name arrays (base + length array.start) are.3
    (λ cell low. same cell (omega (arith, whole))) in
    elim (bytes_eq array.name name) as (λ b.
    held cells (cond b (Some array) (find (λ (x : ArrayData). bytes_eq x.name name) arrays))
    ≡ held other (cond b (Some array) (find (λ (x : ArrayData). bytes_eq x.name name) arrays))) [
      | true ↦ here
      | false ↦ later
    ]

-- ---- who is gone

procs_are : (program : ProgramData) (job : JobData) → job ≡ job_of (flat program) job.steps →
    job.procs ≡ program.procs
unfolding job_of
procs_are program job made = ap (λ (j : JobData). j.procs) made

module _ (program : ProgramData) (job : JobData) (line_of : ℕ → ℕ) (is_lawful : IsProgram program)
    (is_nested : IsNested program.lines) (compiled : IsCompiled program job line_of) (run : ℕ)
    (over : IsProgramEnd program run) where
  are_gone : AreGone job line_of job.steps (after program run).gone
  are_gone i low =
      let procs = procs_are program job compiled.made in
      ((jobs_carry_programs program job line_of is_lawful is_nested compiled).ends run
      over).0.gone i
      (omega (arith, procs, low))

  keeps_all : NoneGone job → KeepsAll program run
  keeps_all none i low =
      let procs = procs_are program job compiled.made in
      all_none job line_of compiled.job_is (after program run).gone are_gone none i
      (omega (arith, procs, low))

  keeps_job : KeepsAll program run → NoneGone job
  keeps_job keeps =
      let procs = procs_are program job compiled.made in
      none_gone job line_of compiled.job_is (after program run).gone are_gone
      (λ i low. keeps i (omega (arith, procs, low)))

-- ---- the submission

within_same : (most : Option ℕ) (took other : ℕ) → took ≡ other → KeepsBar most took →
    KeepsBar most other
within_same most took other same = subst (KeepsBar most) same

shared_is : (program : ProgramData) → (program_layout program).shared ≡ shared_cells program.arrays
unfolding program_layout
shared_is program = refl

lawful : (text : List ℕ) (program : ProgramData) → program_of text ≡ Ok program →
    IsProgram program
lawful text program reads = subst (λ (r : Result ProgramData PardoFault). IfOk r IsProgram) reads
    (programs_are_lawful text)

nested : (text : List ℕ) (program : ProgramData) → program_of text ≡ Ok program →
    IsNested program.lines
nested text program reads = subst (λ (r : Result ProgramData PardoFault).
    IfOk r (λ (p : ProgramData). IsNested p.lines)) reads (programs_are_nested text)

module _ (trial : TrialData) (submission : List ℕ) (met : Meets trial submission) where
  abbrev program : ProgramData
  program = met.program

  is_lawful : IsProgram program
  is_lawful = lawful (judged_text trial.header submission) program met.ends.reads

  is_nested : IsNested program.lines
  is_nested = nested (judged_text trial.header submission) program met.ends.reads

  answer : IsAnswerOf program (Final met.cells)
  answer = answers_are_the_programs program met.job met.line_of is_lawful is_nested
      met.ends.compiled (Final met.cells) met.ends.ends

  abbrev run : ℕ
  run = answer.0

  all_lines : AreAllLines program run
  all_lines = inl answer.1

  cells_same : (cell : ℕ) → cell < 0 + shared_cells program.arrays →
      (after program run).cells cell ≡ slice_index met.cells cell
  cells_same cell low =
      let e = shared_is program in sym (answer.2 cell (omega (arith, e, low)))

  solved : Solves trial submission
  solved = record {
    given = met.given;
    program = program;
    reads = met.ends.reads;
    run = run;
    ends = answer.1;
    values = λ k want lt. held_same (after program run).cells (slice_index met.cells) _
        program.arrays 0 is_lawful.arrays cells_same ∙ met.values k want lt;
    there = λ stays. keeps_all program met.job met.line_of is_lawful is_nested met.ends.compiled run
        answer.1 (met.there stays);
    time = within_same trial.time _ _ (time_is program met.job met.line_of is_lawful is_nested
        met.ends.compiled run all_lines) met.time;
    operations = within_same trial.operations _ _ (operations_are program met.job met.line_of
        is_lawful is_nested met.ends.compiled run all_lines) met.operations;
    lines = met.lines;
    job = met.job;
    line_of = met.line_of;
    compiled = met.ends.compiled;
    steps = met.steps;
    model = met.model;
  }

pub what_is_met_is_solved : WhatIsMetIsSolved
what_is_met_is_solved trial submission met = solved trial submission met

-- ---- and the other way

module _ (trial : TrialData) (submission : List ℕ) (it : Solves trial submission) where
  abbrev its : ProgramData
  its = it.program

  its_lawful : IsProgram its
  its_lawful = lawful (judged_text trial.header submission) its it.reads

  its_nested : IsNested its.lines
  its_nested = nested (judged_text trial.header submission) its it.reads

  its_lines : AreAllLines its it.run
  its_lines = inl it.ends

  -- its job ends with the cells of its end
  met_with : (cells : List ℕ) → IsAnswer it.job (Final cells) → IsAnswerOf its (Final cells) →
      Meets trial submission
  met_with cells answers (n, over, same) =
      let once : n ≡ it.run = (runs_end_once its n it.run None None over it.ends).0 in
      let held : (cell : ℕ) → cell < 0 + shared_cells its.arrays →
      slice_index cells cell ≡ (after its it.run).cells cell = λ cell low.
      let e = shared_is its in same cell (omega (arith, e, low))
      ∙ ap (λ (m : ℕ). (after its m).cells cell) once in record {
        given = it.given;
        program = its;
        job = it.job;
        line_of = it.line_of;
        cells = cells;
        ends = record {
          reads = it.reads;
          compiled = it.compiled;
          ends = answers;
        };
        values = λ k want lt. held_same (slice_index cells) (after its it.run).cells _
            its.arrays 0 its_lawful.arrays held ∙ it.values k want lt;
        there = λ stays. keeps_job its it.job it.line_of its_lawful its_nested it.compiled it.run
            it.ends (it.there stays);
        time = within_same trial.time _ _ (sym (time_is its it.job it.line_of its_lawful its_nested
            it.compiled it.run its_lines)) it.time;
        operations = within_same trial.operations _ _ (sym (operations_are its it.job it.line_of
            its_lawful its_nested it.compiled it.run its_lines)) it.operations;
        steps = it.steps;
        lines = it.lines;
        model = it.model;
      }

  met_by : (answer : RunAnswer) → IsAnswer it.job answer → IsAnswerOf its answer →
      Meets trial submission
  met_by (Final cells) answers of = met_with cells answers of
  met_by (Conflict fault) answers (n, conflict) =
      let dispute : Dispute = record {
        cell = fault.cell;
        first = fault.first;
        second = fault.second;
      } in
      let once : Some dispute ≡ None =
      (runs_end_once its n it.run (Some dispute) None conflict it.ends).1 in absurd (cc)
  met_by (Unfinished step) answers of = absurd of

  is_met : Meets trial submission
  is_met =
      let found = has_answer it.job in met_by found.0 found.1
      (answers_are_the_programs its it.job it.line_of its_lawful its_nested it.compiled found.0
      found.1)

pub what_is_solved_is_met : WhatIsSolvedIsMet
what_is_solved_is_met trial submission it = is_met trial submission it
