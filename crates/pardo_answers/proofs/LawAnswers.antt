-- What is printed of a job is the answer of the program that it carries.
use Rattle.std.proofs.Common.{◌≡◌, ℕ, zero, suc, ◌+◌, ◌-◌, ◌*◌, ◌/◌, ◌<◌, ◌≤◌, List, [], ◌∷◌, ◌++◌}
use Rattle.std.proofs.Common.{Option, Some, None, codes, decimal, get_or, length, take, refl, sym}
use Rattle.std.proofs.Common.{ap, ap₂, subst, inl, inr, ◌∙◌, arith}
use Rattle.std.specs.List.{flat_map, range_with_len}
use Rattle.std.specs.Prelude.{slice_index}
use Rattle.std.proofs.Math.Nat.{div-mul-le_self, mul-le-mul_right, suc-mul}
use Rattle.std.proofs.lemmas.List.{get_or-take}
use Rattle.std.proofs.lemmas.List.Sums.{sum_by-cons}
use Rattle.std.proofs.lemmas.Bool.{cases_order}
use Rattle.pram_job.specs.Job.{JobData, IsJob}
use Rattle.pram_step.specs.declared.answer.Fault.{Fault}
use Rattle.pram_step.specs.declared.answer.RunAnswer.TheVariants.{Final, Conflict, Unfinished}
use Rattle.pram_machine.specs.Machine.{State, IsStopped, counter, out_of_range}
use Rattle.pram_step.specs.Runs.{IsFault, IsStateAfter, state_after}
use Rattle.pram_step.proofs.LawCounters.{stopped_processor}
use Rattle.pram_step.proofs.LawAnswer.{conflict_ends, one_conflict}
use Rattle.pardo_program.specs.Lawful.{AreArrays}
use Rattle.pardo_program.specs.Program.{ArrayData, ProgramData, shared_cells}
use Rattle.pram_step.specs.declared.answer.Dispute.{Dispute}
use Rattle.pardo_flat.specs.Layouts.{cell_count, program_layout}
use Rattle.pardo_flat.specs.Flat.{flat}
use Rattle.pardo_job.specs.Leaving.{GoneIn, Leaves}
use Rattle.pardo_job.specs.Lines.{job_of}
use Rattle.pardo_job.specs.Meaning.{after}
use Rattle.pardo_job.specs.Printed.{array_lines, conflict_text, end_text, gone_line}
use Rattle.pardo_job.specs.Printed.{lines_of_width, row_line, values_text}
use Rattle.pardo_job.specs.Runs.{IsProgramConflict, IsProgramEnd, line_number}
use Rattle.pardo_job.specs.declared.ended.Lines.{Lines}
use Rattle.pardo_job.specs.Ends.{EndsIn, gone_in}
use Rattle.pardo_answers.specs.Laws.{PrintedAnswersAreThePrograms, IsCarrying}
use Rattle.pardo_answers.specs.Laws.{RecordedAnswersAreThePrograms}
use Rattle.pardo_answers.specs.Records.{array_records, end_records, gone_record, place_record}
use Rattle.pram_step.specs.Runs.{dispute_of}

-- ---- texts that agree where they are told

flat_map-range_same : (f g : ℕ → List ℕ) (a n : ℕ) → ((k : ℕ) → a ≤ k → k < a + n → f k ≡ g k) →
    flat_map f (range_with_len a n) ≡ flat_map g (range_with_len a n)
flat_map-range_same f g a zero same = refl
flat_map-range_same f g a (suc n) same =
    ap₂ (λ (x y : List ℕ). x ++ y) (same a (omega arith) (omega arith))
    (flat_map-range_same f g (a + 1) n (λ k least most. same k (omega arith) (omega arith)))

values_same : (cells other : ℕ → ℕ) (first count : ℕ) →
    ((k : ℕ) → k < first + count → cells k ≡ other k) →
    values_text cells first count ≡ values_text other first count
values_same cells other first count same =
    flat_map-range_same (λ cell. codes " " ++ decimal (cells cell))
    (λ cell. codes " " ++ decimal (other cell)) first count
    (λ k least most. ap (λ (v : ℕ). codes " " ++ decimal v) (same k most))

-- whole rows lie in the array
row_within : (row width len : ℕ) → row < len / width → row * width + width ≤ len
row_within row width len lt =
    let up : suc row ≤ len / width = omega (arith, lt) in
    omega (arith, mul-le-mul_right width up, suc-mul row width, div-mul-le_self len width)

lines_same : (cells other : ℕ → ℕ) (array : ArrayData) →
    ((k : ℕ) → k < array.base + length array.start → cells k ≡ other k) →
    array_lines cells array ≡ array_lines other array
lines_same cells other array same = by_width array.width
  where
    by_width : (width : Option ℕ) →
        lines_of_width cells array width ≡ lines_of_width other array width
    by_width None = ap (λ (v : List ℕ). array.name ++ codes " =" ++ v ++ codes "\n")
        (values_same cells other array.base (length array.start) same)
    by_width (Some width) =
        flat_map-range_same (row_line cells array width) (row_line other array width) 0
        (length array.start / width) (λ row least most.
        let fits = row_within row width (length array.start) (omega (arith, most)) in
        ap (λ (v : List ℕ).
        array.name ++ codes "[" ++ decimal row ++ codes "] =" ++ v ++ codes "\n")
        (values_same cells other (array.base + row * width) width
        (λ k low. same k (omega (arith, fits, low)))))

-- arrays by cells that hold the same
arrays_same : (cells other : ℕ → ℕ) (arrays : List ArrayData) (base : ℕ) → AreArrays arrays base →
    ((cell : ℕ) → cell < base + shared_cells arrays → cells cell ≡ other cell) →
    flat_map (array_lines cells) arrays ≡ flat_map (array_lines other) arrays
arrays_same cells other [] base are same = refl
arrays_same cells other (array ∷ arrays) base are same =
    let whole : shared_cells (array ∷ arrays) ≡ length array.start + shared_cells arrays =
    sum_by-cons (λ (x : ArrayData). length x.start) array arrays in
    let base_is = are.0 in
    ap₂ (λ (x y : List ℕ). x ++ y)
    (lines_same cells other array (λ k low. same k (omega (arith, low, whole, base_is))))
    (arrays_same cells other arrays (base + length array.start) are.3
    (λ cell low. same cell (omega (arith, whole))))

arrays_recorded : (cells other : ℕ → ℕ) (arrays : List ArrayData) (base : ℕ) →
    AreArrays arrays base →
    ((cell : ℕ) → cell < base + shared_cells arrays → cells cell ≡ other cell) →
    flat_map (array_records cells) arrays ≡ flat_map (array_records other) arrays
arrays_recorded cells other [] base are same = refl
arrays_recorded cells other (array ∷ arrays) base are same =
    let whole : shared_cells (array ∷ arrays) ≡ length array.start + shared_cells arrays =
    sum_by-cons (λ (x : ArrayData). length x.start) array arrays in
    let base_is = are.0 in
    let places : array_records cells array ≡ array_records other array =
    flat_map-range_same (λ k. place_record array k (cells (array.base + k)))
    (λ k. place_record array k (other (array.base + k))) 0 (length array.start)
    (λ k least most. ap (place_record array k)
    (same (array.base + k) (omega (arith, whole, base_is)))) in
    ap₂ (λ (x y : List ℕ). x ++ y) places
    (arrays_recorded cells other arrays (base + length array.start) are.3
    (λ cell low. same cell (omega (arith, whole))))

-- ---- lines in which processors leave

module _ (job : JobData) (line_of : ℕ → ℕ) (is_job : IsJob job) (i : ℕ)
    (within : i < job.procs) where
  -- once gone, for good
  gone_on : (t later : ℕ) → t ≤ later → counter job (state_after job t) i ≡ out_of_range job →
      counter job (state_after job later) i ≡ out_of_range job
  gone_on t later le gone =
      let e : t + (later - t) ≡ later = omega arith in
      let past : IsStopped job (state_after job t) i = omega (arith, gone) in
      subst (λ (n : ℕ). counter job (state_after job n) i ≡ out_of_range job) e
      ((stopped_processor job t (later - t) i is_job within past).0 ∙ gone)

  -- one leaves once
  one_step : (t number other : ℕ) (a : Leaves job line_of t i number)
      (b : Leaves job line_of t i other) → a.before < b.before → ⊥
  one_step t number other a b earlier =
      b.was_there (gone_on (a.before + 1) b.before (omega arith) a.is_gone)

  pub one_line : (t : ℕ) (line other : Option ℕ) → GoneIn job line_of t i line →
      GoneIn job line_of t i other → line ≡ other
  one_line t None None there too = refl
  one_line t None (Some other) there leaves =
      let within_t = leaves.within in
      absurd (there (gone_on (leaves.before + 1) t (omega arith) leaves.is_gone))
  one_line t (Some number) None leaves there =
      let within_t = leaves.within in
      absurd (there (gone_on (leaves.before + 1) t (omega arith) leaves.is_gone))
  one_line t (Some number) (Some other) a b = elim (cases_order a.before b.before) [
    | inl same ↦ ap Some (sym a.comes
        ∙ ap (λ (n : ℕ). line_of (counter job (state_after job n) i)) same ∙ b.comes)
    | inr (inl lt) ↦ absurd (one_step t number other a b lt)
    | inr (inr gt) ↦ absurd (one_step t other number b a gt)
  ]

-- ---- both ends

shared_is : (program : ProgramData) → (program_layout program).shared ≡ shared_cells program.arrays
unfolding program_layout
shared_is program = refl

-- the job has the shared cells
shared_fits : (program : ProgramData) (job : JobData) → job ≡ job_of (flat program) job.steps →
    (program_layout program).shared ≤ job.cells
unfolding job_of
shared_fits program job made =
    let cells : job.cells ≡ cell_count (program_layout (flat program)) =
    ap (λ (j : JobData). j.cells) made in
    let here = shared_is program in
    let flat_here = shared_is (flat program) in omega (arith, cells, here, flat_here)

procs_are : (program : ProgramData) (job : JobData) → job ≡ job_of (flat program) job.steps →
    job.procs ≡ program.procs
unfolding job_of
procs_are program job made = ap (λ (j : JobData). j.procs) made

module _ (program : ProgramData) (job : JobData) (line_of : ℕ → ℕ) (lines : Lines)
    (c : IsCarrying program job line_of) (ends : EndsIn job line_of lines) (n : ℕ) where
  module _ (cells : List ℕ) (state : State) (is_after : IsStateAfter job job.steps state)
      (are : cells ≡ take job.cells state) (is_end : IsProgramEnd program n) where
    -- what the arrays hold
    held_same : (cell : ℕ) → cell < 0 + shared_cells program.arrays →
        slice_index cells cell ≡ (after program n).cells cell
    held_same cell low =
        let shared = shared_is program in
        let fits = shared_fits program job c.made in
        ap (λ (l : List ℕ). get_or l cell 0) are
        ∙ get_or-take job.cells state cell 0 (omega (arith, shared, fits))
        ∙ ap (λ (s : State). get_or s cell 0) is_after.state
        ∙ (c.carries.ends n is_end).0.cells cell (omega (arith, shared))

    -- who is gone
    left_same : (i : ℕ) → i < 0 + program.procs →
        gone_in lines.gone.items i ≡ (after program n).gone i
    left_same i low =
        let procs = procs_are program job c.made in
        one_line job line_of c.carries.job_is i (omega (arith, procs)) job.steps _ _
        (ends.gone is_after.reached i (omega (arith, procs)))
        ((c.carries.ends n is_end).0.gone i (omega arith))

    -- the text of the end
    end_same : end_text program job.steps (slice_index cells) (gone_in lines.gone.items)
        ≡ end_text program job.steps (after program n).cells (after program n).gone
    end_same =
        ap₂ (λ (x y : List ℕ). codes "done steps=" ++ decimal job.steps ++ codes "\n" ++ x ++ y)
        (arrays_same (slice_index cells) (after program n).cells program.arrays 0 c.lawful.arrays
        held_same)
        (flat_map-range_same (λ i. gone_line i (gone_in lines.gone.items i))
        (λ i. gone_line i ((after program n).gone i)) 0 program.procs
        (λ i least low. ap (gone_line i) (left_same i low)))

    -- and its records
    records_same : end_records program (slice_index cells) (gone_in lines.gone.items)
        ≡ end_records program (after program n).cells (after program n).gone
    records_same =
        ap₂ (λ (x y : List ℕ). codes "name,index,value\n" ++ x ++ y)
        (arrays_recorded (slice_index cells) (after program n).cells program.arrays 0
        c.lawful.arrays held_same)
        (flat_map-range_same (λ i. gone_record i (gone_in lines.gone.items i))
        (λ i. gone_record i ((after program n).gone i)) 0 program.procs
        (λ i least low. ap (gone_record i) (left_same i low)))

  -- and that of a conflict
  conflict_same : (fault : Fault) (dispute : Dispute) → IsFault job fault →
      IsProgramConflict program n dispute →
      conflict_text program lines.disputed (dispute_of fault)
      ≡ conflict_text program (line_number program (after program n)) dispute
  conflict_same fault dispute is conflict =
      let d = c.carries.disputes n dispute conflict in
      let here = ends.disputed fault is in
      let same = one_conflict job fault _ is.first d.3.first in
      let step : fault.step ≡ d.0 + 1 = ap (λ (f : Fault). f.step) same in
      let first : fault.first ≡ dispute.first = ap (λ (f : Fault). f.first) same in
      let before : here.before ≡ d.0 = omega (arith, here.step, step) in
      let line : lines.disputed ≡ line_number program (after program n) = sym here.comes
      ∙ ap₂ (λ (t i : ℕ). line_of (counter job (state_after job t) i)) before first ∙ d.4 in
      ap₂ (conflict_text program) line (ap dispute_of same)

pub printed_answers_are_the_programs : PrintedAnswersAreThePrograms
printed_answers_are_the_programs program job line_of (Final cells) lines c is ends =
    elim c.carries.over.1 [
      | inl is_end ↦ inl (
        c.carries.over.0,
        is_end,
        end_same program job line_of lines c ends c.carries.over.0 cells is.0 is.1 is.2 is_end,
      )
      | inr (dispute, conflict) ↦
          let d = c.carries.disputes c.carries.over.0 dispute conflict in
          absurd (conflict_ends job _ job.steps d.3.first d.3.within is.1.reached)
    ]
printed_answers_are_the_programs program job line_of (Conflict fault) lines c is ends =
    elim c.carries.over.1 [
      | inl is_end ↦ absurd (conflict_ends job fault job.steps is.first is.within
          (c.carries.ends c.carries.over.0 is_end).0.reached)
      | inr (dispute, conflict) ↦ inr (
        c.carries.over.0,
        dispute,
        conflict,
        conflict_same program job line_of lines c ends c.carries.over.0 fault dispute is conflict,
      )
    ]
printed_answers_are_the_programs program job line_of (Unfinished step) lines c is ends = absurd is

pub recorded_answers_are_the_programs : RecordedAnswersAreThePrograms
recorded_answers_are_the_programs program job line_of (Final cells) lines c is ends =
    elim c.carries.over.1 [
      | inl is_end ↦ inl (
        c.carries.over.0,
        is_end,
        records_same program job line_of lines c ends c.carries.over.0 cells is.0 is.1 is.2 is_end,
      )
      | inr (dispute, conflict) ↦
          let d = c.carries.disputes c.carries.over.0 dispute conflict in
          absurd (conflict_ends job _ job.steps d.3.first d.3.within is.1.reached)
    ]
recorded_answers_are_the_programs program job line_of (Conflict fault) lines c is ends =
    elim (printed_answers_are_the_programs program job line_of (Conflict fault) lines c is ends) [
      | inl ended ↦ absurd (conflict_ends job fault job.steps is.first is.within
          (c.carries.ends ended.0 ended.1).0.reached)
      | inr conflict ↦ inr conflict
    ]
recorded_answers_are_the_programs program job line_of (Unfinished step) lines c is ends = absurd is
